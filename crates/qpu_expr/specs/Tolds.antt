-- What a line with more tokens than a text may reach finds of the kinds up to that of the limit, by its
-- first tokens behind its label and by walks over the tokens behind them. This project's own.
use Rattle.std.specs.Prelude.{ℕ, ◌+◌, ◌&&◌, Bool, true, false, List, [], ◌∷◌, drop, is_some, if◌then◌else◌}
use Rattle.qpu_token.specs.declared.token.Token.{Token}
use Rattle.qpu_token.specs.Tokens.{text_of}
use Rattle.qpu_expr.specs.declared.place.Place.{Place}
use Rattle.qpu_expr.specs.declared.line.Head.{Head}
use Rattle.qpu_expr.specs.declared.line.Head.TheVariants as head
use Rattle.qpu_expr.specs.declared.line.Pair.TheVariants.{Repeat, Macro}
use Rattle.qpu_expr.specs.declared.told.Told.{Told}
use Rattle.qpu_expr.specs.Symbols.{place_of}
use Rattle.qpu_expr.specs.Settings.{Sets, expression, is_whole}
use Rattle.qpu_expr.specs.Tables.{found}
use Rattle.qpu_expr.specs.Operands.{is_name, instruction_work}
use Rattle.qpu_expr.specs.Macros.{is_comma, names_of, Macros, called}
use Rattle.qpu_expr.specs.StageParts.{Stage}
use Rattle.qpu_expr.specs.Findings.{no_findings, place_in, place_when}
use Rattle.qpu_expr.specs.Directives.{names_twice}
use Rattle.qpu_expr.specs.LineTokens.{LineTokens}
use Rattle.qpu_expr.specs.Lines.{label_of, behind_label, head_of}

-- how many tokens a line's label has
abbrev pub label_length : List ℕ → List Token → ℕ
label_length text tokens = if is_some (label_of text tokens) then 2 else 0

abbrev pub nothing_told : Told
nothing_told = record { word = false; findings = no_findings }

abbrev pub left_told : Told
left_told = record { word = true; findings = no_findings }

abbrev pub set_to_told : Bool → Token → Place → Bool → Bool → Told
set_to_told twice name first whole unknown =
    if whole
    then record { word = false; findings = record no_findings { unknown = place_when unknown first; twice = place_when twice (place_of name) } }
    else left_told

-- `.set`, and the tokens behind the sign `,`
abbrev pub set_told : List ℕ → Sets → Token → List Token → List Token → Told
set_told text sets end front value = by_tokens (drop 2 front)
  where
    by_tokens : List Token → Told
    by_tokens [] = left_told
    by_tokens (name ∷ []) = left_told
    by_tokens (name ∷ comma ∷ rest) =
        if is_name text name && is_comma text comma
        then set_to_told (is_some (found (text_of text name) sets)) name (place_in end rest) (is_whole (expression text sets value).outcome) (expression text sets value).unknown
        else left_told

-- `.rep`, and the tokens of its expression
abbrev pub repeat_told : List ℕ → Sets → Bool → Token → List Token → List Token → Told
repeat_told text sets deepest end front count = record {
  word = false;
  findings = record no_findings {
    unknown = place_when (is_whole (expression text sets count).outcome && (expression text sets count).unknown) (place_in end (drop 2 front));
    deep = place_when deepest (place_in end front);
  };
}

-- `.macro`, by the tokens behind it
abbrev pub macro_told : List ℕ → Macros → List Token → Told
macro_told text macros names = record { word = false; findings = record no_findings { twice = names_twice text macros (names_of text names).names } }

-- parts, by all their tokens
abbrev pub parts_told : List ℕ → Sets → List Token → Told
parts_told text sets tokens = record { word = true; findings = record no_findings { unknown = (instruction_work text sets tokens).unknown } }

abbrev pub call_told : Bool → Token → List Token → Told
call_told deepest end front = record { word = false; findings = record no_findings { deep = place_when deepest (place_in end front) } }

abbrev pub text_told : List ℕ → Stage → Bool → Token → List Token → List Token → Told
text_told text s deepest end front tokens =
    if is_some (called text s.macros front) then call_told deepest end front else parts_told text s.sets tokens

-- a line by what it begins with; its label has so many tokens
abbrev pub told_by : List ℕ → Stage → Bool → Token → List Token → ℕ → List Token → Head → Told
told_by text s deepest end front at tokens head.Nothing = nothing_told
told_by text s deepest end front at tokens head.Set = set_told text s.sets end front (drop (at + 4) tokens)
told_by text s deepest end front at tokens (head.Opens Repeat) = repeat_told text s.sets deepest end front (drop (at + 2) tokens)
told_by text s deepest end front at tokens (head.Opens Macro) = macro_told text s.macros (drop (at + 2) tokens)
told_by text s deepest end front at tokens (head.Closes pair) = nothing_told
told_by text s deepest end front at tokens head.Word = left_told
told_by text s deepest end front at tokens head.Other = parts_told text s.sets (drop at tokens)
told_by text s deepest end front at tokens head.Instruction = text_told text s deepest end front (drop at tokens)

-- a long line by its first tokens, and by all of them
abbrev pub told_of : List ℕ → Stage → Bool → LineTokens → LineTokens → Told
told_of text s deepest first line =
    told_by text s deepest line.end (behind_label text first.tokens) (label_length text first.tokens) line.tokens (head_of text (behind_label text first.tokens))
