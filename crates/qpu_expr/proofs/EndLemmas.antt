-- The lines of a text end with line ends, and so do those that a line leaves, calls or defines.
use Rattle.std.proofs.Common.{◌≡◌, ℕ, ◌++◌, Bool, true, false, List, [], ◌∷◌, take, drop, Option, Some, None, refl}
use Rattle.std.specs.Prelude.{◌&&◌, fold, All, IfSome, is_some, unwrap_or, nat_eq, if◌then◌else◌}
use Rattle.std.specs.Cmp.Lexicographic.{pointwise}
use Rattle.std.proofs.lemmas.List.Elements.{All-nil, All-head, All-tail, All-push, All-take, All-map}
use Rattle.qpu_token.specs.declared.token.Token.{Token}
use Rattle.qpu_token.specs.declared.token.TokenKind.{TokenKind}
use Rattle.qpu_token.specs.declared.token.TokenKind.TheVariants as kind
use Rattle.qpu_token.specs.Tokens.{text_of}
use Rattle.qpu_expr.specs.declared.place.Place.{Place}
use Rattle.qpu_expr.specs.declared.line.Head.{Head}
use Rattle.qpu_expr.specs.declared.line.Head.TheVariants as head
use Rattle.qpu_expr.specs.declared.line.Pair.TheVariants.{Repeat, Macro}
use Rattle.qpu_expr.specs.declared.setting.Expression.{Expression}
use Rattle.qpu_expr.specs.declared.state.Change.{Change}
use Rattle.qpu_expr.specs.declared.state.Change.TheVariants as change
use Rattle.qpu_expr.specs.declared.deed.Deed.{Deed}
use Rattle.qpu_expr.specs.Symbols.{symbol_of}
use Rattle.qpu_expr.specs.Settings.{Sets, expression, is_whole}
use Rattle.qpu_expr.specs.Tables.{found}
use Rattle.qpu_expr.specs.Operands.{is_name, instruction_work}
use Rattle.qpu_expr.specs.LineTokens.{LineTokens}
use Rattle.qpu_expr.specs.Lines.{moved_to, Lining, no_line, ends, lined, lines_of, body_length, left_tokens}
use Rattle.qpu_expr.specs.MacroTokens.{MacroTokens}
use Rattle.qpu_expr.specs.Macros.{Macros, is_comma, names_of, arguments_of, line_replaced, body_replaced, called}
use Rattle.qpu_expr.specs.StageParts.{Stage}
use Rattle.qpu_expr.specs.Findings.{place_in, left_deed}
use Rattle.qpu_expr.specs.Directives.{set_to, set_deed, repeat_deed, defined, macro_deed}
use Rattle.qpu_expr.specs.Calls.{call_deed, instruction_deed, other_deed, text_deed}
use Rattle.qpu_expr.specs.Deeds.{deed_by}
use Rattle.qpu_expr.specs.Ended.{IsEnded}
use Rattle.qpu_expr.proofs.KeepLemmas.{Runs}

abbrev pub HasEnd : LineTokens → Type 0
HasEnd line = line.end.kind ≡ kind.LineEnd

-- lines of a text

end_kind : (text : List ℕ) (token : Token) → ends (symbol_of text token) ≡ true → token.kind ≡ kind.LineEnd
unfolding symbol_of
end_kind text token is = by_kind token.kind refl
  where
    by_kind : (k : TokenKind) → token.kind ≡ k → token.kind ≡ kind.LineEnd
    by_kind kind.Name e = let no = rw e at is in cc
    by_kind (kind.Number value) e = let no = rw e at is in cc
    by_kind kind.Punct e = let no = rw e at is in cc
    by_kind kind.LineEnd e = e

moved_end : (end : Token) (last : Option Token) → end.kind ≡ kind.LineEnd → (moved_to end last).kind ≡ kind.LineEnd
moved_end end None e = e
moved_end end (Some last) e = e

abbrev LinesEnd : Lining → Type 0
LinesEnd l = All HasEnd l.lines

line_ends : (text : List ℕ) (l : Lining) (token : Token) → LinesEnd l → LinesEnd (lined text l token)
line_ends text l token all = by_end (ends (symbol_of text token)) refl
  where
    by_end : (b : Bool) → ends (symbol_of text token) ≡ b → LinesEnd (if b then record { lines = l.lines ++ record { tokens = l.tokens; end = moved_to token l.last } ∷ []; tokens = []; last = None } else record { lines = l.lines; tokens = l.tokens ++ token ∷ []; last = Some token })
    by_end true e = All-push HasEnd l.lines (record { tokens = l.tokens; end = moved_to token l.last }) all (moved_end token l.last (end_kind text token e))
    by_end false e = all

all_end : (text : List ℕ) (tokens : List Token) (l : Lining) → LinesEnd l → LinesEnd (fold (lined text) l tokens)
all_end text [] l all = all
all_end text (token ∷ tokens) l all = all_end text tokens (lined text l token) (line_ends text l token all)

pub lines_end : (text : List ℕ) (tokens : List Token) → All HasEnd (lines_of text tokens)
unfolding lines_of
lines_end text tokens = all_end text tokens no_line (All-nil HasEnd)

-- macros

abbrev pub BodyEnds : List ℕ × MacroTokens → Type 0
BodyEnds e = All HasEnd e.1.body

found_ends : (name : List ℕ) (macros : Macros) → All BodyEnds macros → IfSome (found name macros) (λ m. All HasEnd m.body)
found_ends name [] all = tt
found_ends name (e ∷ macros) all = by_name (pointwise nat_eq name e.0) (found_ends name macros (All-tail BodyEnds e macros all))
  where
    by_name : (b : Bool) → IfSome (found name macros) (λ m. All HasEnd m.body) → IfSome (if b then Some e.1 else found name macros) (λ m. All HasEnd m.body)
    by_name true rest = All-head BodyEnds e macros all
    by_name false rest = rest

called_ends : (text : List ℕ) (macros : Macros) (line : List Token) → All BodyEnds macros → IfSome (called text macros line) (λ m. All HasEnd m.body)
called_ends text macros [] all = tt
called_ends text macros (first ∷ rest) all = by_name (is_name text first)
  where
    by_name : (b : Bool) → IfSome (if b then found (text_of text first) macros else None) (λ m. All HasEnd m.body)
    by_name true = found_ends (text_of text first) macros all
    by_name false = tt

replaced_ends : (text : List ℕ) (parameters : List Token) (arguments : List (List Token)) (body : List LineTokens) → All HasEnd body → All HasEnd (body_replaced text parameters arguments body)
unfolding body_replaced
replaced_ends text parameters arguments body all = All-map HasEnd (line_replaced text parameters arguments) body all

-- deeds

-- what is left or defined ends with line ends
abbrev pub Ends : Change → Type 0
Ends change.Nothing = Unit {0}
Ends (change.Sets setting) = Unit {0}
Ends (change.Defines m) = All HasEnd m.body
Ends (change.Leaves line) = IsEnded line

pub record DeedEnds (d : Deed) : Type 0 where
  pub act : Runs HasEnd d.act
  pub change : Ends d.change

either_ends : (b : Bool) (x y : Deed) → DeedEnds x → DeedEnds y → DeedEnds (if b then x else y)
either_ends true x y first second = first
either_ends false x y first second = second

with_end : (tokens : List Token) (end : Token) → end.kind ≡ kind.LineEnd → IsEnded (tokens ++ end ∷ [])
with_end tokens end e = record { tokens = tokens; end = end; same = refl; ends = e }

left_ends : (end : Token) (line : List Token) → end.kind ≡ kind.LineEnd → DeedEnds (left_deed end line)
left_ends end line e = record { act = tt; change = with_end line end e }

set_to_ends : (end : Token) (line : List Token) (twice : Bool) (name : Token) (first : Place) (e : Expression) → end.kind ≡ kind.LineEnd → DeedEnds (set_to end line twice name first e)
set_to_ends end line twice name first e is_end = either_ends (is_whole e.outcome) _ (left_deed end line) (record { act = tt; change = tt }) (left_ends end line is_end)

set_ends : (text : List ℕ) (sets : Sets) (end : Token) (line : List Token) → end.kind ≡ kind.LineEnd → DeedEnds (set_deed text sets end line)
unfolding set_deed
set_ends text sets end line e = by_tokens (drop 2 line) refl
  where
    by_tokens : (rest : List Token) → drop 2 line ≡ rest → DeedEnds (set_deed text sets end line)
    by_tokens [] is = rw is (left_ends end line e)
    by_tokens (name ∷ []) is = rw is (left_ends end line e)
    by_tokens (name ∷ comma ∷ value) is =
        let twice : Bool = is_some (found (text_of text name) sets) in
        let to : Expression = expression text sets value in
        rw is
        (either_ends (is_name text name && is_comma text comma) (set_to end line twice name (place_in end value) to) (left_deed end line)
        (set_to_ends end line twice name (place_in end value) to e) (left_ends end line e))

repeat_ends : (text : List ℕ) (sets : Sets) (deepest : Bool) (end : Token) (line : List Token) (behind : List LineTokens) → DeedEnds (repeat_deed text sets deepest end line behind)
unfolding repeat_deed
repeat_ends text sets deepest end line behind = record { act = tt; change = tt }

defined_ends : (names : List Token) (body : List LineTokens) → All HasEnd body → Ends (defined names body)
defined_ends [] body all = tt
defined_ends (name ∷ parameters) body all = all

macro_ends : (text : List ℕ) (macros : Macros) (end : Token) (line : List Token) (behind : List LineTokens) → All HasEnd behind → DeedEnds (macro_deed text macros end line behind)
unfolding macro_deed
macro_ends text macros end line behind all = record {
  act = tt;
  change = defined_ends (names_of text (drop 2 line)).names (take (unwrap_or (body_length Macro text 0 behind) 0) behind) (All-take HasEnd (unwrap_or (body_length Macro text 0 behind) 0) behind all);
}

call_ends : (text : List ℕ) (deepest : Bool) (end : Token) (line : List Token) (m : MacroTokens) → All HasEnd m.body → DeedEnds (call_deed text deepest end line m)
unfolding call_deed
call_ends text deepest end line m all = record { act = replaced_ends text m.parameters (arguments_of text (drop 1 line)) m.body all; change = tt }

instruction_ends : (text : List ℕ) (sets : Sets) (end : Token) (line : List Token) → end.kind ≡ kind.LineEnd → DeedEnds (instruction_deed text sets end line)
unfolding instruction_deed
instruction_ends text sets end line e = record { act = tt; change = with_end (instruction_work text sets line).tokens end e }

other_ends : (text : List ℕ) (sets : Sets) (end : Token) (left line : List Token) → end.kind ≡ kind.LineEnd → DeedEnds (other_deed text sets end left line)
unfolding other_deed
other_ends text sets end left line e = record { act = tt; change = with_end left end e }

text_ends : (text : List ℕ) (s : Stage) (deepest : Bool) (end : Token) (line : List Token) → end.kind ≡ kind.LineEnd → All BodyEnds s.macros → DeedEnds (text_deed text s deepest end line)
unfolding text_deed
text_ends text s deepest end line e all = by_macro (called text s.macros line) refl (called_ends text s.macros line all)
  where
    by_macro : (m : Option MacroTokens) → called text s.macros line ≡ m → IfSome m (λ m. All HasEnd m.body) → DeedEnds (text_deed text s deepest end line)
    by_macro None is body = rw is (instruction_ends text s.sets end line e)
    by_macro (Some m) is body = rw is (call_ends text deepest end line m body)

pub deed_ends : (text : List ℕ) (s : Stage) (deepest : Bool) (end : Token) (whole line : List Token) (behind : List LineTokens) (h : Head) → end.kind ≡ kind.LineEnd → All HasEnd behind → All BodyEnds s.macros → DeedEnds (deed_by text s deepest end whole line behind h)
deed_ends text s deepest end whole line behind head.Nothing e all macros = record { act = tt; change = tt }
deed_ends text s deepest end whole line behind head.Set e all macros = set_ends text s.sets end line e
deed_ends text s deepest end whole line behind (head.Opens Repeat) e all macros = repeat_ends text s.sets deepest end line behind
deed_ends text s deepest end whole line behind (head.Opens Macro) e all macros = macro_ends text s.macros end line behind all
deed_ends text s deepest end whole line behind (head.Closes pair) e all macros = record { act = tt; change = tt }
deed_ends text s deepest end whole line behind head.Word e all macros = left_ends end line e
deed_ends text s deepest end whole line behind head.Other e all macros = other_ends text s.sets end (left_tokens text whole line) line e
deed_ends text s deepest end whole line behind head.Instruction e all macros = text_ends text s deepest end line e macros
