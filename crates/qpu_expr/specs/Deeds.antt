-- What one line does by itself: its faults, what it changes, and what is run behind it. This project's own.
use Rattle.std.specs.Prelude.{ℕ, Bool, List, [], ◌∷◌, drop, Option, Some, None, option_map, Result, Ok, Err}
use Rattle.std.specs.Option.{option_or}
use Rattle.qpu_token.specs.declared.token.Token.{Token}
use Rattle.qpu_token.specs.declared.fault.AsmFault.{AsmFault}
use Rattle.qpu_token.specs.declared.fault.AsmKind.{AsmKind}
use Rattle.qpu_token.specs.declared.fault.AsmKind.TheVariants as kind
use Rattle.qpu_expr.specs.declared.place.Place.{Place}
use Rattle.qpu_expr.specs.declared.line.Head.{Head}
use Rattle.qpu_expr.specs.declared.line.Head.TheVariants as head
use Rattle.qpu_expr.specs.declared.line.Pair.TheVariants.{Repeat, Macro}
use Rattle.qpu_expr.specs.declared.state.Change.TheVariants as change
use Rattle.qpu_expr.specs.declared.deed.Act.{Act}
use Rattle.qpu_expr.specs.declared.deed.Act.TheVariants as act
use Rattle.qpu_expr.specs.declared.deed.Findings.{Findings}
use Rattle.qpu_expr.specs.declared.deed.Deed.{Deed}
use Rattle.qpu_expr.specs.Symbols.{place_of, fault_at}
use Rattle.qpu_expr.specs.LineTokens.{LineTokens}
use Rattle.qpu_expr.specs.Lines.{label_of, behind_label, left_tokens, head_of}
use Rattle.qpu_expr.specs.StageParts.{Stage}
use Rattle.qpu_expr.specs.Stage.{too_long, tokens_counted, labelled, leaves, changed, label_twice}
use Rattle.qpu_expr.specs.Findings.{no_findings, left_deed}
use Rattle.qpu_expr.specs.Directives.{set_deed, repeat_deed, macro_deed, stray_deed}
use Rattle.qpu_expr.specs.Calls.{other_deed, text_deed}

-- what a line does, by what it begins with behind its label
abbrev pub deed_by : List ℕ → Stage → Bool → Token → List Token → List Token → List LineTokens → Head → Deed
deed_by text s deepest end whole line behind head.Nothing = record { findings = no_findings; change = change.Nothing; act = act.Nothing }
deed_by text s deepest end whole line behind head.Set = set_deed text s.sets end line
deed_by text s deepest end whole line behind (head.Opens Repeat) = repeat_deed text s.sets deepest end line behind
deed_by text s deepest end whole line behind (head.Opens Macro) = macro_deed text s.macros end line behind
deed_by text s deepest end whole line behind (head.Closes pair) = stray_deed end line
deed_by text s deepest end whole line behind head.Word = left_deed end line
deed_by text s deepest end whole line behind head.Other = other_deed text s.sets end (left_tokens text whole line) line
deed_by text s deepest end whole line behind head.Instruction = text_deed text s deepest end line

infixl 10 ◌or◌
abbrev pub ◌or◌ : Option AsmFault → Option AsmFault → Option AsmFault
a or b = option_or a b

abbrev pub fault_in : AsmKind → Option Place → Option AsmFault
fault_in kind place = option_map (fault_at kind) place

-- the fault of a line: the least kind, and in it the leftmost place
abbrev pub least_fault : Option Place → Option Place → Findings → Option AsmFault
least_fault label long f =
    fault_in kind.UnknownName f.unknown
    or fault_in kind.Twice (option_or label f.twice)
    or fault_in kind.TooDeep f.deep
    or fault_in kind.TooLong long
    or fault_in kind.DivideByZero f.zero
    or fault_in kind.Shape f.shape
    or fault_in kind.Range f.range

-- a line by itself: its fault, or what is run behind it and what it has led to
unfoldable pub done_by : List ℕ → LineTokens → Deed → Stage → Result (Act × Stage) AsmFault
done_by text line d s = by_fault (least_fault (label_twice text s.labels (label_of text line.tokens)) (too_long s line (leaves d.change)) d.findings)
  where
    by_fault : Option AsmFault → Result (Act × Stage) AsmFault
    by_fault (Some fault) = Err fault
    by_fault None = Ok (d.act, changed text d.change (labelled text (label_of text line.tokens) (tokens_counted line s)))

unfoldable pub line_does : List ℕ → Bool → LineTokens → List LineTokens → Stage → Result (Act × Stage) AsmFault
line_does text deepest line behind s =
    let rest = behind_label text line.tokens in
    done_by text line (deed_by text s deepest line.end line.tokens rest behind (head_of text rest)) s

-- the line that closes a body: nothing stands behind its word
abbrev pub closing_deed : List Token → Deed
closing_deed line = record { findings = record no_findings { shape = by_tokens (drop 2 line) }; change = change.Nothing; act = act.Nothing }
  where
    by_tokens : List Token → Option Place
    by_tokens [] = None
    by_tokens (token ∷ rest) = Some (place_of token)

unfoldable pub closes : List ℕ → LineTokens → Stage → Result (Act × Stage) AsmFault
closes text line s = done_by text line (closing_deed (behind_label text line.tokens)) s
