-- The expansion of a text: its lines are done one after another, and behind a line what it asks for.
-- This project's own.
use Rattle.std.specs.Prelude.{ℕ, zero, suc, ◌+◌, Bool, true, false, List, [], ◌∷◌, take, map, slice_get, Option, Some, None, Result, Ok, Err}
use Rattle.qpu_token.specs.declared.token.Token.{Token}
use Rattle.qpu_token.specs.declared.fault.AsmFault.{AsmFault}
use Rattle.qpu_expr.specs.declared.limits.TheConstants.{MOST_DEPTH}
use Rattle.qpu_expr.specs.declared.place.Place.{Place}
use Rattle.qpu_expr.specs.declared.expanded.LabelAt.{LabelAt}
use Rattle.qpu_expr.specs.declared.deed.Act.{Act}
use Rattle.qpu_expr.specs.declared.deed.Act.TheVariants as act
use Rattle.qpu_expr.specs.LineTokens.{LineTokens}
use Rattle.qpu_expr.specs.Lines.{lines_of}
use Rattle.qpu_expr.specs.StageParts.{Stage}
use Rattle.qpu_expr.specs.Stage.{first_stage, turn_counted}
use Rattle.qpu_expr.specs.Deeds.{line_does, closes}

-- what lines lead to: a stage, or the first fault
abbrev pub RunResult : Type 0
RunResult = Result Stage AsmFault

-- the first fault ends it
abbrev pub then : {A B : Type 0} → Result A AsmFault → (A → Result B AsmFault) → Result B AsmFault
then (Ok a) next = next a
then (Err fault) next = Err fault

-- a body so many times; each turn counts before its body
abbrev pub turns : (Stage → RunResult) → Place → ℕ → Stage → RunResult
turns run place zero s = Ok s
turns run place (suc n) s = then (turn_counted place s) (λ s. then (run s) (turns run place n))

-- the line that closes a body is reached behind it
abbrev pub closed : List ℕ → Option LineTokens → Stage → RunResult
closed text None s = Ok s
closed text (Some line) s = then (closes text line s) (λ p. Ok p.1)

-- what a line asks for; `run` runs lines that are nested by one more
abbrev pub performed : List ℕ → (List LineTokens → Stage → RunResult) → Act → List LineTokens → Stage → RunResult
performed text run act.Nothing behind s = Ok s
performed text run (act.Repeats n place lines) behind s = then (turns (run (take lines behind)) place n s) (closed text (slice_get behind lines))
performed text run (act.Passes lines) behind s = closed text (slice_get behind lines) s
performed text run (act.Calls body) behind s = run body s

-- how many lines behind a line are done with it: its body and what closes that
abbrev pub taken : Act → ℕ
taken act.Nothing = 0
taken (act.Repeats n place lines) = lines + 1
taken (act.Passes lines) = lines + 1
taken (act.Calls body) = 0

-- lines in order, of which the first ones are done already
abbrev pub lines_run : List ℕ → (List LineTokens → Stage → RunResult) → Bool → ℕ → List LineTokens → Stage → RunResult
lines_run text run deepest skip [] s = Ok s
lines_run text run deepest (suc skip) (line ∷ lines) s = lines_run text run deepest skip lines s
lines_run text run deepest zero (line ∷ lines) s =
    then (line_does text deepest line lines s) (λ p. then (performed text run p.0 lines p.1) (lines_run text run deepest (taken p.0) lines))

-- nothing more may be nested
abbrev pub nothing_run : List LineTokens → Stage → RunResult
nothing_run lines s = Ok s

-- lines in which so many macros and repeats may stand one in another
abbrev pub run_within : List ℕ → ℕ → List LineTokens → Stage → RunResult
run_within text zero lines s = lines_run text nothing_run true 0 lines s
run_within text (suc depth) lines s = lines_run text (run_within text depth) false 0 lines s

-- what is left of a text

pub record Left : Type 0 where
  pub lines : List (List Token)
  pub labels : List LabelAt

abbrev pub left_of : Stage → Left
left_of s = record { lines = s.lines; labels = map (λ e. e.1) s.labels }

unfoldable pub expansion : List ℕ → List Token → Result Left AsmFault
expansion text tokens = then (run_within text MOST_DEPTH (lines_of text tokens) first_stage) (λ s. Ok (left_of s))
