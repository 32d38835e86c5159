-- What single lines keep of a stage is kept by all lines of an expansion.
use Rattle.std.proofs.Common.{ℕ, zero, suc, Bool, true, false, List, [], ◌∷◌, take, Option, Some, None, Result, Ok, Err}
use Rattle.std.specs.Prelude.{slice_get, All, IfOk, IfSome}
use Rattle.std.proofs.lemmas.List.Elements.{All-head, All-tail, All-take}
use Rattle.qpu_token.specs.declared.fault.AsmFault.{AsmFault}
use Rattle.qpu_expr.specs.declared.place.Place.{Place}
use Rattle.qpu_expr.specs.declared.deed.Act.{Act}
use Rattle.qpu_expr.specs.declared.deed.Act.TheVariants as act
use Rattle.qpu_expr.specs.LineTokens.{LineTokens}
use Rattle.qpu_expr.specs.StageParts.{Stage}
use Rattle.qpu_expr.specs.Stage.{turn_counted}
use Rattle.qpu_expr.specs.Deeds.{line_does, closes}
use Rattle.qpu_expr.specs.Expansion.{RunResult, then, turns, closed, performed, taken, lines_run, nothing_run, run_within}

-- something holds of the lines that an act brings
abbrev pub Runs : (LineTokens → Type 0) → Act → Type 0
Runs Q act.Nothing = Unit {0}
Runs Q (act.Repeats n place lines) = Unit {0}
Runs Q (act.Passes lines) = Unit {0}
Runs Q (act.Calls body) = All Q body

-- lines of which Q holds keep P of a stage, and bring such lines
pub record Keeps (text : List ℕ) (P : Stage → Type 0) (Q : LineTokens → Type 0) : Type 0 where
  pub turn : (place : Place) (s : Stage) → P s → IfOk (turn_counted place s) P
  pub line : (deepest : Bool) (line : LineTokens) (behind : List LineTokens) (s : Stage) → Q line → All Q behind → P s → IfOk (line_does text deepest line behind s) (λ p. Runs Q p.0 × P p.1)
  pub close : (line : LineTokens) (s : Stage) → Q line → P s → IfOk (closes text line s) (λ p. P p.1)

-- lines that are run keep P
abbrev KeepsBy : (Stage → Type 0) → (LineTokens → Type 0) → (List LineTokens → Stage → RunResult) → Type 0
KeepsBy P Q run = (lines : List LineTokens) (s : Stage) → All Q lines → P s → IfOk (run lines s) P

pub then_keeps : {A B : Type 0} (P : A → Type 0) (R : B → Type 0) (r : Result A AsmFault) (next : A → Result B AsmFault) → IfOk r P → ((a : A) → P a → IfOk (next a) R) → IfOk (then r next) R
then_keeps P R (Ok a) next p all = all a p
then_keeps P R (Err fault) next p all = tt

line_at : (Q : LineTokens → Type 0) (lines : List LineTokens) (k : ℕ) → All Q lines → IfSome (slice_get lines k) Q
line_at Q [] k all = tt
line_at Q (line ∷ lines) zero all = All-head Q line lines all
line_at Q (line ∷ lines) (suc k) all = line_at Q lines k (All-tail Q line lines all)

turns_keep : (text : List ℕ) (P : Stage → Type 0) (Q : LineTokens → Type 0) → Keeps text P Q → (run : Stage → RunResult) (place : Place) (n : ℕ) (s : Stage) → ((s : Stage) → P s → IfOk (run s) P) → P s → IfOk (turns run place n s) P
turns_keep text P Q keeps run place zero s runs p = p
turns_keep text P Q keeps run place (suc n) s runs p =
    then_keeps P P (turn_counted place s) (λ s. then (run s) (turns run place n)) (keeps.turn place s p)
    (λ s1 p1. then_keeps P P (run s1) (turns run place n) (runs s1 p1) (λ s2 p2. turns_keep text P Q keeps run place n s2 runs p2))

closed_keeps : (text : List ℕ) (P : Stage → Type 0) (Q : LineTokens → Type 0) → Keeps text P Q → (line : Option LineTokens) (s : Stage) → IfSome line Q → P s → IfOk (closed text line s) P
closed_keeps text P Q keeps None s q p = p
closed_keeps text P Q keeps (Some line) s q p = then_keeps (λ a. P a.1) P (closes text line s) (λ a. Ok a.1) (keeps.close line s q p) (λ a h. h)

performed_keeps : (text : List ℕ) (P : Stage → Type 0) (Q : LineTokens → Type 0) → Keeps text P Q → (run : List LineTokens → Stage → RunResult) → KeepsBy P Q run → (a : Act) (behind : List LineTokens) (s : Stage) → Runs Q a → All Q behind → P s → IfOk (performed text run a behind s) P
performed_keeps text P Q keeps run runs act.Nothing behind s q all p = p
performed_keeps text P Q keeps run runs (act.Repeats n place lines) behind s q all p =
    then_keeps P P (turns (run (take lines behind)) place n s) (closed text (slice_get behind lines))
    (turns_keep text P Q keeps (run (take lines behind)) place n s (λ s1 p1. runs (take lines behind) s1 (All-take Q lines behind all) p1) p)
    (λ s2 p2. closed_keeps text P Q keeps (slice_get behind lines) s2 (line_at Q behind lines all) p2)
performed_keeps text P Q keeps run runs (act.Passes lines) behind s q all p = closed_keeps text P Q keeps (slice_get behind lines) s (line_at Q behind lines all) p
performed_keeps text P Q keeps run runs (act.Calls body) behind s q all p = runs body s q p

lines_keep : (text : List ℕ) (P : Stage → Type 0) (Q : LineTokens → Type 0) → Keeps text P Q → (run : List LineTokens → Stage → RunResult) → KeepsBy P Q run → (deepest : Bool) (skip : ℕ) (lines : List LineTokens) (s : Stage) → All Q lines → P s → IfOk (lines_run text run deepest skip lines s) P
lines_keep text P Q keeps run runs deepest skip [] s all p = p
lines_keep text P Q keeps run runs deepest (suc skip) (line ∷ lines) s all p = lines_keep text P Q keeps run runs deepest skip lines s (All-tail Q line lines all) p
lines_keep text P Q keeps run runs deepest zero (line ∷ lines) s all p =
    let rest = All-tail Q line lines all in
    then_keeps (λ a. Runs Q a.0 × P a.1) P (line_does text deepest line lines s) (λ a. then (performed text run a.0 lines a.1) (lines_run text run deepest (taken a.0) lines))
    (keeps.line deepest line lines s (All-head Q line lines all) rest p)
    (λ a h. then_keeps P P (performed text run a.0 lines a.1) (lines_run text run deepest (taken a.0) lines)
    (performed_keeps text P Q keeps run runs a.0 lines a.1 h.0 rest h.1)
    (λ s2 p2. lines_keep text P Q keeps run runs deepest (taken a.0) lines s2 rest p2))

pub within_keeps : (text : List ℕ) (P : Stage → Type 0) (Q : LineTokens → Type 0) → Keeps text P Q → (depth : ℕ) (lines : List LineTokens) (s : Stage) → All Q lines → P s → IfOk (run_within text depth lines s) P
within_keeps text P Q keeps zero lines s all p = lines_keep text P Q keeps nothing_run (λ lines s all p. p) true 0 lines s all p
within_keeps text P Q keeps (suc depth) lines s all p = lines_keep text P Q keeps (run_within text depth) (within_keeps text P Q keeps depth) false 0 lines s all p
