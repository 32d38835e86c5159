-- One line more of an expansion, one turn more of a repeat.
use Rattle.std.proofs.Common.{◌≡◌, ℕ, zero, suc, ◌+◌, ◌-◌, ◌<◌, ◌≤◌, length, take, get_or, Bool, true, false, List, [], ◌∷◌, drop, Ok, Err, refl, ap, sym, ◌∙◌, arith}
use Rattle.std.proofs.lemmas.List.{take_rest}
use Rattle.qpu_token.specs.declared.fault.AsmFault.{AsmFault}
use Rattle.qpu_token.specs.declared.stop.Stop.{Stop}
use Rattle.qpu_token.specs.declared.stop.Stop.TheVariants.{Fault, Memory}
use Rattle.qpu_token.specs.Stops.{StopsBy}
use Rattle.qpu_expr.specs.declared.place.Place.{Place}
use Rattle.qpu_expr.specs.declared.deed.Act.{Act}
use Rattle.qpu_expr.specs.LineTokens.{LineTokens}
use Rattle.qpu_expr.specs.StageParts.{Stage}
use Rattle.qpu_expr.specs.Stage.{turn_counted}
use Rattle.qpu_expr.specs.Deeds.{line_does}
use Rattle.qpu_expr.specs.Expansion.{RunResult, then, turns, performed, taken, lines_run, run_within}
use Rattle.qpu_expr.specs.Nesting.{is_deepest, below}

-- lines that are done already are passed
skipped : (text : List ℕ) (run : List LineTokens → Stage → RunResult) (deepest : Bool) (skip : ℕ) (lines : List LineTokens) (s : Stage) → lines_run text run deepest skip lines s ≡ lines_run text run deepest 0 (drop skip lines) s
skipped text run deepest zero lines s = refl
skipped text run deepest (suc skip) [] s = refl
skipped text run deepest (suc skip) (line ∷ lines) s = skipped text run deepest skip lines s

-- lines within a depth
within : (text : List ℕ) (depth : ℕ) (lines : List LineTokens) (s : Stage) → run_within text depth lines s ≡ lines_run text (below text depth) (is_deepest depth) 0 lines s
within text zero lines s = refl
within text (suc depth) lines s = refl

pub line_more : (text : List ℕ) (depth : ℕ) (line : LineTokens) (behind : List LineTokens) (act : Act) (s s1 s2 : Stage) → line_does text (is_deepest depth) line behind s ≡ Ok (act, s1) → performed text (below text depth) act behind s1 ≡ Ok s2 → run_within text depth (line ∷ behind) s ≡ run_within text depth (drop (taken act) behind) s2
line_more text depth line behind act s s1 s2 does performs =
    within text depth (line ∷ behind) s
    ∙ (ap (λ r. then r (λ p. then (performed text (below text depth) p.0 behind p.1) (lines_run text (below text depth) (is_deepest depth) (taken p.0) behind))) does
    ∙ (ap (λ r. then r (lines_run text (below text depth) (is_deepest depth) (taken act) behind)) performs
    ∙ (skipped text (below text depth) (is_deepest depth) (taken act) behind s2
    ∙ sym (within text depth (drop (taken act) behind) s2))))

pub line_stops : (text : List ℕ) (depth : ℕ) (line : LineTokens) (behind : List LineTokens) (s : Stage) (fault : AsmFault) → line_does text (is_deepest depth) line behind s ≡ Err fault → run_within text depth (line ∷ behind) s ≡ Err fault
line_stops text depth line behind s fault does =
    within text depth (line ∷ behind) s
    ∙ ap (λ r. then r (λ p. then (performed text (below text depth) p.0 behind p.1) (lines_run text (below text depth) (is_deepest depth) (taken p.0) behind))) does

pub act_stops : (text : List ℕ) (depth : ℕ) (line : LineTokens) (behind : List LineTokens) (act : Act) (s s1 : Stage) (fault : AsmFault) → line_does text (is_deepest depth) line behind s ≡ Ok (act, s1) → performed text (below text depth) act behind s1 ≡ Err fault → run_within text depth (line ∷ behind) s ≡ Err fault
act_stops text depth line behind act s s1 fault does performs =
    within text depth (line ∷ behind) s
    ∙ (ap (λ r. then r (λ p. then (performed text (below text depth) p.0 behind p.1) (lines_run text (below text depth) (is_deepest depth) (taken p.0) behind))) does
    ∙ ap (λ r. then r (lines_run text (below text depth) (is_deepest depth) (taken act) behind)) performs)

pub act_stopped : (text : List ℕ) (depth : ℕ) (line : LineTokens) (behind : List LineTokens) (act : Act) (s s1 : Stage) (stop : Stop) → line_does text (is_deepest depth) line behind s ≡ Ok (act, s1) → StopsBy (performed text (below text depth) act behind s1) stop → StopsBy (run_within text depth (line ∷ behind) s) stop
act_stopped text depth line behind act s s1 (Fault fault) does performs = act_stops text depth line behind act s s1 fault does performs
act_stopped text depth line behind act s s1 Memory does performs = tt

-- a first line and those behind it
pub first_line : (lines : List LineTokens) (line : LineTokens) → 1 ≤ length lines → line ≡ get_or lines 0 line → lines ≡ line ∷ take (length lines - 1) (drop 1 lines)
first_line [] line some is = absurd (omega arith)
first_line (x ∷ lines) line some is = rw (take_rest (x ∷ lines) 1) (ap (λ l. l ∷ lines) (sym is))

pub none_run : (text : List ℕ) (depth : ℕ) (s : Stage) → run_within text depth [] s ≡ Ok s
none_run text zero s = refl
none_run text (suc depth) s = refl

-- nested by one more

pub below_none : (text : List ℕ) (depth : ℕ) (lines : List LineTokens) (s : Stage) → is_deepest depth ≡ true → below text depth lines s ≡ Ok s
below_none text zero lines s deepest = refl
below_none text (suc depth) lines s deepest = cc

pub below_run : (text : List ℕ) (depth : ℕ) → is_deepest depth ≡ false → below text depth ≡ run_within text (depth - 1)
below_run text zero deepest = cc
below_run text (suc depth) deepest = let e : suc depth - 1 ≡ depth = omega arith in ap (λ d. run_within text d) (sym e)

pub not_deepest : (depth : ℕ) → is_deepest depth ≡ false → 0 < depth
not_deepest zero deepest = cc
not_deepest (suc depth) deepest = omega arith

-- turns

turns_left : (n k : ℕ) → k < n → n - k ≡ suc (n - (k + 1))
turns_left n k more = omega arith

pub turn_more : (run : Stage → RunResult) (place : Place) (n k : ℕ) (s s1 s2 : Stage) → k < n → turn_counted place s ≡ Ok s1 → run s1 ≡ Ok s2 → turns run place (n - k) s ≡ turns run place (n - (k + 1)) s2
turn_more run place n k s s1 s2 more counts runs =
    ap (λ m. turns run place m s) (turns_left n k more)
    ∙ (ap (λ r. then r (λ s. then (run s) (turns run place (n - (k + 1))))) counts ∙ ap (λ r. then r (turns run place (n - (k + 1)))) runs)

pub turn_stops : (run : Stage → RunResult) (place : Place) (n k : ℕ) (s : Stage) (fault : AsmFault) → k < n → turn_counted place s ≡ Err fault → turns run place (n - k) s ≡ Err fault
turn_stops run place n k s fault more counts =
    ap (λ m. turns run place m s) (turns_left n k more) ∙ ap (λ r. then r (λ s. then (run s) (turns run place (n - (k + 1))))) counts

pub body_stops : (run : Stage → RunResult) (place : Place) (n k : ℕ) (s s1 : Stage) (fault : AsmFault) → k < n → turn_counted place s ≡ Ok s1 → run s1 ≡ Err fault → turns run place (n - k) s ≡ Err fault
body_stops run place n k s s1 fault more counts runs =
    ap (λ m. turns run place m s) (turns_left n k more)
    ∙ (ap (λ r. then r (λ s. then (run s) (turns run place (n - (k + 1))))) counts ∙ ap (λ r. then r (turns run place (n - (k + 1)))) runs)
