use Rattle.std.proofs.Common.{◌≡◌, ◌+◌, ◌-◌, ◌*◌, length}
use Rattle.qpu_expr.specs.Expansion.{turns, run_within}
use Rattle.qpu_expr.specs.Nesting.{below}
use Rattle.qpu_expr.proofs.expansion.+running.Given as goal

abbrev pub decreases-perform : goal.decreases-perform
decreases-perform l = 4 * l.depth + 2

abbrev pub decreases-repeat : goal.decreases-repeat
decreases-repeat l = 4 * l.depth + 1

abbrev pub decreases-run_below : goal.decreases-run_below
decreases-run_below l = 4 * l.depth

abbrev pub decreases-run_lines : goal.decreases-run_lines
decreases-run_lines l = 4 * l.depth + 3

abbrev pub invariant-repeat-loop-turn : goal.invariant-repeat-loop-turn
invariant-repeat-loop-turn l = turns (below l.text l.depth l.body) l.place (l.times - l._turn) l.state ≡ turns (below l.text l.depth l.body) l.place l.times l.fn.state

abbrev pub invariant-run_lines-loop-rest : goal.invariant-run_lines-loop-rest
invariant-run_lines-loop-rest l = run_within l.text l.depth l.rest l.state ≡ run_within l.text l.depth l.lines l.fn.state

abbrev pub decreases-run_lines-loop-rest : goal.decreases-run_lines-loop-rest
decreases-run_lines-loop-rest l = length l.rest
