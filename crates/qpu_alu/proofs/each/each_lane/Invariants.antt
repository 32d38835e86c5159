use Rattle.std.proofs.Common.{get_or}
use Rattle.qpu_word.proofs.LaneLemmas.{Filled}
use Rattle.qpu_alu.proofs.each.each_lane.Given as goal

abbrev pub invariant-loop-i : goal.invariant-loop-i
invariant-loop-i g l = Filled (λ k. g.O.OneLane.f (get_or l.a k 0) (get_or l.b k 0)) l.out l.i
