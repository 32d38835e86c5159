use Rattle.std.proofs.Common.{get_or}
use Rattle.qpu_word.proofs.LaneLemmas.{Filled}
use Rattle.qpu_word.specs.Writing.{packed}
use Rattle.qpu_pack.proofs.packing.packed_by.Given as goal

abbrev pub invariant-loop-i : goal.invariant-loop-i
invariant-loop-i g l = Filled (λ k. packed g.row.MODE (get_or l.old.v k 0) (get_or l.value.v k 0)) l.out l.i
