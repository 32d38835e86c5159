use Rattle.std.proofs.Common.{get_or}
use Rattle.qpu_word.proofs.LaneLemmas.{Filled}
use Rattle.qpu_word.specs.Operands.{unpacked}
use Rattle.qpu_pack.proofs.unpacking.unpacked_by.Given as goal

abbrev pub invariant-loop-i : goal.invariant-loop-i
invariant-loop-i g l = Filled (λ k. unpacked g.row.MODE (get_or l.value.v k 0)) l.out l.i
