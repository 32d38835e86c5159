use Rattle.std.proofs.Common.{◌/◌, get_or}
use Rattle.qpu_word.proofs.LaneLemmas.{Filled}
use Rattle.qpu_shared.proofs.starting.word_indexes.Given as goal

abbrev pub invariant-loop-i : goal.invariant-loop-i
invariant-loop-i l = Filled (λ k. get_or l.addresses.v k 0 / 4) l.out l.i
