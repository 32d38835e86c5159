use Rattle.std.proofs.Common.{get_or}
use Rattle.std.specs.Prelude.{slice_index}
use Rattle.qpu_word.proofs.LaneLemmas.{Filled}
use Rattle.qpu_shared.proofs.shared.Shared.words_at.Given as goal

abbrev pub invariant-loop-i : goal.invariant-loop-i
invariant-loop-i l = Filled (λ k. slice_index l.self.memory (get_or l.at.v k 0)) l.out l.i
