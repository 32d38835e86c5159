use Rattle.std.proofs.Common.{◌*◌, ◌/◌, get_or}
use Rattle.std.specs.Prelude.{if◌then◌else◌}
use Rattle.qpu_word.proofs.LaneLemmas.{Filled}
use Rattle.qpu_local.proofs.storing.replicated_in.Given as goal

abbrev pub invariant-loop-i : goal.invariant-loop-i
invariant-loop-i l = Filled (λ k. if l.in_b then get_or l.values.v 0 0 else get_or l.values.v (k / 4 * 4) 0) l.out l.i
