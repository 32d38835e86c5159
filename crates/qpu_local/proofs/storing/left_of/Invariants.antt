use Rattle.std.proofs.Common.{get_or}
use Rattle.std.specs.Prelude.{if◌then◌else◌}
use Rattle.qpu_word.proofs.LaneLemmas.{Filled}
use Rattle.qpu_word.specs.Flags.{lane_test}
use Rattle.qpu_word.specs.Writing.{packed}
use Rattle.qpu_local.proofs.storing.left_of.Given as goal

abbrev pub invariant-loop-i : goal.invariant-loop-i
invariant-loop-i l =
    Filled (λ k. if lane_test l.cond l.flags k then packed l.mode (get_or l.old.v k 0) (get_or l.values.v k 0) else get_or l.old.v k 0) l.out l.i
