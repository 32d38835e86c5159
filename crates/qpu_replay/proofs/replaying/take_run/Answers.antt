use Rattle.std.proofs.Common.{refl, ◌∙◌}
use Rattle.qpu_machine.specs.Schedule.{here}
use Rattle.qpu_replay.proofs.RunLemmas.{step_more}
use Rattle.qpu_replay.proofs.replaying.take_run.Goals as goal

pub loop-taken-init : goal.loop-taken-init
loop-taken-init c = record { after = here; starts = refl; last = refl }

pub loop-taken-preserved : goal.loop-taken-preserved
loop-taken-preserved c = record {
  after = step_more c.loop-taken.taken c.args.run.now.actor c.loop-taken.invariant.after c.if-not-step.ensures.0;
  starts = c.if-not-step.ensures.1 ∙ c.loop-taken.invariant.starts;
  last = refl;
}
