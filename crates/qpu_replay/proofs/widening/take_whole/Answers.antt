-- An actor that stops has no step.
use Rattle.qpu_replay.proofs.WidenLemmas.{stopped_first}
use Rattle.qpu_replay.proofs.widening.take_whole.Goals as goal

pub returns-in-Some-clause-none : goal.returns-in-Some-clause-none
returns-in-Some-clause-none c =
    λ is. stopped_first c.args.machine.now.state c.take_run.new.machine.state c.args.actor c.rows_still-count.result c.in-Some.field-0 c.rows_still-count.ensures.is c.in-Some.ensures.stops
