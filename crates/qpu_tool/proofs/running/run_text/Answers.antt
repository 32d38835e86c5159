-- A job that has no machine is refused.
use Rattle.qpu_tool.specs.Running.{refused}
use Rattle.qpu_tool.proofs.running.run_text.Goals as goal

pub returns-in-Err : goal.returns-in-Err
returns-in-Err c = refused c.in-Err.refusal (rw c.in-Err.is at c.in_ok-machine.ensures)
