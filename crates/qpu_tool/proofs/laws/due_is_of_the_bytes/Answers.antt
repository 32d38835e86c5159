use Rattle.qpu_tool.proofs.DueLemmas.{due_of_bytes, of_command}
use Rattle.qpu_tool.proofs.laws.due_is_of_the_bytes.Goals as goal

pub returns : goal.returns
returns c = record { bytes = due_of_bytes; command = of_command }
