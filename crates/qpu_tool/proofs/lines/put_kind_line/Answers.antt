-- The number that is written is the line.
use Rattle.qpu_tool.proofs.lines.put_kind_line.Goals as goal

pub returns : goal.returns
returns g c = rw c.from.ensures at c.put_all.ensures
