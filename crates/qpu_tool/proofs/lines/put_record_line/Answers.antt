-- The number that is written is the line.
use Rattle.qpu_tool.proofs.lines.put_record_line.Goals as goal

pub returns-in-Line : goal.returns-in-Line
returns-in-Line g c = rw c.in-Line.is (rw c.from.ensures at c.put_numbered.ensures)

pub returns-in-Number : goal.returns-in-Number
returns-in-Number g c = rw c.in-Number.is (rw c.from-in-Number.ensures at c.put_numbered-in-Number.ensures)
