-- The numbers that are written are the fault's.
use Rattle.qpu_tool.proofs.lines.put_asm_line.Goals as goal

pub returns : goal.returns
returns g c = rw (c.asm_kind_name.ensures, c.from.ensures, c.from-2.ensures) at c.put_all.ensures
