-- The numbers that are written are the hazard's.
use Rattle.qpu_tool.proofs.lines.put_rule_line.Goals as goal

pub returns : goal.returns
returns g c = rw (c.from.ensures, c.from-2.ensures, c.from-3.ensures) at c.put_all.ensures
