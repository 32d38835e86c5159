use Rattle.qpu_token.proofs.ReadLemmas.{past_large, bad_byte, read_passed, read_told, moves_on}
use Rattle.qpu_token.proofs.reading.read_on.Goals as goal

pub line_fault-requires-clause-past : goal.line_fault-requires-clause-past
line_fault-requires-clause-past c = past_large _ _ _ _ c.requires.read c.in-TooLarge.ensures

pub returns-in-Nothing-clause-err : goal.returns-in-Nothing-clause-err
returns-in-Nothing-clause-err c = rw c.fault.ensures (bad_byte _ _ _ c.requires.read c.requires.inside c.in-Nothing.ensures)

pub returns-in-Passed-clause-ok : goal.returns-in-Passed-clause-ok
returns-in-Passed-clause-ok c = read_passed _ _ _ _ c.requires.read c.in-Passed.ensures

pub returns-in-Ok-clause-ok : goal.returns-in-Ok-clause-ok
returns-in-Ok-clause-ok c = rw c.in-Ok.ensures.items (read_told _ _ _ _ _ c.requires.read c.in-Told.ensures.0 c.in-Told.ensures.1)

pub returns-in-Ok-clause-further : goal.returns-in-Ok-clause-further
returns-in-Ok-clause-further c = moves_on _ _ _ _ c.in-Told.ensures.0
