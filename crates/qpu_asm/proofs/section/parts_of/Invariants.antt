use Rattle.std.proofs.Common.{◌≡◌, [], take}
use Rattle.std.specs.Prelude.{fold, Ok}
use Rattle.qpu_asm.specs.reader.Sections.{parts_on}
use Rattle.qpu_asm.proofs.section.parts_of.Given as goal

abbrev pub invariant-loop-section : goal.invariant-loop-section
invariant-loop-section l = l.parts ≡ fold parts_on (Ok []) (take l.section-index l.sections)
