use Rattle.std.proofs.Common.{◌≡◌, drop}
use Rattle.qpu_asm.specs.reader.Sections.{own_fault, first_of}
use Rattle.qpu_asm.proofs.section.first_own_fault.Given as goal

abbrev pub invariant-loop-section : goal.invariant-loop-section
invariant-loop-section l = first_of own_fault (drop l.section-index l.sections) ≡ first_of own_fault l.sections
