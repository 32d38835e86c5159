use Rattle.std.proofs.Common.{◌≡◌, drop}
use Rattle.qpu_asm.specs.reader.Sections.{unknown_in, first_of}
use Rattle.qpu_asm.proofs.section.first_unknown.Given as goal

abbrev pub invariant-loop-section : goal.invariant-loop-section
invariant-loop-section l = first_of (λ s. unknown_in s.tokens) (drop l.section-index l.sections) ≡ first_of (λ s. unknown_in s.tokens) l.sections
