use Rattle.std.proofs.Common.{◌≡◌, take}
use Rattle.std.specs.Prelude.{fold}
use Rattle.qpu_asm.specs.reader.Sections.{nothing_cut, cut_on}
use Rattle.qpu_asm.proofs.section.sections_of.Given as goal

abbrev pub invariant-loop-x : goal.invariant-loop-x
invariant-loop-x l = l.cutter ≡ fold cut_on nothing_cut (take l.x-index l.xs)
