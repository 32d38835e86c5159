use Rattle.std.proofs.Common.{◌≡◌, true, take}
use Rattle.std.specs.Prelude.{fold}
use Rattle.qpu_asm.specs.reader.Marks.{part_marks}
use Rattle.qpu_asm.proofs.marking.put_later.Given as goal

abbrev pub invariant-loop-part : goal.invariant-loop-part
invariant-loop-part l = l.marks ≡ fold (part_marks true) l.fn.marks (take l.part-index l.later)
