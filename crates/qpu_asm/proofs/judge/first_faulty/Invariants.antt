use Rattle.std.proofs.Common.{◌≡◌, [], take, drop}
use Rattle.qpu_asm.specs.reader.Judging.{first_faulty}
use Rattle.qpu_asm.proofs.judge.first_faulty.Given as goal

abbrev pub invariant-loop-i : goal.invariant-loop-i
invariant-loop-i l = first_faulty l.kind (take l.i l.marks) (drop l.i l.marks) ≡ first_faulty l.kind [] l.marks
