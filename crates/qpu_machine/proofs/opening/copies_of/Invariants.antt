use Rattle.std.proofs.Common.{◌≡◌, length}
use Rattle.std.proofs.Math.ListN.{take}
use Rattle.qpu_machine.proofs.opening.copies_of.Given as goal

abbrev pub invariant-loop-q : goal.invariant-loop-q
invariant-loop-q l = (length l.copies ≡ 12) × (take l.q l.copies ≡ take l.q l.all)
