use Rattle.std.proofs.Common.{◌-◌, ◌^◌}
use Rattle.qpu_hazard.specs.Marks.{IsGoingOn}
use Rattle.qpu_hazard.proofs.marks.show_part.Given as goal

-- each mark before was looked at
abbrev pub invariant-loop-next : goal.invariant-loop-next
invariant-loop-next l = IsGoingOn l.part l.flow l.marks l.next

-- a list of marks is never as long as 2^63
abbrev pub decreases-loop-next : goal.decreases-loop-next
decreases-loop-next l = 2 ^ 63 - l.next
