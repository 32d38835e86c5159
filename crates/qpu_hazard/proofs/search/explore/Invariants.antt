use Rattle.std.proofs.Common.{◌-◌, ◌^◌}
use Rattle.qpu_hazard.proofs.StepLemmas.{IsGoing}
use Rattle.qpu_hazard.proofs.search.explore.Given as goal

-- each trail before was looked at
abbrev pub invariant-loop-next : goal.invariant-loop-next
invariant-loop-next l = IsGoing l.needs l.flow l.search l.next

-- a list of trails is never as long as 2^63
abbrev pub decreases-loop-next : goal.decreases-loop-next
decreases-loop-next l = 2 ^ 63 - l.next
