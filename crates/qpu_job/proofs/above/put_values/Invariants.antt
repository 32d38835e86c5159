-- The values so far and those of the other numbers are those of all.
use Rattle.std.proofs.Common.{◌≡◌, ◌+◌, ◌++◌, drop}
use Rattle.qpu_job.specs.Above.{values_from}
use Rattle.qpu_job.proofs.above.put_values.Given as goal

abbrev pub invariant-loop-k : goal.invariant-loop-k
invariant-loop-k l =
    l.values.items ++ values_from (l.at + l.k) (drop l.k l.numbers) ≡ l.fn.values.items ++ values_from l.at l.numbers
