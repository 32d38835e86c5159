-- The values before the index are put, and there are as many words as before.
use Rattle.std.proofs.Common.{◌≡◌, take, length, replicate}
use Rattle.std.specs.Prelude.{fold}
use Rattle.qpu_job.specs.Opening.{with_value}
use Rattle.qpu_job.proofs.making.memory_of.Given as goal

abbrev pub invariant-loop-value : goal.invariant-loop-value
invariant-loop-value l = record {
  put : l.memory ≡ fold with_value (replicate l.words 0) (take l.value-index l.values);
  long : length l.memory ≡ l.words;
}
