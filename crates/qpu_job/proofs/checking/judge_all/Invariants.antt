-- The checked programs and those that are left are the programs.
use Rattle.std.proofs.Common.{◌≡◌, ◌++◌, All, length}
use Rattle.std.specs.Vec.Iter.{into_iter_items, into_iter_len}
use Rattle.qpu_hazard.specs.Refusal.{NoneRefusable}
use Rattle.qpu_job.proofs.checking.judge_all.Given as goal

abbrev pub invariant-loop-flow : goal.invariant-loop-flow
invariant-loop-flow l = record {
  taken : l.list.items ++ into_iter_items l.flow-iterator ≡ l.fn.flows.items;
  left : into_iter_len l.flow-iterator ≡ length (into_iter_items l.flow-iterator);
  clean : All NoneRefusable l.list.items;
}
