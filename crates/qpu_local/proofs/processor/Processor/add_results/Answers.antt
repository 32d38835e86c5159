use Rattle.std.proofs.Common.{sym}
use Rattle.qpu_local.proofs.UnitLemmas.{add_values_by, add_carries_by}
use Rattle.qpu_local.proofs.processor.Processor.add_results.Goals as goal

pub returns-in-Some-clause-values : goal.returns-in-Some-clause-values
returns-in-Some-clause-values c =
    add_values_by _ _ _ _ _ _ _ (sym c.in-Some.ensures) c.operand.ensures c.operand-in-Some.ensures c.add_unit.ensures.values

pub returns-in-Some-clause-carries : goal.returns-in-Some-clause-carries
returns-in-Some-clause-carries c =
    add_carries_by _ _ _ _ _ _ _ (sym c.in-Some.ensures) c.operand.ensures c.operand-in-Some.ensures c.add_unit.ensures.carries
