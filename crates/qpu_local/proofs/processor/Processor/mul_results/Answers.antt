use Rattle.std.proofs.Common.{sym}
use Rattle.qpu_local.proofs.UnitLemmas.{mul_values_by}
use Rattle.qpu_local.proofs.processor.Processor.mul_results.Goals as goal

pub returns-in-Some : goal.returns-in-Some
returns-in-Some c =
    mul_values_by _ _ _ _ _ _ _ (sym c.in-Some.ensures) c.operand.ensures c.operand-in-Some.ensures c.mul_unit.ensures
