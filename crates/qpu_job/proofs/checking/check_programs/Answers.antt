-- The checked programs are those whose words were looked at.
use Rattle.std.proofs.Common.{All, subst}
use Rattle.qpu_hazard.specs.Refusal.{NoneRefusable}
use Rattle.qpu_job.proofs.checking.check_programs.Goals as goal

pub returns-clause-clean : goal.returns-clause-clean
returns-clause-clean c = subst (All NoneRefusable) c.in_ok-flows.ensures.ok c.in_ok-judge_all.ensures.clean
