-- A text that is no job is refused; what is made of a job is what its text comes to.
use Rattle.std.proofs.Common.{Err}
use Rattle.qpu_job.specs.Plan.{plan_of}
use Rattle.qpu_job.specs.Reading.{job_of}
use Rattle.qpu_tool.specs.declared.refusal.Refusal.TheVariants.{Job}
use Rattle.qpu_tool.specs.Opening.{IsOpened, no_job}
use Rattle.qpu_tool.proofs.OpenLemmas.{fails_is, opened_as}
use Rattle.qpu_tool.proofs.ResultLemmas.{is_as}
use Rattle.qpu_tool.proofs.opening.opened.Goals as goal

pub returns-in-Ok : goal.returns-in-Ok
returns-in-Ok c = opened_as c.args.text.now (plan_of c.in-Ok.job) c.made.result c.in-Ok.ensures.answer c.made.ensures

pub returns-in-Err : goal.returns-in-Err
returns-in-Err c =
    is_as (IsOpened c.args.text.now) (Err (Job c.in-Err.fault)) c.unread.result
    (λ some. no_job c.in-Err.fault (fails_is c.in-Err.fault (job_of c.args.text.now) c.in-Err.ensures.answer some) c.in-Err.ensures.kinds some) c.unread.ensures
