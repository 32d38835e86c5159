use Rattle.qpu_job.proofs.AboveLemmas.{line_inside}
use Rattle.qpu_job.proofs.above.Above.after_line.Goals as goal

pub returns-in-Some : goal.returns-in-Some
returns-in-Some c =
    line_inside c.args.self.now c.in-Some.program _ _ _ c.args.number c.args.line.now c.in-Some.ensures.value c.in-Some.ensures.after c.after_inside.ensures
