use Rattle.std.proofs.Common.{sym, ◌∙◌}
use Rattle.std.specs.Prelude.{bytes_eq}
use Rattle.qpu_job.specs.Plan.{program_of}
use Rattle.qpu_job.proofs.AboveLemmas.{position_map}
use Rattle.qpu_job.proofs.above.index_of.Goals as goal

pub returns : goal.returns
returns c =
    c.position_of.ensures ∙ sym (position_map program_of (λ program. bytes_eq program.name c.args.name.now) c.args.programs.now)
