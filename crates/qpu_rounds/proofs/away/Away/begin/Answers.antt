use Rattle.std.proofs.Common.{sym, subst}
use Rattle.qpu_machine.specs.Kept.{IsKeptAlone}
use Rattle.qpu_machine.specs.Local.{LocalSteps}
use Rattle.qpu_machine.proofs.AwayLemmas.{steps_within}
use Rattle.qpu_rounds.proofs.away.Away.begin.Goals as goal

pub stretch-self-requires-clause-kept : goal.stretch-self-requires-clause-kept
stretch-self-requires-clause-kept c = subst (λ words. IsKeptAlone words c.args.self.now.processor) (sym c.program_at.ensures) c.requires.ready.kept

pub returns-clause-steps : goal.returns-clause-steps
returns-clause-steps c =
    subst (λ words. LocalSteps words c.args.limit c.args.self.now.processor c.stretch-self.result c.stretch-self.new.processor) c.program_at.ensures
    (steps_within c.portion_end-portion.ensures c.stretch-self.ensures.steps)
