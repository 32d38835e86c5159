use Rattle.std.proofs.Common.{◌≡◌, false, refl, sym, subst}
use Rattle.qpu_machine.specs.Kept.{IsKeptAlone}
use Rattle.qpu_machine.specs.Local.{LocalSteps, is_local_next}
use Rattle.qpu_rounds.proofs.away.Away.run.Goals as goal

pub stretch-requires-clause-kept : goal.stretch-requires-clause-kept
stretch-requires-clause-kept c = subst (λ words. IsKeptAlone words c.args.self.now.processor) (sym c.program_at.ensures) c.requires.ready.kept

pub returns : goal.returns
returns c = record {
  count = c.stretch.result;
  steps = subst (λ words. LocalSteps words c.args.limit c.args.self.now.processor c.stretch.result c.stretch.new.processor) c.program_at.ensures c.stretch.ensures.steps;
  counted = refl;
  stops = subst (λ words. is_local_next words c.args.limit c.stretch.new.processor ≡ false) c.program_at.ensures c.stretch.ensures.stops;
}
