use Rattle.qpu_local.proofs.PlainLemmas.{plain_result, plain_there}
use Rattle.std.proofs.Common.{Ok, ap, sym, ◌∙◌}
use Rattle.qpu_local.proofs.processor.Processor.step_decoded.Goals as goal

pub step_units-requires-clause-there : goal.step_units-requires-clause-there
step_units-requires-clause-there g c = plain_there _ c.args.word.now c.in-Plain.units c.requires.profile c.requires.decoded c.in-Plain.is

pub returns-in-Plain : goal.returns-in-Plain
returns-in-Plain g c = plain_result _ _ c.args.self.now c.args.word.now c.in-Plain.units c.requires.decoded c.in-Plain.is ∙ ap Ok (sym c.step_units.ensures)
