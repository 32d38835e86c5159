-- A processor that is running has an instruction where its word doesn't await.
use Rattle.std.proofs.Common.{Option, ap, ◌∙◌}
use Rattle.std.specs.Prelude.{is_some, is_none}
use Rattle.qpu_shared.specs.declared.cause.Cause.{Cause}
use Rattle.qpu_machine.proofs.SoundLemmas.{enabled_running, none_of_not}
use Rattle.qpu_machine.proofs.machine.Machine.has_instruction.Goals as goal

pub returns : goal.returns
returns c =
    none_of_not (is_some c.cause_at.result) c.is_none.result c.is_none.ensures
    ∙ ap (λ (cause : Option Cause). is_none cause) c.cause_at.ensures.cause
    ∙ enabled_running c.args.self.now.state c.args.q c.in-Some.processor.now c.in-Some.ensures.there c.in-Some.ensures.runs c.cause_at.ensures.number
