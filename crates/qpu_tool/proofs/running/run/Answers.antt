-- The run is the one that was promised.
use Rattle.std.proofs.Common.{ap, sym, subst, ◌∙◌}
use Rattle.qpu_machine.specs.Journal.{steps_of}
use Rattle.qpu_machine.specs.Machine.{MachineState}
use Rattle.qpu_tool.specs.declared.answer.Answer.TheVariants.{Ran}
use Rattle.qpu_tool.specs.Run.{Ran as Run}
use Rattle.qpu_tool.specs.Running.{RunAnswer, ran}
use Rattle.qpu_tool.proofs.RunLemmas.{faithful}
use Rattle.qpu_tool.proofs.running.run.Goals as goal

pub returns-in-Ok : goal.returns-in-Ok
returns-in-Ok c =
    let text = c.args.text.now in
    let journal = c.run_serial.new.journal in
    let state = c.run_serial.new.self.state in
    let is = c.new-in-Ok.ensures ∙ ap (λ (m : MachineState). record { job = text; steps = steps_of journal; machine = m }) c.new.ensures in
    subst (λ (r : Run). RunAnswer text (Ran r)) (sym is)
    (ran (steps_of journal) state
    (faithful text c.args.machine.state state c.new-journal.result journal c.requires c.new-journal.ensures c.in-Ok.ensures.serial c.in-Ok.ensures.stands))
