use Rattle.std.proofs.Common.{◌≡◌, ap, sym, subst, ◌∙◌, arith}
use Rattle.qpu_machine.specs.Sound.{IsSoundMachine}
use Rattle.qpu_machine.specs.Views.{Started, machine_state}
use Rattle.qpu_machine.proofs.EndingLemmas.{final_of, moves_of}
use Rattle.qpu_machine.proofs.machine.Machine.has_any_step.Goals as goal

pub returns-then-has_step-clause-moves : goal.returns-then-has_step-clause-moves
returns-then-has_step-clause-moves c = moves_of c.args.self.now.state c.loop-q.q (sym c.has_step.ensures ∙ c.if-has_step.true)

pub returns-clause-still : goal.returns-clause-still
returns-clause-still c =
    let same : machine_state c.self.inside ≡ c.args.self.now.state = ap (λ (s : Started). s.state) c.self.view_is in
    let sound : IsSoundMachine c.args.self.now.state = subst IsSoundMachine same c.self.invariant.sound in
    final_of c.args.self.now.state sound (λ q low. c.loop-q.invariant q (omega arith))
