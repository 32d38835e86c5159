use Rattle.std.proofs.Common.{List, length, arith, refl, ap, ◌∙◌}
use Rattle.qpu_machine.specs.declared.actor.Actor.{Actor}
use Rattle.qpu_machine.specs.declared.actor.Actor.TheVariants.{Exec}
use Rattle.qpu_machine.specs.Serial.{none, tries_of}
use Rattle.qpu_machine.proofs.SerialLemmas.{nothing_gained, gained_then, err_holds, in_turn_next, in_turn_after, after_then}
use Rattle.qpu_machine.proofs.machine.Machine.run_tries.Goals as goal

pub loop-actor-init : goal.loop-actor-init
loop-actor-init c = record {
  items = c.tries-actors.ensures;
  gained = nothing_gained c.args.journal.now _ none;
  room = omega arith;
  starts = refl;
}

pub returns-in_err-try_step-clause-err : goal.returns-in_err-try_step-clause-err
returns-in_err-try_step-clause-err c =
    err_holds _ _
    (gained_then c.args.journal.now c.loop-actor.journal c.try_step.new.journal _ _ _ c.loop-actor.invariant.gained c.in_err-try_step.ensures.err
    (λ s t turns after. after_then (in_turn_after turns) after))

pub loop-actor-preserved : goal.loop-actor-preserved
loop-actor-preserved c =
    let room = c.in_ok-try_step.ensures.room in
    let long = ap (λ (xs : List Actor). length xs) c.tries-actors.ensures in
    record {
      items = c.tries-actors.ensures;
      gained = gained_then c.args.journal.now c.loop-actor.journal c.try_step.new.journal _ _ _ c.loop-actor.invariant.gained c.in_ok-try_step.ensures.ok
          (λ s t turns tried. in_turn_next c.tries-actors.result (tries_of c.args.q) c.loop-actor.actor-index (Exec 0) c.tries-actors.ensures (omega (arith, long, c.loop-actor-test.true)) turns tried);
      room = omega (arith, c.loop-actor.invariant.room, room);
      starts = c.in_ok-try_step.ensures.starts ∙ c.loop-actor.invariant.starts;
    }
