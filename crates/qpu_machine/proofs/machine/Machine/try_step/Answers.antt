use Rattle.std.proofs.Common.{◌∷◌, [], List, arith, sym, subst, ap, ◌∙◌}
use Rattle.std.specs.Prelude.{is_some, Option}
use Rattle.qpu_machine.specs.declared.journal.Run.{Run}
use Rattle.qpu_machine.specs.Bound.{steps_left}
use Rattle.qpu_machine.specs.Journal.{steps_of, steps_in, pushed}
use Rattle.qpu_machine.specs.Machine.{MachineState}
use Rattle.qpu_machine.specs.Schedule.{here, next}
use Rattle.qpu_machine.specs.Serial.{Tried, rests, moves}
use Rattle.qpu_machine.specs.Views.{Started}
use Rattle.qpu_machine.proofs.BoundLemmas.{some_left}
use Rattle.qpu_machine.proofs.JournalLemmas.{spells_more}
use Rattle.qpu_machine.proofs.SerialLemmas.{last_few, nothing_more, gained_pushed, err_holds, room_after}
use Rattle.qpu_machine.proofs.machine.Machine.try_step.Goals as goal

pub returns-in_err-make_room-clause-err : goal.returns-in_err-make_room-clause-err
returns-in_err-make_room-clause-err c = err_holds _ _ (nothing_more c.args.journal.now c.make_room.new.self.runs _ (c.in_err-make_room.ensures.runs ∙ c.journal.view_is) here)

pub returns-in_err-make_room-clause-room : goal.returns-in_err-make_room-clause-room
returns-in_err-make_room-clause-room c = let same = ap (λ (xs : List Run). steps_in xs) (c.in_err-make_room.ensures.runs ∙ c.journal.view_is) in omega (arith, same)

pub returns-then-not-step-clause-ok : goal.returns-then-not-step-clause-ok
returns-then-not-step-clause-ok c =
    nothing_more c.args.journal.now c.make_room.new.self.runs _ (c.in_ok-make_room.ensures.runs ∙ c.journal.view_is)
    (subst (λ (x : Started). Tried c.args.actor c.args.self.now.state [] x.state) (sym c.if-not-step.ensures.1) (rests c.if-not-step.ensures.0))

pub returns-then-not-step-clause-room : goal.returns-then-not-step-clause-room
returns-then-not-step-clause-room c =
    let same = ap (λ (xs : List Run). steps_in xs) (c.in_ok-make_room.ensures.runs ∙ c.journal.view_is) in
    let left = ap (λ (x : Started). steps_left x.state) c.if-not-step.ensures.1 in
    omega (arith, same, left)

pub add-requires-clause-fits : goal.add-requires-clause-fits
add-requires-clause-fits c =
    let same = ap (λ (xs : List Run). steps_in xs) (c.in_ok-make_room.ensures.runs ∙ c.journal.view_is) in
    let last = last_few c.make_room.new.self.runs c.args.actor in
    let some = some_left c.args.self.now.state c.args.actor c.keeps.ensures (ap (λ (o : Option MachineState). is_some o) c.if-not-step.ensures.0) in
    omega (arith, same, last, some, c.requires)

pub returns-clause-ok : goal.returns-clause-ok
returns-clause-ok c =
    gained_pushed c.args.journal.now c.add.new.self.runs c.args.actor 1 _ (c.add.ensures ∙ ap (λ (xs : List Run). pushed xs c.args.actor 1) (c.in_ok-make_room.ensures.runs ∙ c.journal.view_is))
    (moves c.if-not-step.ensures.0)

pub returns-clause-room : goal.returns-clause-room
returns-clause-room c =
    let is = c.add.ensures ∙ ap (λ (xs : List Run). pushed xs c.args.actor 1) (c.in_ok-make_room.ensures.runs ∙ c.journal.view_is) in
    room_after c.args.journal.now c.add.new.self.runs c.args.self.now.state c.step.new.self.state (c.args.actor ∷ []) c.keeps.ensures (next c.if-not-step.ensures.0 here)
    (ap steps_of is ∙ spells_more c.args.journal.now c.args.actor 1)
