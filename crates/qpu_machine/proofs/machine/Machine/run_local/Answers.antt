use Rattle.std.proofs.Common.{List, replicate, arith, subst, ap, ◌∙◌}
use Rattle.std.proofs.lemmas.List.{length-replicate}
use Rattle.qpu_machine.specs.declared.actor.Actor.TheVariants.{Exec}
use Rattle.qpu_machine.specs.declared.journal.Run.{Run}
use Rattle.qpu_machine.specs.Journal.{steps_of, steps_in, pushed}
use Rattle.qpu_machine.specs.Schedule.{here}
use Rattle.qpu_machine.specs.Serial.{Stretch}
use Rattle.qpu_machine.proofs.BoundLemmas.{steps_bounded}
use Rattle.qpu_machine.proofs.JournalLemmas.{spells_more}
use Rattle.qpu_machine.proofs.SerialLemmas.{last_few, nothing_more, gained_pushed, err_holds, room_after, stretch_after}
use Rattle.qpu_machine.proofs.machine.Machine.run_local.Goals as goal

pub returns-in_err-make_room-clause-err : goal.returns-in_err-make_room-clause-err
returns-in_err-make_room-clause-err c = err_holds _ _ (nothing_more c.args.journal.now c.make_room.new.self.runs _ (c.in_err-make_room.ensures.runs ∙ c.journal.view_is) here)

pub returns-in_err-make_room-clause-room : goal.returns-in_err-make_room-clause-room
returns-in_err-make_room-clause-room c = let same = ap (λ (xs : List Run). steps_in xs) (c.in_err-make_room.ensures.runs ∙ c.journal.view_is) in omega (arith, same)

pub returns-then-steps-eq0-clause-ok : goal.returns-then-steps-eq0-clause-ok
returns-then-steps-eq0-clause-ok c =
    nothing_more c.args.journal.now c.make_room.new.self.runs _ (c.in_ok-make_room.ensures.runs ∙ c.journal.view_is)
    (subst (λ n. Stretch c.args.q c.args.self.now.state (replicate n (Exec c.args.q)) c.stretch_own-steps.new.self.state) c.if-steps-eq0.true c.stretch_own-steps.ensures.stretch)

pub returns-then-steps-eq0-clause-room : goal.returns-then-steps-eq0-clause-room
returns-then-steps-eq0-clause-room c =
    let same = ap (λ (xs : List Run). steps_in xs) (c.in_ok-make_room.ensures.runs ∙ c.journal.view_is) in
    let bound = steps_bounded c.keeps.ensures (stretch_after c.stretch_own-steps.ensures.stretch) in
    omega (arith, same, bound)

pub add-requires-clause-fits : goal.add-requires-clause-fits
add-requires-clause-fits c =
    let same = ap (λ (xs : List Run). steps_in xs) (c.in_ok-make_room.ensures.runs ∙ c.journal.view_is) in
    let last = last_few c.make_room.new.self.runs (Exec c.args.q) in
    let bound = steps_bounded c.keeps.ensures (stretch_after c.stretch_own-steps.ensures.stretch) in
    let long = length-replicate c.stretch_own-steps.result (Exec c.args.q) in
    omega (arith, same, last, bound, long, c.requires)

pub returns-clause-ok : goal.returns-clause-ok
returns-clause-ok c =
    gained_pushed c.args.journal.now c.add.new.self.runs (Exec c.args.q) c.stretch_own-steps.result _
    (c.add.ensures ∙ ap (λ (xs : List Run). pushed xs (Exec c.args.q) c.stretch_own-steps.result) (c.in_ok-make_room.ensures.runs ∙ c.journal.view_is)) c.stretch_own-steps.ensures.stretch

pub returns-clause-room : goal.returns-clause-room
returns-clause-room c =
    let steps = c.stretch_own-steps.result in
    let is = c.add.ensures ∙ ap (λ (xs : List Run). pushed xs (Exec c.args.q) steps) (c.in_ok-make_room.ensures.runs ∙ c.journal.view_is) in
    room_after c.args.journal.now c.add.new.self.runs c.args.self.now.state c.stretch_own-steps.new.self.state (replicate steps (Exec c.args.q)) c.keeps.ensures
    (stretch_after c.stretch_own-steps.ensures.stretch) (ap steps_of is ∙ spells_more c.args.journal.now (Exec c.args.q) steps)
