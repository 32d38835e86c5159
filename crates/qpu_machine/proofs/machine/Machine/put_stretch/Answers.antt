use Rattle.std.proofs.Common.{arith, ap, ◌∙◌}
use Rattle.std.specs.Prelude.{replicate}
use Rattle.std.proofs.lemmas.List.{length-replicate}
use Rattle.qpu_machine.specs.declared.actor.Actor.TheVariants.{Exec}
use Rattle.qpu_machine.specs.Journal.{steps_of}
use Rattle.qpu_machine.specs.Schedule.{here}
use Rattle.qpu_machine.proofs.AwayLemmas.{stretched_none}
use Rattle.qpu_machine.proofs.BoundLemmas.{steps_bounded}
use Rattle.qpu_machine.proofs.JournalLemmas.{spells_more}
use Rattle.qpu_machine.proofs.LocalLemmas.{ran_own}
use Rattle.qpu_machine.proofs.RunLemmas.{ran_after}
use Rattle.qpu_machine.proofs.SerialLemmas.{last_few, nothing_gained, nothing_more, gained_pushed, err_holds, room_after}
use Rattle.qpu_machine.proofs.machine.Machine.put_stretch.Goals as goal

pub returns-then-steps-eq0-clause-ok : goal.returns-then-steps-eq0-clause-ok
returns-then-steps-eq0-clause-ok c =
    nothing_gained c.args.journal.now _ (stretched_none c.args.self.now.state c.args.q c.args.processor.now c.args.steps c.requires.stretched c.if-steps-eq0.true)

pub push-requires-clause-fits : goal.push-requires-clause-fits
push-requires-clause-fits c =
    let last = last_few c.args.journal.now (Exec c.args.q) in
    let bound = steps_bounded c.keeps.ensures (ran_after (ran_own c.args.self.now.state c.args.q c.args.processor.now c.args.steps c.keeps.ensures c.requires.stretched.own)) in
    let long = length-replicate c.args.steps (Exec c.args.q) in
    omega (arith, last, bound, long, c.requires.room)

pub returns-in_err-push-clause-err : goal.returns-in_err-push-clause-err
returns-in_err-push-clause-err c = err_holds _ _ (nothing_more c.args.journal.now c.push.new.self _ c.in_err-push.ensures.err here)

pub returns-clause-ok : goal.returns-clause-ok
returns-clause-ok c =
    gained_pushed c.args.journal.now c.push.new.self (Exec c.args.q) c.args.steps _ c.in_ok-push.ensures.ok (c.put_back.ensures.stretch c.requires.stretched.stops)

pub returns-clause-room : goal.returns-clause-room
returns-clause-room c =
    room_after c.args.journal.now c.push.new.self c.args.self.now.state c.put_back.new.self.state (replicate c.args.steps (Exec c.args.q)) c.keeps.ensures c.put_back.ensures.after
    (ap steps_of c.in_ok-push.ensures.ok ∙ spells_more c.args.journal.now (Exec c.args.q) c.args.steps)
