use Rattle.std.proofs.Common.{arith, refl, ◌∙◌}
use Rattle.qpu_machine.proofs.RunLaw.{run_of}
use Rattle.qpu_machine.proofs.ScheduleLemmas.{sound_along}
use Rattle.qpu_machine.proofs.AtRestLaw.{final_rests, runs_out}
use Rattle.qpu_machine.proofs.OpeningLaw.{run_from_opening}
use Rattle.qpu_machine.proofs.BoundLemmas.{left_below}
use Rattle.qpu_machine.proofs.SerialLemmas.{nothing_gained, gained_then, gained_same, err_holds, after_then, serial_begun, serial_more, serial_over}
use Rattle.qpu_machine.proofs.machine.Machine.run_serial.Goals as goal

pub loop-ending-init : goal.loop-ending-init
loop-ending-init c =
    record { gained = nothing_gained c.args.journal.now _ (serial_begun c.args.self.now.state); room = omega arith; starts = refl }

pub returns-in-Some-clause-serial : goal.returns-in-Some-clause-serial
returns-in-Some-clause-serial c =
    gained_same c.args.journal.now c.loop-ending.journal _ _ c.loop-ending.invariant.gained
    (λ s far. (serial_over far c.in-Some.ensures.still, run_of c.keeps.ensures far.after))

pub round-requires : goal.round-requires
round-requires c =
    let below = left_below c.args.self.now.state c.keeps.ensures in
    omega (arith, below, c.requires, c.loop-ending.invariant.room)

pub loop-ending-preserved : goal.loop-ending-preserved
loop-ending-preserved c =
    let room = c.in_ok-round.ensures.room in
    record {
      gained =
          gained_then c.args.journal.now c.loop-ending.journal c.round.new.journal _ _ _ c.loop-ending.invariant.gained c.in_ok-round.ensures.ok
          (λ s t far round. serial_more far round);
      room = omega (arith, c.loop-ending.invariant.room, room);
      starts = c.in_ok-round.ensures.starts ∙ c.loop-ending.invariant.starts;
    }

pub returns-in_err-round-clause-refused : goal.returns-in_err-round-clause-refused
returns-in_err-round-clause-refused c =
    err_holds _ _
    (gained_then c.args.journal.now c.loop-ending.journal c.round.new.journal _ _ _ c.loop-ending.invariant.gained c.in_err-round.ensures.err
    (λ s t far after. run_of c.keeps.ensures (after_then far.after after)))

pub returns-in-Some-clause-rests : goal.returns-in-Some-clause-rests
returns-in-Some-clause-rests c =
    let gained = c.loop-ending.invariant.gained in
    final_rests c.loop-ending.self.state (sound_along c.keeps.ensures gained.holds.after) c.in-Some.ensures.still

pub returns-in-Some-clause-ran_out : goal.returns-in-Some-clause-ran_out
returns-in-Some-clause-ran_out c = runs_out c.loop-ending.self.state (sound_along c.keeps.ensures c.loop-ending.invariant.gained.holds.after)

pub returns-in-Some-clause-opening : goal.returns-in-Some-clause-opening
returns-in-Some-clause-opening c =
    gained_same c.args.journal.now c.loop-ending.journal _ _ c.loop-ending.invariant.gained
    (λ s far. run_from_opening far.after)

pub returns-in_err-round-clause-opening : goal.returns-in_err-round-clause-opening
returns-in_err-round-clause-opening c =
    gained_then c.args.journal.now c.loop-ending.journal c.round.new.journal _ _ _ c.loop-ending.invariant.gained c.in_err-round.ensures.err
    (λ s t far after. run_from_opening (after_then far.after after))
