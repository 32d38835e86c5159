use Rattle.std.proofs.Common.{◌≡◌, arith, refl, ◌∙◌}
use Rattle.qpu_machine.proofs.SerialLemmas.{nothing_gained, gained_then, gained_same, err_holds, after_then, round_begun, round_more, round_over, round_moves}
use Rattle.qpu_machine.proofs.machine.Machine.round.Goals as goal

pub loop-q-init : goal.loop-q-init
loop-q-init c = record { gained = nothing_gained c.args.journal.now _ (round_begun c.args.self.now.state); room = omega arith; starts = refl }

pub returns-in_err-turn-clause-err : goal.returns-in_err-turn-clause-err
returns-in_err-turn-clause-err c =
    err_holds _ _
    (gained_then c.args.journal.now c.loop-q.journal c.turn.new.journal _ _ _ c.loop-q.invariant.gained c.in_err-turn.ensures.err (λ s t far after. after_then far.after after))

pub loop-q-preserved : goal.loop-q-preserved
loop-q-preserved c =
    let room = c.in_ok-turn.ensures.room in
    record {
      gained =
          gained_then c.args.journal.now c.loop-q.journal c.turn.new.journal _ _ _ c.loop-q.invariant.gained c.in_ok-turn.ensures.ok
          (λ s t far turned. round_more c.loop-q.q far (omega (arith, c.loop-q-test.true)) turned);
      room = omega (arith, c.loop-q.invariant.room, room);
      starts = c.in_ok-turn.ensures.starts ∙ c.loop-q.invariant.starts;
    }

pub returns-clause-ok : goal.returns-clause-ok
returns-clause-ok c =
    let last : c.loop-q.q ≡ 12 = omega (arith, c.loop-q-test.false) in
    gained_same c.args.journal.now c.loop-q.journal _ _ c.loop-q.invariant.gained (λ s far. round_over c.loop-q.q far last)

pub returns-clause-moves : goal.returns-clause-moves
returns-clause-moves c =
    let last : c.loop-q.q ≡ 12 = omega (arith, c.loop-q-test.false) in
    let gained = c.loop-q.invariant.gained in
    round_moves c.args.self.now.state c.loop-q.self.state gained.steps c.keeps.ensures (round_over c.loop-q.q gained.holds last)
