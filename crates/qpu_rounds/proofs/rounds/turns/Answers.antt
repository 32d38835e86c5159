use Rattle.std.proofs.Common.{◌≡◌, ◌<◌, length, arith, refl, sym, subst, ◌∙◌}
use Rattle.std.proofs.lemmas.List.{get_or_default}
use Rattle.qpu_machine.proofs.SerialLemmas.{nothing_gained, gained_then, gained_same, err_holds, after_then, round_begun, round_more, round_over, round_moves}
use Rattle.std.specs.Prelude.{None, slice_index_or}
use Rattle.qpu_machine.proofs.OthersLemmas.{keeps_turned}
use Rattle.qpu_machine.proofs.ScheduleLemmas.{sound_along}
use Rattle.qpu_rounds.specs.Away.{IsBackAt}
use Rattle.qpu_rounds.proofs.AwayLemmas.{back_kept_at}
use Rattle.qpu_rounds.proofs.rounds.turns.Goals as goal

pub loop-q-init : goal.loop-q-init
loop-q-init c = record { gained = nothing_gained c.args.journal.now _ (round_begun c.args.machine.now.state); room = omega arith; starts = refl; back = λ r low few. c.requires.back r few }

pub returns-in_err-turn-clause-err : goal.returns-in_err-turn-clause-err
returns-in_err-turn-clause-err c =
    err_holds _ _
    (gained_then c.args.journal.now c.loop-q.journal c.turn.new.journal _ _ _ c.loop-q.invariant.gained c.in_err-turn.ensures.err (λ s t far after. after_then far.after after))

pub loop-q-preserved : goal.loop-q-preserved
loop-q-preserved c =
    let room = c.in_ok-turn.ensures.room in
    record {
      gained =
          gained_then c.args.journal.now c.loop-q.journal c.turn.new.journal _ _ _ c.loop-q.invariant.gained c.in_ok-turn.ensures.ok
          (λ s t far turned. round_more c.loop-q.q far (omega (arith, c.loop-q-test.true)) turned);
      room = omega (arith, c.loop-q.invariant.room, room);
      starts = c.in_ok-turn.ensures.starts ∙ c.loop-q.invariant.starts;
      back = λ r low few.
          back_kept_at r (slice_index_or c.args.away.now r None) (keeps_turned (sound_along c.keeps.ensures c.loop-q.invariant.gained.holds.after) c.in_ok-turn.ensures.ok.holds) (omega (arith, low)) (c.loop-q.invariant.back r (omega (arith, low)) few);
    }

pub returns-clause-ok : goal.returns-clause-ok
returns-clause-ok c =
    let last : c.loop-q.q ≡ 12 = omega (arith, c.loop-q-test.false) in
    gained_same c.args.journal.now c.loop-q.journal _ _ c.loop-q.invariant.gained (λ s far. round_over c.loop-q.q far last)

pub returns-clause-moves : goal.returns-clause-moves
returns-clause-moves c =
    let last : c.loop-q.q ≡ 12 = omega (arith, c.loop-q-test.false) in
    let gained = c.loop-q.invariant.gained in
    round_moves c.args.machine.now.state c.loop-q.machine.state gained.steps c.keeps.ensures (round_over c.loop-q.q gained.holds last)

pub turn-requires-clause-back : goal.turn-requires-clause-back
turn-requires-clause-back c =
    let low : c.loop-q.q < length c.args.away.now = omega (arith, c.type_inv.away, c.loop-q-test.true) in
    subst (IsBackAt c.loop-q.machine.state c.loop-q.q) (sym (get_or_default c.args.away.now c.loop-q.q c.index-away-q.result None low))
    (c.loop-q.invariant.back c.loop-q.q (omega arith) (omega (arith, c.loop-q-test.true)))
