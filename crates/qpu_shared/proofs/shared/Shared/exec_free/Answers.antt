use Rattle.std.proofs.Common.{refl, sym}
use Rattle.qpu_word.proofs.ProfileLemmas.{fit_of_fields}
use Rattle.qpu_shared.specs.Instruction.{pending_of}
use Rattle.qpu_shared.proofs.WordLemmas.{number_below}
use Rattle.qpu_shared.proofs.ExecLemmas.{free_of_none, unit_below, room_found, outs_sent, exec_done, exec_fault}
use Rattle.qpu_shared.proofs.shared.Shared.exec_free.Goals as goal

pub sends-sent-requires-clause-fit : goal.sends-sent-requires-clause-fit
sends-sent-requires-clause-fit g c = fit_of_fields c.args.f.now c.requires.profile.0 c.requires.profile.1 c.requires.profile.2

pub commit-requires-clause-number : goal.commit-requires-clause-number
commit-requires-clause-number g c = number_below c.args.f.now c.requires.profile.0 c.requires.profile.1

pub commit-requires-clause-unit : goal.commit-requires-clause-unit
commit-requires-clause-unit g c = rw c.outs-outs.ensures (unit_below _ _ _)

pub commit-requires-clause-free : goal.commit-requires-clause-free
commit-requires-clause-free g c = free_of_none _ _ _ c.requires.free

pub commit-requires-clause-room : goal.commit-requires-clause-room
commit-requires-clause-room g c = λ some.
    rw c.outs-outs.ensures
    (room_found c.args.f.now _ _ (pending_of c.args.self.now c.args.q) c.requires.room (rw (← c.outs-outs.ensures) (c.in-Ok.ensures.sent some)))

pub accept_sent-requires-clause-fit : goal.accept_sent-requires-clause-fit
accept_sent-requires-clause-fit g c = fit_of_fields c.args.f.now c.requires.profile.0 c.requires.profile.1 c.requires.profile.2

pub returns-in-Ok : goal.returns-in-Ok
returns-in-Ok g c = λ is_link word is.
    let p = g.P.Port.state c.args.port.now in
    let outs_is = outs_sent c.args.f.now p c.ins-ins.result _ _ c.outs-outs.result c.outs-outs.ensures c.sends-sent.ensures.add c.sends-sent.ensures.mul in
    exec_done is_link word c.args.q p c.args.self.now c.args.f.now c.book-before.result c.ins-ins.result c.outs-outs.result c.in-Ok.starts (g.P.Port.state c.accept_sent.new.self)
    c.commit.new.self is c.requires.straight c.requires.free c.book-before.ensures.book
    (c.ins-ins.ensures p c.requires.number (sym c.book-before.ensures.book)) outs_is c.in-Ok.ensures.value c.accept_sent.ensures
    (c.commit.ensures p c.requires.number (sym c.book-before.ensures.book))

pub returns-in-Err : goal.returns-in-Err
returns-in-Err g c = λ is_link word is.
    let p = g.P.Port.state c.args.port.now in
    let outs_is = outs_sent c.args.f.now p c.ins-ins.result _ _ c.outs-outs.result c.outs-outs.ensures c.sends-sent.ensures.add c.sends-sent.ensures.mul in (
      exec_fault is_link word c.args.q p c.args.self.now c.args.f.now c.book-before.result c.ins-ins.result c.outs-outs.result c.in-Err.kind is c.requires.straight c.requires.free
          c.book-before.ensures.book (c.ins-ins.ensures p c.requires.number (sym c.book-before.ensures.book)) outs_is c.in-Err.ensures.value,
      c.fail.ensures,
      refl,
    )
