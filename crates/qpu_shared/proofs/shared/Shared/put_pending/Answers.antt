use Rattle.std.proofs.Common.{◌≡◌, length, refl, ap, arith}
use Rattle.std.specs.Prelude.{slice_index_or}
use Rattle.qpu_shared.specs.SharedState.{SharedState}
use Rattle.qpu_shared.proofs.PendingLemmas.{entry_same, started_after, started_set}
use Rattle.qpu_shared.proofs.shared.Shared.put_pending.Goals as goal

pub go_on-requires-clause-take0 : goal.go_on-requires-clause-take0
go_on-requires-clause-take0 c =
    let same : c.self.inside.pending ≡ c.args.self.now.pending = ap (λ (h : SharedState). h.pending) c.self.view_is in
    rw (entry_same c.self.inside.pending c.args.q c.index-self-q.result (omega (arith, c.requires.q)), same) c.requires.take0

pub go_on-requires-clause-take1 : goal.go_on-requires-clause-take1
go_on-requires-clause-take1 c =
    let same : c.self.inside.pending ≡ c.args.self.now.pending = ap (λ (h : SharedState). h.pending) c.self.view_is in
    rw (entry_same c.self.inside.pending c.args.q c.index-self-q.result (omega (arith, c.requires.q)), same) c.requires.take1

pub go_on-requires-clause-room : goal.go_on-requires-clause-room
go_on-requires-clause-room c =
    let same : c.self.inside.pending ≡ c.args.self.now.pending = ap (λ (h : SharedState). h.pending) c.self.view_is in
    rw (entry_same c.self.inside.pending c.args.q c.index-self-q.result (omega (arith, c.requires.q)), same) c.requires.room

pub invariant_of-self : goal.invariant_of-self
invariant_of-self c =
    let same : c.self.inside.memory ≡ c.args.self.now.memory = ap (λ (h : SharedState). h.memory) c.self.view_is in
    started_set (length c.self.inside.memory) c.self.inside.pending c.args.q c.go_on.new.self
    (rw c.go_on.ensures
    (started_after c.args.f.now c.args.outs.now c.args.starts.now (length c.self.inside.memory)
    (slice_index_or c.self.inside.pending c.args.q c.index-self-q.result) (rw same c.requires.load) (rw same c.requires.store)
    (c.self.invariant c.args.q c.index-self-q.result (omega (arith, c.requires.q)))))
    c.self.invariant

pub returns : goal.returns
returns c =
    rw (c.go_on.ensures, entry_same c.self.inside.pending c.args.q c.index-self-q.result (omega (arith, c.requires.q)), ← c.self.view_is) refl
