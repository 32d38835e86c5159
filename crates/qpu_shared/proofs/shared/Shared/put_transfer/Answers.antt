use Rattle.std.proofs.Common.{◌≡◌, length, refl, ap, arith}
use Rattle.qpu_shared.specs.SharedState.{SharedState}
use Rattle.qpu_shared.proofs.PendingLemmas.{entry_same, replaced_fits, started_set}
use Rattle.qpu_shared.proofs.shared.Shared.put_transfer.Goals as goal

pub invariant_of-self : goal.invariant_of-self
invariant_of-self c =
    let same : c.self.inside.memory ≡ c.args.self.now.memory = ap (λ (h : SharedState). h.memory) c.self.view_is in
    let fits = c.self.invariant c.args.q c.index-self-q.result (omega (arith, c.requires.q)) in
    started_set (length c.self.inside.memory) c.self.inside.pending c.args.q _ (rw c.set_transfer.ensures (replaced_fits _ c.args.direction _ _ (rw same c.requires.fits) fits)) c.self.invariant

pub returns : goal.returns
returns c =
    rw (c.set_transfer.ensures, entry_same c.self.inside.pending c.args.q c.index-self-q.result (omega (arith, c.requires.q)), ← c.self.view_is) refl
