use Rattle.std.proofs.Common.{◌≡◌, length, refl, ap, arith}
use Rattle.qpu_shared.specs.SharedState.{SharedState}
use Rattle.qpu_shared.proofs.PendingLemmas.{entry_same, started_set}
use Rattle.qpu_shared.proofs.shared.Shared.finish_look.Goals as goal

pub fetched-requires-clause-waiting : goal.fetched-requires-clause-waiting
fetched-requires-clause-waiting c =
    let same : c.self.inside.pending ≡ c.args.self.now.pending = ap (λ (h : SharedState). h.pending) c.self.view_is in
    rw (entry_same c.self.inside.pending c.args.q c.index-self-q.result (omega (arith, c.requires.q)), same) c.requires.waiting

pub invariant_of-self : goal.invariant_of-self
invariant_of-self c =
    let fits = c.self.invariant c.args.q c.index-self-q.result (omega (arith, c.requires.q)) in
    started_set (length c.self.inside.memory) c.self.inside.pending c.args.q _ (record { load = fits.load; store = fits.store }) c.self.invariant

pub returns : goal.returns
returns c =
    rw (c.fetched.ensures, entry_same c.self.inside.pending c.args.q c.index-self-q.result (omega (arith, c.requires.q)), ← c.self.view_is) refl
