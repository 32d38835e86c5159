use Rattle.std.proofs.Common.{◌≡◌, ap, sym, ◌∙◌}
use Rattle.qpu_shared.specs.SharedState.{SharedState}
use Rattle.qpu_shared.specs.Views.{shared_state}
use Rattle.qpu_shared.proofs.MoveLemmas.{one_loaded, one_stored}
use Rattle.qpu_shared.proofs.shared.Shared.carry.Goals as goal

pub returns-in-Some-clause-carried : goal.returns-in-Some-clause-carried
returns-in-Some-clause-carried c =
    rw (c.in-Load.is, ← c.self.view_is, c.set_part.ensures.words)
    (one_loaded (shared_state c.self.inside) c.args.pair c.in-Some.value (sym c.part.ensures ∙ c.in-Some.is))

pub returns-in-Store-clause-carried : goal.returns-in-Store-clause-carried
returns-in-Store-clause-carried c =
    let same : c.self.inside.memory ≡ c.args.self.now.memory = ap (λ (h : SharedState). h.memory) c.self.view_is in
    rw (c.in-Store.is, ← c.self.view_is, c.set_part-in-Store.ensures.words)
    (one_stored (shared_state c.self.inside) c.args.pair c.part-value.result (rw same c.requires.word) c.part-value.ensures.part)
