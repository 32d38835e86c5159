use Rattle.std.proofs.Common.{◌≡◌, ◌++◌, ◌∷◌, [], List, ap, sym, subst, ◌∙◌}
use Rattle.qpu_machine.specs.declared.journal.Run.{Run}
use Rattle.qpu_machine.specs.Journal.{IsMerged, pushed}
use Rattle.qpu_machine.specs.RunList.{RunListState}
use Rattle.qpu_machine.proofs.JournalLemmas.{stays_merged}
use Rattle.qpu_machine.proofs.run_list.RunList.add.Goals as goal

pub invariant_of-self : goal.invariant_of-self
invariant_of-self c =
    let xs : List Run = c.self.inside.runs.items in
    let same : xs ≡ c.args.self.now.runs = ap (λ (x : RunListState). x.runs) (c.self.view_is ∙ c.if-not-count_on.ensures.same) in
    let more : xs ++ (record { actor = c.args.actor; count = c.args.count }) ∷ [] ≡ pushed xs c.args.actor c.args.count =
    rw same c.if-not-count_on.ensures.one_more in
    subst IsMerged (sym (c.push_reserved.ensures.items ∙ more)) (stays_merged xs c.args.actor c.args.count c.self.invariant c.requires.some)
