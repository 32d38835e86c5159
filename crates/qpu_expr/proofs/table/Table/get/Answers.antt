use Rattle.std.proofs.Common.{ap, ◌∙◌}
use Rattle.qpu_expr.specs.Tables.{found}
use Rattle.qpu_expr.proofs.TableLemmas.{found_at}
use Rattle.qpu_expr.proofs.table.Table.get.Goals as goal

pub returns : goal.returns
returns g c =
    c.get.ensures.value
    ∙ (found_at (λ k. k.items) c.args.name.now c.self.inside.entries.entries ∙ ap (λ t. found c.args.name.now t) c.self.view_is)
