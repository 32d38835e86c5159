use Rattle.qpu_expr.proofs.TableLemmas.{values_at}
use Rattle.qpu_expr.proofs.table.Table.into_values.Goals as goal

pub returns : goal.returns
returns g c = rw (← c.self.view_is, values_at (λ k. k.items) c.self.inside.entries.entries) c.all_values.ensures
