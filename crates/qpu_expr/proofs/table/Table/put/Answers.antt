use Rattle.std.proofs.Common.{ap, ◌∙◌, map}
use Rattle.qpu_expr.specs.Tables.{put_in}
use Rattle.qpu_expr.proofs.TableLemmas.{put_at}
use Rattle.qpu_expr.proofs.table.Table.put.Goals as goal

pub returns : goal.returns
returns g c =
    ap (λ es. map (λ e. (e.0.items, e.1)) es) c.in_ok-insert.ensures.entries
    ∙ (put_at (λ k. k.items) c.in_ok-name.name c.args.value c.self.inside.entries.entries
    ∙ (ap (λ n. put_in n c.args.value (map (λ e. (e.0.items, e.1)) c.self.inside.entries.entries)) c.in_ok-name.ensures.items
    ∙ ap (λ t. put_in c.args.name.now c.args.value t) c.self.view_is))
