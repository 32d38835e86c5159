use Rattle.std.proofs.Common.{◌≡◌, drop, ap, subst, ◌∙◌}
use Rattle.std.specs.Prelude.{IfOk, fold}
use Rattle.qpu_expr.specs.declared.walk.Walk.TheVariants.{Parts}
use Rattle.qpu_expr.specs.Walks.{walked, walk_lacks}
use Rattle.qpu_expr.proofs.WalkedLemmas.{parts_lack}
use Rattle.qpu_expr.proofs.told.parts_behind.Goals as goal

pub returns : goal.returns
returns c =
    let tokens = drop c.args.skip c.args.line.now.tokens in
    subst (λ u. IfOk c.lacks.result (λ place. place ≡ u))
    (ap (walk_lacks c.args.text.now c.args.sets.now) (c.in_ok-read_line.ensures ∙ ap (λ s. fold (walked c.args.text.now c.args.sets.now) (Parts s) tokens) c.new.ensures)
    ∙ parts_lack c.args.text.now c.args.sets.now tokens)
    c.lacks.ensures
