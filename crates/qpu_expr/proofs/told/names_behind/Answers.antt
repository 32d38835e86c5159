use Rattle.std.proofs.Common.{drop, ap, ◌∙◌}
use Rattle.std.specs.Prelude.{fold}
use Rattle.qpu_expr.specs.declared.walk.Walk.TheVariants.{Names}
use Rattle.qpu_expr.specs.Walks.{walked, walk_twice}
use Rattle.qpu_expr.proofs.WalkedLemmas.{names_repeat}
use Rattle.qpu_expr.proofs.told.names_behind.Goals as goal

pub returns : goal.returns
returns c =
    let tokens = drop c.args.skip c.args.line.now.tokens in
    let walks = walked c.args.text.now c.sets.result.now in
    c.twice.ensures
    ∙ (ap (λ ms. walk_twice c.args.text.now ms c.read_line.new.walk) c.macros.ensures
    ∙ (ap (walk_twice c.args.text.now c.args.state.now.macros) (c.in_ok-read_line.ensures ∙ ap (λ h. fold walks (Names h) tokens) c.new.ensures)
    ∙ names_repeat c.args.text.now c.sets.result.now c.args.state.now.macros tokens))
