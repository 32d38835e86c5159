use Rattle.std.proofs.Common.{drop, ap, ◌∙◌}
use Rattle.std.specs.Prelude.{fold}
use Rattle.qpu_expr.specs.declared.walk.Walk.TheVariants.{Number}
use Rattle.qpu_expr.specs.declared.form.Outline.{Outline}
use Rattle.qpu_expr.specs.Forms.{is_form}
use Rattle.qpu_expr.specs.Walks.{walked, walk_outline}
use Rattle.qpu_expr.proofs.WalkedLemmas.{number_whole, number_unknown}
use Rattle.qpu_expr.proofs.told.number_behind.Goals as goal

pub returns-clause-whole : goal.returns-clause-whole
returns-clause-whole c =
    let tokens = drop c.args.skip c.args.line.now.tokens in
    ap (λ (o : Outline). is_form o.form) (c.outline.ensures ∙ ap walk_outline (c.in_ok-read_line.ensures ∙ ap (λ o. fold (walked c.args.text.now c.args.sets.now) (Number o) tokens) c.new.ensures))
    ∙ number_whole c.args.text.now c.args.sets.now tokens

pub returns-clause-unknown : goal.returns-clause-unknown
returns-clause-unknown c =
    let tokens = drop c.args.skip c.args.line.now.tokens in
    ap (λ (o : Outline). o.unknown) (c.outline.ensures ∙ ap walk_outline (c.in_ok-read_line.ensures ∙ ap (λ o. fold (walked c.args.text.now c.args.sets.now) (Number o) tokens) c.new.ensures))
    ∙ number_unknown c.args.text.now c.args.sets.now tokens
