-- A text is expanded as the language's rules tell.
use Rattle.std.proofs.Common.{◌≡◌, ℕ, List, [], Ok, refl, ap, sym, subst, ◌∙◌}
use Rattle.qpu_token.specs.declared.token.Token.{Token}
use Rattle.qpu_expr.specs.declared.limits.TheConstants.{MOST_DEPTH}
use Rattle.qpu_expr.specs.Lines.{lines_of}
use Rattle.qpu_expr.specs.StageParts.{Stage}
use Rattle.qpu_expr.specs.Stage.{first_stage}
use Rattle.qpu_expr.specs.Expansion.{then, Left, left_of, run_within, expansion}
use Rattle.qpu_expr.specs.Rules.{Expands, nothing_known, IsExpansion, ExpandsByRules}
use Rattle.qpu_expr.proofs.RuleLineLemmas.{stage, known_of}
use Rattle.qpu_expr.proofs.RuledLemmas.{then_ok, same_ok, within_out}
use Rattle.qpu_expr.proofs.RuleRunLemmas.{runs}

follows : (text : List ℕ) (tokens : List Token) (left : Left) → expansion text tokens ≡ Ok left → IsExpansion text tokens left
unfolding expansion
follows text tokens left e =
    let p = then_ok (run_within text MOST_DEPTH (lines_of text tokens) first_stage) (λ (s : Stage). Ok (left_of s)) left e in
    let o = within_out text MOST_DEPTH (lines_of text tokens) first_stage p.0 p.1 in
    let same = same_ok (left_of p.0) left p.2 in
    subst (IsExpansion text tokens) same (record { known = known_of p.0; expands = subst (Expands text MOST_DEPTH nothing_known _ (known_of p.0)) (sym o.joined) o.expands; labels = refl })

is_expanded : (text : List ℕ) (tokens : List Token) (left : Left) → IsExpansion text tokens left → expansion text tokens ≡ Ok left
unfolding expansion
is_expanded text tokens left i =
    let led : left_of (stage i.known left.lines) ≡ left = ap (λ labels. record { lines = left.lines; labels = labels }) (sym i.labels) in
    ap (λ r. then r (λ (s : Stage). Ok (left_of s))) (runs [] i.expands) ∙ ap (λ l. Ok l) led

pub expands_by_rules : ExpandsByRules
expands_by_rules text tokens left = (follows text tokens left, is_expanded text tokens left)
