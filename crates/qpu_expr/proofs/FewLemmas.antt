-- An expansion leaves as many lines as it counts words, and so no more than the limit.
use Rattle.std.proofs.Common.{◌≡◌, ℕ, ◌≤◌, List, length, Ok, refl, arith}
use Rattle.std.specs.Prelude.{IfOk}
use Rattle.std.proofs.lemmas.Result.{IfOk-at_ok}
use Rattle.qpu_token.specs.declared.token.Token.{Token}
use Rattle.qpu_expr.specs.declared.limits.TheConstants.{MOST_WORDS, MOST_DEPTH}
use Rattle.qpu_expr.specs.LineTokens.{LineTokens}
use Rattle.qpu_expr.specs.Lines.{lines_of}
use Rattle.qpu_expr.specs.StageParts.{Stage}
use Rattle.qpu_expr.specs.Stage.{first_stage}
use Rattle.qpu_expr.specs.Expansion.{then, Left, left_of, run_within, expansion}
use Rattle.qpu_expr.proofs.KeepLemmas.{then_keeps, within_keeps}
use Rattle.qpu_expr.proofs.CountLemmas.{IsCounted, counts}

few_lines : (text : List ℕ) (depth : ℕ) (lines : List LineTokens) → IfOk (then {A = Stage} {B = Left} (run_within text depth lines first_stage) (λ s. Ok (left_of s))) (λ left. length left.lines ≤ MOST_WORDS)
few_lines text depth lines =
    then_keeps IsCounted (λ left. length left.lines ≤ MOST_WORDS) (run_within text depth lines first_stage) (λ s. Ok (left_of s))
    (within_keeps text IsCounted (λ line. Unit {0}) (counts text) depth lines first_stage (λ k d within. tt) (record { same = refl; few = omega arith }))
    (λ s c. let same = c.same in let few = c.few in omega (arith, same, few))

pub few_left : (text : List ℕ) (tokens : List Token) (left : Left) → expansion text tokens ≡ Ok left → length left.lines ≤ MOST_WORDS
unfolding expansion
few_left text tokens left e = IfOk-at_ok (λ left. length left.lines ≤ MOST_WORDS) e (few_lines text MOST_DEPTH (lines_of text tokens))
