-- Each line that an expansion leaves ends with a line end.
use Rattle.std.proofs.Common.{◌≡◌, ℕ, List, Ok}
use Rattle.std.specs.Prelude.{All, IfOk}
use Rattle.std.proofs.lemmas.Result.{IfOk-at_ok}
use Rattle.qpu_token.specs.declared.token.Token.{Token}
use Rattle.qpu_expr.specs.declared.limits.TheConstants.{MOST_DEPTH}
use Rattle.qpu_expr.specs.LineTokens.{LineTokens}
use Rattle.qpu_expr.specs.Lines.{lines_of}
use Rattle.qpu_expr.specs.StageParts.{Stage}
use Rattle.qpu_expr.specs.Stage.{first_stage}
use Rattle.qpu_expr.specs.Expansion.{then, Left, left_of, run_within, expansion}
use Rattle.qpu_expr.specs.Ended.{IsEnded}
use Rattle.qpu_expr.proofs.KeepLemmas.{then_keeps, within_keeps}
use Rattle.qpu_expr.proofs.EndLemmas.{HasEnd, lines_end}
use Rattle.qpu_expr.proofs.StageEndLemmas.{StageEnds, first_ends, stages_end}

ended_lines : (text : List ℕ) (depth : ℕ) (lines : List LineTokens) → All HasEnd lines → IfOk (then {A = Stage} {B = Left} (run_within text depth lines first_stage) (λ s. Ok (left_of s))) (λ left. All IsEnded left.lines)
ended_lines text depth lines all =
    then_keeps StageEnds (λ left. All IsEnded left.lines) (run_within text depth lines first_stage) (λ s. Ok (left_of s))
    (within_keeps text StageEnds HasEnd (stages_end text) depth lines first_stage all first_ends)
    (λ s ends. ends.lines)

pub ended_left : (text : List ℕ) (tokens : List Token) (left : Left) → expansion text tokens ≡ Ok left → All IsEnded left.lines
unfolding expansion
ended_left text tokens left e = IfOk-at_ok (λ left. All IsEnded left.lines) e (ended_lines text MOST_DEPTH (lines_of text tokens) (lines_end text tokens))
