use Rattle.std.proofs.Common.{◌<◌, length, drop, arith}
use Rattle.std.proofs.lemmas.List.{take_rest, length-drop}
use Rattle.qpu_token.proofs.PieceLaw.{piece_here}
use Rattle.qpu_token.proofs.piece.piece_at.Goals as goal

pub returns : goal.returns
returns c =
    let some : 0 < length (drop c.args.at c.args.text.now) = omega (arith, length-drop c.args.at c.args.text.now) in
    rw (c.piece_of.ensures, c.is_dotted.ensures, take_rest c.args.text.now c.args.at) (piece_here _ _ some)
