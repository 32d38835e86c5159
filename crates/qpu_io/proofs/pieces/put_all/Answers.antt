-- A piece that is cut off cuts the pieces off there.
use Rattle.std.proofs.Common.{arith, refl}
use Rattle.std.proofs.lemmas.Result.{err_from_is_err_and}
use Rattle.qpu_io.specs.Text.{piece_text}
use Rattle.qpu_io.proofs.Outputs.{each_cut}
use Rattle.qpu_io.proofs.pieces.put_all.Goals as goal

pub returns-in_err-put_piece : goal.returns-in_err-put_piece
returns-in_err-put_piece g c =
    let p = err_from_is_err_and c.from_residual.result c.from_residual.ensures.1 in
    rw p.1
    (each_cut piece_text c.args.pieces.now c.loop-piece.piece-index _ _ _ _ _ (omega arith) refl
    c.loop-piece.invariant c.in_err-put_piece.ensures)
