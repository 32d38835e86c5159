-- Parts of a line, and what stands behind them.
use Rattle.std.proofs.Common.{◌≡◌, ℕ, Bool, true, false, List, [], ◌++◌, refl, subst, sym, append-nil, append_assoc}
use Rattle.std.specs.Prelude.{if◌then◌else◌}
use Rattle.qpu_line.specs.Lines.{Bit, and_then, behind}
use Rattle.qpu_inverse.proofs.Operands.{IsOperand}
use Rattle.qpu_inverse.proofs.Pieces.{IsPiece, later_piece, Works, last_piece, behind_comma, behind_semicolon}

-- what may stand behind a piece
pub record IsTail (text : List ℕ) (bits : List Bit) : Type 0 where
  pub before : (first : Bool) (p : List Bit) → IsPiece text first p → Works text first (p ++ bits)

no_tail : (text : List ℕ) → IsTail text []
no_tail text = record { before = λ first p piece. subst (Works text first) (sym (append-nil p)) (last_piece text first p piece) }

-- a part
pub record IsSection (text : List ℕ) (bits : List Bit) : Type 0 where
  pub works : (rest : List Bit) → IsTail text rest → Works text true (bits ++ rest)

-- what goes on behind a part, or is nothing
pub record IsLater (text : List ℕ) (bits : List Bit) : Type 0 where
  pub before : (rest : List Bit) → IsTail text rest → IsTail text (bits ++ rest)

pub nothing : (text : List ℕ) → IsLater text []
nothing text = record { before = λ rest tail. tail }

pub section : (text : List ℕ) (bits : List Bit) → IsPiece text true bits → IsSection text bits
section text bits piece = record { works = λ rest tail. tail.before true bits piece }

pub section_then : (text : List ℕ) (xs ys : List Bit) → IsSection text xs → IsLater text ys → IsSection text (xs ++ ys)
section_then text xs ys p q = record {
  works = λ rest tail. subst (Works text true) (sym (append_assoc xs ys rest)) (p.works (ys ++ rest) (q.before rest tail));
}

pub operand_later : (text : List ℕ) (bits : List Bit) → IsOperand text bits → IsLater text (and_then bits)
operand_later text bits o = record {
  before = λ rest tail. record { before = λ first p piece. behind_comma text first p (bits ++ rest) piece (tail.before false bits (later_piece text bits o)) };
}

pub section_later : (text : List ℕ) (bits : List Bit) → IsSection text bits → IsLater text (behind bits)
section_later text bits s = record {
  before = λ rest tail. record { before = λ first p piece. behind_semicolon text first p (bits ++ rest) piece (s.works rest tail) };
}

pub either_later : (text : List ℕ) (b : Bool) (xs ys : List Bit) → (b ≡ true → IsLater text xs) → (b ≡ false → IsLater text ys) → IsLater text (if b then xs else ys)
either_later text true xs ys p q = p refl
either_later text false xs ys p q = q refl

-- a whole line
pub line_works : (text : List ℕ) (bits : List Bit) → IsSection text bits → Works text true bits
line_works text bits s = subst (Works text true) (append-nil bits) (s.works [] (no_tail text))
