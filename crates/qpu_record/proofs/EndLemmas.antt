-- The last byte of a job.
use Rattle.std.proofs.Common.{◌≡◌, ℕ, zero, suc, List, [], ◌∷◌, length, get_or, refl, arith}
use Rattle.std.specs.Prelude.{◌==◌}
use Rattle.qpu_record.specs.Record.{ends_line}

-- a text ends with a line feed where its last byte is one
pub ends_line_last : (xs : List ℕ) (i : ℕ) → suc i ≡ length xs → ends_line xs ≡ (get_or xs i 0 == 10)
ends_line_last [] i e = absurd (omega (arith, e))
ends_line_last (b ∷ []) zero e = refl
ends_line_last (b ∷ []) (suc i) e = absurd (omega (arith, e))
ends_line_last (b ∷ c ∷ more) zero e = absurd (omega (arith, e))
ends_line_last (b ∷ c ∷ more) (suc i) e = ends_line_last (c ∷ more) i (omega (arith, e))
