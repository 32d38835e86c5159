-- What the names of sources stand for, and the numbers that figures are.
use Rattle.std.proofs.Common.{◌≡◌, ℕ, ◌<◌, ◌≤◌, Bool, true, false, refl, arith}
use Rattle.std.proofs.lemmas.Bool.Decides.{nat_tests}
use Rattle.std.specs.Prelude.{◌==◌, nat_lt, Some, if◌then◌else◌}
use Rattle.qpu_word.specs.declared.name.Place.TheVariants as place
use Rattle.qpu_word.specs.Operands.{small_value}
use Rattle.qpu_line.specs.declared.operand.Operand.TheVariants.{FileA, FileB}
use Rattle.qpu_line.specs.declared.name.Name.TheVariants as name
use Rattle.qpu_line.specs.declared.name.Register.TheVariants as register
use Rattle.qpu_line.specs.Lines.{Hexadecimal, worth, signed_figure, small_figure, source_a, source_b}
use Rattle.qpu_line.proofs.ImmediateLemmas.{small_fits}
use Rattle.qpu_asm.specs.Roles.{source_of}

-- names of sources

vpm_source : (n : ℕ) → (n == 48) ≡ true → source_of (name.Register register.Vpm) ≡ Some (FileA n 0)
vpm_source n e = let is : n ≡ 48 = grind (arith, nat_tests, e) in rw is refl

source_a_by : (n : ℕ) (a b : Bool) → (n == 48) ≡ b
    → source_of (if a then name.Register (register.RowA n) else if b then name.Register register.Vpm else name.Register (register.Source (place.FileA n))) ≡ Some (FileA n 0)
source_a_by n true b e = refl
source_a_by n false true e = vpm_source n e
source_a_by n false false e = refl

pub source_a_is : (n : ℕ) → source_of (source_a n) ≡ Some (FileA n 0)
source_a_is n = source_a_by n (nat_lt n 32) (n == 48) refl

source_b_by : (n : ℕ) (a : Bool)
    → source_of (if a then name.Register (register.RowB n) else name.Register (register.Source (place.FileB n))) ≡ Some (FileB n)
source_b_by n true = refl
source_b_by n false = refl

pub source_b_is : (n : ℕ) → source_of (source_b n) ≡ Some (FileB n)
source_b_is n = source_b_by n (nat_lt n 32)

-- numbers

signed_worth : (n : ℕ) (b : Bool) → nat_lt n 2147483648 ≡ b → n < 4294967296 → worth (signed_figure n) ≡ n
signed_worth n true e near = rw e refl
signed_worth n false e near = let far : 2147483648 ≤ n = grind (arith, nat_tests, e) in rw e (omega arith)

pub figure_worth : (signed : Bool) (n : ℕ) → n < 4294967296 → worth (if signed then signed_figure n else Hexadecimal n) ≡ n
figure_worth true n near = signed_worth n (nat_lt n 2147483648) refl near
figure_worth false n near = refl

pub worth_of_small : (n : ℕ) → n < 48 → worth (small_figure n) ≡ small_value n
worth_of_small n near =
    let low : nat_lt n 48 ≡ true = grind (arith, nat_tests, near) in rw low (figure_worth (nat_lt n 32) (small_value n) (small_fits n near))
