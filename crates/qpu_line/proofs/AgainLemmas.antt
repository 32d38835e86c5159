-- What targets and bits of an instruction say of the fields of its word.
use Rattle.std.proofs.Common.{◌≡◌, ℕ, ◌<◌, Bool, true, false, refl, arith}
use Rattle.std.specs.Prelude.{◌==◌, ◌||◌, if◌then◌else◌}
use Rattle.std.proofs.lemmas.Bool.Decides.{nat_tests}
use Rattle.qpu_word.specs.declared.name.Place.{Place}
use Rattle.qpu_word.specs.declared.name.Place.TheVariants.{Both, FileA, FileB}
use Rattle.qpu_word.specs.Words.{is_write_address, is_link_address}
use Rattle.qpu_word.specs.Canonical.{file_matters}
use Rattle.qpu_line.specs.Targets.{target_at_address, address_of, in_file_a, in_file_b}
use Rattle.qpu_line.specs.Worded.{IsTarget}

-- targets whose file is told matter
b_matters : (matters in_b : Bool) (a : ℕ) → file_matters a ≡ matters → target_at_address in_b a ≡ FileB a → matters ≡ true
unfolding target_at_address
b_matters true in_b a is to = refl
b_matters false in_b a is to = absurd (grind (arith, is, to))

a_matters : (matters in_b : Bool) (a : ℕ) → file_matters a ≡ matters → target_at_address in_b a ≡ FileA a → matters ≡ true
unfolding target_at_address
a_matters true in_b a is to = refl
a_matters false in_b a is to = absurd (grind (arith, is, to))

pub matters_in_b : (in_b : Bool) (to : Place) → IsTarget in_b to → in_file_b to ≡ true → file_matters (address_of to) ≡ true
matters_in_b in_b (Both a) is there = absurd (grind (arith, there))
matters_in_b in_b (FileA a) is there = absurd (grind (arith, there))
matters_in_b in_b (FileB a) is there = b_matters (file_matters a) in_b a refl is

pub matters_in_a : (in_b : Bool) (to : Place) → IsTarget in_b to → in_file_a to ≡ true → file_matters (address_of to) ≡ true
matters_in_a in_b (Both a) is there = absurd (grind (arith, there))
matters_in_a in_b (FileA a) is there = a_matters (file_matters a) in_b a refl is
matters_in_a in_b (FileB a) is there = absurd (grind (arith, there))

pub exchange_by : (b a add mul : Bool) → (b ≡ true → add ≡ true) → (a ≡ true → mul ≡ true) → (((if b || a then 1 else 0) == 0) || add || mul) ≡ true
exchange_by true a add mul of_b of_a = rw (of_b refl) refl
exchange_by false true true mul of_b of_a = refl
exchange_by false true false mul of_b of_a = rw (of_a refl) refl
exchange_by false false add mul of_b of_a = refl

pub named_below : (a : ℕ) → is_write_address a ≡ true → a < 64
named_below a named = grind (arith, nat_tests, named)

pub bit_below : (b : Bool) → (if b then 1 else 0) < 2
bit_below true = omega arith
bit_below false = omega arith

pub sets_again : (b : Bool) → ((if b then 1 else 0) == 1) ≡ b
sets_again true = refl
sets_again false = refl

pub link_below : (a : ℕ) → is_link_address a ≡ true → a < 64
link_below a named = grind (arith, nat_tests, named)

-- a link address whose file matters is no 39
pub link_writes : (a : ℕ) → file_matters a ≡ true → (a == 39) ≡ false
link_writes a matters = grind (arith, nat_tests, matters)
