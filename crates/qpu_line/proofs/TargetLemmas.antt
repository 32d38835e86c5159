-- Targets give their addresses back, and with them whether the files are exchanged.
use Rattle.std.proofs.Common.{◌≡◌, ℕ, ◌<◌, Bool, true, false, refl, arith, ◌∙◌}
use Rattle.std.specs.Prelude.{◌==◌, ◌&&◌, ◌||◌, not, if◌then◌else◌}
use Rattle.std.proofs.lemmas.Bool.Decides.{nat_tests}
use Rattle.qpu_word.specs.declared.name.Place.{Place}
use Rattle.qpu_word.specs.declared.name.Place.TheVariants.{Both, FileA, FileB}
use Rattle.qpu_word.specs.declared.word.Fields.{Fields}
use Rattle.qpu_word.specs.Canonical.{exchange_rule, file_matters}
use Rattle.qpu_line.specs.Targets.{target_at_address, address_of, exchange_of}

-- a target by whether its file matters
abbrev pub place_of : Bool → Bool → ℕ → Place
place_of matters in_b a = if matters then (if in_b then FileB a else FileA a) else Both a

address_of_place : (matters in_b : Bool) (a : ℕ) → address_of (place_of matters in_b a) ≡ a
address_of_place true true a = refl
address_of_place true false a = refl
address_of_place false in_b a = refl

pub address_back : (in_b : Bool) (a : ℕ) → address_of (target_at_address in_b a) ≡ a
unfolding target_at_address
address_back in_b a = address_of_place (file_matters a) in_b a

exchange_of_places : (m n ws : Bool) (a b : ℕ) → (not ws || m || n) ≡ true → exchange_of (place_of m ws a) (place_of n (not ws) b) ≡ (if ws then 1 else 0)
exchange_of_places true n true a b why = refl
exchange_of_places false true true a b why = refl
exchange_of_places false false true a b why = absurd (grind (arith, why))
exchange_of_places true true false a b why = refl
exchange_of_places true false false a b why = refl
exchange_of_places false true false a b why = refl
exchange_of_places false false false a b why = refl

-- a bit is 1 or 0 as it is tested
pub bit_back : (n : ℕ) → n < 2 → (if n == 1 then 1 else 0) ≡ n
bit_back n below = grind (arith, nat_tests)

pub exchange_back : (ws a b : ℕ) → ws < 2 → (not (ws == 1) || file_matters a || file_matters b) ≡ true → exchange_of (target_at_address (ws == 1) a) (target_at_address (not (ws == 1)) b) ≡ ws
unfolding target_at_address
exchange_back ws a b below why = exchange_of_places (file_matters a) (file_matters b) (ws == 1) a b why ∙ bit_back ws below

exchange_by : (ws : ℕ) (p a q b : Bool) → ((ws == 0) || (p && a) || (q && b)) ≡ true → (not (ws == 1) || a || b) ≡ true
exchange_by ws p a q b rule = grind (arith, nat_tests, rule)

-- where the rule of the exchange holds, it is of an address whose file matters
pub exchange_kept : (f : Fields) → exchange_rule f ≡ true → (not (f.ws == 1) || file_matters f.waddr_add || file_matters f.waddr_mul) ≡ true
unfolding exchange_rule
exchange_kept f rule = exchange_by f.ws _ _ _ _ rule
