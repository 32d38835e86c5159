-- The codes of small immediates.
use Rattle.std.proofs.Common.{◌≡◌, ◌≢◌, ℕ, zero, suc, ◌+◌, ◌<◌, ◌≤◌, Bool, true, false, refl, arith}
use Rattle.std.specs.Prelude.{◌==◌, find, Some, None}
use Rattle.std.specs.List.{range_with_len}
use Rattle.std.proofs.lemmas.Bool.Decides.{nat_tests}
use Rattle.qpu_word.specs.Operands.{small_value}
use Rattle.qpu_asm.specs.Roles.{code_of}

-- the first number of a range for which a test holds
find_on : (p : ℕ → Bool) (b : Bool) (a n c : ℕ) → p a ≡ b → (a ≡ c → b ≡ true) → (a < c → b ≡ false) → a ≤ c
    → (suc a ≤ c → find p (range_with_len (a + 1) n) ≡ Some c)
    → find p (range_with_len a (suc n)) ≡ Some c
find_on p true a n c e here before low later = rw e (let same : a ≡ c = grind (arith, before) in rw same refl)
find_on p false a n c e here before low later = rw e (later (let other : a ≢ c = λ same. grind (arith, here same) in omega (arith, other)))

find_in : (p : ℕ → Bool) (a n c : ℕ) → a ≤ c → c < a + n → p c ≡ true → ((k : ℕ) → k < c → p k ≡ false) → find p (range_with_len a n) ≡ Some c
find_in p a zero c low high here before = absurd (omega arith)
find_in p a (suc n) c low high here before =
    find_on p (p a) a n c refl (λ same. rw same here) (before a) low (λ more. find_in p (a + 1) n c (omega arith) (omega arith) here before)

find_no : (p : ℕ → Bool) (a n m : ℕ) → a + n ≡ m → ((k : ℕ) → k < m → p k ≡ false) → find p (range_with_len a n) ≡ None
find_no p a zero m e none = refl
find_no p a (suc n) m e none = rw (none a (omega arith)) (find_no p (a + 1) n m (omega arith) none)

-- codes with one value are the same
distinct : (k c : ℕ) → k < c → c < 48 → (small_value k == small_value c) ≡ false
unfolding small_value
distinct k c less below = grind (arith, nat_tests)

same_value : (v w : ℕ) → v ≡ w → (v == w) ≡ true
same_value v w e = grind (arith, nat_tests)

other_value : (v w : ℕ) → v ≢ w → (v == w) ≡ false
other_value v w e = grind (arith, nat_tests)

pub code_found : (value code : ℕ) → code < 48 → small_value code ≡ value → code_of value ≡ Some code
unfolding code_of
code_found value code b e =
    find_in (λ k. small_value k == value) 0 48 code (omega arith) (omega arith) (same_value _ _ e) (λ k less. rw (← e) (distinct k code less b))

pub no_code : (value : ℕ) → ((code : ℕ) → code < 48 → small_value code ≢ value) → code_of value ≡ None
unfolding code_of
no_code value none = find_no (λ k. small_value k == value) 0 48 48 refl (λ k less. other_value _ _ (none k less))
