-- A search over all addresses finds each name that there is.
use Rattle.std.proofs.Common.{◌≡◌, ◌≢◌, ◌↔◌, ℕ, ◌+◌, ◌<◌, ◌≤◌, Bool, true, false, List, Option, Some, None, IsTrue, ◌⊎◌, inl, inr, subst, arith}
use Rattle.std.proofs.lemmas.Bool.{cases_lt}
use Rattle.std.proofs.lemmas.Bool.Decides.{nat_tests}
use Rattle.std.specs.Prelude.{◌||◌}
use Rattle.qpu_word.specs.Names.{read_name, write_name, IsNoName}
use Rattle.qpu_word.proofs.StepLemmas.{or_left, or_right}

-- no address below a bound has the name
pub record IsUnnamed (names : Bool → ℕ → Option (List ℕ)) (name : List ℕ) (bound : ℕ) : Type 0 where
  pub each : (in_b : Bool) (address : ℕ) → address < bound → names in_b address ≢ Some name

pub unnamed_first : (names : Bool → ℕ → Option (List ℕ)) (name : List ℕ) → IsUnnamed names name 0
unnamed_first names name = record { each = λ in_b address below. absurd (omega arith) }

-- a test that fails tells that the name is another
other : (test : Bool) (found : Option (List ℕ)) (name : List ℕ) → (IsTrue test ↔ (found ≡ Some name)) → test ≡ false → found ≢ Some name
other test found name tells fails is = let holds : IsTrue test = tells.1 is in absurd (cc)

-- neither file's name at an address is the one that is looked for
in_neither : (names : Bool → ℕ → Option (List ℕ)) (name : List ℕ) (i : ℕ) → names false i ≢ Some name → names true i ≢ Some name
    → (file : Bool) → names file i ≢ Some name
in_neither names name i a b false = a
in_neither names name i a b true = b

-- below an address, or at it
up_to : (names : Bool → ℕ → Option (List ℕ)) (name : List ℕ) (i : ℕ) → IsUnnamed names name i
    → ((file : Bool) → names file i ≢ Some name) → (file : Bool) (address : ℕ) → (address < i) ⊎ (i ≤ address) → address < i + 1
    → names file address ≢ Some name
up_to names name i before at file address (inl less) below = before.each file address less
up_to names name i before at file address (inr more) below =
    let same : i ≡ address = omega arith in
    subst (λ a. names file a ≢ Some name) same (at file)

-- one address further, where neither file's name is the one that is looked for
pub unnamed_more : (names : Bool → ℕ → Option (List ℕ)) (name : List ℕ) (i : ℕ) (in_a in_b : Bool)
    → (IsTrue in_a ↔ (names false i ≡ Some name)) → (IsTrue in_b ↔ (names true i ≡ Some name)) → (in_a || in_b) ≡ false
    → IsUnnamed names name i → IsUnnamed names name (i + 1)
unnamed_more names name i in_a in_b tells_a tells_b fails before =
    let a = other in_a (names false i) name tells_a (or_left in_a in_b fails) in
    let b = other in_b (names true i) name tells_b (or_right in_a in_b fails) in
    record { each = λ file address below. up_to names name i before (in_neither names name i a b) file address (cases_lt address i) below }

-- a table that has no name above its first addresses has no such name at all
unnamed_all : (names : Bool → ℕ → Option (List ℕ)) (name : List ℕ) (bound : ℕ) → ((file : Bool) (address : ℕ) → bound ≤ address → names file address ≡ None)
    → IsUnnamed names name bound → IsNoName names name
unnamed_all names name bound far below file address = near_or_far (cases_lt address bound)
  where
    near_or_far : (address < bound) ⊎ (bound ≤ address) → names file address ≢ Some name
    near_or_far (inl near) = below.each file address near
    near_or_far (inr away) = λ is. let none : names file address ≡ None = far file address away in absurd (cc)

-- addresses above 63 have no name
far_read : (file : Bool) (address : ℕ) → 64 ≤ address → read_name file address ≡ None
unfolding read_name
far_read file address far = grind (arith, nat_tests)

far_write : (file : Bool) (address : ℕ) → 64 ≤ address → write_name file address ≡ None
unfolding write_name
far_write file address far = grind (arith, nat_tests)

pub no_read_address : (name : List ℕ) (bound : ℕ) → 64 ≤ bound → IsUnnamed read_name name bound → IsNoName read_name name
no_read_address name bound whole below = unnamed_all read_name name bound (λ file address far. far_read file address (omega arith)) below

pub no_write_address : (name : List ℕ) (bound : ℕ) → 64 ≤ bound → IsUnnamed write_name name bound → IsNoName write_name name
no_write_address name bound whole below = unnamed_all write_name name bound (λ file address far. far_write file address (omega arith)) below
