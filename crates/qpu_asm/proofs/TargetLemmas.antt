-- Targets of a line in which no fault is found go into a word: what they are, and that two of them want one order
-- of the files.
use Rattle.std.proofs.Common.{◌≡◌, ℕ, ◌<◌, inl, Bool, true, false, List, [], Option, Some, None, refl, arith}
use Rattle.std.specs.Prelude.{◌==◌, not, IfSome, unwrap_or, if◌then◌else◌}
use Rattle.std.proofs.lemmas.Bool.Decides.{nat_tests}
use Rattle.qpu_token.specs.declared.token.Token.{Token}
use Rattle.qpu_word.specs.declared.name.Place.{Place}
use Rattle.qpu_word.specs.declared.name.Place.TheVariants as place
use Rattle.qpu_word.specs.Words.{is_write_address, is_link_address, between}
use Rattle.qpu_word.specs.Canonical.{file_matters}
use Rattle.qpu_line.specs.declared.name.Name.{Name}
use Rattle.qpu_line.specs.Targets.{target_at_address, address_of, exchange_of}
use Rattle.qpu_line.specs.Worded.{IsTarget}
use Rattle.qpu_asm.specs.declared.piece.Core.{Core}
use Rattle.qpu_asm.specs.declared.piece.Core.TheVariants as core
use Rattle.qpu_asm.specs.declared.piece.Suffix.{Suffix}
use Rattle.qpu_asm.specs.declared.mark.What.{What}
use Rattle.qpu_asm.specs.declared.mark.What.TheVariants as what
use Rattle.qpu_asm.specs.declared.mark.Mark.{Mark}
use Rattle.qpu_asm.specs.Roles.{target_meant as named_target}
use Rattle.qpu_asm.specs.reader.Marks.{target_place, place_mark, somewhere}
use Rattle.qpu_asm.specs.Roles.{if_link}
use Rattle.qpu_asm.specs.Clashes.{cross}
use Rattle.qpu_asm.specs.reader.Meanings.{condition_of, condition_in, branch_condition_of, branch_condition_in, nowhere_place, place_of}
use Rattle.qpu_asm.proofs.GoodNames.{is_placed, target_good, condition_good, branch_condition_good}
use Rattle.qpu_asm.proofs.MarkLemmas.{Has}
use Rattle.qpu_asm.proofs.ProperParts.{GoodCore, GoodName, GoodSuffix}
use Rattle.qpu_asm.proofs.TestLemmas.{both_true}

-- a value or what stands for none
pub or_else : {A : Type 0} (P : A → Type 0) (o : Option A) (d : A) → IfSome o P → P d → P (unwrap_or o d)
or_else P None d is other = other
or_else P (Some a) d is other = is

-- suffixes

condition_named : (n : Option Name) → GoodName n → IfSome (condition_of n) (λ c. between 1 c 7 ≡ true)
condition_named None good = tt
condition_named (Some n) good = condition_good n good

pub condition_fits : (s : Option Suffix) → GoodSuffix s → between 1 (condition_in s) 7 ≡ true
condition_fits None good = refl
condition_fits (Some s) good = or_else (λ c. between 1 c 7 ≡ true) (condition_of s.name) 1 (condition_named s.name good) refl

branch_named : (n : Option Name) → GoodName n → IfSome (branch_condition_of n) (λ c. c < 12)
branch_named None good = tt
branch_named (Some n) good = branch_condition_good n good

abbrev BranchFits : ℕ → Type 0
BranchFits c = (c < 16) × (between 12 c 14 ≡ false)

low_fits : (c : ℕ) → c < 12 → BranchFits c
low_fits c low = (omega arith, grind (arith, nat_tests, low))

mapped : {A : Type 0} (P Q : A → Type 0) (o : Option A) → ((a : A) → P a → Q a) → IfSome o P → IfSome o Q
mapped P Q None f is = tt
mapped P Q (Some a) f is = f a is

pub branch_fits : (s : Option Suffix) → GoodSuffix s → BranchFits (branch_condition_in s)
branch_fits None good = (omega arith, refl)
branch_fits (Some s) good =
    or_else BranchFits (branch_condition_of s.name) 15 (mapped (λ c. c < 12) BranchFits (branch_condition_of s.name) low_fits (branch_named s.name good)) (omega arith, refl)

-- places

abbrev IsPlaced : Place → Type 0
IsPlaced p = is_placed p ≡ true

place_good : (c : Core) → GoodCore c → IfSome (target_place c) IsPlaced
place_good (core.Name n) good = target_good n good
place_good (core.Number n) good = tt
place_good core.Unknown good = tt
place_good core.Nowhere good = refl
place_good (core.Label at) good = tt

pub placed_fits : (c : Core) → GoodCore c → is_placed (place_of c) ≡ true
placed_fits c good = or_else IsPlaced (target_place c) nowhere_place (place_good c good) refl

pub written_address : (p : Place) → is_placed p ≡ true → is_write_address (address_of p) ≡ true
written_address (place.Both a) placed = (both_true (is_write_address a) (not (file_matters a)) placed).0
written_address (place.FileA a) placed = (both_true (is_write_address a) (file_matters a) placed).0
written_address (place.FileB a) placed = (both_true (is_write_address a) (file_matters a) placed).0

-- the marks of places

pub place_told : (o : Option Place) (token : Token) (U : List Mark) → ((w : What) → Has w (place_mark o token []) → Has w U) → (Has what.Wrong U → ⊥)
    → Has (what.Writes (unwrap_or o nowhere_place)) U
place_told None token U inside right = absurd (right (inside what.Wrong (inl refl)))
place_told (Some p) token U inside right = inside (what.Writes p) (inl refl)

-- a second target is the place that its core is
pub second_told : (c : Core) (token : Token) (U : List Mark) → ((w : What) → Has w (place_mark (somewhere c) token []) → Has w U) → (Has what.Wrong U → ⊥)
    → Has (what.Writes (place_of c)) U
second_told (core.Name n) token U inside right = place_told (named_target n) token U inside right
second_told (core.Number n) token U inside right = absurd (right (inside what.Wrong (inl refl)))
second_told core.Unknown token U inside right = absurd (right (inside what.Wrong (inl refl)))
second_told core.Nowhere token U inside right = absurd (right (inside what.Wrong (inl refl)))
second_told (core.Label at) token U inside right = absurd (right (inside what.Wrong (inl refl)))

-- what a branch links to
pub record IsLink (p : Place) (U : List Mark) : Type 0 where
  pub link : is_link_address (address_of p) ≡ true
  pub told : Has (what.Writes p) U

link_by : (p : Place) (b : Bool) (token : Token) (U : List Mark) → is_link_address (address_of p) ≡ b
    → ((w : What) → Has w (place_mark (if b then Some p else None) token []) → Has w U) → (Has what.Wrong U → ⊥) → IsLink p U
link_by p true token U is inside right = record { link = is; told = inside (what.Writes p) (inl refl) }
link_by p false token U is inside right = absurd (right (inside what.Wrong (inl refl)))

pub link_told : (o : Option Place) (token : Token) (U : List Mark) → ((w : What) → Has w (place_mark (if_link o) token []) → Has w U) → (Has what.Wrong U → ⊥)
    → IsLink (unwrap_or o nowhere_place) U
link_told None token U inside right = absurd (right (inside what.Wrong (inl refl)))
link_told (Some p) token U inside right = link_by p (is_link_address (address_of p)) token U refl inside right

pub second_link_told : (c : Core) (token : Token) (U : List Mark) → ((w : What) → Has w (place_mark (if_link (somewhere c)) token []) → Has w U) → (Has what.Wrong U → ⊥)
    → IsLink (place_of c) U
second_link_told (core.Name n) token U inside right = link_told (named_target n) token U inside right
second_link_told (core.Number n) token U inside right = absurd (right (inside what.Wrong (inl refl)))
second_link_told core.Unknown token U inside right = absurd (right (inside what.Wrong (inl refl)))
second_link_told core.Nowhere token U inside right = absurd (right (inside what.Wrong (inl refl)))
second_link_told (core.Label at) token U inside right = absurd (right (inside what.Wrong (inl refl)))

-- one order of the files

pub record TargetsFit (p q : Place) : Type 0 where
  pub add : IsTarget (exchange_of p q == 1) p
  pub mul : IsTarget (not (exchange_of p q == 1)) q

either_target : (in_b : Bool) (a : ℕ) → is_placed (place.Both a) ≡ true → IsTarget in_b (place.Both a)
unfolding target_at_address
either_target in_b a placed = let e : file_matters a ≡ false = not_true (file_matters a) (both_true (is_write_address a) (not (file_matters a)) placed).1 in rw e refl
  where
    not_true : (b : Bool) → not b ≡ true → b ≡ false
    not_true true e = absurd (grind (arith, e))
    not_true false e = refl

a_target : (in_b : Bool) (a : ℕ) → is_placed (place.FileA a) ≡ true → in_b ≡ false → IsTarget in_b (place.FileA a)
unfolding target_at_address
a_target in_b a placed is = let e : file_matters a ≡ true = (both_true (is_write_address a) (file_matters a) placed).1 in rw (is, e) refl

b_target : (in_b : Bool) (a : ℕ) → is_placed (place.FileB a) ≡ true → in_b ≡ true → IsTarget in_b (place.FileB a)
unfolding target_at_address
b_target in_b a placed is = let e : file_matters a ≡ true = (both_true (is_write_address a) (file_matters a) placed).1 in rw (is, e) refl

pub targets_fit : (p q : Place) → is_placed p ≡ true → is_placed q ≡ true → cross p q ≡ false → TargetsFit p q
targets_fit (place.Both a) (place.Both b) x y z = record { add = either_target _ a x; mul = either_target _ b y }
targets_fit (place.Both a) (place.FileA b) x y z = record { add = either_target _ a x; mul = a_target _ b y refl }
targets_fit (place.Both a) (place.FileB b) x y z = record { add = either_target _ a x; mul = b_target _ b y refl }
targets_fit (place.FileA a) (place.Both b) x y z = record { add = a_target _ a x refl; mul = either_target _ b y }
targets_fit (place.FileA a) (place.FileA b) x y z = absurd (grind (arith, z))
targets_fit (place.FileA a) (place.FileB b) x y z = record { add = a_target _ a x refl; mul = b_target _ b y refl }
targets_fit (place.FileB a) (place.Both b) x y z = record { add = b_target _ a x refl; mul = either_target _ b y }
targets_fit (place.FileB a) (place.FileA b) x y z = record { add = b_target _ a x refl; mul = a_target _ b y refl }
targets_fit (place.FileB a) (place.FileB b) x y z = absurd (grind (arith, z))

pub cross_nowhere : (p : Place) → cross p nowhere_place ≡ false
cross_nowhere (place.Both a) = refl
cross_nowhere (place.FileA a) = refl
cross_nowhere (place.FileB a) = refl
