-- Tests, empty lists, and members of filtered lists.
use Rattle.std.proofs.Common.{◌≡◌, ◌⊎◌, ℕ, zero, suc, ◌<◌, Bool, true, false, not, ◌&&◌, ◌||◌, cond, List, [], ◌∷◌, ◌++◌, length, get_or, Option, Some, None, refl, ◌∙◌, ap, inl, inr, arith}
use Rattle.std.specs.Prelude.{filter, All, Contains, IfSome, if◌then◌else◌}
use Rattle.std.specs.List.{range_with_len}
use Rattle.std.proofs.lemmas.List.FromFn.{get_or-range_with_len, length-range_with_len}
use Rattle.std.proofs.lemmas.List.Elements.{Contains-append_right, All-cons, All-nil}
use Rattle.qpu_hazard.specs.Rules.{break_when}

-- lists that are empty together
pub left_empty : {A : Type 0} (xs ys : List A) → xs ++ ys ≡ [] → xs ≡ []
left_empty [] ys e = refl
left_empty (x ∷ xs) ys e = cc

pub right_empty : {A : Type 0} (xs ys : List A) → xs ++ ys ≡ [] → ys ≡ []
right_empty [] ys e = e
right_empty (x ∷ xs) ys e = cc

-- no break is no test
pub when_empty : (test : Bool) (rule before : ℕ) → break_when test rule before ≡ [] → test ≡ false
when_empty false rule before e = refl
when_empty true rule before e = cc

-- tests
pub or_left : (a b : Bool) → (a || b) ≡ false → a ≡ false
or_left false b e = refl
or_left true b e = cc

pub or_right : (a b : Bool) → (a || b) ≡ false → b ≡ false
or_right false b e = e
or_right true b e = cc

pub or_cases : (a b : Bool) → (a || b) ≡ true → (a ≡ true) ⊎ (b ≡ true)
or_cases true b e = inl refl
or_cases false b e = inr e

pub and_first : (a b : Bool) → (a && b) ≡ true → a ≡ true
and_first true b e = refl
and_first false b e = cc

pub and_second : (a b : Bool) → (a && b) ≡ true → b ≡ true
and_second true b e = e
and_second false b e = cc

pub and_both : (a b : Bool) → a ≡ true → b ≡ true → (a && b) ≡ true
and_both true b x y = y
and_both false b x y = cc

pub not_true : (a : Bool) → not a ≡ true → a ≡ false
not_true true e = cc
not_true false e = refl

pub and_not : (a b : Bool) → (a && not b) ≡ false → a ≡ true → b ≡ true
and_not true true e x = refl
and_not true false e x = cc
and_not false b e x = cc

pub or_first : (a b : Bool) → a ≡ true → (a || b) ≡ true
or_first true b x = refl
or_first false b x = cc

pub or_second : (a b : Bool) → b ≡ true → (a || b) ≡ true
or_second true b x = refl
or_second false b x = x

-- what holds of the value chosen by a test
pub if_some : {A : Type 0} (P : A → Type 0) (test : Bool) (x : A) (rest : Option A) → P x → IfSome rest P → IfSome (if test then Some x else rest) P
if_some P true x rest p q = p
if_some P false x rest p q = q

pub if_none : {A : Type 0} (P : A → Type 0) (test : Bool) (x : A) → P x → IfSome (if test then None else Some x) P
if_none P true x p = tt
if_none P false x p = p

pub then_some : {A : Type 0} (P : A → Type 0) (test : Bool) (x : A) → P x → IfSome (if test then Some x else None) P
then_some P true x p = p
then_some P false x p = tt

-- an element that passes is in the filtered list
keep_first : {A : Type 0} (test : Bool) (x a : A) (rest : List A) → Contains rest a → Contains (cond test (x ∷ rest) rest) a
keep_first true x a rest c = Contains-append_right (x ∷ []) rest a c
keep_first false x a rest c = c

keep_this : {A : Type 0} (test : Bool) (x a : A) (rest : List A) → test ≡ true → x ≡ a → Contains (cond test (x ∷ rest) rest) a
keep_this true x a rest t e = (0, omega arith, e)
keep_this false x a rest t e = cc

passed_at : {A : Type 0} (p : A → Bool) (xs : List A) (a : A) (k : ℕ) → k < length xs → get_or xs k a ≡ a → p a ≡ true → Contains (filter p xs) a
passed_at p [] a k low is passes = absurd (omega arith)
passed_at p (x ∷ xs) a zero low is passes = keep_this (p x) x a (filter p xs) (ap p is ∙ passes) is
passed_at p (x ∷ xs) a (suc k) low is passes = keep_first (p x) x a (filter p xs) (passed_at p xs a k (omega arith) is passes)

pub Contains-filter_range : (p : ℕ → Bool) (n a : ℕ) → a < n → p a ≡ true → Contains (filter p (range_with_len 0 n)) a
Contains-filter_range p n a low passes =
    let long : a < length (range_with_len 0 n) = omega (arith, length-range_with_len 0 n) in
    let is : get_or (range_with_len 0 n) a a ≡ a = omega (arith, get_or-range_with_len 0 n a a low) in
    passed_at p (range_with_len 0 n) a a long is passes

-- each element of a filtered list passes
test_push : {A : Type 0} (p : A → Bool) (test : Bool) (x : A) (rest : List A) → p x ≡ test → All (λ a. p a ≡ true) rest → All (λ a. p a ≡ true) (cond test (x ∷ rest) rest)
test_push p true x rest is all = All-cons (λ a. p a ≡ true) x rest is all
test_push p false x rest is all = all

pub All-filter_test : {A : Type 0} (p : A → Bool) (xs : List A) → All (λ a. p a ≡ true) (filter p xs)
All-filter_test p [] = All-nil (λ a. p a ≡ true)
All-filter_test p (x ∷ xs) = test_push p (p x) x (filter p xs) refl (All-filter_test p xs)
