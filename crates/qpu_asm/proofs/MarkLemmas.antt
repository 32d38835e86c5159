-- Marks in which no fault is found. No mark is wrong by itself, and none clashes with an earlier one.
use Rattle.std.proofs.Common.{◌≡◌, ℕ, inl, inr, Bool, true, false, List, [], ◌∷◌, ◌++◌, Option, Some, None, refl, sym, subst, ◌∙◌, arith}
use Rattle.std.specs.Prelude.{◌==◌, ◌&&◌, ◌||◌, not, ◌⊎◌, option_map, if◌then◌else◌}
use Rattle.std.specs.Option.{option_or}
use Rattle.std.specs.List.{list_any}
use Rattle.std.proofs.lemmas.Bool.Decides.{nat_tests}
use Rattle.qpu_token.specs.declared.token.Token.{Token}
use Rattle.qpu_word.specs.declared.name.Place.{Place}
use Rattle.qpu_asm.specs.declared.mark.What.{What}
use Rattle.qpu_asm.specs.declared.mark.What.TheVariants as what
use Rattle.qpu_asm.specs.declared.mark.Mark.{Mark}
use Rattle.qpu_asm.specs.declared.judge.Judged.{Judged}
use Rattle.qpu_asm.specs.declared.judge.Judged.TheVariants.{Operands, TwoImmediates, TwoReads, Label, Range}
use Rattle.qpu_asm.specs.Clashes.{is_wrong, cross, clashes, kind_of, fault_at}
use Rattle.qpu_asm.specs.reader.Judging.{first_faulty, fault_of_kind, line_fault}
use Rattle.qpu_asm.proofs.TestLemmas.{either_false}

-- marks among others

abbrev pub Has : What → List Mark → Type 0
Has w [] = ⊥
Has w (m ∷ ms) = (m.what ≡ w) ⊎ Has w ms

pub has_left : (w : What) (xs ys : List Mark) → Has w xs → Has w (xs ++ ys)
has_left w [] ys never = absurd never
has_left w (x ∷ xs) ys (inl is) = inl is
has_left w (x ∷ xs) ys (inr later) = inr (has_left w xs ys later)

pub has_right : (w : What) (xs ys : List Mark) → Has w ys → Has w (xs ++ ys)
has_right w [] ys has = has
has_right w (x ∷ xs) ys has = inr (has_right w xs ys has)

-- one behind another
abbrev pub Before : What → What → List Mark → Type 0
Before a b [] = ⊥
Before a b (m ∷ ms) = ((m.what ≡ a) × Has b ms) ⊎ Before a b ms

pub before_join : (a b : What) (xs ys : List Mark) → Has a xs → Has b ys → Before a b (xs ++ ys)
before_join a b [] ys never has = absurd never
before_join a b (x ∷ xs) ys (inl is) has = inl (is, has_right b xs ys has)
before_join a b (x ∷ xs) ys (inr later) has = inr (before_join a b xs ys later has)

pub before_left : (a b : What) (xs ys : List Mark) → Before a b xs → Before a b (xs ++ ys)
before_left a b [] ys never = absurd never
before_left a b (x ∷ xs) ys (inl (is, has)) = inl (is, has_left b xs ys has)
before_left a b (x ∷ xs) ys (inr later) = inr (before_left a b xs ys later)

-- two that are among them
two : (a b : What) (ms : List Mark) → Has a ms → Has b ms → (a ≡ b) ⊎ (Before a b ms ⊎ Before b a ms)
two a b [] never other = absurd never
two a b (m ∷ ms) (inl x) (inl y) = inl (sym x ∙ y)
two a b (m ∷ ms) (inl x) (inr y) = inr (inl (inl (x, y)))
two a b (m ∷ ms) (inr x) (inl y) = inr (inr (inl (y, x)))
two a b (m ∷ ms) (inr x) (inr y) = more (two a b ms x y)
  where
    more : (a ≡ b) ⊎ (Before a b ms ⊎ Before b a ms) → (a ≡ b) ⊎ (Before a b (m ∷ ms) ⊎ Before b a (m ∷ ms))
    more (inl same) = inl same
    more (inr (inl before)) = inr (inl (inr before))
    more (inr (inr before)) = inr (inr (inr before))

-- no fault of a kind

record IsFree (k : Judged) (earlier ms : List Mark) (m : Mark) : Type 0 where
  own : is_wrong k m.what ≡ false
  beside : list_any (λ e. clashes k e.what m.what) earlier ≡ false
  later : first_faulty k (earlier ++ m ∷ []) ms ≡ None

free_by : (wrong clash : Bool) (token : Token) (rest : Option Token) → (if wrong || clash then Some token else rest) ≡ None → (wrong ≡ false) × (clash ≡ false) × (rest ≡ None)
free_by true clash token rest none = absurd (grind (arith, none))
free_by false true token rest none = absurd (grind (arith, none))
free_by false false token rest none = (refl, refl, none)

free_first : (k : Judged) (earlier ms : List Mark) (m : Mark) → first_faulty k earlier (m ∷ ms) ≡ None → IsFree k earlier ms m
free_first k earlier ms m none =
    let parts = free_by (is_wrong k m.what) (list_any (λ e. clashes k e.what m.what) earlier) m.token (first_faulty k (earlier ++ m ∷ []) ms) none in
    record { own = parts.0; beside = parts.1; later = parts.2 }

pub free_own : (k : Judged) (earlier ms : List Mark) (w : What) → first_faulty k earlier ms ≡ None → Has w ms → is_wrong k w ≡ false
free_own k earlier [] w none never = absurd never
free_own k earlier (m ∷ ms) w none (inl is) = let P : What → Type 0 = λ v. is_wrong k v ≡ false in subst P is (free_first k earlier ms m none).own
free_own k earlier (m ∷ ms) w none (inr later) = free_own k (earlier ++ m ∷ []) ms w (free_first k earlier ms m none).later later

none_of : (p : What → Bool) (earlier : List Mark) (a : What) → list_any (λ e. p e.what) earlier ≡ false → Has a earlier → p a ≡ false
none_of p [] a none never = absurd never
none_of p (e ∷ earlier) a none (inl is) = let P : What → Type 0 = λ v. p v ≡ false in subst P is (either_false (p e.what) (list_any (λ x. p x.what) earlier) none).0
none_of p (e ∷ earlier) a none (inr later) = none_of p earlier a (either_false (p e.what) (list_any (λ x. p x.what) earlier) none).1 later

pub free_across : (k : Judged) (earlier ms : List Mark) (a b : What) → first_faulty k earlier ms ≡ None → Has a earlier → Has b ms → clashes k a b ≡ false
free_across k earlier [] a b none first never = absurd never
free_across k earlier (m ∷ ms) a b none first (inl is) =
    let P : What → Type 0 = λ v. clashes k a v ≡ false in
    subst P is (none_of (λ e. clashes k e m.what) earlier a (free_first k earlier ms m none).beside first)
free_across k earlier (m ∷ ms) a b none first (inr later) =
    free_across k (earlier ++ m ∷ []) ms a b (free_first k earlier ms m none).later (has_left a earlier (m ∷ []) first) later

free_before : (k : Judged) (earlier ms : List Mark) (a b : What) → first_faulty k earlier ms ≡ None → Before a b ms → clashes k a b ≡ false
free_before k earlier [] a b none never = absurd never
free_before k earlier (m ∷ ms) a b none (inl (is, has)) =
    free_across k (earlier ++ m ∷ []) ms a b (free_first k earlier ms m none).later (has_right a earlier (m ∷ []) (inl is)) has
free_before k earlier (m ∷ ms) a b none (inr later) = free_before k (earlier ++ m ∷ []) ms a b (free_first k earlier ms m none).later later

-- no fault at all

record AreFree (ms : List Mark) : Type 0 where
  operands : first_faulty Operands [] ms ≡ None
  immediates : first_faulty TwoImmediates [] ms ≡ None
  reads : first_faulty TwoReads [] ms ≡ None
  labels : first_faulty Label [] ms ≡ None
  ranges : first_faulty Range [] ms ≡ None

none_mapped : {A B : Type 0} (f : A → B) (o : Option A) → option_map f o ≡ None → o ≡ None
none_mapped f None none = refl
none_mapped f (Some a) none = cc

none_or : {A : Type 0} (a b : Option A) → option_or a b ≡ None → (a ≡ None) × (b ≡ None)
none_or None b none = (refl, none)
none_or (Some x) b none = (cc, cc)

none_of_kind : (ms : List Mark) (k : Judged) → fault_of_kind ms k ≡ None → first_faulty k [] ms ≡ None
unfolding fault_of_kind
none_of_kind ms k none = none_mapped (fault_at (kind_of k)) (first_faulty k [] ms) none

are_free : (ms : List Mark) → line_fault ms ≡ None → AreFree ms
unfolding line_fault
are_free ms none =
    let r = none_or _ (fault_of_kind ms Range) none in
    let l = none_or _ (fault_of_kind ms Label) r.0 in
    let t = none_or _ (fault_of_kind ms TwoReads) l.0 in
    let i = none_or (fault_of_kind ms Operands) (fault_of_kind ms TwoImmediates) t.0 in
    record {
      operands = none_of_kind ms Operands i.0;
      immediates = none_of_kind ms TwoImmediates i.1;
      reads = none_of_kind ms TwoReads t.1;
      labels = none_of_kind ms Label l.1;
      ranges = none_of_kind ms Range r.1;
    }

-- what that tells of the marks
pub record IsClear (ms : List Mark) : Type 0 where
  pub right : Has what.Wrong ms → ⊥
  pub near : Has what.Far ms → ⊥
  pub known : Has what.Missing ms → ⊥
  pub sets : Before what.Adds what.MulSets ms → ⊥
  pub reads_a : (n m : ℕ) → Has (what.ReadsA n) ms → Has (what.ReadsA m) ms → n ≡ m
  pub reads_b : (n m : ℕ) → Has (what.ReadsB n) ms → Has (what.ReadsB m) ms → n ≡ m
  pub numbers : (n m : ℕ) → Has (what.Number n) ms → Has (what.Number m) ms → n ≡ m
  pub mixed : (n m : ℕ) → Has (what.Number n) ms → Has (what.ReadsB m) ms → ⊥
  pub unpacks : (n u v : ℕ) → Has (what.Unpacks n u) ms → Has (what.Unpacks n v) ms → u ≡ v
  pub turns : (n : ℕ) → Has what.Rotates ms → Has (what.ReadsB n) ms → ⊥
  pub signals : Has what.Rotates ms → Has what.Signals ms → ⊥
  pub number_turns : (n : ℕ) → Before (what.Number n) what.Rotates ms → ⊥
  pub number_signals : (n : ℕ) → Before (what.Number n) what.Signals ms → ⊥
  pub fixed : Before what.Fixed what.Rotates ms → ⊥
  pub writes : (p q : Place) → Before (what.Writes p) (what.Writes q) ms → cross p q ≡ false

same_by : (n m : ℕ) → not (n == m) ≡ false → n ≡ m
same_by n m e = grind (arith, nat_tests, e)

from : (a b : What) (P : Type 0) (ms : List Mark) → ((a ≡ b) → P) → (Before a b ms → P) → (Before b a ms → P) → Has a ms → Has b ms → P
from a b P ms same one other x y = by_order (two a b ms x y)
  where
    by_order : (a ≡ b) ⊎ (Before a b ms ⊎ Before b a ms) → P
    by_order (inl e) = same e
    by_order (inr (inl before)) = one before
    by_order (inr (inr before)) = other before

unpack_by : (n u v : ℕ) → ((n == n) && not (u == v)) ≡ false → u ≡ v
unpack_by n u v e = grind (arith, nat_tests, e)

never : true ≡ false → ⊥
never e = grind (arith, e)

pub is_clear : (ms : List Mark) → line_fault ms ≡ None → IsClear ms
is_clear ms none = let f = are_free ms none in record {
  right = λ has. never (free_own Operands [] ms what.Wrong f.operands has);
  near = λ has. never (free_own Range [] ms what.Far f.ranges has);
  known = λ has. never (free_own Label [] ms what.Missing f.labels has);
  sets = λ x. never (free_before Operands [] ms _ _ f.operands x);
  reads_a = λ n m. from (what.ReadsA n) (what.ReadsA m) (n ≡ m) ms (λ e. cc) (λ x. same_by n m (free_before TwoReads [] ms _ _ f.reads x)) (λ x. sym (same_by m n (free_before TwoReads [] ms _ _ f.reads x)));
  reads_b = λ n m. from (what.ReadsB n) (what.ReadsB m) (n ≡ m) ms (λ e. cc) (λ x. same_by n m (free_before TwoReads [] ms _ _ f.reads x)) (λ x. sym (same_by m n (free_before TwoReads [] ms _ _ f.reads x)));
  numbers = λ n m. from (what.Number n) (what.Number m) (n ≡ m) ms (λ e. cc) (λ x. same_by n m (free_before TwoImmediates [] ms _ _ f.immediates x)) (λ x. sym (same_by m n (free_before TwoImmediates [] ms _ _ f.immediates x)));
  mixed = λ n m. from (what.Number n) (what.ReadsB m) ⊥ ms (λ e. cc) (λ x. never (free_before TwoImmediates [] ms _ _ f.immediates x)) (λ x. never (free_before TwoImmediates [] ms _ _ f.immediates x));
  unpacks = λ n u v. from (what.Unpacks n u) (what.Unpacks n v) (u ≡ v) ms (λ e. cc) (λ x. unpack_by n u v (free_before Operands [] ms _ _ f.operands x)) (λ x. sym (unpack_by n v u (free_before Operands [] ms _ _ f.operands x)));
  turns = λ n. from what.Rotates (what.ReadsB n) ⊥ ms (λ e. cc) (λ x. never (free_before TwoImmediates [] ms _ _ f.immediates x)) (λ x. never (free_before TwoImmediates [] ms _ _ f.immediates x));
  signals = from what.Rotates what.Signals ⊥ ms (λ e. cc) (λ x. never (free_before Operands [] ms _ _ f.operands x)) (λ x. never (free_before Operands [] ms _ _ f.operands x));
  number_turns = λ n x. never (free_before TwoImmediates [] ms _ _ f.immediates x);
  number_signals = λ n x. never (free_before Operands [] ms _ _ f.operands x);
  fixed = λ x. never (free_before Operands [] ms _ _ f.operands x);
  writes = λ p q x. free_before Operands [] ms (what.Writes p) (what.Writes q) f.operands x;
}
