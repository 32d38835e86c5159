-- Starts of differing processors are at most twelve.
use Rattle.std.proofs.Common.{◌≡◌, ◌≢◌, ℕ, ◌<◌, ◌≤◌, Bool, true, false, All, List, [], ◌∷◌, length, get_or, refl, sym, ◌∙◌, arith}
use Rattle.std.specs.Prelude.{◌||◌, not, nat_eq}
use Rattle.std.specs.List.{AllByRecursion, AllPairs, IsDistinct, list_any}
use Rattle.std.proofs.lemmas.Bool.{and_parts}
use Rattle.std.proofs.lemmas.Bool.Decides.{nat_tests}
use Rattle.std.proofs.lemmas.List.{length-map, get_or-map}
use Rattle.std.proofs.lemmas.List.Elements.{All-head, All-tail, All-map, All-weaker}
use Rattle.std.proofs.lemmas.Map.Steps.{length-le_from_distinct_below}
use Rattle.std.proofs.lemmas.Map.Keys.{apart_from_distinct}
use Rattle.qpu_machine.specs.declared.start.Start.{Start}
use Rattle.qpu_job.specs.Plan.{Plan}
use Rattle.qpu_job.specs.ReadJob.{IsReadJob, IsStart, differ, started_processors}

not_any : (n : ℕ) (xs : List ℕ) → not (list_any (nat_eq n) xs) ≡ true → AllByRecursion (λ m. nat_eq n m ≡ false) xs
not_any n [] none = tt
not_any n (x ∷ xs) none = (head (nat_eq n x) (list_any (nat_eq n) xs) none, not_any n xs (tail (nat_eq n x) (list_any (nat_eq n) xs) none))
  where
    head : (p q : Bool) → not (p || q) ≡ true → p ≡ false
    head true q none = absurd (cc)
    head false q none = refl

    tail : (p q : Bool) → not (p || q) ≡ true → not q ≡ true
    tail true q none = absurd (cc)
    tail false q none = none

distinct_of : (xs : List ℕ) → differ nat_eq xs ≡ true → IsDistinct nat_eq xs
unfolding IsDistinct
distinct_of [] apart = tt
distinct_of (x ∷ xs) apart =
    let parts = and_parts (not (list_any (nat_eq x) xs)) (differ nat_eq xs) apart in
    (not_any x xs parts.0, distinct_of xs parts.1)

either_below : (q x n : ℕ) (same more : Bool) → nat_eq q x ≡ same → x < n → (more ≡ true → q < n) → (same || more) ≡ true → q < n
either_below q x n true more e low rest any = let same : q ≡ x = grind (arith, nat_tests) in omega (arith, same)
either_below q x n false more e low rest any = rest any

below_of : (xs : List ℕ) (n q : ℕ) → All (λ m. m < n) xs → list_any (nat_eq q) xs ≡ true → q < n
below_of [] n q all any = absurd (cc)
below_of (x ∷ xs) n q all any =
    either_below q x n (nat_eq q x) (list_any (nat_eq q) xs) refl (All-head (λ m. m < n) x xs all)
    (below_of xs n q (All-tail (λ m. m < n) x xs all)) any

pub few_starts : (plan : Plan) → IsReadJob plan → length plan.starts ≤ 12
few_starts plan is =
    let low : All (λ m. m < 12) (started_processors plan) =
    All-map (λ m. m < 12) (λ (start : Start). start.q) plan.starts
    (All-weaker (IsStart (length plan.programs)) (λ start. start.q < 12) (λ start s. s.q) plan.starts is.starts) in
    omega (
      arith,
      length-map plan.starts (λ (start : Start). start.q),
      length-le_from_distinct_below (started_processors plan) 12 (distinct_of (started_processors plan) is.processors) (λ q any. below_of (started_processors plan) 12 q low any),
    )

pub starts_differ : (plan : Plan) → IsReadJob plan → AllPairs (λ s t. s.q ≢ t.q) plan.starts
starts_differ plan is i j d low high same =
    let first : get_or (started_processors plan) i d.q ≡ (get_or plan.starts i d).q = get_or-map (λ (start : Start). start.q) plan.starts i d d.q (omega arith) in
    let second : get_or (started_processors plan) j d.q ≡ (get_or plan.starts j d).q = get_or-map (λ (start : Start). start.q) plan.starts j d d.q high in
    let apart : nat_eq (get_or (started_processors plan) i d.q) (get_or (started_processors plan) j d.q) ≡ false =
    apart_from_distinct nat_eq (started_processors plan) i j d.q (distinct_of (started_processors plan) is.processors) low (omega (arith, high, length-map plan.starts (λ (start : Start). start.q))) in
    not_same (get_or (started_processors plan) i d.q) (get_or (started_processors plan) j d.q) apart (first ∙ (same ∙ sym second))
  where
    not_same : (a b : ℕ) → nat_eq a b ≡ false → a ≡ b → ⊥
    not_same a b apart same = absurd (grind (arith, nat_tests))
