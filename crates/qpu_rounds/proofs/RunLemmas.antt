-- A list of processors away from their machine, of which each in turn has run what was left of its local words.
use Rattle.std.proofs.Common.{◌≡◌, ◌≢◌, ◌<◌, ◌≤◌, ◌+◌, ℕ, List, length, Option, None, refl, sym, subst, ◌∙◌, ◌⊎◌, inl, inr, arith}
use Rattle.std.specs.Prelude.{slice_index_or, slice_set}
use Rattle.std.proofs.Math.ListN.{get_or-eq_default}
use Rattle.std.proofs.lemmas.List.{get_or-set_same, get_or-set_other, length-set}
use Rattle.std.proofs.lemmas.Bool.{cases_eq, cases_lt}
use Rattle.qpu_rounds.specs.declared.away.Away.{Away}
use Rattle.qpu_rounds.specs.Away.{HasRunAt, HaveRun}

-- those before a place have run, and the others are as they were
pub record RunSoFar (programs : List (List ℕ)) (limit : ℕ) (before after : List (Option Away)) (at : ℕ) : Type 0 where
  pub long : length after ≡ length before
  pub run : (k : ℕ) → k < at → HasRunAt programs limit (slice_index_or before k None) (slice_index_or after k None)
  pub same : (k : ℕ) → at ≤ k → slice_index_or after k None ≡ slice_index_or before k None

pub run_begun : (programs : List (List ℕ)) (limit : ℕ) (all : List (Option Away)) → RunSoFar programs limit all all 0
run_begun programs limit all = record { long = refl; run = λ k low. absurd (omega (arith, low)); same = λ k past. refl }

pub run_more : (programs : List (List ℕ)) (limit : ℕ) (before after : List (Option Away)) (at : ℕ) (x : Option Away) → at < length before → RunSoFar programs limit before after at
    → HasRunAt programs limit (slice_index_or after at None) x → RunSoFar programs limit before (slice_set after at x) (at + 1)
run_more programs limit before after at x low far ran = record {
  long = length-set after at x ∙ far.long;
  run = λ k less. by_place k (cases_eq k at) less;
  same = λ k past. get_or-set_other after at k x None (omega (arith, past)) ∙ far.same k (omega (arith, past));
}
  where
    here : slice_index_or (slice_set after at x) at None ≡ x
    here = get_or-set_same after at x None (omega (arith, far.long, low))

    by_place : (k : ℕ) → (k ≡ at) ⊎ (k ≢ at) → k < at + 1 → HasRunAt programs limit (slice_index_or before k None) (slice_index_or (slice_set after at x) k None)
    by_place k (inl is) less =
        subst (λ i. HasRunAt programs limit (slice_index_or before i None) (slice_index_or (slice_set after at x) i None)) (sym is)
        (subst (HasRunAt programs limit (slice_index_or before at None)) (sym here) (subst (λ o. HasRunAt programs limit o x) (far.same at (omega arith)) ran))
    by_place k (inr apart) less =
        subst (HasRunAt programs limit (slice_index_or before k None)) (sym (get_or-set_other after at k x None apart)) (far.run k (omega (arith, less, apart)))

pub run_over : (programs : List (List ℕ)) (limit : ℕ) (before after : List (Option Away)) (at : ℕ) → length before ≤ at → RunSoFar programs limit before after at → HaveRun programs limit before after
run_over programs limit before after at past far k = by_place (cases_lt k at)
  where
    by_place : (k < at) ⊎ (at ≤ k) → HasRunAt programs limit (slice_index_or before k None) (slice_index_or after k None)
    by_place (inl low) = far.run k low
    by_place (inr beyond) =
        let none : slice_index_or before k None ≡ None = get_or-eq_default before None (omega (arith, past, beyond)) in
        subst (λ o. HasRunAt programs limit o (slice_index_or after k None)) (sym none) (far.same k beyond ∙ none)
