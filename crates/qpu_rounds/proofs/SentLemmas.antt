-- A list of processors of which each in turn is sent away from their machine.
use Rattle.std.proofs.Common.{◌≡◌, ◌≢◌, ◌<◌, ◌≤◌, ◌+◌, ℕ, List, length, Option, None, sym, subst, ◌∙◌, ◌⊎◌, inl, inr, arith}
use Rattle.std.specs.Prelude.{slice_index_or, slice_set}
use Rattle.std.proofs.Math.ListN.{get_or-eq_default}
use Rattle.std.proofs.lemmas.List.{get_or-set_same, get_or-set_other, length-set}
use Rattle.std.proofs.lemmas.Bool.{cases_eq, cases_lt}
use Rattle.qpu_machine.specs.Machine.{MachineState}
use Rattle.qpu_rounds.specs.declared.away.Away.{Away}
use Rattle.qpu_rounds.specs.Away.{IsSentAt}

-- those before a place have been sent
pub record SentSoFar (m : MachineState) (all : List (Option Away)) (at : ℕ) : Type 0 where
  pub long : length all ≡ 12
  pub sent : (k : ℕ) → k < at → IsSentAt m k (slice_index_or all k None)

pub sent_begun : (m : MachineState) (all : List (Option Away)) → length all ≡ 12 → SentSoFar m all 0
sent_begun m all long = record { long = long; sent = λ k low. absurd (omega (arith, low)) }

pub sent_more : (m : MachineState) (all : List (Option Away)) (at : ℕ) (x : Option Away) → at < 12 → SentSoFar m all at → IsSentAt m at x → SentSoFar m (slice_set all at x) (at + 1)
sent_more m all at x low far sent = record {
  long = length-set all at x ∙ far.long;
  sent = λ k less. by_place k (cases_eq k at) less;
}
  where
    here : slice_index_or (slice_set all at x) at None ≡ x
    here = get_or-set_same all at x None (omega (arith, far.long, low))

    by_place : (k : ℕ) → (k ≡ at) ⊎ (k ≢ at) → k < at + 1 → IsSentAt m k (slice_index_or (slice_set all at x) k None)
    by_place k (inl is) less =
        subst (λ i. IsSentAt m i (slice_index_or (slice_set all at x) i None)) (sym is) (subst (IsSentAt m at) (sym here) sent)
    by_place k (inr apart) less = subst (IsSentAt m k) (sym (get_or-set_other all at k x None apart)) (far.sent k (omega (arith, less, apart)))

-- and beyond the last place there is none
pub sent_over : (m : MachineState) (all : List (Option Away)) (at : ℕ) → 12 ≤ at → SentSoFar m all at → (k : ℕ) → IsSentAt m k (slice_index_or all k None)
sent_over m all at past far k = by_place (cases_lt k at)
  where
    by_place : (k < at) ⊎ (at ≤ k) → IsSentAt m k (slice_index_or all k None)
    by_place (inl low) = far.sent k low
    by_place (inr beyond) = subst (IsSentAt m k) (sym (get_or-eq_default all None (omega (arith, past, beyond, far.long)))) tt
