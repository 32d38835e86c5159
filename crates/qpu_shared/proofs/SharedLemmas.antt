-- Lists of what is pending.
use Rattle.std.proofs.Common.{◌≡◌, ℕ, ◌<◌, ◌≤◌, List, length, get_or, map, Option, ap, sym, ◌∙◌, arith}
use Rattle.std.proofs.lemmas.List.{get_or-replicate, get_or-map, length-map}
use Rattle.std.proofs.lemmas.Option.{unwrap_or-slice_get}
use Rattle.std.proofs.lemmas.Grind.{same_number_lists}
use Rattle.std.specs.List.{slice_get}
use Rattle.qpu_word.proofs.LaneLemmas.{Filled}
use Rattle.std.specs.Prelude.{All, replicate, slice_index, unwrap_or}
use Rattle.qpu_shared.specs.declared.pending.Pending.{Pending}
use Rattle.qpu_shared.specs.SharedState.{nothing_pending}
use Rattle.qpu_shared.specs.Views.{HasFitting}

-- nothing pending fits every memory
pub nothing_started : (words : ℕ) → HasFitting words nothing_pending
nothing_started words = record { load = tt; store = tt }

at_nothing : (words n k : ℕ) (d : Pending) → k < n → HasFitting words (get_or (replicate n nothing_pending) k d)
at_nothing words n k d low = rw (get_or-replicate n k nothing_pending d low) (nothing_started words)

-- where nothing is pending, all that is fits
pub clear_started : (words : ℕ) (pending : List Pending) → pending ≡ replicate 12 nothing_pending → All (HasFitting words) pending
clear_started words pending is k d low =
    let few : k < 12 = omega (arith, ap length is) in
    rw is (at_nothing words 12 k d few)

-- a word of memory by its index, 0 outside
pub word_or_zero : (memory : List ℕ) (at : ℕ) (word : Option ℕ) → word ≡ slice_get memory at → unwrap_or word 0 ≡ slice_index memory at
word_or_zero memory at word is = ap (λ (o : Option ℕ). unwrap_or o 0) is ∙ unwrap_or-slice_get memory at 0

-- sixteen lanes made of a value's lanes
pub lanes_mapped : (f : ℕ → ℕ) (xs out : List ℕ) (i : ℕ) → length xs ≡ 16 → 16 ≤ i → Filled (λ k. f (get_or xs k 0)) out i → out ≡ map f xs
lanes_mapped f xs out i long high filled =
    same_number_lists out (map f xs) (filled.long ∙ sym (length-map xs f ∙ long))
    (λ k low. filled.each k (omega (arith, filled.long)) ∙ sym (get_or-map f xs k 0 0 (omega (arith, filled.long, long))))
