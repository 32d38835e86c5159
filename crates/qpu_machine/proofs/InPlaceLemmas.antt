-- Steps of a processor where it lies in its machine.
use Rattle.std.proofs.Common.{◌≡◌, ◌<◌, ◌≤◌, ℕ, Bool, true, false, List, [], replicate, Option, Some, None, refl, sym, subst, ap, ◌∙◌, arith}
use Rattle.std.specs.Prelude.{slice_index_or, slice_set, IsSomeAnd}
use Rattle.std.proofs.Math.ListN.{get_or-eq_default}
use Rattle.std.proofs.lemmas.List.{set-get_or, get_or_default}
use Rattle.qpu_word.specs.Processor.{ProcessorState}
use Rattle.qpu_shared.specs.SharedState.{SharedState}
use Rattle.qpu_shared.specs.Instruction.{is_running, instruction}
use Rattle.qpu_machine.specs.declared.actor.Actor.TheVariants.{Exec}
use Rattle.qpu_machine.specs.declared.start.Start.{Start}
use Rattle.qpu_machine.specs.Local.{LocalSteps, IsOwnAfter, is_local_next}
use Rattle.qpu_machine.specs.Machine.{MachineState, processor_of, words_of, with_both, after_step}
use Rattle.qpu_machine.specs.Serial.{Stretch, stops}
use Rattle.qpu_machine.specs.Sound.{IsSoundMachine}
use Rattle.qpu_machine.specs.Took.{Took, TookWord}
use Rattle.qpu_machine.specs.Views.{Started}
use Rattle.qpu_machine.proofs.LocalLemmas.{none_local, stretch_own}

-- a processor past the last isn't there
pub past_there : (m : MachineState) (q : ℕ) → IsSoundMachine m → 12 ≤ q → processor_of m q ≡ None
past_there m q sound past = get_or-eq_default m.processors None (omega (arith, sound.processors, past))

-- an entry of the list of processors is the processor with its number
pub entry_is : (m : MachineState) (q : ℕ) (d o : Option ProcessorState) → IsSoundMachine m → q < 12 → slice_index_or m.processors q d ≡ o → processor_of m q ≡ o
entry_is m q d o sound low is = get_or_default m.processors q None d (omega (arith, sound.processors, low)) ∙ is

-- a machine with its own processor
pub with_same : (m : MachineState) (q : ℕ) → m ≡ record m { processors = slice_set m.processors q (processor_of m q) }
with_same m q = sym (ap (λ (ps : List (Option ProcessorState)). record m { processors = ps }) (set-get_or m.processors q None))

-- one that isn't there is left where it lies
absent_same : (m : MachineState) (q : ℕ) (d : Option ProcessorState) → IsSoundMachine m → q < 12 → slice_index_or m.processors q d ≡ None
    → record m { processors = slice_set m.processors q (slice_index_or m.processors q d) } ≡ m
absent_same m q d sound low none =
    let same : slice_index_or m.processors q d ≡ processor_of m q = none ∙ sym (entry_is m q d None sound low none) in
    ap (λ (o : Option ProcessorState). record m { processors = slice_set m.processors q o }) same ∙ sym (with_same m q)

-- and has no step
pub absent_rests : (m : MachineState) (q : ℕ) → processor_of m q ≡ None → after_step m (Exec q) ≡ None
unfolding after_step
absent_rests m q absent = rw absent refl

-- nor has one that isn't running
pub halted_rests : (m : MachineState) (q : ℕ) (p : ProcessorState) → processor_of m q ≡ Some p → is_running m.limit p ≡ false → after_step m (Exec q) ≡ None
unfolding after_step instruction
halted_rests m q p there rests = rw (there, rests) refl

-- a processor that took its word where it lies, or had none to take
pub took_in_place : (took : Bool) (m : MachineState) (q : ℕ) (p after : ProcessorState) (left : SharedState) (starts : List Start) (s : Started) → record { state = m; starts = starts } ≡ s
    → processor_of m q ≡ Some p → TookWord took m q p after left → Took took (after_step s.state (Exec q)) s (record { state = with_both m q after left; starts = starts })
took_in_place took m q p after left starts s is there word =
    subst (λ (x : Started). Took took (after_step x.state (Exec q)) x (record { state = with_both m q after left; starts = starts })) is
    (by_word took m q p after left starts there word)
  where
    by_word : (took : Bool) (m : MachineState) (q : ℕ) (p after : ProcessorState) (left : SharedState) (starts : List Start) → processor_of m q ≡ Some p → TookWord took m q p after left
        → Took took (after_step m (Exec q)) (record { state = m; starts = starts }) (record { state = with_both m q after left; starts = starts })
    by_word true m q p after left starts there word = (word, refl)
    by_word false m q p after left starts there word = (
      word.0,
      ap (λ (n : MachineState). let x : Started = record { state = n; starts = starts } in x)
          (rw (word.1, word.2) (sym (with_same m q ∙ ap (λ (o : Option ProcessorState). record m { processors = slice_set m.processors q o }) there))),
    )

-- one that isn't there has none to take
pub rests_in_place : (m : MachineState) (q : ℕ) (d : Option ProcessorState) (starts : List Start) (s : Started) → record { state = m; starts = starts } ≡ s → IsSoundMachine m → q < 12
    → slice_index_or m.processors q d ≡ None
    → Took false (after_step s.state (Exec q)) s (record { state = record m { processors = slice_set m.processors q (slice_index_or m.processors q d) }; starts = starts })
rests_in_place m q d starts s is sound low none = (
  ap (λ (x : Started). after_step x.state (Exec q)) (sym is) ∙ absent_rests m q (entry_is m q d None sound low none),
  ap (λ (n : MachineState). let x : Started = record { state = n; starts = starts } in x) (absent_same m q d sound low none) ∙ is,
)

-- local words of a processor, taken where it lies

pub own_of : (m : MachineState) (q : ℕ) (p r : ProcessorState) (n : ℕ) → processor_of m q ≡ Some p → LocalSteps (words_of m q) m.limit p n r → IsOwnAfter m q r n
own_of m q p r n there steps = subst (λ (o : Option ProcessorState). IsSomeAnd o (λ before. LocalSteps (words_of m q) m.limit before n r)) (sym there) steps

pub stretched_in_place : (m : MachineState) (q : ℕ) (p r : ProcessorState) (n : ℕ) (starts : List Start) (s : Started) → record { state = m; starts = starts } ≡ s → IsSoundMachine m
    → processor_of m q ≡ Some p → LocalSteps (words_of m q) m.limit p n r → is_local_next (words_of m q) m.limit r ≡ false
    → Stretch q s.state (replicate n (Exec q)) (with_both m q r m.shared)
stretched_in_place m q p r n starts s is sound there steps still =
    subst (λ (x : Started). Stretch q x.state (replicate n (Exec q)) (with_both m q r m.shared)) is (stretch_own m q r n sound (own_of m q p r n there steps) still)

pub absent_in_place : (m : MachineState) (q : ℕ) (d : Option ProcessorState) (starts : List Start) (s : Started) → record { state = m; starts = starts } ≡ s → IsSoundMachine m → q < 12
    → slice_index_or m.processors q d ≡ None → Stretch q s.state [] (record m { processors = slice_set m.processors q (slice_index_or m.processors q d) })
absent_in_place m q d starts s is sound low none =
    subst (λ (x : Started). Stretch q x.state [] (record m { processors = slice_set m.processors q (slice_index_or m.processors q d) })) is
    (subst (λ (n : MachineState). Stretch q m [] n) (sym (absent_same m q d sound low none)) (stops (none_local m q (entry_is m q d None sound low none))))
