use Rattle.std.proofs.Common.{◌≡◌, ◌<◌, ◌≤◌, ◌+◌, ◌++◌, ◌∷◌, ℕ, List, [], ◌⊎◌, inl, inr, length, ap, sym, subst, ◌∙◌, arith}
use Rattle.std.specs.Prelude.{slice_index_or}
use Rattle.std.specs.Arc.{arc_value}
use Rattle.std.proofs.Math.ListN.{take}
use Rattle.std.proofs.lemmas.Bool.{cases_lt}
use Rattle.std.proofs.lemmas.List.{take_more, get_or_default}
use Rattle.qpu_hazard.specs.Paths.{IsClean}
use Rattle.qpu_machine.specs.declared.start.Start.{Start}
use Rattle.qpu_machine.specs.Machine.{MachineState, machine_of, with_start}
use Rattle.qpu_machine.proofs.OpeningLemmas.{programs_of_machine, nothing_of_machine, machine_more}
use Rattle.qpu_machine.proofs.StartLemmas.{first_in}
use Rattle.qpu_machine.proofs.machine.Machine.new.Goals as goal

-- what an invariant of an iteration is of
none : Start
none = record { q = 0; program = 0; uniforms = 0 }

pub start-requires-clause-program : goal.start-requires-clause-program
unfolding none
start-requires-clause-program c =
    let items : c.as_slice-starts.result.now ≡ c.args.starts.items = c.as_slice-starts.ensures.value in
    let low : c.loop-i.i < length c.args.starts.items = omega (arith, c.loop-i-test.true, c.loop-i.invariant.count) in
    let list = (arc_value c.args.programs).list.items in
    let same : c.loop-i.machine.state.programs ≡ list =
    ap (λ (m : MachineState). m.programs) c.loop-i.invariant.state ∙ programs_of_machine c.args.memory c.args.limit list (take c.loop-i.i c.args.starts.items) in
    rw (items, same) (c.requires.programs c.loop-i.i none low)

pub start-requires-clause-nothing : goal.start-requires-clause-nothing
unfolding none
start-requires-clause-nothing c =
    let items : c.as_slice-starts.result.now ≡ c.args.starts.items = c.as_slice-starts.ensures.value in
    let low : c.loop-i.i < length c.args.starts.items = omega (arith, c.loop-i-test.true, c.loop-i.invariant.count) in
    rw (items, c.loop-i.invariant.state)
    (nothing_of_machine c.args.memory c.args.limit (arc_value c.args.programs).list.items (take c.loop-i.i c.args.starts.items) _ (c.requires.numbers c.loop-i.i none low))

pub start-requires-clause-first : goal.start-requires-clause-first
unfolding none
start-requires-clause-first c =
    let items : c.as_slice-starts.result.now ≡ c.args.starts.items = c.as_slice-starts.ensures.value in
    let low : c.loop-i.i < length c.args.starts.items = omega (arith, c.loop-i-test.true, c.loop-i.invariant.count) in
    rw (items, c.loop-i.invariant.starts) (first_in c.args.starts.items c.loop-i.i none c.requires.differ low)

-- what holds of the elements before one and of it holds of one more
one_more : (P : Start → Type 0) (xs : List Start) (i : ℕ) (e : Start) → i < length xs → ((k : ℕ) (d : Start) → k < i → P (slice_index_or xs k d)) → P (slice_index_or xs i e)
    → (k : ℕ) (d : Start) → k < i + 1 → P (slice_index_or xs k d)
one_more P xs i e low before last k d less = by_place (cases_lt k i)
  where
    by_place : (k < i) ⊎ (i ≤ k) → P (slice_index_or xs k d)
    by_place (inl few) = before k d few
    by_place (inr far) =
        let same : i ≡ k = omega (arith, less, far) in
        subst (λ n. P (slice_index_or xs n d)) same (subst P (get_or_default xs i e d low) last)

pub loop-i-preserved : goal.loop-i-preserved
unfolding none
loop-i-preserved c =
    let items : c.as_slice-starts.result.now ≡ c.args.starts.items = c.as_slice-starts.ensures.value in
    let low : c.loop-i.i < length c.args.starts.items = omega (arith, c.loop-i-test.true, c.loop-i.invariant.count) in
    let list = (arc_value c.args.programs).list.items in
    let programs : c.loop-i.machine.state.programs ≡ list =
    ap (λ (m : MachineState). m.programs) c.loop-i.invariant.state ∙ programs_of_machine c.args.memory c.args.limit list (take c.loop-i.i c.args.starts.items) in
    let clean = subst (λ (xs : List (List ℕ)). IsClean (slice_index_or xs (slice_index_or c.as_slice-starts.result.now c.loop-i.i none).program [])) programs c.start.ensures.clean in
    record {
      state =
          c.start.ensures.state
          ∙ ap (λ (m : MachineState). with_start m (slice_index_or c.as_slice-starts.result.now c.loop-i.i none)) c.loop-i.invariant.state
          ∙ ap (λ (xs : List Start). with_start (machine_of c.args.memory c.args.limit list (take c.loop-i.i c.args.starts.items)) (slice_index_or xs c.loop-i.i none)) items
          ∙ sym (machine_more c.args.memory c.args.limit list c.args.starts.items c.loop-i.i none low);
      starts =
          c.start.ensures.starts ∙ ap (λ (xs : List Start). xs ++ slice_index_or c.as_slice-starts.result.now c.loop-i.i none ∷ []) c.loop-i.invariant.starts
          ∙ ap (λ (xs : List Start). take c.loop-i.i c.args.starts.items ++ slice_index_or xs c.loop-i.i none ∷ []) items
          ∙ sym (take_more c.args.starts.items c.loop-i.i none low);
      count = ap (λ (xs : List Start). length xs) items;
      clean =
          one_more (λ (s : Start). IsClean (slice_index_or list s.program [])) c.args.starts.items c.loop-i.i none low c.loop-i.invariant.clean
          (subst (λ (xs : List Start). IsClean (slice_index_or list (slice_index_or xs c.loop-i.i none).program [])) items clean);
    }
