-- Starts go with their processors.
use Rattle.std.proofs.Common.{◌≡◌, ◌≢◌, ◌<◌, ℕ, suc, zero, true, false, List, [], ◌∷◌, ◌++◌, length, replicate, Option, Some, None, ◌⊎◌, inl, inr, refl, sym, subst, ap, ◌∙◌, arith}
use Rattle.std.specs.Prelude.{◌==◌, is_some, IfSome, cond, slice_index, slice_index_or}
use Rattle.std.specs.Option.{option_or}
use Rattle.std.specs.List.{AllPairs}
use Rattle.std.proofs.Math.ListN.{take}
use Rattle.std.proofs.lemmas.List.{get_or-take, length-take}
use Rattle.std.proofs.lemmas.Bool.{cases_eq}
use Rattle.std.proofs.lemmas.Bool.Decides.{nat_tests}
use Rattle.std.proofs.lemmas.List.{get_or-set_same, get_or-set_other}
use Rattle.std.proofs.lemmas.List.Folds.{find-append}
use Rattle.qpu_word.specs.Processor.{ProcessorState, opening_processor}
use Rattle.qpu_shared.specs.SharedState.{SharedState}
use Rattle.qpu_machine.specs.declared.start.Start.{Start}
use Rattle.qpu_machine.specs.Machine.{MachineState, processor_of, with_start, with_both}
use Rattle.qpu_machine.specs.Sound.{start_in, HasStarts}

-- steps

pub has_same : (starts : List Start) (m n : MachineState) → n.program_of ≡ m.program_of → ((q : ℕ) → is_some (processor_of n q) ≡ is_some (processor_of m q)) → HasStarts starts m → HasStarts starts n
has_same starts m n programs same has = record {
  there = λ q. has.there q ∙ sym (same q);
  program = λ q. subst (λ (ps : List ℕ). IfSome (start_in starts q) (λ start. slice_index ps q ≡ start.program)) (sym programs) (has.program q);
}

pub has_moved : {starts : List Start} (m : MachineState) (left : SharedState) → HasStarts starts m → HasStarts starts (record m { shared = left })
has_moved {starts} m left has = has_same starts m (record m { shared = left }) refl (λ q. refl) has

pub has_both : {starts : List Start} (m : MachineState) (q : ℕ) (p after : ProcessorState) (left : SharedState) → q < length m.processors → processor_of m q ≡ Some p → HasStarts starts m
    → HasStarts starts (with_both m q after left)
has_both {starts} m q p after left low there has = has_same starts m (with_both m q after left) refl (λ r. by_place r (cases_eq r q)) has
  where
    own : is_some (processor_of (with_both m q after left) q) ≡ is_some (processor_of m q)
    own = ap (λ (o : Option ProcessorState). is_some o) (get_or-set_same m.processors q (Some after) None low) ∙ sym (ap (λ (o : Option ProcessorState). is_some o) there)

    by_place : (r : ℕ) → (r ≡ q) ⊎ (r ≢ q) → is_some (processor_of (with_both m q after left) r) ≡ is_some (processor_of m r)
    by_place r (inl same) = subst (λ k. is_some (processor_of (with_both m q after left) k) ≡ is_some (processor_of m k)) (sym same) own
    by_place r (inr apart) = ap (λ (o : Option ProcessorState). is_some o) (get_or-set_other m.processors q r (Some after) None apart)

-- opening

pub nobody_there : (n q : ℕ) → slice_index_or (replicate n (let o : Option ProcessorState = None in o)) q None ≡ None
nobody_there zero q = refl
nobody_there (suc n) zero = refl
nobody_there (suc n) (suc q) = nobody_there n q

pub has_none : (m : MachineState) → m.processors ≡ replicate 12 None → HasStarts [] m
has_none m none = record {
  there = λ q. sym (ap (λ (o : Option ProcessorState). is_some o) (ap (λ (ps : List (Option ProcessorState)). slice_index_or ps q None) none ∙ nobody_there 12 q));
  program = λ q. tt;
}

itself : (q : ℕ) → (q == q) ≡ true
itself q = grind (arith, nat_tests)

apart_test : (a b : ℕ) → a ≢ b → (a == b) ≡ false
apart_test a b apart = grind (arith, nat_tests)

nothing_or : (o : Option Start) → option_or o None ≡ o
nothing_or None = refl
nothing_or (Some s) = refl

own_last : (starts : List Start) (start : Start) → start_in starts start.q ≡ None → start_in (starts ++ start ∷ []) start.q ≡ Some start
own_last starts start none =
    find-append (λ (s : Start). s.q == start.q) starts (start ∷ [])
    ∙ ap (λ (o : Option Start). option_or o (start_in (start ∷ []) start.q)) none ∙ ap (λ b. cond b (Some start) None) (itself start.q)

other_last : (starts : List Start) (start : Start) (r : ℕ) → r ≢ start.q → start_in (starts ++ start ∷ []) r ≡ start_in starts r
other_last starts start r apart =
    find-append (λ (s : Start). s.q == r) starts (start ∷ [])
    ∙ ap (option_or (start_in starts r)) (ap (λ b. cond b (Some start) None) (apart_test start.q r (λ e. apart (sym e)))) ∙ nothing_or (start_in starts r)

pub has_started : (starts : List Start) (m : MachineState) (start : Start) → start.q < length m.processors → start.q < length m.program_of → start_in starts start.q ≡ None → HasStarts starts m
    → HasStarts (starts ++ start ∷ []) (with_start m start)
has_started starts m start low room none has = record { there = λ r. there_at r (cases_eq r start.q); program = λ r. program_at r (cases_eq r start.q) }
  where
    there_own : is_some (start_in (starts ++ start ∷ []) start.q) ≡ is_some (processor_of (with_start m start) start.q)
    there_own =
        ap (λ (o : Option Start). is_some o) (own_last starts start none)
        ∙ sym (ap (λ (o : Option ProcessorState). is_some o) (get_or-set_same m.processors start.q (Some (opening_processor start.q start.uniforms)) None low))

    there_at : (r : ℕ) → (r ≡ start.q) ⊎ (r ≢ start.q) → is_some (start_in (starts ++ start ∷ []) r) ≡ is_some (processor_of (with_start m start) r)
    there_at r (inl same) = subst (λ k. is_some (start_in (starts ++ start ∷ []) k) ≡ is_some (processor_of (with_start m start) k)) (sym same) there_own
    there_at r (inr apart) =
        ap (λ (o : Option Start). is_some o) (other_last starts start r apart) ∙ has.there r
        ∙ sym (ap (λ (o : Option ProcessorState). is_some o) (get_or-set_other m.processors start.q r (Some (opening_processor start.q start.uniforms)) None apart))

    program_own : IfSome (start_in (starts ++ start ∷ []) start.q) (λ s. slice_index (with_start m start).program_of start.q ≡ s.program)
    program_own =
        subst (λ (o : Option Start). IfSome o (λ s. slice_index (with_start m start).program_of start.q ≡ s.program)) (sym (own_last starts start none))
        (get_or-set_same m.program_of start.q start.program 0 room)

    program_at : (r : ℕ) → (r ≡ start.q) ⊎ (r ≢ start.q) → IfSome (start_in (starts ++ start ∷ []) r) (λ s. slice_index (with_start m start).program_of r ≡ s.program)
    program_at r (inl same) = subst (λ k. IfSome (start_in (starts ++ start ∷ []) k) (λ s. slice_index (with_start m start).program_of k ≡ s.program)) (sym same) program_own
    program_at r (inr apart) =
        subst (λ (o : Option Start). IfSome o (λ s. slice_index (with_start m start).program_of r ≡ s.program)) (sym (other_last starts start r apart))
        (subst (λ (at : ℕ). IfSome (start_in starts r) (λ s. at ≡ s.program)) (sym (get_or-set_other m.program_of start.q r start.program 0 apart)) (has.program r))

-- starts that differ from one more

none_in : (starts : List Start) (q : ℕ) (d : Start) → ((k : ℕ) → k < length starts → (slice_index_or starts k d).q ≢ q) → start_in starts q ≡ None
none_in [] q d apart = refl
none_in (start ∷ more) q d apart =
    ap (λ b. cond b (Some start) (start_in more q)) (apart_test start.q q (apart 0 (omega arith)))
    ∙ none_in more q d (λ k less. apart (suc k) (omega (arith, less)))

pub first_in : (starts : List Start) (i : ℕ) (d : Start) → AllPairs (λ (s t : Start). s.q ≢ t.q) starts → i < length starts → start_in (take i starts) (slice_index_or starts i d).q ≡ None
first_in starts i d differ low =
    none_in (take i starts) (slice_index_or starts i d).q d
    (λ k less.
    let few : k < i = short starts i k low less in
    subst (λ (s : Start). s.q ≢ (slice_index_or starts i d).q) (sym (get_or-take i starts k d few)) (differ k i d few low))
  where
    short : (starts : List Start) (i k : ℕ) → i < length starts → k < length (take i starts) → k < i
    short starts i k low less = let long = length-take i starts in omega (arith, long, low, less)
