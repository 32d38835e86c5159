-- A processor of a clean program stays on a path, since no way of its words leads out.
use Rattle.std.proofs.Common.{◌≡◌, ℕ, ◌+◌, ◌-◌, ◌*◌, ◌/◌, ◌%◌, ◌==◌, ◌<◌, Bool, true, false, not, ◌&&◌, ◌||◌, List, [], ◌∷◌, length, Option, Some, None, refl, ap, sym, ◌∙◌, subst, inl, inr, true≢false, arith}
use Rattle.std.specs.Prelude.{nat_lt, nat_le, if◌then◌else◌}
use Rattle.std.proofs.lemmas.Bool.{eq-eqb, eqb-true}
use Rattle.std.proofs.lemmas.Bool.Decides.{nat_tests}
use Rattle.qpu_word.specs.declared.word.Fields.{Fields}
use Rattle.qpu_word.specs.declared.state.Flags.{Flags}
use Rattle.qpu_word.specs.declared.state.Rest.{Rest as ProcessorRest}
use Rattle.qpu_word.specs.declared.state.Rest.TheVariants.{Straight as RunsOn, Ending as Ends, To as GoesTo}
use Rattle.qpu_word.specs.declared.state.Halt.TheVariants.{Going, Ended as HasEnded}
use Rattle.qpu_word.specs.Words.{is_branch, is_program_end}
use Rattle.qpu_word.specs.Flags.{branch_test}
use Rattle.qpu_word.specs.Lanes.{lane}
use Rattle.qpu_word.specs.Operands.{row_of}
use Rattle.qpu_word.specs.Operations.{low32}
use Rattle.qpu_word.specs.Processor.{ProcessorState}
use Rattle.qpu_word.specs.Instruction.{is_taken, target_of, link_of, branch_fails, rest_later, rest_after, place_later, place_after, halt_later, halt_after, is_link_point}
use Rattle.qpu_flow.specs.declared.slots.Slots.{Slots}
use Rattle.qpu_flow.specs.declared.slots.Successors.{Successors}
use Rattle.qpu_flow.specs.Code.{fields_at}
use Rattle.qpu_flow.specs.Control.{nowhere, one_less, is_always, is_register_branch, plain_target, is_word_byte, after_branch, next_from, asks_for, leads_to, leads_out, is_past, is_no_word}
use Rattle.qpu_flow.proofs.FollowLemmas.{slots_branch, slots_end, slots_plain, less_none, less_some, zero_false, lt_two, ge_two, next_ended, next_straight, after_last_branch, after_last_end, no_branch, untaken, untaken_ahead, whole_bytes}
use Rattle.qpu_hazard.specs.Paths.{IsPath, IsClean, follows, slots_of}
use Rattle.qpu_hazard.specs.Standing.{IsTargetOf, ProcessorRestIs, ProcessorStands, ProcessorGoes}
use Rattle.qpu_hazard.proofs.Basics.{and_first, and_second, or_first, or_second, or_left, or_right}
use Rattle.qpu_hazard.proofs.StepLemmas.{leads_by, link_there}
use Rattle.qpu_hazard.proofs.StandLemmas.{opens, stays_inside}

no_more : (base more : ℕ) → more ≡ 0 → base + more ≡ base
no_more base more none = omega (arith, none)

last_false : (a b c : Bool) → (a && b && c) ≡ false → a ≡ true → b ≡ true → c ≡ false
last_false true true c e x y = e
last_false true false c e x y = absurd (true≢false (sym y))
last_false false b c e x y = absurd (true≢false (sym x))

not_false_then : (b : Bool) → not b ≡ false → b ≡ true
not_false_then true e = refl
not_false_then false e = cc

both_true : (a b : Bool) → a ≡ true → b ≡ true → (a && b) ≡ true
both_true true b x y = y
both_true false b x y = absurd (true≢false (sym x))

-- a condition that is always holds
always_holds : (f : Fields) (flags : Flags) → is_always f ≡ true → branch_test f.cond_br flags ≡ true
unfolding branch_test
always_holds f flags always =
    let is : f.cond_br ≡ 15 = eqb-true f.cond_br 15 always in
    subst (λ (cond : ℕ). branch_test cond flags ≡ true) (sym is) refl

-- the target of a branch that adds no row
plain_target_of : (f : Fields) (p : ProcessorState) → is_register_branch f ≡ false → target_of f p ≡ plain_target p.place f
unfolding target_of plain_target
plain_target_of f p plain =
    let base : ℕ = f.immediate + (if f.rel == 1 then link_of p.place else 0) in
    let row : (if f.reg == 1 then lane (row_of p.file_a f.raddr_br) 0 else 0) ≡ 0 =
    ap (λ (b : Bool). if b then lane (row_of p.file_a f.raddr_br) 0 else 0) plain in
    let sum : f.immediate + (if f.rel == 1 then link_of p.place else 0) + (if f.reg == 1 then lane (row_of p.file_a f.raddr_br) 0 else 0) ≡ f.immediate + (if f.rel == 1 then link_of p.place else 0) =
    no_more base (if f.reg == 1 then lane (row_of p.file_a f.raddr_br) 0 else 0) row in
    ap low32 sum

-- the target of a taken register branch that doesn't fault
link_of_target : (code : List ℕ) (f : Fields) (p : ProcessorState) → branch_fails (is_link_point code) f p ≡ false → is_taken f p ≡ true → is_register_branch f ≡ true
    → is_link_point code (target_of f p / 8) ≡ true
unfolding branch_fails
link_of_target code f p holds taken registers =
    let either : not ((target_of f p % 8 == 0) && is_link_point code (target_of f p / 8)) ≡ false =
    last_false (is_taken f p) (is_register_branch f) (not ((target_of f p % 8 == 0) && is_link_point code (target_of f p / 8))) holds taken registers in
    and_second (target_of f p % 8 == 0) _ (not_false_then ((target_of f p % 8 == 0) && is_link_point code (target_of f p / 8)) either)

-- what a branch leaves in progress
target_of_branch : (code : List ℕ) (p : ProcessorState) (registers : Bool) → is_register_branch (fields_at code p.place) ≡ registers
    → branch_fails (is_link_point code) (fields_at code p.place) p ≡ false → is_taken (fields_at code p.place) p ≡ true
    → IsTargetOf code p.place (target_of (fields_at code p.place) p / 8)
target_of_branch code p true registers holds taken = inl (registers, link_of_target code (fields_at code p.place) p holds taken registers)
target_of_branch code p false registers holds taken =
    inr (registers, ap (λ (byte : ℕ). byte / 8) (plain_target_of (fields_at code p.place) p registers))

not_always : (f : Fields) (p : ProcessorState) (always : Bool) → is_always f ≡ always → is_branch f ≡ true → is_taken f p ≡ false → is_always f ≡ false
not_always f p false is branches untaken = is
not_always f p true is branches untaken =
    absurd (true≢false (sym (both_true (is_branch f) (branch_test f.cond_br p.flags) branches (always_holds f p.flags is)) ∙ untaken))

fits_branch : (code : List ℕ) (p : ProcessorState) (taken : Bool) → is_branch (fields_at code p.place) ≡ true → is_taken (fields_at code p.place) p ≡ taken
    → branch_fails (is_link_point code) (fields_at code p.place) p ≡ false
    → ProcessorRestIs code (Some (record { place = p.place; left = 3 })) (if taken then GoesTo 3 (target_of (fields_at code p.place) p / 8) else RunsOn)
fits_branch code p true branches taken holds = (refl, omega arith, branches, target_of_branch code p (is_register_branch (fields_at code p.place)) refl holds taken)
fits_branch code p false branches taken holds = inr (branches, not_always (fields_at code p.place) p (is_always (fields_at code p.place)) refl branches taken)

-- the places that follow, where no way leads out

below_past : (n a : ℕ) → nat_le n a ≡ false → a < n
below_past n a test = grind (arith, nat_tests)

below_true : (a n : ℕ) → nat_lt a n ≡ true → a < n
below_true a n test = grind (arith, nat_tests)

ahead_leads : (code : List ℕ) (next : Successors) (place : ℕ) → next.ahead ≡ Some place → leads_out code next ≡ false → leads_to code next place ≡ true
ahead_leads code next place ahead inside =
    let past : is_past code (Some place) ≡ false = subst (λ (o : Option ℕ). is_past code o ≡ false) ahead (or_left _ _ inside) in
    let asks : asks_for next.ahead place ≡ true = subst (λ (o : Option ℕ). asks_for o place ≡ true) (sym ahead) (eq-eqb place place refl) in
    leads_by code next place (below_past (length code) place past) (or_first _ _ (or_first _ _ asks))

jump_leads : (code : List ℕ) (next : Successors) (byte : ℕ) → next.jump ≡ Some byte → leads_out code next ≡ false → leads_to code next (byte / 8) ≡ true
jump_leads code next byte jumps inside =
    let word : not (is_word_byte code byte) ≡ false = subst (λ (o : Option ℕ). is_no_word code o ≡ false) jumps (or_right (is_past code next.ahead) _ inside) in
    let stands : is_word_byte code byte ≡ true = not_false_then (is_word_byte code byte) word in
    let whole : byte ≡ 8 * (byte / 8) = whole_bytes byte (eqb-true (byte % 8) 0 (and_first (byte % 8 == 0) _ stands)) in
    let asks : asks_for next.jump (8 * (byte / 8)) ≡ true = subst (λ (o : Option ℕ). asks_for o (8 * (byte / 8)) ≡ true) (sym jumps) (eq-eqb byte (8 * (byte / 8)) whole) in
    leads_by code next (byte / 8) (below_true (byte / 8) (length code) (and_second (byte % 8 == 0) _ stands)) (or_first _ _ (or_second (asks_for next.ahead (byte / 8)) _ asks))

link_leads : (code : List ℕ) (next : Successors) (at : ℕ) → next.any_link ≡ true → is_link_point code at ≡ true → leads_to code next at ≡ true
link_leads code next at any point =
    leads_by code next at (link_there code at point)
    (or_second (asks_for next.ahead at || asks_for next.jump (8 * at)) _ (both_true next.any_link (is_link_point code at) any point))

-- what a processor comes to, told by the slots after a word at a place

abbrev ComesTo : List ℕ → Option Slots → ℕ → ℕ → ProcessorRest → Type 0
ComesTo code slots a place rest = (leads_to code (next_from code slots (Some a)) place ≡ true) × ProcessorRestIs code slots rest

comes_ahead : (code : List ℕ) (slots : Option Slots) (a : ℕ) (rest : ProcessorRest) → leads_out code (next_from code slots (Some a)) ≡ false
    → (next_from code slots (Some a)).ahead ≡ Some (a + 1) → ProcessorRestIs code slots rest → ComesTo code slots a (a + 1) rest
comes_ahead code slots a rest inside ahead fits = (ahead_leads code (next_from code slots (Some a)) (a + 1) ahead inside, fits)

-- a word where nothing is in progress, or behind a branch that isn't taken
runs_on : (code : List ℕ) (slots : Option Slots) (a : ℕ) → ProcessorRestIs code slots RunsOn → leads_out code (next_from code (one_less slots) (Some a)) ≡ false
    → ComesTo code (one_less slots) a (a + 1) RunsOn
runs_on code None a fits inside = comes_ahead code None a RunsOn inside refl tt
runs_on code (Some s) a fits inside = by_count (s.left == 0) refl
  where
    by_count : (b : Bool) → (s.left == 0) ≡ b → ComesTo code (one_less (Some s)) a (a + 1) RunsOn
    by_count true is =
        subst (λ (o : Option Slots). leads_out code (next_from code o (Some a)) ≡ false → ComesTo code o a (a + 1) RunsOn) (sym (less_none s (eqb-true s.left 0 is)))
        (λ stays. comes_ahead code None a RunsOn stays refl tt) inside
    by_count false is =
        subst (λ (o : Option Slots). leads_out code (next_from code o (Some a)) ≡ false → ComesTo code o a (a + 1) RunsOn) (sym (less_some s (zero_false s.left is)))
        (λ stays. comes_ahead code (Some (record s { left = s.left - 1 })) a RunsOn stays (untaken_ahead code s a (zero_false s.left is) fits) (inr (untaken code s (zero_false s.left is) fits))) inside

-- the target of a taken branch, behind its last slot
at_target : (code : List ℕ) (s : Slots) (a place : ℕ) → s.left ≡ 0 → next_from code (Some s) (Some a) ≡ after_branch code s.place a
    → leads_out code (next_from code (Some s) (Some a)) ≡ false → IsTargetOf code s.place place → ComesTo code (Some s) a place RunsOn
at_target code s a place none is inside (inl link) =
    (link_leads code (next_from code (Some s) (Some a)) place (ap (λ (x : Successors). x.any_link) is ∙ link.0) link.1, inl none)
at_target code s a place none is inside (inr plain) =
    let byte : ℕ = plain_target s.place (fields_at code s.place) in
    let jumps : (next_from code (Some s) (Some a)).jump ≡ Some byte =
    ap (λ (x : Successors). x.jump) is ∙ ap (λ (b : Bool). if b then None else Some byte) plain.0 in
    (subst (λ (x : ℕ). leads_to code (next_from code (Some s) (Some a)) x ≡ true) (sym plain.1) (jump_leads code (next_from code (Some s) (Some a)) byte jumps inside), inl none)

-- a word that is no branch and no program end, by what is in progress
abbrev ByTest : Bool → Type 0 → Type 0 → Type 0
ByTest true A B = A
ByTest false A B = B

abbrev GoesIn : List ℕ → Option Slots → ℕ → ProcessorRest → Type 0
GoesIn code slots a RunsOn = ComesTo code slots a (a + 1) RunsOn
GoesIn code slots a (Ends n) = ByTest (nat_lt n 2) (next_from code slots (Some a) ≡ nowhere) (ComesTo code slots a (a + 1) (Ends (n - 1)))
GoesIn code slots a (GoesTo n place) = ByTest (nat_lt n 2) (ComesTo code slots a place RunsOn) (ComesTo code slots a (a + 1) (GoesTo (n - 1) place))

plain_word : (code : List ℕ) (slots : Option Slots) (a : ℕ) (rest : ProcessorRest) → ProcessorRestIs code slots rest
    → leads_out code (next_from code (one_less slots) (Some a)) ≡ false → GoesIn code (one_less slots) a rest
plain_word code slots a RunsOn fits inside = runs_on code slots a fits inside
plain_word code None a (Ends n) fits inside = absurd fits
plain_word code (Some s) a (Ends n) fits inside =
    subst (λ (o : Option Slots). leads_out code (next_from code o (Some a)) ≡ false → GoesIn code o a (Ends n)) (sym (less_some s (omega (arith, fits.0, fits.1))))
    (λ stays. by_count (nat_lt n 2) refl stays) inside
  where
    by_count : (b : Bool) → nat_lt n 2 ≡ b → leads_out code (next_from code (Some (record s { left = s.left - 1 })) (Some a)) ≡ false
        → ByTest b (next_from code (Some (record s { left = s.left - 1 })) (Some a) ≡ nowhere) (ComesTo code (Some (record s { left = s.left - 1 })) a (a + 1) (Ends (n - 1)))
    by_count true test stays =
        let none : s.left - 1 ≡ 0 = omega (arith, fits.0, lt_two n test) in
        next_ended code (record s { left = s.left - 1 }) a none ∙ after_last_end code s.place a (no_branch (fields_at code s.place) fits.2)
    by_count false test stays =
        let more : 0 < s.left - 1 = omega (arith, fits.0, ge_two n test) in
        let left : s.left - 1 ≡ n - 1 = ap (λ (x : ℕ). x - 1) fits.0 in
        let below : 0 < n - 1 = omega (arith, ge_two n test) in
        comes_ahead code (Some (record s { left = s.left - 1 })) a (Ends (n - 1)) stays
        (ap (λ (x : Successors). x.ahead) (next_straight code (record s { left = s.left - 1 }) a more)) (left, below, fits.2)
plain_word code None a (GoesTo n place) fits inside = absurd fits
plain_word code (Some s) a (GoesTo n place) fits inside =
    subst (λ (o : Option Slots). leads_out code (next_from code o (Some a)) ≡ false → GoesIn code o a (GoesTo n place)) (sym (less_some s (omega (arith, fits.0, fits.1))))
    (λ stays. by_count (nat_lt n 2) refl stays) inside
  where
    by_count : (b : Bool) → nat_lt n 2 ≡ b → leads_out code (next_from code (Some (record s { left = s.left - 1 })) (Some a)) ≡ false
        → ByTest b (ComesTo code (Some (record s { left = s.left - 1 })) a place RunsOn) (ComesTo code (Some (record s { left = s.left - 1 })) a (a + 1) (GoesTo (n - 1) place))
    by_count true test stays =
        let none : s.left - 1 ≡ 0 = omega (arith, fits.0, lt_two n test) in
        at_target code (record s { left = s.left - 1 }) a place none
        (next_ended code (record s { left = s.left - 1 }) a none ∙ after_last_branch code s.place a fits.2) stays fits.3
    by_count false test stays =
        let more : 0 < s.left - 1 = omega (arith, fits.0, ge_two n test) in
        let left : s.left - 1 ≡ n - 1 = ap (λ (x : ℕ). x - 1) fits.0 in
        let below : 0 < n - 1 = omega (arith, ge_two n test) in
        comes_ahead code (Some (record s { left = s.left - 1 })) a (GoesTo (n - 1) place) stays
        (ap (λ (x : Successors). x.ahead) (next_straight code (record s { left = s.left - 1 }) a more)) (left, below, fits.2, fits.3)

-- a processor that comes to a place by the slots of a path stands on it

comes_stands : (code t : List ℕ) (a place : ℕ) (rest : ProcessorRest) → ComesTo code (slots_of code (a ∷ t)) a place rest → ProcessorStands code (a ∷ t) place rest
unfolding follows
comes_stands code t a place rest comes = record { follows = comes.0; fits = comes.1 }

plain_goes : (code t : List ℕ) (a : ℕ) (rest : ProcessorRest) → GoesIn code (slots_of code (a ∷ t)) a rest
    → ProcessorGoes code (a ∷ t) (place_later rest a) (rest_later rest) (halt_later rest)
plain_goes code t a RunsOn goes = comes_stands code t a (a + 1) RunsOn goes
plain_goes code t a (Ends n) goes = by_count (nat_lt n 2) goes
  where
    by_count : (b : Bool) → ByTest b (next_from code (slots_of code (a ∷ t)) (Some a) ≡ nowhere) (ComesTo code (slots_of code (a ∷ t)) a (a + 1) (Ends (n - 1)))
        → ProcessorGoes code (a ∷ t) (a + 1) (if b then RunsOn else Ends (n - 1)) (if b then HasEnded else Going)
    by_count true goes = goes
    by_count false goes = comes_stands code t a (a + 1) (Ends (n - 1)) goes
plain_goes code t a (GoesTo n place) goes = by_count (nat_lt n 2) goes
  where
    by_count : (b : Bool) → ByTest b (ComesTo code (slots_of code (a ∷ t)) a place RunsOn) (ComesTo code (slots_of code (a ∷ t)) a (a + 1) (GoesTo (n - 1) place))
        → ProcessorGoes code (a ∷ t) (if b then place else a + 1) (if b then RunsOn else GoesTo (n - 1) place) Going
    by_count true goes = comes_stands code t a place RunsOn goes
    by_count false goes = comes_stands code t a (a + 1) (GoesTo (n - 1) place) goes

-- any word that doesn't fault

branch_goes : (code t : List ℕ) (p : ProcessorState) → is_branch (fields_at code p.place) ≡ true → branch_fails (is_link_point code) (fields_at code p.place) p ≡ false
    → leads_out code (next_from code (slots_of code (p.place ∷ t)) (Some p.place)) ≡ false
    → ProcessorStands code (p.place ∷ t) (p.place + 1) (if is_taken (fields_at code p.place) p then GoesTo 3 (target_of (fields_at code p.place) p / 8) else RunsOn)
branch_goes code t p is holds inside =
    let rest : ProcessorRest = if is_taken (fields_at code p.place) p then GoesTo 3 (target_of (fields_at code p.place) p / 8) else RunsOn in
    comes_stands code t p.place (p.place + 1) rest
    (subst (λ (o : Option Slots). leads_out code (next_from code o (Some p.place)) ≡ false → ComesTo code o p.place (p.place + 1) rest) (sym (slots_branch code (slots_of code t) p.place is))
    (λ stays. comes_ahead code (Some (record { place = p.place; left = 3 })) p.place rest stays refl
    (fits_branch code p (is_taken (fields_at code p.place) p) is refl holds)) inside)

end_goes : (code t : List ℕ) (a : ℕ) → is_program_end (fields_at code a) ≡ true
    → leads_out code (next_from code (slots_of code (a ∷ t)) (Some a)) ≡ false → ProcessorStands code (a ∷ t) (a + 1) (Ends 2)
end_goes code t a ends inside =
    comes_stands code t a (a + 1) (Ends 2)
    (subst (λ (o : Option Slots). leads_out code (next_from code o (Some a)) ≡ false → ComesTo code o a (a + 1) (Ends 2)) (sym (slots_end code (slots_of code t) a ends))
    (λ stays. comes_ahead code (Some (record { place = a; left = 2 })) a (Ends 2) stays refl (refl, omega arith, ends)) inside)

pub processor_stays : (code t : List ℕ) (p : ProcessorState) → IsClean code → IsPath code t → ProcessorStands code t p.place p.rest
    → branch_fails (is_link_point code) (fields_at code p.place) p ≡ false
    → IsPath code (p.place ∷ t)
    × ProcessorGoes code (p.place ∷ t) (place_after (fields_at code p.place) p) (rest_after (fields_at code p.place) p) (halt_after (fields_at code p.place) p)
unfolding place_after rest_after halt_after
processor_stays code t p clean is_path stands holds = (further, by_branch (is_branch (fields_at code p.place)) refl)
  where
    further : IsPath code (p.place ∷ t)
    further = (is_path, clean t is_path, stands.follows)

    inside : leads_out code (next_from code (slots_of code (p.place ∷ t)) (Some p.place)) ≡ false
    inside = stays_inside code t p.place clean further

    by_end : (d : Bool) → is_branch (fields_at code p.place) ≡ false → is_program_end (fields_at code p.place) ≡ d
        → ProcessorGoes code (p.place ∷ t) (if d then p.place + 1 else place_later p.rest p.place) (if d then Ends 2 else rest_later p.rest) (if d then Going else halt_later p.rest)
    by_end true none ends = end_goes code t p.place ends inside
    by_end false none ends =
        let less : slots_of code (p.place ∷ t) ≡ one_less (slots_of code t) = slots_plain code (slots_of code t) p.place none ends in
        plain_goes code t p.place p.rest
        (subst (λ (o : Option Slots). GoesIn code o p.place p.rest) (sym less)
        (plain_word code (slots_of code t) p.place p.rest stands.fits
        (subst (λ (o : Option Slots). leads_out code (next_from code o (Some p.place)) ≡ false) less inside)))

    by_branch : (b : Bool) → is_branch (fields_at code p.place) ≡ b
        → ProcessorGoes code (p.place ∷ t) (if b || is_program_end (fields_at code p.place) then p.place + 1 else place_later p.rest p.place)
        (if b then (if is_taken (fields_at code p.place) p then GoesTo 3 (target_of (fields_at code p.place) p / 8) else RunsOn)
        else (if is_program_end (fields_at code p.place) then Ends 2 else rest_later p.rest))
        (if b || is_program_end (fields_at code p.place) then Going else halt_later p.rest)
    by_branch true is = branch_goes code t p is holds inside
    by_branch false is = by_end (is_program_end (fields_at code p.place)) is refl

-- before any word
pub processor_opens : (code : List ℕ) → IsClean code → ProcessorStands code [] 0 RunsOn
processor_opens code clean = let stands = opens code clean in record { follows = stands.follows; fits = stands.rest }
