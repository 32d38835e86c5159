-- That a step goes the way which is chosen of those that may follow.
use Rattle.std.proofs.Common.{◌≡◌, ◌⊎◌, ◌↔◌, ℕ, ◌+◌, ◌-◌, ◌*◌, ◌/◌, ◌%◌, ◌==◌, ◌<◌, ◌≤◌, Bool, true, false, not, ◌&&◌, ◌||◌, List, length, Option, Some, None, refl, ap, sym, ◌∙◌, subst, inl, inr, true≢false, arith}
use Rattle.std.specs.Prelude.{nat_lt, nat_le, if◌then◌else◌}
use Rattle.std.proofs.lemmas.Bool.{eq-eqb, eqb-true}
use Rattle.std.proofs.lemmas.Bool.Decides.{nat_tests}
use Rattle.qpu_word.specs.declared.word.Fields.{Fields}
use Rattle.qpu_word.specs.Words.{is_branch, is_program_end}
use Rattle.qpu_word.proofs.StepLemmas.{or_left}
use Rattle.qpu_flow.specs.declared.slots.Slots.{Slots}
use Rattle.qpu_flow.specs.declared.slots.Successors.{Successors}
use Rattle.qpu_flow.specs.declared.control.Control.{Control}
use Rattle.qpu_flow.specs.declared.control.Progress.{Progress}
use Rattle.qpu_flow.specs.declared.control.Progress.TheVariants.{Straight, Ending, To}
use Rattle.qpu_flow.specs.declared.control.Target.{Target}
use Rattle.qpu_flow.specs.declared.control.Target.TheVariants.{Byte, AnyLink as ToAnyLink}
use Rattle.qpu_flow.specs.declared.control.Next.{Next}
use Rattle.qpu_flow.specs.declared.control.Next.TheVariants.{At, AnyLink, Ended, Outside}
use Rattle.qpu_flow.specs.Code.{fields_at}
use Rattle.qpu_flow.specs.Control.{is_always, is_register_branch, plain_target, target_from, is_word_byte, one_less, slots_after, nowhere, straight_on, after_branch, after_last_slot, next_from, leads_to, leads_out}
use Rattle.qpu_flow.specs.Follow.{RestIs, has_target, is_chosen, KeepsChoice, ways, chosen_way, Follows}
use Rattle.qpu_flow.specs.Steps.{branched, going, arrived, gone_on, follow}

-- the answers that a way leaves, over plain variables
record Met (code : List ℕ) (open_ways way : Successors) (Fits : Progress → Type 0) (next : Next) : Type 0 where
  any_link : (next ≡ AnyLink) ↔ (way.any_link ≡ true)
  ended : (next ≡ Ended) ↔ (open_ways ≡ nowhere)
  outside : (next ≡ Outside) ↔ (leads_out code way ≡ true)
  at : (after : Control) → next ≡ At after → (leads_to code way after.place ≡ true) × Fits after.rest

-- the control that an answer has
control_of : Next → Control → Control
control_of (At c) d = c
control_of AnyLink d = d
control_of Ended d = d
control_of Outside d = d

same_control : (c d : Control) → At c ≡ At d → c ≡ d
unfolding control_of
same_control c d e = ap (λ (n : Next). control_of n c) e

-- tests of numbers
pub is_zero : (n : ℕ) → n ≡ 0 → (n == 0) ≡ true
is_zero n e = eq-eqb n 0 e

pub not_zero : (n : ℕ) → 0 < n → (n == 0) ≡ false
not_zero n some = grind (arith, nat_tests)

pub zero_false : (n : ℕ) → (n == 0) ≡ false → 0 < n
zero_false n test = grind (arith, nat_tests)

pub lt_two : (n : ℕ) → nat_lt n 2 ≡ true → n < 2
lt_two n test = grind (arith, nat_tests)

pub ge_two : (n : ℕ) → nat_lt n 2 ≡ false → 2 ≤ n
ge_two n test = grind (arith, nat_tests)

inside_in : (a n : ℕ) → nat_lt a n ≡ true → (nat_le n a || false) ≡ true → ⊥
inside_in a n low past = grind (arith, nat_tests)

outside_out : (a n : ℕ) → nat_lt a n ≡ false → (nat_le n a || false) ≡ true
outside_out a n high = grind (arith, nat_tests)

leads_ahead : (a n : ℕ) → nat_lt a n ≡ true → (nat_lt a n && ((a == a) || false || false)) ≡ true
leads_ahead a n low = rw (low, eq-eqb a a refl) refl

pub whole_bytes : (byte : ℕ) → byte % 8 ≡ 0 → byte ≡ 8 * (byte / 8)
whole_bytes byte none = omega arith

pub and_first : (a b : Bool) → (a && b) ≡ true → a ≡ true
and_first true b e = refl
and_first false b e = cc

pub and_second : (a b : Bool) → (a && b) ≡ true → b ≡ true
and_second true b e = e
and_second false b e = cc

and_false : (b : Bool) → (b && false) ≡ false
and_false true = refl
and_false false = refl

-- the next word
ahead_met : (code : List ℕ) (open_ways way : Successors) (Fits : Progress → Type 0) (place : ℕ) (rest : Progress)
    → open_ways.ahead ≡ Some place → way ≡ record { ahead = Some place; jump = None; any_link = false } → Fits rest
    → Met code open_ways way Fits (going code place rest)
ahead_met code open_ways way Fits place rest ahead is fits =
    subst (λ (w : Successors). Met code open_ways w Fits (going code place rest)) (sym is) (by_test (nat_lt place (length code)) refl)
  where
    not_nowhere : open_ways ≡ nowhere → ⊥
    not_nowhere none = absurd (let e : Some place ≡ None = sym ahead ∙ ap (λ (x : Successors). x.ahead) none in cc)

    by_test : (b : Bool) → nat_lt place (length code) ≡ b
        → Met code open_ways (record { ahead = Some place; jump = None; any_link = false }) Fits (if b then At (record { place = place; rest = rest }) else Outside)
    by_test true low = record {
      any_link = ((λ e. absurd (cc)), (λ e. absurd (true≢false (sym e))));
      ended = ((λ e. absurd (cc)), (λ none. absurd (not_nowhere none)));
      outside = ((λ e. absurd (cc)), (λ out. absurd (inside_in place (length code) low out)));
      at = λ after e.
          subst (λ (c : Control). (leads_to code (record { ahead = Some place; jump = None; any_link = false }) c.place ≡ true) × Fits c.rest)
          (same_control _ after e) (leads_ahead place (length code) low, fits);
    }
    by_test false high = record {
      any_link = ((λ e. absurd (cc)), (λ e. absurd (true≢false (sym e))));
      ended = ((λ e. absurd (cc)), (λ none. absurd (not_nowhere none)));
      outside = ((λ e. outside_out place (length code) high), (λ e. refl));
      at = λ after e. absurd (cc);
    }

-- the target of a branch
jump_met : (code : List ℕ) (open_ways way : Successors) (Fits : Progress → Type 0) (byte : ℕ)
    → open_ways.jump ≡ Some byte → way ≡ record { ahead = None; jump = Some byte; any_link = false } → Fits Straight
    → Met code open_ways way Fits (arrived code (Byte byte))
jump_met code open_ways way Fits byte jumps is fits =
    subst (λ (w : Successors). Met code open_ways w Fits (arrived code (Byte byte))) (sym is) (by_test (is_word_byte code byte) refl)
  where
    not_nowhere : open_ways ≡ nowhere → ⊥
    not_nowhere none = absurd (let e : Some byte ≡ None = sym jumps ∙ ap (λ (x : Successors). x.jump) none in cc)

    leads : is_word_byte code byte ≡ true → leads_to code (record { ahead = None; jump = Some byte; any_link = false }) (byte / 8) ≡ true
    leads stands =
        let whole : byte ≡ 8 * (byte / 8) = whole_bytes byte (eqb-true (byte % 8) 0 (and_first (byte % 8 == 0) _ stands)) in
        rw (and_second (byte % 8 == 0) _ stands, eq-eqb byte (8 * (byte / 8)) whole) refl

    by_test : (b : Bool) → is_word_byte code byte ≡ b
        → Met code open_ways (record { ahead = None; jump = Some byte; any_link = false }) Fits (if b then At (record { place = byte / 8; rest = Straight }) else Outside)
    by_test true stands = record {
      any_link = ((λ e. absurd (cc)), (λ e. absurd (true≢false (sym e))));
      ended = ((λ e. absurd (cc)), (λ none. absurd (not_nowhere none)));
      outside = ((λ e. absurd (cc)), (λ out. absurd (true≢false (sym out ∙ ap (λ (b : Bool). false || not b) stands))));
      at = λ after e.
          subst (λ (c : Control). (leads_to code (record { ahead = None; jump = Some byte; any_link = false }) c.place ≡ true) × Fits c.rest)
          (same_control _ after e) (leads stands, fits);
    }
    by_test false stands = record {
      any_link = ((λ e. absurd (cc)), (λ e. absurd (true≢false (sym e))));
      ended = ((λ e. absurd (cc)), (λ none. absurd (not_nowhere none)));
      outside = ((λ e. ap (λ (b : Bool). false || not b) stands), (λ e. refl));
      at = λ after e. absurd (cc);
    }

-- the link points
link_met : (code : List ℕ) (open_ways way : Successors) (Fits : Progress → Type 0)
    → open_ways.any_link ≡ true → way ≡ record { ahead = None; jump = None; any_link = true }
    → Met code open_ways way Fits AnyLink
link_met code open_ways way Fits any is =
    subst (λ (w : Successors). Met code open_ways w Fits AnyLink) (sym is) (record {
      any_link = ((λ e. refl), (λ e. refl));
      ended = ((λ e. absurd (cc)), (λ none. absurd (true≢false (sym any ∙ ap (λ (x : Successors). x.any_link) none))));
      outside = ((λ e. absurd (cc)), (λ out. absurd (true≢false (sym out))));
      at = λ after e. absurd (cc);
    })

-- no word
ended_met : (code : List ℕ) (open_ways way : Successors) (Fits : Progress → Type 0)
    → open_ways ≡ nowhere → way ≡ nowhere → Met code open_ways way Fits Ended
ended_met code open_ways way Fits none is =
    subst (λ (w : Successors). Met code open_ways w Fits Ended) (sym is) (record {
      any_link = ((λ e. absurd (cc)), (λ e. absurd (true≢false (sym e))));
      ended = ((λ e. none), (λ e. refl));
      outside = ((λ e. absurd (cc)), (λ out. absurd (true≢false (sym out))));
      at = λ after e. absurd (cc);
    })

-- chosen ways

way_straight : (rest : Progress) (at : ℕ) → chosen_way rest (straight_on at) ≡ straight_on at
way_straight Straight at = refl
way_straight (Ending n) at = refl
way_straight (To n target) at = refl

way_ahead : (next : Successors) (place : ℕ) → next.ahead ≡ Some place → chosen_way Straight next ≡ record { ahead = Some place; jump = None; any_link = false }
way_ahead next place ahead = ap (λ (o : Option ℕ). record { ahead = o; jump = None; any_link = false }) ahead

way_jump : (next : Successors) (n byte : ℕ) (target : Target) → next.jump ≡ Some byte → next.any_link ≡ false
    → chosen_way (To n target) next ≡ record { ahead = None; jump = Some byte; any_link = false }
way_jump next n byte target jumps none = rw (jumps, none) refl

way_link : (next : Successors) (n : ℕ) (target : Target) → next.jump ≡ None → next.any_link ≡ true
    → chosen_way (To n target) next ≡ record { ahead = None; jump = None; any_link = true }
way_link next n target none any = rw (none, any) refl

-- successors by the count of slots
pub next_ended : (code : List ℕ) (s : Slots) (a : ℕ) → s.left ≡ 0 → next_from code (Some s) (Some a) ≡ after_last_slot code s.place a
next_ended code s a none = ap (λ (b : Bool). if b then after_last_slot code s.place a else straight_on a) (is_zero s.left none)

pub next_straight : (code : List ℕ) (s : Slots) (a : ℕ) → 0 < s.left → next_from code (Some s) (Some a) ≡ straight_on a
next_straight code s a some = ap (λ (b : Bool). if b then after_last_slot code s.place a else straight_on a) (not_zero s.left some)

pub after_last_branch : (code : List ℕ) (begun a : ℕ) → is_branch (fields_at code begun) ≡ true → after_last_slot code begun a ≡ after_branch code begun a
after_last_branch code begun a branches = ap (λ (b : Bool). if b then after_branch code begun a else nowhere) branches

pub after_last_end : (code : List ℕ) (begun a : ℕ) → is_branch (fields_at code begun) ≡ false → after_last_slot code begun a ≡ nowhere
after_last_end code begun a branches = ap (λ (b : Bool). if b then after_branch code begun a else nowhere) branches

pub no_branch : (f : Fields) → is_program_end f ≡ true → is_branch f ≡ false
no_branch f ends = grind (arith, nat_tests)

-- slots after each kind of word
pub slots_branch : (code : List ℕ) (slots : Option Slots) (a : ℕ) → is_branch (fields_at code a) ≡ true → slots_after code slots a ≡ Some (record { place = a; left = 3 })
slots_branch code slots a branches =
    ap (λ (b : Bool). if b then Some (record { place = a; left = 3 })
    else (if is_program_end (fields_at code a) then Some (record { place = a; left = 2 }) else one_less slots)) branches

pub slots_end : (code : List ℕ) (slots : Option Slots) (a : ℕ) → is_program_end (fields_at code a) ≡ true → slots_after code slots a ≡ Some (record { place = a; left = 2 })
slots_end code slots a ends =
    ap (λ (b : Bool). if b then Some (record { place = a; left = 3 })
    else (if is_program_end (fields_at code a) then Some (record { place = a; left = 2 }) else one_less slots)) (no_branch (fields_at code a) ends)
    ∙ ap (λ (b : Bool). if b then Some (record { place = a; left = 2 }) else one_less slots) ends

pub slots_plain : (code : List ℕ) (slots : Option Slots) (a : ℕ) → is_branch (fields_at code a) ≡ false → is_program_end (fields_at code a) ≡ false → slots_after code slots a ≡ one_less slots
slots_plain code slots a branches ends =
    ap (λ (b : Bool). if b then Some (record { place = a; left = 3 })
    else (if is_program_end (fields_at code a) then Some (record { place = a; left = 2 }) else one_less slots)) branches
    ∙ ap (λ (b : Bool). if b then Some (record { place = a; left = 2 }) else one_less slots) ends

pub less_none : (s : Slots) → s.left ≡ 0 → one_less (Some s) ≡ None
less_none s none = ap (λ (b : Bool). if b then None else Some (record s { left = s.left - 1 })) (is_zero s.left none)

pub less_some : (s : Slots) → 0 < s.left → one_less (Some s) ≡ Some (record s { left = s.left - 1 })
less_some s some = ap (λ (b : Bool). if b then None else Some (record s { left = s.left - 1 })) (not_zero s.left some)

-- the answer is one with given slots after the word, and a given choice
abbrev FitsIn : List ℕ → Option Slots → Bool → Progress → Type 0
FitsIn code slots chosen rest = RestIs code slots rest × KeepsChoice code slots chosen rest

abbrev MetIn : List ℕ → Option Slots → ℕ → Progress → Bool → Next → Type 0
MetIn code slots a before chosen next =
    Met code (next_from code slots (Some a)) (chosen_way before (next_from code slots (Some a))) (FitsIn code slots chosen) next

-- a branch
rest_branched : (code : List ℕ) (a : ℕ) (taken test : Bool) → (is_always (fields_at code a) || taken) ≡ test → is_branch (fields_at code a) ≡ true
    → RestIs code (Some (record { place = a; left = 3 })) (if test then To 3 (target_from a (fields_at code a)) else Straight)
rest_branched code a taken true is branches = (refl, omega arith, branches, refl)
rest_branched code a taken false is branches = inr (branches, or_left _ _ is)

branched_target : (f : Fields) (a : ℕ) (test : Bool) → has_target (if test then To 3 (target_from a f) else Straight) ≡ test
branched_target f a true = refl
branched_target f a false = refl

choice_branched : (f : Fields) (a : ℕ) (taken : Bool) (before : Progress) → is_branch f ≡ true → has_target (branched a f taken) ≡ (is_branch f && is_chosen f taken before)
choice_branched f a taken before branches = branched_target f a (is_always f || taken) ∙ sym (rw branches refl)

branch_met : (code : List ℕ) (slots : Option Slots) (a : ℕ) (before : Progress) (taken : Bool) → is_branch (fields_at code a) ≡ true
    → MetIn code (slots_after code slots a) a before (is_chosen (fields_at code a) taken before) (going code (a + 1) (branched a (fields_at code a) taken))
branch_met code slots a before taken branches =
    subst (λ (s : Option Slots). MetIn code s a before (is_chosen (fields_at code a) taken before) (going code (a + 1) (branched a (fields_at code a) taken)))
    (sym (slots_branch code slots a branches))
    (ahead_met code (straight_on a) (chosen_way before (straight_on a)) _ (a + 1) (branched a (fields_at code a) taken) refl (way_straight before a) (
      rest_branched code a taken (is_always (fields_at code a) || taken) refl branches,
      λ some. choice_branched (fields_at code a) a taken before branches,
    ))

-- program end
choice_none : (f : Fields) (chosen : Bool) → is_branch f ≡ false → false ≡ (is_branch f && chosen)
choice_none f chosen none = sym (ap (λ (b : Bool). b && chosen) none)

end_met : (code : List ℕ) (slots : Option Slots) (a : ℕ) (before : Progress) (chosen : Bool) → is_program_end (fields_at code a) ≡ true
    → MetIn code (slots_after code slots a) a before chosen (going code (a + 1) (Ending 2))
end_met code slots a before chosen ends =
    subst (λ (s : Option Slots). MetIn code s a before chosen (going code (a + 1) (Ending 2)))
    (sym (slots_end code slots a ends))
    (ahead_met code (straight_on a) (chosen_way before (straight_on a)) _ (a + 1) (Ending 2) refl (way_straight before a)
    ((refl, omega arith, ends), λ some. choice_none (fields_at code a) chosen (no_branch (fields_at code a) ends)))

-- a branch that isn't taken
pub untaken : (code : List ℕ) (s : Slots) → 0 < s.left
    → (s.left ≡ 0) ⊎ ((is_branch (fields_at code s.place) ≡ true) × (is_always (fields_at code s.place) ≡ false))
    → (is_branch (fields_at code s.place) ≡ true) × (is_always (fields_at code s.place) ≡ false)
untaken code s some (inl none) = absurd (omega arith)
untaken code s some (inr ways) = ways

pub untaken_ahead : (code : List ℕ) (s : Slots) (a : ℕ) → 0 < s.left → RestIs code (Some s) Straight
    → (next_from code (Some (record s { left = s.left - 1 })) (Some a)).ahead ≡ Some (a + 1)
untaken_ahead code s a some rest = by_count (s.left - 1 == 0)
  where
    ends : (after_last_slot code s.place a).ahead ≡ Some (a + 1)
    ends =
        ap (λ (x : Successors). x.ahead) (after_last_branch code s.place a (untaken code s some rest).0)
        ∙ ap (λ (b : Bool). if b then None else Some (a + 1)) (untaken code s some rest).1

    by_count : (b : Bool) → (if b then after_last_slot code s.place a else straight_on a).ahead ≡ Some (a + 1)
    by_count true = ends
    by_count false = refl

-- a word in the slots, or after them
straight_met : (code : List ℕ) (slots : Option Slots) (a : ℕ) → RestIs code slots Straight → MetIn code (one_less slots) a Straight false (going code (a + 1) Straight)
straight_met code None a rest = ahead_met code (straight_on a) (straight_on a) _ (a + 1) Straight refl refl (tt, tt)
straight_met code (Some s) a rest = by_count (s.left == 0) refl
  where
    some_left : 0 < s.left → MetIn code (one_less (Some s)) a Straight false (going code (a + 1) Straight)
    some_left some =
        let ahead = untaken_ahead code s a some rest in
        let next : Successors = next_from code (Some (record s { left = s.left - 1 })) (Some a) in
        subst (λ (o : Option Slots). MetIn code o a Straight false (going code (a + 1) Straight)) (sym (less_some s some))
        (ahead_met code next (chosen_way Straight next) (FitsIn code (Some (record s { left = s.left - 1 })) false) (a + 1) Straight ahead (way_ahead next (a + 1) ahead)
        (inr (untaken code s some rest), λ left. sym (and_false (is_branch (fields_at code s.place)))))

    by_count : (b : Bool) → (s.left == 0) ≡ b → MetIn code (one_less (Some s)) a Straight false (going code (a + 1) Straight)
    by_count true is =
        subst (λ (o : Option Slots). MetIn code o a Straight false (going code (a + 1) Straight)) (sym (less_none s (eqb-true s.left 0 is)))
        (ahead_met code (straight_on a) (straight_on a) _ (a + 1) Straight refl refl (tt, tt))
    by_count false is = some_left (zero_false s.left is)

-- a slot of program end, or the word after its last slot
ending_met : (code : List ℕ) (slots : Option Slots) (n a : ℕ) → RestIs code slots (Ending n) → MetIn code (one_less slots) a (Ending n) false (gone_on code (Ending n) a)
ending_met code None n a rest = absurd rest
ending_met code (Some s) n a rest =
    subst (λ (o : Option Slots). MetIn code o a (Ending n) false (gone_on code (Ending n) a)) (sym (less_some s (omega (arith, rest.0, rest.1)))) (by_count (nat_lt n 2) refl)
  where
    ended : nat_lt n 2 ≡ true → next_from code (Some (record s { left = s.left - 1 })) (Some a) ≡ nowhere
    ended test =
        let none : s.left - 1 ≡ 0 = omega (arith, rest.0, lt_two n test) in
        next_ended code (record s { left = s.left - 1 }) a none ∙ after_last_end code s.place a (no_branch (fields_at code s.place) rest.2)

    by_count : (b : Bool) → nat_lt n 2 ≡ b → MetIn code (Some (record s { left = s.left - 1 })) a (Ending n) false (if b then Ended else going code (a + 1) (Ending (n - 1)))
    by_count true test = ended_met code _ _ _ (ended test) (ap (λ (x : Successors). chosen_way (Ending n) x) (ended test))
    by_count false test =
        let more : 0 < s.left - 1 = omega (arith, rest.0, ge_two n test) in
        let left : s.left - 1 ≡ n - 1 = ap (λ (x : ℕ). x - 1) rest.0 in
        let below : 0 < n - 1 = omega (arith, ge_two n test) in
        let is : next_from code (Some (record s { left = s.left - 1 })) (Some a) ≡ straight_on a = next_straight code (record s { left = s.left - 1 }) a more in
        ahead_met code _ _ _ (a + 1) (Ending (n - 1)) (ap (λ (x : Successors). x.ahead) is) (ap (λ (x : Successors). chosen_way (Ending n) x) is)
        ((left, below, rest.2), λ some. choice_none (fields_at code s.place) false (no_branch (fields_at code s.place) rest.2))

-- a slot of a taken branch, or the way to its target
target_met : (code : List ℕ) (s : Slots) (n a : ℕ) (chosen registers : Bool) → is_register_branch (fields_at code s.place) ≡ registers → s.left ≡ 0
    → next_from code (Some s) (Some a) ≡ after_branch code s.place a
    → (target : Target) → MetIn code (Some s) a (To n target) chosen (arrived code (if registers then ToAnyLink else Byte (plain_target s.place (fields_at code s.place))))
target_met code s n a chosen true registers none is target =
    let jumps : (next_from code (Some s) (Some a)).jump ≡ None =
    ap (λ (x : Successors). x.jump) is ∙ ap (λ (b : Bool). if b then None else Some (plain_target s.place (fields_at code s.place))) registers in
    let any : (next_from code (Some s) (Some a)).any_link ≡ true = ap (λ (x : Successors). x.any_link) is ∙ registers in
    link_met code _ _ _ any (way_link (next_from code (Some s) (Some a)) n target jumps any)
target_met code s n a chosen false registers none is target =
    let byte : ℕ = plain_target s.place (fields_at code s.place) in
    let jumps : (next_from code (Some s) (Some a)).jump ≡ Some byte =
    ap (λ (x : Successors). x.jump) is ∙ ap (λ (b : Bool). if b then None else Some byte) registers in
    let any : (next_from code (Some s) (Some a)).any_link ≡ false = ap (λ (x : Successors). x.any_link) is ∙ registers in
    jump_met code _ _ _ byte jumps (way_jump (next_from code (Some s) (Some a)) n byte target jumps any)
    (inl none, λ some. absurd (omega (arith, none, some)))

to_met : (code : List ℕ) (slots : Option Slots) (n a : ℕ) (target : Target) → RestIs code slots (To n target)
    → MetIn code (one_less slots) a (To n target) true (gone_on code (To n target) a)
to_met code None n a target rest = absurd rest
to_met code (Some s) n a target rest =
    subst (λ (o : Option Slots). MetIn code o a (To n target) true (gone_on code (To n target) a)) (sym (less_some s (omega (arith, rest.0, rest.1)))) (by_count (nat_lt n 2) refl)
  where
    arrives : nat_lt n 2 ≡ true → MetIn code (Some (record s { left = s.left - 1 })) a (To n target) true (arrived code target)
    arrives test =
        let none : s.left - 1 ≡ 0 = omega (arith, rest.0, lt_two n test) in
        let is : next_from code (Some (record s { left = s.left - 1 })) (Some a) ≡ after_branch code s.place a =
        next_ended code (record s { left = s.left - 1 }) a none ∙ after_last_branch code s.place a rest.2 in
        subst (λ (x : Target). MetIn code (Some (record s { left = s.left - 1 })) a (To n target) true (arrived code x)) (sym rest.3)
        (target_met code (record s { left = s.left - 1 }) n a true (is_register_branch (fields_at code s.place)) refl none is target)

    by_count : (b : Bool) → nat_lt n 2 ≡ b → MetIn code (Some (record s { left = s.left - 1 })) a (To n target) true (if b then arrived code target else going code (a + 1) (To (n - 1) target))
    by_count true test = arrives test
    by_count false test =
        let more : 0 < s.left - 1 = omega (arith, rest.0, ge_two n test) in
        let left : s.left - 1 ≡ n - 1 = ap (λ (x : ℕ). x - 1) rest.0 in
        let below : 0 < n - 1 = omega (arith, ge_two n test) in
        let is : next_from code (Some (record s { left = s.left - 1 })) (Some a) ≡ straight_on a = next_straight code (record s { left = s.left - 1 }) a more in
        ahead_met code _ _ _ (a + 1) (To (n - 1) target) (ap (λ (x : Successors). x.ahead) is) (ap (λ (x : Successors). chosen_way (To n target) x) is)
        ((left, below, rest.2, rest.3), λ some. sym (ap (λ (b : Bool). b && true) rest.2))

-- a word that is no branch and no program end
gone_met : (code : List ℕ) (slots : Option Slots) (a : ℕ) (rest : Progress) → RestIs code slots rest → MetIn code (one_less slots) a rest (has_target rest) (gone_on code rest a)
gone_met code slots a Straight rest = straight_met code slots a rest
gone_met code slots a (Ending n) rest = ending_met code slots n a rest
gone_met code slots a (To n target) rest = to_met code slots n a target rest

-- any word
step_met : (code : List ℕ) (slots : Option Slots) (c : Control) (taken : Bool) → RestIs code slots c.rest
    → MetIn code (slots_after code slots c.place) c.place c.rest (is_chosen (fields_at code c.place) taken c.rest) (follow code c taken)
step_met code slots c taken rest = by_branch (is_branch (fields_at code c.place)) refl
  where
    plain : is_branch (fields_at code c.place) ≡ false → is_chosen (fields_at code c.place) taken c.rest ≡ has_target c.rest
    plain branches = ap (λ (b : Bool). if b then is_always (fields_at code c.place) || taken else has_target c.rest) branches

    by_end : (b : Bool) → is_branch (fields_at code c.place) ≡ false → is_program_end (fields_at code c.place) ≡ b
        → MetIn code (slots_after code slots c.place) c.place c.rest (is_chosen (fields_at code c.place) taken c.rest)
        (if b then going code (c.place + 1) (Ending 2) else gone_on code c.rest c.place)
    by_end true branches ends = end_met code slots c.place c.rest (is_chosen (fields_at code c.place) taken c.rest) ends
    by_end false branches ends =
        subst (λ (o : Option Slots). MetIn code o c.place c.rest (is_chosen (fields_at code c.place) taken c.rest) (gone_on code c.rest c.place))
        (sym (slots_plain code slots c.place branches ends))
        (subst (λ (b : Bool). MetIn code (one_less slots) c.place c.rest b (gone_on code c.rest c.place)) (sym (plain branches))
        (gone_met code slots c.place c.rest rest))

    by_branch : (b : Bool) → is_branch (fields_at code c.place) ≡ b
        → MetIn code (slots_after code slots c.place) c.place c.rest (is_chosen (fields_at code c.place) taken c.rest)
        (if b then going code (c.place + 1) (branched c.place (fields_at code c.place) taken)
        else (if is_program_end (fields_at code c.place) then going code (c.place + 1) (Ending 2) else gone_on code c.rest c.place))
    by_branch true branches = branch_met code slots c.place c.rest taken branches
    by_branch false branches = by_end (is_program_end (fields_at code c.place)) branches refl

pub step_follows : (code : List ℕ) (slots : Option Slots) (c : Control) (taken : Bool) → RestIs code slots c.rest → Follows code slots c taken (follow code c taken)
step_follows code slots c taken rest =
    let met = step_met code slots c taken rest in
    record {
      any_link = met.any_link;
      ended = met.ended;
      outside = met.outside;
      at = λ after e. let on = met.at after e in record { place = on.0; rest = on.1.0; choice = on.1.1 };
    }

-- the same of an answer that a step gives
pub answer_follows : (code : List ℕ) (c : Control) (taken : Bool) (next : Next) → next ≡ follow code c taken
    → (slots : Option Slots) → RestIs code slots c.rest → Follows code slots c taken next
answer_follows code c taken next is slots rest = subst (λ (n : Next). Follows code slots c taken n) (sym is) (step_follows code slots c taken rest)
