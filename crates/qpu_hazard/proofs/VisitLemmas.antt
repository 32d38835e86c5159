-- Steps of the search over a part's marks: what was done stays done, and growth is joined.
use Rattle.std.proofs.Common.{◌≡◌, ◌⊎◌, ℕ, ◌+◌, ◌*◌, ◌/◌, ◌<◌, ◌≤◌, Bool, true, false, List, [], ◌∷◌, ◌++◌, length, get_or, take, Option, Some, ◌&&◌, eqb, ap, sym, ◌∙◌, subst, inl, inr, append_assoc, true≢false, arith}
use Rattle.std.specs.Prelude.{Contains, All, slice_index_or}
use Rattle.std.specs.Option.{option_eq}
use Rattle.std.proofs.Math.Bool.{beq}
use Rattle.std.proofs.lemmas.Bool.{eqb-true}
use Rattle.std.proofs.lemmas.List.{append-nil, get_or_append_left, length-append, take_all}
use Rattle.std.proofs.lemmas.List.Elements.{All-more, All-weaker, Contains-append_left}
use Rattle.qpu_word.specs.Instruction.{is_link_point}
use Rattle.qpu_flow.specs.declared.slots.Slots.{Slots}
use Rattle.qpu_flow.specs.declared.slots.Successors.{Successors}
use Rattle.qpu_flow.specs.Control.{asks_for, link_points, next_from}
use Rattle.qpu_hazard.specs.declared.part.Part.{Part}
use Rattle.qpu_hazard.specs.declared.mark.Mark.{Mark}
use Rattle.qpu_hazard.specs.Parts.{mark_of, mark_after, links_mark}
use Rattle.qpu_hazard.specs.Marks.{Extends, IsStepDone, AreLinksDone, AreLinksMet, IsPointDone, IsMarkDone, AreDoneBelow, AllDone, AreFirstDone, IsGoingOn}
use Rattle.qpu_hazard.proofs.Basics.{and_first, and_second}
use Rattle.qpu_hazard.proofs.SeenLemmas.{same_option, same_bool}
use Rattle.qpu_hazard.proofs.StepLemmas.{lt_or_same, links_are_links, link_there}

-- marks that compare equal are equal
pub same_mark : (eq : Slots → Slots → Bool) → ((s t : Slots) → eq s t ≡ true → s ≡ t) → (x y : Mark)
    → (beq x.links y.links && (option_eq eqb x.last y.last && (option_eq eq x.slots y.slots && eqb x.value y.value))) ≡ true → x ≡ y
same_mark eq same x y e =
    let from_last = and_second (beq x.links y.links) _ e in
    let from_slots = and_second (option_eq eqb x.last y.last) _ from_last in
    let links = same_bool x.links y.links (and_first _ _ e) in
    let last = same_option eqb eqb-true x.last y.last (and_first _ _ from_last) in
    let slots = same_option eq same x.slots y.slots (and_first _ _ from_slots) in
    let value = eqb-true x.value y.value (and_second (option_eq eq x.slots y.slots) _ from_slots) in
    λ i. record { links = links i; last = last i; slots = slots i; value = value i }

-- growth

pub extends_not : (seen : List Mark) → Extends seen seen
extends_not seen = ([], sym (append-nil seen))

pub extends_more : (l m n : List Mark) → Extends l m → Extends m n → Extends l n
extends_more l m n first second = (
  first.0 ++ second.0,
  second.1 ∙ ap (λ (x : List Mark). x ++ second.0) first.1 ∙ append_assoc l first.0 second.0,
)

pub extends_by_one : (seen new : List Mark) (m : Mark) → (new ≡ seen) ⊎ (new ≡ seen ++ m ∷ []) → Extends seen new
extends_by_one seen new m (inl same) = ([], same ∙ sym (append-nil seen))
extends_by_one seen new m (inr more) = (m ∷ [], more)

found_still : (seen new : List Mark) (m : Mark) → Extends seen new → Contains seen m → Contains new m
found_still seen new m grows found =
    subst (λ (l : List Mark). Contains l m) (sym grows.1) (Contains-append_left seen grows.0 m found)

pub step_still : (part : Part) (code : List ℕ) (seen new : List Mark) (m : Mark) (a : ℕ) → Extends seen new → IsStepDone part code seen m a → IsStepDone part code new m a
step_still part code seen new m a grows step = record {
  holds = step.holds;
  found = found_still seen new (mark_after part code m a) grows step.found;
}

links_still : (part : Part) (code : List ℕ) (seen new : List Mark) (m : Mark) (places : List ℕ) → Extends seen new
    → All (IsStepDone part code seen m) places → All (IsStepDone part code new m) places
links_still part code seen new m places grows done =
    All-weaker (IsStepDone part code seen m) (IsStepDone part code new m) (λ a. step_still part code seen new m a grows) places done

links_met_still : (part : Part) (code : List ℕ) (seen new : List Mark) (m : Mark) → Extends seen new → AreLinksMet part code seen m → AreLinksMet part code new m
links_met_still part code seen new m grows (inl done) = inl (links_still part code seen new m (link_points code) grows done)
links_met_still part code seen new m grows (inr met) = inr (met.0, found_still seen new (links_mark m.value) grows met.1)

point_still : (part : Part) (code : List ℕ) (seen new : List Mark) (m : Mark) → Extends seen new → IsPointDone part code seen m → IsPointDone part code new m
point_still part code seen new m grows point = record {
  ahead = λ a asks low. step_still part code seen new m a grows (point.ahead a asks low);
  jump = λ a asks low. step_still part code seen new m a grows (point.jump a asks low);
  links = λ any. links_met_still part code seen new m grows (point.links any);
}

mark_still : (part : Part) (code : List ℕ) (seen new : List Mark) (m : Mark) → Extends seen new → IsMarkDone part code seen m → IsMarkDone part code new m
mark_still part code seen new m grows mark = record {
  point = λ is. point_still part code seen new m grows (mark.point is);
  links = λ is. links_still part code seen new m (link_points code) grows (mark.links is);
}

-- all link points

-- the link at an index is a word of the program
pub link_low : (code links : List ℕ) (i : ℕ) → links ≡ link_points code → i < length links → get_or links i 0 < length code
link_low code links i are low =
    link_there code (get_or links i 0)
    (subst (λ (l : List ℕ). All (λ a. is_link_point code a ≡ true) l) (sym are) (links_are_links code) i 0 low)

pub first_done_more : (part : Part) (code places : List ℕ) (before seen new : List Mark) (m : Mark) (i : ℕ) → i < length places
    → Extends seen new → IsStepDone part code new m (get_or places i 0) → AreFirstDone part code before seen m places i → AreFirstDone part code before new m places (i + 1)
first_done_more part code places before seen new m i low grows step first = record {
  grows = extends_more before seen new first.grows grows;
  done =
      All-more (IsStepDone part code new m) places i 0 low
      (links_still part code seen new m (take i places) grows first.done) step;
}

pub links_done : (part : Part) (code links : List ℕ) (seen : List Mark) (m : Mark) (i : ℕ) → links ≡ link_points code → length links ≤ i
    → All (IsStepDone part code seen m) (take i links) → AreLinksDone part code seen m
links_done part code links seen m i are past all =
    subst (λ (l : List ℕ). All (IsStepDone part code seen m) l) (take_all i links past ∙ are) all

-- all words after a mark

-- the word at the target is the one that is asked for
pub jump_done : (P : ℕ → Type 0) (jump : Option ℕ) (byte at a : ℕ) → jump ≡ Some byte → at ≡ byte / 8 → P at → asks_for jump (8 * a) ≡ true → P a
jump_done P jump byte at a is there holds asks =
    let same : byte ≡ 8 * a = eqb-true byte (8 * a) (subst (λ (x : Option ℕ). asks_for x (8 * a) ≡ true) is asks) in
    let place : at ≡ a = omega (arith, same, there) in
    subst P place holds

pub point_without_links : (part : Part) (code : List ℕ) (l n : List Mark) (m : Mark) (next : Successors) → next ≡ next_from code m.slots m.last → Extends l n
    → ((a : ℕ) → asks_for next.ahead a ≡ true → a < length code → IsStepDone part code l m a)
    → ((a : ℕ) → asks_for next.jump (8 * a) ≡ true → a < length code → IsStepDone part code n m a)
    → next.any_link ≡ false → IsPointDone part code n m
point_without_links part code l n m next are grows ahead jump none = record {
  ahead = λ a asks low.
      step_still part code l n m a grows (ahead a (subst (λ (x : Successors). asks_for x.ahead a ≡ true) (sym are) asks) low);
  jump = λ a asks low. jump a (subst (λ (x : Successors). asks_for x.jump (8 * a) ≡ true) (sym are) asks) low;
  links = λ any. absurd (true≢false (sym any ∙ ap (λ (x : Successors). x.any_link) (sym are) ∙ none));
}

pub point_with_links : (part : Part) (code : List ℕ) (k l n : List Mark) (m : Mark) (next : Successors) → next ≡ next_from code m.slots m.last
    → Extends k l → Extends l n
    → ((a : ℕ) → asks_for next.ahead a ≡ true → a < length code → IsStepDone part code k m a)
    → ((a : ℕ) → asks_for next.jump (8 * a) ≡ true → a < length code → IsStepDone part code l m a)
    → AreLinksMet part code n m → IsPointDone part code n m
point_with_links part code k l n m next are first second ahead jump met = record {
  ahead = λ a asks low.
      step_still part code k n m a (extends_more k l n first second)
      (ahead a (subst (λ (x : Successors). asks_for x.ahead a ≡ true) (sym are) asks) low);
  jump = λ a asks low.
      step_still part code l n m a second
      (jump a (subst (λ (x : Successors). asks_for x.jump (8 * a) ≡ true) (sym are) asks) low);
  links = λ any. met;
}

pub mark_of_point : (part : Part) (code : List ℕ) (seen : List Mark) (m : Mark) → m.links ≡ false → IsPointDone part code seen m → IsMarkDone part code seen m
mark_of_point part code seen m is point = record {
  point = λ same. point;
  links = λ differs. absurd (true≢false (sym differs ∙ is));
}

pub mark_of_links : (part : Part) (code : List ℕ) (seen : List Mark) (m : Mark) → m.links ≡ true → AreLinksDone part code seen m → IsMarkDone part code seen m
mark_of_links part code seen m is links = record {
  point = λ differs. absurd (true≢false (sym is ∙ differs));
  links = λ same. links;
}

-- the loop over all marks

pub going_at_first : (part : Part) (code : List ℕ) (seen : List Mark) → Contains seen (mark_of part code []) → IsGoingOn part code seen 0
going_at_first part code seen start = record { start = start; done = λ i d low. absurd (omega arith); below = omega arith }

done_one_more : (part : Part) (code : List ℕ) (seen new : List Mark) (i : ℕ) (m : Mark) → i < length seen → ((d : Mark) → m ≡ slice_index_or seen i d)
    → Extends seen new → AreDoneBelow part code seen i → IsMarkDone part code new m → AreDoneBelow part code new (i + 1)
done_one_more part code seen new i m low is grows before now k d below =
    let there : k < length seen = omega arith in
    let same : slice_index_or new k d ≡ slice_index_or seen k d =
    ap (λ (l : List Mark). slice_index_or l k d) grows.1 ∙ get_or_append_left seen grows.0 d k there in
    subst (λ (x : Mark). IsMarkDone part code new x) (sym same) (by_place (lt_or_same k i below))
  where
    by_place : (k < i) ⊎ (k ≡ i) → IsMarkDone part code new (slice_index_or seen k d)
    by_place (inl lower) = mark_still part code seen new (slice_index_or seen k d) grows (before k d lower)
    by_place (inr here) =
        subst (λ (x : Mark). IsMarkDone part code new x) (is d ∙ ap (λ (j : ℕ). slice_index_or seen j d) (sym here)) now

pub going_further : (part : Part) (code : List ℕ) (seen new : List Mark) (i : ℕ) (m : Mark) → i < length seen → ((d : Mark) → m ≡ slice_index_or seen i d)
    → Extends seen new → IsMarkDone part code new m → IsGoingOn part code seen i → IsGoingOn part code new (i + 1)
going_further part code seen new i m low is grows now going = record {
  start = found_still seen new (mark_of part code []) grows going.start;
  done = done_one_more part code seen new i m low is grows going.done now;
  below = let longer = ap length grows.1 ∙ length-append seen grows.0 in omega (arith, longer);
}

pub going_to_the_end : (part : Part) (code : List ℕ) (seen : List Mark) (i : ℕ) → length seen ≤ i → IsGoingOn part code seen i → AllDone part code seen
going_to_the_end part code seen i past going = record {
  start = going.start;
  done = λ k d low. going.done k d (omega arith);
}
