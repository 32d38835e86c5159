-- Marks that are all done tell that no way breaks a rule of their part.
use Rattle.std.proofs.Common.{◌≡◌, ◌⊎◌, ℕ, ◌==◌, ◌-◌, ◌*◌, ◌<◌, Bool, true, false, List, [], ◌∷◌, length, Option, Some, None, refl, ap, sym, subst, inl, inr}
use Rattle.std.specs.Prelude.{IsTrue, Contains, if◌then◌else◌}
use Rattle.std.proofs.lemmas.List.Elements.{All-contains}
use Rattle.qpu_word.specs.declared.code.TheConstants.{BRANCH_SLOTS, END_SLOTS}
use Rattle.qpu_word.specs.Words.{is_branch, is_program_end}
use Rattle.qpu_word.specs.Instruction.{is_link_point}
use Rattle.qpu_flow.specs.declared.slots.Slots.{Slots}
use Rattle.qpu_flow.specs.Code.{fields_at}
use Rattle.qpu_flow.specs.Control.{asks_for, slots_after, next_from, after_last_slot, straight_on, link_points}
use Rattle.qpu_hazard.specs.declared.part.Part.{Part}
use Rattle.qpu_hazard.specs.declared.part.Part.TheVariants.{Near, Uniforms, R4, Flags, Carry, Looks0, Looks1}
use Rattle.qpu_hazard.specs.declared.mark.Mark.{Mark}
use Rattle.qpu_hazard.specs.Paths.{follows, next_of}
use Rattle.qpu_hazard.specs.Parts.{is_by_value, value_after, Holds, mark_of, links_mark, IsWay, IsPartClean}
use Rattle.qpu_hazard.specs.Marks.{IsStepDone, AreLinksMet, IsPointDone, IsMarkDone, AllDone}
use Rattle.qpu_hazard.proofs.KnownLemmas.{there_from_leads}
use Rattle.qpu_hazard.proofs.StepLemmas.{ways, is_among_links}

-- before all link points no slots need be told

slots_by_left : (code : List ℕ) (s : Slots) (a b : ℕ) (x : Bool) → (s.left == 0) ≡ x
    → (if x then after_last_slot code s.place b else straight_on b).any_link ≡ true → slots_after code None a ≡ slots_after code (Some s) a
slots_by_left code s a b true e any =
    ap (λ (rest : Option Slots). if is_branch (fields_at code a) then Some (record { place = a; left = BRANCH_SLOTS })
    else if is_program_end (fields_at code a) then Some (record { place = a; left = END_SLOTS })
    else rest)
    (sym (ap (λ (y : Bool). if y then None else Some (record s { left = s.left - 1 })) e))
slots_by_left code s a b false e any = cc

slots_same : (code : List ℕ) (slots : Option Slots) (last : Option ℕ) (a : ℕ) → (next_from code slots last).any_link ≡ true → slots_after code None a ≡ slots_after code slots a
slots_same code slots None a any = cc
slots_same code None (Some b) a any = refl
slots_same code (Some s) (Some b) a any = slots_by_left code s a b (s.left == 0) refl any

-- a part that goes by its value asks the same there
holds_anywhere : (part : Part) (code : List ℕ) (m : Mark) (a : ℕ) → is_by_value part ≡ true → Holds part code (links_mark m.value) a → Holds part code m a
holds_anywhere Near code m a by_value holds = cc
holds_anywhere Uniforms code m a by_value holds = holds
holds_anywhere R4 code m a by_value holds = holds
holds_anywhere Flags code m a by_value holds = holds
holds_anywhere Carry code m a by_value holds = holds
holds_anywhere Looks0 code m a by_value holds = holds
holds_anywhere Looks1 code m a by_value holds = holds

-- a mark that was found is done
found_done : (part : Part) (code : List ℕ) (seen : List Mark) (m : Mark) → AllDone part code seen → Contains seen m → IsMarkDone part code seen m
found_done part code seen m all found =
    subst (λ (x : Mark). IsMarkDone part code seen x) found.2 (all.done found.0 m found.1)

-- so is each link point after a mark that meets them
link_done : (part : Part) (code : List ℕ) (seen : List Mark) (m : Mark) (a : ℕ) → AllDone part code seen
    → (next_from code m.slots m.last).any_link ≡ true → is_link_point code a ≡ true → AreLinksMet part code seen m → IsStepDone part code seen m a
link_done part code seen m a all any point (inl done) =
    All-contains (IsStepDone part code seen m) (link_points code) a done (is_among_links code a point)
link_done part code seen m a all any point (inr met) =
    let before : IsMarkDone part code seen (links_mark m.value) = found_done part code seen (links_mark m.value) all met.1 in
    let step : IsStepDone part code seen (links_mark m.value) a =
    All-contains (IsStepDone part code seen (links_mark m.value)) (link_points code) a (before.links refl) (is_among_links code a point) in
    record {
      holds = holds_anywhere part code m a met.0 step.holds;
      found =
          subst (λ (s : Option Slots). Contains seen (record { links = false; last = Some a; slots = s; value = value_after part (fields_at code a) m.value }))
          (slots_same code m.slots m.last a any) step.found;
    }

-- each word that may follow a way whose mark was found is done
step_done : (part : Part) (code : List ℕ) (seen : List Mark) (t : List ℕ) (a : ℕ) → AllDone part code seen
    → Contains seen (mark_of part code t) → IsTrue (follows code t a) → IsStepDone part code seen (mark_of part code t) a
unfolding follows
step_done part code seen t a all found after =
    let m : Mark = mark_of part code t in
    let mark : IsMarkDone part code seen m = found_done part code seen m all found in
    by_way (mark.point refl) (there_from_leads code (next_of code t) a after) (ways code (next_of code t) a after)
  where
    by_way : IsPointDone part code seen (mark_of part code t) → a < length code
        → (asks_for (next_of code t).ahead a ≡ true) ⊎ ((asks_for (next_of code t).jump (8 * a) ≡ true) ⊎ (((next_of code t).any_link ≡ true) × (is_link_point code a ≡ true)))
        → IsStepDone part code seen (mark_of part code t) a
    by_way point low (inl e) = point.ahead a e low
    by_way point low (inr (inl e)) = point.jump a e low
    by_way point low (inr (inr e)) = link_done part code seen (mark_of part code t) a all e.0 e.1 (point.links e.0)

-- each way's mark was found
met : (part : Part) (code : List ℕ) (seen : List Mark) → AllDone part code seen → (t : List ℕ) → IsWay code t → Contains seen (mark_of part code t)
met part code seen all [] way = all.start
met part code seen all (a ∷ t) way = (step_done part code seen t a all (met part code seen all t way.0) way.1).found

pub clean_from_done : (part : Part) (code : List ℕ) (seen : List Mark) → AllDone part code seen → IsPartClean part code
clean_from_done part code seen all t a way after = (step_done part code seen t a all (met part code seen all t way) after).holds
