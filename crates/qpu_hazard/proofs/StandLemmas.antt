-- A processor of a clean program that stands on a path stays on one, whichever way its branches go.
use Rattle.std.proofs.Common.{◌≡◌, ℕ, ◌*◌, ◌==◌, ◌<◌, Bool, true, false, List, [], ◌∷◌, length, Option, Some, None, refl, sym, ◌∙◌, inl, true≢false}
use Rattle.std.specs.Prelude.{◌&&◌, ◌||◌, is_some, nat_lt, if◌then◌else◌}
use Rattle.std.proofs.lemmas.Bool.{eqb-true}
use Rattle.qpu_word.specs.Instruction.{is_link_point}
use Rattle.qpu_flow.specs.declared.slots.Slots.{Slots}
use Rattle.qpu_flow.specs.declared.slots.Successors.{Successors}
use Rattle.qpu_flow.specs.declared.control.Control.{Control}
use Rattle.qpu_flow.specs.declared.control.Progress.{Progress}
use Rattle.qpu_flow.specs.declared.control.Progress.TheVariants.{Straight}
use Rattle.qpu_flow.specs.declared.control.Next.{Next}
use Rattle.qpu_flow.specs.declared.control.Next.TheVariants.{At, AnyLink, Ended, Outside}
use Rattle.qpu_flow.specs.Control.{slots_after, straight_on, after_last_slot, next_from, asks_for, leads_to, leads_out, is_past}
use Rattle.qpu_flow.specs.Follow.{RestIs, has_target, ways, chosen_way, Follows}
use Rattle.qpu_flow.proofs.FollowLemmas.{zero_false}
use Rattle.qpu_hazard.specs.Paths.{IsPath, IsClean, broken, follows, slots_of}
use Rattle.qpu_hazard.specs.Standing.{Stands, Goes}
use Rattle.qpu_hazard.proofs.Basics.{or_first, or_second, and_first, and_both, when_empty}
use Rattle.qpu_hazard.proofs.StepLemmas.{leads_by, link_there}
use Rattle.qpu_hazard.proofs.KnownLemmas.{rules_kept}

-- what a chosen way leads to is among the ways

less_asked : (low ahead jump link : Bool) → (low && (false || jump || link)) ≡ true → (low && (ahead || jump || link)) ≡ true
less_asked low true jump link e = and_both low true (and_first low _ e) refl
less_asked low false jump link e = e

ahead_asked : (low ahead jump link : Bool) → (low && (ahead || false || false)) ≡ true → (low && (ahead || jump || link)) ≡ true
ahead_asked low true jump link e = and_both low true (and_first low _ e) refl
ahead_asked true false jump link e = absurd (true≢false (sym e))
ahead_asked false false jump link e = absurd (true≢false (sym e))

way_leads : (code : List ℕ) (rest : Progress) (next : Successors) (at : ℕ) → leads_to code (chosen_way rest next) at ≡ true → leads_to code next at ≡ true
way_leads code rest next at = by_choice (has_target rest && (is_some next.jump || next.any_link))
  where
    by_choice : (b : Bool) → leads_to code (if b then record next { ahead = None } else record next { jump = None; any_link = false }) at ≡ true → leads_to code next at ≡ true
    by_choice true e = less_asked (nat_lt at (length code)) (asks_for next.ahead at) (asks_for next.jump (8 * at)) (next.any_link && is_link_point code at) e
    by_choice false e = ahead_asked (nat_lt at (length code)) (asks_for next.ahead at) (asks_for next.jump (8 * at)) (next.any_link && is_link_point code at) e

or_false : (b : Bool) → (b || false) ≡ true → b ≡ true
or_false true e = refl
or_false false e = absurd (true≢false (sym e))

way_out : (code : List ℕ) (rest : Progress) (next : Successors) → leads_out code (chosen_way rest next) ≡ true → leads_out code next ≡ true
way_out code rest next = by_choice (has_target rest && (is_some next.jump || next.any_link))
  where
    by_choice : (b : Bool) → leads_out code (if b then record next { ahead = None } else record next { jump = None; any_link = false }) ≡ true → leads_out code next ≡ true
    by_choice true e = or_second (is_past code next.ahead) _ e
    by_choice false e = or_first _ _ (or_false (is_past code next.ahead) e)

way_links : (rest : Progress) (next : Successors) → (chosen_way rest next).any_link ≡ true → next.any_link ≡ true
way_links rest next = by_choice (has_target rest && (is_some next.jump || next.any_link))
  where
    by_choice : (b : Bool) → (if b then record next { ahead = None } else record next { jump = None; any_link = false }).any_link ≡ true → next.any_link ≡ true
    by_choice true e = e
    by_choice false e = absurd (true≢false (sym e))

-- any link point follows the last slot alone, and nothing is in progress there
links_fit : (code : List ℕ) (slots : Option Slots) (a : ℕ) → (next_from code slots (Some a)).any_link ≡ true → RestIs code slots Straight
links_fit code None a any = tt
links_fit code (Some s) a any = by_count (s.left == 0) refl any
  where
    by_count : (b : Bool) → (s.left == 0) ≡ b → (if b then after_last_slot code s.place a else straight_on a).any_link ≡ true → RestIs code (Some s) Straight
    by_count true is any = inl (eqb-true s.left 0 is)
    by_count false is any = absurd (true≢false (sym any))

link_stands : (code t : List ℕ) (at : ℕ) (a : ℕ) → (next_from code (slots_of code (a ∷ t)) (Some a)).any_link ≡ true → is_link_point code at ≡ true
    → Stands code (a ∷ t) (record { place = at; rest = Straight })
unfolding follows
link_stands code t at a any point =
    let next : Successors = next_from code (slots_of code (a ∷ t)) (Some a) in
    record {
      follows = leads_by code next at (link_there code at point) (or_second (asks_for next.ahead at || asks_for next.jump (8 * at)) _ (and_both _ _ any point));
      rest = links_fit code (slots_of code (a ∷ t)) a any;
    }

-- where control follows, and none of the ways leads out, it goes on the path
goes_by : (code t : List ℕ) (c : Control) (taken : Bool) (next : Next) → Follows code (slots_of code t) c taken next
    → leads_out code (ways code (slots_of code t) c) ≡ false → Goes code (c.place ∷ t) next
unfolding follows
goes_by code t c taken (At after) on inside =
    let goes = on.at after refl in
    record { follows = way_leads code c.rest (ways code (slots_of code t) c) after.place goes.place; rest = goes.rest }
goes_by code t c taken AnyLink on inside =
    let any : (ways code (slots_of code t) c).any_link ≡ true = way_links c.rest (ways code (slots_of code t) c) (on.any_link.0 refl) in
    λ at point. link_stands code t at c.place any point
goes_by code t c taken Ended on inside = on.ended.0 refl
goes_by code t c taken Outside on inside =
    absurd (true≢false (sym (way_out code c.rest (ways code (slots_of code t) c) (on.outside.0 refl)) ∙ inside))

-- the next word breaks no rule, so none of the ways after it leads out
pub stays_inside : (code t : List ℕ) (a : ℕ) → IsClean code → IsPath code (a ∷ t) → leads_out code (next_from code (slots_after code (slots_of code t) a) (Some a)) ≡ false
stays_inside code t a clean further = when_empty _ 10 a (rules_kept code t a (clean (a ∷ t) further)).rule_10

pub stays_by : (code t : List ℕ) (c : Control) (taken : Bool) (next : Next) → IsClean code → IsPath code t → Stands code t c
    → Follows code (slots_of code t) c taken next → IsPath code (c.place ∷ t) × Goes code (c.place ∷ t) next
stays_by code t c taken next clean is_path stands on =
    let further : IsPath code (c.place ∷ t) = (is_path, clean t is_path, stands.follows) in
    (further, goes_by code t c taken next on (stays_inside code t c.place clean further))

some_words : (code : List ℕ) → broken code [] ≡ [] → 0 < length code
unfolding broken
some_words code none = zero_false (length code) (when_empty (length code == 0) 10 0 none)

-- before any word
pub opens : (code : List ℕ) → IsClean code → Stands code [] (record { place = 0; rest = Straight })
unfolding follows
opens code clean =
    let some : 0 < length code = some_words code (clean [] tt) in
    record { follows = leads_by code (next_from code None None) 0 some refl; rest = tt }
