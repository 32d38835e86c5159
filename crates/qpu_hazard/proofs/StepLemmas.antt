-- Steps of the search: what was settled stays settled, and growth is joined.
use Rattle.std.proofs.Common.{◌≡◌, ◌⊎◌, ℕ, ◌+◌, ◌*◌, ◌<◌, ◌≤◌, Bool, true, false, List, [], ◌∷◌, ◌++◌, length, get_or, take, Option, Some, refl, ap, sym, ◌∙◌, subst, inl, inr, append_assoc, true≢false, arith}
use Rattle.std.specs.Prelude.{Result, Ok, Err, OnOk, IfSome, IsTrue, Contains, All, nat_lt, ◌==◌, ◌&&◌, ◌||◌, slice_index_or}
use Rattle.std.specs.List.{range_with_len}
use Rattle.std.proofs.lemmas.Bool.{ltb-true, lt-ltb, eqb-true}
use Rattle.std.proofs.lemmas.Bool.Decides.{nat_tests}
use Rattle.std.proofs.lemmas.List.{append-nil, get_or_append_left, length-append, nil_from_length, take_all}
use Rattle.std.proofs.lemmas.List.Elements.{All-push, All-more, All-weaker, All-contains, Contains-append_left}
use Rattle.qpu_word.specs.Instruction.{is_link_point}
use Rattle.qpu_flow.specs.declared.slots.Successors.{Successors}
use Rattle.qpu_flow.specs.Control.{asks_for, leads_to, link_points, next_from}
use Rattle.qpu_hazard.specs.declared.breaks.Break.{Break}
use Rattle.qpu_hazard.specs.declared.breaks.Hazard.{Hazard}
use Rattle.qpu_hazard.specs.declared.trail.Trail.{Trail}
use Rattle.qpu_hazard.specs.declared.search.Search.{Search}
use Rattle.qpu_hazard.specs.Rules.{break_when}
use Rattle.qpu_hazard.specs.Paths.{broken}
use Rattle.qpu_hazard.specs.Trails.{follows_from, broken_from, trail, forget}
use Rattle.qpu_hazard.specs.declared.needs.Needs.{Needs}
use Rattle.qpu_hazard.specs.Needs.{IsSparing, followed, kept_trail, further}
use Rattle.qpu_hazard.specs.Fitting.{opening_trail}
use Rattle.qpu_hazard.specs.Refusal.{IsRefusable}
use Rattle.qpu_hazard.specs.Search.{AtMost, hazard_at, Known, IsSoundSearch, Settled, AllSettled, SettledBelow, Grows}
use Rattle.qpu_hazard.proofs.Basics.{and_first, and_second, and_both, or_cases, or_first, or_second, Contains-filter_range, All-filter_test}
use Rattle.qpu_hazard.proofs.KnownLemmas.{there_from_leads, refusable_after}

pub lt_or_same : (k i : ℕ) → k < i + 1 → (k < i) ⊎ (k ≡ i)
lt_or_same k i below = grind arith

-- growth

pub grows_not : (s n : Search) → n.seen ≡ s.seen → n.best ≡ s.best → Grows s n
grows_not s n seen best = record {
  seen = ([], seen ∙ sym (append-nil s.seen));
  best = λ h at_most. subst (λ (b : Option Hazard). AtMost b h) (sym best) at_most;
}

pub grows_more : (s m n : Search) → Grows s m → Grows m n → Grows s n
grows_more s m n first second = record {
  seen = (
    first.seen.0 ++ second.seen.0,
    second.seen.1 ∙ ap (λ (l : List Trail). l ++ second.seen.0) first.seen.1 ∙ append_assoc s.seen first.seen.0 second.seen.0,
  );
  best = λ h at_most. second.best h (first.best h at_most);
}

pub settled_grows : (needs : Needs) (code : List ℕ) (s n : Search) (r : Trail) (a : ℕ) → Grows s n → Settled needs code s r a → Settled needs code n r a
settled_grows needs code s n r a grows settled = record {
  clean = λ none.
      subst (λ (l : List Trail). Contains l (further needs code r a)) (sym grows.seen.1)
      (Contains-append_left s.seen grows.seen.0 (further needs code r a) (settled.clean none));
  least = All-weaker (λ b. AtMost s.best (hazard_at a b)) (λ b. AtMost n.best (hazard_at a b)) (λ b. grows.best (hazard_at a b)) (broken_from code r a) settled.least;
}

pub all_settled_grows : (needs : Needs) (code : List ℕ) (s n : Search) (r : Trail) → Grows s n → AllSettled needs code s r → AllSettled needs code n r
all_settled_grows needs code s n r grows settled = λ a after. settled_grows needs code s n r a grows (settled a after)

-- the ways of successors

pub ways : (code : List ℕ) (next : Successors) (a : ℕ) → leads_to code next a ≡ true
    → (asks_for next.ahead a ≡ true) ⊎ ((asks_for next.jump (8 * a) ≡ true) ⊎ ((next.any_link ≡ true) × (is_link_point code a ≡ true)))
ways code next a leads = first (or_cases (asks_for next.ahead a || asks_for next.jump (8 * a)) (next.any_link && is_link_point code a) (and_second (nat_lt a (length code)) _ leads))
  where
    second : (asks_for next.ahead a ≡ true) ⊎ (asks_for next.jump (8 * a) ≡ true) → (asks_for next.ahead a ≡ true) ⊎ ((asks_for next.jump (8 * a) ≡ true) ⊎ ((next.any_link ≡ true) × (is_link_point code a ≡ true)))
    second (inl e) = inl e
    second (inr e) = inr (inl e)

    first : ((asks_for next.ahead a || asks_for next.jump (8 * a)) ≡ true) ⊎ ((next.any_link && is_link_point code a) ≡ true) → (asks_for next.ahead a ≡ true) ⊎ ((asks_for next.jump (8 * a) ≡ true) ⊎ ((next.any_link ≡ true) × (is_link_point code a ≡ true)))
    first (inl e) = second (or_cases (asks_for next.ahead a) (asks_for next.jump (8 * a)) e)
    first (inr e) = inr (inr (and_first next.any_link (is_link_point code a) e, and_second next.any_link (is_link_point code a) e))

pub leads_by : (code : List ℕ) (next : Successors) (a : ℕ) → a < length code
    → ((asks_for next.ahead a || asks_for next.jump (8 * a)) || (next.any_link && is_link_point code a)) ≡ true → leads_to code next a ≡ true
leads_by code next a low asks = and_both (nat_lt a (length code)) _ (lt-ltb a (length code) low) asks

pub by_ahead : (code : List ℕ) (r : Trail) (a : ℕ) → asks_for (next_from code r.slots r.last).ahead a ≡ true → a < length code → IsTrue (follows_from code r a)
unfolding follows_from
by_ahead code r a asks low = leads_by code (next_from code r.slots r.last) a low (or_first _ _ (or_first _ _ asks))

pub by_jump : (code : List ℕ) (r : Trail) (a : ℕ) → asks_for (next_from code r.slots r.last).jump (8 * a) ≡ true → a < length code → IsTrue (follows_from code r a)
unfolding follows_from
by_jump code r a asks low = leads_by code (next_from code r.slots r.last) a low (or_first _ _ (or_second (asks_for (next_from code r.slots r.last).ahead a) _ asks))

pub by_link : (code : List ℕ) (r : Trail) (a : ℕ) → (next_from code r.slots r.last).any_link ≡ true → is_link_point code a ≡ true → a < length code → IsTrue (follows_from code r a)
unfolding follows_from
by_link code r a any point low =
    leads_by code (next_from code r.slots r.last) a low
    (or_second (asks_for (next_from code r.slots r.last).ahead a || asks_for (next_from code r.slots r.last).jump (8 * a)) _ (and_both _ _ any point))

-- link points

pub link_there : (code : List ℕ) (a : ℕ) → is_link_point code a ≡ true → a < length code
unfolding is_link_point
link_there code a point = ltb-true a (length code) (and_first (nat_lt a (length code)) _ (and_first _ _ point))

pub is_among_links : (code : List ℕ) (a : ℕ) → is_link_point code a ≡ true → Contains (link_points code) a
unfolding link_points
is_among_links code a point = Contains-filter_range (is_link_point code) (length code) a (link_there code a point) point

-- loops

-- the first i of a list of link points were looked at
pub record LinksSoFar (needs : Needs) (code : List ℕ) (s n : Search) (r : Trail) (links : List ℕ) (i : ℕ) : Type 0 where
  pub sound : IsSoundSearch needs code n
  pub grows : Grows s n
  pub settled : All (Settled needs code n r) (take i links)

-- the first i trails were looked at
pub record IsGoing (needs : Needs) (code : List ℕ) (s : Search) (i : ℕ) : Type 0 where
  pub sound : IsSoundSearch needs code s
  pub start : Contains s.seen (kept_trail needs code [])
  pub settled : SettledBelow needs code s i
  pub below : i ≤ length s.seen

-- one word looked at

pub best_after : (needs : Needs) (code : List ℕ) (old new : Option Hazard) (r : Trail) (a : ℕ) (breaks : List Break) → Known needs code r → IsTrue (follows_from code r a)
    → breaks ≡ broken_from code r a → IfSome old (IsRefusable code)
    → (new ≡ old) ⊎ ((b : Break) × Contains breaks b × (new ≡ Some (hazard_at a b))) → IfSome new (IsRefusable code)
best_after needs code old new r a breaks known after are refusable (inl same) =
    subst (λ (b : Option Hazard). IfSome b (IsRefusable code)) (sym same) refusable
best_after needs code old new r a breaks known after are refusable (inr told) =
    subst (λ (b : Option Hazard). IfSome b (IsRefusable code)) (sym told.2)
    (refusable_after needs code r a told.0 known after (subst (λ (l : List Break). Contains l told.0) are told.1))

pub known_more : (needs : Needs) (code : List ℕ) (seen new : List Trail) (r : Trail) → All (Known needs code) seen → Known needs code r
    → (new ≡ seen) ⊎ (new ≡ seen ++ r ∷ []) → All (Known needs code) new
known_more needs code seen new r all known (inl same) = subst (λ (l : List Trail). All (Known needs code) l) (sym same) all
known_more needs code seen new r all known (inr more) =
    subst (λ (l : List Trail). All (Known needs code) l) (sym more) (All-push (Known needs code) seen r all known)

pub on_ok_with : {A E : Type 0} {P Q : Type 0} (result : Result A E) → OnOk result P → (P → Q) → OnOk result Q
on_ok_with (Ok x) holds then = then holds
on_ok_with (Err e) holds then = tt

pub empty_from_test : {A : Type 0} (xs : List A) → (length xs == 0) ≡ true → xs ≡ []
empty_from_test xs test = nil_from_length xs (eqb-true (length xs) 0 test)

-- all link points

pub links_are_links : (code : List ℕ) → All (λ a. is_link_point code a ≡ true) (link_points code)
unfolding link_points
links_are_links code = All-filter_test (is_link_point code) (range_with_len 0 (length code))

-- the link at an index follows
pub link_follows : (code links : List ℕ) (r : Trail) (i : ℕ) → links ≡ link_points code → i < length links
    → (next_from code r.slots r.last).any_link ≡ true → IsTrue (follows_from code r (get_or links i 0))
link_follows code links r i are low any =
    let point : is_link_point code (get_or links i 0) ≡ true =
    subst (λ (l : List ℕ). All (λ a. is_link_point code a ≡ true) l) (sym are) (links_are_links code) i 0 low in
    by_link code r (get_or links i 0) any point (link_there code (get_or links i 0) point)

pub links_more : (needs : Needs) (code links : List ℕ) (s n m : Search) (r : Trail) (i : ℕ) → i < length links
    → IsSoundSearch needs code m → Grows n m → Settled needs code m r (get_or links i 0) → LinksSoFar needs code s n r links i → LinksSoFar needs code s m r links (i + 1)
links_more needs code links s n m r i low sound grows settled before = record {
  sound = sound;
  grows = grows_more s n m before.grows grows;
  settled =
      All-more (Settled needs code m r) links i 0 low
      (All-weaker (Settled needs code n r) (Settled needs code m r) (λ a. settled_grows needs code n m r a grows) (take i links) before.settled) settled;
}

pub links_all : (needs : Needs) (code links : List ℕ) (n : Search) (r : Trail) (i : ℕ) → links ≡ link_points code → length links ≤ i
    → All (Settled needs code n r) (take i links) → All (Settled needs code n r) (link_points code)
links_all needs code links n r i are past all =
    subst (λ (l : List ℕ). All (Settled needs code n r) l) (take_all i links past ∙ are) all

-- each way was looked at

pub without_links : (needs : Needs) (code : List ℕ) (m n : Search) (r : Trail) (next : Successors) → next ≡ next_from code r.slots r.last → Grows m n
    → ((a : ℕ) → asks_for next.ahead a ≡ true → a < length code → Settled needs code m r a)
    → ((a : ℕ) → asks_for next.jump (8 * a) ≡ true → a < length code → Settled needs code n r a)
    → next.any_link ≡ false → AllSettled needs code n r
unfolding follows_from
without_links needs code m n r next are grows ahead jump none a after =
    let leads : leads_to code next a ≡ true = subst (λ (x : Successors). leads_to code x a ≡ true) (sym are) after in
    let low : a < length code = there_from_leads code next a leads in
    by_way low (ways code next a leads)
  where
    by_way : a < length code → (asks_for next.ahead a ≡ true) ⊎ ((asks_for next.jump (8 * a) ≡ true) ⊎ ((next.any_link ≡ true) × (is_link_point code a ≡ true))) → Settled needs code n r a
    by_way low (inl e) = settled_grows needs code m n r a grows (ahead a e low)
    by_way low (inr (inl e)) = jump a e low
    by_way low (inr (inr e)) = absurd (true≢false (sym e.0 ∙ none))

pub with_links : (needs : Needs) (code : List ℕ) (l m n : Search) (r : Trail) (next : Successors) → next ≡ next_from code r.slots r.last → Grows l m → Grows m n
    → ((a : ℕ) → asks_for next.ahead a ≡ true → a < length code → Settled needs code l r a)
    → ((a : ℕ) → asks_for next.jump (8 * a) ≡ true → a < length code → Settled needs code m r a)
    → All (Settled needs code n r) (link_points code) → AllSettled needs code n r
unfolding follows_from
with_links needs code l m n r next are first second ahead jump links a after =
    let leads : leads_to code next a ≡ true = subst (λ (x : Successors). leads_to code x a ≡ true) (sym are) after in
    let low : a < length code = there_from_leads code next a leads in
    by_way low (ways code next a leads)
  where
    by_way : a < length code → (asks_for next.ahead a ≡ true) ⊎ ((asks_for next.jump (8 * a) ≡ true) ⊎ ((next.any_link ≡ true) × (is_link_point code a ≡ true))) → Settled needs code n r a
    by_way low (inl e) = settled_grows needs code m n r a second (settled_grows needs code l m r a first (ahead a e low))
    by_way low (inr (inl e)) = settled_grows needs code m n r a second (jump a e low)
    by_way low (inr (inr e)) = All-contains (Settled needs code n r) (link_points code) a links (is_among_links code a e.1)

-- the loop over all trails

pub opens_known : (needs : Needs) (code : List ℕ) → IsSparing code needs → 0 < length code → Known needs code (followed needs opening_trail)
unfolding kept_trail forget trail broken
opens_known needs code sparing some =
    let test : (length code == 0) ≡ false = grind (arith, nat_tests) in
    record {
      sparing = sparing;
      path = [];
      is_path = tt;
      clean = ap (λ (b : Bool). break_when b 10 0) test;
      is_kept = refl;
    }

pub opening_kept : (needs : Needs) (code : List ℕ) → followed needs opening_trail ≡ kept_trail needs code []
unfolding kept_trail forget trail
opening_kept needs code = refl

pub going_first : (needs : Needs) (code : List ℕ) (s : Search) → Contains s.seen (kept_trail needs code []) → IsSoundSearch needs code s → IsGoing needs code s 0
going_first needs code s start sound = record {
  sound = sound;
  start = start;
  settled = λ i d low. absurd (omega arith);
  below = omega arith;
}

settled_one_more : (needs : Needs) (code : List ℕ) (s n : Search) (i : ℕ) (r : Trail) → i < length s.seen → ((d : Trail) → r ≡ slice_index_or s.seen i d)
    → Grows s n → SettledBelow needs code s i → AllSettled needs code n r → SettledBelow needs code n (i + 1)
settled_one_more needs code s n i r low is grows before now k d below a =
    let there : k < length s.seen = omega arith in
    let same : slice_index_or n.seen k d ≡ slice_index_or s.seen k d =
    ap (λ (l : List Trail). slice_index_or l k d) grows.seen.1 ∙ get_or_append_left s.seen grows.seen.0 d k there in
    subst (λ (x : Trail). IsTrue (follows_from code x a) → Settled needs code n x a) (sym same) (by_place (lt_or_same k i below))
  where
    by_place : (k < i) ⊎ (k ≡ i) → IsTrue (follows_from code (slice_index_or s.seen k d) a) → Settled needs code n (slice_index_or s.seen k d) a
    by_place (inl lower) = λ after. settled_grows needs code s n (slice_index_or s.seen k d) a grows (before k d lower a after)
    by_place (inr here) =
        subst (λ (x : Trail). IsTrue (follows_from code x a) → Settled needs code n x a)
        (is d ∙ ap (λ (j : ℕ). slice_index_or s.seen j d) (sym here)) (now a)

pub going_on : (needs : Needs) (code : List ℕ) (s n : Search) (i : ℕ) (r : Trail) → i < length s.seen → ((d : Trail) → r ≡ slice_index_or s.seen i d)
    → IsSoundSearch needs code n → Grows s n → AllSettled needs code n r → IsGoing needs code s i → IsGoing needs code n (i + 1)
going_on needs code s n i r low is sound grows now going = record {
  sound = sound;
  start = subst (λ (l : List Trail). Contains l (kept_trail needs code [])) (sym grows.seen.1) (Contains-append_left s.seen grows.seen.0 (kept_trail needs code []) going.start);
  settled = settled_one_more needs code s n i r low is grows going.settled now;
  below = let longer = ap length grows.seen.1 ∙ length-append s.seen grows.seen.0 in omega (arith, longer);
}

pub on_ok_both : {A E : Type 0} (P Q : Type 0) (result : Result A E) → OnOk result P → OnOk result Q → OnOk result (P × Q)
on_ok_both P Q (Ok x) p q = (p, q)
on_ok_both P Q (Err e) p q = tt
