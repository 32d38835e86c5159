-- Runs with more steps after them.
use Rattle.std.proofs.Common.{◌≡◌, ◌≢◌, ◌≤◌, ℕ, ◌+◌, suc, zero, Bool, true, false, List, [], ◌∷◌, ◌++◌, replicate, length, refl, ap, sym, ◌∙◌, arith, append_assoc, append-nil}
use Rattle.std.specs.Prelude.{if◌then◌else◌}
use Rattle.std.proofs.Math.ListN.{set, get_or}
use Rattle.std.proofs.lemmas.Grind.{common_steps}
use Rattle.std.proofs.lemmas.Bool.Decides.{nat_tests}
use Rattle.qpu_machine.specs.declared.actor.Actor.{Actor}
use Rattle.qpu_machine.specs.declared.actor.Actor.TheVariants.{Exec, Load, Store, Fetch}
use Rattle.qpu_machine.specs.declared.journal.Run.{Run}
use Rattle.qpu_machine.specs.Journal.{is_same_actor, IsMerged, pushed, last_count, steps_of, SpellsMore}

-- the test of actors is exact

pub same_is : (a b : Actor) → is_same_actor a b ≡ true → a ≡ b
same_is (Exec q) (Exec r) is = let e : q ≡ r = grind (arith, nat_tests) in ap (λ n. Exec n) e
same_is (Exec q) (Load r) is = absurd (cc)
same_is (Exec q) (Store r) is = absurd (cc)
same_is (Exec q) (Fetch r v) is = absurd (cc)
same_is (Load q) (Exec r) is = absurd (cc)
same_is (Load q) (Load r) is = let e : q ≡ r = grind (arith, nat_tests) in ap (λ n. Load n) e
same_is (Load q) (Store r) is = absurd (cc)
same_is (Load q) (Fetch r v) is = absurd (cc)
same_is (Store q) (Exec r) is = absurd (cc)
same_is (Store q) (Load r) is = absurd (cc)
same_is (Store q) (Store r) is = let e : q ≡ r = grind (arith, nat_tests) in ap (λ n. Store n) e
same_is (Store q) (Fetch r v) is = absurd (cc)
same_is (Fetch q u) (Exec r) is = absurd (cc)
same_is (Fetch q u) (Load r) is = absurd (cc)
same_is (Fetch q u) (Store r) is = absurd (cc)
same_is (Fetch q u) (Fetch r v) is =
    let e : q ≡ r = grind (arith, nat_tests) in let d : u ≡ v = grind (arith, nat_tests) in cc

pub is_same : (a : Actor) → is_same_actor a a ≡ true
is_same (Exec q) = grind (arith, nat_tests)
is_same (Load q) = grind (arith, nat_tests)
is_same (Store q) = grind (arith, nat_tests)
is_same (Fetch q u) = grind (arith, nat_tests)

same_of : (a b : Actor) → a ≡ b → is_same_actor a b ≡ true
same_of a b e = rw e (is_same b)

pub not_of : (a b : Actor) (same : Bool) → is_same_actor a b ≡ same → a ≢ b → same ≡ false
not_of a b true is apart = absurd (apart (same_is a b is))
not_of a b false is apart = refl

-- the last run counts on

pub counts_on : (xs : List Run) (i : ℕ) (run : Run) (actor : Actor) (count : ℕ) → suc i ≡ length xs → run ≡ get_or xs i run → run.actor ≡ actor
    → set xs i (record run { count = run.count + count }) ≡ pushed xs actor count
unfolding pushed
counts_on [] i run actor count long last same = absurd (omega arith)
counts_on (r ∷ []) zero run actor count long last same =
    rw (← last, same_of run.actor actor same) refl
counts_on (r ∷ []) (suc i) run actor count long last same = absurd (omega arith)
counts_on (r ∷ next ∷ runs) zero run actor count long last same = absurd (omega arith)
counts_on (r ∷ next ∷ runs) (suc i) run actor count long last same =
    let less : suc i ≡ length (next ∷ runs) = omega arith in
    ap (λ s. r ∷ s) (counts_on (next ∷ runs) i run actor count less last same)

pub counts_last : (xs : List Run) (i : ℕ) (run : Run) (actor : Actor) → suc i ≡ length xs → run ≡ get_or xs i run → run.actor ≡ actor
    → last_count xs actor ≡ run.count
unfolding last_count
counts_last [] i run actor long last same = absurd (omega arith)
counts_last (r ∷ []) zero run actor long last same =
    rw (← last, same_of run.actor actor same) refl
counts_last (r ∷ []) (suc i) run actor long last same = absurd (omega arith)
counts_last (r ∷ next ∷ runs) zero run actor long last same = absurd (omega arith)
counts_last (r ∷ next ∷ runs) (suc i) run actor long last same =
    let less : suc i ≡ length (next ∷ runs) = omega arith in
    counts_last (next ∷ runs) i run actor less last same

-- there is one more run

pub first_run : (xs : List Run) (actor : Actor) (count : ℕ) → length xs ≡ 0
    → xs ++ (record { actor = actor; count = count }) ∷ [] ≡ pushed xs actor count
unfolding pushed
first_run [] actor count none = refl
first_run (r ∷ runs) actor count none = absurd (omega arith)

pub one_more : (xs : List Run) (i : ℕ) (run : Run) (actor : Actor) (count : ℕ) → suc i ≡ length xs → run ≡ get_or xs i run → run.actor ≢ actor
    → xs ++ (record { actor = actor; count = count }) ∷ [] ≡ pushed xs actor count
unfolding pushed
one_more [] i run actor count long last apart = absurd (omega arith)
one_more (r ∷ []) zero run actor count long last apart =
    rw (← last, not_of run.actor actor (is_same_actor run.actor actor) refl apart) refl
one_more (r ∷ []) (suc i) run actor count long last apart = absurd (omega arith)
one_more (r ∷ next ∷ runs) zero run actor count long last apart = absurd (omega arith)
one_more (r ∷ next ∷ runs) (suc i) run actor count long last apart =
    let less : suc i ≡ length (next ∷ runs) = omega arith in
    ap (λ s. r ∷ s) (one_more (next ∷ runs) i run actor count less last apart)

pub none_last : (xs : List Run) (i : ℕ) (run : Run) (actor : Actor) → suc i ≡ length xs → run ≡ get_or xs i run → run.actor ≢ actor → last_count xs actor ≡ 0
unfolding last_count
none_last [] i run actor long last apart = refl
none_last (r ∷ []) zero run actor long last apart =
    rw (← last, not_of run.actor actor (is_same_actor run.actor actor) refl apart) refl
none_last (r ∷ []) (suc i) run actor long last apart = absurd (omega arith)
none_last (r ∷ next ∷ runs) zero run actor long last apart = absurd (omega arith)
none_last (r ∷ next ∷ runs) (suc i) run actor long last apart =
    let less : suc i ≡ length (next ∷ runs) = omega arith in
    none_last (next ∷ runs) i run actor less last apart

pub none_first : (xs : List Run) (actor : Actor) → length xs ≡ 0 → last_count xs actor ≡ 0
unfolding last_count
none_first [] actor none = refl
none_first (r ∷ runs) actor none = absurd (omega arith)

-- runs stay merged

one_merged : (run : Run) (actor : Actor) (count : ℕ) (same : Bool) → is_same_actor run.actor actor ≡ same → 1 ≤ run.count → 1 ≤ count
    → IsMerged (if same then (record run { count = run.count + count }) ∷ [] else run ∷ (record { actor = actor; count = count }) ∷ [])
one_merged run actor count true is some more = omega arith
one_merged run actor count false is some more =
    (some, λ e. let same : is_same_actor run.actor actor ≡ true = same_of run.actor actor e in absurd (cc), more)

-- the first run's actor stays
first_kept : (before next : Run) (runs : List Run) (actor : Actor) (count : ℕ) → 1 ≤ before.count → before.actor ≢ next.actor
    → IsMerged (pushed (next ∷ runs) actor count) → IsMerged (before ∷ pushed (next ∷ runs) actor count)
unfolding pushed
first_kept before next [] actor count some apart merged = first_one before next actor count (is_same_actor next.actor actor) some apart merged
  where
    first_one : (before next : Run) (actor : Actor) (count : ℕ) (same : Bool) → 1 ≤ before.count → before.actor ≢ next.actor
        → IsMerged (if same then (record next { count = next.count + count }) ∷ [] else next ∷ (record { actor = actor; count = count }) ∷ [])
        → IsMerged (before ∷ (if same then (record next { count = next.count + count }) ∷ [] else next ∷ (record { actor = actor; count = count }) ∷ []))
    first_one before next actor count true some apart merged = (some, apart, merged)
    first_one before next actor count false some apart merged = (some, apart, merged)
first_kept before next (run ∷ runs) actor count some apart merged = (some, apart, merged)

pub stays_merged : (xs : List Run) (actor : Actor) (count : ℕ) → IsMerged xs → 1 ≤ count → IsMerged (pushed xs actor count)
unfolding pushed
stays_merged [] actor count merged some = some
stays_merged (run ∷ []) actor count merged some = one_merged run actor count (is_same_actor run.actor actor) refl merged some
stays_merged (run ∷ next ∷ runs) actor count merged some =
    first_kept run next runs actor count merged.0 merged.1 (stays_merged (next ∷ runs) actor count merged.2 some)

-- the last run has no more steps than there are
pub last_among : (xs : List Run) (actor : Actor) → last_count xs actor ≤ length (steps_of xs)
unfolding last_count
last_among [] actor = omega arith
last_among (run ∷ []) actor = last_one run (is_same_actor run.actor actor)
  where
    last_one : (run : Run) (same : Bool) → (if same then run.count else 0) ≤ length (replicate run.count run.actor ++ [])
    last_one run true = grind (arith, common_steps)
    last_one run false = omega arith
last_among (run ∷ next ∷ runs) actor =
    let rest = last_among (next ∷ runs) actor in grind (arith, common_steps)

-- what runs spell with more steps after them

replicate_more : (m n : ℕ) (a : Actor) → replicate (m + n) a ≡ replicate m a ++ replicate n a
replicate_more zero n a = let e : zero + n ≡ n = omega arith in rw e refl
replicate_more (suc m) n a = let e : suc m + n ≡ suc (m + n) = omega arith in rw e (ap (λ s. a ∷ s) (replicate_more m n a))

spells_one : (run : Run) (actor : Actor) (count : ℕ) (same : Bool) → is_same_actor run.actor actor ≡ same
    → steps_of (if same then (record run { count = run.count + count }) ∷ [] else run ∷ (record { actor = actor; count = count }) ∷ [])
    ≡ (replicate run.count run.actor ++ []) ++ replicate count actor
spells_one run actor count true is =
    rw (append-nil (replicate (run.count + count) run.actor), append-nil (replicate run.count run.actor), replicate_more run.count count run.actor, same_is run.actor actor is) refl
spells_one run actor count false is =
    rw (append-nil (replicate count actor), append-nil (replicate run.count run.actor)) refl

pub spells_more : SpellsMore
unfolding pushed
spells_more [] actor count = append-nil (replicate count actor)
spells_more (run ∷ []) actor count = spells_one run actor count (is_same_actor run.actor actor) refl
spells_more (run ∷ next ∷ runs) actor count =
    ap (λ s. replicate run.count run.actor ++ s) (spells_more (next ∷ runs) actor count)
    ∙ sym (append_assoc (replicate run.count run.actor) (steps_of (next ∷ runs)) (replicate count actor))
