-- A search that is done missed nothing: each path that breaks nothing left a trail that was found.
use Rattle.std.proofs.Common.{◌≡◌, ℕ, zero, suc, ◌<◌, Bool, true, false, List, [], ◌∷◌, length, Option, Some, None, refl, ap, sym, ◌∙◌, subst, inr, arith}
use Rattle.std.specs.Prelude.{IfSome, Contains, ◌==◌}
use Rattle.std.proofs.lemmas.List.Elements.{All-contains, Contains-get_or}
use Rattle.std.proofs.lemmas.Bool.Decides.{nat_tests}
use Rattle.qpu_hazard.specs.declared.breaks.Break.{Break}
use Rattle.qpu_hazard.specs.declared.breaks.Hazard.{Hazard}
use Rattle.qpu_hazard.specs.declared.trail.Trail.{Trail}
use Rattle.qpu_hazard.specs.declared.search.Search.{Search}
use Rattle.qpu_hazard.specs.Rules.{break_when}
use Rattle.qpu_hazard.specs.Paths.{IsPath, IsClean, broken}
use Rattle.qpu_hazard.specs.Trails.{broken_from}
use Rattle.qpu_hazard.specs.declared.needs.Needs.{Needs}
use Rattle.qpu_hazard.specs.Needs.{kept_trail}
use Rattle.qpu_hazard.specs.Refusal.{IsRefusable, IsFirst, NoneRefusable, NotAfter, path_end}
use Rattle.qpu_hazard.specs.Search.{AtMost, hazard_at, Settled, AllSettled, IsClosed}
use Rattle.qpu_hazard.proofs.KnownLemmas.{there}
use Rattle.qpu_hazard.proofs.PartValues.{way_of_path}
use Rattle.qpu_hazard.proofs.NeedLemmas.{broken_kept, follows_kept, kept_law}

-- a trail that was found is settled
settled_found : (needs : Needs) (code : List ℕ) (s : Search) (r : Trail) → IsClosed needs code s → Contains s.seen r → AllSettled needs code s r
settled_found needs code s r closed found =
    subst (λ (x : Trail). AllSettled needs code s x) found.2 (closed.settled found.0 r found.1)

-- a word that follows a path, whose trail was found, is settled
settled_after : (needs : Needs) (code t : List ℕ) (s : Search) (a : ℕ) → IsClosed needs code s → Contains s.seen (kept_trail needs code t) → IsPath code (a ∷ t) → Settled needs code s (kept_trail needs code t) a
settled_after needs code t s a closed found is_path =
    settled_found needs code s (kept_trail needs code t) closed found a (sym (follows_kept needs code t a) ∙ is_path.2)

-- each path that breaks nothing was met
pub met : (needs : Needs) (code : List ℕ) (s : Search) → IsClosed needs code s → (t : List ℕ) → IsPath code t → broken code t ≡ [] → Contains s.seen (kept_trail needs code t)
met needs code s closed [] is_path none = closed.start
met needs code s closed (a ∷ t) is_path none =
    let before : Contains s.seen (kept_trail needs code t) = met needs code s closed t is_path.0 is_path.1 in
    let now : Settled needs code s (kept_trail needs code t) a = settled_after needs code t s a closed before is_path in
    subst (λ (x : Trail). Contains s.seen x) (sym (kept_law needs code t a)) (now.clean (sym (broken_kept needs code t a closed.sparing (way_of_path code t is_path.0) is_path.2) ∙ none))

-- and each break of a path was told
pub told : (needs : Needs) (code : List ℕ) (s : Search) → IsClosed needs code s → (t : List ℕ) (a : ℕ) → IsPath code (a ∷ t) → (b : Break) → Contains (broken code (a ∷ t)) b → AtMost s.best (hazard_at a b)
told needs code s closed t a is_path b has =
    let before : Contains s.seen (kept_trail needs code t) = met needs code s closed t is_path.0 is_path.1 in
    let now : Settled needs code s (kept_trail needs code t) a = settled_after needs code t s a closed before is_path in
    All-contains (λ (x : Break). AtMost s.best (hazard_at a x)) (broken_from code (kept_trail needs code t) a) b now.least
    (subst (λ (l : List Break). Contains l b) (broken_kept needs code t a closed.sparing (way_of_path code t is_path.0) is_path.2) has)

nothing_in_empty : {A : Type 0} (xs : List A) (x : A) → xs ≡ [] → Contains xs x → ⊥
nothing_in_empty xs x none has = omega (arith, ap length none, has.1)

-- before any word nothing is broken where there are words
pub nothing_before : (code : List ℕ) → 0 < length code → broken code [] ≡ []
unfolding broken
nothing_before code some =
    let test : (length code == 0) ≡ false = grind (arith, nat_tests) in ap (λ (b : Bool). break_when b 10 0) test

-- each refusable hazard is not before the best
least_of_path : (needs : Needs) (code : List ℕ) (s : Search) → 0 < length code → IsClosed needs code s → (h : Hazard) (t : List ℕ) → IsPath code t → path_end t ≡ h.at
    → Contains (broken code t) (record { rule = h.rule; before = h.before }) → AtMost s.best h
least_of_path needs code s some closed h [] is_path ends has = absurd (nothing_in_empty _ _ (nothing_before code some) has)
least_of_path needs code s some closed h (a ∷ t) is_path ends has =
    let told_at : AtMost s.best (record { at = a; rule = h.rule; before = h.before }) =
    told needs code s closed t a is_path (record { rule = h.rule; before = h.before }) has in
    subst (λ (x : ℕ). AtMost s.best (record { at = x; rule = h.rule; before = h.before })) ends told_at

pub least_found : (needs : Needs) (code : List ℕ) (s : Search) → 0 < length code → IsClosed needs code s → (h : Hazard) → IsRefusable code h → AtMost s.best h
least_found needs code s some closed h refusable =
    least_of_path needs code s some closed h refusable.path refusable.is_path refusable.ends refusable.breaks

-- the best hazard is the first
pub first_found : (needs : Needs) (code : List ℕ) (s : Search) (h : Hazard) → 0 < length code → IsClosed needs code s → s.best ≡ Some h → IsFirst code h
first_found needs code s h some closed is = record {
  refusable = subst (λ (b : Option Hazard). IfSome b (IsRefusable code)) is closed.sound.best;
  least = λ other refusable. subst (λ (b : Option Hazard). AtMost b other) is (least_found needs code s some closed other refusable);
}

-- without a best hazard nothing is refusable
pub none_found : (needs : Needs) (code : List ℕ) (s : Search) → 0 < length code → IsClosed needs code s → s.best ≡ None → NoneRefusable code
none_found needs code s some closed is = λ h refusable.
    subst (λ (b : Option Hazard). AtMost b h) is (least_found needs code s some closed h refusable)

-- where nothing is refusable, no path breaks a rule
broken_none : (code t : List ℕ) → NoneRefusable code → IsPath code t → (l : List Break) → broken code t ≡ l → broken code t ≡ []
broken_none code t none is_path [] is = is
broken_none code t none is_path (b ∷ l) is = absurd (none (hazard_at (path_end t) b) (record {
  path = t;
  is_path = is_path;
  ends = refl;
  breaks = subst (λ (x : List Break). Contains x b) (sym is) (Contains-get_or (b ∷ l) 0 b (omega arith));
}))

pub clean_from_none : (code : List ℕ) → NoneRefusable code → IsClean code
clean_from_none code none = λ t is_path. broken_none code t none is_path (broken code t) refl

-- where no path breaks a rule, nothing is refusable
pub none_from_clean : (code : List ℕ) → IsClean code → NoneRefusable code
none_from_clean code clean = λ h refusable. nothing_in_empty _ _ (clean refusable.path refusable.is_path) refusable.breaks

-- the program without words breaks H10 before any word, and nothing else

same_when : (b : Break) → Contains (record { rule = 10; before = 0 } ∷ []) b → b ≡ record { rule = 10; before = 0 }
same_when b (zero, low, is) = sym is
same_when b (suc k, low, is) = absurd (omega arith)

broken_empty : (code : List ℕ) → length code ≡ 0 → broken code [] ≡ record { rule = 10; before = 0 } ∷ []
unfolding broken
broken_empty code none =
    let test : (length code == 0) ≡ true = grind (arith, nat_tests) in ap (λ (b : Bool). break_when b 10 0) test

least_of_empty : (code : List ℕ) → length code ≡ 0 → (h : Hazard) (t : List ℕ) → IsPath code t → path_end t ≡ h.at
    → Contains (broken code t) (record { rule = h.rule; before = h.before }) → NotAfter (record { at = 0; rule = 10; before = 0 }) h
least_of_empty code none h [] is_path ends has =
    let same = same_when (record { rule = h.rule; before = h.before }) (subst (λ (l : List Break). Contains l (record { rule = h.rule; before = h.before })) (broken_empty code none) has) in
    let rule : h.rule ≡ 10 = ap (λ (b : Break). b.rule) same in
    let before : h.before ≡ 0 = ap (λ (b : Break). b.before) same in
    inr (ends, inr (sym rule, omega arith))
least_of_empty code none h (a ∷ t) is_path ends has = absurd (omega (arith, there code t a is_path.2))

pub first_of_empty : (code : List ℕ) → length code ≡ 0 → IsFirst code (record { at = 0; rule = 10; before = 0 })
first_of_empty code none = record {
  refusable = record {
    path = [];
    is_path = tt;
    ends = refl;
    breaks = subst (λ (l : List Break). Contains l (record { rule = 10; before = 0 })) (sym (broken_empty code none)) (0, omega arith, refl);
  };
  least = λ other refusable. least_of_empty code none other refusable.path refusable.is_path refusable.ends refusable.breaks;
}
