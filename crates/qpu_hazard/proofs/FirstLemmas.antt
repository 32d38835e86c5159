-- One hazard at most is first, and one fault at most is due.
use Rattle.std.proofs.Common.{◌≡◌, ℕ, List, Result, Ok, Err, refl, ap, sym, subst, inl, inr, arith}
use Rattle.std.specs.Prelude.{IfErr}
use Rattle.qpu_word.specs.declared.fault.WordFault.{WordFault}
use Rattle.qpu_flow.specs.Code.{AllInProfile, IsFirstOutside}
use Rattle.qpu_flow.proofs.OutsideLemmas.{none_outside, one_outside}
use Rattle.qpu_hazard.specs.declared.breaks.Hazard.{Hazard}
use Rattle.qpu_hazard.specs.declared.checked.CheckFault.{CheckFault}
use Rattle.qpu_hazard.specs.declared.checked.CheckFault.TheVariants as check
use Rattle.qpu_hazard.specs.Refusal.{NoneRefusable, NotAfter, IsFirst, OneFirst}
use Rattle.qpu_hazard.specs.Faults.{IsHazardFault, IsCheckFault, NoFault, OneFault}

-- a hazard by its place, rule and place told with it
abbrev pub hazard : ℕ → ℕ → ℕ → Hazard
hazard at rule before = record { at = at; rule = rule; before = before }

-- hazards of which neither is after the other are one

same_place : (x y : Hazard) → NotAfter x y → NotAfter y x → x.at ≡ y.at
same_place x y (inl p) (inl q) = absurd (omega (arith, p, q))
same_place x y (inl p) (inr q) = sym q.0
same_place x y (inr p) q = p.0

same_rule : (x y : Hazard) → NotAfter x y → NotAfter y x → x.rule ≡ y.rule
same_rule x y (inl p) (inl q) = absurd (omega (arith, p, q))
same_rule x y (inl p) (inr q) = absurd (omega (arith, p, q.0))
same_rule x y (inr p) (inl q) = absurd (omega (arith, p.0, q))
same_rule x y (inr (e, inl p)) (inr (f, inl q)) = absurd (omega (arith, p, q))
same_rule x y (inr (e, inl p)) (inr (f, inr q)) = sym q.0
same_rule x y (inr (e, inr p)) q = p.0

same_before : (x y : Hazard) → NotAfter x y → NotAfter y x → x.before ≡ y.before
same_before x y (inl p) (inl q) = absurd (omega (arith, p, q))
same_before x y (inl p) (inr q) = absurd (omega (arith, p, q.0))
same_before x y (inr p) (inl q) = absurd (omega (arith, p.0, q))
same_before x y (inr (e, inl p)) (inr (f, inl q)) = absurd (omega (arith, p, q))
same_before x y (inr (e, inl p)) (inr (f, inr q)) = absurd (omega (arith, p, q.0))
same_before x y (inr (e, inr p)) (inr (f, inl q)) = absurd (omega (arith, p.0, q))
same_before x y (inr (e, inr p)) (inr (f, inr q)) = omega (arith, p.1, q.1)

same_parts : (x y : Hazard) → x.at ≡ y.at → x.rule ≡ y.rule → x.before ≡ y.before → x ≡ y
same_parts x y e f g = λ i. record { at = e i; rule = f i; before = g i }

same_hazard : (x y : Hazard) → NotAfter x y → NotAfter y x → x ≡ y
same_hazard x y p q = same_parts x y (same_place x y p q) (same_rule x y p q) (same_before x y p q)

pub one_first : OneFirst
one_first code x y p q = same_hazard x y (p.least y q.refusable) (q.least x p.refusable)

pub none_first : (code : List ℕ) (h : Hazard) → NoneRefusable code → IsFirst code h → ⊥
none_first code h none first = none h first.refusable

-- faults of the checker

pub same_outside : (code : List ℕ) (a b : ℕ) (f g : WordFault) → IsFirstOutside code a f → IsFirstOutside code b g → check.Word a f ≡ check.Word b g
same_outside code a b f g p q = let e = one_outside code a b f g p q in λ i. check.Word (e.0 i) (e.1 i)

pub same_break : (code : List ℕ) (x y : Hazard) → IsFirst code x → IsFirst code y → check.Hazard x.rule x.at x.before ≡ check.Hazard y.rule y.at y.before
same_break code x y p q = ap (λ (h : Hazard). check.Hazard h.rule h.at h.before) (one_first code x y p q)

pub one_fault : OneFault
one_fault code (check.Word at w) (check.Word bt v) p q none none' = same_outside code at bt w v p q
one_fault code (check.Word at w) (check.Hazard rule bt before) p q none none' = absurd (none_outside code at w q.0 p)
one_fault code (check.Hazard rule at before) (check.Word bt v) p q none none' = absurd (none_outside code bt v p.0 q)
one_fault code (check.Hazard rule at before) (check.Hazard rule' bt before') p q none none' =
    same_break code (hazard at rule before) (hazard bt rule' before') p.1 q.1
one_fault code check.Memory f p q none none' = absurd (none refl)
one_fault code (check.Word at w) check.Memory p q none none' = absurd (none' refl)
one_fault code (check.Hazard rule at before) check.Memory p q none none' = absurd (none' refl)

pub no_fault : NoFault
no_fault code (check.Word at w) inside clean is none = none_outside code at w inside is
no_fault code (check.Hazard rule at before) inside clean is none = none_first code (hazard at rule before) clean is.1
no_fault code check.Memory inside clean is none = none refl

-- the refusal of a program of the profile is that of its words
pub fault_of_words : {T : Type 0} (flow code : List ℕ) (r : Result T CheckFault) → flow ≡ code → AllInProfile code → IfErr r (IsHazardFault flow) → IfErr r (IsCheckFault code)
fault_of_words flow code (Ok checked) is inside told = tt
fault_of_words flow code (Err (check.Word at w)) is inside told = absurd told
fault_of_words flow code (Err (check.Hazard rule at before)) is inside told =
    (inside, subst (λ (x : List ℕ). IsFirst x (hazard at rule before)) is told)
fault_of_words flow code (Err check.Memory) is inside told = tt
