-- The serial order leaves no choice.
use Rattle.std.proofs.Common.{◌≡◌, ℕ, Bool, true, false, List, [], ◌∷◌, ◌++◌, Option, Some, None, refl, ap, sym, ◌∙◌, subst, arith}
use Rattle.qpu_machine.specs.declared.actor.Actor.{Actor}
use Rattle.qpu_machine.specs.declared.actor.Actor.TheVariants.{Exec}
use Rattle.qpu_machine.specs.Machine.{MachineState, after_step}
use Rattle.qpu_machine.specs.Ending.{IsFinal}
use Rattle.qpu_machine.specs.Serial.{has_local_step, Stretch, stops, goes, Tried, rests, moves, InTurn, none, each, Round, over, turn, SerialSchedule, ends, goes_on}
use Rattle.qpu_machine.specs.OneSerial.{HasOneSerialSchedule}
use Rattle.qpu_machine.proofs.RunLemmas.{round_rests}

some_same : (a b : MachineState) → ◌≡◌ {A = Option MachineState} (Some a) (Some b) → a ≡ b
some_same a b e = cc

some_none : (a : MachineState) → ◌≡◌ {A = Option MachineState} (Some a) None → ⊥
some_none a e = cc

true_false : (b : Bool) → b ≡ true → b ≡ false → ⊥
true_false b t f = let e : true ≡ false = sym t ∙ f in cc

-- a step leads to one machine
step_one : (m m' n k : MachineState) (actor : Actor) → m ≡ m' → after_step m actor ≡ Some n → after_step m' actor ≡ Some k → n ≡ k
step_one m m' n k actor same first second =
    some_same n k (sym first ∙ ap (λ (z : MachineState). after_step z actor) same ∙ second)

no_step : (m m' n : MachineState) (actor : Actor) → m ≡ m' → after_step m actor ≡ Some n → after_step m' actor ≡ None → ⊥
no_step m m' n actor same first second =
    some_none n (sym first ∙ ap (λ (z : MachineState). after_step z actor) same ∙ second)

longer : (actor : Actor) (s t : List Actor) → s ≡ t → actor ∷ s ≡ actor ∷ t
longer actor s t e = ap (λ (z : List Actor). actor ∷ z) e

both : (s t s' t' : List Actor) → s ≡ t → s' ≡ t' → s ++ s' ≡ t ++ t'
both s t s' t' e f = rw (e, f) refl

local_same : (q : ℕ) (m m' : MachineState) → m ≡ m' → has_local_step m q ≡ has_local_step m' q
local_same q m m' same = ap (λ (z : MachineState). has_local_step z q) same

-- a stretch is one
stretch_one : {q : ℕ} {m m' n k : MachineState} {s t : List Actor} → m ≡ m' → Stretch q m s n → Stretch q m' t k → (s ≡ t) × (n ≡ k)
stretch_one {q} {m} {m'} same (stops a) (stops b) = (refl, same)
stretch_one {q} {m} {m'} same (stops a) (goes b step more) = absurd (true_false _ b (sym (local_same q m m' same) ∙ a))
stretch_one {q} {m} {m'} same (goes a step more) (stops b) = absurd (true_false _ a (local_same q m m' same ∙ b))
stretch_one {q} {m} {m'} same (goes {n = n} {s = s} a step more) (goes {n = n'} {s = t} b step' more') =
    let r = stretch_one (step_one m m' n n' (Exec q) same step step') more more' in
    (longer (Exec q) s t r.0, r.1)

-- what is tried is one
tried_one : {actor : Actor} {m m' n k : MachineState} {s t : List Actor} → m ≡ m' → Tried actor m s n → Tried actor m' t k → (s ≡ t) × (n ≡ k)
tried_one same (rests a) (rests b) = (refl, same)
tried_one {actor} {m} {m'} same (rests a) (moves {n = n} b) = absurd (no_step m' m n actor (sym same) b a)
tried_one {actor} {m} {m'} same (moves {n = n} a) (rests b) = absurd (no_step m m' n actor same a b)
tried_one {actor} {m} {m'} same (moves {n = n} a) (moves {n = k} b) = (refl, step_one m m' n k actor same a b)

in_turn_one : {actors : List Actor} {m m' n k : MachineState} {s t : List Actor} → m ≡ m' → InTurn actors m s n → InTurn actors m' t k → (s ≡ t) × (n ≡ k)
in_turn_one same none none = (refl, same)
in_turn_one same (each {s = s} {t = t} a more) (each {s = s'} {t = t'} b more') =
    let p = tried_one same a b in
    let r = in_turn_one p.1 more more' in
    (both s s' t t' p.0 r.0, r.1)

-- a round is one
round_one : {q : ℕ} {m m' n k : MachineState} {s t : List Actor} → m ≡ m' → Round q m s n → Round q m' t k → (s ≡ t) × (n ≡ k)
round_one same (over a) (over b) = (refl, same)
round_one same (over a) (turn b c d e) = absurd (omega (arith, a, b))
round_one same (turn a c d e) (over b) = absurd (omega (arith, a, b))
round_one same (turn {s = s} {t = t} {u = u} a c d e) (turn {s = s'} {t = t'} {u = u'} b f g h) =
    let p = stretch_one same c f in
    let r = in_turn_one p.1 d g in
    let v = round_one r.1 e h in
    (both s s' (t ++ u) (t' ++ u') p.0 (both t t' u u' r.0 v.0), v.1)

final_along : {m n : MachineState} → m ≡ n → IsFinal m → IsFinal n
final_along {m} {n} same final = let P : MachineState → Type 0 = IsFinal in subst P same final

-- from a final machine nothing is scheduled
final_serial : {m n : MachineState} {s : List Actor} → IsFinal m → SerialSchedule m s n → (s ≡ []) × (n ≡ m)
final_serial final (ends a) = (refl, refl)
final_serial {m} final (goes_on {s = s} {t = t} round more) =
    let p = round_one refl round (round_rests 12 0 m refl final) in
    let r = final_serial (final_along (sym p.1) final) more in
    (both s [] t [] p.0 r.0, r.1 ∙ p.1)

serial_same : {m m' n k : MachineState} {s t : List Actor} → m ≡ m' → SerialSchedule m s n → SerialSchedule m' t k → (s ≡ t) × (n ≡ k)
serial_same same (ends a) (ends b) = (refl, same)
serial_same same (ends a) (goes_on round more) =
    let r = final_serial (final_along same a) (goes_on round more) in (sym r.0, same ∙ sym r.1)
serial_same same (goes_on round more) (ends b) =
    let r = final_serial (final_along (sym same) b) (goes_on round more) in (r.0, r.1 ∙ same)
serial_same same (goes_on {s = s} {t = t} round more) (goes_on {s = s'} {t = t'} round' more') =
    let p = round_one same round round' in
    let r = serial_same p.1 more more' in
    (both s s' t t' p.0 r.0, r.1)

-- a machine has one serial schedule
pub one_serial : HasOneSerialSchedule
one_serial m n k s t first second = serial_same refl first second
