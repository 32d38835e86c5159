-- What a processor does in a round keeps the other processors.
use Rattle.std.proofs.Common.{◌≡◌, ℕ, List, [], ◌∷◌, Some, None, refl, sym, subst, ◌∙◌}
use Rattle.std.proofs.lemmas.List.{get_or-set_other}
use Rattle.qpu_machine.specs.declared.actor.Actor.{Actor}
use Rattle.qpu_machine.specs.declared.actor.Actor.TheVariants.{Exec, Load, Store, Fetch}
use Rattle.qpu_machine.specs.Machine.{MachineState, with_both, Step}
use Rattle.qpu_machine.specs.Others.{KeepsOthers}
use Rattle.qpu_machine.specs.Serial.{Stretch, stops, goes, Tried, rests, moves, InTurn, none, each, Turned, turned}
use Rattle.qpu_machine.specs.Sound.{IsSoundMachine}
use Rattle.qpu_machine.proofs.ScheduleLemmas.{sound_step, sound_along, steps_exec, steps_load, steps_store, steps_fetch}
use Rattle.qpu_machine.proofs.SerialLemmas.{stretch_after, tried_after}

pub keeps_none : (q : ℕ) (m : MachineState) → KeepsOthers q m m
keeps_none q m = record { limit = refl; programs = refl; program_of = refl; others = λ r apart. refl }

pub keeps_then : {q : ℕ} {m n k : MachineState} → KeepsOthers q m n → KeepsOthers q n k → KeepsOthers q m k
keeps_then first second = record {
  limit = second.limit ∙ first.limit;
  programs = second.programs ∙ first.programs;
  program_of = second.program_of ∙ first.program_of;
  others = λ r apart. second.others r apart ∙ first.others r apart;
}

-- an actor is a move, or an instruction of processor q
abbrev IsOfOne : ℕ → Actor → Type 0
IsOfOne q (Exec r) = r ≡ q
IsOfOne q (Load r) = Unit {0}
IsOfOne q (Store r) = Unit {0}
IsOfOne q (Fetch r unit) = Unit {0}

-- and so are all of some
abbrev AreOfOne : ℕ → List Actor → Type 0
AreOfOne q [] = Unit {0}
AreOfOne q (actor ∷ more) = IsOfOne q actor × AreOfOne q more

keeps_both : (q : ℕ) (m : MachineState) (p : _) (h : _) → KeepsOthers q m (with_both m q p h)
keeps_both q m p h = record {
  limit = refl;
  programs = refl;
  program_of = refl;
  others = λ r apart. get_or-set_other m.processors q r (Some p) None apart;
}

keeps_shared : (q : ℕ) (m : MachineState) (h : _) → KeepsOthers q m (record m { shared = h })
keeps_shared q m h = record { limit = refl; programs = refl; program_of = refl; others = λ r apart. refl }

pub keeps_step : (q : ℕ) (m : MachineState) (actor : Actor) (n : MachineState) → IsSoundMachine m → IsOfOne q actor → Step m actor n → KeepsOthers q m n
keeps_step q m (Exec r) n sound own step =
    let x = steps_exec m r n sound step in
    subst (λ k. KeepsOthers k m n) own (subst (KeepsOthers r m) (sym x.is) (keeps_both r m x.after x.left))
keeps_step q m (Load r) n sound own step = let x = steps_load m r n step in subst (KeepsOthers q m) (sym x.is) (keeps_shared q m x.left)
keeps_step q m (Store r) n sound own step = let x = steps_store m r n step in subst (KeepsOthers q m) (sym x.is) (keeps_shared q m x.left)
keeps_step q m (Fetch r unit) n sound own step = let x = steps_fetch m r unit n step in subst (KeepsOthers q m) (sym x.is) (keeps_shared q m x.left)

keeps_stretch : {q : ℕ} {m n : MachineState} {s : List Actor} → IsSoundMachine m → Stretch q m s n → KeepsOthers q m n
keeps_stretch {q} {m} sound (stops still) = keeps_none q m
keeps_stretch {q} {m} sound (goes {n = n} has step more) =
    keeps_then (keeps_step q m (Exec q) n sound refl step) (keeps_stretch (sound_step m (Exec q) n sound step) more)

keeps_tried : {q : ℕ} {actor : Actor} {m n : MachineState} {s : List Actor} → IsSoundMachine m → IsOfOne q actor → Tried actor m s n → KeepsOthers q m n
keeps_tried {q} {actor} {m} sound own (rests stays) = keeps_none q m
keeps_tried {q} {actor} {m} {n} sound own (moves step) = keeps_step q m actor n sound own step

keeps_in_turn : {q : ℕ} {actors : List Actor} {m n : MachineState} {s : List Actor} → IsSoundMachine m → AreOfOne q actors → InTurn actors m s n → KeepsOthers q m n
keeps_in_turn {q} {m = m} sound own none = keeps_none q m
keeps_in_turn sound own (each first more) =
    keeps_then (keeps_tried sound own.0 first) (keeps_in_turn (sound_along sound (tried_after first)) own.1 more)

-- its local words and what it tries
pub keeps_turned : {q : ℕ} {m n : MachineState} {s : List Actor} → IsSoundMachine m → Turned q m s n → KeepsOthers q m n
keeps_turned sound (turned stretch tries) =
    keeps_then (keeps_stretch sound stretch) (keeps_in_turn (sound_along sound (stretch_after stretch)) (refl, (tt, (tt, (tt, (tt, tt))))) tries)
