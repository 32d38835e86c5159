-- The items of a permitted schedule are in range: its steps are of processors and units that there
-- are, and each takes one from what its actor has left.
use Rattle.std.proofs.Common.{◌≡◌, ◌≤◌, ◌+◌, ℕ, Bool, true, false, List, [], ◌∷◌, length, Some, refl, subst, ap, arith}
use Rattle.qpu_word.specs.declared.code.TheConstants.{TMU_UNITS}
use Rattle.std.specs.Prelude.{nat_lt, is_some, if◌then◌else◌}
use Rattle.std.specs.List.{AllByRecursion}
use Rattle.std.proofs.lemmas.Bool.Decides.{nat_tests}
use Rattle.qpu_dma.specs.declared.direction.Direction.TheVariants.{Load as LoadOf, Store as StoreOf}
use Rattle.qpu_tmu.specs.declared.look_up.LookUp.{LookUp}
use Rattle.qpu_word.specs.Words.{one_if}
use Rattle.qpu_shared.specs.SharedState.{SharedState}
use Rattle.qpu_shared.specs.Instruction.{looks_of, pending_of}
use Rattle.qpu_shared.specs.Moves.{after_fetch, fetched, fetch_moved}
use Rattle.qpu_machine.specs.declared.actor.Actor.{Actor}
use Rattle.qpu_machine.specs.declared.actor.Actor.TheVariants.{Exec, Load, Store, Fetch}
use Rattle.qpu_machine.specs.declared.journal.Run.{Run}
use Rattle.qpu_machine.specs.Journal.{is_same_actor}
use Rattle.qpu_machine.specs.Machine.{MachineState, processor_of, Step}
use Rattle.qpu_machine.specs.Sound.{IsSoundMachine}
use Rattle.qpu_machine.specs.Schedule.{After, here, next}
use Rattle.qpu_machine.specs.Bound.{instructions_left, moves_pending}
use Rattle.qpu_machine.proofs.JournalLemmas.{same_is, is_same}
use Rattle.qpu_machine.proofs.BoundLemmas.{MovesOne, moves_row, moves_fetch, falls_exec, instructions_most, pending_most}
use Rattle.qpu_machine.proofs.ScheduleLemmas.{steps_load, steps_store, steps_fetch, sound_step}
use Rattle.qpu_machine.proofs.RunLaw.{instructions_bounded}
use Rattle.qpu_machine.proofs.OpeningLaw.{sound_opening}
use Rattle.qpu_record.specs.Grammar.{IsActor, IsItem}
use Rattle.qpu_record.specs.Record.{with_step, merged}
use Rattle.qpu_printed.specs.Items.{SchedulesHaveItems}

-- what an actor has left: instructions, or moves that are pending of its processor
left_of : MachineState → Actor → ℕ
left_of m (Exec q) = instructions_left m.limit (processor_of m q)
left_of m (Load q) = moves_pending (pending_of m.shared q)
left_of m (Store q) = moves_pending (pending_of m.shared q)
left_of m (Fetch q unit) = moves_pending (pending_of m.shared q)

-- it is no more than a record's item can have

left_most : (m : MachineState) (actor : Actor) → IsSoundMachine m → left_of m actor ≤ 1000000
unfolding left_of
left_most m (Exec q) sound = let most = instructions_most m.limit (processor_of m q) in omega (arith, most, sound.limit)
left_most m (Load q) sound = let most = pending_most m q sound in omega (arith, most)
left_most m (Store q) sound = let most = pending_most m q sound in omega (arith, most)
left_most m (Fetch q unit) sound = let most = pending_most m q sound in omega (arith, most)

-- a step takes one of it, and is of an actor that there is
record TakesOne (m n : MachineState) (actor : Actor) : Type 0 where
  there : IsActor actor
  less : left_of n actor + 1 ≤ left_of m actor

unit_low : (low : Bool) (memory : List ℕ) (looks : List LookUp) (h : SharedState) (q unit : ℕ) (left : SharedState)
    → after_fetch h q unit (fetched memory (if low then looks else [])) ≡ Some left → low ≡ true
unit_low true memory looks h q unit left moved = refl
unit_low false memory looks h q unit left moved = absurd (cc)

unit_few : (h : SharedState) (q unit : ℕ) (left : SharedState) → fetch_moved h q unit ≡ Some left → unit ≤ 1
unfolding fetch_moved
unit_few h q unit left moved =
    let low : nat_lt unit TMU_UNITS ≡ true = unit_low (nat_lt unit TMU_UNITS) h.memory (looks_of (pending_of h q) unit) h q unit left moved in less unit low
  where
    less : (n : ℕ) → nat_lt n 2 ≡ true → n ≤ 1
    less n low = grind (arith, nat_tests)

less_exec : (m : MachineState) (q : ℕ) (n : MachineState) → IsSoundMachine m → Step m (Exec q) n
    → instructions_left n.limit (processor_of n q) + 1 ≤ instructions_left m.limit (processor_of m q)
less_exec m q n sound step =
    let few = instructions_bounded q sound (next step here) in let own = ap one_if (is_same (Exec q)) in omega (arith, few, own)

takes_move : (m n : MachineState) (q : ℕ) (left : SharedState) → n ≡ record m { shared = left } → MovesOne m.shared q left
    → moves_pending (pending_of n.shared q) + 1 ≤ moves_pending (pending_of m.shared q)
takes_move m n q left is moves =
    let same = ap (λ (k : MachineState). moves_pending (pending_of k.shared q)) is in let own = moves.own in omega (arith, same, own)

low_move : (m : MachineState) (q : ℕ) (left : SharedState) → IsSoundMachine m → MovesOne m.shared q left → q ≤ 11
low_move m q left sound moves = let there = moves.there in omega (arith, there, sound.pending)

takes_one : (m : MachineState) (actor : Actor) (n : MachineState) → IsSoundMachine m → Step m actor n → TakesOne m n actor
unfolding left_of
takes_one m (Exec q) n sound step = record {
  there = let few = (falls_exec m q n sound step).few in omega (arith, few);
  less = less_exec m q n sound step;
}
takes_one m (Load q) n sound step =
    let x = steps_load m q n step in
    let moves = moves_row LoadOf m.shared q x.left x.moves in
    record { there = low_move m q x.left sound moves; less = takes_move m n q x.left x.is moves }
takes_one m (Store q) n sound step =
    let x = steps_store m q n step in
    let moves = moves_row StoreOf m.shared q x.left x.moves in
    record { there = low_move m q x.left sound moves; less = takes_move m n q x.left x.is moves }
takes_one m (Fetch q unit) n sound step =
    let x = steps_fetch m q unit n step in
    let moves = moves_fetch m.shared q unit x.left x.moves in
    record { there = (low_move m q x.left sound moves, unit_few m.shared q unit x.left x.moves); less = takes_move m n q x.left x.is moves }

-- runs: each is an item, and the first counts no more than its actor has left

abbrev FirstFits : MachineState → List Run → Type 0
FirstFits m [] = Unit {0}
FirstFits m (run ∷ runs) = run.count ≤ left_of m run.actor

record Fits (m : MachineState) (runs : List Run) : Type 0 where
  items : AllByRecursion IsItem runs
  first : FirstFits m runs

-- a run of one step
abbrev single : Actor → Run
single actor = record { actor = actor; count = 1 }

fresh : (m n : MachineState) (actor : Actor) (runs : List Run) → IsSoundMachine m → TakesOne m n actor → AllByRecursion IsItem runs
    → Fits m (single actor ∷ runs)
fresh m n actor runs sound takes items =
    let less = takes.less in
    record { items = ((takes.there, omega arith, omega arith), items); first = omega (arith, less) }

fits_more : (m n : MachineState) (actor : Actor) (run : Run) (runs : List Run) (same : Bool) → IsSoundMachine m → TakesOne m n actor
    → is_same_actor actor run.actor ≡ same → Fits n (run ∷ runs)
    → Fits m (if same then record run { count = run.count + 1 } ∷ runs else single actor ∷ run ∷ runs)
fits_more m n actor run runs true sound takes is fits =
    let e = same_is actor run.actor is in
    let less : left_of n run.actor + 1 ≤ left_of m run.actor = subst (λ a. left_of n a + 1 ≤ left_of m a) e takes.less in
    let first : run.count ≤ left_of n run.actor = fits.first in
    let most = left_most m run.actor sound in
    record {
      items = ((fits.items.0.0, omega arith, omega (arith, less, first, most)), fits.items.1);
      first = omega (arith, less, first);
    }
fits_more m n actor run runs false sound takes is fits = fresh m n actor (run ∷ runs) sound takes fits.items

fits_step : (m n : MachineState) (actor : Actor) (runs : List Run) → IsSoundMachine m → TakesOne m n actor → Fits n runs → Fits m (with_step actor runs)
fits_step m n actor [] sound takes fits = fresh m n actor [] sound takes tt
fits_step m n actor (run ∷ runs) sound takes fits = fits_more m n actor run runs (is_same_actor actor run.actor) sound takes refl fits

fits_along : {m n : MachineState} {s : List Actor} → IsSoundMachine m → After m s n → Fits m (merged s)
unfolding merged
fits_along sound here = record { items = tt; first = tt }
fits_along {m} sound (next {n = n} {actor = actor} {s = s} step more) =
    fits_step m n actor (merged s) sound (takes_one m actor n sound step) (fits_along (sound_step m actor n sound step) more)

pub schedules_items : SchedulesHaveItems
schedules_items memory limit programs starts s n may after = (fits_along (sound_opening memory limit programs starts may) after).items
