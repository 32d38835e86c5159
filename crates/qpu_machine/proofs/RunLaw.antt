-- A permitted schedule is a run: it is bounded, and goes on the paths of its processors.
use Rattle.std.proofs.Common.{◌≡◌, ◌≢◌, ◌≤◌, ◌+◌, ℕ, false, List, Some, None, ◌⊎◌, inl, inr, sym, subst, ap, arith}
use Rattle.std.specs.Prelude.{◌==◌}
use Rattle.std.proofs.lemmas.Bool.{cases_eq}
use Rattle.std.proofs.lemmas.Bool.Decides.{nat_tests}
use Rattle.std.proofs.lemmas.List.{get_or-set_same, get_or-set_other}
use Rattle.qpu_word.specs.Words.{one_if}
use Rattle.qpu_machine.specs.declared.actor.Actor.{Actor}
use Rattle.qpu_machine.specs.declared.actor.Actor.TheVariants.{Exec, Load, Store, Fetch}
use Rattle.qpu_machine.specs.Machine.{MachineState, processor_of, with_both, Step}
use Rattle.qpu_machine.specs.Journal.{is_same_actor}
use Rattle.qpu_machine.specs.Sound.{IsSoundMachine}
use Rattle.qpu_machine.specs.Schedule.{After, here, next}
use Rattle.qpu_machine.specs.Bound.{instructions_left, instructions_of}
use Rattle.qpu_machine.specs.Gains.{IsRun, SchedulesRun}
use Rattle.qpu_machine.proofs.BoundLemmas.{steps_bounded, less_exec}
use Rattle.qpu_machine.proofs.PendingLemmas.{one_most}
use Rattle.qpu_machine.proofs.ScheduleLemmas.{steps_exec, steps_load, steps_store, steps_fetch, there_low, sound_step, sound_along}
use Rattle.qpu_machine.proofs.TrailLemmas.{goes_on_paths}

-- instructions of one processor

apart_test : (r q : ℕ) → r ≢ q → (r == q) ≡ false
apart_test r q apart = grind (arith, nat_tests)

instruction_less : (m : MachineState) (r q : ℕ) (n : MachineState) → IsSoundMachine m → Step m (Exec r) n → (r ≡ q) ⊎ (r ≢ q)
    → one_if (r == q) + instructions_left n.limit (processor_of n q) ≤ instructions_left m.limit (processor_of m q)
instruction_less m r q n sound steps (inl same) =
    let x = steps_exec m r n sound steps in
    let less = (less_exec m r n sound x).instructions in
    let now = ap (instructions_left m.limit) (get_or-set_same m.processors r (Some x.after) None (there_low m r x.p sound x.there)) in
    let before = ap (instructions_left m.limit) x.there in
    let few = one_most (r == q) in
    subst (λ (k : MachineState). one_if (r == q) + instructions_left k.limit (processor_of k q) ≤ instructions_left m.limit (processor_of m q)) (sym x.is)
    (subst (λ k. one_if (r == q) + instructions_left m.limit (processor_of (with_both m r x.after x.left) k) ≤ instructions_left m.limit (processor_of m k)) same
    (omega (arith, less, now, before, few)))
instruction_less m r q n sound steps (inr apart) =
    let x = steps_exec m r n sound steps in
    let off = ap one_if (apart_test r q apart) in
    let same = ap (instructions_left m.limit) (get_or-set_other m.processors r q (Some x.after) None (λ e. apart (sym e))) in
    subst (λ (k : MachineState). one_if (r == q) + instructions_left k.limit (processor_of k q) ≤ instructions_left m.limit (processor_of m q)) (sym x.is) (omega (arith, off, same))

step_instructions : (m : MachineState) (actor : Actor) (q : ℕ) (n : MachineState) → IsSoundMachine m → Step m actor n
    → one_if (is_same_actor actor (Exec q)) + instructions_left n.limit (processor_of n q) ≤ instructions_left m.limit (processor_of m q)
step_instructions m (Exec r) q n sound steps = instruction_less m r q n sound steps (cases_eq r q)
step_instructions m (Load r) q n sound steps =
    let x = steps_load m r n steps in let same = ap (λ (k : MachineState). instructions_left k.limit (processor_of k q)) x.is in omega (arith, same)
step_instructions m (Store r) q n sound steps =
    let x = steps_store m r n steps in let same = ap (λ (k : MachineState). instructions_left k.limit (processor_of k q)) x.is in omega (arith, same)
step_instructions m (Fetch r unit) q n sound steps =
    let x = steps_fetch m r unit n steps in let same = ap (λ (k : MachineState). instructions_left k.limit (processor_of k q)) x.is in omega (arith, same)

pub instructions_bounded : {m n : MachineState} {s : List Actor} (q : ℕ) → IsSoundMachine m → After m s n
    → instructions_of s q + instructions_left n.limit (processor_of n q) ≤ instructions_left m.limit (processor_of m q)
instructions_bounded q sound here = omega arith
instructions_bounded {m} q sound (next {n = n} {actor = actor} step more) =
    let rest = instructions_bounded q (sound_step m actor n sound step) more in let first = step_instructions m actor q n sound step in omega (arith, rest, first)

-- the whole

pub run_of : {m n : MachineState} {s : List Actor} → IsSoundMachine m → After m s n → IsRun m s n
run_of sound after = record {
  after = after;
  few = steps_bounded sound after;
  instructions = λ q. instructions_bounded q sound after;
  paths = λ q path from. goes_on_paths q path sound after from;
}

pub schedules_run : SchedulesRun
schedules_run m n s sound after = (sound_along sound after, run_of sound after)
