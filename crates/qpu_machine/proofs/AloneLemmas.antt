-- A machine in which processor 0 is the only one, at the shared parts before any step.
use Rattle.std.proofs.Common.{◌≡◌, ℕ, zero, suc, ◌+◌, Bool, true, false, List, [], ◌∷◌, replicate, Option, Some, None, Ok, refl, sym, subst, arith}
use Rattle.std.specs.Prelude.{◌==◌, nat_lt, if◌then◌else◌, slice_index, slice_index_or}
use Rattle.qpu_word.specs.declared.code.TheConstants.{PROCESSORS, TMU_UNITS}
use Rattle.qpu_word.specs.declared.state.Halt.TheVariants.{Ended}
use Rattle.qpu_word.specs.Words.{fields_of, is_local}
use Rattle.qpu_word.specs.Processor.{ProcessorState, opening_processor}
use Rattle.qpu_word.specs.Instruction.{local_result, is_link_point}
use Rattle.qpu_tmu.specs.declared.look_up.LookUp.{LookUp}
use Rattle.qpu_shared.specs.SharedState.{nothing_pending, opening_shared}
use Rattle.qpu_shared.specs.Instruction.{is_running, instruction, pending_of}
use Rattle.qpu_machine.specs.declared.actor.Actor.TheVariants.{Exec, Load, Store, Fetch}
use Rattle.qpu_machine.specs.declared.conclusion.Ending.TheVariants.{Done}
use Rattle.qpu_machine.specs.declared.start.Start.{Start}
use Rattle.qpu_shared.specs.Moves.{unit_looks, row_moved, fetch_moved}
use Rattle.qpu_machine.specs.Machine.{MachineState, machine_of, after_step}
use Rattle.qpu_machine.specs.Ending.{IsFinal, ending_of}
use Rattle.qpu_machine.proofs.RunLemmas.{Ran, one_more, IsAtLocal, local_step, local_enabled}

-- processor 0 with one program, alone
abbrev pub alone : List ℕ → ℕ → List ℕ → ProcessorState → MachineState
alone memory limit code p = record {
  limit = limit;
  programs = code ∷ [];
  program_of = replicate PROCESSORS 0;
  processors = Some p ∷ replicate 11 None;
  shared = opening_shared memory;
}

-- the start of processor 0 at program 0
abbrev pub first_start : ℕ → Start
first_start uniforms = record { q = 0; program = 0; uniforms = uniforms }

-- it is what a machine of one start begins as
pub opening_alone : (memory : List ℕ) (limit : ℕ) (code : List ℕ) (uniforms : ℕ)
    → machine_of memory limit (code ∷ []) (first_start uniforms ∷ []) ≡ alone memory limit code (opening_processor 0 uniforms)
unfolding machine_of
opening_alone memory limit code uniforms = refl

-- a list of one value has it at each index, and past the end
at_default : {A : Type 0} (n i : ℕ) (a : A) → slice_index_or (replicate n a) i a ≡ a
at_default zero i a = refl
at_default (suc n) zero a = refl
at_default (suc n) (suc i) a = at_default n i a

-- nobody has anything pending
pub nobody_pending : (memory : List ℕ) (q : ℕ) → pending_of (opening_shared memory) q ≡ nothing_pending
unfolding opening_shared
nobody_pending memory q = at_default PROCESSORS q nothing_pending

same_either : (b : Bool) → ◌≡◌ {A = List LookUp} (if b then [] else []) []
same_either true = refl
same_either false = refl

-- no unit has a look-up
no_looks : (unit : ℕ) → unit_looks nothing_pending unit ≡ []
no_looks unit = rw (same_either (unit == 0)) (same_either (nat_lt unit TMU_UNITS))

-- where processor 0 has ended, nothing can move
pub final_alone : (memory : List ℕ) (limit : ℕ) (code : List ℕ) (p : ProcessorState) → p.halt ≡ Ended → IsFinal (alone memory limit code p)
unfolding after_step instruction row_moved fetch_moved
final_alone memory limit code p ended (Exec zero) = rw ended refl
final_alone memory limit code p ended (Exec (suc q)) = rw (at_default {A = Option ProcessorState} 11 q None) refl
final_alone memory limit code p ended (Load q) = rw (nobody_pending memory q) refl
final_alone memory limit code p ended (Store q) = rw (nobody_pending memory q) refl
final_alone memory limit code p ended (Fetch q unit) = rw (nobody_pending memory q, no_looks unit) refl

-- and it is done
pub ending_alone : (memory : List ℕ) (limit : ℕ) (code : List ℕ) (p : ProcessorState) → p.halt ≡ Ended → ending_of (alone memory limit code p) ≡ Done
unfolding ending_of
ending_alone memory limit code p ended = rw ended refl

-- one more local step of processor 0
pub ran_alone : (memory : List ℕ) (limit : ℕ) (code : List ℕ) (first p after : ProcessorState) (i : ℕ)
    → is_running limit p ≡ true → is_local (fields_of (slice_index code p.place)) ≡ true
    → local_result (is_link_point code) (slice_index code p.place) p ≡ Ok after
    → Ran 0 (alone memory limit code first) i (alone memory limit code p)
    → Ran 0 (alone memory limit code first) (i + 1) (alone memory limit code after)
ran_alone memory limit code first p after i runs local does ran =
    let at : IsAtLocal (alone memory limit code p) 0 p after = record { there = refl; runs = runs; local = local; does = does } in
    let e : i + 1 ≡ suc i = omega arith in
    let P : ℕ → Type 0 = λ n. Ran 0 (alone memory limit code first) n (alone memory limit code after) in
    subst P (sym e) (one_more ran (local_enabled _ 0 p after at) (local_step _ 0 p after at))
