-- A machine before any step is sound, and stays so with each processor that is started.
use Rattle.std.proofs.Common.{◌≡◌, ◌≢◌, ◌<◌, ◌≤◌, ◌+◌, ℕ, List, [], ◌∷◌, length, replicate, fold, Option, Some, None, ◌⊎◌, inl, inr, refl, sym, subst, ap, ◌∙◌, arith}
use Rattle.std.specs.Prelude.{slice_index, slice_index_or}
use Rattle.std.proofs.Math.ListN.{length-set, take, get_or}
use Rattle.std.proofs.lemmas.List.{get_or-set_same, get_or-set_other, get_or-replicate}
use Rattle.std.proofs.lemmas.List.Sums.{fold_more}
use Rattle.std.proofs.lemmas.Bool.{cases_eq}
use Rattle.qpu_word.specs.Processor.{ProcessorState, opening_processor}
use Rattle.qpu_shared.specs.declared.pending.Pending.{Pending}
use Rattle.qpu_shared.specs.SharedState.{SharedState, opening_shared, nothing_pending}
use Rattle.qpu_shared.specs.Instruction.{pending_of}
use Rattle.qpu_hazard.specs.Paths.{IsClean}
use Rattle.qpu_hazard.proofs.ProcessorLemmas.{processor_opens}
use Rattle.qpu_machine.specs.declared.start.Start.{Start}
use Rattle.qpu_machine.specs.Machine.{MachineState, processor_of, words_of, with_start, machine_of}
use Rattle.qpu_machine.specs.Kept.{IsOnPath, HasFewLooks, HasFewRows}
use Rattle.qpu_machine.specs.Sound.{IsStarted, IsStartedAt, IsSoundMachine}
use Rattle.qpu_machine.proofs.AloneLemmas.{nobody_pending}

-- without any processor

none_started : (m : MachineState) (q : ℕ) → processor_of m q ≡ None → IsStartedAt m q (processor_of m q)
none_started m q none = subst (IsStartedAt m q) (sym none) tt

pub room_opens : (memory : List ℕ) → length (opening_shared memory).pending ≡ 12
unfolding opening_shared
room_opens memory = refl

nothing_few : (pending : Pending) → pending ≡ nothing_pending → HasFewLooks pending.looks
nothing_few pending nothing = subst (λ (x : Pending). HasFewLooks x.looks) (sym nothing) (omega arith, omega arith)

nothing_short : (pending : Pending) → pending ≡ nothing_pending → HasFewRows pending
nothing_short pending nothing = subst HasFewRows (sym nothing) (tt, tt)

pub sound_unstarted : (m : MachineState) (memory : List ℕ) → m.limit ≤ 1000000 → m.shared ≡ opening_shared memory → m.processors ≡ replicate 12 None → IsSoundMachine m
sound_unstarted m memory limit shared none = record {
  limit = limit;
  pending = ap (λ (h : SharedState). length h.pending) shared ∙ room_opens memory;
  looks = λ q. nothing_few _ (ap (λ (h : SharedState). pending_of h q) shared ∙ nobody_pending memory q);
  rows = λ q. nothing_short _ (ap (λ (h : SharedState). pending_of h q) shared ∙ nobody_pending memory q);
  processors = ap length none;
  each = λ q few. none_started m q (ap (λ (ps : List (Option ProcessorState)). slice_index_or ps q None) none ∙ get_or-replicate 12 q None None few);
}

-- with one processor more

-- a processor that hasn't run stands on the empty path
opens_on : (code : List ℕ) (q uniforms : ℕ) (pending : Pending) → pending ≡ nothing_pending → IsClean code → IsOnPath code (opening_processor q uniforms) pending.looks
unfolding opening_processor
opens_on code q uniforms pending nothing clean = record {
  path = [];
  is_path = tt;
  stands = processor_opens code clean;
  flags = refl;
  carry = refl;
  looks0 = ap (λ (x : Pending). length x.looks.looks0) nothing;
  looks1 = ap (λ (x : Pending). length x.looks.looks1) nothing;
}

-- the processor itself
own_started : (m : MachineState) (start : Start) → slice_index m.program_of start.q ≡ start.program → start.program < length m.programs
    → pending_of m.shared start.q ≡ nothing_pending → IsClean (slice_index_or m.programs start.program []) → IsStarted m start.q (opening_processor start.q start.uniforms)
unfolding opening_processor
own_started m start program there nothing clean = record {
  number = refl;
  program = rw program there;
  clean = rw program clean;
  executed = omega arith;
  kept = λ going. opens_on (words_of m start.q) start.q start.uniforms (pending_of m.shared start.q) nothing (rw program clean);
}

-- another one, whose program stays
other_started : (m n : MachineState) (r : ℕ) (o : Option ProcessorState) → n.limit ≡ m.limit → n.programs ≡ m.programs
    → slice_index n.program_of r ≡ slice_index m.program_of r → n.shared ≡ m.shared → IsStartedAt m r o → IsStartedAt n r o
other_started m n r None limit programs program shared at = tt
other_started m n r (Some p) limit programs program shared at = record {
  number = at.number;
  program = rw (programs, program) at.program;
  clean = rw (programs, program) at.clean;
  executed = rw limit at.executed;
  kept = rw (programs, program, shared) at.kept;
}

started_at : (m : MachineState) (start : Start) → IsSoundMachine m → length m.program_of ≡ 12 → start.q < 12 → start.program < length m.programs
    → pending_of m.shared start.q ≡ nothing_pending → IsClean (slice_index_or m.programs start.program []) → (r : ℕ) → r < 12 → (r ≡ start.q) ⊎ (r ≢ start.q)
    → IsStartedAt (with_start m start) r (processor_of (with_start m start) r)
started_at m start sound room low there nothing clean r few (inl same) =
    subst (λ s. IsStartedAt (with_start m start) s (processor_of (with_start m start) s)) (sym same)
    (subst (IsStartedAt (with_start m start) start.q) (sym (get_or-set_same m.processors start.q (Some (opening_processor start.q start.uniforms)) None (omega (arith, sound.processors, low))))
    (own_started (with_start m start) start (get_or-set_same m.program_of start.q start.program 0 (omega (arith, room, low))) there nothing clean))
started_at m start sound room low there nothing clean r few (inr apart) =
    subst (IsStartedAt (with_start m start) r) (sym (get_or-set_other m.processors start.q r (Some (opening_processor start.q start.uniforms)) None apart))
    (other_started m (with_start m start) r (processor_of m r) refl refl (get_or-set_other m.program_of start.q r start.program 0 apart) refl (sound.each r few))

pub sound_started : (m : MachineState) (start : Start) → IsSoundMachine m → length m.program_of ≡ 12 → start.q < 12 → start.program < length m.programs
    → pending_of m.shared start.q ≡ nothing_pending → IsClean (slice_index_or m.programs start.program []) → IsSoundMachine (with_start m start)
sound_started m start sound room low there nothing clean = record {
  limit = sound.limit;
  pending = sound.pending;
  looks = sound.looks;
  rows = sound.rows;
  processors = length-set m.processors start.q (Some (opening_processor start.q start.uniforms)) ∙ sound.processors;
  each = λ r few. started_at m start sound room low there nothing clean r few (cases_eq r start.q);
}

-- what starts leave as it is

shared_kept : (m : MachineState) (starts : List Start) → (fold with_start m starts).shared ≡ m.shared
shared_kept m [] = refl
shared_kept m (start ∷ more) = shared_kept (with_start m start) more

programs_kept : (m : MachineState) (starts : List Start) → (fold with_start m starts).programs ≡ m.programs
programs_kept m [] = refl
programs_kept m (start ∷ more) = programs_kept (with_start m start) more

pub programs_of_machine : (memory : List ℕ) (limit : ℕ) (programs : List (List ℕ)) (starts : List Start) → (machine_of memory limit programs starts).programs ≡ programs
unfolding machine_of
programs_of_machine memory limit programs starts = programs_kept _ starts

nothing_opens : (memory : List ℕ) (q : ℕ) → q < 12 → pending_of (opening_shared memory) q ≡ nothing_pending
unfolding opening_shared
nothing_opens memory q low = get_or-replicate 12 q nothing_pending nothing_pending low

pub nothing_of_machine : (memory : List ℕ) (limit : ℕ) (programs : List (List ℕ)) (starts : List Start) (q : ℕ) → q < 12
    → pending_of (machine_of memory limit programs starts).shared q ≡ nothing_pending
unfolding machine_of
nothing_of_machine memory limit programs starts q low = ap (λ (h : SharedState). pending_of h q) (shared_kept _ starts) ∙ nothing_opens memory q low

-- one start more
pub machine_more : (memory : List ℕ) (limit : ℕ) (programs : List (List ℕ)) (starts : List Start) (i : ℕ) (d : Start) → i < length starts
    → machine_of memory limit programs (take (i + 1) starts) ≡ with_start (machine_of memory limit programs (take i starts)) (get_or starts i d)
unfolding machine_of
machine_more memory limit programs starts i d low = fold_more with_start _ starts i d low

-- an equal machine
pub sound_same : (m : MachineState) (programs : List (List ℕ)) (processors : List (Option ProcessorState)) (h : SharedState) → programs ≡ m.programs → processors ≡ m.processors → h ≡ m.shared
    → IsSoundMachine m → IsSoundMachine (record m { programs = programs; processors = processors; shared = h })
sound_same m programs processors h same all shared sound = rw (same, all, shared) sound
