-- A local word reads and changes its processor alone.
use Rattle.std.proofs.Common.{◌≡◌, ℕ, Bool, true, false, not, List, Option, None, Result, Ok, Err, refl, ap, ◌∙◌}
use Rattle.std.proofs.lemmas.List.{set-get_or}
use Rattle.std.specs.Prelude.{◌==◌, ◌&&◌, ◌||◌, slice_index}
use Rattle.qpu_word.specs.declared.word.Fields.{Fields}
use Rattle.qpu_word.specs.declared.traffic.Outs.{Outs}
use Rattle.qpu_word.specs.declared.setup.Book.{Book}
use Rattle.qpu_word.specs.declared.fault.FaultKind.{FaultKind}
use Rattle.qpu_word.specs.declared.code.TheConstants.{NOWHERE, WRITE_VPM, WRITE_DMA_ADDRESS, WRITE_TMU0_S, WRITE_TMU1_S}
use Rattle.qpu_word.specs.Words.{fields_of, is_local, add_writes, mul_writes}
use Rattle.qpu_word.specs.Processor.{ProcessorState}
use Rattle.qpu_word.specs.Instruction.{sent_to, sent_to_a, sent_to_b, first_lane, as_lanes, look_address, outs_from, outs_of, after_setups, after_uniform_to, then_after, branch_fails, done, no_ins, local_result, is_link_point, add_sent, mul_sent}
use Rattle.qpu_word.proofs.StepLemmas.{or_left, or_right, nothing_sent}
use Rattle.qpu_word.proofs.AloneLemmas.{IsAlone, alone}
use Rattle.qpu_shared.specs.declared.cause.Cause.TheVariants.{LoadWait, StoreWait, LoadStart, StoreStart, TmuLoad, Mutex, Up, Down}
use Rattle.qpu_shared.specs.declared.pending.Pending.{Pending}
use Rattle.qpu_shared.specs.declared.starts.Begun.{Begun}
use Rattle.qpu_shared.specs.SharedState.{SharedState}
use Rattle.qpu_shared.specs.Local.{local_outcome}
use Rattle.qpu_shared.specs.Instruction.{Done, awaits, first_cause, ins_of, after_reads, after_writes, shared_after, mutex_after, semaphores_after, pending_after, pending_of, instruction_result, outcome_of, outcome_under, is_running, instruction}

and_left : (a b : Bool) → a ≡ false → (a && b) ≡ false
and_left a b none = rw none refl

-- none of its causes holds
no_await : (f : Fields) (q : ℕ) (h : SharedState) → IsAlone f → (n m : ℕ)
    → (awaits f q h LoadWait ≡ false) × (awaits f q h StoreWait ≡ false) × (awaits f q h LoadStart ≡ false) × (awaits f q h StoreStart ≡ false)
    × (awaits f q h (TmuLoad 0) ≡ false) × (awaits f q h (TmuLoad 1) ≡ false) × (awaits f q h Mutex ≡ false)
    × (awaits f q h (Up n) ≡ false) × (awaits f q h (Down m) ≡ false)
unfolding awaits
no_await f q h a n m = (
  and_left _ _ a.wait_a,
  and_left _ _ a.wait_b,
  and_left _ _ a.start_a,
  and_left _ _ a.start_b,
  and_left _ _ a.take0,
  and_left _ _ a.take1,
  and_left _ _ a.mutex,
  and_left _ _ (and_left _ _ a.semaphore),
  and_left _ _ (and_left _ _ a.semaphore),
)

-- it has no cause to await
pub no_cause : (f : Fields) (q : ℕ) (h : SharedState) → IsAlone f → first_cause f q h ≡ None
unfolding first_cause
no_cause f q h a = let t = no_await f q h a f.number f.number in rw (t.0, t.1, t.2, t.3, t.4, t.5, t.6, t.7, t.8) refl

pub awaits_nothing : (word q : ℕ) (h : SharedState) → is_local (fields_of word) ≡ true → first_cause (fields_of word) q h ≡ None
awaits_nothing word q h local = no_cause (fields_of word) q h (alone (fields_of word) local)

-- it reads nothing
pub no_reads : (f : Fields) (p : ProcessorState) (h : SharedState) → IsAlone f → ins_of f p h ≡ no_ins
unfolding ins_of
no_reads f p h a = rw (a.uniform, a.vpm, a.busy_a, a.busy_b, a.take0, a.take1) refl

pub no_read_book : (f : Fields) (memory : List ℕ) (book : Book) → IsAlone f → after_reads f memory book ≡ Ok book
unfolding after_reads
no_read_book f memory book a = rw (a.uniform, a.vpm) refl

-- what it sends out

no_vector : (f : Fields) (add mul : List ℕ) → IsAlone f → ◌≡◌ {A = Option (List ℕ)} (sent_to f add mul WRITE_VPM) None
no_vector f add mul a = nothing_sent f add mul WRITE_VPM a.to_vpm

no_start_a : (f : Fields) (add mul : List ℕ) → IsAlone f → sent_to_a f add mul WRITE_DMA_ADDRESS ≡ None
unfolding sent_to_a
no_start_a f add mul a = rw a.start_a refl

no_start_b : (f : Fields) (add mul : List ℕ) → IsAlone f → sent_to_b f add mul WRITE_DMA_ADDRESS ≡ None
unfolding sent_to_b
no_start_b f add mul a = rw a.start_b refl

and_or : (a b c : Bool) → (a && b) ≡ false → (a && c) ≡ false → (a && (b || c)) ≡ false
and_or false b c first second = refl
and_or true b c first second = rw (first, second) refl

no_look : (f : Fields) → IsAlone f → look_address f ≡ NOWHERE
unfolding look_address
no_look f a =
    let m = and_or (mul_writes f) (f.waddr_mul == WRITE_TMU0_S) (f.waddr_mul == WRITE_TMU1_S)
    (or_right (add_writes f && (f.waddr_add == WRITE_TMU0_S)) _ a.look0) (or_right (add_writes f && (f.waddr_add == WRITE_TMU1_S)) _ a.look1) in
    let n = and_or (add_writes f) (f.waddr_add == WRITE_TMU0_S) (f.waddr_add == WRITE_TMU1_S)
    (or_left (add_writes f && (f.waddr_add == WRITE_TMU0_S)) _ a.look0) (or_left (add_writes f && (f.waddr_add == WRITE_TMU1_S)) _ a.look1) in
    rw (m, n) refl

-- nothing is written at the address that is none
at_nowhere : (b r : Bool) → ((not b && r) && b) ≡ false
at_nowhere true r = refl
at_nowhere false true = refl
at_nowhere false false = refl

pub nothing_nowhere : (f : Fields) (add mul : List ℕ) → sent_to f add mul NOWHERE ≡ None
unfolding sent_to
nothing_nowhere f add mul = rw (at_nowhere (f.waddr_mul == NOWHERE) _, at_nowhere (f.waddr_add == NOWHERE) _) refl

-- what goes to the setups and the uniforms address alone
pub record IsPlainOuts (outs : Outs) : Type 0 where
  pub vpm : outs.vpm ≡ None
  pub load_at : outs.load_at ≡ None
  pub store_at : outs.store_at ≡ None
  pub look : outs.look ≡ None

-- a local word sends to these alone
pub plain_outs : (f : Fields) (add mul : List ℕ) → IsAlone f → IsPlainOuts (outs_from f add mul)
unfolding outs_from
plain_outs f add mul a = record {
  vpm = ap as_lanes (no_vector f add mul a);
  load_at = ap first_lane (no_start_a f add mul a);
  store_at = ap first_lane (no_start_b f add mul a);
  look = ap as_lanes (ap (sent_to f add mul) (no_look f a) ∙ nothing_nowhere f add mul);
}

-- what starts where nothing is sent but to the setups
abbrev pub plain_starts : Outs → Book → Begun
plain_starts outs book = record { book = after_uniform_to outs.uniform_to book; load = None; store = None; look = None }

pub plain_writes : (outs : Outs) (memory : List ℕ) (book : Book) → IsPlainOuts outs
    → after_writes outs memory book ≡ then_after (after_setups outs book) (λ c. Ok (plain_starts outs c))
unfolding after_writes
plain_writes outs memory book is = rw (is.vpm, is.load_at, is.store_at, is.look) refl

same_pending : (f : Fields) (outs : Outs) (book : Book) (pending : Pending) → IsAlone f → pending_after f outs (plain_starts outs book) pending ≡ pending
unfolding pending_after
same_pending f outs book pending a = rw (a.take0, a.take1) refl

same_mutex : (f : Fields) (q : ℕ) (mutex : Option ℕ) → IsAlone f → mutex_after f q mutex ≡ mutex
unfolding mutex_after
same_mutex f q mutex a = rw (a.release, a.mutex) refl

same_semaphores : (f : Fields) (counts : List ℕ) → IsAlone f → semaphores_after f counts ≡ counts
unfolding semaphores_after
same_semaphores f counts a = rw a.semaphore refl

-- it leaves the shared parts as they were
pub same_shared : (f : Fields) (p : ProcessorState) (outs : Outs) (book : Book) (h : SharedState) → IsAlone f → IsPlainOuts outs
    → shared_after f p outs (plain_starts outs book) h ≡ h
unfolding shared_after pending_after
same_shared f p outs book h a is =
    rw (is.vpm, same_mutex f p.q h.mutex a, same_semaphores f h.semaphores a, same_pending f outs book (pending_of h p.q) a, set-get_or h.pending p.q _) refl

-- the same result, whether the shared parts stand beside it or not
beside : (r : Result Book FaultKind) (f : Fields) (p : ProcessorState) (outs : Outs) (h : SharedState) → IsAlone f → IsPlainOuts outs
    → outcome_of (then_after (then_after r (λ c. Ok (plain_starts outs c))) (λ starts. Ok (done f p no_ins starts.book, shared_after f p outs starts h)))
    ≡ local_outcome (then_after r (λ book. Ok (done f p no_ins (after_uniform_to outs.uniform_to book)))) h
beside (Ok c) f p outs h a is = ap (Done (done f p no_ins (after_uniform_to outs.uniform_to c))) (same_shared f p outs c h a is)
beside (Err kind) f p outs h a is = refl

-- a local word comes to what it makes of its processor
local_comes : (is_link : ℕ → Bool) (word : ℕ) (p : ProcessorState) (h : SharedState) (fails : Bool) → fails ≡ branch_fails is_link (fields_of word) p
    → IsAlone (fields_of word) → outcome_of (instruction_result is_link word p h) ≡ local_outcome (local_result is_link word p) h
unfolding instruction_result local_result
local_comes is_link word p h true fails a = rw (← fails) refl
local_comes is_link word p h false fails a =
    rw (
      ← fails,
      no_reads (fields_of word) p h a,
      no_read_book (fields_of word) h.memory p.book a,
      plain_writes (outs_of (fields_of word) p no_ins) h.memory p.book (plain_outs (fields_of word) (add_sent (fields_of word) p no_ins) (mul_sent (fields_of word) p no_ins) a),
    )
    (beside (after_setups (outs_of (fields_of word) p no_ins) p.book) (fields_of word) p (outs_of (fields_of word) p no_ins) h a
    (plain_outs (fields_of word) (add_sent (fields_of word) p no_ins) (mul_sent (fields_of word) p no_ins) a))

-- a local word under its first cause, which is none
pub outcome_local : (is_link : ℕ → Bool) (word : ℕ) (p : ProcessorState) (h : SharedState) → is_local (fields_of word) ≡ true
    → outcome_under (first_cause (fields_of word) p.q h) (instruction_result is_link word p h) ≡ local_outcome (local_result is_link word p) h
outcome_local is_link word p h local =
    rw (awaits_nothing word p.q h local) (local_comes is_link word p h _ refl (alone (fields_of word) local))

-- the whole instruction of a running processor at a local word
pub instruction_local : (words : List ℕ) (limit : ℕ) (p : ProcessorState) (h : SharedState)
    → is_running limit p ≡ true → is_local (fields_of (slice_index words p.place)) ≡ true
    → instruction words limit p h ≡ local_outcome (local_result (is_link_point words) (slice_index words p.place) p) h
unfolding instruction
instruction_local words limit p h runs local = rw runs (outcome_local (is_link_point words) (slice_index words p.place) p h local)
