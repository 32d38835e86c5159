-- One whole instruction with the shared parts: what it awaits, why it faults, what it does. The
-- order of causes, faults and effects is this project's own; the accesses are those of the
-- VideoCore IV 3D Architecture Reference Guide, "QPU Register Address Map".
use Rattle.std.specs.Prelude.{ℕ, ◌+◌, ◌/◌, ◌==◌, ◌&&◌, Bool, true, false, not, nat_lt, List, [], ◌∷◌, length, map, find, Option, Some, None, is_some, is_none, Result, Ok, Err, slice_index, slice_index_or, slice_set, drop, if◌then◌else◌}
use Rattle.std.specs.List.{list_all}
use Rattle.qpu_word.specs.declared.word.Fields.{Fields}
use Rattle.qpu_word.specs.declared.lanes.Lanes.{Lanes}
use Rattle.qpu_word.specs.declared.traffic.Ins.{Ins}
use Rattle.qpu_word.specs.declared.traffic.Outs.{Outs}
use Rattle.qpu_word.specs.declared.setup.Book.{Book}
use Rattle.qpu_word.specs.declared.setup.Vectors.{Vectors}
use Rattle.qpu_word.specs.declared.state.Halt.{Halt}
use Rattle.qpu_word.specs.declared.state.Halt.TheVariants.{Going, Ended, Faulted}
use Rattle.qpu_word.specs.declared.fault.FaultKind.{FaultKind}
use Rattle.qpu_word.specs.declared.fault.FaultKind.TheVariants.{Uniform, NoSetup, Transfer as TransferFault, LookUp as LookUpFault, Branch}
use Rattle.qpu_word.specs.declared.code.TheConstants.{SEMAPHORE_MOST, READ_UNIFORM, READ_VPM, READ_DMA_BUSY, READ_DMA_WAIT, READ_MUTEX, WRITE_DMA_ADDRESS, WRITE_MUTEX}
use Rattle.qpu_word.specs.Lanes.{lanes}
use Rattle.qpu_word.specs.Operations.{low32}
use Rattle.qpu_word.specs.Words.{fields_of, reads, reads_a, reads_b, writes, writes_a, writes_b, is_tmu_load, is_semaphore}
use Rattle.qpu_word.specs.Setups.{take_vector, put_vector}
use Rattle.qpu_word.specs.Processor.{ProcessorState}
use Rattle.qpu_word.specs.Instruction.{outs_of, after_setups, after_uniform_to, then_after, branch_fails, done, is_link_point}
use Rattle.qpu_sync.specs.Sync.{acquired, released, raised, lowered}
use Rattle.qpu_vpm.specs.Cells.{setup_of, vector_places}
use Rattle.qpu_vpm.specs.Values.{vpm_values, with_values}
use Rattle.qpu_dma.specs.declared.direction.Direction.{Direction}
use Rattle.qpu_dma.specs.declared.direction.Direction.TheVariants.{Load as LoadOf, Store as StoreOf}
use Rattle.qpu_dma.specs.Transfers.{TransferState, transfer_of, fits}
use Rattle.qpu_tmu.specs.declared.look_up.LookUp.{LookUp}
use Rattle.qpu_tmu.specs.Looks.{LookupsState, queue_of, oldest_words, with_look}
use Rattle.qpu_shared.specs.declared.cause.Cause.{Cause}
use Rattle.qpu_shared.specs.declared.cause.Cause.TheVariants.{LoadWait, StoreWait, LoadStart, StoreStart, TmuLoad, Mutex, Up, Down}
use Rattle.qpu_shared.specs.declared.pending.Pending.{Pending}
use Rattle.qpu_shared.specs.declared.starts.Begun.{Begun}
use Rattle.qpu_shared.specs.SharedState.{SharedState, nothing_pending}

-- what one step of a processor comes to
pub data Outcome : Type 0 where
  NoStep : Outcome
  Awaits : (cause : Cause) → Outcome
  Faults : (kind : FaultKind) → Outcome
  Done : (p : ProcessorState) (h : SharedState) → Outcome

-- pending parts

-- what a processor has pending
abbrev pub pending_of : SharedState → ℕ → Pending
pending_of h q = slice_index_or h.pending q nothing_pending

-- the look-ups of a TMU unit, the oldest first
abbrev pub looks_of : Pending → ℕ → List LookUp
looks_of pending unit = queue_of pending.looks unit

-- a count of a semaphore
abbrev pub count_of : SharedState → ℕ → ℕ
count_of h n = slice_index h.semaphores n

-- causes

-- a semaphore word that decrements
abbrev pub is_down : Fields → Bool
is_down f = f.down == 1

-- whether a cause to await holds
unfoldable pub awaits : Fields → ℕ → SharedState → Cause → Bool
awaits f q h LoadWait = reads_a f READ_DMA_WAIT && is_some (pending_of h q).load
awaits f q h StoreWait = reads_b f READ_DMA_WAIT && is_some (pending_of h q).store
awaits f q h LoadStart = writes_a f WRITE_DMA_ADDRESS && is_some (pending_of h q).load
awaits f q h StoreStart = writes_b f WRITE_DMA_ADDRESS && is_some (pending_of h q).store
awaits f q h (TmuLoad unit) = is_tmu_load f unit && is_none (oldest_words (looks_of (pending_of h q) unit))
awaits f q h Mutex = reads f READ_MUTEX && is_some h.mutex
awaits f q h (Up n) = is_semaphore f && not (is_down f) && (count_of h n == SEMAPHORE_MOST)
awaits f q h (Down n) = is_semaphore f && is_down f && (count_of h n == 0)

-- the causes of a word, in the order in which they are tried
abbrev pub causes_of : Fields → List Cause
causes_of f =
    LoadWait ∷ StoreWait ∷ LoadStart ∷ StoreStart ∷ TmuLoad 0 ∷ TmuLoad 1 ∷ Mutex ∷ Up f.number ∷ Down f.number ∷ []

-- the first cause to await that holds, or none
unfoldable pub first_cause : Fields → ℕ → SharedState → Option Cause
first_cause f q h = find (awaits f q h) (causes_of f)

-- reads

-- a value where it is needed, else 0
abbrev pub if_needed : Bool → ℕ → ℕ
if_needed needed n = if needed then n else 0

-- the vector of the next access of a setup; none reads zeros
abbrev pub next_vector : Option Vectors → List ℕ → List ℕ
next_vector None vpm = lanes (λ i. 0)
next_vector (Some v) vpm = vpm_values vpm (setup_of v.setup).size (vector_places (setup_of v.setup) v.done)

-- words where they are there, else zeros
abbrev pub or_zeros : Option (List ℕ) → List ℕ
or_zeros None = lanes (λ i. 0)
or_zeros (Some values) = values

-- the words that a TMU load takes
abbrev pub taken_words : Fields → Pending → Option (List ℕ)
taken_words f pending =
    if is_tmu_load f 0 then oldest_words (looks_of pending 0)
    else if is_tmu_load f 1 then oldest_words (looks_of pending 1)
    else None

-- what an instruction reads from the shared parts
unfoldable pub ins_of : Fields → ProcessorState → SharedState → Ins
ins_of f p h = record {
  uniform = if_needed (reads f READ_UNIFORM) (slice_index h.memory (p.book.uniform_at / 4));
  vpm = record { v = (if reads f READ_VPM then next_vector p.book.first h.vpm else lanes (λ i. 0)) };
  load_busy = reads_a f READ_DMA_BUSY && is_some (pending_of h p.q).load;
  store_busy = reads_b f READ_DMA_BUSY && is_some (pending_of h p.q).store;
  loaded = record { v = or_zeros (taken_words f (pending_of h p.q)) };
}

-- the book after a uniform read, which moves the uniforms address once
abbrev pub after_uniform_read : Fields → List ℕ → Book → Result Book FaultKind
after_uniform_read f memory book =
    if not (reads f READ_UNIFORM) then Ok book
    else if nat_lt (book.uniform_at / 4) (length memory) then Ok (record book { uniform_at = low32 (book.uniform_at + 4) })
    else Err Uniform

-- the book after a VPM read
abbrev pub after_vpm_read : Fields → Book → Result Book FaultKind
after_vpm_read f book = if reads f READ_VPM then take_vector book else Ok book

-- the book after both reads
unfoldable pub after_reads : Fields → List ℕ → Book → Result Book FaultKind
after_reads f memory book = then_after (after_uniform_read f memory book) (after_vpm_read f)

-- writes

-- the book after a VPM write, where there is one
abbrev pub after_vpm_write : Option Lanes → Book → Result Book FaultKind
after_vpm_write None book = Ok book
after_vpm_write (Some values) book = put_vector book

-- the setup of a direction's transfers, and their pitch or stride
abbrev pub setup_in : Direction → Book → Option ℕ
setup_in LoadOf book = book.load
setup_in StoreOf book = book.store

abbrev pub step_in : Direction → Book → ℕ
step_in LoadOf book = book.load_pitch
step_in StoreOf book = book.store_stride

-- a transfer that may start, or why not
abbrev pub if_fits : TransferState → List ℕ → Result (Option TransferState) FaultKind
if_fits t memory = if fits t (length memory) then Ok (Some t) else Err TransferFault

-- the transfer that starts with a setup at a byte address, or why not
abbrev pub started_with : Direction → Option ℕ → ℕ → ℕ → List ℕ → Result (Option TransferState) FaultKind
started_with direction None step address memory = Err NoSetup
started_with direction (Some setup) step address memory = if_fits (transfer_of direction setup step address) memory

-- the transfer of a direction that starts, where there is one
abbrev pub transfer_started : Direction → Option ℕ → Book → List ℕ → Result (Option TransferState) FaultKind
transfer_started direction None book memory = Ok None
transfer_started direction (Some address) book memory = started_with direction (setup_in direction book) (step_in direction book) address memory

-- the indexes of the words at byte addresses, whose low two bits are without effect
abbrev pub word_indexes : Lanes → Lanes
word_indexes addresses = record { v = map (λ a. a / 4) addresses.v }

-- the look-up that is issued, where there is one: each of its words is inside memory
abbrev pub look_issued : Option Lanes → List ℕ → Result (Option Lanes) FaultKind
look_issued None memory = Ok None
look_issued (Some addresses) memory =
    if list_all (λ a. nat_lt (a / 4) (length memory)) addresses.v then Ok (Some (word_indexes addresses)) else Err LookUpFault

-- the writes with an effect outside the registers, in the order in which their faults are tried
unfoldable pub after_writes : Outs → List ℕ → Book → Result Begun FaultKind
after_writes outs memory book =
    then_after (after_vpm_write outs.vpm book) (λ b.
    then_after (after_setups outs b) (λ c.
    then_after (transfer_started LoadOf outs.load_at c memory) (λ load.
    then_after (transfer_started StoreOf outs.store_at c memory) (λ store.
    then_after (look_issued outs.look memory) (λ look.
    Ok (record { book = after_uniform_to outs.uniform_to c; load = load; store = store; look = look }))))))

-- effects

-- the VPM after a vector written by the write setup in use
abbrev pub vpm_after : Option Lanes → Option Vectors → List ℕ → List ℕ
vpm_after None writes vpm = vpm
vpm_after (Some values) None vpm = vpm
vpm_after (Some values) (Some w) vpm = with_values vpm (setup_of w.setup).size (vector_places (setup_of w.setup) w.done) values.v

-- the holder of the mutex after a read that acquires it, where there is one
abbrev pub after_acquire : Fields → ℕ → Option ℕ → Option ℕ
after_acquire f q mutex = if reads f READ_MUTEX then acquired mutex q else mutex

-- the holder of the mutex after a write that releases it, where there is one
abbrev pub after_release : Fields → ℕ → Option ℕ → Option ℕ
after_release f q mutex = if writes f WRITE_MUTEX then released mutex q else mutex

-- the holder of the mutex after an acquire and then a release
unfoldable pub mutex_after : Fields → ℕ → Option ℕ → Option ℕ
mutex_after f q mutex = after_release f q (after_acquire f q mutex)

-- the counts after a semaphore word
unfoldable pub semaphores_after : Fields → List ℕ → List ℕ
semaphores_after f counts =
    if not (is_semaphore f) then counts
    else if is_down f then lowered counts f.number
    else raised counts f.number

-- the transfer that starts, or the one that was pending
abbrev pub or_pending : Option TransferState → Option TransferState → Option TransferState
or_pending None pending = pending
or_pending (Some t) pending = Some t

-- the look-ups of a unit after its oldest was taken
abbrev pub after_take : Fields → ℕ → List LookUp → List LookUp
after_take f unit looks = if is_tmu_load f unit then drop 1 looks else looks

-- the look-ups of a unit after a new one, where there is one for this unit
abbrev pub after_issue : Option Lanes → ℕ → ℕ → List LookUp → List LookUp
after_issue None look_unit unit looks = looks
after_issue (Some at) look_unit unit looks = if look_unit == unit then with_look at.v looks else looks

-- the look-ups of both units after an instruction: a take, and then a new one
abbrev pub lookups_after : Fields → Outs → Option Lanes → LookupsState → LookupsState
lookups_after f outs look lookups = record {
  looks0 = after_issue look outs.look_unit 0 (after_take f 0 lookups.looks0);
  looks1 = after_issue look outs.look_unit 1 (after_take f 1 lookups.looks1);
}

-- what a processor has pending after an instruction
unfoldable pub pending_after : Fields → Outs → Begun → Pending → Pending
pending_after f outs starts pending = record {
  load = or_pending starts.load pending.load;
  store = or_pending starts.store pending.store;
  looks = lookups_after f outs starts.look pending.looks;
}

-- the shared parts after an instruction
unfoldable pub shared_after : Fields → ProcessorState → Outs → Begun → SharedState → SharedState
shared_after f p outs starts h = record {
  memory = h.memory;
  vpm = vpm_after outs.vpm p.book.writes h.vpm;
  mutex = mutex_after f p.q h.mutex;
  semaphores = semaphores_after f h.semaphores;
  pending = slice_set h.pending p.q (pending_after f outs starts (pending_of h p.q));
}

-- the whole

-- what an instruction that doesn't await makes of its processor and the shared parts, or why it faults
unfoldable pub instruction_result : (ℕ → Bool) → ℕ → ProcessorState → SharedState → Result (ProcessorState × SharedState) FaultKind
instruction_result is_link word p h =
    let f = fields_of word in
    let ins = ins_of f p h in
    let outs = outs_of f p ins in
    if branch_fails is_link f p then Err Branch
    else
    then_after (after_reads f h.memory p.book) (λ book.
    then_after (after_writes outs h.memory book) (λ starts.
    Ok (done f p ins starts.book, shared_after f p outs starts h)))

-- what an instruction that doesn't await comes to
abbrev pub outcome_of : Result (ProcessorState × SharedState) FaultKind → Outcome
outcome_of (Ok after) = Done after.0 after.1
outcome_of (Err kind) = Faults kind

-- what an instruction comes to, with its first cause to await
abbrev pub outcome_under : Option Cause → Result (ProcessorState × SharedState) FaultKind → Outcome
outcome_under (Some cause) result = Awaits cause
outcome_under None result = outcome_of result

-- a processor that still goes on
abbrev pub is_going : Halt → Bool
is_going Going = true
is_going Ended = false
is_going (Faulted kind place) = false

-- a processor that is running: it goes on and has executed less than the limit
abbrev pub is_running : ℕ → ProcessorState → Bool
is_running limit p = is_going p.halt && nat_lt p.executed limit

-- one whole instruction of a processor of a program, under a limit of instructions
unfoldable pub instruction : List ℕ → ℕ → ProcessorState → SharedState → Outcome
instruction words limit p h =
    let word = slice_index words p.place in
    if is_running limit p then
    outcome_under (first_cause (fields_of word) p.q h) (instruction_result (is_link_point words) word p h)
    else NoStep
