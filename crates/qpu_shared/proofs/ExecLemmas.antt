-- What a shared instruction comes to, put together from its parts.
use Rattle.std.proofs.Common.{◌≡◌, ◌≢◌, ◌<◌, ℕ, Bool, true, false, List, length, Option, Some, None, Result, Ok, Err, IsSome, refl, sym, subst, ap, ◌∙◌, arith, if◌then◌else◌}
use Rattle.std.specs.Prelude.{◌==◌}
use Rattle.qpu_word.specs.declared.word.Fields.{Fields}
use Rattle.qpu_word.specs.declared.setup.Book.{Book}
use Rattle.qpu_word.specs.declared.traffic.Ins.{Ins}
use Rattle.qpu_word.specs.declared.traffic.Outs.{Outs}
use Rattle.qpu_word.specs.declared.fault.FaultKind.{FaultKind}
use Rattle.qpu_word.specs.declared.code.TheConstants.{NOWHERE, WRITE_TMU1_S, LOOK_UPS}
use Rattle.qpu_word.specs.Words.{fields_of, is_branch}
use Rattle.qpu_word.specs.Processor.{ProcessorState}
use Rattle.qpu_word.specs.Instruction.{add_sent, mul_sent, outs_from, outs_of, look_address, sent_to, as_lanes, then_after, branch_fails, done}
use Rattle.qpu_word.proofs.ProfileLemmas.{every_row}
use Rattle.qpu_shared.specs.declared.cause.Cause.TheVariants.{LoadWait}
use Rattle.qpu_shared.specs.declared.pending.Pending.{Pending}
use Rattle.qpu_shared.specs.declared.starts.Begun.{Begun}
use Rattle.qpu_shared.specs.SharedState.{SharedState}
use Rattle.qpu_shared.specs.Instruction.{Done, Faults, outcome_under, awaits, causes_of, first_cause, ins_of, after_reads, after_writes, shared_after, instruction_result, looks_of}
use Rattle.qpu_shared.specs.Free.{IsFree}
use Rattle.qpu_shared.specs.Exec.{HasRoom}
use Rattle.qpu_shared.proofs.LocalLemmas.{nothing_nowhere}

-- where no cause holds, nothing is awaited
pub free_of_none : (f : Fields) (q : ℕ) (h : SharedState) → first_cause f q h ≡ None → IsFree f q h
unfolding first_cause awaits
free_of_none f q h none = record {
  take0 = every_row (awaits f q h) (causes_of f) none 4 LoadWait (omega arith);
  take1 = every_row (awaits f q h) (causes_of f) none 5 LoadWait (omega arith);
  mutex = every_row (awaits f q h) (causes_of f) none 6 LoadWait (omega arith);
  up = every_row (awaits f q h) (causes_of f) none 7 LoadWait (omega arith);
  down = every_row (awaits f q h) (causes_of f) none 8 LoadWait (omega arith);
}

zero_or_one : (b : Bool) → (if b then 1 else 0) < 2
zero_or_one true = omega arith
zero_or_one false = omega arith

-- a look-up goes to unit 0 or 1
pub unit_below : (f : Fields) (add mul : List ℕ) → (outs_from f add mul).look_unit < 2
unfolding outs_from
unit_below f add mul = zero_or_one (look_address f == WRITE_TMU1_S)

some_of_none : (o : Option (List ℕ)) → o ≡ None → IsSome (as_lanes o) → ⊥
some_of_none None is some = absurd (cc)
some_of_none (Some values) is some = absurd (cc)

-- a word that sends a look-up has an address for it
look_somewhere : (f : Fields) (add mul : List ℕ) → IsSome (outs_from f add mul).look → look_address f ≢ NOWHERE
unfolding outs_from
look_somewhere f add mul some is =
    some_of_none (sent_to f add mul (look_address f)) (ap (sent_to f add mul) is ∙ nothing_nowhere f add mul) some

-- and the unit to which it goes has room
pub room_found : (f : Fields) (add mul : List ℕ) (pending : Pending) → HasRoom f pending → IsSome (outs_from f add mul).look
    → length (looks_of pending (outs_from f add mul).look_unit) < LOOK_UPS
unfolding outs_from
room_found f add mul pending room some = room (look_somewhere f add mul some)

-- a word that is no branch doesn't fail as one
no_branch : (is_link : ℕ → Bool) (f : Fields) (p : ProcessorState) → is_branch f ≡ false → branch_fails is_link f p ≡ false
unfolding branch_fails
no_branch is_link f p straight = rw straight refl

-- what an instruction starts and the book that it leaves, or its first fault
abbrev pub due_of : Fields → Outs → List ℕ → Book → Result Begun FaultKind
due_of f outs memory book = then_after (after_reads f memory book) (λ b. after_writes outs memory b)

-- the same for equal fields, sendings and books
due_same : (f g : Fields) (outs outs' : Outs) (book book' : Book) (memory : List ℕ) (r : Result Begun FaultKind) → f ≡ g → outs ≡ outs' → book ≡ book'
    → r ≡ due_of f outs memory book → r ≡ due_of g outs' memory book'
due_same f g outs outs' book book' memory r f_is outs_is book_is due =
    due ∙ ap (λ (x : Fields). due_of x outs memory book) f_is ∙ ap (λ (o : Outs). due_of g o memory book) outs_is ∙ ap (λ (b : Book). due_of g outs' memory b) book_is

-- one step after another, and then a third
then_then : {A B C : Type 0} (r : Result A FaultKind) (g : A → Result B FaultKind) (k : B → Result C FaultKind)
    → then_after r (λ a. then_after (g a) k) ≡ then_after (then_after r g) k
then_then (Ok a) g k = refl
then_then (Err kind) g k = refl

-- an instruction that is no branch
result_due : (is_link : ℕ → Bool) (word : ℕ) (p : ProcessorState) (h : SharedState) → is_branch (fields_of word) ≡ false
    → instruction_result is_link word p h
    ≡ then_after (due_of (fields_of word) (outs_of (fields_of word) p (ins_of (fields_of word) p h)) h.memory p.book)
    (λ starts. Ok (done (fields_of word) p (ins_of (fields_of word) p h) starts.book, shared_after (fields_of word) p (outs_of (fields_of word) p (ins_of (fields_of word) p h)) starts h))
unfolding instruction_result
result_due is_link word p h straight =
    rw (no_branch is_link (fields_of word) p straight)
    (then_then (after_reads (fields_of word) h.memory p.book) (λ b. after_writes (outs_of (fields_of word) p (ins_of (fields_of word) p h)) h.memory b)
    (λ starts. Ok (done (fields_of word) p (ins_of (fields_of word) p h) starts.book, shared_after (fields_of word) p (outs_of (fields_of word) p (ins_of (fields_of word) p h)) starts h)))

-- where nothing faults
pub result_done : (is_link : ℕ → Bool) (word : ℕ) (p : ProcessorState) (h : SharedState) (starts : Begun) → is_branch (fields_of word) ≡ false
    → due_of (fields_of word) (outs_of (fields_of word) p (ins_of (fields_of word) p h)) h.memory p.book ≡ Ok starts
    → instruction_result is_link word p h
    ≡ Ok (done (fields_of word) p (ins_of (fields_of word) p h) starts.book, shared_after (fields_of word) p (outs_of (fields_of word) p (ins_of (fields_of word) p h)) starts h)
result_done is_link word p h starts straight due = rw (result_due is_link word p h straight, due) refl

-- where something faults
pub result_fault : (is_link : ℕ → Bool) (word : ℕ) (p : ProcessorState) (h : SharedState) (kind : FaultKind) → is_branch (fields_of word) ≡ false
    → due_of (fields_of word) (outs_of (fields_of word) p (ins_of (fields_of word) p h)) h.memory p.book ≡ Err kind
    → instruction_result is_link word p h ≡ Err kind
result_fault is_link word p h kind straight due = rw (result_due is_link word p h straight, due) refl

-- what goes out of what a word sends
pub outs_sent : (f : Fields) (p : ProcessorState) (ins : Ins) (add mul : List ℕ) (outs : Outs) → outs ≡ outs_from f add mul → add ≡ add_sent f p ins → mul ≡ mul_sent f p ins
    → outs ≡ outs_of f p ins
outs_sent f p ins add mul outs is add_is mul_is =
    is ∙ ap (λ (xs : List ℕ). outs_from f xs mul) add_is ∙ ap (outs_from f (add_sent f p ins)) mul_is

-- the whole instruction, from what the calls of its parts gave
pub exec_done : (is_link : ℕ → Bool) (word q : ℕ) (p : ProcessorState) (h : SharedState) (f : Fields) (before : Book) (ins : Ins) (outs : Outs)
    (starts : Begun) (after : ProcessorState) (left : SharedState)
    → f ≡ fields_of word → is_branch f ≡ false → first_cause f q h ≡ None
    → before ≡ p.book → ins ≡ ins_of f p h → outs ≡ outs_of f p ins → Ok starts ≡ due_of f outs h.memory before
    → after ≡ done f p ins starts.book → left ≡ shared_after f p outs starts h
    → outcome_under (first_cause (fields_of word) q h) (instruction_result is_link word p h) ≡ Done after left
exec_done is_link word q p h f before ins outs starts after left f_is straight none before_is ins_is outs_is due_is after_is left_is =
    let straight_at : is_branch (fields_of word) ≡ false = subst (λ (g : Fields). is_branch g ≡ false) f_is straight in
    let none_at : first_cause (fields_of word) q h ≡ None = subst (λ (g : Fields). first_cause g q h ≡ None) f_is none in
    let ins_at : ins ≡ ins_of (fields_of word) p h = ins_is ∙ ap (λ (g : Fields). ins_of g p h) f_is in
    let outs_at : outs ≡ outs_of (fields_of word) p (ins_of (fields_of word) p h) = outs_is ∙ ap (λ (g : Fields). outs_of g p ins) f_is ∙ ap (λ (i : Ins). outs_of (fields_of word) p i) ins_at in
    let due_at : due_of (fields_of word) (outs_of (fields_of word) p (ins_of (fields_of word) p h)) h.memory p.book ≡ Ok starts =
    sym (due_same f (fields_of word) outs (outs_of (fields_of word) p (ins_of (fields_of word) p h)) before p.book h.memory (Ok starts) f_is outs_at before_is due_is) in
    let after_at : after ≡ done (fields_of word) p (ins_of (fields_of word) p h) starts.book =
    after_is ∙ ap (λ (g : Fields). done g p ins starts.book) f_is ∙ ap (λ (i : Ins). done (fields_of word) p i starts.book) ins_at in
    let left_at : left ≡ shared_after (fields_of word) p (outs_of (fields_of word) p (ins_of (fields_of word) p h)) starts h =
    left_is ∙ ap (λ (g : Fields). shared_after g p outs starts h) f_is ∙ ap (λ (o : Outs). shared_after (fields_of word) p o starts h) outs_at in
    rw (none_at, result_done is_link word p h starts straight_at due_at, after_at, left_at) refl

-- its fault
pub exec_fault : (is_link : ℕ → Bool) (word q : ℕ) (p : ProcessorState) (h : SharedState) (f : Fields) (before : Book) (ins : Ins) (outs : Outs) (kind : FaultKind)
    → f ≡ fields_of word → is_branch f ≡ false → first_cause f q h ≡ None
    → before ≡ p.book → ins ≡ ins_of f p h → outs ≡ outs_of f p ins → Err kind ≡ due_of f outs h.memory before
    → outcome_under (first_cause (fields_of word) q h) (instruction_result is_link word p h) ≡ Faults kind
exec_fault is_link word q p h f before ins outs kind f_is straight none before_is ins_is outs_is due_is =
    let straight_at : is_branch (fields_of word) ≡ false = subst (λ (g : Fields). is_branch g ≡ false) f_is straight in
    let none_at : first_cause (fields_of word) q h ≡ None = subst (λ (g : Fields). first_cause g q h ≡ None) f_is none in
    let ins_at : ins ≡ ins_of (fields_of word) p h = ins_is ∙ ap (λ (g : Fields). ins_of g p h) f_is in
    let outs_at : outs ≡ outs_of (fields_of word) p (ins_of (fields_of word) p h) = outs_is ∙ ap (λ (g : Fields). outs_of g p ins) f_is ∙ ap (λ (i : Ins). outs_of (fields_of word) p i) ins_at in
    let due_at : due_of (fields_of word) (outs_of (fields_of word) p (ins_of (fields_of word) p h)) h.memory p.book ≡ Err kind =
    sym (due_same f (fields_of word) outs (outs_of (fields_of word) p (ins_of (fields_of word) p h)) before p.book h.memory (Err kind) f_is outs_at before_is due_is) in
    rw (none_at, result_fault is_link word p h kind straight_at due_at) refl
