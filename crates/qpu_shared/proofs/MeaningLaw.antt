-- A word and its canonical word have one instruction.
use Rattle.std.proofs.Common.{◌≡◌, ℕ, ◌-◌, Bool, true, false, List, [], ◌∷◌, map, get_or, Option, Some, Err, refl, sym, ap, ◌∙◌}
use Rattle.std.specs.Prelude.{◌==◌, ◌&&◌, not, find, slice_index}
use Rattle.std.proofs.Math.ListN.{get_or-map}
use Rattle.std.proofs.lemmas.List.{length-map}
use Rattle.qpu_word.specs.declared.word.Fields.{Fields}
use Rattle.qpu_word.specs.declared.traffic.Outs.{Outs}
use Rattle.qpu_word.specs.declared.setup.Book.{Book}
use Rattle.qpu_word.specs.declared.fault.FaultKind.TheVariants.{Branch}
use Rattle.qpu_word.specs.Processor.{ProcessorState}
use Rattle.qpu_word.specs.Words.{fields_of, has_fault, word_fault, reads, is_semaphore}
use Rattle.qpu_word.specs.Form.{word_form}
use Rattle.qpu_word.specs.CanonicalWord.{canonical_word}
use Rattle.qpu_word.specs.Instruction.{outs_of, branch_fails, after_slots, is_link_point}
use Rattle.qpu_word.proofs.Alike.{is_quiet, Alike}
use Rattle.qpu_word.proofs.SameMeaning.{writes_same, writes_a_same, writes_b_same, fails_same, outs_same, done_same}
use Rattle.qpu_word.proofs.MeaningLaw.{alike, links_same, after_same, unless_same}
use Rattle.qpu_shared.specs.declared.cause.Cause.TheVariants.{LoadWait, StoreWait, LoadStart, StoreStart, TmuLoad, Mutex, Up, Down}
use Rattle.qpu_shared.specs.declared.pending.Pending.{Pending}
use Rattle.qpu_shared.specs.declared.starts.Begun.{Begun}
use Rattle.qpu_shared.specs.SharedState.{SharedState}
use Rattle.qpu_shared.specs.Instruction.{awaits, first_cause, ins_of, taken_words, after_uniform_read, after_vpm_read, after_reads, after_writes, mutex_after, semaphores_after, pending_after, pending_of, shared_after, instruction_result, instruction, is_down, count_of}

-- reads

reads_same : (f g : Fields) → Alike f g → (n : ℕ) → is_quiet n ≡ false → reads g n ≡ reads f n
reads_same f g s n quiet = rw (s.stands_a n quiet, s.stands_b n quiet) refl

-- causes

-- the first of two lists of tests that agree, entry by entry
found_by : {A : Type 0} (p q : A → Bool) (x y : A) (xs ys : List A) (is : Bool) → q y ≡ is → p x ≡ q y → (is ≡ true → x ≡ y) → find p xs ≡ find q ys → find p (x ∷ xs) ≡ find q (y ∷ ys)
found_by p q x y xs ys true holds equal same rest = rw (equal, holds) (ap (λ a. Some a) (same refl))
found_by p q x y xs ys false holds equal same rest = rw (equal, holds) rest

up_same : (f g : Fields) → Alike f g → (q : ℕ) (h : SharedState) (semaphore : Bool) → is_semaphore f ≡ semaphore
    → (awaits g q h (Up g.number) ≡ awaits f q h (Up f.number)) × (awaits f q h (Up f.number) ≡ true → Up g.number ≡ Up f.number)
unfolding awaits
up_same f g s q h true is = (rw (s.semaphore, s.down is, s.number is) refl, λ holds. ap (λ n. Up n) (s.number is))
up_same f g s q h false is = (rw (s.semaphore, is) refl, λ holds. absurd (let none : (is_semaphore f && not (is_down f) && (count_of h f.number == 15)) ≡ false = rw is refl in cc))

down_same : (f g : Fields) → Alike f g → (q : ℕ) (h : SharedState) (semaphore : Bool) → is_semaphore f ≡ semaphore
    → (awaits g q h (Down g.number) ≡ awaits f q h (Down f.number)) × (awaits f q h (Down f.number) ≡ true → Down g.number ≡ Down f.number)
unfolding awaits
down_same f g s q h true is = (rw (s.semaphore, s.down is, s.number is) refl, λ holds. ap (λ n. Down n) (s.number is))
down_same f g s q h false is = (rw (s.semaphore, is) refl, λ holds. absurd (let none : (is_semaphore f && is_down f && (count_of h f.number == 0)) ≡ false = rw is refl in cc))

semaphores_found : (f g : Fields) → Alike f g → (q : ℕ) (h : SharedState) → find (awaits g q h) (Up g.number ∷ Down g.number ∷ []) ≡ find (awaits f q h) (Up f.number ∷ Down f.number ∷ [])
semaphores_found f g s q h =
    let up = up_same f g s q h (is_semaphore f) refl in
    let down = down_same f g s q h (is_semaphore f) refl in
    found_by (awaits g q h) (awaits f q h) (Up g.number) (Up f.number) (Down g.number ∷ []) (Down f.number ∷ []) (awaits f q h (Up f.number)) refl up.0 up.1
    (found_by (awaits g q h) (awaits f q h) (Down g.number) (Down f.number) [] [] (awaits f q h (Down f.number)) refl down.0 down.1 refl)

-- each other cause
record SameCauses (f g : Fields) (q : ℕ) (h : SharedState) : Type 0 where
  load_wait : awaits g q h LoadWait ≡ awaits f q h LoadWait
  store_wait : awaits g q h StoreWait ≡ awaits f q h StoreWait
  load_start : awaits g q h LoadStart ≡ awaits f q h LoadStart
  store_start : awaits g q h StoreStart ≡ awaits f q h StoreStart
  take0 : awaits g q h (TmuLoad 0) ≡ awaits f q h (TmuLoad 0)
  take1 : awaits g q h (TmuLoad 1) ≡ awaits f q h (TmuLoad 1)
  mutex : awaits g q h Mutex ≡ awaits f q h Mutex

same_causes : (f g : Fields) → Alike f g → (q : ℕ) (h : SharedState) → SameCauses f g q h
unfolding awaits
same_causes f g s q h = record {
  load_wait = rw (s.stands_a 50 refl) refl;
  store_wait = rw (s.stands_b 50 refl) refl;
  load_start = rw (writes_a_same f g s 50 refl) refl;
  store_start = rw (writes_b_same f g s 50 refl) refl;
  take0 = rw s.take0 refl;
  take1 = rw s.take1 refl;
  mutex = rw (reads_same f g s 51 refl) refl;
}

cause_same : (f g : Fields) → Alike f g → (q : ℕ) (h : SharedState) → first_cause g q h ≡ first_cause f q h
unfolding first_cause
cause_same f g s q h =
    let c : SameCauses f g q h = same_causes f g s q h in
    rw (c.load_wait, c.store_wait, c.load_start, c.store_start, c.take0, c.take1, c.mutex, semaphores_found f g s q h) refl

-- what is read
taken_same : (f g : Fields) → Alike f g → (pending : Pending) → taken_words g pending ≡ taken_words f pending
taken_same f g s pending = rw (s.take0, s.take1) refl

ins_same : (f g : Fields) → Alike f g → (p : ProcessorState) (h : SharedState) → ins_of g p h ≡ ins_of f p h
unfolding ins_of
ins_same f g s p h = rw (reads_same f g s 32 refl, reads_same f g s 48 refl, s.stands_a 49 refl, s.stands_b 49 refl, s.take0, s.take1) refl

vpm_same : (f g : Fields) → Alike f g → (book : Book) → after_vpm_read g book ≡ after_vpm_read f book
vpm_same f g s book = rw (reads_same f g s 48 refl) refl

after_reads_same : (f g : Fields) → Alike f g → (memory : List ℕ) (book : Book) → after_reads g memory book ≡ after_reads f memory book
unfolding after_reads
after_reads_same f g s memory book =
    rw (reads_same f g s 32 refl) (after_same (after_uniform_read f memory book) (after_vpm_read g) (after_vpm_read f) (vpm_same f g s))

-- what is done
mutex_same : (f g : Fields) → Alike f g → (q : ℕ) (mutex : Option ℕ) → mutex_after g q mutex ≡ mutex_after f q mutex
unfolding mutex_after
mutex_same f g s q mutex = rw (reads_same f g s 51 refl, writes_same f g s 51) refl

counts_by : (f g : Fields) → Alike f g → (counts : List ℕ) (semaphore : Bool) → is_semaphore f ≡ semaphore → semaphores_after g counts ≡ semaphores_after f counts
unfolding semaphores_after
counts_by f g s counts true is = rw (s.semaphore, is, s.down is, s.number is) refl
counts_by f g s counts false is = rw (s.semaphore, is) refl

pending_same : (f g : Fields) → Alike f g → (outs : Outs) (starts : Begun) (pending : Pending) → pending_after g outs starts pending ≡ pending_after f outs starts pending
unfolding pending_after
pending_same f g s outs starts pending = rw (s.take0, s.take1) refl

shared_same : (f g : Fields) → Alike f g → (p : ProcessorState) (outs : Outs) (starts : Begun) (h : SharedState) → shared_after g p outs starts h ≡ shared_after f p outs starts h
unfolding shared_after
shared_same f g s p outs starts h =
    rw (mutex_same f g s p.q h.mutex, counts_by f g s h.semaphores (is_semaphore f) refl, pending_same f g s outs starts (pending_of h p.q)) refl

pub result_same : (is_link : ℕ → Bool) (w : ℕ) (p : ProcessorState) (h : SharedState) → instruction_result is_link (canonical_word w) p h ≡ instruction_result is_link w p h
unfolding instruction_result
result_same is_link w p h =
    let f : Fields = fields_of w in
    let g : Fields = fields_of (canonical_word w) in
    let s : Alike f g = alike w in
    rw (fails_same f g s is_link p, ins_same f g s p h, outs_same f g s p (ins_of f p h), after_reads_same f g s h.memory p.book)
    (unless_same (branch_fails is_link f p) (Err Branch) _ _
    (after_same (after_reads f h.memory p.book) _ _
    (λ book. after_same (after_writes (outs_of f p (ins_of f p h)) h.memory book) _ _
    (λ starts. rw (done_same f g s p (ins_of f p h) starts.book, shared_same f g s p (outs_of f p (ins_of f p h)) starts h) refl))))

pub causes_same : (w q : ℕ) (h : SharedState) → first_cause (fields_of (canonical_word w)) q h ≡ first_cause (fields_of w) q h
causes_same w q h = cause_same (fields_of w) (fields_of (canonical_word w)) (alike w) q h

-- programs

nothing_back : canonical_word 0 ≡ 0
unfolding canonical_word word_form word_fault has_fault
nothing_back = refl

word_same : (words : List ℕ) (i : ℕ) → slice_index (map canonical_word words) i ≡ canonical_word (slice_index words i)
word_same words i = ap (λ d. get_or (map canonical_word words) i d) (sym nothing_back) ∙ get_or-map canonical_word words i 0

link_point_same : (words : List ℕ) (at : ℕ) → is_link_point (map canonical_word words) at ≡ is_link_point words at
unfolding is_link_point
link_point_same words at = rw (length-map words canonical_word, word_same words (at - after_slots 0), links_same (slice_index words (at - after_slots 0))) refl

pub instruction_same : (words : List ℕ) (limit : ℕ) (p : ProcessorState) (h : SharedState) → instruction (map canonical_word words) limit p h ≡ instruction words limit p h
unfolding instruction
instruction_same words limit p h =
    let w : ℕ = slice_index words p.place in
    let links : is_link_point (map canonical_word words) ≡ is_link_point words = λ t at. link_point_same words at t in
    rw (word_same words p.place, links, causes_same w p.q h, result_same (is_link_point words) w p h) refl
