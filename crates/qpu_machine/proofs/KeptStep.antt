-- An instruction of a processor of a clean program keeps that it stands on a path.
use Rattle.std.proofs.Common.{sym, ◌≡◌, ◌<◌, ◌≤◌, ◌+◌, ◌-◌, ℕ, Bool, true, false, List, ◌∷◌, length, Option, Some, None, Result, Ok, Err, refl, subst, ap, ◌∙◌, arith}
use Rattle.std.specs.Prelude.{slice_index, ◌||◌}
use Rattle.qpu_hazard.specs.Demands.{sets_flags}
use Rattle.std.proofs.lemmas.List.{get_or-set_same}
use Rattle.qpu_word.specs.declared.word.Fields.{Fields}
use Rattle.qpu_word.specs.declared.setup.Book.{Book}
use Rattle.qpu_word.specs.declared.traffic.Ins.{Ins}
use Rattle.qpu_word.specs.declared.traffic.Outs.{Outs}
use Rattle.qpu_word.specs.declared.fault.FaultKind.{FaultKind}
use Rattle.qpu_word.specs.declared.fault.FaultKind.TheVariants.{Branch}
use Rattle.qpu_word.specs.declared.state.Halt.TheVariants.{Going}
use Rattle.qpu_word.specs.Words.{fields_of}
use Rattle.qpu_word.specs.Processor.{ProcessorState}
use Rattle.qpu_word.specs.Instruction.{is_link_point, branch_fails, place_after, rest_after, moved_on, done, halted, then_after, outs_of, add_sent, mul_sent}
use Rattle.qpu_tmu.specs.Looks.{LookupsState}
use Rattle.qpu_shared.specs.declared.cause.Cause.{Cause}
use Rattle.qpu_shared.specs.declared.starts.Begun.{Begun}
use Rattle.qpu_shared.specs.declared.pending.Pending.{Pending}
use Rattle.qpu_shared.specs.SharedState.{SharedState, nothing_pending}
use Rattle.qpu_shared.specs.Instruction.{Done, outcome_of, outcome_under, first_cause, ins_of, after_reads, after_writes, shared_after, instruction_result, pending_of, pending_after, lookups_after}
use Rattle.qpu_flow.specs.Code.{fields_at}
use Rattle.qpu_hazard.specs.Paths.{IsClean, carry_after, looks_after}
use Rattle.qpu_hazard.specs.Standing.{ProcessorGoes}
use Rattle.qpu_shared.specs.declared.did.Did.{Did}
use Rattle.qpu_shared.specs.declared.did.Did.TheVariants.{Stepped, Awaits as ItAwaits, Faulted as ItFaulted}
use Rattle.qpu_shared.specs.Exec.{Does}
use Rattle.qpu_machine.specs.Kept.{IsOnPath, IsKept, HasFewLooks, HasFewRows, KeepsPath}
use Rattle.qpu_hazard.proofs.ProcessorLemmas.{processor_stays}
use Rattle.qpu_hazard.proofs.MaskLemmas.{zn_defined, carry_defined}
use Rattle.qpu_machine.proofs.KeptLooks.{looks_step}
use Rattle.qpu_machine.proofs.KeptOthers.{others_by_instruction, length_kept_by_instruction}
use Rattle.qpu_machine.proofs.PendingLemmas.{rows_by_instruction}
use Rattle.qpu_word.proofs.KeptLemmas.{done_moves}
use Rattle.qpu_shared.proofs.ExecLemmas.{free_of_none}
use Rattle.qpu_hazard.proofs.HoldLemmas.{word_holds}

-- what an instruction that is done leaves
pub record IsDone (is_link : ℕ → Bool) (word : ℕ) (p : ProcessorState) (h : SharedState) (after : ProcessorState) (left : SharedState) : Type 0 where
  pub free : first_cause (fields_of word) p.q h ≡ None
  pub holds : branch_fails is_link (fields_of word) p ≡ false
  pub book : Book
  pub starts : Begun
  pub begins : after_writes (outs_of (fields_of word) p (ins_of (fields_of word) p h)) h.memory book ≡ Ok starts
  pub is_after : after ≡ done (fields_of word) p (ins_of (fields_of word) p h) starts.book
  pub is_left : left ≡ shared_after (fields_of word) p (outs_of (fields_of word) p (ins_of (fields_of word) p h)) starts h

-- taking a result apart
begun_after : {B : Type 0} (r : Result Begun FaultKind) (k : Begun → B) (b : B) → then_after r (λ s. Ok (k s)) ≡ Ok b
    → (starts : Begun) × (r ≡ Ok starts) × (b ≡ k starts)
begun_after (Ok starts) k b is = (starts, refl, cc)
begun_after (Err kind) k b is = absurd (cc)

read_after : {B : Type 0} (r : Result Book FaultKind) (g : Book → Result Begun FaultKind) (k : Begun → B) (b : B)
    → then_after r (λ book. then_after (g book) (λ s. Ok (k s))) ≡ Ok b
    → (book : Book) × (starts : Begun) × (g book ≡ Ok starts) × (b ≡ k starts)
read_after (Ok book) g k b is = let s = begun_after (g book) k b is in (book, s.0, s.1, s.2)
read_after (Err kind) g k b is = absurd (cc)

done_of : (r : Result (ProcessorState × SharedState) FaultKind) (after : ProcessorState) (left : SharedState) → outcome_of r ≡ Done after left → r ≡ Ok (after, left)
done_of (Ok pair) after left is = let a : pair.0 ≡ after = cc in let b : pair.1 ≡ left = cc in rw (← a, ← b) refl
done_of (Err kind) after left is = absurd (cc)

-- an outcome under its first cause
done_under : (cause : Option Cause) (r : Result (ProcessorState × SharedState) FaultKind) (after : ProcessorState) (left : SharedState)
    → outcome_under cause r ≡ Done after left → (cause ≡ None) × (r ≡ Ok (after, left))
done_under None r after left is = (refl, done_of r after left is)
done_under (Some cause) r after left is = absurd (cc)

-- the parts of a result that is done
result_parts : (is_link : ℕ → Bool) (word : ℕ) (p : ProcessorState) (h : SharedState) (after : ProcessorState) (left : SharedState) (fails : Bool)
    → branch_fails is_link (fields_of word) p ≡ fails → first_cause (fields_of word) p.q h ≡ None
    → instruction_result is_link word p h ≡ Ok (after, left) → IsDone is_link word p h after left
unfolding instruction_result
result_parts is_link word p h after left true fails none is = let e : instruction_result is_link word p h ≡ Err Branch = rw fails refl in absurd (cc)
result_parts is_link word p h after left false holds none is =
    let f : Fields = fields_of word in
    let outs : Outs = outs_of f p (ins_of f p h) in
    let parts = read_after {B = ProcessorState × SharedState} (after_reads f h.memory p.book) (λ book. after_writes outs h.memory book)
    (λ starts. (done f p (ins_of f p h) starts.book, shared_after f p outs starts h)) (after, left)
    (let e : then_after (after_reads f h.memory p.book) (λ book. then_after (after_writes outs h.memory book) (λ starts. Ok (done f p (ins_of f p h) starts.book, shared_after f p outs starts h))) ≡ instruction_result is_link word p h = rw holds refl in e ∙ is) in
    record {
      free = none;
      holds = holds;
      book = parts.0;
      starts = parts.1;
      begins = parts.2;
      is_after = ap (λ (x : ProcessorState × SharedState). x.0) parts.3;
      is_left = ap (λ (x : ProcessorState × SharedState). x.1) parts.3;
    }

-- what a word that is done leaves
pub parts_of_done : (is_link : ℕ → Bool) (word : ℕ) (p : ProcessorState) (h : SharedState) (after : ProcessorState) (left : SharedState)
    → outcome_under (first_cause (fields_of word) p.q h) (instruction_result is_link word p h) ≡ Done after left → IsDone is_link word p h after left
parts_of_done is_link word p h after left is =
    let d = done_under (first_cause (fields_of word) p.q h) (instruction_result is_link word p h) after left is in
    result_parts is_link word p h after left (branch_fails is_link (fields_of word) p) refl d.0 d.1

-- the path

-- where a processor stands after its word, and with how many look-ups outstanding
on_after : (code : List ℕ) (p : ProcessorState) (looks looks' : LookupsState) (ins : Ins) (book : Book) → IsClean code → IsOnPath code p looks
    → branch_fails (is_link_point code) (fields_at code p.place) p ≡ false
    → length looks'.looks0 ≡ looks_after (fields_at code p.place) 0 (length looks.looks0)
    → length looks'.looks1 ≡ looks_after (fields_at code p.place) 1 (length looks.looks1)
    → (done (fields_at code p.place) p ins book).halt ≡ Going → IsOnPath code (done (fields_at code p.place) p ins book) looks'
unfolding done moved_on
on_after code p looks looks' ins book clean on holds looks0 looks1 going =
    let f : Fields = fields_at code p.place in
    let step = processor_stays code on.path p clean on.is_path on.stands holds in
    record {
      path = p.place ∷ on.path;
      is_path = step.0;
      stands = subst (λ halt. ProcessorGoes code (p.place ∷ on.path) (place_after f p) (rest_after f p) halt) going step.1;
      flags = zn_defined f p ins ∙ ap (λ b. sets_flags f || b) on.flags;
      carry = carry_defined f p ins ∙ ap (λ b. carry_after f b) on.carry;
      looks0 = looks0 ∙ ap (looks_after f 0) on.looks0;
      looks1 = looks1 ∙ ap (looks_after f 1) on.looks1;
    }

-- what a processor has pending after its instruction
pub pending_left : (f : Fields) (p : ProcessorState) (outs : Outs) (starts : Begun) (h : SharedState) → p.q < length h.pending
    → pending_of (shared_after f p outs starts h) p.q ≡ pending_after f outs starts (pending_of h p.q)
unfolding shared_after
pending_left f p outs starts h there = get_or-set_same h.pending p.q (pending_after f outs starts (pending_of h p.q)) nothing_pending there

looks_left : (f : Fields) (p : ProcessorState) (outs : Outs) (starts : Begun) (h : SharedState) → p.q < length h.pending
    → (pending_of (shared_after f p outs starts h) p.q).looks ≡ lookups_after f outs starts.look (pending_of h p.q).looks
unfolding pending_after
looks_left f p outs starts h there = ap (λ (x : Pending). x.looks) (pending_left f p outs starts h there)

-- an instruction that is done keeps its processor on a path
pub kept_by_instruction : (code : List ℕ) (p : ProcessorState) (h : SharedState) (after : ProcessorState) (left : SharedState) → p.q < length h.pending
    → IsClean code → IsOnPath code p (pending_of h p.q).looks → IsDone (is_link_point code) (slice_index code p.place) p h after left
    → IsKept code after (pending_of left p.q).looks
unfolding fields_at
kept_by_instruction code p h after left there clean on d =
    let f : Fields = fields_of (slice_index code p.place) in
    let ins : Ins = ins_of f p h in
    let outs : Outs = outs_of f p ins in
    let holds = word_holds code on.path p.place clean on.is_path on.stands.follows in
    let free = free_of_none f p.q h d.free in
    let looks : LookupsState = (pending_of h p.q).looks in
    let left_is = ap (λ (x : SharedState). (pending_of x p.q).looks) d.is_left ∙ looks_left f p outs d.starts h there in
    let looks0 = looks_step f (add_sent f p ins) (mul_sent f p ins) h.memory d.book d.starts looks 0 (omega arith) holds.actions d.begins free.take0 in
    let looks1 = looks_step f (add_sent f p ins) (mul_sent f p ins) h.memory d.book d.starts looks 1 (omega arith) holds.actions d.begins free.take1 in
    let on' : (done f p ins d.starts.book).halt ≡ Going → IsOnPath code (done f p ins d.starts.book) (lookups_after f outs d.starts.look looks) =
    on_after code p looks (lookups_after f outs d.starts.look looks) ins d.starts.book clean on d.holds looks0 looks1 in
    rw (d.is_after, left_is) on'

-- how many look-ups a processor on a path has outstanding

few_of : (n m made taken : ℕ) → n ≡ m + made - taken → m + made ≤ 4 → n ≤ 4
few_of n m made taken is few = omega (arith, is, few)

few_before : (n m made : ℕ) → n ≡ m → m + made ≤ 4 → n ≤ 4
few_before n m made is few = omega (arith, is, few)

pub few_on_path : (code : List ℕ) (p : ProcessorState) (looks : LookupsState) → IsClean code → IsOnPath code p looks → HasFewLooks looks
few_on_path code p looks clean on =
    let holds = word_holds code on.path p.place clean on.is_path on.stands.follows in
    (few_before _ _ _ on.looks0 holds.looks_0.most, few_before _ _ _ on.looks1 holds.looks_1.most)

-- and after its instruction
few_by_instruction : (code : List ℕ) (p : ProcessorState) (h : SharedState) (after : ProcessorState) (left : SharedState) → p.q < length h.pending
    → IsClean code → IsOnPath code p (pending_of h p.q).looks → IsDone (is_link_point code) (slice_index code p.place) p h after left
    → HasFewLooks (pending_of left p.q).looks
unfolding fields_at
few_by_instruction code p h after left there clean on d =
    let f : Fields = fields_of (slice_index code p.place) in
    let ins : Ins = ins_of f p h in
    let outs : Outs = outs_of f p ins in
    let holds = word_holds code on.path p.place clean on.is_path on.stands.follows in
    let free = free_of_none f p.q h d.free in
    let looks : LookupsState = (pending_of h p.q).looks in
    let left_is = ap (λ (x : SharedState). (pending_of x p.q).looks) d.is_left ∙ looks_left f p outs d.starts h there in
    let looks0 = looks_step f (add_sent f p ins) (mul_sent f p ins) h.memory d.book d.starts looks 0 (omega arith) holds.actions d.begins free.take0 in
    let looks1 = looks_step f (add_sent f p ins) (mul_sent f p ins) h.memory d.book d.starts looks 1 (omega arith) holds.actions d.begins free.take1 in
    rw left_is (
      few_of _ _ _ _ (looks0 ∙ ap (looks_after f 0) on.looks0) holds.looks_0.most,
      few_of _ _ _ _ (looks1 ∙ ap (looks_after f 1) on.looks1) holds.looks_1.most,
    )

-- a word, whatever became of it

-- an instruction that is done
keeps_done : (code : List ℕ) (p : ProcessorState) (h : SharedState) (after : ProcessorState) (left : SharedState) → p.q < length h.pending
    → IsClean code → IsOnPath code p (pending_of h p.q).looks → IsDone (is_link_point code) (slice_index code p.place) p h after left
    → KeepsPath code p.q p h after left
keeps_done code p h after left there clean on d =
    let f : Fields = fields_of (slice_index code p.place) in
    let ins : Ins = ins_of f p h in
    let moves = done_moves f p ins d.starts.book in
    record {
      number = ap (λ (x : ProcessorState). x.q) d.is_after ∙ moves.q;
      executed = let e : after.executed ≡ p.executed + 1 = ap (λ (x : ProcessorState). x.executed) d.is_after ∙ moves.executed in omega (arith, e);
      kept = kept_by_instruction code p h after left there clean on d;
      few = few_by_instruction code p h after left there clean on d;
      rows = λ rows.
          subst HasFewRows (sym (ap (λ (x : SharedState). pending_of x p.q) d.is_left ∙ pending_left f p (outs_of f p ins) d.starts h there))
          (rows_by_instruction f (outs_of f p ins) h.memory d.book d.starts (pending_of h p.q) d.begins rows);
      others = λ other apart. ap (λ (x : SharedState). pending_of x other) d.is_left ∙ others_by_instruction f p (outs_of f p ins) d.starts h p.q other refl apart;
      room = ap (λ (x : SharedState). length x.pending) d.is_left ∙ length_kept_by_instruction f p (outs_of f p ins) d.starts h;
    }

-- nothing changed
keeps_still : (code : List ℕ) (p : ProcessorState) (h : SharedState) → IsClean code → IsOnPath code p (pending_of h p.q).looks → KeepsPath code p.q p h p h
keeps_still code p h clean on = record {
  number = refl;
  executed = omega arith;
  kept = λ going. on;
  few = few_on_path code p (pending_of h p.q).looks clean on;
  rows = λ rows. rows;
  others = λ other apart. refl;
  room = refl;
}

-- a fault
keeps_fault : (code : List ℕ) (p : ProcessorState) (h : SharedState) (kind : FaultKind) → IsClean code → IsOnPath code p (pending_of h p.q).looks
    → KeepsPath code p.q p h (halted kind p) h
unfolding halted
keeps_fault code p h kind clean on = record {
  number = refl;
  executed = omega arith;
  kept = λ going. absurd (cc);
  few = few_on_path code p (pending_of h p.q).looks clean on;
  rows = λ rows. rows;
  others = λ other apart. refl;
  room = refl;
}

keeps_of : (code : List ℕ) (p : ProcessorState) (h : SharedState) (after : ProcessorState) (left : SharedState) (did : Did) → p.q < length h.pending
    → IsClean code → IsOnPath code p (pending_of h p.q).looks
    → Does did (outcome_under (first_cause (fields_of (slice_index code p.place)) p.q h) (instruction_result (is_link_point code) (slice_index code p.place) p h)) p h after left
    → KeepsPath code p.q p h after left
keeps_of code p h after left Stepped there clean on does =
    keeps_done code p h after left there clean on (parts_of_done (is_link_point code) (slice_index code p.place) p h after left does)
keeps_of code p h after left (ItAwaits cause) there clean on does = rw (does.1, does.2) (keeps_still code p h clean on)
keeps_of code p h after left (ItFaulted kind) there clean on does = rw (does.1, does.2) (keeps_fault code p h kind clean on)

-- what a word of processor q keeps
pub keeps_by_word : (code : List ℕ) (q : ℕ) (p : ProcessorState) (h : SharedState) (after : ProcessorState) (left : SharedState) (did : Did) → p.q ≡ q
    → q < length h.pending → IsClean code → IsOnPath code p (pending_of h q).looks
    → Does did (outcome_under (first_cause (fields_of (slice_index code p.place)) q h) (instruction_result (is_link_point code) (slice_index code p.place) p h)) p h after left
    → KeepsPath code q p h after left
keeps_by_word code q p h after left did number there clean on does =
    let P : ℕ → Type 0 = λ r. r < length h.pending → IsOnPath code p (pending_of h r).looks
    → Does did (outcome_under (first_cause (fields_of (slice_index code p.place)) r h) (instruction_result (is_link_point code) (slice_index code p.place) p h)) p h after left
    → KeepsPath code r p h after left in
    subst P number (λ there' on' does'. keeps_of code p h after left did there' clean on' does') there on does
