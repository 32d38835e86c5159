-- A machine has fewer steps left after each step.
use Rattle.std.proofs.Common.{◌≡◌, ◌≢◌, ◌<◌, ◌≤◌, ◌+◌, ◌-◌, ◌*◌, ◌^◌, ℕ, zero, suc, Bool, true, false, List, [], ◌∷◌, length, Option, Some, None, ◌⊎◌, inl, inr, refl, sym, subst, ap, ◌∙◌, arith}
use Rattle.std.specs.Prelude.{slice_index, slice_index_or, slice_set, is_some, nat_lt, if◌then◌else◌}
use Rattle.std.proofs.lemmas.Bool.{cases_eq, cases_lt}
use Rattle.std.proofs.lemmas.Bool.Decides.{nat_tests}
use Rattle.std.proofs.lemmas.List.{get_or-set_same, get_or-set_other}
use Rattle.qpu_word.specs.declared.word.Fields.{Fields}
use Rattle.qpu_word.specs.declared.fault.FaultKind.{FaultKind}
use Rattle.qpu_word.specs.Words.{fields_of, one_if}
use Rattle.qpu_word.specs.Processor.{ProcessorState}
use Rattle.qpu_word.specs.Instruction.{is_link_point, halted, outs_of, add_sent, mul_sent}
use Rattle.qpu_word.proofs.KeptLemmas.{done_moves}
use Rattle.qpu_dma.specs.declared.direction.Direction.{Direction}
use Rattle.qpu_dma.specs.declared.direction.Direction.TheVariants.{Load as LoadOf, Store as StoreOf}
use Rattle.qpu_dma.specs.Transfers.{TransferState}
use Rattle.qpu_dma.specs.Moves.{after_row}
use Rattle.qpu_tmu.specs.declared.look_up.LookUp.{LookUp}
use Rattle.qpu_tmu.specs.Looks.{with_queue, is_waiting}
use Rattle.qpu_shared.specs.declared.did.Did.{Did}
use Rattle.qpu_shared.specs.declared.did.Did.TheVariants.{Stepped, Awaits as ItAwaits, Faulted as ItFaulted}
use Rattle.qpu_shared.specs.declared.pending.Pending.{Pending}
use Rattle.qpu_shared.specs.SharedState.{SharedState, nothing_pending}
use Rattle.qpu_shared.specs.Exec.{Does}
use Rattle.qpu_shared.specs.Instruction.{first_cause, ins_of, instruction_result, outcome_under, is_going, is_running, pending_of, pending_after}
use Rattle.qpu_shared.specs.Moves.{transfer_in, with_transfer, after_fetch, fetched, unit_looks, row_moved, fetch_moved}
use Rattle.qpu_machine.specs.declared.actor.Actor.{Actor}
use Rattle.qpu_machine.specs.declared.actor.Actor.TheVariants.{Exec, Load, Store, Fetch}
use Rattle.qpu_machine.specs.Machine.{MachineState, processor_of, words_of, with_both, after_step, is_enabled, Step}
use Rattle.qpu_machine.specs.Sound.{IsSoundMachine}
use Rattle.qpu_machine.specs.Schedule.{After, here, next}
use Rattle.qpu_machine.specs.Bound.{instructions_left, waiting, rows_left, moves_pending, moves_most, steps_left_of, sum_below, steps_left}
use Rattle.qpu_machine.specs.Kept.{IsShort}
use Rattle.qpu_machine.proofs.KeptOthers.{left_by_row, others_by_row, others_by_fetch}
use Rattle.qpu_machine.proofs.KeptStep.{IsDone, parts_of_done, pending_left}
use Rattle.qpu_machine.proofs.MovedLemmas.{row_there, fetch_there}
use Rattle.qpu_machine.proofs.PendingLemmas.{moves_by_instruction, moves_by_fetch, one_most}
use Rattle.qpu_machine.proofs.ScheduleLemmas.{StepsExec, steps_exec, keeps_exec, steps_load, steps_store, steps_fetch, there_few, there_low, started_there, sound_step, is_step}

-- sums

other_than : (q n : ℕ) → n < q → n ≢ q
other_than q n less = λ (same : n ≡ q). absurd (omega (arith, less, same))

pub sum_same : (f g : ℕ → ℕ) (q n : ℕ) → n ≤ q → ((r : ℕ) → r ≢ q → g r ≡ f r) → sum_below g n ≡ sum_below f n
sum_same f g q zero most same = refl
sum_same f g q (suc n) most same =
    let rest = sum_same f g q n (omega (arith, most)) same in let last = same n (other_than q n (omega (arith, most))) in omega (arith, rest, last)

-- one summand falls, and the others stay
pub sum_falls : (f g : ℕ → ℕ) (q n : ℕ) → q < n → ((r : ℕ) → r ≢ q → g r ≡ f r) → g q + 1 ≤ f q → sum_below g n + 1 ≤ sum_below f n
sum_falls f g q zero low same falls = absurd (omega (arith, low))
sum_falls f g q (suc n) low same falls = by_place (λ less. sum_falls f g q n less same falls) (cases_eq n q)
  where
    by_place : (q < n → sum_below g n + 1 ≤ sum_below f n) → (n ≡ q) ⊎ (n ≢ q) → sum_below g n + g n + 1 ≤ sum_below f n + f n
    by_place rest_falls (inl is) =
        let rest = sum_same f g q n (omega (arith, is)) same in
        let last : g n + 1 ≤ f n = subst (λ k. g k + 1 ≤ f k) (sym is) falls in
        omega (arith, rest, last)
    by_place rest_falls (inr apart) =
        let rest = rest_falls (omega (arith, low, apart)) in let last = same n apart in omega (arith, rest, last)

pub sum_most : (f : ℕ → ℕ) (most n : ℕ) → ((r : ℕ) → f r ≤ most) → sum_below f n ≤ n * most
sum_most f most zero each = omega arith
sum_most f most (suc n) each = let rest = sum_most f most n each in let last = each n in grind (arith, rest, last)

-- a step takes one from what a processor has left, and nothing from the others
pub record Falls (m n : MachineState) (q : ℕ) : Type 0 where
  pub few : q < 12
  pub own : steps_left_of n q + 1 ≤ steps_left_of m q
  pub others : (r : ℕ) → r ≢ q → steps_left_of n r ≡ steps_left_of m r

pub falls_less : (m n : MachineState) (q : ℕ) → Falls m n q → steps_left n + 1 ≤ steps_left m
unfolding steps_left
falls_less m n q falls = sum_falls (steps_left_of m) (steps_left_of n) q 12 falls.few falls.others falls.own

-- an instruction

-- what is left of the processor itself
left_running : (limit : ℕ) (p : ProcessorState) → is_running limit p ≡ true → instructions_left limit (Some p) + p.executed ≡ limit
left_running limit p runs = by_halt (is_going p.halt) refl
  where
    less : (limit : ℕ) (x : ProcessorState) → is_running limit x ≡ true → x.executed < limit
    less limit x runs = grind (arith, nat_tests)

    going : (limit : ℕ) (x : ProcessorState) → is_running limit x ≡ true → is_going x.halt ≡ true
    going limit x runs = grind (arith, nat_tests)

    by_halt : (b : Bool) → is_going p.halt ≡ b → (if b then limit - p.executed else 0) + p.executed ≡ limit
    by_halt true is = let few = less limit p runs in omega (arith, few)
    by_halt false is = let on = going limit p runs in absurd (cc)

left_most : (limit : ℕ) (p : ProcessorState) → instructions_left limit (Some p) ≤ limit - p.executed
left_most limit p = by_halt (is_going p.halt)
  where
    by_halt : (b : Bool) → (if b then limit - p.executed else 0) ≤ limit - p.executed
    by_halt true = omega arith
    by_halt false = omega arith

left_counted : (limit : ℕ) (p after : ProcessorState) → is_running limit p ≡ true → after.executed ≡ p.executed + 1
    → instructions_left limit (Some after) + 1 ≤ instructions_left limit (Some p)
left_counted limit p after runs more =
    let before = left_running limit p runs in let now = left_most limit after in
    let less = running_less limit p runs in
    omega (arith, before, now, more, less)
  where
    running_less : (limit : ℕ) (x : ProcessorState) → is_running limit x ≡ true → x.executed < limit
    running_less limit x runs = grind (arith, nat_tests)

left_halted : (limit : ℕ) (p : ProcessorState) (kind : FaultKind) → is_running limit p ≡ true → instructions_left limit (Some (halted kind p)) + 1 ≤ instructions_left limit (Some p)
unfolding halted
left_halted limit p kind runs = let before = left_running limit p runs in let less = running_less limit p runs in omega (arith, before, less)
  where
    running_less : (limit : ℕ) (x : ProcessorState) → is_running limit x ≡ true → x.executed < limit
    running_less limit x runs = grind (arith, nat_tests)

-- what an instruction leaves: one less to execute, and 80 more moves at most
pub record LeavesLess (limit : ℕ) (q : ℕ) (p : ProcessorState) (h : SharedState) (after : ProcessorState) (left : SharedState) : Type 0 where
  pub instructions : instructions_left limit (Some after) + 1 ≤ instructions_left limit (Some p)
  pub moves : moves_pending (pending_of left q) ≤ moves_pending (pending_of h q) + moves_most

less_done : (limit : ℕ) (is_link : ℕ → Bool) (word : ℕ) (p : ProcessorState) (h : SharedState) (after : ProcessorState) (left : SharedState) → is_running limit p ≡ true
    → p.q < length h.pending → IsDone is_link word p h after left → LeavesLess limit p.q p h after left
less_done limit is_link word p h after left runs there d =
    let f : Fields = fields_of word in
    let outs = outs_of f p (ins_of f p h) in
    record {
      instructions = left_counted limit p after runs (ap (λ (x : ProcessorState). x.executed) d.is_after ∙ (done_moves f p (ins_of f p h) d.starts.book).executed);
      moves =
          let is : pending_of left p.q ≡ pending_after f outs d.starts (pending_of h p.q) = ap (λ (x : SharedState). pending_of x p.q) d.is_left ∙ pending_left f p outs d.starts h there in
          subst (λ (x : Pending). moves_pending x ≤ moves_pending (pending_of h p.q) + moves_most) (sym is)
          (moves_by_instruction f (add_sent f p (ins_of f p h)) (mul_sent f p (ins_of f p h)) h.memory d.book d.starts (pending_of h p.q) d.begins);
    }

less_by : (limit : ℕ) (is_link : ℕ → Bool) (word : ℕ) (p : ProcessorState) (h : SharedState) (after : ProcessorState) (left : SharedState) (did : Did) → is_running limit p ≡ true
    → p.q < length h.pending → is_step did ≡ true → Does did (outcome_under (first_cause (fields_of word) p.q h) (instruction_result is_link word p h)) p h after left
    → LeavesLess limit p.q p h after left
less_by limit is_link word p h after left Stepped runs there steps does = less_done limit is_link word p h after left runs there (parts_of_done is_link word p h after left does)
less_by limit is_link word p h after left (ItAwaits cause) runs there steps does = absurd (cc)
less_by limit is_link word p h after left (ItFaulted kind) runs there steps does = rw (does.1, does.2) (record { instructions = left_halted limit p kind runs; moves = omega arith })

pub less_exec : (m : MachineState) (q : ℕ) (n : MachineState) → IsSoundMachine m → (x : StepsExec m q n) → LeavesLess m.limit q x.p m.shared x.after x.left
less_exec m q n sound x =
    let few = there_few m q x.p sound x.there in
    let number : x.p.q ≡ q = (started_there m q x.p sound x.there).number in
    let word : ℕ = slice_index (words_of m q) x.p.place in
    let P : ℕ → Type 0 = λ r. r < length m.shared.pending
    → Does x.did (outcome_under (first_cause (fields_of word) r m.shared) (instruction_result (is_link_point (words_of m q)) word x.p m.shared)) x.p m.shared x.after x.left
    → LeavesLess m.limit r x.p m.shared x.after x.left in
    subst P number (λ there does. less_by m.limit (is_link_point (words_of m q)) word x.p m.shared x.after x.left x.did x.runs there x.steps does)
    (omega (arith, few, sound.pending)) x.does

pub falls_exec : (m : MachineState) (q : ℕ) (n : MachineState) → IsSoundMachine m → Step m (Exec q) n → Falls m n q
falls_exec m q n sound steps =
    let x = steps_exec m q n sound steps in
    let less = less_exec m q n sound x in
    let keeps = keeps_exec m q n sound x in
    let own : processor_of (with_both m q x.after x.left) q ≡ Some x.after = get_or-set_same m.processors q (Some x.after) None (there_low m q x.p sound x.there) in
    let now = ap (instructions_left m.limit) own in
    let before = ap (instructions_left m.limit) x.there in
    let instructions = less.instructions in
    let moves = less.moves in
    subst (λ k. Falls m k q) (sym x.is)
    (record {
      few = there_few m q x.p sound x.there;
      own = omega (arith, now, before, instructions, moves);
      others = λ r apart.
          let same = ap (instructions_left m.limit) (get_or-set_other m.processors q r (Some x.after) None apart) in
          let pending = ap moves_pending (keeps.others r apart) in
          omega (arith, same, pending);
    })

-- a move

-- one move less is pending, and what others have pending stays
pub record MovesOne (h : SharedState) (q : ℕ) (left : SharedState) : Type 0 where
  pub there : q < length h.pending
  pub own : moves_pending (pending_of left q) + 1 ≡ moves_pending (pending_of h q)
  pub others : (r : ℕ) → r ≢ q → pending_of left r ≡ pending_of h r

falls_move : (m : MachineState) (q : ℕ) (left : SharedState) → IsSoundMachine m → MovesOne m.shared q left → Falls m (record m { shared = left }) q
falls_move m q left sound one_if =
    let there = one_if.there in let own = one_if.own in
    record {
      few = omega (arith, there, sound.pending);
      own = omega (arith, own);
      others = λ r apart. let pending = ap moves_pending (one_if.others r apart) in omega (arith, pending);
    }

put_less : (h : SharedState) (q : ℕ) (new : Pending) → q < length h.pending → moves_pending new + 1 ≡ moves_pending (pending_of h q)
    → moves_pending (slice_index_or (slice_set h.pending q new) q nothing_pending) + 1 ≡ moves_pending (pending_of h q)
put_less h q new there less = ap (λ (x : Pending). moves_pending x + 1) (get_or-set_same h.pending q new nothing_pending there) ∙ less

left_made : (P : SharedState → Type 0) (made left : SharedState) → ◌≡◌ {A = Option SharedState} (Some made) (Some left) → P made → P left
left_made P made left e holds = let same : made ≡ left = cc in subst P same holds

none_made : (left : SharedState) → ◌≡◌ {A = Option SharedState} None (Some left) → ⊥
none_made left e = cc

-- one row less is left
row_less : (rows moved : ℕ) (more : Bool) (t : TransferState) → t.rows ≡ rows → t.moved ≡ moved → nat_lt (moved + 1) rows ≡ more
    → rows_left (if more then Some (record t { moved = t.moved + 1 }) else None) + 1 ≡ rows_left (Some t)
row_less rows moved true t r m is = let less : moved + 1 < rows = grind (arith, nat_tests) in omega (arith, less, r, m)
row_less rows moved false t r m is = let done : rows ≤ moved + 1 = grind (arith, nat_tests) in omega (arith, done, r, m)

after_less : (t : TransferState) → rows_left (after_row t) + 1 ≡ rows_left (Some t)
unfolding after_row
after_less t = row_less t.rows t.moved (nat_lt (t.moved + 1) t.rows) t refl refl refl

fewer_rows : (direction : Direction) (pending : Pending) (t : TransferState) → transfer_in direction pending ≡ Some t
    → moves_pending (with_transfer direction pending (after_row t)) + 1 ≡ moves_pending pending
fewer_rows LoadOf pending t is = let less = after_less t in let all = ap rows_left is in omega (arith, less, all)
fewer_rows StoreOf pending t is = let less = after_less t in let all = ap rows_left is in omega (arith, less, all)

fewer_fetch : (h : SharedState) (q unit : ℕ) (left : SharedState) (looks : Option (List LookUp)) → fetched h.memory (unit_looks (pending_of h q) unit) ≡ looks → q < length h.pending
    → after_fetch h q unit looks ≡ Some left → moves_pending (pending_of left q) + 1 ≡ moves_pending (pending_of h q)
fewer_fetch h q unit left None is there e = absurd (none_made left e)
fewer_fetch h q unit left (Some looks) is there e =
    left_made (λ s. moves_pending (pending_of s q) + 1 ≡ moves_pending (pending_of h q)) _ left e
    (put_less h q (record (pending_of h q) { looks = with_queue (pending_of h q).looks unit looks }) there (moves_by_fetch h.memory (pending_of h q) unit looks is))

own_row : (direction : Direction) (h : SharedState) (q : ℕ) (left : SharedState) → q < length h.pending → row_moved direction h q ≡ Some left
    → moves_pending (pending_of left q) + 1 ≡ moves_pending (pending_of h q)
unfolding row_moved
own_row direction h q left there moved =
    left_by_row (λ (xs : List Pending). moves_pending (slice_index_or xs q nothing_pending) + 1 ≡ moves_pending (pending_of h q)) direction h q left (transfer_in direction (pending_of h q)) moved
    (λ t is. put_less h q (with_transfer direction (pending_of h q) (after_row t)) there (fewer_rows direction (pending_of h q) t is))

pub moves_row : (direction : Direction) (h : SharedState) (q : ℕ) (left : SharedState) → row_moved direction h q ≡ Some left → MovesOne h q left
moves_row direction h q left moved =
    let there = row_there direction h q left moved (cases_lt q (length h.pending)) in
    record { there = there; own = own_row direction h q left there moved; others = λ r apart. others_by_row direction h q r left apart moved }

pub moves_fetch : (h : SharedState) (q unit : ℕ) (left : SharedState) → fetch_moved h q unit ≡ Some left → MovesOne h q left
unfolding fetch_moved
moves_fetch h q unit left moved =
    let there = fetch_there h q unit left moved (cases_lt q (length h.pending)) in
    record { there = there; own = fewer_fetch h q unit left _ refl there moved; others = λ r apart. others_by_fetch h q unit r left apart moved }

-- one step, and a schedule

pub step_less : (m : MachineState) (actor : Actor) (n : MachineState) → IsSoundMachine m → Step m actor n → steps_left n + 1 ≤ steps_left m
step_less m (Exec q) n sound steps = falls_less m n q (falls_exec m q n sound steps)
step_less m (Load q) n sound steps =
    let x = steps_load m q n steps in falls_less m n q (subst (λ k. Falls m k q) (sym x.is) (falls_move m q x.left sound (moves_row LoadOf m.shared q x.left x.moves)))
step_less m (Store q) n sound steps =
    let x = steps_store m q n steps in falls_less m n q (subst (λ k. Falls m k q) (sym x.is) (falls_move m q x.left sound (moves_row StoreOf m.shared q x.left x.moves)))
step_less m (Fetch q unit) n sound steps =
    let x = steps_fetch m q unit n steps in falls_less m n q (subst (λ k. Falls m k q) (sym x.is) (falls_move m q x.left sound (moves_fetch m.shared q unit x.left x.moves)))

pub steps_bounded : {m n : MachineState} {s : List Actor} → IsSoundMachine m → After m s n → length s + steps_left n ≤ steps_left m
steps_bounded sound here = omega arith
steps_bounded {m} sound (next {n = n} {k = k} {actor = actor} {s = s} step more) =
    let rest = steps_bounded (sound_step m actor n sound step) more in let first = step_less m actor n sound step in omega (arith, rest, first)

-- where an actor has a step, one is left
pub some_left : (m : MachineState) (actor : Actor) → IsSoundMachine m → is_enabled m actor ≡ true → 1 ≤ steps_left m
some_left m actor sound enabled = by_step (after_step m actor) refl enabled
  where
    by_step : (o : Option MachineState) → after_step m actor ≡ o → is_some o ≡ true → 1 ≤ steps_left m
    by_step None is some = absurd (cc)
    by_step (Some n) is some = let less = step_less m actor n sound is in omega (arith, less)

-- and there are fewer than any journal has room for

waiting_most : (looks : List LookUp) → waiting looks ≤ length looks
waiting_most [] = omega arith
waiting_most (look ∷ more) = let rest = waiting_most more in let first = one_most (is_waiting look) in omega (arith, rest, first)

pub instructions_most : (limit : ℕ) (o : Option ProcessorState) → instructions_left limit o ≤ limit
instructions_most limit None = omega arith
instructions_most limit (Some p) = let most = left_most limit p in omega (arith, most)

rows_few : (transfer : Option TransferState) → IsShort transfer → rows_left transfer ≤ 64
rows_few None short = omega arith
rows_few (Some t) short = omega (arith, short)

-- a processor has few moves pending
pub pending_most : (m : MachineState) (q : ℕ) → IsSoundMachine m → moves_pending (pending_of m.shared q) ≤ 136
pending_most m q sound =
    let pending : Pending = pending_of m.shared q in
    let few = sound.looks q in
    let few0 = few.0 in
    let few1 = few.1 in
    let rows = sound.rows q in
    let first = waiting_most pending.looks.looks0 in
    let second = waiting_most pending.looks.looks1 in
    let load = rows_few pending.load rows.0 in
    let store = rows_few pending.store rows.1 in
    omega (arith, few0, few1, first, second, load, store)

left_of_most : (m : MachineState) (q : ℕ) → IsSoundMachine m → steps_left_of m q ≤ 81000136
left_of_most m q sound =
    let pending = pending_most m q sound in let instructions = instructions_most m.limit (processor_of m q) in omega (arith, pending, instructions, sound.limit)

pub left_below : (m : MachineState) → IsSoundMachine m → steps_left m < 2 ^ 63
unfolding steps_left
left_below m sound = let most = sum_most (steps_left_of m) 81000136 12 (λ r. left_of_most m r sound) in omega (arith, most)
