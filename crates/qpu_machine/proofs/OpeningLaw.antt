-- Machines before any step: they are sound, and bound each schedule.
use Rattle.std.proofs.Common.{◌≡◌, ◌≢◌, ◌<◌, ◌≤◌, ◌+◌, ◌*◌, ℕ, zero, suc, List, [], ◌∷◌, reverse, length, replicate, fold, Option, Some, None, ◌⊎◌, inl, inr, refl, sym, subst, ap, ◌∙◌, append-nil, arith}
use Rattle.std.specs.Prelude.{All, slice_index_or}
use Rattle.std.proofs.Math.ListN.{length-set}
use Rattle.std.proofs.lemmas.Bool.{cases_eq}
use Rattle.std.proofs.lemmas.List.{get_or-set_same, get_or-set_other}
use Rattle.qpu_word.specs.Processor.{ProcessorState, opening_processor}
use Rattle.qpu_shared.specs.SharedState.{SharedState, opening_shared}
use Rattle.qpu_shared.specs.Instruction.{pending_of}
use Rattle.qpu_hazard.specs.Paths.{IsClean}
use Rattle.qpu_hazard.specs.Standing.{ProcessorStands}
use Rattle.qpu_hazard.proofs.ProcessorLemmas.{processor_opens}
use Rattle.qpu_machine.specs.declared.start.Start.{Start}
use Rattle.qpu_machine.specs.Machine.{MachineState, processor_of, words_of, with_start, machine_of}
use Rattle.qpu_machine.specs.Sound.{IsSoundMachine}
use Rattle.qpu_machine.specs.Trace.{trace_of}
use Rattle.qpu_machine.specs.TracePaths.{ComesFrom, IsCleanPath, TracesAreClean}
use Rattle.qpu_machine.specs.Bound.{instructions_left, moves_pending, steps_left_of, sum_below, steps_left}
use Rattle.qpu_machine.specs.declared.actor.Actor.{Actor}
use Rattle.qpu_machine.specs.Schedule.{After}
use Rattle.qpu_machine.specs.Opening.{MayOpen, OpensSound, BoundsSchedules, TracesArePaths, IsRunFromOpening}
use Rattle.qpu_machine.proofs.AloneLemmas.{nobody_pending}
use Rattle.qpu_machine.proofs.OpeningLemmas.{sound_unstarted, sound_started}
use Rattle.qpu_machine.proofs.StartLemmas.{nobody_there}
use Rattle.qpu_machine.proofs.BoundLemmas.{sum_same, steps_bounded, instructions_most}
use Rattle.qpu_machine.proofs.RunLaw.{instructions_bounded}
use Rattle.qpu_machine.proofs.TrailLemmas.{goes_on_paths}

-- the machine without processors
abbrev pub unstarted_of : List ℕ → ℕ → List (List ℕ) → MachineState
unstarted_of memory limit programs = record {
  limit = limit;
  programs = programs;
  program_of = replicate 12 0;
  processors = replicate 12 None;
  shared = opening_shared memory;
}

-- what holds after each start
record Opened (memory : List ℕ) (limit : ℕ) (programs : List (List ℕ)) (started : ℕ) (m : MachineState) : Type 0 where
  sound : IsSoundMachine m
  limited : m.limit ≡ limit
  listed : m.programs ≡ programs
  shared : m.shared ≡ opening_shared memory
  room : length m.program_of ≡ 12
  left : steps_left m ≤ 81 * limit * started
  stands : (q : ℕ) (p : ProcessorState) → processor_of m q ≡ Some p → ProcessorStands (words_of m q) [] p.place p.rest

-- steps left

sum_grows : (f g : ℕ → ℕ) (q n d : ℕ) → ((r : ℕ) → r ≢ q → g r ≡ f r) → g q ≤ f q + d → sum_below g n ≤ sum_below f n + d
sum_grows f g q zero d same grows = omega arith
sum_grows f g q (suc n) d same grows = by_place (sum_grows f g q n d same grows) (cases_eq n q)
  where
    by_place : sum_below g n ≤ sum_below f n + d → (n ≡ q) ⊎ (n ≢ q) → sum_below g n + g n ≤ sum_below f n + f n + d
    by_place rest (inl is) =
        let before = sum_same f g q n (omega (arith, is)) same in let last : g n ≤ f n + d = subst (λ k. g k ≤ f k + d) (sym is) grows in omega (arith, before, last)
    by_place rest (inr apart) = let last = same n apart in omega (arith, rest, last)

none_sum : (f : ℕ → ℕ) (n : ℕ) → ((r : ℕ) → f r ≡ 0) → sum_below f n ≡ 0
none_sum f zero each = refl
none_sum f (suc n) each = let rest = none_sum f n each in let last = each n in omega (arith, rest, last)

none_left : (memory : List ℕ) (limit : ℕ) (programs : List (List ℕ)) (q : ℕ) → steps_left_of (unstarted_of memory limit programs) q ≡ 0
none_left memory limit programs q =
    let processor = ap (instructions_left limit) (nobody_there 12 q) in let pending = ap moves_pending (nobody_pending memory q) in omega (arith, processor, pending)

unstarted_left : (memory : List ℕ) (limit : ℕ) (programs : List (List ℕ)) → steps_left (unstarted_of memory limit programs) ≡ 0
unfolding steps_left
unstarted_left memory limit programs = none_sum _ 12 (none_left memory limit programs)

started_left : (m : MachineState) (start : Start) → start.q < length m.processors → steps_left (with_start m start) ≤ steps_left m + 81 * m.limit
unfolding steps_left
started_left m start low =
    let opened : Option ProcessorState = Some (opening_processor start.q start.uniforms) in
    let own = ap (instructions_left m.limit) (get_or-set_same m.processors start.q opened None low) in
    let most = instructions_most m.limit opened in
    sum_grows (steps_left_of m) (steps_left_of (with_start m start)) start.q 12 (81 * m.limit)
    (λ r apart. let same = ap (instructions_left m.limit) (get_or-set_other m.processors start.q r opened None apart) in omega (arith, same))
    (omega (arith, own, most))

-- where processors stand

opening_stands : (code : List ℕ) (q uniforms : ℕ) → IsClean code → ProcessorStands code [] (opening_processor q uniforms).place (opening_processor q uniforms).rest
unfolding opening_processor
opening_stands code q uniforms clean = processor_opens code clean

one_processor : (a b : ProcessorState) → ◌≡◌ {A = Option ProcessorState} (Some a) (Some b) → a ≡ b
one_processor a b e = cc

-- the processor that is started
own_stands : (m : MachineState) (start : Start) (p : ProcessorState) → start.q < length m.processors → start.q < length m.program_of → IsClean (slice_index_or m.programs start.program [])
    → processor_of (with_start m start) start.q ≡ Some p → ProcessorStands (words_of (with_start m start) start.q) [] p.place p.rest
own_stands m start p low room clean there =
    let opened : ProcessorState = opening_processor start.q start.uniforms in
    let is : opened ≡ p = one_processor opened p (sym (get_or-set_same m.processors start.q (Some opened) None low) ∙ there) in
    subst (λ (x : ProcessorState). ProcessorStands (words_of (with_start m start) start.q) [] x.place x.rest) is
    (subst (λ (at : ℕ). ProcessorStands (slice_index_or m.programs at []) [] opened.place opened.rest) (sym (get_or-set_same m.program_of start.q start.program 0 room))
    (opening_stands (slice_index_or m.programs start.program []) start.q start.uniforms clean))

stands_start : (m : MachineState) (start : Start) → start.q < length m.processors → start.q < length m.program_of → IsClean (slice_index_or m.programs start.program [])
    → ((q : ℕ) (p : ProcessorState) → processor_of m q ≡ Some p → ProcessorStands (words_of m q) [] p.place p.rest) → (q : ℕ) (p : ProcessorState) → (q ≡ start.q) ⊎ (q ≢ start.q)
    → processor_of (with_start m start) q ≡ Some p → ProcessorStands (words_of (with_start m start) q) [] p.place p.rest
stands_start m start low room clean before q p (inl same) there =
    subst (λ k. ProcessorStands (words_of (with_start m start) k) [] p.place p.rest) (sym same)
    (own_stands m start p low room clean (subst (λ k. processor_of (with_start m start) k ≡ Some p) same there))
stands_start m start low room clean before q p (inr apart) there =
    subst (λ (at : ℕ). ProcessorStands (slice_index_or m.programs at []) [] p.place p.rest) (sym (get_or-set_other m.program_of start.q q start.program 0 apart))
    (before q p (sym (get_or-set_other m.processors start.q q (Some (opening_processor start.q start.uniforms)) None apart) ∙ there))

-- one start after another

more_left : (n m limit started : ℕ) → n ≤ m + 81 * limit → m ≤ 81 * limit * started → n ≤ 81 * limit * (started + 1)
more_left n m limit started now before = omega (arith, now, before)

opened_start : (memory : List ℕ) (limit : ℕ) (programs : List (List ℕ)) (started : ℕ) (m : MachineState) (start : Start) → Opened memory limit programs started m → start.q < 12
    → start.program < length programs → IsClean (slice_index_or programs start.program []) → Opened memory limit programs (started + 1) (with_start m start)
opened_start memory limit programs started m start is low there clean =
    let sound = is.sound in
    let more = started_left m start (omega (arith, sound.processors, low)) in
    record {
      sound =
          sound_started m start sound is.room low (subst (λ (xs : List (List ℕ)). start.program < length xs) (sym is.listed) there)
          (ap (λ (h : SharedState). pending_of h start.q) is.shared ∙ nobody_pending memory start.q)
          (subst (λ (xs : List (List ℕ)). IsClean (slice_index_or xs start.program [])) (sym is.listed) clean);
      limited = is.limited;
      listed = is.listed;
      shared = is.shared;
      room = length-set m.program_of start.q start.program ∙ is.room;
      left = more_left _ _ limit started (subst (λ l. steps_left (with_start m start) ≤ steps_left m + 81 * l) is.limited more) is.left;
      stands = λ q p at.
          stands_start m start (omega (arith, sound.processors, low)) (omega (arith, is.room, low))
          (subst (λ (xs : List (List ℕ)). IsClean (slice_index_or xs start.program [])) (sym is.listed) clean) is.stands q p (cases_eq q start.q) at;
    }

all_rest : {A : Type 0} (P : A → Type 0) (x : A) (xs : List A) → All P (x ∷ xs) → All P xs
all_rest P x xs all k d less = all (suc k) d (omega (arith, less))

counts : (started n m : ℕ) → n ≡ started + 1 + m → n ≡ started + suc m
counts started n m is = omega (arith, is)

opened_all : (memory : List ℕ) (limit : ℕ) (programs : List (List ℕ)) (starts : List Start) (started : ℕ) (m : MachineState) → Opened memory limit programs started m
    → All (λ (s : Start). s.q < 12) starts → All (λ (s : Start). s.program < length programs) starts
    → All (λ (s : Start). IsClean (slice_index_or programs s.program [])) starts → Opened memory limit programs (started + length starts) (fold with_start m starts)
opened_all memory limit programs [] started m is numbers there clean = subst (λ k. Opened memory limit programs k m) (sym (nothing_more started)) is
  where
    nothing_more : (n : ℕ) → n + 0 ≡ n
    nothing_more n = omega arith
opened_all memory limit programs (start ∷ more) started m is numbers there clean =
    subst (λ k. Opened memory limit programs k (fold with_start (with_start m start) more)) (counts started _ (length more) refl)
    (opened_all memory limit programs more (started + 1) (with_start m start)
    (opened_start memory limit programs started m start is (numbers 0 start (omega arith)) (there 0 start (omega arith)) (clean 0 start (omega arith)))
    (all_rest (λ (s : Start). s.q < 12) start more numbers) (all_rest (λ (s : Start). s.program < length programs) start more there)
    (all_rest (λ (s : Start). IsClean (slice_index_or programs s.program [])) start more clean))

opened_of : (memory : List ℕ) (limit : ℕ) (programs : List (List ℕ)) (starts : List Start) → MayOpen limit programs starts
    → Opened memory limit programs (length starts) (machine_of memory limit programs starts)
unfolding machine_of
opened_of memory limit programs starts may =
    let none = unstarted_left memory limit programs in
    subst (λ k. Opened memory limit programs k (fold with_start (unstarted_of memory limit programs) starts)) (from_0 (length starts))
    (opened_all memory limit programs starts 0 (unstarted_of memory limit programs)
    (record {
      sound = sound_unstarted (unstarted_of memory limit programs) memory may.limited refl refl;
      limited = refl;
      listed = refl;
      shared = refl;
      room = refl;
      left = omega (arith, none);
      stands = λ q p at. let absent = nobody_there 12 q in absurd (some_none p (sym at ∙ absent));
    })
    may.numbers may.there may.clean)
  where
    from_0 : (n : ℕ) → 0 + n ≡ n
    from_0 n = omega arith

    some_none : (a : ProcessorState) → ◌≡◌ {A = Option ProcessorState} (Some a) None → ⊥
    some_none a e = cc

pub sound_opening : OpensSound
sound_opening memory limit programs starts may = (opened_of memory limit programs starts may).sound

-- the laws

pub bounds_schedules : BoundsSchedules
bounds_schedules memory limit programs starts s n may after =
    let opened = opened_of memory limit programs starts may in
    let steps = steps_bounded opened.sound after in
    record {
      instructions = λ q.
          let few = instructions_bounded q opened.sound after in
          let most = instructions_most (machine_of memory limit programs starts).limit (processor_of (machine_of memory limit programs starts) q) in
          omega (arith, few, most, opened.limited);
      steps = omega (arith, steps, opened.left);
    }

pub traces_are_paths : TracesArePaths
traces_are_paths memory limit programs starts s n may after q p there =
    let opened = opened_of memory limit programs starts may in
    let m : MachineState = machine_of memory limit programs starts in
    let from : ComesFrom m q [] = record { p = p; there = there; is_path = tt; stands = λ going. opened.stands q p there } in
    subst (IsCleanPath (words_of m q)) (append-nil (reverse (trace_of m s q))) (goes_on_paths q [] opened.sound after from)

-- of the steps of a call
pub run_from_opening : {m n : MachineState} {s : List Actor} → After m s n → IsRunFromOpening m s
run_from_opening {m} {n} {s} after memory limit programs starts may is =
    let from : After (machine_of memory limit programs starts) s n = subst (λ (x : MachineState). After x s n) is after in
    record {
      bounded = bounds_schedules memory limit programs starts s n may from;
      traces = subst (λ (x : MachineState). TracesAreClean x s) (sym is) (traces_are_paths memory limit programs starts s n may from);
    }
