-- Local steps of a processor away from its machine.
use Rattle.std.proofs.Common.{◌≡◌, ◌≢◌, ◌<◌, ◌≤◌, ◌+◌, ℕ, suc, true, false, List, [], length, refl, sym, subst, arith}
use Rattle.std.specs.Prelude.{slice_index}
use Rattle.std.proofs.lemmas.Bool.Decides.{nat_tests}
use Rattle.qpu_word.specs.Processor.{ProcessorState}
use Rattle.qpu_shared.specs.Instruction.{pending_of}
use Rattle.qpu_machine.specs.Kept.{IsKeptAlone}
use Rattle.qpu_machine.specs.Local.{is_local_next, LocalSteps, none, one_more, IsOwnAfter, IsStretched}
use Rattle.qpu_machine.specs.Machine.{MachineState, words_of}
use Rattle.qpu_machine.specs.Others.{KeepsOthers}
use Rattle.qpu_machine.specs.Serial.{Stretch, stops}
use Rattle.qpu_machine.specs.Sound.{IsSoundMachine}
use Rattle.qpu_machine.proofs.LocalLemmas.{own_before, kept_steps, local_has_none}
use Rattle.qpu_machine.proofs.InPlaceLemmas.{own_of}
use Rattle.qpu_machine.proofs.ScheduleLemmas.{started_there}

-- one after another
pub steps_then : {words : List ℕ} {limit : ℕ} {p r s : ProcessorState} {n k : ℕ} → LocalSteps words limit p n r → LocalSteps words limit r k s → LocalSteps words limit p (n + k) s
steps_then {words} {limit} {p} {r} {n = n} first none = let same : n + 0 ≡ n = omega arith in subst (λ i. LocalSteps words limit p i r) (sym same) first
steps_then {words} {limit} {p} {s = s} {n = n} first (one_more {n = j} before next is) =
    let same : n + suc j ≡ suc (n + j) = omega arith in subst (λ i. LocalSteps words limit p i s) (sym same) (one_more (steps_then first before) next is)

next_within : (words : List ℕ) (few limit : ℕ) (p : ProcessorState) → few ≤ limit → is_local_next words few p ≡ true → is_local_next words limit p ≡ true
next_within words few limit p less next = grind (arith, nat_tests)

-- under a smaller limit they are local steps too
pub steps_within : {words : List ℕ} {few limit : ℕ} {p r : ProcessorState} {n : ℕ} → few ≤ limit → LocalSteps words few p n r → LocalSteps words limit p n r
steps_within less none = none
steps_within {words} {few} {limit} less (one_more {r = r} before next is) = one_more (steps_within less before) (next_within words few limit r less next) is

-- they are of a program of the list, and leave the processor on a path of it
pub own_there : (m : MachineState) (q : ℕ) (p : ProcessorState) (n : ℕ) → IsSoundMachine m → IsOwnAfter m q p n → slice_index m.program_of q < length m.programs
own_there m q p n sound own = let o = own_before m q p n own in (started_there m q o.0 sound o.1).program

pub own_ready : (m : MachineState) (q : ℕ) (p : ProcessorState) (n : ℕ) → IsSoundMachine m → IsOwnAfter m q p n → IsKeptAlone (words_of m q) p
own_ready m q p n sound own =
    let o = own_before m q p n own in
    let started = started_there m q o.0 sound o.1 in
    let looks = (pending_of m.shared q).looks in
    (looks, kept_steps looks started.clean started.kept o.2)

-- more of them
pub own_then : (m : MachineState) (q : ℕ) (p r : ProcessorState) (n k : ℕ) → IsOwnAfter m q p n → LocalSteps (words_of m q) m.limit p k r → IsOwnAfter m q r (n + k)
own_then m q p r n k own more = let o = own_before m q p n own in own_of m q o.0 r (n + k) o.1 (steps_then o.2 more)

-- where the other processors are kept, so is what is away of one of them
pub back_kept : {q : ℕ} {m n : MachineState} (r : ℕ) (p : ProcessorState) (k : ℕ) → KeepsOthers q m n → r ≢ q → IsStretched m r p k → IsStretched n r p k
back_kept {q} {m} {n} r p k keeps apart back = record {
  own = rw (keeps.others r apart, keeps.programs, keeps.program_of, keeps.limit) back.own;
  stops = rw (keeps.programs, keeps.program_of, keeps.limit) back.stops;
}

none_taken : {words : List ℕ} {limit : ℕ} {p r : ProcessorState} {n : ℕ} → LocalSteps words limit p n r → n ≡ 0 → p ≡ r
none_taken none is = refl
none_taken (one_more before next step) is = absurd (omega (arith, is))

-- a stretch of no steps is one of the machine
pub stretched_none : (m : MachineState) (q : ℕ) (p : ProcessorState) (n : ℕ) → IsStretched m q p n → n ≡ 0 → Stretch q m [] m
stretched_none m q p n back is =
    let o = own_before m q p n back.own in
    stops (local_has_none m q o.0 o.1 (subst (λ x. is_local_next (words_of m q) m.limit x ≡ false) (sym (none_taken o.2 is)) back.stops))
