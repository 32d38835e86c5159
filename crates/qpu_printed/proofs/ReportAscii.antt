-- The report of a machine is ASCII.
use Rattle.std.proofs.Common.{◌+◌, ◌-◌, ◌*◌, ◌/◌, ℕ, Bool, true, false, List, [], ◌∷◌, length, Option, Some, None, refl}
use Rattle.std.specs.Prelude.{◌==◌, decimal, codes, slice_index}
use Rattle.std.specs.List.{range_with_len}
use Rattle.qpu_text.specs.Digits.{hex_digits}
use Rattle.qpu_io.specs.Text.{joined, numbered, lanes_text}
use Rattle.qpu_word.specs.declared.state.Halt.{Halt}
use Rattle.qpu_word.specs.declared.state.Halt.TheVariants.{Going, Ended, Faulted}
use Rattle.qpu_word.specs.declared.fault.SetupFault.{SetupFault}
use Rattle.qpu_word.specs.declared.fault.SetupFault.TheVariants.{Size, Kind, Width, Block}
use Rattle.qpu_word.specs.declared.fault.FaultKind.{FaultKind}
use Rattle.qpu_word.specs.declared.fault.FaultKind.TheVariants.{Uniform, NoSetup, SetupsFull, Setup, Transfer, LookUp, Branch}
use Rattle.qpu_word.specs.declared.code.TheConstants.{VPM_ROWS}
use Rattle.qpu_word.specs.Words.{fields_of}
use Rattle.qpu_word.specs.Processor.{ProcessorState}
use Rattle.qpu_mem.specs.declared.memory.TheConstants.{GROUP}
use Rattle.qpu_shared.specs.declared.cause.Cause.{Cause}
use Rattle.qpu_shared.specs.declared.cause.Cause.TheVariants as cause
use Rattle.qpu_shared.specs.SharedState.{SharedState}
use Rattle.qpu_shared.specs.Instruction.{is_running, first_cause}
use Rattle.qpu_machine.specs.declared.conclusion.Ending.{Ending}
use Rattle.qpu_machine.specs.declared.conclusion.Ending.TheVariants as ending
use Rattle.qpu_machine.specs.Machine.{MachineState, words_of}
use Rattle.qpu_machine.specs.Ending.{ending_of}
use Rattle.qpu_report.specs.Report.{is_clear, row_line, setup_fault_text, fault_text, cause_text, going_text, halt_text, halt_of, counts_text, processor_line, carry_text, zn_line, flags_line, processor_text, started_text, group, vpm_line, vpm_text, memory_line, group_line, memory_text, semaphore_line, mutex_line, ending_line, shared_text, report_text}
use Rattle.qpu_printed.specs.Ascii.{ReportsAreAscii}
use Rattle.qpu_printed.proofs.AsciiLemmas.{IsLow, all_low, low_joined, low_in_turn, low_numbered, low_flat_map, low_unless, low_decimal, low_hex, low_lanes}

low_row : (name : List ℕ) (k : ℕ) (values : List ℕ) → IsLow name → IsLow (row_line name k values)
low_row name k values low =
    low_unless (is_clear values) (joined (name ∷ decimal k ∷ lanes_text values ∷ codes "\n" ∷ []))
    (low_joined (name ∷ decimal k ∷ lanes_text values ∷ codes "\n" ∷ []) (low, (low_decimal k, (low_lanes values, (refl, tt)))))

-- halts

low_setup_fault : (fault : SetupFault) → IsLow (setup_fault_text fault)
low_setup_fault Size = refl
low_setup_fault Kind = refl
low_setup_fault Width = refl
low_setup_fault Block = refl

low_fault : (kind : FaultKind) → IsLow (fault_text kind)
low_fault Uniform = refl
low_fault NoSetup = refl
low_fault SetupsFull = refl
low_fault (Setup fault) = low_setup_fault fault
low_fault Transfer = refl
low_fault LookUp = refl
low_fault Branch = refl

low_one_cause : (cause : Cause) → IsLow (cause_text (Some cause))
low_one_cause cause.Mutex = refl
low_one_cause (cause.Up n) = low_joined (codes "semaphore " ∷ decimal n ∷ codes " up" ∷ []) (refl, (low_decimal n, (refl, tt)))
low_one_cause (cause.Down n) = low_joined (codes "semaphore " ∷ decimal n ∷ codes " down" ∷ []) (refl, (low_decimal n, (refl, tt)))
low_one_cause _ = refl

low_cause : (cause : Option Cause) → IsLow (cause_text cause)
low_cause None = refl
low_cause (Some cause) = low_one_cause cause

low_going : (running : Bool) (cause : Option Cause) (place : ℕ) → IsLow (going_text running cause place)
low_going true cause place =
    low_joined (codes "awaits " ∷ cause_text cause ∷ codes " at " ∷ decimal place ∷ []) (refl, (low_cause cause, (refl, (low_decimal place, tt))))
low_going false cause place = refl

low_halt : (halt : Halt) (running : Bool) (cause : Option Cause) (place : ℕ) → IsLow (halt_text halt running cause place)
low_halt Going running cause place = low_going running cause place
low_halt Ended running cause place = refl
low_halt (Faulted kind at) running cause place =
    low_joined (codes "faulted " ∷ fault_text kind ∷ codes " at " ∷ decimal at ∷ []) (refl, (low_fault kind, (refl, (low_decimal at, tt))))

-- processors

low_halt_of : (m : MachineState) (q : ℕ) (p : ProcessorState) → IsLow (halt_of m q p)
unfolding halt_of
low_halt_of m q p =
    low_halt p.halt (is_running m.limit p) (first_cause (fields_of (slice_index (words_of m q) p.place)) q m.shared) p.place

low_counts : (p : ProcessorState) → IsLow (counts_text p)
unfolding counts_text
low_counts p =
    low_joined (codes " executed " ∷ decimal p.executed ∷ codes " interrupts " ∷ decimal p.interrupts ∷ codes "\n" ∷ [])
    (refl, (low_decimal p.executed, (refl, (low_decimal p.interrupts, (refl, tt)))))

low_line : (m : MachineState) (q : ℕ) (p : ProcessorState) → IsLow (processor_line m q p)
unfolding processor_line
low_line m q p =
    low_in_turn (joined (codes "qpu " ∷ decimal q ∷ codes " " ∷ []) ∷ halt_of m q p ∷ counts_text p ∷ [])
    (low_joined (codes "qpu " ∷ decimal q ∷ codes " " ∷ []) (refl, (low_decimal q, (refl, tt))), (low_halt_of m q p, (low_counts p, tt)))

low_carry : (c : Option ℕ) → IsLow (carry_text c)
low_carry None = refl
low_carry (Some c) = low_hex 4 c

low_flags : (zn : Option (ℕ × ℕ)) (c : Option ℕ) → IsLow (zn_line zn c)
low_flags None c = refl
low_flags (Some zn) c =
    low_joined (codes "flags z " ∷ hex_digits 4 zn.0 ∷ codes " n " ∷ hex_digits 4 zn.1 ∷ codes " c " ∷ carry_text c ∷ codes "\n" ∷ [])
    (refl, (low_hex 4 zn.0, (refl, (low_hex 4 zn.1, (refl, (low_carry c, (refl, tt)))))))

low_processor : (m : MachineState) (q : ℕ) (p : ProcessorState) → IsLow (processor_text m q p)
unfolding processor_text
low_processor m q p =
    low_in_turn
    (processor_line m q p ∷ numbered (row_line (codes "ra")) 0 p.file_a ∷ numbered (row_line (codes "rb")) 0 p.file_b ∷ numbered (row_line (codes "r")) 0 p.accumulators ∷ flags_line p.flags ∷ []) (
      low_line m q p,
      (
        low_numbered (row_line (codes "ra")) 0 p.file_a (λ k row. low_row (codes "ra") k row refl),
        (
          low_numbered (row_line (codes "rb")) 0 p.file_b (λ k row. low_row (codes "rb") k row refl),
          (low_numbered (row_line (codes "r")) 0 p.accumulators (λ k row. low_row (codes "r") k row refl), (low_flags p.flags.zn p.flags.c, tt)),
        ),
      ),
    )

low_started : (m : MachineState) (q : ℕ) (p : Option ProcessorState) → IsLow (started_text m q p)
low_started m q None = refl
low_started m q (Some p) = low_processor m q p

-- shared parts

low_vpm : (vpm : List ℕ) → IsLow (vpm_text vpm)
unfolding vpm_text
low_vpm vpm = low_flat_map (vpm_line vpm) (range_with_len 0 VPM_ROWS) (λ r. low_row (codes "vpm ") r (group 16 vpm r) refl)

low_group : (k : ℕ) (values : List ℕ) → IsLow (memory_line k values)
low_group k values =
    low_unless (is_clear values) (joined (codes "mem " ∷ hex_digits 8 (4 * GROUP * k) ∷ lanes_text values ∷ codes "\n" ∷ []))
    (low_joined (codes "mem " ∷ hex_digits 8 (4 * GROUP * k) ∷ lanes_text values ∷ codes "\n" ∷ []) (refl, (low_hex 8 (4 * GROUP * k), (low_lanes values, (refl, tt)))))

low_memory : (memory : List ℕ) → IsLow (memory_text memory)
unfolding memory_text
low_memory memory =
    low_flat_map (group_line memory) (range_with_len 0 ((length memory + GROUP - 1) / GROUP)) (λ k. low_group k (group GROUP memory k))

low_semaphore : (n count : ℕ) → IsLow (semaphore_line n count)
low_semaphore n count =
    low_unless (count == 0) (joined (codes "sem " ∷ decimal n ∷ codes " " ∷ decimal count ∷ codes "\n" ∷ []))
    (low_joined (codes "sem " ∷ decimal n ∷ codes " " ∷ decimal count ∷ codes "\n" ∷ []) (refl, (low_decimal n, (refl, (low_decimal count, (refl, tt))))))

low_mutex : (holder : Option ℕ) → IsLow (mutex_line holder)
low_mutex None = refl
low_mutex (Some q) = low_joined (codes "mutex " ∷ decimal q ∷ codes "\n" ∷ []) (refl, (low_decimal q, (refl, tt)))

low_ending : (ending : Ending) → IsLow (ending_line ending)
low_ending ending.Done = refl
low_ending ending.Stuck = refl
low_ending ending.RanOut = refl
low_ending ending.Faulted = refl

low_shared : (h : SharedState) → IsLow (shared_text h)
unfolding shared_text
low_shared h =
    low_in_turn (vpm_text h.vpm ∷ memory_text h.memory ∷ numbered semaphore_line 0 h.semaphores ∷ mutex_line h.mutex ∷ [])
    (low_vpm h.vpm, (low_memory h.memory, (low_numbered semaphore_line 0 h.semaphores low_semaphore, (low_mutex h.mutex, tt))))

pub low_report : (m : MachineState) → IsLow (report_text m)
unfolding report_text
low_report m =
    low_in_turn (codes "report\n" ∷ numbered (started_text m) 0 m.processors ∷ shared_text m.shared ∷ ending_line (ending_of m) ∷ codes "endreport\n" ∷ [])
    (refl, (low_numbered (started_text m) 0 m.processors (low_started m), (low_shared m.shared, (low_ending (ending_of m), (refl, tt)))))

pub reports_ascii : ReportsAreAscii
reports_ascii m = all_low (report_text m) (low_report m)
