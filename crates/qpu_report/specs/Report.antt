-- The text of a report of a final machine. This project's own.
use Rattle.std.specs.Prelude.{ℕ, ◌+◌, ◌-◌, ◌*◌, ◌/◌, ◌==◌, Bool, true, false, List, [], ◌∷◌, length, flat_map, take, drop, decimal, codes, Option, Some, None, slice_index, if◌then◌else◌}
use Rattle.std.specs.List.{list_all, range_with_len}
use Rattle.qpu_text.specs.Digits.{hex_digits}
use Rattle.qpu_io.specs.Text.{joined, in_turn, numbered, lanes_text}
use Rattle.qpu_word.specs.declared.state.Flags.{Flags}
use Rattle.qpu_word.specs.declared.state.Halt.{Halt}
use Rattle.qpu_word.specs.declared.state.Halt.TheVariants.{Going, Ended, Faulted}
use Rattle.qpu_word.specs.declared.fault.SetupFault.{SetupFault}
use Rattle.qpu_word.specs.declared.fault.SetupFault.TheVariants.{Size, Kind, Width, Block}
use Rattle.qpu_word.specs.declared.fault.FaultKind.{FaultKind}
use Rattle.qpu_word.specs.declared.fault.FaultKind.TheVariants.{Uniform, NoSetup, SetupsFull, Setup, Transfer, LookUp, Branch}
use Rattle.qpu_word.specs.declared.code.TheConstants.{VPM_ROWS, VPM_COLUMNS}
use Rattle.qpu_word.specs.Words.{fields_of}
use Rattle.qpu_word.specs.Processor.{ProcessorState}
use Rattle.qpu_shared.specs.declared.cause.Cause.{Cause}
use Rattle.qpu_shared.specs.declared.cause.Cause.TheVariants.{Mutex, Up, Down}
use Rattle.qpu_mem.specs.declared.memory.TheConstants.{GROUP}
use Rattle.qpu_shared.specs.SharedState.{SharedState}
use Rattle.qpu_shared.specs.Instruction.{is_running, first_cause}
use Rattle.qpu_machine.specs.declared.conclusion.Ending.{Ending}
use Rattle.qpu_machine.specs.declared.conclusion.Ending.TheVariants.{Done, Stuck, RanOut, Faulted as SomeFaulted}
use Rattle.qpu_machine.specs.Machine.{MachineState, words_of}
use Rattle.qpu_machine.specs.Ending.{ending_of}

-- no value of a row but 0
abbrev pub is_clear : List ℕ → Bool
is_clear values = list_all (λ n. n == 0) values

-- a line of values under a name, for a row that isn't clear
abbrev pub row_line : List ℕ → ℕ → List ℕ → List ℕ
row_line name k values =
    if is_clear values then [] else joined (name ∷ decimal k ∷ lanes_text values ∷ codes "\n" ∷ [])

-- halts

-- the name of a setup's fault
abbrev pub setup_fault_text : SetupFault → List ℕ
setup_fault_text Size = codes "Setup Size"
setup_fault_text Kind = codes "Setup Kind"
setup_fault_text Width = codes "Setup Width"
setup_fault_text Block = codes "Setup Block"

-- the name of a fault
abbrev pub fault_text : FaultKind → List ℕ
fault_text Uniform = codes "Uniform"
fault_text NoSetup = codes "NoSetup"
fault_text SetupsFull = codes "SetupsFull"
fault_text (Setup fault) = setup_fault_text fault
fault_text Transfer = codes "Transfer"
fault_text LookUp = codes "LookUp"
fault_text Branch = codes "Branch"

-- what a processor of a final machine awaits; the other causes don't come there
abbrev pub cause_text : Option Cause → List ℕ
cause_text (Some Mutex) = codes "mutex"
cause_text (Some (Up n)) = joined (codes "semaphore " ∷ decimal n ∷ codes " up" ∷ [])
cause_text (Some (Down n)) = joined (codes "semaphore " ∷ decimal n ∷ codes " down" ∷ [])
cause_text _ = []

-- what a processor that goes on awaits, or that it ran out
abbrev pub going_text : Bool → Option Cause → ℕ → List ℕ
going_text true cause place = joined (codes "awaits " ∷ cause_text cause ∷ codes " at " ∷ decimal place ∷ [])
going_text false cause place = codes "ran out"

-- how a processor stands
abbrev pub halt_text : Halt → Bool → Option Cause → ℕ → List ℕ
halt_text Going running cause place = going_text running cause place
halt_text Ended running cause place = codes "ended"
halt_text (Faulted kind at) running cause place =
    joined (codes "faulted " ∷ fault_text kind ∷ codes " at " ∷ decimal at ∷ [])

-- processors

-- how processor q of a machine stands
unfoldable pub halt_of : MachineState → ℕ → ProcessorState → List ℕ
halt_of m q p =
    halt_text p.halt (is_running m.limit p) (first_cause (fields_of (slice_index (words_of m q) p.place)) q m.shared) p.place

-- its counts, to the end of its line
unfoldable pub counts_text : ProcessorState → List ℕ
counts_text p =
    joined (codes " executed " ∷ decimal p.executed ∷ codes " interrupts " ∷ decimal p.interrupts ∷ codes "\n" ∷ [])

-- the line of a processor: its number, how it stands, and its counts
unfoldable pub processor_line : MachineState → ℕ → ProcessorState → List ℕ
processor_line m q p =
    in_turn (joined (codes "qpu " ∷ decimal q ∷ codes " " ∷ []) ∷ halt_of m q p ∷ counts_text p ∷ [])

-- the mask C, or four dashes where it is undefined
abbrev pub carry_text : Option ℕ → List ℕ
carry_text None = codes "----"
carry_text (Some c) = hex_digits 4 c

-- the line of the flags, where Z and N are defined
abbrev pub zn_line : Option (ℕ × ℕ) → Option ℕ → List ℕ
zn_line None c = []
zn_line (Some zn) c = joined (codes "flags z " ∷ hex_digits 4 zn.0 ∷ codes " n " ∷ hex_digits 4 zn.1 ∷ codes " c " ∷ carry_text c ∷ codes "\n" ∷ [])

-- the line of a processor's flags
abbrev pub flags_line : Flags → List ℕ
flags_line flags = zn_line flags.zn flags.c

-- the lines of a processor: its line, file A, file B, the accumulators, the flags
unfoldable pub processor_text : MachineState → ℕ → ProcessorState → List ℕ
processor_text m q p =
    in_turn
    (processor_line m q p
    ∷ numbered (row_line (codes "ra")) 0 p.file_a
    ∷ numbered (row_line (codes "rb")) 0 p.file_b
    ∷ numbered (row_line (codes "r")) 0 p.accumulators
    ∷ flags_line p.flags
    ∷ [])

-- the lines of a processor, where it was started
abbrev pub started_text : MachineState → ℕ → Option ProcessorState → List ℕ
started_text m q None = []
started_text m q (Some p) = processor_text m q p

-- shared parts

-- the part of a list at the k-th group of n
abbrev pub group : ℕ → List ℕ → ℕ → List ℕ
group n values k = take n (drop (n * k) values)

-- the line of a row of the VPM
abbrev pub vpm_line : List ℕ → ℕ → List ℕ
vpm_line vpm r = row_line (codes "vpm ") r (group VPM_COLUMNS vpm r)

-- the lines of the VPM's rows
unfoldable pub vpm_text : List ℕ → List ℕ
vpm_text vpm = flat_map (vpm_line vpm) (range_with_len 0 VPM_ROWS)

-- the line of a group of memory's words, with its byte address, where it isn't clear
abbrev pub memory_line : ℕ → List ℕ → List ℕ
memory_line k values =
    if is_clear values then []
    else joined (codes "mem " ∷ hex_digits 8 (4 * GROUP * k) ∷ lanes_text values ∷ codes "\n" ∷ [])

-- the line of the k-th group of memory
abbrev pub group_line : List ℕ → ℕ → List ℕ
group_line memory k = memory_line k (group GROUP memory k)

-- the lines of memory's groups; the last has what remains
unfoldable pub memory_text : List ℕ → List ℕ
memory_text memory = flat_map (group_line memory) (range_with_len 0 ((length memory + GROUP - 1) / GROUP))

-- the line of a semaphore, where its count is above 0
abbrev pub semaphore_line : ℕ → ℕ → List ℕ
semaphore_line n count =
    if count == 0 then [] else joined (codes "sem " ∷ decimal n ∷ codes " " ∷ decimal count ∷ codes "\n" ∷ [])

-- the line of the mutex, where it is held
abbrev pub mutex_line : Option ℕ → List ℕ
mutex_line None = []
mutex_line (Some q) = joined (codes "mutex " ∷ decimal q ∷ codes "\n" ∷ [])

-- the line of the ending
abbrev pub ending_line : Ending → List ℕ
ending_line Done = codes "ending done\n"
ending_line Stuck = codes "ending stuck\n"
ending_line RanOut = codes "ending ranout\n"
ending_line SomeFaulted = codes "ending faulted\n"

-- the lines of what the processors share
unfoldable pub shared_text : SharedState → List ℕ
shared_text h =
    in_turn
    (vpm_text h.vpm ∷ memory_text h.memory ∷ numbered semaphore_line 0 h.semaphores ∷ mutex_line h.mutex ∷ [])

-- the report of a final machine
unfoldable pub report_text : MachineState → List ℕ
report_text m =
    in_turn
    (codes "report\n"
    ∷ numbered (started_text m) 0 m.processors
    ∷ shared_text m.shared
    ∷ ending_line (ending_of m)
    ∷ codes "endreport\n"
    ∷ [])
