-- VideoCore IV 3D Architecture Reference Guide, "VPM and VCD Register Summary": the values of the
-- setup registers. Their faults, and the queue of two read setups, are this project's own.
use Rattle.std.specs.Prelude.{◌≡◌, ℕ, ◌+◌, ◌%◌, ◌==◌, Option, Some, None, Result, Ok, Err, if◌then◌else◌}
use Rattle.qpu_word.specs.declared.setup.Book.{Book}
use Rattle.qpu_word.specs.declared.setup.Vectors.{Vectors}
use Rattle.qpu_word.specs.declared.setup.ReadSetup.{ReadSetup}
use Rattle.qpu_word.specs.declared.setup.ReadSetup.TheVariants.{Vectors as VpmRead, Load, Pitch}
use Rattle.qpu_word.specs.declared.setup.WriteSetup.{WriteSetup}
use Rattle.qpu_word.specs.declared.setup.WriteSetup.TheVariants.{Vectors as VpmWrite, Store, Stride}
use Rattle.qpu_word.specs.declared.fault.SetupFault.{SetupFault}
use Rattle.qpu_word.specs.declared.fault.SetupFault.TheVariants.{Size, Kind, Width, Block}
use Rattle.qpu_word.specs.declared.fault.FaultKind.{FaultKind}
use Rattle.qpu_word.specs.declared.fault.FaultKind.TheVariants.{NoSetup, SetupsFull, Setup}
use Rattle.qpu_word.specs.declared.code.TheConstants.{VPM_PLACES}
use Rattle.qpu_word.specs.Words.{field}

-- the size code of a vector setup that no elements have: 0, 1 and 2 are 8, 16 and 32 bits
abbrev pub no_size : ℕ
no_size = 3

-- the width code of a store that no elements have: 0 is 32 bits, 2 and 3 are 16 bits, 4 to 7 are 8
-- bits
abbrev pub no_width : ℕ
no_width = 1

-- what a value of the read setup register (file A address 49) is, or why it is refused
unfoldable pub read_setup : ℕ → Result ReadSetup SetupFault
read_setup value =
    if field value 30 2 == 0 then (if field value 8 2 == no_size then Err Size else Ok VpmRead)
    else if field value 30 2 == 1 then Err Kind
    else if field value 28 4 == 9 then Ok Pitch
    else Ok Load

-- what a value of the write setup register (file B address 49) is, or why it is refused
unfoldable pub write_setup : ℕ → Result WriteSetup SetupFault
write_setup value =
    if field value 30 2 == 0 then (if field value 8 2 == no_size then Err Size else Ok VpmWrite)
    else if field value 30 2 == 1 then Err Kind
    else if field value 30 2 == 2 then (if field value 0 3 == no_width then Err Width else Ok Store)
    else if field value 16 1 == 0 then Ok Stride
    else Err Block

-- a field in which 0 stands for the number above its range
abbrev pub counted : ℕ → ℕ → ℕ
counted n full = if n == 0 then full else n

-- how many vectors a VPM read setup gives, 1 to 16
abbrev pub vector_count : ℕ → ℕ
vector_count setup = counted (field setup 20 4) 16

-- a setup of vectors before its first access
abbrev pub fresh : ℕ → Vectors
fresh setup = record { setup = setup; done = 0 }

-- the book after one more VPM read setup: two may be unfinished
abbrev pub queued : Option Vectors → Option Vectors → Book → ℕ → Result Book FaultKind
queued None second book setup = Ok (record book { first = Some (fresh setup) })
queued (Some v) None book setup = Ok (record book { second = Some (fresh setup) })
queued (Some v) (Some w) book setup = Err SetupsFull

-- the book after a value of the read setup register, of a known kind
abbrev pub with_read_setup : Result ReadSetup SetupFault → Book → ℕ → Result Book FaultKind
with_read_setup (Ok VpmRead) book value = queued book.first book.second book value
with_read_setup (Ok Load) book value = Ok (record book { load = Some value })
with_read_setup (Ok Pitch) book value = Ok (record book { load_pitch = field value 0 13 })
with_read_setup (Err fault) book value = Err (Setup fault)

-- the book after a value is written to the read setup register
unfoldable pub put_read : Book → ℕ → Result Book FaultKind
put_read book value = with_read_setup (read_setup value) book value

-- the book after a value of the write setup register, of a known kind
abbrev pub with_write_setup : Result WriteSetup SetupFault → Book → ℕ → Result Book FaultKind
with_write_setup (Ok VpmWrite) book value = Ok (record book { writes = Some (fresh value) })
with_write_setup (Ok Store) book value = Ok (record book { store = Some value })
with_write_setup (Ok Stride) book value = Ok (record book { store_stride = field value 0 13 })
with_write_setup (Err fault) book value = Err (Setup fault)

-- the book after a value is written to the write setup register
unfoldable pub put_write : Book → ℕ → Result Book FaultKind
put_write book value = with_write_setup (write_setup value) book value

-- the book after a vector of the first read setup: it leaves the queue after its last
abbrev pub with_vector_read : Option Vectors → Book → Result Book FaultKind
with_vector_read None book = Err NoSetup
with_vector_read (Some v) book =
    if v.done + 1 == vector_count v.setup then Ok (record book { first = book.second; second = None })
    else Ok (record book { first = Some (record v { done = v.done + 1 }) })

-- the book after a VPM read
unfoldable pub take_vector : Book → Result Book FaultKind
take_vector book = with_vector_read book.first book

-- the book after a vector of the write setup, whose count goes on without end: its places repeat
-- after 256 accesses at most
abbrev pub with_vector_written : Option Vectors → Book → Result Book FaultKind
with_vector_written None book = Err NoSetup
with_vector_written (Some v) book = Ok (record book { writes = Some (record v { done = (v.done + 1) % VPM_PLACES }) })

-- the book after a VPM write
unfoldable pub put_vector : Book → Result Book FaultKind
put_vector book = with_vector_written book.writes book

-- a call that takes a value did what is due: the book is the new one, or the fault is given and
-- nothing changes
abbrev pub Puts : {T : Type 0} → Result T FaultKind → Result Book FaultKind → Book → Book → Type 0
Puts (Ok _) due old new = due ≡ Ok new
Puts (Err kind) due old new = (due ≡ Err kind) × (new ≡ old)
