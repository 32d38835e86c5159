-- What a shared word finds, and what a call that does it answers. This project's own.
use Rattle.std.specs.Prelude.{◌≡◌, ◌≢◌, ◌<◌, ℕ, Bool, true, false, length, Option, Some, None}
use Rattle.qpu_word.specs.declared.word.Fields.{Fields}
use Rattle.qpu_word.specs.declared.code.TheConstants.{NOWHERE, LOOK_UPS}
use Rattle.qpu_word.specs.Processor.{ProcessorState}
use Rattle.qpu_word.specs.Words.{fields_of, IsInProfile}
use Rattle.qpu_word.specs.Instruction.{halted, look_address, look_unit_of}
use Rattle.qpu_shared.specs.declared.did.Did.{Did}
use Rattle.qpu_shared.specs.declared.did.Did.TheVariants.{Stepped, Awaits as ItAwaits, Faulted as ItFaulted}
use Rattle.qpu_shared.specs.declared.pending.Pending.{Pending}
use Rattle.qpu_shared.specs.SharedState.{SharedState}
use Rattle.qpu_shared.specs.Instruction.{Outcome, Awaits, Faults, Done, looks_of}

-- the fields of some word of the profile
abbrev pub AreOfProfile : Fields → Type 0
AreOfProfile f = (word : ℕ) × (f ≡ fields_of word) × IsInProfile word

-- a word that issues a look-up finds room for it
abbrev pub HasRoom : Fields → Pending → Type 0
HasRoom f pending = look_address f ≢ NOWHERE → length (looks_of pending (look_unit_of f)) < LOOK_UPS

-- a call answered and did what an instruction comes to, of a processor and the shared parts before
-- it and after it: the whole instruction; or nothing, since it awaits; or its fault, and the halt
-- alone changed
abbrev pub Does : Did → Outcome → ProcessorState → SharedState → ProcessorState → SharedState → Type 0
Does Stepped due p h after left = due ≡ Done after left
Does (ItAwaits cause) due p h after left = (due ≡ Awaits cause) × (after ≡ p) × (left ≡ h)
Does (ItFaulted kind) due p h after left = (due ≡ Faults kind) × (after ≡ halted kind p) × (left ≡ h)

-- a call answered and made a move, from the shared parts before it to those after it; or there was
-- none to make, and nothing changed
abbrev pub Moves : Bool → Option SharedState → SharedState → SharedState → Type 0
Moves true due h left = due ≡ Some left
Moves false due h left = (due ≡ None) × (left ≡ h)
