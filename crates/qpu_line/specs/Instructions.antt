-- This project's own: the instruction of a word's fields by its form, and the canonical word of an
-- instruction.
use Rattle.std.specs.Prelude.{ℕ}
use Rattle.qpu_word.specs.declared.word.Fields.{Fields}
use Rattle.qpu_word.specs.declared.form.Form.{Form}
use Rattle.qpu_word.specs.declared.form.Form.TheVariants.{Alu, Small, Load32, LoadSigned, LoadUnsigned, Semaphore as SemaphoreForm, Branch as BranchForm}
use Rattle.qpu_line.specs.declared.instruction.Instruction.{Instruction}
use Rattle.qpu_line.specs.declared.instruction.Instruction.TheVariants.{Both, Load, Semaphore, Branch}
use Rattle.qpu_line.specs.Semaphores.{semaphore_of, semaphore_word}
use Rattle.qpu_line.specs.Loads.{load_of, load_word}
use Rattle.qpu_line.specs.Branches.{branch_of, branch_instruction_word}
use Rattle.qpu_line.specs.Slots.{unit_fields, units_word}
use Rattle.qpu_line.specs.Units.{units_of, fields_of_units}

-- the instruction of a word's fields, by the word's form
unfoldable pub instruction_of : Form → Fields → Instruction
instruction_of Alu f = Both (units_of (unit_fields f))
instruction_of Small f = Both (units_of (unit_fields f))
instruction_of Load32 f = Load (load_of f)
instruction_of LoadSigned f = Load (load_of f)
instruction_of LoadUnsigned f = Load (load_of f)
instruction_of SemaphoreForm f = Semaphore (semaphore_of f)
instruction_of BranchForm f = Branch (branch_of f)

-- the canonical word of an instruction
unfoldable pub word_of : Instruction → ℕ
word_of (Both u) = units_word (fields_of_units u)
word_of (Load l) = load_word l
word_of (Semaphore s) = semaphore_word s
word_of (Branch b) = branch_instruction_word b
