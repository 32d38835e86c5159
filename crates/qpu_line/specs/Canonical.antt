-- This project's own: the instruction of a canonical word.
use Rattle.std.specs.Prelude.{ℕ, Option, Some, None, Result, Ok, Err, if◌then◌else◌}
use Rattle.qpu_word.specs.declared.word.Fields.{Fields}
use Rattle.qpu_word.specs.declared.form.Form.{Form}
use Rattle.qpu_word.specs.declared.fault.WordFault.{WordFault}
use Rattle.qpu_word.specs.Words.{fields_of}
use Rattle.qpu_word.specs.Form.{word_form}
use Rattle.qpu_word.specs.Canonical.{keeps_rules}
use Rattle.qpu_line.specs.declared.instruction.Instruction.{Instruction}
use Rattle.qpu_line.specs.Instructions.{instruction_of}

-- the instruction of a canonical word
abbrev pub read_by : Result Form WordFault → Fields → Option Instruction
read_by (Ok form) f = if keeps_rules f then Some (instruction_of form f) else None
read_by (Err fault) f = None

unfoldable pub canonical_instruction : ℕ → Option Instruction
canonical_instruction word = read_by (word_form word) (fields_of word)
