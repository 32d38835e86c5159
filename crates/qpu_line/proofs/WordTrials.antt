-- The definitions, computed on worked words of each form. The words and their lines come from the
-- table of worked words.
use Rattle.std.proofs.Common.{◌≡◌, true, false, Some, None, refl}
use Rattle.qpu_word.specs.declared.name.Place.TheVariants.{Both as Anywhere, FileB as InB}
use Rattle.qpu_word.specs.Words.{has_fault, word_fault}
use Rattle.qpu_word.specs.Form.{word_form, form_of}
use Rattle.qpu_line.specs.declared.operand.Operand.TheVariants.{Accumulator, Small}
use Rattle.qpu_line.specs.declared.load.LoadKind.TheVariants.{Whole}
use Rattle.qpu_line.specs.declared.units.Signal.TheVariants.{Nothing, Rotate}
use Rattle.qpu_line.specs.declared.instruction.Instruction.{Instruction}
use Rattle.qpu_line.specs.declared.instruction.Instruction.TheVariants.{Both, Branch, Load, Semaphore}
use Rattle.qpu_word.specs.Canonical.{keeps_rules, add_rule, mul_rule, operand_rule, flags_rule, exchange_rule, row_rule, small_rule, load_rule, semaphore_rule, branch_rule}
use Rattle.qpu_line.specs.Canonical.{canonical_instruction}
use Rattle.qpu_line.specs.Instructions.{instruction_of, word_of}
use Rattle.qpu_line.specs.Slots.{units_word}
use Rattle.qpu_line.specs.Targets.{target_at_address}
use Rattle.qpu_line.specs.Units.{part_of, signal_of, units_of, fields_of_units}

-- nop
abbrev nop : Instruction
nop = Both (record { add = None; mul = None; sets = false; signal = Nothing; other_a = None; other_b = None })

nop_read : canonical_instruction 0x100009e7009e7000 ≡ Some nop
unfolding canonical_instruction word_form word_fault has_fault form_of keeps_rules add_rule mul_rule operand_rule flags_rule exchange_rule row_rule small_rule load_rule semaphore_rule branch_rule instruction_of units_of part_of signal_of target_at_address
nop_read = refl

nop_written : word_of nop ≡ 0x100009e7009e7000
unfolding word_of fields_of_units units_word
nop_written = refl

-- nop with a mux of the idle mul unit
pub no_nop : canonical_instruction 0x100009e7009e7001 ≡ None
unfolding canonical_instruction word_form word_fault has_fault form_of keeps_rules add_rule mul_rule operand_rule flags_rule exchange_rule row_rule small_rule load_rule semaphore_rule branch_rule instruction_of units_of part_of signal_of target_at_address
no_nop = refl

-- add r1, r0, 4
abbrev add_4 : Instruction
add_4 =
    Both (record {
      add = Some (record { op = 12; cond = 1; to = Anywhere 33; pack = 0; a = Accumulator 0; b = Small 4 });
      mul = None;
      sets = false;
      signal = Nothing;
      other_a = None;
      other_b = None;
    })

add_read : canonical_instruction 0xd00208670c9c41c0 ≡ Some add_4
unfolding canonical_instruction word_form word_fault has_fault form_of keeps_rules add_rule mul_rule operand_rule flags_rule exchange_rule row_rule small_rule load_rule semaphore_rule branch_rule instruction_of units_of part_of signal_of target_at_address
add_read = refl

add_written : word_of add_4 ≡ 0xd00208670c9c41c0
unfolding word_of fields_of_units units_word
add_written = refl

-- nop; v8min r1, r0, r0; rot 1
abbrev turned : Instruction
turned =
    Both (record {
      add = None;
      mul = Some (record { op = 4; cond = 1; to = Anywhere 33; pack = 0; a = Accumulator 0; b = Accumulator 0 });
      sets = false;
      signal = Rotate 49;
      other_a = None;
      other_b = None;
    })

turned_read : canonical_instruction 0xd00049e1809f1000 ≡ Some turned
unfolding canonical_instruction word_form word_fault has_fault form_of keeps_rules add_rule mul_rule operand_rule flags_rule exchange_rule row_rule small_rule load_rule semaphore_rule branch_rule instruction_of units_of part_of signal_of target_at_address
turned_read = refl

-- ldi vw_setup, 0x00001a00
abbrev setup : Instruction
setup = Load (record { kind = Whole; sets = false; add = Some (record { cond = 1; to = InB 49 }); mul = None; immediate = 0x1a00 })

setup_read : canonical_instruction 0xe0021c6700001a00 ≡ Some setup
unfolding canonical_instruction word_form word_fault has_fault form_of keeps_rules add_rule mul_rule operand_rule flags_rule exchange_rule row_rule small_rule load_rule semaphore_rule branch_rule instruction_of target_at_address
setup_read = refl

setup_written : word_of setup ≡ 0xe0021c6700001a00
unfolding word_of
setup_written = refl

-- brr.anynz -, -112
abbrev back : Instruction
back = Branch (record { cond = 3; relative = true; register = None; add = Anywhere 39; mul = Anywhere 39; immediate = 0xffffff90 })

back_read : canonical_instruction 0xf03809e7ffffff90 ≡ Some back
unfolding canonical_instruction word_form word_fault has_fault form_of keeps_rules add_rule mul_rule operand_rule flags_rule exchange_rule row_rule small_rule load_rule semaphore_rule branch_rule instruction_of target_at_address
back_read = refl

back_written : word_of back ≡ 0xf03809e7ffffff90
unfolding word_of
back_written = refl

-- sdec 3
abbrev down_3 : Instruction
down_3 = Semaphore (record { down = true; number = 3 })

down_read : canonical_instruction 0xe80009e700000013 ≡ Some down_3
unfolding canonical_instruction word_form word_fault has_fault form_of keeps_rules add_rule mul_rule operand_rule flags_rule exchange_rule row_rule small_rule load_rule semaphore_rule branch_rule instruction_of
down_read = refl

down_written : word_of down_3 ≡ 0xe80009e700000013
unfolding word_of
down_written = refl
