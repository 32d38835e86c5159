-- The definitions, computed on worked words. The words and their lines come from the table of worked
-- words.
use Rattle.std.proofs.Common.{◌≡◌, [], ◌∷◌, refl}
use Rattle.std.specs.Prelude.{codes}
use Rattle.qpu_word.specs.Words.{has_fault, word_fault}
use Rattle.qpu_word.specs.Form.{word_form, form_of}
use Rattle.qpu_word.specs.Operations.{add_op, mul_op}
use Rattle.qpu_word.specs.Names.{row_name, read_name, write_name}
use Rattle.qpu_text.specs.Digits.{hex_digits}
use Rattle.qpu_line.specs.declared.symbol.Symbol.TheVariants as symbol
use Rattle.qpu_line.specs.declared.name.Name.TheVariants as name
use Rattle.qpu_line.specs.Canonical.{canonical_instruction}
use Rattle.qpu_word.specs.Canonical.{keeps_rules, add_rule, mul_rule, operand_rule, flags_rule, exchange_rule, row_rule, small_rule, load_rule, semaphore_rule, branch_rule}
use Rattle.qpu_line.specs.Instructions.{instruction_of}
use Rattle.qpu_line.specs.Targets.{target_at_address}
use Rattle.qpu_line.specs.Units.{part_of, signal_of, units_of}
use Rattle.qpu_line.specs.Spellings.{spelling, register_spelling}
use Rattle.qpu_line.specs.Lines.{line_bits, units_bits}
use Rattle.qpu_dis.specs.Text.{bits_text, canonical_line, disassembly}
use Rattle.qpu_dis.specs.Tokens.{bits_written, line_written}

or_line : canonical_line 0x1002082715827d80 ≡ codes "or r0, unif, unif"
unfolding canonical_line bits_text line_bits units_bits spelling register_spelling read_name write_name row_name add_op mul_op canonical_instruction word_form word_fault has_fault form_of keeps_rules add_rule mul_rule operand_rule flags_rule exchange_rule row_rule small_rule load_rule semaphore_rule branch_rule instruction_of units_of part_of signal_of target_at_address
or_line = refl

end_line : canonical_line 0x300009e7009e7000 ≡ codes "nop; thrend"
unfolding canonical_line bits_text line_bits units_bits spelling register_spelling read_name write_name row_name add_op mul_op canonical_instruction word_form word_fault has_fault form_of keeps_rules add_rule mul_rule operand_rule flags_rule exchange_rule row_rule small_rule load_rule semaphore_rule branch_rule instruction_of units_of part_of signal_of target_at_address
end_line = refl

other_line : canonical_line 0x100009e7009e7001 ≡ codes ".word 0x100009e7009e7001"
unfolding canonical_line canonical_instruction word_form word_fault has_fault form_of keeps_rules add_rule mul_rule operand_rule flags_rule exchange_rule row_rule small_rule load_rule semaphore_rule branch_rule instruction_of units_of part_of signal_of target_at_address hex_digits
other_line = refl

pub worked_text : disassembly (0x1002082715827d80 ∷ 0x300009e7009e7000 ∷ 0x100009e7009e7001 ∷ [])
    ≡ codes "or r0, unif, unif\nnop; thrend\n.word 0x100009e7009e7001\n"
unfolding disassembly
worked_text = rw (or_line, end_line, other_line) refl

-- the symbols of a line
end_written : line_written 0x300009e7009e7000 ≡ symbol.Name name.Nop ∷ symbol.Semicolon ∷ symbol.Name name.End ∷ []
unfolding line_written bits_written line_bits units_bits canonical_instruction word_form word_fault has_fault form_of keeps_rules add_rule mul_rule operand_rule flags_rule exchange_rule row_rule small_rule load_rule semaphore_rule branch_rule instruction_of units_of part_of signal_of target_at_address
end_written = refl

other_written : line_written 0x100009e7009e7001 ≡ symbol.Dot ∷ symbol.Name name.Word ∷ symbol.Number 0x100009e7009e7001 ∷ []
unfolding line_written canonical_instruction word_form word_fault has_fault form_of keeps_rules add_rule mul_rule operand_rule flags_rule exchange_rule row_rule small_rule load_rule semaphore_rule branch_rule instruction_of units_of part_of signal_of target_at_address
other_written = refl
