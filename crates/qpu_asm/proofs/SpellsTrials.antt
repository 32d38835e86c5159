-- The grammar of lines, tried on worked lines: some that spell an instruction, by its rules, and some that spell none.
use Rattle.std.proofs.Common.{◌≡◌, ℕ, ◌+◌, true, false, List, [], ◌∷◌, Some, None, Result, Ok, Err, refl, sym, ◌∙◌, arith}
use Rattle.qpu_token.specs.declared.token.Token.{Token}
use Rattle.qpu_token.specs.declared.token.TokenKind.TheVariants as kind
use Rattle.qpu_token.specs.declared.fault.AsmFault.{AsmFault}
use Rattle.qpu_token.specs.declared.fault.AsmKind.TheVariants.{TwoImmediates, Label as NoLabel, Range}
use Rattle.qpu_word.specs.declared.operation.AddOp.TheVariants as add
use Rattle.qpu_word.specs.declared.operation.MulOp.TheVariants as mul
use Rattle.qpu_word.specs.declared.name.Place.TheVariants as place
use Rattle.qpu_word.specs.Operands.{small_value}
use Rattle.qpu_line.specs.declared.operand.Operand.TheVariants as operand
use Rattle.qpu_line.specs.declared.load.LoadKind.TheVariants.{Whole}
use Rattle.qpu_line.specs.declared.units.Signal.TheVariants as signal
use Rattle.qpu_line.specs.declared.units.Units.{Units}
use Rattle.qpu_line.specs.declared.instruction.Instruction.{Instruction}
use Rattle.qpu_line.specs.declared.name.Name.TheVariants as name
use Rattle.qpu_line.specs.declared.name.Register.TheVariants as register
use Rattle.qpu_line.specs.declared.symbol.Symbol.{Symbol}
use Rattle.qpu_line.specs.declared.symbol.Symbol.TheVariants as symbol
use Rattle.qpu_asm.specs.declared.placed.Placed.{Placed}
use Rattle.qpu_asm.specs.declared.line.Line.{Line}
use Rattle.qpu_asm.specs.declared.line.Line.TheVariants.{Says}
use Rattle.qpu_asm.specs.reader.LinesRead.{read_line, instruction_line}
use Rattle.qpu_asm.specs.reader.Sections.{sections_of, parts_of}
use Rattle.qpu_asm.specs.reader.Orders.{due}
use Rattle.qpu_asm.specs.reader.Parts.{suffixes_at, two_operands, unit_part, branch_part, last_value, part_by}
use Rattle.qpu_asm.specs.reader.Pieces.{target_core, value_core, jump_core, operand_core, target_at, operand_at}
use Rattle.qpu_asm.specs.Roles.{code_of}
use Rattle.qpu_asm.specs.reader.Marks.{suffix_marks, target_marks, operand_marks, unit_marks, jumping_marks, part_marks, marks_of}
use Rattle.qpu_asm.specs.reader.Judging.{fault_of_kind, line_fault}
use Rattle.qpu_asm.specs.SpelledPieces.IsName.{unknown}
use Rattle.qpu_asm.specs.SpelledPieces.SpellsNumber.{number}
use Rattle.qpu_asm.specs.SpelledPieces.SpellsTarget.{nowhere, named as target_named}
use Rattle.qpu_asm.specs.SpelledPieces.SpellsCondition.{always, dropped}
use Rattle.qpu_asm.specs.SpelledPieces.SpellsFlags.{kept, set}
use Rattle.qpu_asm.specs.SpelledPieces.SpellsBranchCondition.{always as branch_always}
use Rattle.qpu_asm.specs.SpelledPieces.SpellsPack.{whole}
use Rattle.qpu_asm.specs.SpelledPieces.SpellsOperand.{named as operand_named, small}
use Rattle.qpu_asm.specs.SpelledPieces.SpellsOperands.{two}
use Rattle.qpu_asm.specs.SpelledPieces.SpellsJump.{label}
use Rattle.qpu_asm.specs.Spells.{SpellsUnits, SpellsLoad, SpellsBranch, Spells}
use Rattle.qpu_asm.specs.Spells.SpellsUnit.{unit}
use Rattle.qpu_asm.specs.Spells.SpellsAdd.{idle as add_idle, active as add_active}
use Rattle.qpu_asm.specs.Spells.SpellsMul.{absent, active as mul_active}
use Rattle.qpu_asm.specs.Spells.SpellsSignal.{rotate}
use Rattle.qpu_asm.specs.Spells.SpellsOthers.{none, signals}
use Rattle.qpu_asm.specs.Spells.IsOther.{other}
use Rattle.qpu_asm.specs.Spells.SpellsUnits.{units}
use Rattle.qpu_asm.specs.Spells.SpellsAlso.{also}
use Rattle.qpu_asm.specs.Spells.SpellsLoad.{load}
use Rattle.qpu_asm.specs.Spells.SpellsLinks.{none as no_links}
use Rattle.qpu_asm.specs.Spells.SpellsBranch.{branch}
use Rattle.qpu_asm.proofs.ReadLaw.{parts_read}

abbrev pub r : ℕ → Symbol
r n = symbol.Name (name.Register (register.Accumulator n))

-- sub.setf r3, r3, 1
abbrev pub sub_symbols : List Symbol
sub_symbols = symbol.Name (name.Add add.Sub) ∷ symbol.Dot ∷ symbol.Name name.SetFlags ∷ r 3 ∷ symbol.Comma ∷ r 3 ∷ symbol.Comma ∷ symbol.Number 1 ∷ []

abbrev sub_units : Units
sub_units = record {
  add = Some (record { op = 13; cond = 1; to = place.Both 35; pack = 0; a = operand.Accumulator 3; b = operand.Small 1 });
  mul = None;
  sets = true;
  signal = signal.Nothing;
  other_a = None;
  other_b = None;
}

pub sub_spelled : SpellsUnits (sub_symbols ∷ []) sub_units
unfolding small_value
sub_spelled = units (add_active (unit refl always set (target_named refl) whole (two (operand_named refl) (small {code = 1} (omega arith) number)))) absent none other other

-- nop; v8min r1, r0, r0; rot 1
abbrev pub min_symbols : List Symbol
min_symbols = symbol.Name (name.Mul mul.V8min) ∷ r 1 ∷ symbol.Comma ∷ r 0 ∷ symbol.Comma ∷ r 0 ∷ []

abbrev min_units : Units
min_units = record {
  add = None;
  mul = Some (record { op = 4; cond = 1; to = place.Both 33; pack = 0; a = operand.Accumulator 0; b = operand.Accumulator 0 });
  sets = false;
  signal = signal.Rotate 49;
  other_a = None;
  other_b = None;
}

pub min_spelled : SpellsUnits ((symbol.Name name.Nop ∷ []) ∷ min_symbols ∷ (symbol.Name name.Rotate ∷ symbol.Number 1 ∷ []) ∷ []) min_units
min_spelled =
    units add_idle (mul_active (unit refl always kept (target_named refl) whole (two (operand_named refl) (operand_named refl))) refl) (signals (rotate number refl) none) other other

-- ldi.ifz -, 5; also r0
pub load_spelled : SpellsLoad ((symbol.Name (name.Load Whole) ∷ symbol.Dot ∷ symbol.Name (name.Condition 2) ∷ symbol.Minus ∷ symbol.Comma ∷ symbol.Number 5 ∷ []) ∷ (symbol.Name name.Also ∷ r 0 ∷ []) ∷ [])
    (record { kind = Whole; sets = false; add = None; mul = Some (record { cond = 1; to = place.Both 32 }); immediate = 5 })
load_spelled = load (dropped refl) kept nowhere number (also (name.Register (register.Accumulator 0)) always refl)

-- brr -, :x at word 2, where x is word 5
pub branch_spelled : SpellsBranch 2 (Some 5) ((symbol.Name name.RelativeBranch ∷ symbol.Minus ∷ symbol.Comma ∷ symbol.Colon ∷ symbol.Unknown ∷ []) ∷ [])
    (record { cond = 15; relative = true; register = None; add = place.Both 39; mul = place.Both 39; immediate = 4294967288 })
branch_spelled = branch {relative = true} branch_always nowhere (label unknown refl) no_links

-- lines that spell nothing

abbrev token : ℕ → Token
token column = record { kind = kind.LineEnd; from = 0; to = 0; line = 1; column = column }

abbrev put : ℕ → Symbol → Placed
put column s = record { symbol = s; token = token column; label = None }

abbrev put_from : ℕ → List Symbol → List Placed
put_from column [] = []
put_from column (s ∷ ss) = put column s ∷ put_from (column + 1) ss

no_answer : (r : Result Line AsmFault) (fault : AsmFault) (i : Instruction) → r ≡ Err fault → r ≡ Ok (Says i) → ⊥
no_answer r fault i e f = let g : Err fault ≡ Ok (Says i) = sym e ∙ f in cc

-- or r0, 1, 2
abbrev pub or_symbols : List Symbol
or_symbols = symbol.Name (name.Add add.Or) ∷ r 0 ∷ symbol.Comma ∷ symbol.Number 1 ∷ symbol.Comma ∷ symbol.Number 2 ∷ []

or_read : (at : ℕ) → read_line at (token 9) (put_from 0 or_symbols) ≡ Err (record { kind = TwoImmediates; line = 1; column = 5 })
unfolding read_line instruction_line sections_of parts_of due part_by unit_part suffixes_at target_at target_core operand_at operand_core value_core two_operands marks_of part_marks unit_marks suffix_marks target_marks operand_marks code_of small_value line_fault fault_of_kind
or_read at = refl

pub two_immediates : (at : ℕ) (i : Instruction) → Spells at None or_symbols i → ⊥
two_immediates at i s =
    no_answer (read_line at (token 9) (put_from 0 or_symbols)) _ i (or_read at) (parts_read at (token 9) (put_from 0 or_symbols) s.parts i (refl, (refl, (tt, (tt, (tt, (tt, tt)))))) s.says s.fits s.whole)

-- brr -, :x without a label x
abbrev pub brr_symbols : List Symbol
brr_symbols = symbol.Name name.RelativeBranch ∷ symbol.Minus ∷ symbol.Comma ∷ symbol.Colon ∷ symbol.Unknown ∷ []

brr_read : (at : ℕ) → read_line at (token 9) (put_from 0 brr_symbols) ≡ Err (record { kind = NoLabel; line = 1; column = 4 })
unfolding read_line instruction_line sections_of parts_of due part_by branch_part target_core jump_core marks_of part_marks jumping_marks line_fault fault_of_kind
brr_read at = refl

pub no_label : (at : ℕ) (i : Instruction) → Spells at None brr_symbols i → ⊥
no_label at i s =
    no_answer (read_line at (token 9) (put_from 0 brr_symbols)) _ i (brr_read at) (parts_read at (token 9) (put_from 0 brr_symbols) s.parts i (refl, (tt, (tt, (tt, (tt, tt))))) s.says s.fits s.whole)

-- sinc 16
abbrev pub sinc_symbols : List Symbol
sinc_symbols = symbol.Name name.Increment ∷ symbol.Number 16 ∷ []

sinc_read : (at : ℕ) → read_line at (token 9) (put_from 0 sinc_symbols) ≡ Err (record { kind = Range; line = 1; column = 1 })
unfolding read_line instruction_line sections_of parts_of due part_by last_value value_core marks_of part_marks line_fault fault_of_kind
sinc_read at = refl

pub no_semaphore : (at : ℕ) (i : Instruction) → Spells at None sinc_symbols i → ⊥
no_semaphore at i s =
    no_answer (read_line at (token 9) (put_from 0 sinc_symbols)) _ i (sinc_read at) (parts_read at (token 9) (put_from 0 sinc_symbols) s.parts i (refl, (tt, tt)) s.says s.fits s.whole)
