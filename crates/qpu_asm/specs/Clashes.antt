-- When what a token stands for is a fault: by itself, or together with what an earlier token of the line
-- stands for. What fits one word is told by the VideoCore IV 3D Architecture Reference Guide, "QPU
-- Instruction Encoding"; the kinds are this project's own.
use Rattle.std.specs.Prelude.{◌==◌, ◌&&◌, ◌||◌, Bool, true, false, not}
use Rattle.qpu_token.specs.declared.token.Token.{Token}
use Rattle.qpu_token.specs.declared.fault.AsmKind.{AsmKind}
use Rattle.qpu_token.specs.declared.fault.AsmKind.TheVariants as kind
use Rattle.qpu_token.specs.declared.fault.AsmFault.{AsmFault}
use Rattle.qpu_word.specs.declared.name.Place.{Place}
use Rattle.qpu_line.specs.Targets.{in_file_a, in_file_b}
use Rattle.qpu_asm.specs.declared.mark.What.{What}
use Rattle.qpu_asm.specs.declared.mark.What.TheVariants as what
use Rattle.qpu_asm.specs.declared.judge.Judged.{Judged}
use Rattle.qpu_asm.specs.declared.judge.Judged.TheVariants.{Operands, TwoImmediates, TwoReads, Label, Range}

-- by itself
abbrev pub is_wrong : Judged → What → Bool
is_wrong Operands what.Wrong = true
is_wrong Label what.Missing = true
is_wrong Range what.Far = true
is_wrong k w = false

-- two targets want the units' files in different orders
abbrev pub cross : Place → Place → Bool
cross p q = (in_file_a p && in_file_a q) || (in_file_b p && in_file_b q)

-- a name isn't allowed behind an earlier one: `.setf` on both units; targets that want both orders of the
-- files; two unpack modes of one row; a signal beside a number or rotation; a rotation of what isn't rotated
abbrev pub not_beside : What → What → Bool
not_beside what.Adds what.MulSets = true
not_beside (what.Writes p) (what.Writes q) = cross p q
not_beside (what.Unpacks n u) (what.Unpacks m v) = (n == m) && not (u == v)
not_beside (what.Number n) what.Signals = true
not_beside what.Rotates what.Signals = true
not_beside what.Signals what.Rotates = true
not_beside what.Fixed what.Rotates = true
not_beside a b = false

-- two immediates: two numbers, or a number or a rotation beside a read of file B or one another
abbrev pub other_immediate : What → What → Bool
other_immediate (what.Number n) (what.Number m) = not (n == m)
other_immediate (what.Number n) (what.ReadsB m) = true
other_immediate (what.ReadsB n) (what.Number m) = true
other_immediate (what.Number n) what.Rotates = true
other_immediate (what.ReadsB n) what.Rotates = true
other_immediate what.Rotates (what.ReadsB n) = true
other_immediate a b = false

-- two reads of one file
abbrev pub other_read : What → What → Bool
other_read (what.ReadsA n) (what.ReadsA m) = not (n == m)
other_read (what.ReadsB n) (what.ReadsB m) = not (n == m)
other_read a b = false

-- together with an earlier one
abbrev pub clashes : Judged → What → What → Bool
clashes Operands a b = not_beside a b
clashes TwoImmediates a b = other_immediate a b
clashes TwoReads a b = other_read a b
clashes Label a b = false
clashes Range a b = false

abbrev pub kind_of : Judged → AsmKind
kind_of Operands = kind.Operands
kind_of TwoImmediates = kind.TwoImmediates
kind_of TwoReads = kind.TwoReads
kind_of Label = kind.Label
kind_of Range = kind.Range

-- a fault at a token
abbrev pub fault_at : AsmKind → Token → AsmFault
fault_at k token = record { kind = k; line = token.line; column = token.column }
