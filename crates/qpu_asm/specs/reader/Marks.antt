-- What the names and numbers of a line's parts stand for, in the line's order. This project's own; what
-- may stand where is the VideoCore IV 3D Architecture Reference Guide's, "QPU Instruction Encoding".
use Rattle.std.specs.Prelude.{ℕ, ◌==◌, ◌&&◌, Bool, true, false, not, nat_lt, nat_le, List, [], ◌∷◌, ◌++◌, fold, Option, Some, None, is_none, if◌then◌else◌}
use Rattle.qpu_token.specs.declared.token.Token.{Token}
use Rattle.qpu_word.specs.declared.name.Place.{Place}
use Rattle.qpu_word.specs.declared.name.Place.TheVariants as place
use Rattle.qpu_word.specs.declared.code.TheConstants.{ROWS, NOWHERE}
use Rattle.qpu_line.specs.declared.operand.Operand.{Operand}
use Rattle.qpu_line.specs.declared.operand.Operand.TheVariants as operand
use Rattle.qpu_line.specs.declared.name.Name.TheVariants as name
use Rattle.qpu_line.specs.declared.name.Register.TheVariants as register
use Rattle.qpu_asm.specs.declared.piece.Core.{Core}
use Rattle.qpu_asm.specs.declared.piece.Core.TheVariants as core
use Rattle.qpu_asm.specs.declared.piece.Suffix.{Suffix}
use Rattle.qpu_asm.specs.declared.piece.Piece.{Piece}
use Rattle.qpu_asm.specs.declared.part.Suffixes.{Suffixes}
use Rattle.qpu_asm.specs.declared.part.UnitPart.{UnitPart}
use Rattle.qpu_asm.specs.declared.part.LoadPart.{LoadPart}
use Rattle.qpu_asm.specs.declared.part.AlsoPart.{AlsoPart}
use Rattle.qpu_asm.specs.declared.part.BranchPart.{BranchPart}
use Rattle.qpu_asm.specs.declared.part.Part.{Part}
use Rattle.qpu_asm.specs.declared.part.Part.TheVariants as part
use Rattle.qpu_asm.specs.declared.mark.What.{What}
use Rattle.qpu_asm.specs.declared.mark.What.TheVariants as what
use Rattle.qpu_asm.specs.declared.mark.Mark.{Mark}
use Rattle.qpu_asm.specs.Roles.{target_meant, source_of, is_condition, is_set_flags, is_branch_condition, is_pack, is_row, if_link, unpack_name, code_of}

-- a mark behind others
abbrev pub mark : What → Token → List Mark → List Mark
mark w token ms = ms ++ record { what = w; token = token } ∷ []

abbrev pub mark_if : Bool → What → Token → List Mark → List Mark
mark_if holds w token ms = if holds then mark w token ms else ms

-- suffixes of mnemonics

-- `.setf`, which the mul unit's part has only where the add unit is idle
abbrev pub flags_mark : Bool → Token → List Mark → List Mark
flags_mark mul dot ms = mark_if mul what.MulSets dot ms

-- the first suffix: a condition or `.setf`
abbrev pub first_suffix : Bool → Option Suffix → List Mark → List Mark
first_suffix mul None ms = ms
first_suffix mul (Some s) ms =
    if is_set_flags s.name then flags_mark mul s.dot ms else mark_if (not (is_condition s.name)) what.Wrong s.dot ms

abbrev pub has_condition : Option Suffix → Bool
has_condition None = false
has_condition (Some s) = is_condition s.name

-- the second suffix: `.setf` behind a condition
abbrev pub second_suffix : Bool → Option Suffix → Option Suffix → List Mark → List Mark
second_suffix mul first None ms = ms
second_suffix mul first (Some s) ms =
    if has_condition first && is_set_flags s.name then flags_mark mul s.dot ms else mark what.Wrong s.dot ms

unfoldable pub suffix_marks : Bool → Suffixes → List Mark → List Mark
suffix_marks mul s ms = second_suffix mul s.first s.second (first_suffix mul s.first ms)

-- one suffix alone
abbrev pub condition_marks : Option Suffix → List Mark → List Mark
condition_marks None ms = ms
condition_marks (Some s) ms = mark_if (not (is_condition s.name)) what.Wrong s.dot ms

abbrev pub branch_marks : Option Suffix → List Mark → List Mark
branch_marks None ms = ms
branch_marks (Some s) ms = mark_if (not (is_branch_condition s.name)) what.Wrong s.dot ms

-- a suffix that isn't allowed
abbrev pub no_suffix : Option Suffix → List Mark → List Mark
no_suffix None ms = ms
no_suffix (Some s) ms = mark what.Wrong s.dot ms

-- targets

-- the place of a target; none where its name isn't one
abbrev pub target_place : Core → Option Place
target_place (core.Name n) = target_meant n
target_place core.Nowhere = Some (place.Both NOWHERE)
target_place _ = None

abbrev pub place_mark : Option Place → Token → List Mark → List Mark
place_mark None token ms = mark what.Wrong token ms
place_mark (Some p) token ms = mark (what.Writes p) token ms

-- a pack stands at a row of file A
abbrev pub pack_marks : Option Place → Option Suffix → List Mark → List Mark
pack_marks to None ms = ms
pack_marks to (Some s) ms = mark_if (not (is_row to && is_pack s.name)) what.Wrong s.dot ms

unfoldable pub target_marks : Piece → List Mark → List Mark
target_marks p ms = pack_marks (target_place p.core) p.suffix (place_mark (target_place p.core) p.token ms)

-- a second target is somewhere
abbrev pub somewhere : Core → Option Place
somewhere (core.Name n) = target_meant n
somewhere _ = None

-- operands

-- what the mul unit doesn't rotate
abbrev pub fixed : Bool → Token → List Mark → List Mark
fixed mul token ms = mark_if mul what.Fixed token ms

abbrev pub unpack_mark : ℕ → Token → Option ℕ → List Mark → List Mark
unpack_mark row dot None ms = mark what.Wrong dot ms
unpack_mark row dot (Some mode) ms = mark (what.Unpacks row mode) dot ms

-- an unpack mode stands at a row
abbrev pub unpack_marks : ℕ → Piece → Option Suffix → List Mark → List Mark
unpack_marks row p None ms = mark (what.Unpacks row 0) p.token ms
unpack_marks row p (Some s) ms =
    if nat_lt row ROWS then unpack_mark row s.dot (unpack_name s.name) ms else mark what.Wrong s.dot ms

abbrev pub source_marks : Bool → Piece → Option Operand → List Mark → List Mark
source_marks mul p None ms = mark what.Wrong p.token ms
source_marks mul p (Some (operand.Accumulator n)) ms = no_suffix p.suffix (mark_if (mul && nat_lt 3 n) what.Fixed p.token ms)
source_marks mul p (Some (operand.FileA n unpack)) ms = unpack_marks n p p.suffix (fixed mul p.token (mark (what.ReadsA n) p.token ms))
source_marks mul p (Some (operand.FileB n)) ms = no_suffix p.suffix (fixed mul p.token (mark (what.ReadsB n) p.token ms))
source_marks mul p (Some (operand.Small code)) ms = mark what.Wrong p.token ms

-- a number has a small code
abbrev pub number_marks : Piece → ℕ → List Mark → List Mark
number_marks p n ms = no_suffix p.suffix (mark_if (is_none (code_of n)) what.Far p.token (mark (what.Number n) p.token ms))

-- where `-` isn't allowed: at its suffix
abbrev pub nowhere_at : Token → Option Suffix → Token
nowhere_at token None = token
nowhere_at token (Some s) = s.dot

unfoldable pub operand_marks : Bool → Piece → List Mark → List Mark
operand_marks mul p ms = by_core p.core
  where
    by_core : Core → List Mark
    by_core (core.Name n) = source_marks mul p (source_of n) ms
    by_core (core.Number n) = number_marks p n ms
    by_core core.Nowhere = mark what.Wrong (nowhere_at p.token p.suffix) ms
    by_core _ = mark what.Wrong p.token ms

-- parts

unfoldable pub unit_marks : Bool → UnitPart → List Mark → List Mark
unit_marks mul u ms =
    operand_marks mul u.b (operand_marks mul u.a (target_marks u.to (suffix_marks mul u.suffixes (mark_if (not mul) what.Adds u.token ms))))

-- a number, of which any is allowed
abbrev pub any_number : Piece → List Mark → List Mark
any_number p ms = by_core p.core
  where
    by_core : Core → List Mark
    by_core (core.Number n) = ms
    by_core _ = mark what.Wrong p.token ms

-- a number up to a bound
abbrev pub number_between : ℕ → ℕ → Piece → List Mark → List Mark
number_between low high p ms = by_core p.core
  where
    by_core : Core → List Mark
    by_core (core.Number n) = mark_if (not (nat_le low n && nat_le n high)) what.Far p.token ms
    by_core _ = mark what.Wrong p.token ms

unfoldable pub load_marks : LoadPart → List Mark → List Mark
load_marks l ms = any_number l.value (place_mark (target_place l.to.core) l.to.token (suffix_marks false l.suffixes ms))

unfoldable pub also_marks : AlsoPart → List Mark → List Mark
also_marks a ms = place_mark (somewhere a.to.core) a.to.token (condition_marks a.suffix ms)

-- where a branch goes: a number, a label of the text, or a row of file A
abbrev pub jump_marks : Piece → List Mark → List Mark
jump_marks p ms = by_core p.core
  where
    by_core : Core → List Mark
    by_core (core.Number n) = ms
    by_core (core.Label (Some at)) = ms
    by_core (core.Label None) = mark what.Missing p.token ms
    by_core (core.Name (name.Register (register.RowA n))) = ms
    by_core _ = mark what.Wrong p.token ms

unfoldable pub jumping_marks : BranchPart → List Mark → List Mark
jumping_marks b ms = jump_marks b.target (place_mark (if_link (target_place b.to.core)) b.to.token (branch_marks b.suffix ms))

abbrev pub is_row_name : Core → Bool
is_row_name (core.Name (name.Register (register.RowA n))) = true
is_row_name _ = false

-- a rotation by 1 to 15 or by r5
abbrev pub is_r5 : Core → Bool
is_r5 (core.Name (name.Register (register.Accumulator n))) = n == 5
is_r5 _ = false

abbrev pub rotation_marks : Piece → List Mark → List Mark
rotation_marks p ms = if is_r5 p.core then ms else number_between 1 15 p ms

-- another read: of an address above the rows
abbrev pub source_in : Core → Option Operand
source_in (core.Name n) = source_of n
source_in _ = None

abbrev pub other_a : Option Operand → Token → List Mark → List Mark
other_a (Some (operand.FileA n unpack)) token ms = mark (if nat_lt n ROWS then what.Wrong else what.ReadsA n) token ms
other_a _ token ms = mark what.Wrong token ms

abbrev pub other_b : Option Operand → Token → List Mark → List Mark
other_b (Some (operand.FileB n)) token ms = mark (if nat_lt n ROWS then what.Wrong else what.ReadsB n) token ms
other_b _ token ms = mark what.Wrong token ms

-- a part by its kind; behind the first part a unit's is the mul unit's
unfoldable pub part_marks : Bool → List Mark → Part → List Mark
part_marks mul ms part.Nop = ms
part_marks mul ms (part.Unit u) = unit_marks mul u ms
part_marks mul ms (part.Load l) = load_marks l ms
part_marks mul ms (part.Also a) = also_marks a ms
part_marks mul ms (part.Increment p) = number_between 0 15 p ms
part_marks mul ms (part.Decrement p) = number_between 0 15 p ms
part_marks mul ms (part.Branch b) = jumping_marks b ms
part_marks mul ms (part.Link p) = place_mark (if_link (somewhere p.core)) p.token ms
part_marks mul ms (part.Row p) = mark_if (not (is_row_name p.core)) what.Wrong p.token ms
part_marks mul ms (part.Signal s token) = mark what.Signals token ms
part_marks mul ms (part.Rotate token by) = rotation_marks by (mark what.Rotates token ms)
part_marks mul ms (part.ReadA p) = other_a (source_in p.core) p.token ms
part_marks mul ms (part.ReadB p) = other_b (source_in p.core) p.token ms

-- the marks of a line's parts
unfoldable pub marks_of : List Part → List Mark
marks_of [] = []
marks_of (first ∷ later) = fold (part_marks true) (part_marks false [] first) later
