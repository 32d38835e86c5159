-- The sections of a line of both units are read as its parts.
use Rattle.std.proofs.Common.{◌≡◌, ℕ, Bool, true, false, List, [], refl}
use Rattle.std.specs.Prelude.{◌&&◌, ◌||◌, nat_le, Option, Some, None, Ok}
use Rattle.qpu_token.specs.declared.token.Token.{Token}
use Rattle.qpu_line.specs.declared.units.Signal.TheVariants.{End, Load0, Load1}
use Rattle.qpu_line.specs.declared.name.Name.{Name}
use Rattle.qpu_line.specs.declared.name.Name.TheVariants as name
use Rattle.qpu_asm.specs.declared.placed.Placed.{Placed}
use Rattle.qpu_asm.specs.declared.piece.Core.TheVariants as core
use Rattle.qpu_asm.specs.declared.piece.Piece.{Piece}
use Rattle.qpu_asm.specs.declared.part.UnitPart.{UnitPart}
use Rattle.qpu_asm.specs.declared.part.Part.{Part}
use Rattle.qpu_asm.specs.declared.part.Part.TheVariants as part
use Rattle.qpu_asm.specs.declared.mark.Mark.{Mark}
use Rattle.qpu_asm.specs.reader.Pieces.{bare}
use Rattle.qpu_asm.specs.reader.Parts.{last_value, last_name, part_by}
use Rattle.qpu_asm.specs.reader.Orders.{extra, follows, is_empty, second}
use Rattle.qpu_asm.specs.Roles.{op_in_mul}
use Rattle.qpu_asm.specs.reader.Marks.{rotation_marks}

abbrev pub head_part : Option UnitPart → Part
head_part None = part.Nop
head_part (Some v) = part.Unit v

-- the first section

pub nop_step : (token end : Token) (xs : List Placed) → xs ≡ [] → part_by name.Nop token end xs ≡ Ok part.Nop
unfolding part_by
nop_step token end xs e = rw e refl

-- what may stand behind the first part

or_true : (a b : Bool) → b ≡ true → (a || b) ≡ true
or_true true b e = refl
or_true false b e = e

pub head_extra : (f : Option UnitPart) (later : List Part) (n : Name) → extra later n ≡ true → follows (head_part f) later n ≡ true
head_extra None later n e = or_true (is_empty later && second true n) (extra later n) e
head_extra (Some v) later n e = or_true (is_empty later && second false n) (extra later n) e

pub head_mul : (f : Option UnitPart) (n : Name) (c : ℕ) → op_in_mul n ≡ Some c → follows (head_part f) [] n ≡ true
head_mul None n c e = rw e refl
head_mul (Some v) n c e = rw e refl

-- signals

pub end_step : (token end : Token) (xs : List Placed) → xs ≡ [] → part_by name.End token end xs ≡ Ok (part.Signal End token)
unfolding part_by
end_step token end xs e = rw e refl

pub load0_step : (token end : Token) (xs : List Placed) → xs ≡ [] → part_by name.Load0 token end xs ≡ Ok (part.Signal Load0 token)
unfolding part_by
load0_step token end xs e = rw e refl

pub load1_step : (token end : Token) (xs : List Placed) → xs ≡ [] → part_by name.Load1 token end xs ≡ Ok (part.Signal Load1 token)
unfolding part_by
load1_step token end xs e = rw e refl

pub rotate_step : (token end : Token) (xs : List Placed) (p : Piece) → last_value end xs ≡ Ok p → part_by name.Rotate token end xs ≡ Ok (part.Rotate token p)
unfolding part_by
rotate_step token end xs p e = rw e refl

pub turn_marks : (n : ℕ) (t : Token) (ms : List Mark) → (nat_le 1 n && nat_le n 15) ≡ true → rotation_marks (bare (core.Number n) t) ms ≡ ms
turn_marks n t ms e = rw e refl

-- other reads

pub a_step : (token end : Token) (xs : List Placed) (p : Piece) → last_name end xs ≡ Ok p → part_by name.ReadA token end xs ≡ Ok (part.ReadA p)
unfolding part_by
a_step token end xs p e = rw e refl

pub b_step : (token end : Token) (xs : List Placed) (p : Piece) → last_name end xs ≡ Ok p → part_by name.ReadB token end xs ≡ Ok (part.ReadB p)
unfolding part_by
b_step token end xs p e = rw e refl
