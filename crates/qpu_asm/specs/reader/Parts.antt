-- Parts of a line, by their mnemonics: which pieces stand in which order. What their names stand for isn't
-- judged here. This project's own.
use Rattle.std.specs.Prelude.{Bool, true, false, List, Result, Ok, Err, if◌then◌else◌}
use Rattle.qpu_token.specs.declared.token.Token.{Token}
use Rattle.qpu_line.specs.declared.load.LoadKind.{LoadKind}
use Rattle.qpu_line.specs.declared.units.Signal.TheVariants.{End, Load0, Load1}
use Rattle.qpu_line.specs.declared.name.Name.{Name}
use Rattle.qpu_line.specs.declared.name.Name.TheVariants as name
use Rattle.qpu_asm.specs.declared.placed.Placed.{Placed}
use Rattle.qpu_asm.specs.declared.piece.Piece.{Piece}
use Rattle.qpu_asm.specs.declared.part.Suffixes.{Suffixes}
use Rattle.qpu_asm.specs.declared.part.Part.{Part}
use Rattle.qpu_asm.specs.declared.part.Part.TheVariants as part
use Rattle.qpu_asm.specs.Roles.{takes_one}
use Rattle.qpu_asm.specs.reader.Reading.{Read, go_on, ended}
use Rattle.qpu_asm.specs.reader.Pieces.{suffix_at, target_core, value_core, jump_core, target_at, operand_at, comma_at}

-- at most two suffixes
unfoldable pub suffixes_at : List Placed → Read Suffixes
suffixes_at xs = go_on (suffix_at xs) (λ a. go_on (suffix_at a.1) (λ b. Ok (record { first = a.0; second = b.0 }, b.1)))

-- operands, with which a part ends; one that is written alone counts as both
unfoldable pub one_operand : Token → List Placed → Result (Piece × Piece) Token
one_operand end xs = go_on (operand_at end xs) (λ a. ended (a.0, a.0) a.1)

unfoldable pub two_operands : Token → List Placed → Result (Piece × Piece) Token
two_operands end xs =
    go_on (operand_at end xs) (λ a. go_on (comma_at end a.1) (λ rest. go_on (operand_at end rest) (λ b. ended (a.0, b.0) b.1)))

abbrev pub operands_at : Name → Token → List Placed → Result (Piece × Piece) Token
operands_at op end xs = if takes_one op then one_operand end xs else two_operands end xs

-- a unit: `op.suffix.suffix target, a, b`
unfoldable pub unit_part : Name → Token → Token → List Placed → Result Part Token
unit_part op token end xs =
    go_on (suffixes_at xs) (λ s.
    go_on (target_at end s.1) (λ to.
    go_on (comma_at end to.1) (λ rest.
    go_on (operands_at op end rest) (λ both.
    Ok (part.Unit (record { op = op; token = token; suffixes = s.0; to = to.0; a = both.0; b = both.1 }))))))

-- a load: `ldi.suffix.suffix target, number`
unfoldable pub load_part : LoadKind → Token → List Placed → Result Part Token
load_part kind end xs =
    go_on (suffixes_at xs) (λ s.
    go_on (target_core end s.1) (λ to.
    go_on (comma_at end to.1) (λ rest.
    go_on (value_core end rest) (λ value.
    ended (part.Load (record { kind = kind; suffixes = s.0; to = to.0; value = value.0 })) value.1))))

-- a load's second target: `also.suffix target`
unfoldable pub also_part : Token → List Placed → Result Part Token
also_part end xs =
    go_on (suffix_at xs) (λ s. go_on (target_core end s.1) (λ to. ended (part.Also (record { suffix = s.0; to = to.0 })) to.1))

-- a branch: `bra.suffix target, where`
unfoldable pub branch_part : Bool → Token → List Placed → Result Part Token
branch_part relative end xs =
    go_on (suffix_at xs) (λ s.
    go_on (target_core end s.1) (λ to.
    go_on (comma_at end to.1) (λ rest.
    go_on (jump_core end rest) (λ target.
    ended (part.Branch (record { relative = relative; suffix = s.0; to = to.0; target = target.0 })) target.1))))

-- a number or a name with which a part ends
unfoldable pub last_value : Token → List Placed → Result Piece Token
last_value end xs = go_on (value_core end xs) (λ p. ended p.0 p.1)

unfoldable pub last_name : Token → List Placed → Result Piece Token
last_name end xs = go_on (target_core end xs) (λ p. ended p.0 p.1)

-- a part by its mnemonic, whose token has the place of the part
unfoldable pub part_by : Name → Token → Token → List Placed → Result Part Token
part_by (name.Add op) token end xs = unit_part (name.Add op) token end xs
part_by (name.Mul op) token end xs = unit_part (name.Mul op) token end xs
part_by name.Mov token end xs = unit_part name.Mov token end xs
part_by name.Nop token end xs = ended part.Nop xs
part_by (name.Load kind) token end xs = load_part kind end xs
part_by name.Also token end xs = also_part end xs
part_by name.Increment token end xs = go_on (last_value end xs) (λ p. Ok (part.Increment p))
part_by name.Decrement token end xs = go_on (last_value end xs) (λ p. Ok (part.Decrement p))
part_by name.Branch token end xs = branch_part false end xs
part_by name.RelativeBranch token end xs = branch_part true end xs
part_by name.Link token end xs = go_on (last_name end xs) (λ p. Ok (part.Link p))
part_by name.Row token end xs = go_on (last_name end xs) (λ p. Ok (part.Row p))
part_by name.End token end xs = ended (part.Signal End token) xs
part_by name.Load0 token end xs = ended (part.Signal Load0 token) xs
part_by name.Load1 token end xs = ended (part.Signal Load1 token) xs
part_by name.Rotate token end xs = go_on (last_value end xs) (λ p. Ok (part.Rotate token p))
part_by name.ReadA token end xs = go_on (last_name end xs) (λ p. Ok (part.ReadA p))
part_by name.ReadB token end xs = go_on (last_name end xs) (λ p. Ok (part.ReadB p))
part_by _ token end xs = Err token
