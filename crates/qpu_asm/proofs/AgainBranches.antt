-- The line of a branch is read.
use Rattle.std.proofs.Common.{◌≡◌, Bool, true, false, List, [], refl}
use Rattle.std.specs.Prelude.{Option, Ok, if◌then◌else◌}
use Rattle.qpu_token.specs.declared.token.Token.{Token}
use Rattle.qpu_line.specs.declared.name.Name.TheVariants as name
use Rattle.qpu_asm.specs.declared.placed.Placed.{Placed}
use Rattle.qpu_asm.specs.declared.piece.Suffix.{Suffix}
use Rattle.qpu_asm.specs.declared.piece.Piece.{Piece}
use Rattle.qpu_asm.specs.declared.part.Part.TheVariants as part
use Rattle.qpu_asm.specs.reader.Pieces.{suffix_at, comma_at, target_core, jump_core}
use Rattle.qpu_asm.specs.reader.Parts.{branch_part, last_name, part_by}
use Rattle.qpu_asm.specs.Forms.{begins}
use Rattle.qpu_asm.specs.Roles.{is_mnemonic}

-- the branch itself

pub branch_step : (relative : Bool) (end : Token) (xs ys zs ws : List Placed) (s : Option Suffix) (to value : Piece)
    → suffix_at xs ≡ Ok (s, ys) → target_core end ys ≡ Ok (to, zs) → comma_at end zs ≡ Ok ws → jump_core end ws ≡ Ok (value, [])
    → branch_part relative end xs ≡ Ok (part.Branch (record { relative = relative; suffix = s; to = to; target = value }))
unfolding branch_part
branch_step relative end xs ys zs ws s to value e f g h = rw (e, f, g, h) refl

pub branch_by : (relative : Bool) (token end : Token) (xs : List Placed)
    → part_by (if relative then name.RelativeBranch else name.Branch) token end xs ≡ branch_part relative end xs
unfolding part_by
branch_by true token end xs = refl
branch_by false token end xs = refl

pub branch_begins : (relative : Bool) → begins (if relative then name.RelativeBranch else name.Branch) ≡ true
branch_begins true = refl
branch_begins false = refl

pub branch_mnemonic : (relative : Bool) → is_mnemonic (if relative then name.RelativeBranch else name.Branch) ≡ true
branch_mnemonic true = refl
branch_mnemonic false = refl

-- the link

pub link_step : (token end : Token) (xs : List Placed) (p : Piece) → last_name end xs ≡ Ok p → part_by name.Link token end xs ≡ Ok (part.Link p)
unfolding part_by
link_step token end xs p e = rw e refl

-- the row

pub row_step : (token end : Token) (xs : List Placed) (p : Piece) → last_name end xs ≡ Ok p → part_by name.Row token end xs ≡ Ok (part.Row p)
unfolding part_by
row_step token end xs p e = rw e refl
