-- Which parts may follow which in a line. This project's own.
use Rattle.std.specs.Prelude.{◌&&◌, ◌||◌, Bool, true, false, not, List, [], ◌∷◌, is_some}
use Rattle.std.specs.List.{list_any}
use Rattle.qpu_line.specs.declared.name.Name.{Name}
use Rattle.qpu_line.specs.declared.name.Name.TheVariants as name
use Rattle.qpu_asm.specs.declared.piece.Core.{Core}
use Rattle.qpu_asm.specs.declared.piece.Core.TheVariants as core
use Rattle.qpu_asm.specs.declared.part.BranchPart.{BranchPart}
use Rattle.qpu_asm.specs.declared.part.Part.{Part}
use Rattle.qpu_asm.specs.declared.part.Part.TheVariants as part
use Rattle.qpu_asm.specs.Roles.{op_in_mul}
use Rattle.qpu_asm.specs.Forms.{begins, is_nop}

-- kinds of parts

abbrev pub is_unit : Part → Bool
is_unit (part.Unit u) = true
is_unit _ = false

abbrev pub is_rotation : Part → Bool
is_rotation (part.Rotate token by) = true
is_rotation _ = false

abbrev pub is_signal : Part → Bool
is_signal (part.Signal s token) = true
is_signal _ = false

abbrev pub is_read_a : Part → Bool
is_read_a (part.ReadA p) = true
is_read_a _ = false

abbrev pub is_read_b : Part → Bool
is_read_b (part.ReadB p) = true
is_read_b _ = false

abbrev pub is_link : Part → Bool
is_link (part.Link p) = true
is_link _ = false

abbrev pub is_row : Part → Bool
is_row (part.Row p) = true
is_row _ = false

abbrev pub is_empty : List Part → Bool
is_empty [] = true
is_empty (p ∷ parts) = false

-- none of the parts is of a kind
abbrev pub no : (Part → Bool) → List Part → Bool
no kind parts = not (list_any kind parts)

-- what may follow which

-- behind the units: one signal, one rotation where the mul unit is active, and one other read of each file
abbrev pub extra : List Part → Name → Bool
extra later name.End = no is_signal later
extra later name.Load0 = no is_signal later
extra later name.Load1 = no is_signal later
extra later name.Rotate = list_any is_unit later && no is_rotation later
extra later name.ReadA = no is_read_a later
extra later name.ReadB = no is_read_b later
extra later _ = false

-- directly behind the add unit's part: the mul unit's, which is idle only where the add unit is
abbrev pub second : Bool → Name → Bool
second idle n = is_some (op_in_mul n) || (idle && is_nop n)

abbrev pub unit_follows : Bool → List Part → Name → Bool
unit_follows idle later n = (is_empty later && second idle n) || extra later n

abbrev pub load_follows : List Part → Name → Bool
load_follows later name.Also = is_empty later
load_follows later _ = false

-- a branch whose target is a name adds that row already
abbrev pub is_name : Core → Bool
is_name (core.Name n) = true
is_name core.Unknown = true
is_name _ = false

abbrev pub branch_follows : BranchPart → List Part → Name → Bool
branch_follows b later name.Link = no is_link later
branch_follows b later name.Row = no is_row later && not (is_name b.target.core)
branch_follows b later _ = false

abbrev pub follows : Part → List Part → Name → Bool
follows part.Nop later n = unit_follows true later n
follows (part.Unit u) later n = unit_follows false later n
follows (part.Load l) later n = load_follows later n
follows (part.Branch b) later n = branch_follows b later n
follows _ later n = false

-- a part may stand behind others
unfoldable pub due : List Part → Name → Bool
due [] n = begins n
due (first ∷ later) n = follows first later n
