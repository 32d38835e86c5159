-- VideoCore IV 3D Architecture Reference Guide, "QPU Instruction Encoding": branches.
use Rattle.std.specs.Prelude.{ℕ, ◌+◌, ◌*◌, ◌%◌, ◌^◌, ◌==◌, Bool, not, Option, Some, None, is_some, if◌then◌else◌}
use Rattle.qpu_word.specs.declared.word.Fields.{Fields}
use Rattle.qpu_word.specs.declared.code.TheConstants.{SIGNAL_BRANCH}
use Rattle.qpu_line.specs.declared.branch.Branch.{Branch}
use Rattle.qpu_line.specs.Targets.{target_at_address, address_of, exchange_of}

-- the row of file A that a branch adds, where it adds one
abbrev pub register_of : Bool → ℕ → Option ℕ
register_of on row = if on then Some row else None

-- the branch of a word's fields
abbrev pub branch_of : Fields → Branch
branch_of f = record {
  cond = f.cond_br;
  relative = (f.rel == 1);
  register = register_of (f.reg == 1) f.raddr_br;
  add = target_at_address (f.ws == 1) f.waddr_add;
  mul = target_at_address (not (f.ws == 1)) f.waddr_mul;
  immediate = f.immediate;
}

-- the row of a branch that adds one or none
abbrev pub register_row : Option ℕ → ℕ
register_row None = 0
register_row (Some row) = row

-- the upper half of a branch's word; of each number as many low bits count as its field has
abbrev pub branch_instruction_high : Branch → ℕ
branch_instruction_high b =
    SIGNAL_BRANCH * 2 ^ 28
    + b.cond % 16 * 2 ^ 20
    + (if b.relative then 1 else 0) * 2 ^ 19
    + (if is_some b.register then 1 else 0) * 2 ^ 18
    + register_row b.register % 32 * 2 ^ 13
    + exchange_of b.add b.mul * 2 ^ 12
    + address_of b.add % 64 * 2 ^ 6
    + address_of b.mul % 64

-- the canonical word of a branch
abbrev pub branch_instruction_word : Branch → ℕ
branch_instruction_word b = branch_instruction_high b * 2 ^ 32 + b.immediate
