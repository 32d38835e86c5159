-- The grammar of a line's pieces: which symbols spell a target, an operand, a number, or a suffix of one of
-- these or of a mnemonic. This project's own, as docs/FORMATS.md tells it under "Lines of assembly text". The
-- codes are those of the VideoCore IV 3D Architecture Reference Guide, "QPU Instruction Encoding".
use Rattle.std.specs.Prelude.{◌≡◌, ℕ, ◌+◌, ◌-◌, ◌*◌, ◌<◌, ◌%◌, ◌^◌, ◌==◌, Bool, true, false, nat_lt, List, [], ◌∷◌, ◌++◌, Option, Some, None, if◌then◌else◌}
use Rattle.qpu_word.specs.declared.name.Place.{Place}
use Rattle.qpu_word.specs.declared.name.Place.TheVariants as place
use Rattle.qpu_word.specs.declared.code.TheConstants.{ROWS, NOWHERE, ROTATE_BY_R5}
use Rattle.qpu_word.specs.Operands.{small_value}
use Rattle.qpu_line.specs.declared.operand.Operand.{Operand}
use Rattle.qpu_line.specs.declared.operand.Operand.TheVariants as operand
use Rattle.qpu_line.specs.declared.load.Write.{Write}
use Rattle.qpu_line.specs.declared.name.Name.{Name}
use Rattle.qpu_line.specs.declared.name.Name.TheVariants as name
use Rattle.qpu_line.specs.declared.name.Register.TheVariants as register
use Rattle.qpu_line.specs.declared.symbol.Symbol.{Symbol}
use Rattle.qpu_line.specs.declared.symbol.Symbol.TheVariants as symbol
use Rattle.qpu_line.specs.Targets.{address_of, is_row_a}
use Rattle.qpu_asm.specs.Roles.{target_meant, source_of, pack_of, unpack_of}

abbrev pub name_alone : Name → List Symbol
name_alone n = symbol.Name n ∷ []

-- a sign `.` and a name
abbrev pub dotted : Name → List Symbol
dotted n = symbol.Dot ∷ symbol.Name n ∷ []

-- numbers, modulo 2^32
pub data SpellsNumber : List Symbol → ℕ → Type 0 where
  number : {v : ℕ} → SpellsNumber (symbol.Number v ∷ []) (v % 2 ^ 32)

-- targets: the name of a write address, or `-`
pub data SpellsTarget : List Symbol → Place → Type 0 where
  nowhere : SpellsTarget (symbol.Minus ∷ []) (place.Both NOWHERE)
  named : {n : Name} {to : Place} → target_meant n ≡ Some to → SpellsTarget (name_alone n) to

-- suffixes of mnemonics

abbrev pub is_nowhere : Place → Bool
is_nowhere to = address_of to == NOWHERE

-- when it is written; at `-` a condition is dropped
pub data SpellsCondition : List Symbol → Place → ℕ → Type 0 where
  always : {to : Place} → SpellsCondition [] to 1
  given : {to : Place} {cond : ℕ} → is_nowhere to ≡ false → SpellsCondition (dotted (name.Condition cond)) to cond
  dropped : {to : Place} {cond : ℕ} → is_nowhere to ≡ true → SpellsCondition (dotted (name.Condition cond)) to 1

-- whether flags are set
pub data SpellsFlags : List Symbol → Bool → Type 0 where
  kept : SpellsFlags [] false
  set : SpellsFlags (dotted name.SetFlags) true

-- when a branch is taken
pub data SpellsBranchCondition : List Symbol → ℕ → Type 0 where
  always : SpellsBranchCondition [] 15
  given : {cond : ℕ} → SpellsBranchCondition (dotted (name.BranchCondition cond)) cond

-- a unit's pack, at a row of file A
pub data SpellsPack : List Symbol → Place → ℕ → Type 0 where
  whole : {to : Place} → SpellsPack [] to 0
  packed : {to : Place} {n : Name} {mode : ℕ} → is_row_a to ≡ true → pack_of n ≡ Some mode → SpellsPack (dotted n) to mode

-- operands

-- the name of a read address, a row of file A with its unpack mode, or a number that a small immediate has
pub data SpellsOperand : List Symbol → Operand → Type 0 where
  named : {n : Name} {o : Operand} → source_of n ≡ Some o → SpellsOperand (name_alone n) o
  unpacked : {n m : Name} {row mode : ℕ} → source_of n ≡ Some (operand.FileA row 0) → nat_lt row ROWS ≡ true → unpack_of m ≡ Some mode
      → SpellsOperand (name_alone n ++ dotted m) (operand.FileA row mode)
  small : {x : List Symbol} {code : ℕ} → code < ROTATE_BY_R5 → SpellsNumber x (small_value code) → SpellsOperand x (operand.Small code)

-- both operands of an operation; where it has one, that is both
pub data SpellsOperands : Bool → List Symbol → Operand → Operand → Type 0 where
  one : {x : List Symbol} {a : Operand} → SpellsOperand x a → SpellsOperands true x a a
  two : {x y : List Symbol} {a b : Operand} → SpellsOperand x a → SpellsOperand y b → SpellsOperands false (x ++ symbol.Comma ∷ y) a b

-- what a load writes to a target: nothing at `-`
abbrev pub written : Place → ℕ → Option Write
written to cond = if is_nowhere to then None else Some (record { cond = cond; to = to })

-- where a branch goes

-- the address in bytes of a word, and its distance from behind the slots of the branch at another
abbrev pub way : Bool → ℕ → ℕ → ℕ
way relative at word = if relative then (2 ^ 36 + 8 * word - 8 * (at + 4)) % 2 ^ 32 else 8 * word % 2 ^ 32

-- a name, of the language or not
pub data IsName : Symbol → Type 0 where
  known : {n : Name} → IsName (symbol.Name n)
  unknown : IsName symbol.Unknown

-- a number, a label that is in the text, or the number 0 with a row of file A added
pub data SpellsJump (relative : Bool) (at : ℕ) (label : Option ℕ) : List Symbol → ℕ → Option ℕ → Type 0 where
  number : {x : List Symbol} {v : ℕ} → SpellsNumber x v → SpellsJump relative at label x v None
  label : {s : Symbol} {word : ℕ} → IsName s → label ≡ Some word → SpellsJump relative at label (symbol.Colon ∷ s ∷ []) (way relative at word) None
  row : {n : ℕ} → SpellsJump relative at label (name_alone (name.Register (register.RowA n))) 0 (Some n)
