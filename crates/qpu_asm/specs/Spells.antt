-- The grammar of the lines that the expansion leaves: which symbols spell which instruction. One rule stands
-- for each form of part and for each freedom, in the order in which docs/FORMATS.md tells them under "Lines
-- of assembly text". What fits one word is told by `HasWord`. This project's own.
use Rattle.std.specs.Prelude.{◌≡◌, ℕ, ◌+◌, ◌&&◌, ◌||◌, Bool, true, false, nat_le, List, [], ◌∷◌, ◌++◌, Option, Some, None, is_some, if◌then◌else◌}
use Rattle.qpu_word.specs.declared.name.Place.{Place}
use Rattle.qpu_word.specs.declared.name.Place.TheVariants as place
use Rattle.qpu_word.specs.declared.code.TheConstants.{ROWS, NOWHERE, ROTATE_BY_R5}
use Rattle.qpu_line.specs.declared.operand.Operand.{Operand}
use Rattle.qpu_line.specs.declared.operand.Operand.TheVariants as operand
use Rattle.qpu_line.specs.declared.part.Part.{Part}
use Rattle.qpu_line.specs.declared.units.Signal.{Signal}
use Rattle.qpu_line.specs.declared.units.Signal.TheVariants as signal
use Rattle.qpu_line.specs.declared.units.Units.{Units}
use Rattle.qpu_line.specs.declared.load.LoadKind.{LoadKind}
use Rattle.qpu_line.specs.declared.load.Load.{Load}
use Rattle.qpu_line.specs.declared.load.Write.{Write}
use Rattle.qpu_line.specs.declared.semaphore.Semaphore.{Semaphore}
use Rattle.qpu_line.specs.declared.branch.Branch.{Branch}
use Rattle.qpu_line.specs.declared.instruction.Instruction.{Instruction}
use Rattle.qpu_line.specs.declared.instruction.Instruction.TheVariants as instruction
use Rattle.qpu_line.specs.declared.name.Name.{Name}
use Rattle.qpu_line.specs.declared.name.Name.TheVariants as name
use Rattle.qpu_line.specs.declared.name.Register.TheVariants as register
use Rattle.qpu_line.specs.declared.symbol.Symbol.{Symbol}
use Rattle.qpu_line.specs.declared.symbol.Symbol.TheVariants as symbol
use Rattle.qpu_line.specs.Named.{HasWord}
use Rattle.qpu_asm.specs.declared.placed.Placed.{Placed}
use Rattle.qpu_asm.specs.Roles.{op_in_add, op_in_mul, takes_one, target_meant, source_of}
use Rattle.qpu_asm.specs.Signs.{is_colon}
use Rattle.qpu_asm.specs.Laws.{symbols_of}
use Rattle.qpu_asm.specs.SpelledPieces.{name_alone, SpellsNumber, SpellsTarget, SpellsCondition, SpellsFlags, SpellsBranchCondition, SpellsPack, SpellsOperands, written, SpellsJump}

-- units

-- a unit's part: `op.cond.setf target.pack, a, b`
pub data SpellsUnit (has : Name → Option ℕ) : List Symbol → Bool → Part → Type 0 where
  unit : {n : Name} {c f t k x : List Symbol} {op cond pack : ℕ} {sets : Bool} {to : Place} {a b : Operand}
      → has n ≡ Some op → SpellsCondition c to cond → SpellsFlags f sets → SpellsTarget t to → SpellsPack k to pack → SpellsOperands (takes_one n) x a b
      → SpellsUnit has (symbol.Name n ∷ c ++ (f ++ (t ++ (k ++ symbol.Comma ∷ x)))) sets (record { op = op; cond = cond; to = to; pack = pack; a = a; b = b })

-- the add unit's part, which stands first
pub data SpellsAdd : List Symbol → Bool → Option Part → Type 0 where
  idle : SpellsAdd (name_alone name.Nop) false None
  active : {x : List Symbol} {sets : Bool} {p : Part} → SpellsUnit op_in_add x sets p → SpellsAdd x sets (Some p)

-- the mul unit's part behind it; it is `nop` only where the add unit's is, and sets no flags where that is active
pub data SpellsMul (add : Option Part) : List (List Symbol) → Bool → Option Part → Type 0 where
  absent : SpellsMul add [] false None
  idle : add ≡ None → SpellsMul add (name_alone name.Nop ∷ []) false None
  active : {x : List Symbol} {sets : Bool} {p : Part} → SpellsUnit op_in_mul x sets p → (sets && is_some add) ≡ false → SpellsMul add (x ∷ []) sets (Some p)

-- a signal, or a rotation by 1 to 15 or by r5
pub data SpellsSignal : List Symbol → Signal → Type 0 where
  end : SpellsSignal (name_alone name.End) signal.End
  load0 : SpellsSignal (name_alone name.Load0) signal.Load0
  load1 : SpellsSignal (name_alone name.Load1) signal.Load1
  rotate : {x : List Symbol} {n : ℕ} → SpellsNumber x n → (nat_le 1 n && nat_le n 15) ≡ true → SpellsSignal (symbol.Name name.Rotate ∷ x) (signal.Rotate (ROTATE_BY_R5 + n))
  by_r5 : SpellsSignal (symbol.Name name.Rotate ∷ name_alone (name.Register (register.Accumulator 5))) (signal.Rotate ROTATE_BY_R5)

-- what stands behind the units, in any order and each once: a signal, and another read of each file, of an
-- address above the rows
pub data SpellsOthers : List (List Symbol) → Signal → Option ℕ → Option ℕ → Type 0 where
  none : SpellsOthers [] signal.Nothing None None
  signals : {x : List Symbol} {xs : List (List Symbol)} {s : Signal} {a b : Option ℕ} → SpellsSignal x s → SpellsOthers xs signal.Nothing a b → SpellsOthers (x ∷ xs) s a b
  reads_a : {n : Name} {xs : List (List Symbol)} {s : Signal} {address : ℕ} {b : Option ℕ} → source_of n ≡ Some (operand.FileA address 0) → nat_le ROWS address ≡ true
      → SpellsOthers xs s None b → SpellsOthers ((symbol.Name name.ReadA ∷ name_alone n) ∷ xs) s (Some address) b
  reads_b : {n : Name} {xs : List (List Symbol)} {s : Signal} {address : ℕ} {a : Option ℕ} → source_of n ≡ Some (operand.FileB address) → nat_le ROWS address ≡ true
      → SpellsOthers xs s a None → SpellsOthers ((symbol.Name name.ReadB ∷ name_alone n) ∷ xs) s a (Some address)

-- the addresses of a file that operands read
abbrev pub by_a : Operand → List ℕ
by_a (operand.FileA n unpack) = n ∷ []
by_a _ = []

abbrev pub by_b : Operand → List ℕ
by_b (operand.FileB n) = n ∷ []
by_b _ = []

abbrev pub by_part : (Operand → List ℕ) → Option Part → List ℕ
by_part by None = []
by_part by (Some p) = by p.a ++ by p.b

-- another read beside those of operands: that of an address that an operand reads already has no effect
pub data IsOther : List ℕ → Option ℕ → Option ℕ → Type 0 where
  other : {o : Option ℕ} → IsOther [] o o
  none : {r : ℕ} {rs : List ℕ} → IsOther (r ∷ rs) None None
  superfluous : {r : ℕ} {rs : List ℕ} → IsOther (r ∷ rs) (Some r) None

-- both units
pub data SpellsUnits : List (List Symbol) → Units → Type 0 where
  units : {x : List Symbol} {m xs : List (List Symbol)} {add_sets mul_sets : Bool} {add mul : Option Part} {s : Signal} {read_a read_b other_a other_b : Option ℕ}
      → SpellsAdd x add_sets add → SpellsMul add m mul_sets mul → SpellsOthers xs s read_a read_b
      → IsOther (by_part by_a add ++ by_part by_a mul) read_a other_a → IsOther (by_part by_b add ++ by_part by_b mul) read_b other_b
      → SpellsUnits (x ∷ m ++ xs) (record { add = add; mul = mul; sets = add_sets || mul_sets; signal = s; other_a = other_a; other_b = other_b })

-- loads

-- the second target: `also.cond target`
pub data SpellsAlso : List (List Symbol) → Option Write → Type 0 where
  absent : SpellsAlso [] None
  also : (n : Name) {c : List Symbol} {to : Place} {cond : ℕ} → SpellsCondition c to cond → target_meant n ≡ Some to
      → SpellsAlso ((symbol.Name name.Also ∷ c ++ name_alone n) ∷ []) (written to cond)

-- `ldi.cond.setf target, number`, `ldis`, `ldiu`
pub data SpellsLoad : List (List Symbol) → Load → Type 0 where
  load : {kind : LoadKind} {c f t x : List Symbol} {xs : List (List Symbol)} {cond v : ℕ} {sets : Bool} {to : Place} {mul : Option Write}
      → SpellsCondition c to cond → SpellsFlags f sets → SpellsTarget t to → SpellsNumber x v → SpellsAlso xs mul
      → SpellsLoad ((symbol.Name (name.Load kind) ∷ c ++ (f ++ (t ++ symbol.Comma ∷ x))) ∷ xs)
      (record { kind = kind; sets = sets; add = written to cond; mul = mul; immediate = v })

-- semaphores: `sinc N`, `sdec N`
pub data SpellsSemaphore : List (List Symbol) → Semaphore → Type 0 where
  increment : {x : List Symbol} {n : ℕ} → SpellsNumber x n → SpellsSemaphore ((symbol.Name name.Increment ∷ x) ∷ []) (record { down = false; number = n })
  decrement : {x : List Symbol} {n : ℕ} → SpellsNumber x n → SpellsSemaphore ((symbol.Name name.Decrement ∷ x) ∷ []) (record { down = true; number = n })

-- branches

-- the second target and the row that is added, in any order and each once; the row not where the branch goes
-- to a name already, which adds it
pub data SpellsLinks (row : Option ℕ) : List (List Symbol) → Place → Option ℕ → Type 0 where
  none : SpellsLinks row [] (place.Both NOWHERE) row
  link : {n : Name} {xs : List (List Symbol)} {to : Place} {register : Option ℕ} → target_meant n ≡ Some to
      → SpellsLinks row xs (place.Both NOWHERE) register → SpellsLinks row ((symbol.Name name.Link ∷ name_alone n) ∷ xs) to register
  adds : {n : ℕ} {xs : List (List Symbol)} {to : Place}
      → SpellsLinks row xs to None → SpellsLinks row ((symbol.Name name.Row ∷ name_alone (name.Register (register.RowA n))) ∷ xs) to (Some n)

abbrev pub branch_name : Bool → Name
branch_name relative = if relative then name.RelativeBranch else name.Branch

-- `brr.cond target, where`, `bra`
pub data SpellsBranch (at : ℕ) (label : Option ℕ) : List (List Symbol) → Branch → Type 0 where
  branch : {relative : Bool} {c t x : List Symbol} {xs : List (List Symbol)} {cond v : ℕ} {row register : Option ℕ} {to mul : Place}
      → SpellsBranchCondition c cond → SpellsTarget t to → SpellsJump relative at label x v row → SpellsLinks row xs mul register
      → SpellsBranch at label ((symbol.Name (branch_name relative) ∷ c ++ (t ++ symbol.Comma ∷ x)) ∷ xs)
      (record { cond = cond; relative = relative; register = register; add = to; mul = mul; immediate = v })

-- lines

-- the parts of an instruction at a place of a program
pub data SpellsParts (at : ℕ) (label : Option ℕ) : List (List Symbol) → Instruction → Type 0 where
  units : {parts : List (List Symbol)} {u : Units} → SpellsUnits parts u → SpellsParts at label parts (instruction.Both u)
  load : {parts : List (List Symbol)} {l : Load} → SpellsLoad parts l → SpellsParts at label parts (instruction.Load l)
  semaphore : {parts : List (List Symbol)} {s : Semaphore} → SpellsSemaphore parts s → SpellsParts at label parts (instruction.Semaphore s)
  branch : {parts : List (List Symbol)} {b : Branch} → SpellsBranch at label parts b → SpellsParts at label parts (instruction.Branch b)

-- parts with a sign `;` between them
abbrev pub behind_first : List (List Symbol) → List Symbol
behind_first [] = []
behind_first (x ∷ xs) = symbol.Semicolon ∷ (x ++ behind_first xs)

abbrev pub joined : List (List Symbol) → List Symbol
joined [] = []
joined (x ∷ xs) = x ++ behind_first xs

-- a line at a place of a program; the label that it names, if it names one, has a word or none
pub record Spells (at : ℕ) (label : Option ℕ) (line : List Symbol) (i : Instruction) : Type 0 where
  pub parts : List (List Symbol)
  pub whole : line ≡ joined parts
  pub says : SpellsParts at label parts i
  pub fits : HasWord i

-- the word of the label behind a line's first sign `:`

abbrev pub label_in : List Placed → Option ℕ
label_in [] = None
label_in (x ∷ []) = None
label_in (x ∷ y ∷ rest) = if is_colon x.symbol then y.label else label_in (y ∷ rest)

-- the tokens of a line at a place of a program spell an instruction
abbrev pub IsSpelled : ℕ → List Placed → Instruction → Type 0
IsSpelled at xs i = Spells at (label_in xs) (symbols_of xs) i
