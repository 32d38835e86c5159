-- The lines of instructions that have a word, part by part.
use Rattle.std.proofs.Common.{◌≡◌, ℕ, ◌-◌, ◌<◌, ◌^◌, Bool, true, false, List, [], ◌∷◌, ◌++◌, Option, Some, None, refl, subst, sym, append-nil, append_assoc, arith}
use Rattle.std.specs.Prelude.{◌+◌, ◌==◌, ◌&&◌, nat_lt, nat_le, not, is_some, IfSome, if◌then◌else◌}
use Rattle.std.proofs.lemmas.Bool.Decides.{nat_tests}
use Rattle.qpu_word.specs.declared.name.Place.{Place}
use Rattle.qpu_word.specs.declared.name.Place.TheVariants as place
use Rattle.qpu_word.specs.declared.code.TheConstants.{ROWS, NOWHERE, WRITE_R0, WRITE_R3, WRITE_VPM, ROTATE_BY_R5}
use Rattle.qpu_word.specs.Operations.{add_op, mul_op}
use Rattle.qpu_word.specs.Operands.{immediate_of}
use Rattle.qpu_word.specs.Words.{is_unary}
use Rattle.qpu_line.specs.declared.operand.Operand.{Operand}
use Rattle.qpu_line.specs.declared.operand.Operand.TheVariants as operand
use Rattle.qpu_line.specs.declared.part.Part.{Part}
use Rattle.qpu_line.specs.declared.units.Signal.{Signal}
use Rattle.qpu_line.specs.declared.units.Signal.TheVariants as signal
use Rattle.qpu_line.specs.declared.units.Units.{Units}
use Rattle.qpu_line.specs.declared.load.Load.{Load}
use Rattle.qpu_line.specs.declared.load.Write.{Write}
use Rattle.qpu_line.specs.declared.semaphore.Semaphore.{Semaphore}
use Rattle.qpu_line.specs.declared.branch.Branch.{Branch}
use Rattle.qpu_line.specs.declared.instruction.Instruction.{Instruction}
use Rattle.qpu_line.specs.declared.instruction.Instruction.TheVariants as instruction
use Rattle.qpu_line.specs.declared.name.Name.{Name}
use Rattle.qpu_line.specs.declared.name.Name.TheVariants as name
use Rattle.qpu_line.specs.declared.name.Register.TheVariants as register
use Rattle.qpu_line.specs.Loads.{write_target}
use Rattle.qpu_line.specs.Named.{IsNamedOperand, IsNamedPart, IsAddPart, IsMulPart, IsNamedSignal, IsNamed, HasWord}
use Rattle.qpu_line.specs.Worded.{IsSemaphore, IsLoad, IsBranch}
use Rattle.qpu_line.specs.Lines.{Figure, Decimal, Hexadecimal, Bit, Word, Number, Dot, Dash, Space, source_a, source_b, target_bits, suffix, condition_bits, branch_condition_bits, flags_bits, pack_bits, unpack_bits, small_figure, signed_figure, operand_bits, and_then, behind, part_bits, add_name, mul_name, add_bits, mul_bits, signal_bits, other_bits, units_bits, write_bits, also_bits, load_bits, semaphore_bits, is_nowhere, link_bits, row_bits, branch_bits, line_bits}
use Rattle.qpu_line.proofs.ImmediateLemmas.{immediate_fits}
use Rattle.qpu_inverse.proofs.Bits.{IsFigure, AreSuffixes}
use Rattle.qpu_inverse.proofs.Operands.{IsOperand, no_operand, named_operand, suffixed_operand, no_target, no_target_suffixed, number_operand}
use Rattle.qpu_inverse.proofs.Pieces.{IsPiece}
use Rattle.qpu_inverse.proofs.Heads.{more_suffixes, spaced_head, lone_head}
use Rattle.qpu_inverse.proofs.Tails.{IsSection, IsLater, nothing, section, section_then, operand_later, section_later, either_later}

-- suffixes

either_suffixes : (b : Bool) (xs ys : List Bit) → AreSuffixes xs → AreSuffixes ys → AreSuffixes (if b then xs else ys)
either_suffixes true xs ys p q = p
either_suffixes false xs ys p q = q

condition_suffix : (c : ℕ) → AreSuffixes (condition_bits c)
condition_suffix c = either_suffixes (nat_lt c 2) [] (suffix (name.Condition c)) tt tt

branch_suffix : (c : ℕ) → AreSuffixes (branch_condition_bits c)
branch_suffix c = either_suffixes (nat_lt c 12) (suffix (name.BranchCondition c)) [] tt tt

flags_suffix : (sets : Bool) → AreSuffixes (flags_bits sets)
flags_suffix sets = either_suffixes sets (suffix name.SetFlags) [] tt tt

write_suffix : (w : Option Write) → AreSuffixes (write_bits w)
write_suffix None = tt
write_suffix (Some w) = condition_suffix w.cond

-- at most one suffix
abbrev AtMostOne : List Bit → Type 0
AtMostOne [] = Unit {0}
AtMostOne (Dot ∷ Word n ∷ []) = Unit {0}
AtMostOne _ = ⊥

either_one : (b : Bool) (xs ys : List Bit) → AtMostOne xs → AtMostOne ys → AtMostOne (if b then xs else ys)
either_one true xs ys p q = p
either_one false xs ys p q = q

pack_one : (p : ℕ) → AtMostOne (pack_bits p)
pack_one p = either_one (p == 0) [] (suffix (name.Pack p)) tt tt

unpack_one : (u : ℕ) → AtMostOne (unpack_bits u)
unpack_one u = either_one (u == 0) [] (if u == 3 then suffix name.Replicate else suffix (name.Pack u)) tt (either_one (u == 3) (suffix name.Replicate) (suffix (name.Pack u)) tt tt)

-- operands

name_then : (text : List ℕ) (n : Name) (s : List Bit) → AtMostOne s → IsOperand text (Word n ∷ s)
name_then text n [] one = named_operand text n
name_then text n (Dot ∷ Word m ∷ []) one = suffixed_operand text n m
name_then text n _ one = absurd one

dash_then : (text : List ℕ) (s : List Bit) → AtMostOne s → IsOperand text (Dash ∷ s)
dash_then text [] one = no_target text
dash_then text (Dot ∷ Word m ∷ []) one = no_target_suffixed text m
dash_then text _ one = absurd one

either_operand : (text : List ℕ) (b : Bool) (xs ys s : List Bit) → IsOperand text (xs ++ s) → IsOperand text (ys ++ s) → IsOperand text ((if b then xs else ys) ++ s)
either_operand text true xs ys s p q = p
either_operand text false xs ys s p q = q

target_then : (text : List ℕ) (to : Place) (s : List Bit) → AtMostOne s → IsOperand text (target_bits to ++ s)
target_then text (place.Both n) s one =
    either_operand text (n == NOWHERE) (Dash ∷ []) _ s (dash_then text s one)
    (either_operand text (nat_le WRITE_R0 n && nat_le n WRITE_R3) (Word (name.Register (register.Accumulator (n - WRITE_R0))) ∷ []) _ s (name_then text _ s one)
    (either_operand text (n == WRITE_VPM) (Word (name.Register register.Vpm) ∷ []) (Word (name.Register (register.Target (place.Both n))) ∷ []) s (name_then text _ s one) (name_then text _ s one)))
target_then text (place.FileA n) s one =
    either_operand text (nat_lt n ROWS) (Word (name.Register (register.RowA n)) ∷ []) (Word (name.Register (register.Target (place.FileA n))) ∷ []) s (name_then text _ s one) (name_then text _ s one)
target_then text (place.FileB n) s one =
    either_operand text (nat_lt n ROWS) (Word (name.Register (register.RowB n)) ∷ []) (Word (name.Register (register.Target (place.FileB n))) ∷ []) s (name_then text _ s one) (name_then text _ s one)

-- numbers

number_by : (b : Bool) (x y : Figure) → (b ≡ true → IsFigure x) → (b ≡ false → IsFigure y) → IsFigure (if b then x else y)
number_by true x y p q = p refl
number_by false x y p q = q refl

signed_number : (n : ℕ) → n < 2 ^ 32 → IsFigure (signed_figure n)
signed_number n low = number_by (nat_lt n (2 ^ 31)) _ _ (λ e. low) (λ e. (omega arith, grind (arith, nat_tests, low, e)))

small_number : (code : ℕ) → IsFigure (small_figure code)
small_number code =
    number_by (nat_lt code 32) _ _ (λ e. signed_number (immediate_of code) (immediate_fits code)) (λ e. immediate_fits code)

read_operand : (text : List ℕ) (o : Operand) → IsNamedOperand o → IsOperand text (operand_bits o)
read_operand text (operand.Accumulator n) h = named_operand text _
read_operand text (operand.FileA n unpack) h = name_then text (source_a n) (unpack_bits unpack) (unpack_one unpack)
read_operand text (operand.FileB n) h = named_operand text _
read_operand text (operand.Small code) h = number_operand text (small_figure code) (small_number code)

-- the first piece of a part: its name, suffixes, and a target

target_head : (text : List ℕ) (op : Name) (sfx : List Bit) (to : Place) (s : List Bit) → AreSuffixes sfx → AtMostOne s
    → IsSection text ((Word op ∷ sfx) ++ Space ∷ target_bits to ++ s)
target_head text op sfx to s are one =
    section text _
    (subst (IsPiece text true) (sym (append_assoc (Word op ∷ sfx) (Space ∷ target_bits to) s)) (spaced_head text op sfx (target_bits to ++ s) are (target_then text to s one)))

lone_target : (text : List ℕ) (op : Name) (sfx : List Bit) (to : Place) → AreSuffixes sfx → IsSection text ((Word op ∷ sfx) ++ Space ∷ target_bits to)
lone_target text op sfx to are =
    section text _ (spaced_head text op sfx (target_bits to) are (subst (IsOperand text) (append-nil (target_bits to)) (target_then text to [] tt)))

-- both units

second_later : (text : List ℕ) (one : Bool) (o : Operand) → IsNamedOperand o → IsLater text (if one then [] else and_then (operand_bits o))
second_later text one o h = either_later text one [] (and_then (operand_bits o)) (λ e. nothing text) (λ e. operand_later text (operand_bits o) (read_operand text o h))

part_section : (text : List ℕ) (op : Name) (one sets : Bool) (p : Part) → IsNamedPart p → IsSection text (part_bits op one sets p)
part_section text op one sets p h =
    section_then text _ (if one then [] else and_then (operand_bits p.b))
    (section_then text _ (and_then (operand_bits p.a))
    (target_head text op (condition_bits p.cond ++ flags_bits sets) p.to (pack_bits p.pack)
    (more_suffixes (condition_bits p.cond) (flags_bits sets) (condition_suffix p.cond) (flags_suffix sets)) (pack_one p.pack))
    (operand_later text (operand_bits p.a) (read_operand text p.a h.a)))
    (second_later text one p.b h.b)

lone_section : (text : List ℕ) (op : Name) → IsSection text (Word op ∷ [])
lone_section text op = section text (Word op ∷ []) (lone_head text op (no_operand text))

add_section : (text : List ℕ) (sets : Bool) (o : Option Part) → IfSome o IsAddPart → IsSection text (add_bits sets o)
add_section text sets None h = lone_section text name.Nop
add_section text sets (Some p) h = part_section text (add_name (add_op p.op)) (is_unary p.op) sets p h.part

mul_later : (text : List ℕ) (sets : Bool) (o : Option Part) → IfSome o IsMulPart → IsLater text (mul_bits sets o)
mul_later text sets None h = nothing text
mul_later text sets (Some p) h =
    section_later text (part_bits (mul_name (mul_op p.op)) false sets p) (part_section text (mul_name (mul_op p.op)) false sets p h.part)

operand_section : (text : List ℕ) (op : Name) (bits : List Bit) → IsOperand text bits → IsSection text (Word op ∷ Space ∷ bits)
operand_section text op bits o = section text (Word op ∷ Space ∷ bits) (spaced_head text op [] bits tt o)

turn_operand : (text : List ℕ) (code : ℕ) → code < 64
    → IsOperand text ((if code == ROTATE_BY_R5 then Word (name.Register (register.Accumulator 5)) else Number (Decimal (code - ROTATE_BY_R5))) ∷ [])
turn_operand text code low = by_code (code == ROTATE_BY_R5)
  where
    by_code : (b : Bool) → IsOperand text ((if b then Word (name.Register (register.Accumulator 5)) else Number (Decimal (code - ROTATE_BY_R5))) ∷ [])
    by_code true = named_operand text _
    by_code false = number_operand text (Decimal (code - ROTATE_BY_R5)) (omega arith)

turn_low : (code : ℕ) → (nat_le ROTATE_BY_R5 code && nat_le code (ROTATE_BY_R5 + 15)) ≡ true → code < 64
turn_low code between = grind (arith, nat_tests, between)

signal_later : (text : List ℕ) (s : Signal) (mul : Option Part) → IsNamedSignal s mul → IsLater text (signal_bits s)
signal_later text signal.Nothing mul h = nothing text
signal_later text signal.End mul h = section_later text (Word name.End ∷ []) (lone_section text name.End)
signal_later text signal.Load0 mul h = section_later text (Word name.Load0 ∷ []) (lone_section text name.Load0)
signal_later text signal.Load1 mul h = section_later text (Word name.Load1 ∷ []) (lone_section text name.Load1)
signal_later text (signal.Rotate code) mul h =
    section_later text _ (operand_section text name.Rotate _ (turn_operand text code (turn_low code h.0)))

named_later : (text : List ℕ) (before n : Name) → IsLater text (behind (Word before ∷ Space ∷ Word n ∷ []))
named_later text before n = section_later text (Word before ∷ Space ∷ Word n ∷ []) (operand_section text before (Word n ∷ []) (named_operand text n))

other_later : (text : List ℕ) (before : Name) (source : ℕ → Name) (o : Option ℕ) → IsLater text (other_bits before source o)
other_later text before source None = nothing text
other_later text before source (Some n) = named_later text before (source n)

units_section : (text : List ℕ) (u : Units) → IsNamed u → IsSection text (units_bits u)
unfolding units_bits
units_section text u h =
    section_then text _ (other_bits name.ReadB source_b u.other_b)
    (section_then text _ (other_bits name.ReadA source_a u.other_a)
    (section_then text _ (signal_bits u.signal)
    (section_then text (add_bits u.sets u.add) (mul_bits (u.sets && not (is_some u.add)) u.mul) (add_section text u.sets u.add h.add) (mul_later text (u.sets && not (is_some u.add)) u.mul h.mul))
    (signal_later text u.signal u.mul h.signal))
    (other_later text name.ReadA source_a u.other_a))
    (other_later text name.ReadB source_b u.other_b)

-- loads

also_later : (text : List ℕ) (o : Option Write) → IsLater text (also_bits o)
also_later text None = nothing text
also_later text (Some w) = section_later text _ (lone_target text name.Also (condition_bits w.cond) w.to (condition_suffix w.cond))

load_section : (text : List ℕ) (l : Load) → IsLoad l → IsSection text (load_bits l)
unfolding load_bits
load_section text l h =
    section_then text _ (also_bits l.mul)
    (section_then text _ (and_then (Number (Hexadecimal l.immediate) ∷ []))
    (lone_target text (name.Load l.kind) (write_bits l.add ++ flags_bits l.sets) (write_target l.add)
    (more_suffixes (write_bits l.add) (flags_bits l.sets) (write_suffix l.add) (flags_suffix l.sets)))
    (operand_later text (Number (Hexadecimal l.immediate) ∷ []) (number_operand text (Hexadecimal l.immediate) h.immediate)))
    (also_later text l.mul)

-- semaphores

semaphore_section : (text : List ℕ) (s : Semaphore) → IsSemaphore s → IsSection text (semaphore_bits s)
unfolding semaphore_bits
semaphore_section text s h = operand_section text _ (Number (Decimal s.number) ∷ []) (number_operand text (Decimal s.number) (omega arith))

-- branches

link_later : (text : List ℕ) (to : Place) → IsLater text (link_bits to)
link_later text to =
    either_later text (is_nowhere to) [] (behind (Word name.Link ∷ Space ∷ target_bits to)) (λ e. nothing text)
    (λ e. section_later text (Word name.Link ∷ Space ∷ target_bits to) (lone_target text name.Link [] to tt))

row_later : (text : List ℕ) (o : Option ℕ) → IsLater text (row_bits o)
row_later text None = nothing text
row_later text (Some row) = named_later text name.Row (name.Register (register.RowA row))

distance_number : (b : Branch) → b.immediate < 2 ^ 32 → IsFigure (if b.relative then signed_figure b.immediate else Hexadecimal b.immediate)
distance_number b low = number_by b.relative (signed_figure b.immediate) (Hexadecimal b.immediate) (λ e. signed_number b.immediate low) (λ e. low)

branch_section : (text : List ℕ) (b : Branch) → IsBranch b → IsSection text (branch_bits b)
unfolding branch_bits
branch_section text b h =
    section_then text _ (row_bits b.register)
    (section_then text _ (link_bits b.mul)
    (section_then text _ (and_then (Number (if b.relative then signed_figure b.immediate else Hexadecimal b.immediate) ∷ []))
    (lone_target text _ (branch_condition_bits b.cond) b.add (branch_suffix b.cond))
    (operand_later text _ (number_operand text _ (distance_number b h.immediate))))
    (link_later text b.mul))
    (row_later text b.register)

-- the whole

pub line_section : (text : List ℕ) (i : Instruction) → HasWord i → IsSection text (line_bits i)
unfolding line_bits
line_section text (instruction.Both u) h = units_section text u h.1
line_section text (instruction.Load l) h = load_section text l h
line_section text (instruction.Semaphore s) h = semaphore_section text s h
line_section text (instruction.Branch b) h = branch_section text b h
