-- The lines of instructions have few bits, and so few tokens.
use Rattle.std.proofs.Common.{ℕ, ◌+◌, ◌*◌, ◌-◌, ◌≤◌, Bool, true, false, List, [], ◌∷◌, ◌++◌, length, Option, Some, None, arith}
use Rattle.std.specs.Prelude.{◌==◌, ◌&&◌, nat_lt, nat_le, not, is_some, if◌then◌else◌}
use Rattle.std.proofs.lemmas.List.{length-append}
use Rattle.qpu_word.specs.declared.name.Place.{Place}
use Rattle.qpu_word.specs.declared.name.Place.TheVariants as place
use Rattle.qpu_word.specs.declared.code.TheConstants.{ROWS, NOWHERE, WRITE_R0, WRITE_R3, WRITE_VPM, ROTATE_BY_R5}
use Rattle.qpu_word.specs.Operations.{add_op, mul_op}
use Rattle.qpu_word.specs.Words.{is_unary}
use Rattle.qpu_line.specs.declared.operand.Operand.{Operand}
use Rattle.qpu_line.specs.declared.operand.Operand.TheVariants as operand
use Rattle.qpu_line.specs.declared.part.Part.{Part}
use Rattle.qpu_line.specs.declared.units.Signal.{Signal}
use Rattle.qpu_line.specs.declared.units.Signal.TheVariants as signal
use Rattle.qpu_line.specs.declared.units.Units.{Units}
use Rattle.qpu_line.specs.declared.load.Load.{Load}
use Rattle.qpu_line.specs.declared.load.Write.{Write}
use Rattle.qpu_line.specs.declared.semaphore.Semaphore.{Semaphore}
use Rattle.qpu_line.specs.declared.branch.Branch.{Branch}
use Rattle.qpu_line.specs.declared.instruction.Instruction.{Instruction}
use Rattle.qpu_line.specs.declared.instruction.Instruction.TheVariants as instruction
use Rattle.qpu_line.specs.declared.name.Name.{Name}
use Rattle.qpu_line.specs.declared.name.Name.TheVariants as name
use Rattle.qpu_line.specs.declared.name.Register.TheVariants as register
use Rattle.qpu_line.specs.Loads.{write_target}
use Rattle.qpu_line.specs.Canonical.{canonical_instruction}
use Rattle.qpu_line.specs.Lines.{Figure, Decimal, Negative, Hexadecimal, Bit, Word, Number, Comma, Semicolon, Dot, Dash, Space, source_a, source_b, target_bits, suffix, condition_bits, branch_condition_bits, flags_bits, pack_bits, unpack_bits, signed_figure, operand_bits, and_then, behind, part_bits, add_name, mul_name, add_bits, mul_bits, signal_bits, other_bits, units_bits, write_bits, also_bits, load_bits, semaphore_bits, is_nowhere, link_bits, row_bits, branch_bits, line_bits}
use Rattle.qpu_dis.specs.Tokens.{bit_written, written_by, bits_written, line_written}
use Rattle.qpu_inverse.proofs.Bits.{symbols_written}

-- at most so many bits
record Short (n : ℕ) (bits : List Bit) : Type 0 where
  few : length bits ≤ n

both : (m n : ℕ) (xs ys : List Bit) → Short m xs → Short n ys → Short (m + n) (xs ++ ys)
both m n xs ys p q =
    let few = p.few in
    let more = q.few in
    record { few = omega (arith, length-append xs ys) }

either : (n : ℕ) (b : Bool) (xs ys : List Bit) → Short n xs → Short n ys → Short n (if b then xs else ys)
either n true xs ys p q = p
either n false xs ys p q = q

comma : (n : ℕ) (bits : List Bit) → Short n bits → Short (2 + n) (and_then bits)
comma n bits p = let few = p.few in record { few = omega arith }

semicolon : (n : ℕ) (bits : List Bit) → Short n bits → Short (2 + n) (behind bits)
semicolon n bits p = let few = p.few in record { few = omega arith }

word : (n : ℕ) (op : Name) (bits : List Bit) → Short n bits → Short (1 + n) (Word op ∷ bits)
word n op bits p = let few = p.few in record { few = omega arith }

space : (n : ℕ) (bits : List Bit) → Short n bits → Short (1 + n) (Space ∷ bits)
space n bits p = let few = p.few in record { few = omega arith }

at_most : (m n : ℕ) (bits : List Bit) → m ≤ n → Short m bits → Short n bits
at_most m n bits less p = let few = p.few in record { few = omega arith }

figure : (f : Figure) → Short 1 (Number f ∷ [])
figure f = record { few = omega arith }

condition : (c : ℕ) → Short 2 (condition_bits c)
condition c = either 2 (nat_lt c 2) [] (suffix (name.Condition c)) (record { few = omega arith }) (record { few = omega arith })

branch_condition : (c : ℕ) → Short 2 (branch_condition_bits c)
branch_condition c = either 2 (nat_lt c 12) (suffix (name.BranchCondition c)) [] (record { few = omega arith }) (record { few = omega arith })

flags : (sets : Bool) → Short 2 (flags_bits sets)
flags sets = either 2 sets (suffix name.SetFlags) [] (record { few = omega arith }) (record { few = omega arith })

pack : (p : ℕ) → Short 2 (pack_bits p)
pack p = either 2 (p == 0) [] (suffix (name.Pack p)) (record { few = omega arith }) (record { few = omega arith })

unpack : (u : ℕ) → Short 2 (unpack_bits u)
unpack u =
    either 2 (u == 0) [] (if u == 3 then suffix name.Replicate else suffix (name.Pack u)) (record { few = omega arith })
    (either 2 (u == 3) (suffix name.Replicate) (suffix (name.Pack u)) (record { few = omega arith }) (record { few = omega arith }))

target : (to : Place) → Short 1 (target_bits to)
target (place.Both n) =
    either 1 (n == NOWHERE) (Dash ∷ []) _ (record { few = omega arith })
    (either 1 (nat_le WRITE_R0 n && nat_le n WRITE_R3) (Word (name.Register (register.Accumulator (n - WRITE_R0))) ∷ []) _ (record { few = omega arith })
    (either 1 (n == WRITE_VPM) (Word (name.Register register.Vpm) ∷ []) (Word (name.Register (register.Target (place.Both n))) ∷ []) (record { few = omega arith }) (record { few = omega arith })))
target (place.FileA n) =
    either 1 (nat_lt n ROWS) (Word (name.Register (register.RowA n)) ∷ []) (Word (name.Register (register.Target (place.FileA n))) ∷ []) (record { few = omega arith }) (record { few = omega arith })
target (place.FileB n) =
    either 1 (nat_lt n ROWS) (Word (name.Register (register.RowB n)) ∷ []) (Word (name.Register (register.Target (place.FileB n))) ∷ []) (record { few = omega arith }) (record { few = omega arith })

spaced_target : (to : Place) → Short 2 (Space ∷ target_bits to)
spaced_target to = space 1 (target_bits to) (target to)

operand_short : (o : Operand) → Short 3 (operand_bits o)
operand_short (operand.Accumulator n) = record { few = omega arith }
operand_short (operand.FileA n u) = word 2 (source_a n) (unpack_bits u) (unpack u)
operand_short (operand.FileB n) = record { few = omega arith }
operand_short (operand.Small code) = record { few = omega arith }

-- both units

part : (op : Name) (one sets : Bool) (p : Part) → Short 19 (part_bits op one sets p)
part op one sets p =
    both 14 5 _ (if one then [] else and_then (operand_bits p.b))
    (both 9 5 _ (and_then (operand_bits p.a))
    (both 7 2 _ (pack_bits p.pack)
    (both 5 2 _ (Space ∷ target_bits p.to)
    (both 3 2 _ (flags_bits sets) (word 2 op (condition_bits p.cond) (condition p.cond)) (flags sets))
    (spaced_target p.to))
    (pack p.pack))
    (comma 3 (operand_bits p.a) (operand_short p.a)))
    (either 5 one [] (and_then (operand_bits p.b)) (record { few = omega arith }) (comma 3 (operand_bits p.b) (operand_short p.b)))

add : (sets : Bool) (o : Option Part) → Short 19 (add_bits sets o)
add sets None = record { few = omega arith }
add sets (Some p) = part (add_name (add_op p.op)) (is_unary p.op) sets p

mul : (sets : Bool) (o : Option Part) → Short 21 (mul_bits sets o)
mul sets None = record { few = omega arith }
mul sets (Some p) = semicolon 19 (part_bits (mul_name (mul_op p.op)) false sets p) (part (mul_name (mul_op p.op)) false sets p)

turn : (code : ℕ) → Short 1 ((if code == ROTATE_BY_R5 then Word (name.Register (register.Accumulator 5)) else Number (Decimal (code - ROTATE_BY_R5))) ∷ [])
turn code = by_code (code == ROTATE_BY_R5)
  where
    by_code : (b : Bool) → Short 1 ((if b then Word (name.Register (register.Accumulator 5)) else Number (Decimal (code - ROTATE_BY_R5))) ∷ [])
    by_code true = record { few = omega arith }
    by_code false = record { few = omega arith }

signal_short : (s : Signal) → Short 5 (signal_bits s)
signal_short signal.Nothing = record { few = omega arith }
signal_short signal.End = record { few = omega arith }
signal_short signal.Load0 = record { few = omega arith }
signal_short signal.Load1 = record { few = omega arith }
signal_short (signal.Rotate code) = semicolon 3 _ (word 2 name.Rotate _ (space 1 _ (turn code)))

other : (before : Name) (source : ℕ → Name) (o : Option ℕ) → Short 5 (other_bits before source o)
other before source None = record { few = omega arith }
other before source (Some n) = record { few = omega arith }

units : (u : Units) → Short 55 (units_bits u)
unfolding units_bits
units u =
    both 50 5 _ (other_bits name.ReadB source_b u.other_b)
    (both 45 5 _ (other_bits name.ReadA source_a u.other_a)
    (both 40 5 _ (signal_bits u.signal)
    (both 19 21 (add_bits u.sets u.add) (mul_bits (u.sets && not (is_some u.add)) u.mul) (add u.sets u.add) (mul (u.sets && not (is_some u.add)) u.mul))
    (signal_short u.signal))
    (other name.ReadA source_a u.other_a))
    (other name.ReadB source_b u.other_b)

-- loads

write : (w : Option Write) → Short 2 (write_bits w)
write None = record { few = omega arith }
write (Some w) = condition w.cond

also : (o : Option Write) → Short 7 (also_bits o)
also None = record { few = omega arith }
also (Some w) =
    semicolon 5 (Word name.Also ∷ condition_bits w.cond ++ Space ∷ target_bits w.to)
    (both 3 2 (Word name.Also ∷ condition_bits w.cond) (Space ∷ target_bits w.to) (word 2 name.Also (condition_bits w.cond) (condition w.cond)) (spaced_target w.to))

load : (l : Load) → Short 17 (load_bits l)
unfolding load_bits
load l =
    both 10 7 _ (also_bits l.mul)
    (both 7 3 _ (and_then (Number (Hexadecimal l.immediate) ∷ []))
    (both 5 2 _ (Space ∷ target_bits (write_target l.add))
    (both 3 2 _ (flags_bits l.sets) (word 2 (name.Load l.kind) (write_bits l.add) (write l.add)) (flags l.sets))
    (spaced_target (write_target l.add)))
    (record { few = omega arith }))
    (also l.mul)

-- semaphores

semaphore : (s : Semaphore) → Short 3 (semaphore_bits s)
unfolding semaphore_bits
semaphore s = record { few = omega arith }

-- branches

link : (to : Place) → Short 5 (link_bits to)
link to =
    either 5 (is_nowhere to) [] (behind (Word name.Link ∷ Space ∷ target_bits to)) (record { few = omega arith })
    (semicolon 3 (Word name.Link ∷ Space ∷ target_bits to) (word 2 name.Link (Space ∷ target_bits to) (spaced_target to)))

row : (o : Option ℕ) → Short 5 (row_bits o)
row None = record { few = omega arith }
row (Some n) = record { few = omega arith }

branch : (b : Branch) → Short 18 (branch_bits b)
unfolding branch_bits
branch b =
    both 13 5 _ (row_bits b.register)
    (both 8 5 _ (link_bits b.mul)
    (both 5 3 _ (and_then (Number (if b.relative then signed_figure b.immediate else Hexadecimal b.immediate) ∷ []))
    (both 3 2 _ (Space ∷ target_bits b.add) (word 2 _ (branch_condition_bits b.cond) (branch_condition b.cond)) (spaced_target b.add))
    (comma 1 _ (figure _)))
    (link b.mul))
    (row b.register)

-- the whole

line : (i : Instruction) → Short 64 (line_bits i)
unfolding line_bits
line (instruction.Both u) = at_most 55 64 (units_bits u) (omega arith) (units u)
line (instruction.Load l) = at_most 17 64 (load_bits l) (omega arith) (load l)
line (instruction.Semaphore s) = at_most 3 64 (semaphore_bits s) (omega arith) (semaphore s)
line (instruction.Branch b) = at_most 18 64 (branch_bits b) (omega arith) (branch b)

pub few_bits : (i : Instruction) → length (line_bits i) ≤ 64
few_bits i = (line i).few

-- a bit has at most two tokens

one_bit : (bit : Bit) → length (bit_written bit) ≤ 2
one_bit (Word n) = omega arith
one_bit (Number (Decimal n)) = omega arith
one_bit (Number (Negative n)) = omega arith
one_bit (Number (Hexadecimal n)) = omega arith
one_bit Comma = omega arith
one_bit Semicolon = omega arith
one_bit Dot = omega arith
one_bit Dash = omega arith
one_bit Space = omega arith

two_each : (bits : List Bit) → length (symbols_written bits) ≤ 2 * length bits
two_each [] = omega arith
two_each (bit ∷ bits) =
    let one = one_bit bit in
    let more = two_each bits in
    omega (arith, length-append (bit_written bit) (symbols_written bits))

written_short : (w : ℕ) (o : Option Instruction) → length (written_by w o) ≤ 128
unfolding bits_written
written_short w None = omega arith
written_short w (Some i) =
    let few = few_bits i in
    let tokens = two_each (line_bits i) in
    omega arith

pub line_short : (w : ℕ) → length (line_written w) ≤ 128
unfolding line_written
line_short w = written_short w (canonical_instruction w)
