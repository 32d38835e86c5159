-- The canonical line of an instruction that has a word spells it.
use Rattle.std.proofs.Common.{◌≡◌, ℕ, ◌+◌, ◌-◌, ◌<◌, ◌≤◌, Bool, true, false, List, [], ◌∷◌, ◌++◌, Option, Some, None, refl, sym, ap, subst, ◌∙◌, append-nil, append_assoc, arith}
use Rattle.std.proofs.lemmas.Bool.Decides.{nat_tests}
use Rattle.std.specs.Prelude.{◌%◌, ◌==◌, ◌&&◌, ◌||◌, not, nat_lt, nat_le, is_some, IfSome, if◌then◌else◌}
use Rattle.qpu_word.specs.declared.name.Place.{Place}
use Rattle.qpu_word.specs.declared.name.Place.TheVariants.{Both as InBoth, FileA as InA, FileB as InB}
use Rattle.qpu_word.specs.Operands.{small_value}
use Rattle.qpu_word.specs.Operations.{add_op, mul_op}
use Rattle.qpu_word.specs.Words.{between, is_unary}
use Rattle.qpu_line.specs.declared.operand.Operand.{Operand}
use Rattle.qpu_line.specs.declared.operand.Operand.TheVariants.{Accumulator, FileA, FileB, Small}
use Rattle.qpu_line.specs.declared.part.Part.{Part as UnitDoes}
use Rattle.qpu_line.specs.declared.units.Signal.{Signal}
use Rattle.qpu_line.specs.declared.units.Signal.TheVariants.{Nothing, End, Load0, Load1, Rotate}
use Rattle.qpu_line.specs.declared.units.Units.{Units}
use Rattle.qpu_line.specs.declared.slots.UnitFields.{UnitFields}
use Rattle.qpu_line.specs.declared.load.Load.{Load}
use Rattle.qpu_line.specs.declared.load.Write.{Write}
use Rattle.qpu_line.specs.declared.semaphore.Semaphore.{Semaphore}
use Rattle.qpu_line.specs.declared.branch.Branch.{Branch}
use Rattle.qpu_line.specs.declared.instruction.Instruction.{Instruction}
use Rattle.qpu_line.specs.declared.instruction.Instruction.TheVariants as instruction
use Rattle.qpu_line.specs.declared.name.Name.{Name}
use Rattle.qpu_line.specs.declared.name.Name.TheVariants as name
use Rattle.qpu_line.specs.declared.name.Register.TheVariants as register
use Rattle.qpu_line.specs.declared.symbol.Symbol.{Symbol}
use Rattle.qpu_line.specs.declared.symbol.Symbol.TheVariants as symbol
use Rattle.qpu_line.specs.Loads.{write_target}
use Rattle.qpu_line.specs.Worded.{IsWrite, IsLoad, IsBranch}
use Rattle.qpu_line.specs.Both.{IsPart, IsBoth}
use Rattle.qpu_line.specs.Named.{is_source, is_unpack_at, IsNamedOperand, is_pack_at, IsNamedPart, IsAddPart, IsMulPart, IsNamedSignal, IsOther as IsNamedOther, IsNamed, HasWord}
use Rattle.qpu_line.specs.Units.{mux_of, op_of, cond_of, first_of, second_of, part_uses, any_uses, fields_of_units}
use Rattle.qpu_line.specs.Lines.{Bit, Word, Number, Figure, Decimal, Hexadecimal, Dash, Space, worth, source_a, source_b, target_bits, suffix, condition_bits, branch_condition_bits, flags_bits, pack_bits, signed_figure, small_figure, operand_bits, and_then, behind, part_bits, add_name, mul_name, add_bits, mul_bits, signal_bits, other_bits, units_bits, write_bits, also_bits, load_bits, semaphore_bits, is_nowhere as is_dash, link_bits, row_bits, branch_bits, line_bits, symbols_of as symbols, line_symbols}
use Rattle.qpu_asm.specs.Roles.{op_in_add, op_in_mul, takes_one}
use Rattle.qpu_asm.specs.SpelledPieces.{is_nowhere, name_alone, SpellsNumber, SpellsTarget, SpellsCondition, SpellsFlags, SpellsBranchCondition, SpellsPack, SpellsOperand, SpellsOperands, written}
use Rattle.qpu_asm.specs.SpelledPieces.SpellsNumber.{number}
use Rattle.qpu_asm.specs.SpelledPieces.SpellsTarget.{nowhere, named as target_named}
use Rattle.qpu_asm.specs.SpelledPieces.SpellsCondition.{always, given}
use Rattle.qpu_asm.specs.SpelledPieces.SpellsFlags.{kept, set}
use Rattle.qpu_asm.specs.SpelledPieces.SpellsBranchCondition.{always as branch_always, given as branch_given}
use Rattle.qpu_asm.specs.SpelledPieces.SpellsPack.{whole, packed}
use Rattle.qpu_asm.specs.SpelledPieces.SpellsOperand.{named as operand_named, unpacked, small}
use Rattle.qpu_asm.specs.SpelledPieces.SpellsOperands.{one as one_operand, two as two_operands}
use Rattle.qpu_asm.specs.SpelledPieces.SpellsJump.{number as by_number}
use Rattle.qpu_asm.specs.Spells.{SpellsUnit, SpellsAdd, SpellsMul, SpellsSignal, SpellsOthers, by_a, by_b, by_part, IsOther, SpellsUnits, SpellsAlso, SpellsLoad, SpellsSemaphore, SpellsLinks, SpellsBranch, behind_first, joined, Spells}
use Rattle.qpu_asm.specs.Spells.SpellsUnit.{unit}
use Rattle.qpu_asm.specs.Spells.SpellsAdd.{idle as add_idle, active as add_active}
use Rattle.qpu_asm.specs.Spells.SpellsMul.{absent, active as mul_active}
use Rattle.qpu_asm.specs.Spells.SpellsSignal.{end, load0, load1, rotate, by_r5}
use Rattle.qpu_asm.specs.Spells.SpellsOthers.{none as no_others, signals, reads_a, reads_b}
use Rattle.qpu_asm.specs.Spells.IsOther.{other, none as no_other}
use Rattle.qpu_asm.specs.Spells.SpellsUnits.{units as both_units}
use Rattle.qpu_asm.specs.Spells.SpellsAlso.{absent as no_also, also}
use Rattle.qpu_asm.specs.Spells.SpellsLoad.{load as load_line}
use Rattle.qpu_asm.specs.Spells.SpellsSemaphore.{increment, decrement}
use Rattle.qpu_asm.specs.Spells.SpellsLinks.{none as no_links, link, adds}
use Rattle.qpu_asm.specs.Spells.SpellsBranch.{branch as branch_line}
use Rattle.qpu_asm.specs.Spells.SpellsParts.{units, load, semaphore, branch}
use Rattle.qpu_asm.proofs.AgainSpelled.{symbols_append}
use Rattle.qpu_asm.proofs.AgainOps.{add_known, mul_known}
use Rattle.qpu_asm.proofs.AgainOperands.{source_a_is, source_b_is, figure_worth, worth_of_small}
use Rattle.qpu_asm.proofs.AgainHeld.{other_held, both_false}
use Rattle.qpu_line.proofs.ImmediateLemmas.{small_fits}

-- numbers

number_spelled : (v n : ℕ) → v ≡ n → n < 4294967296 → SpellsNumber (symbol.Number v ∷ []) n
number_spelled v n is near =
    let same : v % 4294967296 ≡ n = let low : v < 4294967296 = rw is near in omega (arith, low, is) in subst (SpellsNumber (symbol.Number v ∷ [])) same number

-- targets

nowhere_by : (n : ℕ) → (n == 39) ≡ true → SpellsTarget (symbol.Minus ∷ []) (InBoth n)
nowhere_by n e = let is : n ≡ 39 = grind (arith, nat_tests, e) in rw is nowhere

accumulator_by : (n : ℕ) → (nat_le 32 n && nat_le n 35) ≡ true → SpellsTarget (name_alone (name.Register (register.Accumulator (n - 32)))) (InBoth n)
accumulator_by n e =
    let near : nat_lt (n - 32) 4 ≡ true = grind (arith, nat_tests, e) in
    let low : 32 ≤ n = grind (arith, nat_tests, e) in
    let back : 32 + (n - 32) ≡ n = omega arith in
    target_named (rw (near, back) refl)

vpm_by : (n : ℕ) → (n == 48) ≡ true → SpellsTarget (name_alone (name.Register register.Vpm)) (InBoth n)
vpm_by n e = let is : n ≡ 48 = grind (arith, nat_tests, e) in rw is (target_named refl)

both_spelled : (n : ℕ) (a b c : Bool) → (n == 39) ≡ a → (nat_le 32 n && nat_le n 35) ≡ b → (n == 48) ≡ c
    → SpellsTarget
    (symbols (if a then Dash ∷ []
    else if b then Word (name.Register (register.Accumulator (n - 32))) ∷ []
    else if c then Word (name.Register register.Vpm) ∷ []
    else Word (name.Register (register.Target (InBoth n))) ∷ [])) (InBoth n)
both_spelled n true b c e f g = nowhere_by n e
both_spelled n false true c e f g = accumulator_by n f
both_spelled n false false true e f g = vpm_by n g
both_spelled n false false false e f g = target_named refl

a_spelled : (n : ℕ) (a : Bool) → SpellsTarget (symbols (if a then Word (name.Register (register.RowA n)) ∷ [] else Word (name.Register (register.Target (InA n))) ∷ [])) (InA n)
a_spelled n true = target_named refl
a_spelled n false = target_named refl

b_spelled : (n : ℕ) (a : Bool) → SpellsTarget (symbols (if a then Word (name.Register (register.RowB n)) ∷ [] else Word (name.Register (register.Target (InB n))) ∷ [])) (InB n)
b_spelled n true = target_named refl
b_spelled n false = target_named refl

pub target_spelled : (to : Place) → SpellsTarget (symbols (target_bits to)) to
target_spelled (InBoth n) = both_spelled n (n == 39) (nat_le 32 n && nat_le n 35) (n == 48) refl refl refl
target_spelled (InA n) = a_spelled n (nat_lt n 32)
target_spelled (InB n) = b_spelled n (nat_lt n 32)

-- suffixes

condition_by : (to : Place) (cond : ℕ) (low dash : Bool) → nat_lt cond 2 ≡ low → is_nowhere to ≡ dash → between 1 cond 7 ≡ true → (dash ≡ true → cond ≡ 1)
    → SpellsCondition (symbols (if low then [] else suffix (name.Condition cond))) to cond
condition_by to cond true dash e f known once = let is : cond ≡ 1 = grind (arith, nat_tests, e, known) in rw is always
condition_by to cond false true e f known once = absurd (let is : cond ≡ 1 = once refl in grind (arith, nat_tests, e, is))
condition_by to cond false false e f known once = given f

condition_spelled : (to : Place) (cond : ℕ) → between 1 cond 7 ≡ true → (is_nowhere to ≡ true → cond ≡ 1) → SpellsCondition (symbols (condition_bits cond)) to cond
condition_spelled to cond known once = condition_by to cond (nat_lt cond 2) (is_nowhere to) refl refl known once

flags_spelled : (sets : Bool) → SpellsFlags (symbols (flags_bits sets)) sets
flags_spelled true = set
flags_spelled false = kept

taken_by : (cond : ℕ) (low : Bool) → nat_lt cond 12 ≡ low → cond < 16 → between 12 cond 14 ≡ false → SpellsBranchCondition (symbols (if low then suffix (name.BranchCondition cond) else [])) cond
taken_by cond true e near known = branch_given
taken_by cond false e near known = let is : cond ≡ 15 = grind (arith, nat_tests, e, known) in rw is branch_always

pack_by : (to : Place) (pack : ℕ) (none : Bool) → (pack == 0) ≡ none → is_pack_at to pack ≡ true → SpellsPack (symbols (if none then [] else suffix (name.Pack pack))) to pack
pack_by to pack true e known = let is : pack ≡ 0 = grind (arith, nat_tests, e) in rw is whole
pack_by (InA a) pack false e known = packed (grind (arith, nat_tests, e, known)) refl
pack_by (InB a) pack false e known = absurd (grind (arith, nat_tests, e, known))
pack_by (InBoth a) pack false e known = absurd (grind (arith, nat_tests, e, known))

-- operands

row_by : (n u : ℕ) (whole_row : Bool) → (u == 0) ≡ whole_row → is_unpack_at n u ≡ true → (whole_row ≡ false) → nat_lt n 32 ≡ true
row_by n u true e known f = absurd (grind (arith, f))
row_by n u false e known f = grind (arith, nat_tests, e, known)

unpack_by : (n u : ℕ) (a b : Bool) → (u == 0) ≡ a → (u == 3) ≡ b → is_unpack_at n u ≡ true
    → SpellsOperand (symbol.Name (source_a n) ∷ symbols (if a then [] else if b then suffix name.Replicate else suffix (name.Pack u))) (FileA n u)
unpack_by n u true b e f known = let is : u ≡ 0 = grind (arith, nat_tests, e) in rw is (operand_named (source_a_is n))
unpack_by n u false true e f known =
    let is : u ≡ 3 = grind (arith, nat_tests, f) in let low : nat_lt n 32 ≡ true = row_by n u false e known refl in rw is (unpacked (source_a_is n) low refl)
unpack_by n u false false e f known =
    let low : nat_lt n 32 ≡ true = row_by n u false e known refl in
    let near : nat_lt u 8 ≡ true = grind (arith, nat_tests, e, known) in
    unpacked (source_a_is n) low (rw (near, f) refl)

operand_spelled : (o : Operand) → IsNamedOperand o → SpellsOperand (symbols (operand_bits o)) o
operand_spelled (Accumulator n) is = operand_named refl
operand_spelled (FileA n u) is = unpack_by n u (u == 0) (u == 3) refl refl is.1
operand_spelled (FileB n) is = operand_named (source_b_is n)
operand_spelled (Small code) is = small is (number_spelled (worth (small_figure code)) (small_value code) (worth_of_small code is) (small_fits code is))

operands_spelled : (one : Bool) (a b : Operand) → (one ≡ true → b ≡ a) → IsNamedOperand a → IsNamedOperand b
    → SpellsOperands one (symbols (operand_bits a) ++ symbols (if one then [] else and_then (operand_bits b))) a b
operands_spelled true a b twice is_a is_b =
    rw (twice refl) (subst (λ (z : List Symbol). SpellsOperands true z a a) (sym (append-nil (symbols (operand_bits a)))) (one_operand (operand_spelled a is_a)))
operands_spelled false a b twice is_a is_b = two_operands (operand_spelled a is_a) (operand_spelled b is_b)

-- units

six : (a b c d e f : List Bit) → symbols (a ++ b ++ c ++ d ++ e ++ f) ≡ symbols a ++ (symbols b ++ (symbols c ++ (symbols d ++ (symbols e ++ symbols f))))
six a b c d e f = simp (symbols_append, append_assoc) refl

unit_spelled : (has : Name → Option ℕ) (op : Name) (one sets : Bool) (p : UnitDoes) → has op ≡ Some p.op → takes_one op ≡ one → (one ≡ true → p.b ≡ p.a) → IsNamedPart p
    → SpellsUnit has (symbols (part_bits op one sets p)) sets p
unit_spelled has op one sets p is takes twice named =
    let last : List Bit = if one then [] else and_then (operand_bits p.b) in
    let x : List Symbol = symbols (operand_bits p.a) ++ symbols last in
    let operands : SpellsOperands (takes_one op) x p.a p.b = rw takes (operands_spelled one p.a p.b twice named.a named.b) in
    let e = six (condition_bits p.cond) (flags_bits sets) (Space ∷ target_bits p.to) (pack_bits p.pack) (and_then (operand_bits p.a)) last in
    subst (λ (z : List Symbol). SpellsUnit has (symbol.Name op ∷ z) sets p) (sym e)
    (unit is (condition_spelled p.to p.cond named.cond named.always) (flags_spelled sets) (target_spelled p.to) (pack_by p.to p.pack (p.pack == 0) refl named.pack) operands)

abbrev adds_sets : Bool → Option UnitDoes → Bool
adds_sets sets None = false
adds_sets sets (Some p) = sets

add_spelled : (sets : Bool) (o : Option UnitDoes) → IfSome o IsAddPart → SpellsAdd (symbols (add_bits sets o)) (adds_sets sets o) o
add_spelled sets None is = add_idle
add_spelled sets (Some p) is =
    let k = add_known p.op is.op in
    let n : Name = name.Add k.op in
    let e : add_name (add_op p.op) ≡ n = ap add_name k.found in
    rw e (add_active (unit_spelled op_in_add n (is_unary p.op) sets p (ap (λ (z : ℕ). Some z) k.code) k.one is.twice is.part))

abbrev mul_parts : Bool → Option UnitDoes → List (List Symbol)
mul_parts sets None = []
mul_parts sets (Some p) = symbols (part_bits (mul_name (mul_op p.op)) false sets p) ∷ []

pub no_case : (P : Type 0) → false ≡ true → P
no_case P e = absurd cc

mul_spelled : (add : Option UnitDoes) (sets : Bool) (o : Option UnitDoes) → (sets && is_some add) ≡ false → IfSome o IsMulPart → SpellsMul add (mul_parts sets o) (adds_sets sets o) o
mul_spelled add sets None alone is = absent
mul_spelled add sets (Some p) alone is =
    let k = mul_known p.op is.op in
    rw k.named (mul_active (unit_spelled op_in_mul k.op false sets p k.code k.one (λ e. no_case (p.b ≡ p.a) e) is.part) alone)

-- signals

abbrev turn_bits : Bool → ℕ → List Bit
turn_bits r5 code = Word name.Rotate ∷ Space ∷ (if r5 then Word (name.Register (register.Accumulator 5)) else Number (Decimal (code - 48))) ∷ []

abbrev signal_parts : Signal → List (List Symbol)
signal_parts Nothing = []
signal_parts End = name_alone name.End ∷ []
signal_parts Load0 = name_alone name.Load0 ∷ []
signal_parts Load1 = name_alone name.Load1 ∷ []
signal_parts (Rotate code) = symbols (turn_bits (code == 48) code) ∷ []

turn_spelled : (code : ℕ) (r5 : Bool) → (code == 48) ≡ r5 → between 48 code 63 ≡ true → SpellsSignal (symbols (turn_bits r5 code)) (Rotate code)
turn_spelled code true e known = let is : code ≡ 48 = grind (arith, nat_tests, e) in rw is by_r5
turn_spelled code false e known =
    let low : 48 ≤ code = grind (arith, nat_tests, known) in
    let high : code ≤ 63 = grind (arith, nat_tests, known) in
    let inside : (nat_le 1 (code - 48) && nat_le (code - 48) 15) ≡ true = grind (arith, nat_tests, e, known) in
    let back : 48 + (code - 48) ≡ code = omega arith in
    subst (λ (z : ℕ). SpellsSignal (symbols (turn_bits false code)) (Rotate z)) back (rotate (number_spelled (code - 48) (code - 48) refl (omega arith)) inside)

with_signal : (s : Signal) (mul : Option UnitDoes) (xs : List (List Symbol)) (a b : Option ℕ) → IsNamedSignal s mul → SpellsOthers xs Nothing a b → SpellsOthers (signal_parts s ++ xs) s a b
with_signal Nothing mul xs a b is later = later
with_signal End mul xs a b is later = signals end later
with_signal Load0 mul xs a b is later = signals load0 later
with_signal Load1 mul xs a b is later = signals load1 later
with_signal (Rotate code) mul xs a b is later = signals (turn_spelled code (code == 48) refl is.0) later

-- other reads

abbrev read_parts : Name → (ℕ → Name) → Option ℕ → List (List Symbol)
read_parts before source None = []
read_parts before source (Some n) = (symbol.Name before ∷ name_alone (source n)) ∷ []

above_rows : (a b : Bool) → (a && b) ≡ true → b ≡ true
above_rows true b e = e
above_rows false b e = no_case (b ≡ true) e

b_read : (o : Option ℕ) → IfSome o IsNamedOther → SpellsOthers (read_parts name.ReadB source_b o) Nothing None o
b_read None is = no_others
b_read (Some n) is = reads_b (source_b_is n) (above_rows (is_source n) (nat_le 32 n) is) no_others

a_read : (o b : Option ℕ) (xs : List (List Symbol)) → IfSome o IsNamedOther → SpellsOthers xs Nothing None b → SpellsOthers (read_parts name.ReadA source_a o ++ xs) Nothing o b
a_read None b xs is later = later
a_read (Some n) b xs is later = reads_a (source_a_is n) (above_rows (is_source n) (nat_le 32 n) is) later

other_by : (rs : List ℕ) (o : Option ℕ) → ((n : ℕ) → o ≡ Some n → rs ≡ []) → IsOther rs o o
other_by [] o alone = other
other_by (r ∷ rs) None alone = no_other
other_by (r ∷ rs) (Some n) alone = absurd (let e : r ∷ rs ≡ [] = alone n refl in cc)

-- an operand that reads a file has its mux

no_a : (o : Operand) → (mux_of o == 6) ≡ false → by_a o ≡ []
no_a (Accumulator n) e = refl
no_a (FileA n u) e = absurd (grind (arith, e))
no_a (FileB n) e = refl
no_a (Small code) e = refl

no_b : (o : Operand) → (mux_of o == 7) ≡ false → by_b o ≡ []
no_b (Accumulator n) e = refl
no_b (FileA n u) e = refl
no_b (FileB n) e = absurd (grind (arith, e))
no_b (Small code) e = refl

none_used : (by : Operand → List ℕ) (mux : ℕ) (s : UnitFields) (in_b : Bool) (o : Option UnitDoes) → ((p : Operand) → (mux_of p == mux) ≡ false → by p ≡ [])
    → IfSome o (IsPart s in_b) → part_uses (op_of o) (cond_of o) (first_of o) (second_of o) mux ≡ false → by_part by o ≡ []
none_used by mux s in_b None free is e = refl
none_used by mux s in_b (Some p) free is e =
    let n = neither ((p.op == 0) || (p.cond == 0)) (mux_of p.a == mux) (mux_of p.b == mux) is.acts e in
    rw (free p.a n.0, free p.b n.1) refl
  where
    neither : (idle x y : Bool) → idle ≡ false → (not idle && (x || y)) ≡ false → (x ≡ false) × (y ≡ false)
    neither true x y f h = absurd (grind (arith, f))
    neither false true y f h = absurd (grind (arith, h))
    neither false false y f h = (refl, h)

both_none : (a b : List ℕ) → a ≡ [] → b ≡ [] → a ++ b ≡ []
both_none a b e f = rw (e, f) refl

none_of_a : (u : Units) → IsBoth u → (n : ℕ) → u.other_a ≡ Some n → by_part by_a u.add ++ by_part by_a u.mul ≡ []
unfolding fields_of_units
none_of_a u is n e =
    let s : UnitFields = fields_of_units u in
    let free = other_held (any_uses s 6) s.raddr_a n (is.other_a ∙ e) in
    let each = both_false (part_uses (op_of u.add) (cond_of u.add) (first_of u.add) (second_of u.add) 6) (part_uses (op_of u.mul) (cond_of u.mul) (first_of u.mul) (second_of u.mul) 6) free.0 in
    both_none (by_part by_a u.add) (by_part by_a u.mul) (none_used by_a 6 s (s.ws == 1) u.add no_a is.add each.0) (none_used by_a 6 s (not (s.ws == 1)) u.mul no_a is.mul each.1)

none_of_b : (u : Units) → IsBoth u → (n : ℕ) → u.other_b ≡ Some n → by_part by_b u.add ++ by_part by_b u.mul ≡ []
unfolding fields_of_units
none_of_b u is n e =
    let s : UnitFields = fields_of_units u in
    let free = other_held ((s.sig == 13) || any_uses s 7) s.raddr_b n (is.other_b ∙ e) in
    let used = both_false (s.sig == 13) (any_uses s 7) free.0 in
    let each = both_false (part_uses (op_of u.add) (cond_of u.add) (first_of u.add) (second_of u.add) 7) (part_uses (op_of u.mul) (cond_of u.mul) (first_of u.mul) (second_of u.mul) 7) used.1 in
    both_none (by_part by_b u.add) (by_part by_b u.mul) (none_used by_b 7 s (s.ws == 1) u.add no_b is.add each.0) (none_used by_b 7 s (not (s.ws == 1)) u.mul no_b is.mul each.1)

-- parts behind a sign `;`

one_behind : (bits : List Bit) → symbols (behind bits) ≡ behind_first (symbols bits ∷ [])
one_behind bits = ap (λ z. symbol.Semicolon ∷ z) (sym (append-nil (symbols bits)))

behind_both : (a b : List (List Symbol)) → behind_first (a ++ b) ≡ behind_first a ++ behind_first b
behind_both [] b = refl
behind_both (x ∷ a) b = ap (λ z. symbol.Semicolon ∷ z) (ap (λ z. x ++ z) (behind_both a b) ∙ sym (append_assoc x (behind_first a) (behind_first b)))

mul_behind : (sets : Bool) (o : Option UnitDoes) → symbols (mul_bits sets o) ≡ behind_first (mul_parts sets o)
mul_behind sets None = refl
mul_behind sets (Some p) = one_behind (part_bits (mul_name (mul_op p.op)) false sets p)

signal_behind : (s : Signal) → symbols (signal_bits s) ≡ behind_first (signal_parts s)
signal_behind Nothing = refl
signal_behind End = refl
signal_behind Load0 = refl
signal_behind Load1 = refl
signal_behind (Rotate code) = one_behind (turn_bits (code == 48) code)

read_behind : (before : Name) (source : ℕ → Name) (o : Option ℕ) → symbols (other_bits before source o) ≡ behind_first (read_parts before source o)
read_behind before source None = refl
read_behind before source (Some n) = refl

-- both units

five : (a b c d e : List Bit) → symbols (a ++ b ++ c ++ d ++ e) ≡ symbols a ++ (symbols b ++ (symbols c ++ (symbols d ++ symbols e)))
five a b c d e = simp (symbols_append, append_assoc) refl

four : (a b c d : List (List Symbol)) → behind_first (a ++ (b ++ (c ++ d))) ≡ behind_first a ++ (behind_first b ++ (behind_first c ++ behind_first d))
four a b c d = simp behind_both refl

parts_same : (h m m' s s' a a' b b' : List Symbol) → m ≡ m' → s ≡ s' → a ≡ a' → b ≡ b' → h ++ (m ++ (s ++ (a ++ b))) ≡ h ++ (m' ++ (s' ++ (a' ++ b')))
parts_same h m m' s s' a a' b b' f g i j = rw (f, g, i, j) refl

abbrev mul_flags : Units → Bool
mul_flags u = u.sets && not (is_some u.add)

abbrev later_parts : Units → List (List Symbol)
later_parts u = signal_parts u.signal ++ (read_parts name.ReadA source_a u.other_a ++ read_parts name.ReadB source_b u.other_b)

abbrev pub units_parts : Units → List (List Symbol)
units_parts u = symbols (add_bits u.sets u.add) ∷ mul_parts (mul_flags u) u.mul ++ later_parts u

pub units_whole : (u : Units) → symbols (units_bits u) ≡ joined (units_parts u)
unfolding units_bits
units_whole u =
    let head : List Symbol = symbols (add_bits u.sets u.add) in
    let m : List (List Symbol) = mul_parts (mul_flags u) u.mul in
    let s : List (List Symbol) = signal_parts u.signal in
    let a : List (List Symbol) = read_parts name.ReadA source_a u.other_a in
    let b : List (List Symbol) = read_parts name.ReadB source_b u.other_b in
    five (add_bits u.sets u.add) (mul_bits (mul_flags u) u.mul) (signal_bits u.signal) (other_bits name.ReadA source_a u.other_a) (other_bits name.ReadB source_b u.other_b)
    ∙ (parts_same head _ _ _ _ _ _ _ _ (mul_behind (mul_flags u) u.mul) (signal_behind u.signal) (read_behind name.ReadA source_a u.other_a) (read_behind name.ReadB source_b u.other_b)
    ∙ ap (λ z. head ++ z) (sym (four m s a b)))

-- the flags are set by one of the units
flags_whole : (sets : Bool) (add mul : Option UnitDoes) → (sets ≡ true → (is_some add || is_some mul) ≡ true) → (adds_sets sets add || adds_sets (sets && not (is_some add)) mul) ≡ sets
flags_whole true None None some = no_case _ (some refl)
flags_whole true None (Some p) some = refl
flags_whole true (Some p) None some = refl
flags_whole true (Some p) (Some q) some = refl
flags_whole false None None some = refl
flags_whole false None (Some p) some = refl
flags_whole false (Some p) None some = refl
flags_whole false (Some p) (Some q) some = refl

alone_by : (sets has : Bool) → ((sets && not has) && has) ≡ false
alone_by true true = refl
alone_by true false = refl
alone_by false has = refl

pub units_spelled : (u : Units) → IsBoth u → IsNamed u → SpellsUnits (units_parts u) u
units_spelled u is named =
    let flags = adds_sets u.sets u.add || adds_sets (mul_flags u) u.mul in
    let with_flags : Bool → Units = λ z. record { add = u.add; mul = u.mul; sets = z; signal = u.signal; other_a = u.other_a; other_b = u.other_b } in
    let same : flags ≡ u.sets = flags_whole u.sets u.add u.mul named.sets in
    let others : SpellsOthers (later_parts u) u.signal u.other_a u.other_b =
    with_signal u.signal u.mul _ u.other_a u.other_b named.signal (a_read u.other_a u.other_b _ named.other_a (b_read u.other_b named.other_b)) in
    subst (λ (z : Bool). SpellsUnits (units_parts u) (with_flags z)) same
    (both_units (add_spelled u.sets u.add named.add) (mul_spelled u.add (mul_flags u) u.mul (alone_by u.sets (is_some u.add)) named.mul) others
    (other_by (by_part by_a u.add ++ by_part by_a u.mul) u.other_a (none_of_a u is)) (other_by (by_part by_b u.add ++ by_part by_b u.mul) u.other_b (none_of_b u is)))

-- loads

known_cond : (w : Write) → IsWrite w → between 1 w.cond 7 ≡ true
known_cond w is = let some : (w.cond == 0) ≡ false = is.some in let near : w.cond < 8 = is.cond in grind (arith, nat_tests, some)

write_spelled : (w : Write) → IsWrite w → SpellsCondition (symbols (condition_bits w.cond)) w.to w.cond
write_spelled w is = condition_spelled w.to w.cond (known_cond w is) (λ e. no_case (w.cond ≡ 1) (sym is.somewhere ∙ e))

written_back : (w : Write) → IsWrite w → written w.to w.cond ≡ Some w
written_back w is = let none : is_nowhere w.to ≡ false = is.somewhere in rw none refl

abbrev pub also_parts : Option Write → List (List Symbol)
also_parts None = []
also_parts (Some w) = (symbol.Name name.Also ∷ symbols (condition_bits w.cond) ++ symbols (target_bits w.to)) ∷ []

also_by : (ss cs : List Symbol) (w : Write) → SpellsTarget ss w.to → is_nowhere w.to ≡ false → SpellsCondition cs w.to w.cond → SpellsAlso ((symbol.Name name.Also ∷ cs ++ ss) ∷ []) (written w.to w.cond)
also_by ss cs w to there c = by ss w.to to there c
  where
    by : (ss : List Symbol) (p : Place) → SpellsTarget ss p → is_nowhere p ≡ false → SpellsCondition cs p w.cond → SpellsAlso ((symbol.Name name.Also ∷ cs ++ ss) ∷ []) (written p w.cond)
    by _ _ nowhere there c = absurd (grind (arith, there))
    by _ p (target_named {n = n} e) there c = also n c e

also_spelled : (o : Option Write) → IfSome o IsWrite → SpellsAlso (also_parts o) o
also_spelled None is = no_also
also_spelled (Some w) is =
    subst (λ (z : Option Write). SpellsAlso (also_parts (Some w)) z) (written_back w is)
    (also_by (symbols (target_bits w.to)) (symbols (condition_bits w.cond)) w (target_spelled w.to) is.somewhere (write_spelled w is))

also_behind : (o : Option Write) → symbols (also_bits o) ≡ behind_first (also_parts o)
also_behind None = refl
also_behind (Some w) =
    one_behind (Word name.Also ∷ condition_bits w.cond ++ Space ∷ target_bits w.to)
    ∙ ap (λ (z : List Symbol). behind_first ((symbol.Name name.Also ∷ z) ∷ [])) (symbols_append (condition_bits w.cond) (Space ∷ target_bits w.to))

abbrev pub load_part : Load → List Symbol
load_part l =
    symbol.Name (name.Load l.kind) ∷ symbols (write_bits l.add) ++ (symbols (flags_bits l.sets) ++ (symbols (target_bits (write_target l.add)) ++ symbol.Comma ∷ symbol.Number l.immediate ∷ []))

pub load_whole : (l : Load) → symbols (load_bits l) ≡ joined (load_part l ∷ also_parts l.mul)
unfolding load_bits
load_whole l =
    five_more (write_bits l.add) (flags_bits l.sets) (Space ∷ target_bits (write_target l.add)) (and_then (Number (Hexadecimal l.immediate) ∷ [])) (also_bits l.mul)
    ∙ ap (λ (z : List Symbol). load_part l ++ z) (also_behind l.mul)
  where
    five_more : (a b c d e : List Bit) → symbol.Name (name.Load l.kind) ∷ symbols (a ++ b ++ c ++ d ++ e) ≡ (symbol.Name (name.Load l.kind) ∷ symbols a ++ (symbols b ++ (symbols c ++ symbols d))) ++ symbols e
    five_more a b c d e = simp (symbols_append, append_assoc) refl

load_by : (l : Load) (add : Option Write) → l.add ≡ add → IfSome add IsWrite
    → (cond : ℕ) × SpellsCondition (symbols (write_bits add)) (write_target add) cond × (written (write_target add) cond ≡ add)
load_by l None e is = (1, always, refl)
load_by l (Some w) e is = (w.cond, write_spelled w is, written_back w is)

pub load_spelled : (l : Load) → IsLoad l → SpellsLoad (load_part l ∷ also_parts l.mul) l
load_spelled l is =
    let c = load_by l l.add refl is.add in
    let with_add : Option Write → Load = λ z. record { kind = l.kind; sets = l.sets; add = z; mul = l.mul; immediate = l.immediate } in
    subst (λ (z : Option Write). SpellsLoad (load_part l ∷ also_parts l.mul) (with_add z)) c.2
    (load_line c.1 (flags_spelled l.sets) (target_spelled (write_target l.add)) (number_spelled l.immediate l.immediate refl is.immediate) (also_spelled l.mul is.mul))

-- semaphores

abbrev pub semaphore_part : Semaphore → List Symbol
semaphore_part s = symbol.Name (if s.down then name.Decrement else name.Increment) ∷ symbol.Number s.number ∷ []

pub semaphore_by : (down : Bool) (n : ℕ) → n < 16 → SpellsSemaphore ((symbol.Name (if down then name.Decrement else name.Increment) ∷ symbol.Number n ∷ []) ∷ []) (record { down = down; number = n })
semaphore_by true n low = decrement (number_spelled n n refl (omega (arith, low)))
semaphore_by false n low = increment (number_spelled n n refl (omega (arith, low)))

pub semaphore_whole : (s : Semaphore) → symbols (semaphore_bits s) ≡ joined (semaphore_part s ∷ [])
unfolding semaphore_bits
semaphore_whole s = refl

-- branches

dash_is : (to : Place) → is_dash to ≡ true → to ≡ InBoth 39
dash_is (InBoth n) e = let is : n ≡ 39 = grind (arith, nat_tests, e) in ap (λ (z : ℕ). InBoth z) is
dash_is (InA n) e = no_case _ e
dash_is (InB n) e = no_case _ e

abbrev pub link_parts_by : Bool → Place → List (List Symbol)
link_parts_by dash to = if dash then [] else (symbol.Name name.Link ∷ symbols (target_bits to)) ∷ []

abbrev pub row_parts : Option ℕ → List (List Symbol)
row_parts None = []
row_parts (Some row) = (symbol.Name name.Row ∷ name_alone (name.Register (register.RowA row))) ∷ []

link_behind : (dash : Bool) (to : Place) → symbols (if dash then [] else behind (Word name.Link ∷ Space ∷ target_bits to)) ≡ behind_first (link_parts_by dash to)
link_behind true to = refl
link_behind false to = one_behind (Word name.Link ∷ Space ∷ target_bits to)

row_behind : (o : Option ℕ) → symbols (row_bits o) ≡ behind_first (row_parts o)
row_behind None = refl
row_behind (Some row) = refl

row_spelled : (o : Option ℕ) → SpellsLinks None (row_parts o) (InBoth 39) o
row_spelled None = no_links
row_spelled (Some row) = adds no_links

link_to : (ss : List Symbol) (to : Place) (xs : List (List Symbol)) (o : Option ℕ) → SpellsTarget ss to → is_dash to ≡ false → SpellsLinks None xs (InBoth 39) o
    → SpellsLinks None ((symbol.Name name.Link ∷ ss) ∷ xs) to o
link_to _ _ xs o nowhere there later = absurd (grind (arith, there))
link_to _ to xs o (target_named e) there later = link e later

links_spelled : (dash : Bool) (to : Place) (o : Option ℕ) → is_dash to ≡ dash → SpellsLinks None (link_parts_by dash to ++ row_parts o) to o
links_spelled true to o e = rw (dash_is to e) (row_spelled o)
links_spelled false to o e = link_to (symbols (target_bits to)) to (row_parts o) o (target_spelled to) e (row_spelled o)

abbrev jump_figure : Branch → Figure
jump_figure b = if b.relative then signed_figure b.immediate else Hexadecimal b.immediate

abbrev pub branch_part : Branch → List Symbol
branch_part b =
    symbol.Name (if b.relative then name.RelativeBranch else name.Branch) ∷ symbols (branch_condition_bits b.cond) ++ (symbols (target_bits b.add) ++ symbol.Comma ∷ symbol.Number (worth (jump_figure b)) ∷ [])

abbrev pub link_parts : Branch → List (List Symbol)
link_parts b = link_parts_by (is_dash b.mul) b.mul ++ row_parts b.register

pub branch_whole : (b : Branch) → symbols (branch_bits b) ≡ joined (branch_part b ∷ link_parts b)
unfolding branch_bits
branch_whole b =
    five_more (branch_condition_bits b.cond) (Space ∷ target_bits b.add) (and_then (Number (jump_figure b) ∷ [])) (link_bits b.mul) (row_bits b.register)
    ∙ ap (λ (z : List Symbol). branch_part b ++ z) (links (symbols (link_bits b.mul)) _ (symbols (row_bits b.register)) _ (link_behind (is_dash b.mul) b.mul) (row_behind b.register)
    ∙ sym (behind_both (link_parts_by (is_dash b.mul) b.mul) (row_parts b.register)))
  where
    first : Name
    first = if b.relative then name.RelativeBranch else name.Branch

    five_more : (a c d e f : List Bit) → symbol.Name first ∷ symbols (a ++ c ++ d ++ e ++ f) ≡ (symbol.Name first ∷ symbols a ++ (symbols c ++ symbols d)) ++ (symbols e ++ symbols f)
    five_more a c d e f = simp (symbols_append, append_assoc) refl

    links : (a a' c c' : List Symbol) → a ≡ a' → c ≡ c' → a ++ c ≡ a' ++ c'
    links a a' c c' e f = rw (e, f) refl

pub branch_spelled : (at : ℕ) (label : Option ℕ) (b : Branch) → IsBranch b → SpellsBranch at label (branch_part b ∷ link_parts b) b
branch_spelled at label b is =
    branch_line (taken_by b.cond (nat_lt b.cond 12) refl is.cond is.known) (target_spelled b.add)
    (by_number (number_spelled (worth (jump_figure b)) b.immediate (figure_worth b.relative b.immediate is.immediate) is.immediate)) (links_spelled (is_dash b.mul) b.mul b.register refl)

-- the whole

pub canonical_spelled : (at : ℕ) (label : Option ℕ) (i : Instruction) → HasWord i → Spells at label (line_symbols i) i
unfolding line_bits
canonical_spelled at label (instruction.Both u) has = record { parts = units_parts u; whole = units_whole u; says = units (units_spelled u has.0 has.1); fits = has }
canonical_spelled at label (instruction.Load l) has = record { parts = load_part l ∷ also_parts l.mul; whole = load_whole l; says = load (load_spelled l has); fits = has }
canonical_spelled at label (instruction.Semaphore s) has =
    record { parts = semaphore_part s ∷ []; whole = semaphore_whole s; says = semaphore (semaphore_by s.down s.number has); fits = has }
canonical_spelled at label (instruction.Branch b) has = record { parts = branch_part b ∷ link_parts b; whole = branch_whole b; says = branch (branch_spelled at label b has); fits = has }
