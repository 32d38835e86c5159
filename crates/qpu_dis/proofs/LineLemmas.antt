-- The line of a canonical word can stand: its names are names of the language, its numbers have 32 bits.
use Rattle.std.proofs.Common.{◌≡◌, ℕ, ◌<◌, ◌^◌, inl, Bool, true, false, ◌||◌, ◌&&◌, [], ◌∷◌, ◌++◌, Option, Some, None, refl, sym, subst, ◌∙◌, arith}
use Rattle.std.specs.Prelude.{◌==◌, nat_lt, nat_le, not, IfSome, if◌then◌else◌}
use Rattle.std.proofs.lemmas.Bool.Decides.{nat_tests}
use Rattle.qpu_word.specs.declared.word.Fields.{Fields}
use Rattle.qpu_word.specs.declared.name.Place.{Place}
use Rattle.qpu_word.specs.declared.code.TheConstants.{MUX_FILE_A, MUX_FILE_B, NOWHERE, ROTATE_BY_R5, SIGNAL_PROGRAM_END, SIGNAL_LOAD_TMU0, SIGNAL_LOAD_TMU1, SIGNAL_SMALL_IMMEDIATE}
use Rattle.qpu_word.specs.Operations.{add_op, mul_op}
use Rattle.qpu_word.specs.Words.{fields_of, is_alu, is_unit_word, is_small, is_load, is_branch, add_active, mul_active, is_unary, uses, is_write_address}
use Rattle.qpu_word.specs.Form.{form_of}
use Rattle.qpu_line.specs.declared.operand.Operand.TheVariants as operand
use Rattle.qpu_line.specs.declared.part.Part.{Part}
use Rattle.qpu_line.specs.declared.units.Signal.TheVariants as signal
use Rattle.qpu_line.specs.declared.load.Write.{Write}
use Rattle.qpu_line.specs.declared.instruction.Instruction.{Instruction}
use Rattle.qpu_line.specs.declared.name.Name.TheVariants as name
use Rattle.qpu_line.specs.declared.name.Register.TheVariants as register
use Rattle.qpu_line.specs.Targets.{target_at_address, is_row_a}
use Rattle.qpu_line.specs.Slots.{unit_fields}
use Rattle.qpu_line.specs.Units.{operand_of, pack_at, part_to, part_of, any_uses, signal_of, other_read, units_of}
use Rattle.qpu_line.specs.Loads.{kind_of, write_of, load_of, write_target}
use Rattle.qpu_line.specs.Semaphores.{semaphore_of}
use Rattle.qpu_line.specs.Branches.{register_of, branch_of}
use Rattle.qpu_line.specs.Instructions.{instruction_of}
use Rattle.qpu_word.specs.Canonical.{IsCanonical}
use Rattle.qpu_line.specs.Canonical.{canonical_instruction}
use Rattle.qpu_line.specs.Lines.{Word, Number, Decimal, Hexadecimal, Space, source_a, source_b, target_bits, pack_bits, add_name, mul_name, condition_bits, branch_condition_bits, flags_bits, and_then, behind, part_bits, add_bits, mul_bits, signal_bits, other_bits, units_bits, write_bits, also_bits, load_bits, semaphore_bits, is_nowhere, link_bits, row_bits, signed_figure, branch_bits, line_bits}
use Rattle.qpu_line.proofs.RuleLemmas.{read_where_canonical, read_of_canonical}
use Rattle.qpu_line.proofs.FormLemmas.{plain, immediate_signal, is_a_load}
use Rattle.qpu_dis.specs.Text.{branch_name, distance_bit}
use Rattle.qpu_dis.proofs.BitLemmas.{Stands}
use Rattle.qpu_dis.proofs.JoinLemmas.{IsFirst, IsLater, nothing, first_then, a_name, a_number, no_target, spaced, after_comma, after_semicolon, either_later, line_stands}
use Rattle.qpu_dis.proofs.AmongLemmas.{an_add_name, a_mul_name, add_plain, mul_plain, a_load_name, nop_name, also_name, up_name, down_name, branch_is_named, relative_is_named, link_name, row_word, read_a_name, read_b_name}
use Rattle.qpu_dis.proofs.PartLemmas.{IsSource, source_a_first, source_b_first, condition_later, branch_condition_later, flags_later, pack_later, target_first, signed_number, IsReadable, IsPartOf, part_first, IsTurn, signal_later, named_later, other_later}
use Rattle.qpu_dis.proofs.FactLemmas.{IsNamed, named, read_a, read_b, used_a, used_b, add_first_used, add_second_used, mul_first_used, mul_second_used, add_acts, mul_acts, add_named, mul_named, add_loaded, mul_loaded, links_named, pack_known}

-- operands

-- where a mux is used, what it reads has a name
pub record IsRead (f : Fields) (m : ℕ) : Type 0 where
  pub mux : m < 8
  pub a : (m == MUX_FILE_A) ≡ true → IsSource f.raddr_a
  pub b : (m == MUX_FILE_B) ≡ true → is_small f ≡ false → IsSource f.raddr_b

readable : (f : Fields) (m : ℕ) → IsNamed f → IsRead f m → IsReadable (operand_of (unit_fields f) m)
readable f m h r = by_mux (nat_lt m MUX_FILE_A) (m == MUX_FILE_A) (is_small f) refl refl refl
  where
    by_mux : (x y z : Bool) → nat_lt m MUX_FILE_A ≡ x → (m == MUX_FILE_A) ≡ y → is_small f ≡ z
        → IsReadable (if x then operand.Accumulator m else if y then operand.FileA f.raddr_a f.unpack else if z then operand.Small f.raddr_b else operand.FileB f.raddr_b)
    by_mux true y z e t u = grind (arith, nat_tests, e)
    by_mux false true z e t u = (r.a t, h.unpack)
    by_mux false false true e t u = h.raddr_b
    by_mux false false false e t u = let mux = r.mux in r.b (grind (arith, nat_tests, e, t, mux)) u

is_read : (f : Fields) (m : ℕ) → IsNamed f → is_unit_word f ≡ true → m < 8 → ((m == MUX_FILE_A) ≡ true → uses f MUX_FILE_A ≡ true)
    → ((m == MUX_FILE_B) ≡ true → uses f MUX_FILE_B ≡ true) → IsRead f m
is_read f m h unit below a b = record {
  mux = below;
  a = λ e. record { named = read_a f h unit; some = used_a f h (a e) };
  b = λ e large. record { named = read_b f h unit large; some = used_b f h (b e) large };
}

-- parts

pack_then : (f : Fields) (to : Place) → IsNamed f → is_unit_word f ≡ true → IsLater (pack_bits (pack_at to f.pack))
pack_then f to h unit = by_row (is_row_a to)
  where
    by_row : (b : Bool) → IsLater (pack_bits (if b then f.pack else 0))
    by_row true = pack_later f.pack h.pack (pack_known f h unit)
    by_row false = nothing

add_first : (f : Fields) (in_b sets : Bool) → IsNamed f → is_unit_word f ≡ true
    → IsFirst (add_bits sets (part_of (unit_fields f) in_b f.op_add f.cond_add f.waddr_add f.add_a f.add_b))
unfolding part_of
add_first f in_b sets h unit = by_idle ((f.op_add == 0) || (f.cond_add == 0)) refl
  where
    part : Part
    part = part_to (unit_fields f) (target_at_address in_b f.waddr_add) f.op_add f.cond_add f.add_a f.add_b

    made : add_active f ≡ true → IsPartOf (is_unary f.op_add) part
    made active = record {
      cond = h.cond_add;
      to = target_first in_b f.waddr_add (add_named f h active);
      pack = pack_then f (target_at_address in_b f.waddr_add) h unit;
      a = readable f f.add_a h (is_read f f.add_a h unit h.add_a (add_first_used f MUX_FILE_A active) (add_first_used f MUX_FILE_B active));
      b = λ two. readable f f.add_b h (is_read f f.add_b h unit h.add_b (add_second_used f MUX_FILE_A active two) (add_second_used f MUX_FILE_B active two));
    }

    by_idle : (b : Bool) → ((f.op_add == 0) || (f.cond_add == 0)) ≡ b → IsFirst (add_bits sets (if b then None else Some part))
    by_idle true e = a_name name.Nop nop_name refl
    by_idle false e =
        part_first (add_name (add_op f.op_add)) (is_unary f.op_add) sets part (an_add_name (add_op f.op_add)) (add_plain (add_op f.op_add)) (made (add_acts f unit e))

mul_later : (f : Fields) (in_b sets : Bool) → IsNamed f → is_unit_word f ≡ true
    → IsLater (mul_bits sets (part_of (unit_fields f) in_b f.op_mul f.cond_mul f.waddr_mul f.mul_a f.mul_b))
unfolding part_of
mul_later f in_b sets h unit = by_idle ((f.op_mul == 0) || (f.cond_mul == 0)) refl
  where
    part : Part
    part = part_to (unit_fields f) (target_at_address in_b f.waddr_mul) f.op_mul f.cond_mul f.mul_a f.mul_b

    made : mul_active f ≡ true → IsPartOf false part
    made active = record {
      cond = h.cond_mul;
      to = target_first in_b f.waddr_mul (mul_named f h active);
      pack = pack_then f (target_at_address in_b f.waddr_mul) h unit;
      a = readable f f.mul_a h (is_read f f.mul_a h unit h.mul_a (mul_first_used f MUX_FILE_A active) (mul_first_used f MUX_FILE_B active));
      b = λ two. readable f f.mul_b h (is_read f f.mul_b h unit h.mul_b (mul_second_used f MUX_FILE_A active) (mul_second_used f MUX_FILE_B active));
    }

    by_idle : (b : Bool) → ((f.op_mul == 0) || (f.cond_mul == 0)) ≡ b → IsLater (mul_bits sets (if b then None else Some part))
    by_idle true e = nothing
    by_idle false e =
        after_semicolon (part_bits (mul_name (mul_op f.op_mul)) false sets part)
        (part_first (mul_name (mul_op f.op_mul)) false sets part (a_mul_name (mul_op f.op_mul)) (mul_plain (mul_op f.op_mul)) (made (mul_acts f unit e)))

-- signals and other reads

turn_by : (a b c d : Bool) (code : ℕ) → code < 64
    → IsTurn (if a then signal.End else if b then signal.Load0 else if c then signal.Load1 else if d then signal.Rotate code else signal.Nothing)
turn_by true b c d code low = tt
turn_by false true c d code low = tt
turn_by false false true d code low = tt
turn_by false false false true code low = low
turn_by false false false false code low = tt

signal_then : (f : Fields) → IsNamed f → IsLater (signal_bits (signal_of f.sig f.raddr_b))
unfolding signal_of
signal_then f h =
    signal_later _
    (turn_by (f.sig == SIGNAL_PROGRAM_END) (f.sig == SIGNAL_LOAD_TMU0) (f.sig == SIGNAL_LOAD_TMU1)
    ((f.sig == SIGNAL_SMALL_IMMEDIATE) && nat_le ROTATE_BY_R5 f.raddr_b) f.raddr_b h.raddr_b)

other_source : (P : ℕ → Type 0) (is : Bool) (address : ℕ) → (is ≡ false → P address) → IfSome (if is then None else Some address) P
other_source P true address h = tt
other_source P false address h = h refl

neither : (a b : Bool) → (a || b) ≡ false → (a ≡ false) × (b ≡ false)
neither a b t = (grind (arith, t), grind (arith, t))

other_a_then : (f : Fields) (used : Bool) → IsNamed f → is_unit_word f ≡ true → IsLater (other_bits name.ReadA source_a (other_read used f.raddr_a))
other_a_then f used h unit =
    other_later name.ReadA source_a (other_read used f.raddr_a) read_a_name refl
    (other_source (λ n. IsFirst (Word (source_a n) ∷ [])) (used || (f.raddr_a == NOWHERE)) f.raddr_a
    (λ e. source_a_first f.raddr_a (record { named = read_a f h unit; some = (neither used (f.raddr_a == NOWHERE) e).1 })))

other_b_then : (f : Fields) (used : Bool) → IsNamed f → is_unit_word f ≡ true → IsLater (other_bits name.ReadB source_b (other_read (is_small f || used) f.raddr_b))
other_b_then f used h unit =
    other_later name.ReadB source_b (other_read (is_small f || used) f.raddr_b) read_b_name refl
    (other_source (λ n. IsFirst (Word (source_b n) ∷ [])) ((is_small f || used) || (f.raddr_b == NOWHERE)) f.raddr_b
    (λ e.
    let left = neither (is_small f || used) (f.raddr_b == NOWHERE) e in
    source_b_first f.raddr_b (record { named = read_b f h unit (neither (is_small f) used left.0).0; some = left.1 })))

pub units_first : (f : Fields) → IsNamed f → is_unit_word f ≡ true → IsFirst (units_bits (units_of (unit_fields f)))
unfolding units_bits units_of
units_first f h unit =
    first_then _ (other_bits name.ReadB source_b (other_read (is_small f || any_uses (unit_fields f) MUX_FILE_B) f.raddr_b))
    (first_then _ (other_bits name.ReadA source_a (other_read (any_uses (unit_fields f) MUX_FILE_A) f.raddr_a))
    (first_then _ (signal_bits (signal_of f.sig f.raddr_b))
    (first_then _ _ (add_first f (f.ws == 1) (f.sf == 1) h unit) (mul_later f (not (f.ws == 1)) _ h unit))
    (signal_then f h))
    (other_a_then f (any_uses (unit_fields f) MUX_FILE_A) h unit))
    (other_b_then f (any_uses (unit_fields f) MUX_FILE_B) h unit)

-- loads

-- what a unit writes of a load has a name
abbrev IsWritten : Write → Type 0
IsWritten w = (w.cond < 8) × IsFirst (target_bits w.to)

written_by : (cond : ℕ) (in_b : Bool) (address : ℕ) → cond < 8 → ((cond == 0) ≡ false → is_write_address address ≡ true)
    → IfSome (write_of cond in_b address) IsWritten
written_by cond in_b address low is =
    other_write ((cond == 0) || (address == NOWHERE))
    (λ e. (low, target_first in_b address (is (neither (cond == 0) (address == NOWHERE) e).0)))
  where
    other_write : (b : Bool) → (b ≡ false → IsWritten (record { cond = cond; to = target_at_address in_b address }))
        → IfSome (if b then None else Some (record { cond = cond; to = target_at_address in_b address })) IsWritten
    other_write true h = tt
    other_write false h = h refl

write_later : (w : Option Write) → IfSome w IsWritten → IsLater (write_bits w)
write_later None h = nothing
write_later (Some w) h = condition_later w.cond h.0

write_target_first : (w : Option Write) → IfSome w IsWritten → IsFirst (target_bits (write_target w))
write_target_first None h = no_target
write_target_first (Some w) h = h.1

also_later : (w : Option Write) → IfSome w IsWritten → IsLater (also_bits w)
also_later None h = nothing
also_later (Some w) h =
    after_semicolon (Word name.Also ∷ condition_bits w.cond ++ Space ∷ target_bits w.to)
    (first_then (Word name.Also ∷ condition_bits w.cond) (Space ∷ target_bits w.to)
    (first_then (Word name.Also ∷ []) (condition_bits w.cond) (a_name name.Also also_name refl) (condition_later w.cond h.0))
    (spaced (target_bits w.to) h.1))

pub load_first : (f : Fields) → IsNamed f → is_load f ≡ true → IsFirst (load_bits (load_of f))
unfolding load_bits
load_first f h load =
    let add = written_by f.cond_add (f.ws == 1) f.waddr_add h.cond_add (add_loaded f h load) in
    let mul = written_by f.cond_mul (not (f.ws == 1)) f.waddr_mul h.cond_mul (mul_loaded f h load) in
    first_then _ (also_bits (write_of f.cond_mul (not (f.ws == 1)) f.waddr_mul))
    (first_then _ (and_then (Number (Hexadecimal f.immediate) ∷ []))
    (first_then _ (Space ∷ target_bits (write_target (write_of f.cond_add (f.ws == 1) f.waddr_add)))
    (first_then _ (flags_bits (f.sf == 1))
    (first_then (Word (name.Load (kind_of f.kind)) ∷ []) (write_bits (write_of f.cond_add (f.ws == 1) f.waddr_add))
    (a_name (name.Load (kind_of f.kind)) (a_load_name (kind_of f.kind)) refl) (write_later _ add))
    (flags_later (f.sf == 1)))
    (spaced _ (write_target_first _ add)))
    (after_comma (Number (Hexadecimal f.immediate) ∷ []) (a_number (Hexadecimal f.immediate) h.immediate)))
    (also_later _ mul)

-- semaphores

small : (n : ℕ) → n < 16 → n < 2 ^ 32
small n low = omega arith

pub semaphore_first : (f : Fields) → IsNamed f → IsFirst (semaphore_bits (semaphore_of f))
unfolding semaphore_bits
semaphore_first f h = by_down (f.down == 1)
  where
    by_down : (b : Bool) → IsFirst (Word (if b then name.Decrement else name.Increment) ∷ Space ∷ Number (Decimal f.number) ∷ [])
    by_down true = first_then (Word name.Decrement ∷ []) (Space ∷ Number (Decimal f.number) ∷ []) (a_name name.Decrement down_name refl) (spaced (Number (Decimal f.number) ∷ []) (a_number (Decimal f.number) (small f.number h.number)))
    by_down false = first_then (Word name.Increment ∷ []) (Space ∷ Number (Decimal f.number) ∷ []) (a_name name.Increment up_name refl) (spaced (Number (Decimal f.number) ∷ []) (a_number (Decimal f.number) (small f.number h.number)))

-- branches

branch_named : (relative : Bool) → IsFirst (Word (branch_name relative) ∷ [])
branch_named true = a_name name.RelativeBranch relative_is_named refl
branch_named false = a_name name.Branch branch_is_named refl

distance_first : (relative : Bool) (n : ℕ) → n < 2 ^ 32 → IsFirst (Number (if relative then signed_figure n else Hexadecimal n) ∷ [])
distance_first true n low = a_number (signed_figure n) (signed_number n low)
distance_first false n low = a_number (Hexadecimal n) low

link_later : (to : Place) → IsFirst (target_bits to) → IsLater (link_bits to)
link_later to h =
    either_later (is_nowhere to) [] (behind (Word name.Link ∷ Space ∷ target_bits to)) (λ e. nothing)
    (λ e. after_semicolon (Word name.Link ∷ Space ∷ target_bits to)
    (first_then (Word name.Link ∷ []) (Space ∷ target_bits to) (a_name name.Link link_name refl) (spaced (target_bits to) h)))

row_later : (on : Bool) (row : ℕ) → row < 32 → IsLater (row_bits (register_of on row))
row_later true row low = named_later name.Row (name.Register (register.RowA row)) row_word refl (a_name (name.Register (register.RowA row)) (inl low) refl)
row_later false row low = nothing

pub branch_first : (f : Fields) → IsNamed f → is_branch f ≡ true → IsFirst (branch_bits (branch_of f))
unfolding branch_bits
branch_first f h branch =
    let links = links_named f h branch in
    first_then _ (row_bits (register_of (f.reg == 1) f.raddr_br))
    (first_then _ (link_bits (target_at_address (not (f.ws == 1)) f.waddr_mul))
    (first_then _ (and_then (distance_bit (branch_of f) ∷ []))
    (first_then _ (Space ∷ target_bits (target_at_address (f.ws == 1) f.waddr_add))
    (first_then (Word (branch_name (f.rel == 1)) ∷ []) (branch_condition_bits f.cond_br) (branch_named (f.rel == 1)) (branch_condition_later f.cond_br))
    (spaced (target_bits (target_at_address (f.ws == 1) f.waddr_add)) (target_first (f.ws == 1) f.waddr_add links.0)))
    (after_comma (distance_bit (branch_of f) ∷ []) (distance_first (f.rel == 1) f.immediate h.immediate)))
    (link_later (target_at_address (not (f.ws == 1)) f.waddr_mul) (target_first (not (f.ws == 1)) f.waddr_mul links.1)))
    (row_later (f.reg == 1) f.raddr_br h.raddr_br)

-- by the word's form

immediate_line : (w : ℕ) (k0 k1 k3 : Bool) → IsCanonical w → is_alu (fields_of w) ≡ false → is_small (fields_of w) ≡ false → is_branch (fields_of w) ≡ false
    → ((fields_of w).kind == 0) ≡ k0 → ((fields_of w).kind == 1) ≡ k1 → ((fields_of w).kind == 3) ≡ k3
    → IsFirst (line_bits (instruction_of (form_of (fields_of w)) (fields_of w)))
unfolding instruction_of form_of line_bits
immediate_line w true k1 k3 c alu small branch is0 is1 is3 =
    let sig = immediate_signal (fields_of w) alu small branch (plain w c.inside) in
    rw (alu, small, branch, is0) (load_first (fields_of w) (named w c.inside) (is_a_load (fields_of w) sig (rw is0 refl)))
immediate_line w false true k3 c alu small branch is0 is1 is3 =
    let sig = immediate_signal (fields_of w) alu small branch (plain w c.inside) in
    rw (alu, small, branch, is0, is1) (load_first (fields_of w) (named w c.inside) (is_a_load (fields_of w) sig (rw (is0, is1) refl)))
immediate_line w false false true c alu small branch is0 is1 is3 =
    let sig = immediate_signal (fields_of w) alu small branch (plain w c.inside) in
    rw (alu, small, branch, is0, is1, is3) (load_first (fields_of w) (named w c.inside) (is_a_load (fields_of w) sig (rw (is0, is1, is3) refl)))
immediate_line w false false false c alu small branch is0 is1 is3 =
    rw (alu, small, branch, is0, is1, is3) (semaphore_first (fields_of w) (named w c.inside))

line_without_units : (w : ℕ) (branch : Bool) → IsCanonical w → is_alu (fields_of w) ≡ false → is_small (fields_of w) ≡ false → is_branch (fields_of w) ≡ branch
    → IsFirst (line_bits (instruction_of (form_of (fields_of w)) (fields_of w)))
unfolding instruction_of form_of line_bits
line_without_units w true c alu small branch = rw (alu, small, branch) (branch_first (fields_of w) (named w c.inside) branch)
line_without_units w false c alu small branch = immediate_line w _ _ _ c alu small branch refl refl refl

line_by_form : (w : ℕ) (alu small : Bool) → IsCanonical w → is_alu (fields_of w) ≡ alu → is_small (fields_of w) ≡ small
    → IsFirst (line_bits (instruction_of (form_of (fields_of w)) (fields_of w)))
unfolding instruction_of form_of line_bits
line_by_form w true small c is_alu_word is_small_word = rw is_alu_word (units_first (fields_of w) (named w c.inside) (rw is_alu_word refl))
line_by_form w false true c is_alu_word is_small_word =
    rw (is_alu_word, is_small_word) (units_first (fields_of w) (named w c.inside) (rw (is_alu_word, is_small_word) refl))
line_by_form w false false c is_alu_word is_small_word = line_without_units w _ c is_alu_word is_small_word refl

-- the line of what is read
abbrev StandsFor : Option Instruction → Type 0
StandsFor None = Unit {0}
StandsFor (Some i) = Stands false (line_bits i)

pub line_can_stand : (w : ℕ) (i : Instruction) → canonical_instruction w ≡ Some i → Stands false (line_bits i)
line_can_stand w i is =
    let c : IsCanonical w = (read_where_canonical w (Some i) (sym is)).0 refl in
    subst StandsFor (sym (read_of_canonical w c) ∙ is) (line_stands _ (line_by_form w _ _ c refl refl))
