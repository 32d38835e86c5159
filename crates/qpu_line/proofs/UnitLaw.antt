-- The fields of a canonical word of both units come back from its instruction.
use Rattle.std.proofs.Common.{◌≡◌, ℕ, ◌<◌, Bool, true, false, refl, sym, ◌∙◌, arith}
use Rattle.std.specs.Prelude.{◌==◌, ◌||◌, ◌&&◌, not, nat_lt, nat_le, if◌then◌else◌, Option, Some, None}
use Rattle.std.proofs.lemmas.Bool.Decides.{nat_tests}
use Rattle.qpu_line.specs.declared.slots.UnitFields.{UnitFields}
use Rattle.qpu_line.specs.declared.part.Part.{Part}
use Rattle.qpu_word.specs.Canonical.{file_matters}
use Rattle.qpu_line.specs.Targets.{target_at_address, address_of, exchange_of, is_row_a}
use Rattle.qpu_line.specs.Units.{part_of, part_to, part_uses, any_uses, signal_of, other_read, units_of, row_a, unpack_of, row_b, small_signal, over, to_of, pack_of, signal_code, rotation_or, other_or, fields_of_units}
use Rattle.qpu_line.proofs.TargetLemmas.{address_back, exchange_back, bit_back}
use Rattle.qpu_line.proofs.UnitLemmas.{IsTidy, idle, op_back, cond_back, to_back, first_back, second_back, over_row_a, over_unpack, over_row_b, signal_used, two_uses}

-- what canonical words keep of these fields
pub record IsOwn (s : UnitFields) : Type 0 where
  pub add : IsTidy s.op_add s.cond_add s.waddr_add s.add_a s.add_b
  pub mul : IsTidy s.op_mul s.cond_mul s.waddr_mul s.mul_a s.mul_b
  pub sf : s.sf < 2
  pub ws : s.ws < 2
  pub add_a : s.add_a < 8
  pub add_b : s.add_b < 8
  pub mul_a : s.mul_a < 8
  pub mul_b : s.mul_b < 8
  pub exchange : (not (s.ws == 1) || file_matters s.waddr_add || file_matters s.waddr_mul) ≡ true
  pub unpack : any_uses s 6 ≡ false → s.unpack ≡ 0
  pub pack_ws : (s.ws == 1) ≡ true → (not (idle s.op_mul s.cond_mul) && nat_lt s.waddr_mul 32) ≡ false → s.pack ≡ 0
  pub pack : (s.ws == 1) ≡ false → (not (idle s.op_add s.cond_add) && nat_lt s.waddr_add 32) ≡ false → s.pack ≡ 0
  pub signal : (s.sig == 13) ≡ false → s.sig ≡ signal_code (signal_of s.sig s.raddr_b)
  pub small : (s.sig == 13) ≡ true → any_uses s 7 ≡ false → nat_le 48 s.raddr_b ≡ true

-- the parts of the instruction
abbrev pub add_part : UnitFields → Option Part
add_part s = part_of s (s.ws == 1) s.op_add s.cond_add s.waddr_add s.add_a s.add_b

abbrev pub mul_part : UnitFields → Option Part
mul_part s = part_of s (not (s.ws == 1)) s.op_mul s.cond_mul s.waddr_mul s.mul_a s.mul_b

neither_used : (a b : Bool) → a ≡ false → b ≡ false → (a || b) ≡ false
neither_used a b left right = rw (left, right) refl

-- an address that no operand names
other_back : (named : Bool) (address : ℕ) → named ≡ false → other_or (other_read named address) ≡ address
other_back named address none = grind (arith, nat_tests)

raddr_a_back : (s : UnitFields) → over row_a (add_part s) (over row_a (mul_part s) (other_or (other_read (any_uses s 6) s.raddr_a))) ≡ s.raddr_a
raddr_a_back s =
    over_row_a s (s.ws == 1) s.op_add s.cond_add s.waddr_add s.add_a s.add_b _
    ∙ (rw (over_row_a s (not (s.ws == 1)) s.op_mul s.cond_mul s.waddr_mul s.mul_a s.mul_b (other_or (other_read (any_uses s 6) s.raddr_a))) refl
    ∙ two_uses (part_uses s.op_add s.cond_add s.add_a s.add_b 6) (part_uses s.op_mul s.cond_mul s.mul_a s.mul_b 6) s.raddr_a (other_or (other_read (any_uses s 6) s.raddr_a))
    (λ a b. other_back (any_uses s 6) s.raddr_a (neither_used (part_uses s.op_add s.cond_add s.add_a s.add_b 6) (part_uses s.op_mul s.cond_mul s.mul_a s.mul_b 6) a b)))

unpack_back : (s : UnitFields) → IsOwn s → over unpack_of (add_part s) (over unpack_of (mul_part s) 0) ≡ s.unpack
unpack_back s o =
    over_unpack s (s.ws == 1) s.op_add s.cond_add s.waddr_add s.add_a s.add_b _
    ∙ (rw (over_unpack s (not (s.ws == 1)) s.op_mul s.cond_mul s.waddr_mul s.mul_a s.mul_b 0) refl
    ∙ two_uses (part_uses s.op_add s.cond_add s.add_a s.add_b 6) (part_uses s.op_mul s.cond_mul s.mul_a s.mul_b 6) s.unpack 0
    (λ a b. sym (o.unpack (neither_used (part_uses s.op_add s.cond_add s.add_a s.add_b 6) (part_uses s.op_mul s.cond_mul s.mul_a s.mul_b 6) a b))))

-- the code of a rotation, and file B's address without one
rotation_back : (sig code rest : ℕ) → (sig == 13) ≡ true → nat_le 48 code ≡ true → rotation_or (signal_of sig code) rest ≡ code
unfolding signal_of
rotation_back sig code rest small far = grind (arith, nat_tests, small, far)

no_rotation : (sig code rest : ℕ) → (sig == 13) ≡ false → rotation_or (signal_of sig code) rest ≡ rest
unfolding signal_of
no_rotation sig code rest other = grind (arith, nat_tests, other)

b_rest : (s : UnitFields) → IsOwn s → (small used : Bool) → (s.sig == 13) ≡ small → any_uses s 7 ≡ used → used ≡ false
    → rotation_or (signal_of s.sig s.raddr_b) (other_or (other_read (small || used) s.raddr_b)) ≡ s.raddr_b
b_rest s o true true is_small is_used none = absurd (grind (arith, none))
b_rest s o false true is_small is_used none = absurd (grind (arith, none))
b_rest s o true false is_small is_used none = rotation_back s.sig s.raddr_b _ is_small (o.small is_small is_used)
b_rest s o false false is_small is_used none = no_rotation s.sig s.raddr_b _ is_small ∙ other_back false s.raddr_b refl

raddr_b_back : (s : UnitFields) → IsOwn s
    → over row_b (add_part s) (over row_b (mul_part s) (rotation_or (signal_of s.sig s.raddr_b) (other_or (other_read ((s.sig == 13) || any_uses s 7) s.raddr_b)))) ≡ s.raddr_b
raddr_b_back s o =
    let rest : ℕ = rotation_or (signal_of s.sig s.raddr_b) (other_or (other_read ((s.sig == 13) || any_uses s 7) s.raddr_b)) in
    over_row_b s (s.ws == 1) s.op_add s.cond_add s.waddr_add s.add_a s.add_b _ o.add_a o.add_b
    ∙ (rw (over_row_b s (not (s.ws == 1)) s.op_mul s.cond_mul s.waddr_mul s.mul_a s.mul_b rest o.mul_a o.mul_b) refl
    ∙ two_uses (part_uses s.op_add s.cond_add s.add_a s.add_b 7) (part_uses s.op_mul s.cond_mul s.mul_a s.mul_b 7) s.raddr_b rest
    (λ a b. b_rest s o (s.sig == 13) (any_uses s 7) refl refl (neither_used (part_uses s.op_add s.cond_add s.add_a s.add_b 7) (part_uses s.op_mul s.cond_mul s.mul_a s.mul_b 7) a b)))

-- the signal
rotation_signal : (sig code : ℕ) → (sig == 13) ≡ true → nat_le 48 code ≡ true → signal_code (signal_of sig code) ≡ 13
unfolding signal_of
rotation_signal sig code small far = grind (arith, nat_tests, small, far)

is_13 : (sig : ℕ) → (sig == 13) ≡ true → sig ≡ 13
is_13 sig is = grind (arith, nat_tests, is)

choose_signal : (a b small : Bool) (sig rest : ℕ) → (small ≡ true → sig ≡ 13) → (small ≡ false → sig ≡ rest) → (small ≡ true → a ≡ false → b ≡ false → rest ≡ 13)
    → (if a then (if small then 13 else (if b then (if small then 13 else rest) else rest)) else (if b then (if small then 13 else rest) else rest)) ≡ sig
choose_signal true b true sig rest is other unused = sym (is refl)
choose_signal true true false sig rest is other unused = sym (other refl)
choose_signal true false false sig rest is other unused = sym (other refl)
choose_signal false true true sig rest is other unused = sym (is refl)
choose_signal false true false sig rest is other unused = sym (other refl)
choose_signal false false true sig rest is other unused = unused refl refl refl ∙ sym (is refl)
choose_signal false false false sig rest is other unused = sym (other refl)

sig_back : (s : UnitFields) → IsOwn s → over small_signal (add_part s) (over small_signal (mul_part s) (signal_code (signal_of s.sig s.raddr_b))) ≡ s.sig
sig_back s o =
    let rest : ℕ = signal_code (signal_of s.sig s.raddr_b) in
    signal_used s (s.sig == 13) refl (s.ws == 1) s.op_add s.cond_add s.waddr_add s.add_a s.add_b _ o.add_a o.add_b
    ∙ (rw (signal_used s (s.sig == 13) refl (not (s.ws == 1)) s.op_mul s.cond_mul s.waddr_mul s.mul_a s.mul_b rest o.mul_a o.mul_b) refl
    ∙ choose_signal (part_uses s.op_add s.cond_add s.add_a s.add_b 7) (part_uses s.op_mul s.cond_mul s.mul_a s.mul_b 7) (s.sig == 13) s.sig rest
    (is_13 s.sig)
    o.signal
    (λ small a b. rotation_signal s.sig s.raddr_b small (o.small small (neither_used (part_uses s.op_add s.cond_add s.add_a s.add_b 7) (part_uses s.op_mul s.cond_mul s.mul_a s.mul_b 7) a b))))

-- the pack mode
pack_by : (nothing : Bool) (p : Part) (rest : ℕ) → pack_of (if nothing then None else Some p) rest ≡ (if not nothing && is_row_a p.to then p.pack else rest)
pack_by true p rest = refl
pack_by false p rest = refl

pub row_a_of : (in_b : Bool) (address : ℕ) → is_row_a (target_at_address in_b address) ≡ (not in_b && nat_lt address 32)
unfolding target_at_address
row_a_of true address = grind (arith, nat_tests)
row_a_of false address = grind (arith, nat_tests)

same_pack : (a b : Bool) (pack rest : ℕ) → (if a && b then (if b then pack else 0) else rest) ≡ (if a && b then pack else rest)
same_pack true true pack rest = refl
same_pack true false pack rest = refl
same_pack false b pack rest = refl

pub pack_part : (s : UnitFields) (in_b : Bool) (op cond address x y rest : ℕ)
    → pack_of (part_of s in_b op cond address x y) rest ≡ (if not (idle op cond) && (not in_b && nat_lt address 32) then s.pack else rest)
unfolding part_of
pack_part s in_b op cond address x y rest =
    pack_by (idle op cond) (part_to s (target_at_address in_b address) op cond x y) rest
    ∙ rw (row_a_of in_b address) (same_pack (not (idle op cond)) (not in_b && nat_lt address 32) s.pack rest)

choose_pack : (ws a ra b rb : Bool) (pack : ℕ) → (ws ≡ true → (b && rb) ≡ false → pack ≡ 0) → (ws ≡ false → (a && ra) ≡ false → pack ≡ 0)
    → (if a && (not ws && ra) then pack else if b && (not (not ws) && rb) then pack else 0) ≡ pack
choose_pack true true ra true true pack is_b is_a = refl
choose_pack true true ra true false pack is_b is_a = sym (is_b refl refl)
choose_pack true true ra false rb pack is_b is_a = sym (is_b refl refl)
choose_pack true false ra true true pack is_b is_a = refl
choose_pack true false ra true false pack is_b is_a = sym (is_b refl refl)
choose_pack true false ra false rb pack is_b is_a = sym (is_b refl refl)
choose_pack false true true b rb pack is_b is_a = refl
choose_pack false true false true rb pack is_b is_a = sym (is_a refl refl)
choose_pack false true false false rb pack is_b is_a = sym (is_a refl refl)
choose_pack false false ra true rb pack is_b is_a = sym (is_a refl refl)
choose_pack false false ra false rb pack is_b is_a = sym (is_a refl refl)

pack_back : (s : UnitFields) → IsOwn s → pack_of (add_part s) (pack_of (mul_part s) 0) ≡ s.pack
pack_back s o =
    pack_part s (s.ws == 1) s.op_add s.cond_add s.waddr_add s.add_a s.add_b _
    ∙ (rw (pack_part s (not (s.ws == 1)) s.op_mul s.cond_mul s.waddr_mul s.mul_a s.mul_b 0) refl
    ∙ choose_pack (s.ws == 1) (not (idle s.op_add s.cond_add)) (nat_lt s.waddr_add 32) (not (idle s.op_mul s.cond_mul)) (nat_lt s.waddr_mul 32) s.pack o.pack_ws o.pack)

-- the addresses and the exchange
add_to : (s : UnitFields) → IsOwn s → to_of (add_part s) ≡ target_at_address (s.ws == 1) s.waddr_add
add_to s o = to_back s (s.ws == 1) s.op_add s.cond_add s.waddr_add s.add_a s.add_b o.add

mul_to : (s : UnitFields) → IsOwn s → to_of (mul_part s) ≡ target_at_address (not (s.ws == 1)) s.waddr_mul
mul_to s o = to_back s (not (s.ws == 1)) s.op_mul s.cond_mul s.waddr_mul s.mul_a s.mul_b o.mul

ws_back : (s : UnitFields) → IsOwn s → exchange_of (to_of (add_part s)) (to_of (mul_part s)) ≡ s.ws
ws_back s o = rw (add_to s o, mul_to s o) (exchange_back s.ws s.waddr_add s.waddr_mul o.ws o.exchange)

waddr_add_back : (s : UnitFields) → IsOwn s → address_of (to_of (add_part s)) ≡ s.waddr_add
waddr_add_back s o = rw (add_to s o) (address_back (s.ws == 1) s.waddr_add)

waddr_mul_back : (s : UnitFields) → IsOwn s → address_of (to_of (mul_part s)) ≡ s.waddr_mul
waddr_mul_back s o = rw (mul_to s o) (address_back (not (s.ws == 1)) s.waddr_mul)

-- all fields
pub fields_back : (s : UnitFields) → IsOwn s → fields_of_units (units_of s) ≡ s
unfolding fields_of_units units_of
fields_back s o =
    rw (
      sig_back s o,
      unpack_back s o,
      pack_back s o,
      cond_back s (s.ws == 1) s.op_add s.cond_add s.waddr_add s.add_a s.add_b o.add,
      cond_back s (not (s.ws == 1)) s.op_mul s.cond_mul s.waddr_mul s.mul_a s.mul_b o.mul,
      bit_back s.sf o.sf,
      ws_back s o,
      waddr_add_back s o,
      waddr_mul_back s o,
      op_back s (not (s.ws == 1)) s.op_mul s.cond_mul s.waddr_mul s.mul_a s.mul_b o.mul,
      op_back s (s.ws == 1) s.op_add s.cond_add s.waddr_add s.add_a s.add_b o.add,
      raddr_a_back s,
      raddr_b_back s o,
      first_back s (s.ws == 1) s.op_add s.cond_add s.waddr_add s.add_a s.add_b o.add o.add_a,
      second_back s (s.ws == 1) s.op_add s.cond_add s.waddr_add s.add_a s.add_b o.add o.add_b,
      first_back s (not (s.ws == 1)) s.op_mul s.cond_mul s.waddr_mul s.mul_a s.mul_b o.mul o.mul_a,
      second_back s (not (s.ws == 1)) s.op_mul s.cond_mul s.waddr_mul s.mul_a s.mul_b o.mul o.mul_b,
    )
    refl
