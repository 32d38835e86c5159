-- An instruction of both units whose parts a line can name has a canonical word.
use Rattle.std.proofs.Common.{◌≡◌, Bool, true, false, Some, refl, sym, ap, subst, arith}
use Rattle.std.specs.Prelude.{◌==◌, ◌||◌, ◌&&◌, not, nat_lt}
use Rattle.qpu_word.specs.Words.{field, is_read_address, between}
use Rattle.qpu_line.specs.declared.slots.UnitFields.{UnitFields}
use Rattle.qpu_line.specs.declared.units.Units.{Units}
use Rattle.qpu_line.specs.declared.instruction.Instruction.TheVariants.{Both}
use Rattle.qpu_word.specs.Canonical.{IsCanonical}
use Rattle.qpu_line.specs.Canonical.{canonical_instruction}
use Rattle.qpu_line.specs.Instructions.{word_of}
use Rattle.qpu_line.specs.Slots.{units_word}
use Rattle.qpu_line.specs.Units.{any_uses, units_of, fields_of_units}
use Rattle.qpu_line.specs.Both.{IsBoth}
use Rattle.qpu_line.specs.Named.{IsNamed}
use Rattle.qpu_line.proofs.UnitLemmas.{idle}
use Rattle.qpu_line.proofs.BothLaw.{IsWhole, is_unit_signal, whole, units_signal, units_again, fields_again, unit_there, both_again}
use Rattle.qpu_line.proofs.SaidLemmas.{IsSaid, units_there, canonical_of_said}
use Rattle.qpu_line.proofs.SourceLemmas.{all_sources, sources_of_part, sources_of_all}
use Rattle.qpu_line.proofs.NamedLemmas.{ComesBack, comes_back, IsNamedBy, named_by, add_tidy, mul_tidy, codes_of_add, code_of_mul, free_a, free_b, read_by, row_by}
use Rattle.qpu_line.proofs.TestLemmas.{to_of_unit, rule_of_unit, twice_of_add, flags_of, exchange_of_units, unpack_of_units, packing_of_units, source_of_a, source_of_b}
use Rattle.qpu_line.proofs.SignalLemmas.{rotation_of, small_of}

-- read addresses of both files
read_both : (small a b : Bool) → a ≡ true → (small ≡ false → b ≡ true) → (not a || (not small && not b)) ≡ false
read_both true a b is_a is_b = rw is_a refl
read_both false a b is_a is_b = rw (is_a, is_b refl) refl

row_b_by : (small far used : Bool) → (small ≡ false → (far || used) ≡ true) → (small || far || used) ≡ true
row_b_by true far used is = refl
row_b_by false far used is = is refl

-- the fields of an instruction with such parts
sources : (s : UnitFields) → IsNamedBy s → all_sources s
sources s n =
    sources_of_all s
    (sources_of_part s s.op_add s.cond_add s.add_a s.add_b (λ some. ((n.add some).part.a, (n.add some).part.b)))
    (sources_of_part s s.op_mul s.cond_mul s.mul_a s.mul_b (λ some. ((n.mul some).part.a, (n.mul some).part.b)))

said_by : (s : UnitFields) → IsWhole s → is_unit_signal s.sig ≡ true → ComesBack s → IsNamedBy s → all_sources s → IsSaid s
said_by s h unit c n from =
    let codes : (between 1 s.op_add 8 ≡ false) × ((between 9 s.op_add 11 || between 25 s.op_add 29) ≡ false) =
    codes_of_add (idle s.op_add s.cond_add) s.op_add (λ is. (add_tidy s c is).op) (λ is. (n.add is).op) in
    let code : (s.op_mul == 1) ≡ false = code_of_mul (idle s.op_mul s.cond_mul) s.op_mul (λ is. (mul_tidy s c is).op) (λ is. (n.mul is).op) in
    record {
      signal = unit;
      float = rw (codes.0, code) refl;
      reserved = codes.1;
      read = read_both (s.sig == 13) (is_read_address s.raddr_a) (is_read_address s.raddr_b)
          (read_by (any_uses s 6) s.raddr_a from.a (free_a s n))
          (λ other. read_by (any_uses s 7) s.raddr_b (λ used. from.b used other) (free_b s n other));
      add_to = to_of_unit s (s.ws == 1) s.op_add s.cond_add s.waddr_add s.add_a s.add_b (λ is. (n.add is).part);
      mul_to = to_of_unit s (not (s.ws == 1)) s.op_mul s.cond_mul s.waddr_mul s.mul_a s.mul_b (λ is. (n.mul is).part);
      packing = packing_of_units s c n;
      unpacking = unpack_of_units s c from;
      rotation = rotation_of s n from;
      source_a = source_of_a s from;
      source_b = source_of_b s from;
      adds = rule_of_unit s (s.ws == 1) s.op_add s.cond_add s.waddr_add s.add_a s.add_b (add_tidy s c) (λ is. (n.add is).part);
      muls = rule_of_unit s (not (s.ws == 1)) s.op_mul s.cond_mul s.waddr_mul s.mul_a s.mul_b (mul_tidy s c) (λ is. (n.mul is).part);
      operands = twice_of_add s h.add_a h.add_b (λ is. (n.add is).twice);
      flags = flags_of s h.sf n;
      exchange = exchange_of_units s c;
      row_a = row_by (any_uses s 6) s.raddr_a (free_a s n);
      row_b = row_b_by (s.sig == 13) (not (nat_lt s.raddr_b 32)) (any_uses s 7) (λ other. row_by (any_uses s 7) s.raddr_b (free_b s n other));
      small = small_of s h c n;
    }

said : (u : Units) → IsBoth u → IsNamed u → IsSaid (fields_of_units u)
said u is named =
    let s : UnitFields = fields_of_units u in
    let same : units_of s ≡ u = units_again u is in
    let n : IsNamedBy s = named_by s (subst IsNamed (sym same) named) in
    said_by s (whole u is) (units_signal u) (comes_back s (ap fields_of_units same)) n (sources s n)

-- the packing's unit isn't chosen
no_pm : (s : UnitFields) → field (units_word s) 56 1 ≡ 0
unfolding units_word
no_pm s = omega arith

pub units_canonical : (u : Units) → IsBoth u → IsNamed u → IsCanonical (word_of (Both u))
unfolding word_of
units_canonical u is named =
    canonical_of_said (units_word (fields_of_units u)) (no_pm (fields_of_units u)) (units_there _ (unit_there u is))
    (subst IsSaid (sym (fields_again (fields_of_units u) (whole u is))) (said u is named))

pub named_again : (u : Units) → IsBoth u → IsNamed u → canonical_instruction (word_of (Both u)) ≡ Some (Both u)
named_again u is named = both_again u is (units_canonical u is named)
