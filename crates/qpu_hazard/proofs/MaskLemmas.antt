-- The masks of a processor are defined as the path tells.
use Rattle.std.proofs.Common.{◌≡◌, ℕ, ◌==◌, Bool, true, false, not, ◌&&◌, ◌||◌, List, Option, Some, None, refl, ap, sym, ◌∙◌, arith}
use Rattle.std.specs.Prelude.{is_some, option_map, if◌then◌else◌}
use Rattle.std.proofs.lemmas.Bool.Decides.{nat_tests}
use Rattle.qpu_word.specs.declared.word.Fields.{Fields}
use Rattle.qpu_word.specs.declared.traffic.Ins.{Ins}
use Rattle.qpu_word.specs.declared.state.Flags.{Flags}
use Rattle.qpu_word.specs.declared.operation.AddOp.{AddOp}
use Rattle.qpu_word.specs.Words.{is_unit_word, is_load, add_active, mul_active}
use Rattle.qpu_word.specs.Operations.{add_op, add_carry}
use Rattle.qpu_word.specs.Operands.{operand}
use Rattle.qpu_word.specs.Lanes.{mask}
use Rattle.qpu_word.specs.Processor.{ProcessorState}
use Rattle.qpu_word.specs.Instruction.{add_values, mul_values, plain_values, carry_mask, add_carries, flags_of, unit_flags, load_flags, flags_after}
use Rattle.qpu_hazard.specs.Demands.{sets_flags, defines_carry, has_carry}
use Rattle.qpu_hazard.specs.Paths.{carry_after}

-- tests of a setting: sf, the units, a load
unit_zn : (sf add mul : Bool) (flags : Flags) (x y : List ℕ) (c : Option ℕ)
    → is_some (if not sf then flags else (if add then flags_of x c else (if mul then flags_of y None else flags))).zn ≡ ((sf && (add || mul || false)) || is_some flags.zn)
unit_zn false add mul flags x y c = refl
unit_zn true true mul flags x y c = refl
unit_zn true false true flags x y c = refl
unit_zn true false false flags x y c = refl

load_zn : (sf load : Bool) (flags : Flags) (x : List ℕ)
    → is_some (if sf && load then flags_of x None else flags).zn ≡ ((sf && (false || false || load)) || is_some flags.zn)
load_zn false load flags x = refl
load_zn true true flags x = refl
load_zn true false flags x = refl

unit_c : (sf add mul : Bool) (flags : Flags) (x y : List ℕ) (c : Option ℕ) (carries : Bool) → is_some c ≡ carries
    → is_some (if not sf then flags else (if add then flags_of x c else (if mul then flags_of y None else flags))).c ≡ (if sf && (add || mul || false) then add && carries else is_some flags.c)
unit_c false add mul flags x y c carries is = refl
unit_c true true mul flags x y c carries is = is
unit_c true false true flags x y c carries is = refl
unit_c true false false flags x y c carries is = refl

load_c : (sf load carries : Bool) (flags : Flags) (x : List ℕ)
    → is_some (if sf && load then flags_of x None else flags).c ≡ (if sf && (false || false || load) then false && carries else is_some flags.c)
load_c false load carries flags x = refl
load_c true true carries flags x = refl
load_c true false carries flags x = refl

-- forms
no_load : (f : Fields) → is_unit_word f ≡ true → is_load f ≡ false
no_load f unit = grind (arith, nat_tests)

no_add : (f : Fields) → is_unit_word f ≡ false → add_active f ≡ false
no_add f unit = grind (arith, nat_tests)

no_mul : (f : Fields) → is_unit_word f ≡ false → mul_active f ≡ false
no_mul f unit = grind (arith, nat_tests)

carry_of_op : (op : Option AddOp) (a b : ℕ → ℕ) → is_some (carry_mask op a b) ≡ has_carry op
carry_of_op None a b = refl
carry_of_op (Some op) a b = mapped (add_carry op)
  where
    mapped : (o : Option (ℕ → ℕ → Bool)) → is_some (option_map (λ (carry : ℕ → ℕ → Bool). mask (λ i. carry (a i) (b i))) o) ≡ is_some o
    mapped None = refl
    mapped (Some carry) = refl

add_carries_there : (f : Fields) (p : ProcessorState) (ins : Ins) → is_some (add_carries f p ins) ≡ has_carry (add_op f.op_add)
unfolding add_carries
add_carries_there f p ins = carry_of_op (add_op f.op_add) (operand f p ins f.add_a) (operand f p ins f.add_b)

pub zn_defined : (f : Fields) (p : ProcessorState) (ins : Ins) → is_some (flags_after f p ins).zn ≡ (sets_flags f || is_some p.flags.zn)
unfolding flags_after unit_flags load_flags sets_flags
zn_defined f p ins = by_form (is_unit_word f) refl
  where
    by_form : (unit : Bool) → is_unit_word f ≡ unit
        → is_some (if unit then (if not (f.sf == 1) then p.flags else (if add_active f then flags_of (add_values f p ins) (add_carries f p ins) else (if mul_active f then flags_of (mul_values f p ins) None else p.flags)))
        else (if (f.sf == 1) && is_load f then flags_of (plain_values f p.place) None else p.flags)).zn
        ≡ (((f.sf == 1) && (add_active f || mul_active f || is_load f)) || is_some p.flags.zn)
    by_form true unit =
        unit_zn (f.sf == 1) (add_active f) (mul_active f) p.flags (add_values f p ins) (mul_values f p ins) (add_carries f p ins)
        ∙ ap (λ (load : Bool). ((f.sf == 1) && (add_active f || mul_active f || load)) || is_some p.flags.zn) (sym (no_load f unit))
    by_form false unit =
        load_zn (f.sf == 1) (is_load f) p.flags (plain_values f p.place)
        ∙ ap (λ (add : Bool). ((f.sf == 1) && (add || false || is_load f)) || is_some p.flags.zn) (sym (no_add f unit))
        ∙ ap (λ (mul : Bool). ((f.sf == 1) && (add_active f || mul || is_load f)) || is_some p.flags.zn) (sym (no_mul f unit))

pub carry_defined : (f : Fields) (p : ProcessorState) (ins : Ins) → is_some (flags_after f p ins).c ≡ carry_after f (is_some p.flags.c)
unfolding flags_after unit_flags load_flags sets_flags defines_carry
carry_defined f p ins = by_form (is_unit_word f) refl
  where
    by_form : (unit : Bool) → is_unit_word f ≡ unit
        → is_some (if unit then (if not (f.sf == 1) then p.flags else (if add_active f then flags_of (add_values f p ins) (add_carries f p ins) else (if mul_active f then flags_of (mul_values f p ins) None else p.flags)))
        else (if (f.sf == 1) && is_load f then flags_of (plain_values f p.place) None else p.flags)).c
        ≡ (if (f.sf == 1) && (add_active f || mul_active f || is_load f) then add_active f && has_carry (add_op f.op_add) else is_some p.flags.c)
    by_form true unit =
        unit_c (f.sf == 1) (add_active f) (mul_active f) p.flags (add_values f p ins) (mul_values f p ins) (add_carries f p ins) (has_carry (add_op f.op_add)) (add_carries_there f p ins)
        ∙ ap (λ (load : Bool). if (f.sf == 1) && (add_active f || mul_active f || load) then add_active f && has_carry (add_op f.op_add) else is_some p.flags.c) (sym (no_load f unit))
    by_form false unit =
        load_c (f.sf == 1) (is_load f) (has_carry (add_op f.op_add)) p.flags (plain_values f p.place)
        ∙ ap (λ (add : Bool). if (f.sf == 1) && (add || false || is_load f) then add && has_carry (add_op f.op_add) else is_some p.flags.c) (sym (no_add f unit))
        ∙ ap (λ (mul : Bool). if (f.sf == 1) && (add_active f || mul || is_load f) then add_active f && has_carry (add_op f.op_add) else is_some p.flags.c) (sym (no_mul f unit))
