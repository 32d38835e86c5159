-- The canonical word of a word of the profile is canonical, and a canonical word is its own.
use Rattle.std.proofs.Common.{◌≡◌, ℕ, ◌<◌, ◌^◌, Bool, true, false, Option, Some, None, refl, sym, ap, subst, arith, ◌∙◌}
use Rattle.std.specs.Prelude.{◌==◌, ◌||◌, ◌&&◌, not, nat_lt, if◌then◌else◌, IsSome}
use Rattle.std.proofs.lemmas.Bool.Decides.{nat_tests}
use Rattle.qpu_word.specs.declared.word.Fields.{Fields}
use Rattle.qpu_word.specs.declared.fault.WordFault.{WordFault}
use Rattle.qpu_word.specs.declared.fault.WordFault.TheVariants.{Signal, LoadKind}
use Rattle.qpu_word.specs.Words.{field, fields_of, is_alu, is_small, is_unit_word, is_load, is_semaphore, is_branch, is_unary, add_active, mul_active, add_writes, mul_writes, uses, has_fault, word_fault, IsInProfile}
use Rattle.qpu_word.specs.Form.{form_of, word_form}
use Rattle.qpu_word.specs.Packed.{unit_word, immediate_word, branch_word}
use Rattle.qpu_word.specs.Canonical.{IsCanonical}
use Rattle.qpu_word.specs.CanonicalWord.{exchange_matters, code_acts, said_by, address_by, cond_by, row_by, second_by, canonical_signal, canonical_row_b, canonical_exchange, canonical_units, canonical_load, canonical_semaphore, canonical_branch, canonical_of_form, canonical_word}
use Rattle.qpu_word.proofs.ProfileLemmas.{field_below}
use Rattle.qpu_word.proofs.PackedLemmas.{FitsUnits, FitsImmediate, FitsBranch, HoldsUnits, HoldsImmediate, HoldsBranch, units_hold, immediate_hold, branch_hold, units_back, immediate_back, branch_back}
use Rattle.qpu_word.proofs.FaultLemmas.{faultless, in_profile}
use Rattle.qpu_word.proofs.UnitFields.{acts_as}
use Rattle.qpu_word.proofs.UnitFaults.{units_faultless}
use Rattle.qpu_word.proofs.UnitRules.{units_kept}
use Rattle.qpu_word.proofs.OwnFields.{own_units, own_load, own_semaphore, own_branch}
use Rattle.qpu_word.proofs.PlainForms.{load_acts, load_faultless, load_kept, semaphore_acts, semaphore_faultless, semaphore_kept, branch_by, branch_faultless, branch_kept}
use Rattle.qpu_word.proofs.CanonicalLemmas.{canonical_where, each_kept}

-- canonical fields are below the bounds of their fields

said_below : (acts : Bool) (n bound : ℕ) → 0 < bound → n < bound → said_by acts n < bound
said_below true n bound some below = below
said_below false n bound some below = some

address_below : (acts : Bool) (n bound : ℕ) → 39 < bound → n < bound → address_by acts n < bound
address_below true n bound some below = below
address_below false n bound some below = some

chosen_below : (first : Bool) (m n bound : ℕ) → m < bound → n < bound → (if first then m else n) < bound
chosen_below true m n bound left right = left
chosen_below false m n bound left right = right

exchange_below : (f : Fields) → f.ws < 2 → canonical_exchange f < 2
unfolding canonical_exchange
exchange_below f ws = said_below (exchange_matters f) f.ws 2 (omega arith) ws

signal_below : (f : Fields) → f.sig < 16 → canonical_signal f < 16
unfolding canonical_signal
signal_below f sig = chosen_below (is_small f && not (code_acts f)) 1 f.sig 16 (omega arith) sig

row_below : (f : Fields) → f.raddr_b < 64 → canonical_row_b f < 64
unfolding canonical_row_b
row_below f below =
    chosen_below (is_small f) (address_by (code_acts f) f.raddr_b) (row_by (uses f 7) f.raddr_b) 64
    (address_below (code_acts f) f.raddr_b 64 (omega arith) below)
    (chosen_below (nat_lt f.raddr_b 32 && not (uses f 7)) 39 f.raddr_b 64 (omega arith) below)

cond_below : (acts : Bool) (address cond : ℕ) → cond < 8 → cond_by acts address cond < 8
cond_below acts address cond below = said_below acts (if address == 39 then 1 else cond) 8 (omega arith) (chosen_below (address == 39) 1 cond 8 (omega arith) below)

units_fit : (w : ℕ) → FitsUnits (canonical_units (fields_of w))
unfolding canonical_units
units_fit w =
    let add : Bool = add_active (fields_of w) in
    let mul : Bool = mul_active (fields_of w) in
    record {
      sig = signal_below (fields_of w) (field_below w 60 4);
      unpack = field_below w 57 3;
      pm = omega arith;
      pack = field_below w 52 4;
      cond_add = cond_below add (field w 38 6) (field w 49 3) (field_below w 49 3);
      cond_mul = cond_below mul (field w 32 6) (field w 46 3) (field_below w 46 3);
      sf = said_below (add || mul) (field w 45 1) 2 (omega arith) (field_below w 45 1);
      ws = exchange_below (fields_of w) (field_below w 44 1);
      waddr_add = address_below add (field w 38 6) 64 (omega arith) (field_below w 38 6);
      waddr_mul = address_below mul (field w 32 6) 64 (omega arith) (field_below w 32 6);
      op_mul = said_below mul (field w 29 3) 8 (omega arith) (field_below w 29 3);
      op_add = said_below add (field w 24 5) 32 (omega arith) (field_below w 24 5);
      raddr_a = chosen_below (nat_lt (field w 18 6) 32 && not (uses (fields_of w) 6)) 39 (field w 18 6) 64 (omega arith) (field_below w 18 6);
      raddr_b = row_below (fields_of w) (field_below w 12 6);
      add_a = said_below add (field w 9 3) 8 (omega arith) (field_below w 9 3);
      add_b = said_below add (second_by (fields_of w)) 8 (omega arith) (chosen_below (is_unary (field w 24 5)) (field w 9 3) (field w 6 3) 8 (field_below w 9 3) (field_below w 6 3));
      mul_a = said_below mul (field w 3 3) 8 (omega arith) (field_below w 3 3);
      mul_b = said_below mul (field w 0 3) 8 (omega arith) (field_below w 0 3);
    }

load_fits : (w : ℕ) → FitsImmediate (canonical_load (fields_of w))
unfolding canonical_load
load_fits w =
    let add : Bool = add_writes (fields_of w) in
    let mul : Bool = mul_writes (fields_of w) in
    record {
      sig = field_below w 60 4;
      kind = field_below w 57 3;
      pm = omega arith;
      pack = field_below w 52 4;
      cond_add = said_below add (field w 49 3) 8 (omega arith) (field_below w 49 3);
      cond_mul = said_below mul (field w 46 3) 8 (omega arith) (field_below w 46 3);
      sf = field_below w 45 1;
      ws = exchange_below (fields_of w) (field_below w 44 1);
      waddr_add = address_below add (field w 38 6) 64 (omega arith) (field_below w 38 6);
      waddr_mul = address_below mul (field w 32 6) 64 (omega arith) (field_below w 32 6);
      immediate = field_below w 0 32;
    }

semaphore_fits : (w : ℕ) → FitsImmediate (canonical_semaphore (fields_of w))
unfolding canonical_semaphore
semaphore_fits w = record {
  sig = field_below w 60 4;
  kind = field_below w 57 3;
  pm = omega arith;
  pack = omega arith;
  cond_add = omega arith;
  cond_mul = omega arith;
  sf = omega arith;
  ws = omega arith;
  waddr_add = field_below w 38 6;
  waddr_mul = field_below w 32 6;
  immediate = omega arith;
}

branch_fits : (w : ℕ) → FitsBranch (canonical_branch (fields_of w))
unfolding canonical_branch
branch_fits w = record {
  sig = field_below w 60 4;
  kind = omega arith;
  pm = omega arith;
  cond_br = field_below w 52 4;
  rel = field_below w 51 1;
  reg = field_below w 50 1;
  raddr_br = said_below (field w 50 1 == 1) (field w 45 5) 32 (omega arith) (field_below w 45 5);
  ws = exchange_below (fields_of w) (field_below w 44 1);
  waddr_add = field_below w 38 6;
  waddr_mul = field_below w 32 6;
  immediate = field_below w 0 32;
}

-- the forms of words of the profile
pub data HasForm (f : Fields) : Type 0 where
  units : (is : is_unit_word f ≡ true) → HasForm f
  load : (is : is_load f ≡ true) → HasForm f
  semaphore : (is : is_semaphore f ≡ true) → HasForm f
  branch : (is : is_branch f ≡ true) → HasForm f

form_by : (f : Fields) (unit ld sem br imm : Bool) → is_unit_word f ≡ unit → is_load f ≡ ld → is_semaphore f ≡ sem → is_branch f ≡ br
    → not (unit || imm || br) ≡ false → (imm && not (ld || sem)) ≡ false → HasForm f
form_by f true ld sem br imm u l s b signal kind = units u
form_by f false true sem br imm u l s b signal kind = load l
form_by f false false true br imm u l s b signal kind = semaphore s
form_by f false false false true imm u l s b signal kind = branch b
form_by f false false false false true u l s b signal kind = absurd (cc)
form_by f false false false false false u l s b signal kind = absurd (cc)

pub has_form : (f : Fields) → has_fault f Signal ≡ false → has_fault f LoadKind ≡ false → HasForm f
unfolding has_fault
has_form f signal kind = form_by f (is_unit_word f) (is_load f) (is_semaphore f) (is_branch f) (f.sig == 14) refl refl refl refl signal kind

-- the canonical word of each form
units_by : (f : Fields) (alu small : Bool) → is_alu f ≡ alu → is_small f ≡ small → (alu || small) ≡ true → canonical_of_form (form_of f) f ≡ unit_word (canonical_units f)
unfolding canonical_of_form form_of
units_by f true small is_a is_s is = rw is_a refl
units_by f false true is_a is_s is = rw (is_a, is_s) refl
units_by f false false is_a is_s is = absurd (cc)

load_by : (f : Fields) (k0 k1 k3 : Bool) → f.sig ≡ 14 → (f.kind == 0) ≡ k0 → (f.kind == 1) ≡ k1 → (f.kind == 3) ≡ k3 → (k0 || k1 || k3) ≡ true
    → canonical_of_form (form_of f) f ≡ immediate_word (canonical_load f)
unfolding canonical_of_form form_of
load_by f true k1 k3 sig is0 is1 is3 is = rw (sig, is0) refl
load_by f false true k3 sig is0 is1 is3 is = rw (sig, is0, is1) refl
load_by f false false true sig is0 is1 is3 is = rw (sig, is0, is1, is3) refl
load_by f false false false sig is0 is1 is3 is = absurd (cc)

kind_of : (sig kind : ℕ) → ((sig == 14) && ((kind == 0) || (kind == 1) || (kind == 3))) ≡ true → (sig ≡ 14) × (((kind == 0) || (kind == 1) || (kind == 3)) ≡ true)
kind_of sig kind is = (grind (arith, nat_tests, is), grind (arith, nat_tests, is))

of_load : (f : Fields) → is_load f ≡ true → canonical_of_form (form_of f) f ≡ immediate_word (canonical_load f)
of_load f is =
    let known : (f.sig ≡ 14) × (((f.kind == 0) || (f.kind == 1) || (f.kind == 3)) ≡ true) = kind_of f.sig f.kind is in
    load_by f (f.kind == 0) (f.kind == 1) (f.kind == 3) known.0 refl refl refl known.1

semaphore_of : (sig kind : ℕ) → ((sig == 14) && (kind == 4)) ≡ true → (sig ≡ 14) × (kind ≡ 4)
semaphore_of sig kind is = (grind (arith, nat_tests, is), grind (arith, nat_tests, is))

of_semaphore : (f : Fields) → is_semaphore f ≡ true → canonical_of_form (form_of f) f ≡ immediate_word (canonical_semaphore f)
unfolding canonical_of_form form_of
of_semaphore f is = let known : (f.sig ≡ 14) × (f.kind ≡ 4) = semaphore_of f.sig f.kind is in rw (known.0, known.1) refl

of_branch : (f : Fields) → is_branch f ≡ true → canonical_of_form (form_of f) f ≡ branch_word (canonical_branch f)
unfolding canonical_of_form form_of
of_branch f is = rw (branch_by f.sig is) refl

inside : (w : ℕ) → IsInProfile w → canonical_word w ≡ canonical_of_form (form_of (fields_of w)) (fields_of w)
unfolding canonical_word word_form
inside w is = rw is refl

pub units_are : (w : ℕ) → IsInProfile w → is_unit_word (fields_of w) ≡ true → canonical_word w ≡ unit_word (canonical_units (fields_of w))
units_are w p is = inside w p ∙ units_by (fields_of w) (is_alu (fields_of w)) (is_small (fields_of w)) refl refl is

pub load_is : (w : ℕ) → IsInProfile w → is_load (fields_of w) ≡ true → canonical_word w ≡ immediate_word (canonical_load (fields_of w))
load_is w p is = inside w p ∙ of_load (fields_of w) is

pub semaphore_is : (w : ℕ) → IsInProfile w → is_semaphore (fields_of w) ≡ true → canonical_word w ≡ immediate_word (canonical_semaphore (fields_of w))
semaphore_is w p is = inside w p ∙ of_semaphore (fields_of w) is

pub branch_is : (w : ℕ) → IsInProfile w → is_branch (fields_of w) ≡ true → canonical_word w ≡ branch_word (canonical_branch (fields_of w))
branch_is w p is = inside w p ∙ of_branch (fields_of w) is

-- what the fields of the canonical word hold
pub units_held : (w : ℕ) → HoldsUnits (fields_of (unit_word (canonical_units (fields_of w)))) (canonical_units (fields_of w))
units_held w = units_hold (canonical_units (fields_of w)) (units_fit w)

pub load_held : (w : ℕ) → HoldsImmediate (fields_of (immediate_word (canonical_load (fields_of w)))) (canonical_load (fields_of w))
load_held w = immediate_hold (canonical_load (fields_of w)) (load_fits w)

pub semaphore_held : (w : ℕ) → HoldsImmediate (fields_of (immediate_word (canonical_semaphore (fields_of w)))) (canonical_semaphore (fields_of w))
semaphore_held w = immediate_hold (canonical_semaphore (fields_of w)) (semaphore_fits w)

pub branch_held : (w : ℕ) → HoldsBranch (fields_of (branch_word (canonical_branch (fields_of w)))) (canonical_branch (fields_of w))
branch_held w = branch_hold (canonical_branch (fields_of w)) (branch_fits w)

pub branch_sig : (f g : Fields) → HoldsBranch g (canonical_branch f) → g.sig ≡ f.sig
unfolding canonical_branch
branch_sig f g h = h.sig

-- the canonical word is canonical
canonical_by : (w : ℕ) → IsInProfile w → HasForm (fields_of w) → IsCanonical (canonical_word w)
canonical_by w p (units is) =
    let f : Fields = fields_of w in
    let v : ℕ = unit_word (canonical_units f) in
    let a = acts_as f (fields_of v) (units_held w) is in
    subst (λ n. IsCanonical n) (sym (units_are w p is))
    (canonical_where v (in_profile v (units_faultless f (fields_of v) (units_held w) a is (faultless w p))) (units_kept f (fields_of v) (units_held w) a is))
canonical_by w p (load is) =
    let f : Fields = fields_of w in
    let v : ℕ = immediate_word (canonical_load f) in
    let a = load_acts f (fields_of v) (load_held w) is in
    subst (λ n. IsCanonical n) (sym (load_is w p is))
    (canonical_where v (in_profile v (load_faultless f (fields_of v) (load_held w) a is (faultless w p))) (load_kept f (fields_of v) (load_held w) a))
canonical_by w p (semaphore is) =
    let f : Fields = fields_of w in
    let v : ℕ = immediate_word (canonical_semaphore f) in
    let a = semaphore_acts f (fields_of v) (semaphore_held w) is (faultless w p).target in
    subst (λ n. IsCanonical n) (sym (semaphore_is w p is))
    (canonical_where v (in_profile v (semaphore_faultless (fields_of v) f.immediate a)) (semaphore_kept (fields_of v) f.immediate a))
canonical_by w p (branch is) =
    let f : Fields = fields_of w in
    let v : ℕ = branch_word (canonical_branch f) in
    let own : f.sig ≡ 15 = branch_by f.sig is in
    let sig : (fields_of v).sig ≡ 15 = branch_sig f (fields_of v) (branch_held w) ∙ own in
    subst (λ n. IsCanonical n) (sym (branch_is w p is))
    (canonical_where v (in_profile v (branch_faultless f (fields_of v) (branch_held w) sig is (faultless w p))) (branch_kept f (fields_of v) (branch_held w) sig own))

pub form_of_profile : (w : ℕ) → IsInProfile w → HasForm (fields_of w)
form_of_profile w p = has_form (fields_of w) (faultless w p).signal (faultless w p).kind

pub is_canonical_again : (w : ℕ) → IsInProfile w → IsCanonical (canonical_word w)
is_canonical_again w p = canonical_by w p (form_of_profile w p)

-- a canonical word is its own
own_by : (w : ℕ) → w < 2 ^ 64 → IsCanonical w → HasForm (fields_of w) → canonical_word w ≡ w
own_by w below c (units is) = units_are w c.inside is ∙ (ap unit_word (own_units (fields_of w) (each_kept w c) is) ∙ units_back w below)
own_by w below c (load is) = load_is w c.inside is ∙ (ap immediate_word (own_load (fields_of w) (each_kept w c) is) ∙ immediate_back w below)
own_by w below c (semaphore is) = semaphore_is w c.inside is ∙ (ap immediate_word (own_semaphore (fields_of w) (each_kept w c) is) ∙ immediate_back w below)
own_by w below c (branch is) = branch_is w c.inside is ∙ (ap branch_word (own_branch (fields_of w) (each_kept w c) is) ∙ branch_back w below)

pub own_word : (w : ℕ) → w < 2 ^ 64 → IsCanonical w → canonical_word w ≡ w
own_word w below c = own_by w below c (form_of_profile w c.inside)

-- a word outside the profile comes back
outside_by : (w : ℕ) (fault : Option WordFault) → word_fault w ≡ fault → IsSome fault → canonical_word w ≡ w
unfolding canonical_word word_form
outside_by w None is some = absurd (cc)
outside_by w (Some fault) is some = rw is refl

pub outside_back : (w : ℕ) → IsSome (word_fault w) → canonical_word w ≡ w
outside_back w some = outside_by w (word_fault w) refl some
