-- The canonical fields of an ALU or small immediate word act as the word's own fields do.
use Rattle.std.proofs.Common.{◌≡◌, ℕ, Bool, true, false, refl, sym, arith, ◌∙◌}
use Rattle.std.specs.Prelude.{◌==◌, ◌||◌, ◌&&◌, not, if◌then◌else◌}
use Rattle.std.proofs.lemmas.Bool.Decides.{nat_tests}
use Rattle.qpu_word.specs.declared.word.Fields.{Fields}
use Rattle.qpu_word.specs.Words.{is_small, is_unit_word, is_unary, add_active, mul_active, add_uses, mul_uses, uses}
use Rattle.qpu_word.specs.CanonicalWord.{code_acts, said_by, canonical_signal, canonical_units}
use Rattle.qpu_word.proofs.PackedLemmas.{HoldsUnits}

-- the signals of words in which both units compute
abbrev pub unit_signal : ℕ → Bool
unit_signal n = ((n == 1) || (n == 3) || (n == 10) || (n == 11)) || (n == 13)

signal_by : (small acts : Bool) (sig : ℕ) → unit_signal sig ≡ true → unit_signal (if small && not acts then 1 else sig) ≡ true
signal_by true true sig is = is
signal_by true false sig is = refl
signal_by false acts sig is = is

small_by : (small acts : Bool) (sig : ℕ) → (sig == 13) ≡ small → ((if small && not acts then 1 else sig) == 13) ≡ (small && acts)
small_by true true sig is = is
small_by true false sig is = refl
small_by false acts sig is = is

-- such a signal is no other
pub no_immediate : (n : ℕ) → unit_signal n ≡ true → (n == 14) ≡ false
no_immediate n is = grind (arith, nat_tests, is)

pub no_branch : (n : ℕ) → unit_signal n ≡ true → (n == 15) ≡ false
no_branch n is = grind (arith, nat_tests, is)

-- a unit is active where it was
active_by : (acts nowhere : Bool) (op cond : ℕ) → (not (op == 0) && not (cond == 0)) ≡ acts
    → (not (said_by acts op == 0) && not (said_by acts (if nowhere then 1 else cond) == 0)) ≡ acts
active_by true true op cond is = grind (arith, nat_tests, is)
active_by true false op cond is = is
active_by false nowhere op cond is = refl

-- the muxes that it uses
add_uses_by : (acts unary : Bool) (op x y m : ℕ) → is_unary op ≡ unary
    → (acts && ((said_by acts x == m) || (not (is_unary (said_by acts op)) && (said_by acts (if unary then x else y) == m))))
    ≡ (acts && ((x == m) || (not unary && (y == m))))
add_uses_by true true op x y m is = rw is refl
add_uses_by true false op x y m is = rw is refl
add_uses_by false unary op x y m is = refl

mul_uses_by : (acts : Bool) (x y m : ℕ) → (acts && ((said_by acts x == m) || (said_by acts y == m))) ≡ (acts && ((x == m) || (y == m)))
mul_uses_by true x y m = refl
mul_uses_by false x y m = refl

-- what fields g do that hold the canonical fields of f
pub record ActsAs (f g : Fields) : Type 0 where
  pub unit : unit_signal g.sig ≡ true
  pub small : is_small g ≡ (is_small f && code_acts f)
  pub add : add_active g ≡ add_active f
  pub mul : mul_active g ≡ mul_active f
  pub uses : (m : ℕ) → uses g m ≡ uses f m

pub under : (unit op cond : Bool) → unit ≡ true → (unit && op && cond) ≡ (op && cond)
under true op cond is = refl
under false op cond is = absurd (cc)

signal_of : (f g : Fields) → HoldsUnits g (canonical_units f) → unit_signal f.sig ≡ true → unit_signal g.sig ≡ true
unfolding canonical_units canonical_signal
signal_of f g h unit = rw h.sig (signal_by (is_small f) (code_acts f) f.sig unit)

small_of : (f g : Fields) → HoldsUnits g (canonical_units f) → is_small g ≡ (is_small f && code_acts f)
unfolding canonical_units canonical_signal
small_of f g h = rw h.sig (small_by (is_small f) (code_acts f) f.sig refl)

add_of : (f g : Fields) → HoldsUnits g (canonical_units f) → unit_signal f.sig ≡ true → unit_signal g.sig ≡ true → add_active g ≡ add_active f
unfolding canonical_units
add_of f g h unit unit' =
    under (is_unit_word g) (not (g.op_add == 0)) (not (g.cond_add == 0)) unit'
    ∙ rw (h.op_add, h.cond_add) (active_by (add_active f) (f.waddr_add == 39) f.op_add f.cond_add (sym (under (is_unit_word f) (not (f.op_add == 0)) (not (f.cond_add == 0)) unit)))

mul_of : (f g : Fields) → HoldsUnits g (canonical_units f) → unit_signal f.sig ≡ true → unit_signal g.sig ≡ true → mul_active g ≡ mul_active f
unfolding canonical_units
mul_of f g h unit unit' =
    under (is_unit_word g) (not (g.op_mul == 0)) (not (g.cond_mul == 0)) unit'
    ∙ rw (h.op_mul, h.cond_mul) (active_by (mul_active f) (f.waddr_mul == 39) f.op_mul f.cond_mul (sym (under (is_unit_word f) (not (f.op_mul == 0)) (not (f.cond_mul == 0)) unit)))

add_uses_of : (f g : Fields) → HoldsUnits g (canonical_units f) → add_active g ≡ add_active f → (m : ℕ) → add_uses g m ≡ add_uses f m
unfolding canonical_units
add_uses_of f g h add m = rw (add, h.add_a, h.op_add, h.add_b) (add_uses_by (add_active f) (is_unary f.op_add) f.op_add f.add_a f.add_b m refl)

mul_uses_of : (f g : Fields) → HoldsUnits g (canonical_units f) → mul_active g ≡ mul_active f → (m : ℕ) → mul_uses g m ≡ mul_uses f m
unfolding canonical_units
mul_uses_of f g h mul m = rw (mul, h.mul_a, h.mul_b) (mul_uses_by (mul_active f) f.mul_a f.mul_b m)

either : (a b c d : Bool) → a ≡ b → c ≡ d → (a || c) ≡ (b || d)
either a b c d left right = rw (left, right) refl

pub acts_as : (f g : Fields) → HoldsUnits g (canonical_units f) → unit_signal f.sig ≡ true → ActsAs f g
acts_as f g h unit =
    let unit' : unit_signal g.sig ≡ true = signal_of f g h unit in
    let add : add_active g ≡ add_active f = add_of f g h unit unit' in
    let mul : mul_active g ≡ mul_active f = mul_of f g h unit unit' in
    record {
      unit = unit';
      small = small_of f g h;
      add = add;
      mul = mul;
      uses = λ m. either (add_uses g m) (add_uses f m) (mul_uses g m) (mul_uses f m) (add_uses_of f g h add m) (mul_uses_of f g h mul m);
    }
