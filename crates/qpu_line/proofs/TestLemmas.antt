-- The tests of a word's fields that follow of what a line can name.
use Rattle.std.proofs.Common.{◌≡◌, ℕ, ◌<◌, Bool, true, false, refl, sym, ap, ◌∙◌, subst, arith}
use Rattle.std.specs.Prelude.{◌==◌, ◌||◌, ◌&&◌, not, nat_lt, nat_le, if◌then◌else◌, Some, None}
use Rattle.std.proofs.lemmas.Bool.Decides.{nat_tests}
use Rattle.qpu_word.specs.Words.{between, is_write_address, is_unary}
use Rattle.qpu_line.specs.declared.part.Part.{Part}
use Rattle.qpu_line.specs.declared.slots.UnitFields.{UnitFields}
use Rattle.qpu_word.specs.Canonical.{unit_rule, file_matters}
use Rattle.qpu_line.specs.Targets.{target_at_address, address_of, is_row_a, in_file_a, in_file_b}
use Rattle.qpu_line.specs.Units.{operand_of, part_of, part_to, part_uses, any_uses, mux_of, unpack_of, over, to_of, pack_of, pack_at}
use Rattle.qpu_line.specs.Named.{is_source, is_unpack_at, is_pack_at, IsNamedPart}
use Rattle.qpu_line.proofs.AgainLemmas.{exchange_by, matters_in_a, matters_in_b}
use Rattle.qpu_line.proofs.TargetLemmas.{address_back}
use Rattle.qpu_line.proofs.UnitLemmas.{IsTidy, SaysNothing, idle, mux_back, over_unpack}
use Rattle.qpu_line.proofs.UnitLaw.{add_part, mul_part, row_a_of, pack_part}
use Rattle.qpu_line.proofs.SaidLemmas.{acts, packs}
use Rattle.qpu_line.proofs.SourceLemmas.{all_sources}
use Rattle.qpu_line.proofs.NamedLemmas.{ComesBack, IsNamedBy, add_there, mul_there, acts_is, source_somewhere}

-- targets
to_named : (in_b : Bool) (address : ℕ) → is_write_address (address_of (target_at_address in_b address)) ≡ true → is_write_address address ≡ true
to_named in_b address named = rw (address_back in_b address) at named

to_by : (nothing named : Bool) → (nothing ≡ false → named ≡ true) → (not nothing && not named) ≡ false
to_by true named is = refl
to_by false named is = rw (is refl) refl

pub to_of_unit : (s : UnitFields) (in_b : Bool) (op cond address x y : ℕ) → (idle op cond ≡ false → IsNamedPart (part_to s (target_at_address in_b address) op cond x y))
    → (acts op cond && not (is_write_address address)) ≡ false
to_of_unit s in_b op cond address x y named =
    rw (acts_is op cond) (to_by (idle op cond) (is_write_address address) (λ is. to_named in_b address (named is).to))

-- a unit's fields say nothing without effect
nowhere_by : (nowhere : Bool) (cond : ℕ) → (nowhere ≡ true → cond ≡ 1) → (if nowhere then cond == 1 else true) ≡ true
nowhere_by true cond always = rw (always refl) refl
nowhere_by false cond always = refl

always_at : (in_b : Bool) (address cond : ℕ) → ((address_of (target_at_address in_b address) == 39) ≡ true → cond ≡ 1) → (address == 39) ≡ true → cond ≡ 1
always_at in_b address cond always at = always (rw (address_back in_b address) at)

rule_by : (nothing : Bool) (op cond address x y : ℕ) → (nothing ≡ true → SaysNothing op cond address x y) → (nothing ≡ false → (address == 39) ≡ true → cond ≡ 1)
    → unit_rule (not nothing) op cond address x y ≡ true
rule_by true op cond address x y tidy always = rw ((tidy refl).op, (tidy refl).cond, (tidy refl).address, (tidy refl).x, (tidy refl).y) refl
rule_by false op cond address x y tidy always = nowhere_by (address == 39) cond (always refl)

pub rule_of_unit : (s : UnitFields) (in_b : Bool) (op cond address x y : ℕ) → IsTidy op cond address x y
    → (idle op cond ≡ false → IsNamedPart (part_to s (target_at_address in_b address) op cond x y)) → unit_rule (acts op cond) op cond address x y ≡ true
rule_of_unit s in_b op cond address x y tidy named =
    rw (acts_is op cond) (rule_by (idle op cond) op cond address x y tidy (λ is. always_at in_b address cond (named is).always))

-- an operation with one operand names it twice
twice_by : (nothing unary : Bool) (x y : ℕ) → (nothing ≡ false → unary ≡ true → y ≡ x) → (not (not nothing && unary) || (y == x)) ≡ true
twice_by true unary x y same = refl
twice_by false true x y same = let e : y ≡ x = same refl refl in grind (arith, nat_tests, e)
twice_by false false x y same = refl

pub twice_of_add : (s : UnitFields) → s.add_a < 8 → s.add_b < 8 → (idle s.op_add s.cond_add ≡ false → is_unary s.op_add ≡ true → operand_of s s.add_b ≡ operand_of s s.add_a)
    → (not (acts s.op_add s.cond_add && is_unary s.op_add) || (s.add_b == s.add_a)) ≡ true
twice_of_add s a b same =
    rw (acts_is s.op_add s.cond_add)
    (twice_by (idle s.op_add s.cond_add) (is_unary s.op_add) s.add_a s.add_b
    (λ is unary. sym (mux_back s s.add_b b) ∙ (ap mux_of (same is unary) ∙ mux_back s s.add_a a)))

-- flags
flags_by : (sf : ℕ) (set a b : Bool) → (sf == 1) ≡ set → sf < 2 → (set ≡ true → (a || b) ≡ true) → ((sf == 0) || a || b) ≡ true
flags_by sf true a b is below sets = let some : (a || b) ≡ true = sets refl in grind (arith, some)
flags_by sf false a b is below sets = let none : (sf == 0) ≡ true = grind (arith, nat_tests, is, below) in rw none refl

pub flags_of : (s : UnitFields) → s.sf < 2 → IsNamedBy s → ((s.sf == 0) || acts s.op_add s.cond_add || acts s.op_mul s.cond_mul) ≡ true
flags_of s below n =
    rw (acts_is s.op_add s.cond_add, acts_is s.op_mul s.cond_mul)
    (flags_by s.sf (s.sf == 1) (not (idle s.op_add s.cond_add)) (not (idle s.op_mul s.cond_mul)) refl below n.sets)

-- the exchange of files
pub is_target : (in_b : Bool) (address : ℕ) → target_at_address in_b (address_of (target_at_address in_b address)) ≡ target_at_address in_b address
is_target in_b address = ap (target_at_address in_b) (address_back in_b address)

b_by : (nothing in_b : Bool) (p : Part) (address : ℕ) → p.to ≡ target_at_address in_b address → in_file_b (to_of (if nothing then None else Some p)) ≡ true → (not nothing && file_matters address) ≡ true
b_by true in_b p address to is = absurd (grind (arith, is))
b_by false in_b p address to is =
    let P : ℕ → Type 0 = λ n. file_matters n ≡ true in
    let at : in_file_b (target_at_address in_b address) ≡ true = rw to at is in
    subst P (address_back in_b address) (matters_in_b in_b (target_at_address in_b address) (is_target in_b address) at)

a_by : (nothing in_b : Bool) (p : Part) (address : ℕ) → p.to ≡ target_at_address in_b address → in_file_a (to_of (if nothing then None else Some p)) ≡ true → (not nothing && file_matters address) ≡ true
a_by true in_b p address to is = absurd (grind (arith, is))
a_by false in_b p address to is =
    let P : ℕ → Type 0 = λ n. file_matters n ≡ true in
    let at : in_file_a (target_at_address in_b address) ≡ true = rw to at is in
    subst P (address_back in_b address) (matters_in_a in_b (target_at_address in_b address) (is_target in_b address) at)

exchange_both : (s : UnitFields)
    → (((if in_file_b (to_of (add_part s)) || in_file_a (to_of (mul_part s)) then 1 else 0) == 0) || (not (idle s.op_add s.cond_add) && file_matters s.waddr_add) || (not (idle s.op_mul s.cond_mul) && file_matters s.waddr_mul)) ≡ true
unfolding part_of
exchange_both s =
    exchange_by _ _ _ _
    (b_by (idle s.op_add s.cond_add) (s.ws == 1) (add_there s) s.waddr_add refl)
    (a_by (idle s.op_mul s.cond_mul) (not (s.ws == 1)) (mul_there s) s.waddr_mul refl)

pub exchange_of_units : (s : UnitFields) → ComesBack s
    → ((s.ws == 0) || (acts s.op_add s.cond_add && file_matters s.waddr_add) || (acts s.op_mul s.cond_mul && file_matters s.waddr_mul)) ≡ true
exchange_of_units s c =
    let P : ℕ → Type 0 = λ n. ((n == 0) || (not (idle s.op_add s.cond_add) && file_matters s.waddr_add) || (not (idle s.op_mul s.cond_mul) && file_matters s.waddr_mul)) ≡ true in
    rw (acts_is s.op_add s.cond_add, acts_is s.op_mul s.cond_mul) (subst P c.ws (exchange_both s))

-- unpacking
unused : (a b : Bool) (v rest : ℕ) → (if a then v else if b then v else rest) ≡ v → (a || b) ≡ false → rest ≡ v
unused true b v rest is none = absurd (grind (arith, none))
unused false true v rest is none = absurd (grind (arith, none))
unused false false v rest is none = is

no_unpack : (s : UnitFields) → ComesBack s → any_uses s 6 ≡ false → 0 ≡ s.unpack
no_unpack s c none =
    unused (part_uses s.op_add s.cond_add s.add_a s.add_b 6) (part_uses s.op_mul s.cond_mul s.mul_a s.mul_b 6) s.unpack 0
    (rw (over_unpack s (s.ws == 1) s.op_add s.cond_add s.waddr_add s.add_a s.add_b (over unpack_of (mul_part s) 0), over_unpack s (not (s.ws == 1)) s.op_mul s.cond_mul s.waddr_mul s.mul_a s.mul_b 0) at c.unpack)
    none

unpack_by : (used : Bool) (row unpack : ℕ) → (used ≡ true → is_unpack_at row unpack ≡ true) → (used ≡ false → 0 ≡ unpack) → (not (unpack == 0) && (nat_le 32 row || not used)) ≡ false
unpack_by true row unpack some none = let at : is_unpack_at row unpack ≡ true = some refl in grind (arith, nat_tests, at)
unpack_by false row unpack some none = let e : 0 ≡ unpack = none refl in rw (← e) refl

pub unpack_of_units : (s : UnitFields) → ComesBack s → all_sources s → (not (s.unpack == 0) && (nat_le 32 s.raddr_a || not (any_uses s 6))) ≡ false
unpack_of_units s c from = unpack_by (any_uses s 6) s.raddr_a s.unpack from.unpack (no_unpack s c)

-- packing
abbrev is_mode : ℕ → Bool
is_mode pack = (pack == 0) || (between 1 pack 7 || between 9 pack 15)

mode_by : (row : Bool) (pack : ℕ) → row ≡ true
    → (((if row then pack else 0) == 0) || (row && (between 1 (if row then pack else 0) 7 || between 9 (if row then pack else 0) 15))) ≡ true → is_mode pack ≡ true
mode_by true pack is named = named
mode_by false pack is named = absurd (grind (arith, is))

mode_at : (in_b : Bool) (address pack : ℕ) → is_pack_at (target_at_address in_b address) (pack_at (target_at_address in_b address) pack) ≡ true → not in_b ≡ true → nat_lt address 32 ≡ true → is_mode pack ≡ true
mode_at in_b address pack named file row = mode_by (is_row_a (target_at_address in_b address)) pack (row_a_of in_b address ∙ rw (file, row) refl) named

mode_packs : (pack : ℕ) → is_mode pack ≡ true → ((pack == 8) || (not (pack == 0) && false)) ≡ false
mode_packs pack is = grind (arith, nat_tests, is)

zero_packs : (pack : ℕ) → 0 ≡ pack → ((pack == 8) || (not (pack == 0) && true)) ≡ false
zero_packs pack is = rw (← is) refl

packing_by : (ws a ra b rb : Bool) (pack : ℕ) → (if a && (not ws && ra) then pack else if b && (not (not ws) && rb) then pack else 0) ≡ pack
    → (a ≡ true → not ws ≡ true → ra ≡ true → is_mode pack ≡ true) → (b ≡ true → not (not ws) ≡ true → rb ≡ true → is_mode pack ≡ true)
    → ((pack == 8) || (not (pack == 0) && not (if ws then b && rb else a && ra))) ≡ false
packing_by true true ra true true pack is in_a in_b = mode_packs pack (in_b refl refl refl)
packing_by true true ra true false pack is in_a in_b = zero_packs pack is
packing_by true true ra false rb pack is in_a in_b = zero_packs pack is
packing_by true false ra true true pack is in_a in_b = mode_packs pack (in_b refl refl refl)
packing_by true false ra true false pack is in_a in_b = zero_packs pack is
packing_by true false ra false rb pack is in_a in_b = zero_packs pack is
packing_by false true true b rb pack is in_a in_b = mode_packs pack (in_a refl refl refl)
packing_by false true false true rb pack is in_a in_b = zero_packs pack is
packing_by false true false false rb pack is in_a in_b = zero_packs pack is
packing_by false false ra true rb pack is in_a in_b = zero_packs pack is
packing_by false false ra false rb pack is in_a in_b = zero_packs pack is

not_idle : (nothing : Bool) → not nothing ≡ true → nothing ≡ false
not_idle true is = sym is
not_idle false is = refl

pub packing_of_units : (s : UnitFields) → ComesBack s → IsNamedBy s → ((s.pack == 8) || (not (s.pack == 0) && not (packs s))) ≡ false
packing_of_units s c n =
    rw (acts_is s.op_add s.cond_add, acts_is s.op_mul s.cond_mul)
    (packing_by (s.ws == 1) (not (idle s.op_add s.cond_add)) (nat_lt s.waddr_add 32) (not (idle s.op_mul s.cond_mul)) (nat_lt s.waddr_mul 32) s.pack
    (rw (pack_part s (s.ws == 1) s.op_add s.cond_add s.waddr_add s.add_a s.add_b (pack_of (mul_part s) 0), pack_part s (not (s.ws == 1)) s.op_mul s.cond_mul s.waddr_mul s.mul_a s.mul_b 0) at c.pack)
    (λ is file row. mode_at (s.ws == 1) s.waddr_add s.pack (n.add (not_idle _ is)).part.pack file row)
    (λ is file row. mode_at (not (s.ws == 1)) s.waddr_mul s.pack (n.mul (not_idle _ is)).part.pack file row))

-- sources
pub source_of_a : (s : UnitFields) → all_sources s → (any_uses s 6 && (s.raddr_a == 39)) ≡ false
source_of_a s from = used_by (any_uses s 6) s.raddr_a from.a
  where
    used_by : (used : Bool) (address : ℕ) → (used ≡ true → is_source address ≡ true) → (used && (address == 39)) ≡ false
    used_by true address source = source_somewhere address (source refl)
    used_by false address source = refl

pub source_of_b : (s : UnitFields) → all_sources s → (any_uses s 7 && not (s.sig == 13) && (s.raddr_b == 39)) ≡ false
source_of_b s from = used_by (any_uses s 7) (s.sig == 13) s.raddr_b from.b
  where
    used_by : (used small : Bool) (address : ℕ) → (used ≡ true → small ≡ false → is_source address ≡ true) → (used && not small && (address == 39)) ≡ false
    used_by true true address source = refl
    used_by true false address source = source_somewhere address (source refl refl)
    used_by false small address source = refl
