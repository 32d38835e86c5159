-- Words whose fields are alike do the same: they send the same out, and leave the same processor.
use Rattle.std.proofs.Common.{◌≡◌, ℕ, Bool, true, false, List, Option, Some, None, refl, sym, ap, arith, ◌∙◌}
use Rattle.std.specs.Prelude.{◌==◌, ◌||◌, ◌&&◌, not, nat_lt, nat_le, if◌then◌else◌}
use Rattle.std.proofs.lemmas.Bool.Decides.{nat_tests}
use Rattle.qpu_word.specs.declared.word.Fields.{Fields}
use Rattle.qpu_word.specs.declared.traffic.Ins.{Ins}
use Rattle.qpu_word.specs.declared.setup.Book.{Book}
use Rattle.qpu_word.specs.declared.state.Flags.{Flags}
use Rattle.qpu_word.specs.Processor.{ProcessorState}
use Rattle.qpu_word.specs.Words.{is_unit_word, is_load, is_branch, add_active, mul_active, add_writes, mul_writes, writes, writes_a, writes_b, writes_link, swaps_writes}
use Rattle.qpu_word.specs.Lanes.{lane}
use Rattle.qpu_word.specs.Operands.{row_of}
use Rattle.qpu_word.specs.Writing.{rotation, rotated, stored, written, pack_mode}
use Rattle.qpu_word.specs.Instruction.{add_values, add_carries, mul_values, plain_values, write_cond, add_sent, mul_sent, add_stored, mul_stored, put_add, put_mul, put_loaded, flags_of, unit_flags, load_flags, flags_after, is_taken, target_of, branch_fails, rest_after, place_after, halt_after, sent_to, sent_to_a, sent_to_b, first_lane, as_lanes, is_look_address, look_address, outs_from, outs_of, raised_by, registers_after, done}
use Rattle.qpu_word.specs.Canonical.{file_matters}
use Rattle.qpu_word.proofs.UnitFields.{no_immediate, no_branch}
use Rattle.qpu_word.proofs.Alike.{SameFiles, same, apart, SameBranch, Alike}

-- which addresses are written

either : (a b c d : Bool) → a ≡ b → c ≡ d → (a || c) ≡ (b || d)
either a b c d left right = rw (left, right) refl

left_of : (a b : Bool) → (a && b) ≡ true → a ≡ true
left_of true b both = refl
left_of false b both = absurd (cc)

to_same : (acts : Bool) (x y n : ℕ) → (acts ≡ true → x ≡ y) → (acts && (x == n)) ≡ (acts && (y == n))
to_same true x y n equal = rw (equal refl) refl
to_same false x y n equal = refl

add_to_same : (f g : Fields) → Alike f g → (n : ℕ) → (add_writes g && (g.waddr_add == n)) ≡ (add_writes f && (f.waddr_add == n))
add_to_same f g s n = rw s.add (to_same (add_writes f) g.waddr_add f.waddr_add n s.add_to)

mul_to_same : (f g : Fields) → Alike f g → (n : ℕ) → (mul_writes g && (g.waddr_mul == n)) ≡ (mul_writes f && (f.waddr_mul == n))
mul_to_same f g s n = rw s.mul (to_same (mul_writes f) g.waddr_mul f.waddr_mul n s.mul_to)

pub writes_same : (f g : Fields) → Alike f g → (n : ℕ) → writes g n ≡ writes f n
writes_same f g s n = either _ _ _ _ (add_to_same f g s n) (mul_to_same f g s n)

pub link_same : (f g : Fields) → Alike f g → writes_link g ≡ writes_link f
link_same f g s = rw (s.add, s.mul, s.branch) refl

-- an address whose file matters isn't written where no such address is
equal_by : (x n : ℕ) (e : Bool) → (x == n) ≡ e → file_matters x ≡ false → file_matters n ≡ true → e ≡ false
equal_by x n true is far near = let e : x ≡ n = grind (arith, nat_tests, is) in absurd (let both : file_matters x ≡ file_matters n = ap file_matters e in cc)
equal_by x n false is far near = refl

no_write : (acts : Bool) (x n : ℕ) → (acts ≡ true → file_matters x ≡ false) → file_matters n ≡ true → (acts && (x == n)) ≡ false
no_write true x n far near = equal_by x n (x == n) refl (far refl) near
no_write false x n far near = refl

none_of : (first a b : Bool) → a ≡ false → b ≡ false → (if first then a else b) ≡ false
none_of true a b left right = left
none_of false a b left right = right

chosen : (first a b c d : Bool) → a ≡ b → c ≡ d → (if first then a else c) ≡ (if first then b else d)
chosen true a b c d left right = left
chosen false a b c d left right = right

writes_a_by : (f g : Fields) → Alike f g → SameFiles f g → (n : ℕ) → file_matters n ≡ true → writes_a g n ≡ writes_a f n
writes_a_by f g s (same is) n near = rw is (chosen (swaps_writes f) _ _ _ _ (mul_to_same f g s n) (add_to_same f g s n))
writes_a_by f g s (apart is) n near =
    let add : (add_writes f && (f.waddr_add == n)) ≡ false = no_write (add_writes f) f.waddr_add n is.add near in
    let mul : (mul_writes f && (f.waddr_mul == n)) ≡ false = no_write (mul_writes f) f.waddr_mul n is.mul near in
    none_of (swaps_writes g) _ _ (mul_to_same f g s n ∙ mul) (add_to_same f g s n ∙ add) ∙ sym (none_of (swaps_writes f) _ _ mul add)

pub writes_a_same : (f g : Fields) → Alike f g → (n : ℕ) → file_matters n ≡ true → writes_a g n ≡ writes_a f n
writes_a_same f g s n near = writes_a_by f g s s.files n near

writes_b_by : (f g : Fields) → Alike f g → SameFiles f g → (n : ℕ) → file_matters n ≡ true → writes_b g n ≡ writes_b f n
writes_b_by f g s (same is) n near = rw is (chosen (swaps_writes f) _ _ _ _ (add_to_same f g s n) (mul_to_same f g s n))
writes_b_by f g s (apart is) n near =
    let add : (add_writes f && (f.waddr_add == n)) ≡ false = no_write (add_writes f) f.waddr_add n is.add near in
    let mul : (mul_writes f && (f.waddr_mul == n)) ≡ false = no_write (mul_writes f) f.waddr_mul n is.mul near in
    none_of (swaps_writes g) _ _ (add_to_same f g s n ∙ add) (mul_to_same f g s n ∙ mul) ∙ sym (none_of (swaps_writes f) _ _ add mul)

pub writes_b_same : (f g : Fields) → Alike f g → (n : ℕ) → file_matters n ≡ true → writes_b g n ≡ writes_b f n
writes_b_same f g s n near = writes_b_by f g s s.files n near

-- what the units send

active_by : (nowhere acts load cond branch : Bool) → (not nowhere && (acts || (load && cond) || branch)) ≡ true → load ≡ false → branch ≡ false → acts ≡ true
active_by nowhere acts load cond branch is no_load no_branch = grind (arith, is, no_load, no_branch)

plain_by : (nowhere unit op cond load cond' branch : Bool) → (not nowhere && ((unit && op && cond) || (load && cond') || branch)) ≡ true → unit ≡ false → (load || branch) ≡ true
plain_by nowhere unit op cond load cond' branch is none = grind (arith, is, none)

pub load_false : (n : ℕ) (b : Bool) → (n == 14) ≡ false → ((n == 14) && b) ≡ false
load_false n b is = rw is refl

pub no_load : (f : Fields) → is_unit_word f ≡ true → is_load f ≡ false
no_load f unit = load_false f.sig ((f.kind == 0) || (f.kind == 1) || (f.kind == 3)) (no_immediate f.sig unit)

pub add_acts : (f : Fields) → add_writes f ≡ true → is_unit_word f ≡ true → add_active f ≡ true
add_acts f is unit = active_by (f.waddr_add == 39) (add_active f) (is_load f) (not (f.cond_add == 0)) (is_branch f) is (no_load f unit) (no_branch f.sig unit)

pub mul_acts : (f : Fields) → mul_writes f ≡ true → is_unit_word f ≡ true → mul_active f ≡ true
mul_acts f is unit = active_by (f.waddr_mul == 39) (mul_active f) (is_load f) (not (f.cond_mul == 0)) (is_branch f) is (no_load f unit) (no_branch f.sig unit)

add_plain : (f : Fields) → add_writes f ≡ true → is_unit_word f ≡ false → (is_load f || is_branch f) ≡ true
add_plain f is unit = plain_by (f.waddr_add == 39) (is_unit_word f) (not (f.op_add == 0)) (not (f.cond_add == 0)) (is_load f) (not (f.cond_add == 0)) (is_branch f) is unit

mul_plain : (f : Fields) → mul_writes f ≡ true → is_unit_word f ≡ false → (is_load f || is_branch f) ≡ true
mul_plain f is unit = plain_by (f.waddr_mul == 39) (is_unit_word f) (not (f.op_mul == 0)) (not (f.cond_mul == 0)) (is_load f) (not (f.cond_mul == 0)) (is_branch f) is unit

sent_by : (unit : Bool) (x y a b : List ℕ) → (unit ≡ true → x ≡ y) → (unit ≡ false → a ≡ b) → (if unit then x else a) ≡ (if unit then y else b)
sent_by true x y a b left right = left refl
sent_by false x y a b left right = right refl

pub add_sent_same : (f g : Fields) → Alike f g → (p : ProcessorState) (ins : Ins) → add_writes f ≡ true → add_sent g p ins ≡ add_sent f p ins
unfolding add_sent
add_sent_same f g s p ins is =
    rw s.unit
    (sent_by (is_unit_word f) (add_values g p ins) (add_values f p ins) (plain_values g p.place) (plain_values f p.place)
    (λ unit. s.adds (add_acts f is unit) p ins) (λ unit. s.plain (add_plain f is unit) p.place))

turned : (f g : Fields) → Alike f g → (p : ProcessorState) (ins : Ins) → mul_active f ≡ true → rotated (rotation g p) (mul_values g p ins) ≡ rotated (rotation f p) (mul_values f p ins)
turned f g s p ins is = rw (s.turns is p, s.muls is p ins) refl

pub mul_sent_same : (f g : Fields) → Alike f g → (p : ProcessorState) (ins : Ins) → mul_writes f ≡ true → mul_sent g p ins ≡ mul_sent f p ins
unfolding mul_sent
mul_sent_same f g s p ins is =
    rw s.unit
    (sent_by (is_unit_word f) (rotated (rotation g p) (mul_values g p ins)) (rotated (rotation f p) (mul_values f p ins)) (plain_values g p.place) (plain_values f p.place)
    (λ unit. turned f g s p ins (mul_acts f is unit)) (λ unit. s.plain (mul_plain f is unit) p.place))

-- what goes to an address

to_by : (m a : Bool) (mul mul' add add' : List ℕ) → (m ≡ true → mul' ≡ mul) → (a ≡ true → add' ≡ add)
    → ◌≡◌ {A = Option (List ℕ)} (if m then Some mul' else if a then Some add' else None) (if m then Some mul else if a then Some add else None)
to_by true a mul mul' add add' by_mul by_add = rw (by_mul refl) refl
to_by false true mul mul' add add' by_mul by_add = rw (by_add refl) refl
to_by false false mul mul' add add' by_mul by_add = refl

-- two values, which agree where they are written
record AreSent (f : Fields) (add add' mul mul' : List ℕ) : Type 0 where
  adds : add_writes f ≡ true → add' ≡ add
  muls : mul_writes f ≡ true → mul' ≡ mul

sent_same : (f g : Fields) (add add' mul mul' : List ℕ) → Alike f g → AreSent f add add' mul mul' → (n : ℕ) → sent_to g add' mul' n ≡ sent_to f add mul n
unfolding sent_to
sent_same f g add add' mul mul' s v n =
    rw (mul_to_same f g s n, add_to_same f g s n)
    (to_by (mul_writes f && (f.waddr_mul == n)) (add_writes f && (f.waddr_add == n)) mul mul' add add'
    (λ is. v.muls (left_of (mul_writes f) (f.waddr_mul == n) is)) (λ is. v.adds (left_of (add_writes f) (f.waddr_add == n) is)))

file_by : (x m a : Bool) (mul mul' add add' : List ℕ) → (m ≡ true → mul' ≡ mul) → (a ≡ true → add' ≡ add)
    → ◌≡◌ {A = Option (List ℕ)} (if (if x then m else a) then Some (if x then mul' else add') else None) (if (if x then m else a) then Some (if x then mul else add) else None)
file_by true true a mul mul' add add' by_mul by_add = rw (by_mul refl) refl
file_by true false a mul mul' add add' by_mul by_add = refl
file_by false m true mul mul' add add' by_mul by_add = rw (by_add refl) refl
file_by false m false mul mul' add add' by_mul by_add = refl

sent_a_by : (f g : Fields) (add add' mul mul' : List ℕ) → Alike f g → SameFiles f g → AreSent f add add' mul mul' → (n : ℕ) → file_matters n ≡ true → sent_to_a g add' mul' n ≡ sent_to_a f add mul n
unfolding sent_to_a
sent_a_by f g add add' mul mul' s (same is) v n near =
    rw (mul_to_same f g s n, add_to_same f g s n, is)
    (file_by (swaps_writes f) (mul_writes f && (f.waddr_mul == n)) (add_writes f && (f.waddr_add == n)) mul mul' add add'
    (λ is. v.muls (left_of (mul_writes f) (f.waddr_mul == n) is)) (λ is. v.adds (left_of (add_writes f) (f.waddr_add == n) is)))
sent_a_by f g add add' mul mul' s (apart is) v n near =
    let none : writes_a f n ≡ false = none_of (swaps_writes f) _ _ (no_write (mul_writes f) f.waddr_mul n is.mul near) (no_write (add_writes f) f.waddr_add n is.add near) in
    rw (writes_a_by f g s (apart is) n near, none) refl

sent_b_by : (f g : Fields) (add add' mul mul' : List ℕ) → Alike f g → SameFiles f g → AreSent f add add' mul mul' → (n : ℕ) → file_matters n ≡ true → sent_to_b g add' mul' n ≡ sent_to_b f add mul n
unfolding sent_to_b
sent_b_by f g add add' mul mul' s (same is) v n near =
    rw (mul_to_same f g s n, add_to_same f g s n, is)
    (file_by (swaps_writes f) (add_writes f && (f.waddr_add == n)) (mul_writes f && (f.waddr_mul == n)) add add' mul mul'
    (λ is. v.adds (left_of (add_writes f) (f.waddr_add == n) is)) (λ is. v.muls (left_of (mul_writes f) (f.waddr_mul == n) is)))
sent_b_by f g add add' mul mul' s (apart is) v n near =
    let none : writes_b f n ≡ false = none_of (swaps_writes f) _ _ (no_write (add_writes f) f.waddr_add n is.add near) (no_write (mul_writes f) f.waddr_mul n is.mul near) in
    rw (writes_b_by f g s (apart is) n near, none) refl

look_by : (m a : Bool) (x x' y y' : ℕ) → (m ≡ true → x' ≡ x) → (a ≡ true → y' ≡ y)
    → (if m && is_look_address x' then x' else if a && is_look_address y' then y' else 39) ≡ (if m && is_look_address x then x else if a && is_look_address y then y else 39)
look_by true true x x' y y' left right = rw (left refl, right refl) refl
look_by true false x x' y y' left right = rw (left refl) refl
look_by false true x x' y y' left right = rw (right refl) refl
look_by false false x x' y y' left right = refl

pub look_same : (f g : Fields) → Alike f g → look_address g ≡ look_address f
unfolding look_address
look_same f g s = rw (s.mul, s.add) (look_by (mul_writes f) (add_writes f) f.waddr_mul g.waddr_mul f.waddr_add g.waddr_add s.mul_to s.add_to)

outs_from_same : (f g : Fields) (add add' mul mul' : List ℕ) → Alike f g → AreSent f add add' mul mul' → outs_from g add' mul' ≡ outs_from f add mul
unfolding outs_from
outs_from_same f g add add' mul mul' s v =
    let look : sent_to g add' mul' (look_address g) ≡ sent_to f add mul (look_address f) = sent_same f g add add' mul mul' s v (look_address g) ∙ ap (λ n. sent_to f add mul n) (look_same f g s) in
    λ t. record {
      vpm = ap as_lanes (sent_same f g add add' mul mul' s v 48) t;
      to_read_setup = ap first_lane (sent_a_by f g add add' mul mul' s s.files v 49 refl) t;
      to_write_setup = ap first_lane (sent_b_by f g add add' mul mul' s s.files v 49 refl) t;
      uniform_to = ap first_lane (sent_same f g add add' mul mul' s v 40) t;
      load_at = ap first_lane (sent_a_by f g add add' mul mul' s s.files v 50 refl) t;
      store_at = ap first_lane (sent_b_by f g add add' mul mul' s s.files v 50 refl) t;
      look_unit = ap (λ (n : ℕ). if n == 60 then 1 else 0) (look_same f g s) t;
      look = ap as_lanes look t;
    }

pub outs_same : (f g : Fields) → Alike f g → (p : ProcessorState) (ins : Ins) → outs_of g p ins ≡ outs_of f p ins
outs_same f g s p ins =
    outs_from_same f g (add_sent f p ins) (add_sent g p ins) (mul_sent f p ins) (mul_sent g p ins) s
    (record { adds = add_sent_same f g s p ins; muls = mul_sent_same f g s p ins })

-- registers

-- a target of one file and of another leave the same
data IsKept (f g : Fields) (b b' : Bool) (a : ℕ) : Type 0 where
  one : (is : b' ≡ b) → IsKept f g b b' a
  far : (is : file_matters a ≡ false) → (pack : pack_mode g b' ≡ 0) → (own : pack_mode f b ≡ 0) → IsKept f g b b' a

no_row : (a : ℕ) → file_matters a ≡ false → (nat_lt a 32 ≡ false) × ((a == 37) ≡ false)
no_row a is = (grind (arith, nat_tests, is), grind (arith, nat_tests, is))

far_written : (f g : Fields) (b b' low : Bool) (a c : ℕ) (v : List ℕ) (p p0 : ProcessorState) → nat_le a 35 ≡ low → nat_lt a 32 ≡ false → (a == 37) ≡ false → pack_mode g b' ≡ 0 → pack_mode f b ≡ 0
    → written b' a (stored g p b' a c v) p0 ≡ written b a (stored f p b a c v) p0
unfolding written stored
far_written f g b b' true a c v p p0 is above other pack own = rw (is, above, pack, own) refl
far_written f g b b' false a c v p p0 is above other pack own = rw (is, above, other) refl

stored_same : (f g : Fields) (b : Bool) (a c : ℕ) (v : List ℕ) (p : ProcessorState) → ((in_b : Bool) → pack_mode g in_b ≡ pack_mode f in_b) → stored g p b a c v ≡ stored f p b a c v
unfolding stored
stored_same f g b a c v p pack = rw (pack b) refl

written_same : (f g : Fields) (b b' : Bool) (a c : ℕ) (v : List ℕ) (p p0 : ProcessorState) → IsKept f g b b' a → ((in_b : Bool) → pack_mode g in_b ≡ pack_mode f in_b)
    → written b' a (stored g p b' a c v) p0 ≡ written b a (stored f p b a c v) p0
written_same f g b b' a c v p p0 (one is) pack = rw is (ap (λ values. written b a values p0) (stored_same f g b a c v p pack))
written_same f g b b' a c v p p0 (far is none own) pack = far_written f g b b' (nat_le a 35) a c v p p0 refl (no_row a is).0 (no_row a is).1 none own

kept_written : (f g : Fields) (b b' : Bool) (a a' c c' : ℕ) (v v' : List ℕ) (p p0 : ProcessorState) → a' ≡ a → c' ≡ c → v' ≡ v → IsKept f g b b' a → ((in_b : Bool) → pack_mode g in_b ≡ pack_mode f in_b)
    → written b' a' (stored g p b' a' c' v') p0 ≡ written b a (stored f p b a c v) p0
kept_written f g b b' a a' c c' v v' p p0 to cond sent kept pack = rw (to, cond, sent) (written_same f g b b' a c v p p0 kept pack)

add_kept : (f g : Fields) → SameFiles f g → add_writes f ≡ true → IsKept f g (swaps_writes f) (swaps_writes g) f.waddr_add
add_kept f g (same is) writes_it = one is
add_kept f g (apart is) writes_it = far (is.add writes_it) (is.pack (swaps_writes g)) (is.own_pack (swaps_writes f))

mul_kept : (f g : Fields) → SameFiles f g → mul_writes f ≡ true → IsKept f g (not (swaps_writes f)) (not (swaps_writes g)) f.waddr_mul
mul_kept f g (same is) writes_it = one (ap not is)
mul_kept f g (apart is) writes_it = far (is.mul writes_it) (is.pack (not (swaps_writes g))) (is.own_pack (not (swaps_writes f)))

add_written : (f g : Fields) → Alike f g → (p p0 : ProcessorState) (ins : Ins) → add_writes f ≡ true
    → written (swaps_writes g) g.waddr_add (add_stored g p ins) p0 ≡ written (swaps_writes f) f.waddr_add (add_stored f p ins) p0
unfolding add_stored
add_written f g s p p0 ins is =
    kept_written f g (swaps_writes f) (swaps_writes g) f.waddr_add g.waddr_add (write_cond f f.cond_add) (write_cond g g.cond_add) (add_sent f p ins) (add_sent g p ins) p p0
    (s.add_to is) (s.add_cond is) (add_sent_same f g s p ins is) (add_kept f g s.files is) s.pack

mul_written : (f g : Fields) → Alike f g → (p p0 : ProcessorState) (ins : Ins) → mul_writes f ≡ true
    → written (not (swaps_writes g)) g.waddr_mul (mul_stored g p ins) p0 ≡ written (not (swaps_writes f)) f.waddr_mul (mul_stored f p ins) p0
unfolding mul_stored
mul_written f g s p p0 ins is =
    kept_written f g (not (swaps_writes f)) (not (swaps_writes g)) f.waddr_mul g.waddr_mul (write_cond f f.cond_mul) (write_cond g g.cond_mul) (mul_sent f p ins) (mul_sent g p ins) p p0
    (s.mul_to is) (s.mul_cond is) (mul_sent_same f g s p ins is) (mul_kept f g s.files is) s.pack

put_by : (acts : Bool) (x y p : ProcessorState) → (acts ≡ true → x ≡ y) → (if acts then x else p) ≡ (if acts then y else p)
put_by true x y p equal = equal refl
put_by false x y p equal = refl

put_add_same : (f g : Fields) → Alike f g → (p p0 : ProcessorState) (ins : Ins) → put_add g (add_stored g p ins) p0 ≡ put_add f (add_stored f p ins) p0
unfolding put_add
put_add_same f g s p p0 ins =
    rw s.add
    (put_by (add_writes f) (written (swaps_writes g) g.waddr_add (add_stored g p ins) p0) (written (swaps_writes f) f.waddr_add (add_stored f p ins) p0) p0 (add_written f g s p p0 ins))

put_mul_same : (f g : Fields) → Alike f g → (p p0 : ProcessorState) (ins : Ins) → put_mul g (mul_stored g p ins) p0 ≡ put_mul f (mul_stored f p ins) p0
unfolding put_mul
put_mul_same f g s p p0 ins =
    rw s.mul
    (put_by (mul_writes f) (written (not (swaps_writes g)) g.waddr_mul (mul_stored g p ins) p0) (written (not (swaps_writes f)) f.waddr_mul (mul_stored f p ins) p0) p0 (mul_written f g s p p0 ins))

loaded_same : (f g : Fields) → Alike f g → (ins : Ins) (p : ProcessorState) → put_loaded g ins p ≡ put_loaded f ins p
unfolding put_loaded
loaded_same f g s ins p = rw (s.take0, s.take1) refl

pub registers_same : (f g : Fields) → Alike f g → (p : ProcessorState) (ins : Ins) → registers_after g p ins ≡ registers_after f p ins
unfolding registers_after
registers_same f g s p ins =
    rw (put_add_same f g s p p ins) (rw (put_mul_same f g s p (put_add f (add_stored f p ins) p) ins) (loaded_same f g s ins _))

-- flags

unit_flags_by : (set set' add mul : Bool) (flags : Flags) (x x' : List ℕ) (c c' : Option ℕ) (y y' : List ℕ)
    → ((add || mul) ≡ true → set' ≡ set) → (add ≡ true → x' ≡ x) → (add ≡ true → c' ≡ c) → (mul ≡ true → y' ≡ y)
    → (if not set' then flags else if add then flags_of x' c' else if mul then flags_of y' None else flags)
    ≡ (if not set then flags else if add then flags_of x c else if mul then flags_of y None else flags)
unit_flags_by set set' true mul flags x x' c c' y y' sets adds carries muls = rw (sets refl, adds refl, carries refl) refl
unit_flags_by set set' false true flags x x' c c' y y' sets adds carries muls = rw (sets refl, muls refl) refl
unit_flags_by true true false false flags x x' c c' y y' sets adds carries muls = refl
unit_flags_by true false false false flags x x' c c' y y' sets adds carries muls = refl
unit_flags_by false true false false flags x x' c c' y y' sets adds carries muls = refl
unit_flags_by false false false false flags x x' c c' y y' sets adds carries muls = refl

bit_same : (n m : ℕ) → n ≡ m → (n == 1) ≡ (m == 1)
bit_same n m is = rw is refl

unit_flags_same : (f g : Fields) → Alike f g → (p : ProcessorState) (ins : Ins)
    → unit_flags g p.flags (add_values g p ins) (add_carries g p ins) (mul_values g p ins) ≡ unit_flags f p.flags (add_values f p ins) (add_carries f p ins) (mul_values f p ins)
unfolding unit_flags
unit_flags_same f g s p ins =
    rw (s.acts_add, s.acts_mul)
    (unit_flags_by (f.sf == 1) (g.sf == 1) (add_active f) (mul_active f) p.flags (add_values f p ins) (add_values g p ins) (add_carries f p ins) (add_carries g p ins) (mul_values f p ins) (mul_values g p ins)
    (λ is. bit_same g.sf f.sf (s.unit_sets is)) (λ is. s.adds is p ins) (λ is. s.carries is p ins) (λ is. s.muls is p ins))

load_flags_by : (set set' load : Bool) (flags : Flags) (x x' : List ℕ) → (load ≡ true → set' ≡ set) → (load ≡ true → x' ≡ x)
    → (if set' && load then flags_of x' None else flags) ≡ (if set && load then flags_of x None else flags)
load_flags_by set set' true flags x x' sets values = rw (sets refl, values refl) refl
load_flags_by true true false flags x x' sets values = refl
load_flags_by true false false flags x x' sets values = refl
load_flags_by false true false flags x x' sets values = refl
load_flags_by false false false flags x x' sets values = refl

or_true : (a b : Bool) → a ≡ true → (a || b) ≡ true
or_true true b is = refl
or_true false b is = absurd (cc)

load_flags_same : (f g : Fields) → Alike f g → (p : ProcessorState) → load_flags g p.flags (plain_values g p.place) ≡ load_flags f p.flags (plain_values f p.place)
unfolding load_flags
load_flags_same f g s p =
    rw s.load
    (load_flags_by (f.sf == 1) (g.sf == 1) (is_load f) p.flags (plain_values f p.place) (plain_values g p.place)
    (λ is. bit_same g.sf f.sf (s.load_sets is)) (λ is. s.plain (or_true (is_load f) (is_branch f) is) p.place))

pub flags_same : (f g : Fields) → Alike f g → (p : ProcessorState) (ins : Ins) → flags_after g p ins ≡ flags_after f p ins
unfolding flags_after
flags_same f g s p ins = rw (unit_flags_same f g s p ins, load_flags_same f g s p, s.unit) refl

-- control

row_by : (on : Bool) (x y : ℕ) (p : ProcessorState) → (on ≡ true → x ≡ y) → (if on then lane (row_of p.file_a x) 0 else 0) ≡ (if on then lane (row_of p.file_a y) 0 else 0)
row_by true x y p equal = rw (equal refl) refl
row_by false x y p equal = refl

target_same : (f g : Fields) → SameBranch f g → (p : ProcessorState) → target_of g p ≡ target_of f p
unfolding target_of
target_same f g b p = rw (b.immediate, b.rel, b.reg, row_by (f.reg == 1) g.raddr_br f.raddr_br p b.row) refl

taken_by : (f g : Fields) → Alike f g → (branch : Bool) → is_branch f ≡ branch → (p : ProcessorState) → is_taken g p ≡ is_taken f p
taken_by f g s true is p = rw (s.branch, (s.branches is).cond) refl
taken_by f g s false is p = rw (s.branch, is) refl

pub taken_same : (f g : Fields) → Alike f g → (p : ProcessorState) → is_taken g p ≡ is_taken f p
taken_same f g s p = taken_by f g s (is_branch f) refl p

fails_by : (f g : Fields) → Alike f g → (branch : Bool) → is_branch f ≡ branch → (is_link : ℕ → Bool) (p : ProcessorState) → branch_fails is_link g p ≡ branch_fails is_link f p
unfolding branch_fails
fails_by f g s true is is_link p = rw (target_same f g (s.branches is) p, s.branch, (s.branches is).cond, (s.branches is).reg) refl
fails_by f g s false is is_link p = rw (s.branch, is) refl

pub fails_same : (f g : Fields) → Alike f g → (is_link : ℕ → Bool) (p : ProcessorState) → branch_fails is_link g p ≡ branch_fails is_link f p
fails_same f g s is_link p = fails_by f g s (is_branch f) refl is_link p

rest_by : (f g : Fields) → Alike f g → (branch : Bool) → is_branch f ≡ branch → (p : ProcessorState) → rest_after g p ≡ rest_after f p
unfolding rest_after
rest_by f g s true is p = rw (target_same f g (s.branches is) p, s.branch, is, (s.branches is).cond) refl
rest_by f g s false is p = rw (s.branch, s.ends, is) refl

rest_same : (f g : Fields) → Alike f g → (p : ProcessorState) → rest_after g p ≡ rest_after f p
rest_same f g s p = rest_by f g s (is_branch f) refl p

place_same : (f g : Fields) → Alike f g → (p : ProcessorState) → place_after g p ≡ place_after f p
unfolding place_after
place_same f g s p = rw (s.branch, s.ends) refl

halt_same : (f g : Fields) → Alike f g → (p : ProcessorState) → halt_after g p ≡ halt_after f p
unfolding halt_after
halt_same f g s p = rw (s.branch, s.ends) refl

raised_same : (f g : Fields) → Alike f g → raised_by g ≡ raised_by f
raised_same f g s = rw (writes_same f g s 38) refl

-- the whole processor
pub done_same : (f g : Fields) → Alike f g → (p : ProcessorState) (ins : Ins) (book : Book) → done g p ins book ≡ done f p ins book
unfolding done
done_same f g s p ins book = rw (flags_same f g s p ins, place_same f g s p, rest_same f g s p, raised_same f g s, halt_same f g s p, registers_same f g s p ins) refl
