-- An ALU or small immediate word and its canonical word are alike.
use Rattle.std.proofs.Common.{◌≡◌, ℕ, ◌-◌, ◌%◌, Bool, true, false, refl, sym, ap, arith, ◌∙◌}
use Rattle.std.specs.Prelude.{◌==◌, ◌||◌, ◌&&◌, not, nat_lt, nat_le, if◌then◌else◌}
use Rattle.std.proofs.lemmas.Bool.Decides.{nat_tests}
use Rattle.qpu_word.specs.declared.word.Fields.{Fields}
use Rattle.qpu_word.specs.declared.traffic.Ins.{Ins}
use Rattle.qpu_word.specs.declared.fault.WordFault.TheVariants.{Packing, Rotation}
use Rattle.qpu_word.specs.Processor.{ProcessorState}
use Rattle.qpu_word.specs.Lanes.{lanes, lane}
use Rattle.qpu_word.specs.Words.{is_small, is_unit_word, is_load, is_semaphore, is_branch, is_unary, add_active, mul_active, add_writes, mul_writes, add_uses, mul_uses, uses, reads_a, reads_b, swaps_writes, packs_row, bad_packing, has_fault}
use Rattle.qpu_word.specs.Operations.{add_result, add_op, mul_op}
use Rattle.qpu_word.specs.Operands.{row_of, unpacked, read_a, read_b, immediate_of, operand}
use Rattle.qpu_word.specs.Writing.{rotation, pack_mode}
use Rattle.qpu_word.specs.Instruction.{add_lane, mul_lane, add_values, mul_values, carry_mask, add_carries, write_cond}
use Rattle.qpu_word.specs.Canonical.{file_matters}
use Rattle.qpu_word.specs.CanonicalWord.{exchange_matters, code_acts, said_by, address_by, row_by, second_by, canonical_signal, canonical_row_b, canonical_exchange, canonical_units}
use Rattle.qpu_word.proofs.PackedLemmas.{HoldsUnits}
use Rattle.qpu_word.proofs.FaultLemmas.{IsFaultless}
use Rattle.qpu_word.proofs.UnitFields.{ActsAs, unit_signal, no_immediate, no_branch}
use Rattle.qpu_word.proofs.UnitFaults.{code_used, row_matters, unit_packing}
use Rattle.qpu_word.proofs.Alike.{SameFiles, same, apart, is_quiet, Alike}
use Rattle.qpu_word.proofs.SameMeaning.{add_acts, mul_acts, no_load, load_false}

-- signals

signal_test : (small acts : Bool) (sig k : ℕ) → (sig == 13) ≡ small → (1 == k) ≡ false → (k == 13) ≡ false → ((if small && not acts then 1 else sig) == k) ≡ (sig == k)
signal_test true true sig k is one other = refl
signal_test true false sig k is one other = grind (arith, nat_tests, is, one, other)
signal_test false acts sig k is one other = refl

signal_same : (f g : Fields) → HoldsUnits g (canonical_units f) → (k : ℕ) → (1 == k) ≡ false → (k == 13) ≡ false → (g.sig == k) ≡ (f.sig == k)
unfolding canonical_units canonical_signal
signal_same f g h k one other = rw h.sig (signal_test (is_small f) (code_acts f) f.sig k refl one other)

-- reads

row_stands : (near used : Bool) (x n : ℕ) → nat_lt x 32 ≡ near → is_quiet n ≡ false → ((if near && not used then 39 else x) == n) ≡ (x == n)
row_stands true true x n is quiet = refl
row_stands true false x n is quiet = grind (arith, nat_tests, is, quiet)
row_stands false used x n is quiet = refl

a_stands : (f g : Fields) → HoldsUnits g (canonical_units f) → unit_signal g.sig ≡ true → unit_signal f.sig ≡ true → (n : ℕ) → is_quiet n ≡ false → reads_a g n ≡ reads_a f n
unfolding canonical_units
a_stands f g h unit own n quiet = rw (unit, own, h.raddr_a) (row_stands (nat_lt f.raddr_a 32) (uses f 6) f.raddr_a n refl quiet)

abbrev alu_signal : ℕ → Bool
alu_signal n = (n == 1) || (n == 3) || (n == 10) || (n == 11)

b_by : (small acts near used : Bool) (sig b n : ℕ) → (sig == 13) ≡ small → nat_lt b 32 ≡ near → is_quiet n ≡ false
    → (alu_signal (if small && not acts then 1 else sig) && ((if small then (if acts then b else 39) else (if near && not used then 39 else b)) == n)) ≡ (alu_signal sig && (b == n))
b_by true true near used sig b n is row quiet = refl
b_by true false near used sig b n is row quiet = grind (arith, nat_tests, is, quiet)
b_by false acts near used sig b n is row quiet = ap (λ t. alu_signal sig && t) (row_stands near used b n row quiet)

b_stands : (f g : Fields) → HoldsUnits g (canonical_units f) → (n : ℕ) → is_quiet n ≡ false → reads_b g n ≡ reads_b f n
unfolding canonical_units canonical_signal canonical_row_b
b_stands f g h n quiet = rw (h.sig, h.raddr_b) (b_by (is_small f) (code_acts f) (nat_lt f.raddr_b 32) (uses f 7) f.sig f.raddr_b n refl refl quiet)

-- writes

and_false : (a : Bool) → (a && false) ≡ false
and_false true = refl
and_false false = refl

writes_by : (acts : Bool) (address : ℕ) → (not (address_by acts address == 39) && (acts || false || false)) ≡ (not (address == 39) && (acts || false || false))
writes_by true address = refl
writes_by false address = sym (and_false (not (address == 39)))

add_same : (f g : Fields) → HoldsUnits g (canonical_units f) → ActsAs f g → unit_signal f.sig ≡ true → add_writes g ≡ add_writes f
unfolding canonical_units
add_same f g h a own =
    rw (a.add, no_immediate g.sig a.unit, no_branch g.sig a.unit, no_immediate f.sig own, no_branch f.sig own, h.waddr_add) (writes_by (add_active f) f.waddr_add)

mul_same : (f g : Fields) → HoldsUnits g (canonical_units f) → ActsAs f g → unit_signal f.sig ≡ true → mul_writes g ≡ mul_writes f
unfolding canonical_units
mul_same f g h a own =
    rw (a.mul, no_immediate g.sig a.unit, no_branch g.sig a.unit, no_immediate f.sig own, no_branch f.sig own, h.waddr_mul) (writes_by (mul_active f) f.waddr_mul)

pub address_of : (acts : Bool) (n : ℕ) → acts ≡ true → address_by acts n ≡ n
address_of true n is = refl
address_of false n is = absurd (cc)

pub said_of : (acts : Bool) (n : ℕ) → acts ≡ true → said_by acts n ≡ n
said_of true n is = refl
said_of false n is = absurd (cc)

cond_of : (acts nowhere : Bool) (cond : ℕ) → acts ≡ true → nowhere ≡ false → said_by acts (if nowhere then 1 else cond) ≡ cond
cond_of true false cond is somewhere = refl
cond_of true true cond is somewhere = absurd (cc)
cond_of false nowhere cond is somewhere = absurd (cc)

not_there : (a b : Bool) → (not a && b) ≡ true → a ≡ false
not_there false b is = refl
not_there true b is = absurd (cc)

add_address : (f g : Fields) → HoldsUnits g (canonical_units f) → unit_signal f.sig ≡ true → add_writes f ≡ true → g.waddr_add ≡ f.waddr_add
unfolding canonical_units
add_address f g h own is = h.waddr_add ∙ address_of (add_active f) f.waddr_add (add_acts f is own)

mul_address : (f g : Fields) → HoldsUnits g (canonical_units f) → unit_signal f.sig ≡ true → mul_writes f ≡ true → g.waddr_mul ≡ f.waddr_mul
unfolding canonical_units
mul_address f g h own is = h.waddr_mul ∙ address_of (mul_active f) f.waddr_mul (mul_acts f is own)

add_condition : (f g : Fields) → HoldsUnits g (canonical_units f) → ActsAs f g → unit_signal f.sig ≡ true → add_writes f ≡ true → write_cond g g.cond_add ≡ write_cond f f.cond_add
unfolding canonical_units
add_condition f g h a own is =
    rw (no_branch g.sig a.unit, no_branch f.sig own, h.cond_add)
    (cond_of (add_active f) (f.waddr_add == 39) f.cond_add (add_acts f is own) (not_there (f.waddr_add == 39) (add_active f || (is_load f && not (f.cond_add == 0)) || is_branch f) is))

mul_condition : (f g : Fields) → HoldsUnits g (canonical_units f) → ActsAs f g → unit_signal f.sig ≡ true → mul_writes f ≡ true → write_cond g g.cond_mul ≡ write_cond f f.cond_mul
unfolding canonical_units
mul_condition f g h a own is =
    rw (no_branch g.sig a.unit, no_branch f.sig own, h.cond_mul)
    (cond_of (mul_active f) (f.waddr_mul == 39) f.cond_mul (mul_acts f is own) (not_there (f.waddr_mul == 39) (mul_active f || (is_load f && not (f.cond_mul == 0)) || is_branch f) is))

-- files and packing

pub far_left : (acts writes matters rest : Bool) → (((acts || writes) && matters) || rest) ≡ false → writes ≡ true → matters ≡ false
far_left acts writes matters rest none is = grind (arith, none, is)

pub far_right : (first acts writes matters : Bool) → (first || ((acts || writes) && matters)) ≡ false → writes ≡ true → matters ≡ false
far_right first acts writes matters none is = grind (arith, none, is)

packed_by : (mode eighth : Bool) (pack : ℕ) (row rest : Bool) → (mode || eighth || (not (pack == 0) && not row) || rest) ≡ false → row ≡ false → pack ≡ 0
packed_by mode eighth pack row rest none is = grind (arith, nat_tests, none, is)

left_matters : (add writes row a b c rest : Bool) → (add && row) ≡ true → (((add || writes) && (row || a || b || c)) || rest) ≡ true
left_matters add writes row a b c rest is = grind (arith, is)

rows_matter : (exchanged mul add matters : Bool) → (mul ≡ true → matters ≡ true) → (add ≡ true → matters ≡ true) → matters ≡ false → (if exchanged then mul else add) ≡ false
rows_matter true true add matters by_mul by_add none = absurd (let e : matters ≡ true = by_mul refl in cc)
rows_matter true false add matters by_mul by_add none = refl
rows_matter false mul true matters by_mul by_add none = absurd (let e : matters ≡ true = by_add refl in cc)
rows_matter false mul false matters by_mul by_add none = refl

no_row : (f : Fields) → exchange_matters f ≡ false → packs_row f ≡ false
no_row f none =
    rows_matter (swaps_writes f) (mul_active f && nat_lt f.waddr_mul 32) (add_active f && nat_lt f.waddr_add 32) (exchange_matters f)
    (λ is. row_matters ((add_active f || add_writes f) && file_matters f.waddr_add) (mul_active f) (mul_writes f) (nat_lt f.waddr_mul 32) (f.waddr_mul == 37) (f.waddr_mul == 49) (f.waddr_mul == 50) is)
    (λ is. left_matters (add_active f) (add_writes f) (nat_lt f.waddr_add 32) (f.waddr_add == 37) (f.waddr_add == 49) (f.waddr_add == 50) ((mul_active f || mul_writes f) && file_matters f.waddr_mul) is)
    none

no_pack : (f : Fields) → unit_signal f.sig ≡ true → has_fault f Packing ≡ false → exchange_matters f ≡ false → f.pack ≡ 0
unfolding has_fault
no_pack f own packing none =
    packed_by ((f.pm == 1) && not ((f.pack == 0) && (f.unpack == 0))) (f.pack == 8) f.pack (packs_row f) (not (f.unpack == 0) && (nat_le 32 f.raddr_a || not (uses f 6)))
    (unit_packing (is_unit_word f) (bad_packing f) ((f.sig == 14) && not (f.pack == 0)) packing own) (no_row f none)

pub pack_zero : (alone in_b : Bool) (pack : ℕ) → pack ≡ 0 → (if alone || in_b then 0 else pack) ≡ 0
pack_zero true in_b pack is = refl
pack_zero false true pack is = refl
pack_zero false false pack is = is

same_ws : (f g : Fields) → HoldsUnits g (canonical_units f) → exchange_matters f ≡ true → swaps_writes g ≡ swaps_writes f
unfolding canonical_units canonical_exchange
same_ws f g h is = rw (h.ws, said_of (exchange_matters f) f.ws is) refl

pack_same : (f g : Fields) → HoldsUnits g (canonical_units f) → g.pack ≡ f.pack
unfolding canonical_units
pack_same f g h = h.pack

files_by : (f g : Fields) (matters : Bool) → exchange_matters f ≡ matters → HoldsUnits g (canonical_units f) → ActsAs f g → unit_signal f.sig ≡ true → has_fault f Packing ≡ false → SameFiles f g
files_by f g true is h a own packing = same (same_ws f g h is)
files_by f g false is h a own packing =
    let none : f.pack ≡ 0 = no_pack f own packing is in
    apart (record {
      add = far_left (add_active f) (add_writes f) (file_matters f.waddr_add) ((mul_active f || mul_writes f) && file_matters f.waddr_mul) is;
      mul = far_right ((add_active f || add_writes f) && file_matters f.waddr_add) (mul_active f) (mul_writes f) (file_matters f.waddr_mul) is;
      pack = λ in_b. pack_zero (is_branch g) in_b g.pack (pack_same f g h ∙ none);
      own_pack = λ in_b. pack_zero (is_branch f) in_b f.pack none;
    })

modes_same : (f g : Fields) → HoldsUnits g (canonical_units f) → ActsAs f g → unit_signal f.sig ≡ true → (in_b : Bool) → pack_mode g in_b ≡ pack_mode f in_b
modes_same f g h a own in_b = rw (no_branch g.sig a.unit, no_branch f.sig own, pack_same f g h) refl

-- operands

row_used : (near used : Bool) (n : ℕ) → used ≡ true → (if near && not used then 39 else n) ≡ n
row_used true true n is = refl
row_used true false n is = absurd (cc)
row_used false used n is = refl

row_a_same : (f g : Fields) → HoldsUnits g (canonical_units f) → uses f 6 ≡ true → g.raddr_a ≡ f.raddr_a
unfolding canonical_units
row_a_same f g h is = h.raddr_a ∙ row_used (nat_lt f.raddr_a 32) (uses f 6) f.raddr_a is

code_by : (small acts near used : Bool) (b : ℕ) → used ≡ true → (small ≡ true → acts ≡ true)
    → ((small && acts) ≡ small) × ((if small then (if acts then b else 39) else (if near && not used then 39 else b)) ≡ b)
code_by true true near used b is acts_it = (refl, refl)
code_by true false near used b is acts_it = absurd (let e : false ≡ true = acts_it refl in cc)
code_by false acts near used b is acts_it = (refl, row_used near used b is)

code_same : (f g : Fields) → HoldsUnits g (canonical_units f) → ActsAs f g → has_fault f Rotation ≡ false → uses f 7 ≡ true → (is_small g ≡ is_small f) × (g.raddr_b ≡ f.raddr_b)
unfolding canonical_units canonical_row_b
code_same f g h a rotation is =
    let two : ((is_small f && code_acts f) ≡ is_small f) × ((if is_small f then (if code_acts f then f.raddr_b else 39) else (if nat_lt f.raddr_b 32 && not (uses f 7) then 39 else f.raddr_b)) ≡ f.raddr_b) =
    code_by (is_small f) (code_acts f) (nat_lt f.raddr_b 32) (uses f 7) f.raddr_b is (λ small. code_used f rotation small is) in
    (a.small ∙ two.0, h.raddr_b ∙ two.1)

operand_by : (six seven small small' : Bool) (u u' a a' b b' x : ℕ) (p : ProcessorState) (ins : Ins) (i : ℕ) → u' ≡ u → (six ≡ true → a' ≡ a) → (seven ≡ true → (small' ≡ small) × (b' ≡ b))
    → (if six then unpacked u' (read_a p ins a' i) else if seven then (if small' then immediate_of b' else read_b p ins b' i) else x)
    ≡ (if six then unpacked u (read_a p ins a i) else if seven then (if small then immediate_of b else read_b p ins b i) else x)
operand_by true seven small small' u u' a a' b b' x p ins i unpack row code = rw (unpack, row refl) refl
operand_by false true small small' u u' a a' b b' x p ins i unpack row code = rw ((code refl).0, (code refl).1) refl
operand_by false false small small' u u' a a' b b' x p ins i unpack row code = refl

-- the muxes that a unit uses
record AreUsed (f : Fields) (m : ℕ) : Type 0 where
  six : (m == 6) ≡ true → uses f 6 ≡ true
  seven : (m == 7) ≡ true → uses f 7 ≡ true

unpack_same : (f g : Fields) → HoldsUnits g (canonical_units f) → g.unpack ≡ f.unpack
unfolding canonical_units
unpack_same f g h = h.unpack

operand_same : (f g : Fields) → HoldsUnits g (canonical_units f) → ActsAs f g → has_fault f Rotation ≡ false → (m : ℕ) → AreUsed f m → (p : ProcessorState) (ins : Ins) (i : ℕ) → operand g p ins m i ≡ operand f p ins m i
unfolding operand
operand_same f g h a rotation m used p ins i =
    operand_by (m == 6) (m == 7) (is_small f) (is_small g) f.unpack g.unpack f.raddr_a g.raddr_a f.raddr_b g.raddr_b (lane (row_of p.accumulators m) i) p ins i
    (unpack_same f g h) (λ is. row_a_same f g h (used.six is)) (λ is. code_same f g h a rotation (used.seven is))

first_used : (acts first rest other : Bool) → acts ≡ true → first ≡ true → ((acts && (first || rest)) || other) ≡ true
first_used acts first rest other is there = grind (arith, is, there)

second_used : (acts first unary second other : Bool) → acts ≡ true → unary ≡ false → second ≡ true → ((acts && (first || (not unary && second))) || other) ≡ true
second_used acts first unary second other is two there = grind (arith, is, two, there)

mul_first : (add acts first second : Bool) → acts ≡ true → first ≡ true → (add || (acts && (first || second))) ≡ true
mul_first add acts first second is there = grind (arith, is, there)

mul_second : (add acts first second : Bool) → acts ≡ true → second ≡ true → (add || (acts && (first || second))) ≡ true
mul_second add acts first second is there = grind (arith, is, there)

add_first_used : (f : Fields) → add_active f ≡ true → AreUsed f f.add_a
add_first_used f is = record {
  six = first_used (add_active f) (f.add_a == 6) (not (is_unary f.op_add) && (f.add_b == 6)) (mul_uses f 6) is;
  seven = first_used (add_active f) (f.add_a == 7) (not (is_unary f.op_add) && (f.add_b == 7)) (mul_uses f 7) is;
}

add_second_used : (f : Fields) → add_active f ≡ true → is_unary f.op_add ≡ false → AreUsed f f.add_b
add_second_used f is two = record {
  six = second_used (add_active f) (f.add_a == 6) (is_unary f.op_add) (f.add_b == 6) (mul_uses f 6) is two;
  seven = second_used (add_active f) (f.add_a == 7) (is_unary f.op_add) (f.add_b == 7) (mul_uses f 7) is two;
}

mul_first_used : (f : Fields) → mul_active f ≡ true → AreUsed f f.mul_a
mul_first_used f is = record {
  six = mul_first (add_uses f 6) (mul_active f) (f.mul_a == 6) (f.mul_b == 6) is;
  seven = mul_first (add_uses f 7) (mul_active f) (f.mul_a == 7) (f.mul_b == 7) is;
}

mul_second_used : (f : Fields) → mul_active f ≡ true → AreUsed f f.mul_b
mul_second_used f is = record {
  six = mul_second (add_uses f 6) (mul_active f) (f.mul_a == 6) (f.mul_b == 6) is;
  seven = mul_second (add_uses f 7) (mul_active f) (f.mul_a == 7) (f.mul_b == 7) is;
}

-- an operand of a unit, by a mux that is the same
read_same : (f g : Fields) → HoldsUnits g (canonical_units f) → ActsAs f g → has_fault f Rotation ≡ false → (m m' : ℕ) → m' ≡ m → AreUsed f m → (p : ProcessorState) (ins : Ins) (i : ℕ) → operand g p ins m' i ≡ operand f p ins m i
read_same f g h a rotation m m' is used p ins i = ap (λ n. operand g p ins n i) is ∙ operand_same f g h a rotation m used p ins i

-- an operation with one operand gives the same with any second one
unary_by : (is_not is_clz : Bool) (op a b c : ℕ) → (op == 23) ≡ is_not → (op == 24) ≡ is_clz → (is_not || is_clz) ≡ true → add_lane (add_op op) a b ≡ add_lane (add_op op) a c
unfolding add_op add_result
unary_by true is_clz op a b c by_not by_clz some = let e : op ≡ 23 = grind (arith, nat_tests, by_not) in rw e refl
unary_by false true op a b c by_not by_clz some = let e : op ≡ 24 = grind (arith, nat_tests, by_clz) in rw e refl
unary_by false false op a b c by_not by_clz some = absurd (cc)

unary_same : (op a b c : ℕ) → is_unary op ≡ true → add_lane (add_op op) a b ≡ add_lane (add_op op) a c
unary_same op a b c is = unary_by (op == 23) (op == 24) op a b c refl refl is

uncarried_by : (is_not is_clz : Bool) (op : ℕ) (a b a' b' : ℕ → ℕ) → (op == 23) ≡ is_not → (op == 24) ≡ is_clz → (is_not || is_clz) ≡ true → carry_mask (add_op op) a b ≡ carry_mask (add_op op) a' b'
unfolding add_op
uncarried_by true is_clz op a b a' b' by_not by_clz some = let e : op ≡ 23 = grind (arith, nat_tests, by_not) in rw e refl
uncarried_by false true op a b a' b' by_not by_clz some = let e : op ≡ 24 = grind (arith, nat_tests, by_clz) in rw e refl
uncarried_by false false op a b a' b' by_not by_clz some = absurd (cc)

uncarried : (op : ℕ) (a b a' b' : ℕ → ℕ) → is_unary op ≡ true → carry_mask (add_op op) a b ≡ carry_mask (add_op op) a' b'
uncarried op a b a' b' is = uncarried_by (op == 23) (op == 24) op a b a' b' refl refl is

-- values

op_same : (f g : Fields) → HoldsUnits g (canonical_units f) → add_active f ≡ true → g.op_add ≡ f.op_add
unfolding canonical_units
op_same f g h is = h.op_add ∙ said_of (add_active f) f.op_add is

first_same : (f g : Fields) → HoldsUnits g (canonical_units f) → add_active f ≡ true → g.add_a ≡ f.add_a
unfolding canonical_units
first_same f g h is = h.add_a ∙ said_of (add_active f) f.add_a is

second_by_unary : (unary : Bool) (x y : ℕ) → unary ≡ false → (if unary then x else y) ≡ y
second_by_unary false x y is = refl
second_by_unary true x y is = absurd (cc)

second_same : (f g : Fields) → HoldsUnits g (canonical_units f) → add_active f ≡ true → is_unary f.op_add ≡ false → g.add_b ≡ f.add_b
unfolding canonical_units
second_same f g h is two = h.add_b ∙ (said_of (add_active f) (second_by f) is ∙ second_by_unary (is_unary f.op_add) f.add_a f.add_b two)

add_lane_by : (f g : Fields) (unary : Bool) → is_unary f.op_add ≡ unary → HoldsUnits g (canonical_units f) → ActsAs f g → has_fault f Rotation ≡ false → add_active f ≡ true → (p : ProcessorState) (ins : Ins) (i : ℕ)
    → add_lane (add_op g.op_add) (operand g p ins g.add_a i) (operand g p ins g.add_b i) ≡ add_lane (add_op f.op_add) (operand f p ins f.add_a i) (operand f p ins f.add_b i)
add_lane_by f g true unary h a rotation is p ins i =
    ap (λ n. add_lane (add_op n) (operand g p ins g.add_a i) (operand g p ins g.add_b i)) (op_same f g h is)
    ∙ (ap (λ x. add_lane (add_op f.op_add) x (operand g p ins g.add_b i)) (read_same f g h a rotation f.add_a g.add_a (first_same f g h is) (add_first_used f is) p ins i)
    ∙ unary_same f.op_add (operand f p ins f.add_a i) (operand g p ins g.add_b i) (operand f p ins f.add_b i) unary)
add_lane_by f g false unary h a rotation is p ins i =
    ap (λ n. add_lane (add_op n) (operand g p ins g.add_a i) (operand g p ins g.add_b i)) (op_same f g h is)
    ∙ (ap (λ x. add_lane (add_op f.op_add) x (operand g p ins g.add_b i)) (read_same f g h a rotation f.add_a g.add_a (first_same f g h is) (add_first_used f is) p ins i)
    ∙ ap (λ y. add_lane (add_op f.op_add) (operand f p ins f.add_a i) y) (read_same f g h a rotation f.add_b g.add_b (second_same f g h is unary) (add_second_used f is unary) p ins i))

adds_same : (f g : Fields) → HoldsUnits g (canonical_units f) → ActsAs f g → has_fault f Rotation ≡ false → add_active f ≡ true → (p : ProcessorState) (ins : Ins) → add_values g p ins ≡ add_values f p ins
unfolding add_values
adds_same f g h a rotation is p ins = λ t. lanes (λ i. add_lane_by f g (is_unary f.op_add) refl h a rotation is p ins i t)

carries_by : (f g : Fields) (unary : Bool) → is_unary f.op_add ≡ unary → HoldsUnits g (canonical_units f) → ActsAs f g → has_fault f Rotation ≡ false → add_active f ≡ true → (p : ProcessorState) (ins : Ins)
    → add_carries g p ins ≡ add_carries f p ins
unfolding add_carries
carries_by f g true unary h a rotation is p ins =
    ap (λ n. carry_mask (add_op n) (operand g p ins g.add_a) (operand g p ins g.add_b)) (op_same f g h is)
    ∙ uncarried f.op_add (operand g p ins g.add_a) (operand g p ins g.add_b) (operand f p ins f.add_a) (operand f p ins f.add_b) unary
carries_by f g false unary h a rotation is p ins = λ t.
    carry_mask (add_op (op_same f g h is t))
    (λ i. read_same f g h a rotation f.add_a g.add_a (first_same f g h is) (add_first_used f is) p ins i t)
    (λ i. read_same f g h a rotation f.add_b g.add_b (second_same f g h is unary) (add_second_used f is unary) p ins i t)

mul_op_same : (f g : Fields) → HoldsUnits g (canonical_units f) → mul_active f ≡ true → g.op_mul ≡ f.op_mul
unfolding canonical_units
mul_op_same f g h is = h.op_mul ∙ said_of (mul_active f) f.op_mul is

mul_first_same : (f g : Fields) → HoldsUnits g (canonical_units f) → mul_active f ≡ true → g.mul_a ≡ f.mul_a
unfolding canonical_units
mul_first_same f g h is = h.mul_a ∙ said_of (mul_active f) f.mul_a is

mul_second_same : (f g : Fields) → HoldsUnits g (canonical_units f) → mul_active f ≡ true → g.mul_b ≡ f.mul_b
unfolding canonical_units
mul_second_same f g h is = h.mul_b ∙ said_of (mul_active f) f.mul_b is

muls_same : (f g : Fields) → HoldsUnits g (canonical_units f) → ActsAs f g → has_fault f Rotation ≡ false → mul_active f ≡ true → (p : ProcessorState) (ins : Ins) → mul_values g p ins ≡ mul_values f p ins
unfolding mul_values
muls_same f g h a rotation is p ins = λ t. lanes (λ i.
    mul_lane (mul_op (mul_op_same f g h is t))
    (read_same f g h a rotation f.mul_a g.mul_a (mul_first_same f g h is) (mul_first_used f is) p ins i t)
    (read_same f g h a rotation f.mul_b g.mul_b (mul_second_same f g h is) (mul_second_used f is) p ins i t))

-- rotation
turn_by : (small acts near used mul : Bool) (b r : ℕ) (p : ProcessorState) → nat_lt b 48 ≡ near → (if near then used else mul) ≡ acts → mul ≡ true
    → (if small && acts then
    (if nat_lt (if small then (if acts then b else 39) else r) 48 then 0
    else if (if small then (if acts then b else 39) else r) == 48 then lane (row_of p.accumulators 5) 0 % 16
    else (if small then (if acts then b else 39) else r) - 48) else 0)
    ≡ (if small then (if nat_lt b 48 then 0 else if b == 48 then lane (row_of p.accumulators 5) 0 % 16 else b - 48) else 0)
turn_by true true near used mul b r p is acts_it acts_mul = refl
turn_by true false true used mul b r p is acts_it acts_mul = rw is refl
turn_by true false false used mul b r p is acts_it acts_mul = absurd (cc)
turn_by false acts near used mul b r p is acts_it acts_mul = refl

turns_same : (f g : Fields) → HoldsUnits g (canonical_units f) → ActsAs f g → mul_active f ≡ true → (p : ProcessorState) → rotation g p ≡ rotation f p
unfolding rotation canonical_units canonical_row_b
turns_same f g h a is p =
    rw (a.small, h.raddr_b) (turn_by (is_small f) (code_acts f) (nat_lt f.raddr_b 48) (uses f 7) (mul_active f) f.raddr_b (row_by (uses f 7) f.raddr_b) p refl refl is)

-- flags
sets_same : (f g : Fields) → HoldsUnits g (canonical_units f) → (add_active f || mul_active f) ≡ true → g.sf ≡ f.sf
unfolding canonical_units
sets_same f g h is = h.sf ∙ said_of (add_active f || mul_active f) f.sf is

neither : (a b : Bool) → a ≡ false → b ≡ false → (a || b) ≡ false
neither a b left right = rw (left, right) refl

pub both_false : (a b : Bool) → a ≡ false → b ≡ false → a ≡ b
both_false a b left right = left ∙ sym right

-- the whole
pub units_alike : (f g : Fields) → HoldsUnits g (canonical_units f) → ActsAs f g → unit_signal f.sig ≡ true → IsFaultless f → Alike f g
units_alike f g h a own n =
    let load : is_load f ≡ false = no_load f own in
    let branch : is_branch f ≡ false = no_branch f.sig own in
    let semaphore : is_semaphore f ≡ false = load_false f.sig (f.kind == 4) (no_immediate f.sig own) in
    record {
      unit = a.unit ∙ sym own;
      load = both_false (is_load g) (is_load f) (no_load g a.unit) load;
      semaphore = both_false (is_semaphore g) (is_semaphore f) (load_false g.sig (g.kind == 4) (no_immediate g.sig a.unit)) semaphore;
      branch = both_false (is_branch g) (is_branch f) (no_branch g.sig a.unit) branch;
      ends = signal_same f g h 3 refl refl;
      take0 = signal_same f g h 10 refl refl;
      take1 = signal_same f g h 11 refl refl;
      stands_a = a_stands f g h a.unit own;
      stands_b = b_stands f g h;
      acts_add = a.add;
      acts_mul = a.mul;
      add = add_same f g h a own;
      mul = mul_same f g h a own;
      add_to = add_address f g h own;
      mul_to = mul_address f g h own;
      files = files_by f g (exchange_matters f) refl h a own n.packing;
      pack = modes_same f g h a own;
      add_cond = add_condition f g h a own;
      mul_cond = mul_condition f g h a own;
      adds = adds_same f g h a n.rotation;
      carries = carries_by f g (is_unary f.op_add) refl h a n.rotation;
      muls = muls_same f g h a n.rotation;
      turns = turns_same f g h a;
      plain = λ is. absurd (let none : (is_load f || is_branch f) ≡ false = neither (is_load f) (is_branch f) load branch in cc);
      unit_sets = sets_same f g h;
      load_sets = λ is. absurd (cc);
      branches = λ is. absurd (cc);
      down = λ is. absurd (cc);
      number = λ is. absurd (cc);
    }
