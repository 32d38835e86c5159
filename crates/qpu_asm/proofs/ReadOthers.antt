-- What symbols spell behind the units is read: a signal and other reads, in any order.
use Rattle.std.proofs.Common.{◌≡◌, ℕ, ◌+◌, Bool, true, false, List, [], ◌∷◌, ◌++◌, fold, Option, Some, None, refl, sym, subst, ap, ◌∙◌, arith}
use Rattle.std.proofs.lemmas.Bool.Decides.{nat_tests}
use Rattle.std.specs.Prelude.{◌&&◌, ◌||◌, ◌%◌, not, nat_lt, nat_le}
use Rattle.std.specs.List.{list_any}
use Rattle.std.specs.Option.{option_or}
use Rattle.qpu_token.specs.declared.token.Token.{Token}
use Rattle.qpu_word.specs.declared.name.Place.{Place}
use Rattle.qpu_line.specs.declared.operand.Operand.{Operand}
use Rattle.qpu_line.specs.declared.operand.Operand.TheVariants as operand
use Rattle.qpu_line.specs.declared.units.Signal.{Signal}
use Rattle.qpu_line.specs.declared.units.Signal.TheVariants as signal
use Rattle.qpu_line.specs.declared.name.Name.{Name}
use Rattle.qpu_line.specs.declared.name.Name.TheVariants as name
use Rattle.qpu_line.specs.declared.name.Register.TheVariants as register
use Rattle.qpu_line.specs.declared.symbol.Symbol.{Symbol}
use Rattle.qpu_line.specs.declared.symbol.Symbol.TheVariants as symbol
use Rattle.qpu_asm.specs.declared.piece.Core.TheVariants as core
use Rattle.qpu_asm.specs.declared.piece.Piece.{Piece}
use Rattle.qpu_asm.specs.declared.part.UnitPart.{UnitPart}
use Rattle.qpu_asm.specs.declared.part.Part.{Part}
use Rattle.qpu_asm.specs.declared.part.Part.TheVariants as part
use Rattle.qpu_asm.specs.declared.mark.What.TheVariants as what
use Rattle.qpu_asm.specs.declared.mark.Mark.{Mark}
use Rattle.qpu_asm.specs.Roles.{source_of}
use Rattle.qpu_asm.specs.reader.Pieces.{bare}
use Rattle.qpu_asm.specs.reader.Orders.{is_unit, is_signal, is_rotation, is_read_a, is_read_b, extra}
use Rattle.qpu_asm.specs.SectionTokens.{SectionTokens}
use Rattle.qpu_asm.specs.reader.Marks.{mark, rotation_marks, other_a, other_b, part_marks}
use Rattle.qpu_asm.specs.reader.Meanings.{rotation_of, address_a, address_b, address_of_source, signal_in, other_a_part, other_b_part, first_told, mul_in}
use Rattle.qpu_asm.specs.SpelledPieces.{name_alone}
use Rattle.qpu_asm.specs.Spells.{SpellsSignal, SpellsOthers}
use Rattle.qpu_asm.specs.Spells.SpellsSignal.{end, load0, load1, rotate, by_r5}
use Rattle.qpu_asm.specs.Spells.SpellsOthers.{none as others_none, signals, reads_a, reads_b}
use Rattle.qpu_asm.proofs.AgainSections.{Plain, AllPlain, AllBegin, Begins, AreSections, Reads}
use Rattle.qpu_asm.proofs.AgainForms.{due_behind, last_word}
use Rattle.qpu_asm.proofs.AgainMarks.{Given, Clean, clean_mark}
use Rattle.qpu_asm.proofs.AgainBoth.{head_part, head_extra, turn_marks, end_step, load0_step, load1_step, rotate_step, a_step, b_step}
use Rattle.qpu_asm.proofs.SpellsTags.{any_left}
use Rattle.qpu_asm.proofs.ReadParts.{IsSection, section_read, number_plain, last_number, last_named}

-- signals

abbrev pub IsSignalPart : Signal → Part → Type 0
IsSignalPart signal.Nothing p = ⊥
IsSignalPart (signal.Rotate code) p = (t : Token) × (q : Piece) × (p ≡ part.Rotate t q) × (rotation_of q.core ≡ code) × ((ms : List Mark) → rotation_marks q ms ≡ ms)
IsSignalPart s p = (t : Token) × (p ≡ part.Signal s t)

abbrev pub FreeSignal : List Part → Signal → Type 0
FreeSignal done signal.Nothing = Unit {0}
FreeSignal done (signal.Rotate code) = (list_any is_unit done ≡ true) × (list_any is_rotation done ≡ false)
FreeSignal done s = list_any is_signal done ≡ false

-- a section that may stand behind parts where they leave it free
record OtherSection (P : Part → Type 0) (free : List Part → Type 0) (ys : List Symbol) : Type 0 where
  section : IsSection P ys
  may : (done : List Part) → free done → extra done section.n ≡ true

pub not_false : (b : Bool) → b ≡ false → not b ≡ true
not_false b e = rw e refl

both_hold : (a b : Bool) → a ≡ true → b ≡ false → (a && not b) ≡ true
both_hold a b e f = rw (e, f) refl

small_turn : (n : ℕ) → (nat_le 1 n && nat_le n 15) ≡ true → 48 + n % 16 ≡ 48 + n
small_turn n e = let low : nat_lt n 16 ≡ true = grind (arith, nat_tests, e) in by_low n low
  where
    by_low : (n : ℕ) → nat_lt n 16 ≡ true → 48 + n % 16 ≡ 48 + n
    by_low n low = grind (arith, nat_tests, low)

signal_section : (x : List Symbol) (s : Signal) → SpellsSignal x s → OtherSection (IsSignalPart s) (λ done. FreeSignal done s) x
signal_section x s end = record {
  section = record { n = name.End; h = []; is = refl; plain = tt; mnemonic = refl; reads = λ token last rest h. (part.Signal signal.End token, end_step token last rest h, (token, refl)) };
  may = λ done free. not_false (list_any is_signal done) free;
}
signal_section x s load0 = record {
  section = record { n = name.Load0; h = []; is = refl; plain = tt; mnemonic = refl; reads = λ token last rest h. (part.Signal signal.Load0 token, load0_step token last rest h, (token, refl)) };
  may = λ done free. not_false (list_any is_signal done) free;
}
signal_section x s load1 = record {
  section = record { n = name.Load1; h = []; is = refl; plain = tt; mnemonic = refl; reads = λ token last rest h. (part.Signal signal.Load1 token, load1_step token last rest h, (token, refl)) };
  may = λ done free. not_false (list_any is_signal done) free;
}
signal_section x s (rotate {x = y} {n = n} spells low) = record {
  section = record {
    n = name.Rotate;
    h = y;
    is = refl;
    plain = number_plain y n spells;
    mnemonic = refl;
    reads = λ token last rest h.
        (let r = last_number last y n rest spells h in
        (part.Rotate token (bare (core.Number n) r.0), rotate_step token last rest (bare (core.Number n) r.0) r.1, (token, bare (core.Number n) r.0, refl, small_turn n low, λ ms. turn_marks n r.0 ms low)));
  };
  may = λ done free. both_hold (list_any is_unit done) (list_any is_rotation done) free.0 free.1;
}
signal_section x s by_r5 = record {
  section = record {
    n = name.Rotate;
    h = name_alone (name.Register (register.Accumulator 5));
    is = refl;
    plain = (refl, tt);
    mnemonic = refl;
    reads = λ token last rest h.
        (let r = last_word last (name.Register (register.Accumulator 5)) rest h in
        let q = bare (core.Name (name.Register (register.Accumulator 5))) r.0 in
        (part.Rotate token q, rotate_step token last rest q r.1, (token, q, refl, refl, λ ms. refl)));
  };
  may = λ done free. both_hold (list_any is_unit done) (list_any is_rotation done) free.0 free.1;
}

-- other reads

abbrev pub IsReadA : ℕ → Part → Type 0
IsReadA n p = (m : Name) × (t : Token) × (p ≡ part.ReadA (bare (core.Name m) t)) × (source_of m ≡ Some (operand.FileA n 0)) × (nat_lt n 32 ≡ false)

abbrev pub IsReadB : ℕ → Part → Type 0
IsReadB n p = (m : Name) × (t : Token) × (p ≡ part.ReadB (bare (core.Name m) t)) × (source_of m ≡ Some (operand.FileB n)) × (nat_lt n 32 ≡ false)

far_row : (n : ℕ) → nat_le 32 n ≡ true → nat_lt n 32 ≡ false
far_row n e = grind (arith, nat_tests, e)

a_section : (m : Name) (n : ℕ) → source_of m ≡ Some (operand.FileA n 0) → nat_le 32 n ≡ true → OtherSection (IsReadA n) (λ done. list_any is_read_a done ≡ false) (symbol.Name name.ReadA ∷ name_alone m)
a_section m n e far = record {
  section = record {
    n = name.ReadA;
    h = name_alone m;
    is = refl;
    plain = (refl, tt);
    mnemonic = refl;
    reads = λ token last rest h.
        (let r = last_named last m rest h in
        (part.ReadA (bare (core.Name m) r.0), a_step token last rest (bare (core.Name m) r.0) r.1, (m, r.0, refl, e, far_row n far)));
  };
  may = λ done free. not_false (list_any is_read_a done) free;
}

b_section : (m : Name) (n : ℕ) → source_of m ≡ Some (operand.FileB n) → nat_le 32 n ≡ true → OtherSection (IsReadB n) (λ done. list_any is_read_b done ≡ false) (symbol.Name name.ReadB ∷ name_alone m)
b_section m n e far = record {
  section = record {
    n = name.ReadB;
    h = name_alone m;
    is = refl;
    plain = (refl, tt);
    mnemonic = refl;
    reads = λ token last rest h.
        (let r = last_named last m rest h in
        (part.ReadB (bare (core.Name m) r.0), b_step token last rest (bare (core.Name m) r.0) r.1, (m, r.0, refl, e, far_row n far)));
  };
  may = λ done free. not_false (list_any is_read_b done) free;
}

-- the parts behind the units

pub data AreOthers : List Part → Signal → Option ℕ → Option ℕ → Type 0 where
  none : AreOthers [] signal.Nothing None None
  signalled : {p : Part} {ps : List Part} {s : Signal} {a b : Option ℕ} → IsSignalPart s p → AreOthers ps signal.Nothing a b → AreOthers (p ∷ ps) s a b
  a_read : {p : Part} {ps : List Part} {s : Signal} {n : ℕ} {b : Option ℕ} → IsReadA n p → AreOthers ps s None b → AreOthers (p ∷ ps) s (Some n) b
  b_read : {p : Part} {ps : List Part} {s : Signal} {n : ℕ} {a : Option ℕ} → IsReadB n p → AreOthers ps s a None → AreOthers (p ∷ ps) s a (Some n)

abbrev pub FreeRead : (Part → Bool) → List Part → Option ℕ → Type 0
FreeRead kind done None = Unit {0}
FreeRead kind done (Some n) = list_any kind done ≡ false

pub any_more : (kind : Part → Bool) (done : List Part) (p : Part) → list_any kind done ≡ false → kind p ≡ false → list_any kind (done ++ p ∷ []) ≡ false
any_more kind [] p e f = rw f refl
any_more kind (q ∷ done) p e f = by_head (kind q) e (λ g. any_more kind done p g f)
  where
    by_head : (b : Bool) → (b || list_any kind done) ≡ false → (list_any kind done ≡ false → list_any kind (done ++ p ∷ []) ≡ false) → (b || list_any kind (done ++ p ∷ [])) ≡ false
    by_head true e more = absurd (grind (arith, e))
    by_head false e more = more e

free_read : (kind : Part → Bool) (done : List Part) (p : Part) (o : Option ℕ) → FreeRead kind done o → kind p ≡ false → FreeRead kind (done ++ p ∷ []) o
free_read kind done p None free e = tt
free_read kind done p (Some n) free e = any_more kind done p free e

free_signal : (done : List Part) (p : Part) (s : Signal) → FreeSignal done s → is_signal p ≡ false → is_rotation p ≡ false → FreeSignal (done ++ p ∷ []) s
free_signal done p signal.Nothing free e f = tt
free_signal done p signal.End free e f = any_more is_signal done p free e
free_signal done p signal.Load0 free e f = any_more is_signal done p free e
free_signal done p signal.Load1 free e f = any_more is_signal done p free e
free_signal done p (signal.Rotate code) free e f = (any_left is_unit done p free.0, any_more is_rotation done p free.1 f)

signal_kind : (s : Signal) (p : Part) → IsSignalPart s p → (is_read_a p ≡ false) × (is_read_b p ≡ false)
signal_kind signal.Nothing p is = absurd is
signal_kind signal.End p is = rw is.1 (refl, refl)
signal_kind signal.Load0 p is = rw is.1 (refl, refl)
signal_kind signal.Load1 p is = rw is.1 (refl, refl)
signal_kind (signal.Rotate code) p is = rw is.2 (refl, refl)

pub record OthersRead (f : Option UnitPart) (done : List Part) (ts : List SectionTokens) (s : Signal) (a b : Option ℕ) : Type 0 where
  pub parts : List Part
  pub reads : Reads (head_part f ∷ done) ts parts
  pub are : AreOthers parts s a b

pub others_read : (f : Option UnitPart) (xs : List (List Symbol)) (s : Signal) (a b : Option ℕ) (done : List Part) (ts : List SectionTokens) → SpellsOthers xs s a b
    → FreeSignal done s → FreeRead is_read_a done a → FreeRead is_read_b done b → AreSections xs ts → OthersRead f done ts s a b
others_read f xs s a b done [] others_none free free_a free_b are = record { parts = []; reads = tt; are = none }
others_read f xs s a b done (t ∷ ts) others_none free free_a free_b are = absurd are
others_read f xs s a b done [] (signals {x = x} {xs = ys} spells more) free free_a free_b are = absurd are
others_read f xs s a b done (t ∷ ts) (signals {x = x} {xs = ys} spells more) free free_a free_b are =
    let o = signal_section x s spells in
    let r = section_read (IsSignalPart s) x o.section (head_part f ∷ done) t are.0 (due_behind (head_part f) done o.section.n (head_extra f done o.section.n (o.may done free))) in
    let kind = signal_kind s r.0 r.2 in
    let l = others_read f ys signal.Nothing a b (done ++ r.0 ∷ []) ts more tt (free_read is_read_a done r.0 a free_a kind.0) (free_read is_read_b done r.0 b free_b kind.1) are.1 in
    record { parts = r.0 ∷ l.parts; reads = (r.1, l.reads); are = signalled r.2 l.are }
others_read f xs s a b done [] (reads_a {n = m} {xs = ys} {address = n} e far more) free free_a free_b are = absurd are
others_read f xs s a b done (t ∷ ts) (reads_a {n = m} {xs = ys} {address = n} e far more) free free_a free_b are =
    let o = a_section m n e far in
    let r = section_read (IsReadA n) (symbol.Name name.ReadA ∷ name_alone m) o.section (head_part f ∷ done) t are.0 (due_behind (head_part f) done o.section.n (head_extra f done o.section.n (o.may done free_a))) in
    let l = others_read f ys s None b (done ++ r.0 ∷ []) ts more (free_signal done r.0 s free (rw r.2.2 refl) (rw r.2.2 refl)) tt (free_read is_read_b done r.0 b free_b (rw r.2.2 refl)) are.1 in
    record { parts = r.0 ∷ l.parts; reads = (r.1, l.reads); are = a_read r.2 l.are }
others_read f xs s a b done [] (reads_b {n = m} {xs = ys} {address = n} e far more) free free_a free_b are = absurd are
others_read f xs s a b done (t ∷ ts) (reads_b {n = m} {xs = ys} {address = n} e far more) free free_a free_b are =
    let o = b_section m n e far in
    let r = section_read (IsReadB n) (symbol.Name name.ReadB ∷ name_alone m) o.section (head_part f ∷ done) t are.0 (due_behind (head_part f) done o.section.n (head_extra f done o.section.n (o.may done free_b))) in
    let l = others_read f ys s a None (done ++ r.0 ∷ []) ts more (free_signal done r.0 s free (rw r.2.2 refl) (rw r.2.2 refl)) (free_read is_read_a done r.0 a free_a (rw r.2.2 refl)) tt are.1 in
    record { parts = r.0 ∷ l.parts; reads = (r.1, l.reads); are = b_read r.2 l.are }

-- what they mean

told_signal : (s : Signal) (p : Part) (ps : List Part) → IsSignalPart s p → signal_in (p ∷ ps) ≡ s
told_signal signal.Nothing p ps is = absurd is
told_signal signal.End p ps is = rw is.1 refl
told_signal signal.Load0 p ps is = rw is.1 refl
told_signal signal.Load1 p ps is = rw is.1 refl
told_signal (signal.Rotate code) p ps is = rw is.2 (ap (λ k. signal.Rotate k) is.3)

signal_tells : (s : Signal) (p : Part) (ps : List Part) → IsSignalPart s p
    → (first_told other_a_part (p ∷ ps) ≡ first_told other_a_part ps) × (first_told other_b_part (p ∷ ps) ≡ first_told other_b_part ps) × (mul_in (p ∷ ps) ≡ None)
signal_tells signal.Nothing p ps is = absurd is
signal_tells signal.End p ps is = rw is.1 (refl, refl, refl)
signal_tells signal.Load0 p ps is = rw is.1 (refl, refl, refl)
signal_tells signal.Load1 p ps is = rw is.1 (refl, refl, refl)
signal_tells (signal.Rotate code) p ps is = rw is.2 (refl, refl, refl)

pub record OthersMean (ps : List Part) (s : Signal) (a b : Option ℕ) : Type 0 where
  pub told : signal_in ps ≡ s
  pub told_a : first_told other_a_part ps ≡ a
  pub told_b : first_told other_b_part ps ≡ b
  pub alone : mul_in ps ≡ None

a_means : (n : ℕ) (p : Part) (ps : List Part) (s : Signal) (b : Option ℕ) → IsReadA n p → OthersMean ps s None b → OthersMean (p ∷ ps) s (Some n) b
a_means n p ps s b is m =
    let P : Part → Type 0 = λ z. OthersMean (z ∷ ps) s (Some n) b in
    subst P (sym is.2) (record { told = m.told; told_a = first (source_of is.0) is.3; told_b = m.told_b; alone = refl })
  where
    first : (o : Option Operand) → o ≡ Some (operand.FileA n 0) → option_or (address_of_source address_a o) (first_told other_a_part ps) ≡ Some n
    first o e = rw e refl

b_means : (n : ℕ) (p : Part) (ps : List Part) (s : Signal) (a : Option ℕ) → IsReadB n p → OthersMean ps s a None → OthersMean (p ∷ ps) s a (Some n)
b_means n p ps s a is m =
    let P : Part → Type 0 = λ z. OthersMean (z ∷ ps) s a (Some n) in
    subst P (sym is.2) (record { told = m.told; told_a = m.told_a; told_b = first (source_of is.0) is.3; alone = refl })
  where
    first : (o : Option Operand) → o ≡ Some (operand.FileB n) → option_or (address_of_source address_b o) (first_told other_b_part ps) ≡ Some n
    first o e = rw e refl

pub others_mean : (ps : List Part) (s : Signal) (a b : Option ℕ) → AreOthers ps s a b → OthersMean ps s a b
others_mean ps s a b none = record { told = refl; told_a = refl; told_b = refl; alone = refl }
others_mean ps s a b (signalled {p = p} {ps = qs} is more) =
    let m = others_mean qs signal.Nothing a b more in
    let t = signal_tells s p qs is in
    record { told = told_signal s p qs is; told_a = t.0 ∙ m.told_a; told_b = t.1 ∙ m.told_b; alone = t.2 }
others_mean ps s a b (a_read {p = p} {ps = qs} {n = n} is more) = a_means n p qs s b is (others_mean qs s None b more)
others_mean ps s a b (b_read {p = p} {ps = qs} {n = n} is more) = b_means n p qs s a is (others_mean qs s a None more)

-- what they mark

abbrev pub FitsSignal : Given → Signal → Type 0
FitsSignal g signal.Nothing = Unit {0}
FitsSignal g (signal.Rotate code) = (g.small ≡ true) × (g.turns ≡ true)
FitsSignal g s = g.small ≡ false

abbrev pub FitsA : Given → Option ℕ → Type 0
FitsA g None = Unit {0}
FitsA g (Some n) = g.a ≡ n

abbrev pub FitsB : Given → Option ℕ → Type 0
FitsB g None = Unit {0}
FitsB g (Some n) = (g.b ≡ n) × (g.small ≡ false)

signal_clean : (W : Place → Type 0) (g : Given) (s : Signal) (p : Part) (ms : List Mark) → IsSignalPart s p → FitsSignal g s → Clean W g ms → Clean W g (part_marks true ms p)
unfolding part_marks
signal_clean W g signal.Nothing p ms is fits c = absurd is
signal_clean W g signal.End p ms is fits c = rw is.1 (clean_mark W g what.Signals is.0 ms fits c)
signal_clean W g signal.Load0 p ms is fits c = rw is.1 (clean_mark W g what.Signals is.0 ms fits c)
signal_clean W g signal.Load1 p ms is fits c = rw is.1 (clean_mark W g what.Signals is.0 ms fits c)
signal_clean W g (signal.Rotate code) p ms is fits c = rw (is.2, is.4 (mark what.Rotates is.0 ms)) (clean_mark W g what.Rotates is.0 ms fits c)

a_marked : (o : Option Operand) (n : ℕ) (t : Token) (ms : List Mark) → o ≡ Some (operand.FileA n 0) → nat_lt n 32 ≡ false → other_a o t ms ≡ mark (what.ReadsA n) t ms
a_marked o n t ms e f = rw (e, f) refl

b_marked : (o : Option Operand) (n : ℕ) (t : Token) (ms : List Mark) → o ≡ Some (operand.FileB n) → nat_lt n 32 ≡ false → other_b o t ms ≡ mark (what.ReadsB n) t ms
b_marked o n t ms e f = rw (e, f) refl

a_clean : (W : Place → Type 0) (g : Given) (n : ℕ) (p : Part) (ms : List Mark) → IsReadA n p → g.a ≡ n → Clean W g ms → Clean W g (part_marks true ms p)
unfolding part_marks
a_clean W g n p ms is fits c = rw (is.2, a_marked (source_of is.0) n is.1 ms is.3 is.4) (clean_mark W g (what.ReadsA n) is.1 ms fits c)

b_clean : (W : Place → Type 0) (g : Given) (n : ℕ) (p : Part) (ms : List Mark) → IsReadB n p → (g.b ≡ n) × (g.small ≡ false) → Clean W g ms → Clean W g (part_marks true ms p)
unfolding part_marks
b_clean W g n p ms is fits c = rw (is.2, b_marked (source_of is.0) n is.1 ms is.3 is.4) (clean_mark W g (what.ReadsB n) is.1 ms fits c)

pub others_clean : (W : Place → Type 0) (g : Given) (ps : List Part) (s : Signal) (a b : Option ℕ) (ms : List Mark) → AreOthers ps s a b → FitsSignal g s → FitsA g a → FitsB g b → Clean W g ms
    → Clean W g (fold (part_marks true) ms ps)
others_clean W g ps s a b ms none fits fits_a fits_b c = c
others_clean W g ps s a b ms (signalled {p = p} {ps = qs} is more) fits fits_a fits_b c =
    others_clean W g qs signal.Nothing a b (part_marks true ms p) more tt fits_a fits_b (signal_clean W g s p ms is fits c)
others_clean W g ps s a b ms (a_read {p = p} {ps = qs} {n = n} is more) fits fits_a fits_b c =
    others_clean W g qs s None b (part_marks true ms p) more fits tt fits_b (a_clean W g n p ms is fits_a c)
others_clean W g ps s a b ms (b_read {p = p} {ps = qs} {n = n} is more) fits fits_a fits_b c =
    others_clean W g qs s a None (part_marks true ms p) more fits fits_a tt (b_clean W g n p ms is fits_b c)

-- sections that are plain and begin with mnemonics

pub section_plain : (P : Part → Type 0) (ys : List Symbol) → IsSection P ys → Plain ys
section_plain P ys s = subst Plain (sym s.is) (refl, s.plain)

pub section_begins : (P : Part → Type 0) (ys : List Symbol) → IsSection P ys → Begins ys
section_begins P ys s = subst Begins (sym s.is) (s.n, refl, s.mnemonic)

pub others_shaped : (xs : List (List Symbol)) (s : Signal) (a b : Option ℕ) → SpellsOthers xs s a b → AllPlain xs × AllBegin xs
others_shaped xs s a b others_none = (tt, tt)
others_shaped xs s a b (signals {x = x} {xs = ys} spells more) =
    let o = signal_section x s spells in
    let r = others_shaped ys signal.Nothing a b more in
    ((section_plain (IsSignalPart s) x o.section, r.0), (section_begins (IsSignalPart s) x o.section, r.1))
others_shaped xs s a b (reads_a {n = m} {xs = ys} e far more) =
    let r = others_shaped ys s None b more in (((refl, (refl, tt)), r.0), ((name.ReadA, refl, refl), r.1))
others_shaped xs s a b (reads_b {n = m} {xs = ys} e far more) =
    let r = others_shaped ys s a None more in (((refl, (refl, tt)), r.0), ((name.ReadB, refl, refl), r.1))
