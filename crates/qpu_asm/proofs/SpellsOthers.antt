-- What stands behind the units of a line in which no fault is found spells its signal and its other reads.
use Rattle.std.proofs.Common.{◌≡◌, ℕ, ◌+◌, inl, Bool, true, false, List, [], ◌∷◌, ◌++◌, Option, Some, None, refl, sym, subst, ap, ◌∙◌, arith}
use Rattle.std.proofs.lemmas.Bool.Decides.{nat_tests}
use Rattle.std.specs.Prelude.{◌&&◌, ◌%◌, not, nat_lt, nat_le, if◌then◌else◌}
use Rattle.std.specs.Option.{option_or}
use Rattle.std.specs.List.{list_any}
use Rattle.qpu_token.specs.declared.token.Token.{Token}
use Rattle.qpu_line.specs.declared.operand.Operand.{Operand}
use Rattle.qpu_line.specs.declared.operand.Operand.TheVariants as operand
use Rattle.qpu_line.specs.declared.units.Signal.{Signal}
use Rattle.qpu_line.specs.declared.units.Signal.TheVariants as signal
use Rattle.qpu_line.specs.declared.name.Name.{Name}
use Rattle.qpu_line.specs.declared.name.Name.TheVariants as name
use Rattle.qpu_line.specs.declared.name.Register.TheVariants as register
use Rattle.qpu_line.specs.declared.symbol.Symbol.{Symbol}
use Rattle.qpu_line.specs.declared.symbol.Symbol.TheVariants as symbol
use Rattle.qpu_asm.specs.declared.placed.Placed.{Placed}
use Rattle.qpu_asm.specs.declared.piece.Core.{Core}
use Rattle.qpu_asm.specs.declared.piece.Core.TheVariants as core
use Rattle.qpu_asm.specs.declared.piece.Suffix.{Suffix}
use Rattle.qpu_asm.specs.declared.piece.Piece.{Piece}
use Rattle.qpu_asm.specs.declared.part.Part.{Part}
use Rattle.qpu_asm.specs.declared.part.Part.TheVariants as part
use Rattle.qpu_asm.specs.declared.mark.What.{What}
use Rattle.qpu_asm.specs.declared.mark.What.TheVariants as what
use Rattle.qpu_asm.specs.declared.mark.Mark.{Mark}
use Rattle.qpu_asm.specs.Roles.{op_in_mul, source_of}
use Rattle.qpu_asm.specs.Forms.{is_nop}
use Rattle.qpu_asm.specs.reader.Orders.{is_unit, is_signal, is_rotation, is_read_a, is_read_b, is_empty, extra, unit_follows, follows}
use Rattle.qpu_asm.specs.SectionTokens.{SectionTokens}
use Rattle.qpu_asm.specs.reader.Marks.{mark, is_r5, number_between, rotation_marks, source_in, other_a, other_b, part_marks}
use Rattle.qpu_asm.specs.reader.Meanings.{number_of, rotation_of, signal_in, address_a, address_b, address_of_source, other_a_part, other_b_part, first_told}
use Rattle.qpu_asm.specs.Laws.{symbols_of}
use Rattle.qpu_asm.specs.SpelledPieces.{name_alone}
use Rattle.qpu_asm.specs.Spells.{SpellsSignal, SpellsOthers}
use Rattle.qpu_asm.specs.Spells.SpellsSignal.{end, load0, load1, rotate, by_r5}
use Rattle.qpu_asm.specs.Spells.SpellsOthers.{none as others_none, signals, reads_a, reads_b}
use Rattle.qpu_asm.proofs.MarkLemmas.{Has}
use Rattle.qpu_asm.proofs.GrowLemmas.{Marking, grown_old, grows_rotation, piece, later_marks, later_first, later_rest}
use Rattle.qpu_asm.proofs.ProperLines.{turn_by}
use Rattle.qpu_asm.proofs.SpellsTold.{CoreIs, SignalTold, Told}
use Rattle.qpu_asm.proofs.SpellsLine.{texts, SectionTold, AllTold}
use Rattle.qpu_asm.proofs.SpellsPieces.{Spares, spares_new, between_spelled, no_mode}
use Rattle.qpu_asm.proofs.SpellsUnitParts.{spelled_symbols}
use Rattle.qpu_asm.proofs.SpellsTags.{tag, tag_of, told_tag, section_symbols, may_follow, once_more}
use Rattle.qpu_asm.proofs.SpellsForms.{whole_by}

abbrev pub OthersOf : List SectionTokens → List Part → Type 0
OthersOf ss later = SpellsOthers (texts ss) (signal_in later) (first_told other_a_part later) (first_told other_b_part later)

-- the first part is a unit's, idle or not
abbrev pub IsUnits : Part → Bool → Type 0
IsUnits first idle = (before : List Part) (n : Name) → follows first before n ≡ true → unit_follows idle before n ≡ true

-- once

not_by : (a : Bool) → a ≡ true → not a ≡ true → ⊥
not_by true e f = grind (arith, f)
not_by false e f = grind (arith, e)

right_true : (a b : Bool) → (a && b) ≡ true → b ≡ true
right_true true b e = e
right_true false b e = absurd (grind (arith, e))

extra_named : (idle : Bool) (before : List Part) (n m : Name) → n ≡ m → op_in_mul m ≡ None → is_nop m ≡ false → unit_follows idle before n ≡ true → extra before m ≡ true
extra_named idle before n m e none nop may =
    let P : Name → Type 0 = λ z. unit_follows idle before z ≡ true in
    turn_by (is_empty before) _ idle (is_nop m) (extra before m) (subst P e may) (rw none refl) nop

signal_not : (idle : Bool) (before : List Part) (s : Signal) (n : Name) (xs : List Placed) → SignalTold s n xs → unit_follows idle before n ≡ true → list_any is_signal before ≡ true → ⊥
signal_not idle before signal.End n xs told may some = not_by (list_any is_signal before) some (extra_named idle before n name.End told.op refl refl may)
signal_not idle before signal.Load0 n xs told may some = not_by (list_any is_signal before) some (extra_named idle before n name.Load0 told.op refl refl may)
signal_not idle before signal.Load1 n xs told may some = not_by (list_any is_signal before) some (extra_named idle before n name.Load1 told.op refl refl may)
signal_not idle before _ n xs told may some = told

abbrev Single : (Part → Bool) → Part → Type 0
Single kind first = (before : List Part) (n : Name) (xs : List Placed) (p : Part) → list_any kind before ≡ true → follows first before n ≡ true → Told n xs p → kind p ≡ false

signal_single : (first : Part) (idle : Bool) → IsUnits first idle → Single is_signal first
signal_single first idle units before n xs (part.Signal s token) some may told = absurd (signal_not idle before s n xs told (units before n may) some)
signal_single first idle units before n xs _ some may told = refl

rotation_single : (first : Part) (idle : Bool) → IsUnits first idle → Single is_rotation first
rotation_single first idle units before n xs (part.Rotate token p) some may told =
    absurd (not_by (list_any is_rotation before) some (right_true (list_any is_unit before) _ (extra_named idle before n name.Rotate told.op refl refl (units before n may))))
rotation_single first idle units before n xs _ some may told = refl

read_a_single : (first : Part) (idle : Bool) → IsUnits first idle → Single is_read_a first
read_a_single first idle units before n xs (part.ReadA p) some may told = absurd (not_by (list_any is_read_a before) some (extra_named idle before n name.ReadA told.op refl refl (units before n may)))
read_a_single first idle units before n xs _ some may told = refl

read_b_single : (first : Part) (idle : Bool) → IsUnits first idle → Single is_read_b first
read_b_single first idle units before n xs (part.ReadB p) some may told = absurd (not_by (list_any is_read_b before) some (extra_named idle before n name.ReadB told.op refl refl (units before n may)))
read_b_single first idle units before n xs _ some may told = refl

-- none

no_signal : (later : List Part) → list_any is_signal later ≡ false → list_any is_rotation later ≡ false → signal_in later ≡ signal.Nothing
no_signal [] e f = refl
no_signal (part.Signal s token ∷ later) e f = absurd (grind (arith, e))
no_signal (part.Rotate token p ∷ later) e f = absurd (grind (arith, f))
no_signal (_ ∷ later) e f = no_signal later e f

no_read_a : (later : List Part) → list_any is_read_a later ≡ false → first_told other_a_part later ≡ None
no_read_a [] e = refl
no_read_a (part.ReadA p ∷ later) e = absurd (grind (arith, e))
no_read_a (_ ∷ later) e = no_read_a later e

no_read_b : (later : List Part) → list_any is_read_b later ≡ false → first_told other_b_part later ≡ None
no_read_b [] e = refl
no_read_b (part.ReadB p ∷ later) e = absurd (grind (arith, e))
no_read_b (_ ∷ later) e = no_read_b later e

-- what is there is marked

rotations_marked : (later : List Part) → list_any is_rotation later ≡ true → Has what.Rotates (later_marks later)
unfolding part_marks
rotations_marked [] e = absurd (grind (arith, e))
rotations_marked (part.Rotate token p ∷ later) e =
    later_first what.Rotates (part.Rotate token p) later (grown_old (rotation_marks p) (grows_rotation p) what.Rotates (mark what.Rotates token []) (inl refl))
rotations_marked (q ∷ later) e = later_rest what.Rotates q later (rotations_marked later e)

signals_marked : (later : List Part) → list_any is_signal later ≡ true → Has what.Signals (later_marks later)
unfolding part_marks
signals_marked [] e = absurd (grind (arith, e))
signals_marked (part.Signal s token ∷ later) e = later_first what.Signals (part.Signal s token) later (inl refl)
signals_marked (q ∷ later) e = later_rest what.Signals q later (signals_marked later e)

false_by : (b : Bool) → (b ≡ true → ⊥) → b ≡ false
false_by true none = absurd (none refl)
false_by false none = refl

-- signals

signal_spelled : (s : Signal) (n : Name) (xs : List Placed) → SignalTold s n xs → SpellsSignal (symbol.Name n ∷ symbols_of xs) s
signal_spelled signal.End n xs told = rw (told.op, told.nothing) end
signal_spelled signal.Load0 n xs told = rw (told.op, told.nothing) load0
signal_spelled signal.Load1 n xs told = rw (told.op, told.nothing) load1
signal_spelled _ n xs told = absurd told

low_rotation : (v : ℕ) (b : Bool) (token : Token) → (nat_le 1 v && nat_le v 15) ≡ b → (Has what.Far (if not b then record { what = what.Far; token = token } ∷ [] else []) → ⊥) → (nat_le 1 v && nat_le v 15) ≡ true
low_rotation v true token e h = e
low_rotation v false token e h = absurd (h (inl refl))

small_rotation : (v : ℕ) → (nat_le 1 v && nat_le v 15) ≡ true → v % 16 ≡ v
small_rotation v e = let low : nat_lt v 16 ≡ true = grind (arith, nat_tests, e) in by_low v low
  where
    by_low : (v : ℕ) → nat_lt v 16 ≡ true → v % 16 ≡ v
    by_low v low = grind (arith, nat_tests, low)

rotate_core : (c : Core) (t : List Symbol) (token : Token) (s : Option Suffix) → CoreIs c t → Spares what.Wrong (number_between 1 15 (piece c token s)) → Spares what.Far (number_between 1 15 (piece c token s))
    → SpellsSignal (symbol.Name name.Rotate ∷ t) (signal.Rotate (48 + number_of c % 16))
rotate_core (core.Number v) t token s is right near =
    let low : (nat_le 1 v && nat_le v 15) ≡ true = low_rotation v (nat_le 1 v && nat_le v 15) token refl near in
    let P : ℕ → Type 0 = λ z. SpellsSignal (symbol.Name name.Rotate ∷ t) (signal.Rotate (48 + z)) in
    subst P (sym (small_rotation v low)) (rotate (between_spelled 1 15 (core.Number v) t token s is (λ has. right has)) low)
rotate_core (core.Name n) t token s is right near = absurd (right (inl refl))
rotate_core core.Unknown t token s is right near = absurd (right (inl refl))
rotate_core core.Nowhere t token s is right near = absurd (right (inl refl))
rotate_core (core.Label at) t token s is right near = absurd (right (inl refl))

r5_name : (c : Core) (t : List Symbol) → CoreIs c t → is_r5 c ≡ true → t ≡ name_alone (name.Register (register.Accumulator 5))
r5_name (core.Name (name.Register (register.Accumulator n))) t is e = let five : n ≡ 5 = grind (arith, nat_tests, e) in is ∙ ap (λ k. name_alone (name.Register (register.Accumulator k))) five
r5_name _ t is e = absurd (grind (arith, e))

rotation_by : (b : Bool) (c : Core) (t : List Symbol) (token : Token) (s : Option Suffix) → is_r5 c ≡ b → CoreIs c t
    → (Has what.Wrong (if b then [] else number_between 1 15 (piece c token s) []) → ⊥) → (Has what.Far (if b then [] else number_between 1 15 (piece c token s) []) → ⊥)
    → SpellsSignal (symbol.Name name.Rotate ∷ t) (signal.Rotate (if b then 48 else 48 + number_of c % 16))
rotation_by true c t token s e is right near =
    let P : List Symbol → Type 0 = λ z. SpellsSignal (symbol.Name name.Rotate ∷ z) (signal.Rotate 48) in subst P (sym (r5_name c t is e)) by_r5
rotation_by false c t token s e is right near = rotate_core c t token s is right near

rotation_spelled : (q : Piece) (t : List Symbol) → CoreIs q.core t → Spares what.Wrong (rotation_marks q) → Spares what.Far (rotation_marks q) → SpellsSignal (symbol.Name name.Rotate ∷ t) (signal.Rotate (rotation_of q.core))
rotation_spelled q t is right near = rotation_by (is_r5 q.core) q.core t q.token q.suffix refl is right near

-- other reads

far_by : (w : What) (k : ℕ) (b : Bool) (token : Token) → nat_lt k 32 ≡ b → (Has what.Wrong (mark (if b then what.Wrong else w) token []) → ⊥) → nat_le 32 k ≡ true
far_by w k true token e h = absurd (h (inl refl))
far_by w k false token e h = grind (arith, nat_tests, e)

read_a_by : (n : Name) (o : Option Operand) (t : List Symbol) (token : Token) → source_of n ≡ o → t ≡ name_alone n → Spares what.Wrong (other_a o token)
    → (at : ℕ) × (source_of n ≡ Some (operand.FileA at 0)) × (nat_le 32 at ≡ true) × (address_of_source address_a o ≡ Some at)
read_a_by n (Some (operand.FileA k u)) t token e is h = (k, no_mode n k u e, far_by (what.ReadsA k) k (nat_lt k 32) token refl h, refl)
read_a_by n _ t token e is h = absurd (h (inl refl))

read_a_core : (c : Core) (t : List Symbol) (token : Token) → CoreIs c t → Spares what.Wrong (other_a (source_in c) token)
    → (n : Name) × (at : ℕ) × (t ≡ name_alone n) × (source_of n ≡ Some (operand.FileA at 0)) × (nat_le 32 at ≡ true) × (address_of_source address_a (source_in c) ≡ Some at)
read_a_core (core.Name n) t token is h = let r = read_a_by n (source_of n) t token refl is h in (n, r.0, is, r.1, r.2, r.3)
read_a_core _ t token is h = absurd (h (inl refl))

read_b_by : (n : Name) (o : Option Operand) (t : List Symbol) (token : Token) → source_of n ≡ o → t ≡ name_alone n → Spares what.Wrong (other_b o token)
    → (at : ℕ) × (source_of n ≡ Some (operand.FileB at)) × (nat_le 32 at ≡ true) × (address_of_source address_b o ≡ Some at)
read_b_by n (Some (operand.FileB k)) t token e is h = (k, e, far_by (what.ReadsB k) k (nat_lt k 32) token refl h, refl)
read_b_by n _ t token e is h = absurd (h (inl refl))

read_b_core : (c : Core) (t : List Symbol) (token : Token) → CoreIs c t → Spares what.Wrong (other_b (source_in c) token)
    → (n : Name) × (at : ℕ) × (t ≡ name_alone n) × (source_of n ≡ Some (operand.FileB at)) × (nat_le 32 at ≡ true) × (address_of_source address_b (source_in c) ≡ Some at)
read_b_core (core.Name n) t token is h = let r = read_b_by n (source_of n) t token refl is h in (n, r.0, is, r.1, r.2, r.3)
read_b_core _ t token is h = absurd (h (inl refl))

-- a part more

-- marks of a rotation and of a signal are never both there
abbrev pub AreQuiet : List Mark → Type 0
AreQuiet ms = Has what.Rotates ms → Has what.Signals ms → ⊥

quiet_rest : (p : Part) (later : List Part) → AreQuiet (later_marks (p ∷ later)) → AreQuiet (later_marks later)
quiet_rest p later quiet = λ turns has. quiet (later_rest what.Rotates p later turns) (later_rest what.Signals p later has)

signal_step : (first : Part) (idle : Bool) (done : List Part) (s : SectionTokens) (ss : List SectionTokens) (sig : Signal) (token : Token) (later : List Part) (h : SectionTold (first ∷ done) s.tokens (part.Signal sig token))
    → IsUnits first idle → AllTold (first ∷ (done ++ part.Signal sig token ∷ [])) ss later → AreQuiet (later_marks (part.Signal sig token ∷ later)) → OthersOf ss later
    → OthersOf (s ∷ ss) (part.Signal sig token ∷ later)
signal_step first idle done s ss sig token later h units told quiet more =
    let p : Part = part.Signal sig token in
    let none : list_any is_signal later ≡ false = once_more is_signal first done p ss later (signal_single first idle units) refl told in
    let still : list_any is_rotation later ≡ false = false_by (list_any is_rotation later)
    (λ e. quiet (later_rest what.Rotates p later (rotations_marked later e)) (signals_marked (p ∷ later) refl)) in
    let P : List Symbol → Type 0 = λ z. SpellsOthers (z ∷ texts ss) sig (first_told other_a_part later) (first_told other_b_part later) in
    let S : Signal → Type 0 = λ z. SpellsOthers (texts ss) z (first_told other_a_part later) (first_told other_b_part later) in
    subst P (sym (section_symbols (first ∷ done) s.tokens p h)) (signals (signal_spelled sig h.n h.rest h.told) (subst S (no_signal later none still) more))

rotate_step : (first : Part) (idle : Bool) (done : List Part) (s : SectionTokens) (ss : List SectionTokens) (token : Token) (q : Piece) (later : List Part) (h : SectionTold (first ∷ done) s.tokens (part.Rotate token q))
    → IsUnits first idle → AllTold (first ∷ (done ++ part.Rotate token q ∷ [])) ss later → AreQuiet (later_marks (part.Rotate token q ∷ later))
    → Spares what.Wrong (λ ms. part_marks true ms (part.Rotate token q)) → Spares what.Far (λ ms. part_marks true ms (part.Rotate token q)) → OthersOf ss later
    → OthersOf (s ∷ ss) (part.Rotate token q ∷ later)
unfolding part_marks
rotate_step first idle done s ss token q later h units told quiet right near more =
    let p : Part = part.Rotate token q in
    let still : list_any is_rotation later ≡ false = once_more is_rotation first done p ss later (rotation_single first idle units) refl told in
    let none : list_any is_signal later ≡ false = false_by (list_any is_signal later)
    (λ e. quiet (rotations_marked (p ∷ later) refl) (later_rest what.Signals p later (signals_marked later e))) in
    let turning : Marking = mark what.Rotates token in
    let spelled = rotation_spelled q h.told.t h.told.is (spares_new what.Wrong turning (rotation_marks q) (grows_rotation q) right) (spares_new what.Far turning (rotation_marks q) (grows_rotation q) near) in
    let whole : symbols_of s.tokens ≡ symbol.Name name.Rotate ∷ h.told.t =
    whole_by (symbols_of s.tokens) h.n name.Rotate (symbols_of h.rest) [] h.told.t h.told.t (section_symbols (first ∷ done) s.tokens p h) h.told.op (spelled_symbols _ h.rest h.told.there) refl in
    let P : List Symbol → Type 0 = λ z. SpellsOthers (z ∷ texts ss) (signal.Rotate (rotation_of q.core)) (first_told other_a_part later) (first_told other_b_part later) in
    let S : Signal → Type 0 = λ z. SpellsOthers (texts ss) z (first_told other_a_part later) (first_told other_b_part later) in
    subst P (sym whole) (signals spelled (subst S (no_signal later none still) more))

or_some : (a b : Option ℕ) (k : ℕ) → a ≡ Some k → option_or a b ≡ Some k
or_some a b k e = rw e refl

read_a_step : (first : Part) (idle : Bool) (done : List Part) (s : SectionTokens) (ss : List SectionTokens) (q : Piece) (later : List Part) (h : SectionTold (first ∷ done) s.tokens (part.ReadA q))
    → IsUnits first idle → AllTold (first ∷ (done ++ part.ReadA q ∷ [])) ss later → Spares what.Wrong (λ ms. part_marks true ms (part.ReadA q)) → OthersOf ss later → OthersOf (s ∷ ss) (part.ReadA q ∷ later)
unfolding part_marks
read_a_step first idle done s ss q later h units told right more =
    let p : Part = part.ReadA q in
    let none : list_any is_read_a later ≡ false = once_more is_read_a first done p ss later (read_a_single first idle units) refl told in
    let r = read_a_core q.core h.told.t q.token h.told.is right in
    let whole : symbols_of s.tokens ≡ symbol.Name name.ReadA ∷ name_alone r.0 =
    whole_by (symbols_of s.tokens) h.n name.ReadA (symbols_of h.rest) [] h.told.t (name_alone r.0) (section_symbols (first ∷ done) s.tokens p h) h.told.op (spelled_symbols _ h.rest h.told.there) r.2 in
    let a : first_told other_a_part (p ∷ later) ≡ Some r.1 = or_some (address_of_source address_a (source_in q.core)) (first_told other_a_part later) r.1 r.5 in
    let P : List Symbol → Type 0 = λ z. SpellsOthers (z ∷ texts ss) (signal_in later) (first_told other_a_part (p ∷ later)) (first_told other_b_part later) in
    let A : Option ℕ → Type 0 = λ z. SpellsOthers ((symbol.Name name.ReadA ∷ name_alone r.0) ∷ texts ss) (signal_in later) z (first_told other_b_part later) in
    let N : Option ℕ → Type 0 = λ z. SpellsOthers (texts ss) (signal_in later) z (first_told other_b_part later) in
    subst P (sym whole) (subst A (sym a) (reads_a r.3 r.4 (subst N (no_read_a later none) more)))

read_b_step : (first : Part) (idle : Bool) (done : List Part) (s : SectionTokens) (ss : List SectionTokens) (q : Piece) (later : List Part) (h : SectionTold (first ∷ done) s.tokens (part.ReadB q))
    → IsUnits first idle → AllTold (first ∷ (done ++ part.ReadB q ∷ [])) ss later → Spares what.Wrong (λ ms. part_marks true ms (part.ReadB q)) → OthersOf ss later → OthersOf (s ∷ ss) (part.ReadB q ∷ later)
unfolding part_marks
read_b_step first idle done s ss q later h units told right more =
    let p : Part = part.ReadB q in
    let none : list_any is_read_b later ≡ false = once_more is_read_b first done p ss later (read_b_single first idle units) refl told in
    let r = read_b_core q.core h.told.t q.token h.told.is right in
    let whole : symbols_of s.tokens ≡ symbol.Name name.ReadB ∷ name_alone r.0 =
    whole_by (symbols_of s.tokens) h.n name.ReadB (symbols_of h.rest) [] h.told.t (name_alone r.0) (section_symbols (first ∷ done) s.tokens p h) h.told.op (spelled_symbols _ h.rest h.told.there) r.2 in
    let b : first_told other_b_part (p ∷ later) ≡ Some r.1 = or_some (address_of_source address_b (source_in q.core)) (first_told other_b_part later) r.1 r.5 in
    let P : List Symbol → Type 0 = λ z. SpellsOthers (z ∷ texts ss) (signal_in later) (first_told other_a_part later) (first_told other_b_part (p ∷ later)) in
    let B : Option ℕ → Type 0 = λ z. SpellsOthers ((symbol.Name name.ReadB ∷ name_alone r.0) ∷ texts ss) (signal_in later) (first_told other_a_part later) z in
    let N : Option ℕ → Type 0 = λ z. SpellsOthers (texts ss) (signal_in later) (first_told other_a_part later) z in
    subst P (sym whole) (subst B (sym b) (reads_b r.3 r.4 (subst N (no_read_b later none) more)))

extra_tag : (done : List Part) (n : Name) → extra done n ≡ true → nat_le 9 (tag_of n) ≡ true
extra_tag done name.End e = refl
extra_tag done name.Load0 e = refl
extra_tag done name.Load1 e = refl
extra_tag done name.Rotate e = refl
extra_tag done name.ReadA e = refl
extra_tag done name.ReadB e = refl
extra_tag done _ e = absurd (grind (arith, e))

other_by : (first : Part) (idle : Bool) (done : List Part) (s : SectionTokens) (ss : List SectionTokens) (p : Part) (later : List Part) (h : SectionTold (first ∷ done) s.tokens p)
    → IsUnits first idle → AllTold (first ∷ (done ++ p ∷ [])) ss later → nat_le 9 (tag p) ≡ true → AreQuiet (later_marks (p ∷ later))
    → Spares what.Wrong (λ ms. part_marks true ms p) → Spares what.Far (λ ms. part_marks true ms p) → OthersOf ss later → OthersOf (s ∷ ss) (p ∷ later)
other_by first idle done s ss (part.Signal sig token) later h units told e quiet right near more = signal_step first idle done s ss sig token later h units told quiet more
other_by first idle done s ss (part.Rotate token q) later h units told e quiet right near more = rotate_step first idle done s ss token q later h units told quiet right near more
other_by first idle done s ss (part.ReadA q) later h units told e quiet right near more = read_a_step first idle done s ss q later h units told right more
other_by first idle done s ss (part.ReadB q) later h units told e quiet right near more = read_b_step first idle done s ss q later h units told right more
other_by first idle done s ss _ later h units told e quiet right near more = absurd (grind (arith, e))

-- nothing of the marks is wrong, out of its range, or of a rotation and a signal
pub record AreFine (ms : List Mark) : Type 0 where
  pub right : Has what.Wrong ms → ⊥
  pub near : Has what.Far ms → ⊥
  pub quiet : AreQuiet ms

pub fine_rest : (p : Part) (later : List Part) → AreFine (later_marks (p ∷ later)) → AreFine (later_marks later)
fine_rest p later fine = record {
  right = λ has. fine.right (later_rest what.Wrong p later has);
  near = λ has. fine.near (later_rest what.Far p later has);
  quiet = quiet_rest p later fine.quiet;
}

pub other_step : (first : Part) (idle : Bool) (done : List Part) (s : SectionTokens) (ss : List SectionTokens) (p : Part) (later : List Part) (h : SectionTold (first ∷ done) s.tokens p)
    → IsUnits first idle → AllTold (first ∷ (done ++ p ∷ [])) ss later → extra done h.n ≡ true → AreFine (later_marks (p ∷ later)) → OthersOf ss later → OthersOf (s ∷ ss) (p ∷ later)
other_step first idle done s ss p later h units told e fine more =
    let P : ℕ → Type 0 = λ z. nat_le 9 z ≡ true in
    other_by first idle done s ss p later h units told (subst P (sym (told_tag h.n h.rest p h.told)) (extra_tag done h.n e)) fine.quiet
    (λ has. fine.right (later_first what.Wrong p later has)) (λ has. fine.near (later_first what.Far p later has)) more

-- behind the second part there are no units

behind_more : (idle : Bool) (done : List Part) (n : Name) → is_empty done ≡ false → unit_follows idle done n ≡ true → extra done n ≡ true
behind_more idle [] n e may = absurd (grind (arith, e))
behind_more idle (p ∷ done) n e may = may

longer_one : (done : List Part) (p : Part) → is_empty (done ++ p ∷ []) ≡ false
longer_one [] p = refl
longer_one (q ∷ done) p = refl

pub others_spelled : (first : Part) (idle : Bool) (done : List Part) (ss : List SectionTokens) (later : List Part) → IsUnits first idle → is_empty done ≡ false → AllTold (first ∷ done) ss later
    → AreFine (later_marks later) → OthersOf ss later
others_spelled first idle done [] [] units some told fine = others_none
others_spelled first idle done [] (p ∷ later) units some told fine = absurd told
others_spelled first idle done (s ∷ ss) [] units some told fine = absurd told
others_spelled first idle done (s ∷ ss) (p ∷ later) units some told fine =
    let h = told.0 in
    other_step first idle done s ss p later h units told.1 (behind_more idle done h.n some (units done h.n (may_follow first done h.n h.may))) fine
    (others_spelled first idle (done ++ p ∷ []) ss later units (longer_one done p) told.1 (fine_rest p later fine))
