-- A line of both units in which no fault is found spells what it says.
use Rattle.std.proofs.Common.{◌≡◌, ℕ, Bool, true, false, List, [], ◌∷◌, ◌++◌, Option, Some, None, refl, sym, subst, ◌∙◌, arith}
use Rattle.std.specs.Prelude.{◌||◌, ◌&&◌, IfSome, is_some, unwrap_or}
use Rattle.qpu_line.specs.declared.operand.Operand.{Operand}
use Rattle.qpu_line.specs.declared.operand.Operand.TheVariants as operand
use Rattle.qpu_line.specs.declared.part.Part.{Part as UnitDoes}
use Rattle.qpu_line.specs.declared.units.Units.{Units}
use Rattle.qpu_line.specs.declared.name.Name.{Name}
use Rattle.qpu_line.specs.declared.name.Name.TheVariants as name
use Rattle.qpu_line.specs.declared.symbol.Symbol.{Symbol}
use Rattle.qpu_asm.specs.declared.part.UnitPart.{UnitPart}
use Rattle.qpu_asm.specs.declared.part.Part.{Part}
use Rattle.qpu_asm.specs.declared.part.Part.TheVariants as part
use Rattle.qpu_asm.specs.declared.mark.What.{What}
use Rattle.qpu_asm.specs.declared.mark.What.TheVariants as what
use Rattle.qpu_asm.specs.declared.mark.Mark.{Mark}
use Rattle.qpu_asm.specs.Roles.{op_in_add, op_in_mul}
use Rattle.qpu_asm.specs.reader.Orders.{is_unit, second, extra}
use Rattle.qpu_asm.specs.SectionTokens.{SectionTokens}
use Rattle.qpu_asm.specs.reader.Marks.{unit_marks, part_marks, marks_of}
use Rattle.qpu_asm.specs.reader.Meanings.{sets_in, unit_of, mul_in, unit_does, unit_sets, address_a, address_b, reads_by, other_a_part, other_b_part, first_told, unless, units_of_parts}
use Rattle.qpu_asm.specs.Laws.{symbols_of}
use Rattle.qpu_asm.specs.SpelledPieces.{name_alone}
use Rattle.qpu_asm.specs.Spells.{SpellsUnit, SpellsAdd, SpellsMul, by_a, by_b, by_part, IsOther, SpellsUnits}
use Rattle.qpu_asm.specs.Spells.SpellsAdd.{active as add_active}
use Rattle.qpu_asm.specs.Spells.SpellsMul.{absent, idle as mul_idle, active as mul_active}
use Rattle.qpu_asm.specs.Spells.IsOther.{other, none as other_none, superfluous}
use Rattle.qpu_asm.specs.Spells.SpellsUnits.{units}
use Rattle.qpu_asm.specs.Spells.SpellsOthers.{none as others_none}
use Rattle.qpu_asm.proofs.MarkLemmas.{Has, has_left, has_right, IsClear}
use Rattle.qpu_asm.proofs.GrowLemmas.{later_marks}
use Rattle.qpu_asm.proofs.ProperParts.{Each, each_append, GoodPart}
use Rattle.qpu_asm.proofs.ProperLines.{IsOrdered}
use Rattle.qpu_asm.proofs.OperandMarks.{Marked}
use Rattle.qpu_asm.proofs.UnitMarks.{AddSaid, MulSaid}
use Rattle.qpu_asm.proofs.ExtraMarks.{OtherSaid}
use Rattle.qpu_asm.proofs.LineLaw.{units_by, IsSpoken, early_right, early_near, line, FirstIs, two_spoken, one_spoken, alone_units}
use Rattle.qpu_asm.proofs.SpellsLine.{texts, SectionTold, AllTold}
use Rattle.qpu_asm.proofs.SpellsPieces.{Spares}
use Rattle.qpu_asm.proofs.SpellsUnitParts.{unit_spelled, adds_marked, flags_marked}
use Rattle.qpu_asm.proofs.SpellsTags.{section_symbols}
use Rattle.qpu_asm.proofs.SpellsOthers.{OthersOf, IsUnits, AreFine, fine_rest, other_step, others_spelled}

-- other reads

abbrev pub some_read : List ℕ → Bool
some_read [] = false
some_read (r ∷ rs) = true

reads_append : (xs ys : List ℕ) → some_read (xs ++ ys) ≡ (some_read xs || some_read ys)
reads_append [] ys = refl
reads_append (x ∷ xs) ys = refl

is_other : (reads : List ℕ) (P : ℕ → Type 0) (w : Option ℕ) → Each P reads → IfSome w P → ((n m : ℕ) → P n → P m → n ≡ m) → IsOther reads w (unless (some_read reads) w)
is_other [] P w each is same = other
is_other (r ∷ rs) P None each is same = other_none
is_other (r ∷ rs) P (Some n) each is same = let Q : ℕ → Type 0 = λ z. IsOther (r ∷ rs) (Some z) None in subst Q (same r n each.0 is) superfluous

pub some_a : (o : Operand) → some_read (by_a o) ≡ is_some (address_a o)
some_a (operand.FileA n u) = refl
some_a (operand.FileB n) = refl
some_a (operand.Accumulator n) = refl
some_a (operand.Small code) = refl

pub some_b : (o : Operand) → some_read (by_b o) ≡ is_some (address_b o)
some_b (operand.FileA n u) = refl
some_b (operand.FileB n) = refl
some_b (operand.Accumulator n) = refl
some_b (operand.Small code) = refl

part_reads : (by : Operand → List ℕ) (address : Operand → Option ℕ) (o : Option UnitDoes) → ((y : Operand) → some_read (by y) ≡ is_some (address y)) → some_read (by_part by o) ≡ reads_by address o
part_reads by address None same = refl
part_reads by address (Some p) same = reads_append (by p.a) (by p.b) ∙ rw (same p.a, same p.b) refl

pub both_reads : (by : Operand → List ℕ) (address : Operand → Option ℕ) (a b : Option UnitDoes) → ((y : Operand) → some_read (by y) ≡ is_some (address y))
    → some_read (by_part by a ++ by_part by b) ≡ (reads_by address a || reads_by address b)
both_reads by address a b same = reads_append (by_part by a) (by_part by b) ∙ rw (part_reads by address a same, part_reads by address b same) refl

marked_a : (early : List Mark) (o : Operand) → Marked early o → Each (λ n. Has (what.ReadsA n) early) (by_a o)
marked_a early (operand.FileA n u) m = (m.0, tt)
marked_a early (operand.FileB n) m = tt
marked_a early (operand.Accumulator n) m = tt
marked_a early (operand.Small code) m = tt

marked_b : (early : List Mark) (o : Operand) → Marked early o → Each (λ n. Has (what.ReadsB n) early) (by_b o)
marked_b early (operand.FileA n u) m = tt
marked_b early (operand.FileB n) m = (m, tt)
marked_b early (operand.Accumulator n) m = tt
marked_b early (operand.Small code) m = tt

each_wider : (P Q : ℕ → Type 0) (ns : List ℕ) → ((n : ℕ) → P n → Q n) → Each P ns → Each Q ns
each_wider P Q [] f each = tt
each_wider P Q (n ∷ ns) f each = (f n each.0, each_wider P Q ns f each.1)

add_marked : (by : Operand → List ℕ) (P : ℕ → Type 0) (early : List Mark) (o : Option UnitDoes) → ((y : Operand) → Marked early y → Each P (by y)) → IfSome o (AddSaid early) → Each P (by_part by o)
add_marked by P early None f said = tt
add_marked by P early (Some p) f said = each_append P (by p.a) (by p.b) (f p.a said.does.a.marked) (f p.b said.does.b.marked)

mul_marked : (by : Operand → List ℕ) (P : ℕ → Type 0) (early : List Mark) (o : Option UnitDoes) → ((y : Operand) → Marked early y → Each P (by y)) → IfSome o (MulSaid early) → Each P (by_part by o)
mul_marked by P early None f said = tt
mul_marked by P early (Some p) f said = each_append P (by p.a) (by p.b) (f p.a said.does.a.marked) (f p.b said.does.b.marked)

late_told : (reading : ℕ → What) (early late : List Mark) (w : Option ℕ) → IfSome w (OtherSaid reading late) → IfSome w (λ n. Has (reading n) (early ++ late))
late_told reading early late None said = tt
late_told reading early late (Some n) said = has_right (reading n) early late said.told

other_spelled : (by : Operand → List ℕ) (address : Operand → Option ℕ) (reading : ℕ → What) (add mul : Option UnitDoes) (w : Option ℕ) (early late : List Mark)
    → ((y : Operand) → some_read (by y) ≡ is_some (address y)) → ((y : Operand) → Marked early y → Each (λ n. Has (reading n) early) (by y))
    → IfSome add (AddSaid early) → IfSome mul (MulSaid early) → IfSome w (OtherSaid reading late)
    → ((n m : ℕ) → Has (reading n) (early ++ late) → Has (reading m) (early ++ late) → n ≡ m)
    → IsOther (by_part by add ++ by_part by mul) w (unless (reads_by address add || reads_by address mul) w)
other_spelled by address reading add mul w early late same marked one two said alike =
    let P : ℕ → Type 0 = λ n. Has (reading n) early in
    let Q : ℕ → Type 0 = λ n. Has (reading n) (early ++ late) in
    let reads = by_part by add ++ by_part by mul in
    let each : Each P reads = each_append P (by_part by add) (by_part by mul) (add_marked by P early add marked one) (mul_marked by P early mul marked two) in
    let B : Bool → Type 0 = λ b. IsOther reads w (unless b w) in
    subst B (both_reads by address add mul same)
    (is_other reads Q w (each_wider P Q reads (λ n has. has_left (reading n) early late has) each) (late_told reading early late w said) alike)

-- both units

abbrev AddOf : Option UnitPart → List Symbol → Type 0
AddOf first x = SpellsAdd x (unit_sets first) (unit_does op_in_add first)

abbrev MulOf : Option UnitPart → Option UnitPart → List (List Symbol) → Type 0
MulOf first second m = SpellsMul (unit_does op_in_add first) m (unit_sets second) (unit_does op_in_mul second)

both_spelled : (first second : Option UnitPart) (rest : List Part) (early : List Mark) (x : List Symbol) (m : List (List Symbol)) (ss : List SectionTokens) → IsSpoken first second rest early
    → AddOf first x → MulOf first second m → OthersOf ss rest → SpellsUnits (x ∷ m ++ texts ss) (units_by first second rest)
both_spelled first second rest early x m ss s add mul others =
    let l = line first second rest early s in
    units add mul others
    (other_spelled by_a address_a what.ReadsA (unit_does op_in_add first) (unit_does op_in_mul second) (first_told other_a_part rest) early (later_marks rest)
    some_a (marked_a early) l.add l.mul l.other_a l.clear.reads_a)
    (other_spelled by_b address_b what.ReadsB (unit_does op_in_add first) (unit_does op_in_mul second) (first_told other_b_part rest) early (later_marks rest)
    some_b (marked_b early) l.add l.mul l.other_b l.clear.reads_b)

-- units that are told

some_by : (o : Option ℕ) → is_some o ≡ true → o ≡ Some (unwrap_or o 0)
some_by None e = absurd (grind (arith, e))
some_by (Some n) e = refl

op_known : (has : Name → Option ℕ) (n m : Name) → m ≡ n → is_some (has m) ≡ true → has n ≡ Some (unwrap_or (has m) 0)
op_known has n m e some = let P : Name → Type 0 = λ z. has z ≡ Some (unwrap_or (has m) 0) in subst P e (some_by (has m) some)

abbrev pub UnitHere : List Part → SectionTokens → UnitPart → Type 0
UnitHere earlier s u = SectionTold earlier s.tokens (part.Unit u)

unit_text : (has : Name → Option ℕ) (mul : Bool) (earlier : List Part) (s : SectionTokens) (u : UnitPart) (h : UnitHere earlier s u) → is_some (has u.op) ≡ true
    → Spares what.Wrong (unit_marks mul u) → Spares what.Far (unit_marks mul u) → SpellsUnit has (symbols_of s.tokens) (sets_in u.suffixes) (unit_of (unwrap_or (has u.op) 0) u)
unit_text has mul earlier s u h some right near =
    let P : List Symbol → Type 0 = λ z. SpellsUnit has z (sets_in u.suffixes) (unit_of (unwrap_or (has u.op) 0) u) in
    subst P (sym (section_symbols earlier s.tokens (part.Unit u) h))
    (unit_spelled has mul h.n h.rest u (unwrap_or (has u.op) 0) h.told (op_known has h.n u.op h.told.op some) right near)

pub add_here : (s : SectionTokens) (u : UnitPart) (second : Option UnitPart) (rest : List Part) (early : List Mark) → UnitHere [] s u → IsSpoken (Some u) second rest early → AddOf (Some u) (symbols_of s.tokens)
add_here s u second rest early h spoken =
    add_active (unit_text op_in_add false [] s u h spoken.add_op
    (λ has. early_right early (later_marks rest) spoken.clear (spoken.add_told what.Wrong has)) (λ has. early_near early (later_marks rest) spoken.clear (spoken.add_told what.Far has)))

and_false : (a b : Bool) → (a ≡ true → b ≡ true → ⊥) → (a && b) ≡ false
and_false true true none = absurd (none refl refl)
and_false true false none = refl
and_false false b none = refl

one_sets : (first : Option UnitPart) (v : UnitPart) (rest : List Part) (early : List Mark) → IsSpoken first (Some v) rest early → Spares what.Wrong (unit_marks true v)
    → sets_in v.suffixes ≡ true → is_some (unit_does op_in_add first) ≡ true → ⊥
one_sets None v rest early spoken right sets some = grind (arith, some)
one_sets (Some u) v rest early spoken right sets some =
    spoken.clear.sets (spoken.order what.Adds what.MulSets (adds_marked u) (flags_marked v right sets))

mul_here : (first : Option UnitPart) (earlier : List Part) (s : SectionTokens) (v : UnitPart) (rest : List Part) (early : List Mark) → UnitHere earlier s v → IsSpoken first (Some v) rest early
    → MulOf first (Some v) (symbols_of s.tokens ∷ [])
mul_here first earlier s v rest early h spoken =
    let right : Spares what.Wrong (unit_marks true v) = λ has. early_right early (later_marks rest) spoken.clear (spoken.mul_told what.Wrong has) in
    let near : Spares what.Far (unit_marks true v) = λ has. early_near early (later_marks rest) spoken.clear (spoken.mul_told what.Far has) in
    mul_active (unit_text op_in_mul true earlier s v h spoken.mul_op right near)
    (and_false (sets_in v.suffixes) (is_some (unit_does op_in_add first)) (λ sets some. one_sets first v rest early spoken right sets some))

-- the marks behind the units are fine

spoken_fine : (first second : Option UnitPart) (rest : List Part) (early : List Mark) → IsSpoken first second rest early → AreFine (later_marks rest)
spoken_fine first second rest early s = record {
  right = λ has. s.clear.right (has_right what.Wrong early (later_marks rest) has);
  near = λ has. s.clear.near (has_right what.Far early (later_marks rest) has);
  quiet = λ turns has. s.clear.signals (has_right what.Rotates early (later_marks rest) turns) (has_right what.Signals early (later_marks rest) has);
}

-- which part stands second

abbrev pub Spoken : Part → Option UnitPart → List Part → Type 0
Spoken head first later = (x : List Symbol) → ((second : Option UnitPart) (rest : List Part) (early : List Mark) → IsSpoken first second rest early → AddOf first x) → (ss : List SectionTokens)
    → AllTold (head ∷ []) ss later → FirstIs head first → IsOrdered later → Each GoodPart later → IsClear (marks_of (head ∷ later)) → SpellsUnits (x ∷ texts ss) (units_of_parts first later)

pub none_spelled : (head : Part) (first : Option UnitPart) → Spoken head first []
unfolding units_of_parts
none_spelled head first x add [] told is ordered good clear =
    let s = one_spoken head first [] is refl ordered good clear in
    both_spelled first None [] (part_marks false [] head) x [] [] s (add None [] (part_marks false [] head) s) absent others_none
none_spelled head first x add (s ∷ ss) told is ordered good clear = absurd told

pub unit_second : (head : Part) (idle : Bool) (first : Option UnitPart) (v : UnitPart) (rest : List Part) → IsUnits head idle → Spoken head first (part.Unit v ∷ rest)
unfolding units_of_parts
unit_second head idle first v rest units_of x add [] told is ordered good clear = absurd told
unit_second head idle first v rest units_of x add (t ∷ ss) told is ordered good clear =
    let early = part_marks false [] head ++ unit_marks true v [] in
    let s = two_spoken head first v rest is ordered good clear in
    both_spelled first (Some v) rest early x (symbols_of t.tokens ∷ []) ss s (add (Some v) rest early s) (mul_here first (head ∷ []) t v rest early told.0 s)
    (others_spelled head idle (part.Unit v ∷ []) ss rest units_of refl told.1 (spoken_fine first (Some v) rest early s))

pub nop_second : (head : Part) (rest : List Part) → IsUnits head true → Spoken head None (part.Nop ∷ rest)
nop_second head rest units_of x add [] told is ordered good clear = absurd told
nop_second head rest units_of x add (t ∷ ss) told is ordered good clear =
    let early = part_marks false [] head in
    let s = one_spoken head None (part.Nop ∷ rest) is refl ordered good clear in
    let others : OthersOf ss rest = others_spelled head true (part.Nop ∷ []) ss rest units_of refl told.1 (fine_rest part.Nop rest (spoken_fine None None (part.Nop ∷ rest) early s)) in
    let h = told.0 in
    let text : symbols_of t.tokens ≡ name_alone name.Nop = section_symbols (head ∷ []) t.tokens part.Nop h ∙ rw (h.told.op, h.told.nothing) refl in
    let M : List Symbol → Type 0 = λ z. MulOf None None (z ∷ []) in
    let P : Units → Type 0 = λ u. SpellsUnits (x ∷ texts (t ∷ ss)) u in
    subst P (sym (alone_units None (part.Nop ∷ rest) refl))
    (both_spelled None None (part.Nop ∷ rest) early x (symbols_of t.tokens ∷ []) ss s (add None (part.Nop ∷ rest) early s) (subst M (sym text) (mul_idle refl)) others)

pub extra_second : (head : Part) (idle : Bool) (first : Option UnitPart) (p : Part) (rest : List Part) → IsUnits head idle → mul_in (p ∷ rest) ≡ None → is_unit p ≡ false
    → ((s : SectionTokens) (h : SectionTold (head ∷ []) s.tokens p) → extra [] h.n ≡ true) → Spoken head first (p ∷ rest)
extra_second head idle first p rest units_of none alone may x add [] told is ordered good clear = absurd told
extra_second head idle first p rest units_of none alone may x add (t ∷ ss) told is ordered good clear =
    let early = part_marks false [] head in
    let s = one_spoken head first (p ∷ rest) is alone ordered good clear in
    let fine = spoken_fine first None (p ∷ rest) early s in
    let others : OthersOf (t ∷ ss) (p ∷ rest) =
    other_step head idle [] t ss p rest told.0 units_of told.1 (may t told.0) fine (others_spelled head idle (p ∷ []) ss rest units_of refl told.1 (fine_rest p rest fine)) in
    let P : Units → Type 0 = λ u. SpellsUnits (x ∷ texts (t ∷ ss)) u in
    subst P (sym (alone_units first (p ∷ rest) none))
    (both_spelled first None (p ∷ rest) early x [] (t ∷ ss) s (add None (p ∷ rest) early s) absent others)
