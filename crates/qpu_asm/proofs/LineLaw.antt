-- What a line says has a canonical word.
use Rattle.std.proofs.Common.{arith, map, ◌≡◌, ℕ, Bool, true, false, List, [], ◌∷◌, ◌++◌, Option, Some, None, Result, Ok, Err, refl, ap, sym, subst, ◌∙◌}
use Rattle.std.specs.Prelude.{◌||◌, All, IfSome, is_some, if◌then◌else◌}
use Rattle.std.specs.List.{list_any}
use Rattle.qpu_token.specs.declared.token.Token.{Token}
use Rattle.qpu_token.specs.declared.fault.AsmFault.{AsmFault}
use Rattle.qpu_line.specs.declared.units.Units.{Units}
use Rattle.qpu_line.specs.declared.instruction.Instruction.{Instruction}
use Rattle.qpu_line.specs.declared.instruction.Instruction.TheVariants as instruction
use Rattle.qpu_line.specs.declared.name.Name.TheVariants as name
use Rattle.qpu_line.specs.declared.symbol.Symbol.{Symbol}
use Rattle.qpu_line.specs.declared.symbol.Symbol.TheVariants as symbol
use Rattle.qpu_line.specs.Units.{to_of}
use Rattle.qpu_line.specs.Named.{HasWord}
use Rattle.qpu_asm.specs.declared.placed.Placed.{Placed}
use Rattle.qpu_asm.specs.declared.part.UnitPart.{UnitPart}
use Rattle.qpu_asm.specs.declared.part.Part.{Part}
use Rattle.qpu_asm.specs.declared.part.Part.TheVariants as part
use Rattle.qpu_asm.specs.declared.mark.What.{What}
use Rattle.qpu_asm.specs.declared.mark.What.TheVariants as what
use Rattle.qpu_asm.specs.declared.mark.Mark.{Mark}
use Rattle.qpu_asm.specs.declared.line.Line.{Line}
use Rattle.qpu_asm.specs.declared.line.Line.TheVariants.{Raw, Says}
use Rattle.qpu_asm.specs.Roles.{op_in_add, op_in_mul}
use Rattle.qpu_asm.specs.Signs.{is_colon}
use Rattle.qpu_asm.specs.Signs.{is_dot}
use Rattle.qpu_asm.specs.reader.Orders.{is_rotation}
use Rattle.qpu_asm.specs.SectionTokens.{SectionTokens}
use Rattle.qpu_asm.specs.reader.Sections.{sections_of, unknown_in, first_of, parts_of}
use Rattle.qpu_asm.specs.reader.Marks.{unit_marks, part_marks, marks_of}
use Rattle.qpu_asm.specs.Clashes.{cross}
use Rattle.qpu_asm.specs.reader.Judging.{line_fault}
use Rattle.qpu_asm.specs.reader.Meanings.{place_of, unit_of, mul_in, unit_does, unit_sets, signal_in, address_a, address_b, reads_by, other_a_part, other_b_part, first_told, unless, units_of_parts, meaning}
use Rattle.qpu_asm.specs.reader.LinesRead.{word_number, directive_symbol, directive, by_fault, by_parts, by_unknown, instruction_line, shaped, read_line}
use Rattle.qpu_asm.specs.Laws.{IsProper}
use Rattle.std.proofs.lemmas.List.Elements.{All-cons}
use Rattle.qpu_asm.specs.Placed.{Labels, placed_token}
use Rattle.qpu_asm.proofs.ProperTokens.{placed_proper}
use Rattle.qpu_asm.proofs.MarkLemmas.{Has, has_left, has_right, Before, before_join, before_left, IsClear, is_clear}
use Rattle.qpu_asm.proofs.ProperParts.{Each, GoodUnit, GoodPart, Good, GivesPart, gives_on}
use Rattle.qpu_asm.proofs.ProperLines.{all_good, has_second, FitsAdd, IsOrdered, GoodParts, line_good}
use Rattle.qpu_asm.proofs.GrowLemmas.{grows_part, later_marks, grows_later}
use Rattle.qpu_asm.proofs.ShortLaws.{increments_have_words, decrements_have_words, loads_have_words, branches_have_words}
use Rattle.qpu_asm.proofs.UnitMarks.{unit_said, AddSaid, add_said, MulSaid, mul_said}
use Rattle.qpu_asm.proofs.ExtraMarks.{signal_told, turn_there, other_a_told, other_b_told}
use Rattle.qpu_asm.proofs.TargetLemmas.{cross_nowhere}
use Rattle.qpu_asm.proofs.UnitsLine.{IsLine}
use Rattle.qpu_asm.proofs.UnitsLaw.{held, named}

-- both units, by their parts and those behind them

abbrev pub units_by : Option UnitPart → Option UnitPart → List Part → Units
units_by first second rest =
    let add = unit_does op_in_add first in
    let mul = unit_does op_in_mul second in
    record {
      add = add;
      mul = mul;
      sets = unit_sets first || unit_sets second;
      signal = signal_in rest;
      other_a = unless (reads_by address_a add || reads_by address_a mul) (first_told other_a_part rest);
      other_b = unless (reads_by address_b add || reads_by address_b mul) (first_told other_b_part rest);
    }

-- what is known of the parts: the marks of the units stand first, those of the first unit before the second's
pub record IsSpoken (first second : Option UnitPart) (rest : List Part) (early : List Mark) : Type 0 where
  pub clear : IsClear (early ++ later_marks rest)
  pub add_good : IfSome first GoodUnit
  pub add_op : IfSome first (λ u. is_some (op_in_add u.op) ≡ true)
  pub add_told : IfSome first (λ u. (w : What) → Has w (unit_marks false u []) → Has w early)
  pub mul_good : IfSome second GoodUnit
  pub mul_op : IfSome second (λ u. is_some (op_in_mul u.op) ≡ true)
  pub mul_told : IfSome second (λ u. (w : What) → Has w (unit_marks true u []) → Has w early)
  pub order : IfSome first (λ u. IfSome second (λ v. (a b : What) → Has a (unit_marks false u []) → Has b (unit_marks true v []) → Before a b (early ++ later_marks rest)))
  pub good : Each GoodPart rest
  pub turning : list_any is_rotation rest ≡ true → is_some second ≡ true

pub early_right : (early late : List Mark) → IsClear (early ++ late) → Has what.Wrong early → ⊥
early_right early late clear has = clear.right (has_left what.Wrong early late has)

pub early_near : (early late : List Mark) → IsClear (early ++ late) → Has what.Far early → ⊥
early_near early late clear has = clear.near (has_left what.Far early late has)

add_of : (first : Option UnitPart) (early late : List Mark) → IsClear (early ++ late) → IfSome first GoodUnit → IfSome first (λ u. is_some (op_in_add u.op) ≡ true)
    → IfSome first (λ u. (w : What) → Has w (unit_marks false u []) → Has w early) → IfSome (unit_does op_in_add first) (AddSaid early)
add_of None early late clear good op told = tt
add_of (Some u) early late clear good op told =
    add_said u early good (unit_said false u early good told (early_right early late clear) (early_near early late clear)) op

mul_of : (second : Option UnitPart) (early late : List Mark) → IsClear (early ++ late) → IfSome second GoodUnit → IfSome second (λ u. is_some (op_in_mul u.op) ≡ true)
    → IfSome second (λ u. (w : What) → Has w (unit_marks true u []) → Has w early) → IfSome (unit_does op_in_mul second) (MulSaid early)
mul_of None early late clear good op told = tt
mul_of (Some u) early late clear good op told =
    mul_said u early good (unit_said true u early good told (early_right early late clear) (early_near early late clear)) op

-- a unit's target is among its own marks
writes_told : (mul : Bool) (u : UnitPart) (early late : List Mark) → GoodUnit u → IsClear (early ++ late) → ((w : What) → Has w (unit_marks mul u []) → Has w early)
    → Has (what.Writes (place_of u.to.core)) (unit_marks mul u [])
writes_told mul u early late good clear told =
    (unit_said mul u (unit_marks mul u []) good (λ w has. has) (λ has. early_right early late clear (told what.Wrong has)) (λ has. early_near early late clear (told what.Far has))).to

apart : (first second : Option UnitPart) (rest : List Part) (early : List Mark) → IsSpoken first second rest early
    → cross (to_of (unit_does op_in_add first)) (to_of (unit_does op_in_mul second)) ≡ false
unfolding unit_of
apart None None rest early s = refl
apart None (Some v) rest early s = refl
apart (Some u) None rest early s = cross_nowhere (place_of u.to.core)
apart (Some u) (Some v) rest early s =
    s.clear.writes (place_of u.to.core) (place_of v.to.core)
    (s.order (what.Writes (place_of u.to.core)) (what.Writes (place_of v.to.core))
    (writes_told false u early (later_marks rest) s.add_good s.clear s.add_told) (writes_told true v early (later_marks rest) s.mul_good s.clear s.mul_told))

sets_there : (first second : Option UnitPart) → (unit_sets first || unit_sets second) ≡ true → (is_some (unit_does op_in_add first) || is_some (unit_does op_in_mul second)) ≡ true
sets_there (Some u) second sets = refl
sets_there None (Some v) sets = refl
sets_there None None sets = sets

second_there : (second : Option UnitPart) → is_some second ≡ true → is_some (unit_does op_in_mul second) ≡ true
second_there None some = some
second_there (Some v) some = refl

pub line : (first second : Option UnitPart) (rest : List Part) (early : List Mark) → IsSpoken first second rest early
    → IsLine (units_by first second rest) (first_told other_a_part rest) (first_told other_b_part rest) early (later_marks rest)
line first second rest early s =
    let right : Has what.Wrong (later_marks rest) → ⊥ = λ has. s.clear.right (has_right what.Wrong early (later_marks rest) has) in
    record {
      clear = s.clear;
      add = add_of first early (later_marks rest) s.clear s.add_good s.add_op s.add_told;
      mul = mul_of second early (later_marks rest) s.clear s.mul_good s.mul_op s.mul_told;
      apart = apart first second rest early s;
      sets = sets_there first second;
      signal = signal_told (later_marks rest) rest s.good (λ w has. has);
      turning = λ turn. second_there second (s.turning (turn_there rest s.good turn));
      other_a = other_a_told (later_marks rest) rest s.good (λ w has. has) right;
      other_b = other_b_told (later_marks rest) rest s.good (λ w has. has) right;
      is_a = refl;
      is_b = refl;
    }

spoken_has_word : (first second : Option UnitPart) (rest : List Part) (early : List Mark) → IsSpoken first second rest early → HasWord (instruction.Both (units_by first second rest))
spoken_has_word first second rest early s =
    let l = line first second rest early s in (
      held (units_by first second rest) (first_told other_a_part rest) (first_told other_b_part rest) early (later_marks rest) l,
      named (units_by first second rest) (first_told other_a_part rest) (first_told other_b_part rest) early (later_marks rest) l,
    )

-- the first part as a unit

abbrev pub FirstIs : Part → Option UnitPart → Type 0
FirstIs head None = Unit {0}
FirstIs head (Some u) = (GoodUnit u) × (is_some (op_in_add u.op) ≡ true) × ((w : What) → Has w (unit_marks false u []) → Has w (part_marks false [] head))

first_good : (head : Part) (first : Option UnitPart) → FirstIs head first → IfSome first GoodUnit
first_good head None is = tt
first_good head (Some u) is = is.0

first_op : (head : Part) (first : Option UnitPart) → FirstIs head first → IfSome first (λ u. is_some (op_in_add u.op) ≡ true)
first_op head None is = tt
first_op head (Some u) is = is.1

first_told_by : (head : Part) (first : Option UnitPart) (early : List Mark) → FirstIs head first → ((w : What) → Has w (part_marks false [] head) → Has w early)
    → IfSome first (λ u. (w : What) → Has w (unit_marks false u []) → Has w early)
first_told_by head None early is inside = tt
first_told_by head (Some u) early is inside = λ w has. inside w (is.2 w has)

-- with a second unit

two_marks : (head : Part) (v : UnitPart) (rest : List Part) → marks_of (head ∷ part.Unit v ∷ rest) ≡ (part_marks false [] head ++ unit_marks true v []) ++ later_marks rest
unfolding marks_of part_marks
two_marks head v rest =
    grows_later (part_marks true (part_marks false [] head) (part.Unit v)) rest
    ∙ ap (λ xs. xs ++ later_marks rest) (grows_part true (part.Unit v) (part_marks false [] head))

two_order : (head : Part) (first : Option UnitPart) (v : UnitPart) (late : List Mark) → FirstIs head first
    → IfSome first (λ u. (a b : What) → Has a (unit_marks false u []) → Has b (unit_marks true v []) → Before a b ((part_marks false [] head ++ unit_marks true v []) ++ late))
two_order head None v late is = tt
two_order head (Some u) v late is =
    λ a b one other. before_left a b (part_marks false [] head ++ unit_marks true v []) late (before_join a b (part_marks false [] head) (unit_marks true v []) (is.2 a one) other)

pub two_spoken : (head : Part) (first : Option UnitPart) (v : UnitPart) (rest : List Part) → FirstIs head first → IsOrdered (part.Unit v ∷ rest) → Each GoodPart (part.Unit v ∷ rest)
    → IsClear (marks_of (head ∷ part.Unit v ∷ rest)) → IsSpoken first (Some v) rest (part_marks false [] head ++ unit_marks true v [])
two_spoken head first v rest is ordered good clear =
    let early = part_marks false [] head ++ unit_marks true v [] in
    record {
      clear = subst IsClear (two_marks head v rest) clear;
      add_good = first_good head first is;
      add_op = first_op head first is;
      add_told = first_told_by head first early is (λ w has. has_left w (part_marks false [] head) (unit_marks true v []) has);
      mul_good = good.0;
      mul_op = ordered.fits;
      mul_told = λ w has. has_right w (part_marks false [] head) (unit_marks true v []) has;
      order = two_order head first v (later_marks rest) is;
      good = good.1;
      turning = λ turn. refl;
    }

two_have_words : (head : Part) (first : Option UnitPart) (v : UnitPart) (rest : List Part) → FirstIs head first → IsOrdered (part.Unit v ∷ rest) → Each GoodPart (part.Unit v ∷ rest)
    → IsClear (marks_of (head ∷ part.Unit v ∷ rest)) → HasWord (instruction.Both (units_of_parts first (part.Unit v ∷ rest)))
unfolding units_of_parts
two_have_words head first v rest is ordered good clear =
    spoken_has_word first (Some v) rest (part_marks false [] head ++ unit_marks true v []) (two_spoken head first v rest is ordered good clear)

-- without one

one_marks : (head : Part) (later : List Part) → marks_of (head ∷ later) ≡ part_marks false [] head ++ later_marks later
unfolding marks_of
one_marks head later = grows_later (part_marks false [] head) later

one_order : (head : Part) (first : Option UnitPart) (all : List Mark)
    → IfSome first (λ u. IfSome None (λ (v : UnitPart). (a b : What) → Has a (unit_marks false u []) → Has b (unit_marks true v []) → Before a b all))
one_order head None all = tt
one_order head (Some u) all = tt

pub one_spoken : (head : Part) (first : Option UnitPart) (later : List Part) → FirstIs head first → has_second later ≡ false → IsOrdered later → Each GoodPart later
    → IsClear (marks_of (head ∷ later)) → IsSpoken first None later (part_marks false [] head)
one_spoken head first later is alone ordered good clear = record {
  clear = subst IsClear (one_marks head later) clear;
  add_good = first_good head first is;
  add_op = first_op head first is;
  add_told = first_told_by head first (part_marks false [] head) is (λ w has. has);
  mul_good = tt;
  mul_op = tt;
  mul_told = tt;
  order = one_order head first (part_marks false [] head ++ later_marks later);
  good = good;
  turning = λ turn. (let there : has_second later ≡ true = ordered.rotations turn in sym alone ∙ there);
}

pub alone_units : (first : Option UnitPart) (later : List Part) → mul_in later ≡ None → units_of_parts first later ≡ units_by first None later
unfolding units_of_parts
alone_units first later e = rw e refl

one_has_word : (head : Part) (first : Option UnitPart) (later : List Part) → FirstIs head first → mul_in later ≡ None → has_second later ≡ false → IsOrdered later → Each GoodPart later
    → IsClear (marks_of (head ∷ later)) → HasWord (instruction.Both (units_of_parts first later))
one_has_word head first later is none alone ordered good clear =
    let P : Units → Type 0 = λ u. HasWord (instruction.Both u) in
    subst P (sym (alone_units first later none)) (spoken_has_word first None later (part_marks false [] head) (one_spoken head first later is alone ordered good clear))

units_have_words : (head : Part) (first : Option UnitPart) (later : List Part) → FirstIs head first → IsOrdered later → Each GoodPart later
    → IsClear (marks_of (head ∷ later)) → HasWord (instruction.Both (units_of_parts first later))
units_have_words head first [] is ordered good clear = one_has_word head first [] is refl refl ordered good clear
units_have_words head first (part.Unit v ∷ rest) is ordered good clear = two_have_words head first v rest is ordered good clear
units_have_words head first (part.Nop ∷ rest) is ordered good clear = one_has_word head first (part.Nop ∷ rest) is refl refl ordered good clear
units_have_words head first (part.Load l ∷ rest) is ordered good clear = one_has_word head first (part.Load l ∷ rest) is refl refl ordered good clear
units_have_words head first (part.Also a ∷ rest) is ordered good clear = one_has_word head first (part.Also a ∷ rest) is refl refl ordered good clear
units_have_words head first (part.Increment p ∷ rest) is ordered good clear = one_has_word head first (part.Increment p ∷ rest) is refl refl ordered good clear
units_have_words head first (part.Decrement p ∷ rest) is ordered good clear = one_has_word head first (part.Decrement p ∷ rest) is refl refl ordered good clear
units_have_words head first (part.Branch b ∷ rest) is ordered good clear = one_has_word head first (part.Branch b ∷ rest) is refl refl ordered good clear
units_have_words head first (part.Link p ∷ rest) is ordered good clear = one_has_word head first (part.Link p ∷ rest) is refl refl ordered good clear
units_have_words head first (part.Row p ∷ rest) is ordered good clear = one_has_word head first (part.Row p ∷ rest) is refl refl ordered good clear
units_have_words head first (part.Signal s token ∷ rest) is ordered good clear = one_has_word head first (part.Signal s token ∷ rest) is refl refl ordered good clear
units_have_words head first (part.Rotate token p ∷ rest) is ordered good clear = one_has_word head first (part.Rotate token p ∷ rest) is refl refl ordered good clear
units_have_words head first (part.ReadA p ∷ rest) is ordered good clear = one_has_word head first (part.ReadA p ∷ rest) is refl refl ordered good clear
units_have_words head first (part.ReadB p ∷ rest) is ordered good clear = one_has_word head first (part.ReadB p ∷ rest) is refl refl ordered good clear

-- any line

pub same_marks : (u : UnitPart) (w : What) → Has w (unit_marks false u []) → Has w (part_marks false [] (part.Unit u))
unfolding part_marks
same_marks u w has = has

meaning_has_word : (at : ℕ) (first : Part) (later : List Part) → GoodPart first → FitsAdd first → IsOrdered later → Each GoodPart later
    → IsClear (marks_of (first ∷ later)) → HasWord (meaning at first later)
unfolding meaning
meaning_has_word at part.Nop later good fits ordered others clear = units_have_words part.Nop None later tt ordered others clear
meaning_has_word at (part.Unit u) later good fits ordered others clear = units_have_words (part.Unit u) (Some u) later (good, fits, same_marks u) ordered others clear
meaning_has_word at (part.Load l) later good fits ordered others clear = loads_have_words l later good others clear
meaning_has_word at (part.Increment p) later good fits ordered others clear = increments_have_words p later clear
meaning_has_word at (part.Decrement p) later good fits ordered others clear = decrements_have_words p later clear
meaning_has_word at (part.Branch b) later good fits ordered others clear = branches_have_words at b later good others clear
meaning_has_word at (part.Also a) later good fits ordered others clear = units_have_words (part.Also a) None later tt ordered others clear
meaning_has_word at (part.Link p) later good fits ordered others clear = units_have_words (part.Link p) None later tt ordered others clear
meaning_has_word at (part.Row p) later good fits ordered others clear = units_have_words (part.Row p) None later tt ordered others clear
meaning_has_word at (part.Signal s token) later good fits ordered others clear = units_have_words (part.Signal s token) None later tt ordered others clear
meaning_has_word at (part.Rotate token p) later good fits ordered others clear = units_have_words (part.Rotate token p) None later tt ordered others clear
meaning_has_word at (part.ReadA p) later good fits ordered others clear = units_have_words (part.ReadA p) None later tt ordered others clear
meaning_has_word at (part.ReadB p) later good fits ordered others clear = units_have_words (part.ReadB p) None later tt ordered others clear

abbrev LineHasWord : Result Line AsmFault → Type 0
LineHasWord (Ok (Says i)) = HasWord i
LineHasWord (Ok (Raw n)) = Unit {0}
LineHasWord (Err fault) = Unit {0}

judged : (at : ℕ) (first : Part) (later : List Part) (o : Option AsmFault) → GoodParts (first ∷ later) → line_fault (marks_of (first ∷ later)) ≡ o
    → LineHasWord (by_fault o (Says (meaning at first later)))
judged at first later (Some fault) good is = tt
judged at first later None good is =
    meaning_has_word at first later good.each.0 good.ordered.0 good.ordered.1 good.each.1 (is_clear (marks_of (first ∷ later)) is)

parts_have_word : (at : ℕ) (end : Token) (r : Result (List Part) Token) → GivesPart GoodParts r → LineHasWord (by_parts at end r)
parts_have_word at end (Err token) good = tt
parts_have_word at end (Ok []) good = tt
parts_have_word at end (Ok (first ∷ later)) good = judged at first later (line_fault (marks_of (first ∷ later))) good refl

known_have_word : (at : ℕ) (end : Token) (sections : List SectionTokens) (o : Option Token) → GivesPart GoodParts (parts_of sections) → LineHasWord (by_unknown at end sections o)
known_have_word at end sections (Some token) good = tt
known_have_word at end sections None good = parts_have_word at end (parts_of sections) good

instruction_has_word : (at : ℕ) (end : Token) (xs : List Placed) → Good xs → LineHasWord (instruction_line at end xs)
unfolding instruction_line
instruction_has_word at end xs good =
    known_have_word at end (sections_of end xs) (first_of (λ s. unknown_in s.tokens) (sections_of end xs)) (line_good end xs good)

-- a directive says no instruction
abbrev pub IsRaw : Line → Type 0
IsRaw (Raw n) = Unit {0}
IsRaw (Says i) = ⊥

raw_symbol : (s : Symbol) (dot end : Token) (rest : List Placed) → GivesPart IsRaw (directive_symbol s dot end rest)
raw_symbol (symbol.Name name.Word) dot end rest = gives_on (λ n. Unit {0}) IsRaw (word_number end rest) (λ n. Ok (Raw n)) (any (word_number end rest)) (λ n is. tt)
  where
    any : (r : Result ℕ Token) → GivesPart (λ n. Unit {0}) r
    any (Ok n) = tt
    any (Err token) = tt
raw_symbol (symbol.Name name.Set) dot end rest = tt
raw_symbol _ dot end rest = tt

pub raw_directive : (dot end : Token) (rest : List Placed) → GivesPart IsRaw (directive dot end rest)
raw_directive dot end [] = tt
raw_directive dot end (x ∷ rest) = raw_symbol x.symbol dot end rest

raw_has_word : (r : Result Line Token) → GivesPart IsRaw r → LineHasWord (shaped r)
raw_has_word (Ok (Raw n)) raw = tt
raw_has_word (Ok (Says i)) raw = absurd raw
raw_has_word (Err token) raw = tt

line_by : (a b : Bool) (d i : Result Line AsmFault) (fault : AsmFault) → LineHasWord d → LineHasWord i → LineHasWord (if a then d else if b then Err fault else i)
line_by true b d i fault one other = one
line_by false true d i fault one other = tt
line_by false false d i fault one other = other

line_has_word : (at : ℕ) (end : Token) (xs : List Placed) → Good xs → LineHasWord (read_line at end xs)
unfolding read_line
line_has_word at end [] good = tt
line_has_word at end (x ∷ rest) good =
    line_by (is_dot x.symbol) (is_colon x.symbol) (shaped (directive x.token end rest)) (instruction_line at end (x ∷ rest)) _
    (raw_has_word (directive x.token end rest) (raw_directive x.token end rest)) (instruction_has_word at end (x ∷ rest) good)

pub lines_law : (at : ℕ) (end : Token) (xs : List Placed) (i : Instruction) → All IsProper xs → read_line at end xs ≡ Ok (Says i) → HasWord i
lines_law at end xs i proper e = subst LineHasWord e (line_has_word at end xs (all_good xs proper))

pub all_placed : (text : List ℕ) (labels : Labels) (tokens : List Token) → All IsProper (map (placed_token text labels) tokens)
all_placed text labels [] = λ k d low. absurd (omega arith)
all_placed text labels (t ∷ tokens) = All-cons IsProper (placed_token text labels t) (map (placed_token text labels) tokens) (placed_proper text labels t) (all_placed text labels tokens)

pub text_lines_law : (text : List ℕ) (labels : Labels) (at : ℕ) (end : Token) (tokens : List Token) (i : Instruction)
    → read_line at end (map (placed_token text labels) tokens) ≡ Ok (Says i) → HasWord i
text_lines_law text labels at end tokens i e = lines_law at end (map (placed_token text labels) tokens) i (all_placed text labels tokens) e
