-- A unit's part in whose marks nothing is wrong spells what the unit does.
use Rattle.std.proofs.Common.{◌≡◌, ℕ, Bool, true, false, List, [], ◌∷◌, ◌++◌, inl, Option, Some, refl, sym, subst, ap, ◌∙◌, append_assoc}
use Rattle.std.specs.Prelude.{not}
use Rattle.qpu_line.specs.declared.name.Name.{Name}
use Rattle.qpu_line.specs.declared.symbol.Symbol.{Symbol}
use Rattle.qpu_line.specs.declared.symbol.Symbol.TheVariants as symbol
use Rattle.qpu_asm.specs.declared.placed.Placed.{Placed}
use Rattle.qpu_asm.specs.declared.part.UnitPart.{UnitPart}
use Rattle.qpu_asm.specs.declared.mark.What.{What}
use Rattle.qpu_asm.specs.declared.mark.What.TheVariants as what
use Rattle.qpu_asm.specs.Roles.{takes_one}
use Rattle.qpu_asm.specs.reader.Marks.{mark_if, suffix_marks, target_place, place_mark, pack_marks, target_marks, operand_marks, unit_marks}
use Rattle.qpu_asm.specs.reader.Meanings.{sets_in, place_of, unit_of}
use Rattle.qpu_asm.specs.Laws.{symbols_of}
use Rattle.qpu_asm.specs.Spells.{SpellsUnit}
use Rattle.qpu_asm.specs.Spells.SpellsUnit.{unit}
use Rattle.qpu_asm.proofs.MarkLemmas.{Has}
use Rattle.qpu_asm.proofs.GrowLemmas.{Marking, grown_old, grows_suffixes, grows_place, grows_pack, grows_target, grows_operand}
use Rattle.qpu_asm.proofs.AgainSpelled.{Spelled}
use Rattle.qpu_asm.proofs.SpellsTold.{UnitTold, conditions_of, suffix_symbols}
use Rattle.qpu_asm.proofs.SpellsPieces.{Spares, spares_old, spares_new, MnemonicSpelled, mnemonic_spelled, target_spelled, pack_spelled, operands_spelled, sets_marked}

pub spelled_symbols : (ss : List Symbol) (xs : List Placed) → Spelled ss xs [] → symbols_of xs ≡ ss
spelled_symbols [] xs h = rw h refl
spelled_symbols (s ∷ ss) [] h = absurd h
spelled_symbols (s ∷ ss) (x ∷ xs) h = rw (h.0, spelled_symbols ss xs h.1) refl

-- what a unit's marks spare, piece by piece
pub record UnitSpares (w : What) (mul : Bool) (u : UnitPart) : Type 0 where
  pub suffixes : Spares w (suffix_marks mul u.suffixes)
  pub place : Spares w (place_mark (target_place u.to.core) u.to.token)
  pub pack : Spares w (pack_marks (target_place u.to.core) u.to.suffix)
  pub a : Spares w (operand_marks mul u.a)
  pub b : Spares w (operand_marks mul u.b)

pub unit_spares : (w : What) (mul : Bool) (u : UnitPart) → Spares w (unit_marks mul u) → UnitSpares w mul u
unfolding unit_marks target_marks
unit_spares w mul u h =
    let adding : Marking = mark_if (not mul) what.Adds u.token in
    let suffixing : Marking = suffix_marks mul u.suffixes in
    let placing : Marking = place_mark (target_place u.to.core) u.to.token in
    let packing : Marking = pack_marks (target_place u.to.core) u.to.suffix in
    let first : Marking = operand_marks mul u.a in
    let second : Marking = operand_marks mul u.b in
    let three : Marking = λ ms. packing (placing (suffixing (adding ms))) in
    let of_first : Spares w (λ ms. first (three ms)) = spares_old w (λ ms. first (three ms)) second (grows_operand mul u.b) h in
    let of_three : Spares w three = spares_old w three first (grows_operand mul u.a) of_first in
    let of_two : Spares w (λ ms. placing (suffixing (adding ms))) = spares_old w (λ ms. placing (suffixing (adding ms))) packing (grows_pack (target_place u.to.core) u.to.suffix) of_three in
    let of_one : Spares w (λ ms. suffixing (adding ms)) = spares_old w (λ ms. suffixing (adding ms)) placing (grows_place (target_place u.to.core) u.to.token) of_two in
    record {
      suffixes = spares_new w adding suffixing (grows_suffixes mul u.suffixes) of_one;
      place = spares_new w (λ ms. suffixing (adding ms)) placing (grows_place (target_place u.to.core) u.to.token) of_two;
      pack = spares_new w (λ ms. placing (suffixing (adding ms))) packing (grows_pack (target_place u.to.core) u.to.suffix) of_three;
      a = spares_new w three first (grows_operand mul u.a) of_first;
      b = spares_new w (λ ms. first (three ms)) second (grows_operand mul u.b) h;
    }

parted : (c f t k z conditions : List Symbol) → conditions ≡ c ++ f → conditions ++ ((t ++ k) ++ z) ≡ c ++ (f ++ (t ++ (k ++ z)))
parted c f t k z conditions e = ap (λ y. y ++ ((t ++ k) ++ z)) e ∙ (append_assoc c f ((t ++ k) ++ z) ∙ ap (λ y. c ++ (f ++ y)) (append_assoc t k z))

pub unit_spelled : (has : Name → Option ℕ) (mul : Bool) (n : Name) (xs : List Placed) (u : UnitPart) (op : ℕ) → UnitTold n xs u → has n ≡ Some op
    → Spares what.Wrong (unit_marks mul u) → Spares what.Far (unit_marks mul u) → SpellsUnit has (symbol.Name n ∷ symbols_of xs) (sets_in u.suffixes) (unit_of op u)
unfolding unit_of
unit_spelled has mul n xs u op told named right near =
    let w : UnitSpares what.Wrong mul u = unit_spares what.Wrong mul u right in
    let f : UnitSpares what.Far mul u = unit_spares what.Far mul u near in
    let m : MnemonicSpelled u.suffixes = mnemonic_spelled mul u.suffixes w.suffixes in
    let to = target_spelled u.to.core told.t u.to.token told.to w.place in
    let pack = pack_spelled (target_place u.to.core) u.to.suffix w.pack in
    let operands = operands_spelled mul (takes_one n) u.a u.b told.x told.operands w.a f.a w.b f.b in
    let P : List Symbol → Type 0 = λ z. SpellsUnit has (symbol.Name n ∷ z) (sets_in u.suffixes) (unit_of op u) in
    let e : symbols_of xs ≡ m.c ++ (m.f ++ (told.t ++ (suffix_symbols u.to.suffix ++ symbol.Comma ∷ told.x))) =
    spelled_symbols _ xs told.there ∙ parted m.c m.f told.t (suffix_symbols u.to.suffix) (symbol.Comma ∷ told.x) (conditions_of u.suffixes) m.whole in
    subst P (sym e) (unit named (m.condition (place_of u.to.core)) m.flags to pack operands)

-- the add unit's part tells that the unit is active, the mul unit's that it sets flags

pub adds_marked : (u : UnitPart) → Has what.Adds (unit_marks false u [])
unfolding unit_marks
adds_marked u =
    let start = mark_if true what.Adds u.token [] in
    let first = suffix_marks false u.suffixes start in
    let second = target_marks u.to first in
    grown_old (operand_marks false u.b) (grows_operand false u.b) what.Adds (operand_marks false u.a second)
    (grown_old (operand_marks false u.a) (grows_operand false u.a) what.Adds second
    (grown_old (target_marks u.to) (grows_target u.to) what.Adds first
    (grown_old (suffix_marks false u.suffixes) (grows_suffixes false u.suffixes) what.Adds start (inl refl))))

pub flags_marked : (u : UnitPart) → Spares what.Wrong (unit_marks true u) → sets_in u.suffixes ≡ true → Has what.MulSets (unit_marks true u [])
unfolding unit_marks
flags_marked u h e =
    let first = suffix_marks true u.suffixes [] in
    let second = target_marks u.to first in
    grown_old (operand_marks true u.b) (grows_operand true u.b) what.MulSets (operand_marks true u.a second)
    (grown_old (operand_marks true u.a) (grows_operand true u.a) what.MulSets second
    (grown_old (target_marks u.to) (grows_target u.to) what.MulSets first (sets_marked u.suffixes (unit_spares what.Wrong true u h).suffixes e)))
