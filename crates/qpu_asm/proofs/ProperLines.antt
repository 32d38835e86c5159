-- The parts of a line whose names are the language's, and which of them follow which.
use Rattle.std.proofs.Common.{◌≡◌, suc, inl, inr, Bool, true, false, List, [], ◌∷◌, ◌++◌, fold, None, Result, Ok, Err, refl, sym, ◌∙◌, arith}
use Rattle.std.specs.Prelude.{◌&&◌, ◌||◌, not, All, is_some, ◌⊎◌, if◌then◌else◌}
use Rattle.std.specs.List.{list_any}
use Rattle.qpu_token.specs.declared.token.Token.{Token}
use Rattle.qpu_line.specs.declared.name.Name.{Name}
use Rattle.qpu_line.specs.declared.name.Name.TheVariants as name
use Rattle.qpu_line.specs.declared.symbol.Symbol.{Symbol}
use Rattle.qpu_line.specs.declared.symbol.Symbol.TheVariants as symbol
use Rattle.qpu_asm.specs.declared.placed.Placed.{Placed}
use Rattle.qpu_asm.specs.declared.part.BranchPart.{BranchPart}
use Rattle.qpu_asm.specs.declared.part.Part.{Part}
use Rattle.qpu_asm.specs.declared.part.Part.TheVariants as part
use Rattle.qpu_asm.specs.Roles.{op_in_add, op_in_mul}
use Rattle.qpu_asm.specs.reader.Parts.{part_by}
use Rattle.qpu_asm.specs.Forms.{begins, is_nop}
use Rattle.qpu_asm.specs.reader.Orders.{is_unit, is_rotation, is_empty, extra, unit_follows, load_follows, branch_follows, follows, due}
use Rattle.qpu_asm.specs.SectionTokens.{SectionTokens}
use Rattle.qpu_asm.specs.Signs.{is_semicolon}
use Rattle.qpu_asm.specs.reader.Sections.{Cutting, nothing_cut, put_section, cut_on, sections_of, part_after_symbol, part_after, parts_on, parts_of}
use Rattle.qpu_asm.specs.Laws.{IsProperSymbol, IsProper}
use Rattle.qpu_asm.proofs.GoodNames.{name_good}
use Rattle.qpu_asm.proofs.ProperParts.{Each, each_append, GoodPart, GoodSymbol, GoodPlaced, Good, GivesPart, gives_on, is_op, is_rotate, IsMade, part_good}
use Rattle.qpu_asm.proofs.TestLemmas.{both_true}

-- tokens

symbol_good : (s : Symbol) → IsProperSymbol s → GoodSymbol s
symbol_good (symbol.Name n) proper = name_good n proper
symbol_good _ proper = tt

pub all_good : (xs : List Placed) → All IsProper xs → Good xs
all_good [] proper = tt
all_good (x ∷ xs) proper = (symbol_good x.symbol (proper 0 x (omega arith)), all_good xs (λ k d low. proper (suc k) d (omega arith)))

-- sections

abbrev GoodSection : SectionTokens → Type 0
GoodSection s = Good s.tokens

record GoodCutting (c : Cutting) : Type 0 where
  sections : Each GoodSection c.sections
  tokens : Good c.tokens

put_good : (end : Token) (c : Cutting) → GoodCutting c → GoodCutting (put_section end c)
put_good end c good = record { sections = each_append GoodSection c.sections _ good.sections (good.tokens, tt); tokens = tt }

cut_by : (b : Bool) (c : Cutting) (x : Placed) → GoodCutting c → GoodPlaced x
    → GoodCutting (if b then put_section x.token c else record { sections = c.sections; tokens = c.tokens ++ x ∷ [] })
cut_by true c x good proper = put_good x.token c good
cut_by false c x good proper = record { sections = good.sections; tokens = each_append GoodPlaced c.tokens (x ∷ []) good.tokens (proper, tt) }

cut_good : (c : Cutting) (xs : List Placed) → GoodCutting c → Good xs → GoodCutting (fold cut_on c xs)
cut_good c [] good proper = good
cut_good c (x ∷ xs) good proper = cut_good (cut_on c x) xs (cut_by (is_semicolon x.symbol) c x good proper.0) proper.1

sections_good : (end : Token) (xs : List Placed) → Good xs → Each GoodSection (sections_of end xs)
unfolding sections_of
sections_good end xs good = (put_good end _ (cut_good nothing_cut xs (record { sections = tt; tokens = tt }) good)).sections

-- which parts follow which

abbrev pub has_second : List Part → Bool
has_second [] = false
has_second (p ∷ later) = is_unit p

abbrev pub FitsAdd : Part → Type 0
FitsAdd (part.Unit u) = is_some (op_in_add u.op) ≡ true
FitsAdd _ = Unit {0}

abbrev pub FitsMul : Part → Type 0
FitsMul (part.Unit u) = is_some (op_in_mul u.op) ≡ true
FitsMul _ = Unit {0}

abbrev pub SecondFits : List Part → Type 0
SecondFits [] = Unit {0}
SecondFits (p ∷ later) = FitsMul p

-- only the second part is the mul unit's; it is there where something rotates
pub record IsOrdered (later : List Part) : Type 0 where
  pub units : list_any is_unit later ≡ true → has_second later ≡ true
  pub rotations : list_any is_rotation later ≡ true → has_second later ≡ true
  pub fits : SecondFits later

abbrev pub AreOrdered : List Part → Type 0
AreOrdered [] = Unit {0}
AreOrdered (first ∷ later) = FitsAdd first × IsOrdered later

-- what may stand behind others

begins_op : (n : Name) → begins n ≡ true → is_op n ≡ true → is_some (op_in_add n) ≡ true
begins_op (name.Add op) first is = refl
begins_op name.Mov first is = refl
begins_op (name.Mul op) first is = absurd (grind (arith, first))
begins_op _ first is = absurd (grind (arith, is))

first_by : (n : Name) (p : Part) → IsMade n p → begins n ≡ true → FitsAdd p
first_by n (part.Unit u) made first = rw made.op (begins_op n first (sym made.unit))
first_by n part.Nop made first = tt
first_by n (part.Load l) made first = tt
first_by n (part.Also a) made first = tt
first_by n (part.Increment q) made first = tt
first_by n (part.Decrement q) made first = tt
first_by n (part.Branch b) made first = tt
first_by n (part.Link q) made first = tt
first_by n (part.Row q) made first = tt
first_by n (part.Signal s token) made first = tt
first_by n (part.Rotate token q) made first = tt
first_by n (part.ReadA q) made first = tt
first_by n (part.ReadB q) made first = tt

record MayFollow (later : List Part) (n : Name) : Type 0 where
  empty : is_op n ≡ true → is_empty later ≡ true
  op : is_op n ≡ true → is_some (op_in_mul n) ≡ true
  turns : is_rotate n ≡ true → list_any is_unit later ≡ true

no_extra : (later : List Part) (n : Name) → is_op n ≡ true → extra later n ≡ false
no_extra later (name.Add op) is = refl
no_extra later (name.Mul op) is = refl
no_extra later name.Mov is = refl
no_extra later _ is = absurd (grind (arith, is))

no_nop : (n : Name) → is_op n ≡ true → is_nop n ≡ false
no_nop name.Nop is = absurd (grind (arith, is))
no_nop _ is = refl

turn_extra : (later : List Part) (n : Name) → is_rotate n ≡ true → extra later n ≡ true → list_any is_unit later ≡ true
turn_extra later name.Rotate is more = (both_true (list_any is_unit later) (not (list_any is_rotation later)) more).0
turn_extra later _ is more = absurd (grind (arith, is))

no_turn : (n : Name) → is_rotate n ≡ true → (op_in_mul n ≡ None) × (is_nop n ≡ false)
no_turn name.Rotate is = (refl, refl)
no_turn _ is = absurd (grind (arith, is))

op_by : (empty some idle nop more : Bool) → ((empty && (some || (idle && nop))) || more) ≡ true → more ≡ false → nop ≡ false → (empty ≡ true) × (some ≡ true)
op_by true true idle nop more e a b = (refl, refl)
op_by true false idle nop more e a b = absurd (grind (arith, e, a, b))
op_by false some idle nop more e a b = absurd (grind (arith, e, a, b))

pub turn_by : (empty some idle nop more : Bool) → ((empty && (some || (idle && nop))) || more) ≡ true → some ≡ false → nop ≡ false → more ≡ true
turn_by empty some idle nop true e a b = refl
turn_by empty some idle nop false e a b = absurd (grind (arith, e, a, b))

unit_may : (idle : Bool) (later : List Part) (n : Name) → unit_follows idle later n ≡ true → MayFollow later n
unit_may idle later n may = record {
  empty = λ is. (op_by (is_empty later) (is_some (op_in_mul n)) idle (is_nop n) (extra later n) may (no_extra later n is) (no_nop n is)).0;
  op = λ is. (op_by (is_empty later) (is_some (op_in_mul n)) idle (is_nop n) (extra later n) may (no_extra later n is) (no_nop n is)).1;
  turns = λ is. turn_extra later n is (turn_by (is_empty later) (is_some (op_in_mul n)) idle (is_nop n) (extra later n) may (rw (no_turn n is).0 refl) (no_turn n is).1);
}

-- names that stand behind loads and branches are neither
neither : (later : List Part) (n : Name) → is_op n ≡ false → is_rotate n ≡ false → MayFollow later n
neither later n op turn = record {
  empty = λ is. absurd (grind (arith, is, op));
  op = λ is. absurd (grind (arith, is, op));
  turns = λ is. absurd (grind (arith, is, turn));
}

load_may : (later : List Part) (n : Name) → load_follows later n ≡ true → MayFollow later n
load_may later name.Also may = neither later name.Also refl refl
load_may later _ may = absurd (grind (arith, may))

branch_may : (b : BranchPart) (later : List Part) (n : Name) → branch_follows b later n ≡ true → MayFollow later n
branch_may b later name.Link may = neither later name.Link refl refl
branch_may b later name.Row may = neither later name.Row refl refl
branch_may b later _ may = absurd (grind (arith, may))

may_follow : (first : Part) (later : List Part) (n : Name) → follows first later n ≡ true → MayFollow later n
may_follow part.Nop later n may = unit_may true later n may
may_follow (part.Unit u) later n may = unit_may false later n may
may_follow (part.Load l) later n may = load_may later n may
may_follow (part.Branch b) later n may = branch_may b later n may
may_follow _ later n may = absurd (grind (arith, may))

-- a part more

fits_by : (n : Name) (p : Part) → IsMade n p → (is_op n ≡ true → is_some (op_in_mul n) ≡ true) → FitsMul p
fits_by n (part.Unit u) made op = rw made.op (op (sym made.unit))
fits_by n part.Nop made op = tt
fits_by n (part.Load l) made op = tt
fits_by n (part.Also a) made op = tt
fits_by n (part.Increment q) made op = tt
fits_by n (part.Decrement q) made op = tt
fits_by n (part.Branch b) made op = tt
fits_by n (part.Link q) made op = tt
fits_by n (part.Row q) made op = tt
fits_by n (part.Signal s token) made op = tt
fits_by n (part.Rotate token q) made op = tt
fits_by n (part.ReadA q) made op = tt
fits_by n (part.ReadB q) made op = tt

any_end : (kind : Part → Bool) (parts : List Part) (p : Part) → list_any kind (parts ++ p ∷ []) ≡ true → (list_any kind parts ≡ true) ⊎ (kind p ≡ true)
any_end kind [] p some = inr (or_false (kind p) some)
  where
    or_false : (b : Bool) → (b || false) ≡ true → b ≡ true
    or_false true e = refl
    or_false false e = e
any_end kind (q ∷ parts) p some = by_head (kind q) refl some (any_end kind parts p)
  where
    by_head : (b : Bool) → kind q ≡ b → (kind q || list_any kind (parts ++ p ∷ [])) ≡ true
        → (list_any kind (parts ++ p ∷ []) ≡ true → (list_any kind parts ≡ true) ⊎ (kind p ≡ true))
        → ((kind q || list_any kind parts) ≡ true) ⊎ (kind p ≡ true)
    by_head true e some more = inl (rw e refl)
    by_head false e some more = rw e (more (rw e at some))

from_either : {A B P : Type 0} → A ⊎ B → (A → P) → (B → P) → P
from_either (inl a) f g = f a
from_either (inr b) f g = g b

ordered_end : (later : List Part) (n : Name) (p : Part) → IsOrdered later → MayFollow later n → IsMade n p → IsOrdered (later ++ p ∷ [])
ordered_end [] n p ordered may made = record {
  units = λ some. from_either (any_end is_unit [] p some) (λ never. absurd (grind (arith, never))) (λ is. is);
  rotations = λ some. from_either (any_end is_rotation [] p some) (λ never. absurd (grind (arith, never)))
      (λ is. absurd (let e : false ≡ true = may.turns (sym made.rotation ∙ is) in grind (arith, e)));
  fits = fits_by n p made may.op;
}
ordered_end (q ∷ later) n p ordered may made = record {
  units = λ some. from_either (any_end is_unit (q ∷ later) p some) ordered.units
      (λ is. absurd (let e : false ≡ true = may.empty (sym made.unit ∙ is) in grind (arith, e)));
  rotations = λ some. from_either (any_end is_rotation (q ∷ later) p some) ordered.rotations (λ is. ordered.units (may.turns (sym made.rotation ∙ is)));
  fits = ordered.fits;
}

none_ordered : IsOrdered []
none_ordered = record { units = λ e. absurd (grind (arith, e)); rotations = λ e. absurd (grind (arith, e)); fits = tt }

line_end : (earlier : List Part) (n : Name) (p : Part) → AreOrdered earlier → due earlier n ≡ true → IsMade n p → AreOrdered (earlier ++ p ∷ [])
unfolding due
line_end [] n p ordered may made = (first_by n p made may, none_ordered)
line_end (first ∷ later) n p ordered may made = (ordered.0, ordered_end later n p ordered.1 (may_follow first later n may) made)

-- the whole line

pub record GoodParts (parts : List Part) : Type 0 where
  pub each : Each GoodPart parts
  pub ordered : AreOrdered parts

abbrev IsDue : List Part → Part → Type 0
IsDue earlier p = (n : Name) × (due earlier n ≡ true) × IsMade n p

due_by : (earlier : List Part) (n : Name) (b : Bool) (token end : Token) (xs : List Placed) → Good xs → due earlier n ≡ b
    → GivesPart (IsDue earlier) (if b then part_by n token end xs else Err token)
due_by earlier n true token end xs good is = made (part_by n token end xs) (part_good n token end xs good)
  where
    made : (r : Result Part Token) → GivesPart (IsMade n) r → GivesPart (IsDue earlier) r
    made (Ok p) g = (n, is, g)
    made (Err t) g = tt
due_by earlier n false token end xs good is = tt

symbol_due : (earlier : List Part) (s : Symbol) (token end : Token) (xs : List Placed) → Good xs → GivesPart (IsDue earlier) (part_after_symbol earlier s token end xs)
symbol_due earlier (symbol.Name n) token end xs good = due_by earlier n (due earlier n) token end xs good refl
symbol_due earlier _ token end xs good = tt

part_due : (earlier : List Part) (end : Token) (xs : List Placed) → Good xs → GivesPart (IsDue earlier) (part_after earlier end xs)
part_due earlier end [] good = tt
part_due earlier end (x ∷ xs) good = symbol_due earlier x.symbol x.token end xs good.1

parts_more : (read : Result (List Part) Token) (s : SectionTokens) → GivesPart GoodParts read → GoodSection s → GivesPart GoodParts (parts_on read s)
parts_more read s good section =
    gives_on GoodParts GoodParts read _ good
    (λ earlier is. gives_on (IsDue earlier) GoodParts (part_after earlier s.end s.tokens) _ (part_due earlier s.end s.tokens section)
    (λ p made. record { each = each_append GoodPart earlier (p ∷ []) is.each (made.2.good, tt); ordered = line_end earlier made.0 p is.ordered made.1 made.2 }))

parts_fold : (read : Result (List Part) Token) (sections : List SectionTokens) → GivesPart GoodParts read → Each GoodSection sections → GivesPart GoodParts (fold parts_on read sections)
parts_fold read [] good each = good
parts_fold read (s ∷ sections) good each = parts_fold (parts_on read s) sections (parts_more read s good each.0) each.1

pub line_good : (end : Token) (xs : List Placed) → Good xs → GivesPart GoodParts (parts_of (sections_of end xs))
unfolding parts_of
line_good end xs good = parts_fold (Ok []) (sections_of end xs) (record { each = tt; ordered = tt }) (sections_good end xs good)
