-- What lines of loads, branches and semaphores say has a canonical word.
use Rattle.std.proofs.Common.{◌≡◌, ℕ, ◌<◌, inl, Bool, true, false, List, [], ◌∷◌, Option, Some, None, refl, arith}
use Rattle.std.specs.Prelude.{◌==◌, ◌&&◌, ◌^◌, not, nat_le, IfSome, if◌then◌else◌}
use Rattle.std.proofs.lemmas.Bool.Decides.{nat_tests}
use Rattle.qpu_token.specs.declared.token.Token.{Token}
use Rattle.qpu_word.specs.declared.name.Place.{Place}
use Rattle.qpu_word.specs.Words.{is_link_address, between}
use Rattle.qpu_line.specs.declared.name.Name.{Name}
use Rattle.qpu_line.specs.declared.name.Name.TheVariants as name
use Rattle.qpu_line.specs.declared.name.Register.{Register}
use Rattle.qpu_line.specs.declared.name.Register.TheVariants as register
use Rattle.qpu_line.specs.declared.load.Write.{Write}
use Rattle.qpu_line.specs.Targets.{address_of}
use Rattle.qpu_line.specs.Loads.{write_target}
use Rattle.qpu_line.specs.Worded.{IsSemaphore, IsWrite, IsLoad, IsBranch}
use Rattle.qpu_asm.specs.declared.piece.Core.{Core}
use Rattle.qpu_asm.specs.declared.piece.Core.TheVariants as core
use Rattle.qpu_asm.specs.declared.piece.Suffix.{Suffix}
use Rattle.qpu_asm.specs.declared.piece.Piece.{Piece}
use Rattle.qpu_asm.specs.declared.part.LoadPart.{LoadPart}
use Rattle.qpu_asm.specs.declared.part.BranchPart.{BranchPart}
use Rattle.qpu_asm.specs.declared.part.Part.{Part}
use Rattle.qpu_asm.specs.declared.part.Part.TheVariants as part
use Rattle.qpu_asm.specs.declared.mark.What.{What}
use Rattle.qpu_asm.specs.declared.mark.What.TheVariants as what
use Rattle.qpu_asm.specs.declared.mark.Mark.{Mark}
use Rattle.qpu_asm.specs.reader.Marks.{mark_if, suffix_marks, condition_marks, branch_marks, target_place, place_mark, somewhere, any_number, number_between, load_marks, also_marks, jump_marks, jumping_marks, part_marks, marks_of}
use Rattle.qpu_asm.specs.Roles.{if_link}
use Rattle.qpu_asm.specs.Clashes.{cross}
use Rattle.qpu_asm.specs.SpelledPieces.{is_nowhere, way}
use Rattle.qpu_asm.specs.reader.Meanings.{condition_in, nowhere_place, place_of, number_of, first_told, write_in, also_in, load_of_part, distance, target_row, row_part, link_in, branch_of_part, step}
use Rattle.qpu_asm.proofs.GoodNames.{is_placed, is_good}
use Rattle.qpu_asm.proofs.MarkLemmas.{Has, has_left, has_right, Before, before_join, IsClear}
use Rattle.qpu_asm.proofs.ProperParts.{Each, GoodCore, GoodSuffix, GoodLoad, GoodBranch, GoodPart}
use Rattle.qpu_asm.proofs.GrowLemmas.{Marking, grown_old, grown_new, grows_place, grows_any, grows_jump, piece, later_marks, grows_later, later_first, later_rest}
use Rattle.qpu_asm.proofs.TargetLemmas.{condition_fits, branch_fits, placed_fits, written_address, place_told, second_told, IsLink, link_told, second_link_told, TargetsFit, targets_fit, cross_nowhere}
use Rattle.qpu_asm.proofs.TestLemmas.{some_or}

-- the first part's marks stand before the later ones

pub heads : (w : What) (first : Part) (later : List Part) → Has w (part_marks false [] first) → Has w (marks_of (first ∷ later))
unfolding marks_of
heads w first later has = rw (grows_later (part_marks false [] first) later) (has_left w (part_marks false [] first) (later_marks later) has)

pub tails : (w : What) (first : Part) (later : List Part) → Has w (later_marks later) → Has w (marks_of (first ∷ later))
unfolding marks_of
tails w first later has = rw (grows_later (part_marks false [] first) later) (has_right w (part_marks false [] first) (later_marks later) has)

pub head_before : (a b : What) (first : Part) (later : List Part) → Has a (part_marks false [] first) → Has b (later_marks later) → Before a b (marks_of (first ∷ later))
unfolding marks_of
head_before a b first later one other =
    rw (grows_later (part_marks false [] first) later) (before_join a b (part_marks false [] first) (later_marks later) one other)

-- semaphores

low_number : (n : ℕ) (b : Bool) (token : Token) (U : List Mark) → (nat_le 0 n && nat_le n 15) ≡ b → ((w : What) → Has w (mark_if (not b) what.Far token []) → Has w U) → (Has what.Far U → ⊥) → n < 16
low_number n true token U is inside near = grind (arith, nat_tests, is)
low_number n false token U is inside near = absurd (near (inside what.Far (inl refl)))

small_number : (c : Core) (token : Token) (s : Option Suffix) (U : List Mark) → ((w : What) → Has w (number_between 0 15 (piece c token s) []) → Has w U)
    → (Has what.Far U → ⊥) → (Has what.Wrong U → ⊥) → number_of c < 16
small_number (core.Number n) token s U inside near right = low_number n (nat_le 0 n && nat_le n 15) token U refl inside near
small_number (core.Name n) token s U inside near right = absurd (right (inside what.Wrong (inl refl)))
small_number core.Unknown token s U inside near right = absurd (right (inside what.Wrong (inl refl)))
small_number core.Nowhere token s U inside near right = absurd (right (inside what.Wrong (inl refl)))
small_number (core.Label at) token s U inside near right = absurd (right (inside what.Wrong (inl refl)))

pub increments_have_words : (p : Piece) (later : List Part) → IsClear (marks_of (part.Increment p ∷ later)) → IsSemaphore (step false p)
unfolding part_marks
increments_have_words p later clear =
    small_number p.core p.token p.suffix (marks_of (part.Increment p ∷ later)) (λ w has. heads w (part.Increment p) later has) clear.near clear.right

pub decrements_have_words : (p : Piece) (later : List Part) → IsClear (marks_of (part.Decrement p ∷ later)) → IsSemaphore (step true p)
unfolding part_marks
decrements_have_words p later clear =
    small_number p.core p.token p.suffix (marks_of (part.Decrement p ∷ later)) (λ w has. heads w (part.Decrement p) later has) clear.near clear.right

-- loads

-- the second write of later parts, or a first
record IsWritten (U : List Mark) (w : Write) : Type 0 where
  fits : IsWrite w
  placed : is_placed w.to ≡ true
  told : Has (what.Writes w.to) U

write_by : (U : List Mark) (to : Place) (b : Bool) (cond : ℕ) → (address_of to == 39) ≡ b → between 1 cond 7 ≡ true → is_placed to ≡ true → Has (what.Writes to) U
    → IfSome (if b then None else Some (record { cond = cond; to = to })) (IsWritten U)
write_by U to true cond is fits placed told = tt
write_by U to false cond is fits placed told = record {
  fits = record { some = grind (arith, nat_tests, fits); cond = grind (arith, nat_tests, fits); named = written_address to placed; somewhere = is };
  placed = placed;
  told = told;
}

write_told : (U : List Mark) (to : Place) (s : Option Suffix) → GoodSuffix s → is_placed to ≡ true → Has (what.Writes to) U → IfSome (write_in to s) (IsWritten U)
write_told U to s good placed told = write_by U to (is_nowhere to) (condition_in s) refl (condition_fits s good) placed told

also_told : (U : List Mark) (later : List Part) → Each GoodPart later → ((w : What) → Has w (later_marks later) → Has w U) → (Has what.Wrong U → ⊥) → IfSome (also_in later) (IsWritten U)
unfolding part_marks also_marks
also_told U [] good inside right = tt
also_told U (part.Also a ∷ later) good inside right =
    write_told U (place_of a.to.core) a.suffix good.0.suffix (placed_fits a.to.core good.0.to.core)
    (second_told a.to.core a.to.token U
    (λ w has. inside w (later_first w (part.Also a) later (grown_new (place_mark (somewhere a.to.core) a.to.token) (grows_place (somewhere a.to.core) a.to.token) w (condition_marks a.suffix []) has)))
    right)
also_told U (part.Nop ∷ later) good inside right = also_told U later good.1 (λ w has. inside w (later_rest w part.Nop later has)) right
also_told U (part.Unit u ∷ later) good inside right = also_told U later good.1 (λ w has. inside w (later_rest w (part.Unit u) later has)) right
also_told U (part.Load l ∷ later) good inside right = also_told U later good.1 (λ w has. inside w (later_rest w (part.Load l) later has)) right
also_told U (part.Increment p ∷ later) good inside right = also_told U later good.1 (λ w has. inside w (later_rest w (part.Increment p) later has)) right
also_told U (part.Decrement p ∷ later) good inside right = also_told U later good.1 (λ w has. inside w (later_rest w (part.Decrement p) later has)) right
also_told U (part.Branch b ∷ later) good inside right = also_told U later good.1 (λ w has. inside w (later_rest w (part.Branch b) later has)) right
also_told U (part.Link p ∷ later) good inside right = also_told U later good.1 (λ w has. inside w (later_rest w (part.Link p) later has)) right
also_told U (part.Row p ∷ later) good inside right = also_told U later good.1 (λ w has. inside w (later_rest w (part.Row p) later has)) right
also_told U (part.Signal s token ∷ later) good inside right = also_told U later good.1 (λ w has. inside w (later_rest w (part.Signal s token) later has)) right
also_told U (part.Rotate token p ∷ later) good inside right = also_told U later good.1 (λ w has. inside w (later_rest w (part.Rotate token p) later has)) right
also_told U (part.ReadA p ∷ later) good inside right = also_told U later good.1 (λ w has. inside w (later_rest w (part.ReadA p) later has)) right
also_told U (part.ReadB p ∷ later) good inside right = also_told U later good.1 (λ w has. inside w (later_rest w (part.ReadB p) later has)) right

-- two writes of which one stands before the other
both_fit : (a b : Option Write) (A B : List Mark) → IfSome a (IsWritten A) → IfSome b (IsWritten B)
    → ((p q : Place) → Has (what.Writes p) A → Has (what.Writes q) B → cross p q ≡ false) → TargetsFit (write_target a) (write_target b)
both_fit None None A B one other apart = targets_fit nowhere_place nowhere_place refl refl refl
both_fit None (Some w) A B one other apart = targets_fit nowhere_place w.to refl other.placed refl
both_fit (Some v) None A B one other apart = targets_fit v.to nowhere_place one.placed refl (cross_nowhere v.to)
both_fit (Some v) (Some w) A B one other apart = targets_fit v.to w.to one.placed other.placed (apart v.to w.to one.told other.told)

writes_of : (U : List Mark) (o : Option Write) → IfSome o (IsWritten U) → IfSome o IsWrite
writes_of U None is = tt
writes_of U (Some w) is = is.fits

pub low_core : (c : Core) → GoodCore c → number_of c < 2 ^ 32
low_core (core.Number n) good = good
low_core (core.Name n) good = omega arith
low_core core.Unknown good = omega arith
low_core core.Nowhere good = omega arith
low_core (core.Label at) good = omega arith

pub loads_have_words : (l : LoadPart) (later : List Part) → GoodLoad l → Each GoodPart later → IsClear (marks_of (part.Load l ∷ later)) → IsLoad (load_of_part l later)
unfolding load_of_part part_marks load_marks
loads_have_words l later good others clear =
    let U = marks_of (part.Load l ∷ later) in
    let A = part_marks false [] (part.Load l) in
    let B = later_marks later in
    let first_inside : (w : What) → Has w A → Has w U = λ w has. heads w (part.Load l) later has in
    let later_inside : (w : What) → Has w B → Has w U = λ w has. tails w (part.Load l) later has in
    let placing : Marking = place_mark (target_place l.to.core) l.to.token in
    let first : IfSome (write_in (place_of l.to.core) l.suffixes.first) (IsWritten A) =
    write_told A (place_of l.to.core) l.suffixes.first good.suffixes.first (placed_fits l.to.core good.to.core)
    (place_told (target_place l.to.core) l.to.token A
    (λ w has. grown_old (any_number l.value) (grows_any l.value) w (placing (suffix_marks false l.suffixes [])) (grown_new placing (grows_place (target_place l.to.core) l.to.token) w (suffix_marks false l.suffixes []) has))
    (λ has. clear.right (first_inside what.Wrong has))) in
    let second : IfSome (also_in later) (IsWritten B) = also_told B later others (λ w has. has) (λ has. clear.right (later_inside what.Wrong has)) in
    let fit : TargetsFit (write_target (write_in (place_of l.to.core) l.suffixes.first)) (write_target (also_in later)) =
    both_fit (write_in (place_of l.to.core) l.suffixes.first) (also_in later) A B first second
    (λ p q one other. clear.writes p q (head_before (what.Writes p) (what.Writes q) (part.Load l) later one other)) in
    record {
      add = writes_of A (write_in (place_of l.to.core) l.suffixes.first) first;
      mul = writes_of B (also_in later) second;
      add_to = fit.add;
      mul_to = fit.mul;
      immediate = low_core l.value.core good.value.core;
    }

-- branches

distance_fits : (relative : Bool) (at word : ℕ) → way relative at word < 2 ^ 32
distance_fits true at word = omega arith
distance_fits false at word = omega arith

distance_low : (relative : Bool) (at : ℕ) (c : Core) → GoodCore c → distance relative at c < 2 ^ 32
distance_low relative at (core.Number n) good = good
distance_low relative at (core.Label (Some word)) good = distance_fits relative at word
distance_low relative at (core.Label None) good = omega arith
distance_low relative at (core.Name n) good = omega arith
distance_low relative at core.Unknown good = omega arith
distance_low relative at core.Nowhere good = omega arith

abbrev IsRow : ℕ → Type 0
IsRow n = n < 32

row_register : (r : Register) → is_good (name.Register r) ≡ true → IfSome (target_row (core.Name (name.Register r))) IsRow
row_register (register.RowA n) good = grind (arith, nat_tests, good)
row_register (register.RowB n) good = tt
row_register (register.Accumulator n) good = tt
row_register register.Vpm good = tt
row_register (register.Source p) good = tt
row_register (register.Target p) good = tt

row_name : (n : Name) → is_good n ≡ true → IfSome (target_row (core.Name n)) IsRow
row_name (name.Register r) good = row_register r good
row_name _ good = tt

row_low : (c : Core) → GoodCore c → IfSome (target_row c) IsRow
row_low (core.Name n) good = row_name n good
row_low (core.Number n) good = tt
row_low core.Unknown good = tt
row_low core.Nowhere good = tt
row_low (core.Label at) good = tt

row_in_part : (p : Part) → GoodPart p → IfSome (row_part p) IsRow
row_in_part (part.Row p) good = row_low p.core good.core
row_in_part _ good = tt

rows_low : (later : List Part) → Each GoodPart later → IfSome (first_told row_part later) IsRow
rows_low [] good = tt
rows_low (p ∷ later) good = some_or IsRow (row_part p) (first_told row_part later) (row_in_part p good.0) (rows_low later good.1)

-- what later parts link to
record LinksTo (U : List Mark) (p : Place) : Type 0 where
  link : is_link_address (address_of p) ≡ true
  placed : is_placed p ≡ true
  apart : (q : Place) → ((r : Place) → Has (what.Writes r) U → cross q r ≡ false) → cross q p ≡ false

nowhere_linked : (U : List Mark) → LinksTo U nowhere_place
nowhere_linked U = record { link = refl; placed = refl; apart = λ q none. cross_nowhere q }

link_by : (U : List Mark) (p : Place) → is_placed p ≡ true → IsLink p U → LinksTo U p
link_by U p placed is = record { link = is.link; placed = placed; apart = λ q none. none p is.told }

links : (U : List Mark) (later : List Part) → Each GoodPart later → ((w : What) → Has w (later_marks later) → Has w U) → (Has what.Wrong U → ⊥) → LinksTo U (link_in later)
unfolding part_marks
links U [] good inside right = nowhere_linked U
links U (part.Link p ∷ later) good inside right =
    link_by U (place_of p.core) (placed_fits p.core good.0.core)
    (second_link_told p.core p.token U (λ w has. inside w (later_first w (part.Link p) later has)) right)
links U (part.Also a ∷ later) good inside right = links U later good.1 (λ w has. inside w (later_rest w (part.Also a) later has)) right
links U (part.Nop ∷ later) good inside right = links U later good.1 (λ w has. inside w (later_rest w part.Nop later has)) right
links U (part.Unit u ∷ later) good inside right = links U later good.1 (λ w has. inside w (later_rest w (part.Unit u) later has)) right
links U (part.Load l ∷ later) good inside right = links U later good.1 (λ w has. inside w (later_rest w (part.Load l) later has)) right
links U (part.Increment p ∷ later) good inside right = links U later good.1 (λ w has. inside w (later_rest w (part.Increment p) later has)) right
links U (part.Decrement p ∷ later) good inside right = links U later good.1 (λ w has. inside w (later_rest w (part.Decrement p) later has)) right
links U (part.Branch b ∷ later) good inside right = links U later good.1 (λ w has. inside w (later_rest w (part.Branch b) later has)) right
links U (part.Row p ∷ later) good inside right = links U later good.1 (λ w has. inside w (later_rest w (part.Row p) later has)) right
links U (part.Signal s token ∷ later) good inside right = links U later good.1 (λ w has. inside w (later_rest w (part.Signal s token) later has)) right
links U (part.Rotate token p ∷ later) good inside right = links U later good.1 (λ w has. inside w (later_rest w (part.Rotate token p) later has)) right
links U (part.ReadA p ∷ later) good inside right = links U later good.1 (λ w has. inside w (later_rest w (part.ReadA p) later has)) right
links U (part.ReadB p ∷ later) good inside right = links U later good.1 (λ w has. inside w (later_rest w (part.ReadB p) later has)) right

pub branches_have_words : (at : ℕ) (b : BranchPart) (later : List Part) → GoodBranch b → Each GoodPart later → IsClear (marks_of (part.Branch b ∷ later)) → IsBranch (branch_of_part at b later)
unfolding branch_of_part part_marks jumping_marks
branches_have_words at b later good others clear =
    let U = marks_of (part.Branch b ∷ later) in
    let A = part_marks false [] (part.Branch b) in
    let B = later_marks later in
    let first_inside : (w : What) → Has w A → Has w U = λ w has. heads w (part.Branch b) later has in
    let later_inside : (w : What) → Has w B → Has w U = λ w has. tails w (part.Branch b) later has in
    let placing : Marking = place_mark (if_link (target_place b.to.core)) b.to.token in
    let first : IsLink (place_of b.to.core) A =
    link_told (target_place b.to.core) b.to.token A
    (λ w has. grown_old (jump_marks b.target) (grows_jump b.target) w (placing (branch_marks b.suffix [])) (grown_new placing (grows_place (if_link (target_place b.to.core)) b.to.token) w (branch_marks b.suffix []) has))
    (λ has. clear.right (first_inside what.Wrong has)) in
    let second : LinksTo B (link_in later) = links B later others (λ w has. has) (λ has. clear.right (later_inside what.Wrong has)) in
    let apart : cross (place_of b.to.core) (link_in later) ≡ false =
    second.apart (place_of b.to.core)
    (λ r has. clear.writes (place_of b.to.core) r (head_before (what.Writes (place_of b.to.core)) (what.Writes r) (part.Branch b) later first.told has)) in
    let fit : TargetsFit (place_of b.to.core) (link_in later) = targets_fit (place_of b.to.core) (link_in later) (placed_fits b.to.core good.to.core) second.placed apart in
    let cond = branch_fits b.suffix good.suffix in
    record {
      cond = cond.0;
      known = cond.1;
      row = some_or IsRow (target_row b.target.core) (first_told row_part later) (row_low b.target.core good.target.core) (rows_low later others);
      add = first.link;
      mul = second.link;
      add_to = fit.add;
      mul_to = fit.mul;
      immediate = distance_low b.relative at b.target.core good.target.core;
    }
