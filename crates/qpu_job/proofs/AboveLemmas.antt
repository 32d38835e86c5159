-- What stands above a line, part by part.
use Rattle.std.proofs.Common.{◌≡◌, ℕ, ◌+◌, ◌/◌, ◌<◌, ◌≤◌, Bool, false, List, [], ◌∷◌, ◌++◌, length, drop, get_or, map, Option, Some, None, Result, refl, ap, sym, ◌∙◌, append_assoc, append-nil, add-one, arith}
use Rattle.std.specs.Prelude.{position, not, cond}
use Rattle.std.specs.List.{position_or_len}
use Rattle.std.proofs.Math.Seq.{drop-cons}
use Rattle.std.proofs.lemmas.Bool.Decides.{nat_tests}
use Rattle.std.proofs.lemmas.List.{drop_all, length-map}
use Rattle.qpu_word.proofs.ProfileLemmas.{every_row}
use Rattle.qpu_job.specs.declared.job.Value.{Value}
use Rattle.qpu_word.specs.declared.code.TheConstants.{WORD_BYTES}
use Rattle.qpu_job.specs.declared.job.ProgramText.{ProgramText}
use Rattle.qpu_job.specs.declared.fault.JobFault.{JobFault}
use Rattle.qpu_job.specs.declared.above.Above.{Above as Held}
use Rattle.qpu_job.specs.declared.reason.Reason.TheVariants as cause
use Rattle.qpu_job.specs.Shapes.{Data}
use Rattle.qpu_job.specs.Above.{Above, above_of, values_from}
use Rattle.qpu_job.specs.Plan.{program_of}
use Rattle.qpu_job.specs.Reading.{after_inside, after_line, GoesOn}
use Rattle.qpu_job.specs.Faults.{first_reason, has_reason, all_causes, is_no_place}

prefix_map : {A B : Type 0} (f : A → B) (p : B → Bool) (xs : List A) → position_or_len p (map f xs) ≡ position_or_len (λ x. p (f x)) xs
prefix_map f p [] = refl
prefix_map f p (x ∷ xs) = ap (λ (n : ℕ). cond (not (p (f x))) (1 + n) 0) (prefix_map f p xs)

-- the first element that passes, seen through a function
pub position_map : {A B : Type 0} (f : A → B) (p : B → Bool) (xs : List A) → position p (map f xs) ≡ position (λ x. p (f x)) xs
position_map f p xs = rw (prefix_map f p xs, length-map xs f) refl

-- one more value
pub values_more : (front all : List Value) (at k : ℕ) (numbers : List ℕ) (d : ℕ) → k < length numbers
    → front ++ values_from (at + k) (drop k numbers) ≡ all
    → (front ++ record { at = at + k; value = get_or numbers k d } ∷ []) ++ values_from (at + (k + 1)) (drop (k + 1) numbers) ≡ all
unfolding values_from
values_more front all at k numbers d below so_far =
    let here : drop k numbers ≡ get_or numbers k d ∷ drop (k + 1) numbers = rw (add-one, drop-cons numbers k d) refl in
    let next : at + (k + 1) ≡ at + k + 1 = omega arith in
    let split : values_from (at + k) (drop k numbers) ≡ record { at = at + k; value = get_or numbers k d } ∷ values_from (at + k + 1) (drop (k + 1) numbers) = rw here refl in
    rw (next, append_assoc front (record { at = at + k; value = get_or numbers k d } ∷ []) (values_from (at + k + 1) (drop (k + 1) numbers)), ← split) so_far

pub values_done : (front all : List Value) (at k : ℕ) (numbers : List ℕ) → length numbers ≤ k
    → front ++ values_from (at + k) (drop k numbers) ≡ all → front ≡ all
unfolding values_from
values_done front all at k numbers past so_far =
    let split : front ++ values_from (at + k) (drop k numbers) ≡ front = rw (drop_all k numbers past) (append-nil front) in
    sym split ∙ so_far

-- values that have their places lie in memory
place_by : (address : ℕ) (values : List ℕ) (above : Above) → is_no_place above (Data address values) ≡ false → address / WORD_BYTES + length values ≤ above.plan.words
unfolding is_no_place
place_by address values above h = grind (arith, nat_tests)

pub place_fits : (address : ℕ) (values : List ℕ) (above : Above) → first_reason above (Data address values) ≡ None → address / WORD_BYTES + length values ≤ above.plan.words
unfolding first_reason
place_fits address values above h =
    place_by address values above (every_row (has_reason above (Data address values)) all_causes h 6 cause.Place (omega arith))

-- a line inside a program, whose text stands apart
pub line_inside : (held : Held) (program : ProgramText) (left : Option ProgramText) (next : Above) (r : Result (Unit {0}) JobFault) (number : ℕ) (line : List ℕ)
    → Some program ≡ held.inside → left ≡ None
    → GoesOn next r (after_inside (program_of program) (above_of (record held { inside = left })) line) → GoesOn next r (after_line number (above_of held) line)
unfolding after_inside
line_inside held program left next r number line is none h = rw (← is) h
