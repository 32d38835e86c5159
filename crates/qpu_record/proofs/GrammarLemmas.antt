-- Lines, numbers and items, from how they are written to how they are read.
use Rattle.std.proofs.Common.{◌≡◌, ℕ, zero, suc, ◌+◌, ◌*◌, ◌^◌, ◌<◌, ◌≤◌, Bool, true, false, List, [], ◌∷◌, ◌++◌, length, min, get_or, Some, Ok, refl, ap, arith, append_assoc, rules}
use Rattle.std.specs.Prelude.{◌==◌, nat_le, fold, decimal}
use Rattle.std.specs.List.{list_all, list_any}
use Rattle.std.proofs.lemmas.Bool.{and_parts, or_parts}
use Rattle.std.proofs.lemmas.Bool.Decides.{nat_tests}
use Rattle.std.proofs.lemmas.List.Folds.{list_any-append}
use Rattle.std.proofs.lemmas.Str.Parse.{IsNumeralModel, FoldsDigits, numerals_by_fold}
use Rattle.std.proofs.lemmas.Fmt.{digits_decimal, digits_value-decimal, first_decimal, decimal_nonempty, decimal_digit}
use Rattle.qpu_machine.specs.declared.actor.Actor.{Actor}
use Rattle.qpu_machine.specs.declared.actor.Actor.TheVariants.{Exec, Load, Store, Fetch}
use Rattle.qpu_record.specs.declared.item.TheConstants.{MOST_COUNT}
use Rattle.qpu_record.specs.Record.{item_text}
use Rattle.qpu_text.specs.Bytes.{LF, SPACE, is_digit}
use Rattle.qpu_text.specs.Lines.{cut_at}
use Rattle.qpu_text.specs.Numbers.{digit_of, value_in}
use Rattle.qpu_record.specs.Numbers.{ZERO, is_number, number_of}
use Rattle.qpu_record.specs.Items.{first_number, two_numbers, three_numbers, lettered, item_of, item_at, is_in_range, run_of}
use Rattle.qpu_record.specs.Reading.{is_end}
use Rattle.qpu_record.specs.Grammar.{IsActor}
use Rattle.qpu_text.proofs.LineLemmas.{is_mark, uncut}

-- cut at the first mark

abbrev pub Lacks : ℕ → List ℕ → Type 0
Lacks mark text = list_any (is_mark mark) text ≡ false

pub cut_behind : (mark : ℕ) (front rest : List ℕ) → Lacks mark front → cut_at mark (front ++ mark ∷ rest) ≡ record { front = front; found = true; rest = rest }
unfolding cut_at
cut_behind mark [] rest lacks = let e : is_mark mark mark ≡ true = grind (arith, nat_tests) in rw e refl
cut_behind mark (byte ∷ front) rest lacks =
    let parts = or_parts (is_mark mark byte) (list_any (is_mark mark) front) lacks in
    rw (parts.0, cut_behind mark front rest parts.1) refl

pub cut_nowhere : (mark : ℕ) (text : List ℕ) → Lacks mark text → cut_at mark text ≡ uncut text
unfolding cut_at
cut_nowhere mark [] lacks = refl
cut_nowhere mark (byte ∷ text) lacks =
    let parts = or_parts (is_mark mark byte) (list_any (is_mark mark) text) lacks in
    rw (parts.0, cut_nowhere mark text parts.1) refl

lacks_join : (mark : ℕ) (xs ys : List ℕ) → Lacks mark xs → Lacks mark ys → Lacks mark (xs ++ ys)
lacks_join mark xs ys a b = rw (list_any-append (is_mark mark) xs ys, a, b) refl

-- numbers

abbrev pub AreDigits : List ℕ → Type 0
AreDigits digits = list_all is_digit digits ≡ true

abbrev value_after : ℕ → List ℕ → ℕ
value_after start digits = fold (λ value digit. value * 10 + digit_of digit) start digits

folds : FoldsDigits value_after
folds = record {
  empty = λ n. refl;
  more = λ n c cs range. let digit : is_digit c ≡ true = grind (arith, nat_tests) in rw digit refl;
}

pub own : IsNumeralModel AreDigits (value_in 10)
own = numerals_by_fold AreDigits (search rules) value_after folds

pub digits_written : (n : ℕ) → n < 2 ^ 64 → AreDigits (decimal n)
digits_written n fits = digits_decimal own n fits

no_digit : (mark byte : ℕ) → mark < 48 → is_digit byte ≡ true → is_mark mark byte ≡ false
no_digit mark byte low digit = grind (arith, nat_tests)

pub digits_lack : (mark : ℕ) (digits : List ℕ) → mark < 48 → AreDigits digits → Lacks mark digits
digits_lack mark [] low all = refl
digits_lack mark (byte ∷ digits) low all =
    let parts = and_parts (is_digit byte) (list_all is_digit digits) all in
    rw (no_digit mark byte low parts.0, digits_lack mark digits low parts.1) refl

pub number_lacks : (mark n : ℕ) → mark < 48 → n < 2 ^ 64 → Lacks mark (decimal n)
number_lacks mark n low fits = digits_lack mark (decimal n) low (digits_written n fits)

-- a number that was written is read

number_by : (first : ℕ) (others : List ℕ) (naught : Bool) → (first == ZERO) ≡ naught → is_digit first ≡ true → AreDigits others → (first ≡ ZERO → suc (length others) ≡ 1)
    → is_number (first ∷ others) ≡ true
number_by first others true is digit all one =
    let e : first ≡ ZERO = grind (arith, nat_tests) in
    let long = one e in
    let none : (length others == 0) ≡ true = grind (arith, nat_tests) in
    rw (is, none) refl
number_by first others false is digit all one =
    let low : nat_le 49 first ≡ true = grind (arith, nat_tests) in
    let high : nat_le first 57 ≡ true = grind (arith, nat_tests) in
    rw (is, low, high, all) refl

pub is_number_by : (digits : List ℕ) → AreDigits digits → 0 < length digits → (get_or digits 0 0 ≡ ZERO → length digits ≡ 1) → is_number digits ≡ true
is_number_by [] all some one = absurd (omega (arith, some))
is_number_by (first ∷ others) all some one =
    let parts = and_parts (is_digit first) (list_all is_digit others) all in
    number_by first others (first == ZERO) refl parts.0 parts.1 one

naught_alone : (n : ℕ) → n < 2 ^ 64 → get_or (decimal n) 0 0 ≡ ZERO → length (decimal n) ≡ 1
naught_alone zero fits e = let one : decimal 0 ≡ 48 ∷ [] = decimal_digit 0 (omega arith) in rw one refl
naught_alone (suc n) fits e = absurd (omega (arith, e, first_decimal (suc n) (omega arith) fits))

pub number_read : (most n : ℕ) → n ≤ most → n < 2 ^ 64 → number_of most (decimal n) ≡ Some n
unfolding number_of
number_read most n small fits =
    let is = is_number_by (decimal n) (digits_written n fits) (decimal_nonempty n fits) (naught_alone n fits) in
    let least : min n (most + 1) ≡ n = omega arith in
    rw (is, digits_value-decimal own n fits, least) refl

-- an item that was written is read

first_read : (n : ℕ) (rest : List ℕ) → n ≤ MOST_COUNT → first_number (decimal n ++ SPACE ∷ rest) ≡ Some (n, rest)
unfolding first_number
first_read n rest small =
    let cut = cut_behind SPACE (decimal n) rest (number_lacks SPACE n (omega arith) (omega (arith, small))) in
    rw (cut, number_read MOST_COUNT n small (omega (arith, small))) refl

two_read : (q n : ℕ) → q ≤ MOST_COUNT → n ≤ MOST_COUNT → two_numbers (decimal q ++ SPACE ∷ decimal n) ≡ Some (q, n)
unfolding two_numbers
two_read q n low few = rw (first_read q (decimal n) low, number_read MOST_COUNT n few (omega (arith, few))) refl

three_read : (q unit n : ℕ) → q ≤ MOST_COUNT → unit ≤ MOST_COUNT → n ≤ MOST_COUNT
    → three_numbers (decimal q ++ SPACE ∷ (decimal unit ++ SPACE ∷ decimal n)) ≡ Some (q, unit, n)
unfolding three_numbers
three_read q unit n low lower few = rw (first_read q (decimal unit ++ SPACE ∷ decimal n) low, two_read unit n lower few) refl

-- the line of an item
abbrev pub item_line : Actor → ℕ → List ℕ
item_line (Exec q) n = 113 ∷ SPACE ∷ (decimal q ++ SPACE ∷ decimal n)
item_line (Load q) n = 108 ∷ SPACE ∷ (decimal q ++ SPACE ∷ decimal n)
item_line (Store q) n = 115 ∷ SPACE ∷ (decimal q ++ SPACE ∷ decimal n)
item_line (Fetch q unit) n = 116 ∷ SPACE ∷ (decimal q ++ SPACE ∷ (decimal unit ++ SPACE ∷ decimal n))

regroup : (q n rest : List ℕ) → (q ++ (32 ∷ (n ++ (10 ∷ [])))) ++ rest ≡ (q ++ (32 ∷ n)) ++ (10 ∷ rest)
regroup q n rest = simp append_assoc

regroup_three : (q u n rest : List ℕ) → (q ++ (32 ∷ (u ++ (32 ∷ (n ++ (10 ∷ [])))))) ++ rest ≡ (q ++ (32 ∷ (u ++ (32 ∷ n)))) ++ (10 ∷ rest)
regroup_three q u n rest = simp append_assoc

pub item_ends : (actor : Actor) (n : ℕ) (rest : List ℕ) → item_text (run_of actor n) ++ rest ≡ item_line actor n ++ LF ∷ rest
item_ends (Exec q) n rest = ap (λ (z : List ℕ). 113 ∷ (32 ∷ z)) (regroup (decimal q) (decimal n) rest)
item_ends (Load q) n rest = ap (λ (z : List ℕ). 108 ∷ (32 ∷ z)) (regroup (decimal q) (decimal n) rest)
item_ends (Store q) n rest = ap (λ (z : List ℕ). 115 ∷ (32 ∷ z)) (regroup (decimal q) (decimal n) rest)
item_ends (Fetch q unit) n rest = ap (λ (z : List ℕ). 116 ∷ (32 ∷ z)) (regroup_three (decimal q) (decimal unit) (decimal n) rest)

two_lack : (q n : ℕ) → q < 2 ^ 64 → n < 2 ^ 64 → Lacks LF (decimal q ++ SPACE ∷ decimal n)
two_lack q n a b =
    lacks_join LF (decimal q) (SPACE ∷ decimal n) (number_lacks LF q (omega arith) a) (number_lacks LF n (omega arith) b)

pub line_lacks : (actor : Actor) (n : ℕ) → IsActor actor → n ≤ MOST_COUNT → Lacks LF (item_line actor n)
line_lacks (Exec q) n low few = two_lack q n (omega (arith, low)) (omega (arith, few))
line_lacks (Load q) n low few = two_lack q n (omega (arith, low)) (omega (arith, few))
line_lacks (Store q) n low few = two_lack q n (omega (arith, low)) (omega (arith, few))
line_lacks (Fetch q unit) n low few =
    lacks_join LF (decimal q) (SPACE ∷ (decimal unit ++ SPACE ∷ decimal n)) (number_lacks LF q (omega arith) (omega (arith, low.0)))
    (two_lack unit n (omega (arith, low.1)) (omega (arith, few)))

pub no_end : (actor : Actor) (n : ℕ) → is_end (item_line actor n) ≡ false
no_end (Exec q) n = refl
no_end (Load q) n = refl
no_end (Store q) n = refl
no_end (Fetch q unit) n = refl

in_range : (actor : Actor) (n : ℕ) → IsActor actor → 1 ≤ n → n ≤ MOST_COUNT → is_in_range (run_of actor n) ≡ true
in_range (Exec q) n low some few = grind (arith, nat_tests)
in_range (Load q) n low some few = grind (arith, nat_tests)
in_range (Store q) n low some few = grind (arith, nat_tests)
in_range (Fetch q unit) n low some few = grind (arith, nat_tests)

line_read : (actor : Actor) (n : ℕ) → IsActor actor → n ≤ MOST_COUNT → item_of (item_line actor n) ≡ Some (run_of actor n)
unfolding item_of lettered
line_read (Exec q) n low few = rw (two_read q n (omega (arith, low)) few) refl
line_read (Load q) n low few = rw (two_read q n (omega (arith, low)) few) refl
line_read (Store q) n low few = rw (two_read q n (omega (arith, low)) few) refl
line_read (Fetch q unit) n low few = rw (three_read q unit n (omega (arith, low.0)) (omega (arith, low.1)) few) refl

pub item_read : (number : ℕ) (actor : Actor) (n : ℕ) → IsActor actor → 1 ≤ n → n ≤ MOST_COUNT → item_at number (item_line actor n) ≡ Ok (run_of actor n)
unfolding item_at
item_read number actor n low some few = rw (line_read actor n low few, in_range actor n low some few) refl
