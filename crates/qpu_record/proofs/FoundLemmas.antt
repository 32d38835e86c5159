-- Lines, numbers and items, from how they are read to how they are written.
use Rattle.std.proofs.Common.{◌≡◌, ℕ, ◌+◌, ◌^◌, ◌<◌, ◌≤◌, Bool, true, false, List, [], ◌∷◌, ◌++◌, length, min, get_or, Option, Some, None, Result, Ok, Err, refl, ap, sym, ◌∙◌, subst, arith}
use Rattle.std.specs.Prelude.{◌&&◌, ◌||◌, ◌==◌, nat_le, decimal, option_map, option_and_then, if◌then◌else◌}
use Rattle.std.specs.List.{list_all}
use Rattle.std.proofs.lemmas.Bool.{and_parts, eqb-true}
use Rattle.std.proofs.lemmas.Bool.Decides.{nat_tests}
use Rattle.std.proofs.lemmas.Fmt.{decimal-digits_value}
use Rattle.qpu_machine.specs.declared.actor.Actor.{Actor}
use Rattle.qpu_machine.specs.declared.actor.Actor.TheVariants.{Exec, Load, Store, Fetch}
use Rattle.qpu_machine.specs.declared.journal.Run.{Run}
use Rattle.qpu_record.specs.declared.fault.RecordFault.{RecordFault}
use Rattle.qpu_record.specs.declared.fault.RecordFault.TheVariants as fault
use Rattle.qpu_record.specs.declared.item.TheConstants.{MOST_COUNT, MOST_PROCESSOR, MOST_UNIT}
use Rattle.qpu_text.specs.Bytes.{SPACE, is_digit}
use Rattle.qpu_text.specs.Lines.{cut_at}
use Rattle.qpu_text.specs.Numbers.{value_in}
use Rattle.qpu_record.specs.Numbers.{ZERO, is_number, number_of}
use Rattle.qpu_record.specs.Items.{first_number, two_numbers, three_numbers, lettered, item_of, item_at, is_actor, is_in_range, judged, run_of}
use Rattle.qpu_record.specs.Grammar.{IsActor, IsItem}
use Rattle.qpu_text.proofs.LineLemmas.{is_mark}
use Rattle.qpu_record.proofs.GrammarLemmas.{AreDigits, own, item_line}

-- a text that was cut

found_by : (mark byte : ℕ) (text : List ℕ) (here : Bool) → is_mark mark byte ≡ here
    → ((cut_at mark text).found ≡ true → text ≡ (cut_at mark text).front ++ mark ∷ (cut_at mark text).rest)
    → (cut_at mark (byte ∷ text)).found ≡ true → byte ∷ text ≡ (cut_at mark (byte ∷ text)).front ++ mark ∷ (cut_at mark (byte ∷ text)).rest
unfolding cut_at
found_by mark byte text true is more found =
    rw is (ap (λ (b : ℕ). b ∷ text) (eqb-true byte mark is))
found_by mark byte text false is more found =
    let rest = more (rw is at found) in
    rw is (ap (λ (t : List ℕ). byte ∷ t) rest)

pub cut_found : (mark : ℕ) (text : List ℕ) → (cut_at mark text).found ≡ true → text ≡ (cut_at mark text).front ++ mark ∷ (cut_at mark text).rest
unfolding cut_at
cut_found mark [] found = absurd (cc)
cut_found mark (byte ∷ text) found = found_by mark byte text (is_mark mark byte) refl (cut_found mark text) found

-- numbers

pub record IsNumeral (digits : List ℕ) : Type 0 where
  pub all : AreDigits digits
  pub some : 0 < length digits
  pub one : get_or digits 0 0 ≡ ZERO → length digits ≡ 1

numeral_from : (first : ℕ) (others : List ℕ) → (nat_le 49 first && nat_le first 57) ≡ true → AreDigits others → IsNumeral (first ∷ others)
numeral_from first others leads all = record {
  all = let digit : is_digit first ≡ true = grind (arith, nat_tests) in rw (digit, all) refl;
  some = omega arith;
  one = λ e. absurd (let low : 49 ≤ first = grind (arith, nat_tests) in omega (arith, e, low));
}

naught_by : (first : ℕ) (others : List ℕ) (naught : Bool) → (first == ZERO) ≡ naught
    → ((naught && (length others == 0)) || ((nat_le 49 first && nat_le first 57) && list_all is_digit others)) ≡ true → IsNumeral (first ∷ others)
naught_by first [] true is e = record {
  all = let digit : is_digit first ≡ true = grind (arith, nat_tests) in rw digit refl;
  some = omega arith;
  one = λ _. refl;
}
naught_by first (next ∷ others) true is e =
    let none : (length (next ∷ others) == 0) ≡ false = grind (arith, nat_tests) in
    let both = and_parts (nat_le 49 first && nat_le first 57) (list_all is_digit (next ∷ others)) (rw none at e) in
    numeral_from first (next ∷ others) both.0 both.1
naught_by first others false is e =
    let both = and_parts (nat_le 49 first && nat_le first 57) (list_all is_digit others) e in
    numeral_from first others both.0 both.1

numeral : (digits : List ℕ) → is_number digits ≡ true → IsNumeral digits
numeral [] e = absurd (cc)
numeral (first ∷ others) e = naught_by first others (first == ZERO) refl e

number_by : (most : ℕ) (digits : List ℕ) (n : ℕ) (is : Bool) → is_number digits ≡ is → (if is then Some (min (value_in 10 digits) (most + 1)) else None) ≡ Some n
    → n ≤ most → n < 2 ^ 64 → digits ≡ decimal n
number_by most digits n true is e within fits =
    let least : min (value_in 10 digits) (most + 1) ≡ n = cc in
    let value : value_in 10 digits ≡ n = omega (arith, least, within) in
    let shape = numeral digits is in
    let written = decimal-digits_value own digits shape.all shape.some shape.one (omega (arith, value, fits)) in
    rw value at (sym written)
number_by most digits n false is e within fits = absurd (cc)

pub number_found : (most : ℕ) (digits : List ℕ) (n : ℕ) → number_of most digits ≡ Some n → n ≤ most → n < 2 ^ 64 → digits ≡ decimal n
unfolding number_of
number_found most digits n e within fits = number_by most digits n (is_number digits) refl e within fits

-- items

abbrev with_rest : List ℕ → Option ℕ → Option (ℕ × List ℕ)
with_rest rest told = option_map (λ number. (number, rest)) told

abbrev with_number : ℕ → Option ℕ → Option (ℕ × ℕ)
with_number first told = option_map (λ number. (first, number)) told

abbrev with_two : ℕ → Option (ℕ × ℕ) → Option (ℕ × ℕ × ℕ)
with_two first told = option_map (λ others. (first, others.0, others.1)) told

first_by : (text : List ℕ) (n : ℕ) (rest : List ℕ) (found : Bool) (told : Option ℕ) → (cut_at SPACE text).found ≡ found → number_of MOST_COUNT (cut_at SPACE text).front ≡ told
    → (if found then with_rest (cut_at SPACE text).rest told else None) ≡ Some (n, rest) → n ≤ MOST_COUNT → text ≡ decimal n ++ SPACE ∷ rest
first_by text n rest true None is told e small = absurd (cc)
first_by text n rest true (Some m) is told e small =
    let pair : ◌≡◌ {A = ℕ × List ℕ} (m, (cut_at SPACE text).rest) (n, rest) = cc in
    let number : m ≡ n = ap (λ (p : ℕ × List ℕ). p.0) pair in
    let behind : (cut_at SPACE text).rest ≡ rest = ap (λ (p : ℕ × List ℕ). p.1) pair in
    let front = number_found MOST_COUNT (cut_at SPACE text).front n (told ∙ ap (λ (k : ℕ). Some k) number) small (omega (arith, small)) in
    let split = cut_found SPACE text is in
    split ∙ rw (front, behind) refl
first_by text n rest false told is number e small = absurd (cc)

first_found : (text : List ℕ) (n : ℕ) (rest : List ℕ) → first_number text ≡ Some (n, rest) → n ≤ MOST_COUNT → text ≡ decimal n ++ SPACE ∷ rest
unfolding first_number
first_found text n rest e small =
    first_by text n rest (cut_at SPACE text).found (number_of MOST_COUNT (cut_at SPACE text).front) refl refl e small

two_by : (text : List ℕ) (two : ℕ × ℕ) (first : Option (ℕ × List ℕ)) → first_number text ≡ first
    → option_and_then (λ (first : ℕ × List ℕ). with_number first.0 (number_of MOST_COUNT first.1)) first ≡ Some two → two.0 ≤ MOST_COUNT → two.1 ≤ MOST_COUNT
    → text ≡ decimal two.0 ++ SPACE ∷ decimal two.1
two_by text two None is e low few = absurd (cc)
two_by text two (Some first) is e low few = last (number_of MOST_COUNT first.1) refl e
  where
    last : (told : Option ℕ) → number_of MOST_COUNT first.1 ≡ told → with_number first.0 told ≡ Some two → text ≡ decimal two.0 ++ SPACE ∷ decimal two.1
    last None told f = absurd (cc)
    last (Some n) told f =
        let pair : ◌≡◌ {A = ℕ × ℕ} (first.0, n) two = cc in
        let one : first.0 ≡ two.0 = ap (λ (p : ℕ × ℕ). p.0) pair in
        let other : n ≡ two.1 = ap (λ (p : ℕ × ℕ). p.1) pair in
        let front = first_found text first.0 first.1 is (omega (arith, one, low)) in
        let back = number_found MOST_COUNT first.1 n told (omega (arith, other, few)) (omega (arith, other, few)) in
        front ∙ rw (back, one, other) refl

two_found : (text : List ℕ) (two : ℕ × ℕ) → two_numbers text ≡ Some two → two.0 ≤ MOST_COUNT → two.1 ≤ MOST_COUNT → text ≡ decimal two.0 ++ SPACE ∷ decimal two.1
unfolding two_numbers
two_found text two e low few = two_by text two (first_number text) refl e low few

three_by : (text : List ℕ) (three : ℕ × ℕ × ℕ) (first : Option (ℕ × List ℕ)) → first_number text ≡ first
    → option_and_then (λ (first : ℕ × List ℕ). with_two first.0 (two_numbers first.1)) first ≡ Some three
    → three.0 ≤ MOST_COUNT → three.1 ≤ MOST_COUNT → three.2 ≤ MOST_COUNT
    → text ≡ decimal three.0 ++ SPACE ∷ (decimal three.1 ++ SPACE ∷ decimal three.2)
three_by text three None is e low lower few = absurd (cc)
three_by text three (Some first) is e low lower few = last (two_numbers first.1) refl e
  where
    last : (told : Option (ℕ × ℕ)) → two_numbers first.1 ≡ told → with_two first.0 told ≡ Some three
        → text ≡ decimal three.0 ++ SPACE ∷ (decimal three.1 ++ SPACE ∷ decimal three.2)
    last None told f = absurd (cc)
    last (Some two) told f =
        let triple : ◌≡◌ {A = ℕ × ℕ × ℕ} (first.0, two.0, two.1) three = cc in
        let one : first.0 ≡ three.0 = ap (λ (p : ℕ × ℕ × ℕ). p.0) triple in
        let second : two.0 ≡ three.1 = ap (λ (p : ℕ × ℕ × ℕ). p.1) triple in
        let third : two.1 ≡ three.2 = ap (λ (p : ℕ × ℕ × ℕ). p.2) triple in
        let front = first_found text first.0 first.1 is (omega (arith, one, low)) in
        let back = two_found first.1 two told (omega (arith, second, lower)) (omega (arith, third, few)) in
        front ∙ rw (back, one, second, third) refl

three_found : (text : List ℕ) (three : ℕ × ℕ × ℕ) → three_numbers text ≡ Some three → three.0 ≤ MOST_COUNT → three.1 ≤ MOST_COUNT → three.2 ≤ MOST_COUNT
    → text ≡ decimal three.0 ++ SPACE ∷ (decimal three.1 ++ SPACE ∷ decimal three.2)
unfolding three_numbers
three_found text three e low lower few = three_by text three (first_number text) refl e low lower few

-- an item's line from its letter on

abbrev IsLineOf : ℕ → List ℕ → Run → Type 0
IsLineOf letter numbers run = IsItem run → letter ∷ SPACE ∷ numbers ≡ item_line run.actor run.count

exec_found : (numbers : List ℕ) (run : Run) (told : Option (ℕ × ℕ)) → two_numbers numbers ≡ told → option_map (λ two. run_of (Exec two.0) two.1) told ≡ Some run → IsLineOf 113 numbers run
exec_found numbers run None is e = absurd (cc)
exec_found numbers run (Some two) is e =
    let same : run_of (Exec two.0) two.1 ≡ run = cc in
    subst (IsLineOf 113 numbers) same (λ item. ap (λ (t : List ℕ). 113 ∷ SPACE ∷ t) (two_found numbers two is (omega (arith, item.0)) item.2))

load_found : (numbers : List ℕ) (run : Run) (told : Option (ℕ × ℕ)) → two_numbers numbers ≡ told → option_map (λ two. run_of (Load two.0) two.1) told ≡ Some run → IsLineOf 108 numbers run
load_found numbers run None is e = absurd (cc)
load_found numbers run (Some two) is e =
    let same : run_of (Load two.0) two.1 ≡ run = cc in
    subst (IsLineOf 108 numbers) same (λ item. ap (λ (t : List ℕ). 108 ∷ SPACE ∷ t) (two_found numbers two is (omega (arith, item.0)) item.2))

store_found : (numbers : List ℕ) (run : Run) (told : Option (ℕ × ℕ)) → two_numbers numbers ≡ told → option_map (λ two. run_of (Store two.0) two.1) told ≡ Some run → IsLineOf 115 numbers run
store_found numbers run None is e = absurd (cc)
store_found numbers run (Some two) is e =
    let same : run_of (Store two.0) two.1 ≡ run = cc in
    subst (IsLineOf 115 numbers) same (λ item. ap (λ (t : List ℕ). 115 ∷ SPACE ∷ t) (two_found numbers two is (omega (arith, item.0)) item.2))

fetch_found : (numbers : List ℕ) (run : Run) (told : Option (ℕ × ℕ × ℕ)) → three_numbers numbers ≡ told → option_map (λ three. run_of (Fetch three.0 three.1) three.2) told ≡ Some run
    → IsLineOf 116 numbers run
fetch_found numbers run None is e = absurd (cc)
fetch_found numbers run (Some three) is e =
    let same : run_of (Fetch three.0 three.1) three.2 ≡ run = cc in
    subst (IsLineOf 116 numbers) same
    (λ item. ap (λ (t : List ℕ). 116 ∷ SPACE ∷ t) (three_found numbers three is (omega (arith, item.0.0)) (omega (arith, item.0.1)) item.2))

letter_by : (letter : ℕ) (numbers : List ℕ) (run : Run) (q l s t : Bool) → (letter == 113) ≡ q → (letter == 108) ≡ l → (letter == 115) ≡ s → (letter == 116) ≡ t
    → (if q then option_map (λ two. run_of (Exec two.0) two.1) (two_numbers numbers)
    else if l then option_map (λ two. run_of (Load two.0) two.1) (two_numbers numbers)
    else if s then option_map (λ two. run_of (Store two.0) two.1) (two_numbers numbers)
    else if t then option_map (λ three. run_of (Fetch three.0 three.1) three.2) (three_numbers numbers)
    else None) ≡ Some run
    → IsLineOf letter numbers run
letter_by letter numbers run true l s t is a b c e =
    rw (eqb-true letter 113 is) (exec_found numbers run (two_numbers numbers) refl e)
letter_by letter numbers run false true s t a is b c e =
    rw (eqb-true letter 108 is) (load_found numbers run (two_numbers numbers) refl e)
letter_by letter numbers run false false true t a b is c e =
    rw (eqb-true letter 115 is) (store_found numbers run (two_numbers numbers) refl e)
letter_by letter numbers run false false false true a b c is e =
    rw (eqb-true letter 116 is) (fetch_found numbers run (three_numbers numbers) refl e)
letter_by letter numbers run false false false false a b c d e = absurd (cc)

letter_found : (letter : ℕ) (numbers : List ℕ) (run : Run) → lettered letter numbers ≡ Some run → IsLineOf letter numbers run
unfolding lettered
letter_found letter numbers run e =
    letter_by letter numbers run (letter == 113) (letter == 108) (letter == 115) (letter == 116) refl refl refl refl e

spaced_by : (letter space : ℕ) (numbers : List ℕ) (run : Run) (is : Bool) → (space == SPACE) ≡ is → (if is then lettered letter numbers else None) ≡ Some run → IsItem run
    → letter ∷ space ∷ numbers ≡ item_line run.actor run.count
spaced_by letter space numbers run true is e item = rw (eqb-true space SPACE is) (letter_found letter numbers run e item)
spaced_by letter space numbers run false is e item = absurd (cc)

line_found : (line : List ℕ) (run : Run) → item_of line ≡ Some run → IsItem run → line ≡ item_line run.actor run.count
unfolding item_of
line_found [] run e item = absurd (cc)
line_found (letter ∷ []) run e item = absurd (cc)
line_found (letter ∷ space ∷ numbers) run e item = spaced_by letter space numbers run (space == SPACE) refl e item

actor_found : (actor : Actor) → is_actor actor ≡ true → IsActor actor
actor_found (Exec q) e = grind (arith, nat_tests)
actor_found (Load q) e = grind (arith, nat_tests)
actor_found (Store q) e = grind (arith, nat_tests)
actor_found (Fetch q unit) e =
    let parts = and_parts (nat_le q MOST_PROCESSOR) (nat_le unit MOST_UNIT) e in
    (grind (arith, nat_tests), grind (arith, nat_tests))

range_found : (run : Run) → is_in_range run ≡ true → IsItem run
range_found run e =
    let parts = and_parts (is_actor run.actor) (nat_le 1 run.count && nat_le run.count MOST_COUNT) e in
    let counts = and_parts (nat_le 1 run.count) (nat_le run.count MOST_COUNT) parts.1 in
    let low : 1 ≤ run.count = grind (arith, nat_tests) in
    let high : run.count ≤ MOST_COUNT = grind (arith, nat_tests) in
    (actor_found run.actor parts.0, low, high)

-- a line that was read as an item is the line of this item
pub record IsLineOfItem (line : List ℕ) (run : Run) : Type 0 where
  pub item : IsItem run
  pub written : line ≡ item_line run.actor run.count

judged_by : (number : ℕ) (line : List ℕ) (told run : Run) (ranges : Bool) → item_of line ≡ Some told → is_in_range told ≡ ranges
    → ◌≡◌ {A = Result Run RecordFault} (if ranges then Ok told else Err (fault.Number number)) (Ok run) → IsLineOfItem line run
judged_by number line told run true is within e =
    let same : told ≡ run = cc in
    let item = range_found told within in
    subst (IsLineOfItem line) same (record { item = item; written = line_found line told is item })
judged_by number line told run false is out e = absurd (cc)

item_by : (number : ℕ) (line : List ℕ) (told : Option Run) (run : Run) → item_of line ≡ told → judged number told ≡ Ok run → IsLineOfItem line run
item_by number line None run is e = absurd (cc)
item_by number line (Some told) run is e = judged_by number line told run (is_in_range told) is refl e

pub item_found : (number : ℕ) (line : List ℕ) (run : Run) → item_at number line ≡ Ok run → IsLineOfItem line run
unfolding item_at
item_found number line run e = item_by number line (item_of line) run refl e
