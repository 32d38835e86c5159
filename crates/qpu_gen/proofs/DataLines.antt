-- A line of data is read as the numbers that it was written of.
use Rattle.std.proofs.Common.{◌≡◌, ℕ, ◌-◌, ◌^◌, ◌<◌, Bool, true, false, List, [], ◌∷◌, ◌++◌, length, Some, refl, sym, subst, append-nil, arith}
use Rattle.std.specs.Prelude.{◌==◌, nat_lt, nat_le, codes, decimal, flat_map, map}
use Rattle.std.specs.List.{list_all, list_any}
use Rattle.std.proofs.lemmas.Bool.{and_parts, or_parts}
use Rattle.std.proofs.lemmas.Bool.Decides.{nat_tests}
use Rattle.std.proofs.lemmas.Fmt.{decimal_nonempty}
use Rattle.std.proofs.lemmas.List.Folds.{list_any-append}
use Rattle.qpu_text.specs.Lines.{lines}
use Rattle.qpu_text.specs.Bytes.{LF, CR, SPACE, is_lf, is_hash, is_blank}
use Rattle.qpu_job.specs.Lines.{content}
use Rattle.qpu_job.specs.Words.{number_of, line_numbers, line_words}
use Rattle.qpu_job.specs.Shapes.{Data, shape_of, data_shape}
use Rattle.qpu_job.specs.Grammar.{Lacks, IsWord, Words, last, followed, none, Says, ends_in_cr, IsLine, by_lf}
use Rattle.qpu_job.proofs.GrammarLemmas.{lacks_at, says_only, line_only, content_only}
use Rattle.qpu_dis.proofs.NumberLemmas.{decimal_run, decimal_value}
use Rattle.qpu_record.proofs.GrammarLemmas.{number_lacks}
use Rattle.qpu_gen.specs.Generated.{spaced, data_line}

-- numbers

-- a number that fits 32 bits
abbrev pub fits : ℕ → Bool
fits n = nat_lt n (2 ^ 32)

below : (n : ℕ) → fits n ≡ true → n < 2 ^ 64
below n low = grind (arith, nat_tests, low)

number_read : (n : ℕ) → fits n ≡ true → number_of (decimal n) ≡ Some n
unfolding number_of
number_read n low =
    let small : nat_le n (2 ^ 32 - 1) ≡ true = grind (arith, nat_tests, low) in
    rw (decimal_run n (below n low), decimal_value n (below n low), small) refl

numbers_read : (values : List ℕ) → list_all fits values ≡ true → line_numbers (map decimal values) ≡ Some values
unfolding line_numbers
numbers_read [] low = refl
numbers_read (n ∷ values) low =
    let parts = and_parts (fits n) (list_all fits values) low in
    rw (number_read n parts.0, numbers_read values parts.1) refl

-- bytes that no number has

-- a test that spaces and digits fail
record Foreign (test : ℕ → Bool) : Type 0 where
  space : test SPACE ≡ false
  number : (n : ℕ) → n < 2 ^ 64 → Lacks test (decimal n)

spaced_lack : (test : ℕ → Bool) (values : List ℕ) → Foreign test → list_all fits values ≡ true → Lacks test (flat_map spaced values)
spaced_lack test [] f low = refl
spaced_lack test (n ∷ values) f low =
    let parts = and_parts (fits n) (list_all fits values) low in
    rw (f.space, list_any-append test (decimal n) (flat_map spaced values), f.number n (below n parts.0), spaced_lack test values f parts.1) refl

-- the body of a line of data
abbrev body_of : ℕ → List ℕ → List ℕ
body_of address values = codes "data" ++ flat_map spaced (address ∷ values)

body_lacks : (test : ℕ → Bool) (address : ℕ) (values : List ℕ) → Foreign test → Lacks test (codes "data") → list_all fits (address ∷ values) ≡ true
    → Lacks test (body_of address values)
body_lacks test address values f word low =
    rw (list_any-append test (codes "data") (flat_map spaced (address ∷ values)), word) (spaced_lack test (address ∷ values) f low)

lf_foreign : Foreign is_lf
lf_foreign = record { space = refl; number = λ n low. number_lacks 10 n (omega arith) low }

hash_foreign : Foreign is_hash
hash_foreign = record { space = refl; number = λ n low. number_lacks 35 n (omega arith) low }

abbrev is_cr : ℕ → Bool
is_cr byte = byte == CR

cr_foreign : Foreign is_cr
cr_foreign = record { space = refl; number = λ n low. number_lacks 13 n (omega arith) low }

blank_either : (text : List ℕ) → list_any (λ byte. byte == 32) text ≡ false → list_any (λ byte. byte == 9) text ≡ false → list_any is_blank text ≡ false
blank_either [] space tab = refl
blank_either (byte ∷ text) space tab =
    let s = or_parts (byte == 32) (list_any (λ byte. byte == 32) text) space in
    let t = or_parts (byte == 9) (list_any (λ byte. byte == 9) text) tab in
    rw (s.0, t.0) (blank_either text s.1 t.1)

number_word : (n : ℕ) → fits n ≡ true → IsWord (decimal n)
number_word n low =
    let small = below n low in
    record {
      some = decimal_nonempty n small;
      whole = blank_either (decimal n) (number_lacks 32 n (omega arith) small) (number_lacks 9 n (omega arith) small);
    }

-- words

numbers_words : (n : ℕ) (values : List ℕ) → list_all fits (n ∷ values) ≡ true → Words (decimal n ++ flat_map spaced values) (map decimal (n ∷ values))
numbers_words n [] low =
    let parts = and_parts (fits n) true low in
    subst (λ (t : List ℕ). Words t (decimal n ∷ [])) (sym (append-nil (decimal n))) (last (decimal n) (number_word n parts.0))
numbers_words n (m ∷ values) low =
    let parts = and_parts (fits n) (list_all fits (m ∷ values)) low in
    followed (decimal n) SPACE (number_word n parts.0) refl (numbers_words m values parts.1)

data_words : (address : ℕ) (values : List ℕ) → list_all fits (address ∷ values) ≡ true → Words (body_of address values) (codes "data" ∷ map decimal (address ∷ values))
data_words address values low = followed (codes "data") SPACE (record { some = omega arith; whole = refl }) refl (numbers_words address values low)

data_says : (address : ℕ) (values : List ℕ) → list_all fits (address ∷ values) ≡ true → Says (body_of address values) (codes "data" ∷ map decimal (address ∷ values))
data_says address values low = record {
  bare = body_of address values;
  comment = [];
  parts = sym (append-nil (body_of address values));
  no_hash = body_lacks is_hash address values hash_foreign refl low;
  is_comment = none;
  spelled = data_words address values low;
}

-- the shape

numbers_shape : (address : ℕ) (values : List ℕ) → 0 < length values → list_all fits (address ∷ values) ≡ true
    → shape_of (codes "data" ∷ map decimal (address ∷ values)) ≡ Some (Data address values)
unfolding shape_of data_shape
numbers_shape address [] some low = absurd (omega (arith, some))
numbers_shape address (n ∷ values) some low =
    let parts = and_parts (fits address) (list_all fits (n ∷ values)) low in
    rw (number_read address parts.0, numbers_read (n ∷ values) parts.1) refl

-- its end

data_ends : (address : ℕ) (values : List ℕ) → list_all fits (address ∷ values) ≡ true → ends_in_cr (body_of address values) ≡ false
data_ends address values low =
    lacks_at is_cr (body_of address values) (body_lacks is_cr address values cr_foreign refl low) (length (body_of address values) - 1) 0 (omega arith)

data_line_is : (address : ℕ) (values rest : List ℕ) → list_all fits (address ∷ values) ≡ true → IsLine (body_of address values) (body_of address values ++ LF ∷ []) rest
data_line_is address values rest low = by_lf rest (body_lacks is_lf address values lf_foreign refl low) (data_ends address values low)

pub data_cut : (address : ℕ) (values rest : List ℕ) → list_all fits (address ∷ values) ≡ true
    → lines (data_line address values ++ rest) ≡ data_line address values ∷ lines rest
unfolding data_line
data_cut address values rest low = line_only (body_of address values ++ LF ∷ []) rest (data_line_is address values rest low)

pub data_read : (address : ℕ) (values : List ℕ) → 0 < length values → list_all fits (address ∷ values) ≡ true
    → shape_of (line_words (content (data_line address values))) ≡ Some (Data address values)
unfolding data_line
data_read address values some low =
    let body = body_of address values in
    rw (content_only (body ++ LF ∷ []) [] (data_line_is address values [] low), says_only body (codes "data" ∷ map decimal (address ∷ values)) (data_says address values low))
    (numbers_shape address values some low)
