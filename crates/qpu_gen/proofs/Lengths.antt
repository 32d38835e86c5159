-- The text of the generated job is short.
use Rattle.std.proofs.Common.{◌≡◌, ℕ, ◌+◌, ◌*◌, ◌^◌, ◌<◌, ◌≤◌, true, List, [], ◌∷◌, ◌++◌, length, refl, arith}
use Rattle.std.specs.Prelude.{codes, decimal, flat_map}
use Rattle.std.specs.List.{list_all}
use Rattle.std.proofs.lemmas.Bool.{and_parts}
use Rattle.std.proofs.lemmas.Bool.Decides.{nat_tests}
use Rattle.std.proofs.lemmas.Fmt.{length-decimal-le}
use Rattle.std.proofs.lemmas.List.{length-append}
use Rattle.qpu_text.specs.Bytes.{LF}
use Rattle.qpu_gen.specs.declared.generated.TheConstants.{COUNTED_WORDS}
use Rattle.qpu_gen.specs.Generated.{spaced, data_line, uniforms, counted, head_text, tail_text, program_text, starts_text, generated_job}
use Rattle.qpu_gen.proofs.DataLines.{fits}
use Rattle.qpu_gen.proofs.Reading.{uniforms_fit, counted_fit, counted_long}

number_short : (n : ℕ) → fits n ≡ true → length (decimal n) ≤ 10
number_short n low =
    let small : n < 2 ^ 32 = grind (arith, nat_tests, low) in
    length-decimal-le 10 n (omega arith) (omega (arith, small)) (omega (arith, small))

numbers_short : (values : List ℕ) → list_all fits values ≡ true → length (flat_map spaced values) ≤ 11 * length values
numbers_short [] low = omega arith
numbers_short (n ∷ values) low =
    let parts = and_parts (fits n) (list_all fits values) low in
    omega (arith, length-append (decimal n) (flat_map spaced values), number_short n parts.0, numbers_short values parts.1)

line_short : (address : ℕ) (values : List ℕ) → list_all fits (address ∷ values) ≡ true → length (data_line address values) ≤ 16 + 11 * length values
unfolding data_line
line_short address values low =
    let numbers = flat_map spaced (address ∷ values) in
    omega (arith, length-append (codes "data" ++ numbers) (LF ∷ []), length-append (codes "data") numbers, numbers_short (address ∷ values) low)

head_long : length head_text ≡ 36
unfolding head_text
head_long = refl

tail_long : length tail_text ≡ 751
unfolding tail_text program_text starts_text
tail_long = refl

all_short : (n words : ℕ) → n < 2 ^ 32 → length (((head_text ++ data_line 0 (uniforms n)) ++ data_line 64 (counted n words)) ++ tail_text) ≤ 2000 + 11 * words
all_short n words low =
    let a = data_line 0 (uniforms n) in
    let b = data_line 64 (counted n words) in
    omega (
      arith,
      length-append ((head_text ++ a) ++ b) tail_text,
      length-append (head_text ++ a) b,
      length-append head_text a,
      head_long,
      tail_long,
      line_short 0 (uniforms n) (uniforms_fit n low),
      line_short 64 (counted n words) (counted_fit n words),
      counted_long n words,
    )

pub job_short : (n : ℕ) → n < 2 ^ 32 → length (generated_job n) ≤ 2 ^ 20
unfolding generated_job
job_short n low = omega (arith, all_short n COUNTED_WORDS low)
