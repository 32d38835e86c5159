-- The generated job is read line by line.
use Rattle.std.proofs.Common.{◌≡◌, ℕ, zero, suc, ◌+◌, ◌/◌, ◌%◌, ◌^◌, ◌<◌, ◌≤◌, true, List, [], ◌∷◌, ◌++◌, length, None, Ok, refl, ◌∙◌, ap, append_assoc, arith}
use Rattle.std.specs.Prelude.{◌==◌, nat_le, map}
use Rattle.std.specs.List.{list_all, range_with_len}
use Rattle.std.proofs.lemmas.Bool.Decides.{nat_tests}
use Rattle.std.proofs.lemmas.List.FromFn.{length-map-range_with_len}
use Rattle.qpu_text.specs.Lines.{lines}
use Rattle.qpu_job.specs.declared.job.Value.{Value}
use Rattle.qpu_job.specs.Plan.{Plan}
use Rattle.qpu_job.specs.Lines.{content}
use Rattle.qpu_job.specs.Words.{words_between, number_of, name_of}
use Rattle.qpu_job.specs.Shapes.{Limit, Data, shape_of, opening_shape, memory_shape, limit_shape, program_shape, start_shape}
use Rattle.qpu_job.specs.Above.{Above, at_first, above_next, values_from}
use Rattle.qpu_job.specs.Faults.{first_reason, stands, has_wrong_size, is_too_much, is_twice, is_no_processor, is_no_program, is_no_place}
use Rattle.qpu_job.specs.Reading.{after_shape, after_outside, after_inside, after_line, at_end, read_lines, job_of}
use Rattle.qpu_gen.specs.declared.generated.TheConstants.{COUNTED_WORDS}
use Rattle.qpu_gen.specs.Generated.{data_line, uniforms, counted, head_text, tail_text, program_text, starts_text, generated_job}
use Rattle.qpu_gen.specs.Plan.{word_value, counted_values, generated_values, generated_program, generated_start, generated_plan}
use Rattle.qpu_gen.specs.Reads.{GeneratedJobsAreRead}
use Rattle.qpu_gen.proofs.DataLines.{fits, data_read, data_cut}

-- the lines before the data

abbrev with_values : List Value → Plan
with_values values = record { words = 131072; limit = 100000; values = values; programs = []; starts = [] }

-- what stands above a line of data: the limit as the last of the first lines, and these values
abbrev at_data : List Value → Above
at_data values = record (above_next 3 at_first (Limit 100000)) { plan = with_values values }

head_read : (rest : List ℕ) → read_lines 1 at_first (lines (head_text ++ rest)) ≡ read_lines 4 (at_data []) (lines rest)
unfolding head_text lines read_lines after_outside after_shape content words_between number_of shape_of opening_shape memory_shape limit_shape first_reason stands has_wrong_size is_too_much is_twice is_no_processor is_no_program is_no_place above_next
head_read rest = refl

-- a line of data

step : (number : ℕ) (above next : Above) (line rest : List ℕ) → lines (line ++ rest) ≡ line ∷ lines rest → after_line number above line ≡ Ok next
    → read_lines number above (lines (line ++ rest)) ≡ read_lines (number + 1) next (lines rest)
unfolding read_lines
step number above next line rest cut is = rw (cut, is) refl

-- the words from this index on lie in memory
abbrev Lie : ℕ → List ℕ → Type 0
Lie address values = (address % 4 ≡ 0) × (address / 4 + length values ≤ 131072)

in_place : (above : List Value) (address : ℕ) (values : List ℕ) → Lie address values → first_reason (at_data above) (Data address values) ≡ None
unfolding first_reason stands has_wrong_size is_too_much is_twice is_no_processor is_no_program is_no_place above_next
in_place above address values lie =
    let whole : (address % 4 == 0) ≡ true = grind (arith, nat_tests, lie.0) in
    let inside : nat_le (address / 4 + length values) 131072 ≡ true = grind (arith, nat_tests, lie.1) in
    rw (whole, inside) refl

data_step : (number : ℕ) (above : List Value) (address : ℕ) (values rest : List ℕ) → 0 < length values → list_all fits (address ∷ values) ≡ true → Lie address values
    → read_lines number (at_data above) (lines (data_line address values ++ rest))
    ≡ read_lines (number + 1) (at_data (above ++ values_from (address / 4) values)) (lines rest)
unfolding after_outside after_shape above_next
data_step number above address values rest some low lie =
    let line = data_line address values in
    let next : after_line number (at_data above) line ≡ Ok (at_data (above ++ values_from (address / 4) values)) =
    rw (data_read address values some low, in_place above address values lie) refl in
    step number (at_data above) (at_data (above ++ values_from (address / 4) values)) line rest (data_cut address values rest low) next

-- the counted words

all_of : (f : ℕ → ℕ) (xs : List ℕ) → ((x : ℕ) → fits (f x) ≡ true) → list_all fits (map f xs) ≡ true
all_of f [] each = refl
all_of f (x ∷ xs) each = rw (each x) (all_of f xs each)

count_fits : (n k : ℕ) → fits ((n + k) % 2 ^ 32) ≡ true
count_fits n k = grind (arith, nat_tests)

pub counted_fit : (n words : ℕ) → list_all fits (counted n words) ≡ true
unfolding counted
counted_fit n words = all_of (λ k. (n + k) % 2 ^ 32) (range_with_len 0 words) (count_fits n)

pub counted_long : (n words : ℕ) → length (counted n words) ≡ words
unfolding counted
counted_long n words = length-map-range_with_len (λ k. (n + k) % 2 ^ 32) 0 words

values_by : (f : ℕ → ℕ) (first i words : ℕ) → values_from (first + i) (map f (range_with_len i words)) ≡ map (λ k. word_value (first + k) (f k)) (range_with_len i words)
unfolding values_from
values_by f first i zero = refl
values_by f first i (suc words) =
    let next : first + i + 1 ≡ first + (i + 1) = omega arith in
    rw next (ap (λ (vs : List Value). word_value (first + i) (f i) ∷ vs) (values_by f first (i + 1) words))

counted_from : (n words : ℕ) → values_from 16 (counted n words) ≡ counted_values n words
unfolding counted counted_values
counted_from n words = values_by (λ k. (n + k) % 2 ^ 32) 16 0 words

-- the lines behind the data

abbrev plan_with : List Value → Plan
plan_with values = record {
  words = 131072;
  limit = 100000;
  values = values;
  programs = generated_program ∷ [];
  starts = map generated_start (range_with_len 0 12);
}

tail_read : (values : List Value) → read_lines 6 (at_data values) (lines tail_text) ≡ Ok (plan_with values)
unfolding tail_text program_text starts_text lines read_lines at_end after_outside after_inside after_shape content words_between number_of name_of shape_of program_shape start_shape first_reason stands has_wrong_size is_too_much is_twice is_no_processor is_no_program is_no_place above_next
tail_read values = refl

-- the whole text

pub uniforms_fit : (n : ℕ) → n < 2 ^ 32 → list_all fits (0 ∷ uniforms n) ≡ true
uniforms_fit n low = let e : fits n ≡ true = grind (arith, nat_tests, low) in rw e refl

first_data : (n : ℕ) (rest : List ℕ) → n < 2 ^ 32
    → read_lines 4 (at_data []) (lines (data_line 0 (uniforms n) ++ rest))
    ≡ read_lines 5 (at_data (word_value 0 64 ∷ word_value 1 n ∷ word_value 2 196672 ∷ [])) (lines rest)
unfolding values_from
first_data n rest low = data_step 4 [] 0 (uniforms n) rest (omega arith) (uniforms_fit n low) (refl, omega arith)

second_data : (n words : ℕ) (above : List Value) (rest : List ℕ) → 0 < words → words ≤ 131056
    → read_lines 5 (at_data above) (lines (data_line 64 (counted n words) ++ rest)) ≡ read_lines 6 (at_data (above ++ counted_values n words)) (lines rest)
second_data n words above rest some few =
    let long = counted_long n words in
    rw (← counted_from n words)
    (data_step 5 above 64 (counted n words) rest (omega (arith, long, some)) (counted_fit n words) (refl, omega (arith, long, few)))

parts_of : (a b c d : List ℕ) → ((a ++ b) ++ c) ++ d ≡ a ++ (b ++ (c ++ d))
parts_of a b c d = rw (append_assoc (a ++ b) c d, append_assoc a b (c ++ d)) refl

all_read : (n words : ℕ) → n < 2 ^ 32 → 0 < words → words ≤ 131056
    → job_of (((head_text ++ data_line 0 (uniforms n)) ++ data_line 64 (counted n words)) ++ tail_text)
    ≡ Ok (plan_with (word_value 0 64 ∷ word_value 1 n ∷ word_value 2 196672 ∷ counted_values n words))
unfolding job_of
all_read n words low some few =
    rw (parts_of head_text (data_line 0 (uniforms n)) (data_line 64 (counted n words)) tail_text)
    (head_read (data_line 0 (uniforms n) ++ (data_line 64 (counted n words) ++ tail_text))
    ∙ first_data n (data_line 64 (counted n words) ++ tail_text) low
    ∙ second_data n words (word_value 0 64 ∷ word_value 1 n ∷ word_value 2 196672 ∷ []) tail_text some few
    ∙ tail_read (word_value 0 64 ∷ word_value 1 n ∷ word_value 2 196672 ∷ counted_values n words))

pub generated_read : GeneratedJobsAreRead
unfolding generated_job generated_plan generated_values
generated_read n low = all_read n COUNTED_WORDS low (omega arith) (omega arith)
