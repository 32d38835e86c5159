-- The words of a text, blank by blank, and the numbers that words write, word by word.
use Rattle.std.proofs.Common.{◌≡◌, ℕ, zero, suc, ◌+◌, ◌<◌, ◌≤◌, true, false, List, [], ◌∷◌, ◌++◌, length, take, drop, get_or, Option, Some, None, All, refl, ap, sym, ◌∙◌, append_assoc, append-nil, add-one, arith}
use Rattle.std.specs.Prelude.{position, filter, option_map}
use Rattle.std.specs.List.{slice_split, list_all}
use Rattle.std.specs.Borrow.{Bor}
use Rattle.std.proofs.Math.Seq.{drop-cons}
use Rattle.std.proofs.lemmas.Bool.{and_parts}
use Rattle.std.proofs.lemmas.Bool.Decides.{nat_tests}
use Rattle.std.proofs.lemmas.List.{drop_all}
use Rattle.std.proofs.lemmas.List.Elements.{filter-append}
use Rattle.std.proofs.lemmas.List.Splits.{slice_split_first, slice_split_none}
use Rattle.std.proofs.lemmas.List.Sums.{fails_before_first}
use Rattle.qpu_text.specs.Bytes.{is_blank, is_name_byte}
use Rattle.qpu_text.proofs.LineLemmas.{at_first, none_first}
use Rattle.qpu_job.specs.Words.{is_some_word, words_between, number_of, line_numbers, texts_of}

-- what stands before the first blank is a word unless it is empty, and the others stand behind it
pub words_first : (text : List ℕ) (at : ℕ) → position is_blank text ≡ Some at → words_between text ≡ filter is_some_word (take at text ∷ []) ++ words_between (drop (at + 1) text)
unfolding words_between
words_first text at h =
    let found = at_first is_blank text at h in
    let split = slice_split_first is_blank text 0 found.0 in
    rw (split, found.1) (filter-append is_some_word (take at text ∷ []) (slice_split is_blank (drop (at + 1) text)))

-- a text without blanks is a word unless it is empty
pub words_last : (text : List ℕ) → position is_blank text ≡ None → words_between text ≡ filter is_some_word (text ∷ [])
unfolding words_between
words_last text h =
    let past = none_first is_blank text h in
    let none : All (λ byte. is_blank byte ≡ false) text = λ k d below. fails_before_first is_blank text k d (omega (arith, past, below)) in
    rw (slice_split_none is_blank text none) refl

-- words told so far, and those of the rest
pub words_more : (front all told word others : List (List ℕ)) (text : List ℕ) → words_between text ≡ word ++ others → told ≡ front ++ word → front ++ words_between text ≡ all → told ++ others ≡ all
words_more front all told word others text first is so_far =
    ap (λ (t : List (List ℕ)). t ++ others) is ∙ append_assoc front word others ∙ ap (λ (t : List (List ℕ)). front ++ t) (sym first) ∙ so_far

pub words_done : (front all told word : List (List ℕ)) (text : List ℕ) → words_between text ≡ word → told ≡ front ++ word → front ++ words_between text ≡ all → told ≡ all
words_done front all told word text last is so_far = is ∙ ap (λ (t : List (List ℕ)). front ++ t) (sym last) ∙ so_far

-- numbers told so far, and those of the other words
abbrev pub with_numbers : List ℕ → Option (List ℕ) → Option (List ℕ)
with_numbers front numbers = option_map (λ more. front ++ more) numbers

drop_here : (words : List (Bor (List ℕ))) (i : ℕ) (d : Bor (List ℕ)) → i < length words → drop i words ≡ get_or words i d ∷ drop (i + 1) words
drop_here words i d below = rw (add-one, drop-cons words i d) refl

regroup : (front : List ℕ) (n : ℕ) (numbers : Option (List ℕ)) → with_numbers front (option_map (λ more. n ∷ more) numbers) ≡ with_numbers (front ++ n ∷ []) numbers
regroup front n None = refl
regroup front n (Some more) = ap (λ (t : List ℕ). Some t) (sym (append_assoc front (n ∷ []) more))

pub numbers_more : (words : List (Bor (List ℕ))) (i : ℕ) (d : Bor (List ℕ)) (front : List ℕ) (n : ℕ) (all : Option (List ℕ)) → i < length words → number_of (get_or words i d).now ≡ Some n
    → with_numbers front (line_numbers (texts_of (drop i words))) ≡ all → with_numbers (front ++ n ∷ []) (line_numbers (texts_of (drop (i + 1) words))) ≡ all
unfolding line_numbers
numbers_more words i d front n all below one so_far =
    let here : with_numbers front (line_numbers (texts_of (drop i words))) ≡ with_numbers front (option_map (λ more. n ∷ more) (line_numbers (texts_of (drop (i + 1) words)))) = rw (drop_here words i d below, one) refl in
    sym (regroup front n (line_numbers (texts_of (drop (i + 1) words)))) ∙ sym here ∙ so_far

pub numbers_none : (words : List (Bor (List ℕ))) (i : ℕ) (d : Bor (List ℕ)) (front : List ℕ) (all : Option (List ℕ)) → i < length words → number_of (get_or words i d).now ≡ None
    → with_numbers front (line_numbers (texts_of (drop i words))) ≡ all → all ≡ None
unfolding line_numbers
numbers_none words i d front all below none so_far =
    let here : with_numbers front (line_numbers (texts_of (drop i words))) ≡ None = rw (drop_here words i d below, none) refl in
    sym so_far ∙ here

pub numbers_done : (words : List (Bor (List ℕ))) (i : ℕ) (front : List ℕ) (all : Option (List ℕ)) → length words ≤ i
    → with_numbers front (line_numbers (texts_of (drop i words))) ≡ all → all ≡ Some front
unfolding line_numbers
numbers_done words i front all past so_far =
    let nothing : drop i words ≡ [] = drop_all i words past in
    let here : with_numbers front (line_numbers (texts_of (drop i words))) ≡ Some front = rw nothing (ap (λ (t : List ℕ). Some t) (append-nil front)) in
    sym so_far ∙ here

-- the bytes of names are ASCII

name_byte_small : (byte : ℕ) → is_name_byte byte ≡ true → byte < 128
name_byte_small byte h = grind (arith, nat_tests)

pub name_is_ascii : (name : List ℕ) → list_all is_name_byte name ≡ true → (i : ℕ) → get_or name i 0 < 128
name_is_ascii [] h i = omega arith
name_is_ascii (byte ∷ name) h zero = name_byte_small byte (and_parts (is_name_byte byte) (list_all is_name_byte name) h).0
name_is_ascii (byte ∷ name) h (suc i) = name_is_ascii name (and_parts (is_name_byte byte) (list_all is_name_byte name) h).1 i
