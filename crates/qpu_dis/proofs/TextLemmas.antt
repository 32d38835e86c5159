-- How the bits of a line make one text, at the end and where a fault cuts it off.
use Rattle.std.proofs.Common.{◌≡◌, ℕ, List, [], ◌∷◌, ◌++◌, Result, Ok, Err, IsErr, sym, ap, ◌∙◌, append_assoc, flat_map, map}
use Rattle.std.proofs.lemmas.List.Concat.{flat_map-append}
use Rattle.std.proofs.lemmas.List.Folds.{flat_map-map}
use Rattle.std.proofs.lemmas.Bool.{false≢true}
use Rattle.qpu_io.specs.Output.{Output, appended, Cut, Prints}
use Rattle.qpu_io.proofs.Outputs.{appended_then, appended_none, cut_more, cut_after}
use Rattle.qpu_word.specs.declared.word.Word.{Word}
use Rattle.qpu_line.specs.Lines.{Bit}
use Rattle.qpu_dis.specs.Text.{bit_text, bits_text, ended_line}

pub bits_append : (xs ys : List Bit) → bits_text (xs ++ ys) ≡ bits_text xs ++ bits_text ys
unfolding bits_text
bits_append xs ys = flat_map-append bit_text xs ys

-- bits were written, and the others behind them
pub bits_later : {T E : Type 0} (o s t : Output) (xs ys : List Bit) (r : Result T E)
    → s ≡ appended o (bits_text xs) → Prints s t (bits_text ys) r → Prints o t (bits_text (xs ++ ys)) r
bits_later o s t xs ys (Ok v) p q = rw (bits_append xs ys) (appended_then o s t (bits_text xs) (bits_text ys) p q)
bits_later o s t xs ys (Err e) p cut = rw (bits_append xs ys) (cut_more o s t (bits_text xs) (bits_text ys) p cut)

-- bits were cut off, so those behind them aren't there
pub bits_cut : {T E : Type 0} (o t : Output) (xs ys : List Bit) (r : Result T E) → IsErr r → Cut o t (bits_text xs)
    → Prints o t (bits_text (xs ++ ys)) r
bits_cut o t xs ys (Ok v) failed cut = absurd (false≢true failed)
bits_cut o t xs ys (Err e) failed cut = rw (bits_append xs ys) (cut_after o t (bits_text xs) (bits_text ys) cut)

-- bits were written, and then those behind them
pub bits_both : (o s t : Output) (xs ys : List Bit) → s ≡ appended o (bits_text xs) → t ≡ appended s (bits_text ys)
    → t ≡ appended o (bits_text (xs ++ ys))
bits_both o s t xs ys p q = rw (bits_append xs ys) (appended_then o s t (bits_text xs) (bits_text ys) p q)

-- a text was cut off, so the bits behind it aren't there
pub bits_front : {T E : Type 0} (o t : Output) (xs ys : List Bit) (r : Result T E) → IsErr r → Prints o t (bits_text xs) r
    → Prints o t (bits_text (xs ++ ys)) r
bits_front o t xs ys (Ok v) failed cut = absurd (false≢true failed)
bits_front o t xs ys (Err e) failed cut = rw (bits_append xs ys) (cut_after o t (bits_text xs) (bits_text ys) cut)

-- the same of one bit, and of two
pub bit_later : {T E : Type 0} (o s t : Output) (x : Bit) (ys : List Bit) (r : Result T E)
    → s ≡ appended o (bits_text (x ∷ [])) → Prints s t (bits_text ys) r → Prints o t (bits_text (x ∷ ys)) r
bit_later o s t x ys r p q = bits_later o s t (x ∷ []) ys r p q

pub bit_cut : {T E : Type 0} (o t : Output) (x : Bit) (ys : List Bit) (r : Result T E) → IsErr r → Cut o t (bits_text (x ∷ []))
    → Prints o t (bits_text (x ∷ ys)) r
bit_cut o t x ys r failed cut = bits_cut o t (x ∷ []) ys r failed cut

pub two_later : {T E : Type 0} (o s t : Output) (x y : Bit) (ys : List Bit) (r : Result T E)
    → s ≡ appended o (bits_text (x ∷ y ∷ [])) → Prints s t (bits_text ys) r → Prints o t (bits_text (x ∷ y ∷ ys)) r
two_later o s t x y ys r p q = bits_later o s t (x ∷ y ∷ []) ys r p q

pub two_cut : {T E : Type 0} (o t : Output) (x y : Bit) (ys : List Bit) (r : Result T E) → IsErr r
    → Cut o t (bits_text (x ∷ y ∷ [])) → Prints o t (bits_text (x ∷ y ∷ ys)) r
two_cut o t x y ys r failed cut = bits_cut o t (x ∷ y ∷ []) ys r failed cut

-- the same bits in another order of joining
pub bits_again : {T E : Type 0} (o t : Output) (xs ys : List Bit) (r : Result T E) → xs ≡ ys → Prints o t (bits_text ys) r
    → Prints o t (bits_text xs) r
bits_again o t xs ys r same p = rw same p

-- what stands behind a first part, joined first
pub behind_three : (a b c d : List Bit) → a ++ b ++ c ++ d ≡ a ++ (b ++ c ++ d)
behind_three a b c d = ap (λ z. z ++ d) (append_assoc a b c) ∙ append_assoc a (b ++ c) d

pub behind_four : (a b c d e : List Bit) → a ++ b ++ c ++ d ++ e ≡ a ++ (b ++ c ++ d ++ e)
behind_four a b c d e = ap (λ z. z ++ e) (behind_three a b c d) ∙ append_assoc a (b ++ c ++ d) e

-- a line that several calls write
pub ruleset bits = (bits_later, bits_cut, bit_later, bit_cut, two_later, two_cut, bits_both, bits_front)

-- a text was written, and another behind it
pub text_later : {T E : Type 0} (o s t : Output) (xs ys : List ℕ) (r : Result T E) → s ≡ appended o xs → Prints s t ys r
    → Prints o t (xs ++ ys) r
text_later o s t xs ys (Ok v) p q = appended_then o s t xs ys p q
text_later o s t xs ys (Err e) p cut = cut_more o s t xs ys p cut

pub text_cut : {T E : Type 0} (o t : Output) (xs ys : List ℕ) (r : Result T E) → IsErr r → Cut o t xs → Prints o t (xs ++ ys) r
text_cut o t xs ys (Ok v) failed cut = absurd (false≢true failed)
text_cut o t xs ys (Err e) failed cut = cut_after o t xs ys cut

pub ruleset texts = (text_later, text_cut)

-- nothing was written
pub no_bits : (o : Output) → o ≡ appended o (bits_text [])
unfolding bits_text
no_bits o = sym (appended_none o)

-- the line of a word of the code
abbrev pub line_of_word : Word → List ℕ
line_of_word word = ended_line word.0

pub lines_of_words : (words : List Word) → flat_map ended_line (map (λ word. word.0) words) ≡ flat_map line_of_word words
lines_of_words words = flat_map-map ended_line (λ (word : Word). word.0) words
