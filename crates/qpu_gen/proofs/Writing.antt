-- The text is written piece by piece.
use Rattle.std.proofs.Common.{◌≡◌, ℕ, ◌+◌, ◌%◌, ◌^◌, List, [], ◌∷◌, ◌++◌, refl, sym, ◌∙◌, ap, append_assoc, append-nil, arith}
use Rattle.std.specs.Prelude.{codes, flat_map}
use Rattle.std.proofs.lemmas.List.{flat_map_more}
use Rattle.std.proofs.lemmas.List.FromFn.{map-range_with_len_more}
use Rattle.qpu_text.specs.Bytes.{LF}
use Rattle.qpu_gen.specs.Generated.{spaced, data_line, uniforms, counted, head_text, tail_text, program_text, starts_text, generated_job}
use Rattle.qpu_gen.specs.declared.generated.TheConstants.{COUNTED_WORDS, HEAD, TAIL}

-- none of the counted words, and one more

pub counted_none : (text : List ℕ) (n : ℕ) → text ≡ text ++ flat_map spaced (counted n 0)
unfolding counted
counted_none text n = sym (append-nil text)

pub counted_more : (text now : List ℕ) (n k : ℕ) → now ≡ text ++ flat_map spaced (counted n k)
    → now ++ spaced ((n + k) % 2 ^ 32) ≡ text ++ flat_map spaced (counted n (k + 1))
unfolding counted
counted_more text now n k is =
    rw (is, map-range_with_len_more (λ k. (n + k) % 2 ^ 32) 0 k k (omega arith))
    (flat_map_more spaced text (counted n k) ((n + k) % 2 ^ 32))

-- a line of data

line_of : (text d s v e : List ℕ) → (((text ++ d) ++ s) ++ v) ++ e ≡ text ++ ((d ++ (s ++ v)) ++ e)
line_of text d s v e = rw (append_assoc (text ++ d) s v, append_assoc text d (s ++ v), append_assoc text (d ++ (s ++ v)) e) refl

pub data_put : (text : List ℕ) (address : ℕ) (values : List ℕ)
    → (((text ++ codes "data") ++ spaced address) ++ flat_map spaced values) ++ codes "\n" ≡ text ++ data_line address values
unfolding data_line
data_put text address values = line_of text (codes "data") (spaced address) (flat_map spaced values) (LF ∷ [])

three_of : (text a b c : List ℕ) → ((text ++ a) ++ b) ++ c ≡ text ++ (a ++ (b ++ (c ++ [])))
three_of text a b c = rw (append-nil c, append_assoc (text ++ a) b c, append_assoc text a (b ++ c)) refl

pub uniforms_put : (text : List ℕ) (n : ℕ)
    → (((((text ++ codes "data") ++ spaced 0) ++ spaced 64) ++ spaced n) ++ spaced 196672) ++ codes "\n" ≡ text ++ data_line 0 (uniforms n)
uniforms_put text n =
    ap (λ (t : List ℕ). t ++ codes "\n") (three_of ((text ++ codes "data") ++ spaced 0) (spaced 64) (spaced n) (spaced 196672))
    ∙ data_put text 0 (uniforms n)

-- the whole text

four_of : (text a b c d : List ℕ) → (((text ++ a) ++ b) ++ c) ++ d ≡ text ++ (((a ++ b) ++ c) ++ d)
four_of text a b c d = rw (← append_assoc text ((a ++ b) ++ c) d, ← append_assoc text (a ++ b) c, ← append_assoc text a b) refl

head_is : HEAD.now ≡ head_text
unfolding head_text
head_is = refl

tail_is : TAIL.now ≡ tail_text
unfolding tail_text program_text starts_text
tail_is = refl

pub job_put : (text : List ℕ) (n : ℕ)
    → (((text ++ HEAD.now) ++ data_line 0 (uniforms n)) ++ data_line 64 (counted n COUNTED_WORDS)) ++ TAIL.now ≡ text ++ generated_job n
unfolding generated_job
job_put text n =
    rw (head_is, tail_is) (four_of text head_text (data_line 0 (uniforms n)) (data_line 64 (counted n COUNTED_WORDS)) tail_text)
