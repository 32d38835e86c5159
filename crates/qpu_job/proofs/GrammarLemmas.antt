-- Lines, their bodies and their words, from how they are written to how they are cut.
use Rattle.std.proofs.Common.{◌≡◌, ℕ, zero, suc, ◌-◌, ◌<◌, Bool, true, false, List, [], ◌∷◌, ◌++◌, length, take, get_or, All, refl, ap, ◌∙◌, append_assoc, append-nil, one-add, arith}
use Rattle.std.specs.Prelude.{filter, slice_index}
use Rattle.std.specs.List.{list_any, position_or_len, slice_split}
use Rattle.std.proofs.lemmas.Bool.{or_parts}
use Rattle.std.proofs.lemmas.Bool.Decides.{nat_tests}
use Rattle.std.proofs.lemmas.List.{length-append}
use Rattle.std.proofs.lemmas.List.Splits.{slice_split-cons_yes, slice_split_none, slice_split_at}
use Rattle.qpu_text.specs.Bytes.{is_blank, LF, CR, is_lf, is_hash}
use Rattle.qpu_text.specs.Lines.{lines, before_comment}
use Rattle.qpu_job.specs.Lines.{without_last, content}
use Rattle.qpu_job.specs.Words.{is_some_word, words_between, line_words}
use Rattle.qpu_job.specs.Grammar.{Lacks, Words, nothing, blank, last, followed, Comment, none, some, Says, IsLine, by_lf, by_cr_lf, by_none}
use Rattle.qpu_text.proofs.LineLemmas.{lines_none}
use Rattle.qpu_job.proofs.KeptLemmas.{any_push}

-- no byte passes, by place
pub lacks_at : (test : ℕ → Bool) (text : List ℕ) → Lacks test text → (k d : ℕ) → k < length text → test (get_or text k d) ≡ false
lacks_at test [] h k d below = absurd (omega (arith, below))
lacks_at test (byte ∷ text) h zero d below = (or_parts (test byte) (list_any test text) h).0
lacks_at test (byte ∷ text) h (suc k) d below = lacks_at test text (or_parts (test byte) (list_any test text) h).1 k d (omega (arith, below))

pub lacks_all : (test : ℕ → Bool) (text : List ℕ) → Lacks test text → All (λ byte. test byte ≡ false) text
lacks_all test text h = λ k d below. lacks_at test text h k d below

-- the words of what words are written in

one_word : (word : List ℕ) → 0 < length word → filter is_some_word (word ∷ []) ≡ word ∷ []
one_word [] h = absurd (omega (arith, h))
one_word (byte ∷ word) h = let e : is_some_word (byte ∷ word) ≡ true = grind (arith, nat_tests) in rw e refl

onto_word : (word : List ℕ) (words : List (List ℕ)) → 0 < length word → filter is_some_word (word ∷ words) ≡ word ∷ filter is_some_word words
onto_word word words h = let e : is_some_word word ≡ true = grind (arith, nat_tests) in rw e refl

pub words_only : (text : List ℕ) (words : List (List ℕ)) → Words text words → words_between text ≡ words
unfolding words_between
words_only text words nothing = refl
words_only text words (blank {text = rest} byte is h) = rw (slice_split-cons_yes is_blank byte rest is) (words_only rest words h)
words_only text words (last word is) = rw (slice_split_none is_blank word (lacks_all is_blank word is.whole)) (one_word word is.some)
words_only text words (followed {text = rest} {words = more} word byte is blank_is h) =
    rw (slice_split_at is_blank word byte rest (lacks_all is_blank word is.whole) blank_is)
    (onto_word word (slice_split is_blank rest) is.some ∙ ap (λ (ws : List (List ℕ)). word ∷ ws) (words_only rest more h))

-- what stands before a comment

before_it : (bare comment : List ℕ) → Lacks is_hash bare → Comment comment → position_or_len is_hash (bare ++ comment) ≡ length bare
before_it [] comment h none = refl
before_it [] comment h (some byte text is) = rw is refl
before_it (byte ∷ bare) comment h c =
    let parts = or_parts (is_hash byte) (list_any is_hash bare) h in
    rw (parts.0, before_it bare comment parts.1 c, one-add (length bare)) refl

take_front : (xs ys : List ℕ) → take (length xs) (xs ++ ys) ≡ xs
take_front [] ys = refl
take_front (x ∷ xs) ys = ap (λ (zs : List ℕ). x ∷ zs) (take_front xs ys)

pub says_only : (body : List ℕ) (words : List (List ℕ)) → Says body words → line_words body ≡ words
says_only body words s =
    let place = before_it s.bare s.comment s.no_hash s.is_comment in
    let front : before_comment (s.bare ++ s.comment) ≡ s.bare = rw place (take_front s.bare s.comment) in
    rw s.parts (ap words_between front ∙ words_only s.bare words s.spelled)

-- the line that a line is

line_by_lf : (body rest : List ℕ) → Lacks is_lf body → lines ((body ++ LF ∷ []) ++ rest) ≡ (body ++ LF ∷ []) ∷ lines rest
unfolding lines
line_by_lf [] rest h = refl
line_by_lf (byte ∷ body) rest h =
    let parts = or_parts (is_lf byte) (list_any is_lf body) h in
    rw (parts.0, line_by_lf body rest parts.1) refl

line_by_none : (byte : ℕ) (body : List ℕ) → Lacks is_lf (byte ∷ body) → lines (byte ∷ body) ≡ (byte ∷ body) ∷ []
unfolding lines
line_by_none byte [] h = let parts = or_parts (is_lf byte) false h in rw parts.0 refl
line_by_none byte (next ∷ body) h =
    let parts = or_parts (is_lf byte) (list_any is_lf (next ∷ body)) h in
    rw (parts.0, line_by_none next body parts.1) refl

line_open : (body : List ℕ) → Lacks is_lf body → 0 < length body → lines (body ++ []) ≡ body ∷ lines []
line_open [] h long = absurd (omega (arith, long))
line_open (byte ∷ body) h long = rw (append-nil (byte ∷ body), lines_none) (line_by_none byte body h)

with_cr : (body : List ℕ) → Lacks is_lf body → Lacks is_lf (body ++ CR ∷ [])
with_cr body h = any_push is_lf body CR h refl

pub line_only : {body : List ℕ} (line rest : List ℕ) → IsLine body line rest → lines (line ++ rest) ≡ line ∷ lines rest
line_only {body} line rest (by_lf more lacks end) = line_by_lf body rest lacks
line_only {body} line rest (by_cr_lf more lacks) = rw (← append_assoc body (CR ∷ []) (LF ∷ [])) (line_by_lf (body ++ CR ∷ []) rest (with_cr body lacks))
line_only {body} line rest (by_none lacks long) = line_open body lacks long

-- the body of a line

last_index : (body : List ℕ) (byte : ℕ) → slice_index (body ++ byte ∷ []) (length (body ++ byte ∷ []) - 1) ≡ byte
last_index body byte =
    let long : length (body ++ byte ∷ []) - 1 ≡ length body = omega (arith, length-append body (byte ∷ [])) in
    rw long (at_end body byte)
  where
    at_end : (body : List ℕ) (byte : ℕ) → slice_index (body ++ byte ∷ []) (length body) ≡ byte
    at_end [] byte = refl
    at_end (b ∷ body) byte = at_end body byte

without_end : (body : List ℕ) (byte : ℕ) → take (length (body ++ byte ∷ []) - 1) (body ++ byte ∷ []) ≡ body
without_end body byte =
    let long : length (body ++ byte ∷ []) - 1 ≡ length body = omega (arith, length-append body (byte ∷ [])) in
    rw long (take_front body (byte ∷ []))

content_lf : (text : List ℕ) → content (text ++ LF ∷ []) ≡ without_last CR text
unfolding content
content_lf text = rw (last_index text LF, without_end text LF) refl

content_open : (body : List ℕ) → Lacks is_lf body → 0 < length body → content body ≡ body
unfolding content
content_open body h long =
    let other : is_lf (slice_index body (length body - 1)) ≡ false = lacks_at is_lf body h (length body - 1) 0 (omega (arith, long)) in
    rw other refl

pub content_only : {body : List ℕ} (line rest : List ℕ) → IsLine body line rest → content line ≡ body
content_only {body} line rest (by_lf more lacks end) = content_lf body ∙ rw end refl
content_only {body} line rest (by_cr_lf more lacks) =
    rw (← append_assoc body (CR ∷ []) (LF ∷ [])) (content_lf (body ++ CR ∷ []) ∙ rw (last_index body CR, without_end body CR) refl)
content_only {body} line rest (by_none lacks long) = content_open body lacks long
