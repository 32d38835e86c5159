-- What is read is a job of the grammar.
use Rattle.std.proofs.Common.{◌≡◌, ◌≢◌, ℕ, zero, suc, ◌+◌, ◌-◌, ◌≤◌, Bool, true, false, List, [], ◌∷◌, ◌++◌, length, take, drop, get_or, Option, Some, None, Result, Ok, Err, refl, ap, sym, subst, ◌∙◌, append_assoc, append-nil, one-add, add-one, arith}
use Rattle.std.specs.Prelude.{position, filter, ◌&&◌, codes, is_none}
use Rattle.std.specs.List.{list_any, position_or_len}
use Rattle.std.proofs.Math.Seq.{drop-cons}
use Rattle.std.proofs.lemmas.Bool.{or_parts, eqb-true, and_parts}
use Rattle.std.proofs.lemmas.Bool.Decides.{nat_tests}
use Rattle.std.proofs.lemmas.Slice.Eq.{bytes_eq-Decides}
use Rattle.std.proofs.lemmas.List.{length-drop, take-append-drop, nil_from_length, take_all}
use Rattle.std.proofs.lemmas.List.Sums.{passes_at_first}
use Rattle.qpu_text.specs.Bytes.{is_blank, LF, CR, is_lf, is_hash}
use Rattle.qpu_job.specs.declared.fault.JobFault.{JobFault}
use Rattle.qpu_job.specs.declared.reason.Reason.{Reason}
use Rattle.qpu_text.specs.Lines.{lines, before_comment}
use Rattle.qpu_job.specs.Lines.{content}
use Rattle.qpu_job.specs.Words.{is_some_word, words_between, line_words}
use Rattle.qpu_job.specs.Shapes.{Shape, shape_of}
use Rattle.qpu_job.specs.Plan.{Plan, Program}
use Rattle.qpu_job.specs.Above.{Above, at_first, above_next, with_line, with_program}
use Rattle.qpu_job.specs.Faults.{first_reason}
use Rattle.qpu_job.specs.Reading.{is_end, is_limited, and_then, unless_fault, after_shape, after_outside, after_inside, after_line_in, after_line, at_end, read_lines, job_of}
use Rattle.qpu_job.specs.Grammar.{Lacks, Words, nothing, blank, last, followed, Comment, none, some, Says, ends_in_cr, IsLine, by_lf, by_cr_lf, by_none, Asks, ends, says, tells, closes, ReadsJobsAlone}
use Rattle.qpu_text.proofs.LineLemmas.{at_first as found_at, none_first, lines_first, lines_last, lines_none, line_ends}
use Rattle.qpu_job.proofs.WordLemmas.{words_first, words_last}
use Rattle.qpu_job.proofs.LineKeeps.{by_end, job_end, limited}
use Rattle.qpu_job.proofs.GrammarLemmas.{content_only}

-- what stands before the first byte that passes

lacks_by : (test : ℕ → Bool) (byte : ℕ) (text : List ℕ) (b : Bool) → test byte ≡ b → Lacks test (take (position_or_len test text) text) → Lacks test (take (position_or_len test (byte ∷ text)) (byte ∷ text))
lacks_by test byte text true is h = rw is refl
lacks_by test byte text false is h =
    let place : position_or_len test (byte ∷ text) ≡ suc (position_or_len test text) = rw is (one-add (position_or_len test text)) in
    rw (place, is) h

pub lacks_take : (test : ℕ → Bool) (text : List ℕ) → Lacks test (take (position_or_len test text) text)
lacks_take test [] = refl
lacks_take test (byte ∷ text) = lacks_by test byte text (test byte) refl (lacks_take test text)

lacks_none : (test : ℕ → Bool) (text : List ℕ) → position test text ≡ None → Lacks test text
lacks_none test text h =
    let all : take (position_or_len test text) text ≡ text = take_all (position_or_len test text) text (none_first test text h) in
    subst (Lacks test) all (lacks_take test text)

lacks_front : (test : ℕ → Bool) (xs ys : List ℕ) → Lacks test (xs ++ ys) → Lacks test xs
lacks_front test [] ys h = refl
lacks_front test (x ∷ xs) ys h =
    let parts = or_parts (test x) (list_any test (xs ++ ys)) h in
    rw parts.0 (lacks_front test xs ys parts.1)

-- a text before its first byte that passes, with the byte, and behind
split_at : (test : ℕ → Bool) (text : List ℕ) (at : ℕ) → position test text ≡ Some at → text ≡ take at text ++ get_or text at 0 ∷ drop (at + 1) text
split_at test text at h =
    let below = (found_at test text at h).0 in
    let place = (found_at test text at h).1 in
    let here : drop at text ≡ get_or text at 0 ∷ drop (at + 1) text = rw (add-one, drop-cons text at 0 (omega (arith, below, place))) refl in
    sym (take-append-drop at text) ∙ ap (λ (ys : List ℕ). take at text ++ ys) here

passes_at : (test : ℕ → Bool) (text : List ℕ) (at : ℕ) → position test text ≡ Some at → test (get_or text at 0) ≡ true
passes_at test text at h =
    let found = found_at test text at h in
    let p = passes_at_first test text 0 found.0 in
    rw (← found.1) p

-- the words of a text

last_words : (text : List ℕ) → Lacks is_blank text → Words text (filter is_some_word (text ∷ []))
last_words [] h = nothing
last_words (byte ∷ text) h = let e : is_some_word (byte ∷ text) ≡ true = grind (arith, nat_tests) in rw e (last (byte ∷ text) (record { some = omega arith; whole = h }))

front_words : (word : List ℕ) (byte : ℕ) (text : List ℕ) (words : List (List ℕ)) → Lacks is_blank word → is_blank byte ≡ true → Words text words
    → Words (word ++ byte ∷ text) (filter is_some_word (word ∷ []) ++ words)
front_words [] byte text words h is more = blank byte is more
front_words (b ∷ word) byte text words h is more =
    let e : is_some_word (b ∷ word) ≡ true = grind (arith, nat_tests) in
    rw e (followed (b ∷ word) byte (record { some = omega arith; whole = h }) is more)

words_from : (n : ℕ) (text : List ℕ) (place : Option ℕ) → position is_blank text ≡ place → length text ≤ suc n
    → ((rest : List ℕ) → length rest ≤ n → Words rest (words_between rest)) → Words text (words_between text)
words_from n text None is few more = rw (words_last text is) (last_words text (lacks_none is_blank text is))
words_from n text (Some at) is few more =
    let found = found_at is_blank text at is in
    let word : Lacks is_blank (take at text) = subst (λ (k : ℕ). Lacks is_blank (take k text)) found.1 (lacks_take is_blank text) in
    let behind = more (drop (at + 1) text) (omega (arith, length-drop (at + 1) text, few, found.0)) in
    let all = front_words (take at text) (get_or text at 0) (drop (at + 1) text) (words_between (drop (at + 1) text)) word (passes_at is_blank text at is) behind in
    rw (words_first text at is) (subst (λ (t : List ℕ). Words t (filter is_some_word (take at text ∷ []) ++ words_between (drop (at + 1) text))) (sym (split_at is_blank text at is)) all)

no_words : Words [] (words_between [])
unfolding words_between
no_words = nothing

words_found : (n : ℕ) (text : List ℕ) → length text ≤ n → Words text (words_between text)
words_found zero text few = subst (λ (t : List ℕ). Words t (words_between t)) (sym (nil_from_length text (omega (arith, few)))) no_words
words_found (suc n) text few = words_from n text (position is_blank text) refl few (words_found n)

-- the comment of a line

comment_by : (byte : ℕ) (text : List ℕ) (b : Bool) → is_hash byte ≡ b → Comment (drop (position_or_len is_hash text) text) → Comment (drop (position_or_len is_hash (byte ∷ text)) (byte ∷ text))
comment_by byte text true is h = rw is (some byte text is)
comment_by byte text false is h =
    let place : position_or_len is_hash (byte ∷ text) ≡ suc (position_or_len is_hash text) = rw is (one-add (position_or_len is_hash text)) in
    rw place h

comment_found : (text : List ℕ) → Comment (drop (position_or_len is_hash text) text)
comment_found [] = none
comment_found (byte ∷ text) = comment_by byte text (is_hash byte) refl (comment_found text)

says_found : (body : List ℕ) → Says body (line_words body)
says_found body = record {
  bare = before_comment body;
  comment = drop (position_or_len is_hash body) body;
  parts = sym (take-append-drop (position_or_len is_hash body) body);
  no_hash = lacks_take is_hash body;
  is_comment = comment_found body;
  spelled = words_found (length (before_comment body)) (before_comment body) (omega arith);
}

-- the lines of a text

last_cr : (text : List ℕ) → ends_in_cr text ≡ true → (front : List ℕ) × (text ≡ front ++ CR ∷ [])
last_cr [] h = absurd (cc)
last_cr (byte ∷ []) h = ([], ap (λ (b : ℕ). b ∷ []) (eqb-true byte CR h))
last_cr (byte ∷ next ∷ text) h =
    let place : length (byte ∷ next ∷ text) - 1 ≡ suc (length (next ∷ text) - 1) = omega arith in
    let found = last_cr (next ∷ text) (rw place at h) in
    (byte ∷ found.0, ap (λ (t : List ℕ). byte ∷ t) found.1)

-- a line's body, for a line before a rest
abbrev HasBody : List ℕ → List ℕ → Type 0
HasBody line rest = (body : List ℕ) × IsLine body line rest

body_by : (text rest : List ℕ) (b : Bool) → ends_in_cr text ≡ b → Lacks is_lf text → HasBody (text ++ LF ∷ []) rest
body_by text rest false is h = (text, by_lf rest h is)
body_by text rest true is h =
    let found = last_cr text is in
    let front : Lacks is_lf found.0 = lacks_front is_lf found.0 (CR ∷ []) (rw found.1 at h) in
    let same : found.0 ++ CR ∷ LF ∷ [] ≡ text ++ LF ∷ [] = sym (append_assoc found.0 (CR ∷ []) (LF ∷ [])) ∙ ap (λ (t : List ℕ). t ++ LF ∷ []) (sym found.1) in
    (found.0, subst (λ (l : List ℕ). IsLine found.0 l rest) same (by_cr_lf rest front))

-- the first line, its body, and the rest
record Cut (text line : List ℕ) (more : List (List ℕ)) : Type 0 where
  rest : List ℕ
  parts : text ≡ line ++ rest
  others : lines rest ≡ more
  body : HasBody line rest

lf_only : (byte : ℕ) → is_lf byte ≡ true → byte ≡ LF
lf_only byte h = eqb-true byte LF h

cut_at : (text : List ℕ) (at : ℕ) → position is_lf text ≡ Some at → Cut text (take at text ++ LF ∷ []) (lines (drop (at + 1) text))
cut_at text at is =
    let found = found_at is_lf text at is in
    let front : Lacks is_lf (take at text) = subst (λ (k : ℕ). Lacks is_lf (take k text)) found.1 (lacks_take is_lf text) in
    let byte = lf_only (get_or text at 0) (passes_at is_lf text at is) in
    record {
      rest = drop (at + 1) text;
      parts = split_at is_lf text at is ∙ ap (λ (b : ℕ). take at text ++ b ∷ drop (at + 1) text) byte ∙ sym (append_assoc (take at text) (LF ∷ []) (drop (at + 1) text));
      others = refl;
      body = body_by (take at text) (drop (at + 1) text) (ends_in_cr (take at text)) refl front;
    }

cut_by : (byte : ℕ) (text line : List ℕ) (more : List (List ℕ)) (place : Option ℕ) → position is_lf (byte ∷ text) ≡ place → lines (byte ∷ text) ≡ line ∷ more → Cut (byte ∷ text) line more
cut_by byte text line more None is h =
    let whole : (byte ∷ text) ∷ [] ≡ line ∷ more = sym (lines_last (byte ∷ text) is (omega arith)) ∙ h in
    let line_is : byte ∷ text ≡ line = cc in
    let more_is : [] ≡ more = cc in
    subst (λ (l : List ℕ). Cut (byte ∷ text) l more) line_is
    (record {
      rest = [];
      parts = sym (append-nil (byte ∷ text));
      others = lines_none ∙ more_is;
      body = (byte ∷ text, by_none (lacks_none is_lf (byte ∷ text) is) (omega arith));
    })
cut_by byte text line more (Some at) is h =
    let whole : take (at + 1) (byte ∷ text) ∷ lines (drop (at + 1) (byte ∷ text)) ≡ line ∷ more = sym (lines_first (byte ∷ text) at is) ∙ h in
    let line_is : take (at + 1) (byte ∷ text) ≡ line = cc in
    let more_is : lines (drop (at + 1) (byte ∷ text)) ≡ more = cc in
    let here : take at (byte ∷ text) ++ LF ∷ [] ≡ line = sym (line_ends (byte ∷ text) at is) ∙ line_is in
    subst (λ (l : List ℕ). Cut (byte ∷ text) l more) here (subst (Cut (byte ∷ text) (take at (byte ∷ text) ++ LF ∷ [])) more_is (cut_at (byte ∷ text) at is))

cut : (text line : List ℕ) (more : List (List ℕ)) → lines text ≡ line ∷ more → Cut text line more
cut [] line more h = absurd (let e : [] ≡ line ∷ more = sym lines_none ∙ h in cc)
cut (byte ∷ text) line more h = cut_by byte text line more (position is_lf (byte ∷ text)) refl h

nothing_by : (byte : ℕ) (text : List ℕ) (place : Option ℕ) → position is_lf (byte ∷ text) ≡ place → lines (byte ∷ text) ≡ [] → ⊥
nothing_by byte text None is h = let e : (byte ∷ text) ∷ [] ≡ [] = sym (lines_last (byte ∷ text) is (omega arith)) ∙ h in cc
nothing_by byte text (Some at) is h = let e : take (at + 1) (byte ∷ text) ∷ lines (drop (at + 1) (byte ∷ text)) ≡ [] = sym (lines_first (byte ∷ text) at is) ∙ h in cc

nothing_left : (text : List ℕ) → lines text ≡ [] → text ≡ []
nothing_left [] h = refl
nothing_left (byte ∷ text) h = absurd (nothing_by byte text (position is_lf (byte ∷ text)) refl h)

-- one line

asks_shape : (number : ℕ) (above next : Above) (line body rest : List ℕ) (words : List (List ℕ)) (shape : Shape) (c : Option Reason) (plan : Plan) → above.inside ≡ None → IsLine body line rest
    → Says body words → shape_of words ≡ Some shape → first_reason above shape ≡ c → unless_fault number above shape c ≡ Ok next → Asks (number + 1) next rest plan → Asks number above (line ++ rest) plan
asks_shape number above next line body rest words shape None plan inside is said shape_is fits e h =
    let same : above_next number above shape ≡ next = cc in
    says above line body words shape inside is said shape_is fits (subst (λ (a : Above). Asks (number + 1) a rest plan) (sym same) h)
asks_shape number above next line body rest words shape (Some c) plan inside is said shape_is fits e h = absurd (cc)

asks_words : (number : ℕ) (above next : Above) (line body rest : List ℕ) (words : List (List ℕ)) (shape : Option Shape) (plan : Plan) → above.inside ≡ None → IsLine body line rest
    → Says body words → shape_of words ≡ shape → after_shape number above shape ≡ Ok next → Asks (number + 1) next rest plan → Asks number above (line ++ rest) plan
unfolding after_shape
asks_words number above next line body rest words None plan inside is said shape_is e h = absurd (cc)
asks_words number above next line body rest words (Some shape) plan inside is said shape_is e h =
    asks_shape number above next line body rest words shape (first_reason above shape) plan inside is said shape_is refl e h

asks_outside : (number : ℕ) (above next : Above) (line body rest : List ℕ) (plan : Plan) → above.inside ≡ None → IsLine body line rest → after_outside number above line ≡ Ok next
    → Asks (number + 1) next rest plan → Asks number above (line ++ rest) plan
unfolding after_outside
asks_outside number above next line body rest plan inside is e h =
    let due : after_shape number above (shape_of (line_words body)) ≡ Ok next = rw (content_only line rest is) at e in
    asks_words number above next line body rest (line_words body) (shape_of (line_words body)) plan inside is (says_found body) refl due h

is_the_end : (line body : List ℕ) → content line ≡ body → is_end line ≡ true → body ≡ codes "endprogram"
is_the_end line body content_is end = (bytes_eq-Decides body (codes "endprogram")).0 (rw content_is at end)

is_another : (line body : List ℕ) → content line ≡ body → is_end line ≡ false → body ≢ codes "endprogram"
is_another line body content_is other same =
    let e : is_end line ≡ true = rw (content_is, same) refl in
    let f : true ≡ false = sym e ∙ other in
    cc

asks_inside : (number : ℕ) (above next : Above) (line body rest : List ℕ) (program : Program) (end : Bool) (plan : Plan) → above.inside ≡ Some program → IsLine body line rest
    → is_end line ≡ end → by_end program above line end ≡ Ok next → Asks (number + 1) next rest plan → Asks number above (line ++ rest) plan
asks_inside number above next line body rest program true plan inside is end e h =
    let same : with_program above program ≡ next = cc in
    let body_is = is_the_end line body (content_only line rest is) end in
    closes above line program inside (subst (λ (b : List ℕ). IsLine b line rest) body_is is) (subst (λ (a : Above). Asks (number + 1) a rest plan) (sym same) h)
asks_inside number above next line body rest program false plan inside is other e h =
    let same : with_line above program line ≡ next = cc in
    tells above line body program inside is (is_another line body (content_only line rest is) other) (subst (λ (a : Above). Asks (number + 1) a rest plan) (sym same) h)

asks_line : (number : ℕ) (above next : Above) (line body rest : List ℕ) (inside : Option Program) (plan : Plan) → above.inside ≡ inside → IsLine body line rest
    → after_line_in inside number above line ≡ Ok next → Asks (number + 1) next rest plan → Asks number above (line ++ rest) plan
unfolding after_inside
asks_line number above next line body rest None plan inside is e h = asks_outside number above next line body rest plan inside is e h
asks_line number above next line body rest (Some program) plan inside is e h =
    asks_inside number above next line body rest program (is_end line) plan inside is refl e h

-- the whole text

no_program : {A : Type 0} (o : Option A) → is_none o ≡ true → o ≡ None
no_program None h = refl
no_program (Some a) h = absurd (cc)

asks_end : (number : ℕ) (above : Above) (plan : Plan) (ended : Bool) → (is_limited above.stage && is_none above.inside) ≡ ended → job_end number above ended ≡ Ok plan → Asks number above [] plan
asks_end number above plan true is e =
    let parts = and_parts (is_limited above.stage) (is_none above.inside) is in
    let same : above.plan ≡ plan = cc in
    subst (Asks number above []) same (ends above (limited above.stage parts.0) (no_program above.inside parts.1))
asks_end number above plan false is e = absurd (cc)

asks_nothing : (number : ℕ) (above : Above) (plan : Plan) → at_end number above ≡ Ok plan → Asks number above [] plan
unfolding at_end
asks_nothing number above plan e = asks_end number above plan (is_limited above.stage && is_none above.inside) refl e

goes_on : (r : Result Above JobFault) (f : Above → Result Plan JobFault) (plan : Plan) → and_then r f ≡ Ok plan → (next : Above) × (r ≡ Ok next) × (f next ≡ Ok plan)
goes_on (Ok next) f plan e = (next, refl, e)
goes_on (Err fault) f plan e = absurd (cc)

found : (all : List (List ℕ)) (number : ℕ) (above : Above) (text : List ℕ) (plan : Plan) → lines text ≡ all → read_lines number above all ≡ Ok plan → Asks number above text plan
unfolding read_lines
found [] number above text plan is e =
    subst (λ (t : List ℕ). Asks number above t plan) (sym (nothing_left text is)) (asks_nothing number above plan e)
found (line ∷ more) number above text plan is e =
    let here = cut text line more is in
    let turn = goes_on (after_line number above line) (λ next. read_lines (number + 1) next more) plan e in
    let rest = found more (number + 1) turn.0 here.rest plan here.others turn.2 in
    subst (λ (t : List ℕ). Asks number above t plan) (sym here.parts)
    (asks_line number above turn.0 line here.body.0 here.rest above.inside plan refl here.body.1 turn.1 rest)

pub jobs_alone : ReadsJobsAlone
unfolding job_of
jobs_alone text plan e = found (lines text) 1 at_first text plan refl e
