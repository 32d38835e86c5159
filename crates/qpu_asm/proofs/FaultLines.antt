-- A line is refused with a kind and at a place exactly where the table of faults says so, and has no fault
-- exactly where it spells something.
use Rattle.std.proofs.Common.{◌≡◌, ◌↔◌, ℕ, zero, suc, ◌+◌, inl, inr, Bool, true, false, List, [], ◌∷◌, take, drop, Option, Some, None, Result, Ok, Err, refl, ap, sym, subst, ◌∙◌, arith}
use Rattle.std.specs.Prelude.{◌≤◌, All, slice_get, option_map, if◌then◌else◌}
use Rattle.qpu_token.specs.declared.token.Token.{Token}
use Rattle.qpu_token.specs.declared.fault.AsmKind.{AsmKind}
use Rattle.qpu_token.specs.declared.fault.AsmKind.TheVariants as kind
use Rattle.qpu_token.specs.declared.fault.AsmFault.{AsmFault}
use Rattle.qpu_line.specs.declared.name.Name.TheVariants as name
use Rattle.qpu_line.specs.declared.symbol.Symbol.{Symbol}
use Rattle.qpu_line.specs.declared.symbol.Symbol.TheVariants as symbol
use Rattle.qpu_asm.specs.declared.placed.Placed.{Placed}
use Rattle.qpu_asm.specs.declared.line.Line.{Line}
use Rattle.qpu_asm.specs.declared.line.Line.TheVariants.{Raw, Says}
use Rattle.qpu_asm.specs.SectionTokens.{SectionTokens}
use Rattle.qpu_asm.specs.Signs.{is_comma, is_dot, is_colon, length_of}
use Rattle.qpu_asm.specs.Clashes.{fault_at}
use Rattle.qpu_asm.specs.Laws.{IsProper}
use Rattle.qpu_asm.specs.Forms.{is_name, misfit}
use Rattle.qpu_asm.specs.Forms.Use.{any}
use Rattle.qpu_asm.specs.Forms.Slot.{comma_slot, number_slot, word_slot, literal_slot}
use Rattle.qpu_asm.specs.Faults.{cut, is_plain, parts_of_line, token_at, token_in, directive_misfit, behind_dot, behind_colon, head_misfit, Faulty, rank, IsLeft, ComesFirst, IsFirstFault, IsFaultless, SpellsSome}
use Rattle.qpu_asm.specs.Faults.Faulty.{head, plain}
use Rattle.qpu_asm.specs.reader.Reading.{go_on, ended}
use Rattle.qpu_asm.specs.reader.Pieces.{name_alone}
use Rattle.qpu_asm.specs.reader.LinesRead.{number_symbol, word_number, token_or, set_value, set_comma, name_symbol, set_name, directive_symbol, directive, first_token, behind_name, label_fault, shaped, instruction_line, read_line}
use Rattle.qpu_asm.proofs.RawLaw.{raw_law}
use Rattle.qpu_asm.proofs.ReadLaw.{spelled_law}
use Rattle.qpu_asm.specs.reader.Sections.{sections_of, parts_of}
use Rattle.qpu_asm.proofs.FaultChain.{token_moved, misfit_step, misfit_none}
use Rattle.qpu_asm.proofs.FaultLaw.{Verdict, instruction_verdict}
use Rattle.qpu_asm.proofs.FaultLaw.Verdict.{clean, faulty}

-- what is judged of a line
pub data LineVerdict (end : Token) (xs : List Placed) : Result Line AsmFault → Type 0 where
  clean_line : {l : Line} → ((k : AsmKind) (i m : ℕ) → Faulty end xs k i m → ⊥) → LineVerdict end xs (Ok l)
  faulty_line : {f : AsmFault} → IsFirstFault end xs f → LineVerdict end xs (Err f)

-- a line that begins with a sign `.` or `:`

abbrev HeadRead : Token → List Placed → Option ℕ → Result Line Token → Type 0
HeadRead end xs None r = (l : Line) × (r ≡ Ok l)
HeadRead end xs (Some m) r = r ≡ Err (token_at end xs m)

same_place : (xs : List Placed) (m n : ℕ) → head_misfit xs ≡ Some m → head_misfit xs ≡ Some n → m ≤ n
same_place xs m n e f = let g : Some m ≡ Some n = sym e ∙ f in let h : m ≡ n = cc in omega arith

head_verdict : (end : Token) (xs : List Placed) (o : Option ℕ) (r : Result Line Token) → is_plain xs ≡ false → head_misfit xs ≡ o → HeadRead end xs o r → LineVerdict end xs (shaped r)
head_verdict end xs None r odd e (l, is) = rw is (clean_line never)
  where
    never : (k : AsmKind) (i m : ℕ) → Faulty end xs k i m → ⊥
    never _ i m (head f) = let g : None ≡ Some m = sym e ∙ f in cc
    never k i m (plain f h) = let g : true ≡ false = sym f ∙ odd in grind (arith, g)
head_verdict end xs (Some m) r odd e is = rw is (faulty_line {f = fault_at kind.Shape (token_at end xs m)} (record { sort = kind.Shape; part = 0; place = m; has = head e; first = first; is = rw odd refl }))
  where
    first : (l : AsmKind) (j n : ℕ) → Faulty end xs l j n → ComesFirst kind.Shape 0 m l j n
    first _ j n (head f) = inr (refl, inr (refl, same_place xs m n e f))
    first l j n (plain f h) = absurd (let g : true ≡ false = sym f ∙ odd in grind (arith, g))

-- a plain line

no_head : (x : Placed) (rest : List Placed) → is_dot x.symbol ≡ false → is_colon x.symbol ≡ false → head_misfit (x ∷ rest) ≡ None
no_head x rest dot colon = rw (dot, colon) refl

plain_verdict : (end : Token) (xs : List Placed) (r : Result Line AsmFault) → is_plain xs ≡ true → head_misfit xs ≡ None → Verdict end (cut end xs) r → LineVerdict end xs r
plain_verdict end xs _ is none (clean never) = clean_line bad
  where
    bad : (k : AsmKind) (i m : ℕ) → Faulty end xs k i m → ⊥
    bad _ i m (head f) = let g : None ≡ Some m = sym none ∙ f in cc
    bad k i m (plain f h) = never k i m h
plain_verdict end xs _ is none (faulty k i m has least same) =
    faulty_line (record { sort = k; part = i; place = m; has = plain is has; first = first; is = same ∙ ap (λ (z : List SectionTokens). fault_at k (token_in end z i m)) (parts_here is) })
  where
    first : (l : AsmKind) (j n : ℕ) → Faulty end xs l j n → ComesFirst k i m l j n
    first _ j n (head f) = absurd (let g : None ≡ Some n = sym none ∙ f in cc)
    first l j n (plain f h) = least l j n h

    parts_here : is_plain xs ≡ true → cut end xs ≡ parts_of_line end xs
    parts_here e = rw e refl

-- `.word`

word_ended : (end : Token) (x y z : Placed) (rest : List Placed) (n : ℕ) → is_dot x.symbol ≡ true → y.symbol ≡ symbol.Name name.Word → z.symbol ≡ symbol.Number n
    → HeadRead end (x ∷ y ∷ z ∷ rest) (option_map (λ k. 2 + k) (misfit (literal_slot ∷ []) [] (z ∷ rest))) (go_on (ended n rest) (λ v. Ok (Raw v)))
word_ended end x y z [] n dot word number = rw number (Raw n, refl)
word_ended end x y z (w ∷ rest) n dot word number = rw number refl

word_symbol : (end : Token) (x y z : Placed) (rest : List Placed) (s : Symbol) → is_dot x.symbol ≡ true → y.symbol ≡ symbol.Name name.Word → z.symbol ≡ s
    → HeadRead end (x ∷ y ∷ z ∷ rest) (option_map (λ k. 2 + k) (misfit (literal_slot ∷ []) [] (z ∷ rest))) (go_on (number_symbol s z.token rest) (λ v. Ok (Raw v)))
word_symbol end x y z rest (symbol.Number n) dot word is = word_ended end x y z rest n dot word is
word_symbol end x y z rest _ dot word is = rw is refl

word_read : (end : Token) (x y : Placed) (rest : List Placed) → is_dot x.symbol ≡ true → y.symbol ≡ symbol.Name name.Word
    → HeadRead end (x ∷ y ∷ rest) (option_map (λ k. 2 + k) (misfit (literal_slot ∷ []) [] rest)) (go_on (word_number end rest) (λ v. Ok (Raw v)))
word_read end x y [] dot word = refl
word_read end x y (z ∷ rest) dot word = word_symbol end x y z rest z.symbol dot word refl

-- `.set`, which always is refused

abbrev set_place : Option ℕ → Option ℕ
set_place o = elim o as (λ _. Option ℕ) [ None ↦ Some 4 | Some k ↦ Some (2 + k) ]

abbrev set_misfit : List Placed → Option ℕ
set_misfit rest = misfit (word_slot ∷ comma_slot ∷ number_slot any ∷ []) [] rest

abbrev SetRead : Token → List Placed → Option ℕ → Token → Type 0
SetRead end xs o t = (m : ℕ) × (set_place o ≡ Some m) × (t ≡ token_at end xs m)

abbrev head_of : List Placed → Option Placed
head_of [] = None
head_of (x ∷ rest) = Some x

got_dropped : (n : ℕ) (xs : List Placed) → slice_get xs n ≡ head_of (drop n xs)
got_dropped zero [] = refl
got_dropped zero (x ∷ xs) = refl
got_dropped (suc n) [] = refl
got_dropped (suc n) (x ∷ xs) = got_dropped n xs

abbrev left_over : List Placed → List Placed → Option ℕ
left_over mid xs = misfit [] mid xs

abbrev or_first : Option ℕ → ℕ
or_first None = 0
or_first (Some k) = k

value_left : (end : Token) (v : Placed) (rest : List Placed) (n : ℕ) (mid ds : List Placed) → drop n (v ∷ rest) ≡ ds → token_or v.token (head_of ds) ≡ token_at end (v ∷ rest) (or_first (option_map (λ k. n + k) (left_over mid ds)))
value_left end v rest n mid [] e = refl
value_left end v rest n mid (w ∷ ds) e = sym (token_moved end n 0 (v ∷ rest) ∙ ap (λ z. token_at end z 0) e)

value_by : (end : Token) (v : Placed) (rest : List Placed) (l : Option ℕ)
    → (elim l as (λ _. Token) [ None ↦ v.token | Some n ↦ token_or v.token (slice_get (v ∷ rest) n) ])
    ≡ token_at end (v ∷ rest) (or_first (elim l as (λ _. Option ℕ) [ None ↦ Some 0 | Some n ↦ option_map (λ k. n + k) (misfit [] (take n (v ∷ rest)) (drop n (v ∷ rest))) ]))
value_by end v rest None = refl
value_by end v rest (Some n) = ap (token_or v.token) (got_dropped n (v ∷ rest)) ∙ value_left end v rest n (take n (v ∷ rest)) (drop n (v ∷ rest)) refl

value_place : (end : Token) (mid vs : List Placed) → set_value end vs ≡ token_at end vs (or_first (misfit (number_slot any ∷ []) mid vs))
value_place end mid [] = refl
value_place end mid (v ∷ rest) = value_by end v rest (length_of (v ∷ rest))

set_whole : (end : Token) (x y z c : Placed) (vs : List Placed) (o : Option ℕ) (t : Token) → t ≡ token_at end vs (or_first o) → SetRead end (x ∷ y ∷ z ∷ c ∷ vs) (option_map (λ k. 1 + k) (option_map (λ k. 1 + k) o)) t
set_whole end x y z c vs None t e = (4, refl, e)
set_whole end x y z c vs (Some k) t e =
    (2 + (1 + (1 + k)), refl, e ∙ ap (λ i. token_at end (x ∷ y ∷ z ∷ c ∷ vs) i) (let f : suc (suc (suc (suc k))) ≡ 2 + (1 + (1 + k)) = omega arith in f))

first_fits : (z : Placed) (rest : List Placed) → is_name z.symbol ≡ true → set_misfit (z ∷ rest) ≡ option_map (λ k. 1 + k) (misfit (comma_slot ∷ number_slot any ∷ []) (z ∷ []) rest)
first_fits z rest name = misfit_step word_slot (comma_slot ∷ number_slot any ∷ []) [] (z ∷ rest) 1 (rw name refl)

set_comma_by : (end : Token) (x y z c : Placed) (vs : List Placed) (b : Bool) → is_name z.symbol ≡ true → is_comma c.symbol ≡ b
    → SetRead end (x ∷ y ∷ z ∷ c ∷ vs) (set_misfit (z ∷ c ∷ vs)) (if b then set_value end vs else c.token)
set_comma_by end x y z c vs true name comma =
    let then_comma : misfit (comma_slot ∷ number_slot any ∷ []) (z ∷ []) (c ∷ vs) ≡ option_map (λ k. 1 + k) (misfit (number_slot any ∷ []) (c ∷ []) vs) =
    misfit_step comma_slot (number_slot any ∷ []) (z ∷ []) (c ∷ vs) 1 (rw comma refl) in
    subst (λ o. SetRead end (x ∷ y ∷ z ∷ c ∷ vs) o (set_value end vs)) (sym (first_fits z (c ∷ vs) name ∙ ap (λ o. option_map (λ k. 1 + k) o) then_comma))
    (set_whole end x y z c vs (misfit (number_slot any ∷ []) (c ∷ []) vs) (set_value end vs) (value_place end (c ∷ []) vs))
set_comma_by end x y z c vs false name comma =
    let then_none : misfit (comma_slot ∷ number_slot any ∷ []) (z ∷ []) (c ∷ vs) ≡ Some 0 = misfit_none comma_slot (number_slot any ∷ []) (z ∷ []) (c ∷ vs) (rw comma refl) in
    subst (λ o. SetRead end (x ∷ y ∷ z ∷ c ∷ vs) o c.token) (sym (first_fits z (c ∷ vs) name ∙ ap (λ o. option_map (λ k. 1 + k) o) then_none)) (3, refl, refl)

set_comma_read : (end : Token) (x y z : Placed) (rest : List Placed) → is_name z.symbol ≡ true → SetRead end (x ∷ y ∷ z ∷ rest) (set_misfit (z ∷ rest)) (set_comma end rest)
set_comma_read end x y z [] name = subst (λ o. SetRead end (x ∷ y ∷ z ∷ []) o end) (sym (first_fits z [] name)) (3, refl, refl)
set_comma_read end x y z (c ∷ vs) name = set_comma_by end x y z c vs (is_comma c.symbol) name refl

set_name_by : (end : Token) (x y z : Placed) (rest : List Placed) (s : Symbol) → z.symbol ≡ s → SetRead end (x ∷ y ∷ z ∷ rest) (set_misfit (z ∷ rest)) (name_symbol (name_alone s) z.token end rest)
set_name_by end x y z rest (symbol.Name n) is = set_comma_read end x y z rest (rw is refl)
set_name_by end x y z rest symbol.Unknown is = set_comma_read end x y z rest (rw is refl)
set_name_by end x y z rest _ is = subst (λ o. SetRead end (x ∷ y ∷ z ∷ rest) o z.token) (sym (misfit_none word_slot (comma_slot ∷ number_slot any ∷ []) [] (z ∷ rest) (rw is refl))) (2, refl, refl)

set_read : (end : Token) (x y : Placed) (rest : List Placed) → SetRead end (x ∷ y ∷ rest) (set_misfit rest) (set_name end rest)
set_read end x y [] = (2, refl, refl)
set_read end x y (z ∷ rest) = set_name_by end x y z rest z.symbol refl

-- lines that begin with a sign `.`

set_head : (end : Token) (xs : List Placed) (o : Option ℕ) (t : Token) → SetRead end xs o t → HeadRead end xs (set_place o) (Err t)
set_head end xs o t (m, some, is) = rw (some, is) refl

directive_by : (end : Token) (x y : Placed) (rest : List Placed) (s : Symbol) → is_dot x.symbol ≡ true → y.symbol ≡ s → HeadRead end (x ∷ y ∷ rest) (directive_misfit s rest) (directive_symbol s x.token end rest)
directive_by end x y rest (symbol.Name name.Word) dot is = word_read end x y rest dot is
directive_by end x y rest (symbol.Name name.Set) dot is = set_head end (x ∷ y ∷ rest) (set_misfit rest) (set_name end rest) (set_read end x y rest)
directive_by end x y rest _ dot is = refl

directive_read : (end : Token) (x : Placed) (rest : List Placed) → is_dot x.symbol ≡ true → HeadRead end (x ∷ rest) (behind_dot rest) (directive x.token end rest)
directive_read end x [] dot = refl
directive_read end x (y ∷ rest) dot = directive_by end x y rest y.symbol dot refl

-- and with a sign `:`

label_second : (end : Token) (x y : Placed) (rest : List Placed) → first_token end rest ≡ token_at end (x ∷ y ∷ rest) 2
label_second end x y [] = refl
label_second end x y (z ∷ rest) = refl

label_by : (end : Token) (x y : Placed) (rest : List Placed) (s : Symbol) → y.symbol ≡ s → HeadRead end (x ∷ y ∷ rest) (behind_colon (y ∷ rest)) (Err (behind_name (name_alone s) y.token end rest))
label_by end x y rest (symbol.Name n) is = rw is (ap (λ t. Err t) (label_second end x y rest))
label_by end x y rest symbol.Unknown is = rw is (ap (λ t. Err t) (label_second end x y rest))
label_by end x y rest _ is = rw is refl

label_read : (end : Token) (x : Placed) (rest : List Placed) → HeadRead end (x ∷ rest) (behind_colon rest) (Err (label_fault end rest))
label_read end x [] = refl
label_read end x (y ∷ rest) = label_by end x y rest y.symbol refl

-- all lines

line_by : (at : ℕ) (end : Token) (x : Placed) (rest : List Placed) (d c : Bool) → is_dot x.symbol ≡ d → is_colon x.symbol ≡ c
    → LineVerdict end (x ∷ rest) (if d then shaped (directive x.token end rest) else if c then shaped (Err (label_fault end rest)) else instruction_line at end (x ∷ rest))
line_by at end x rest true c dot colon = head_verdict end (x ∷ rest) (behind_dot rest) (directive x.token end rest) (rw dot refl) (rw dot refl) (directive_read end x rest dot)
line_by at end x rest false true dot colon = head_verdict end (x ∷ rest) (behind_colon rest) (Err (label_fault end rest)) (rw (dot, colon) refl) (rw (dot, colon) refl) (label_read end x rest)
line_by at end x rest false false dot colon = plain_verdict end (x ∷ rest) (instruction_line at end (x ∷ rest)) (rw (dot, colon) refl) (no_head x rest dot colon) (instruction_verdict at end (x ∷ rest))

none_read : (at : ℕ) (end : Token) → instruction_line at end [] ≡ Err (fault_at kind.Shape end)
unfolding instruction_line sections_of parts_of
none_read at end = refl

pub line_verdict : (at : ℕ) (end : Token) (xs : List Placed) → LineVerdict end xs (read_line at end xs)
unfolding read_line
line_verdict at end [] = subst (LineVerdict end []) (none_read at end) (plain_verdict end [] (instruction_line at end []) refl refl (instruction_verdict at end []))
line_verdict at end (x ∷ rest) = line_by at end x rest (is_dot x.symbol) (is_colon x.symbol) refl refl

-- the laws

spot_same : (i m j n : ℕ) → IsLeft i m j n → IsLeft j n i m → (i ≡ j) × (m ≡ n)
spot_same i m j n (inl a) (inl b) = absurd (omega arith)
spot_same i m j n (inl a) (inr (e, b)) = absurd (omega arith)
spot_same i m j n (inr (e, a)) (inl b) = absurd (omega arith)
spot_same i m j n (inr (e, a)) (inr (f, b)) = (e, omega arith)

told_same : (end : Token) (ps : List SectionTokens) (k l : AsmKind) (i m j n : ℕ) → k ≡ l → i ≡ j → m ≡ n → fault_at k (token_in end ps i m) ≡ fault_at l (token_in end ps j n)
told_same end ps k l i m j n a b c = rw (a, b, c) refl

faults_same : (end : Token) (ps : List SectionTokens) (k l : AsmKind) (i m j n : ℕ) → ComesFirst k i m l j n → ComesFirst l j n k i m → fault_at k (token_in end ps i m) ≡ fault_at l (token_in end ps j n)
faults_same end ps k l i m j n (inl low) (inl high) = absurd (omega arith)
faults_same end ps k l i m j n (inl low) (inr (same, left)) = absurd (let e : rank l ≡ rank k = ap rank same in omega arith)
faults_same end ps k l i m j n (inr (same, left)) (inl high) = absurd (let e : rank k ≡ rank l = ap rank same in omega arith)
faults_same end ps k l i m j n (inr (same, left)) (inr (back, right)) = let both = spot_same i m j n left right in told_same end ps k l i m j n same both.0 both.1

first_same : (end : Token) (xs : List Placed) (f g : AsmFault) → IsFirstFault end xs f → IsFirstFault end xs g → f ≡ g
first_same end xs f g a b =
    a.is ∙ faults_same end (parts_of_line end xs) a.sort b.sort a.part a.place b.part b.place (a.first b.sort b.part b.place b.has) (b.first a.sort a.part a.place a.has) ∙ sym b.is

refused : (end : Token) (xs : List Placed) (r : Result Line AsmFault) (f : AsmFault) → LineVerdict end xs r → r ≡ Err f → IsFirstFault end xs f
refused end xs _ f (clean_line never) e = absurd cc
refused end xs _ f (faulty_line {f = g} first) e = subst (IsFirstFault end xs) (let h : g ≡ f = cc in h) first

refuses : (end : Token) (xs : List Placed) (r : Result Line AsmFault) (f : AsmFault) → LineVerdict end xs r → IsFirstFault end xs f → r ≡ Err f
refuses end xs _ f (clean_line never) first = absurd (never first.sort first.part first.place first.has)
refuses end xs _ f (faulty_line {f = g} other) first = ap (λ z. Err z) (first_same end xs g f other first)

pub faults_law : (at : ℕ) (end : Token) (xs : List Placed) (f : AsmFault) → read_line at end xs ≡ Err f ↔ IsFirstFault end xs f
faults_law at end xs f = (refused end xs (read_line at end xs) f (line_verdict at end xs), refuses end xs (read_line at end xs) f (line_verdict at end xs))

none_spells : (at : ℕ) (end : Token) (xs : List Placed) (r : Result Line AsmFault) → All IsProper xs → read_line at end xs ≡ r → LineVerdict end xs r → IsFaultless end xs → SpellsSome at xs
none_spells at end xs (Ok (Raw n)) proper e v none = inr (n, (raw_law at end xs n).0 e)
none_spells at end xs (Ok (Says i)) proper e v none = inl (i, (spelled_law at end xs i proper).0 e)
none_spells at end xs (Err f) proper e v none = absurd (let first : IsFirstFault end xs f = refused end xs (Err f) f v refl in none first.sort first.part first.place first.has)

read_none : (end : Token) (xs : List Placed) (r : Result Line AsmFault) (l : Line) → LineVerdict end xs r → r ≡ Ok l → IsFaultless end xs
read_none end xs _ l (clean_line never) e = never
read_none end xs _ l (faulty_line first) e = absurd cc

spells_none : (at : ℕ) (end : Token) (xs : List Placed) → All IsProper xs → SpellsSome at xs → IsFaultless end xs
spells_none at end xs proper (inl (i, spelled)) = read_none end xs (read_line at end xs) (Says i) (line_verdict at end xs) ((spelled_law at end xs i proper).1 spelled)
spells_none at end xs proper (inr (n, word)) = read_none end xs (read_line at end xs) (Raw n) (line_verdict at end xs) ((raw_law at end xs n).1 word)

pub faultless_law : (at : ℕ) (end : Token) (xs : List Placed) → All IsProper xs → IsFaultless end xs ↔ SpellsSome at xs
faultless_law at end xs proper = (none_spells at end xs (read_line at end xs) proper refl (line_verdict at end xs), spells_none at end xs proper)
