-- The fault of a line that passes the limit of tokens, told by its first tokens and by walks over it.
use Rattle.std.proofs.Common.{◌≡◌, ℕ, zero, suc, ◌+◌, ◌-◌, ◌<◌, ◌≤◌, Bool, true, false, List, [], ◌∷◌, length, take, drop, Option, Some, None, Err, refl, sym, ap, subst, ◌∙◌, arith}
use Rattle.std.specs.Prelude.{◌&&◌, is_some, nat_le, slice_get, option_map, unwrap_or, if◌then◌else◌}
use Rattle.std.proofs.lemmas.List.{take-take, drop-drop}
use Rattle.qpu_token.specs.declared.token.Token.{Token}
use Rattle.qpu_token.specs.declared.fault.AsmFault.{AsmFault}
use Rattle.qpu_expr.specs.declared.limits.TheConstants.{MOST_LINES, MOST_TOKENS, MOST_WORDS}
use Rattle.qpu_expr.specs.declared.place.Place.{Place}
use Rattle.qpu_expr.specs.declared.line.Head.{Head}
use Rattle.qpu_expr.specs.declared.deed.Findings.{Findings}
use Rattle.qpu_expr.specs.declared.deed.Deed.{Deed}
use Rattle.qpu_expr.specs.declared.line.Head.TheVariants as head
use Rattle.qpu_expr.specs.declared.line.Pair.TheVariants.{Repeat, Macro}
use Rattle.qpu_expr.specs.declared.deed.Act.{Act}
use Rattle.qpu_expr.specs.declared.deed.Act.TheVariants as act
use Rattle.qpu_expr.specs.declared.told.Told.{Told}
use Rattle.qpu_expr.specs.declared.setting.Expression.{Expression}
use Rattle.qpu_token.specs.Tokens.{text_of}
use Rattle.qpu_expr.specs.Settings.{Sets, expression, is_whole}
use Rattle.qpu_expr.specs.Tables.{found}
use Rattle.qpu_expr.specs.Symbols.{place_of}
use Rattle.qpu_expr.specs.Operands.{is_name}
use Rattle.qpu_expr.specs.LineTokens.{LineTokens}
use Rattle.qpu_expr.specs.MacroTokens.{MacroTokens}
use Rattle.qpu_expr.specs.Macros.{is_comma, names_of, heading_fault, Macros, called}
use Rattle.qpu_expr.specs.Lines.{is_colon, label_of, behind_label, head_of, body_length, left_tokens}
use Rattle.qpu_expr.specs.StageParts.{Stage}
use Rattle.qpu_expr.specs.Stage.{line_place, too_long, leaves, label_twice}
use Rattle.qpu_expr.specs.Findings.{no_findings, place_in}
use Rattle.qpu_expr.specs.Directives.{set_to, set_deed, repeat_deed, names_twice, defined, macro_by, macro_deed}
use Rattle.qpu_expr.specs.Calls.{call_deed, instruction_deed, other_deed, text_deed}
use Rattle.qpu_expr.specs.Deeds.{deed_by, least_fault, done_by, line_does, closing_deed, closes}
use Rattle.qpu_expr.specs.Tolds.{label_length, nothing_told, set_to_told, set_told, repeat_told, macro_told, parts_told, call_told, text_told, told_by, told_of}
use Rattle.qpu_expr.proofs.HeadLemmas.{head_front}
use Rattle.qpu_expr.proofs.RoomLemmas.{some_room}

-- the first tokens of a line

slice_front : (tokens : List Token) (n k : ℕ) → k < n → slice_get (take n tokens) k ≡ slice_get tokens k
slice_front tokens zero k less = absurd (omega (arith, less))
slice_front [] (suc n) k less = refl
slice_front (x ∷ tokens) (suc n) zero less = refl
slice_front (x ∷ tokens) (suc n) (suc k) less = slice_front tokens n k (omega (arith, less))

abbrev front : ℕ → LineTokens → LineTokens
front n line = record { tokens = take n line.tokens; end = line.end }

place_front : (tokens : List Token) (end : Token) (n : ℕ) → 0 < n → line_place (record { tokens = take n tokens; end = end }) ≡ line_place (record { tokens = tokens; end = end })
place_front tokens end zero some = absurd (omega (arith, some))
place_front [] end (suc n) some = refl
place_front (x ∷ tokens) end (suc n) some = refl

long_front : (s : Stage) (line : LineTokens) (word : Bool) (n : ℕ) → MOST_TOKENS < n → too_long s (front n line) word ≡ too_long s line word
unfolding too_long
long_front s line word n more =
    let place = place_front line.tokens line.end n (omega (arith, more)) in
    let token = slice_front line.tokens n (MOST_TOKENS - s.tokens) (omega (arith, more)) in
    ap (λ p. if nat_le MOST_LINES s.reached then Some p
    else if word && nat_le MOST_WORDS s.words then Some p
    else option_map place_of (slice_get (take n line.tokens) (MOST_TOKENS - s.tokens))) place
    ∙ ap (λ t. if nat_le MOST_LINES s.reached then Some (line_place line)
    else if word && nat_le MOST_WORDS s.words then Some (line_place line)
    else option_map place_of t) token

some_long : (s : Stage) (line : LineTokens) (word : Bool) → MOST_TOKENS < length line.tokens → (place : Place) × (too_long s line word ≡ Some place)
some_long s line word more = by_place (too_long s line word) refl
  where
    by_place : (r : Option Place) → too_long s line word ≡ r → (place : Place) × (too_long s line word ≡ Some place)
    by_place (Some place) e = (place, e)
    by_place None e = let room = (some_room s line word e).tokens in absurd (omega (arith, room, more))

label_front : (text : List ℕ) (tokens : List Token) → label_of text (take 4 tokens) ≡ label_of text tokens
label_front text [] = refl
label_front text (a ∷ []) = refl
label_front text (a ∷ b ∷ rest) = refl

long_take : (k n : ℕ) (tokens : List Token) → k < n → k < length tokens → k < length (take n tokens)
long_take k zero tokens many more = absurd (omega (arith, many))
long_take k (suc n) [] many more = more
long_take zero (suc n) (x ∷ tokens) many more = omega arith
long_take (suc k) (suc n) (x ∷ tokens) many more = let rest = long_take k n tokens (omega (arith, many)) (omega (arith, more)) in omega (arith, rest)

-- the first tokens of a long line pass the limit too
pub long_first : (line first : LineTokens) (n : ℕ) → first ≡ record { tokens = take n line.tokens; end = line.end } → MOST_TOKENS < n → MOST_TOKENS < length line.tokens → MOST_TOKENS < length first.tokens
long_first line first n is many more = subst (λ (l : LineTokens). MOST_TOKENS < length l.tokens) (sym is) (long_take MOST_TOKENS n line.tokens many more)

-- what is told by so many tokens is told by more of them
by_front : {A : Type 0} (f : List Token → A) (k n : ℕ) (tokens : List Token) → k ≤ n → ((ts : List Token) → f (take k ts) ≡ f ts) → f (take n tokens) ≡ f tokens
by_front f k n tokens many same = sym (same (take n tokens)) ∙ (ap f (take-take k n tokens many) ∙ same tokens)

-- what is told by the tokens behind a label, without and with more tokens behind seven
abbrev Fronts : {A : Type 0} → List ℕ → (List Token → A) → Type 0
Fronts text f = (ts : List Token) → f (behind_label text (take 7 ts)) ≡ f (behind_label text ts)

set_by : (text : List ℕ) (sets : Sets) (end : Token) (value : List Token) (a b c d e f g : Token) (rest : List Token) (l : Bool) → (let label : Option Token = if l then Some b else None in set_told text sets end (if is_some label then c ∷ d ∷ e ∷ f ∷ g ∷ [] else a ∷ b ∷ c ∷ d ∷ e ∷ f ∷ g ∷ []) value ≡ set_told text sets end (if is_some label then c ∷ d ∷ e ∷ f ∷ g ∷ rest else a ∷ b ∷ c ∷ d ∷ e ∷ f ∷ g ∷ rest) value)
set_by text sets end value a b c d e f g rest true = refl
set_by text sets end value a b c d e f g rest false = refl

set_front : (text : List ℕ) (sets : Sets) (end : Token) (value : List Token) → Fronts text (λ front. set_told text sets end front value)
set_front text sets end value [] = refl
set_front text sets end value (a ∷ []) = refl
set_front text sets end value (a ∷ b ∷ []) = refl
set_front text sets end value (a ∷ b ∷ c ∷ []) = refl
set_front text sets end value (a ∷ b ∷ c ∷ d ∷ []) = refl
set_front text sets end value (a ∷ b ∷ c ∷ d ∷ e ∷ []) = refl
set_front text sets end value (a ∷ b ∷ c ∷ d ∷ e ∷ f ∷ []) = refl
set_front text sets end value (a ∷ b ∷ c ∷ d ∷ e ∷ f ∷ g ∷ rest) = set_by text sets end value a b c d e f g rest (is_colon text a && is_name text b)

repeat_by : (text : List ℕ) (sets : Sets) (deepest : Bool) (end : Token) (count : List Token) (a b c d e f g : Token) (rest : List Token) (l : Bool) → (let label : Option Token = if l then Some b else None in repeat_told text sets deepest end (if is_some label then c ∷ d ∷ e ∷ f ∷ g ∷ [] else a ∷ b ∷ c ∷ d ∷ e ∷ f ∷ g ∷ []) count ≡ repeat_told text sets deepest end (if is_some label then c ∷ d ∷ e ∷ f ∷ g ∷ rest else a ∷ b ∷ c ∷ d ∷ e ∷ f ∷ g ∷ rest) count)
repeat_by text sets deepest end count a b c d e f g rest true = refl
repeat_by text sets deepest end count a b c d e f g rest false = refl

repeat_front : (text : List ℕ) (sets : Sets) (deepest : Bool) (end : Token) (count : List Token) → Fronts text (λ front. repeat_told text sets deepest end front count)
repeat_front text sets deepest end count [] = refl
repeat_front text sets deepest end count (a ∷ []) = refl
repeat_front text sets deepest end count (a ∷ b ∷ []) = refl
repeat_front text sets deepest end count (a ∷ b ∷ c ∷ []) = refl
repeat_front text sets deepest end count (a ∷ b ∷ c ∷ d ∷ []) = refl
repeat_front text sets deepest end count (a ∷ b ∷ c ∷ d ∷ e ∷ []) = refl
repeat_front text sets deepest end count (a ∷ b ∷ c ∷ d ∷ e ∷ f ∷ []) = refl
repeat_front text sets deepest end count (a ∷ b ∷ c ∷ d ∷ e ∷ f ∷ g ∷ rest) = repeat_by text sets deepest end count a b c d e f g rest (is_colon text a && is_name text b)

text_by : (text : List ℕ) (s : Stage) (deepest : Bool) (end : Token) (tokens : List Token) (a b c d e f g : Token) (rest : List Token) (l : Bool) → (let label : Option Token = if l then Some b else None in text_told text s deepest end (if is_some label then c ∷ d ∷ e ∷ f ∷ g ∷ [] else a ∷ b ∷ c ∷ d ∷ e ∷ f ∷ g ∷ []) tokens ≡ text_told text s deepest end (if is_some label then c ∷ d ∷ e ∷ f ∷ g ∷ rest else a ∷ b ∷ c ∷ d ∷ e ∷ f ∷ g ∷ rest) tokens)
text_by text s deepest end tokens a b c d e f g rest true = refl
text_by text s deepest end tokens a b c d e f g rest false = refl

text_front : (text : List ℕ) (s : Stage) (deepest : Bool) (end : Token) (tokens : List Token) → Fronts text (λ front. text_told text s deepest end front tokens)
text_front text s deepest end tokens [] = refl
text_front text s deepest end tokens (a ∷ []) = refl
text_front text s deepest end tokens (a ∷ b ∷ []) = refl
text_front text s deepest end tokens (a ∷ b ∷ c ∷ []) = refl
text_front text s deepest end tokens (a ∷ b ∷ c ∷ d ∷ []) = refl
text_front text s deepest end tokens (a ∷ b ∷ c ∷ d ∷ e ∷ []) = refl
text_front text s deepest end tokens (a ∷ b ∷ c ∷ d ∷ e ∷ f ∷ []) = refl
text_front text s deepest end tokens (a ∷ b ∷ c ∷ d ∷ e ∷ f ∷ g ∷ rest) = text_by text s deepest end tokens a b c d e f g rest (is_colon text a && is_name text b)

seven : {A : Type 0} (text : List ℕ) (f : List Token → A) (n : ℕ) (tokens : List Token) → 7 ≤ n → Fronts text f → f (behind_label text (take n tokens)) ≡ f (behind_label text tokens)
seven text f n tokens many fronts = by_front (λ ts. f (behind_label text ts)) 7 n tokens many fronts

told_front : (text : List ℕ) (s : Stage) (deepest : Bool) (end : Token) (at n : ℕ) (tokens : List Token) (h : Head) → 7 ≤ n → told_by text s deepest end (behind_label text (take n tokens)) at tokens h ≡ told_by text s deepest end (behind_label text tokens) at tokens h
told_front text s deepest end at n tokens head.Nothing many = refl
told_front text s deepest end at n tokens head.Set many = seven text (λ front. set_told text s.sets end front (drop (at + 4) tokens)) n tokens many (set_front text s.sets end (drop (at + 4) tokens))
told_front text s deepest end at n tokens (head.Opens Repeat) many = seven text (λ front. repeat_told text s.sets deepest end front (drop (at + 2) tokens)) n tokens many (repeat_front text s.sets deepest end (drop (at + 2) tokens))
told_front text s deepest end at n tokens (head.Opens Macro) many = refl
told_front text s deepest end at n tokens (head.Closes pair) many = refl
told_front text s deepest end at n tokens head.Word many = refl
told_front text s deepest end at n tokens head.Other many = refl
told_front text s deepest end at n tokens head.Instruction many = seven text (λ front. text_told text s deepest end front (drop at tokens)) n tokens many (text_front text s deepest end (drop at tokens))

-- tokens behind a label

behind_drop : (text : List ℕ) (tokens : List Token) (k : ℕ) → drop (label_length text tokens + k) tokens ≡ drop k (behind_label text tokens)
behind_drop text tokens k = by_label (label_of text tokens) refl
  where
    none : 0 + k ≡ k
    none = omega arith

    by_label : (l : Option Token) → label_of text tokens ≡ l → drop (label_length text tokens + k) tokens ≡ drop k (behind_label text tokens)
    by_label None l = rw (l, none) refl
    by_label (Some name) l = rw l (sym (drop-drop k 2 tokens))

behind_all : (text : List ℕ) (tokens : List Token) → drop (label_length text tokens) tokens ≡ behind_label text tokens
behind_all text tokens = by_label (label_of text tokens) refl
  where
    by_label : (l : Option Token) → label_of text tokens ≡ l → drop (label_length text tokens) tokens ≡ behind_label text tokens
    by_label None l = rw l refl
    by_label (Some name) l = rw l refl

-- deeds

-- a deed finds what is told, of the kinds up to that of the limit
record IsTold (t : Told) (d : Deed) : Type 0 where
  pub word_same : leaves d.change ≡ t.word
  pub unknown_same : d.findings.unknown ≡ t.findings.unknown
  pub twice_same : d.findings.twice ≡ t.findings.twice
  pub deep_same : d.findings.deep ≡ t.findings.deep

set_to_is : (end : Token) (line : List Token) (twice : Bool) (name : Token) (first : Place) (e : Expression) (w : Bool) → is_whole e.outcome ≡ w → IsTold (set_to_told twice name first (is_whole e.outcome) e.unknown) (set_to end line twice name first e)
set_to_is end line twice name first e true w = rw w (record { word_same = refl; unknown_same = refl; twice_same = refl; deep_same = refl })
set_to_is end line twice name first e false w = rw w (record { word_same = refl; unknown_same = refl; twice_same = refl; deep_same = refl })

set_is : (text : List ℕ) (sets : Sets) (end : Token) (line : List Token) → IsTold (set_told text sets end line (drop 2 (drop 2 line))) (set_deed text sets end line)
unfolding set_deed
set_is text sets end line = by_tokens (drop 2 line) refl
  where
    by_comma : (name comma : Token) (value : List Token) (c : Bool) → (is_name text name && is_comma text comma) ≡ c → drop 2 line ≡ name ∷ comma ∷ value → IsTold (set_told text sets end line (drop 2 (drop 2 line))) (set_deed text sets end line)
    by_comma name comma value true c is = rw (is, c) (set_to_is end line (is_some (found (text_of text name) sets)) name (place_in end value) (expression text sets value) (is_whole (expression text sets value).outcome) refl)
    by_comma name comma value false c is = rw (is, c) (record { word_same = refl; unknown_same = refl; twice_same = refl; deep_same = refl })

    by_tokens : (rest : List Token) → drop 2 line ≡ rest → IsTold (set_told text sets end line (drop 2 (drop 2 line))) (set_deed text sets end line)
    by_tokens [] is = rw is (record { word_same = refl; unknown_same = refl; twice_same = refl; deep_same = refl })
    by_tokens (name ∷ []) is = rw is (record { word_same = refl; unknown_same = refl; twice_same = refl; deep_same = refl })
    by_tokens (name ∷ comma ∷ value) is = by_comma name comma value (is_name text name && is_comma text comma) refl is

repeat_is : (text : List ℕ) (sets : Sets) (deepest : Bool) (end : Token) (line : List Token) (behind : List LineTokens) → IsTold (repeat_told text sets deepest end line (drop 2 line)) (repeat_deed text sets deepest end line behind)
unfolding repeat_deed
repeat_is text sets deepest end line behind = record { word_same = refl; unknown_same = refl; twice_same = refl; deep_same = refl }

defined_leaves : (names : List Token) (body : List LineTokens) → leaves (defined names body) ≡ false
defined_leaves [] body = refl
defined_leaves (name ∷ parameters) body = refl

macro_finds : (dot : Place) (fault twice : Option Place) (names : List Token) (lines : List LineTokens) (a : Act) (n : Option ℕ) → IsTold (record { word = false; findings = record no_findings { twice = twice } }) (record { findings = macro_by dot fault twice n; change = defined names lines; act = a })
macro_finds dot fault twice names lines a None = record { word_same = defined_leaves names lines; unknown_same = refl; twice_same = refl; deep_same = refl }
macro_finds dot fault twice names lines a (Some n) = record { word_same = defined_leaves names lines; unknown_same = refl; twice_same = refl; deep_same = refl }

macro_is : (text : List ℕ) (macros : Macros) (end : Token) (line : List Token) (behind : List LineTokens) → IsTold (macro_told text macros (drop 2 line)) (macro_deed text macros end line behind)
unfolding macro_deed
macro_is text macros end line behind =
    let heading = names_of text (drop 2 line) in
    let body = body_length Macro text 0 behind in
    macro_finds (place_in end line) (heading_fault end heading) (names_twice text macros heading.names) heading.names (take (unwrap_or body 0) behind) (act.Passes (unwrap_or body 0)) body

other_is : (text : List ℕ) (sets : Sets) (end : Token) (left line : List Token) → IsTold (parts_told text sets line) (other_deed text sets end left line)
unfolding other_deed
other_is text sets end left line = record { word_same = refl; unknown_same = refl; twice_same = refl; deep_same = refl }

call_is : (text : List ℕ) (deepest : Bool) (end : Token) (line : List Token) (m : MacroTokens) → IsTold (call_told deepest end line) (call_deed text deepest end line m)
unfolding call_deed
call_is text deepest end line m = record { word_same = refl; unknown_same = refl; twice_same = refl; deep_same = refl }

instruction_is : (text : List ℕ) (sets : Sets) (end : Token) (line : List Token) → IsTold (parts_told text sets line) (instruction_deed text sets end line)
unfolding instruction_deed
instruction_is text sets end line = record { word_same = refl; unknown_same = refl; twice_same = refl; deep_same = refl }

text_is : (text : List ℕ) (s : Stage) (deepest : Bool) (end : Token) (line : List Token) → IsTold (text_told text s deepest end line line) (text_deed text s deepest end line)
unfolding text_deed
text_is text s deepest end line = by_macro (called text s.macros line) refl
  where
    by_macro : (m : Option MacroTokens) → called text s.macros line ≡ m → IsTold (text_told text s deepest end line line) (text_deed text s deepest end line)
    by_macro (Some m) is = rw is (call_is text deepest end line m)
    by_macro None is = rw is (instruction_is text s.sets end line)

deed_is : (text : List ℕ) (s : Stage) (deepest : Bool) (end : Token) (tokens : List Token) (behind : List LineTokens) (h : Head) → IsTold (told_by text s deepest end (behind_label text tokens) (label_length text tokens) tokens h) (deed_by text s deepest end tokens (behind_label text tokens) behind h)
deed_is text s deepest end tokens behind head.Nothing = record { word_same = refl; unknown_same = refl; twice_same = refl; deep_same = refl }
deed_is text s deepest end tokens behind head.Set =
    subst (λ value. IsTold (set_told text s.sets end (behind_label text tokens) value) (set_deed text s.sets end (behind_label text tokens)))
    (drop-drop 2 2 (behind_label text tokens) ∙ sym (behind_drop text tokens 4)) (set_is text s.sets end (behind_label text tokens))
deed_is text s deepest end tokens behind (head.Opens Repeat) =
    subst (λ count. IsTold (repeat_told text s.sets deepest end (behind_label text tokens) count) (repeat_deed text s.sets deepest end (behind_label text tokens) behind))
    (sym (behind_drop text tokens 2)) (repeat_is text s.sets deepest end (behind_label text tokens) behind)
deed_is text s deepest end tokens behind (head.Opens Macro) =
    subst (λ names. IsTold (macro_told text s.macros names) (macro_deed text s.macros end (behind_label text tokens) behind))
    (sym (behind_drop text tokens 2)) (macro_is text s.macros end (behind_label text tokens) behind)
deed_is text s deepest end tokens behind (head.Closes pair) = record { word_same = refl; unknown_same = refl; twice_same = refl; deep_same = refl }
deed_is text s deepest end tokens behind head.Word = record { word_same = refl; unknown_same = refl; twice_same = refl; deep_same = refl }
deed_is text s deepest end tokens behind head.Other =
    subst (λ parts. IsTold (parts_told text s.sets parts) (other_deed text s.sets end (left_tokens text tokens (behind_label text tokens)) (behind_label text tokens)))
    (sym (behind_all text tokens)) (other_is text s.sets end (left_tokens text tokens (behind_label text tokens)) (behind_label text tokens))
deed_is text s deepest end tokens behind head.Instruction =
    subst (λ parts. IsTold (text_told text s deepest end (behind_label text tokens) parts) (text_deed text s deepest end (behind_label text tokens)))
    (sym (behind_all text tokens)) (text_is text s deepest end (behind_label text tokens))

-- faults

least_cases : (label unknown twice deep nought shape range nought' shape' range' : Option Place) (place : Place) → least_fault label (Some place) (record { unknown = unknown; twice = twice; deep = deep; zero = nought; shape = shape; range = range }) ≡ least_fault label (Some place) (record { unknown = unknown; twice = twice; deep = deep; zero = nought'; shape = shape'; range = range' })
least_cases label (Some u) twice deep nought shape range nought' shape' range' place = refl
least_cases (Some l) None twice deep nought shape range nought' shape' range' place = refl
least_cases None None (Some t) deep nought shape range nought' shape' range' place = refl
least_cases None None None (Some d) nought shape range nought' shape' range' place = refl
least_cases None None None None nought shape range nought' shape' range' place = refl

least_told : (label : Option Place) (place : Place) (f g : Findings) → f.unknown ≡ g.unknown → f.twice ≡ g.twice → f.deep ≡ g.deep → least_fault label (Some place) f ≡ least_fault label (Some place) g
least_told label place f g u t d =
    ap (λ x. least_fault label (Some place) (record { unknown = x; twice = f.twice; deep = f.deep; zero = f.zero; shape = f.shape; range = f.range })) u
    ∙ (ap (λ x. least_fault label (Some place) (record { unknown = g.unknown; twice = x; deep = f.deep; zero = f.zero; shape = f.shape; range = f.range })) t
    ∙ (ap (λ x. least_fault label (Some place) (record { unknown = g.unknown; twice = g.twice; deep = x; zero = f.zero; shape = f.shape; range = f.range })) d
    ∙ least_cases label g.unknown g.twice g.deep f.zero f.shape f.range g.zero g.shape g.range place))

done_stops : (text : List ℕ) (line : LineTokens) (d : Deed) (s : Stage) (fault : AsmFault) → least_fault (label_twice text s.labels (label_of text line.tokens)) (too_long s line (leaves d.change)) d.findings ≡ Some fault → done_by text line d s ≡ Err fault
unfolding done_by
done_stops text line d s fault e = rw e refl

-- the fault of a long line, by its first tokens and what is told of it
told_stops : (text : List ℕ) (line : LineTokens) (n : ℕ) (d : Deed) (s : Stage) (t : Told) (fault : AsmFault) → MOST_TOKENS < n → MOST_TOKENS < length line.tokens → IsTold t d → least_fault (label_twice text s.labels (label_of text (take n line.tokens))) (too_long s (front n line) t.word) t.findings ≡ Some fault → done_by text line d s ≡ Err fault
told_stops text line n d s t fault many more told least =
    let labels = by_front (label_of text) 4 n line.tokens (omega (arith, many)) (label_front text) in
    let long = some_long s line t.word more in
    done_stops text line d s fault
    (ap (λ w. least_fault (label_twice text s.labels (label_of text line.tokens)) (too_long s line w) d.findings) told.word_same
    ∙ (ap (λ p. least_fault (label_twice text s.labels (label_of text line.tokens)) p d.findings) long.1
    ∙ (least_told (label_twice text s.labels (label_of text line.tokens)) long.0 d.findings t.findings told.unknown_same told.twice_same told.deep_same
    ∙ (ap (λ p. least_fault (label_twice text s.labels (label_of text line.tokens)) p t.findings) (sym (long_front s line t.word n many ∙ long.1))
    ∙ (ap (λ l. least_fault (label_twice text s.labels l) (too_long s (front n line) t.word) t.findings) (sym labels)
    ∙ least)))))

line_head : (text : List ℕ) (deepest : Bool) (line : LineTokens) (behind : List LineTokens) (s : Stage) (h : Head) → head_of text (behind_label text line.tokens) ≡ h → line_does text deepest line behind s ≡ done_by text line (deed_by text s deepest line.end line.tokens (behind_label text line.tokens) behind h) s
unfolding line_does
line_head text deepest line behind s h e = ap (λ h. done_by text line (deed_by text s deepest line.end line.tokens (behind_label text line.tokens) behind h) s) e

-- a long line stops the expansion with its fault
pub long_stops : (text : List ℕ) (deepest : Bool) (line first : LineTokens) (behind : List LineTokens) (s : Stage) (n : ℕ) (fault : AsmFault) → first ≡ record { tokens = take n line.tokens; end = line.end } → MOST_TOKENS < n → MOST_TOKENS < length line.tokens → least_fault (label_twice text s.labels (label_of text first.tokens)) (too_long s first (told_of text s deepest first line).word) (told_of text s deepest first line).findings ≡ Some fault → line_does text deepest line behind s ≡ Err fault
long_stops text deepest line first behind s n fault is many more least =
    let h : Head = head_of text (behind_label text (take n line.tokens)) in
    let begins : head_of text (behind_label text line.tokens) ≡ h = sym (by_front (λ ts. head_of text (behind_label text ts)) 4 n line.tokens (omega (arith, many)) (head_front text)) in
    let at = by_front (label_length text) 4 n line.tokens (omega (arith, many)) (λ ts. ap (λ l. if is_some l then 2 else 0) (label_front text ts)) in
    let told : told_of text s deepest (front n line) line ≡ told_by text s deepest line.end (behind_label text line.tokens) (label_length text line.tokens) line.tokens h =
    told_front text s deepest line.end (label_length text (take n line.tokens)) n line.tokens h (omega (arith, many))
    ∙ ap (λ k. told_by text s deepest line.end (behind_label text line.tokens) k line.tokens h) at in
    let due = subst (λ (l : LineTokens). least_fault (label_twice text s.labels (label_of text l.tokens)) (too_long s l (told_of text s deepest l line).word) (told_of text s deepest l line).findings ≡ Some fault) is least in
    line_head text deepest line behind s h begins
    ∙ told_stops text line n (deed_by text s deepest line.end line.tokens (behind_label text line.tokens) behind h) s (told_of text s deepest (front n line) line) fault many more
    (subst (λ t. IsTold t (deed_by text s deepest line.end line.tokens (behind_label text line.tokens) behind h)) (sym told) (deed_is text s deepest line.end line.tokens behind h))
    due

closing_is : (line : List Token) → IsTold nothing_told (closing_deed line)
closing_is line = record { word_same = refl; unknown_same = refl; twice_same = refl; deep_same = refl }

-- a long line that closes a body stops it too
pub long_closes : (text : List ℕ) (line first : LineTokens) (s : Stage) (n : ℕ) (fault : AsmFault) → first ≡ record { tokens = take n line.tokens; end = line.end } → MOST_TOKENS < n → MOST_TOKENS < length line.tokens → least_fault (label_twice text s.labels (label_of text first.tokens)) (too_long s first false) no_findings ≡ Some fault → closes text line s ≡ Err fault
unfolding closes
long_closes text line first s n fault is many more least =
    told_stops text line n (closing_deed (behind_label text line.tokens)) s nothing_told fault many more (closing_is (behind_label text line.tokens))
    (subst (λ (l : LineTokens). least_fault (label_twice text s.labels (label_of text l.tokens)) (too_long s l false) no_findings ≡ Some fault) is least)
