-- A text that is written item by item has the tokens of its items.
use Rattle.std.proofs.Common.{◌≡◌, ℕ, zero, suc, ◌^◌, ◌<◌, Bool, true, false, ◌||◌, List, [], ◌∷◌, ◌++◌, length, take, drop, get_or, refl, ap, sym, subst, ◌∙◌, append-nil, append_assoc, arith}
use Rattle.std.specs.Prelude.{◌==◌, nat_lt, fold, if◌then◌else◌}
use Rattle.std.specs.List.{list_all}
use Rattle.std.proofs.lemmas.Bool.Decides.{nat_tests}
use Rattle.std.proofs.lemmas.List.{length-append, take_all}
use Rattle.std.proofs.lemmas.List.Sums.{fold-append}
use Rattle.qpu_token.specs.declared.token.TokenKind.TheVariants as kind
use Rattle.qpu_token.specs.declared.piece.Shape.TheVariants as shape
use Rattle.qpu_token.specs.declared.before.Before.{Before}
use Rattle.qpu_token.specs.declared.before.Before.TheVariants.{Other, Dot, DotWord}
use Rattle.qpu_token.specs.declared.place.Place.{Place}
use Rattle.qpu_text.specs.Bytes.{is_letter, is_digit, is_hex_digit, is_name_byte}
use Rattle.qpu_text.specs.Numbers.{is_run, is_hexadecimal, number_value}
use Rattle.qpu_token.specs.Places.{next_place, first_place, place_at}
use Rattle.qpu_token.specs.Tokens.{dotted, Begins, after_text, bound, last_end}
use Rattle.qpu_token.specs.Written.{Item, Name, Number, Sign, Space, LineFeed, item_text, items_text, Told, items_told, Stage, at_first, CanStand, EndsLine, HasTokens}
use Rattle.qpu_token.proofs.PieceLemmas.{blank_begins, feed_begins, sign_begins}
use Rattle.qpu_token.proofs.WrittenLemmas.{item_stops, name_here, number_here}
use Rattle.qpu_token.proofs.WrittenSteps.{Reads, nothing_read, word_taken, word_here, dotted_behind, item_on}

-- the byte behind which an item stands

last_byte : (word : List ℕ) (k : ℕ) → length word ≡ suc k → list_all is_name_byte word ≡ true → (get_or word k 0 == 46) ≡ false
last_byte [] k long all = absurd (omega arith)
last_byte (x ∷ xs) zero long all = grind (arith, nat_tests, all)
last_byte (x ∷ xs) (suc k) long all =
    let later : list_all is_name_byte xs ≡ true = grind (arith, all) in
    last_byte xs k (omega arith) later

not_dotted : (text front word rest : List ℕ) → text ≡ front ++ (word ++ rest) → 0 < length word → list_all is_name_byte word ≡ true
    → dotted text (length (front ++ word)) ≡ false
not_dotted text front [] rest is some all = absurd (omega arith)
not_dotted text front (x ∷ xs) rest is some all =
    rw length-append (dotted_behind text front (x ∷ xs) rest (length xs) is refl ∙ last_byte (x ∷ xs) (length xs) refl all)

behind_byte : (text front rest : List ℕ) (byte : ℕ) → text ≡ front ++ (byte ∷ rest) → dotted text (length (front ++ byte ∷ [])) ≡ (byte == 46)
behind_byte text front rest byte is = rw length-append (dotted_behind text front (byte ∷ []) rest 0 is refl)

all_fewer : (p : ℕ → Bool) (xs : List ℕ) → ((b : ℕ) → p b ≡ true → is_name_byte b ≡ true) → list_all p xs ≡ true → list_all is_name_byte xs ≡ true
all_fewer p [] fewer all = refl
all_fewer p (x ∷ xs) fewer all =
    let here : p x ≡ true = grind (arith, all) in
    let later : list_all p xs ≡ true = grind (arith, all) in
    rw (fewer x here, all_fewer p xs fewer later) refl

digit_is_name_byte : (b : ℕ) → is_digit b ≡ true → is_name_byte b ≡ true
digit_is_name_byte b t = grind (arith, nat_tests, t)

hex_is_name_byte : (b : ℕ) → is_hex_digit b ≡ true → is_name_byte b ≡ true
hex_is_name_byte b t = grind (arith, nat_tests, t)

name_some : (dotted : Bool) (word : List ℕ) → is_run (if dotted then is_name_byte else is_letter) is_name_byte word ≡ true
    → (0 < length word) × (list_all is_name_byte word ≡ true)
name_some dotted [] run = cc
name_some true (x ∷ xs) run = (omega arith, run)
name_some false (x ∷ xs) run = (omega arith, grind (arith, run))

digits_some : (word : List ℕ) → is_run is_digit is_digit word ≡ true → (0 < length word) × (list_all is_name_byte word ≡ true)
digits_some [] run = cc
digits_some (x ∷ xs) run = (omega arith, all_fewer is_digit (x ∷ xs) digit_is_name_byte run)

hex_some : (word : List ℕ) → is_hexadecimal word ≡ true → (0 < length word) × (list_all is_name_byte word ≡ true)
hex_some [] run = cc
hex_some (a ∷ []) run = cc
hex_some (a ∷ b ∷ []) run = grind (arith, run)
hex_some (a ∷ b ∷ d ∷ ds) run =
    let p : is_name_byte a ≡ true = grind (arith, nat_tests, run) in
    let q : is_name_byte b ≡ true = grind (arith, nat_tests, run) in
    let digits : list_all is_hex_digit (d ∷ ds) ≡ true = grind (arith, run) in
    (omega arith, rw (p, q) (all_fewer is_hex_digit (d ∷ ds) hex_is_name_byte digits))

number_some : (word : List ℕ) → (is_run is_digit is_digit word || is_hexadecimal word) ≡ true → (0 < length word) × (list_all is_name_byte word ≡ true)
number_some word run = by_form (is_run is_digit is_digit word) refl run
  where
    by_form : (b : Bool) → is_run is_digit is_digit word ≡ b → (b || is_hexadecimal word) ≡ true → (0 < length word) × (list_all is_name_byte word ≡ true)
    by_form true e t = digits_some word e
    by_form false e t = hex_some word t

-- all items

-- what is read of a text, its tokens known
ReadsAll : List ℕ → ℕ → List Told → Type 0
ReadsAll text at due = (c : Before) × Reads text at c due

regroup : (text : List ℕ) (at : ℕ) (due us ts : List Told) → ReadsAll text at (due ++ us ++ ts) → ReadsAll text at (due ++ (us ++ ts))
unfolding ReadsAll
regroup text at due us ts r = (r.0, subst (λ ds. Reads text at r.0 ds) (append_assoc due us ts) r.1)

all_read : (text front : List ℕ) (b : Before) (due : List Told) → text ≡ front ++ [] → Reads text (length front) b due → ReadsAll text (length text) (due ++ [])
unfolding ReadsAll
all_read text front b due is r =
    let whole : text ≡ front = is ∙ append-nil front in
    (b, subst (λ n. Reads text n b (due ++ [])) (sym (ap length whole)) (subst (λ ds. Reads text (length front) b ds) (sym (append-nil due)) r))

next_front : (text front word rest : List ℕ) → text ≡ front ++ (word ++ rest) → text ≡ (front ++ word) ++ rest
next_front text front word rest is = is ∙ sym (append_assoc front word rest)

name_on : (text front word rest : List ℕ) (b : Before) (due : List Told) → text ≡ front ++ (word ++ rest)
    → Begins (dotted text (length front)) shape.Name (length word) (word ++ rest) → Reads text (length front) b due
    → Reads text (length (front ++ word)) (after_text b word) (due ++ (kind.Name, word) ∷ [])
name_on text front word rest b due is begins r =
    let here = word_here text front word rest is in
    item_on text front word rest b (after_text b word) due ((kind.Name, word) ∷ []) shape.Name is begins (refl, tt)
    (ap (after_text b) here) (rw here refl) r

number_on : (text front word rest : List ℕ) (b : Before) (due : List Told) → text ≡ front ++ (word ++ rest) → number_value word < bound b
    → Begins (dotted text (length front)) shape.Number (length word) (word ++ rest) → Reads text (length front) b due
    → Reads text (length (front ++ word)) (after_text b word) (due ++ (kind.Number (number_value word), word) ∷ [])
number_on text front word rest b due is low begins r =
    let here = word_here text front word rest is in
    let taken = word_taken text front word rest is in
    let fit : nat_lt (number_value (take (length word) (drop (length front) text))) (bound b) ≡ true = rw taken (grind (arith, nat_tests, low)) in
    item_on text front word rest b (after_text b word) due ((kind.Number (number_value word), word) ∷ []) shape.Number is begins (fit, tt)
    (ap (after_text b) here) (rw (taken, here) refl) r

sign_on : (text front rest : List ℕ) (byte : ℕ) (b : Before) (due : List Told) → text ≡ front ++ (byte ∷ rest)
    → Begins (dotted text (length front)) shape.Sign 1 (byte ∷ rest) → Reads text (length front) b due
    → Reads text (length (front ++ byte ∷ [])) (after_text b (byte ∷ [])) (due ++ (kind.Punct, byte ∷ []) ∷ [])
sign_on text front rest byte b due is begins r =
    let here = word_here text front (byte ∷ []) rest is in
    item_on text front (byte ∷ []) rest b (after_text b (byte ∷ [])) due ((kind.Punct, byte ∷ []) ∷ []) shape.Sign is begins (refl, tt)
    (ap (after_text b) here) (rw here refl) r

end_on : (text front rest : List ℕ) (b : Before) (due : List Told) → text ≡ front ++ (10 ∷ rest)
    → Begins (dotted text (length front)) shape.LineEnd 1 (10 ∷ rest) → Reads text (length front) b due
    → Reads text (length (front ++ 10 ∷ [])) (after_text b (10 ∷ [])) (due ++ (kind.LineEnd, 10 ∷ []) ∷ [])
end_on text front rest b due is begins r =
    let here = word_here text front (10 ∷ []) rest is in
    item_on text front (10 ∷ []) rest b (after_text b (10 ∷ [])) due ((kind.LineEnd, 10 ∷ []) ∷ []) shape.LineEnd is begins (refl, tt)
    (ap (after_text b) here) (rw here refl) r

written_on : (text front : List ℕ) (b : Before) (due : List Told) (d : Bool) (items : List Item) → text ≡ front ++ items_text items
    → dotted text (length front) ≡ d → CanStand d b items → Reads text (length front) b due
    → ReadsAll text (length text) (due ++ items_told items)
unfolding items_text items_told
written_on text front b due d [] is dot stand r = all_read text front b due is r
written_on text front b due d (Name word ∷ items) is dot stand r =
    let begins : Begins (dotted text (length front)) shape.Name (length word) (word ++ items_text items) =
    rw dot (name_here d word (items_text items) stand.0 (item_stops items false (after_text b word) stand.1 stand.2)) in
    let some = name_some d word stand.0 in
    regroup text (length text) due ((kind.Name, word) ∷ []) (items_told items)
    (written_on text (front ++ word) (after_text b word) (due ++ (kind.Name, word) ∷ []) false items
    (next_front text front word (items_text items) is) (not_dotted text front word (items_text items) is some.0 some.1) stand.2
    (name_on text front word (items_text items) b due is begins r))
written_on text front b due d (Number word ∷ items) is dot stand r =
    let begins : Begins (dotted text (length front)) shape.Number (length word) (word ++ items_text items) =
    rw (dot, stand.0) (number_here word (items_text items) stand.1 (item_stops items false (after_text b word) stand.3 stand.4)) in
    let some = number_some word stand.1 in
    regroup text (length text) due ((kind.Number (number_value word), word) ∷ []) (items_told items)
    (written_on text (front ++ word) (after_text b word) (due ++ (kind.Number (number_value word), word) ∷ []) false items
    (next_front text front word (items_text items) is) (not_dotted text front word (items_text items) is some.0 some.1) stand.4
    (number_on text front word (items_text items) b due is stand.2 begins r))
written_on text front b due d (Sign byte ∷ items) is dot stand r =
    regroup text (length text) due ((kind.Punct, byte ∷ []) ∷ []) (items_told items)
    (written_on text (front ++ byte ∷ []) (after_text b (byte ∷ [])) (due ++ (kind.Punct, byte ∷ []) ∷ []) (byte == 46) items
    (next_front text front (byte ∷ []) (items_text items) is) (behind_byte text front (items_text items) byte is) stand.1
    (sign_on text front (items_text items) byte b due is (sign_begins (dotted text (length front)) byte (items_text items) stand.0) r))
written_on text front b due d (Space ∷ items) is dot stand r =
    regroup text (length text) due [] (items_told items)
    (written_on text (front ++ 32 ∷ []) b (due ++ []) false items
    (next_front text front (32 ∷ []) (items_text items) is) (behind_byte text front (items_text items) 32 is) stand
    (item_on text front (32 ∷ []) (items_text items) b b due [] shape.Blank is (blank_begins (dotted text (length front)) 32 (items_text items) refl) tt refl refl r))
written_on text front b due d (LineFeed ∷ items) is dot stand r =
    regroup text (length text) due ((kind.LineEnd, 10 ∷ []) ∷ []) (items_told items)
    (written_on text (front ++ 10 ∷ []) (after_text b (10 ∷ [])) (due ++ (kind.LineEnd, 10 ∷ []) ∷ []) false items
    (next_front text front (10 ∷ []) (items_text items) is) (behind_byte text front (items_text items) 10 is) stand
    (end_on text front (items_text items) b due is (feed_begins (dotted text (length front)) 10 (items_text items) refl) r))

-- numbers of 32 bits may stand anywhere
pub small_fits : (b : Stage) (n : ℕ) → n < 2 ^ 32 → n < bound b
small_fits Other n low = low
small_fits Dot n low = low
small_fits DotWord n low = omega arith

-- the last line has its end

ends_column : (items : List Item) (p : Place) → EndsLine items → p.column ≡ 1 → (fold next_place p (items_text items)).column ≡ 1
unfolding items_text
ends_column [] p ends first = first
ends_column (item ∷ items) p ends first = last_column item items p ends
  where
    last_column : (item : Item) (items : List Item) (p : Place) → EndsLine (item ∷ items) → (fold next_place p (items_text (item ∷ items))).column ≡ 1
    last_column item [] p ends = rw ends refl
    last_column item (next ∷ items) p ends =
        rw (fold-append next_place p (item_text item) (items_text (next ∷ items))) (last_column next items (fold next_place p (item_text item)) ends)

no_end : (items : List Item) → EndsLine items → last_end (items_text items) ≡ []
unfolding place_at
no_end items ends =
    let whole : take (length (items_text items)) (items_text items) ≡ items_text items = take_all (length (items_text items)) (items_text items) (omega arith) in
    let column : ((fold next_place first_place (take (length (items_text items)) (items_text items))).column == 1) ≡ true =
    rw whole (grind (arith, nat_tests, ends_column items first_place ends refl)) in
    rw column refl

pub written_law : (items : List Item) → CanStand false at_first items → EndsLine items → HasTokens (items_text items) (items_told items)
unfolding ReadsAll
written_law items stand ends =
    let r = written_on (items_text items) [] Other [] false items refl refl stand (nothing_read (items_text items)) in
    record {
      tokens = r.1.tokens;
      are = record {
        written = r.1.tokens;
        cut = r.1.cut;
        fit = r.1.fit;
        whole = rw (no_end items ends) (sym (append-nil r.1.tokens));
      };
      told_are = r.1.told_are;
    }
