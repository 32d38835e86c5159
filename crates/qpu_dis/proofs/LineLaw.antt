-- The text of words has the tokens of their lines.
use Rattle.std.proofs.Common.{◌≡◌, ℕ, suc, ◌^◌, ◌<◌, inr, false, List, [], ◌∷◌, ◌++◌, map, Option, Some, None, Result, Ok, Err, refl, ap, sym, subst, ◌∙◌, append-nil, append_assoc, arith}
use Rattle.std.specs.Prelude.{All, codes}
use Rattle.std.proofs.lemmas.Simd.{map-map}
use Rattle.qpu_token.specs.declared.token.Token.{Token}
use Rattle.qpu_token.specs.declared.fault.AsmFault.{AsmFault}
use Rattle.qpu_text.specs.Numbers.{number_value}
use Rattle.qpu_token.specs.Tokens.{text_of, after_text}
use Rattle.qpu_token.specs.Written.{Item, Name, Number as NumberItem, Sign, Space as SpaceItem, LineFeed, items_text, items_told, Stage, at_first, CanStand, EndsLine, HasTokens}
use Rattle.qpu_token.specs.OneAnswer.{IsAnswer}
use Rattle.qpu_token.proofs.AnswerLaw.{one_answer}
use Rattle.qpu_token.proofs.WrittenLaw.{written_law}
use Rattle.qpu_text.specs.Digits.{hex_digits}
use Rattle.qpu_line.specs.declared.instruction.Instruction.{Instruction}
use Rattle.qpu_line.specs.declared.symbol.Symbol.{Symbol}
use Rattle.qpu_line.specs.declared.symbol.Symbol.TheVariants as symbol
use Rattle.qpu_line.specs.declared.name.Name.TheVariants as name
use Rattle.qpu_line.specs.Spellings.{spelling}
use Rattle.qpu_line.specs.Names.{name_of, IsNameOfLanguage}
use Rattle.qpu_line.specs.Canonical.{canonical_instruction}
use Rattle.qpu_line.specs.Lines.{line_bits}
use Rattle.qpu_line.proofs.NameLaw.{names_back}
use Rattle.qpu_dis.specs.Text.{line_or_word, canonical_line, ended_line, disassembly}
use Rattle.qpu_dis.specs.Tokens.{symbol_of, written_by, line_written, lines_written, IsReadAs, IsAnsweredBy}
use Rattle.qpu_dis.proofs.NumberLemmas.{hex_run, hex_number}
use Rattle.qpu_dis.proofs.BitLemmas.{bits_items, items_append, bits_same, told_symbol, told_symbols, symbols_append, bits_told, bits_stand}
use Rattle.qpu_dis.proofs.LineLemmas.{line_can_stand}

-- the words of a line

abbrev digits_of : ℕ → List ℕ
digits_of w = codes "0x" ++ hex_digits 16 w

abbrev line_items : ℕ → Option Instruction → List Item
line_items w None = Sign 46 ∷ Name (codes "word") ∷ SpaceItem ∷ NumberItem (digits_of w) ∷ []
line_items w (Some i) = bits_items (line_bits i)

abbrev ended : ℕ → List Item
ended w = line_items w (canonical_instruction w) ++ LineFeed ∷ []

lines_items : List ℕ → List Item
lines_items [] = []
lines_items (w ∷ words) = ended w ++ lines_items words

-- their text

line_same : (w : ℕ) (o : Option Instruction) → items_text (line_items w o) ≡ line_or_word w o
unfolding items_text
line_same w None = ap (λ z. codes ".word " ++ z) (append-nil (digits_of w))
line_same w (Some i) = bits_same (line_bits i)

ended_same : (w : ℕ) → items_text (ended w) ≡ ended_line w
unfolding canonical_line items_text
ended_same w = items_append (line_items w (canonical_instruction w)) (LineFeed ∷ []) ∙ rw (line_same w (canonical_instruction w)) refl

lines_same : (words : List ℕ) → items_text (lines_items words) ≡ disassembly words
unfolding lines_items disassembly items_text
lines_same [] = refl
lines_same (w ∷ words) = items_append (ended w) (lines_items words) ∙ rw (ended_same w, lines_same words) refl

-- their symbols

word_name : IsNameOfLanguage name.Word
word_name = inr (38, omega arith, refl)

word_back : name_of (codes "word") ≡ Some name.Word
unfolding spelling
word_back = names_back name.Word word_name

line_told : (w : ℕ) (o : Option Instruction) → w < 2 ^ 64 → canonical_instruction w ≡ o → told_symbols (line_items w o) ≡ written_by w o
unfolding items_told
line_told w None low is = rw (word_back, hex_number 16 w low) refl
line_told w (Some i) low is = bits_told false (line_bits i) (line_can_stand w i is)

ended_told : (w : ℕ) → w < 2 ^ 64 → told_symbols (ended w) ≡ line_written w ++ symbol.LineEnd ∷ []
unfolding line_written items_told
ended_told w low =
    symbols_append (line_items w (canonical_instruction w)) (LineFeed ∷ []) ∙ rw (line_told w (canonical_instruction w) low refl) refl

head : (P : ℕ → Type 0) (w : ℕ) (words : List ℕ) → All P (w ∷ words) → P w
head P w words all = all 0 w (omega arith)

rest : (P : ℕ → Type 0) (w : ℕ) (words : List ℕ) → All P (w ∷ words) → All P words
rest P w words all = λ k d low. all (suc k) d (omega arith)

abbrev IsWord : ℕ → Type 0
IsWord w = w < 2 ^ 64

lines_told : (words : List ℕ) → All IsWord words → told_symbols (lines_items words) ≡ lines_written words
unfolding lines_items lines_written items_told
lines_told [] all = refl
lines_told (w ∷ words) all =
    symbols_append (ended w) (lines_items words)
    ∙ rw (ended_told w (head IsWord w words all), lines_told words (rest IsWord w words all)) refl

-- they can stand

line_stands : (w : ℕ) (o : Option Instruction) (c : Stage) (more : List Item) → w < 2 ^ 64 → canonical_instruction w ≡ o
    → ((c : Stage) → CanStand false c more) → CanStand false c (line_items w o ++ LineFeed ∷ more)
line_stands w None c more low is behind =
    let value : number_value (digits_of w) < 2 ^ 64 = rw (hex_number 16 w low) low in
    (refl, (refl, tt, (refl, hex_run 16 w (omega arith), value, tt, behind _)))
line_stands w (Some i) c more low is behind =
    bits_stand false (line_bits i) c (LineFeed ∷ more) (line_can_stand w i is) tt (λ d b. behind (after_text b (codes "\n")))

lines_stand : (words : List ℕ) → All IsWord words → (c : Stage) → CanStand false c (lines_items words)
unfolding lines_items
lines_stand [] all c = tt
lines_stand (w ∷ words) all c =
    subst (CanStand false c) (sym (append_assoc (line_items w (canonical_instruction w)) (LineFeed ∷ []) (lines_items words)))
    (line_stands w (canonical_instruction w) c (lines_items words) (head IsWord w words all) refl (lines_stand words (rest IsWord w words all)))

ends_cons : (item : Item) (items : List Item) → EndsLine items → (items ≡ [] → item ≡ LineFeed) → EndsLine (item ∷ items)
ends_cons item [] ends last = last refl
ends_cons item (next ∷ items) ends last = ends

ends_behind : (xs ys : List Item) → EndsLine (LineFeed ∷ ys) → EndsLine (xs ++ LineFeed ∷ ys)
ends_behind [] ys ends = ends
ends_behind (x ∷ []) ys ends = ends
ends_behind (x ∷ y ∷ xs) ys ends = ends_behind (y ∷ xs) ys ends

lines_end : (words : List ℕ) → EndsLine (lines_items words)
unfolding lines_items
lines_end [] = tt
lines_end (w ∷ words) =
    subst EndsLine (sym (append_assoc (line_items w (canonical_instruction w)) (LineFeed ∷ []) (lines_items words)))
    (ends_behind (line_items w (canonical_instruction w)) (lines_items words) (ends_cons LineFeed (lines_items words) (lines_end words) (λ e. refl)))

-- the law

read_as : (items : List Item) → HasTokens (items_text items) (items_told items) → IsReadAs (items_text items) (told_symbols items)
read_as items h = record {
  tokens = h.tokens;
  are = h.are;
  symbols_are = sym (map-map told_symbol (λ (token : Token). (token.kind, text_of (items_text items) token)) h.tokens) ∙ ap (map told_symbol) h.told_are;
}

pub lines_read : (words : List ℕ) → All (λ w. w < 2 ^ 64) words → IsReadAs (disassembly words) (lines_written words)
lines_read words all =
    let read = read_as (lines_items words) (written_law (lines_items words) (lines_stand words all at_first) (lines_end words)) in
    subst (λ text. IsReadAs text (lines_written words)) (lines_same words) (subst (IsReadAs (items_text (lines_items words))) (lines_told words all) read)

oks : (xs ys : List Token) → ◌≡◌ {A = Result (List Token) AsmFault} (Ok xs) (Ok ys) → xs ≡ ys
oks xs ys e = cc

no_fault : (f : AsmFault) (ys : List Token) → ◌≡◌ {A = Result (List Token) AsmFault} (Err f) (Ok ys) → ⊥
no_fault f ys e = cc

-- a text with tokens has no other answer
answered : (text : List ℕ) (symbols : List Symbol) (answer : Result (List Token) AsmFault) → IsReadAs text symbols → IsAnswer text answer
    → IsAnsweredBy text symbols answer
answered text symbols (Ok ts) h is =
    ap (map (symbol_of text)) (oks ts h.tokens (one_answer text (Ok ts) (Ok h.tokens) is h.are)) ∙ h.symbols_are
answered text symbols (Err fault) h is = no_fault fault h.tokens (one_answer text (Err fault) (Ok h.tokens) is h.are)

pub lines_answered : (words : List ℕ) (answer : Result (List Token) AsmFault) → All (λ w. w < 2 ^ 64) words
    → IsAnswer (disassembly words) answer → IsAnsweredBy (disassembly words) (lines_written words) answer
lines_answered words answer all is = answered (disassembly words) (lines_written words) answer (lines_read words all) is
