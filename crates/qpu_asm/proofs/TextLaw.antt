-- A text has exactly the words that its lines spell.
use Rattle.std.proofs.Common.{◌≡◌, ◌↔◌, ℕ, ◌+◌, List, [], ◌∷◌, ◌++◌, length, map, Result, Ok, Err, refl, sym, subst, ap, ◌∙◌, append-nil, append_assoc}
use Rattle.std.proofs.lemmas.List.{length-append}
use Rattle.qpu_word.specs.declared.word.Word.{Word}
use Rattle.qpu_token.specs.declared.token.Token.{Token}
use Rattle.qpu_token.specs.declared.fault.AsmFault.{AsmFault}
use Rattle.qpu_token.specs.Tokens.{AreTokens}
use Rattle.qpu_expr.specs.Expansion.{Left, expansion}
use Rattle.qpu_asm.specs.declared.line.Line.{Line}
use Rattle.qpu_asm.specs.declared.line.Line.TheVariants.{Raw, Says}
use Rattle.qpu_asm.specs.Placed.{Labels}
use Rattle.qpu_asm.specs.reader.LinesRead.{word_in}
use Rattle.qpu_asm.specs.Assembly.{and_then, closing_token, line_at, words_of_lines, encoding, labels_of, IsAssembly, AreWords}
use Rattle.qpu_asm.specs.SpelledTexts.{SpellsWord, placed_line, SpellWords, SpellsText, AreSpelled}
use Rattle.qpu_asm.specs.SpelledTexts.SpellsWord.{raw, says}
use Rattle.qpu_asm.specs.SpelledTexts.SpellsText.{spelled}
use Rattle.qpu_asm.proofs.LineLaw.{all_placed}
use Rattle.qpu_asm.proofs.RawLaw.{raw_law}
use Rattle.qpu_asm.proofs.ReadLaw.{spelled_law}
use Rattle.qpu_asm.proofs.OneAssembly.{Known, known}
use Rattle.qpu_asm.proofs.OneAssembly.Known.{by_fault, by_tokens}

-- a line

pub line_spells : (text : List ℕ) (labels : Labels) (at : ℕ) (line : List Token) (l : Line) → line_at text labels at line ≡ Ok l → SpellsWord at (placed_line text labels line) (word_in l)
unfolding line_at
line_spells text labels at line (Raw n) e = raw ((raw_law at (closing_token line) (placed_line text labels line) n).0 e)
line_spells text labels at line (Says i) e = says ((spelled_law at (closing_token line) (placed_line text labels line) i (all_placed text labels _)).0 e)

pub record HasWordOf (text : List ℕ) (labels : Labels) (at : ℕ) (line : List Token) (word : ℕ) : Type 0 where
  pub said : Line
  pub is : line_at text labels at line ≡ Ok said
  pub word_is : word_in said ≡ word

pub line_has : (text : List ℕ) (labels : Labels) (at : ℕ) (line : List Token) (word : ℕ) → SpellsWord at (placed_line text labels line) word → HasWordOf text labels at line word
unfolding line_at
line_has text labels at line word (raw e) = record { said = Raw word; is = (raw_law at (closing_token line) (placed_line text labels line) word).1 e; word_is = refl }
line_has text labels at line word (says {i = i} s) =
    record { said = Says i; is = (spelled_law at (closing_token line) (placed_line text labels line) i (all_placed text labels _)).1 s; word_is = refl }

-- lines one after another

record Spelling (text : List ℕ) (labels : Labels) (before : List ℕ) (lines : List (List Token)) (all : List ℕ) : Type 0 where
  words : List ℕ
  whole : all ≡ before ++ words
  spell : SpellWords text labels (length before) lines words

pub one_more : (before : List ℕ) (word : ℕ) → length (before ++ word ∷ []) ≡ length before + 1
one_more before word = length-append before (word ∷ [])

lines_by : (text : List ℕ) (labels : Labels) (before : List ℕ) (line : List Token) (lines : List (List Token)) (all : List ℕ) (r : Result Line AsmFault) → line_at text labels (length before) line ≡ r
    → and_then (and_then r (λ l. Ok (before ++ word_in l ∷ []))) (λ more. words_of_lines text labels more lines) ≡ Ok all
    → ((word : ℕ) → words_of_lines text labels (before ++ word ∷ []) lines ≡ Ok all → Spelling text labels (before ++ word ∷ []) lines all) → Spelling text labels before (line ∷ lines) all
lines_by text labels before line lines all (Err fault) e f more = absurd cc
lines_by text labels before line lines all (Ok l) e f more =
    let s = more (word_in l) f in
    record {
      words = word_in l ∷ s.words;
      whole = s.whole ∙ append_assoc before (word_in l ∷ []) s.words;
      spell = (line_spells text labels (length before) line l e, subst (λ (z : ℕ). SpellWords text labels z lines s.words) (one_more before (word_in l)) s.spell);
    }

same_words : (a b : List ℕ) → ◌≡◌ {A = Result (List ℕ) AsmFault} (Ok a) (Ok b) → b ≡ a
same_words a b e = cc

lines_spell : (text : List ℕ) (labels : Labels) (before : List ℕ) (lines : List (List Token)) (all : List ℕ) → words_of_lines text labels before lines ≡ Ok all → Spelling text labels before lines all
lines_spell text labels before [] all e = record { words = []; whole = same_words before all e ∙ sym (append-nil before); spell = tt }
lines_spell text labels before (line ∷ lines) all e =
    lines_by text labels before line lines all (line_at text labels (length before) line) refl e (λ word f. lines_spell text labels (before ++ word ∷ []) lines all f)

pub line_step : (text : List ℕ) (labels : Labels) (before : List ℕ) (lines : List (List Token)) (r : Result Line AsmFault) (l : Line) (word : ℕ) → r ≡ Ok l → word_in l ≡ word
    → and_then (and_then r (λ m. Ok (before ++ word_in m ∷ []))) (λ more. words_of_lines text labels more lines) ≡ words_of_lines text labels (before ++ word ∷ []) lines
line_step text labels before lines r l word e f = rw (e, f) refl

lines_have : (text : List ℕ) (labels : Labels) (before : List ℕ) (lines : List (List Token)) (words : List ℕ) → SpellWords text labels (length before) lines words
    → words_of_lines text labels before lines ≡ Ok (before ++ words)
lines_have text labels before [] [] spell = ap (λ (z : List ℕ). Ok z) (sym (append-nil before))
lines_have text labels before [] (word ∷ words) spell = absurd spell
lines_have text labels before (line ∷ lines) [] spell = absurd spell
lines_have text labels before (line ∷ lines) (word ∷ words) spell =
    let h = line_has text labels (length before) line word spell.0 in
    let more : SpellWords text labels (length (before ++ word ∷ [])) lines words = subst (λ (z : ℕ). SpellWords text labels z lines words) (sym (one_more before word)) spell.1 in
    line_step text labels before lines (line_at text labels (length before) line) h.said word h.is h.word_is
    ∙ (lines_have text labels (before ++ word ∷ []) lines words more ∙ ap (λ (z : List ℕ). Ok z) (append_assoc before (word ∷ []) words))

-- a text

spells_by : (text : List ℕ) (tokens : List Token) (words : List ℕ) (r : Result Left AsmFault) → AreTokens text tokens → expansion text tokens ≡ r → and_then r (encoding text) ≡ Ok words → SpellsText text words
unfolding encoding
spells_by text tokens words (Err fault) are e f = absurd cc
spells_by text tokens words (Ok left) are e f =
    let s = lines_spell text (labels_of text left.labels) [] left.lines words f in
    spelled are e (subst (λ (z : List ℕ). SpellWords text (labels_of text left.labels) 0 left.lines z) (sym s.whole) s.spell)

known_spells : (text : List ℕ) (words : List ℕ) → Known text (Ok words) → SpellsText text words
known_spells text words (by_fault fault e is) = absurd cc
known_spells text words (by_tokens tokens are e) = spells_by text tokens words (expansion text tokens) are refl e

text_has : (text : List ℕ) (words : List ℕ) → SpellsText text words → IsAssembly text (Ok words)
unfolding encoding
text_has text words (spelled {left = left} are e spell) =
    IsAssembly.read are (ap (λ (r : Result Left AsmFault). and_then r (encoding text)) e ∙ lines_have text (labels_of text left.labels) [] left.lines words spell)

pub text_law : (text : List ℕ) (words : List ℕ) → IsAssembly text (Ok words) ↔ SpellsText text words
text_law text words = (λ a. known_spells text words (known text (Ok words) a), text_has text words)

pub words_are_spelled : (text : List ℕ) (words : List Word) → AreWords text words → AreSpelled text words
words_are_spelled text words a = (text_law text (map (λ w. w.0) words)).0 a
