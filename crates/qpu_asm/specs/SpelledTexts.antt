-- The words of a text by the grammar of its lines: each line that the expansion leaves spells one. This
-- project's own.
use Rattle.std.specs.Prelude.{◌≡◌, ℕ, ◌+◌, ◌-◌, List, [], ◌∷◌, length, map, take, Ok}
use Rattle.qpu_word.specs.declared.word.Word.{Word}
use Rattle.qpu_token.specs.declared.token.Token.{Token}
use Rattle.qpu_token.specs.Tokens.{AreTokens}
use Rattle.qpu_expr.specs.Expansion.{Left, expansion}
use Rattle.qpu_line.specs.declared.instruction.Instruction.{Instruction}
use Rattle.qpu_line.specs.Instructions.{word_of}
use Rattle.qpu_asm.specs.declared.placed.Placed.{Placed}
use Rattle.qpu_asm.specs.Placed.{Labels, placed_token}
use Rattle.qpu_asm.specs.Laws.{symbols_of, word_symbols}
use Rattle.qpu_asm.specs.Spells.{IsSpelled}
use Rattle.qpu_asm.specs.Assembly.{labels_of}

-- a line at a place of a program: `.word` and the word, or an instruction whose word it is
pub data SpellsWord (at : ℕ) (xs : List Placed) : ℕ → Type 0 where
  raw : {n : ℕ} → symbols_of xs ≡ word_symbols n → SpellsWord at xs n
  says : {i : Instruction} → IsSpelled at xs i → SpellsWord at xs (word_of i)

-- the tokens of a line before its end
abbrev pub placed_line : List ℕ → Labels → List Token → List Placed
placed_line text labels line = map (placed_token text labels) (take (length line - 1) line)

-- lines from a place on, one word each
abbrev pub SpellWords : List ℕ → Labels → ℕ → List (List Token) → List ℕ → Type 0
SpellWords text labels at [] [] = Unit {0}
SpellWords text labels at (line ∷ lines) (word ∷ words) = SpellsWord at (placed_line text labels line) word × SpellWords text labels (at + 1) lines words
SpellWords text labels at lines words = ⊥

-- a text and its words
pub data SpellsText (text : List ℕ) : List ℕ → Type 0 where
  spelled : {tokens : List Token} {left : Left} {words : List ℕ} → AreTokens text tokens → expansion text tokens ≡ Ok left
      → SpellWords text (labels_of text left.labels) 0 left.lines words → SpellsText text words

-- the words are those that the text spells
abbrev pub AreSpelled : List ℕ → List Word → Type 0
AreSpelled text words = SpellsText text (map (λ w. w.0) words)
