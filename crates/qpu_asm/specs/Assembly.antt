-- The words of a text, or its first fault: tokens, then the expansion, then the words of its lines. This
-- project's own.
use Rattle.std.specs.Prelude.{◌≡◌, ◌≢◌, ◌⊎◌, ℕ, ◌-◌, List, [], ◌∷◌, ◌++◌, length, map, take, fold, slice_get, slice_range, unwrap_or, Result, Ok, Err}
use Rattle.qpu_word.specs.declared.word.Word.{Word}
use Rattle.qpu_token.specs.declared.token.Token.{Token}
use Rattle.qpu_token.specs.declared.token.TokenKind.TheVariants as kind
use Rattle.qpu_token.specs.declared.fault.AsmKind.TheVariants.{Memory}
use Rattle.qpu_token.specs.declared.fault.AsmFault.{AsmFault}
use Rattle.qpu_token.specs.Tokens.{AreTokens}
use Rattle.qpu_token.specs.Faults.{IsFirstFault}
use Rattle.qpu_expr.specs.declared.expanded.LabelAt.{LabelAt}
use Rattle.qpu_expr.specs.Tables.{put_in}
use Rattle.qpu_expr.specs.Expansion.{Left, expansion}
use Rattle.qpu_asm.specs.declared.line.Line.{Line}
use Rattle.qpu_token.specs.Stops.{no_memory}
use Rattle.qpu_asm.specs.Placed.{Labels, placed_token}
use Rattle.qpu_asm.specs.reader.LinesRead.{read_line, word_in}

-- the first fault ends it
abbrev pub and_then : {A B : Type 0} → Result A AsmFault → (A → Result B AsmFault) → Result B AsmFault
and_then (Ok a) next = next a
and_then (Err fault) next = Err fault

-- the words behind the labels of a text, by the labels' names
abbrev pub label_put : List ℕ → Labels → LabelAt → Labels
label_put text labels l = put_in (slice_range text l.from l.to) l.word labels

unfoldable pub labels_of : List ℕ → List LabelAt → Labels
labels_of text labels = fold (label_put text) [] labels

-- the end of a line, which is its last token
abbrev pub no_token : Token
no_token = record { kind = kind.LineEnd; from = 0; to = 0; line = 0; column = 0 }

abbrev pub closing_token : List Token → Token
closing_token line = unwrap_or (slice_get line (length line - 1)) no_token

-- what a line says at a place of the program
unfoldable pub line_at : List ℕ → Labels → ℕ → List Token → Result Line AsmFault
line_at text labels at line = read_line at (closing_token line) (map (placed_token text labels) (take (length line - 1) line))

-- the words of lines in order, each at the place behind those before it
abbrev pub word_behind : List ℕ → Labels → List Token → List ℕ → Result (List ℕ) AsmFault
word_behind text labels line words = and_then (line_at text labels (length words) line) (λ l. Ok (words ++ word_in l ∷ []))

abbrev pub words_of_lines : List ℕ → Labels → List ℕ → List (List Token) → Result (List ℕ) AsmFault
words_of_lines text labels words [] = Ok words
words_of_lines text labels words (line ∷ lines) =
    and_then (word_behind text labels line words) (λ more. words_of_lines text labels more lines)

unfoldable pub encoding : List ℕ → Left → Result (List ℕ) AsmFault
encoding text left = words_of_lines text (labels_of text left.labels) [] left.lines

-- the words of a text whose tokens these are
abbrev pub assembled : List ℕ → List Token → Result (List ℕ) AsmFault
assembled text tokens = and_then (expansion text tokens) (encoding text)

-- the one answer to a text: the first fault of its tokens, or what they come to
pub data IsAssembly (text : List ℕ) : Result (List ℕ) AsmFault → Type 0 where
  faulty : {fault : AsmFault} → IsFirstFault text fault → fault.kind ≢ Memory → IsAssembly text (Err fault)
  read : {tokens : List Token} {answer : Result (List ℕ) AsmFault} → AreTokens text tokens → assembled text tokens ≡ answer → IsAssembly text answer

-- the words are due, or the fault is; want of memory, which has no place, is free
abbrev pub AreWords : List ℕ → List Word → Type 0
AreWords text words = IsAssembly text (Ok (map (λ w. w.0) words))

abbrev pub IsItsFault : List ℕ → AsmFault → Type 0
IsItsFault text fault = (fault ≡ no_memory) ⊎ IsAssembly text (Err fault)
