-- The language's rules: what a text's lines become. This project's own.
use Rattle.std.specs.Prelude.{◌≡◌, ◌↔◌, ℕ, suc, ◌+◌, ◌-◌, ◌<◌, ◌≤◌, false, List, [], ◌∷◌, ◌++◌, length, drop, map, Option, Some, None, Ok}
use Rattle.qpu_token.specs.declared.token.Token.{Token}
use Rattle.qpu_token.specs.Tokens.{text_of}
use Rattle.qpu_expr.specs.declared.limits.TheConstants.{MOST_LINES, MOST_TOKENS, MOST_WORDS, MOST_TURNS, MOST_DEPTH}
use Rattle.qpu_expr.specs.declared.expanded.LabelAt.{LabelAt}
use Rattle.qpu_expr.specs.declared.line.Head.TheVariants as head
use Rattle.qpu_expr.specs.declared.line.Pair.{Pair}
use Rattle.qpu_expr.specs.declared.line.Pair.TheVariants.{Repeat, Macro}
use Rattle.qpu_expr.specs.Tables.{found}
use Rattle.qpu_expr.specs.Settings.{Sets}
use Rattle.qpu_expr.specs.Operands.{instruction_work}
use Rattle.qpu_expr.specs.LineTokens.{LineTokens}
use Rattle.qpu_expr.specs.MacroTokens.{MacroTokens}
use Rattle.qpu_expr.specs.Lines.{lines_of, label_of, behind_label, head_of, body_length, left_tokens}
use Rattle.qpu_expr.specs.Macros.{Macros, repeated_in, body_replaced, called}
use Rattle.qpu_expr.specs.Spelled.{IsWorth, is_setting, Setting, Names, Given}
use Rattle.qpu_expr.specs.Expansion.{Left, expansion}

-- what is known where a line is reached: what names are set to, macros, and labels with the word that they
-- stand before, each by its name; and how many lines and tokens were reached and words given
pub record Known : Type 0 where
  pub sets : Sets
  pub macros : Macros
  pub labels : List (List ℕ × LabelAt)
  pub reached : ℕ
  pub tokens : ℕ
  pub words : ℕ

abbrev pub nothing_known : Known
nothing_known = record { sets = []; macros = []; labels = []; reached = 0; tokens = 0; words = 0 }

-- what a line adds

abbrev pub with_line : LineTokens → Known → Known
with_line line k = record k { reached = k.reached + 1; tokens = k.tokens + length line.tokens }

-- a turn of a repeat counts as a line without tokens
abbrev pub with_turn : Known → Known
with_turn k = record k { reached = k.reached + 1 }

abbrev pub with_word : Known → Known
with_word k = record k { words = k.words + 1 }

abbrev pub with_label : List ℕ → Token → Known → Known
with_label text name k = record k { labels = k.labels ++ (text_of text name, record { from = name.from; to = name.to; word = k.words }) ∷ [] }

abbrev pub with_set : List ℕ → Token → ℕ → Known → Known
with_set text name value k = record k { sets = k.sets ++ (text_of text name, value) ∷ [] }

abbrev pub with_macro : List ℕ → MacroTokens → Known → Known
with_macro text m k = record k { macros = k.macros ++ (text_of text m.name, m) ∷ [] }

-- how a line begins

-- a label, where there is one, has a new name and stands before the next word
pub data Labels (text : List ℕ) (k : Known) : Option Token → Known → Type 0 where
  none : Labels text k None k
  one : {name : Token} → found (text_of text name) k.labels ≡ None → Labels text k (Some name) (with_label text name k)

-- a line is reached: it counts with its tokens; what stands behind its label is a line of its own
pub record Reaches (text : List ℕ) (k : Known) (line : LineTokens) (next : Known) (rest : List Token) : Type 0 where
  pub lines : k.reached < MOST_LINES
  pub tokens : length line.tokens ≤ MOST_TOKENS - k.tokens
  pub label : Labels text (with_line line k) (label_of text line.tokens) next
  pub behind : rest ≡ behind_label text line.tokens

-- the line that closes a body: nothing stands behind its word
pub record Closes (text : List ℕ) (k : Known) (line : LineTokens) (next : Known) : Type 0 where
  pub rest : List Token
  pub reaches : Reaches text k line next rest
  pub bare : drop 2 rest ≡ []

-- a body is all lines up to the one that closes it; bodies inside it are closed first
pub record IsBody (pair : Pair) (text : List ℕ) (under body : List LineTokens) (close : LineTokens) (behind : List LineTokens) : Type 0 where
  pub parts : under ≡ body ++ close ∷ behind
  pub closes : body_length pair text 0 under ≡ Some (length body)

-- the operands of a line's parts are worked out
abbrev pub Works : List ℕ → Known → List Token → List Token → Type 0
Works text k line tokens = instruction_work text k.sets line ≡ record { tokens = tokens; unknown = None; zero = None }

-- what is left of a line that is no directive with a meaning and no call
pub data Leaves (text : List ℕ) (k : Known) (whole rest : List Token) : List Token → Type 0 where
  word : head_of text rest ≡ head.Word → Leaves text k whole rest rest
  no_setting : head_of text rest ≡ head.Set → is_setting text k.sets (drop 2 rest) ≡ false → Leaves text k whole rest rest
  other : {tokens : List Token} → head_of text rest ≡ head.Other → Works text k rest tokens → Leaves text k whole rest (left_tokens text whole rest)
  instruction : {tokens : List Token} → head_of text rest ≡ head.Instruction → called text k.macros rest ≡ None → Works text k rest tokens → Leaves text k whole rest tokens

-- what is expanded: lines, or a body so many times
pub data Work : Type 0 where
  lines : List LineTokens → Work
  times : ℕ → List LineTokens → Work

-- what lines leave, and what is known behind them, where so many repeats and calls may stand one in another
pub data Expands (text : List ℕ) : ℕ → Known → Work → Known → List (List Token) → Type 0 where
  nothing : {d : ℕ} {k : Known} → Expands text d k (lines []) k []
  empty : {d : ℕ} {k a z : Known} {line : LineTokens} {rest : List Token} {behind : List LineTokens} {left : List (List Token)}
      → Reaches text k line a rest → head_of text rest ≡ head.Nothing
      → Expands text d a (lines behind) z left → Expands text d k (lines (line ∷ behind)) z left
  set : {d : ℕ} {k a z : Known} {line : LineTokens} {rest : List Token} {behind : List LineTokens} {left : List (List Token)} {name : Token} {value : ℕ}
      → Reaches text k line a rest → head_of text rest ≡ head.Set
      → Setting text k.sets (drop 2 rest) name value → found (text_of text name) k.sets ≡ None
      → Expands text d (with_set text name value a) (lines behind) z left → Expands text d k (lines (line ∷ behind)) z left
  repeat : {d n : ℕ} {k a b c z : Known} {line close : LineTokens} {rest : List Token} {under body behind : List LineTokens} {left more : List (List Token)}
      → Reaches text k line a rest → head_of text rest ≡ head.Opens Repeat
      → IsWorth text k.sets (drop 2 rest) n → n ≤ MOST_TURNS → IsBody Repeat text under body close behind
      → Expands text d a (times n body) b left → Closes text b close c
      → Expands text (suc d) c (lines behind) z more → Expands text (suc d) k (lines (line ∷ under)) z (left ++ more)
  macro : {d : ℕ} {k a b z : Known} {line close : LineTokens} {rest : List Token} {under body behind : List LineTokens} {left : List (List Token)} {name : Token} {parameters : List Token}
      → Reaches text k line a rest → head_of text rest ≡ head.Opens Macro
      → Names text (drop 2 rest) (name ∷ parameters) → found (text_of text name) k.macros ≡ None → repeated_in text [] parameters ≡ None
      → IsBody Macro text under body close behind → Closes text (with_macro text (record { name = name; parameters = parameters; body = body }) a) close b
      → Expands text d b (lines behind) z left → Expands text d k (lines (line ∷ under)) z left
  call : {d : ℕ} {k a b z : Known} {line : LineTokens} {rest : List Token} {behind : List LineTokens} {left more : List (List Token)} {m : MacroTokens} {arguments : List (List Token)}
      → Reaches text k line a rest → head_of text rest ≡ head.Instruction → called text k.macros rest ≡ Some m
      → Given text (drop 1 rest) arguments → length arguments ≡ length m.parameters
      → Expands text d a (lines (body_replaced text m.parameters arguments m.body)) b left
      → Expands text (suc d) b (lines behind) z more → Expands text (suc d) k (lines (line ∷ behind)) z (left ++ more)
  plain : {d : ℕ} {k a z : Known} {line : LineTokens} {rest tokens : List Token} {behind : List LineTokens} {left : List (List Token)}
      → Reaches text k line a rest → Leaves text k line.tokens rest tokens → k.words < MOST_WORDS
      → Expands text d (with_word a) (lines behind) z left → Expands text d k (lines (line ∷ behind)) z ((tokens ++ line.end ∷ []) ∷ left)
  over : {d : ℕ} {k : Known} {body : List LineTokens} → Expands text d k (times 0 body) k []
  turn : {d n : ℕ} {k b z : Known} {body : List LineTokens} {left more : List (List Token)}
      → k.reached < MOST_LINES → Expands text d (with_turn k) (lines body) b left
      → Expands text d b (times n body) z more → Expands text d k (times (suc n) body) z (left ++ more)

-- a text's lines leave these lines and labels
pub record IsExpansion (text : List ℕ) (tokens : List Token) (left : Left) : Type 0 where
  pub known : Known
  pub expands : Expands text MOST_DEPTH nothing_known (lines (lines_of text tokens)) known left.lines
  pub labels : left.labels ≡ map (λ e. e.1) known.labels

-- a text is expanded exactly where the rules leave something, and it is that
abbrev pub ExpandsByRules : Type 0
ExpandsByRules = (text : List ℕ) (tokens : List Token) (left : Left) → (expansion text tokens ≡ Ok left) ↔ IsExpansion text tokens left
