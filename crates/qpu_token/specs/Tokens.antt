-- What the tokens of a text are: words that follow one another, each as long as can be, of which blanks
-- and comments are left out. This project's own.
use Rattle.std.specs.Prelude.{◌≡◌, ℕ, ◌+◌, ◌-◌, ◌^◌, ◌<◌, ◌≤◌, ◌==◌, ◌&&◌, Bool, true, false, nat_eq, nat_lt, List, [], ◌∷◌, ◌++◌, length, take, drop, fold, codes, slice_index, slice_range, if◌then◌else◌}
use Rattle.std.specs.Cmp.Lexicographic.{pointwise}
use Rattle.qpu_token.specs.declared.token.TokenKind.{TokenKind}
use Rattle.qpu_token.specs.declared.token.TokenKind.TheVariants as kind
use Rattle.qpu_token.specs.declared.token.Token.{Token}
use Rattle.qpu_token.specs.declared.piece.Shape.{Shape}
use Rattle.qpu_token.specs.declared.piece.Shape.TheVariants.{Blank, Comment, Name, Number, Sign, LineEnd}
use Rattle.qpu_token.specs.declared.before.Before.{Before}
use Rattle.qpu_token.specs.declared.before.Before.TheVariants.{Other, Dot, DotWord}
use Rattle.qpu_text.specs.Numbers.{number_value}
use Rattle.qpu_token.specs.Words.{is_word}
use Rattle.qpu_token.specs.Places.{place_at}

-- words in the text

-- a byte directly after a sign `.`
abbrev pub dotted : List ℕ → ℕ → Bool
dotted text at = nat_lt 0 at && (slice_index text (at - 1) == 46)

-- the first n bytes are a word of a shape, and no longer front is one
pub record Begins (after_dot : Bool) (shape : Shape) (n : ℕ) (rest : List ℕ) : Type 0 where
  pub inside : n ≤ length rest
  pub word : is_word after_dot shape (take n rest) ≡ true
  pub longest : (m : ℕ) → n < m → m ≤ length rest → is_word after_dot shape (take m rest) ≡ false

-- no word begins here
abbrev pub NothingBegins : Bool → List ℕ → Type 0
NothingBegins after_dot rest =
    (shape : Shape) (m : ℕ) → m ≤ length rest → is_word after_dot shape (take m rest) ≡ false

-- tokens

-- n bytes of the text as a token, with its line and column
abbrev pub token_at : List ℕ → ℕ → ℕ → TokenKind → Token
token_at text at n kind = record {
  kind = kind;
  from = at;
  to = at + n;
  line = (place_at text at).line;
  column = (place_at text at).column;
}

-- the token that a word is: blanks and comments are none
abbrev pub told : List ℕ → ℕ → ℕ → Shape → List Token
told text at n Blank = []
told text at n Comment = []
told text at n Name = token_at text at n kind.Name ∷ []
told text at n Number = token_at text at n (kind.Number (number_value (take n (drop at text)))) ∷ []
told text at n Sign = token_at text at n kind.Punct ∷ []
told text at n LineEnd = token_at text at n kind.LineEnd ∷ []

-- the tokens of a front of the text: words follow one another with no byte between, and each goes on
-- as far as one of its shape can
pub data Cut (text : List ℕ) : List Token → ℕ → Type 0 where
  at_start : Cut text [] 0
  on : {tokens : List Token} {at : ℕ} (shape : Shape) (n : ℕ) → Cut text tokens at → Begins (dotted text at) shape n (drop at text) → Cut text (tokens ++ told text at n shape) (at + n)

-- the bounds of numbers

-- the text of a token
abbrev pub text_of : List ℕ → Token → List ℕ
text_of text token = slice_range text token.from token.to

-- what stands before a token: `.`, then `.` and `word`, or something else
abbrev pub after_text : Before → List ℕ → Before
after_text before word =
    if pointwise nat_eq word (codes ".") then Dot
    else if pointwise nat_eq word (codes "word") then after_word before else Other
  where
    after_word : Before → Before
    after_word Other = Other
    after_word Dot = DotWord
    after_word DotWord = Other

abbrev pub before_of : List ℕ → Before → List Token → Before
before_of text before tokens = fold (λ before token. after_text before (text_of text token)) before tokens

-- a number is below 2^32; directly after `.` and `word` below 2^64
abbrev pub bound : Before → ℕ
bound Other = 2 ^ 32
bound Dot = 2 ^ 32
bound DotWord = 2 ^ 64

abbrev pub fits : Before → TokenKind → Bool
fits before kind.Name = true
fits before (kind.Number n) = nat_lt n (bound before)
fits before kind.Punct = true
fits before kind.LineEnd = true

-- each number is below its bound
abbrev pub AllFit : List ℕ → Before → List Token → Type 0
AllFit text before [] = Unit {0}
AllFit text before (token ∷ tokens) =
    (fits before token.kind ≡ true) × AllFit text (after_text before (text_of text token)) tokens

-- the whole text

-- the line end of a last line that has no line feed
abbrev pub last_end : List ℕ → List Token
last_end text =
    if (place_at text (length text)).column == 1 then []
    else token_at text (length text) 0 kind.LineEnd ∷ []

-- the tokens of a text
pub record AreTokens (text : List ℕ) (tokens : List Token) : Type 0 where
  pub written : List Token
  pub cut : Cut text written (length text)
  pub fit : AllFit text Other written
  pub whole : tokens ≡ written ++ last_end text

-- the spans of tokens between two bytes of a text, in order
abbrev pub AreSpans : ℕ → List Token → ℕ → Type 0
AreSpans from [] to = from ≤ to
AreSpans from (token ∷ tokens) to = (from ≤ token.from) × (token.from ≤ token.to) × AreSpans token.to tokens to
