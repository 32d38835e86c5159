-- How the text is read, word by word. That this leads to the tokens of the text, or to its first fault,
-- is proved of it.
use Rattle.std.specs.Prelude.{◌≡◌, ℕ, ◌+◌, ◌≤◌, ◌==◌, Bool, true, false, nat_lt, List, [], ◌∷◌, ◌++◌, length, drop, Option, Some, None, if◌then◌else◌}
use Rattle.qpu_token.specs.declared.token.TokenKind.{TokenKind}
use Rattle.qpu_token.specs.declared.token.TokenKind.TheVariants as kind
use Rattle.qpu_token.specs.declared.token.Token.{Token}
use Rattle.qpu_token.specs.declared.piece.Shape.{Shape}
use Rattle.qpu_token.specs.declared.piece.Shape.TheVariants.{Blank, Comment, Name, Number, Sign, LineEnd}
use Rattle.qpu_token.specs.declared.piece.Piece.{Piece}
use Rattle.qpu_token.specs.declared.before.Before.{Before}
use Rattle.qpu_token.specs.declared.before.Before.TheVariants.{Other}
use Rattle.qpu_token.specs.declared.place.Place.{Place}
use Rattle.qpu_token.specs.declared.here.Here.{Here}
use Rattle.qpu_token.specs.declared.turn.Turn.{Turn}
use Rattle.qpu_token.specs.declared.turn.Turn.TheVariants.{Nothing, Passed, Told, TooLarge}
use Rattle.qpu_text.specs.Numbers.{number_value}
use Rattle.qpu_token.specs.Places.{place_at}
use Rattle.qpu_token.specs.Tokens.{dotted, Begins, NothingBegins, told, Cut, after_text, before_of, bound, fits, AllFit}
use Rattle.qpu_token.specs.Faults.{InLine}

-- what begins here: a word, or nothing
abbrev pub PieceHere : Bool → List ℕ → Option Piece → Type 0
PieceHere after_dot rest None = NothingBegins after_dot rest
PieceHere after_dot rest (Some piece) = Begins after_dot piece.shape piece.length rest

-- behind a word

abbrev pub place_behind : Place → Shape → List ℕ → Place
place_behind place Blank word = record { line = place.line; column = place.column + length word }
place_behind place Comment word = record { line = place.line; column = place.column + length word }
place_behind place Name word = record { line = place.line; column = place.column + length word }
place_behind place Number word = record { line = place.line; column = place.column + length word }
place_behind place Sign word = record { line = place.line; column = place.column + length word }
place_behind place LineEnd word = record { line = place.line + 1; column = 1 }

abbrev pub before_behind : Before → Shape → List ℕ → Before
before_behind before Blank word = before
before_behind before Comment word = before
before_behind before Name word = after_text before word
before_behind before Number word = after_text before word
before_behind before Sign word = after_text before word
before_behind before LineEnd word = after_text before word

abbrev pub after_piece : Here → Shape → List ℕ → Here
after_piece here shape word = record {
  at = here.at + length word;
  place = place_behind here.place shape word;
  before = before_behind here.before shape word;
}

abbrev pub token_here : Here → TokenKind → ℕ → Token
token_here here kind to =
    record { kind = kind; from = here.at; to = to; line = here.place.line; column = here.place.column }

-- a word was read, and these tokens of it
pub record Moved (text : List ℕ) (here next : Here) (tokens : List Token) : Type 0 where
  pub shape : Shape
  pub n : ℕ
  pub begins : Begins (dotted text here.at) shape n (drop here.at text)
  pub at : next.at ≡ here.at + n
  pub place : next.place ≡ place_at text next.at
  pub before : next.before ≡ before_of text here.before tokens
  pub told_is : told text here.at n shape ≡ tokens

-- the text is read up to here, and these are its tokens so far
pub record IsRead (text : List ℕ) (tokens : List Token) (here : Here) : Type 0 where
  pub cut : Cut text tokens here.at
  pub fit : AllFit text Other tokens
  pub before : here.before ≡ before_of text Other tokens
  pub place : here.place ≡ place_at text here.at
  pub inside : here.at ≤ length text

-- what a word that begins here comes to
abbrev pub turn_of : Here → Shape → List ℕ → Turn
turn_of here Blank word = Passed (after_piece here Blank word)
turn_of here Comment word = Passed (after_piece here Comment word)
turn_of here Name word = Told (token_here here kind.Name (here.at + length word)) (after_piece here Name word)
turn_of here Number word =
    if nat_lt (number_value word) (bound here.before)
    then Told (token_here here (kind.Number (number_value word)) (here.at + length word)) (after_piece here Number word)
    else TooLarge (after_piece here Number word)
turn_of here Sign word = Told (token_here here kind.Punct (here.at + length word)) (after_piece here Sign word)
turn_of here LineEnd word = Told (token_here here kind.LineEnd (here.at + length word)) (after_piece here LineEnd word)

-- a number was read that is too large for its place
pub record IsLarge (text : List ℕ) (here next : Here) : Type 0 where
  pub n : ℕ
  pub moved : Moved text here next (token_here here (kind.Number n) next.at ∷ [])
  pub large : bound here.before ≤ n
  pub same_line : next.place.line ≡ here.place.line

-- what reading on by one word came to
abbrev pub TurnTaken : List ℕ → Here → Turn → Type 0
TurnTaken text here Nothing = NothingBegins (dotted text here.at) (drop here.at text)
TurnTaken text here (Passed next) = Moved text here next []
TurnTaken text here (Told token next) = Moved text here next (token ∷ []) × (fits here.before token.kind ≡ true)
TurnTaken text here (TooLarge next) = IsLarge text here next

-- the line end of a last line that has no line feed
abbrev pub end_here : Here → List Token
end_here here = if here.place.column == 1 then [] else token_here here kind.LineEnd here.at ∷ []

-- the text is read up to here, in the line of the first number that is too large, which stands at a
-- place
pub record IsPastLarge (text : List ℕ) (large : Place) (at : ℕ) : Type 0 where
  pub front : List Token
  pub token : Token
  pub back : List Token
  pub cut : Cut text (front ++ token ∷ back) at
  pub fit : AllFit text Other front
  pub unfit : fits (before_of text Other front) token.kind ≡ false
  pub same_line : InLine large.line (token ∷ back)
  pub column_is : token.column ≡ large.column
  pub line_is : (place_at text at).line ≡ large.line
  pub inside : at ≤ length text
