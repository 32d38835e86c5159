-- Texts that are written word by word, and the tokens that they then have. This project's own.
use Rattle.std.specs.Prelude.{◌≡◌, ℕ, ◌<◌, ◌==◌, Bool, true, false, List, [], ◌∷◌, map, flat_map, if◌then◌else◌}
use Rattle.qpu_token.specs.declared.token.TokenKind.{TokenKind}
use Rattle.qpu_token.specs.declared.token.TokenKind.TheVariants as kind
use Rattle.qpu_token.specs.declared.token.Token.{Token}
use Rattle.qpu_token.specs.declared.before.Before.{Before}
use Rattle.qpu_token.specs.declared.before.Before.TheVariants.{Other}
use Rattle.qpu_text.specs.Bytes.{is_letter, is_name_byte}
use Rattle.qpu_text.specs.Numbers.{is_run, is_number, number_value}
use Rattle.qpu_token.specs.Words.{is_sign_byte}
use Rattle.qpu_token.specs.Tokens.{AreTokens, text_of, after_text, bound}

-- what is written: a name, a number, a sign of one byte, a space, a line feed
pub data Item : Type 0 where
  Name : (word : List ℕ) → Item
  Number : (word : List ℕ) → Item
  Sign : (byte : ℕ) → Item
  Space : Item
  LineFeed : Item

abbrev pub item_text : Item → List ℕ
item_text (Name word) = word
item_text (Number word) = word
item_text (Sign byte) = byte ∷ []
item_text Space = 32 ∷ []
item_text LineFeed = 10 ∷ []

unfoldable pub items_text : List Item → List ℕ
items_text items = flat_map item_text items

-- a token without its place: its kind and its bytes
abbrev pub Told : Type 0
Told = TokenKind × List ℕ

abbrev pub item_told : Item → List Told
item_told (Name word) = (kind.Name, word) ∷ []
item_told (Number word) = (kind.Number (number_value word), word) ∷ []
item_told (Sign byte) = (kind.Punct, byte ∷ []) ∷ []
item_told Space = []
item_told LineFeed = (kind.LineEnd, 10 ∷ []) ∷ []

unfoldable pub items_told : List Item → List Told
items_told items = flat_map item_told items

-- a name or number ends before these
abbrev pub Ends : List Item → Type 0
Ends [] = Unit {0}
Ends (Name word ∷ items) = ⊥
Ends (Number word ∷ items) = ⊥
Ends (Sign byte ∷ items) = Unit {0}
Ends (Space ∷ items) = Unit {0}
Ends (LineFeed ∷ items) = Unit {0}

-- what stands before an item: nothing that matters, the sign `.`, or that sign and `word`
abbrev pub Stage : Type 0
Stage = Before

abbrev pub at_first : Stage
at_first = Other

-- items that can stand one behind the other: each is a word, ends before the next begins, and a number is
-- below its bound. Directly behind a sign `.` a name may begin with a digit, and no number can stand
abbrev pub CanStand : Bool → Stage → List Item → Type 0
CanStand dotted before [] = Unit {0}
CanStand dotted before (Name word ∷ items) =
    (is_run (if dotted then is_name_byte else is_letter) is_name_byte word ≡ true) × Ends items × CanStand false (after_text before word) items
CanStand dotted before (Number word ∷ items) =
    (dotted ≡ false) × (is_number word ≡ true) × (number_value word < bound before)
    × Ends items × CanStand false (after_text before word) items
CanStand dotted before (Sign byte ∷ items) = (is_sign_byte byte ≡ true) × CanStand (byte == 46) (after_text before (byte ∷ [])) items
CanStand dotted before (Space ∷ items) = CanStand false before items
CanStand dotted before (LineFeed ∷ items) = CanStand false (after_text before (10 ∷ [])) items

-- the last item, where there is one, is a line feed
abbrev pub EndsLine : List Item → Type 0
EndsLine [] = Unit {0}
EndsLine (item ∷ []) = item ≡ LineFeed
EndsLine (item ∷ next ∷ items) = EndsLine (next ∷ items)

-- a text has tokens of these kinds and bytes, in this order
pub record HasTokens (text : List ℕ) (due : List Told) : Type 0 where
  pub tokens : List Token
  pub are : AreTokens text tokens
  pub told_are : map (λ token. (token.kind, text_of text token)) tokens ≡ due
