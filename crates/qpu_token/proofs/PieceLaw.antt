-- What the first bytes tell is the longest word that begins there, and where they tell none, none does.
use Rattle.std.proofs.Common.{◌≡◌, ℕ, zero, suc, ◌<◌, Bool, true, false, not, ◌&&◌, ◌||◌, List, [], ◌∷◌, length, take, None, refl, arith}
use Rattle.std.specs.Prelude.{◌==◌, nat_eq, codes, if◌then◌else◌}
use Rattle.std.specs.List.{starts_with}
use Rattle.std.proofs.lemmas.Bool.Decides.{nat_tests}
use Rattle.qpu_token.specs.declared.piece.Shape.TheVariants.{Blank, Comment, Name, Number, Sign, LineEnd}
use Rattle.qpu_text.specs.Bytes.{is_letter, is_digit, is_name_byte, is_blank}
use Rattle.qpu_text.specs.Numbers.{is_hexadecimal}
use Rattle.qpu_token.specs.Words.{is_sign_byte, is_sign, is_line_end, is_one_blank}
use Rattle.qpu_token.specs.Pieces.{comment_length, name_length, number_length, some_piece, short_piece, piece_of}
use Rattle.qpu_token.specs.Tokens.{Begins, NothingBegins}
use Rattle.qpu_token.specs.Reading.{PieceHere}
use Rattle.qpu_token.proofs.PieceLemmas.{name_begins, number_begins, comment_begins, blank_begins, feed_begins, pair_ends, pair_signs, sign_begins}

-- no first byte of a word but of signs and line ends
record IsOther (dotted : Bool) (byte : ℕ) : Type 0 where
  name : (is_letter byte || (dotted && is_digit byte)) ≡ false
  digit : is_digit byte ≡ false
  comment : (byte == 35) ≡ false
  blank : is_blank byte ≡ false

record IsNone (byte : ℕ) (rest : List ℕ) : Type 0 where
  feed : (byte == 10) ≡ false
  end : starts_with nat_eq rest (codes "\r\n") ≡ false
  signs : (starts_with nat_eq rest (codes "<<") || starts_with nat_eq rest (codes ">>")) ≡ false
  sign : is_sign_byte byte ≡ false

none_of : (dotted : Bool) (byte : ℕ) (more : List ℕ) → IsOther dotted byte → IsNone byte (byte ∷ more) → NothingBegins dotted (byte ∷ more)
none_of dotted byte more other none Blank zero inside = refl
none_of dotted byte more other none Blank (suc m) inside = no_blank m more
  where
    no_blank : (m : ℕ) (more : List ℕ) → is_one_blank (byte ∷ take m more) ≡ false
    no_blank zero more = other.blank
    no_blank (suc m) [] = other.blank
    no_blank (suc m) (b ∷ more) = refl
none_of dotted byte more other none Comment zero inside = refl
none_of dotted byte more other none Comment (suc m) inside = rw other.comment refl
none_of dotted byte more other none Name zero inside = refl
none_of dotted byte more other none Name (suc m) inside = rw (no_name dotted other.name) refl
  where
    no_name : (after : Bool) → (is_letter byte || (after && is_digit byte)) ≡ false → (if after then is_name_byte else is_letter) byte ≡ false
    no_name true t = t
    no_name false t = grind (arith, t)
none_of dotted byte more other none Number zero inside = and_none (not dotted)
  where
    and_none : (b : Bool) → (b && false) ≡ false
    and_none true = refl
    and_none false = refl
none_of dotted byte more other none Number (suc m) inside = rw (other.digit, no_hex m more) (and_none (not dotted))
  where
    and_none : (b : Bool) → (b && false) ≡ false
    and_none true = refl
    and_none false = refl

    no_hex : (m : ℕ) (more : List ℕ) → is_hexadecimal (byte ∷ take m more) ≡ false
    no_hex zero more = refl
    no_hex (suc m) [] = refl
    no_hex (suc m) (b ∷ more) = let no_zero : (byte == 48) ≡ false = grind (arith, nat_tests, other.digit) in rw no_zero refl
none_of dotted byte more other none Sign zero inside = refl
none_of dotted byte more other none Sign (suc m) inside = no_sign m more none
  where
    no_sign : (m : ℕ) (more : List ℕ) → IsNone byte (byte ∷ more) → is_sign (byte ∷ take m more) ≡ false
    no_sign zero more none = none.sign
    no_sign (suc m) [] none = none.sign
    no_sign (suc zero) (b ∷ more) none = let t = none.signs in grind (arith, nat_tests, t)
    no_sign (suc (suc m)) (b ∷ []) none = let t = none.signs in grind (arith, nat_tests, t)
    no_sign (suc (suc m)) (b ∷ c ∷ more) none = refl
none_of dotted byte more other none LineEnd zero inside = refl
none_of dotted byte more other none LineEnd (suc m) inside = no_end m more none
  where
    no_end : (m : ℕ) (more : List ℕ) → IsNone byte (byte ∷ more) → is_line_end (byte ∷ take m more) ≡ false
    no_end zero more none = none.feed
    no_end (suc m) [] none = none.feed
    no_end (suc zero) (b ∷ more) none = let t = none.end in grind (arith, nat_tests, t)
    no_end (suc (suc m)) (b ∷ []) none = let t = none.end in grind (arith, nat_tests, t)
    no_end (suc (suc m)) (b ∷ c ∷ more) none = refl

short_here : (dotted : Bool) (byte : ℕ) (more : List ℕ) → IsOther dotted byte → PieceHere dotted (byte ∷ more) (short_piece (byte ∷ more))
unfolding short_piece
short_here dotted byte more other = by_feed (byte == 10) refl
  where
    by_sign : (b : Bool) → is_sign_byte byte ≡ b → (byte == 10) ≡ false → starts_with nat_eq (byte ∷ more) (codes "\r\n") ≡ false → (starts_with nat_eq (byte ∷ more) (codes "<<") || starts_with nat_eq (byte ∷ more) (codes ">>")) ≡ false → PieceHere dotted (byte ∷ more) (if b then some_piece Sign 1 else None)
    by_sign true e p q r = sign_begins dotted byte more e
    by_sign false e p q r = none_of dotted byte more other (record { feed = p; end = q; signs = r; sign = e })

    by_pair : (b : Bool) → (starts_with nat_eq (byte ∷ more) (codes "<<") || starts_with nat_eq (byte ∷ more) (codes ">>")) ≡ b → (byte == 10) ≡ false → starts_with nat_eq (byte ∷ more) (codes "\r\n") ≡ false → PieceHere dotted (byte ∷ more) (if b then some_piece Sign 2 else if is_sign_byte byte then some_piece Sign 1 else None)
    by_pair true e p q = pair_signs dotted (byte ∷ more) e
    by_pair false e p q = by_sign (is_sign_byte byte) refl p q e

    by_end : (b : Bool) → starts_with nat_eq (byte ∷ more) (codes "\r\n") ≡ b → (byte == 10) ≡ false → PieceHere dotted (byte ∷ more) (if b then some_piece LineEnd 2 else if starts_with nat_eq (byte ∷ more) (codes "<<") || starts_with nat_eq (byte ∷ more) (codes ">>") then some_piece Sign 2 else if is_sign_byte byte then some_piece Sign 1 else None)
    by_end true e p = pair_ends dotted (byte ∷ more) e
    by_end false e p = by_pair (starts_with nat_eq (byte ∷ more) (codes "<<") || starts_with nat_eq (byte ∷ more) (codes ">>")) refl p e

    by_feed : (b : Bool) → (byte == 10) ≡ b → PieceHere dotted (byte ∷ more) (if b then some_piece LineEnd 1 else if starts_with nat_eq (byte ∷ more) (codes "\r\n") then some_piece LineEnd 2 else if starts_with nat_eq (byte ∷ more) (codes "<<") || starts_with nat_eq (byte ∷ more) (codes ">>") then some_piece Sign 2 else if is_sign_byte byte then some_piece Sign 1 else None)
    by_feed true e = feed_begins dotted byte more e
    by_feed false e = by_end (starts_with nat_eq (byte ∷ more) (codes "\r\n")) refl e

first_here : (dotted : Bool) (byte : ℕ) (more : List ℕ) → PieceHere dotted (byte ∷ more) (piece_of dotted (byte ∷ more))
unfolding piece_of
first_here dotted byte more = by_name (is_letter byte || (dotted && is_digit byte)) refl
  where
    by_blank : (b : Bool) → is_blank byte ≡ b → (is_letter byte || (dotted && is_digit byte)) ≡ false → is_digit byte ≡ false → (byte == 35) ≡ false → PieceHere dotted (byte ∷ more) (if b then some_piece Blank 1 else short_piece (byte ∷ more))
    by_blank true e p q r = blank_begins dotted byte more e
    by_blank false e p q r = short_here dotted byte more (record { name = p; digit = q; comment = r; blank = e })

    by_comment : (b : Bool) → (byte == 35) ≡ b → (is_letter byte || (dotted && is_digit byte)) ≡ false → is_digit byte ≡ false → PieceHere dotted (byte ∷ more) (if b then some_piece Comment (comment_length (byte ∷ more)) else if is_blank byte then some_piece Blank 1 else short_piece (byte ∷ more))
    by_comment true e p q = comment_begins dotted byte more e
    by_comment false e p q = by_blank (is_blank byte) refl p q e

    plain_number : (after : Bool) → (is_letter byte || (after && is_digit byte)) ≡ false → is_digit byte ≡ true → Begins after Number (number_length (byte ∷ more)) (byte ∷ more)
    plain_number true p e = absurd (digit_is_name (is_letter byte) (is_digit byte) p e)
      where
        digit_is_name : (a b : Bool) → (a || (true && b)) ≡ false → b ≡ true → ⊥
        digit_is_name a b p e = grind (arith, p, e)
    plain_number false p e = number_begins byte more e

    by_digit : (b : Bool) → is_digit byte ≡ b → (is_letter byte || (dotted && is_digit byte)) ≡ false → PieceHere dotted (byte ∷ more) (if b then some_piece Number (number_length (byte ∷ more)) else if byte == 35 then some_piece Comment (comment_length (byte ∷ more)) else if is_blank byte then some_piece Blank 1 else short_piece (byte ∷ more))
    by_digit true e p = plain_number dotted p e
    by_digit false e p = by_comment (byte == 35) refl p e

    by_name : (b : Bool) → (is_letter byte || (dotted && is_digit byte)) ≡ b → PieceHere dotted (byte ∷ more) (if b then some_piece Name (name_length (byte ∷ more)) else if is_digit byte then some_piece Number (number_length (byte ∷ more)) else if byte == 35 then some_piece Comment (comment_length (byte ∷ more)) else if is_blank byte then some_piece Blank 1 else short_piece (byte ∷ more))
    by_name true e = name_begins dotted byte more e
    by_name false e = by_digit (is_digit byte) refl e

pub piece_here : (dotted : Bool) (rest : List ℕ) → 0 < length rest → PieceHere dotted rest (piece_of dotted rest)
piece_here dotted [] some = absurd (omega arith)
piece_here dotted (byte ∷ more) some = first_here dotted byte more
