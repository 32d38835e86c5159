-- A text is ASCII exactly where no byte of it lies above the last of ASCII.
use Rattle.std.proofs.Common.{◌≡◌, ◌≤◌, ◌+◌, ℕ, Bool, true, false, List, [], ◌∷◌, length, Option, Some, None, refl, arith}
use Rattle.std.specs.Prelude.{not, nat_lt, ◌&&◌, if◌then◌else◌}
use Rattle.std.specs.List.{prefix_len, list_all}
use Rattle.std.proofs.lemmas.Bool.Decides.{nat_tests}
use Rattle.qpu_printed.specs.Ascii.{is_above, AsciiHasNoneAbove, NoneAboveIsAscii}
use Rattle.qpu_printed.proofs.AsciiLemmas.{is_low, IsLow, low_cons, all_low, low_all}

-- how many bytes of ASCII stand in front
abbrev in_front : List ℕ → ℕ
in_front text = prefix_len (λ byte. not (is_above byte)) text

tested : (byte : ℕ) → not (is_above byte) ≡ is_low byte
tested byte = grind (arith, nat_tests)

-- all of them, where a text is ASCII

all_first : (first above : Bool) (n size : ℕ) (rest : Bool) → not above ≡ first → (first && rest) ≡ true → (rest ≡ true → n ≡ size)
    → (if not above then 1 + n else 0) ≡ 1 + size
all_first true above n size rest is low all = let e = all low in rw (is, e) refl
all_first false above n size rest is low all = absurd (cc)

all_front : (text : List ℕ) → IsLow text → in_front text ≡ length text
all_front [] low = refl
all_front (byte ∷ text) low =
    let e = all_first (is_low byte) (is_above byte) (in_front text) (length text) (list_all is_low text) (tested byte) low (all_front text) in omega (arith, e)

none_of : (n size : ℕ) → n ≡ size → ◌≡◌ {A = Option ℕ} (if nat_lt n size then Some n else None) None
none_of n size same = let not_less : nat_lt n size ≡ false = grind (arith, nat_tests) in rw not_less refl

pub none_high : AsciiHasNoneAbove
none_high text all = none_of (in_front text) (length text) (all_front text (low_all text all))

-- and where all of them do, it is ASCII

none_past : (n size : ℕ) → ◌≡◌ {A = Option ℕ} (if nat_lt n size then Some n else None) None → size ≤ n
none_past n size none = by_test (nat_lt n size) refl none
  where
    by_test : (b : Bool) → nat_lt n size ≡ b → ◌≡◌ {A = Option ℕ} (if b then Some n else None) None → size ≤ n
    by_test true is none = absurd (cc)
    by_test false is none = grind (arith, nat_tests)

front_all : (text : List ℕ) → length text ≤ in_front text → IsLow text
front_all [] most = refl
front_all (byte ∷ text) most = by_test (is_above byte) refl most (front_all text)
  where
    by_test : (above : Bool) → is_above byte ≡ above → length (byte ∷ text) ≤ (if not above then 1 + in_front text else 0)
        → (length text ≤ in_front text → IsLow text) → IsLow (byte ∷ text)
    by_test true is most rest = absurd (omega (arith, most))
    by_test false is most rest = low_cons byte text (low_of byte is) (rest (omega (arith, most)))
      where
        low_of : (byte : ℕ) → is_above byte ≡ false → is_low byte ≡ true
        low_of byte is = grind (arith, nat_tests)

pub none_high_back : NoneAboveIsAscii
none_high_back text none = all_low text (front_all text (none_past (in_front text) (length text) none))
