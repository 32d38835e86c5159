-- Numbers of a record: decimal, without leading zeros. This project's own.
use Rattle.std.specs.Prelude.{ℕ, ◌+◌, ◌==◌, ◌&&◌, ◌||◌, Bool, false, List, [], ◌∷◌, length, min, Option, Some, None, if◌then◌else◌}
use Rattle.std.specs.List.{list_all}
use Rattle.qpu_text.specs.Bytes.{byte_between, is_digit}
use Rattle.qpu_text.specs.Numbers.{value_in}

-- `0`
abbrev pub ZERO : ℕ
ZERO = 48

-- `0` alone, or digits of which the first isn't `0`
abbrev pub is_number : List ℕ → Bool
is_number [] = false
is_number (first ∷ others) = ((first == ZERO) && (length others == 0)) || (byte_between 49 57 first && list_all is_digit others)

-- the number that digits write; the one next to the most stands for all that are larger
unfoldable pub number_of : ℕ → List ℕ → Option ℕ
number_of most digits = if is_number digits then Some (min (value_in 10 digits) (most + 1)) else None
