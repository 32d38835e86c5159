-- Bytes that are no ASCII. This project's own.
use Rattle.std.specs.Prelude.{◌≡◌, ℕ, Bool, List, None, nat_lt, position}
use Rattle.qpu_tool.specs.declared.ascii.TheConstants.{LAST_ASCII}

abbrev pub is_high : ℕ → Bool
is_high byte = nat_lt LAST_ASCII byte

-- a text has no such byte
abbrev pub IsAscii : List ℕ → Type 0
IsAscii text = position is_high text ≡ None
