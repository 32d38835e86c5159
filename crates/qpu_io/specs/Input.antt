-- What a source shows of itself, and what one read or a whole reading does to it.
use Rattle.std.specs.Prelude.{◌≡◌, ℕ, ◌<◌, ◌≤◌, List, [], ◌++◌, length, take, drop, Option, IfSome, option_map, None}
use Rattle.qpu_io.specs.Faults.{Rose}

-- what a source shows: the bytes left, where it tells them, and its count of faults
pub record Input : Type 0 where
  pub left : Option (List ℕ)
  pub faults : ℕ

-- what a source shows that tells no bytes: its count of faults
abbrev pub input_untold : ℕ → Input
input_untold faults = record { left = None; faults = faults }

-- these bytes were taken from the front of what was left, and no fault came
pub record Takes (old new : Input) (bytes : List ℕ) : Type 0 where
  pub left : old.left ≡ option_map (λ rest. bytes ++ rest) new.left
  pub faults : new.faults ≡ old.faults

-- a read of n bytes: the next n bytes left stand first in the buffer, and the rest of the buffer is
-- unchanged; for a buffer that isn't empty, no byte is read only at the end of input
pub record Reads (old new : Input) (buffer filled : List ℕ) (n : ℕ) : Type 0 where
  pub within : n ≤ length buffer
  pub rest : drop n filled ≡ drop n buffer
  pub taken : Takes old new (take n filled)
  pub ended : n ≡ 0 → 0 < length buffer → IfSome old.left (λ bytes. bytes ≡ [])

-- a read that failed: no byte was taken, and the count of faults rose
pub record ReadFails (old new : Input) : Type 0 where
  pub left : new.left ≡ old.left
  pub faults : Rose old.faults new.faults

-- a reading to the end of input: these bytes, at most `limit`, are all that was left
pub record ReadsToEnd (old new : Input) (limit : ℕ) (bytes : List ℕ) : Type 0 where
  pub at_most : length bytes ≤ limit
  pub taken : Takes old new bytes
  pub ended : IfSome new.left (λ rest. rest ≡ [])

-- a reading of more than `limit` bytes
pub record ReadsPast (old new : Input) (limit : ℕ) : Type 0 where
  pub bytes : List ℕ
  pub more : limit < length bytes
  pub taken : Takes old new bytes

-- a reading of at most `limit` bytes that stopped with no fault
pub record ReadsPart (old new : Input) (limit : ℕ) : Type 0 where
  pub bytes : List ℕ
  pub at_most : length bytes ≤ limit
  pub taken : Takes old new bytes

-- a reading of at most `limit` bytes that a fault ended
pub record ReadBreaks (old new : Input) (limit : ℕ) : Type 0 where
  pub bytes : List ℕ
  pub at_most : length bytes ≤ limit
  pub left : old.left ≡ option_map (λ rest. bytes ++ rest) new.left
  pub faults : Rose old.faults new.faults
