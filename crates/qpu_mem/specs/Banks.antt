-- A memory's words in banks: as many words in each, but for the last, which has those that remain.
-- This project's own.
use Rattle.std.specs.Prelude.{◌≡◌, ◌≤◌, ◌<◌, ℕ, ◌-◌, ◌*◌, List, [], length, min, slice_index_or}
use Rattle.std.specs.List.{flat_map}
use Rattle.qpu_mem.specs.declared.bank.TheConstants.{BANK}

-- the words of all banks, one bank behind the other
abbrev pub words_in : List (List ℕ) → List ℕ
words_in banks = flat_map (λ bank. bank) banks

-- how many of so many words bank i has
abbrev pub bank_words : ℕ → ℕ → ℕ
bank_words words i = min BANK (words - BANK * i)

-- so many words stand in these banks
pub record IsBanked (words : ℕ) (banks : List (List ℕ)) : Type 0 where
  pub room : words ≤ BANK * length banks
  pub each : (i : ℕ) → i < length banks → length (slice_index_or banks i []) ≡ bank_words words i
