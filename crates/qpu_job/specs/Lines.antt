-- What stands in a line. This project's own.
use Rattle.std.specs.Prelude.{ℕ, ◌-◌, ◌==◌, List, length, take, slice_index, if◌then◌else◌}
use Rattle.qpu_text.specs.Bytes.{LF, CR}

-- a text without its last byte, where that is this one
abbrev pub without_last : ℕ → List ℕ → List ℕ
without_last byte text =
    if slice_index text (length text - 1) == byte then take (length text - 1) text else text

-- the line without its line feed, and without one carriage return directly before that
unfoldable pub content : List ℕ → List ℕ
content line =
    if slice_index line (length line - 1) == LF then without_last CR (take (length line - 1) line) else line
