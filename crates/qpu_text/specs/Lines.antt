-- The lines of a text, and texts cut at a byte. This project's own.
use Rattle.std.specs.Prelude.{ℕ, ◌==◌, Bool, true, false, List, [], ◌∷◌, ◌++◌, if◌then◌else◌}
use Rattle.std.specs.List.{before_first, count_by, onto_first}
use Rattle.qpu_text.specs.declared.lines.Line.{Line}
use Rattle.qpu_text.specs.Bytes.{LF, is_lf, is_hash}

-- what stands before the first byte of a kind, whether there is one, and what stands behind it
pub record Cut : Type 0 where
  pub front : List ℕ
  pub found : Bool
  pub rest : List ℕ

abbrev pub with_front : List ℕ → Cut → Cut
with_front front cut = record cut { front = front }

unfoldable pub cut_at : ℕ → List ℕ → Cut
cut_at mark [] = record { front = []; found = false; rest = [] }
cut_at mark (byte ∷ text) =
    if byte == mark then (record { front = []; found = true; rest = text })
    else with_front (byte ∷ (cut_at mark text).front) (cut_at mark text)

-- the first line of a text, without its line feed; and with it
abbrev pub first_line : List ℕ → Cut
first_line text = cut_at LF text

abbrev pub whole_line : Cut → List ℕ
whole_line cut = if cut.found then cut.front ++ LF ∷ [] else cut.front

-- a line as code tells it, without where it lies in memory
abbrev pub cut_of : Line → Cut
cut_of line = record { front = line.front.now; found = line.ended; rest = line.rest.now }

-- all lines, each with its line feed; what stands behind the last line feed is a line unless it is empty
unfoldable pub lines : List ℕ → List (List ℕ)
lines [] = []
lines (byte ∷ text) = if is_lf byte then (LF ∷ []) ∷ lines text else onto_first byte (lines text)

-- how many line feeds stand in a text
abbrev pub line_feeds : List ℕ → ℕ
line_feeds text = count_by is_lf text

-- a line without its comment: what stands before the first `#`
abbrev pub before_comment : List ℕ → List ℕ
before_comment line = before_first is_hash line
