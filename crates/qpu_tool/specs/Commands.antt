-- The commands and their words. This project's own.
use Rattle.std.specs.Prelude.{◌≡◌, ℕ, Bool, true, false, ◌&&◌, List, [], ◌∷◌, Option, Some, None, codes, bytes_eq, if◌then◌else◌}
use Rattle.qpu_tool.specs.declared.words.Command.{Command}
use Rattle.qpu_tool.specs.declared.words.Command.TheVariants.{Run, Assemble, Disassemble, Check, Replay}
use Rattle.qpu_tool.specs.declared.command.TheConstants.{MOST_INPUT, MOST_RECORD}

-- the words of a row of a table are those of the command line
abbrev pub are_words : List (List ℕ) → List (List ℕ) → Bool
are_words [] [] = true
are_words [] (word ∷ words) = false
are_words (name ∷ row) [] = false
are_words (name ∷ row) (word ∷ words) = bytes_eq word name && are_words row words

-- the first command of a table that has these words
abbrev pub first_with : List (List ℕ) → List (List (List ℕ) × Command) → Option Command
first_with words [] = None
first_with words (row ∷ rows) = if are_words row.0 words then Some row.1 else first_with words rows

-- the words of each command
abbrev pub shapes : List (List (List ℕ) × Command)
shapes =
    (codes "run" ∷ codes "-w" ∷ codes "0" ∷ [], Run)
    ∷ (codes "asm" ∷ [], Assemble)
    ∷ (codes "dis" ∷ [], Disassemble)
    ∷ (codes "check" ∷ [], Check)
    ∷ (codes "replay" ∷ [], Replay)
    ∷ []

-- the command that words are
unfoldable pub command_of : List (List ℕ) → Option Command
command_of words = first_with words shapes

abbrev pub IsCommand : List (List ℕ) → Command → Type 0
IsCommand words command = command_of words ≡ Some command

abbrev pub IsNoCommand : List (List ℕ) → Type 0
IsNoCommand words = command_of words ≡ None

-- bytes of the longest input
abbrev pub limit_of : Command → ℕ
limit_of Replay = MOST_RECORD
limit_of _ = MOST_INPUT

-- the commands whose answer leaves a choice, since threads share the work of a run: none of these
abbrev pub HasChoice : Command → Type 0
HasChoice _ = ⊥
