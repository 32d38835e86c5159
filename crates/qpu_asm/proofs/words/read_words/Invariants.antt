use Rattle.std.proofs.Common.{◌≡◌, ◌≤◌, ◌+◌, length}
use denote.Text.{Utf8}
use denote.Shadow.{shadow}
use Rattle.qpu_word.specs.Words.{numbers_of}
use Rattle.qpu_text.specs.Lines.{lines}
use Rattle.qpu_asm.specs.HexLines.{words_behind, hex_words}
use Rattle.qpu_asm.proofs.words.read_words.Given as goal

abbrev pub invariant-loop-rest : goal.invariant-loop-rest
invariant-loop-rest l =
    shadow (Utf8 l.rest) × (l.number + length l.rest ≤ length l.text + 1) × (words_behind l.number (numbers_of l.words.items) (lines l.rest) ≡ hex_words l.text)

abbrev pub decreases-loop-rest : goal.decreases-loop-rest
decreases-loop-rest l = length l.rest
