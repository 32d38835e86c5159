-- The lines of the words before the index are appended.
use Rattle.std.proofs.Common.{◌≡◌, take, flat_map}
use Rattle.qpu_io.specs.Output.{appended}
use Rattle.qpu_tool.proofs.WordLemmas.{line_of_word}
use Rattle.qpu_tool.proofs.code.put_words.Given as goal

abbrev pub invariant-loop-word : goal.invariant-loop-word
invariant-loop-word g l =
    g.K.Sink.shown l.sink ≡ appended (g.K.Sink.shown l.fn.sink) (flat_map line_of_word (take l.word-index l.words))
