use Rattle.std.proofs.Common.{◌≡◌, [], length, drop}
use Rattle.qpu_asm.specs.Assembly.{words_of_lines}
use Rattle.qpu_asm.proofs.assembly.encode_lines.Given as goal

abbrev pub invariant-loop-line : goal.invariant-loop-line
invariant-loop-line l = record {
  many : length l.words ≡ l.line-index;
  same : words_of_lines l.text l.labels l.words (drop l.line-index l.lines) ≡ words_of_lines l.text l.labels [] l.lines;
}
