-- What is left is what was left, the run that is begun included.
use Rattle.std.proofs.Common.{◌≡◌, length}
use denote.Text.{Utf8}
use denote.Shadow.{shadow}
use Rattle.qpu_record.specs.Left.{HasItems, runs_left}
use Rattle.qpu_record.proofs.items.ItemsRuns.next.Given as goal

abbrev pub invariant-loop-line : goal.invariant-loop-line
invariant-loop-line l = record {
  utf8 : shadow (Utf8 l.self-inside.text.now);
  has : HasItems l.self-inside.number l.self-inside.begun l.self-inside.text.now;
  left : l.fn.self ≡ runs_left l.self-inside.number l.self-inside.begun l.self-inside.text.now;
}

abbrev pub decreases-loop-line : goal.decreases-loop-line
decreases-loop-line l = length l.self-inside.text.now
