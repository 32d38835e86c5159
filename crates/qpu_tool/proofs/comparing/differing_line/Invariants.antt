-- What stands behind the bytes that are the same differs where the whole texts do.
use Rattle.std.proofs.Common.{drop, ◌≡◌, ◌+◌, ◌≤◌}
use Rattle.qpu_tool.specs.Replaying.{differing_line}
use Rattle.qpu_tool.proofs.comparing.differing_line.Given as goal

abbrev pub invariant-loop-at : goal.invariant-loop-at
invariant-loop-at l =
    (l.line ≤ l.first + l.at) × (differing_line l.line (drop l.at l.text) (drop l.at l.other) ≡ differing_line l.first l.text l.other)
