-- The bytes up to here are the same.
use Rattle.std.proofs.Common.{sym, ◌∙◌, arith}
use Rattle.std.specs.Prelude.{slice_index_or}
use Rattle.qpu_tool.proofs.DifferLemmas.{behind_most, same_on, other_at, ends_both, ends_one}
use Rattle.qpu_tool.proofs.comparing.differing_line.Goals as goal

pub returns-then-text-at : goal.returns-then-text-at
returns-then-text-at c =
    let below = c.loop-at-test.true in
    let least = c.min-at-end.ensures in
    sym (other_at c.loop-at.line c.args.text.now c.args.other.now c.loop-at.at (omega (arith, below, least)) (omega (arith, below, least)) c.if-text-at.true)
    ∙ c.loop-at.invariant.1

pub loop-at-preserved : goal.loop-at-preserved
loop-at-preserved c =
    let below = c.loop-at-test.true in
    let least = c.min-at-end.ensures in
    let line = c.line_behind-line.ensures in (
      omega (arith, line, behind_most c.loop-at.line (slice_index_or c.args.text.now c.loop-at.at 0), c.loop-at.invariant.0),
      rw line
          (same_on c.loop-at.line c.args.text.now c.args.other.now c.loop-at.at (omega (arith, below, least)) (omega (arith, below, least)) c.if-text-at.false
          ∙ c.loop-at.invariant.1),
    )

pub returns-then-text-other : goal.returns-then-text-other
returns-then-text-other c =
    sym (ends_both c.loop-at.line c.args.text.now c.args.other.now c.loop-at.at (omega (arith, c.min-at-end.ensures, c.loop-at-test.false)) c.if-text-other.true)
    ∙ c.loop-at.invariant.1

pub returns : goal.returns
returns c =
    sym (ends_one c.loop-at.line c.args.text.now c.args.other.now c.loop-at.at (omega (arith, c.min-at-end.ensures, c.loop-at-test.false, c.loop-at.auto.at-end)) c.if-text-other.false)
    ∙ c.loop-at.invariant.1
