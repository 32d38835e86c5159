-- Each line is the end, an item or a fault.
use Rattle.std.proofs.Common.{rules, sym, ◌∙◌, [], arith}
use Rattle.std.proofs.lemmas.Result.{err_from_is_err_and}
use Rattle.qpu_text.specs.Lines.{cut_of}
use Rattle.qpu_record.proofs.ReadLemmas.{put, read_nothing, read_ends, read_fails, read_open, read_more}
use Rattle.qpu_record.proofs.reading.end_of_items.Goals as goal

pub loop-line-init : goal.loop-line-init
loop-line-init c = record {
  utf8 = search rules;
  above = ([], read_nothing c.args.first c.args.text.now c.requires);
  shorter = omega arith;
}

pub returns-then-is_end-clause-is : goal.returns-then-is_end-clause-is
returns-then-is_end-clause-is c =
    let above = c.loop-line.invariant.above in (
      above.0,
      read_ends c.loop-line.number above.0 c.loop-line.rest.now (cut_of c.first_line-line.result)
          above.1 c.first_line-line.ensures.cut (sym c.is_end.ensures ∙ c.if-is_end.true),
    )

pub returns-in_err-item_at-clause-is : goal.returns-in_err-item_at-clause-is
returns-in_err-item_at-clause-is c =
    let p = err_from_is_err_and c.from_residual.result c.from_residual.ensures.1 in
    let above = c.loop-line.invariant.above in
    rw (p.1, p.2)
    (read_fails c.loop-line.number above.0 c.loop-line.rest.now (cut_of c.first_line-line.result) c.in_err-item_at.field-0.0
    above.1 c.first_line-line.ensures.cut (sym c.is_end.ensures ∙ c.if-is_end.false) (sym c.in_err-item_at.ensures.is))

pub returns-then-not-line-clause-is : goal.returns-then-not-line-clause-is
returns-then-not-line-clause-is c =
    let above = c.loop-line.invariant.above in
    read_open c.loop-line.number above.0 c.loop-line.rest.now (cut_of c.first_line-line.result) c.in_ok-item_at.field-0
    above.1 c.first_line-line.ensures.cut (sym c.is_end.ensures ∙ c.if-is_end.false) (sym c.in_ok-item_at.ensures.is) c.if-not-line.true

pub loop-line-preserved : goal.loop-line-preserved
loop-line-preserved c =
    let above = c.loop-line.invariant.above in
    let parts = c.first_line-line.ensures.parts c.if-not-line.false in
    let shorter = c.loop-line.invariant.shorter in
    record {
      utf8 = search rules;
      above = (
        put above.0 c.in_ok-item_at.field-0,
        read_more c.loop-line.number above.0 c.loop-line.rest.now (cut_of c.first_line-line.result) c.in_ok-item_at.field-0
            above.1 c.first_line-line.ensures.cut (sym c.is_end.ensures ∙ c.if-is_end.false) (sym c.in_ok-item_at.ensures.is) c.if-not-line.false
            parts c.in_ok-item_at.ensures.few,
      );
      shorter = omega (arith, shorter, parts);
    }
