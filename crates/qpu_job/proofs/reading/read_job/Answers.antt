use Rattle.std.proofs.Common.{rules, sym}
use Rattle.std.proofs.lemmas.Bool.{eqb-true}
use Rattle.std.proofs.lemmas.Result.{err_from_is_err_and}
use Rattle.qpu_job.specs.Above.{above_of}
use Rattle.qpu_job.proofs.LoopLemmas.{some_bytes, read_more, read_fails, gives_end, keeps_end, line_fault, kinds_end}
use Rattle.qpu_job.proofs.reading.read_job.Goals as goal

pub returns-clause-answer : goal.returns-clause-answer
returns-clause-answer c =
    gives_end c.args.text.now c.loop-rest.rest.now c.loop-rest.number (above_of c.loop-rest.above) c.at_end.result c.loop-rest.invariant.1 (eqb-true _ _ (sym c.loop-rest-test.ensures)) c.at_end.ensures

pub returns-clause-keeps : goal.returns-clause-keeps
returns-clause-keeps c =
    keeps_end c.args.text.now c.loop-rest.rest.now c.loop-rest.number (above_of c.loop-rest.above) c.at_end.result c.loop-rest.invariant.1 c.at_end.ensures

pub returns-clause-kinds : goal.returns-clause-kinds
returns-clause-kinds c = kinds_end c.loop-rest.number (above_of c.loop-rest.above) c.at_end.result c.at_end.ensures

pub returns-in_err-after_line-clause-answer : goal.returns-in_err-after_line-clause-answer
returns-in_err-after_line-clause-answer c =
    let p = err_from_is_err_and c.from_residual.result c.from_residual.ensures.1 in
    let some = some_bytes c.loop-rest.rest.now (sym c.loop-rest-test.ensures) in
    rw (p.1, p.2)
    (read_fails c.args.text.now c.loop-rest.rest.now c.first_line-line.result.whole.now c.first_line-line.result.rest.now c.loop-rest.number (above_of c.loop-rest.above) c.in_err-after_line.field-0.0
    c.loop-rest.invariant.1 (c.first_line-line.ensures.lines some) c.in_err-after_line.ensures)

pub returns-in_err-after_line-clause-kinds : goal.returns-in_err-after_line-clause-kinds
returns-in_err-after_line-clause-kinds c =
    let p = err_from_is_err_and c.from_residual.result c.from_residual.ensures.1 in
    rw (p.1, p.2) (line_fault c.loop-rest.number (above_of c.loop-rest.above) c.first_line-line.result.whole.now c.in_err-after_line.field-0.0 c.in_err-after_line.ensures)

pub loop-rest-preserved : goal.loop-rest-preserved
loop-rest-preserved c =
    let some = some_bytes c.loop-rest.rest.now (sym c.loop-rest-test.ensures) in (
      search rules,
      read_more c.args.text.now c.loop-rest.rest.now c.first_line-line.result.whole.now c.first_line-line.result.rest.now c.loop-rest.number (above_of c.loop-rest.above) (above_of c.after_line.new.self)
          c.loop-rest.invariant.1 (c.first_line-line.ensures.lines some) (c.first_line-line.ensures.some some) c.first_line-line.ensures.sizes c.in_ok-after_line.ensures,
    )
