-- One more program has its code, or none.
use Rattle.std.proofs.Common.{arith}
use Rattle.std.proofs.lemmas.Result.{err_from_is_err_and}
use Rattle.std.proofs.lemmas.List.Elements.{All-nil}
use Rattle.qpu_job.specs.Opening.{IsShort}
use Rattle.qpu_job.specs.Programs.{no_program}
use Rattle.qpu_job.proofs.CodeLemmas.{codes_more, short_more, codes_fail, program_at, all_built}
use Rattle.qpu_job.proofs.code.read_codes.Goals as goal

pub loop-program-init : goal.loop-program-init
loop-program-init c = rw c.new-codes.ensures.items (record { built = no_program; short = All-nil IsShort })

pub read_code-requires : goal.read_code-requires
read_code-requires c =
    program_at c.args.programs.now c.loop-program.program-index c.program-item.result _ c.requires (omega arith) c.program-item.is

pub returns-in_err-code-clause-err : goal.returns-in_err-code-clause-err
returns-in_err-code-clause-err c =
    let p = err_from_is_err_and c.from_residual.result c.from_residual.ensures.1 in
    rw (p.1, p.2)
    (codes_fail c.args.programs.now c.loop-program.program-index c.program-item.result _ c.loop-program.codes.items c.in_err-code.field-0.0 (omega arith) c.program-item.is
    c.loop-program.invariant.built c.in_err-code.ensures.err)

pub loop-program-preserved : goal.loop-program-preserved
loop-program-preserved c =
    rw c.in-Ok.ensures.items
    (record {
      built = codes_more c.args.programs.now c.loop-program.program-index c.program-item.result _ c.loop-program.codes.items c.in_ok-code.code (omega arith) c.program-item.is
          c.loop-program.invariant.built c.in_ok-code.ensures.ok;
      short = short_more c.loop-program.codes.items c.in_ok-code.code c.loop-program.invariant.short c.in_ok-code.ensures.short;
    })

pub returns-clause-ok : goal.returns-clause-ok
returns-clause-ok c =
    all_built c.args.programs.now c.loop-program.program-index c.loop-program.codes.items (omega arith) c.loop-program.invariant.built
