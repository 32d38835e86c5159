use Rattle.std.proofs.Common.{Ok, Err, refl}
use Rattle.std.proofs.lemmas.Result.{err_from_is_err_and}
use Rattle.qpu_replay.specs.declared.fault.ReplayFault.TheVariants.{NotFinished}
use Rattle.qpu_replay.specs.declared.fault.WidenFault.TheVariants.{Replay}
use Rattle.qpu_replay.proofs.WidenLemmas.{says_same, opens_spelled, widened_ends, widened_moves, widened_fails}
use Rattle.qpu_replay.proofs.widening.widen.Goals as goal

pub widen_all-requires-clause-spelled : goal.widen_all-requires-clause-spelled
widen_all-requires-clause-spelled g c = opens_spelled c.args.machine.now c.in_ok-copy.copy c.new-wide.result c.keeps.ensures c.in_ok-copy.ensures c.new-wide.ensures

pub returns-in_err-widen_all-clause-alone : goal.returns-in_err-widen_all-clause-alone
returns-in_err-widen_all-clause-alone g c =
    let p = err_from_is_err_and c.from_residual-in_err-widen_all.result c.from_residual-in_err-widen_all.ensures.1 in
    let fault = c.in_err-widen_all.field-0.0 in
    rw (p.1, p.2) (λ answer other. says_same answer (Err fault) c.args.machine.now.state (g.R.Runs.left c.args.runs) other
    (widened_fails fault c.args.machine.now c.in_ok-copy.copy (g.R.Runs.left c.args.runs) (g.R.Runs.left c.args.runs) c.in_ok-copy.ensures refl c.in_err-widen_all.ensures.err))

pub returns-in-Some-clause-alone : goal.returns-in-Some-clause-alone
returns-in-Some-clause-alone g c =
    λ answer other. says_same answer (Ok c.widen_all.new.wide) c.args.machine.now.state (g.R.Runs.left c.args.runs) other
    (widened_ends c.args.machine.now c.in_ok-copy.copy c.widen_all.new.machine (g.R.Runs.left c.args.runs) (g.R.Runs.left c.args.runs) c.new-wide.result c.widen_all.new.wide c.in_ok-copy.ensures refl c.new-wide.ensures
    c.in_ok-widen_all.ensures.ok c.in-Some.ensures.still)

pub returns-clause-alone : goal.returns-clause-alone
returns-clause-alone g c =
    λ answer other. says_same answer (Err (Replay NotFinished)) c.args.machine.now.state (g.R.Runs.left c.args.runs) other
    (widened_moves c.args.machine.now c.in_ok-copy.copy c.widen_all.new.machine (g.R.Runs.left c.args.runs) (g.R.Runs.left c.args.runs) c.new-wide.result c.widen_all.new.wide c.in_ok-copy.ensures refl c.new-wide.ensures
    c.in_ok-widen_all.ensures.ok c.in-None.ensures.moves)
