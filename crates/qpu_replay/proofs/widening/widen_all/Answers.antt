-- Each run that is given is the next of all.
use Rattle.std.proofs.Common.{◌+◌, refl, sym, subst, ◌∙◌, arith, take, List, replicate}
use Rattle.std.proofs.lemmas.Result.{err_from_is_err_and}
use Rattle.qpu_machine.specs.declared.journal.Run.{Run}
use Rattle.qpu_machine.specs.Journal.{steps_of}
use Rattle.qpu_replay.specs.Widening.{FailsIn}
use Rattle.qpu_replay.proofs.LeftLemmas.{next_run, all_given}
use Rattle.qpu_replay.proofs.WidenLemmas.{Widened, nothing_yet, spelled_on, run_gained, run_fails}
use Rattle.qpu_replay.proofs.widening.widen_all.Goals as goal

pub loop-run-init : goal.loop-run-init
loop-run-init g c =
    record { within = omega arith; left = refl; gained = nothing_yet c.args.wide.now c.args.machine.now.state }

pub widen_run-requires : goal.widen_run-requires
widen_run-requires g c =
    spelled_on c.args.wide.now c.loop-run.wide c.args.machine.now.state c.loop-run.machine.state
    (steps_of (take c.loop-run.item (g.R.Runs.left c.args.runs.now))) c.requires.spelled c.loop-run.invariant.gained

pub returns-in_err-widen_run-clause-err : goal.returns-in_err-widen_run-clause-err
returns-in_err-widen_run-clause-err g c =
    let p = err_from_is_err_and c.from_residual.result c.from_residual.ensures.1 in
    let all = g.R.Runs.left c.args.runs.now in
    let fault = c.in_err-widen_run.field-0.0 in
    let n = next_run all c.loop-run.item c.in-Some.run' _ (sym c.loop-run.invariant.left ∙ c.in-Some.ensures.some) in
    let fails = subst (λ (run : Run). FailsIn fault (c.loop-run.item + 1) c.loop-run.machine.state run) n.is c.in_err-widen_run.ensures.err in
    rw (p.1, p.2)
    (run_fails fault c.args.wide.now c.loop-run.wide all c.loop-run.item (c.loop-run.item + 1) c.in-Some.run' refl n.low c.loop-run.invariant.gained fails)

pub loop-run-preserved : goal.loop-run-preserved
loop-run-preserved g c =
    let all = g.R.Runs.left c.args.runs.now in
    let n = next_run all c.loop-run.item c.in-Some.run' _ (sym c.loop-run.invariant.left ∙ c.in-Some.ensures.some) in
    let gained = subst (λ (run : Run). Widened c.loop-run.wide c.widen_run.new.wide c.loop-run.machine.state (replicate run.count run.actor) c.widen_run.new.machine.state) n.is c.in_ok-widen_run.ensures.ok in
    record {
      within = omega (arith, n.low);
      left = n.left;
      gained = run_gained c.args.wide.now c.loop-run.wide c.widen_run.new.wide all c.loop-run.item c.in-Some.run' n.low c.loop-run.invariant.gained gained;
    }

pub returns-clause-ok : goal.returns-clause-ok
returns-clause-ok g c =
    let none = sym c.loop-run.invariant.left ∙ c.in_default.ensures.none refl in
    subst (λ (runs : List Run). Widened c.args.wide.now c.loop-run.wide c.args.machine.now.state (steps_of runs) c.loop-run.machine.state)
    (all_given (g.R.Runs.left c.args.runs.now) c.loop-run.item c.loop-run.invariant.within none) c.loop-run.invariant.gained
