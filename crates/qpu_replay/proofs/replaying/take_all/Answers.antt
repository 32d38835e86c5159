-- Each run that is given is the next of all.
use Rattle.std.proofs.Common.{◌+◌, refl, sym, subst, ◌∙◌, arith, List, replicate}
use Rattle.qpu_machine.specs.declared.journal.Run.{Run}
use Rattle.qpu_machine.specs.Journal.{steps_of}
use Rattle.qpu_machine.specs.Schedule.{After, here}
use Rattle.qpu_replay.specs.Replay.{StopsIn}
use Rattle.qpu_replay.proofs.LeftLemmas.{next_run, all_given}
use Rattle.qpu_replay.proofs.RunLemmas.{run_more, afters_join, stops_at}
use Rattle.qpu_replay.proofs.replaying.take_all.Goals as goal

pub loop-run-init : goal.loop-run-init
loop-run-init g c = record { within = omega arith; left = refl; after = here; starts = refl }

pub returns-in-Some-take_run-clause-err : goal.returns-in-Some-take_run-clause-err
returns-in-Some-take_run-clause-err g c =
    let all = g.R.Runs.left c.args.runs.now in
    let n = next_run all c.loop-run.item c.in-Some.run' _ (sym c.loop-run.invariant.left ∙ c.in-Some.ensures.some) in
    let stops = subst (λ (run : Run). StopsIn After c.in-Some-take_run.step run c.loop-run.machine.state c.take_run.new.machine.state) n.is c.in-Some-take_run.ensures.stops in
    stops_at After afters_join all c.loop-run.item c.in-Some-take_run.step c.in-Some.run' n.low c.loop-run.invariant.after stops

pub loop-run-preserved : goal.loop-run-preserved
loop-run-preserved g c =
    let all = g.R.Runs.left c.args.runs.now in
    let n = next_run all c.loop-run.item c.in-Some.run' _ (sym c.loop-run.invariant.left ∙ c.in-Some.ensures.some) in
    let after = subst (λ (run : Run). After c.loop-run.machine.state (replicate run.count run.actor) c.take_run.new.machine.state) n.is (c.in_default-take_run.ensures.all refl) in
    record {
      within = omega (arith, n.low);
      left = n.left;
      after = run_more all c.loop-run.item c.in-Some.run' n.low c.loop-run.invariant.after after;
      starts = c.in_default-take_run.ensures.starts ∙ c.loop-run.invariant.starts;
    }

pub returns-clause-ok : goal.returns-clause-ok
returns-clause-ok g c =
    let none = sym c.loop-run.invariant.left ∙ c.in_default.ensures.none refl in
    subst (λ (runs : List Run). After c.args.machine.now.state (steps_of runs) c.loop-run.machine.state)
    (all_given (g.R.Runs.left c.args.runs.now) c.loop-run.item c.loop-run.invariant.within none) c.loop-run.invariant.after
