use Rattle.std.proofs.Common.{List, Ok, Err, subst}
use Rattle.std.proofs.lemmas.Result.{err_from_is_err_and}
use Rattle.qpu_machine.specs.declared.journal.Run.{Run}
use Rattle.qpu_machine.specs.Journal.{steps_of}
use Rattle.qpu_machine.specs.Schedule.{After}
use Rattle.qpu_machine.proofs.RunLaw.{run_of}
use Rattle.qpu_machine.proofs.ScheduleLemmas.{sound_along}
use Rattle.qpu_machine.proofs.AtRestLaw.{final_rests, runs_out}
use Rattle.qpu_machine.proofs.OpeningLaw.{run_from_opening}
use Rattle.qpu_replay.specs.declared.fault.ReplayFault.TheVariants.{NotFinished}
use Rattle.qpu_replay.specs.Replay.{IsFault}
use Rattle.qpu_replay.proofs.AnswerLemmas.{one_answer, fault_taken}
use Rattle.qpu_replay.proofs.replaying.replay.Goals as goal

pub returns-in_err-take_all-clause-alone : goal.returns-in_err-take_all-clause-alone
returns-in_err-take_all-clause-alone g c =
    let p = err_from_is_err_and c.from_residual.result c.from_residual.ensures.1 in
    let fault = c.in_err-take_all.field-0.0 in
    let says = c.in_err-take_all.ensures.err in
    rw (p.1, p.2) (λ answer m other. one_answer answer (Err fault) c.args.machine.now.state m c.take_all.new.machine.state (g.R.Runs.left c.args.runs) other says)

pub returns-in-Some-clause-alone : goal.returns-in-Some-clause-alone
returns-in-Some-clause-alone g c =
    let after = c.in_ok-take_all.ensures.ok in
    λ answer m other.
    one_answer answer (Ok c.in-Some.ending) c.args.machine.now.state m c.take_all.new.machine.state (g.R.Runs.left c.args.runs) other
    (record { after = after; final = c.in-Some.ensures.still }, c.in-Some.ensures.ending)

pub returns-in-Some-clause-run : goal.returns-in-Some-clause-run
returns-in-Some-clause-run g c = run_of c.keeps.ensures c.in_ok-take_all.ensures.ok

pub returns-in-Some-clause-opening : goal.returns-in-Some-clause-opening
returns-in-Some-clause-opening g c = run_from_opening {n = c.take_all.new.machine.state} c.in_ok-take_all.ensures.ok

pub returns-in-Some-clause-rests : goal.returns-in-Some-clause-rests
returns-in-Some-clause-rests g c = final_rests c.take_all.new.machine.state (sound_along c.keeps.ensures c.in_ok-take_all.ensures.ok) c.in-Some.ensures.still

pub returns-in-Some-clause-ran_out : goal.returns-in-Some-clause-ran_out
returns-in-Some-clause-ran_out g c = runs_out c.take_all.new.machine.state (sound_along c.keeps.ensures c.in_ok-take_all.ensures.ok)

pub returns-clause-run : goal.returns-clause-run
returns-clause-run g c = run_of c.keeps.ensures c.in_ok-take_all.ensures.ok

pub returns-clause-opening : goal.returns-clause-opening
returns-clause-opening g c = run_from_opening {n = c.take_all.new.machine.state} c.in_ok-take_all.ensures.ok

pub returns-in_err-take_all-clause-run : goal.returns-in_err-take_all-clause-run
returns-in_err-take_all-clause-run g c =
    let p = err_from_is_err_and c.from_residual.result c.from_residual.ensures.1 in
    let fault = c.in_err-take_all.field-0.0 in
    let says = c.in_err-take_all.ensures.err in
    rw (p.1, p.2) (run_of c.keeps.ensures (fault_taken fault c.args.machine.now.state c.take_all.new.machine.state (g.R.Runs.left c.args.runs) says))

pub returns-in_err-take_all-clause-opening : goal.returns-in_err-take_all-clause-opening
returns-in_err-take_all-clause-opening g c =
    let p = err_from_is_err_and c.from_residual.result c.from_residual.ensures.1 in
    let fault = c.in_err-take_all.field-0.0 in
    let says = c.in_err-take_all.ensures.err in
    rw (p.1, p.2) (run_from_opening (fault_taken fault c.args.machine.now.state c.take_all.new.machine.state (g.R.Runs.left c.args.runs) says))

pub returns-clause-alone : goal.returns-clause-alone
returns-clause-alone g c =
    let after = c.in_ok-take_all.ensures.ok in
    let moves = c.in-None.ensures.moves in
    λ answer m other.
    one_answer answer (Err NotFinished) c.args.machine.now.state m c.take_all.new.machine.state (g.R.Runs.left c.args.runs) other
    (record { after = after; actor = moves.0; moves = moves.1 })
