use Rattle.qpu_machine.specs.Serial.{turned}
use Rattle.qpu_machine.proofs.SerialLemmas.{gained_then, ok_then, err_then, stretch_after, after_then}
use Rattle.qpu_machine.proofs.machine.Machine.turn.Goals as goal

pub returns-clause-ok : goal.returns-clause-ok
returns-clause-ok c =
    ok_then c.run_tries.result _ _ c.run_tries.ensures.ok
    (λ gained. gained_then c.args.journal.now c.run_local.new.journal c.run_tries.new.journal _ _ _ c.in_ok-run_local.ensures.ok gained (λ s t stretch tries. turned stretch tries))

pub returns-clause-err : goal.returns-clause-err
returns-clause-err c =
    err_then c.run_tries.result _ _ c.run_tries.ensures.err
    (λ gained. gained_then c.args.journal.now c.run_local.new.journal c.run_tries.new.journal _ _ _ c.in_ok-run_local.ensures.ok gained
    (λ s t stretch after. after_then (stretch_after stretch) after))
