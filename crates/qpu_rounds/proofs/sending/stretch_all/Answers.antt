use Rattle.std.proofs.Common.{None, sym, subst}
use Rattle.std.specs.Prelude.{slice_index_or}
use Rattle.qpu_rounds.specs.Away.{IsReadyAt, HasRunAt}
use Rattle.qpu_rounds.proofs.AwayLemmas.{ready_sent, back_sent}
use Rattle.qpu_rounds.proofs.sending.stretch_all.Goals as goal

pub run_all-requires-clause-ready : goal.run_all-requires-clause-ready
run_all-requires-clause-ready g c = λ lifetimes lives k.
    subst (λ programs. IsReadyAt programs (slice_index_or c.send_all.new.away k None)) (sym c.programs.ensures)
    (ready_sent c.args.machine.now.state k (slice_index_or c.send_all.new.away k None) c.keeps.ensures (c.send_all.ensures k))

pub returns : goal.returns
returns g c = λ q low.
    let before = slice_index_or c.send_all.new.away q None in
    let after = slice_index_or c.run_all.new.away q None in
    back_sent c.args.machine.now.state q before after (c.send_all.ensures q)
    (subst (λ limit. HasRunAt c.args.machine.now.state.programs limit before after) c.limit.ensures
    (subst (λ programs. HasRunAt programs c.limit.result before after) c.programs.ensures (c.run_all.ensures q)))
