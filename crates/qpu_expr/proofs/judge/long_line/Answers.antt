use Rattle.std.proofs.Common.{◌≡◌, Some, subst, arith}
use Rattle.qpu_expr.specs.declared.told.Told.{Told}
use Rattle.qpu_expr.specs.Lines.{label_of}
use Rattle.qpu_expr.specs.Stage.{too_long, label_twice}
use Rattle.qpu_expr.specs.Deeds.{least_fault}
use Rattle.qpu_expr.proofs.LongLemmas.{long_first, long_stops}
use Rattle.qpu_expr.proofs.judge.long_line.Goals as goal

pub long_fault-requires : goal.long_fault-requires
long_fault-requires c = long_first c.args.line.now c.in_ok-first.first 1048577 c.in_ok-first.ensures (omega arith) c.requires

pub returns : goal.returns
returns c = λ behind.
    long_stops c.args.text.now c.args.deepest c.args.line.now c.in_ok-first.first behind c.args.state.now 1048577 c.long_fault.result c.in_ok-first.ensures (omega arith) c.requires
    (subst (λ (t : Told). least_fault (label_twice c.args.text.now c.args.state.now.labels (label_of c.args.text.now c.in_ok-first.first.tokens)) (too_long c.args.state.now c.in_ok-first.first t.word) t.findings ≡ Some c.long_fault.result) c.in_ok-told.ensures c.long_fault.ensures)
