use Rattle.std.proofs.Common.{arith}
use Rattle.qpu_expr.proofs.LongLemmas.{long_first, long_closes}
use Rattle.qpu_expr.proofs.judge.long_close.Goals as goal

pub long_fault-requires : goal.long_fault-requires
long_fault-requires c = long_first c.args.line.now c.in_ok-first.first 1048577 c.in_ok-first.ensures (omega arith) c.requires

pub returns : goal.returns
returns c = long_closes c.args.text.now c.args.line.now c.in_ok-first.first c.args.state.now 1048577 c.long_fault.result c.in_ok-first.ensures (omega arith) c.requires c.long_fault.ensures
