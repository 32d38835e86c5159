use Rattle.qpu_shared.proofs.MoveLemmas.{IsCarried}
use Rattle.qpu_shared.proofs.shared.Shared.carry_each.Given as goal

abbrev pub invariant-loop-j : goal.invariant-loop-j
invariant-loop-j l = IsCarried l.direction l.transfer l.initial.self l.self l.j
