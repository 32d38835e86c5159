-- Each half has at least one worker, and both together have those of the whole.
use Rattle.std.proofs.Common.{◌+◌, ◌-◌, ◌*◌}
use Rattle.qpu_rounds.proofs.stretching.+halves.Given as goal

abbrev pub decreases-run_all : goal.decreases-run_all
decreases-run_all g l = 3 * l.workers

abbrev pub decreases-run_both : goal.decreases-run_both
decreases-run_both g l = 3 * l.few + 3 * l.many - 1

abbrev pub decreases-run_both-join_mut+arg2 : goal.decreases-run_both-join_mut+arg2
decreases-run_both-join_mut+arg2 g l = 3 * l.few + 1

abbrev pub decreases-run_both-join_mut+arg3 : goal.decreases-run_both-join_mut+arg3
decreases-run_both-join_mut+arg3 g l = 3 * l.many + 1
