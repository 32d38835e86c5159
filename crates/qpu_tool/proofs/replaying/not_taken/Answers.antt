-- A schedule that isn't a complete permitted one is refused.
use Rattle.qpu_tool.proofs.ReplayLemmas.{not_replayed}
use Rattle.qpu_tool.proofs.replaying.not_taken.Goals as goal

pub returns-in-Replay : goal.returns-in-Replay
returns-in-Replay c = λ text parts m opens fails. not_replayed text parts m c.in-Replay.fault opens (rw c.in-Replay.is at fails)
