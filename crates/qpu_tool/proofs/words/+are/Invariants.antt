-- The words become fewer.
use Rattle.std.proofs.Common.{length}
use Rattle.qpu_tool.proofs.words.+are.Given as goal

abbrev pub decreases-are : goal.decreases-are
decreases-are l = length l.words.now
