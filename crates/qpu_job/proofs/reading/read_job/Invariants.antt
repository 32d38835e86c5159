-- What is read of the text, and what is above the rest.
use Rattle.std.proofs.Common.{length}
use denote.Text.{Utf8}
use denote.Shadow.{shadow}
use Rattle.qpu_job.specs.Above.{above_of}
use Rattle.qpu_job.proofs.LoopLemmas.{IsRead}
use Rattle.qpu_job.proofs.reading.read_job.Given as goal

abbrev pub invariant-loop-rest : goal.invariant-loop-rest
invariant-loop-rest l = shadow (Utf8 l.rest) × IsRead l.text l.rest l.number (above_of l.above)

abbrev pub decreases-loop-rest : goal.decreases-loop-rest
decreases-loop-rest l = length l.rest
