use Rattle.std.proofs.Common.{◌-◌, length}
use Rattle.qpu_token.specs.Reading.{IsRead}
use Rattle.qpu_token.proofs.reading.tokens.Given as goal

abbrev pub invariant-loop-here : goal.invariant-loop-here
invariant-loop-here l = IsRead l.text l.tokens.items l.here

abbrev pub decreases-loop-here : goal.decreases-loop-here
decreases-loop-here l = length l.text - l.here.at
