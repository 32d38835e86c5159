use Rattle.std.proofs.Common.{◌≡◌, ◌-◌, length}
use Rattle.qpu_token.specs.Places.{place_at}
use Rattle.qpu_token.specs.Reading.{IsPastLarge}
use Rattle.qpu_token.proofs.reading.line_fault.Given as goal

abbrev pub invariant-loop-at : goal.invariant-loop-at
invariant-loop-at l = record { past : IsPastLarge l.text l.large l.at; place_is : l.place ≡ place_at l.text l.at }

abbrev pub decreases-loop-at : goal.decreases-loop-at
decreases-loop-at l = length l.text - l.at
