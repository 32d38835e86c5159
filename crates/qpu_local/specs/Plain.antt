-- What a plain word makes of its processor, operand by operand. This project's own.
use Rattle.std.specs.Prelude.{ℕ, List, Option}
use Rattle.qpu_word.specs.declared.state.Flags.{Flags}
use Rattle.qpu_word.specs.Lanes.{lanes}
use Rattle.qpu_word.specs.Instruction.{add_lane, mul_lane, carry_mask, rest_later, place_later, halt_later, moved_on}
use Rattle.qpu_word.specs.Processor.{ProcessorState}
use Rattle.qpu_decoded.specs.Sources.{given}
use Rattle.qpu_decoded.specs.Targets.{put_to}
use Rattle.qpu_decoded.specs.Units.{flags_by}
use Rattle.qpu_decoded.specs.declared.units.Units.{Units}

-- the add unit's results
unfoldable pub add_of : ProcessorState → Units → List ℕ
add_of p u = lanes (λ i. add_lane u.add (given p u.add_a i) (given p u.add_b i))

-- its carries
unfoldable pub carries_of : ProcessorState → Units → Option ℕ
carries_of p u = carry_mask u.add (given p u.add_a) (given p u.add_b)

-- the mul unit's results
unfoldable pub mul_of : ProcessorState → Units → List ℕ
mul_of p u = lanes (λ i. mul_lane u.mul (given p u.mul_a i) (given p u.mul_b i))

-- the flags after both
unfoldable pub flags_left : ProcessorState → Units → Flags
flags_left p u = flags_by u.sets p.flags (add_of p u) (carries_of p u) (mul_of p u)

-- the processor after the word: both results go to their targets, and control goes on
unfoldable pub plainly_done : Units → ProcessorState → ProcessorState
plainly_done u p =
    moved_on (flags_left p u) (place_later p.rest p.place) (rest_later p.rest) p.book 0 (halt_later p.rest)
    (put_to u.mul_to (mul_of p u) (put_to u.add_to (add_of p u) p))
