use Rattle.std.proofs.Common.{◌-◌, ◌^◌}
use Rattle.qpu_word.proofs.VectorLemmas.{holds_itself, holds_map, holds_lanes}
use Rattle.qpu_alu.proofs.vectors.opposite.Goals as goal

pub returns : goal.returns
returns c = holds_lanes (holds_map (λ x. 2 ^ 32 - 1 - x) (holds_itself {n = 16} {xs = c.args.a} c.fits-a.0))
