use Rattle.std.proofs.Common.{◌≡◌, take}
use Rattle.std.specs.Prelude.{map}
use Rattle.qpu_asm.specs.Placed.{placed_token}
use Rattle.qpu_asm.proofs.assembly.all_placed.Given as goal

abbrev pub invariant-loop-token : goal.invariant-loop-token
invariant-loop-token l = l.all.items ≡ map (placed_token l.text l.labels) (take l.token-index l.line)
