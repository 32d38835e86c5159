-- The numbers before the counter are put.
use Rattle.std.proofs.Common.{◌≡◌, ◌++◌}
use Rattle.std.specs.Prelude.{flat_map, string_bytes}
use Rattle.qpu_gen.specs.Generated.{counted, spaced}
use Rattle.qpu_gen.proofs.generated.put_counted.Given as goal

abbrev pub invariant-loop-k : goal.invariant-loop-k
invariant-loop-k l = string_bytes l.text ≡ string_bytes l.fn.text ++ flat_map spaced (counted l.n l.k)
