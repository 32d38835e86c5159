use Rattle.std.proofs.Common.{ap, ◌∙◌, take, drop, ◌-◌}
use Rattle.std.specs.Prelude.{List, ℕ}
use Rattle.byteorder.specs.Endian.{little_number}
use Rattle.qpu_bytes.proofs.ByteLemmas.{half_read}
use Rattle.qpu_bytes.proofs.part.half_of.Goals as goal

pub returns : goal.returns
returns c =
    c.from.ensures
    ∙ (c.read_u16.ensures
    ∙ (ap (λ (bytes : List ℕ). little_number 2 (take (4 - c.args.low) (drop c.args.low bytes))) c.write_u32.ensures
    ∙ half_read c.args.word c.args.low c.requires.low c.requires.whole))
