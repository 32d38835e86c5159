use Rattle.std.proofs.Common.{ap, ◌∙◌, ◌%◌}
use Rattle.std.specs.Prelude.{List, ℕ, slice_set}
use Rattle.byteorder.specs.Endian.{little_number}
use Rattle.qpu_bytes.proofs.ByteLemmas.{byte_put}
use Rattle.qpu_bytes.proofs.part.with_byte.Goals as goal

pub returns : goal.returns
returns c =
    c.read_u32.ensures
    ∙ (ap (λ (bytes : List ℕ). little_number 4 (slice_set bytes c.args.low (c.args.value % 256))) c.write_u32.ensures
    ∙ byte_put c.args.word c.args.low c.args.value c.ranges.word.fits c.requires)
