use Rattle.std.proofs.Common.{ap, ◌∙◌, ◌%◌, ◌-◌, ◌++◌, take, drop}
use Rattle.std.specs.Prelude.{List, ℕ}
use Rattle.byteorder.specs.Endian.{little_bytes, little_number}
use borrow.Rule.Slice.PartMut.{put_mid}
use Rattle.qpu_bytes.proofs.ByteLemmas.{half_put}
use Rattle.qpu_bytes.proofs.part.with_half.Goals as goal

pub returns : goal.returns
returns c =
    c.read_u32.ensures
    ∙ (ap (λ (piece : List ℕ). little_number 4 (put_mid c.args.low (4 - c.args.low) c.write_u32.new.buf piece)) c.write_u16.ensures
    ∙ (ap (λ (bytes : List ℕ). little_number 4 (put_mid c.args.low (4 - c.args.low) bytes (little_bytes 2 (c.args.value % 65536) ++ drop 2 (take (4 - c.args.low) (drop c.args.low bytes))))) c.write_u32.ensures
    ∙ half_put c.args.word c.args.low c.args.value c.ranges.word.fits c.requires.low c.requires.whole))
