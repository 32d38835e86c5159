-- A job that ends with a line feed is cut behind a character.
use Rattle.std.proofs.Common.{sym, ◌∙◌}
use Rattle.qpu_record.proofs.LineLemmas.{end_boundary}
use Rattle.qpu_record.proofs.heading.job_part.Goals as goal

pub split_at-requires : goal.split_at-requires
split_at-requires c =
    end_boundary c.args.text.now c.args.size c.utf8.text c.requires.fits
    (rw c.as_bytes-bytes.ensures.value at (sym c.ends_line.ensures ∙ c.if-ends_line.true))
