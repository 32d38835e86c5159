-- A line feed is a character.
use Rattle.qpu_record.proofs.LineLemmas.{begin_boundary}
use Rattle.qpu_record.proofs.heading.behind_line_feed.Goals as goal

pub split_at-requires : goal.split_at-requires
split_at-requires c = begin_boundary c.args.text.now c.utf8.text c.requires
