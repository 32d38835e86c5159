-- Words are fewer than a row's.
use Rattle.std.specs.Prelude.{string_bytes}
use Rattle.qpu_tool.proofs.ShapeLemmas.{too_few}
use Rattle.qpu_tool.proofs.words.+are.Goals as goal

pub returns-in-len1-up-row : goal.returns-in-len1-up-row
returns-in-len1-up-row m c =
    too_few (λ word. word.now) string_bytes c.args.row.now c.args.words.now c.in-empty.len_below c.in-len1-up-row.len_at_least
