-- A byte that is no ASCII is told before all else.
use Rattle.std.proofs.Common.{sym, ◌∙◌}
use Rattle.qpu_tool.specs.Answers.{high}
use Rattle.qpu_tool.proofs.OneDue.{all_low}
use Rattle.qpu_tool.proofs.answering.answer.Goals as goal

pub returns-in-Some : goal.returns-in-Some
returns-in-Some c = high c.in-Some.at (sym c.first_high.ensures ∙ c.in-Some.is)

pub returns-in-None : goal.returns-in-None
returns-in-None c =
    all_low c.args.command c.args.bytes.now c.answer.result (sym c.first_high.ensures ∙ c.in-None.is) (rw c.text_of.ensures at c.answer.ensures)
