-- What is due is given, or memory is wanting.
use Rattle.std.proofs.Common.{Err, ap, refl, sym, ◌∙◌}
use Rattle.qpu_tool.specs.declared.answer.Answer.TheVariants.{Refused}
use Rattle.qpu_tool.specs.declared.refusal.Refusal.TheVariants.{Usage, ReadFault, TooLong}
use Rattle.qpu_tool.specs.Answers.{given, wrong_words, broken, past, whole, out_of_memory}
use Rattle.qpu_tool.proofs.command.carried_out.Goals as goal

pub returns-in-None : goal.returns-in-None
returns-in-None g c = given (Refused Usage) (wrong_words (sym c.command_of.ensures ∙ c.in-None.is) refl) c.give.ensures

pub returns-in-Ok-answer : goal.returns-in-Ok-answer
returns-in-Ok-answer g c =
    given c.in-Ok-answer.answer
    (whole c.in-Some.command _ c.in-Ok-answer.answer (sym c.command_of.ensures ∙ c.in-Some.is) (rw c.limit.ensures.is at c.in-Ok.ensures.whole)
    (rw c.deref.ensures.value at c.in-Ok-answer.ensures))
    c.give-in-Ok-answer.ensures

pub returns-in-Ok : goal.returns-in-Ok
returns-in-Ok g c =
    let read = rw c.limit.ensures.is at c.in-Ok.ensures.whole in
    out_of_memory c.in-Some.command (sym c.command_of.ensures ∙ c.in-Some.is)
    (record { bytes = c.in-Ok.bytes.items; at_most = read.at_most; taken = read.taken }) refl refl

pub returns-in-Err-Source : goal.returns-in-Err-Source
returns-in-Err-Source g c =
    given (Refused ReadFault)
    (broken c.in-Some.command (sym c.command_of.ensures ∙ c.in-Some.is)
    (rw c.limit.ensures.is at (c.in-Err-Source.ensures.broken (ap Err c.in-Err-Source.field-0-is))))
    c.give-in-Err-Source.ensures

pub returns-in-Err-TooLong : goal.returns-in-Err-TooLong
returns-in-Err-TooLong g c =
    given (Refused TooLong)
    (past c.in-Some.command (sym c.command_of.ensures ∙ c.in-Some.is)
    (rw c.limit.ensures.is at (c.in-Err-TooLong.ensures.too_long (ap Err c.in-Err-TooLong.field-0-is))))
    c.give-in-Err-TooLong.ensures

pub returns : goal.returns
returns g c =
    out_of_memory c.in-Some.command (sym c.command_of.ensures ∙ c.in-Some.is)
    (rw c.limit.ensures.is at (c.in-Err-Memory.ensures.memory (ap Err c.in-Err-Memory.field-0-is))) refl refl
