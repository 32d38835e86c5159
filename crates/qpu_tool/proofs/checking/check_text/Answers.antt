-- A text is refused by its first fault, or its words are judged.
use Rattle.qpu_tool.specs.declared.answer.Answer.TheVariants.{Refused}
use Rattle.qpu_tool.specs.declared.refusal.Refusal.TheVariants.{Asm}
use Rattle.qpu_tool.specs.Checking.{CheckAnswer, misspelled}
use Rattle.qpu_tool.proofs.AsmLemmas.{fault_is}
use Rattle.qpu_tool.proofs.ResultLemmas.{is_as}
use Rattle.qpu_tool.proofs.checking.check_text.Goals as goal

pub returns-in-Err : goal.returns-in-Err
returns-in-Err c =
    is_as (CheckAnswer c.args.text.now) (Refused (Asm c.in-Err.fault)) c.misspelled.result
    (λ none. misspelled c.in-Err.fault (fault_is c.args.text.now c.in-Err.fault c.in-Err.ensures.err none) none) c.misspelled.ensures
