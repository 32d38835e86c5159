-- A text is refused by its first fault, or its words are due.
use Rattle.qpu_word.specs.Words.{numbers_of}
use Rattle.qpu_tool.specs.declared.answer.Answer.TheVariants.{Refused}
use Rattle.qpu_tool.specs.declared.refusal.Refusal.TheVariants.{Asm}
use Rattle.qpu_tool.specs.Assembling.{AsmAnswer, refused, assembled}
use Rattle.qpu_tool.proofs.AsmLemmas.{fault_is}
use Rattle.qpu_tool.proofs.ResultLemmas.{is_as}
use Rattle.qpu_tool.proofs.assembling.assemble_text.Goals as goal

pub returns-in-Ok : goal.returns-in-Ok
unfolding numbers_of
returns-in-Ok c = rw c.new.ensures (assembled (numbers_of c.in-Ok.words.items) c.in-Ok.ensures.ok)

pub returns-in-Err : goal.returns-in-Err
returns-in-Err c =
    is_as (AsmAnswer c.args.text.now) (Refused (Asm c.in-Err.fault)) c.misspelled.result
    (λ none. refused c.in-Err.fault (fault_is c.args.text.now c.in-Err.fault c.in-Err.ensures.err none) none) c.misspelled.ensures
