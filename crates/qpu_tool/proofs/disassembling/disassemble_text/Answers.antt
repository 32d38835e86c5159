-- A text is refused by its first line that is no word, or its lines are due.
use Rattle.qpu_word.specs.Words.{numbers_of}
use Rattle.qpu_tool.specs.declared.answer.Answer.TheVariants.{Refused}
use Rattle.qpu_tool.specs.declared.refusal.Refusal.TheVariants.{Asm}
use Rattle.qpu_tool.specs.Disassembling.{DisAnswer, misread, told}
use Rattle.qpu_tool.proofs.DisLemmas.{line_is}
use Rattle.qpu_tool.proofs.ResultLemmas.{is_as}
use Rattle.qpu_tool.proofs.disassembling.disassemble_text.Goals as goal

pub returns-in-Ok : goal.returns-in-Ok
returns-in-Ok c = rw c.new.ensures (told (numbers_of c.in-Ok.words.items) c.in-Ok.ensures.ok)

pub returns-in-Err : goal.returns-in-Err
returns-in-Err c =
    is_as (DisAnswer c.args.text.now) (Refused (Asm c.in-Err.fault)) c.misspelled.result
    (λ none. misread c.in-Err.fault (line_is c.args.text.now c.in-Err.fault c.in-Err.ensures.err none)) c.misspelled.ensures
