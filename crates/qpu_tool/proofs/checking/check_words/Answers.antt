-- Words are refused by the checker, or accepted.
use Rattle.std.proofs.Common.{ℕ, None, ap, sym, subst, ◌∙◌}
use Rattle.std.specs.Prelude.{codes}
use Rattle.qpu_word.specs.Words.{numbers_of}
use Rattle.qpu_flow.proofs.CodeLemmas.{length_numbers}
use Rattle.qpu_tool.specs.declared.answer.Answer.TheVariants.{Counted, Refused}
use Rattle.qpu_tool.specs.declared.refusal.Refusal.TheVariants.{Hazard}
use Rattle.qpu_tool.specs.Counted.{Count}
use Rattle.qpu_tool.specs.Checking.{CheckAnswer, hazardous, accepted}
use Rattle.qpu_tool.proofs.ResultLemmas.{is_as}
use Rattle.qpu_tool.proofs.checking.check_words.Goals as goal

pub returns-in-Ok : goal.returns-in-Ok
unfolding numbers_of
returns-in-Ok c =
    subst (λ (n : Count). CheckAnswer c.args.text.now (Counted n))
    (sym (c.new.ensures ∙ ap (λ (k : ℕ). record { said = codes "accepted"; words = k }) (sym (length_numbers c.args.words.now))))
    (accepted (numbers_of c.args.words.now) c.requires.are c.in-Ok.ensures.inside c.in-Ok.ensures.clean)

pub returns-in-Err : goal.returns-in-Err
unfolding numbers_of
returns-in-Err c =
    is_as (CheckAnswer c.args.text.now) (Refused (Hazard None c.in-Err.fault)) c.hazardous.result
    (λ some. hazardous (numbers_of c.args.words.now) c.in-Err.fault c.requires.are c.in-Err.ensures.first some) c.hazardous.ensures
