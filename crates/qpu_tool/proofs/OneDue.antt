-- Of one command and one input one answer at most is due.
use Rattle.std.proofs.Common.{◌≡◌, ◌<◌, ℕ, List, length, Result, Ok, Err, IfOk, refl, ap, subst, arith}
use Rattle.std.specs.Prelude.{position}
use Rattle.qpu_tool.specs.declared.words.Command.{Command}
use Rattle.qpu_tool.specs.declared.words.Command.TheVariants.{Run, Assemble, Disassemble, Check, Replay}
use Rattle.qpu_tool.specs.declared.answer.Answer.{Answer}
use Rattle.qpu_tool.specs.declared.answer.Answer.TheVariants.{Refused}
use Rattle.qpu_tool.specs.declared.refusal.Refusal.TheVariants.{NotAscii}
use Rattle.qpu_tool.specs.Ascii.{is_high, IsAscii}
use Rattle.qpu_tool.specs.Answer.{status_of}
use Rattle.qpu_tool.specs.Commands.{IsCommand, command_of, limit_of, HasChoice}
use Rattle.qpu_tool.specs.Answers.{AnswerBy, AnswerTo, high, low, AnswerOf, no_command, past_limit, to_bytes}
use Rattle.qpu_tool.specs.Causes.{IsOfText}
use Rattle.qpu_tool.proofs.ResultLemmas.{one_some, not_some}
use Rattle.qpu_tool.proofs.Soundness.{Sound}
use Rattle.qpu_tool.proofs.AsmLemmas.{sound_asm}
use Rattle.qpu_tool.proofs.DisLemmas.{sound_dis}
use Rattle.qpu_tool.proofs.CheckLemmas.{sound_check}
use Rattle.qpu_tool.proofs.RunLemmas.{sound_run}
use Rattle.qpu_tool.proofs.ReplayLemmas.{sound_record}

sound : (command : Command) → Sound (λ text answer. AnswerBy command text answer)
sound Run = sound_run
sound Assemble = sound_asm
sound Disassemble = sound_dis
sound Check = sound_check
sound Replay = sound_record

pub of_text : (command : Command) (text : List ℕ) (answer : Answer) → AnswerTo command text answer → IsOfText (status_of answer)
of_text command text answer (high at is) = tt
of_text command text answer (low _ none due) = (sound command).of_text text answer due

pub all_low : {E : Type 0} (command : Command) (text : List ℕ) (r : Result Answer E) → IsAscii text → IfOk r (λ answer. AnswerBy command text answer)
    → IfOk r (λ answer. AnswerTo command text answer)
all_low {E} command text (Ok answer) ascii due = low answer ascii due
all_low {E} command text (Err e) ascii due = tt

one_to : (command : Command) (text : List ℕ) (a b : Answer) → AnswerTo command text a → AnswerTo command text b → a ≡ b
one_to command text a b (high i is) (high j is') = ap (λ (n : ℕ). Refused (NotAscii n)) (one_some (position is_high text) i j is is')
one_to command text a b (high i is) (low _ none due) = absurd (not_some (position is_high text) i is none)
one_to command text a b (low _ none due) (high i is) = absurd (not_some (position is_high text) i is none)
one_to command text a b (low _ none due) (low _ none' due') = (sound command).one text a b due due'

pub one_due : (command : Command) (text : List ℕ) (a b : Answer) → (HasChoice command → ⊥) → AnswerTo command text a → AnswerTo command text b → a ≡ b
one_due command text a b _ due due' = one_to command text a b due due'

pub one_command : (words : List (List ℕ)) (command other : Command) → IsCommand words command → IsCommand words other → command ≡ other
one_command words command other is too = one_some (command_of words) command other is too

pub one_answer : (words : List (List ℕ)) (bytes : List ℕ) (a b : Answer) → AnswerOf words bytes a → AnswerOf words bytes b → a ≡ b
one_answer words bytes a b (no_command none) (no_command none') = refl
one_answer words bytes a b (no_command none) (past_limit command is long) = absurd (not_some (command_of words) command is none)
one_answer words bytes a b (no_command none) (to_bytes command _ is short due) = absurd (not_some (command_of words) command is none)
one_answer words bytes a b (past_limit command is long) (no_command none) = absurd (not_some (command_of words) command is none)
one_answer words bytes a b (past_limit command is long) (past_limit other is' long') = refl
one_answer words bytes a b (past_limit command is long) (to_bytes other _ is' short due) =
    let there = subst (λ (k : Command). limit_of k < length bytes) (one_command words command other is is') long in
    absurd (omega (arith, there, short))
one_answer words bytes a b (to_bytes command _ is short due) (no_command none) = absurd (not_some (command_of words) command is none)
one_answer words bytes a b (to_bytes command _ is short due) (past_limit other is' long) =
    let there = subst (λ (k : Command). limit_of k < length bytes) (one_command words other command is' is) long in
    absurd (omega (arith, there, short))
one_answer words bytes a b (to_bytes command _ is short due) (to_bytes other _ is' short' due') =
    one_to other bytes a b (subst (λ (k : Command). AnswerTo k bytes a) (one_command words command other is is') due) due'
