-- What a call comes to whose input is told and which counts no fault.
use Rattle.std.proofs.Common.{◌≡◌, ◌<◌, ◌≤◌, ◌⊎◌, inl, inr, ℕ, List, [], ◌++◌, length, Some, refl, ap, sym, subst, ◌∙◌, arith}
use Rattle.std.specs.Prelude.{position}
use Rattle.qpu_io.specs.Input.{Input}
use Rattle.qpu_io.specs.Output.{Output, appended}
use Rattle.qpu_machine.specs.declared.actor.Actor.{Actor}
use Rattle.qpu_machine.specs.Machine.{MachineState}
use Rattle.qpu_record.specs.Record.{record_text}
use Rattle.qpu_report.specs.Report.{report_text}
use Rattle.qpu_tool.specs.declared.status.Status.{Status}
use Rattle.qpu_tool.specs.declared.words.Command.{Command}
use Rattle.qpu_tool.specs.declared.words.Command.TheVariants.{Run, Replay}
use Rattle.qpu_tool.specs.declared.command.TheConstants.{MOST_INPUT, MOST_RECORD}
use Rattle.qpu_tool.specs.declared.answer.Answer.{Answer}
use Rattle.qpu_tool.specs.declared.answer.Answer.TheVariants.{Report}
use Rattle.qpu_tool.specs.Ascii.{is_high, IsAscii}
use Rattle.qpu_tool.specs.Commands.{IsCommand, command_of, limit_of}
use Rattle.qpu_tool.specs.Answer.{status_of, text_of}
use Rattle.qpu_tool.specs.Opening.{OpensJob}
use Rattle.qpu_tool.specs.Running.{CanRun, RunAnswer, refused, ran}
use Rattle.qpu_tool.specs.Answers.{AnswerTo, high, low, AnswerOf, no_command, past_limit, to_bytes}
use Rattle.qpu_tool.specs.Causes.{Comes, ComesTo, IsRunOf, Answers, NoCountRose}
use Rattle.qpu_tool.proofs.ResultLemmas.{not_some}
use Rattle.qpu_tool.proofs.OpenLemmas.{never_refused}
use Rattle.qpu_tool.proofs.ReplayLemmas.{printed_answer, all_ascii}
use Rattle.qpu_tool.proofs.OneDue.{one_command, one_answer}
use Rattle.qpu_tool.proofs.DueLemmas.{Came, cut, wanting, gave_all, due_of_bytes, fault_counted}

-- some answer comes

some_comes : (words : List (List ℕ)) (old new : Input) (held held' : Output) (s : Status) (bytes : List ℕ) → Came words old new held held' s
    → old.left ≡ Some bytes → NoCountRose old.faults new.faults → NoCountRose held.faults held'.faults → Comes (AnswerOf words bytes) held held' s
some_comes words old new held held' s bytes (cut answer is due part) left quiet_in quiet_out = absurd (quiet_out part.faults)
some_comes words old new held held' s bytes (wanting command is run read same) left quiet_in quiet_out = inl is
some_comes words old new held held' s bytes (gave_all answer is due all) left quiet_in quiet_out =
    inr (answer, due_of_bytes words old new bytes answer left (fault_counted words old new answer due quiet_in) due, is, all)

-- it is each that is due

one_comes : (words : List (List ℕ)) (bytes : List ℕ) (held held' : Output) (s : Status) (answer : Answer) → Comes (AnswerOf words bytes) held held' s
    → AnswerOf words bytes answer → ComesTo answer held held' s
one_comes words bytes held held' s answer (inl want) due = inl want
one_comes words bytes held held' s answer (inr (other, is, status_is, printed)) due =
    let same : other ≡ answer = one_answer words bytes other answer is due in
    inr (status_is ∙ ap (λ (a : Answer). status_of a) same, printed ∙ ap (λ (a : Answer). appended held (text_of a)) same)

-- an accepted job is run

run_by : (job : List ℕ) (m : MachineState) (answer : Answer) → OpensJob job m → RunAnswer job answer → IsRunOf job answer
run_by job m answer opens (refused why is) = absurd (never_refused job m why opens is)
run_by job m answer opens (ran s n run) = (refl, run)

run_to : (job : List ℕ) (m : MachineState) (answer : Answer) → IsAscii job → OpensJob job m → AnswerTo Run job answer → IsRunOf job answer
run_to job m answer ascii opens (high at is) = absurd (not_some (position is_high job) at is ascii)
run_to job m answer ascii opens (low _ none by) = run_by job m answer opens by

run_of : (words : List (List ℕ)) (job : List ℕ) (m : MachineState) (answer : Answer) → IsCommand words Run → length job ≤ MOST_INPUT → IsAscii job
    → OpensJob job m → AnswerOf words job answer → IsRunOf job answer
run_of words job m answer is short ascii opens (no_command none) = absurd (not_some (command_of words) Run is none)
run_of words job m answer is short ascii opens (past_limit command is' long) =
    let there = subst (λ (k : Command). limit_of k < length job) (one_command words command Run is' is) long in
    absurd (omega (arith, there, short))
run_of words job m answer is short ascii opens (to_bytes command _ is' short' to) =
    run_to job m answer ascii opens (subst (λ (k : Command). AnswerTo k job answer) (one_command words command Run is' is) to)

run_comes : (words : List (List ℕ)) (job : List ℕ) (held held' : Output) (s : Status) (m : MachineState) → Comes (AnswerOf words job) held held' s
    → IsCommand words Run → length job ≤ MOST_INPUT → IsAscii job → OpensJob job m → Comes (IsRunOf job) held held' s
run_comes words job held held' s m (inl want) is short ascii opens = inl want
run_comes words job held held' s m (inr (answer, of, status_is, printed)) is short ascii opens =
    inr (answer, run_of words job m answer is short ascii opens of, status_is, printed)

-- what was printed is replayed

replay_of : (words : List (List ℕ)) (bytes job rest : List ℕ) (s : List Actor) (m : MachineState) → IsCommand words Replay → bytes ≡ record_text job s ++ rest
    → length bytes ≤ MOST_RECORD → CanRun job s m → (rest ≡ []) ⊎ (rest ≡ report_text m) → AnswerOf words bytes (Report m)
replay_of words bytes job rest s m is same short can follows =
    to_bytes Replay (Report m) is short
    (subst (λ (t : List ℕ). AnswerTo Replay t (Report m)) (sym same)
    (low (Report m) (all_ascii job rest s m can.ascii follows) (printed_answer job rest s m can follows)))

pub answers : (words : List (List ℕ)) (old new : Input) (held held' : Output) (s : Status) (bytes : List ℕ) → Came words old new held held' s
    → old.left ≡ Some bytes → NoCountRose old.faults new.faults → NoCountRose held.faults held'.faults → Answers words bytes held held' s
answers words old new held held' s bytes c left quiet_in quiet_out =
    let some = some_comes words old new held held' s bytes c left quiet_in quiet_out in
    record {
      some = some;
      each = λ answer due. one_comes words bytes held held' s answer some due;
      runs = λ m is short ascii opens. run_comes words bytes held held' s m some is short ascii opens;
      replays = λ job rest steps m is same short can follows.
          one_comes words bytes held held' s (Report m) some (replay_of words bytes job rest steps m is same short can follows);
    }
