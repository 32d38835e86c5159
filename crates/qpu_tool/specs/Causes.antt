-- The causes of answers: what each status tells, and what each cause comes to. This project's own.
use Rattle.std.specs.Prelude.{◌≡◌, ◌≢◌, ◌<◌, ◌≤◌, ◌⊎◌, ℕ, List, [], ◌++◌, length, Option, Some, IfSome}
use Rattle.qpu_io.specs.Faults.{Rose}
use Rattle.qpu_io.specs.Input.{Input}
use Rattle.qpu_io.specs.Output.{Output, appended, Cut}
use Rattle.qpu_machine.specs.declared.actor.Actor.{Actor}
use Rattle.qpu_machine.specs.Ending.{ending_of}
use Rattle.qpu_machine.specs.Machine.{MachineState}
use Rattle.qpu_token.specs.declared.fault.AsmFault.{AsmFault}
use Rattle.qpu_hazard.specs.declared.checked.CheckFault.{CheckFault}
use Rattle.qpu_job.specs.declared.fault.JobFault.{JobFault}
use Rattle.qpu_record.specs.declared.fault.RecordFault.{RecordFault}
use Rattle.qpu_record.specs.Record.{record_text}
use Rattle.qpu_replay.specs.declared.fault.ReplayFault.{ReplayFault}
use Rattle.qpu_report.specs.Report.{report_text}
use Rattle.qpu_tool.specs.declared.status.Status.{Status}
use Rattle.qpu_tool.specs.declared.status.Status.TheVariants.{Done, Usage, AsmRefused, JobRefused, HazardRefused, ReadFault, WriteFault, NoMemory, Stuck, RanOut, Faulted, RecordRefused, TooLong, NotAscii}
use Rattle.qpu_tool.specs.declared.words.Command.TheVariants.{Run as RunCommand, Replay as ReplayCommand}
use Rattle.qpu_tool.specs.declared.command.TheConstants.{MOST_INPUT, MOST_RECORD}
use Rattle.qpu_tool.specs.declared.answer.Answer.{Answer}
use Rattle.qpu_tool.specs.declared.answer.Answer.TheVariants as answer
use Rattle.qpu_tool.specs.declared.refusal.Refusal.TheVariants as why
use Rattle.qpu_tool.specs.Ascii.{IsAscii}
use Rattle.qpu_tool.specs.Commands.{IsCommand, IsNoCommand}
use Rattle.qpu_tool.specs.Statuses.{status_for}
use Rattle.qpu_tool.specs.Answer.{status_of, text_of}
use Rattle.qpu_tool.specs.Counted.{Count}
use Rattle.qpu_tool.specs.Run.{Ran}
use Rattle.qpu_tool.specs.Opening.{OpensJob}
use Rattle.qpu_tool.specs.Running.{CanRun, FaithfulRun}
use Rattle.qpu_tool.specs.Answers.{AnswerOf, Due}

-- an answer was due, and the whole of its text was printed
pub record Printed (words : List (List ℕ)) (old new : Input) (held held' : Output) (answer : Answer) : Type 0 where
  pub due : Due words old new answer
  pub text : held' ≡ appended held (text_of answer)

-- a write failed: a front of the text of the answer that is due was appended, and the sink counted the
-- fault
pub record IsCutOff (words : List (List ℕ)) (old new : Input) (held held' : Output) : Type 0 where
  pub answer : Answer
  pub due : Due words old new answer
  pub cut : Cut held held' (text_of answer)
  pub counted : Rose held.faults held'.faults

-- a run was printed, or the report of a replay; its ending has this status
abbrev pub HasEnded : (Answer → Type 0) → Status → Type 0
HasEnded Told status =
    ((run : Ran) × (status ≡ status_for (ending_of run.machine)) × Told (answer.Ran run))
    ⊎ ((m : MachineState) × (status ≡ status_for (ending_of m)) × Told (answer.Report m))

-- what each status tells, where this is what is told of an answer
abbrev pub Tells : (Answer → Type 0) → Status → Type 0
Tells Told Done =
    HasEnded Told Done
    ⊎ (((words : List ℕ) × Told (answer.Words words))
    ⊎ (((words : List ℕ) × Told (answer.Lines words)) ⊎ ((count : Count) × Told (answer.Counted count))))
Tells Told Usage = Told (answer.Refused why.Usage)
Tells Told AsmRefused = (fault : AsmFault) × Told (answer.Refused (why.Asm fault))
Tells Told JobRefused = (fault : JobFault) × Told (answer.Refused (why.Job fault))
Tells Told HazardRefused = (program : Option (List ℕ)) × (fault : CheckFault) × Told (answer.Refused (why.Hazard program fault))
Tells Told ReadFault = Told (answer.Refused why.ReadFault)
Tells Told WriteFault = ⊥
Tells Told NoMemory = ⊥
Tells Told Stuck = HasEnded Told Stuck
Tells Told RanOut = HasEnded Told RanOut
Tells Told Faulted = HasEnded Told Faulted
Tells Told RecordRefused =
    ((fault : RecordFault) × Told (answer.Refused (why.Record fault)))
    ⊎ (((fault : ReplayFault) × Told (answer.Refused (why.Schedule fault))) ⊎ ((line : ℕ) × Told (answer.Refused (why.Report line))))
Tells Told TooLong = Told (answer.Refused why.TooLong)
Tells Told NotAscii = (at : ℕ) × Told (answer.Refused (why.NotAscii at))

-- no fault was counted: neither is a count greater after the call, nor does it stand at its last value
abbrev pub NoCountRose : ℕ → ℕ → Type 0
NoCountRose old new = Rose old new → ⊥

-- nothing of a source is left, as far as it tells
abbrev pub NothingLeft : Input → Type 0
NothingLeft input = IfSome input.left (λ rest. rest ≡ [])

-- the statuses that are due to a whole text
abbrev pub IsOfText : Status → Type 0
IsOfText Usage = ⊥
IsOfText ReadFault = ⊥
IsOfText WriteFault = ⊥
IsOfText NoMemory = ⊥
IsOfText TooLong = ⊥
IsOfText _ = Unit {0}

-- an answer was given whole, or memory was wanting
abbrev pub ComesTo : Answer → Output → Output → Status → Type 0
ComesTo answer old new status = (status ≡ NoMemory) ⊎ ((status ≡ status_of answer) × (new ≡ appended old (text_of answer)))

-- an answer of a kind was given whole, or memory was wanting
abbrev pub Comes : (Answer → Type 0) → Output → Output → Status → Type 0
Comes Is old new status =
    (status ≡ NoMemory)
    ⊎ ((answer : Answer) × Is answer × (status ≡ status_of answer) × (new ≡ appended old (text_of answer)))

-- an answer is a run of a job that is what was promised
abbrev pub IsRunOf : List ℕ → Answer → Type 0
IsRunOf job (answer.Ran run) = (run.job ≡ job) × FaithfulRun job run.steps run.machine
IsRunOf job _ = ⊥

-- what a call with an input that is told comes to, where no fault is counted
pub record Answers (words : List (List ℕ)) (bytes : List ℕ) (held held' : Output) (status : Status) : Type 0 where
  -- some answer is due, and comes
  pub some : Comes (AnswerOf words bytes) held held' status
  -- and each that is due does
  pub each : (answer : Answer) → AnswerOf words bytes answer → ComesTo answer held held' status
  -- an accepted job is run to its end, and its run is printed
  pub runs : (m : MachineState) → IsCommand words RunCommand → length bytes ≤ MOST_INPUT → IsAscii bytes → OpensJob bytes m
      → Comes (IsRunOf bytes) held held' status
  -- what a run prints, with its report or without, is replayed to the same report and status
  pub replays : (job rest : List ℕ) (s : List Actor) (m : MachineState) → IsCommand words ReplayCommand → bytes ≡ record_text job s ++ rest
      → length bytes ≤ MOST_RECORD → CanRun job s m → (rest ≡ []) ⊎ (rest ≡ report_text m) → ComesTo (answer.Report m) held held' status

-- what a call promises
pub record Causes (words : List (List ℕ)) (old new : Input) (held held' : Output) (status : Status) : Type 0 where
  -- each status but two tells an answer that was due, and the whole of its text was printed
  pub told : status ≢ WriteFault → status ≢ NoMemory → Tells (Printed words old new held held') status
  pub write_fault : status ≡ WriteFault → IsCutOff words old new held held'
  pub no_memory : status ≡ NoMemory → held' ≡ held
  -- usage comes exactly where the words are no command, and then nothing is read
  pub usage : status ≡ Usage → IsNoCommand words × (new ≡ old)
  pub no_command : IsNoCommand words → (status ≡ Usage) ⊎ (status ≡ WriteFault)
  -- no fault is passed over, and none is made up
  pub sink_fault : held.faults < held'.faults → status ≡ WriteFault
  pub source_fault : old.faults < new.faults → (status ≡ ReadFault) ⊎ (status ≡ WriteFault)
  pub read_fault : status ≡ ReadFault → Rose old.faults new.faults
  -- an answer to a text leaves nothing of the input
  pub nothing_left : IsOfText status → NothingLeft new
  -- where the source tells its bytes and no fault is counted, each cause has its answer
  pub answers : (bytes : List ℕ) → old.left ≡ Some bytes → NoCountRose old.faults new.faults → NoCountRose held.faults held'.faults
      → Answers words bytes held held' status
