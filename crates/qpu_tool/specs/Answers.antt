-- Which answer is due, and what a call comes to. This project's own.
use Rattle.std.specs.Prelude.{◌≡◌, ◌<◌, ◌≤◌, ℕ, List, length, position, Some}
use Rattle.qpu_io.specs.Input.{Input, ReadsToEnd, ReadsPast, ReadsPart, ReadBreaks}
use Rattle.qpu_io.specs.Output.{Output}
use Rattle.qpu_tool.specs.declared.status.Status.{Status}
use Rattle.qpu_tool.specs.declared.status.Status.TheVariants.{NoMemory}
use Rattle.qpu_tool.specs.declared.words.Command.{Command}
use Rattle.qpu_tool.specs.declared.words.Command.TheVariants.{Run, Assemble, Disassemble, Check, Replay}
use Rattle.qpu_tool.specs.declared.answer.Answer.{Answer}
use Rattle.qpu_tool.specs.declared.answer.Answer.TheVariants.{Refused}
use Rattle.qpu_tool.specs.declared.refusal.Refusal.TheVariants.{Usage, ReadFault, TooLong, NotAscii}
use Rattle.qpu_tool.specs.Ascii.{is_high, IsAscii}
use Rattle.qpu_tool.specs.Commands.{IsCommand, IsNoCommand, limit_of}
use Rattle.qpu_tool.specs.Answer.{IsGiven}
use Rattle.qpu_tool.specs.Assembling.{AsmAnswer}
use Rattle.qpu_tool.specs.Disassembling.{DisAnswer}
use Rattle.qpu_tool.specs.Checking.{CheckAnswer}
use Rattle.qpu_tool.specs.Running.{RunAnswer}
use Rattle.qpu_tool.specs.Replaying.{RecordAnswer}

-- the answer of each command to a text of ASCII
abbrev pub AnswerBy : Command → List ℕ → Answer → Type 0
AnswerBy Run text answer = RunAnswer text answer
AnswerBy Assemble text answer = AsmAnswer text answer
AnswerBy Disassemble text answer = DisAnswer text answer
AnswerBy Check text answer = CheckAnswer text answer
AnswerBy Replay text answer = RecordAnswer text answer

-- the answer of a command to a whole input: a byte that is no ASCII is told before all else
pub data AnswerTo (command : Command) (text : List ℕ) : Answer → Type 0 where
  high : (at : ℕ) → position is_high text ≡ Some at → AnswerTo command text (Refused (NotAscii at))
  low : (answer : Answer) → IsAscii text → AnswerBy command text answer → AnswerTo command text answer

-- the answer to words and an input of these bytes, in the order in which refusals are tried
pub data AnswerOf (words : List (List ℕ)) (bytes : List ℕ) : Answer → Type 0 where
  no_command : IsNoCommand words → AnswerOf words bytes (Refused Usage)
  past_limit : (command : Command) → IsCommand words command → limit_of command < length bytes → AnswerOf words bytes (Refused TooLong)
  to_bytes : (command : Command) (answer : Answer) → IsCommand words command → length bytes ≤ limit_of command → AnswerTo command bytes answer
      → AnswerOf words bytes answer

-- which answer is due, by what a call takes of its source
pub data Due (words : List (List ℕ)) (old new : Input) : Answer → Type 0 where
  -- the words are no command, and nothing is read
  wrong_words : IsNoCommand words → new ≡ old → Due words old new (Refused Usage)
  -- reading failed
  broken : (command : Command) → IsCommand words command → ReadBreaks old new (limit_of command) → Due words old new (Refused ReadFault)
  -- too much was read
  past : (command : Command) → IsCommand words command → ReadsPast old new (limit_of command) → Due words old new (Refused TooLong)
  -- all was read: the answer is that to this text
  whole : (command : Command) (text : List ℕ) (answer : Answer) → IsCommand words command → ReadsToEnd old new (limit_of command) text → AnswerTo command text answer
      → Due words old new answer

-- what a call comes to: the answer that is due was given, or memory was wanting and nothing was
-- written
pub data CallOutcome (words : List (List ℕ)) (old new : Input) (held held' : Output) (status : Status) : Type 0 where
  given : (answer : Answer) → Due words old new answer → IsGiven answer held held' status → CallOutcome words old new held held' status
  out_of_memory : (command : Command) → IsCommand words command → ReadsPart old new (limit_of command) → status ≡ NoMemory → held' ≡ held
      → CallOutcome words old new held held' status
