-- The exit statuses. This project's own.
use Rattle.std.specs.Prelude.{ℕ}
use Rattle.qpu_machine.specs.declared.conclusion.Ending.{Ending}
use Rattle.qpu_machine.specs.declared.conclusion.Ending.TheVariants.{Done as RunDone, Stuck as RunStuck, RanOut as RunRanOut, Faulted as RunFaulted}
use Rattle.qpu_tool.specs.declared.status.Status.{Status}
use Rattle.qpu_tool.specs.declared.status.Status.TheVariants.{Done, Usage, AsmRefused, JobRefused, HazardRefused, ReadFault, WriteFault, NoMemory, Stuck, RanOut, Faulted, RecordRefused, TooLong, NotAscii}

-- the number of a status
abbrev pub status_code : Status → ℕ
status_code Done = 0
status_code Usage = 1
status_code AsmRefused = 2
status_code JobRefused = 3
status_code HazardRefused = 4
status_code ReadFault = 5
status_code WriteFault = 6
status_code NoMemory = 7
status_code Stuck = 8
status_code RanOut = 9
status_code Faulted = 10
status_code RecordRefused = 11
status_code TooLong = 12
status_code NotAscii = 13

-- the status of a run with an ending
abbrev pub status_for : Ending → Status
status_for RunDone = Done
status_for RunStuck = Stuck
status_for RunRanOut = RanOut
status_for RunFaulted = Faulted
