-- The programs before the index have the codes, and each is short enough.
use Rattle.std.proofs.Common.{All, take}
use Rattle.qpu_job.specs.Plan.{programs_of}
use Rattle.qpu_job.specs.Programs.{HaveCodes, codes_of}
use Rattle.qpu_job.specs.Opening.{IsShort}
use Rattle.qpu_job.proofs.code.read_codes.Given as goal

abbrev pub invariant-loop-program : goal.invariant-loop-program
invariant-loop-program l = record {
  built : HaveCodes (programs_of (take l.program-index l.programs)) (codes_of l.codes.items);
  short : All IsShort (codes_of l.codes.items);
}
