-- The programs before the index are in the profile.
use Rattle.std.proofs.Common.{◌≡◌, take}
use Rattle.std.specs.List.{AllWithin}
use Rattle.qpu_flow.specs.Code.{AllInProfile}
use Rattle.qpu_job.specs.Programs.{codes_of}
use Rattle.qpu_job.proofs.checking.flows_of.Given as goal

abbrev pub invariant-loop-program : goal.invariant-loop-program
invariant-loop-program l = record {
  taken : l.flows.items ≡ take l.program (codes_of l.codes);
  inside : AllWithin AllInProfile (codes_of l.codes) 0 l.program;
}
