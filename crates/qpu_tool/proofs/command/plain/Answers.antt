-- What a call promises follows of its outcome.
use Rattle.qpu_tool.proofs.DueLemmas.{came, told, write_fault, no_memory, usage, wrong, sink_fault, source_fault, read_fault, nothing_left}
use Rattle.qpu_tool.proofs.CauseLemmas.{answers}
use Rattle.qpu_tool.proofs.command.plain.Goals as goal

pub returns : goal.returns
returns g c =
    let o = c.carried_out.ensures in
    let k = came _ _ _ _ _ _ o in
    record {
      outcome = o;
      causes = record {
        told = told _ _ _ _ _ _ k;
        write_fault = write_fault _ _ _ _ _ _ k;
        no_memory = no_memory _ _ _ _ _ _ k;
        usage = usage _ _ _ _ _ _ k;
        no_command = wrong _ _ _ _ _ _ k;
        sink_fault = sink_fault _ _ _ _ _ _ k;
        source_fault = source_fault _ _ _ _ _ _ k;
        read_fault = read_fault _ _ _ _ _ _ k;
        nothing_left = nothing_left _ _ _ _ _ _ k;
        answers = λ bytes left quiet_in quiet_out. answers _ _ _ _ _ _ bytes k left quiet_in quiet_out;
      };
    }
