-- The numbers that are written are the processor's.
use Rattle.qpu_report.specs.Report.{counts_text}
use Rattle.qpu_report.proofs.processors.put_counts.Goals as goal

pub returns : goal.returns
unfolding counts_text
returns g c =
    rw (c.from.ensures, c.executed.ensures, c.from-2.ensures, c.interrupts.ensures) at c.put_all.ensures
