-- The runs of a journal are what its steps are merged to.
use Rattle.qpu_record.proofs.MergedLemmas.{record_back}
use Rattle.qpu_record.proofs.writing.write_record.Goals as goal

pub returns : goal.returns
returns g c =
    rw (record_back c.args.job.now c.args.journal.now c.runs.ensures.merged)
    (rw (c.as_bytes.ensures.value, c.runs.ensures.runs) at c.write_runs.ensures)
