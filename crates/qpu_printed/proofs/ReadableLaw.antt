-- The record that a run prints is read back.
use Rattle.qpu_record.proofs.GrammarOnly.{records_are_read}
use Rattle.qpu_printed.specs.Readable.{PrintedRecordsAreRead}
use Rattle.qpu_printed.proofs.ItemLemmas.{schedules_items}

pub printed_read : PrintedRecordsAreRead
printed_read memory limit programs starts s n may after job short rest =
    records_are_read job s rest short (schedules_items memory limit programs starts s n may after)
