-- What is due, from the next line on, behind some runs.
use Rattle.std.proofs.Common.{[], ◌≤◌, length, List}
use denote.Text.{Utf8}
use denote.Shadow.{shadow}
use Rattle.qpu_machine.specs.declared.journal.Run.{Run}
use Rattle.qpu_record.specs.Reading.{schedule_of}
use Rattle.qpu_record.proofs.ReadLemmas.{IsRead}
use Rattle.qpu_record.proofs.reading.end_of_items.Given as goal

abbrev pub invariant-loop-line : goal.invariant-loop-line
invariant-loop-line l = record {
  utf8 : shadow (Utf8 l.rest);
  above : (runs : List Run) × IsRead (schedule_of l.first [] [] l.text) l.number runs l.rest;
  shorter : length l.rest ≤ length l.text;
}

abbrev pub decreases-loop-line : goal.decreases-loop-line
decreases-loop-line l = length l.rest
