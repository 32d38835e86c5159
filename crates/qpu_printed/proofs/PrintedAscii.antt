-- What a run prints of a job in ASCII is ASCII.
use Rattle.std.proofs.Common.{◌≡◌, ◌<◌, ℕ, List, [], ◌∷◌, ◌++◌, ap, append-nil}
use Rattle.std.proofs.lemmas.List.Elements.{All-append}
use Rattle.qpu_io.specs.Text.{in_turn}
use Rattle.qpu_record.specs.Record.{record_text}
use Rattle.qpu_report.specs.Report.{report_text}
use Rattle.qpu_printed.specs.Ascii.{HasAsciiAlone, PrintedHasNoneAbove}
use Rattle.qpu_printed.proofs.HighLemmas.{none_high, none_high_back}
use Rattle.qpu_printed.proofs.RecordAscii.{records_ascii}
use Rattle.qpu_printed.proofs.ReportAscii.{reports_ascii}

-- two parts in turn
pub two_in_turn : (first second : List ℕ) → in_turn (first ∷ second ∷ []) ≡ first ++ second
unfolding in_turn
two_in_turn first second = ap (λ rest. first ++ rest) (append-nil second)

pub ascii_in_turn : (first second : List ℕ) → HasAsciiAlone first → HasAsciiAlone second → HasAsciiAlone (in_turn (first ∷ second ∷ []))
ascii_in_turn first second front rest = rw two_in_turn (All-append (λ (byte : ℕ). byte < 128) first second front rest)

pub printed_ascii : PrintedHasNoneAbove
printed_ascii job s m none =
    none_high (in_turn (record_text job s ∷ report_text m ∷ []))
    (ascii_in_turn (record_text job s) (report_text m) (records_ascii job s (none_high_back job none)) (reports_ascii m))
