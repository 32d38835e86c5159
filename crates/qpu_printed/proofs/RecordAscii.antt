-- The record of a job in ASCII is ASCII.
use Rattle.std.proofs.Common.{ℕ, List, [], ◌∷◌, length, refl}
use Rattle.std.specs.Prelude.{flat_map, decimal, codes}
use Rattle.qpu_io.specs.Text.{joined}
use Rattle.qpu_machine.specs.declared.actor.Actor.{Actor}
use Rattle.qpu_machine.specs.declared.actor.Actor.TheVariants.{Exec, Load, Store, Fetch}
use Rattle.qpu_machine.specs.declared.journal.Run.{Run}
use Rattle.qpu_record.specs.declared.parts.Version.TheVariants.{Second}
use Rattle.qpu_record.specs.Record.{item_text, opening_line, ends_line, missing_line_end, merged, runs_text, record_text}
use Rattle.qpu_printed.specs.Ascii.{RecordsAreAscii}
use Rattle.qpu_printed.proofs.AsciiLemmas.{IsLow, all_low, low_all, low_joined, low_in_turn, low_flat_map, low_unless, low_decimal}

low_item : (actor : Actor) (count : ℕ) → IsLow (item_text (record { actor = actor; count = count }))
low_item (Exec q) count = low_joined (codes "q " ∷ decimal q ∷ codes " " ∷ decimal count ∷ codes "\n" ∷ []) (refl, (low_decimal q, (refl, (low_decimal count, (refl, tt)))))
low_item (Load q) count = low_joined (codes "l " ∷ decimal q ∷ codes " " ∷ decimal count ∷ codes "\n" ∷ []) (refl, (low_decimal q, (refl, (low_decimal count, (refl, tt)))))
low_item (Store q) count = low_joined (codes "s " ∷ decimal q ∷ codes " " ∷ decimal count ∷ codes "\n" ∷ []) (refl, (low_decimal q, (refl, (low_decimal count, (refl, tt)))))
low_item (Fetch q unit) count =
    low_joined (codes "t " ∷ decimal q ∷ codes " " ∷ decimal unit ∷ codes " " ∷ decimal count ∷ codes "\n" ∷ [])
    (refl, (low_decimal q, (refl, (low_decimal unit, (refl, (low_decimal count, (refl, tt)))))))

pub low_runs : (job : List ℕ) (runs : List Run) → IsLow job → IsLow (runs_text job runs)
unfolding runs_text
low_runs job runs low =
    low_in_turn
    (opening_line Second ∷ joined (codes "job " ∷ decimal (length job) ∷ codes "\n" ∷ []) ∷ job ∷ missing_line_end job ∷ codes "schedule\n" ∷ flat_map item_text runs ∷ codes "endrecord\n" ∷ [])
    (refl, (low_joined (codes "job " ∷ decimal (length job) ∷ codes "\n" ∷ []) (refl, (low_decimal (length job), (refl, tt))), (low, (low_unless (ends_line job) (codes "\n") refl, (refl, (low_flat_map item_text runs (λ (run : Run). low_item run.actor run.count), (refl, tt)))))))

pub records_ascii : RecordsAreAscii
unfolding record_text
records_ascii job s all = all_low (runs_text job (merged s)) (low_runs job (merged s) (low_all job all))
