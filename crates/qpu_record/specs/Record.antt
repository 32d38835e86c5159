-- The text of a record. This project's own.
use Rattle.std.specs.Prelude.{ℕ, ◌+◌, ◌==◌, Bool, false, List, [], ◌∷◌, length, flat_map, decimal, codes, if◌then◌else◌}
use Rattle.qpu_io.specs.Text.{joined, in_turn}
use Rattle.qpu_machine.specs.declared.actor.Actor.{Actor}
use Rattle.qpu_machine.specs.declared.actor.Actor.TheVariants.{Exec, Load, Store, Fetch}
use Rattle.qpu_machine.specs.declared.journal.Run.{Run}
use Rattle.qpu_machine.specs.Journal.{is_same_actor}
use Rattle.qpu_record.specs.declared.parts.Version.{Version}
use Rattle.qpu_record.specs.declared.parts.Version.TheVariants.{First, Second}

-- one step before the runs of the steps after it: it joins the first run where that is of its actor
abbrev pub with_step : Actor → List Run → List Run
with_step actor [] = (record { actor = actor; count = 1 }) ∷ []
with_step actor (run ∷ runs) =
    if is_same_actor actor run.actor then (record run { count = run.count + 1 }) ∷ runs
    else (record { actor = actor; count = 1 }) ∷ run ∷ runs

-- a schedule with neighbouring steps of one actor put together
unfoldable pub merged : List Actor → List Run
merged [] = []
merged (actor ∷ s) = with_step actor (merged s)

-- an item of a schedule: the actor, and how many steps it takes
abbrev pub item_text : Run → List ℕ
item_text run = elim run.actor [
  | Exec q ↦ joined (codes "q " ∷ decimal q ∷ codes " " ∷ decimal run.count ∷ codes "\n" ∷ [])
  | Load q ↦ joined (codes "l " ∷ decimal q ∷ codes " " ∷ decimal run.count ∷ codes "\n" ∷ [])
  | Store q ↦ joined (codes "s " ∷ decimal q ∷ codes " " ∷ decimal run.count ∷ codes "\n" ∷ [])
  | Fetch q unit ↦ joined (codes "t " ∷ decimal q ∷ codes " " ∷ decimal unit ∷ codes " " ∷ decimal run.count ∷ codes "\n" ∷ [])
]

-- the first line of a record
abbrev pub opening_line : Version → List ℕ
opening_line First = codes "qpurecord 1\n"
opening_line Second = codes "qpurecord 2\n"

-- whether a text ends with a line feed
abbrev pub ends_line : List ℕ → Bool
ends_line [] = false
ends_line (last ∷ []) = last == 10
ends_line (b ∷ c ∷ more) = ends_line (c ∷ more)

-- the line feed that a text lacks at its end
abbrev pub missing_line_end : List ℕ → List ℕ
missing_line_end job = if ends_line job then [] else codes "\n"

-- the record of a job and the runs of a schedule
unfoldable pub runs_text : List ℕ → List Run → List ℕ
runs_text job runs =
    in_turn
    (opening_line Second
    ∷ joined (codes "job " ∷ decimal (length job) ∷ codes "\n" ∷ [])
    ∷ job
    ∷ missing_line_end job
    ∷ codes "schedule\n"
    ∷ flat_map item_text runs
    ∷ codes "endrecord\n"
    ∷ [])

-- the record of a job and a schedule
unfoldable pub record_text : List ℕ → List Actor → List ℕ
record_text job s = runs_text job (merged s)
