-- VideoCore IV 3D Architecture Reference Guide, "Texture and Memory Lookup Unit": the look-ups of a
-- processor's two units. That the words are fetched by a step of its own is this project's own.
use Rattle.std.specs.Prelude.{ℕ, ◌==◌, Bool, List, [], ◌∷◌, ◌++◌, Option, Some, None, is_some, is_none, drop, find, option_map, if◌then◌else◌}
use Rattle.qpu_tmu.specs.declared.look_up.LookUp.{LookUp}

-- the look-ups of both units, the oldest first
pub record LookupsState : Type 0 where
  pub looks0 : List LookUp
  pub looks1 : List LookUp

-- nothing outstanding
abbrev pub opening_lookups : LookupsState
opening_lookups = record { looks0 = []; looks1 = [] }

-- the look-ups of a unit, the oldest first
abbrev pub queue_of : LookupsState → ℕ → List LookUp
queue_of lookups unit = if unit == 0 then lookups.looks0 else lookups.looks1

-- the look-ups of a unit replaced
abbrev pub with_queue : LookupsState → ℕ → List LookUp → LookupsState
with_queue lookups unit looks =
    if unit == 0 then record lookups { looks0 = looks } else record lookups { looks1 = looks }

-- the words of the oldest look-up, none where there is none or it isn't fetched
abbrev pub oldest_words : List LookUp → Option (List ℕ)
oldest_words [] = None
oldest_words (look ∷ more) = look.words

-- a look-up that isn't fetched
abbrev pub is_waiting : LookUp → Bool
is_waiting look = is_none look.words

-- the indexes of the words of the oldest look-up that isn't fetched, where there is one
abbrev pub next_look : List LookUp → Option (List ℕ)
next_look looks = option_map (λ look. look.at) (find is_waiting looks)

-- the look-ups with one more, the newest, of the words at these indexes
abbrev pub with_look : List ℕ → List LookUp → List LookUp
with_look at looks = looks ++ (record { at = at; words = None }) ∷ []

-- the look-ups after the oldest that isn't fetched has its words
abbrev pub with_words : List ℕ → List LookUp → List LookUp
with_words words [] = []
with_words words (look ∷ more) =
    if is_waiting look then (record look { words = Some words }) ∷ more else look ∷ with_words words more

-- the look-ups after the oldest was taken, where it is fetched
abbrev pub after_taken : List LookUp → List LookUp
after_taken looks = if is_some (oldest_words looks) then drop 1 looks else looks
