-- What the search over all trails keeps: each trail that it found is one of a path that breaks
-- nothing, and the best hazard is refusable; what was looked at is settled. This project's own.
use Rattle.std.specs.Prelude.{◌≡◌, ◌<◌, ℕ, List, [], length, Option, IfSome, IsSomeAnd, All, Contains, ◌++◌, IsTrue, slice_index_or}
use Rattle.qpu_hazard.specs.declared.breaks.Break.{Break}
use Rattle.qpu_hazard.specs.declared.breaks.Hazard.{Hazard}
use Rattle.qpu_hazard.specs.declared.trail.Trail.{Trail}
use Rattle.qpu_hazard.specs.declared.search.Search.{Search}
use Rattle.qpu_hazard.specs.Paths.{IsPath, broken}
use Rattle.qpu_hazard.specs.Trails.{follows_from, broken_from}
use Rattle.qpu_hazard.specs.declared.needs.Needs.{Needs}
use Rattle.qpu_hazard.specs.Needs.{IsSparing, kept_trail, further}
use Rattle.qpu_hazard.specs.Refusal.{IsRefusable, NotAfter}

-- the hazard of a break at a place
abbrev pub hazard_at : ℕ → Break → Hazard
hazard_at at b = record { at = at; rule = b.rule; before = b.before }

-- there is a best hazard, and it is not after another one
abbrev pub AtMost : Option Hazard → Hazard → Type 0
AtMost best h = IsSomeAnd best (λ b. NotAfter b h)

-- a trail is what is kept, of what is followed, of some path that breaks nothing
pub record Known (needs : Needs) (code : List ℕ) (r : Trail) : Type 0 where
  pub sparing : IsSparing code needs
  pub path : List ℕ
  pub is_path : IsPath code path
  pub clean : broken code path ≡ []
  pub is_kept : kept_trail needs code path ≡ r

-- each trail found is known, and the best hazard is refusable
pub record IsSoundSearch (needs : Needs) (code : List ℕ) (s : Search) : Type 0 where
  pub known : All (Known needs code) s.seen
  pub best : IfSome s.best (IsRefusable code)

-- a word after a trail was looked at: the trail that it leaves was found, or its breaks were told
pub record Settled (needs : Needs) (code : List ℕ) (s : Search) (r : Trail) (a : ℕ) : Type 0 where
  pub clean : broken_from code r a ≡ [] → Contains s.seen (further needs code r a)
  pub least : All (λ b. AtMost s.best (hazard_at a b)) (broken_from code r a)

-- each word that may follow a trail was looked at
abbrev pub AllSettled : Needs → List ℕ → Search → Trail → Type 0
AllSettled needs code s r = (a : ℕ) → IsTrue (follows_from code r a) → Settled needs code s r a

-- each word that may follow one of the first n trails was looked at
abbrev pub SettledBelow : Needs → List ℕ → Search → ℕ → Type 0
SettledBelow needs code s n = (i : ℕ) (d : Trail) → i < n → AllSettled needs code s (slice_index_or s.seen i d)

-- a search went on: trails were added, and the best hazard fell or stayed
pub record Grows (s n : Search) : Type 0 where
  pub seen : (rest : List Trail) × (n.seen ≡ s.seen ++ rest)
  pub best : (h : Hazard) → AtMost s.best h → AtMost n.best h

-- a search is done: the trail before any word was found, and each trail is settled
pub record IsClosed (needs : Needs) (code : List ℕ) (s : Search) : Type 0 where
  pub sparing : IsSparing code needs
  pub sound : IsSoundSearch needs code s
  pub start : Contains s.seen (kept_trail needs code [])
  pub settled : SettledBelow needs code s (length s.seen)
