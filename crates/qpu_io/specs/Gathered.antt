-- What a sink over a sink shows, and what handing its bytes on does. This project's own.
use Rattle.std.specs.Prelude.{◌≡◌, ℕ, List, [], ◌++◌}
use Rattle.qpu_io.specs.Faults.{Rose}
use Rattle.qpu_io.specs.Output.{Output, appended}

-- a sink that gathers: the sink that it hands its bytes on to, and those that wait
pub record Gathered (K : Type 0) : Type 0 where
  pub sink : K
  pub waiting : List ℕ

-- what it shows: what its sink shows, with the bytes that wait behind
abbrev pub gathered_shown : {K : Type 0} → (K → Output) → Gathered K → Output
gathered_shown shown g = appended (shown g.sink) g.waiting

-- all bytes that waited were handed on
pub record HandsOn {K : Type 0} (shown : K → Output) (old new : Gathered K) : Type 0 where
  pub held : shown new.sink ≡ appended (shown old.sink) old.waiting
  pub waiting : new.waiting ≡ []

-- a fault ended the handing on: a front of the bytes that waited was handed on, the others wait
-- still, and the sink's count of faults rose
pub record KeepsBack {K : Type 0} (shown : K → Output) (old new : Gathered K) : Type 0 where
  pub part : List ℕ
  pub splits : old.waiting ≡ part ++ new.waiting
  pub held : (shown new.sink).held ≡ (appended (shown old.sink) part).held
  pub faults : Rose (shown old.sink).faults (shown new.sink).faults
