-- What contracts see of the sources and sinks in memory.
use Rattle.std.specs.Prelude.{ℕ, ◌-◌, List, ◌++◌, take, drop, Some}
use Rattle.qpu_io.specs.Faults.{count_up}
use Rattle.qpu_io.specs.Input.{Input}
use Rattle.qpu_io.specs.Output.{Output}

-- a source in memory: the bytes left, the calls that fail, the calls made and the faults counted
pub record Stock : Type 0 where
  pub left : List ℕ
  pub fails : List ℕ
  pub calls : ℕ
  pub faults : ℕ

-- a plain sink in memory: the bytes held, how many more it has room for, and the faults counted
pub record Shelf : Type 0 where
  pub bytes : List ℕ
  pub spare : ℕ
  pub faults : ℕ

-- a sink in memory that fails at listed calls: besides, the calls that fail and the calls made
pub record Store : Type 0 where
  pub bytes : List ℕ
  pub spare : ℕ
  pub faults : ℕ
  pub fails : List ℕ
  pub calls : ℕ

-- what a plain source shows: it tells its bytes, and counts no fault
abbrev pub plain_shown : List ℕ → Input
plain_shown left = record { left = Some left; faults = 0 }

-- what a source in memory shows
abbrev pub stock_shown : Stock → Input
stock_shown stock = record { left = Some stock.left; faults = stock.faults }

-- what a plain sink shows
abbrev pub shelf_shown : Shelf → Output
shelf_shown shelf = record { held = Some shelf.bytes; faults = shelf.faults }

-- what a sink in memory shows
abbrev pub store_shown : Store → Output
store_shown store = record { held = Some store.bytes; faults = store.faults }

-- a source in memory after a read of n bytes
abbrev pub stock_read : Stock → ℕ → Stock
stock_read old n = record old { left = drop n old.left; calls = count_up old.calls }

-- a source in memory after a read that failed
abbrev pub stock_failed : Stock → Stock
stock_failed old = record old { calls = count_up old.calls; faults = count_up old.faults }

-- a plain sink after a write of the first n bytes of a piece
abbrev pub shelf_written : Shelf → List ℕ → ℕ → Shelf
shelf_written old piece n = record old { bytes = old.bytes ++ take n piece; spare = old.spare - n }

-- a plain sink after a write that failed
abbrev pub shelf_failed : Shelf → Shelf
shelf_failed old = record old { faults = count_up old.faults }

-- a sink in memory after a write of the first n bytes of a piece
abbrev pub store_written : Store → List ℕ → ℕ → Store
store_written old piece n = record old {
  bytes = old.bytes ++ take n piece;
  spare = old.spare - n;
  calls = count_up old.calls;
}

-- a sink in memory after a write that failed
abbrev pub store_failed : Store → Store
store_failed old = record old { calls = count_up old.calls; faults = count_up old.faults }
