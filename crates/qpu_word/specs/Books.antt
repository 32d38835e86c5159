-- What a book always is: its setups are valid ones, and of each read setup some vectors are left.
-- This project's own.
use Rattle.std.specs.Prelude.{◌≡◌, ◌<◌, IfSome, IsNone, Ok}
use Rattle.qpu_word.specs.declared.setup.Book.{Book}
use Rattle.qpu_word.specs.declared.setup.Vectors.{Vectors}
use Rattle.qpu_word.specs.declared.setup.ReadSetup.TheVariants.{Vectors as VpmRead, Load}
use Rattle.qpu_word.specs.declared.setup.WriteSetup.TheVariants.{Vectors as VpmWrite, Store}
use Rattle.qpu_word.specs.declared.code.TheConstants.{VPM_PLACES}
use Rattle.qpu_word.specs.Setups.{read_setup, write_setup, vector_count}

-- a read setup of which some vectors are left
abbrev pub IsReading : Vectors → Type 0
IsReading v = (read_setup v.setup ≡ Ok VpmRead) × (v.done < vector_count v.setup)

-- a write setup, whose vectors are counted modulo the places of the smallest elements
abbrev pub IsWriting : Vectors → Type 0
IsWriting v = (write_setup v.setup ≡ Ok VpmWrite) × (v.done < VPM_PLACES)

-- a second read setup waits only behind a first one
pub record IsSoundBook (book : Book) : Type 0 where
  pub first : IfSome book.first IsReading
  pub second : IfSome book.second IsReading
  pub order : IsNone book.first → IsNone book.second
  pub writes : IfSome book.writes IsWriting
  pub load : IfSome book.load (λ setup. read_setup setup ≡ Ok Load)
  pub store : IfSome book.store (λ setup. write_setup setup ≡ Ok Store)
