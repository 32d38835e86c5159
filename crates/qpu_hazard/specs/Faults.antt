-- Why the checker refuses words. This project's own.
use Rattle.std.specs.Prelude.{◌≡◌, ◌≢◌, ℕ, List}
use Rattle.qpu_flow.specs.Code.{AllInProfile, IsFirstOutside}
use Rattle.qpu_hazard.specs.declared.checked.CheckFault.{CheckFault}
use Rattle.qpu_hazard.specs.declared.checked.CheckFault.TheVariants.{Word, Hazard, Memory}
use Rattle.qpu_hazard.specs.Refusal.{IsFirst, NoneRefusable}

-- why a program of the profile is refused: its first hazard; want of memory is free
abbrev pub IsHazardFault : List ℕ → CheckFault → Type 0
IsHazardFault code (Word at fault) = ⊥
IsHazardFault code (Hazard rule at before) = IsFirst code (record { at = at; rule = rule; before = before })
IsHazardFault code Memory = Unit {0}

-- the least word outside the profile; else, where all words are in it, the first hazard; want of
-- memory is free
abbrev pub IsCheckFault : List ℕ → CheckFault → Type 0
IsCheckFault code (Word at fault) = IsFirstOutside code at fault
IsCheckFault code (Hazard rule at before) = AllInProfile code × IsHazardFault code (Hazard rule at before)
IsCheckFault code Memory = Unit {0}

-- one fault at most is due, want of memory aside
abbrev pub OneFault : Type 0
OneFault = (code : List ℕ) (e f : CheckFault) → IsCheckFault code e → IsCheckFault code f → e ≢ Memory → f ≢ Memory → e ≡ f

-- none is due, want of memory aside, where each word is in the profile and nothing is refusable
abbrev pub NoFault : Type 0
NoFault = (code : List ℕ) (e : CheckFault) → AllInProfile code → NoneRefusable code → IsCheckFault code e → e ≢ Memory → ⊥
