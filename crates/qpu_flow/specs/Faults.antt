-- Why words are no program of the profile. This project's own.
use Rattle.std.specs.Prelude.{ℕ, List}
use Rattle.qpu_flow.specs.declared.flow.FlowFault.{FlowFault}
use Rattle.qpu_flow.specs.declared.flow.FlowFault.TheVariants.{Word, Memory}
use Rattle.qpu_flow.specs.Code.{IsFirstOutside}

-- the least word outside the profile; want of memory is free
abbrev pub IsFlowFault : List ℕ → FlowFault → Type 0
IsFlowFault code (Word at fault) = IsFirstOutside code at fault
IsFlowFault code Memory = Unit {0}
