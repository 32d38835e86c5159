-- What a step of the assembler answers, against what is due. Want of memory is a free answer, and says
-- nothing of what is left. This project's own.
use Rattle.std.specs.Prelude.{◌≡◌, Result, Ok, Err}
use Rattle.qpu_token.specs.declared.fault.AsmFault.{AsmFault}
use Rattle.qpu_token.specs.declared.fault.AsmKind.TheVariants as kind
use Rattle.qpu_token.specs.declared.stop.Stop.{Stop}
use Rattle.qpu_token.specs.declared.stop.Stop.TheVariants.{Fault, Memory}

-- want of memory has no place
abbrev pub no_memory : AsmFault
no_memory = record { kind = kind.Memory; line = 0; column = 0 }

abbrev pub answered : Stop → AsmFault
answered (Fault fault) = fault
answered Memory = no_memory

abbrev pub StopsBy : {A : Type 0} → Result A AsmFault → Stop → Type 0
StopsBy due (Fault fault) = due ≡ Err fault
StopsBy due Memory = Unit {0}

abbrev pub Answers : {A : Type 0} → Result A AsmFault → Result A Stop → Type 0
Answers due (Ok a) = due ≡ Ok a
Answers due (Err stop) = StopsBy due stop

-- the same of a call that changes what stands before it
abbrev pub Leads : {A B : Type 0} → Result A AsmFault → A → Result B Stop → Type 0
Leads due after (Ok b) = due ≡ Ok after
Leads due after (Err stop) = StopsBy due stop
