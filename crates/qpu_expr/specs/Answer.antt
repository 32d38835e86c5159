-- What is answered for a text, against its expansion. This project's own.
use Rattle.std.specs.Prelude.{◌≡◌, ◌⊎◌, Result, Ok, Err}
use Rattle.qpu_token.specs.declared.fault.AsmFault.{AsmFault}
use Rattle.qpu_token.specs.declared.stop.Stop.{Stop}
use Rattle.qpu_token.specs.Stops.{no_memory, StopsBy}
use Rattle.qpu_expr.specs.declared.deed.Act.{Act}
use Rattle.qpu_expr.specs.declared.expanded.Expanded.{Expanded}
use Rattle.qpu_expr.specs.StageParts.{Stage}
use Rattle.qpu_expr.specs.Expansion.{Left}

-- a line by itself: what is run behind it, and what it has led to
abbrev pub Led : Result (Act × Stage) AsmFault → Stage → Result Act Stop → Type 0
Led due after (Ok act) = due ≡ Ok (act, after)
Led due after (Err stop) = StopsBy due stop

-- the lines and labels that are due
abbrev pub IsExpanded : Result Left AsmFault → Expanded → Type 0
IsExpanded due e = due ≡ Ok (record { lines = e.lines.items; labels = e.labels.items })

-- the fault that is due, or want of memory, which is free
abbrev pub IsItsFault : Result Left AsmFault → AsmFault → Type 0
IsItsFault due fault = (fault ≡ no_memory) ⊎ (due ≡ Err fault)

abbrev pub Expands : Result Left AsmFault → Result Expanded Stop → Type 0
Expands due (Ok e) = IsExpanded due e
Expands due (Err stop) = StopsBy due stop
