-- The faults of a line's marks, kind by kind. A mark is faulty by itself, or together with one before it.
-- This project's own.
use Rattle.std.specs.Prelude.{◌||◌, Bool, List, [], ◌∷◌, ◌++◌, Option, Some, None, option_map, if◌then◌else◌}
use Rattle.std.specs.Option.{option_or}
use Rattle.std.specs.List.{list_any}
use Rattle.qpu_token.specs.declared.token.Token.{Token}
use Rattle.qpu_token.specs.declared.fault.AsmFault.{AsmFault}
use Rattle.qpu_asm.specs.declared.mark.Mark.{Mark}
use Rattle.qpu_asm.specs.declared.judge.Judged.{Judged}
use Rattle.qpu_asm.specs.declared.judge.Judged.TheVariants.{Operands, TwoImmediates, TwoReads, Label, Range}
use Rattle.qpu_asm.specs.Clashes.{is_wrong, clashes, kind_of, fault_at}

abbrev pub is_faulty : Judged → List Mark → Mark → Bool
is_faulty k earlier m = is_wrong k m.what || list_any (λ e. clashes k e.what m.what) earlier

-- the first faulty mark of a kind, behind earlier ones
abbrev pub first_faulty : Judged → List Mark → List Mark → Option Token
first_faulty k earlier [] = None
first_faulty k earlier (m ∷ later) = if is_faulty k earlier m then Some m.token else first_faulty k (earlier ++ m ∷ []) later

unfoldable pub fault_of_kind : List Mark → Judged → Option AsmFault
fault_of_kind ms k = option_map (fault_at (kind_of k)) (first_faulty k [] ms)

infixl 10 ◌or◌
abbrev pub ◌or◌ : Option AsmFault → Option AsmFault → Option AsmFault
a or b = option_or a b

-- the fault of a line's marks: the least kind, and in it the first mark
unfoldable pub line_fault : List Mark → Option AsmFault
line_fault ms =
    fault_of_kind ms Operands
    or fault_of_kind ms TwoImmediates
    or fault_of_kind ms TwoReads
    or fault_of_kind ms Label
    or fault_of_kind ms Range
