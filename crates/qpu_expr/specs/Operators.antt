-- What the signs of an expression make of numbers of 32 bits, and how tight they bind. This project's own.
use Rattle.std.specs.Prelude.{ℕ, ◌+◌, ◌-◌, ◌*◌, ◌/◌, ◌%◌, ◌^◌, ◌==◌, Option, Some, None, Result, Ok, Err, ok_or, bit_and, bit_or, bit_xor, if◌then◌else◌}
use Rattle.qpu_expr.specs.declared.place.Place.{Place}
use Rattle.qpu_expr.specs.declared.operator.Operator.{Operator}
use Rattle.qpu_expr.specs.declared.operator.Operator.TheVariants.{Times, Over, Rest, Plus, Minus, Left, Right, And, Xor, Or}

-- what an expression is worth: a number below 2^32, or the place of its leftmost division by 0
abbrev pub Worth : Type 0
Worth = Result ℕ Place

-- a sign with a greater level binds tighter
abbrev pub level : Operator → ℕ
level Times = 5
level Over = 5
level Rest = 5
level Plus = 4
level Minus = 4
level Left = 3
level Right = 3
level And = 2
level Xor = 1
level Or = 0

-- a sign between two numbers, modulo 2^32; shift amounts are modulo 32
abbrev pub applied : Operator → ℕ → ℕ → Option ℕ
applied Times a b = Some (a * b % 2 ^ 32)
applied Over a b = if b == 0 then None else Some (a / b)
applied Rest a b = if b == 0 then None else Some (a % b)
applied Plus a b = Some ((a + b) % 2 ^ 32)
applied Minus a b = Some ((a + 2 ^ 32 - b) % 2 ^ 32)
applied Left a b = Some (a * 2 ^ (b % 32) % 2 ^ 32)
applied Right a b = Some (a / 2 ^ (b % 32))
applied And a b = Some (bit_and a b)
applied Xor a b = Some (bit_xor a b)
applied Or a b = Some (bit_or a b)

-- a sign, which stands at a place, between two sides. A fault of a side comes before its own
abbrev pub combined : Operator → Place → Worth → Worth → Worth
combined sign place (Err fault) b = Err fault
combined sign place (Ok x) (Err fault) = Err fault
combined sign place (Ok x) (Ok y) = ok_or (applied sign x y) place

abbrev pub negated : Worth → Worth
negated (Ok x) = Ok ((2 ^ 32 - x) % 2 ^ 32)
negated (Err fault) = Err fault

abbrev pub inverted : Worth → Worth
inverted (Ok x) = Ok (2 ^ 32 - 1 - x)
inverted (Err fault) = Err fault
