-- VideoCore IV 3D Architecture Reference Guide, "QPU Instruction Encoding" (Op Add, Op Mul): what
-- the units compute in one lane, on numbers below 2^32.
use Rattle.std.specs.Prelude.{ℕ, ◌+◌, ◌-◌, ◌*◌, ◌/◌, ◌%◌, ◌^◌, ◌==◌, Bool, nat_lt, nat_le, min, max, Option, Some, None, if◌then◌else◌, bit_and, bit_or, bit_xor}
use Rattle.std.specs.Int.{w32, rotate_right}
use Rattle.std.specs.Int.Count.{count_leading_zeros}
use Rattle.qpu_word.specs.declared.operation.AddOp.{AddOp}
use Rattle.qpu_word.specs.declared.operation.AddOp.TheVariants.{Add, Sub, Shr, Asr, Ror, Shl, Min, Max, And, Or, Xor, Not, Clz, V8adds, V8subs}
use Rattle.qpu_word.specs.declared.operation.MulOp.{MulOp}
use Rattle.qpu_word.specs.declared.operation.MulOp.TheVariants.{Mul24, V8muld, V8min, V8max, V8adds as MulV8adds, V8subs as MulV8subs}

-- a number modulo 2^32
abbrev pub low32 : ℕ → ℕ
low32 n = n % 2 ^ 32

-- byte k of a number, from the low one on
abbrev pub byte : ℕ → ℕ → ℕ
byte n k = n / 2 ^ (8 * k) % 2 ^ 8

-- the number of four bytes
abbrev pub of_bytes : (ℕ → ℕ) → ℕ
of_bytes f = f 0 + 2 ^ 8 * f 1 + 2 ^ 16 * f 2 + 2 ^ 24 * f 3

-- the order of numbers of 32 bits as signed ones
abbrev pub signed_lt : ℕ → ℕ → Bool
signed_lt a b = nat_lt ((a + 2 ^ 31) % 2 ^ 32) ((b + 2 ^ 31) % 2 ^ 32)

-- a number of 32 bits with its sign over 64 bits
abbrev pub widened : ℕ → ℕ
widened a = if nat_lt a (2 ^ 31) then a else a + (2 ^ 64 - 2 ^ 32)

-- the result of the add unit
unfoldable pub add_result : AddOp → ℕ → ℕ → ℕ
add_result Add a b = low32 (a + b)
add_result Sub a b = low32 (a + 2 ^ 32 - b)
add_result Shr a b = a / 2 ^ (b % 32)
add_result Asr a b = low32 (widened a / 2 ^ (b % 32))
add_result Ror a b = rotate_right w32 a (b % 32)
add_result Shl a b = low32 (a * 2 ^ (b % 32))
add_result Min a b = if signed_lt a b then a else b
add_result Max a b = if signed_lt a b then b else a
add_result And a b = bit_and a b
add_result Or a b = bit_or a b
add_result Xor a b = bit_xor a b
add_result Not a b = 2 ^ 32 - 1 - a
add_result Clz a b = count_leading_zeros 32 a
add_result V8adds a b = of_bytes (λ k. min 255 (byte a k + byte b k))
add_result V8subs a b = of_bytes (λ k. byte a k - byte b k)

-- the carry of an operation on two operands, where it has one: the carry of add, the borrow of sub
abbrev pub add_carry : AddOp → Option (ℕ → ℕ → Bool)
add_carry Add = Some (λ a b. nat_le (2 ^ 32) (a + b))
add_carry Sub = Some (λ a b. nat_lt a b)
add_carry _ = None

-- the result of the mul unit
unfoldable pub mul_result : MulOp → ℕ → ℕ → ℕ
mul_result Mul24 a b = low32 (a % 2 ^ 24 * (b % 2 ^ 24))
mul_result V8muld a b = of_bytes (λ k. (byte a k * byte b k + 127) / 255)
mul_result V8min a b = of_bytes (λ k. min (byte a k) (byte b k))
mul_result V8max a b = of_bytes (λ k. max (byte a k) (byte b k))
mul_result MulV8adds a b = of_bytes (λ k. min 255 (byte a k + byte b k))
mul_result MulV8subs a b = of_bytes (λ k. byte a k - byte b k)

-- the add unit's operation of a code; none for nop and for the codes outside the profile
unfoldable pub add_op : ℕ → Option AddOp
add_op code =
    if code == 12 then Some Add
    else if code == 13 then Some Sub
    else if code == 14 then Some Shr
    else if code == 15 then Some Asr
    else if code == 16 then Some Ror
    else if code == 17 then Some Shl
    else if code == 18 then Some Min
    else if code == 19 then Some Max
    else if code == 20 then Some And
    else if code == 21 then Some Or
    else if code == 22 then Some Xor
    else if code == 23 then Some Not
    else if code == 24 then Some Clz
    else if code == 30 then Some V8adds
    else if code == 31 then Some V8subs
    else None

-- the mul unit's operation of a code; none for nop and for the code outside the profile
unfoldable pub mul_op : ℕ → Option MulOp
mul_op code =
    if code == 2 then Some Mul24
    else if code == 3 then Some V8muld
    else if code == 4 then Some V8min
    else if code == 5 then Some V8max
    else if code == 6 then Some MulV8adds
    else if code == 7 then Some MulV8subs
    else None
