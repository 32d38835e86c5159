-- The codes of operations, and the names that are written for them.
use Rattle.std.proofs.Common.{◌≡◌, ℕ, Bool, true, false, List, refl, sym, ap, arith}
use Rattle.std.proofs.lemmas.Bool.Decides.{nat_tests}
use Rattle.std.specs.Prelude.{◌==◌, Some, IsSome}
use Rattle.qpu_token.specs.declared.token.Token.{Token}
use Rattle.qpu_word.specs.declared.operation.AddOp.{AddOp}
use Rattle.qpu_word.specs.declared.operation.AddOp.TheVariants as add
use Rattle.qpu_word.specs.declared.operation.MulOp.TheVariants as mul
use Rattle.qpu_word.specs.Operations.{add_op, mul_op}
use Rattle.qpu_word.specs.Words.{is_unary}
use Rattle.qpu_line.specs.declared.name.Name.{Name}
use Rattle.qpu_line.specs.declared.name.Name.TheVariants as name
use Rattle.qpu_line.specs.Lines.{mul_name}
use Rattle.qpu_asm.specs.declared.placed.Placed.{Placed}
use Rattle.qpu_asm.specs.reader.Parts.{part_by, unit_part}
use Rattle.qpu_asm.specs.Roles.{add_code, op_in_mul, takes_one, is_mnemonic}

is_number : (n m : ℕ) → (n == m) ≡ true → n ≡ m
is_number n m e = grind (arith, nat_tests, e)

-- an operation of the add unit by its code
pub record IsAddOp (n : ℕ) : Type 0 where
  pub op : AddOp
  pub found : add_op n ≡ Some op
  pub code : add_code op ≡ n
  pub one : takes_one (name.Add op) ≡ is_unary n

add_add : (n : ℕ) → n ≡ 12 → IsAddOp n
unfolding add_op
add_add n is = record { op = add.Add; found = rw is refl; code = sym is; one = rw is refl }

add_sub : (n : ℕ) → n ≡ 13 → IsAddOp n
unfolding add_op
add_sub n is = record { op = add.Sub; found = rw is refl; code = sym is; one = rw is refl }

add_shr : (n : ℕ) → n ≡ 14 → IsAddOp n
unfolding add_op
add_shr n is = record { op = add.Shr; found = rw is refl; code = sym is; one = rw is refl }

add_asr : (n : ℕ) → n ≡ 15 → IsAddOp n
unfolding add_op
add_asr n is = record { op = add.Asr; found = rw is refl; code = sym is; one = rw is refl }

add_ror : (n : ℕ) → n ≡ 16 → IsAddOp n
unfolding add_op
add_ror n is = record { op = add.Ror; found = rw is refl; code = sym is; one = rw is refl }

add_shl : (n : ℕ) → n ≡ 17 → IsAddOp n
unfolding add_op
add_shl n is = record { op = add.Shl; found = rw is refl; code = sym is; one = rw is refl }

add_min : (n : ℕ) → n ≡ 18 → IsAddOp n
unfolding add_op
add_min n is = record { op = add.Min; found = rw is refl; code = sym is; one = rw is refl }

add_max : (n : ℕ) → n ≡ 19 → IsAddOp n
unfolding add_op
add_max n is = record { op = add.Max; found = rw is refl; code = sym is; one = rw is refl }

add_and : (n : ℕ) → n ≡ 20 → IsAddOp n
unfolding add_op
add_and n is = record { op = add.And; found = rw is refl; code = sym is; one = rw is refl }

add_or : (n : ℕ) → n ≡ 21 → IsAddOp n
unfolding add_op
add_or n is = record { op = add.Or; found = rw is refl; code = sym is; one = rw is refl }

add_xor : (n : ℕ) → n ≡ 22 → IsAddOp n
unfolding add_op
add_xor n is = record { op = add.Xor; found = rw is refl; code = sym is; one = rw is refl }

add_not : (n : ℕ) → n ≡ 23 → IsAddOp n
unfolding add_op
add_not n is = record { op = add.Not; found = rw is refl; code = sym is; one = rw is refl }

add_clz : (n : ℕ) → n ≡ 24 → IsAddOp n
unfolding add_op
add_clz n is = record { op = add.Clz; found = rw is refl; code = sym is; one = rw is refl }

add_v8adds : (n : ℕ) → n ≡ 30 → IsAddOp n
unfolding add_op
add_v8adds n is = record { op = add.V8adds; found = rw is refl; code = sym is; one = rw is refl }

add_v8subs : (n : ℕ) → n ≡ 31 → IsAddOp n
unfolding add_op
add_v8subs n is = record { op = add.V8subs; found = rw is refl; code = sym is; one = rw is refl }

add_by : (n : ℕ) (b12 b13 b14 b15 b16 b17 b18 b19 b20 b21 b22 b23 b24 b30 b31 : Bool) → (n == 12) ≡ b12 → (n == 13) ≡ b13 → (n == 14) ≡ b14 → (n == 15) ≡ b15 → (n == 16) ≡ b16 → (n == 17) ≡ b17 → (n == 18) ≡ b18 → (n == 19) ≡ b19 → (n == 20) ≡ b20 → (n == 21) ≡ b21 → (n == 22) ≡ b22 → (n == 23) ≡ b23 → (n == 24) ≡ b24 → (n == 30) ≡ b30 → (n == 31) ≡ b31 → IsSome (add_op n) → IsAddOp n
unfolding add_op
add_by n true b13 b14 b15 b16 b17 b18 b19 b20 b21 b22 b23 b24 b30 b31 e12 e13 e14 e15 e16 e17 e18 e19 e20 e21 e22 e23 e24 e30 e31 some = add_add n (is_number n 12 e12)
add_by n false true b14 b15 b16 b17 b18 b19 b20 b21 b22 b23 b24 b30 b31 e12 e13 e14 e15 e16 e17 e18 e19 e20 e21 e22 e23 e24 e30 e31 some = add_sub n (is_number n 13 e13)
add_by n false false true b15 b16 b17 b18 b19 b20 b21 b22 b23 b24 b30 b31 e12 e13 e14 e15 e16 e17 e18 e19 e20 e21 e22 e23 e24 e30 e31 some = add_shr n (is_number n 14 e14)
add_by n false false false true b16 b17 b18 b19 b20 b21 b22 b23 b24 b30 b31 e12 e13 e14 e15 e16 e17 e18 e19 e20 e21 e22 e23 e24 e30 e31 some = add_asr n (is_number n 15 e15)
add_by n false false false false true b17 b18 b19 b20 b21 b22 b23 b24 b30 b31 e12 e13 e14 e15 e16 e17 e18 e19 e20 e21 e22 e23 e24 e30 e31 some = add_ror n (is_number n 16 e16)
add_by n false false false false false true b18 b19 b20 b21 b22 b23 b24 b30 b31 e12 e13 e14 e15 e16 e17 e18 e19 e20 e21 e22 e23 e24 e30 e31 some = add_shl n (is_number n 17 e17)
add_by n false false false false false false true b19 b20 b21 b22 b23 b24 b30 b31 e12 e13 e14 e15 e16 e17 e18 e19 e20 e21 e22 e23 e24 e30 e31 some = add_min n (is_number n 18 e18)
add_by n false false false false false false false true b20 b21 b22 b23 b24 b30 b31 e12 e13 e14 e15 e16 e17 e18 e19 e20 e21 e22 e23 e24 e30 e31 some = add_max n (is_number n 19 e19)
add_by n false false false false false false false false true b21 b22 b23 b24 b30 b31 e12 e13 e14 e15 e16 e17 e18 e19 e20 e21 e22 e23 e24 e30 e31 some = add_and n (is_number n 20 e20)
add_by n false false false false false false false false false true b22 b23 b24 b30 b31 e12 e13 e14 e15 e16 e17 e18 e19 e20 e21 e22 e23 e24 e30 e31 some = add_or n (is_number n 21 e21)
add_by n false false false false false false false false false false true b23 b24 b30 b31 e12 e13 e14 e15 e16 e17 e18 e19 e20 e21 e22 e23 e24 e30 e31 some = add_xor n (is_number n 22 e22)
add_by n false false false false false false false false false false false true b24 b30 b31 e12 e13 e14 e15 e16 e17 e18 e19 e20 e21 e22 e23 e24 e30 e31 some = add_not n (is_number n 23 e23)
add_by n false false false false false false false false false false false false true b30 b31 e12 e13 e14 e15 e16 e17 e18 e19 e20 e21 e22 e23 e24 e30 e31 some = add_clz n (is_number n 24 e24)
add_by n false false false false false false false false false false false false false true b31 e12 e13 e14 e15 e16 e17 e18 e19 e20 e21 e22 e23 e24 e30 e31 some = add_v8adds n (is_number n 30 e30)
add_by n false false false false false false false false false false false false false false true e12 e13 e14 e15 e16 e17 e18 e19 e20 e21 e22 e23 e24 e30 e31 some = add_v8subs n (is_number n 31 e31)
add_by n false false false false false false false false false false false false false false false e12 e13 e14 e15 e16 e17 e18 e19 e20 e21 e22 e23 e24 e30 e31 some = let no : false ≡ true = rw (e12, e13, e14, e15, e16, e17, e18, e19, e20, e21, e22, e23, e24, e30, e31) at some in absurd cc

pub add_known : (n : ℕ) → IsSome (add_op n) → IsAddOp n
add_known n some = add_by n (n == 12) (n == 13) (n == 14) (n == 15) (n == 16) (n == 17) (n == 18) (n == 19) (n == 20) (n == 21) (n == 22) (n == 23) (n == 24) (n == 30) (n == 31) refl refl refl refl refl refl refl refl refl refl refl refl refl refl refl some

-- an operation of the mul unit by its code
pub record IsMulOp (n : ℕ) : Type 0 where
  pub op : Name
  pub named : mul_name (mul_op n) ≡ op
  pub code : op_in_mul op ≡ Some n
  pub one : takes_one op ≡ false
  pub mnemonic : is_mnemonic op ≡ true
  pub part : (token end : Token) (xs : List Placed) → part_by op token end xs ≡ unit_part op token end xs

mul_mul24 : (n : ℕ) → n ≡ 2 → IsMulOp n
unfolding mul_op part_by
mul_mul24 n is = record { op = name.Mul mul.Mul24; named = rw is refl; code = ap (λ (z : ℕ). Some z) (sym is); one = refl; mnemonic = refl; part = λ token end xs. refl }

mul_v8muld : (n : ℕ) → n ≡ 3 → IsMulOp n
unfolding mul_op part_by
mul_v8muld n is = record { op = name.Mul mul.V8muld; named = rw is refl; code = ap (λ (z : ℕ). Some z) (sym is); one = refl; mnemonic = refl; part = λ token end xs. refl }

mul_v8min : (n : ℕ) → n ≡ 4 → IsMulOp n
unfolding mul_op part_by
mul_v8min n is = record { op = name.Mul mul.V8min; named = rw is refl; code = ap (λ (z : ℕ). Some z) (sym is); one = refl; mnemonic = refl; part = λ token end xs. refl }

mul_v8max : (n : ℕ) → n ≡ 5 → IsMulOp n
unfolding mul_op part_by
mul_v8max n is = record { op = name.Mul mul.V8max; named = rw is refl; code = ap (λ (z : ℕ). Some z) (sym is); one = refl; mnemonic = refl; part = λ token end xs. refl }

mul_v8adds : (n : ℕ) → n ≡ 6 → IsMulOp n
unfolding mul_op part_by
mul_v8adds n is = record { op = name.Add add.V8adds; named = rw is refl; code = ap (λ (z : ℕ). Some z) (sym is); one = refl; mnemonic = refl; part = λ token end xs. refl }

mul_v8subs : (n : ℕ) → n ≡ 7 → IsMulOp n
unfolding mul_op part_by
mul_v8subs n is = record { op = name.Add add.V8subs; named = rw is refl; code = ap (λ (z : ℕ). Some z) (sym is); one = refl; mnemonic = refl; part = λ token end xs. refl }

mul_by : (n : ℕ) (b2 b3 b4 b5 b6 b7 : Bool) → (n == 2) ≡ b2 → (n == 3) ≡ b3 → (n == 4) ≡ b4 → (n == 5) ≡ b5 → (n == 6) ≡ b6 → (n == 7) ≡ b7 → IsSome (mul_op n) → IsMulOp n
unfolding mul_op
mul_by n true b3 b4 b5 b6 b7 e2 e3 e4 e5 e6 e7 some = mul_mul24 n (is_number n 2 e2)
mul_by n false true b4 b5 b6 b7 e2 e3 e4 e5 e6 e7 some = mul_v8muld n (is_number n 3 e3)
mul_by n false false true b5 b6 b7 e2 e3 e4 e5 e6 e7 some = mul_v8min n (is_number n 4 e4)
mul_by n false false false true b6 b7 e2 e3 e4 e5 e6 e7 some = mul_v8max n (is_number n 5 e5)
mul_by n false false false false true b7 e2 e3 e4 e5 e6 e7 some = mul_v8adds n (is_number n 6 e6)
mul_by n false false false false false true e2 e3 e4 e5 e6 e7 some = mul_v8subs n (is_number n 7 e7)
mul_by n false false false false false false e2 e3 e4 e5 e6 e7 some = let no : false ≡ true = rw (e2, e3, e4, e5, e6, e7) at some in absurd cc

pub mul_known : (n : ℕ) → IsSome (mul_op n) → IsMulOp n
mul_known n some = mul_by n (n == 2) (n == 3) (n == 4) (n == 5) (n == 6) (n == 7) refl refl refl refl refl refl some
