-- Names with numbers that are among the names of the language.
use Rattle.std.proofs.Common.{◌≡◌, ℕ, inr, Bool, true, false, ◌||◌, List, [], ◌∷◌, refl, subst, arith}
use Rattle.std.specs.Prelude.{◌==◌, Option, Some, None}
use Rattle.std.specs.List.{list_any}
use Rattle.std.proofs.lemmas.Bool.Decides.{nat_tests}
use Rattle.qpu_word.specs.declared.name.Place.TheVariants as place
use Rattle.qpu_word.specs.declared.operation.AddOp.{AddOp}
use Rattle.qpu_word.specs.declared.operation.AddOp.TheVariants as add
use Rattle.qpu_word.specs.declared.operation.MulOp.{MulOp}
use Rattle.qpu_word.specs.declared.operation.MulOp.TheVariants as mul
use Rattle.qpu_line.specs.declared.load.LoadKind.{LoadKind}
use Rattle.qpu_line.specs.declared.load.LoadKind.TheVariants as kind
use Rattle.qpu_line.specs.declared.name.Name.TheVariants as name
use Rattle.qpu_line.specs.declared.name.Register.TheVariants as register
use Rattle.qpu_line.specs.Lines.{add_name, mul_name}
use Rattle.qpu_dis.proofs.NameFacts.{is_packed}
use Rattle.qpu_line.specs.Names.{IsNameOfLanguage}

-- what holds of some numbers holds of each that is one of them
AllOf : (ℕ → Type 0) → List ℕ → Type 0
AllOf P [] = Unit {0}
AllOf P (m ∷ ms) = P m × AllOf P ms

first_or_later : (P : ℕ → Type 0) (m : ℕ) (ms : List ℕ) (n : ℕ) → P m → (list_any (λ m. n == m) ms ≡ true → P n)
    → ((n == m) || list_any (λ m. n == m) ms) ≡ true → P n
first_or_later P m ms n first later some = by_first (n == m) refl some
  where
    by_first : (b : Bool) → (n == m) ≡ b → (b || list_any (λ m. n == m) ms) ≡ true → P n
    by_first true e some = let same : m ≡ n = grind (arith, nat_tests, e) in subst P same first
    by_first false e some = later some

pick : (P : ℕ → Type 0) (ms : List ℕ) → AllOf P ms → (n : ℕ) → list_any (λ m. n == m) ms ≡ true → P n
unfolding AllOf
pick P [] all n some = cc
pick P (m ∷ ms) all n some = first_or_later P m ms n all.0 (pick P ms all.1 n) some

-- write conditions, branch conditions, pack modes
pub a_condition : (n : ℕ) → list_any (λ m. n == m) (2 ∷ 3 ∷ 4 ∷ 5 ∷ 6 ∷ 7 ∷ []) ≡ true → IsNameOfLanguage (name.Condition n)
unfolding AllOf
a_condition = pick (λ n. IsNameOfLanguage (name.Condition n)) (2 ∷ 3 ∷ 4 ∷ 5 ∷ 6 ∷ 7 ∷ []) (inr (40, omega arith, refl), (inr (41, omega arith, refl), (inr (42, omega arith, refl), (inr (43, omega arith, refl), (inr (44, omega arith, refl), (inr (45, omega arith, refl), tt))))))

pub a_branch_condition : (n : ℕ) → list_any (λ m. n == m) (0 ∷ 1 ∷ 2 ∷ 3 ∷ 4 ∷ 5 ∷ 6 ∷ 7 ∷ 8 ∷ 9 ∷ 10 ∷ 11 ∷ []) ≡ true → IsNameOfLanguage (name.BranchCondition n)
unfolding AllOf
a_branch_condition = pick (λ n. IsNameOfLanguage (name.BranchCondition n)) (0 ∷ 1 ∷ 2 ∷ 3 ∷ 4 ∷ 5 ∷ 6 ∷ 7 ∷ 8 ∷ 9 ∷ 10 ∷ 11 ∷ []) (inr (46, omega arith, refl), (inr (47, omega arith, refl), (inr (48, omega arith, refl), (inr (49, omega arith, refl), (inr (50, omega arith, refl), (inr (51, omega arith, refl), (inr (52, omega arith, refl), (inr (53, omega arith, refl), (inr (54, omega arith, refl), (inr (55, omega arith, refl), (inr (56, omega arith, refl), (inr (57, omega arith, refl), tt))))))))))))

pub a_pack : (n : ℕ) → list_any (λ m. n == m) (1 ∷ 2 ∷ 3 ∷ 4 ∷ 5 ∷ 6 ∷ 7 ∷ 9 ∷ 10 ∷ 11 ∷ 12 ∷ 13 ∷ 14 ∷ 15 ∷ []) ≡ true → IsNameOfLanguage (name.Pack n)
unfolding AllOf
a_pack = pick (λ n. IsNameOfLanguage (name.Pack n)) (1 ∷ 2 ∷ 3 ∷ 4 ∷ 5 ∷ 6 ∷ 7 ∷ 9 ∷ 10 ∷ 11 ∷ 12 ∷ 13 ∷ 14 ∷ 15 ∷ []) (inr (58, omega arith, refl), (inr (59, omega arith, refl), (inr (60, omega arith, refl), (inr (61, omega arith, refl), (inr (62, omega arith, refl), (inr (63, omega arith, refl), (inr (64, omega arith, refl), (inr (65, omega arith, refl), (inr (66, omega arith, refl), (inr (67, omega arith, refl), (inr (68, omega arith, refl), (inr (69, omega arith, refl), (inr (70, omega arith, refl), (inr (71, omega arith, refl), tt))))))))))))))

-- accumulators
pub an_accumulator : (n : ℕ) → list_any (λ m. n == m) (0 ∷ 1 ∷ 2 ∷ 3 ∷ 4 ∷ 5 ∷ []) ≡ true → IsNameOfLanguage (name.Register (register.Accumulator n))
unfolding AllOf
an_accumulator = pick (λ n. IsNameOfLanguage (name.Register (register.Accumulator n))) (0 ∷ 1 ∷ 2 ∷ 3 ∷ 4 ∷ 5 ∷ []) (inr (73, omega arith, refl), (inr (74, omega arith, refl), (inr (75, omega arith, refl), (inr (76, omega arith, refl), (inr (77, omega arith, refl), (inr (78, omega arith, refl), tt))))))

-- what is only read
pub a_source_of_a : (n : ℕ) → list_any (λ m. n == m) (32 ∷ 38 ∷ 49 ∷ 50 ∷ 51 ∷ []) ≡ true → IsNameOfLanguage (name.Register (register.Source (place.FileA n)))
unfolding AllOf
a_source_of_a = pick (λ n. IsNameOfLanguage (name.Register (register.Source (place.FileA n)))) (32 ∷ 38 ∷ 49 ∷ 50 ∷ 51 ∷ []) (inr (80, omega arith, refl), (inr (82, omega arith, refl), (inr (85, omega arith, refl), (inr (87, omega arith, refl), (inr (89, omega arith, refl), tt)))))

pub a_source_of_b : (n : ℕ) → list_any (λ m. n == m) (32 ∷ 38 ∷ 48 ∷ 49 ∷ 50 ∷ 51 ∷ []) ≡ true → IsNameOfLanguage (name.Register (register.Source (place.FileB n)))
unfolding AllOf
a_source_of_b = pick (λ n. IsNameOfLanguage (name.Register (register.Source (place.FileB n)))) (32 ∷ 38 ∷ 48 ∷ 49 ∷ 50 ∷ 51 ∷ []) (inr (81, omega arith, refl), (inr (83, omega arith, refl), (inr (84, omega arith, refl), (inr (86, omega arith, refl), (inr (88, omega arith, refl), (inr (90, omega arith, refl), tt))))))

-- what is only written
pub a_target_of_both : (n : ℕ) → list_any (λ m. n == m) (38 ∷ 40 ∷ 51 ∷ 56 ∷ 60 ∷ []) ≡ true → IsNameOfLanguage (name.Register (register.Target (place.Both n)))
unfolding AllOf
a_target_of_both = pick (λ n. IsNameOfLanguage (name.Register (register.Target (place.Both n)))) (38 ∷ 40 ∷ 51 ∷ 56 ∷ 60 ∷ []) (inr (93, omega arith, refl), (inr (94, omega arith, refl), (inr (99, omega arith, refl), (inr (100, omega arith, refl), (inr (101, omega arith, refl), tt)))))

pub a_target_of_a : (n : ℕ) → list_any (λ m. n == m) (37 ∷ 49 ∷ 50 ∷ []) ≡ true → IsNameOfLanguage (name.Register (register.Target (place.FileA n)))
unfolding AllOf
a_target_of_a = pick (λ n. IsNameOfLanguage (name.Register (register.Target (place.FileA n)))) (37 ∷ 49 ∷ 50 ∷ []) (inr (91, omega arith, refl), (inr (95, omega arith, refl), (inr (97, omega arith, refl), tt)))

pub a_target_of_b : (n : ℕ) → list_any (λ m. n == m) (37 ∷ 49 ∷ 50 ∷ []) ≡ true → IsNameOfLanguage (name.Register (register.Target (place.FileB n)))
unfolding AllOf
a_target_of_b = pick (λ n. IsNameOfLanguage (name.Register (register.Target (place.FileB n)))) (37 ∷ 49 ∷ 50 ∷ []) (inr (92, omega arith, refl), (inr (96, omega arith, refl), (inr (98, omega arith, refl), tt)))

-- operations

an_add_op : (op : AddOp) → IsNameOfLanguage (name.Add op)
an_add_op add.Add = inr (0, omega arith, refl)
an_add_op add.Sub = inr (1, omega arith, refl)
an_add_op add.Shr = inr (2, omega arith, refl)
an_add_op add.Asr = inr (3, omega arith, refl)
an_add_op add.Ror = inr (4, omega arith, refl)
an_add_op add.Shl = inr (5, omega arith, refl)
an_add_op add.Min = inr (6, omega arith, refl)
an_add_op add.Max = inr (7, omega arith, refl)
an_add_op add.And = inr (8, omega arith, refl)
an_add_op add.Or = inr (9, omega arith, refl)
an_add_op add.Xor = inr (10, omega arith, refl)
an_add_op add.Not = inr (11, omega arith, refl)
an_add_op add.Clz = inr (12, omega arith, refl)
an_add_op add.V8adds = inr (13, omega arith, refl)
an_add_op add.V8subs = inr (14, omega arith, refl)

pub an_add_name : (op : Option AddOp) → IsNameOfLanguage (add_name op)
an_add_name None = inr (19, omega arith, refl)
an_add_name (Some op) = an_add_op op

pub a_mul_name : (op : Option MulOp) → IsNameOfLanguage (mul_name op)
a_mul_name None = inr (19, omega arith, refl)
a_mul_name (Some mul.Mul24) = inr (15, omega arith, refl)
a_mul_name (Some mul.V8muld) = inr (16, omega arith, refl)
a_mul_name (Some mul.V8min) = inr (17, omega arith, refl)
a_mul_name (Some mul.V8max) = inr (18, omega arith, refl)
a_mul_name (Some mul.V8adds) = inr (13, omega arith, refl)
a_mul_name (Some mul.V8subs) = inr (14, omega arith, refl)

-- none of them is a pack mode's
pub add_plain : (op : Option AddOp) → is_packed (add_name op) ≡ false
add_plain None = refl
add_plain (Some op) = refl

pub mul_plain : (op : Option MulOp) → is_packed (mul_name op) ≡ false
mul_plain None = refl
mul_plain (Some mul.Mul24) = refl
mul_plain (Some mul.V8muld) = refl
mul_plain (Some mul.V8min) = refl
mul_plain (Some mul.V8max) = refl
mul_plain (Some mul.V8adds) = refl
mul_plain (Some mul.V8subs) = refl

pub a_load_name : (k : LoadKind) → IsNameOfLanguage (name.Load k)
a_load_name kind.Whole = inr (21, omega arith, refl)
a_load_name kind.Signed = inr (22, omega arith, refl)
a_load_name kind.Unsigned = inr (23, omega arith, refl)

-- names without a number

pub nop_name : IsNameOfLanguage name.Nop
nop_name = inr (19, omega arith, refl)

pub also_name : IsNameOfLanguage name.Also
also_name = inr (24, omega arith, refl)

pub up_name : IsNameOfLanguage name.Increment
up_name = inr (25, omega arith, refl)

pub down_name : IsNameOfLanguage name.Decrement
down_name = inr (26, omega arith, refl)

pub branch_is_named : IsNameOfLanguage name.Branch
branch_is_named = inr (27, omega arith, refl)

pub relative_is_named : IsNameOfLanguage name.RelativeBranch
relative_is_named = inr (28, omega arith, refl)

pub link_name : IsNameOfLanguage name.Link
link_name = inr (29, omega arith, refl)

pub row_word : IsNameOfLanguage name.Row
row_word = inr (30, omega arith, refl)

pub end_name : IsNameOfLanguage name.End
end_name = inr (31, omega arith, refl)

pub load0_name : IsNameOfLanguage name.Load0
load0_name = inr (32, omega arith, refl)

pub load1_name : IsNameOfLanguage name.Load1
load1_name = inr (33, omega arith, refl)

pub rotate_name : IsNameOfLanguage name.Rotate
rotate_name = inr (34, omega arith, refl)

pub read_a_name : IsNameOfLanguage name.ReadA
read_a_name = inr (35, omega arith, refl)

pub read_b_name : IsNameOfLanguage name.ReadB
read_b_name = inr (36, omega arith, refl)

pub set_flags_name : IsNameOfLanguage name.SetFlags
set_flags_name = inr (37, omega arith, refl)

pub replicate_name : IsNameOfLanguage name.Replicate
replicate_name = inr (72, omega arith, refl)

pub vpm_name : IsNameOfLanguage (name.Register register.Vpm)
vpm_name = inr (79, omega arith, refl)
