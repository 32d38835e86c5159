-- What the names of the language stand for goes into a word's fields.
use Rattle.std.proofs.Common.{◌≡◌, ℕ, ◌+◌, ◌<◌, inl, inr, Bool, true, false, List, Some, None, refl, arith}
use Rattle.std.specs.Prelude.{◌==◌, ◌&&◌, ◌||◌, not, nat_lt, Contains, IfSome, ◌⊎◌, if◌then◌else◌}
use Rattle.std.specs.List.{list_all}
use Rattle.std.proofs.lemmas.Bool.Decides.{nat_tests}
use Rattle.std.proofs.lemmas.List.Elements.{All-contains}
use Rattle.std.proofs.lemmas.List.Sums.{AllPass-from_list_all}
use Rattle.qpu_word.specs.declared.name.Place.{Place}
use Rattle.qpu_word.specs.declared.name.Place.TheVariants as place
use Rattle.qpu_word.specs.Words.{is_write_address, between}
use Rattle.qpu_word.specs.Canonical.{file_matters}
use Rattle.qpu_line.specs.declared.operand.Operand.{Operand}
use Rattle.qpu_line.specs.declared.operand.Operand.TheVariants as operand
use Rattle.qpu_line.specs.declared.name.Name.{Name}
use Rattle.qpu_line.specs.declared.name.Name.TheVariants as name
use Rattle.qpu_line.specs.declared.name.Register.{Register}
use Rattle.qpu_line.specs.declared.name.Register.TheVariants as register
use Rattle.qpu_line.specs.Names.{IsRowName, IsNameOfLanguage}
use Rattle.qpu_line.specs.Named.{is_source}
use Rattle.qpu_asm.specs.Roles.{target_register, target_meant, source_register, source_of, pack_of, unpack_of}
use Rattle.qpu_asm.specs.reader.Meanings.{condition_of, branch_condition_of}

-- a write address with a name, and its file where that matters
abbrev pub is_placed : Place → Bool
is_placed (place.Both a) = is_write_address a && not (file_matters a)
is_placed (place.FileA a) = is_write_address a && file_matters a
is_placed (place.FileB a) = is_write_address a && file_matters a

abbrev pub is_source_place : Place → Bool
is_source_place (place.Both a) = false
is_source_place (place.FileA a) = is_source a
is_source_place (place.FileB a) = is_source a

abbrev pub is_good_register : Register → Bool
is_good_register (register.Accumulator n) = nat_lt n 6
is_good_register (register.RowA n) = nat_lt n 32
is_good_register (register.RowB n) = nat_lt n 32
is_good_register register.Vpm = true
is_good_register (register.Source p) = is_source_place p
is_good_register (register.Target p) = is_placed p

abbrev pub is_pack : ℕ → Bool
is_pack mode = between 1 mode 7 || between 9 mode 15

abbrev pub is_good : Name → Bool
is_good (name.Condition n) = between 1 n 7
is_good (name.BranchCondition n) = nat_lt n 12
is_good (name.Pack mode) = is_pack mode
is_good (name.Register r) = is_good_register r
is_good _ = true

-- of the language's names
row_good : (n : Name) → IsRowName n → is_good n ≡ true
row_good (name.Register (register.RowA n)) low = grind (arith, nat_tests, low)
row_good (name.Register (register.RowB n)) low = grind (arith, nat_tests, low)
row_good _ never = absurd never

good_by : (words : List Name) (n : Name) → list_all is_good words ≡ true → IsRowName n ⊎ Contains words n → is_good n ≡ true
good_by words n all (inl row) = row_good n row
good_by words n all (inr among) = All-contains (λ m. is_good m ≡ true) words n (AllPass-from_list_all is_good words all) among

pub name_good : (n : Name) → IsNameOfLanguage n → is_good n ≡ true
name_good n proper = search (good_by, proper)

-- targets
acc_placed : (n : ℕ) (b : Bool) → nat_lt n 4 ≡ b → IfSome (if b then Some (place.Both (32 + n)) else None) (λ p. is_placed p ≡ true)
acc_placed n true low = grind (arith, nat_tests, low)
acc_placed n false low = tt

register_placed : (r : Register) → is_good_register r ≡ true → IfSome (target_register r) (λ p. is_placed p ≡ true)
register_placed (register.Accumulator n) good = acc_placed n (nat_lt n 4) refl
register_placed (register.RowA n) good = grind (arith, nat_tests, good)
register_placed (register.RowB n) good = grind (arith, nat_tests, good)
register_placed register.Vpm good = refl
register_placed (register.Source p) good = tt
register_placed (register.Target p) good = good

pub target_good : (n : Name) → is_good n ≡ true → IfSome (target_meant n) (λ p. is_placed p ≡ true)
target_good (name.Register r) good = register_placed r good
target_good _ good = tt

-- operands
abbrev pub IsPlain : Operand → Type 0
IsPlain (operand.Accumulator n) = n < 6
IsPlain (operand.FileA n unpack) = is_source n ≡ true
IsPlain (operand.FileB n) = is_source n ≡ true
IsPlain (operand.Small code) = ⊥

row_source : (n : ℕ) → nat_lt n 32 ≡ true → is_source n ≡ true
row_source n low = grind (arith, nat_tests, low)

register_plain : (r : Register) → is_good_register r ≡ true → IfSome (source_register r) IsPlain
register_plain (register.Accumulator n) good = grind (arith, nat_tests, good)
register_plain (register.RowA n) good = row_source n good
register_plain (register.RowB n) good = row_source n good
register_plain register.Vpm good = refl
register_plain (register.Source (place.Both n)) good = tt
register_plain (register.Source (place.FileA n)) good = good
register_plain (register.Source (place.FileB n)) good = good
register_plain (register.Target p) good = tt

pub source_good : (n : Name) → is_good n ≡ true → IfSome (source_of n) IsPlain
source_good (name.Register r) good = register_plain r good
source_good _ good = tt

-- suffixes
pub pack_good : (n : Name) → is_good n ≡ true → IfSome (pack_of n) (λ mode. is_pack mode ≡ true)
pack_good (name.Pack mode) good = good
pack_good _ good = tt

unpack_by : (mode : ℕ) (b : Bool) → (nat_lt mode 8 && not (mode == 3)) ≡ b → is_pack mode ≡ true → IfSome (if b then Some mode else None) (λ m. between 1 m 7 ≡ true)
unpack_by mode true low good = let e : nat_lt mode 8 ≡ true = grind (arith, low) in grind (arith, nat_tests, e, good)
unpack_by mode false low good = tt

pub unpack_good : (n : Name) → is_good n ≡ true → IfSome (unpack_of n) (λ m. between 1 m 7 ≡ true)
unpack_good (name.Pack mode) good = unpack_by mode _ refl good
unpack_good name.Replicate good = refl
unpack_good _ good = tt

pub condition_good : (n : Name) → is_good n ≡ true → IfSome (condition_of (Some n)) (λ c. between 1 c 7 ≡ true)
condition_good (name.Condition c) good = good
condition_good _ good = tt

pub branch_condition_good : (n : Name) → is_good n ≡ true → IfSome (branch_condition_of (Some n)) (λ c. c < 12)
branch_condition_good (name.BranchCondition c) good = grind (arith, nat_tests, good)
branch_condition_good _ good = tt
