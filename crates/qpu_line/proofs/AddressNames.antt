-- The addresses that operands and targets have are those that have a name.
use Rattle.std.proofs.Common.{◌≡◌, ◌↔◌, ℕ, Bool, true, arith}
use Rattle.std.specs.Prelude.{IsSome}
use Rattle.std.proofs.lemmas.Bool.Decides.{nat_tests}
use Rattle.qpu_word.specs.Names.{read_name, write_name}
use Rattle.qpu_word.specs.Words.{is_write_address}
use Rattle.qpu_line.specs.Named.{is_source}

source_of_name : (in_b : Bool) (address : ℕ) → IsSome (read_name in_b address) → is_source address ≡ true
unfolding read_name
source_of_name in_b address some = grind (arith, nat_tests, some)

name_of_source : (in_b : Bool) (address : ℕ) → is_source address ≡ true → IsSome (read_name in_b address)
unfolding read_name
name_of_source in_b address is = grind (arith, nat_tests, is)

target_of_name : (in_b : Bool) (address : ℕ) → IsSome (write_name in_b address) → is_write_address address ≡ true
unfolding write_name
target_of_name in_b address some = grind (arith, nat_tests, some)

name_of_target : (in_b : Bool) (address : ℕ) → is_write_address address ≡ true → IsSome (write_name in_b address)
unfolding write_name
name_of_target in_b address is = grind (arith, nat_tests, is)

pub sources_named : (in_b : Bool) (address : ℕ) → IsSome (read_name in_b address) ↔ (is_source address ≡ true)
sources_named in_b address = (source_of_name in_b address, name_of_source in_b address)

pub targets_named : (in_b : Bool) (address : ℕ) → IsSome (write_name in_b address) ↔ (is_write_address address ≡ true)
targets_named in_b address = (target_of_name in_b address, name_of_target in_b address)
