-- What holds of a word that may follow a path of a clean program: what its processor and the shared
-- parts can lean on. This project's own.
use Rattle.std.specs.Prelude.{◌≡◌, ◌<◌, ◌≤◌, ◌+◌, ℕ, true, false, List, length, IfSome}
use Rattle.qpu_word.specs.declared.code.TheConstants.{READ_UNIFORM, WRITE_UNIFORMS_ADDRESS, LOOK_UPS}
use Rattle.qpu_word.specs.Words.{is_branch, is_program_end, is_tmu_load, reads, writes}
use Rattle.qpu_flow.specs.Code.{fields_at}
use Rattle.qpu_hazard.specs.Demands.{actions, looks_made, tests_zn, tests_carry, uses_r4}
use Rattle.qpu_hazard.specs.Paths.{last_of, earlier_of, slots_of, r4_defined, flags_defined, c_defined, outstanding_looks}

-- the word stands in the program
abbrev pub IsThere : List ℕ → ℕ → Type 0
IsThere code a = a < length code

-- where it reads a uniform, neither of the two words before wrote the uniforms address
pub record UniformsHold (code t : List ℕ) (a : ℕ) : Type 0 where
  pub last : reads (fields_at code a) READ_UNIFORM ≡ true → IfSome (last_of t) (λ b. writes (fields_at code b) WRITE_UNIFORMS_ADDRESS ≡ false)
  pub earlier : reads (fields_at code a) READ_UNIFORM ≡ true → IfSome (earlier_of t) (λ b. writes (fields_at code b) WRITE_UNIFORMS_ADDRESS ≡ false)

-- in a slot it is no branch and no program end
abbrev pub SlotsHold : List ℕ → List ℕ → ℕ → Type 0
SlotsHold code t a =
    IfSome (slots_of code t) (λ s. 0 < s.left → (is_branch (fields_at code a) ≡ false) × (is_program_end (fields_at code a) ≡ false))

-- what it uses and tests is defined
pub record DefinedHold (code t : List ℕ) (a : ℕ) : Type 0 where
  pub r4 : uses_r4 (fields_at code a) ≡ true → r4_defined code t ≡ true
  pub flags : tests_zn (fields_at code a) ≡ true → flags_defined code t ≡ true
  pub carry : tests_carry (fields_at code a) ≡ true → c_defined code t ≡ true

-- a look-up of a unit finds fewer than four outstanding, a TMU load finds one, and four are never
-- passed
pub record LooksHold (code t : List ℕ) (a unit : ℕ) : Type 0 where
  pub room : 0 < looks_made (fields_at code a) unit → outstanding_looks code unit t < LOOK_UPS
  pub one : is_tmu_load (fields_at code a) unit ≡ true → 0 < outstanding_looks code unit t
  pub most : outstanding_looks code unit t + looks_made (fields_at code a) unit ≤ LOOK_UPS

-- all of it
pub record WordHolds (code t : List ℕ) (a : ℕ) : Type 0 where
  pub there : IsThere code a
  pub uniforms : UniformsHold code t a
  pub slots : SlotsHold code t a
  pub defined : DefinedHold code t a
  pub looks_0 : LooksHold code t a 0
  pub looks_1 : LooksHold code t a 1
  pub actions : actions (fields_at code a) ≤ 1
