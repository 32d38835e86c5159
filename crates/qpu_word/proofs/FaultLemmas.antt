-- A word without a fault in any row of the table is in the profile, and the other way round.
use Rattle.std.proofs.Common.{◌≡◌, ℕ, false, refl, arith}
use Rattle.qpu_word.specs.declared.word.Fields.{Fields}
use Rattle.qpu_word.specs.declared.fault.WordFault.TheVariants.{Signal, FloatOp, ReservedOp, ReadAddress, WriteAddress, Packing, BranchCond, LoadKind, Rotation, SemaphoreTarget, NoSource}
use Rattle.qpu_word.specs.Words.{fields_of, has_fault, all_faults, word_fault, IsInProfile}
use Rattle.qpu_word.proofs.ProfileLemmas.{every_row}

-- no row of the table of faults holds
pub record IsFaultless (f : Fields) : Type 0 where
  pub signal : has_fault f Signal ≡ false
  pub float : has_fault f FloatOp ≡ false
  pub reserved : has_fault f ReservedOp ≡ false
  pub reads : has_fault f ReadAddress ≡ false
  pub writes : has_fault f WriteAddress ≡ false
  pub packing : has_fault f Packing ≡ false
  pub branch : has_fault f BranchCond ≡ false
  pub kind : has_fault f LoadKind ≡ false
  pub rotation : has_fault f Rotation ≡ false
  pub target : has_fault f SemaphoreTarget ≡ false
  pub source : has_fault f NoSource ≡ false

pub faultless : (w : ℕ) → IsInProfile w → IsFaultless (fields_of w)
unfolding word_fault
faultless w inside = record {
  signal = every_row (has_fault (fields_of w)) all_faults inside 0 Signal (omega arith);
  float = every_row (has_fault (fields_of w)) all_faults inside 1 Signal (omega arith);
  reserved = every_row (has_fault (fields_of w)) all_faults inside 2 Signal (omega arith);
  reads = every_row (has_fault (fields_of w)) all_faults inside 3 Signal (omega arith);
  writes = every_row (has_fault (fields_of w)) all_faults inside 4 Signal (omega arith);
  packing = every_row (has_fault (fields_of w)) all_faults inside 5 Signal (omega arith);
  branch = every_row (has_fault (fields_of w)) all_faults inside 6 Signal (omega arith);
  kind = every_row (has_fault (fields_of w)) all_faults inside 7 Signal (omega arith);
  rotation = every_row (has_fault (fields_of w)) all_faults inside 8 Signal (omega arith);
  target = every_row (has_fault (fields_of w)) all_faults inside 9 Signal (omega arith);
  source = every_row (has_fault (fields_of w)) all_faults inside 10 Signal (omega arith);
}

pub in_profile : (w : ℕ) → IsFaultless (fields_of w) → IsInProfile w
unfolding word_fault
in_profile w n = rw (n.signal, n.float, n.reserved, n.reads, n.writes, n.packing, n.branch, n.kind, n.rotation, n.target, n.source) refl
