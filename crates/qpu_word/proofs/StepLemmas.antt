-- What a local word does that is no branch and writes neither a setup nor the uniforms address.
use Rattle.std.proofs.Common.{◌≡◌, ℕ, Bool, true, false, List, Option, None, Ok, refl, ap}
use Rattle.std.specs.Prelude.{◌==◌, ◌&&◌, ◌||◌, if◌then◌else◌}
use Rattle.qpu_word.specs.declared.word.Fields.{Fields}
use Rattle.qpu_word.specs.declared.traffic.Outs.{Outs}
use Rattle.qpu_word.specs.declared.setup.Book.{Book}
use Rattle.qpu_word.specs.declared.code.TheConstants.{WRITE_VPM_SETUP, WRITE_UNIFORMS_ADDRESS}
use Rattle.qpu_word.specs.Words.{fields_of, is_branch, writes, writes_a, writes_b, add_writes, mul_writes}
use Rattle.qpu_word.specs.Processor.{ProcessorState}
use Rattle.qpu_word.specs.Instruction.{sent_to, sent_to_a, sent_to_b, first_lane, outs_from, outs_of, after_setups, branch_fails, done, no_ins, local_result, add_sent, mul_sent}

pub or_left : (a b : Bool) → (a || b) ≡ false → a ≡ false
or_left false b h = refl
or_left true b h = absurd (cc)

pub or_right : (a b : Bool) → (a || b) ≡ false → b ≡ false
or_right false b h = h
or_right true b h = absurd (cc)

-- either of two tests, where none of them holds
neither : (first a b : Bool) → (a || b) ≡ false → (if first then b else a) ≡ false
neither true a b none = or_right a b none
neither false a b none = or_left a b none

neither' : (first a b : Bool) → (a || b) ≡ false → (if first then a else b) ≡ false
neither' true a b none = or_left a b none
neither' false a b none = or_right a b none

-- where neither unit writes an address, the unit of file A doesn't
pub no_write_a : (f : Fields) (address : ℕ) → writes f address ≡ false → writes_a f address ≡ false
no_write_a f address none = neither (f.ws == 1) _ _ none

-- nor does the unit of file B
pub no_write_b : (f : Fields) (address : ℕ) → writes f address ≡ false → writes_b f address ≡ false
no_write_b f address none = neither' (f.ws == 1) _ _ none

pub nothing_sent : (f : Fields) (add mul : List ℕ) (address : ℕ) → writes f address ≡ false → ◌≡◌ {A = Option (List ℕ)} (sent_to f add mul address) None
unfolding sent_to
nothing_sent f add mul address none =
    rw (
      or_right (add_writes f && (f.waddr_add == address)) (mul_writes f && (f.waddr_mul == address)) none,
      or_left (add_writes f && (f.waddr_add == address)) (mul_writes f && (f.waddr_mul == address)) none,
    ) refl

pub nothing_sent_a : (f : Fields) (add mul : List ℕ) (address : ℕ) → writes f address ≡ false → ◌≡◌ {A = Option (List ℕ)} (sent_to_a f add mul address) None
unfolding sent_to_a
nothing_sent_a f add mul address none = rw (no_write_a f address none) refl

pub nothing_sent_b : (f : Fields) (add mul : List ℕ) (address : ℕ) → writes f address ≡ false → ◌≡◌ {A = Option (List ℕ)} (sent_to_b f add mul address) None
unfolding sent_to_b
nothing_sent_b f add mul address none = rw (no_write_b f address none) refl

-- what goes to the book
record LeavesBook (outs : Outs) : Type 0 where
  to_read : outs.to_read_setup ≡ None
  to_write : outs.to_write_setup ≡ None
  uniform : outs.uniform_to ≡ None

leaves_book : (f : Fields) (add mul : List ℕ) → writes f WRITE_VPM_SETUP ≡ false → writes f WRITE_UNIFORMS_ADDRESS ≡ false → LeavesBook (outs_from f add mul)
unfolding outs_from
leaves_book f add mul setup uniform = record {
  to_read = ap first_lane (nothing_sent_a f add mul WRITE_VPM_SETUP setup);
  to_write = ap first_lane (nothing_sent_b f add mul WRITE_VPM_SETUP setup);
  uniform = ap first_lane (nothing_sent f add mul WRITE_UNIFORMS_ADDRESS uniform);
}

same_book : (outs : Outs) (book : Book) → LeavesBook outs → after_setups outs book ≡ Ok book
unfolding after_setups
same_book outs book leaves = rw (leaves.to_read, leaves.to_write) refl

no_failing : (is_link : ℕ → Bool) (f : Fields) (p : ProcessorState) → is_branch f ≡ false → branch_fails is_link f p ≡ false
unfolding branch_fails
no_failing is_link f p plain = rw plain refl

-- such a word is done, with the book as it was
pub local_result_plain : (is_link : ℕ → Bool) (word : ℕ) (p : ProcessorState) → is_branch (fields_of word) ≡ false
    → writes (fields_of word) WRITE_VPM_SETUP ≡ false → writes (fields_of word) WRITE_UNIFORMS_ADDRESS ≡ false
    → local_result is_link word p ≡ Ok (done (fields_of word) p no_ins p.book)
unfolding local_result
local_result_plain is_link word p plain setup uniform =
    let leaves = leaves_book (fields_of word) (add_sent (fields_of word) p no_ins) (mul_sent (fields_of word) p no_ins) setup uniform in
    rw (no_failing is_link (fields_of word) p plain, same_book (outs_of (fields_of word) p no_ins) p.book leaves, leaves.uniform) refl
