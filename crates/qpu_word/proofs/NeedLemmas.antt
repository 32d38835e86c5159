-- The set of a word's shared things is small, and empty exactly where the word is local.
use Rattle.std.proofs.Common.{◌≡◌, ◌↔◌, ℕ, ◌+◌, ◌^◌, ◌<◌, Bool, true, false, IsTrue, refl, arith}
use Rattle.std.specs.Prelude.{◌==◌, ◌||◌, if◌then◌else◌}
use Rattle.std.proofs.Math.Pow.{pow_pos}
use Rattle.qpu_word.specs.declared.word.Fields.{Fields}
use Rattle.qpu_word.specs.declared.code.TheConstants.{READ_UNIFORM, READ_VPM, READ_DMA_BUSY, READ_DMA_WAIT, READ_MUTEX, WRITE_VPM, WRITE_DMA_ADDRESS, WRITE_MUTEX, WRITE_TMU0_S, WRITE_TMU1_S}
use Rattle.qpu_word.specs.Words.{reads, reads_a, reads_b, writes, writes_a, writes_b, is_tmu_load, is_semaphore, is_shared, is_local}
use Rattle.qpu_word.specs.Needs.{bit, read_needs, write_needs, needs_of}
use Rattle.qpu_word.proofs.AloneLemmas.{IsAlone, alone}
use Rattle.qpu_word.proofs.StepLemmas.{or_left, or_right}

-- a bit that is 0 stands for nothing touched
none_of_bit : (n : ℕ) (touched : Bool) → bit n touched ≡ 0 → touched ≡ false
unfolding bit
none_of_bit n true none = let some : 0 < 2 ^ n = pow_pos n in absurd (omega arith)
none_of_bit n false none = refl

bit_of_none : (n : ℕ) (touched : Bool) → touched ≡ false → bit n touched ≡ 0
unfolding bit
bit_of_none n touched none = rw none refl

either_none : (a b : Bool) → a ≡ false → b ≡ false → (a || b) ≡ false
either_none a b left right = rw (left, right) refl

-- where the unit of neither file writes an address, no unit does
neither_file : (exchanged a b : Bool) → (if exchanged then b else a) ≡ false → (if exchanged then a else b) ≡ false → (a || b) ≡ false
neither_file true a b first second = either_none a b second first
neither_file false a b first second = either_none a b first second

no_write : (f : Fields) (address : ℕ) → writes_a f address ≡ false → writes_b f address ≡ false → writes f address ≡ false
no_write f address in_a in_b = neither_file (f.ws == 1) _ _ in_a in_b

-- a local word touches nothing
nothing_touched : (f : Fields) → IsAlone f → needs_of f ≡ 0
unfolding needs_of
nothing_touched f a =
    rw (
      bit_of_none 0 _ a.uniform,
      bit_of_none 1 _ a.vpm,
      bit_of_none 2 _ a.to_vpm,
      bit_of_none 3 _ a.busy_a,
      bit_of_none 4 _ a.busy_b,
      bit_of_none 5 _ a.wait_a,
      bit_of_none 6 _ a.wait_b,
      bit_of_none 7 _ a.start_a,
      bit_of_none 8 _ a.start_b,
      bit_of_none 9 _ (either_none _ _ a.look0 a.look1),
      bit_of_none 10 _ (either_none _ _ a.take0 a.take1),
      bit_of_none 11 _ a.mutex,
      bit_of_none 12 _ a.release,
      bit_of_none 13 _ a.semaphore,
    )
    refl

-- a word that touches nothing is local
local_where_nothing : (f : Fields) → read_needs f + write_needs f ≡ 0 → is_local f ≡ true
unfolding is_shared
local_where_nothing f none =
    let uniform : reads f READ_UNIFORM ≡ false = none_of_bit 0 _ (omega arith) in
    let vpm : reads f READ_VPM ≡ false = none_of_bit 1 _ (omega arith) in
    let to_vpm : writes f WRITE_VPM ≡ false = none_of_bit 2 _ (omega arith) in
    let busy_a : reads_a f READ_DMA_BUSY ≡ false = none_of_bit 3 _ (omega arith) in
    let busy_b : reads_b f READ_DMA_BUSY ≡ false = none_of_bit 4 _ (omega arith) in
    let wait_a : reads_a f READ_DMA_WAIT ≡ false = none_of_bit 5 _ (omega arith) in
    let wait_b : reads_b f READ_DMA_WAIT ≡ false = none_of_bit 6 _ (omega arith) in
    let start : writes f WRITE_DMA_ADDRESS ≡ false = no_write f WRITE_DMA_ADDRESS (none_of_bit 7 _ (omega arith)) (none_of_bit 8 _ (omega arith)) in
    let look : (writes f WRITE_TMU0_S || writes f WRITE_TMU1_S) ≡ false = none_of_bit 9 _ (omega arith) in
    let take : (is_tmu_load f 0 || is_tmu_load f 1) ≡ false = none_of_bit 10 _ (omega arith) in
    let mutex : reads f READ_MUTEX ≡ false = none_of_bit 11 _ (omega arith) in
    let release : writes f WRITE_MUTEX ≡ false = none_of_bit 12 _ (omega arith) in
    let semaphore : is_semaphore f ≡ false = none_of_bit 13 _ (omega arith) in
    let busy : reads f READ_DMA_BUSY ≡ false = either_none _ _ busy_a busy_b in
    let wait : reads f READ_DMA_WAIT ≡ false = either_none _ _ wait_a wait_b in
    let look0 : writes f WRITE_TMU0_S ≡ false = or_left _ _ look in
    let look1 : writes f WRITE_TMU1_S ≡ false = or_right _ _ look in
    let take0 : is_tmu_load f 0 ≡ false = or_left _ _ take in
    let take1 : is_tmu_load f 1 ≡ false = or_right _ _ take in
    rw (uniform, vpm, busy, wait, mutex, to_vpm, start, release, look0, look1, take0, take1, semaphore) refl

-- the set is empty exactly where the word is local
pub empty_where_local : (f : Fields) → (read_needs f + write_needs f ≡ 0) ↔ IsTrue (is_local f)
unfolding needs_of
empty_where_local f = (local_where_nothing f, λ local. nothing_touched f (alone f local))
