-- A word without an address of the shared parts, a look-up and a semaphore is local.
use Rattle.std.proofs.Common.{◌≡◌, ◌<◌, ◌≤◌, ℕ, Bool, true, false, refl, arith}
use Rattle.std.proofs.lemmas.Bool.Decides.{nat_tests}
use Rattle.std.specs.Prelude.{◌==◌, ◌&&◌, ◌||◌, nat_lt, IsTrue}
use Rattle.qpu_word.specs.declared.word.Fields.{Fields}
use Rattle.qpu_word.specs.declared.code.TheConstants.{READ_UNIFORM, READ_VPM, READ_DMA_BUSY, READ_DMA_WAIT, READ_MUTEX, WRITE_VPM, WRITE_DMA_ADDRESS, WRITE_MUTEX, WRITE_TMU0_S, WRITE_TMU1_S}
use Rattle.qpu_word.specs.Words.{is_local, is_shared, is_tmu_load, is_semaphore, reads, writes, add_writes, mul_writes}

neither_of : (a b : Bool) → (a || b) ≡ false → (a ≡ false) × (b ≡ false)
neither_of false b none = (refl, none)
neither_of true b none = absurd (cc)

unwritten_by : (acts : Bool) (at n : ℕ) → at < WRITE_VPM → WRITE_VPM ≤ n → (acts && (at == n)) ≡ false
unwritten_by acts at n below past = grind (arith, nat_tests)

second_below : (n : ℕ) → IsTrue (nat_lt n WRITE_VPM) → n < WRITE_VPM
second_below n below = grind (arith, nat_tests)

-- a word whose write addresses stand below those of the shared parts writes none of them
pub unwritten : (f : Fields) → f.waddr_add < WRITE_VPM → IsTrue (nat_lt f.waddr_mul WRITE_VPM) → (n : ℕ) → WRITE_VPM ≤ n → writes f n ≡ false
unwritten f add mul n past =
    rw (unwritten_by (add_writes f) f.waddr_add n add past, unwritten_by (mul_writes f) f.waddr_mul n (second_below f.waddr_mul mul) past) refl

-- a word that touches nothing shared is local
pub local_by : (f : Fields) → reads f READ_UNIFORM ≡ false → ((n : ℕ) → READ_VPM ≤ n → reads f n ≡ false)
    → ((n : ℕ) → WRITE_VPM ≤ n → writes f n ≡ false) → (is_tmu_load f 0 || is_tmu_load f 1) ≡ false → is_semaphore f ≡ false
    → IsTrue (is_local f)
unfolding is_shared
local_by f uniform read written taken counted =
    let loads = neither_of (is_tmu_load f 0) (is_tmu_load f 1) taken in
    rw (
      uniform,
      read READ_VPM (omega arith),
      read READ_DMA_BUSY (omega arith),
      read READ_DMA_WAIT (omega arith),
      read READ_MUTEX (omega arith),
      written WRITE_VPM (omega arith),
      written WRITE_DMA_ADDRESS (omega arith),
      written WRITE_MUTEX (omega arith),
      written WRITE_TMU0_S (omega arith),
      written WRITE_TMU1_S (omega arith),
      loads.0,
      loads.1,
      counted,
    ) refl
