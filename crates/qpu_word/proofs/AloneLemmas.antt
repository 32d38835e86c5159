-- A local word does nothing of what is shared.
use Rattle.std.proofs.Common.{◌≡◌, Bool, true, false, not, refl, arith}
use Rattle.std.specs.Prelude.{◌||◌}
use Rattle.qpu_word.specs.declared.word.Fields.{Fields}
use Rattle.qpu_word.specs.declared.code.TheConstants.{READ_UNIFORM, READ_VPM, READ_DMA_BUSY, READ_DMA_WAIT, READ_MUTEX, WRITE_VPM, WRITE_DMA_ADDRESS, WRITE_MUTEX, WRITE_TMU0_S, WRITE_TMU1_S}
use Rattle.qpu_word.specs.Words.{reads, reads_a, reads_b, writes, writes_a, writes_b, is_tmu_load, is_semaphore, is_shared, is_local}
use Rattle.qpu_word.proofs.StepLemmas.{or_left, or_right, no_write_a, no_write_b}

-- what a local word doesn't do
pub record IsAlone (f : Fields) : Type 0 where
  pub uniform : reads f READ_UNIFORM ≡ false
  pub vpm : reads f READ_VPM ≡ false
  pub busy_a : reads_a f READ_DMA_BUSY ≡ false
  pub busy_b : reads_b f READ_DMA_BUSY ≡ false
  pub wait_a : reads_a f READ_DMA_WAIT ≡ false
  pub wait_b : reads_b f READ_DMA_WAIT ≡ false
  pub mutex : reads f READ_MUTEX ≡ false
  pub to_vpm : writes f WRITE_VPM ≡ false
  pub start_a : writes_a f WRITE_DMA_ADDRESS ≡ false
  pub start_b : writes_b f WRITE_DMA_ADDRESS ≡ false
  pub release : writes f WRITE_MUTEX ≡ false
  pub look0 : writes f WRITE_TMU0_S ≡ false
  pub look1 : writes f WRITE_TMU1_S ≡ false
  pub take0 : is_tmu_load f 0 ≡ false
  pub take1 : is_tmu_load f 1 ≡ false
  pub semaphore : is_semaphore f ≡ false

-- a list of tests none of which holds
all_false : (a b c d e g h i j k l m n : Bool) → (a || b || c || d || e || g || h || i || j || k || l || m || n) ≡ false
    → (a ≡ false) × (b ≡ false) × (c ≡ false) × (d ≡ false) × (e ≡ false) × (g ≡ false) × (h ≡ false) × (i ≡ false) × (j ≡ false) × (k ≡ false) × (l ≡ false) × (m ≡ false) × (n ≡ false)
all_false a b c d e g h i j k l m n none = grind arith

not_true : (b : Bool) → not b ≡ true → b ≡ false
not_true false h = refl
not_true true h = absurd (cc)

-- a local word is alone
pub alone : (f : Fields) → is_local f ≡ true → IsAlone f
unfolding is_shared
alone f local =
    let t = all_false (reads f READ_UNIFORM) (reads f READ_VPM) (reads f READ_DMA_BUSY) (reads f READ_DMA_WAIT) (reads f READ_MUTEX)
    (writes f WRITE_VPM) (writes f WRITE_DMA_ADDRESS) (writes f WRITE_MUTEX) (writes f WRITE_TMU0_S) (writes f WRITE_TMU1_S)
    (is_tmu_load f 0) (is_tmu_load f 1) (is_semaphore f) (not_true _ local) in
    record {
      uniform = t.0;
      vpm = t.1;
      busy_a = or_left _ _ t.2;
      busy_b = or_right _ _ t.2;
      wait_a = or_left _ _ t.3;
      wait_b = or_right _ _ t.3;
      mutex = t.4;
      to_vpm = t.5;
      start_a = no_write_a f WRITE_DMA_ADDRESS t.6;
      start_b = no_write_b f WRITE_DMA_ADDRESS t.6;
      release = t.7;
      look0 = t.8;
      look1 = t.9;
      take0 = t.10;
      take1 = t.11;
      semaphore = t.12;
    }
