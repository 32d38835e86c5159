-- What code may lean on where an instruction has no cause to await. This project's own.
use Rattle.std.specs.Prelude.{◌≡◌, ℕ, ◌==◌, ◌&&◌, not, false, is_some, is_none}
use Rattle.qpu_word.specs.declared.word.Fields.{Fields}
use Rattle.qpu_word.specs.declared.code.TheConstants.{READ_MUTEX, SEMAPHORE_MOST}
use Rattle.qpu_word.specs.Words.{reads, is_tmu_load, is_semaphore}
use Rattle.qpu_tmu.specs.Looks.{oldest_words}
use Rattle.qpu_shared.specs.SharedState.{SharedState}
use Rattle.qpu_shared.specs.Instruction.{is_down, count_of, looks_of, pending_of}

-- nothing is awaited of look-ups, the mutex and the semaphores
pub record IsFree (f : Fields) (q : ℕ) (h : SharedState) : Type 0 where
  pub take0 : (is_tmu_load f 0 && is_none (oldest_words (looks_of (pending_of h q) 0))) ≡ false
  pub take1 : (is_tmu_load f 1 && is_none (oldest_words (looks_of (pending_of h q) 1))) ≡ false
  pub mutex : (reads f READ_MUTEX && is_some h.mutex) ≡ false
  pub up : (is_semaphore f && not (is_down f) && (count_of h f.number == SEMAPHORE_MOST)) ≡ false
  pub down : (is_semaphore f && is_down f && (count_of h f.number == 0)) ≡ false
