-- Runs that are given one after another: those that are left stand behind those that were given.
use Rattle.std.proofs.Common.{◌≡◌, ◌<◌, ◌≤◌, ℕ, ◌+◌, zero, suc, List, [], ◌∷◌, take, drop, length, refl, ap, sym, ◌∙◌, arith, take_all, length-drop}
use Rattle.std.specs.Prelude.{slice_index_or}
use Rattle.qpu_machine.specs.declared.journal.Run.{Run}

-- the run that comes next, of all
pub record IsNext (all : List Run) (i : ℕ) (run : Run) (rest : List Run) : Type 0 where
  pub low : i < length all
  pub is : run ≡ slice_index_or all i run
  pub left : rest ≡ drop (i + 1) all

pub next_run : (all : List Run) (i : ℕ) (run : Run) (rest : List Run) → drop i all ≡ run ∷ rest → IsNext all i run rest
next_run [] zero run rest is = absurd (cc)
next_run [] (suc i) run rest is = absurd (cc)
next_run (x ∷ xs) zero run rest is =
    let first : x ≡ run = cc in
    let behind : xs ≡ rest = cc in
    record { low = omega arith; is = sym first; left = sym behind }
next_run (x ∷ xs) (suc i) run rest is =
    let n = next_run xs i run rest is in
    let more : suc (i + 1) ≡ suc i + 1 = omega arith in
    record { low = omega (arith, n.low); is = n.is; left = n.left ∙ ap (λ (k : ℕ). drop k (x ∷ xs)) more }

-- where none is left, all were given
pub all_given : (all : List Run) (i : ℕ) → i ≤ length all → drop i all ≡ [] → take i all ≡ all
all_given all i within none =
    let long : length (drop i all) ≡ 0 = ap length none in
    take_all i all (omega (arith, within, long, length-drop i all))
