-- Processors that are sent away come back as what their stretches leave.
use Rattle.std.proofs.Common.{◌≡◌, ◌≢◌, ℕ, false, [], Option, None, Some, sym, subst, ap, arith}
use Rattle.std.specs.Prelude.{slice_index_or}
use Rattle.qpu_machine.specs.Kept.{IsKeptAlone}
use Rattle.qpu_machine.specs.Local.{LocalSteps, IsOwnAfter, is_local_next}
use Rattle.qpu_machine.specs.Machine.{MachineState, words_of}
use Rattle.qpu_machine.specs.Others.{KeepsOthers}
use Rattle.qpu_machine.specs.Sound.{IsSoundMachine}
use Rattle.qpu_machine.proofs.AwayLemmas.{own_there, own_ready, own_then, back_kept}
use Rattle.qpu_rounds.specs.declared.away.Away.{Away}
use Rattle.qpu_rounds.specs.Away.{words_in, IsReadyAt, HasRun, HasRunAt, IsSent, IsSentAt, IsBackAt}

-- the program of one that was sent is the machine's
sent_words : (m : MachineState) (q : ℕ) (a : Away) → IsSent m q a → words_of m q ≡ words_in m.programs a
sent_words m q a sent = ap (λ at. slice_index_or m.programs at []) (sym sent.program)

-- what is sent is ready
pub ready_sent : (m : MachineState) (q : ℕ) (away : Option Away) → IsSoundMachine m → IsSentAt m q away → IsReadyAt m.programs away
ready_sent m q None sound sent = tt
ready_sent m q (Some a) sound sent = let few = sent.few in let most = sound.limit in record {
  there = rw sent.program (own_there m q a.processor a.steps sound sent.own);
  kept = subst (λ words. IsKeptAlone words a.processor) (sent_words m q a sent) (own_ready m q a.processor a.steps sound sent.own);
  few = omega (arith, few, most);
}

-- and after the rest of its local words it is what a stretch leaves
back_run : (m : MachineState) (q : ℕ) (a b : Away) → IsSent m q a → HasRun m.programs m.limit a b → IsBackAt m q (Some b)
back_run m q a b sent run =
    let words = sym (sent_words m q a sent) in record {
      own =
          subst (IsOwnAfter m q b.processor) (sym run.counted)
          (own_then m q a.processor b.processor a.steps run.count sent.own (subst (λ w. LocalSteps w m.limit a.processor run.count b.processor) words run.steps));
      stops = subst (λ w. is_local_next w m.limit b.processor ≡ false) words run.stops;
    }

pub back_sent : (m : MachineState) (q : ℕ) (before after : Option Away) → IsSentAt m q before → HasRunAt m.programs m.limit before after → IsBackAt m q after
back_sent m q None after sent run = subst (IsBackAt m q) (sym run) tt
back_sent m q (Some a) None sent run = absurd run
back_sent m q (Some a) (Some b) sent run = back_run m q a b sent run

-- where the other processors are kept, it stays so
pub back_kept_at : {q : ℕ} {m n : MachineState} (r : ℕ) (away : Option Away) → KeepsOthers q m n → r ≢ q → IsBackAt m r away → IsBackAt n r away
back_kept_at r None keeps apart back = tt
back_kept_at r (Some a) keeps apart back = back_kept r a.processor a.steps keeps apart back
