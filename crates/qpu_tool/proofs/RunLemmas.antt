-- The answer to the text of a job.
use Rattle.std.proofs.Common.{◌≡◌, ℕ, List, [], ◌++◌, ap, sym, subst, ◌∙◌}
use Rattle.qpu_machine.specs.declared.actor.Actor.{Actor}
use Rattle.qpu_machine.specs.declared.journal.Run.{Run}
use Rattle.qpu_machine.specs.Machine.{MachineState}
use Rattle.qpu_machine.specs.Journal.{steps_of}
use Rattle.qpu_machine.specs.Gains.{Gained, IsRun}
use Rattle.qpu_machine.specs.Schedule.{After}
use Rattle.qpu_machine.specs.Serial.{SerialSchedule}
use Rattle.qpu_machine.specs.Ending.{IsFinal, ending_of}
use Rattle.qpu_machine.proofs.OneSerialLaw.{one_serial}
use Rattle.qpu_tool.specs.declared.answer.Answer.{Answer}
use Rattle.qpu_tool.specs.declared.answer.Answer.TheVariants.{Ran, Refused}
use Rattle.qpu_tool.specs.declared.refusal.Refusal.{Refusal}
use Rattle.qpu_tool.specs.Answer.{status_of}
use Rattle.qpu_tool.specs.Opening.{OpensJob}
use Rattle.qpu_tool.specs.Running.{FaithfulRun, RunAnswer, refused, ran}
use Rattle.qpu_tool.specs.Causes.{IsOfText}
use Rattle.qpu_tool.proofs.OpenLemmas.{one_opening, one_refused, never_refused, refusal_of_text}
use Rattle.qpu_tool.proofs.Soundness.{Sound, ends}

-- a run of a job's machine is what was promised

pub faithful : (text : List ℕ) (m n : MachineState) (before after : List Run) → OpensJob text m → before ≡ []
    → Gained before after (λ s. SerialSchedule m s n × IsRun m s n) → IsFinal n → FaithfulRun text (steps_of after) n
faithful text m n before after opens none gained stands =
    let same : gained.steps ≡ steps_of after = sym (gained.spells ∙ ap (λ (runs : List Run). steps_of runs ++ gained.steps) none) in
    record {
      opening = m;
      opens = opens;
      permitted = subst (λ (s : List Actor). After m s n) same gained.holds.1.after;
      complete = stands;
      serial = subst (λ (s : List Actor). SerialSchedule m s n) same gained.holds.0;
    }

-- one run

one_run : (text : List ℕ) (s t : List Actor) (m n : MachineState) → FaithfulRun text s m → FaithfulRun text t n → (s ≡ t) × (m ≡ n)
one_run text s t m n p q =
    one_serial q.opening m n s t
    (subst (λ (x : MachineState). SerialSchedule x s m) (one_opening text p.opening q.opening p.opens q.opens) p.serial) q.serial

abbrev answer_with : List ℕ → List Actor → MachineState → Answer
answer_with job s m = Ran (record { job = job; steps = s; machine = m })

one : (text : List ℕ) (a b : Answer) → RunAnswer text a → RunAnswer text b → a ≡ b
one text a b (refused why is) (refused other is') = ap (λ (x : Refusal). Refused x) (one_refused text why other is is')
one text a b (refused why is) (ran s m run) = absurd (never_refused text run.opening why run.opens is)
one text a b (ran s m run) (refused why is) = absurd (never_refused text run.opening why run.opens is)
one text a b (ran s m run) (ran t n run') =
    let one = one_run text s t m n run run' in
    ap (λ (x : List Actor). answer_with text x m) one.0 ∙ ap (λ (x : MachineState). answer_with text t x) one.1

of_text : (text : List ℕ) (answer : Answer) → RunAnswer text answer → IsOfText (status_of answer)
of_text text answer (refused why is) = refusal_of_text text why is
of_text text answer (ran s m run) = ends (ending_of m)

pub sound_run : Sound RunAnswer
sound_run = record { one = one; of_text = of_text }
