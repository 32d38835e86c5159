-- The answer to the text of a record.
use Rattle.std.proofs.Common.{◌≡◌, ◌≢◌, ◌⊎◌, inl, inr, ℕ, ◌+◌, List, [], ◌∷◌, ◌++◌, length, Option, Some, None, Result, Ok, Err, refl, ap, sym, subst, ◌∙◌, arith}
use Rattle.std.specs.Prelude.{◌==◌, true, false}
use Rattle.qpu_machine.specs.declared.actor.Actor.{Actor}
use Rattle.qpu_machine.specs.declared.conclusion.Ending.{Ending}
use Rattle.qpu_machine.specs.declared.journal.Run.{Run}
use Rattle.qpu_machine.specs.Machine.{MachineState, machine_of}
use Rattle.qpu_machine.specs.Ending.{ending_of}
use Rattle.qpu_machine.specs.Journal.{steps_of}
use Rattle.qpu_machine.specs.Schedule.{After}
use Rattle.qpu_job.specs.Plan.{Plan}
use Rattle.qpu_job.specs.Opening.{memory_of, opening_machine}
use Rattle.qpu_job.proofs.MayOpenLaw.{read_jobs_may_open}
use Rattle.qpu_record.specs.declared.fault.RecordFault.{RecordFault}
use Rattle.qpu_text.specs.Lines.{line_feeds}
use Rattle.qpu_record.specs.declared.parts.Version.{Version}
use Rattle.qpu_record.specs.declared.parts.Version.TheVariants.{First, Second}
use Rattle.qpu_record.specs.Record.{merged, record_text}
use Rattle.qpu_record.specs.Reading.{Parts, record_of}
use Rattle.qpu_report.specs.Report.{report_text}
use Rattle.qpu_replay.specs.declared.fault.ReplayFault.{ReplayFault}
use Rattle.qpu_replay.specs.declared.fault.WidenFault.TheVariants.{Replay}
use Rattle.qpu_replay.specs.Replay.{IsComplete, IsFault, Replays}
use Rattle.qpu_replay.specs.Widened.{AfterWhole, FailsBy, IsWidened}
use Rattle.qpu_replay.proofs.AnswerLemmas.{one_far, no_fault, one_fault, by_steps}
use Rattle.qpu_replay.proofs.WidenLemmas.{by_whole, widens_after}
use Rattle.qpu_printed.proofs.AsciiLemmas.{IsLow, all_low, low_all, low_append}
use Rattle.qpu_printed.proofs.HighLemmas.{none_high, none_high_back}
use Rattle.qpu_printed.proofs.RecordAscii.{records_ascii}
use Rattle.qpu_printed.proofs.ReportAscii.{reports_ascii}
use Rattle.qpu_printed.proofs.SpellLemmas.{merged_spells}
use Rattle.qpu_printed.proofs.ReadableLaw.{printed_read}
use Rattle.qpu_tool.specs.declared.answer.Answer.{Answer}
use Rattle.qpu_tool.specs.declared.answer.Answer.TheVariants.{Refused, Report as Reported}
use Rattle.qpu_tool.specs.declared.refusal.Refusal.{Refusal}
use Rattle.qpu_tool.specs.declared.refusal.Refusal.TheVariants.{Record, Schedule, Report}
use Rattle.qpu_tool.specs.Ascii.{IsAscii}
use Rattle.qpu_tool.specs.Answer.{status_of}
use Rattle.qpu_tool.specs.Opening.{OpensJob, JobRefusal}
use Rattle.qpu_tool.specs.Running.{CanRun}
use Rattle.qpu_tool.specs.Replaying.{leads_by, OpensRecord, RecordAnswer, no_record, no_start, not_taken, other_report, replayed, differing_line, IsUnlike}
use Rattle.qpu_tool.specs.Causes.{IsOfText}
use Rattle.qpu_tool.proofs.DifferLemmas.{differs_not, same_texts}
use Rattle.qpu_tool.proofs.OpenLemmas.{one_opening, one_refused, never_refused, refusal_of_text}
use Rattle.qpu_tool.proofs.ResultLemmas.{one_value, one_error, not_both, one_some}
use Rattle.qpu_tool.proofs.Soundness.{Sound, ends}

-- a text opens one machine
one_record : (text : List ℕ) (parts other : Parts) (m n : MachineState) → OpensRecord text parts m → OpensRecord text other n → (parts ≡ other) × (m ≡ n)
one_record text parts other m n p q =
    let same : parts ≡ other = one_value (record_of text) parts other p.is_record q.is_record in
    (same, one_opening other.job m n (subst (λ (x : Parts). OpensJob x.job m) same p.opens) q.opens)

-- and then its job isn't refused
not_started : (text : List ℕ) (parts other : Parts) (m : MachineState) (why : Refusal) → OpensRecord text parts m → record_of text ≡ Ok other
    → JobRefusal other.job why → ⊥
not_started text parts other m why o is refusal =
    never_refused parts.job m why o.opens (subst (λ (p : Parts). JobRefusal p.job why) (one_value (record_of text) other parts is o.is_record) refusal)

-- its steps have one outcome

fault_by : (version : Version) (e f : ReplayFault) (m k l : MachineState) (runs : List Run) → IsFault (leads_by version) e m runs k → IsFault (leads_by version) f m runs l → e ≡ f
fault_by First e f m k l runs first second = (one_fault e f m k l runs by_whole first second).0
fault_by Second e f m k l runs first second = (one_fault e f m k l runs by_steps first second).0

not_by : (version : Version) (e : ReplayFault) (m k l : MachineState) (runs : List Run) → IsComplete (leads_by version) m runs k → IsFault (leads_by version) e m runs l → ⊥
not_by First e m k l runs whole fails = no_fault e l by_whole whole fails
not_by Second e m k l runs whole fails = no_fault e l by_steps whole fails

end_by : (version : Version) (m k l : MachineState) (runs : List Run) → IsComplete (leads_by version) m runs k → IsComplete (leads_by version) m runs l → k ≡ l
end_by First m k l runs first second = one_far by_whole first.after second.after
end_by Second m k l runs first second = one_far by_steps first.after second.after

-- whichever parts and machine the text is said to open

fault_of : (parts other : Parts) (m n k : MachineState) (e : ReplayFault) → (parts ≡ other) × (m ≡ n) → IsFault (leads_by parts.version) e m parts.runs k → IsFault (leads_by other.version) e n other.runs k
fault_of parts other m n k e same fails =
    subst (λ (x : MachineState). IsFault (leads_by other.version) e x other.runs k) same.1 (subst (λ (p : Parts). IsFault (leads_by p.version) e m p.runs k) same.0 fails)

complete_of : (parts other : Parts) (m n k : MachineState) → (parts ≡ other) × (m ≡ n) → IsComplete (leads_by parts.version) m parts.runs k → IsComplete (leads_by other.version) n other.runs k
complete_of parts other m n k same whole =
    subst (λ (x : MachineState). IsComplete (leads_by other.version) x other.runs k) same.1 (subst (λ (p : Parts). IsComplete (leads_by p.version) m p.runs k) same.0 whole)

one_stop : (text : List ℕ) (parts other : Parts) (m n k l : MachineState) (e f : ReplayFault) → OpensRecord text parts m → OpensRecord text other n
    → IsFault (leads_by parts.version) e m parts.runs k → IsFault (leads_by other.version) f n other.runs l → e ≡ f
one_stop text parts other m n k l e f p q first second =
    fault_by other.version e f n k l other.runs (fault_of parts other m n k e (one_record text parts other m n p q) first) second

not_stopped : (text : List ℕ) (parts other : Parts) (m n k l : MachineState) (e : ReplayFault) → OpensRecord text parts m → OpensRecord text other n
    → IsComplete (leads_by parts.version) m parts.runs k → IsFault (leads_by other.version) e n other.runs l → ⊥
not_stopped text parts other m n k l e p q whole fails =
    not_by other.version e n k l other.runs (complete_of parts other m n k (one_record text parts other m n p q) whole) fails

one_end : (text : List ℕ) (parts other : Parts) (m n k l : MachineState) → OpensRecord text parts m → OpensRecord text other n
    → IsComplete (leads_by parts.version) m parts.runs k → IsComplete (leads_by other.version) n other.runs l → (parts ≡ other) × (k ≡ l)
one_end text parts other m n k l p q first second =
    let same = one_record text parts other m n p q in
    (same.0, end_by other.version n k l other.runs (complete_of parts other m n k same first) second)

-- a report differs from the machine's in one line, or not at all

abbrev differs : Parts → MachineState → Option ℕ
differs parts m = differing_line parts.rest_line parts.rest (report_text m)

one_line : (parts other : Parts) (m n : MachineState) (i j : ℕ) → parts ≡ other → m ≡ n → differs parts m ≡ Some i → differs other n ≡ Some j → i ≡ j
one_line parts other m n i j same machine first second =
    let there : differs parts m ≡ differs other n = rw (same, machine) refl in
    one_some (differs other n) i j (sym there ∙ first) second

not_other : (parts other : Parts) (m n : MachineState) (i : ℕ) → parts ≡ other → m ≡ n → parts.rest ≢ [] → differs parts m ≡ Some i
    → (other.rest ≡ []) ⊎ (other.rest ≡ report_text n) → ⊥
not_other parts other m n i same machine some first (inl none) = some (ap (λ (p : Parts). p.rest) same ∙ none)
not_other parts other m n i same machine some first (inr is) =
    let rest : parts.rest ≡ report_text m = ap (λ (p : Parts). p.rest) same ∙ (is ∙ sym (ap (λ (x : MachineState). report_text x) machine)) in
    differs_not parts.rest_line i (report_text m) (subst (λ (t : List ℕ). differing_line parts.rest_line t (report_text m) ≡ Some i) rest first)

-- the report of a replay is told or refused, and not both
told_or_not : (text : List ℕ) (parts other : Parts) (m n k l : MachineState) (i : ℕ) → OpensRecord text parts m → OpensRecord text other n
    → IsComplete (leads_by parts.version) m parts.runs k → IsComplete (leads_by other.version) n other.runs l → IsUnlike parts (report_text k) (Some i) → IsUnlike other (report_text l) None → ⊥
told_or_not text parts other m n k l i p q first second unlike follows =
    let one = one_end text parts other m n k l p q first second in not_other parts other k l i one.0 one.1 unlike.0 unlike.1 follows

one : (text : List ℕ) (a b : Answer) → RecordAnswer text a → RecordAnswer text b → a ≡ b
one text a b (no_record e is) (no_record f is') = ap (λ (x : RecordFault). Refused (Record x)) (one_error (record_of text) e f is is')
one text a b (no_record e is) (no_start parts why is' refusal) = absurd (not_both (record_of text) parts e is' is)
one text a b (no_record e is) (not_taken parts m k f o fails) = absurd (not_both (record_of text) parts e o.is_record is)
one text a b (no_record e is) (other_report parts m k i o whole unlike) = absurd (not_both (record_of text) parts e o.is_record is)
one text a b (no_record e is) (replayed parts m k o whole follows) = absurd (not_both (record_of text) parts e o.is_record is)
one text a b (no_start parts why is refusal) (no_record e is') = absurd (not_both (record_of text) parts e is is')
one text a b (no_start parts why is refusal) (no_start other how is' refusal') =
    ap (λ (x : Refusal). Refused x)
    (one_refused other.job why how (subst (λ (p : Parts). JobRefusal p.job why) (one_value (record_of text) parts other is is') refusal) refusal')
one text a b (no_start parts why is refusal) (not_taken other m k f o fails) = absurd (not_started text other parts m why o is refusal)
one text a b (no_start parts why is refusal) (other_report other m k i o whole unlike) = absurd (not_started text other parts m why o is refusal)
one text a b (no_start parts why is refusal) (replayed other m k o whole follows) = absurd (not_started text other parts m why o is refusal)
one text a b (not_taken parts m k e o fails) (no_record f is) = absurd (not_both (record_of text) parts f o.is_record is)
one text a b (not_taken parts m k e o fails) (no_start other why is refusal) = absurd (not_started text parts other m why o is refusal)
one text a b (not_taken parts m k e o fails) (not_taken other n l f o' fails') =
    ap (λ (x : ReplayFault). Refused (Schedule x)) (one_stop text parts other m n k l e f o o' fails fails')
one text a b (not_taken parts m k e o fails) (other_report other n l i o' whole unlike) =
    absurd (not_stopped text other parts n m l k e o' o whole fails)
one text a b (not_taken parts m k e o fails) (replayed other n l o' whole follows) =
    absurd (not_stopped text other parts n m l k e o' o whole fails)
one text a b (other_report parts m k i o whole unlike) (no_record f is) = absurd (not_both (record_of text) parts f o.is_record is)
one text a b (other_report parts m k i o whole unlike) (no_start other why is refusal) = absurd (not_started text parts other m why o is refusal)
one text a b (other_report parts m k i o whole unlike) (not_taken other n l f o' fails) =
    absurd (not_stopped text parts other m n k l f o o' whole fails)
one text a b (other_report parts m k i o whole unlike) (other_report other n l j o' whole' unlike') =
    let one = one_end text parts other m n k l o o' whole whole' in
    ap (λ (x : ℕ). Refused (Report x)) (one_line parts other k l i j one.0 one.1 unlike.1 unlike'.1)
one text a b (other_report parts m k i o whole unlike) (replayed other n l o' whole' follows) =
    absurd (told_or_not text parts other m n k l i o o' whole whole' unlike follows)
one text a b (replayed parts m k o whole follows) (no_record f is) = absurd (not_both (record_of text) parts f o.is_record is)
one text a b (replayed parts m k o whole follows) (no_start other why is refusal) = absurd (not_started text parts other m why o is refusal)
one text a b (replayed parts m k o whole follows) (not_taken other n l f o' fails) =
    absurd (not_stopped text parts other m n k l f o o' whole fails)
one text a b (replayed parts m k o whole follows) (other_report other n l j o' whole' unlike) =
    absurd (told_or_not text other parts n m l k j o' o whole' whole unlike follows)
one text a b (replayed parts m k o whole follows) (replayed other n l o' whole' follows') =
    ap (λ (x : MachineState). Reported x) (one_end text parts other m n k l o o' whole whole').1

of_text : (text : List ℕ) (answer : Answer) → RecordAnswer text answer → IsOfText (status_of answer)
of_text text answer (no_record e is) = tt
of_text text answer (no_start parts why is refusal) = refusal_of_text parts.job why refusal
of_text text answer (not_taken parts m k e o fails) = tt
of_text text answer (other_report parts m k i o whole unlike) = tt
of_text text answer (replayed parts m k o whole follows) = ends (ending_of k)

pub sound_record : Sound RecordAnswer
sound_record = record { one = one; of_text = of_text }

-- what stands behind a record and doesn't differ from the report is the report

some_rest : (rest : List ℕ) → (length rest == 0) ≡ false → rest ≢ []
some_rest [] is none = absurd (let f : true ≡ false = is in cc)
some_rest (byte ∷ rest) is none = absurd (cc)

pub unlike_is : (parts : Parts) (report : List ℕ) (line : Option ℕ) → (length parts.rest == 0) ≡ false → line ≡ differing_line parts.rest_line parts.rest report
    → IsUnlike parts report line
unlike_is parts report None some is = inr (same_texts parts.rest report parts.rest_line (sym is))
unlike_is parts report (Some line) some is = (some_rest parts.rest some, sym is)

-- the single steps of a journal of whole transfers are taken

widened_ends : (m : MachineState) (runs wide : List Run) (w : IsWidened m runs (steps_of wide)) → Replays (Ok (ending_of w.left)) m wide w.left
widened_ends m runs wide w = (record { after = widens_after w.widens; final = w.final }, refl)

-- whatever else a replay of them is said to come to, it is this
abbrev pub Alone : Result Ending ReplayFault → MachineState → List Run → MachineState → Type 0
Alone result m wide n = (answer : Result Ending ReplayFault) (k : MachineState) → Replays answer m wide k → (answer ≡ result) × (k ≡ n)

pub widened_taken : (m n : MachineState) (runs wide : List Run) (ending : Ending) → IsWidened m runs (steps_of wide) → Alone (Ok ending) m wide n
    → IsComplete AfterWhole m runs n × (ending ≡ ending_of n)
widened_taken m n runs wide ending w alone =
    let one = alone (Ok (ending_of w.left)) w.left (widened_ends m runs wide w) in
    let same : ending ≡ ending_of w.left = cc in (
      subst (λ (x : MachineState). IsComplete AfterWhole m runs x) one.1 (record { after = (steps_of wide, w.widens); final = w.final }),
      same ∙ ap ending_of one.1,
    )

pub widened_not : (m n : MachineState) (runs wide : List Run) (fault : ReplayFault) → IsWidened m runs (steps_of wide) → Alone (Err fault) m wide n → ⊥
widened_not m n runs wide fault w alone =
    let one = (alone (Ok (ending_of w.left)) w.left (widened_ends m runs wide w)).0 in absurd (cc)

-- a fault that is told of them refuses the record
pub not_replayed : (text : List ℕ) (parts : Parts) (m : MachineState) (fault : ReplayFault) → OpensRecord text parts m → FailsBy (leads_by parts.version) (Replay fault) m parts.runs
    → RecordAnswer text (Refused (Schedule fault))
not_replayed text parts m fault opens fails = not_taken parts m fails.0 fault opens fails.1

-- what a run prints is replayed

abbrev printed_parts : List ℕ → List ℕ → List Actor → Parts
printed_parts job rest s = record { version = Second; job = job; runs = merged s; rest = rest; rest_line = 1 + line_feeds (record_text job s) }

opened : (plan : Plan) (codes : List (List ℕ)) (s : List Actor) (m : MachineState) → After (opening_machine plan codes) s m
    → After (machine_of (memory_of plan) plan.limit codes plan.starts) s m
unfolding opening_machine
opened plan codes s m after = after

opens_printed : (job rest : List ℕ) (s : List Actor) (m : MachineState) (can : CanRun job s m)
    → OpensRecord (record_text job s ++ rest) (printed_parts job rest s) can.opening
opens_printed job rest s m can =
    let short = can.short in
    let o = can.opens in
    record {
      is_record = printed_read (memory_of o.plan) o.plan.limit o.codes o.plan.starts s m
          (read_jobs_may_open job o.plan o.codes (omega (arith, short)) o.is_job o.are_clean)
          (opened o.plan o.codes s m (subst (λ (x : MachineState). After x s m) o.opens can.permitted)) job (omega (arith, short)) rest;
      opens = o;
    }

complete_printed : (job rest : List ℕ) (s : List Actor) (m : MachineState) (can : CanRun job s m)
    → IsComplete After can.opening (printed_parts job rest s).runs m
complete_printed job rest s m can = record {
  after = subst (λ (t : List Actor). After can.opening t m) (sym (merged_spells s)) can.permitted;
  final = can.complete;
}

pub printed_answer : (job rest : List ℕ) (s : List Actor) (m : MachineState) → CanRun job s m → (rest ≡ []) ⊎ (rest ≡ report_text m)
    → RecordAnswer (record_text job s ++ rest) (Reported m)
printed_answer job rest s m can follows =
    replayed (printed_parts job rest s) can.opening m (opens_printed job rest s m can) (complete_printed job rest s m can) follows

-- it is ASCII

low_rest : (rest : List ℕ) (m : MachineState) → (rest ≡ []) ⊎ (rest ≡ report_text m) → IsLow rest
low_rest rest m (inl none) = subst IsLow (sym none) refl
low_rest rest m (inr is) = subst IsLow (sym is) (low_all (report_text m) (reports_ascii m))

pub all_ascii : (job rest : List ℕ) (s : List Actor) (m : MachineState) → IsAscii job → (rest ≡ []) ⊎ (rest ≡ report_text m)
    → IsAscii (record_text job s ++ rest)
all_ascii job rest s m ascii follows =
    none_high (record_text job s ++ rest)
    (all_low (record_text job s ++ rest)
    (low_append (record_text job s) rest (low_all (record_text job s) (records_ascii job s (none_high_back job ascii))) (low_rest rest m follows)))
