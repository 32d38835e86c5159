-- What follows of the answer that was due and given.
use Rattle.std.proofs.Common.{◌≡◌, ◌≢◌, ◌<◌, ◌≤◌, ◌⊎◌, inl, inr, ℕ, List, length, Some, refl, ap, sym, subst, ◌∙◌, arith}
use Rattle.qpu_io.specs.Faults.{Rose}
use Rattle.qpu_io.specs.Input.{Input, ReadsPart}
use Rattle.qpu_io.specs.Output.{Output, appended, Cut}
use Rattle.qpu_io.proofs.Inputs.{whole_is, past_is}
use Rattle.qpu_machine.specs.declared.conclusion.Ending.{Ending}
use Rattle.qpu_machine.specs.declared.conclusion.Ending.TheVariants as ending
use Rattle.qpu_machine.specs.Ending.{ending_of}
use Rattle.qpu_tool.specs.declared.status.Status.{Status}
use Rattle.qpu_tool.specs.declared.status.Status.TheVariants as status
use Rattle.qpu_tool.specs.declared.words.Command.{Command}
use Rattle.qpu_tool.specs.declared.answer.Answer.{Answer}
use Rattle.qpu_tool.specs.declared.answer.Answer.TheVariants.{Words, Lines, Counted, Ran, Report, Refused}
use Rattle.qpu_tool.specs.declared.refusal.Refusal.TheVariants as why
use Rattle.qpu_tool.specs.Commands.{IsCommand, IsNoCommand, command_of, limit_of}
use Rattle.qpu_tool.specs.Statuses.{status_for}
use Rattle.qpu_tool.specs.Answer.{status_of, text_of, IsGiven}
use Rattle.qpu_tool.specs.Answers.{AnswerTo, AnswerOf, no_command, past_limit, to_bytes, Due, wrong_words, broken, past, whole, CallOutcome, given, out_of_memory}
use Rattle.qpu_tool.specs.Causes.{Printed, IsCutOff, HasEnded, Tells, IsOfText, NothingLeft, NoCountRose}
use Rattle.qpu_tool.proofs.ResultLemmas.{not_some}
use Rattle.qpu_tool.proofs.OneDue.{of_text, one_command}

-- what is told of an answer is told by its status

by_end : (Told : Answer → Type 0) (e : Ending) → HasEnded Told (status_for e) → Tells Told (status_for e)
by_end Told ending.Done h = inl h
by_end Told ending.Stuck h = h
by_end Told ending.RanOut h = h
by_end Told ending.Faulted h = h

pub told_of : (Told : Answer → Type 0) (answer : Answer) → Told answer → Tells Told (status_of answer)
told_of Told (Words words) t = inr (inl (words, t))
told_of Told (Lines words) t = inr (inr (inl (words, t)))
told_of Told (Counted count) t = inr (inr (inr (count, t)))
told_of Told (Ran run) t = by_end Told (ending_of run.machine) (inl (run, refl, t))
told_of Told (Report m) t = by_end Told (ending_of m) (inr (m, refl, t))
told_of Told (Refused why.Usage) t = t
told_of Told (Refused why.ReadFault) t = t
told_of Told (Refused why.TooLong) t = t
told_of Told (Refused (why.NotAscii at)) t = (at, t)
told_of Told (Refused (why.Asm fault)) t = (fault, t)
told_of Told (Refused (why.Job fault)) t = (fault, t)
told_of Told (Refused (why.Hazard program fault)) t = (program, fault, t)
told_of Told (Refused (why.Record fault)) t = inl (fault, t)
told_of Told (Refused (why.Schedule fault)) t = inr (inl (fault, t))
told_of Told (Refused (why.Report line)) t = inr (inr (line, t))

-- no answer has a status that tells nothing

has_status : (answer : Answer) (s : Status) → status_of answer ≡ s → Tells (λ _. Unit {0}) s
has_status answer s is = subst (λ (x : Status). Tells (λ _. Unit {0}) x) is (told_of (λ _. Unit {0}) answer tt)

-- the two ways of an answer: its whole text, or a cut

gave : (answer : Answer) (old new : Output) (s : Status) → IsGiven answer old new s
    → ((s ≡ status.WriteFault) × Cut old new (text_of answer)) ⊎ ((s ≡ status_of answer) × (new ≡ appended old (text_of answer)))
gave answer old new status.Done g = inr g
gave answer old new status.Usage g = inr g
gave answer old new status.AsmRefused g = inr g
gave answer old new status.JobRefused g = inr g
gave answer old new status.HazardRefused g = inr g
gave answer old new status.ReadFault g = inr g
gave answer old new status.WriteFault g = inl (refl, g)
gave answer old new status.NoMemory g = inr g
gave answer old new status.Stuck g = inr g
gave answer old new status.RanOut g = inr g
gave answer old new status.Faulted g = inr g
gave answer old new status.RecordRefused g = inr g
gave answer old new status.TooLong g = inr g
gave answer old new status.NotAscii g = inr g

-- what a call came to: a write fault, want of memory, or an answer that was due
pub data Came (words : List (List ℕ)) (old new : Input) (held held' : Output) (s : Status) : Type 0 where
  cut : (answer : Answer) → s ≡ status.WriteFault → Due words old new answer → Cut held held' (text_of answer) → Came words old new held held' s
  wanting : (command : Command) → s ≡ status.NoMemory → IsCommand words command → ReadsPart old new (limit_of command) → held' ≡ held
      → Came words old new held held' s
  gave_all : (answer : Answer) → s ≡ status_of answer → Due words old new answer → held' ≡ appended held (text_of answer) → Came words old new held held' s

pub came : (words : List (List ℕ)) (old new : Input) (held held' : Output) (s : Status)
    → CallOutcome words old new held held' s → Came words old new held held' s
came words old new held held' s (given answer due gives) =
    elim (gave answer held held' s gives) [ inl part ↦ cut answer part.0 due part.1 | inr all ↦ gave_all answer all.0 due all.1 ]
came words old new held held' s (out_of_memory command run read is same) = wanting command is run read same

-- what each status tells

pub told : (words : List (List ℕ)) (old new : Input) (held held' : Output) (s : Status) → Came words old new held held' s
    → s ≢ status.WriteFault → s ≢ status.NoMemory → Tells (Printed words old new held held') s
told words old new held held' s (cut answer is due part) uncut some = absurd (uncut is)
told words old new held held' s (wanting command is run read same) uncut some = absurd (some is)
told words old new held held' s (gave_all answer is due all) uncut some =
    subst (λ (x : Status). Tells (Printed words old new held held') x) (sym is)
    (told_of (Printed words old new held held') answer (record { due = due; text = all }))

pub write_fault : (words : List (List ℕ)) (old new : Input) (held held' : Output) (s : Status) → Came words old new held held' s
    → s ≡ status.WriteFault → IsCutOff words old new held held'
write_fault words old new held held' s (cut answer is due part) e = record { answer = answer; due = due; cut = part; counted = part.faults }
write_fault words old new held held' s (wanting command is run read same) e = absurd (let f : status.NoMemory ≡ status.WriteFault = sym is ∙ e in cc)
write_fault words old new held held' s (gave_all answer is due all) e = absurd (has_status answer status.WriteFault (sym is ∙ e))

pub no_memory : (words : List (List ℕ)) (old new : Input) (held held' : Output) (s : Status) → Came words old new held held' s
    → s ≡ status.NoMemory → held' ≡ held
no_memory words old new held held' s (cut answer is due part) e = absurd (let f : status.WriteFault ≡ status.NoMemory = sym is ∙ e in cc)
no_memory words old new held held' s (wanting command is run read same) e = same
no_memory words old new held held' s (gave_all answer is due all) e = absurd (has_status answer status.NoMemory (sym is ∙ e))

-- usage

usage_due : (words : List (List ℕ)) (old new : Input) (answer : Answer) → Due words old new answer → status_of answer ≡ status.Usage
    → IsNoCommand words × (new ≡ old)
usage_due words old new answer (wrong_words none same) e = (none, same)
usage_due words old new answer (broken command run read) e = absurd (let f : status.ReadFault ≡ status.Usage = e in cc)
usage_due words old new answer (past command run read) e = absurd (let f : status.TooLong ≡ status.Usage = e in cc)
usage_due words old new answer (whole command text _ run read due) e = absurd (subst IsOfText e (of_text command text answer due))

pub usage : (words : List (List ℕ)) (old new : Input) (held held' : Output) (s : Status) → Came words old new held held' s
    → s ≡ status.Usage → IsNoCommand words × (new ≡ old)
usage words old new held held' s (cut answer is due part) e = absurd (let f : status.WriteFault ≡ status.Usage = sym is ∙ e in cc)
usage words old new held held' s (wanting command is run read same) e = absurd (let f : status.NoMemory ≡ status.Usage = sym is ∙ e in cc)
usage words old new held held' s (gave_all answer is due all) e = usage_due words old new answer due (sym is ∙ e)

none_due : (words : List (List ℕ)) (old new : Input) (answer : Answer) → Due words old new answer → IsNoCommand words → status_of answer ≡ status.Usage
none_due words old new answer (wrong_words n same) none = refl
none_due words old new answer (broken command run read) none = absurd (not_some (command_of words) command run none)
none_due words old new answer (past command run read) none = absurd (not_some (command_of words) command run none)
none_due words old new answer (whole command text _ run read due) none = absurd (not_some (command_of words) command run none)

pub wrong : (words : List (List ℕ)) (old new : Input) (held held' : Output) (s : Status) → Came words old new held held' s
    → IsNoCommand words → (s ≡ status.Usage) ⊎ (s ≡ status.WriteFault)
wrong words old new held held' s (cut answer is due part) none = inr is
wrong words old new held held' s (wanting command is run read same) none = absurd (not_some (command_of words) command run none)
wrong words old new held held' s (gave_all answer is due all) none = inl (is ∙ none_due words old new answer due none)

-- faults that were counted

-- an output to which a text was appended has counted no fault
no_more : (old new : Output) (text : List ℕ) → new ≡ appended old text → old.faults < new.faults → ⊥
no_more old new text is more = let e : new.faults ≡ old.faults = ap (λ (o : Output). o.faults) is in absurd (omega (arith, e, more))

same_output : (old new : Output) → new ≡ old → old.faults < new.faults → ⊥
same_output old new is more = let e : new.faults ≡ old.faults = ap (λ (o : Output). o.faults) is in absurd (omega (arith, e, more))

pub sink_fault : (words : List (List ℕ)) (old new : Input) (held held' : Output) (s : Status) → Came words old new held held' s
    → held.faults < held'.faults → s ≡ status.WriteFault
sink_fault words old new held held' s (cut answer is due part) more = is
sink_fault words old new held held' s (wanting command is run read same) more = absurd (same_output held held' same more)
sink_fault words old new held held' s (gave_all answer is due all) more = absurd (no_more held held' (text_of answer) all more)

-- reading without a fault keeps the count
kept : (old new : Input) → new.faults ≡ old.faults → old.faults < new.faults → ⊥
kept old new e more = absurd (omega (arith, e, more))

fault_due : (words : List (List ℕ)) (old new : Input) (answer : Answer) → Due words old new answer → old.faults < new.faults → status_of answer ≡ status.ReadFault
fault_due words old new answer (wrong_words none same) more = absurd (kept old new (ap (λ (i : Input). i.faults) same) more)
fault_due words old new answer (broken command run read) more = refl
fault_due words old new answer (past command run read) more = absurd (kept old new read.taken.faults more)
fault_due words old new answer (whole command text _ run read due) more = absurd (kept old new read.taken.faults more)

pub source_fault : (words : List (List ℕ)) (old new : Input) (held held' : Output) (s : Status) → Came words old new held held' s
    → old.faults < new.faults → (s ≡ status.ReadFault) ⊎ (s ≡ status.WriteFault)
source_fault words old new held held' s (cut answer is due part) more = inr is
source_fault words old new held held' s (wanting command is run read same) more = absurd (kept old new read.taken.faults more)
source_fault words old new held held' s (gave_all answer is due all) more = inl (is ∙ fault_due words old new answer due more)

rose_due : (words : List (List ℕ)) (old new : Input) (answer : Answer) → Due words old new answer → status_of answer ≡ status.ReadFault → Rose old.faults new.faults
rose_due words old new answer (wrong_words none same) e = absurd (let f : status.Usage ≡ status.ReadFault = e in cc)
rose_due words old new answer (broken command run read) e = read.faults
rose_due words old new answer (past command run read) e = absurd (let f : status.TooLong ≡ status.ReadFault = e in cc)
rose_due words old new answer (whole command text _ run read due) e = absurd (subst IsOfText e (of_text command text answer due))

pub read_fault : (words : List (List ℕ)) (old new : Input) (held held' : Output) (s : Status) → Came words old new held held' s
    → s ≡ status.ReadFault → Rose old.faults new.faults
read_fault words old new held held' s (cut answer is due part) e = absurd (let f : status.WriteFault ≡ status.ReadFault = sym is ∙ e in cc)
read_fault words old new held held' s (wanting command is run read same) e = absurd (let f : status.NoMemory ≡ status.ReadFault = sym is ∙ e in cc)
read_fault words old new held held' s (gave_all answer is due all) e = rose_due words old new answer due (sym is ∙ e)

-- nothing is left

left_due : (words : List (List ℕ)) (old new : Input) (answer : Answer) → Due words old new answer → IsOfText (status_of answer) → NothingLeft new
left_due words old new answer (wrong_words none same) of = absurd of
left_due words old new answer (broken command run read) of = absurd of
left_due words old new answer (past command run read) of = absurd of
left_due words old new answer (whole command text _ run read due) of = read.ended

pub nothing_left : (words : List (List ℕ)) (old new : Input) (held held' : Output) (s : Status) → Came words old new held held' s
    → IsOfText s → NothingLeft new
nothing_left words old new held held' s (cut answer is due part) of = absurd (subst IsOfText is of)
nothing_left words old new held held' s (wanting command is run read same) of = absurd (subst IsOfText is of)
nothing_left words old new held held' s (gave_all answer is due all) of = left_due words old new answer due (subst IsOfText is of)

-- of a source that tells its bytes

pub fault_counted : (words : List (List ℕ)) (old new : Input) (answer : Answer) → Due words old new answer → NoCountRose old.faults new.faults
    → answer ≢ Refused why.ReadFault
fault_counted words old new answer due quiet is = quiet (rose_due words old new answer due (ap (λ (a : Answer). status_of a) is))

pub due_of_bytes : (words : List (List ℕ)) (old new : Input) (bytes : List ℕ) (answer : Answer) → old.left ≡ Some bytes → answer ≢ Refused why.ReadFault
    → Due words old new answer → AnswerOf words bytes answer
due_of_bytes words old new bytes answer left sound (wrong_words none same) = no_command none
due_of_bytes words old new bytes answer left sound (broken command run read) = absurd (sound refl)
due_of_bytes words old new bytes answer left sound (past command run read) = past_limit command run (past_is old new (limit_of command) bytes left read)
due_of_bytes words old new bytes answer left sound (whole command text _ run read due) =
    let same : text ≡ bytes = whole_is old new (limit_of command) _ _ left read in
    to_bytes command answer run (subst (λ (t : List ℕ). length t ≤ limit_of command) same read.at_most)
    (subst (λ (t : List ℕ). AnswerTo command t answer) same due)

pub of_command : (words : List (List ℕ)) (bytes : List ℕ) (command : Command) (answer : Answer) → IsCommand words command → AnswerOf words bytes answer
    → ((answer ≡ Refused why.TooLong) × (limit_of command < length bytes)) ⊎ ((length bytes ≤ limit_of command) × AnswerTo command bytes answer)
of_command words bytes command answer is (no_command none) = absurd (not_some (command_of words) command is none)
of_command words bytes command answer is (past_limit other is' long) =
    inl (refl, subst (λ (k : Command). limit_of k < length bytes) (one_command words other command is' is) long)
of_command words bytes command answer is (to_bytes other _ is' short to) =
    let same : other ≡ command = one_command words other command is' is in
    inr (subst (λ (k : Command). length bytes ≤ limit_of k) same short, subst (λ (k : Command). AnswerTo k bytes answer) same to)
