-- Which faults a local word can have.
use Rattle.std.proofs.Common.{◌≡◌, ℕ, Bool, true, false, Option, Some, None, Result, Ok, Err, subst}
use Rattle.std.specs.Prelude.{IfErr, if◌then◌else◌}
use Rattle.qpu_word.specs.declared.setup.Book.{Book}
use Rattle.qpu_word.specs.declared.setup.Vectors.{Vectors}
use Rattle.qpu_word.specs.declared.setup.ReadSetup.{ReadSetup}
use Rattle.qpu_word.specs.declared.setup.ReadSetup.TheVariants.{Vectors as VpmRead, Load, Pitch}
use Rattle.qpu_word.specs.declared.setup.WriteSetup.{WriteSetup}
use Rattle.qpu_word.specs.declared.setup.WriteSetup.TheVariants.{Vectors as VpmWrite, Store, Stride}
use Rattle.qpu_word.specs.declared.fault.SetupFault.{SetupFault}
use Rattle.qpu_word.specs.declared.fault.FaultKind.{FaultKind}
use Rattle.qpu_word.specs.declared.fault.FaultKind.TheVariants.{Branch}
use Rattle.qpu_word.specs.declared.traffic.Outs.{Outs}
use Rattle.qpu_word.specs.Words.{fields_of, is_local}
use Rattle.qpu_word.specs.Setups.{read_setup, write_setup, queued, with_read_setup, put_read, with_write_setup, put_write}
use Rattle.qpu_word.specs.Processor.{ProcessorState}
use Rattle.qpu_word.specs.Instruction.{after_read_setup, after_write_setup, after_setups, then_after, branch_fails, no_ins, outs_of, local_result}
use Rattle.qpu_shared.specs.Local.{IsLocalFault}

-- a result whose fault, where it has one, is a local word's
abbrev Fits : {A : Type 0} → Result A FaultKind → Type 0
Fits r = IfErr r IsLocalFault

queued_fits : (first second : Option Vectors) (book : Book) (value : ℕ) → Fits (queued first second book value)
queued_fits None second book value = tt
queued_fits (Some v) None book value = tt
queued_fits (Some v) (Some w) book value = tt

read_fits : (r : Result ReadSetup SetupFault) (book : Book) (value : ℕ) → Fits (with_read_setup r book value)
read_fits (Ok VpmRead) book value = queued_fits book.first book.second book value
read_fits (Ok Load) book value = tt
read_fits (Ok Pitch) book value = tt
read_fits (Err why) book value = tt

write_fits : (r : Result WriteSetup SetupFault) (book : Book) (value : ℕ) → Fits (with_write_setup r book value)
write_fits (Ok VpmWrite) book value = tt
write_fits (Ok Store) book value = tt
write_fits (Ok Stride) book value = tt
write_fits (Err why) book value = tt

after_read_fits : (value : Option ℕ) (book : Book) → Fits (after_read_setup value book)
unfolding put_read
after_read_fits None book = tt
after_read_fits (Some value) book = read_fits (read_setup value) book value

after_write_fits : (value : Option ℕ) (book : Book) → Fits (after_write_setup value book)
unfolding put_write
after_write_fits None book = tt
after_write_fits (Some value) book = write_fits (write_setup value) book value

then_fits : {A B : Type 0} (r : Result A FaultKind) (next : A → Result B FaultKind) → Fits r → ((a : A) → Fits (next a)) → Fits (then_after r next)
then_fits (Ok a) next fits rest = rest a
then_fits (Err kind) next fits rest = fits

setups_fit : (outs : Outs) (book : Book) → Fits (after_setups outs book)
unfolding after_setups
setups_fit outs book =
    then_fits (after_read_setup outs.to_read_setup book) (λ b. after_write_setup outs.to_write_setup b)
    (after_read_fits outs.to_read_setup book) (λ b. after_write_fits outs.to_write_setup b)

unless_fails : {A : Type 0} (fails : Bool) (r : Result A FaultKind) → Fits r → Fits (if fails then Err Branch else r)
unless_fails true r fits = tt
unless_fails false r fits = fits

result_fits : (is_link : ℕ → Bool) (word : ℕ) (p : ProcessorState) → Fits (local_result is_link word p)
unfolding local_result
result_fits is_link word p =
    unless_fails (branch_fails is_link (fields_of word) p) _
    (then_fits (after_setups (outs_of (fields_of word) p no_ins) p.book) _ (setups_fit (outs_of (fields_of word) p no_ins) p.book) (λ book. tt))

pub local_faults : (is_link : ℕ → Bool) (word : ℕ) (p : ProcessorState) (kind : FaultKind) → is_local (fields_of word) ≡ true
    → local_result is_link word p ≡ Err kind → IsLocalFault kind
local_faults is_link word p kind local is = subst (λ (r : Result ProcessorState FaultKind). Fits r) is (result_fits is_link word p)
