-- The machine of a job's text, or why it has none.
use Rattle.std.proofs.Common.{◌≡◌, ◌≢◌, ℕ, ◌<◌, List, [], get_or, length, map, Result, Ok, Err, IfOk, refl, ap, sym, subst, ◌∙◌, arith}
use Rattle.std.specs.Prelude.{string_bytes}
use Rattle.std.proofs.lemmas.List.{get_or-map, length-map}
use Rattle.qpu_machine.specs.Machine.{MachineState}
use Rattle.qpu_machine.specs.Views.{Started}
use Rattle.qpu_job.specs.declared.fault.JobFault.{JobFault}
use Rattle.qpu_job.specs.declared.fault.JobFault.TheVariants as fault
use Rattle.qpu_job.specs.declared.job.ProgramText.{ProgramText}
use Rattle.qpu_job.specs.Plan.{Plan, Program, program_of, programs_of}
use Rattle.qpu_job.specs.Reading.{Fails, job_of}
use Rattle.qpu_job.specs.Opening.{AreClean, IsMakeFault, opening_machine}
use Rattle.qpu_job.proofs.OneCode.{codes_one}
use Rattle.qpu_job.proofs.OneMachineLaw.{clean_jobs, one_refusal}
use Rattle.qpu_tool.specs.declared.refusal.Refusal.{Refusal}
use Rattle.qpu_tool.specs.declared.refusal.Refusal.TheVariants.{Job}
use Rattle.qpu_tool.specs.Refusals.{name_at, names_of, refusal_status}
use Rattle.qpu_tool.specs.Opening.{OpensJob, JobRefusal, no_job, no_machine, refusal_of, IsOpened, IsMade}
use Rattle.qpu_tool.specs.Causes.{IsOfText}
use Rattle.qpu_tool.proofs.ResultLemmas.{one_value, one_error, not_both}

-- a fault that is told is that of the text

pub fails_is : {Y : Type 0} (e : JobFault) (due : Result Y JobFault) → Fails e due → e ≢ fault.Memory → due ≡ Err e
fails_is (fault.Line line) due fails none = fails
fails_is (fault.Size line) due fails none = fails
fails_is (fault.Limit line) due fails none = fails
fails_is (fault.Twice line) due fails none = fails
fails_is (fault.Processor line) due fails none = fails
fails_is (fault.NoProgram line) due fails none = fails
fails_is (fault.Place line) due fails none = fails
fails_is (fault.Asm told) due fails none = fails
fails_is (fault.Check program check) due fails none = fails
fails_is fault.Memory due fails none = absurd (none refl)

-- the name of a program of the list

pub name_there : (programs : List ProgramText) (i : ℕ) (program d : ProgramText) → i < length programs → program ≡ get_or programs i d
    → string_bytes program.name ≡ name_at (map (λ (p : Program). p.name) (programs_of programs)) i
name_there programs i program d inside is =
    ap (λ (p : ProgramText). string_bytes p.name) is
    ∙ sym (get_or-map (λ (p : Program). p.name) (programs_of programs) i (program_of d) [] (omega (arith, length-map programs program_of))
    ∙ ap (λ (p : Program). p.name) (get_or-map program_of programs i d (program_of d) inside))

-- what is made of a job that was read is opened

pub made_is : (text : List ℕ) (plan : Plan) (made : Result Started Refusal) → job_of text ≡ Ok plan → IsMade plan made → IsOpened text made
made_is text plan (Ok machine) job opens =
    record { plan = plan; codes = opens.codes; is_job = job; are_clean = opens.are_clean; opens = opens.state }
made_is text plan (Err refusal) job (e, is, some, same) = subst (JobRefusal text) (sym same) (no_machine plan e job is some)

pub opened_as : {E : Type 0} (text : List ℕ) (plan : Plan) (r : Result (Result Started Refusal) E) → job_of text ≡ Ok plan → IfOk r (λ made. IsMade plan made)
    → IfOk r (λ made. IsOpened text made)
opened_as {E} text plan (Ok made) job is = made_is text plan made job is
opened_as {E} text plan (Err e) job is = tt

-- a refusal's status

refused_of : (names : List (List ℕ)) (e : JobFault) → IsOfText (refusal_status (refusal_of names e))
refused_of names (fault.Line line) = tt
refused_of names (fault.Size line) = tt
refused_of names (fault.Limit line) = tt
refused_of names (fault.Twice line) = tt
refused_of names (fault.Processor line) = tt
refused_of names (fault.NoProgram line) = tt
refused_of names (fault.Place line) = tt
refused_of names (fault.Asm told) = tt
refused_of names (fault.Check program check) = tt
refused_of names fault.Memory = tt

pub refusal_of_text : (text : List ℕ) (why : Refusal) → JobRefusal text why → IsOfText (refusal_status why)
refusal_of_text text why (no_job e is kind none) = tt
refusal_of_text text why (no_machine plan e job is none) = refused_of (names_of plan) e

-- one refusal

pub one_refused : (text : List ℕ) (a b : Refusal) → JobRefusal text a → JobRefusal text b → a ≡ b
one_refused text a b (no_job e is kind none) (no_job f is' kind' none') = ap (λ (x : JobFault). Job x) (one_error (job_of text) e f is is')
one_refused text a b (no_job e is kind none) (no_machine plan f job fails none') = absurd (not_both (job_of text) plan e job is)
one_refused text a b (no_machine plan f job fails none) (no_job e is kind none') = absurd (not_both (job_of text) plan e job is)
one_refused text a b (no_machine plan e job fails none) (no_machine other f job' fails' none') =
    let plans : plan ≡ other = one_value (job_of text) plan other job job' in
    let faults : e ≡ f = one_refusal other e f (subst (λ (p : Plan). IsMakeFault p e) plans fails) fails' none none' in
    ap (λ (p : Plan). refusal_of (names_of p) e) plans ∙ ap (λ (x : JobFault). refusal_of (names_of other) x) faults

-- one machine

pub one_opening : (text : List ℕ) (m n : MachineState) → OpensJob text m → OpensJob text n → m ≡ n
one_opening text m n p q =
    let plans : p.plan ≡ q.plan = one_value (job_of text) p.plan q.plan p.is_job q.is_job in
    let codes : p.codes ≡ q.codes =
    codes_one q.plan.programs p.codes q.codes (subst (λ (x : Plan). AreClean x p.codes) plans p.are_clean).built q.are_clean.built in
    p.opens ∙ (ap (λ (x : Plan). opening_machine x p.codes) plans ∙ (ap (λ (cs : List (List ℕ)). opening_machine q.plan cs) codes ∙ sym q.opens))

-- and not both

pub never_refused : (text : List ℕ) (m : MachineState) (why : Refusal) → OpensJob text m → JobRefusal text why → ⊥
never_refused text m why o (no_job e is kind none) = not_both (job_of text) o.plan e o.is_job is
never_refused text m why o (no_machine other e job is none) =
    clean_jobs o.plan o.codes e o.are_clean (subst (λ (p : Plan). IsMakeFault p e) (one_value (job_of text) other o.plan job o.is_job) is) none
