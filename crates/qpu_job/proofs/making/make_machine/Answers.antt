-- The programs are built and checked, the starts few enough, and the machine is the job's.
use Rattle.std.proofs.Common.{◌≡◌, length, refl, ap, ◌∙◌, arith}
use Rattle.std.specs.Arc.{arc_value}
use Rattle.qpu_hazard.specs.declared.checked.Programs.{Programs}
use Rattle.qpu_job.specs.Plan.{plan_of}
use Rattle.qpu_job.specs.Programs.{HaveCodes, codes_of}
use Rattle.qpu_job.specs.Opening.{memory_of, opening_machine}
use Rattle.qpu_job.proofs.CodeLemmas.{have_length}
use Rattle.qpu_job.proofs.CheckLemmas.{length_codes}
use Rattle.qpu_job.proofs.StartLemmas.{few_starts, starts_differ}
use Rattle.qpu_job.proofs.making.make_machine.Goals as goal

pub check_programs-requires-clause-few : goal.check_programs-requires-clause-few
check_programs-requires-clause-few c =
    let have : HaveCodes (plan_of c.args.job.now).programs (codes_of c.in_ok-codes.codes.items) = rw c.deref.ensures.value at c.in_ok-codes.ensures.ok in
    rw c.deref-2.ensures.value
    (omega (arith, length_codes c.in_ok-codes.codes.items, have_length have, c.requires.few_programs))

pub check_programs-requires-clause-short : goal.check_programs-requires-clause-short
check_programs-requires-clause-short c =
    rw c.deref-2.ensures.value c.in_ok-codes.ensures.short

pub starts_of-requires : goal.starts_of-requires
starts_of-requires c = rw c.deref-4.ensures.value (few_starts (plan_of c.args.job.now) c.requires)

pub new-requires-clause-programs : goal.new-requires-clause-programs
new-requires-clause-programs c =
    let have : HaveCodes (plan_of c.args.job.now).programs (codes_of c.in_ok-codes.codes.items) = rw c.deref.ensures.value at c.in_ok-codes.ensures.ok in
    let long : length (arc_value c.in_ok-programs.programs).list.items ≡ length (plan_of c.args.job.now).programs =
    ap (λ (programs : Programs). length programs.list.items) c.in_ok-programs.ensures
    ∙ (ap length (rw c.deref-2.ensures.value at c.in_ok-check_programs.ensures.ok) ∙ have_length have) in
    λ k d low.
    rw (c.starts_of.ensures, c.deref-4.ensures.value, long)
    ((c.requires.starts k d (rw (c.starts_of.ensures, c.deref-4.ensures.value) at low)).program)

pub new-requires-clause-differ : goal.new-requires-clause-differ
new-requires-clause-differ c =
    rw (c.starts_of.ensures, c.deref-4.ensures.value) (starts_differ (plan_of c.args.job.now) c.requires)

pub returns-clause-ok : goal.returns-clause-ok
unfolding opening_machine memory_of
returns-clause-ok c =
    let codes = codes_of c.in_ok-codes.codes.items in
    let list : (arc_value c.in_ok-programs.programs).list.items ≡ codes =
    ap (λ (programs : Programs). programs.list.items) c.in_ok-programs.ensures
    ∙ (rw c.deref-2.ensures.value at c.in_ok-check_programs.ensures.ok) in
    let starts = c.starts_of.ensures ∙ c.deref-4.ensures.value in
    record {
      codes = codes;
      are_clean = record {
        built = rw c.deref.ensures.value at c.in_ok-codes.ensures.ok;
        inside = rw c.deref-2.ensures.value at c.in_ok-check_programs.ensures.inside;
        clean = rw c.deref-2.ensures.value at c.in_ok-check_programs.ensures.clean;
      };
      state = c.new.ensures.state ∙ rw (list, starts, c.in_ok-memory.ensures, c.deref-3.ensures.value) refl;
      starts = c.new.ensures.starts ∙ starts;
    }
