-- Programs assembled one after another.
use Rattle.std.proofs.Common.{◌≡◌, ℕ, All, ◌+◌, ◌<◌, ◌≤◌, List, [], ◌∷◌, ◌++◌, length, take, drop, get_or, refl, ap, sym, subst, ◌∙◌, arith, length-append}
use Rattle.std.proofs.lemmas.List.{take_more, take_all, take-append-drop, drop_more, map-append, get_or-map, length-map}
use Rattle.std.proofs.lemmas.List.Elements.{All-push}
use Rattle.qpu_word.specs.Words.{numbers_of}
use Rattle.qpu_job.specs.declared.code.Code.{Code}
use Rattle.qpu_job.specs.declared.fault.JobFault.{JobFault}
use Rattle.qpu_job.specs.declared.fault.JobFault.TheVariants as fault
use Rattle.qpu_job.specs.declared.job.ProgramText.{ProgramText}
use Rattle.qpu_job.specs.Plan.{Program, program_of, programs_of}
use Rattle.qpu_job.specs.ReadJob.{IsProgram}
use Rattle.qpu_job.specs.Opening.{IsShort}
use Rattle.qpu_job.specs.Programs.{IsCode, IsCodeFault, HaveCodes, no_program, one_more, IsCodesFault, codes_of}

pub codes_more : (programs : List ProgramText) (i : ℕ) (program d : ProgramText) (codes : List Code) (code : Code) → i < length programs → program ≡ get_or programs i d
    → HaveCodes (programs_of (take i programs)) (codes_of codes) → IsCode (program_of program).text (numbers_of code.words.items)
    → HaveCodes (programs_of (take (i + 1) programs)) (codes_of (codes ++ code ∷ []))
codes_more programs i program d codes code low is have one =
    rw (take_more programs i d low, ← is, map-append, map-append) (one_more (program_of program) have one)

-- each code is short enough
pub short_more : (codes : List Code) (code : Code) → All IsShort (codes_of codes) → IsShort (numbers_of code.words.items) → All IsShort (codes_of (codes ++ code ∷ []))
short_more codes code short one = rw map-append (All-push IsShort (codes_of codes) (numbers_of code.words.items) short one)

pub codes_fail : (programs : List ProgramText) (i : ℕ) (program d : ProgramText) (codes : List Code) (e : JobFault) → i < length programs → program ≡ get_or programs i d
    → HaveCodes (programs_of (take i programs)) (codes_of codes) → IsCodeFault (program_of program) e → IsCodesFault (programs_of programs) e
codes_fail programs i program d codes (fault.Asm told) low is have fails = record {
  above = programs_of (take i programs);
  program = program_of program;
  below = programs_of (drop (i + 1) programs);
  codes = codes_of codes;
  all = sym (ap programs_of (take-append-drop i programs))
      ∙ (map-append program_of (take i programs) (drop i programs)
      ∙ ap (λ more. programs_of (take i programs) ++ programs_of more) (drop_more programs i d low ∙ ap (λ p. p ∷ drop (i + 1) programs) (sym is)));
  built = have;
  fails = fails;
}
codes_fail programs i program d codes fault.Memory low is have fails = tt
codes_fail programs i program d codes (fault.Line at) low is have fails = absurd fails
codes_fail programs i program d codes (fault.Size at) low is have fails = absurd fails
codes_fail programs i program d codes (fault.Limit at) low is have fails = absurd fails
codes_fail programs i program d codes (fault.Twice at) low is have fails = absurd fails
codes_fail programs i program d codes (fault.Processor at) low is have fails = absurd fails
codes_fail programs i program d codes (fault.NoProgram at) low is have fails = absurd fails
codes_fail programs i program d codes (fault.Place at) low is have fails = absurd fails
codes_fail programs i program d codes (fault.Check index check) low is have fails = absurd fails

-- codes are as many as programs
pub have_length : {programs : List Program} {codes : List (List ℕ)} → HaveCodes programs codes → length codes ≡ length programs
have_length no_program = refl
have_length (one_more {programs} {codes} {code} program have one) =
    omega (arith, length-append codes (code ∷ []), length-append programs (program ∷ []), have_length have)

pub all_built : (programs : List ProgramText) (i : ℕ) (codes : List Code) → length programs ≤ i
    → HaveCodes (programs_of (take i programs)) (codes_of codes) → HaveCodes (programs_of programs) (codes_of codes)
all_built programs i codes high have = rw (← take_all i programs high) have

pub program_at : (programs : List ProgramText) (i : ℕ) (program d : ProgramText) → All IsProgram (programs_of programs) → i < length programs → program ≡ get_or programs i d
    → IsProgram (program_of program)
program_at programs i program d all low is =
    rw is
    (subst IsProgram (get_or-map program_of programs i d (program_of d) low)
    (all i (program_of d) (omega (arith, length-map programs program_of))))
