-- What is above a line is kept by the line.
use Rattle.std.proofs.Common.{◌≡◌, ℕ, ◌+◌, ◌/◌, ◌<◌, ◌≤◌, Bool, true, false, List, [], ◌∷◌, ◌++◌, length, map, Option, Some, None, Result, Ok, Err, All, refl, sym, subst, ◌∙◌, arith}
use Rattle.std.specs.Prelude.{nat_eq, bytes_eq, IfSome, is_none, ◌&&◌, if◌then◌else◌}
use Rattle.std.proofs.lemmas.List.{length-append, map_push}
use Rattle.std.proofs.lemmas.List.Elements.{All-nil, All-append, All-push, All-weaker}
use Rattle.std.proofs.lemmas.List.Quantifiers.{position-Some}
use Rattle.std.proofs.lemmas.Bool.{leb-false, and_parts}
use Rattle.qpu_machine.specs.declared.start.Start.{Start as StartOf}
use Rattle.qpu_job.specs.declared.job.Value.{Value}
use Rattle.qpu_job.specs.declared.job.TheConstants.{MOST_PROGRAMS}
use Rattle.qpu_word.specs.declared.code.TheConstants.{WORD_BYTES}
use Rattle.qpu_job.specs.declared.fault.JobFault.{JobFault}
use Rattle.qpu_job.specs.declared.fault.JobFault.TheVariants as fault
use Rattle.qpu_job.specs.declared.reason.Reason.{Reason}
use Rattle.qpu_job.specs.declared.reason.Reason.TheVariants as cause
use Rattle.qpu_job.specs.declared.stage.Stage.{Stage}
use Rattle.qpu_job.specs.declared.stage.Stage.TheVariants.{Nothing, Opened, Sized, Limited}
use Rattle.qpu_job.specs.Lines.{content}
use Rattle.qpu_job.specs.Words.{line_words}
use Rattle.qpu_job.specs.Shapes.{Shape, Empty, Opening, Memory, Limit, Data, Program, Start, shape_of}
use Rattle.qpu_job.specs.Plan.{Plan, Program as ProgramOf}
use Rattle.qpu_job.specs.Above.{Above, index_in, values_from, new_start, above_next, with_line, with_program}
use Rattle.qpu_job.specs.Faults.{stands, is_twice, is_no_processor, is_no_program, first_reason}
use Rattle.qpu_job.specs.Reading.{is_end, is_limited, unless_fault, after_shape, after_outside, after_inside, after_line_in, after_line, at_end}
use Rattle.qpu_job.specs.ReadJob.{differ, names, started_processors, IsProgram, IsStart, IsReadJob}
use Rattle.qpu_job.proofs.AboveLemmas.{place_fits}
use Rattle.qpu_job.proofs.KeptLemmas.{HasMemory, how_many, IsOpen, IsAbove, IsNamed, shape_named, later, no_fault, stands_here, opened, before_size, before_limit, right_size, right_limit, room_left, new_name, some_is, values_below, none_any, any_map, differ_push}

no_value : (plan : Plan) (words : ℕ) → plan.values ≡ [] → All (λ (value : Value). value.at < words) plan.values
no_value plan words none = subst (λ (values : List Value). All (λ (value : Value). value.at < words) values) (sym none) (All-nil (λ (value : Value). value.at < words))

no_program : ProgramOf
no_program = record { name = []; text = []; line = 0 }

new_start_fits : (above : Above) (q : ℕ) (name : List ℕ) (uniforms : ℕ) → first_reason above (Start q name uniforms) ≡ None
    → IsStart (length above.plan.programs) (new_start (index_in above.plan.programs name) q uniforms)
unfolding is_no_processor is_no_program
new_start_fits above q name uniforms h =
    let there : is_no_processor (Start q name uniforms) ≡ false = no_fault above (Start q name uniforms) h 4 cause.Processor (omega arith) in
    let known : is_no_program above (Start q name uniforms) ≡ false = no_fault above (Start q name uniforms) h 5 cause.NoProgram (omega arith) in
    let found = some_is (index_in above.plan.programs name) known in
    let place = position-Some (λ program. bytes_eq program.name name) above.plan.programs found.0 no_program found.1 in
    record { q = leb-false _ _ there; program = rw found.1 place.0 }

new_processor : (above : Above) (q : ℕ) (name : List ℕ) (uniforms : ℕ) (index : Option ℕ) → first_reason above (Start q name uniforms) ≡ None
    → differ nat_eq (started_processors above.plan) ≡ true → differ nat_eq (map (λ start. start.q) (above.plan.starts ++ new_start index q uniforms ∷ [])) ≡ true
unfolding is_twice
new_processor above q name uniforms index h apart =
    let other : is_twice above (Start q name uniforms) ≡ false = no_fault above (Start q name uniforms) h 3 cause.Twice (omega arith) in
    rw (map_push (λ (start : StartOf). start.q) above.plan.starts (new_start index q uniforms))
    (differ_push nat_eq (started_processors above.plan) q apart
    (any_map (λ (start : StartOf). start.q) (λ other. nat_eq other q) above.plan.starts ∙ other))

with_values : (stage : Stage) (plan : Plan) (all : List Value) (address : ℕ) (values : List ℕ) → stands stage (Data address values) ≡ true → HasMemory stage plan → HasMemory stage (record plan { values = all })
unfolding stands
with_values Nothing plan all address values s h = absurd (cc)
with_values Opened plan all address values s h = absurd (cc)
with_values Sized plan all address values s h = absurd (cc)
with_values Limited plan all address values s h = h

with_starts : (stage : Stage) (plan : Plan) (starts : List StartOf) → HasMemory stage plan → HasMemory stage (record plan { starts = starts })
with_starts Nothing plan starts h = h
with_starts Opened plan starts h = h
with_starts Sized plan starts h = h
with_starts Limited plan starts h = h

with_programs : (stage : Stage) (plan : Plan) (programs : List ProgramOf) → HasMemory stage plan → HasMemory stage (record plan { programs = programs })
with_programs Nothing plan programs h = h
with_programs Opened plan programs h = h
with_programs Sized plan programs h = h
with_programs Limited plan programs h = h

-- a line outside programs

taken : (total line rest more : ℕ) (above : Above) (shape : Shape) → more < rest → above.inside ≡ None → IsNamed (Some shape) → first_reason above shape ≡ None
    → IsAbove total line rest above → IsAbove total (line + 1) more (above_next line above shape)
unfolding above_next
taken total line rest more above Empty less none named fits h = later more less h
taken total line rest more above Opening less none named fits h =
    let k = later more less h in
    record {
      most = k.most;
      number = k.number;
      limit = k.limit;
      values = k.values;
      few = k.few;
      programs = k.programs;
      inside = k.inside;
      names = k.names;
      starts = k.starts;
      processors = k.processors;
      memory = opened above.stage above.plan (stands_here above Opening fits) h.memory;
    }
taken total line rest more above (Memory words) less none named fits h =
    let k = later more less h in
    let nothing = before_size above.stage words above.plan (stands_here above (Memory words) fits) h.memory in
    record {
      most = k.most;
      number = k.number;
      limit = k.limit;
      few = k.few;
      programs = k.programs;
      inside = k.inside;
      names = k.names;
      starts = k.starts;
      processors = k.processors;
      values = no_value above.plan words nothing;
      memory = (right_size above words fits, nothing);
    }
taken total line rest more above (Limit limit) less none named fits h =
    let k = later more less h in
    record {
      most = k.most;
      number = k.number;
      values = k.values;
      few = k.few;
      programs = k.programs;
      inside = k.inside;
      names = k.names;
      starts = k.starts;
      processors = k.processors;
      limit = right_limit above limit fits;
      memory = before_limit above.stage limit above.plan (stands_here above (Limit limit) fits) h.memory;
    }
taken total line rest more above (Data address values) less none named fits h =
    let k = later more less h in
    record {
      most = k.most;
      number = k.number;
      limit = k.limit;
      few = k.few;
      programs = k.programs;
      inside = k.inside;
      names = k.names;
      starts = k.starts;
      processors = k.processors;
      values = All-append (λ (value : Value). value.at < above.plan.words) above.plan.values (values_from (address / WORD_BYTES) values) h.values
          (values_below (address / WORD_BYTES) above.plan.words values (place_fits address values above fits));
      memory = with_values above.stage above.plan (above.plan.values ++ values_from (address / WORD_BYTES) values) address values (stands_here above (Data address values) fits) h.memory;
    }
taken total line rest more above (Program name) less none named fits h =
    let k = later more less h in
    record {
      most = k.most;
      number = k.number;
      limit = k.limit;
      values = k.values;
      programs = k.programs;
      names = k.names;
      starts = k.starts;
      processors = k.processors;
      memory = k.memory;
      few = omega (arith, room_left above name fits);
      inside = record {
        name = named;
        text = omega (arith, h.number, less);
        line = omega arith;
        other = new_name above name fits;
      };
    }
taken total line rest more above (Start q name uniforms) less none named fits h =
    let k = later more less h in
    record {
      most = k.most;
      number = k.number;
      limit = k.limit;
      values = k.values;
      few = k.few;
      programs = k.programs;
      inside = k.inside;
      names = k.names;
      memory = with_starts above.stage above.plan (above.plan.starts ++ new_start (index_in above.plan.programs name) q uniforms ∷ []) h.memory;
      starts = All-push (IsStart (length above.plan.programs)) above.plan.starts (new_start (index_in above.plan.programs name) q uniforms) h.starts (new_start_fits above q name uniforms fits);
      processors = new_processor above q name uniforms (index_in above.plan.programs name) fits h.processors;
    }

named_taken : (total line rest more : ℕ) (above next : Above) (shape : Shape) (fault : Option Reason) → first_reason above shape ≡ fault → more < rest → above.inside ≡ None → IsNamed (Some shape)
    → IsAbove total line rest above → unless_fault line above shape fault ≡ Ok next → IsAbove total (line + 1) more next
named_taken total line rest more above next shape None fits less none named h is =
    let same : above_next line above shape ≡ next = cc in
    subst (IsAbove total (line + 1) more) same (taken total line rest more above shape less none named fits h)
named_taken total line rest more above next shape (Some cause) fits less none named h is = absurd (cc)

after_shape_keeps : (total line rest more : ℕ) (above next : Above) (shape : Option Shape) → more < rest → above.inside ≡ None → IsNamed shape
    → IsAbove total line rest above → after_shape line above shape ≡ Ok next → IsAbove total (line + 1) more next
unfolding after_shape
after_shape_keeps total line rest more above next None less none named h is = absurd (cc)
after_shape_keeps total line rest more above next (Some shape) less none named h is =
    named_taken total line rest more above next shape (first_reason above shape) refl less none named h is

outside_keeps : (total line rest more : ℕ) (above next : Above) (text : List ℕ) → more < rest → above.inside ≡ None
    → IsAbove total line rest above → after_outside line above text ≡ Ok next → IsAbove total (line + 1) more next
unfolding after_outside
outside_keeps total line rest more above next text less none h is =
    after_shape_keeps total line rest more above next (shape_of (line_words (content text))) less none (shape_named (line_words (content text))) h is

-- a line inside of one

open_here : {total line rest : ℕ} {above : Above} (program : ProgramOf) → above.inside ≡ Some program → IsAbove total line rest above → IsOpen total line rest above.plan.programs program
open_here {total} {line} {rest} {above} program is h = subst (λ (inside : Option ProgramOf). IfSome inside (IsOpen total line rest above.plan.programs)) is h.inside

few_here : {total line rest : ℕ} {above : Above} (program : ProgramOf) → above.inside ≡ Some program → IsAbove total line rest above → length above.plan.programs + 1 ≤ MOST_PROGRAMS
few_here {total} {line} {rest} {above} program is h = subst (λ (inside : Option ProgramOf). length above.plan.programs + how_many inside ≤ MOST_PROGRAMS) is h.few

line_taken : (total line rest more : ℕ) (above : Above) (program : ProgramOf) (text : List ℕ) → length text + more ≡ rest → 0 < length text → above.inside ≡ Some program
    → IsAbove total line rest above → IsAbove total (line + 1) more (with_line above program text)
line_taken total line rest more above program text long some is h =
    let k = later more (omega (arith, long, some)) h in
    let o = open_here program is h in
    record {
      most = k.most;
      number = k.number;
      limit = k.limit;
      values = k.values;
      programs = k.programs;
      names = k.names;
      starts = k.starts;
      processors = k.processors;
      memory = k.memory;
      few = few_here program is h;
      inside = record {
        name = o.name;
        text = omega (arith, o.text, long, length-append program.text text);
        line = omega (arith, o.line);
        other = o.other;
      };
    }

new_names : (plan : Plan) (program : ProgramOf) → index_in plan.programs program.name ≡ None → differ bytes_eq (names plan) ≡ true
    → differ bytes_eq (map (λ program. program.name) (plan.programs ++ program ∷ [])) ≡ true
new_names plan program other apart =
    rw (map_push (λ (p : ProgramOf). p.name) plan.programs program)
    (differ_push bytes_eq (names plan) program.name apart
    (any_map (λ (p : ProgramOf). p.name) (λ name. bytes_eq name program.name) plan.programs
    ∙ none_any (λ p. bytes_eq p.name program.name) plan.programs other))

program_taken : (total line rest more : ℕ) (above : Above) (program : ProgramOf) → more < rest → above.inside ≡ Some program
    → IsAbove total line rest above → IsAbove total (line + 1) more (with_program above program)
program_taken total line rest more above program less is h =
    let k = later more less h in
    let o = open_here program is h in
    let one_more = length-append above.plan.programs (program ∷ []) in
    record {
      most = k.most;
      number = k.number;
      limit = k.limit;
      values = k.values;
      processors = k.processors;
      memory = with_programs above.stage above.plan (above.plan.programs ++ program ∷ []) h.memory;
      few = omega (arith, one_more, few_here program is h);
      programs = All-push IsProgram above.plan.programs program h.programs
          (record { name = o.name; text = omega (arith, o.text, h.most); line = omega (arith, o.line, h.number, h.most, less) });
      inside = tt;
      names = new_names above.plan program o.other h.names;
      starts = All-weaker (IsStart (length above.plan.programs)) (IsStart (length (above.plan.programs ++ program ∷ [])))
          (λ start s. record { q = s.q; program = omega (arith, s.program, one_more) }) above.plan.starts h.starts;
    }

-- what a line inside a program comes to, and the end of the text, by their tests
abbrev pub by_end : ProgramOf → Above → List ℕ → Bool → Result Above JobFault
by_end program above text end = if end then Ok (with_program above program) else Ok (with_line above program text)

inside_by : (total line rest more : ℕ) (above next : Above) (program : ProgramOf) (text : List ℕ) (end : Bool) → length text + more ≡ rest → 0 < length text → above.inside ≡ Some program
    → IsAbove total line rest above → by_end program above text end ≡ Ok next → IsAbove total (line + 1) more next
inside_by total line rest more above next program text true long some is h e =
    let same : with_program above program ≡ next = cc in
    subst (IsAbove total (line + 1) more) same (program_taken total line rest more above program (omega (arith, long, some)) is h)
inside_by total line rest more above next program text false long some is h e =
    let same : with_line above program text ≡ next = cc in
    subst (IsAbove total (line + 1) more) same (line_taken total line rest more above program text long some is h)

inside_keeps : (total line rest more : ℕ) (above next : Above) (program : ProgramOf) (text : List ℕ) → length text + more ≡ rest → 0 < length text → above.inside ≡ Some program
    → IsAbove total line rest above → after_inside program above text ≡ Ok next → IsAbove total (line + 1) more next
unfolding after_inside
inside_keeps total line rest more above next program text long some is h e =
    inside_by total line rest more above next program text (is_end text) long some is h e

line_by : (total line rest more : ℕ) (above next : Above) (inside : Option ProgramOf) (text : List ℕ) → length text + more ≡ rest → 0 < length text → above.inside ≡ inside
    → IsAbove total line rest above → after_line_in inside line above text ≡ Ok next → IsAbove total (line + 1) more next
line_by total line rest more above next None text long some is h e =
    outside_keeps total line rest more above next text (omega (arith, long, some)) is h e
line_by total line rest more above next (Some program) text long some is h e =
    inside_keeps total line rest more above next program text long some is h e

-- any line
pub line_keeps : (total line rest more : ℕ) (above next : Above) (text : List ℕ) → length text + more ≡ rest → 0 < length text
    → IsAbove total line rest above → after_line line above text ≡ Ok next → IsAbove total (line + 1) more next
line_keeps total line rest more above next text long some h e = line_by total line rest more above next above.inside text long some refl h e

-- the end of the text

ended_by : (total line rest : ℕ) (above : Above) → above.stage ≡ Limited → IsAbove total line rest above → IsReadJob above.plan
ended_by total line rest above is h =
    let size = subst (λ stage. HasMemory stage above.plan) is h.memory in
    record {
      some_memory = size.0;
      most_memory = size.1;
      limit = h.limit;
      values = h.values;
      few_programs = omega (arith, h.few);
      programs = h.programs;
      names = h.names;
      starts = h.starts;
      processors = h.processors;
    }

abbrev pub job_end : ℕ → Above → Bool → Result Plan JobFault
job_end line above ended = if ended then Ok above.plan else Err (fault.Line line)

pub limited : (stage : Stage) → is_limited stage ≡ true → stage ≡ Limited
limited Nothing h = absurd (cc)
limited Opened h = absurd (cc)
limited Sized h = absurd (cc)
limited Limited h = refl

end_by : (total line rest : ℕ) (above : Above) (plan : Plan) (ended : Bool) → (is_limited above.stage && is_none above.inside) ≡ ended → IsAbove total line rest above
    → job_end line above ended ≡ Ok plan → IsReadJob plan
end_by total line rest above plan true is h e =
    let same : above.plan ≡ plan = cc in
    let parts = and_parts (is_limited above.stage) (is_none above.inside) is in
    subst IsReadJob same (ended_by total line rest above (limited above.stage parts.0) h)
end_by total line rest above plan false is h e = absurd (cc)

pub end_keeps : (total line rest : ℕ) (above : Above) (plan : Plan) → IsAbove total line rest above → at_end line above ≡ Ok plan → IsReadJob plan
unfolding at_end
end_keeps total line rest above plan h e = end_by total line rest above plan (is_limited above.stage && is_none above.inside) refl h e
