-- What every line keeps of what stands above it.
use Rattle.std.proofs.Common.{◌≡◌, ℕ, suc, ◌+◌, ◌<◌, ◌≤◌, Bool, true, false, List, [], ◌∷◌, ◌++◌, length, get_or, map, Option, Some, None, All, refl, ap, arith}
use Rattle.qpu_word.specs.declared.code.TheConstants.{LIMIT_MOST}
use Rattle.std.specs.Prelude.{position, not, ◌||◌, nat_eq, bytes_eq, IfSome, option_map, option_and_then, codes, is_some, is_none, if◌then◌else◌}
use Rattle.std.specs.List.{list_any}
use Rattle.std.proofs.lemmas.Bool.{not-true, not-false, and_parts, or_parts}
use Rattle.std.proofs.lemmas.Bool.Decides.{nat_tests}
use Rattle.std.proofs.lemmas.List.Elements.{All-nil, All-cons}
use Rattle.std.proofs.lemmas.List.Sums.{fails_before_first}
use Rattle.qpu_word.proofs.ProfileLemmas.{every_row}
use Rattle.qpu_job.specs.declared.job.Value.{Value}
use Rattle.qpu_word.specs.declared.code.TheConstants.{MEMORY_WORDS}
use Rattle.qpu_job.specs.declared.job.TheConstants.{MOST_PROGRAMS, MOST_TEXT}
use Rattle.qpu_job.specs.declared.reason.Reason.{Reason}
use Rattle.qpu_job.specs.declared.reason.Reason.TheVariants as cause
use Rattle.qpu_job.specs.declared.stage.Stage.{Stage}
use Rattle.qpu_job.specs.declared.stage.Stage.TheVariants.{Nothing, Opened, Sized, Limited}
use Rattle.qpu_job.specs.Words.{is_name, name_of, number_of, line_numbers}
use Rattle.qpu_job.specs.Shapes.{Shape, Empty, Opening, Memory, Limit, Data, Program, Start, opening_shape, memory_shape, limit_shape, data_shape, program_shape, start_shape, shape_of}
use Rattle.qpu_job.specs.Plan.{Plan, Program as ProgramOf}
use Rattle.qpu_job.specs.Above.{Above, at_first, index_in, values_from}
use Rattle.qpu_job.specs.Faults.{stands, has_wrong_size, is_too_much, is_twice, has_reason, all_causes, first_reason}
use Rattle.qpu_job.specs.ReadJob.{differ, names, started_processors, IsProgram, IsStart}
use Rattle.qpu_text.proofs.LineLemmas.{none_first}

-- a size of memory
abbrev pub IsSize : ℕ → Type 0
IsSize words = (0 < words) × (words ≤ MEMORY_WORDS)

-- values come behind the limit, and memory's size before
abbrev pub HasMemory : Stage → Plan → Type 0
HasMemory Nothing plan = plan.values ≡ []
HasMemory Opened plan = plan.values ≡ []
HasMemory Sized plan = IsSize plan.words × (plan.values ≡ [])
HasMemory Limited plan = IsSize plan.words

abbrev pub how_many : Option ProgramOf → ℕ
how_many None = 0
how_many (Some program) = 1

-- the program whose end isn't there yet, above a line, before so many bytes of the text
pub record IsOpen (total number rest : ℕ) (programs : List ProgramOf) (program : ProgramOf) : Type 0 where
  pub name : is_name program.name ≡ true
  pub text : length program.text + rest ≤ total
  pub line : program.line ≤ number
  pub other : index_in programs program.name ≡ None

-- what is above a line of this number, before so many bytes of the text
pub record IsAbove (total line rest : ℕ) (above : Above) : Type 0 where
  pub most : total ≤ MOST_TEXT
  pub number : line + rest ≤ total + 1
  pub memory : HasMemory above.stage above.plan
  pub limit : above.plan.limit ≤ LIMIT_MOST
  pub values : All (λ (value : Value). value.at < above.plan.words) above.plan.values
  pub few : length above.plan.programs + how_many above.inside ≤ MOST_PROGRAMS
  pub programs : All IsProgram above.plan.programs
  pub inside : IfSome above.inside (IsOpen total line rest above.plan.programs)
  pub names : differ bytes_eq (names above.plan) ≡ true
  pub starts : All (IsStart (length above.plan.programs)) above.plan.starts
  pub processors : differ nat_eq (started_processors above.plan) ≡ true

pub begins : (total : ℕ) → total ≤ MOST_TEXT → IsAbove total 1 total at_first
begins total most = record {
  most = most;
  number = omega arith;
  memory = refl;
  limit = omega arith;
  values = All-nil (λ (value : Value). value.at < 0);
  few = omega arith;
  programs = All-nil IsProgram;
  inside = tt;
  names = refl;
  starts = All-nil (IsStart 0);
  processors = refl;
}

-- no two are the same, and one more

any_none : {X : Type 0} (p : X → Bool) (xs : List X) → ((k : ℕ) (d : X) → k < length xs → p (get_or xs k d) ≡ false) → list_any p xs ≡ false
any_none p [] none = refl
any_none p (x ∷ xs) none = rw (none 0 x (omega arith)) (any_none p xs (λ k d below. none (suc k) d (omega (arith, below))))

pub none_any : {X : Type 0} (p : X → Bool) (xs : List X) → position p xs ≡ None → list_any p xs ≡ false
none_any p xs h = any_none p xs (λ k d below. fails_before_first p xs k d (omega (arith, none_first p xs h, below)))

pub any_push : {X : Type 0} (p : X → Bool) (xs : List X) (y : X) → list_any p xs ≡ false → p y ≡ false → list_any p (xs ++ y ∷ []) ≡ false
any_push p [] y none last = rw last refl
any_push p (x ∷ xs) y none last =
    let parts = or_parts (p x) (list_any p xs) none in
    rw parts.0 (any_push p xs y parts.1 last)

pub any_map : {X Y : Type 0} (f : X → Y) (p : Y → Bool) (xs : List X) → list_any p (map f xs) ≡ list_any (λ x. p (f x)) xs
any_map f p [] = refl
any_map f p (x ∷ xs) = ap (λ (b : Bool). p (f x) || b) (any_map f p xs)

pub differ_push : {X : Type 0} (same : X → X → Bool) (xs : List X) (y : X) → differ same xs ≡ true → list_any (λ x. same x y) xs ≡ false → differ same (xs ++ y ∷ []) ≡ true
differ_push same [] y apart none = refl
differ_push same (x ∷ xs) y apart none =
    let parts = and_parts (not (list_any (same x) xs)) (differ same xs) apart in
    let others = or_parts (same x y) (list_any (λ x. same x y) xs) none in
    let old : list_any (same x) xs ≡ false = not-true (list_any (same x) xs) parts.0 in
    rw (any_push (same x) xs y old others.0) (differ_push same xs y parts.1 others.1)

-- the names of programs

abbrev pub IsNamed : Option Shape → Type 0
IsNamed None = Unit {0}
IsNamed (Some Empty) = Unit {0}
IsNamed (Some Opening) = Unit {0}
IsNamed (Some (Memory words)) = Unit {0}
IsNamed (Some (Limit limit)) = Unit {0}
IsNamed (Some (Data address values)) = Unit {0}
IsNamed (Some (Program name)) = is_name name ≡ true
IsNamed (Some (Start q name uniforms)) = Unit {0}

named_opening : (b : Bool) → IsNamed (if b then Some Opening else None)
named_opening true = tt
named_opening false = tt

opening_named : (words : List (List ℕ)) → IsNamed (opening_shape words)
unfolding opening_shape
opening_named [] = tt
opening_named (version ∷ []) = named_opening (bytes_eq version (codes "1"))
opening_named (version ∷ word ∷ words) = tt

named_memory : (number : Option ℕ) → IsNamed (option_map Memory number)
named_memory None = tt
named_memory (Some n) = tt

memory_named : (words : List (List ℕ)) → IsNamed (memory_shape words)
unfolding memory_shape
memory_named [] = tt
memory_named (size ∷ []) = named_memory (number_of size)
memory_named (size ∷ word ∷ words) = tt

named_limit : (number : Option ℕ) → IsNamed (option_map Limit number)
named_limit None = tt
named_limit (Some n) = tt

limit_named : (words : List (List ℕ)) → IsNamed (limit_shape words)
unfolding limit_shape
limit_named [] = tt
limit_named (limit ∷ []) = named_limit (number_of limit)
limit_named (limit ∷ word ∷ words) = tt

named_data : (address : Option ℕ) (values : Option (List ℕ)) → IsNamed (option_and_then (λ address. option_map (Data address) values) address)
named_data None values = tt
named_data (Some address) None = tt
named_data (Some address) (Some values) = tt

data_named : (words : List (List ℕ)) → IsNamed (data_shape words)
unfolding data_shape
data_named [] = tt
data_named (address ∷ []) = tt
data_named (address ∷ value ∷ values) = named_data (number_of address) (line_numbers (value ∷ values))

named_program : (name : List ℕ) (b : Bool) → is_name name ≡ b → IsNamed (option_map Program (if b then Some name else None))
named_program name true is = is
named_program name false is = tt

program_named : (words : List (List ℕ)) → IsNamed (program_shape words)
unfolding program_shape name_of
program_named [] = tt
program_named (name ∷ []) = named_program name (is_name name) refl
program_named (name ∷ word ∷ words) = tt

named_start : (q : Option ℕ) (name : Option (List ℕ)) (uniforms : Option ℕ)
    → IsNamed (option_and_then (λ q. option_and_then (λ name. option_map (Start q name) uniforms) name) q)
named_start None name uniforms = tt
named_start (Some q) None uniforms = tt
named_start (Some q) (Some name) None = tt
named_start (Some q) (Some name) (Some uniforms) = tt

start_named : (words : List (List ℕ)) → IsNamed (start_shape words)
unfolding start_shape
start_named [] = tt
start_named (q ∷ []) = tt
start_named (q ∷ name ∷ []) = tt
start_named (q ∷ name ∷ uniforms ∷ []) = named_start (number_of q) (name_of name) (number_of uniforms)
start_named (q ∷ name ∷ uniforms ∷ word ∷ words) = tt

either_named : (b : Bool) (x y : Option Shape) → IsNamed x → IsNamed y → IsNamed (if b then x else y)
either_named true x y h k = h
either_named false x y h k = k

-- the name of a program's line is one
pub shape_named : (words : List (List ℕ)) → IsNamed (shape_of words)
unfolding shape_of
shape_named [] = tt
shape_named (word ∷ rest) =
    either_named (bytes_eq word (codes "qpujob")) _ _ (opening_named rest)
    (either_named (bytes_eq word (codes "memory")) _ _ (memory_named rest)
    (either_named (bytes_eq word (codes "limit")) _ _ (limit_named rest)
    (either_named (bytes_eq word (codes "data")) _ _ (data_named rest)
    (either_named (bytes_eq word (codes "program")) _ _ (program_named rest)
    (either_named (bytes_eq word (codes "start")) _ _ (start_named rest) tt)))))

-- a line of each shape, outside programs

pub no_fault : (above : Above) (shape : Shape) → first_reason above shape ≡ None → (k : ℕ) (d : Reason) → k < 7 → has_reason above shape (get_or all_causes k d) ≡ false
unfolding first_reason
no_fault above shape h k d below = every_row (has_reason above shape) all_causes h k d below

pub stands_here : (above : Above) (shape : Shape) → first_reason above shape ≡ None → stands above.stage shape ≡ true
stands_here above shape h =
    let f : not (stands above.stage shape) ≡ false = no_fault above shape h 0 cause.Line (omega arith) in
    not-false (stands above.stage shape) f

later_inside : (total line rest more : ℕ) (programs : List ProgramOf) (inside : Option ProgramOf) → more ≤ rest → IfSome inside (IsOpen total line rest programs) → IfSome inside (IsOpen total (line + 1) more programs)
later_inside total line rest more programs None less h = tt
later_inside total line rest more programs (Some program) less h =
    record { name = h.name; text = omega (arith, less, h.text); line = omega (arith, h.line); other = h.other }

pub later : {total line rest : ℕ} {above : Above} (more : ℕ) → more < rest → IsAbove total line rest above → IsAbove total (line + 1) more above
later {total} {line} {rest} {above} more less h = record {
  most = h.most;
  number = omega (arith, less, h.number);
  memory = h.memory;
  limit = h.limit;
  values = h.values;
  few = h.few;
  programs = h.programs;
  inside = later_inside total line rest more above.plan.programs above.inside (omega (arith, less)) h.inside;
  names = h.names;
  starts = h.starts;
  processors = h.processors;
}

pub opened : (stage : Stage) (plan : Plan) → stands stage Opening ≡ true → HasMemory stage plan → HasMemory Opened plan
unfolding stands
opened Nothing plan s h = h
opened Opened plan s h = absurd (cc)
opened Sized plan s h = absurd (cc)
opened Limited plan s h = absurd (cc)

pub before_size : (stage : Stage) (words : ℕ) (plan : Plan) → stands stage (Memory words) ≡ true → HasMemory stage plan → plan.values ≡ []
unfolding stands
before_size Nothing words plan s h = absurd (cc)
before_size Opened words plan s h = h
before_size Sized words plan s h = absurd (cc)
before_size Limited words plan s h = absurd (cc)

pub before_limit : (stage : Stage) (limit : ℕ) (plan : Plan) → stands stage (Limit limit) ≡ true → HasMemory stage plan → IsSize plan.words
unfolding stands
before_limit Nothing limit plan s h = absurd (cc)
before_limit Opened limit plan s h = absurd (cc)
before_limit Sized limit plan s h = h.0
before_limit Limited limit plan s h = absurd (cc)

pub right_size : (above : Above) (words : ℕ) → first_reason above (Memory words) ≡ None → IsSize words
unfolding has_wrong_size
right_size above words h =
    let f : has_wrong_size (Memory words) ≡ false = no_fault above (Memory words) h 1 cause.Size (omega arith) in
    (grind (arith, nat_tests), grind (arith, nat_tests))

pub right_limit : (above : Above) (limit : ℕ) → first_reason above (Limit limit) ≡ None → limit ≤ LIMIT_MOST
unfolding is_too_much
right_limit above limit h =
    let f : is_too_much above (Limit limit) ≡ false = no_fault above (Limit limit) h 2 cause.Limit (omega arith) in
    grind (arith, nat_tests)

pub room_left : (above : Above) (name : List ℕ) → first_reason above (Program name) ≡ None → length above.plan.programs < MOST_PROGRAMS
unfolding is_too_much
room_left above name h =
    let f : is_too_much above (Program name) ≡ false = no_fault above (Program name) h 2 cause.Limit (omega arith) in
    grind (arith, nat_tests)

none_is : {A : Type 0} (o : Option A) → is_some o ≡ false → o ≡ None
none_is None h = refl
none_is (Some a) h = absurd (cc)

pub new_name : (above : Above) (name : List ℕ) → first_reason above (Program name) ≡ None → index_in above.plan.programs name ≡ None
unfolding is_twice
new_name above name h =
    let f : is_twice above (Program name) ≡ false = no_fault above (Program name) h 3 cause.Twice (omega arith) in
    none_is (index_in above.plan.programs name) f

pub some_is : {A : Type 0} (o : Option A) → is_none o ≡ false → (a : A) × (o ≡ Some a)
some_is None h = absurd (cc)
some_is (Some a) h = (a, refl)

pub values_below : (at words : ℕ) (numbers : List ℕ) → at + length numbers ≤ words → All (λ (value : Value). value.at < words) (values_from at numbers)
unfolding values_from
values_below at words [] h = All-nil (λ (value : Value). value.at < words)
values_below at words (number ∷ numbers) h =
    All-cons (λ (value : Value). value.at < words) (record { at = at; value = number }) (values_from (at + 1) numbers)
    (omega (arith, h)) (values_below (at + 1) words numbers (omega (arith, h)))
