-- The shapes of a job's lines outside programs. This project's own.
use Rattle.std.specs.Prelude.{ℕ, List, [], ◌∷◌, Option, Some, None, option_map, option_and_then, codes, bytes_eq, if◌then◌else◌}
use Rattle.qpu_job.specs.declared.shape.Shape.{Shape as Told}
use Rattle.qpu_job.specs.declared.shape.Shape.TheVariants as told
use Rattle.qpu_job.specs.Words.{number_of, line_numbers, name_of}

-- what a line says
pub data Shape : Type 0 where
  Empty : Shape
  Opening : Shape
  Memory : (words : ℕ) → Shape
  Limit : (limit : ℕ) → Shape
  Data : (address : ℕ) → (values : List ℕ) → Shape
  Program : (name : List ℕ) → Shape
  Start : (q : ℕ) → (name : List ℕ) → (uniforms : ℕ) → Shape

-- `qpujob 1`, to the letter
unfoldable pub opening_shape : List (List ℕ) → Option Shape
opening_shape (version ∷ []) = if bytes_eq version (codes "1") then Some Opening else None
opening_shape _ = None

-- `memory N`
unfoldable pub memory_shape : List (List ℕ) → Option Shape
memory_shape (words ∷ []) = option_map Memory (number_of words)
memory_shape _ = None

-- `limit N`
unfoldable pub limit_shape : List (List ℕ) → Option Shape
limit_shape (limit ∷ []) = option_map Limit (number_of limit)
limit_shape _ = None

-- `data A V ..`, with at least one value
unfoldable pub data_shape : List (List ℕ) → Option Shape
data_shape (address ∷ value ∷ values) =
    option_and_then (λ address. option_map (Data address) (line_numbers (value ∷ values))) (number_of address)
data_shape _ = None

-- `program NAME`
unfoldable pub program_shape : List (List ℕ) → Option Shape
program_shape (name ∷ []) = option_map Program (name_of name)
program_shape _ = None

-- `start Q NAME U`
unfoldable pub start_shape : List (List ℕ) → Option Shape
start_shape (q ∷ name ∷ uniforms ∷ []) =
    option_and_then (λ q. option_and_then (λ name. option_map (Start q name) (number_of uniforms)) (name_of name)) (number_of q)
start_shape _ = None

-- the shape of a line of these words
unfoldable pub shape_of : List (List ℕ) → Option Shape
shape_of [] = Some Empty
shape_of (word ∷ rest) =
    if bytes_eq word (codes "qpujob") then opening_shape rest
    else if bytes_eq word (codes "memory") then memory_shape rest
    else if bytes_eq word (codes "limit") then limit_shape rest
    else if bytes_eq word (codes "data") then data_shape rest
    else if bytes_eq word (codes "program") then program_shape rest
    else if bytes_eq word (codes "start") then start_shape rest
    else None

-- what a shape says, without where it lies in memory
abbrev pub said : Told → Shape
said told.Empty = Empty
said told.Opening = Opening
said (told.Memory words) = Memory words
said (told.Limit limit) = Limit limit
said (told.Data address values) = Data address values.items
said (told.Program name) = Program name.now
said (told.Start q name uniforms) = Start q name.now uniforms
