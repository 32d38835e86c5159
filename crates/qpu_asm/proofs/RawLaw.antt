-- A line's word stands as it is written exactly where the line is `.word` and a number.
use Rattle.std.proofs.Common.{◌≡◌, ◌↔◌, ℕ, Bool, true, false, List, [], ◌∷◌, Option, Some, None, Result, Ok, Err, refl, ap, subst}
use Rattle.std.specs.Prelude.{if◌then◌else◌}
use Rattle.qpu_token.specs.declared.token.Token.{Token}
use Rattle.qpu_token.specs.declared.fault.AsmFault.{AsmFault}
use Rattle.qpu_line.specs.declared.name.Name.TheVariants as name
use Rattle.qpu_line.specs.declared.symbol.Symbol.{Symbol}
use Rattle.qpu_line.specs.declared.symbol.Symbol.TheVariants as symbol
use Rattle.qpu_asm.specs.declared.placed.Placed.{Placed}
use Rattle.qpu_asm.specs.declared.part.Part.{Part}
use Rattle.qpu_asm.specs.declared.line.Line.{Line}
use Rattle.qpu_asm.specs.declared.line.Line.TheVariants.{Raw, Says}
use Rattle.qpu_asm.specs.Signs.{is_colon}
use Rattle.qpu_asm.specs.Signs.{is_dot}
use Rattle.qpu_asm.specs.SectionTokens.{SectionTokens}
use Rattle.qpu_asm.specs.reader.Sections.{sections_of, unknown_in, first_of, parts_of}
use Rattle.qpu_asm.specs.reader.Marks.{marks_of}
use Rattle.qpu_asm.specs.reader.Judging.{line_fault}
use Rattle.qpu_asm.specs.reader.Meanings.{meaning}
use Rattle.qpu_asm.specs.reader.LinesRead.{word_number, number_symbol, directive_symbol, directive, by_fault, by_parts, by_unknown, instruction_line, shaped, read_line}
use Rattle.qpu_asm.specs.Laws.{symbols_of, word_symbols}
use Rattle.qpu_asm.proofs.ProperParts.{GivesPart, gives_on}

-- what is read is what the symbols are

abbrev IsNumber : List Placed → ℕ → Type 0
IsNumber xs n = symbols_of xs ≡ symbol.Number n ∷ []

number_by : (s : Symbol) (x : Placed) (rest : List Placed) → x.symbol ≡ s → GivesPart (IsNumber (x ∷ rest)) (number_symbol s x.token rest)
number_by (symbol.Number n) x [] e = ap (λ t. t ∷ []) e
number_by (symbol.Number n) x (y ∷ rest) e = tt
number_by _ x rest e = tt

number_read : (end : Token) (xs : List Placed) → GivesPart (IsNumber xs) (word_number end xs)
number_read end [] = tt
number_read end (x ∷ rest) = number_by x.symbol x rest refl

-- a line says a word only if its symbols are those of the word
abbrev IsOf : List Symbol → Line → Type 0
IsOf symbols (Raw n) = symbols ≡ word_symbols n
IsOf symbols (Says i) = Unit {0}

joined : (x y : Placed) (rest : List Placed) (n : ℕ) → x.symbol ≡ symbol.Dot → y.symbol ≡ symbol.Name name.Word → symbols_of rest ≡ symbol.Number n ∷ [] → symbols_of (x ∷ y ∷ rest) ≡ word_symbols n
joined x y rest n dot word number = cc

directive_by : (s : Symbol) (x y : Placed) (end : Token) (rest : List Placed) → x.symbol ≡ symbol.Dot → y.symbol ≡ s
    → GivesPart (IsOf (symbols_of (x ∷ y ∷ rest))) (directive_symbol s x.token end rest)
directive_by (symbol.Name name.Word) x y end rest dot e =
    gives_on (IsNumber rest) (IsOf (symbols_of (x ∷ y ∷ rest))) (word_number end rest) (λ n. Ok (Raw n)) (number_read end rest) (λ n is. joined x y rest n dot e is)
directive_by (symbol.Name name.Set) x y end rest dot e = tt
directive_by _ x y end rest dot e = tt

directive_read : (x : Placed) (end : Token) (rest : List Placed) → x.symbol ≡ symbol.Dot → GivesPart (IsOf (symbols_of (x ∷ rest))) (directive x.token end rest)
directive_read x end [] dot = tt
directive_read x end (y ∷ rest) dot = directive_by y.symbol x y end rest dot refl

abbrev LineIs : List Symbol → Result Line AsmFault → Type 0
LineIs symbols (Ok line) = IsOf symbols line
LineIs symbols (Err fault) = Unit {0}

shaped_is : (symbols : List Symbol) (r : Result Line Token) → GivesPart (IsOf symbols) r → LineIs symbols (shaped r)
shaped_is symbols (Ok line) is = is
shaped_is symbols (Err token) is = tt

fault_is : (symbols : List Symbol) (at : ℕ) (first : Part) (later : List Part) (o : Option AsmFault) → LineIs symbols (by_fault o (Says (meaning at first later)))
fault_is symbols at first later None = tt
fault_is symbols at first later (Some fault) = tt

parts_is : (symbols : List Symbol) (at : ℕ) (end : Token) (r : Result (List Part) Token) → LineIs symbols (by_parts at end r)
parts_is symbols at end (Err token) = tt
parts_is symbols at end (Ok []) = tt
parts_is symbols at end (Ok (first ∷ later)) = fault_is symbols at first later (line_fault (marks_of (first ∷ later)))

known_is : (symbols : List Symbol) (at : ℕ) (end : Token) (sections : List SectionTokens) (o : Option Token) → LineIs symbols (by_unknown at end sections o)
known_is symbols at end sections None = parts_is symbols at end (parts_of sections)
known_is symbols at end sections (Some token) = tt

instruction_is : (symbols : List Symbol) (at : ℕ) (end : Token) (xs : List Placed) → LineIs symbols (instruction_line at end xs)
unfolding instruction_line
instruction_is symbols at end xs = known_is symbols at end (sections_of end xs) (first_of (λ s. unknown_in s.tokens) (sections_of end xs))

dot_is : (s : Symbol) → is_dot s ≡ true → s ≡ symbol.Dot
dot_is symbol.Dot e = refl
dot_is _ e = absurd (no e)
  where
    no : false ≡ true → ⊥
    no f = cc

line_by : (symbols : List Symbol) (a b : Bool) (d i : Result Line AsmFault) (fault : AsmFault) → (a ≡ true → LineIs symbols d) → LineIs symbols i → LineIs symbols (if a then d else if b then Err fault else i)
line_by symbols true b d i fault one other = one refl
line_by symbols false true d i fault one other = tt
line_by symbols false false d i fault one other = other

line_is : (at : ℕ) (end : Token) (xs : List Placed) → LineIs (symbols_of xs) (read_line at end xs)
unfolding read_line
line_is at end [] = tt
line_is at end (x ∷ rest) =
    line_by (symbols_of (x ∷ rest)) (is_dot x.symbol) (is_colon x.symbol) (shaped (directive x.token end rest)) (instruction_line at end (x ∷ rest)) _
    (λ dot. shaped_is (symbols_of (x ∷ rest)) (directive x.token end rest) (directive_read x end rest (dot_is x.symbol dot))) (instruction_is (symbols_of (x ∷ rest)) at end (x ∷ rest))

-- and such a line says it

word_read : (at : ℕ) (end : Token) (xs : List Placed) (n : ℕ) → symbols_of xs ≡ word_symbols n → read_line at end xs ≡ Ok (Raw n)
unfolding read_line
word_read at end [] n e = cc
word_read at end (x ∷ []) n e = cc
word_read at end (x ∷ y ∷ []) n e = cc
word_read at end (x ∷ y ∷ z ∷ []) n e =
    let dot : x.symbol ≡ symbol.Dot = cc in
    let word : y.symbol ≡ symbol.Name name.Word = cc in
    let number : z.symbol ≡ symbol.Number n = cc in
    rw (dot, word, number) refl
word_read at end (x ∷ y ∷ z ∷ t ∷ rest) n e = cc

pub raw_law : (at : ℕ) (end : Token) (xs : List Placed) (n : ℕ) → read_line at end xs ≡ Ok (Raw n) ↔ symbols_of xs ≡ word_symbols n
raw_law at end xs n = (λ e. subst (LineIs (symbols_of xs)) e (line_is at end xs), word_read at end xs n)
