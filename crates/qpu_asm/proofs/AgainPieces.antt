-- The pieces of a canonical line are read: targets and operands, with what follows them.
use Rattle.std.proofs.Common.{◌≡◌, ℕ, Bool, true, false, List, [], ◌∷◌, ◌⊎◌, inl, inr, refl, sym, ◌∙◌, subst, map}
use Rattle.std.specs.Prelude.{◌&&◌, ◌||◌, Option, Some, None, unwrap_or, Ok, if◌then◌else◌}
use Rattle.qpu_token.specs.declared.token.Token.{Token}
use Rattle.qpu_word.specs.declared.name.Place.{Place}
use Rattle.qpu_line.specs.declared.name.Name.{Name}
use Rattle.qpu_line.specs.declared.name.Name.TheVariants as name
use Rattle.qpu_line.specs.declared.symbol.Symbol.{Symbol}
use Rattle.qpu_line.specs.declared.symbol.Symbol.TheVariants as symbol
use Rattle.qpu_asm.specs.declared.placed.Placed.{Placed}
use Rattle.qpu_asm.specs.declared.piece.Core.{Core}
use Rattle.qpu_asm.specs.declared.piece.Core.TheVariants as core
use Rattle.qpu_asm.specs.declared.piece.Suffix.{Suffix}
use Rattle.qpu_asm.specs.declared.piece.Piece.{Piece}
use Rattle.qpu_asm.specs.declared.part.Suffixes.{Suffixes}
use Rattle.qpu_asm.specs.reader.Reading.{Read}
use Rattle.qpu_asm.specs.Expressions.{length_from, expression_length}
use Rattle.qpu_asm.specs.declared.expression.Due.TheVariants.{Sign}
use Rattle.qpu_asm.specs.reader.Pieces.{named, name_alone, alone, bare, target_of_length, value_of_length, target_core, value_core, operand_core, suffix_at, suffix_behind, suffix_of, target_at, operand_at}
use Rattle.qpu_asm.specs.Signs.{is_minus, is_dot, is_comma, stops, length_of, has_dot}
use Rattle.qpu_asm.specs.reader.Parts.{suffixes_at}

-- what stands behind a piece

-- nothing, or a comma
abbrev pub Ends : List Placed → Type 0
Ends [] = Unit {0}
Ends (x ∷ rest) = x.symbol ≡ symbol.Comma

-- nothing, a comma or a suffix
abbrev pub Stops : List Placed → Type 0
Stops [] = Unit {0}
Stops (x ∷ rest) = (x.symbol ≡ symbol.Comma) ⊎ (x.symbol ≡ symbol.Dot)

abbrev pub NoDot : List Placed → Type 0
NoDot [] = Unit {0}
NoDot (x ∷ rest) = is_dot x.symbol ≡ false

pub ends_stops : (xs : List Placed) → Ends xs → Stops xs
ends_stops [] h = tt
ends_stops (x ∷ rest) h = inl h

pub ends_no_dot : (xs : List Placed) → Ends xs → NoDot xs
ends_no_dot [] h = tt
ends_no_dot (x ∷ rest) h = rw h refl

comma_stops : (s : Symbol) → s ≡ symbol.Comma → (is_comma s || is_dot s) ≡ true
comma_stops s e = rw e refl

dot_stops : (s : Symbol) → s ≡ symbol.Dot → (is_comma s || is_dot s) ≡ true
dot_stops s e = rw e refl

pub stops_true : (xs : List Placed) → Stops xs → stops xs ≡ true
stops_true [] h = refl
stops_true (x ∷ rest) (inl e) = comma_stops x.symbol e
stops_true (x ∷ rest) (inr e) = dot_stops x.symbol e

-- an expression of one token
no_more : (s : Symbol) (ss : List Symbol) → (s ≡ symbol.Comma) ⊎ (s ≡ symbol.Dot) → length_from Sign 0 (s ∷ ss) ≡ Some 0
no_more s ss (inl e) = let P : Symbol → Type 0 = λ t. length_from Sign 0 (t ∷ ss) ≡ Some 0 in subst P (sym e) refl
no_more s ss (inr e) = let P : Symbol → Type 0 = λ t. length_from Sign 0 (t ∷ ss) ≡ Some 0 in subst P (sym e) refl

stopped : (xs : List Placed) → Stops xs → length_from Sign 0 (map (λ x. x.symbol) xs) ≡ Some 0
stopped [] h = refl
stopped (x ∷ rest) h = no_more x.symbol (map (λ x. x.symbol) rest) h

one_name : (n : Name) (ss : List Symbol) → length_from Sign 0 ss ≡ Some 0 → expression_length (symbol.Name n ∷ ss) ≡ Some 1
one_name n ss e = rw e refl

one_number : (n : ℕ) (ss : List Symbol) → length_from Sign 0 ss ≡ Some 0 → expression_length (symbol.Number n ∷ ss) ≡ Some 1
one_number n ss e = rw e refl

pub name_length : (x : Placed) (rest : List Placed) (n : Name) → x.symbol ≡ symbol.Name n → Stops rest → length_of (x ∷ rest) ≡ Some 1
name_length x rest n e h =
    let P : Symbol → Type 0 = λ s. expression_length (s ∷ map (λ x. x.symbol) rest) ≡ Some 1 in
    subst P (sym e) (one_name n (map (λ x. x.symbol) rest) (stopped rest h))

pub number_length : (x : Placed) (rest : List Placed) (n : ℕ) → x.symbol ≡ symbol.Number n → Stops rest → length_of (x ∷ rest) ≡ Some 1
number_length x rest n e h =
    let P : Symbol → Type 0 = λ s. expression_length (s ∷ map (λ x. x.symbol) rest) ≡ Some 1 in
    subst P (sym e) (one_number n (map (λ x. x.symbol) rest) (stopped rest h))

-- cores

target_step : (x : Placed) (rest : List Placed) (s : Symbol) (l : Option ℕ) (b : Bool) (n : Name) → s ≡ symbol.Name n → l ≡ Some 1
    → (if is_minus s && b then Ok (bare core.Nowhere x.token, rest) else target_of_length x rest (name_alone s) l) ≡ Ok (bare (core.Name n) x.token, rest)
target_step x rest s l b n e f = rw (e, f) refl

pub target_name : (end : Token) (x : Placed) (rest : List Placed) (n : Name) → x.symbol ≡ symbol.Name n → Stops rest
    → target_core end (x ∷ rest) ≡ Ok (bare (core.Name n) x.token, rest)
unfolding target_core
target_name end x rest n e h = target_step x rest x.symbol (length_of (x ∷ rest)) (stops rest) n e (name_length x rest n e h)

nowhere_step : (x : Placed) (rest : List Placed) (s : Symbol) (l : Option ℕ) (b : Bool) → s ≡ symbol.Minus → b ≡ true
    → (if is_minus s && b then Ok (bare core.Nowhere x.token, rest) else target_of_length x rest (name_alone s) l) ≡ Ok (bare core.Nowhere x.token, rest)
nowhere_step x rest s l b e f = rw (e, f) refl

pub target_nowhere : (end : Token) (x : Placed) (rest : List Placed) → x.symbol ≡ symbol.Minus → Stops rest
    → target_core end (x ∷ rest) ≡ Ok (bare core.Nowhere x.token, rest)
unfolding target_core
target_nowhere end x rest e h = nowhere_step x rest x.symbol (length_of (x ∷ rest)) (stops rest) e (stops_true rest h)

name_step : (x : Placed) (rest : List Placed) (s : Symbol) (l : Option ℕ) (n : Name) → s ≡ symbol.Name n → l ≡ Some 1
    → value_of_length x rest (alone s) l ≡ Ok (bare (core.Name n) x.token, rest)
name_step x rest s l n e f = rw (e, f) refl

pub value_name : (end : Token) (x : Placed) (rest : List Placed) (n : Name) → x.symbol ≡ symbol.Name n → Stops rest
    → value_core end (x ∷ rest) ≡ Ok (bare (core.Name n) x.token, rest)
unfolding value_core
value_name end x rest n e h = name_step x rest x.symbol (length_of (x ∷ rest)) n e (name_length x rest n e h)

pub operand_name_step : (s : Symbol) (b : Bool) (other r : Read Piece) (n : Name) → s ≡ symbol.Name n → (if is_minus s && b then other else r) ≡ r
operand_name_step s b other r n e = rw e refl

pub operand_name : (end : Token) (x : Placed) (rest : List Placed) (n : Name) → x.symbol ≡ symbol.Name n → Stops rest
    → operand_core end (x ∷ rest) ≡ Ok (bare (core.Name n) x.token, rest)
unfolding operand_core
operand_name end x rest n e h =
    operand_name_step x.symbol (has_dot rest) (Ok (bare core.Nowhere x.token, rest)) (value_core end (x ∷ rest)) n e ∙ value_name end x rest n e h

pub operand_number_step : (s : Symbol) (b : Bool) (other r : Read Piece) (n : ℕ) → s ≡ symbol.Number n → (if is_minus s && b then other else r) ≡ r
operand_number_step s b other r n e = rw e refl

-- suffixes

pub no_suffix_step : (x : Placed) (rest : List Placed) (b : Bool) → b ≡ false
    → (if b then suffix_behind x.token rest else Ok (None, x ∷ rest)) ≡ Ok (None, x ∷ rest)
no_suffix_step x rest b e = rw e refl

pub no_suffix_at : (xs : List Placed) → NoDot xs → suffix_at xs ≡ Ok (None, xs)
no_suffix_at [] h = refl
no_suffix_at (x ∷ rest) h = no_suffix_step x rest (is_dot x.symbol) h

abbrev pub suffixed : Token → Name → Option Suffix
suffixed dot n = Some (record { dot = dot; name = Some n })

suffix_step : (x y : Placed) (rest : List Placed) (s t : Symbol) (n : Name) → s ≡ symbol.Dot → t ≡ symbol.Name n
    → (if is_dot s then suffix_of x.token y.token rest (named t) else Ok (None, x ∷ y ∷ rest)) ≡ Ok (suffixed x.token n, rest)
suffix_step x y rest s t n e f = rw (e, f) refl

pub suffix_there : (x y : Placed) (rest : List Placed) (n : Name) → x.symbol ≡ symbol.Dot → y.symbol ≡ symbol.Name n
    → suffix_at (x ∷ y ∷ rest) ≡ Ok (suffixed x.token n, rest)
suffix_there x y rest n e f = suffix_step x y rest x.symbol y.symbol n e f

-- the suffix that has a name
abbrev pub Suffixed : Option Name → Option Suffix → Type 0
Suffixed None s = s ≡ None
Suffixed (Some n) s = (dot : Token) × (s ≡ suffixed dot n)

-- a condition and the sign that flags are set

abbrev pub SaysSuffixes : Option Name → Bool → Suffixes → Type 0
SaysSuffixes None false s = s ≡ record { first = None; second = None }
SaysSuffixes None true s = (a : Token) × (s ≡ record { first = suffixed a name.SetFlags; second = None })
SaysSuffixes (Some n) false s = (a : Token) × (s ≡ record { first = suffixed a n; second = None })
SaysSuffixes (Some n) true s = (a : Token) × (b : Token) × (s ≡ record { first = suffixed a n; second = suffixed b name.SetFlags })

pub two_suffixes : (xs ys zs : List Placed) (a b : Option Suffix) → suffix_at xs ≡ Ok (a, ys) → suffix_at ys ≡ Ok (b, zs)
    → suffixes_at xs ≡ Ok (record { first = a; second = b }, zs)
unfolding suffixes_at
two_suffixes xs ys zs a b e f = rw (e, f) refl

-- targets

-- a place that is there
pub place_by : (o : Option Place) (to other : Place) → o ≡ Some to → unwrap_or o other ≡ to
place_by o to other e = rw e refl

-- with a suffix

pub suffix_behind_target : (end : Token) (xs ys zs : List Placed) (c : Core) (t : Token) (s : Option Suffix)
    → target_core end xs ≡ Ok (bare c t, ys) → suffix_at ys ≡ Ok (s, zs) → target_at end xs ≡ Ok (record { core = c; token = t; suffix = s }, zs)
unfolding target_at
suffix_behind_target end xs ys zs c t s e f = rw (e, f) refl

pub suffix_behind_operand : (end : Token) (xs ys zs : List Placed) (c : Core) (t : Token) (s : Option Suffix)
    → operand_core end xs ≡ Ok (bare c t, ys) → suffix_at ys ≡ Ok (s, zs) → operand_at end xs ≡ Ok (record { core = c; token = t; suffix = s }, zs)
unfolding operand_at
suffix_behind_operand end xs ys zs c t s e f = rw (e, f) refl
