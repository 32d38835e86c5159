-- What is read of a section's tokens tells what its symbols are.
use Rattle.std.proofs.Common.{◌≡◌, ℕ, zero, suc, Bool, true, false, List, [], ◌∷◌, ◌++◌, take, drop, Option, Some, None, Ok, Err, refl, sym, subst, arith}
use Rattle.std.specs.Prelude.{◌==◌, ◌&&◌, ◌%◌, ◌^◌, if◌then◌else◌}
use Rattle.qpu_token.specs.declared.token.Token.{Token}
use Rattle.qpu_line.specs.declared.name.Name.{Name}
use Rattle.qpu_line.specs.declared.name.Name.TheVariants as name
use Rattle.qpu_line.specs.declared.load.LoadKind.{LoadKind}
use Rattle.qpu_line.specs.declared.units.Signal.{Signal}
use Rattle.qpu_line.specs.declared.units.Signal.TheVariants as signal
use Rattle.qpu_line.specs.declared.symbol.Symbol.{Symbol}
use Rattle.qpu_line.specs.declared.symbol.Symbol.TheVariants as symbol
use Rattle.qpu_asm.specs.declared.placed.Placed.{Placed}
use Rattle.qpu_asm.specs.declared.piece.Core.{Core}
use Rattle.qpu_asm.specs.declared.piece.Core.TheVariants as core
use Rattle.qpu_asm.specs.declared.piece.Suffix.{Suffix}
use Rattle.qpu_asm.specs.declared.piece.Piece.{Piece}
use Rattle.qpu_asm.specs.declared.part.Suffixes.{Suffixes}
use Rattle.qpu_asm.specs.declared.part.UnitPart.{UnitPart}
use Rattle.qpu_asm.specs.declared.part.LoadPart.{LoadPart}
use Rattle.qpu_asm.specs.declared.part.AlsoPart.{AlsoPart}
use Rattle.qpu_asm.specs.declared.part.BranchPart.{BranchPart}
use Rattle.qpu_asm.specs.declared.part.Part.{Part}
use Rattle.qpu_asm.specs.declared.part.Part.TheVariants as part
use Rattle.qpu_asm.specs.Roles.{takes_one}
use Rattle.qpu_asm.specs.reader.Reading.{Read, ended}
use Rattle.qpu_asm.specs.Signs.{is_comma, is_dot, is_minus, stops, length_of, has_dot}
use Rattle.qpu_asm.specs.reader.Pieces.{named, suffix_of, suffix_behind, suffix_at, alone, name_alone, bare, target_of_length, target_core, value_of_length, value_core, label_by, label_core, jump_core, operand_core, with_suffix, target_at, operand_at, comma_at}
use Rattle.qpu_asm.specs.reader.Parts.{suffixes_at, one_operand, two_operands, operands_at, unit_part, load_part, also_part, branch_part, last_value, last_name, part_by}
use Rattle.qpu_asm.specs.Laws.{symbols_of}
use Rattle.qpu_asm.specs.SpelledPieces.{IsName}
use Rattle.qpu_asm.specs.SpelledPieces.IsName.{known, unknown}
use Rattle.qpu_asm.specs.Spells.{label_in, branch_name}
use Rattle.qpu_asm.specs.Signs.{is_colon}
use Rattle.qpu_asm.proofs.ProperParts.{GivesPart, gives_on, gives_if, is_op}
use Rattle.qpu_asm.proofs.AgainSpelled.{Spelled}

-- symbols one behind another

pub spelled_join : (a b : List Symbol) (xs mid rest : List Placed) → Spelled a xs mid → Spelled b mid rest → Spelled (a ++ b) xs rest
spelled_join [] b xs mid rest e h = let P : List Placed → Type 0 = λ z. Spelled b z rest in subst P (sym e) h
spelled_join (s ∷ a) b [] mid rest h g = absurd h
spelled_join (s ∷ a) b (x ∷ xs) mid rest h g = (h.0, spelled_join a b xs mid rest h.1 g)

spelled_take : (n : ℕ) (xs : List Placed) → Spelled (symbols_of (take n xs)) xs (drop n xs)
spelled_take zero xs = refl
spelled_take (suc n) [] = refl
spelled_take (suc n) (x ∷ xs) = (refl, spelled_take n xs)

-- pieces

abbrev pub CoreIs : Core → List Symbol → Type 0
CoreIs (core.Name n) ss = ss ≡ symbol.Name n ∷ []
CoreIs (core.Number v) ss = (w : ℕ) × (ss ≡ symbol.Number w ∷ []) × (v ≡ w % 2 ^ 32)
CoreIs core.Nowhere ss = ss ≡ symbol.Minus ∷ []
CoreIs (core.Label at) ss = (s : Symbol) × IsName s × (ss ≡ symbol.Colon ∷ s ∷ [])
CoreIs core.Unknown ss = Unit {0}

abbrev pub named_symbol : Option Name → Symbol
named_symbol None = symbol.Unknown
named_symbol (Some n) = symbol.Name n

abbrev pub suffix_symbols : Option Suffix → List Symbol
suffix_symbols None = []
suffix_symbols (Some s) = symbol.Dot ∷ named_symbol s.name ∷ []

-- the word behind a label is that of the first label among the tokens
abbrev pub LabelIs : Core → List Placed → Type 0
LabelIs (core.Label at) xs = label_in xs ≡ at
LabelIs _ xs = Unit {0}

record IsCore (xs : List Placed) (p : Piece × List Placed) : Type 0 where
  symbols : List Symbol
  there : Spelled symbols xs p.1
  is : CoreIs p.0.core symbols
  label : LabelIs p.0.core xs

abbrev pub PieceIs : Piece → List Symbol → Type 0
PieceIs p x = (c : List Symbol) × CoreIs p.core c × (x ≡ c ++ suffix_symbols p.suffix)

record IsPiece (xs : List Placed) (p : Piece × List Placed) : Type 0 where
  symbols : List Symbol
  there : Spelled symbols xs p.1
  is : PieceIs p.0 symbols

abbrev IsSuffix : List Placed → Option Suffix × List Placed → Type 0
IsSuffix xs p = Spelled (suffix_symbols p.0) xs p.1

-- suffixes

dot_is : (s : Symbol) → is_dot s ≡ true → s ≡ symbol.Dot
dot_is symbol.Dot e = refl
dot_is _ e = absurd (grind (arith, e))

minus_is : (s : Symbol) → is_minus s ≡ true → s ≡ symbol.Minus
minus_is symbol.Minus e = refl
minus_is _ e = absurd (grind (arith, e))

comma_is : (s : Symbol) → is_comma s ≡ true → s ≡ symbol.Comma
comma_is symbol.Comma e = refl
comma_is _ e = absurd (grind (arith, e))

colon_is : (s : Symbol) → is_colon s ≡ true → s ≡ symbol.Colon
colon_is symbol.Colon e = refl
colon_is _ e = absurd (grind (arith, e))

named_told : (x y : Placed) (rest : List Placed) (s : Symbol) → x.symbol ≡ symbol.Dot → y.symbol ≡ s → GivesPart (IsSuffix (x ∷ y ∷ rest)) (suffix_of x.token y.token rest (named s))
named_told x y rest (symbol.Name n) dot e = (dot, (e, refl))
named_told x y rest symbol.Unknown dot e = (dot, (e, refl))
named_told x y rest _ dot e = tt

behind_told : (x : Placed) (rest : List Placed) → x.symbol ≡ symbol.Dot → GivesPart (IsSuffix (x ∷ rest)) (suffix_behind x.token rest)
behind_told x [] dot = tt
behind_told x (y ∷ rest) dot = named_told x y rest y.symbol dot refl

suffix_told : (xs : List Placed) → GivesPart (IsSuffix xs) (suffix_at xs)
suffix_told [] = refl
suffix_told (x ∷ rest) = gives_if (IsSuffix (x ∷ rest)) (is_dot x.symbol) (suffix_behind x.token rest) (Ok (None, x ∷ rest)) (λ e. behind_told x rest (dot_is x.symbol e)) (λ _. refl)

-- cores

core_here : (c : Core) (x : Placed) (rest : List Placed) (s : Symbol) → x.symbol ≡ s → CoreIs c (s ∷ []) → LabelIs c (x ∷ rest) → IsCore (x ∷ rest) (bare c x.token, rest)
core_here c x rest s e is label = record { symbols = s ∷ []; there = (e, refl); is = is; label = label }

nowhere_told : (x : Placed) (rest : List Placed) (b : Bool) → (is_minus x.symbol && b) ≡ true → IsCore (x ∷ rest) (bare core.Nowhere x.token, rest)
nowhere_told x rest b e = core_here core.Nowhere x rest symbol.Minus (minus_is x.symbol (both (is_minus x.symbol) b e)) refl tt
  where
    both : (a b : Bool) → (a && b) ≡ true → a ≡ true
    both true b e = refl
    both false b e = e

target_by : (s : Symbol) (x : Placed) (rest : List Placed) (n : Option ℕ) → x.symbol ≡ s → GivesPart (IsCore (x ∷ rest)) (target_of_length x rest (name_alone s) n)
target_by (symbol.Name n) x rest None e = tt
target_by (symbol.Name n) x rest (Some k) e = gives_if (IsCore (x ∷ rest)) (k == 1) _ _ (λ _. core_here (core.Name n) x rest (symbol.Name n) e refl tt) (λ _. tt)
target_by symbol.Unknown x rest None e = tt
target_by symbol.Unknown x rest (Some k) e = gives_if (IsCore (x ∷ rest)) (k == 1) _ _ (λ _. core_here core.Unknown x rest symbol.Unknown e tt tt) (λ _. tt)
target_by _ x rest n e = tt

target_core_told : (end : Token) (xs : List Placed) → GivesPart (IsCore xs) (target_core end xs)
unfolding target_core
target_core_told end [] = tt
target_core_told end (x ∷ rest) =
    gives_if (IsCore (x ∷ rest)) (is_minus x.symbol && stops rest) _ _ (λ e. nowhere_told x rest (stops rest) e) (λ _. target_by x.symbol x rest (length_of (x ∷ rest)) refl)

unknown_told : (x : Placed) (rest : List Placed) (n : ℕ) → IsCore (x ∷ rest) (bare core.Unknown x.token, drop n (x ∷ rest))
unknown_told x rest n = record { symbols = symbols_of (take n (x ∷ rest)); there = spelled_take n (x ∷ rest); is = tt; label = tt }

value_by : (s : Symbol) (x : Placed) (rest : List Placed) (n : Option ℕ) → x.symbol ≡ s → GivesPart (IsCore (x ∷ rest)) (value_of_length x rest (alone s) n)
value_by (symbol.Name n) x rest None e = tt
value_by (symbol.Name n) x rest (Some k) e = gives_if (IsCore (x ∷ rest)) (k == 1) _ _ (λ _. core_here (core.Name n) x rest (symbol.Name n) e refl tt) (λ _. unknown_told x rest k)
value_by symbol.Unknown x rest None e = tt
value_by symbol.Unknown x rest (Some k) e = gives_if (IsCore (x ∷ rest)) (k == 1) _ _ (λ _. core_here core.Unknown x rest symbol.Unknown e tt tt) (λ _. unknown_told x rest k)
value_by (symbol.Number v) x rest None e = tt
value_by (symbol.Number v) x rest (Some k) e = gives_if (IsCore (x ∷ rest)) (k == 1) _ _ (λ _. core_here (core.Number (v % 2 ^ 32)) x rest (symbol.Number v) e (v, refl, refl) tt) (λ _. unknown_told x rest k)
value_by symbol.Comma x rest None e = tt
value_by symbol.Comma x rest (Some k) e = unknown_told x rest k
value_by symbol.Semicolon x rest None e = tt
value_by symbol.Semicolon x rest (Some k) e = unknown_told x rest k
value_by symbol.Colon x rest None e = tt
value_by symbol.Colon x rest (Some k) e = unknown_told x rest k
value_by symbol.Dot x rest None e = tt
value_by symbol.Dot x rest (Some k) e = unknown_told x rest k
value_by symbol.Minus x rest None e = tt
value_by symbol.Minus x rest (Some k) e = unknown_told x rest k
value_by symbol.Open x rest None e = tt
value_by symbol.Open x rest (Some k) e = unknown_told x rest k
value_by symbol.Close x rest None e = tt
value_by symbol.Close x rest (Some k) e = unknown_told x rest k
value_by symbol.Invert x rest None e = tt
value_by symbol.Invert x rest (Some k) e = unknown_told x rest k
value_by symbol.Binary x rest None e = tt
value_by symbol.Binary x rest (Some k) e = unknown_told x rest k
value_by symbol.LineEnd x rest None e = tt
value_by symbol.LineEnd x rest (Some k) e = unknown_told x rest k

value_core_told : (end : Token) (xs : List Placed) → GivesPart (IsCore xs) (value_core end xs)
unfolding value_core
value_core_told end [] = tt
value_core_told end (x ∷ rest) = value_by x.symbol x rest (length_of (x ∷ rest)) refl

colon_label : (x y : Placed) (rest : List Placed) → x.symbol ≡ symbol.Colon → label_in (x ∷ y ∷ rest) ≡ y.label
colon_label x y rest e = rw e refl

label_by_told : (x y : Placed) (rest : List Placed) (s : Symbol) → x.symbol ≡ symbol.Colon → y.symbol ≡ s → GivesPart (IsCore (x ∷ y ∷ rest)) (label_by y rest (name_alone s))
label_by_told x y rest (symbol.Name n) colon e = record { symbols = symbol.Colon ∷ symbol.Name n ∷ []; there = (colon, (e, refl)); is = (symbol.Name n, known, refl); label = colon_label x y rest colon }
label_by_told x y rest symbol.Unknown colon e = record { symbols = symbol.Colon ∷ symbol.Unknown ∷ []; there = (colon, (e, refl)); is = (symbol.Unknown, unknown, refl); label = colon_label x y rest colon }
label_by_told x y rest _ colon e = tt

label_told : (end : Token) (x : Placed) (xs : List Placed) → x.symbol ≡ symbol.Colon → GivesPart (IsCore (x ∷ xs)) (label_core end xs)
label_told end x [] colon = tt
label_told end x (y ∷ rest) colon = label_by_told x y rest y.symbol colon refl

jump_told : (end : Token) (xs : List Placed) → GivesPart (IsCore xs) (jump_core end xs)
unfolding jump_core
jump_told end [] = value_core_told end []
jump_told end (x ∷ rest) =
    gives_if (IsCore (x ∷ rest)) (is_colon x.symbol) (label_core end rest) (value_core end (x ∷ rest)) (λ e. label_told end x rest (colon_is x.symbol e)) (λ _. value_core_told end (x ∷ rest))

operand_core_told : (end : Token) (xs : List Placed) → GivesPart (IsCore xs) (operand_core end xs)
unfolding operand_core
operand_core_told end [] = value_core_told end []
operand_core_told end (x ∷ rest) =
    gives_if (IsCore (x ∷ rest)) (is_minus x.symbol && has_dot rest) _ (value_core end (x ∷ rest)) (λ e. nowhere_told x rest (has_dot rest) e) (λ _. value_core_told end (x ∷ rest))

-- with suffixes

with_suffix_told : (xs : List Placed) (r : Read Piece) → GivesPart (IsCore xs) r → GivesPart (IsPiece xs) (with_suffix r)
with_suffix_told xs r told =
    gives_on (IsCore xs) (IsPiece xs) r _ told
    (λ p is. gives_on (IsSuffix p.1) (IsPiece xs) (suffix_at p.1) _ (suffix_told p.1)
    (λ s has. record { symbols = is.symbols ++ suffix_symbols s.0; there = spelled_join is.symbols (suffix_symbols s.0) xs p.1 s.1 is.there has; is = (is.symbols, is.is, refl) }))

target_told : (end : Token) (xs : List Placed) → GivesPart (IsPiece xs) (target_at end xs)
unfolding target_at
target_told end xs = with_suffix_told xs (target_core end xs) (target_core_told end xs)

operand_told : (end : Token) (xs : List Placed) → GivesPart (IsPiece xs) (operand_at end xs)
unfolding operand_at
operand_told end xs = with_suffix_told xs (operand_core end xs) (operand_core_told end xs)

abbrev IsComma : List Placed → List Placed → Type 0
IsComma xs rest = Spelled (symbol.Comma ∷ []) xs rest

comma_told : (end : Token) (xs : List Placed) → GivesPart (IsComma xs) (comma_at end xs)
comma_told end [] = tt
comma_told end (x ∷ rest) = gives_if (IsComma (x ∷ rest)) (is_comma x.symbol) (Ok rest) (Err x.token) (λ e. (comma_is x.symbol e, refl)) (λ _. tt)

abbrev IsSuffixes : List Placed → Suffixes × List Placed → Type 0
IsSuffixes xs p = Spelled (suffix_symbols p.0.first ++ suffix_symbols p.0.second) xs p.1

suffixes_told : (xs : List Placed) → GivesPart (IsSuffixes xs) (suffixes_at xs)
unfolding suffixes_at
suffixes_told xs =
    gives_on (IsSuffix xs) (IsSuffixes xs) (suffix_at xs) _ (suffix_told xs)
    (λ a first. gives_on (IsSuffix a.1) (IsSuffixes xs) (suffix_at a.1) _ (suffix_told a.1)
    (λ b second. spelled_join (suffix_symbols a.0) (suffix_symbols b.0) xs a.1 b.1 first second))

-- nothing is left

told_ended : {A : Type 0} (P : A → Type 0) (a : A) (xs : List Placed) → (xs ≡ [] → P a) → GivesPart P (ended a xs)
told_ended P a [] holds = holds refl
told_ended P a (x ∷ xs) holds = tt

all_there : (ss : List Symbol) (xs rest : List Placed) → Spelled ss xs rest → rest ≡ [] → Spelled ss xs []
all_there ss xs rest h e = let P : List Placed → Type 0 = λ z. Spelled ss xs z in subst P e h

-- operands

abbrev pub OperandsAre : Bool → Piece → Piece → List Symbol → Type 0
OperandsAre true a b x = PieceIs a x × (b ≡ a)
OperandsAre false a b x = (y : List Symbol) × (z : List Symbol) × PieceIs a y × PieceIs b z × (x ≡ y ++ symbol.Comma ∷ z)

record IsPair (one : Bool) (xs : List Placed) (both : Piece × Piece) : Type 0 where
  symbols : List Symbol
  there : Spelled symbols xs []
  are : OperandsAre one both.0 both.1 symbols

one_told : (end : Token) (xs : List Placed) → GivesPart (IsPair true xs) (one_operand end xs)
unfolding one_operand
one_told end xs =
    gives_on (IsPiece xs) (IsPair true xs) (operand_at end xs) _ (operand_told end xs)
    (λ a first. told_ended (IsPair true xs) (a.0, a.0) a.1 (λ e. record { symbols = first.symbols; there = all_there first.symbols xs a.1 first.there e; are = (first.is, refl) }))

two_told : (end : Token) (xs : List Placed) → GivesPart (IsPair false xs) (two_operands end xs)
unfolding two_operands
two_told end xs =
    gives_on (IsPiece xs) (IsPair false xs) (operand_at end xs) _ (operand_told end xs)
    (λ a first. gives_on (IsComma a.1) (IsPair false xs) (comma_at end a.1) _ (comma_told end a.1)
    (λ rest comma. gives_on (IsPiece rest) (IsPair false xs) (operand_at end rest) _ (operand_told end rest)
    (λ b second. told_ended (IsPair false xs) (a.0, b.0) b.1 (λ e. record {
      symbols = first.symbols ++ symbol.Comma ∷ second.symbols;
      there = spelled_join first.symbols (symbol.Comma ∷ second.symbols) xs a.1 [] first.there
          (spelled_join (symbol.Comma ∷ []) second.symbols a.1 rest [] comma (all_there second.symbols rest b.1 second.there e));
      are = (first.symbols, second.symbols, first.is, second.is, refl);
    }))))

operands_told : (one : Bool) (end : Token) (xs : List Placed) → GivesPart (IsPair one xs) (if one then one_operand end xs else two_operands end xs)
operands_told true end xs = one_told end xs
operands_told false end xs = two_told end xs

-- parts

abbrev pub conditions_of : Suffixes → List Symbol
conditions_of s = suffix_symbols s.first ++ suffix_symbols s.second

pub record UnitTold (n : Name) (xs : List Placed) (u : UnitPart) : Type 0 where
  pub op : u.op ≡ n
  pub is_op : is_op n ≡ true
  pub t : List Symbol
  pub x : List Symbol
  pub to : CoreIs u.to.core t
  pub operands : OperandsAre (takes_one n) u.a u.b x
  pub there : Spelled (conditions_of u.suffixes ++ ((t ++ suffix_symbols u.to.suffix) ++ symbol.Comma ∷ x)) xs []

pub record LoadTold (n : Name) (xs : List Placed) (l : LoadPart) : Type 0 where
  pub op : n ≡ name.Load l.kind
  pub t : List Symbol
  pub x : List Symbol
  pub to : CoreIs l.to.core t
  pub value : CoreIs l.value.core x
  pub there : Spelled (conditions_of l.suffixes ++ (t ++ symbol.Comma ∷ x)) xs []

pub record AlsoTold (n : Name) (xs : List Placed) (a : AlsoPart) : Type 0 where
  pub op : n ≡ name.Also
  pub t : List Symbol
  pub to : CoreIs a.to.core t
  pub there : Spelled (suffix_symbols a.suffix ++ t) xs []

pub record BranchTold (n : Name) (xs : List Placed) (b : BranchPart) : Type 0 where
  pub op : n ≡ branch_name b.relative
  pub t : List Symbol
  pub x : List Symbol
  pub to : CoreIs b.to.core t
  pub target : CoreIs b.target.core x
  pub there : Spelled (suffix_symbols b.suffix ++ (t ++ symbol.Comma ∷ x)) xs []
  pub jump : List Placed
  pub behind : Spelled (suffix_symbols b.suffix ++ (t ++ symbol.Comma ∷ [])) xs jump
  pub label : LabelIs b.target.core jump

pub record LastTold (m n : Name) (xs : List Placed) (p : Piece) : Type 0 where
  pub op : n ≡ m
  pub t : List Symbol
  pub is : CoreIs p.core t
  pub there : Spelled t xs []

pub record PlainTold (m n : Name) (xs : List Placed) : Type 0 where
  pub op : n ≡ m
  pub nothing : xs ≡ []

abbrev pub SignalTold : Signal → Name → List Placed → Type 0
SignalTold signal.End n xs = PlainTold name.End n xs
SignalTold signal.Load0 n xs = PlainTold name.Load0 n xs
SignalTold signal.Load1 n xs = PlainTold name.Load1 n xs
SignalTold _ n xs = ⊥

-- the part of a mnemonic, by the symbols behind it
abbrev pub Told : Name → List Placed → Part → Type 0
Told n xs part.Nop = PlainTold name.Nop n xs
Told n xs (part.Unit u) = UnitTold n xs u
Told n xs (part.Load l) = LoadTold n xs l
Told n xs (part.Also a) = AlsoTold n xs a
Told n xs (part.Increment p) = LastTold name.Increment n xs p
Told n xs (part.Decrement p) = LastTold name.Decrement n xs p
Told n xs (part.Branch b) = BranchTold n xs b
Told n xs (part.Link p) = LastTold name.Link n xs p
Told n xs (part.Row p) = LastTold name.Row n xs p
Told n xs (part.Signal s token) = SignalTold s n xs
Told n xs (part.Rotate token p) = LastTold name.Rotate n xs p
Told n xs (part.ReadA p) = LastTold name.ReadA n xs p
Told n xs (part.ReadB p) = LastTold name.ReadB n xs p

unit_told : (n : Name) (token end : Token) (xs : List Placed) → is_op n ≡ true → GivesPart (Told n xs) (unit_part n token end xs)
unfolding unit_part
unit_told n token end xs op =
    gives_on (IsSuffixes xs) (Told n xs) (suffixes_at xs) _ (suffixes_told xs)
    (λ s suffixes. gives_on (IsPiece s.1) (Told n xs) (target_at end s.1) _ (target_told end s.1)
    (λ to target. gives_on (IsComma to.1) (Told n xs) (comma_at end to.1) _ (comma_told end to.1)
    (λ rest comma. gives_on (IsPair (takes_one n) rest) (Told n xs) (operands_at n end rest) _ (operands_told (takes_one n) end rest)
    (λ both pair. record {
      op = refl;
      is_op = op;
      t = target.is.0;
      x = pair.symbols;
      to = target.is.1;
      operands = pair.are;
      there =
          let own : Spelled (target.is.0 ++ suffix_symbols to.0.suffix) s.1 to.1 = (let P : List Symbol → Type 0 = λ z. Spelled z s.1 to.1 in subst P target.is.2 target.there) in
          spelled_join (conditions_of s.0) _ xs s.1 [] suffixes
          (spelled_join (target.is.0 ++ suffix_symbols to.0.suffix) (symbol.Comma ∷ pair.symbols) s.1 to.1 [] own (spelled_join (symbol.Comma ∷ []) pair.symbols to.1 rest [] comma pair.there));
    }))))

load_told : (kind : LoadKind) (end : Token) (xs : List Placed) → GivesPart (Told (name.Load kind) xs) (load_part kind end xs)
unfolding load_part
load_told kind end xs =
    let T : Part → Type 0 = Told (name.Load kind) xs in
    gives_on (IsSuffixes xs) T (suffixes_at xs) _ (suffixes_told xs)
    (λ s suffixes. gives_on (IsCore s.1) T (target_core end s.1) _ (target_core_told end s.1)
    (λ to target. gives_on (IsComma to.1) T (comma_at end to.1) _ (comma_told end to.1)
    (λ rest comma. gives_on (IsCore rest) T (value_core end rest) _ (value_core_told end rest)
    (λ value number. told_ended T _ value.1 (λ e. record {
      op = refl;
      t = target.symbols;
      x = number.symbols;
      to = target.is;
      value = number.is;
      there = spelled_join (conditions_of s.0) _ xs s.1 [] suffixes
          (spelled_join target.symbols (symbol.Comma ∷ number.symbols) s.1 to.1 [] target.there
          (spelled_join (symbol.Comma ∷ []) number.symbols to.1 rest [] comma (all_there number.symbols rest value.1 number.there e)));
    })))))

also_told : (end : Token) (xs : List Placed) → GivesPart (Told name.Also xs) (also_part end xs)
unfolding also_part
also_told end xs =
    let T : Part → Type 0 = Told name.Also xs in
    gives_on (IsSuffix xs) T (suffix_at xs) _ (suffix_told xs)
    (λ s suffix. gives_on (IsCore s.1) T (target_core end s.1) _ (target_core_told end s.1)
    (λ to target. told_ended T _ to.1 (λ e. record {
      op = refl;
      t = target.symbols;
      to = target.is;
      there = spelled_join (suffix_symbols s.0) target.symbols xs s.1 [] suffix (all_there target.symbols s.1 to.1 target.there e);
    })))

branch_told : (n : Name) (relative : Bool) (end : Token) (xs : List Placed) → n ≡ branch_name relative → GivesPart (Told n xs) (branch_part relative end xs)
unfolding branch_part
branch_told n relative end xs op =
    let T : Part → Type 0 = Told n xs in
    gives_on (IsSuffix xs) T (suffix_at xs) _ (suffix_told xs)
    (λ s suffix. gives_on (IsCore s.1) T (target_core end s.1) _ (target_core_told end s.1)
    (λ to target. gives_on (IsComma to.1) T (comma_at end to.1) _ (comma_told end to.1)
    (λ rest comma. gives_on (IsCore rest) T (jump_core end rest) _ (jump_told end rest)
    (λ jump goes. told_ended T _ jump.1 (λ e. record {
      op = op;
      t = target.symbols;
      x = goes.symbols;
      to = target.is;
      target = goes.is;
      there = spelled_join (suffix_symbols s.0) _ xs s.1 [] suffix
          (spelled_join target.symbols (symbol.Comma ∷ goes.symbols) s.1 to.1 [] target.there
          (spelled_join (symbol.Comma ∷ []) goes.symbols to.1 rest [] comma (all_there goes.symbols rest jump.1 goes.there e)));
      jump = rest;
      behind = spelled_join (suffix_symbols s.0) _ xs s.1 rest suffix (spelled_join target.symbols (symbol.Comma ∷ []) s.1 to.1 rest target.there comma);
      label = goes.label;
    })))))

value_told : (m : Name) (end : Token) (xs : List Placed) → GivesPart (LastTold m m xs) (last_value end xs)
unfolding last_value
value_told m end xs =
    gives_on (IsCore xs) (LastTold m m xs) (value_core end xs) _ (value_core_told end xs)
    (λ p is. told_ended (LastTold m m xs) p.0 p.1 (λ e. record { op = refl; t = is.symbols; is = is.is; there = all_there is.symbols xs p.1 is.there e }))

name_told : (m : Name) (end : Token) (xs : List Placed) → GivesPart (LastTold m m xs) (last_name end xs)
unfolding last_name
name_told m end xs =
    gives_on (IsCore xs) (LastTold m m xs) (target_core end xs) _ (target_core_told end xs)
    (λ p is. told_ended (LastTold m m xs) p.0 p.1 (λ e. record { op = refl; t = is.symbols; is = is.is; there = all_there is.symbols xs p.1 is.there e }))

pub part_told : (n : Name) (token end : Token) (xs : List Placed) → GivesPart (Told n xs) (part_by n token end xs)
unfolding part_by
part_told (name.Add op) token end xs = unit_told (name.Add op) token end xs refl
part_told (name.Mul op) token end xs = unit_told (name.Mul op) token end xs refl
part_told name.Mov token end xs = unit_told name.Mov token end xs refl
part_told name.Nop token end xs = told_ended (Told name.Nop xs) part.Nop xs (λ e. record { op = refl; nothing = e })
part_told (name.Load kind) token end xs = load_told kind end xs
part_told name.Also token end xs = also_told end xs
part_told name.Increment token end xs = gives_on (LastTold name.Increment name.Increment xs) (Told name.Increment xs) (last_value end xs) _ (value_told name.Increment end xs) (λ p is. is)
part_told name.Decrement token end xs = gives_on (LastTold name.Decrement name.Decrement xs) (Told name.Decrement xs) (last_value end xs) _ (value_told name.Decrement end xs) (λ p is. is)
part_told name.Branch token end xs = branch_told name.Branch false end xs refl
part_told name.RelativeBranch token end xs = branch_told name.RelativeBranch true end xs refl
part_told name.Link token end xs = gives_on (LastTold name.Link name.Link xs) (Told name.Link xs) (last_name end xs) _ (name_told name.Link end xs) (λ p is. is)
part_told name.Row token end xs = gives_on (LastTold name.Row name.Row xs) (Told name.Row xs) (last_name end xs) _ (name_told name.Row end xs) (λ p is. is)
part_told name.End token end xs = told_ended (Told name.End xs) (part.Signal signal.End token) xs (λ e. record { op = refl; nothing = e })
part_told name.Load0 token end xs = told_ended (Told name.Load0 xs) (part.Signal signal.Load0 token) xs (λ e. record { op = refl; nothing = e })
part_told name.Load1 token end xs = told_ended (Told name.Load1 xs) (part.Signal signal.Load1 token) xs (λ e. record { op = refl; nothing = e })
part_told name.Rotate token end xs = gives_on (LastTold name.Rotate name.Rotate xs) (Told name.Rotate xs) (last_value end xs) _ (value_told name.Rotate end xs) (λ p is. is)
part_told name.ReadA token end xs = gives_on (LastTold name.ReadA name.ReadA xs) (Told name.ReadA xs) (last_name end xs) _ (name_told name.ReadA end xs) (λ p is. is)
part_told name.ReadB token end xs = gives_on (LastTold name.ReadB name.ReadB xs) (Told name.ReadB xs) (last_name end xs) _ (name_told name.ReadB end xs) (λ p is. is)
part_told _ token end xs = tt
