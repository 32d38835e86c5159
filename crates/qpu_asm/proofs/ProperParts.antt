-- The parts that are read of tokens whose names are the language's: what their pieces are, and which follow which.
use Rattle.std.proofs.Common.{◌≡◌, ℕ, zero, suc, ◌<◌, Bool, true, false, List, [], ◌∷◌, ◌++◌, drop, Option, Some, None, Result, Ok, Err, refl, sym, arith}
use Rattle.std.specs.Prelude.{◌==◌, ◌&&◌, ◌%◌, ◌^◌, IfSome, if◌then◌else◌}
use Rattle.qpu_token.specs.declared.token.Token.{Token}
use Rattle.qpu_line.specs.declared.name.Name.{Name}
use Rattle.qpu_line.specs.declared.name.Name.TheVariants as name
use Rattle.qpu_line.specs.declared.load.LoadKind.{LoadKind}
use Rattle.qpu_line.specs.declared.units.Signal.{Signal}
use Rattle.qpu_line.specs.declared.units.Signal.TheVariants as signal
use Rattle.qpu_line.specs.declared.symbol.Symbol.{Symbol}
use Rattle.qpu_line.specs.declared.symbol.Symbol.TheVariants as symbol
use Rattle.qpu_asm.specs.declared.placed.Placed.{Placed}
use Rattle.qpu_asm.specs.declared.piece.Core.{Core}
use Rattle.qpu_asm.specs.declared.piece.Core.TheVariants as core
use Rattle.qpu_asm.specs.declared.piece.Suffix.{Suffix}
use Rattle.qpu_asm.specs.declared.piece.Piece.{Piece}
use Rattle.qpu_asm.specs.declared.part.Suffixes.{Suffixes}
use Rattle.qpu_asm.specs.declared.part.UnitPart.{UnitPart}
use Rattle.qpu_asm.specs.declared.part.LoadPart.{LoadPart}
use Rattle.qpu_asm.specs.declared.part.AlsoPart.{AlsoPart}
use Rattle.qpu_asm.specs.declared.part.BranchPart.{BranchPart}
use Rattle.qpu_asm.specs.declared.part.Part.{Part}
use Rattle.qpu_asm.specs.declared.part.Part.TheVariants as part
use Rattle.qpu_asm.specs.Roles.{takes_one}
use Rattle.qpu_asm.specs.reader.Reading.{Read, go_on, ended}
use Rattle.qpu_asm.specs.Signs.{is_colon}
use Rattle.qpu_asm.specs.Signs.{is_comma, is_dot, is_minus, stops, length_of, has_dot}
use Rattle.qpu_asm.specs.reader.Pieces.{named, suffix_of, suffix_behind, suffix_at, alone, name_alone, bare, target_of_length, target_core, value_of_length, value_core, label_by, label_core, jump_core, operand_core, with_suffix, target_at, operand_at, comma_at}
use Rattle.qpu_asm.specs.reader.Parts.{suffixes_at, one_operand, two_operands, operands_at, unit_part, load_part, also_part, branch_part, last_value, last_name, part_by}
use Rattle.qpu_asm.specs.reader.Orders.{is_unit, is_rotation}
use Rattle.qpu_asm.proofs.GoodNames.{is_good}

-- lists

abbrev pub Each : {X : Type 0} → (X → Type 0) → List X → Type 0
Each P [] = Unit {0}
Each P (x ∷ xs) = P x × Each P xs

pub each_drop : {X : Type 0} (P : X → Type 0) (n : ℕ) (xs : List X) → Each P xs → Each P (drop n xs)
each_drop P zero xs each = each
each_drop P (suc n) [] each = tt
each_drop P (suc n) (x ∷ xs) each = each_drop P n xs each.1

pub each_append : {X : Type 0} (P : X → Type 0) (xs ys : List X) → Each P xs → Each P ys → Each P (xs ++ ys)
each_append P [] ys one other = other
each_append P (x ∷ xs) ys one other = (one.0, each_append P xs ys one.1 other)

-- pieces

abbrev pub GoodCore : Core → Type 0
GoodCore (core.Name n) = is_good n ≡ true
GoodCore (core.Number n) = n < 2 ^ 32
GoodCore _ = Unit {0}

abbrev pub GoodName : Option Name → Type 0
GoodName None = Unit {0}
GoodName (Some n) = is_good n ≡ true

abbrev pub GoodSuffix : Option Suffix → Type 0
GoodSuffix None = Unit {0}
GoodSuffix (Some s) = GoodName s.name

pub record GoodPiece (p : Piece) : Type 0 where
  pub core : GoodCore p.core
  pub suffix : GoodSuffix p.suffix

pub record GoodSuffixes (s : Suffixes) : Type 0 where
  pub first : GoodSuffix s.first
  pub second : GoodSuffix s.second

-- parts

pub record GoodUnit (u : UnitPart) : Type 0 where
  pub suffixes : GoodSuffixes u.suffixes
  pub to : GoodPiece u.to
  pub a : GoodPiece u.a
  pub b : GoodPiece u.b
  pub twice : takes_one u.op ≡ true → u.b ≡ u.a

pub record GoodLoad (l : LoadPart) : Type 0 where
  pub suffixes : GoodSuffixes l.suffixes
  pub to : GoodPiece l.to
  pub value : GoodPiece l.value

pub record GoodAlso (a : AlsoPart) : Type 0 where
  pub suffix : GoodSuffix a.suffix
  pub to : GoodPiece a.to

pub record GoodBranch (b : BranchPart) : Type 0 where
  pub suffix : GoodSuffix b.suffix
  pub to : GoodPiece b.to
  pub target : GoodPiece b.target

-- a signal that isn't a rotation
abbrev pub IsPlainSignal : Signal → Type 0
IsPlainSignal (signal.Rotate code) = ⊥
IsPlainSignal _ = Unit {0}

abbrev pub GoodPart : Part → Type 0
GoodPart part.Nop = Unit {0}
GoodPart (part.Unit u) = GoodUnit u
GoodPart (part.Load l) = GoodLoad l
GoodPart (part.Also a) = GoodAlso a
GoodPart (part.Increment p) = GoodPiece p
GoodPart (part.Decrement p) = GoodPiece p
GoodPart (part.Branch b) = GoodBranch b
GoodPart (part.Link p) = GoodPiece p
GoodPart (part.Row p) = GoodPiece p
GoodPart (part.Signal s token) = IsPlainSignal s
GoodPart (part.Rotate token p) = GoodPiece p
GoodPart (part.ReadA p) = GoodPiece p
GoodPart (part.ReadB p) = GoodPiece p

-- tokens

abbrev pub GoodSymbol : Symbol → Type 0
GoodSymbol (symbol.Name n) = is_good n ≡ true
GoodSymbol _ = Unit {0}

abbrev pub GoodPlaced : Placed → Type 0
GoodPlaced x = GoodSymbol x.symbol

abbrev pub Good : List Placed → Type 0
Good xs = Each GoodPlaced xs

-- what is read, where it is

abbrev pub GivesPart : {A : Type 0} → (A → Type 0) → Result A Token → Type 0
GivesPart P (Ok a) = P a
GivesPart P (Err token) = Unit {0}

abbrev pub GivesRead : {A : Type 0} → (A → Type 0) → Read A → Type 0
GivesRead {A} P r = GivesPart (λ (p : A × List Placed). P p.0 × Good p.1) r

pub gives_on : {A B : Type 0} (P : A → Type 0) (Q : B → Type 0) (r : Result A Token) (next : A → Result B Token)
    → GivesPart P r → ((a : A) → P a → GivesPart Q (next a)) → GivesPart Q (go_on r next)
gives_on P Q (Ok a) next g f = f a g
gives_on P Q (Err token) next g f = tt

pub gives_ended : {A : Type 0} (P : A → Type 0) (a : A) (xs : List Placed) → P a → GivesPart P (ended a xs)
gives_ended P a [] holds = holds
gives_ended P a (x ∷ xs) holds = tt

pub gives_if : {A : Type 0} (P : A → Type 0) (b : Bool) (r s : Result A Token) → (b ≡ true → GivesPart P r) → (b ≡ false → GivesPart P s) → GivesPart P (if b then r else s)
gives_if P true r s then_so else_so = then_so refl
gives_if P false r s then_so else_so = else_so refl

-- suffixes

named_good : (dot : Token) (s : Symbol) (word : Token) (behind : List Placed) → GoodSymbol s → Good behind → GivesRead GoodSuffix (suffix_of dot word behind (named s))
named_good dot (symbol.Name n) word behind good rest = (good, rest)
named_good dot symbol.Unknown word behind good rest = (tt, rest)
named_good dot _ word behind good rest = tt

behind_good : (dot : Token) (xs : List Placed) → Good xs → GivesRead GoodSuffix (suffix_behind dot xs)
behind_good dot [] good = tt
behind_good dot (word ∷ behind) good = named_good dot word.symbol word.token behind good.0 good.1

suffix_good : (xs : List Placed) → Good xs → GivesRead GoodSuffix (suffix_at xs)
suffix_good [] good = (tt, tt)
suffix_good (x ∷ rest) good = gives_if _ (is_dot x.symbol) (suffix_behind x.token rest) (Ok (None, x ∷ rest)) (λ _. behind_good x.token rest good.1) (λ _. (tt, good))

-- cores, whose suffix is none

bare_core : (c : Core) (token : Token) → GoodCore c → GoodPiece (bare c token)
bare_core c token good = record { core = good; suffix = tt }

target_by : (s : Symbol) (x : Placed) (rest : List Placed) (n : Option ℕ) → GoodSymbol s → Good rest → GivesRead GoodPiece (target_of_length x rest (name_alone s) n)
target_by (symbol.Name n) x rest None good others = tt
target_by (symbol.Name n) x rest (Some k) good others = gives_if _ (k == 1) _ _ (λ _. (bare_core (core.Name n) x.token good, others)) (λ _. tt)
target_by symbol.Unknown x rest None good others = tt
target_by symbol.Unknown x rest (Some k) good others = gives_if _ (k == 1) _ _ (λ _. (bare_core core.Unknown x.token tt, others)) (λ _. tt)
target_by _ x rest n good others = tt

target_core_good : (end : Token) (xs : List Placed) → Good xs → GivesRead GoodPiece (target_core end xs)
unfolding target_core
target_core_good end [] good = tt
target_core_good end (x ∷ rest) good =
    gives_if _ (is_minus x.symbol && stops rest) _ _ (λ _. (bare_core core.Nowhere x.token tt, good.1))
    (λ _. target_by x.symbol x rest (length_of (x ∷ rest)) good.0 good.1)

number_low : (n : ℕ) → n % 2 ^ 32 < 2 ^ 32
number_low n = omega arith

alone_good : (s : Symbol) → GoodSymbol s → IfSome (alone s) GoodCore
alone_good (symbol.Name n) good = good
alone_good symbol.Unknown good = tt
alone_good (symbol.Number n) good = number_low n
alone_good _ good = tt

value_by : (x : Placed) (rest : List Placed) (c : Option Core) (n : Option ℕ) → IfSome c GoodCore → GoodPlaced x → Good rest → GivesRead GoodPiece (value_of_length x rest c n)
value_by x rest None None good first others = tt
value_by x rest (Some c) None good first others = tt
value_by x rest None (Some n) good first others = (bare_core core.Unknown x.token tt, each_drop GoodPlaced n (x ∷ rest) (first, others))
value_by x rest (Some c) (Some n) good first others =
    gives_if _ (n == 1) _ _ (λ _. (bare_core c x.token good, others))
    (λ _. (bare_core core.Unknown x.token tt, each_drop GoodPlaced n (x ∷ rest) (first, others)))

value_core_good : (end : Token) (xs : List Placed) → Good xs → GivesRead GoodPiece (value_core end xs)
unfolding value_core
value_core_good end [] good = tt
value_core_good end (x ∷ rest) good = value_by x rest (alone x.symbol) (length_of (x ∷ rest)) (alone_good x.symbol good.0) good.0 good.1

label_by_good : (x : Placed) (rest : List Placed) (c : Option Core) → Good rest → GivesRead GoodPiece (label_by x rest c)
label_by_good x rest None good = tt
label_by_good x rest (Some c) good = (bare_core (core.Label x.label) x.token tt, good)

label_good : (end : Token) (xs : List Placed) → Good xs → GivesRead GoodPiece (label_core end xs)
label_good end [] good = tt
label_good end (x ∷ rest) good = label_by_good x rest (name_alone x.symbol) good.1

jump_good : (end : Token) (xs : List Placed) → Good xs → GivesRead GoodPiece (jump_core end xs)
unfolding jump_core
jump_good end [] good = value_core_good end [] good
jump_good end (x ∷ rest) good =
    gives_if _ (is_colon x.symbol) (label_core end rest) (value_core end (x ∷ rest)) (λ _. label_good end rest good.1) (λ _. value_core_good end (x ∷ rest) good)

operand_core_good : (end : Token) (xs : List Placed) → Good xs → GivesRead GoodPiece (operand_core end xs)
unfolding operand_core
operand_core_good end [] good = value_core_good end [] good
operand_core_good end (x ∷ rest) good =
    gives_if _ (is_minus x.symbol && has_dot rest) _ (value_core end (x ∷ rest)) (λ _. (bare_core core.Nowhere x.token tt, good.1)) (λ _. value_core_good end (x ∷ rest) good)

-- with suffixes

with_suffix_good : (r : Read Piece) → GivesRead GoodPiece r → GivesRead GoodPiece (with_suffix r)
with_suffix_good r good =
    gives_on (λ (p : Piece × List Placed). GoodPiece p.0 × Good p.1) (λ (p : Piece × List Placed). GoodPiece p.0 × Good p.1) r _ good
    (λ p is. gives_on (λ (s : Option Suffix × List Placed). GoodSuffix s.0 × Good s.1) (λ (p : Piece × List Placed). GoodPiece p.0 × Good p.1) (suffix_at p.1) _ (suffix_good p.1 is.1)
    (λ s has. (record { core = is.0.core; suffix = has.0 }, has.1)))

target_good : (end : Token) (xs : List Placed) → Good xs → GivesRead GoodPiece (target_at end xs)
unfolding target_at
target_good end xs good = with_suffix_good (target_core end xs) (target_core_good end xs good)

operand_good : (end : Token) (xs : List Placed) → Good xs → GivesRead GoodPiece (operand_at end xs)
unfolding operand_at
operand_good end xs good = with_suffix_good (operand_core end xs) (operand_core_good end xs good)

comma_good : (end : Token) (xs : List Placed) → Good xs → GivesPart Good (comma_at end xs)
comma_good end [] good = tt
comma_good end (x ∷ rest) good = gives_if _ (is_comma x.symbol) (Ok rest) (Err x.token) (λ _. good.1) (λ _. tt)

-- parts

abbrev OfPiece : Piece × List Placed → Type 0
OfPiece p = GoodPiece p.0 × Good p.1

abbrev OfSuffix : Option Suffix × List Placed → Type 0
OfSuffix p = GoodSuffix p.0 × Good p.1

abbrev OfSuffixes : Suffixes × List Placed → Type 0
OfSuffixes p = GoodSuffixes p.0 × Good p.1

suffixes_good : (xs : List Placed) → Good xs → GivesRead GoodSuffixes (suffixes_at xs)
unfolding suffixes_at
suffixes_good xs good =
    gives_on OfSuffix OfSuffixes (suffix_at xs) _ (suffix_good xs good)
    (λ a first. gives_on OfSuffix OfSuffixes (suffix_at a.1) _ (suffix_good a.1 first.1) (λ b second. (record { first = first.0; second = second.0 }, second.1)))

-- both operands, the same where one is written
abbrev IsSamePair : Bool → Piece × Piece → Type 0
IsSamePair one both = GoodPiece both.0 × GoodPiece both.1 × (one ≡ true → both.1 ≡ both.0)

one_good : (end : Token) (xs : List Placed) → Good xs → GivesPart (IsSamePair true) (one_operand end xs)
unfolding one_operand
one_good end xs good = gives_on OfPiece (IsSamePair true) (operand_at end xs) _ (operand_good end xs good) (λ a first. gives_ended (IsSamePair true) (a.0, a.0) a.1 (first.0, first.0, λ _. refl))

two_good : (end : Token) (xs : List Placed) → Good xs → GivesPart (IsSamePair false) (two_operands end xs)
unfolding two_operands
two_good end xs good =
    gives_on OfPiece (IsSamePair false) (operand_at end xs) _ (operand_good end xs good)
    (λ a first. gives_on Good (IsSamePair false) (comma_at end a.1) _ (comma_good end a.1 first.1)
    (λ rest left. gives_on OfPiece (IsSamePair false) (operand_at end rest) _ (operand_good end rest left)
    (λ b second. gives_ended (IsSamePair false) (a.0, b.0) b.1 (first.0, second.0, λ e. absurd (grind (arith, e))))))

operands_by : (one : Bool) (end : Token) (xs : List Placed) → Good xs → GivesPart (IsSamePair one) (if one then one_operand end xs else two_operands end xs)
operands_by true end xs good = one_good end xs good
operands_by false end xs good = two_good end xs good

-- what a part of a mnemonic is

abbrev pub is_op : Name → Bool
is_op (name.Add op) = true
is_op (name.Mul op) = true
is_op name.Mov = true
is_op _ = false

abbrev pub is_rotate : Name → Bool
is_rotate name.Rotate = true
is_rotate _ = false

abbrev pub HasOp : Name → Part → Type 0
HasOp n (part.Unit u) = u.op ≡ n
HasOp n _ = Unit {0}

pub record IsMade (n : Name) (p : Part) : Type 0 where
  pub good : GoodPart p
  pub unit : is_unit p ≡ is_op n
  pub rotation : is_rotation p ≡ is_rotate n
  pub op : HasOp n p

unit_good : (n : Name) (token end : Token) (xs : List Placed) → Good xs → is_op n ≡ true → is_rotate n ≡ false → GivesPart (IsMade n) (unit_part n token end xs)
unfolding unit_part
unit_good n token end xs good op other =
    gives_on OfSuffixes (IsMade n) (suffixes_at xs) _ (suffixes_good xs good)
    (λ s suffixes. gives_on OfPiece (IsMade n) (target_at end s.1) _ (target_good end s.1 suffixes.1)
    (λ to target. gives_on Good (IsMade n) (comma_at end to.1) _ (comma_good end to.1 target.1)
    (λ rest left. gives_on (IsSamePair (takes_one n)) (IsMade n) (operands_at n end rest) _ (operands_by (takes_one n) end rest left)
    (λ both pair. record { good = record { suffixes = suffixes.0; to = target.0; a = pair.0; b = pair.1; twice = pair.2 }; unit = sym op; rotation = sym other; op = refl }))))

load_good : (kind : LoadKind) (end : Token) (xs : List Placed) → Good xs → GivesPart (IsMade (name.Load kind)) (load_part kind end xs)
unfolding load_part
load_good kind end xs good =
    let M : Part → Type 0 = IsMade (name.Load kind) in
    gives_on OfSuffixes M (suffixes_at xs) _ (suffixes_good xs good)
    (λ s suffixes. gives_on OfPiece M (target_core end s.1) _ (target_core_good end s.1 suffixes.1)
    (λ to target. gives_on Good M (comma_at end to.1) _ (comma_good end to.1 target.1)
    (λ rest left. gives_on OfPiece M (value_core end rest) _ (value_core_good end rest left)
    (λ value number. gives_ended M _ value.1
    (record { good = record { suffixes = suffixes.0; to = target.0; value = number.0 }; unit = refl; rotation = refl; op = tt })))))

also_good : (end : Token) (xs : List Placed) → Good xs → GivesPart (IsMade name.Also) (also_part end xs)
unfolding also_part
also_good end xs good =
    let M : Part → Type 0 = IsMade name.Also in
    gives_on OfSuffix M (suffix_at xs) _ (suffix_good xs good)
    (λ s suffix. gives_on OfPiece M (target_core end s.1) _ (target_core_good end s.1 suffix.1)
    (λ to target. gives_ended M _ to.1 (record { good = record { suffix = suffix.0; to = target.0 }; unit = refl; rotation = refl; op = tt })))

branch_good : (n : Name) (relative : Bool) (end : Token) (xs : List Placed) → Good xs → is_op n ≡ false → is_rotate n ≡ false → GivesPart (IsMade n) (branch_part relative end xs)
unfolding branch_part
branch_good n relative end xs good op turn =
    let M : Part → Type 0 = IsMade n in
    gives_on OfSuffix M (suffix_at xs) _ (suffix_good xs good)
    (λ s suffix. gives_on OfPiece M (target_core end s.1) _ (target_core_good end s.1 suffix.1)
    (λ to target. gives_on Good M (comma_at end to.1) _ (comma_good end to.1 target.1)
    (λ rest left. gives_on OfPiece M (jump_core end rest) _ (jump_good end rest left)
    (λ jump where_to. gives_ended M _ jump.1
    (record { good = record { suffix = suffix.0; to = target.0; target = where_to.0 }; unit = sym op; rotation = sym turn; op = tt })))))

last_value_good : (end : Token) (xs : List Placed) → Good xs → GivesPart GoodPiece (last_value end xs)
unfolding last_value
last_value_good end xs good = gives_on OfPiece GoodPiece (value_core end xs) _ (value_core_good end xs good) (λ p is. gives_ended GoodPiece p.0 p.1 is.0)

last_name_good : (end : Token) (xs : List Placed) → Good xs → GivesPart GoodPiece (last_name end xs)
unfolding last_name
last_name_good end xs good = gives_on OfPiece GoodPiece (target_core end xs) _ (target_core_good end xs good) (λ p is. gives_ended GoodPiece p.0 p.1 is.0)

pub part_good : (n : Name) (token end : Token) (xs : List Placed) → Good xs → GivesPart (IsMade n) (part_by n token end xs)
unfolding part_by
part_good (name.Add op) token end xs good = unit_good (name.Add op) token end xs good refl refl
part_good (name.Mul op) token end xs good = unit_good (name.Mul op) token end xs good refl refl
part_good name.Mov token end xs good = unit_good name.Mov token end xs good refl refl
part_good name.Nop token end xs good = gives_ended (IsMade name.Nop) part.Nop xs (record { good = tt; unit = refl; rotation = refl; op = tt })
part_good (name.Load kind) token end xs good = load_good kind end xs good
part_good name.Also token end xs good = also_good end xs good
part_good name.Increment token end xs good = gives_on GoodPiece (IsMade name.Increment) (last_value end xs) _ (last_value_good end xs good) (λ p is. record { good = is; unit = refl; rotation = refl; op = tt })
part_good name.Decrement token end xs good = gives_on GoodPiece (IsMade name.Decrement) (last_value end xs) _ (last_value_good end xs good) (λ p is. record { good = is; unit = refl; rotation = refl; op = tt })
part_good name.Branch token end xs good = branch_good name.Branch false end xs good refl refl
part_good name.RelativeBranch token end xs good = branch_good name.RelativeBranch true end xs good refl refl
part_good name.Link token end xs good = gives_on GoodPiece (IsMade name.Link) (last_name end xs) _ (last_name_good end xs good) (λ p is. record { good = is; unit = refl; rotation = refl; op = tt })
part_good name.Row token end xs good = gives_on GoodPiece (IsMade name.Row) (last_name end xs) _ (last_name_good end xs good) (λ p is. record { good = is; unit = refl; rotation = refl; op = tt })
part_good name.End token end xs good = gives_ended (IsMade name.End) (part.Signal signal.End token) xs (record { good = tt; unit = refl; rotation = refl; op = tt })
part_good name.Load0 token end xs good = gives_ended (IsMade name.Load0) (part.Signal signal.Load0 token) xs (record { good = tt; unit = refl; rotation = refl; op = tt })
part_good name.Load1 token end xs good = gives_ended (IsMade name.Load1) (part.Signal signal.Load1 token) xs (record { good = tt; unit = refl; rotation = refl; op = tt })
part_good name.Rotate token end xs good = gives_on GoodPiece (IsMade name.Rotate) (last_value end xs) _ (last_value_good end xs good) (λ p is. record { good = is; unit = refl; rotation = refl; op = tt })
part_good name.ReadA token end xs good = gives_on GoodPiece (IsMade name.ReadA) (last_name end xs) _ (last_name_good end xs good) (λ p is. record { good = is; unit = refl; rotation = refl; op = tt })
part_good name.ReadB token end xs good = gives_on GoodPiece (IsMade name.ReadB) (last_name end xs) _ (last_name_good end xs good) (λ p is. record { good = is; unit = refl; rotation = refl; op = tt })
part_good _ token end xs good = tt
