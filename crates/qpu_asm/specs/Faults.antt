-- The faults of a line that the expansion leaves, as a table: for each kind, which tokens of the line have it.
-- The answer is the least kind, and in it the leftmost token. This project's own, as docs/FORMATS.md tells it
-- under "Lines of assembly text".
use Rattle.std.specs.Prelude.{◌≡◌, ℕ, zero, suc, ◌+◌, ◌<◌, ◌≤◌, ◌⊎◌, ◌||◌, Bool, true, false, not, List, [], ◌∷◌, ◌++◌, map, Option, Some, None, option_map, if◌then◌else◌}
use Rattle.std.specs.List.{list_any, list_all}
use Rattle.qpu_token.specs.declared.token.Token.{Token}
use Rattle.qpu_token.specs.declared.fault.AsmKind.{AsmKind}
use Rattle.qpu_token.specs.declared.fault.AsmKind.TheVariants as kind
use Rattle.qpu_token.specs.declared.fault.AsmFault.{AsmFault}
use Rattle.qpu_line.specs.declared.name.Name.TheVariants as name
use Rattle.qpu_line.specs.declared.symbol.Symbol.{Symbol}
use Rattle.qpu_line.specs.declared.symbol.Symbol.TheVariants as symbol
use Rattle.qpu_line.specs.declared.instruction.Instruction.{Instruction}
use Rattle.qpu_asm.specs.declared.placed.Placed.{Placed}
use Rattle.qpu_asm.specs.Laws.{symbols_of, word_symbols}
use Rattle.qpu_asm.specs.Spells.{IsSpelled}
use Rattle.qpu_asm.specs.declared.mark.What.{What}
use Rattle.qpu_asm.specs.declared.judge.Judged.{Judged}
use Rattle.qpu_asm.specs.SectionTokens.{SectionTokens}
use Rattle.qpu_asm.specs.Signs.{is_dot, is_colon, is_semicolon}
use Rattle.qpu_asm.specs.Clashes.{is_wrong, clashes, kind_of, fault_at}
use Rattle.qpu_asm.specs.Roles.{is_mnemonic}
use Rattle.qpu_asm.specs.Forms.{is_name, begins_with, misfit, is_unknown, part_misfit, may_stand}
use Rattle.qpu_asm.specs.Forms.Use.{any}
use Rattle.qpu_asm.specs.Forms.Slot.{comma_slot, number_slot, word_slot, literal_slot}
use Rattle.qpu_asm.specs.Stands.{Spot, line_stands}

-- the parts of a line: the tokens between its signs `;`, each with the sign or the line's end behind it

abbrev pub before_first : Placed → List SectionTokens → List SectionTokens
before_first x [] = []
before_first x (p ∷ parts) = record { tokens = x ∷ p.tokens; end = p.end } ∷ parts

abbrev pub cut : Token → List Placed → List SectionTokens
cut end [] = record { tokens = []; end = end } ∷ []
cut end (x ∷ xs) = if is_semicolon x.symbol then record { tokens = []; end = x.token } ∷ cut end xs else before_first x (cut end xs)

-- a line that begins with a sign `.` or `:` is one part
abbrev pub is_plain : List Placed → Bool
is_plain xs = not (begins_with is_dot xs || begins_with is_colon xs)

abbrev pub parts_of_line : Token → List Placed → List SectionTokens
parts_of_line end xs = if is_plain xs then cut end xs else record { tokens = xs; end = end } ∷ []

-- a token by its part and the number of tokens before it there; behind a part's last stands its end

abbrev pub token_at : Token → List Placed → ℕ → Token
token_at end [] n = end
token_at end (x ∷ xs) zero = x.token
token_at end (x ∷ xs) (suc n) = token_at end xs n

abbrev pub token_in : Token → List SectionTokens → ℕ → ℕ → Token
token_in end [] i m = end
token_in end (p ∷ parts) zero m = token_at p.end p.tokens m
token_in end (p ∷ parts) (suc i) m = token_in end parts i m

-- something holds of a token of a part, behind earlier parts
abbrev pub InPart : (List SectionTokens → SectionTokens → ℕ → Type 0) → List SectionTokens → List SectionTokens → ℕ → ℕ → Type 0
InPart P earlier [] i m = ⊥
InPart P earlier (p ∷ parts) zero m = P earlier p m
InPart P earlier (p ∷ parts) (suc i) m = InPart P (earlier ++ p ∷ []) parts i m

-- Shape

-- a token that isn't due in its part
abbrev pub IsMisfit : List SectionTokens → SectionTokens → ℕ → Type 0
IsMisfit earlier p m = part_misfit p.tokens ≡ Some m

-- a mnemonic that doesn't stand behind the parts before it
abbrev pub stands_behind : List SectionTokens → Symbol → Bool
stands_behind earlier (symbol.Name n) = not (is_mnemonic n) || may_stand (map (λ p. p.tokens) earlier) n
stands_behind earlier _ = true

abbrev pub IsMisplaced : List SectionTokens → SectionTokens → ℕ → Type 0
IsMisplaced earlier p m = (m ≡ 0) × (begins_with (λ s. not (stands_behind earlier s)) p.tokens ≡ true)

-- of a part with a name that is no mnemonic it isn't asked where it stands, nor of the parts beside it
abbrev pub all_known : List SectionTokens → Bool
all_known parts = list_all (λ p. not (is_unknown p.tokens)) parts

-- of a line that begins with a sign `.`: `.word` and a number is a line; `.set` and what is well-formed behind
-- it isn't left by the expansion
abbrev pub directive_misfit : Symbol → List Placed → Option ℕ
directive_misfit (symbol.Name name.Word) rest = option_map (λ k. 2 + k) (misfit (literal_slot ∷ []) [] rest)
directive_misfit (symbol.Name name.Set) rest = elim (misfit (word_slot ∷ comma_slot ∷ number_slot any ∷ []) [] rest) as (λ _. Option ℕ) [ None ↦ Some 4 | Some k ↦ Some (2 + k) ]
directive_misfit _ rest = Some 0

abbrev pub behind_dot : List Placed → Option ℕ
behind_dot [] = Some 0
behind_dot (x ∷ rest) = directive_misfit x.symbol rest

-- of a line that begins with a sign `:`, which has no name behind it, or stands behind another label
abbrev pub behind_colon : List Placed → Option ℕ
behind_colon xs = if begins_with is_name xs then Some 2 else Some 1

abbrev pub head_misfit : List Placed → Option ℕ
head_misfit [] = None
head_misfit (x ∷ rest) = if is_dot x.symbol then behind_dot rest else if is_colon x.symbol then behind_colon rest else None

-- UnknownOp

-- a part begins with a name that is no mnemonic
abbrev pub IsUnknown : List SectionTokens → SectionTokens → ℕ → Type 0
IsUnknown earlier p m = (m ≡ 0) × (is_unknown p.tokens ≡ true)

-- Operands, TwoImmediates, TwoReads, Label and Range

-- a token stands for something that is a fault by itself, or beside what stands before it
pub record IsJudged (k : Judged) (stands : List (Spot × What)) (spot : Spot) : Type 0 where
  pub before : List (Spot × What)
  pub meant : What
  pub behind : List (Spot × What)
  pub among : stands ≡ before ++ (spot, meant) ∷ behind
  pub faulty : (is_wrong k meant || list_any (λ e. clashes k e.1 meant) before) ≡ true

-- the table, by the parts of a plain line
pub data FaultyPart (parts : List SectionTokens) : AsmKind → ℕ → ℕ → Type 0 where
  off_form : {i m : ℕ} → InPart IsMisfit [] parts i m → FaultyPart parts kind.Shape i m
  off_place : {i m : ℕ} → all_known parts ≡ true → InPart IsMisplaced [] parts i m → FaultyPart parts kind.Shape i m
  no_mnemonic : {i m : ℕ} → InPart IsUnknown [] parts i m → FaultyPart parts kind.UnknownOp i m
  meant_so : (k : Judged) {i m : ℕ} → IsJudged k (line_stands false 0 parts) (i, m) → FaultyPart parts (kind_of k) i m

-- the table: a token of a line has a fault
pub data Faulty (end : Token) (xs : List Placed) : AsmKind → ℕ → ℕ → Type 0 where
  head : {m : ℕ} → head_misfit xs ≡ Some m → Faulty end xs kind.Shape 0 m
  plain : {k : AsmKind} {i m : ℕ} → is_plain xs ≡ true → FaultyPart (cut end xs) k i m → Faulty end xs k i m

-- which comes first

-- kinds in their order
abbrev pub rank : AsmKind → ℕ
rank kind.Shape = 8
rank kind.UnknownOp = 9
rank kind.Operands = 10
rank kind.TwoImmediates = 11
rank kind.TwoReads = 12
rank kind.Label = 13
rank kind.Range = 14
rank _ = 0

-- one token is at the place of another or left of it
abbrev pub IsLeft : ℕ → ℕ → ℕ → ℕ → Type 0
IsLeft i m j n = (i < j) ⊎ ((i ≡ j) × (m ≤ n))

abbrev pub ComesFirst : AsmKind → ℕ → ℕ → AsmKind → ℕ → ℕ → Type 0
ComesFirst k i m l j n = (rank k < rank l) ⊎ ((k ≡ l) × IsLeft i m j n)

-- the first fault of a line: the least kind, and in it the leftmost token
pub record IsFirstFault (end : Token) (xs : List Placed) (fault : AsmFault) : Type 0 where
  pub sort : AsmKind
  pub part : ℕ
  pub place : ℕ
  pub has : Faulty end xs sort part place
  pub first : (l : AsmKind) (j n : ℕ) → Faulty end xs l j n → ComesFirst sort part place l j n
  pub is : fault ≡ fault_at sort (token_in end (parts_of_line end xs) part place)

-- no token of a line has a fault
abbrev pub IsFaultless : Token → List Placed → Type 0
IsFaultless end xs = (k : AsmKind) (i m : ℕ) → Faulty end xs k i m → ⊥

-- a line spells something: an instruction, or a word as it stands
abbrev pub SpellsSome : ℕ → List Placed → Type 0
SpellsSome at xs = ((i : Instruction) × IsSpelled at xs i) ⊎ ((n : ℕ) × (symbols_of xs ≡ word_symbols n))
