-- The parts of a line, by what they are made of, can stand one behind the other.
use Rattle.std.proofs.Common.{◌≡◌, ℕ, ◌-◌, ◌^◌, ◌<◌, inl, Bool, true, false, [], ◌∷◌, Option, Some, None, refl, arith}
use Rattle.std.specs.Prelude.{◌==◌, ◌&&◌, nat_lt, nat_le, IfSome, if◌then◌else◌}
use Rattle.std.proofs.lemmas.Bool.Decides.{nat_tests}
use Rattle.qpu_word.specs.declared.name.Place.TheVariants as place
use Rattle.qpu_word.specs.declared.code.TheConstants.{ROWS, NOWHERE, READ_VPM, WRITE_R0, WRITE_R3, WRITE_VPM, ROTATE_BY_R5}
use Rattle.qpu_word.specs.Operands.{immediate_of}
use Rattle.qpu_word.specs.Words.{is_read_address, is_write_address}
use Rattle.qpu_line.specs.declared.operand.Operand.{Operand}
use Rattle.qpu_line.specs.declared.operand.Operand.TheVariants as operand
use Rattle.qpu_line.specs.declared.part.Part.{Part}
use Rattle.qpu_line.specs.declared.units.Signal.{Signal}
use Rattle.qpu_line.specs.declared.units.Signal.TheVariants as signal
use Rattle.qpu_line.specs.declared.name.Name.{Name}
use Rattle.qpu_line.specs.declared.name.Name.TheVariants as name
use Rattle.qpu_line.specs.declared.name.Register.TheVariants as register
use Rattle.qpu_line.specs.Names.{IsNameOfLanguage}
use Rattle.qpu_word.specs.Canonical.{file_matters}
use Rattle.qpu_line.specs.Targets.{target_at_address}
use Rattle.qpu_line.specs.Lines.{Figure, Decimal, Word, Number, Space, source_a, source_b, target_bits, suffix, condition_bits, branch_condition_bits, flags_bits, pack_bits, unpack_bits, small_figure, signed_figure, operand_bits, and_then, behind, part_bits, signal_bits, other_bits}
use Rattle.qpu_line.proofs.ImmediateLemmas.{immediate_fits}
use Rattle.qpu_dis.specs.Text.{second_bits, rotation_bit}
use Rattle.qpu_dis.proofs.NameFacts.{is_packed}
use Rattle.qpu_dis.proofs.BitLemmas.{IsNumber}
use Rattle.qpu_dis.proofs.JoinLemmas.{IsFirst, IsLater, nothing, first_then, a_name, a_number, no_target, a_suffix, spaced, after_comma, after_semicolon, either_later, either_first}
use Rattle.qpu_dis.proofs.AmongLemmas.{a_condition, a_branch_condition, a_pack, an_accumulator, a_source_of_a, a_source_of_b, a_target_of_both, a_target_of_a, a_target_of_b, vpm_name, set_flags_name, replicate_name, rotate_name, end_name, load0_name, load1_name}

-- suffixes

pub condition_later : (c : ℕ) → c < 8 → IsLater (condition_bits c)
condition_later c low =
    either_later (nat_lt c 2) [] (suffix (name.Condition c)) (λ e. nothing)
    (λ e. a_suffix (name.Condition c) (a_condition c (grind (arith, nat_tests, low, e))))

pub branch_condition_later : (c : ℕ) → IsLater (branch_condition_bits c)
branch_condition_later c =
    either_later (nat_lt c 12) (suffix (name.BranchCondition c)) []
    (λ e. a_suffix (name.BranchCondition c) (a_branch_condition c (grind (arith, nat_tests, e)))) (λ e. nothing)

pub flags_later : (sets : Bool) → IsLater (flags_bits sets)
flags_later sets = either_later sets (suffix name.SetFlags) [] (λ e. a_suffix name.SetFlags set_flags_name) (λ e. nothing)

pub pack_later : (p : ℕ) → p < 16 → (p == 8) ≡ false → IsLater (pack_bits p)
pack_later p low known =
    either_later (p == 0) [] (suffix (name.Pack p)) (λ e. nothing) (λ e. a_suffix (name.Pack p) (a_pack p (grind (arith, nat_tests, low, known, e))))

unpack_later : (u : ℕ) → u < 8 → IsLater (unpack_bits u)
unpack_later u low =
    either_later (u == 0) [] (if u == 3 then suffix name.Replicate else suffix (name.Pack u)) (λ e. nothing)
    (λ e. either_later (u == 3) (suffix name.Replicate) (suffix (name.Pack u)) (λ t. a_suffix name.Replicate replicate_name)
    (λ t. a_suffix (name.Pack u) (a_pack u (grind (arith, nat_tests, low, e, t)))))

-- sources and targets

-- an address with a name
pub record IsSource (n : ℕ) : Type 0 where
  pub named : is_read_address n ≡ true
  pub some : (n == NOWHERE) ≡ false

word_by : (b : Bool) (m n : Name) → (b ≡ true → IsFirst (Word m ∷ [])) → (b ≡ false → IsFirst (Word n ∷ [])) → IsFirst (Word (if b then m else n) ∷ [])
word_by true m n p q = p refl
word_by false m n p q = q refl

row_a : (n : ℕ) → nat_lt n ROWS ≡ true → IsFirst (Word (name.Register (register.RowA n)) ∷ [])
row_a n e = a_name (name.Register (register.RowA n)) (inl (grind (arith, nat_tests, e))) refl

row_b : (n : ℕ) → nat_lt n ROWS ≡ true → IsFirst (Word (name.Register (register.RowB n)) ∷ [])
row_b n e = a_name (name.Register (register.RowB n)) (inl (grind (arith, nat_tests, e))) refl

pub source_a_first : (n : ℕ) → IsSource n → IsFirst (Word (source_a n) ∷ [])
source_a_first n h =
    let named = h.named in
    let some = h.some in
    word_by (nat_lt n ROWS) (name.Register (register.RowA n)) (if n == READ_VPM then name.Register register.Vpm else name.Register (register.Source (place.FileA n)))
    (row_a n)
    (λ e. word_by (n == READ_VPM) (name.Register register.Vpm) (name.Register (register.Source (place.FileA n)))
    (λ t. a_name (name.Register register.Vpm) vpm_name refl)
    (λ t. a_name (name.Register (register.Source (place.FileA n))) (a_source_of_a n (grind (arith, nat_tests, named, some, e, t))) refl))

pub source_b_first : (n : ℕ) → IsSource n → IsFirst (Word (source_b n) ∷ [])
source_b_first n h =
    let named = h.named in
    let some = h.some in
    word_by (nat_lt n ROWS) (name.Register (register.RowB n)) (name.Register (register.Source (place.FileB n)))
    (row_b n)
    (λ e. a_name (name.Register (register.Source (place.FileB n))) (a_source_of_b n (grind (arith, nat_tests, named, some, e))) refl)

accumulator : (n : ℕ) → n < 6 → IsFirst (Word (name.Register (register.Accumulator n)) ∷ [])
accumulator n low = a_name (name.Register (register.Accumulator n)) (an_accumulator n (grind (arith, nat_tests, low))) refl

both_first : (n : ℕ) → is_write_address n ≡ true → file_matters n ≡ false → IsFirst (target_bits (place.Both n))
both_first n named same =
    either_first (n == NOWHERE) _ _ (λ e. no_target)
    (λ e. either_first (nat_le WRITE_R0 n && nat_le n WRITE_R3) _ _
    (λ t. accumulator (n - WRITE_R0) (grind (arith, nat_tests, t)))
    (λ t. either_first (n == WRITE_VPM) _ _ (λ u. a_name (name.Register register.Vpm) vpm_name refl)
    (λ u. a_name (name.Register (register.Target (place.Both n))) (a_target_of_both n (grind (arith, nat_tests, named, same, e, t, u))) refl)))

file_a_first : (n : ℕ) → file_matters n ≡ true → IsFirst (target_bits (place.FileA n))
file_a_first n matters =
    either_first (nat_lt n ROWS) _ _ (row_a n)
    (λ e. a_name (name.Register (register.Target (place.FileA n))) (a_target_of_a n (grind (arith, nat_tests, matters, e))) refl)

file_b_first : (n : ℕ) → file_matters n ≡ true → IsFirst (target_bits (place.FileB n))
file_b_first n matters =
    either_first (nat_lt n ROWS) _ _ (row_b n)
    (λ e. a_name (name.Register (register.Target (place.FileB n))) (a_target_of_b n (grind (arith, nat_tests, matters, e))) refl)

pub target_first : (in_b : Bool) (n : ℕ) → is_write_address n ≡ true → IsFirst (target_bits (target_at_address in_b n))
unfolding target_at_address
target_first in_b n named = by_file (file_matters n) in_b refl
  where
    by_file : (m in_b : Bool) → file_matters n ≡ m → IsFirst (target_bits (if m then (if in_b then place.FileB n else place.FileA n) else place.Both n))
    by_file true true e = file_b_first n e
    by_file true false e = file_a_first n e
    by_file false in_b e = both_first n named e

-- operands

number_by : (b : Bool) (x y : Figure) → (b ≡ true → IsNumber x) → (b ≡ false → IsNumber y) → IsNumber (if b then x else y)
number_by true x y p q = p refl
number_by false x y p q = q refl

pub signed_number : (n : ℕ) → n < 2 ^ 32 → IsNumber (signed_figure n)
signed_number n low = number_by (nat_lt n (2 ^ 31)) _ _ (λ e. low) (λ e. grind (arith, nat_tests, low, e))

small_number : (code : ℕ) → IsNumber (small_figure code)
small_number code =
    number_by (nat_lt code 32) _ _ (λ e. signed_number (immediate_of code) (immediate_fits code)) (λ e. immediate_fits code)

-- what an operand reads has a name, or is a number
abbrev pub IsReadable : Operand → Type 0
IsReadable (operand.Accumulator n) = n < 6
IsReadable (operand.FileA n unpack) = IsSource n × (unpack < 8)
IsReadable (operand.FileB n) = IsSource n
IsReadable (operand.Small code) = code < 64

pub operand_first : (o : Operand) → IsReadable o → IsFirst (operand_bits o)
operand_first (operand.Accumulator n) low = accumulator n low
operand_first (operand.FileA n unpack) h = first_then (Word (source_a n) ∷ []) (unpack_bits unpack) (source_a_first n h.0) (unpack_later unpack h.1)
operand_first (operand.FileB n) h = source_b_first n h
operand_first (operand.Small code) low = a_number (small_figure code) (small_number code)

-- parts

-- what a part is made of
pub record IsPartOf (one : Bool) (p : Part) : Type 0 where
  pub cond : p.cond < 8
  pub to : IsFirst (target_bits p.to)
  pub pack : IsLater (pack_bits p.pack)
  pub a : IsReadable p.a
  pub b : one ≡ false → IsReadable p.b

second_later : (one : Bool) (o : Operand) → (one ≡ false → IsReadable o) → IsLater (second_bits one o)
second_later one o h = either_later one [] (and_then (operand_bits o)) (λ e. nothing) (λ e. after_comma (operand_bits o) (operand_first o (h e)))

pub part_first : (op : Name) (one sets : Bool) (p : Part) → IsNameOfLanguage op → is_packed op ≡ false → IsPartOf one p → IsFirst (part_bits op one sets p)
part_first op one sets p is plain h =
    first_then _ (second_bits one p.b)
    (first_then _ (and_then (operand_bits p.a))
    (first_then _ (pack_bits p.pack)
    (first_then _ (Space ∷ target_bits p.to)
    (first_then _ (flags_bits sets)
    (first_then (Word op ∷ []) (condition_bits p.cond) (a_name op is plain) (condition_later p.cond h.cond))
    (flags_later sets))
    (spaced (target_bits p.to) h.to))
    h.pack)
    (after_comma (operand_bits p.a) (operand_first p.a h.a)))
    (second_later one p.b h.b)

-- signals and other reads

abbrev pub IsTurn : Signal → Type 0
IsTurn (signal.Rotate code) = code < 64
IsTurn _ = Unit {0}

rotation_first : (code : ℕ) → code < 64 → IsFirst (rotation_bit code ∷ [])
rotation_first code low = by_code (code == ROTATE_BY_R5) refl
  where
    by_code : (b : Bool) → (code == ROTATE_BY_R5) ≡ b → IsFirst ((if b then Word (name.Register (register.Accumulator 5)) else Number (Decimal (code - ROTATE_BY_R5))) ∷ [])
    by_code true e = accumulator 5 (omega arith)
    by_code false e = a_number (Decimal (code - ROTATE_BY_R5)) (omega arith)

pub signal_later : (s : Signal) → IsTurn s → IsLater (signal_bits s)
signal_later signal.Nothing h = nothing
signal_later signal.End h = after_semicolon (Word name.End ∷ []) (a_name name.End end_name refl)
signal_later signal.Load0 h = after_semicolon (Word name.Load0 ∷ []) (a_name name.Load0 load0_name refl)
signal_later signal.Load1 h = after_semicolon (Word name.Load1 ∷ []) (a_name name.Load1 load1_name refl)
signal_later (signal.Rotate code) low =
    after_semicolon (Word name.Rotate ∷ Space ∷ rotation_bit code ∷ [])
    (first_then (Word name.Rotate ∷ []) (Space ∷ rotation_bit code ∷ []) (a_name name.Rotate rotate_name refl) (spaced (rotation_bit code ∷ []) (rotation_first code low)))

pub named_later : (before n : Name) → IsNameOfLanguage before → is_packed before ≡ false → IsFirst (Word n ∷ []) → IsLater (behind (Word before ∷ Space ∷ Word n ∷ []))
named_later before n is plain h =
    after_semicolon (Word before ∷ Space ∷ Word n ∷ []) (first_then (Word before ∷ []) (Space ∷ Word n ∷ []) (a_name before is plain) (spaced (Word n ∷ []) h))

pub other_later : (before : Name) (source : ℕ → Name) (address : Option ℕ) → IsNameOfLanguage before → is_packed before ≡ false
    → IfSome address (λ n. IsFirst (Word (source n) ∷ [])) → IsLater (other_bits before source address)
other_later before source None is plain h = nothing
other_later before source (Some n) is plain h = named_later before (source n) is plain h
