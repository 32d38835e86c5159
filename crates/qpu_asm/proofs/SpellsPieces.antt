-- A piece in whose marks nothing is wrong spells what it means.
use Rattle.std.proofs.Common.{◌≡◌, ℕ, zero, suc, ◌+◌, ◌<◌, inl, inr, Bool, true, false, List, [], ◌∷◌, ◌++◌, Option, Some, None, refl, sym, subst, arith}
use Rattle.std.proofs.lemmas.Bool.Decides.{nat_tests}
use Rattle.std.proofs.lemmas.List.{append-nil}
use Rattle.std.specs.Prelude.{◌==◌, ◌&&◌, not, nat_lt, find, IfSome, is_none, is_some, unwrap_or, if◌then◌else◌}
use Rattle.std.specs.List.{range_with_len}
use Rattle.qpu_token.specs.declared.token.Token.{Token}
use Rattle.qpu_word.specs.declared.name.Place.{Place}
use Rattle.qpu_word.specs.declared.name.Place.TheVariants as place
use Rattle.qpu_word.specs.Operands.{small_value}
use Rattle.qpu_line.specs.declared.operand.Operand.{Operand}
use Rattle.qpu_line.specs.declared.operand.Operand.TheVariants as operand
use Rattle.qpu_line.specs.declared.load.Write.{Write}
use Rattle.qpu_line.specs.declared.name.Name.{Name}
use Rattle.qpu_line.specs.declared.name.Name.TheVariants as name
use Rattle.qpu_line.specs.declared.name.Register.{Register}
use Rattle.qpu_line.specs.declared.name.Register.TheVariants as register
use Rattle.qpu_line.specs.declared.symbol.Symbol.{Symbol}
use Rattle.qpu_line.specs.declared.symbol.Symbol.TheVariants as symbol
use Rattle.qpu_line.specs.Targets.{is_row_a}
use Rattle.qpu_asm.specs.declared.piece.Core.{Core}
use Rattle.qpu_asm.specs.declared.piece.Core.TheVariants as core
use Rattle.qpu_asm.specs.declared.piece.Suffix.{Suffix}
use Rattle.qpu_asm.specs.declared.piece.Piece.{Piece}
use Rattle.qpu_asm.specs.declared.part.Suffixes.{Suffixes}
use Rattle.qpu_asm.specs.declared.mark.What.{What}
use Rattle.qpu_asm.specs.declared.mark.What.TheVariants as what
use Rattle.qpu_asm.specs.declared.mark.Mark.{Mark}
use Rattle.qpu_asm.specs.Roles.{target_meant, source_of, pack_of}
use Rattle.qpu_asm.specs.reader.Marks.{mark, mark_if, first_suffix, second_suffix, suffix_marks, condition_marks, branch_marks, no_suffix, target_place, place_mark, pack_marks, somewhere, fixed, unpack_mark, unpack_marks, source_marks, operand_marks, any_number, number_between}
use Rattle.qpu_asm.specs.Roles.{is_row, if_link}
use Rattle.qpu_asm.specs.Roles.{code_of, is_pack, unpack_name}
use Rattle.qpu_asm.specs.reader.Meanings.{condition_in, branch_condition_in, sets_in, pack_name, pack_in, unpack_in, nowhere_place, place_of, number_of, with_unpack, operand_of, condition_at, write_in}
use Rattle.qpu_asm.specs.SpelledPieces.{name_alone, dotted, SpellsNumber, SpellsTarget, is_nowhere, SpellsCondition, SpellsFlags, SpellsBranchCondition, SpellsPack, SpellsOperand, SpellsOperands, written}
use Rattle.qpu_asm.specs.SpelledPieces.SpellsNumber.{number}
use Rattle.qpu_asm.specs.SpelledPieces.SpellsTarget.{nowhere, named as target_named}
use Rattle.qpu_asm.specs.SpelledPieces.SpellsCondition.{always, given, dropped}
use Rattle.qpu_asm.specs.SpelledPieces.SpellsFlags.{kept, set}
use Rattle.qpu_asm.specs.SpelledPieces.SpellsBranchCondition.{always as branch_always, given as branch_given}
use Rattle.qpu_asm.specs.SpelledPieces.SpellsPack.{whole as pack_whole, packed}
use Rattle.qpu_asm.specs.SpelledPieces.SpellsOperand.{named as operand_named, unpacked, small}
use Rattle.qpu_asm.specs.SpelledPieces.SpellsOperands.{one, two}
use Rattle.qpu_asm.proofs.MarkLemmas.{Has, has_right}
use Rattle.qpu_asm.proofs.GrowLemmas.{Marking, Grows, grown_old, grown_new, piece}
use Rattle.qpu_asm.proofs.OperandMarks.{code_low}
use Rattle.qpu_asm.proofs.TestLemmas.{both_true}
use Rattle.qpu_asm.proofs.SpellsTold.{CoreIs, suffix_symbols, PieceIs, OperandsAre, conditions_of}

-- a mark that isn't among those that are put
abbrev pub Spares : What → Marking → Type 0
Spares w f = Has w (f []) → ⊥

pub spares_old : (w : What) (f g : Marking) → Grows g → Spares w (λ ms. g (f ms)) → Spares w f
spares_old w f g grows h = λ has. h (grown_old g grows w (f []) has)

pub spares_new : (w : What) (f g : Marking) → Grows g → Spares w (λ ms. g (f ms)) → Spares w g
spares_new w f g grows h = λ has. h (grown_new g grows w (f []) has)

-- suffixes of mnemonics

given_by : (to : Place) (cond : ℕ) (b : Bool) → is_nowhere to ≡ b → SpellsCondition (dotted (name.Condition cond)) to (if b then 1 else cond)
given_by to cond true e = dropped e
given_by to cond false e = given e

always_by : (to : Place) (b : Bool) → SpellsCondition [] to (if b then 1 else 1)
always_by to true = always
always_by to false = always

pub written_same : (to : Place) (s : Option Suffix) → written to (condition_at to s) ≡ write_in to s
written_same to s = by_nowhere (is_nowhere to)
  where
    by_nowhere : (b : Bool) → ◌≡◌ {A = Option Write} (if b then None else Some (record { cond = if b then 1 else condition_in s; to = to })) (if b then None else Some (record { cond = condition_in s; to = to }))
    by_nowhere true = refl
    by_nowhere false = refl

pub record MnemonicSpelled (s : Suffixes) : Type 0 where
  pub c : List Symbol
  pub f : List Symbol
  pub whole : conditions_of s ≡ c ++ f
  pub condition : (to : Place) → SpellsCondition c to (condition_at to s.first)
  pub flags : SpellsFlags f (sets_in s)

abbrev dot_name : Token → Option Name → Suffix
dot_name dot n = record { dot = dot; name = n }

one_suffix : (mul : Bool) (dot : Token) (n : Option Name) → Spares what.Wrong (first_suffix mul (Some (dot_name dot n))) → MnemonicSpelled (record { first = Some (dot_name dot n); second = None })
one_suffix mul dot (Some (name.Condition n)) h =
    record { c = dotted (name.Condition n); f = []; whole = refl; condition = λ to. given_by to n (is_nowhere to) refl; flags = kept }
one_suffix mul dot (Some name.SetFlags) h = record { c = []; f = dotted name.SetFlags; whole = refl; condition = λ to. always_by to (is_nowhere to); flags = set }
one_suffix mul dot _ h = absurd (h (inl refl))

two_suffixes : (mul : Bool) (dot other : Token) (n m : Option Name)
    → Spares what.Wrong (λ ms. second_suffix mul (Some (dot_name dot n)) (Some (dot_name other m)) (first_suffix mul (Some (dot_name dot n)) ms))
    → MnemonicSpelled (record { first = Some (dot_name dot n); second = Some (dot_name other m) })
two_suffixes mul dot other (Some (name.Condition n)) (Some name.SetFlags) h =
    record { c = dotted (name.Condition n); f = dotted name.SetFlags; whole = refl; condition = λ to. given_by to n (is_nowhere to) refl; flags = set }
two_suffixes mul dot other (Some (name.Condition n)) _ h = absurd (h (inl refl))
two_suffixes mul dot other n m h = absurd (h (has_right what.Wrong (first_suffix mul (Some (dot_name dot n)) []) (record { what = what.Wrong; token = other } ∷ []) (inl refl)))

suffixes_by : (mul : Bool) (a b : Option Suffix) → Spares what.Wrong (λ ms. second_suffix mul a b (first_suffix mul a ms)) → MnemonicSpelled (record { first = a; second = b })
suffixes_by mul None None h = record { c = []; f = []; whole = refl; condition = λ to. always_by to (is_nowhere to); flags = kept }
suffixes_by mul None (Some t) h = absurd (h (inl refl))
suffixes_by mul (Some s) None h = one_suffix mul s.dot s.name h
suffixes_by mul (Some s) (Some t) h = two_suffixes mul s.dot t.dot s.name t.name h

pub mnemonic_spelled : (mul : Bool) (s : Suffixes) → Spares what.Wrong (suffix_marks mul s) → MnemonicSpelled s
unfolding suffix_marks
mnemonic_spelled mul s h = suffixes_by mul s.first s.second h

condition_by : (dot : Token) (n : Option Name) (to : Place) → Spares what.Wrong (condition_marks (Some (dot_name dot n)))
    → SpellsCondition (suffix_symbols (Some (dot_name dot n))) to (condition_at to (Some (dot_name dot n)))
condition_by dot (Some (name.Condition n)) to h = given_by to n (is_nowhere to) refl
condition_by dot _ to h = absurd (h (inl refl))

pub condition_spelled : (s : Option Suffix) (to : Place) → Spares what.Wrong (condition_marks s) → SpellsCondition (suffix_symbols s) to (condition_at to s)
condition_spelled None to h = always_by to (is_nowhere to)
condition_spelled (Some s) to h = condition_by s.dot s.name to h

branch_by : (dot : Token) (n : Option Name) → Spares what.Wrong (branch_marks (Some (dot_name dot n)))
    → SpellsBranchCondition (suffix_symbols (Some (dot_name dot n))) (branch_condition_in (Some (dot_name dot n)))
branch_by dot (Some (name.BranchCondition n)) h = branch_given
branch_by dot _ h = absurd (h (inl refl))

pub branch_spelled : (s : Option Suffix) → Spares what.Wrong (branch_marks s) → SpellsBranchCondition (suffix_symbols s) (branch_condition_in s)
branch_spelled None h = branch_always
branch_spelled (Some s) h = branch_by s.dot s.name h

-- targets

place_by : (n : Name) (o : Option Place) (token : Token) → target_meant n ≡ o → Spares what.Wrong (place_mark o token) → target_meant n ≡ Some (unwrap_or o nowhere_place)
place_by n None token e h = absurd (h (inl refl))
place_by n (Some p) token e h = e

pub target_spelled : (c : Core) (t : List Symbol) (token : Token) → CoreIs c t → Spares what.Wrong (place_mark (target_place c) token) → SpellsTarget t (place_of c)
target_spelled (core.Name n) t token is h =
    let P : List Symbol → Type 0 = λ z. SpellsTarget z (place_of (core.Name n)) in
    subst P (sym is) (target_named (place_by n (target_meant n) token refl h))
target_spelled core.Nowhere t token is h = let P : List Symbol → Type 0 = λ z. SpellsTarget z nowhere_place in subst P (sym is) nowhere
target_spelled _ t token is h = absurd (h (inl refl))

-- a target that has a name
pub record NameSpelled (c : Core) (t : List Symbol) : Type 0 where
  pub n : Name
  pub is : t ≡ name_alone n
  pub meant : target_meant n ≡ Some (place_of c)

pub somewhere_spelled : (c : Core) (t : List Symbol) (token : Token) → CoreIs c t → Spares what.Wrong (place_mark (somewhere c) token) → NameSpelled c t
somewhere_spelled (core.Name n) t token is h = record { n = n; is = is; meant = place_by n (target_meant n) token refl h }
somewhere_spelled _ t token is h = absurd (h (inl refl))

-- what a branch links to is a target
pub link_place : (o : Option Place) (token : Token) → Spares what.Wrong (place_mark (if_link o) token) → Spares what.Wrong (place_mark o token)
link_place None token h = h
link_place (Some p) token h = λ has. other has
  where
    other : Has what.Wrong (place_mark (Some p) token []) → ⊥
    other (inl e) = cc
    other (inr more) = more

-- packs

packed_by : (to : Place) (s : Suffix) (n : Name) (o : Option ℕ) → pack_of n ≡ o → is_some o ≡ true → is_row_a to ≡ true → SpellsPack (dotted n) to (unwrap_or o 0)
packed_by to s n None e some row = absurd (grind (arith, some))
packed_by to s n (Some mode) e some row = packed row e

pack_name_by : (to : Option Place) (s : Suffix) (n : Option Name) → (is_row to && is_pack n) ≡ true → SpellsPack (suffix_symbols (Some (dot_name s.dot n))) (unwrap_or to nowhere_place) (unwrap_or (pack_name n) 0)
pack_name_by None s n e = absurd (grind (arith, e))
pack_name_by (Some to) s None e = absurd (let f : false ≡ true = (both_true (is_row_a to) false e).1 in grind (arith, f))
pack_name_by (Some to) s (Some n) e = let both = both_true (is_row_a to) (is_some (pack_of n)) e in packed_by to s n (pack_of n) refl both.1 both.0

pack_by : (to : Option Place) (s : Suffix) (b : Bool) (token : Token) → (is_row to && is_pack s.name) ≡ b → Spares what.Wrong (mark_if (not b) what.Wrong token) → (is_row to && is_pack s.name) ≡ true
pack_by to s true token e h = e
pack_by to s false token e h = absurd (h (inl refl))

pub pack_spelled : (to : Option Place) (s : Option Suffix) → Spares what.Wrong (pack_marks to s) → SpellsPack (suffix_symbols s) (unwrap_or to nowhere_place) (pack_in s)
pack_spelled to None h = pack_whole
pack_spelled to (Some s) h = pack_name_by to s s.name (pack_by to s (is_row to && is_pack s.name) s.dot refl h)

-- numbers

pub number_spelled : (c : Core) (t : List Symbol) (token : Token) (s : Option Suffix) → CoreIs c t → Spares what.Wrong (any_number (piece c token s)) → SpellsNumber t (number_of c)
number_spelled (core.Number v) t token s (w, is, e) h =
    let P : List Symbol → Type 0 = λ z. SpellsNumber z v in
    let Q : ℕ → Type 0 = λ z. SpellsNumber (symbol.Number w ∷ []) z in
    subst P (sym is) (subst Q (sym e) number)
number_spelled _ t token s is h = absurd (h (inl refl))

pub between_spelled : (low high : ℕ) (c : Core) (t : List Symbol) (token : Token) (s : Option Suffix) → CoreIs c t → Spares what.Wrong (number_between low high (piece c token s)) → SpellsNumber t (number_of c)
between_spelled low high (core.Number v) t token s is h = number_spelled (core.Number v) t token s is (λ has. has)
between_spelled low high (core.Name n) t token s is h = absurd (h (inl refl))
between_spelled low high core.Unknown t token s is h = absurd (h (inl refl))
between_spelled low high core.Nowhere t token s is h = absurd (h (inl refl))
between_spelled low high (core.Label at) t token s is h = absurd (h (inl refl))

-- operands

find_holds : (p : ℕ → Bool) (a n : ℕ) → IfSome (find p (range_with_len a n)) (λ c. p c ≡ true)
find_holds p a zero = tt
find_holds p a (suc n) = by_test (p a) refl (find_holds p (a + 1) n)
  where
    by_test : (b : Bool) → p a ≡ b → IfSome (find p (range_with_len (a + 1) n)) (λ c. p c ≡ true) → IfSome (if b then Some a else find p (range_with_len (a + 1) n)) (λ c. p c ≡ true)
    by_test true e more = e
    by_test false e more = more

code_value : (value : ℕ) → IfSome (code_of value) (λ c. (small_value c == value) ≡ true)
unfolding code_of
code_value value = find_holds (λ code. small_value code == value) 0 48

same_number : (n m : ℕ) → (n == m) ≡ true → m ≡ n
same_number n m e = grind (arith, nat_tests, e)

small_by : (v : ℕ) (o : Option ℕ) (token : Token) (s : Option Suffix) (t : List Symbol) → IfSome o (λ c. c < 48) → IfSome o (λ c. (small_value c == v) ≡ true) → SpellsNumber t v
    → Spares what.Wrong (λ ms. no_suffix s (mark_if (is_none o) what.Far token (mark (what.Number v) token ms)))
    → Spares what.Far (λ ms. no_suffix s (mark_if (is_none o) what.Far token (mark (what.Number v) token ms)))
    → SpellsOperand (t ++ suffix_symbols s) (with_unpack (unpack_in s) (operand.Small (unwrap_or o 0)))
small_by v o token (Some s) t low same is right near = absurd (right (has_right what.Wrong (mark_if (is_none o) what.Far token (mark (what.Number v) token [])) _ (inl refl)))
small_by v None token None t low same is right near = absurd (near (inr (inl refl)))
small_by v (Some code) token None t low same is right near =
    let P : List Symbol → Type 0 = λ z. SpellsOperand z (operand.Small code) in
    let Q : ℕ → Type 0 = λ z. SpellsNumber t z in
    subst P (sym (append-nil t)) (small low (subst Q (same_number (small_value code) v same) is))

-- a name that reads stands for no unpack mode
plain_mode : (r : Register) (row mode : ℕ) → source_of (name.Register r) ≡ Some (operand.FileA row mode) → mode ≡ 0
plain_mode (register.Accumulator n) row mode e = cc
plain_mode (register.RowA n) row mode e = cc
plain_mode (register.RowB n) row mode e = cc
plain_mode register.Vpm row mode e = cc
plain_mode (register.Source (place.FileA n)) row mode e = cc
plain_mode (register.Source (place.FileB n)) row mode e = cc
plain_mode (register.Source (place.Both n)) row mode e = cc
plain_mode (register.Target p) row mode e = cc

pub no_mode : (n : Name) (row mode : ℕ) → source_of n ≡ Some (operand.FileA row mode) → source_of n ≡ Some (operand.FileA row 0)
no_mode (name.Register r) row mode e =
    let P : ℕ → Type 0 = λ z. source_of (name.Register r) ≡ Some (operand.FileA row z) in subst P (plain_mode r row mode e) e
no_mode _ row mode e = absurd (grind (arith, e))

unpacked_by : (n : Name) (row : ℕ) (dot : Token) (m : Option Name) (o : Option ℕ) (ms : List Mark) → source_of n ≡ Some (operand.FileA row 0) → nat_lt row 32 ≡ true → unpack_name m ≡ o
    → (Has what.Wrong (unpack_mark row dot o ms) → ⊥) → SpellsOperand (name_alone n ++ suffix_symbols (Some (dot_name dot m))) (operand.FileA row (unwrap_or o 0))
unpacked_by n row dot m None ms e low is h = absurd (h (has_right what.Wrong ms _ (inl refl)))
unpacked_by n row dot None (Some mode) ms e low is h = absurd (grind (arith, is))
unpacked_by n row dot (Some m) (Some mode) ms e low is h = unpacked e low is

row_by : (n : Name) (row : ℕ) (b : Bool) (s : Suffix) (ms : List Mark) → source_of n ≡ Some (operand.FileA row 0) → nat_lt row 32 ≡ b
    → (Has what.Wrong (if b then unpack_mark row s.dot (unpack_name s.name) ms else mark what.Wrong s.dot ms) → ⊥)
    → SpellsOperand (name_alone n ++ suffix_symbols (Some s)) (operand.FileA row (unwrap_or (unpack_name s.name) 0))
row_by n row true s ms e low h = unpacked_by n row s.dot s.name (unpack_name s.name) ms e low refl h
row_by n row false s ms e low h = absurd (h (has_right what.Wrong ms _ (inl refl)))

file_a_by : (n : Name) (row : ℕ) (c : Core) (token : Token) (s : Option Suffix) (ms : List Mark) → source_of n ≡ Some (operand.FileA row 0)
    → (Has what.Wrong (unpack_marks row (piece c token s) s ms) → ⊥) → SpellsOperand (name_alone n ++ suffix_symbols s) (operand.FileA row (unpack_in s))
file_a_by n row c token None ms e h = operand_named e
file_a_by n row c token (Some s) ms e h = row_by n row (nat_lt row 32) s ms e refl h

source_by : (mul : Bool) (n : Name) (o : Option Operand) (token : Token) (s : Option Suffix) → source_of n ≡ o
    → Spares what.Wrong (source_marks mul (piece (core.Name n) token s) o)
    → SpellsOperand (name_alone n ++ suffix_symbols s) (with_unpack (unpack_in s) (unwrap_or o (operand.Accumulator 0)))
source_by mul n None token s e h = absurd (h (inl refl))
source_by mul n (Some (operand.Accumulator k)) token None e h = operand_named e
source_by mul n (Some (operand.Accumulator k)) token (Some s) e h = absurd (h (has_right what.Wrong (mark_if (mul && nat_lt 3 k) what.Fixed token []) _ (inl refl)))
source_by mul n (Some (operand.FileA row mode)) token s e h =
    file_a_by n row (core.Name n) token s (fixed mul token (mark (what.ReadsA row) token [])) (no_mode n row mode e) h
source_by mul n (Some (operand.FileB k)) token None e h = operand_named e
source_by mul n (Some (operand.FileB k)) token (Some s) e h = absurd (h (has_right what.Wrong (fixed mul token (mark (what.ReadsB k) token [])) _ (inl refl)))
source_by mul n (Some (operand.Small code)) token s e h = absurd (h (inl refl))

operand_by : (mul : Bool) (c : Core) (t : List Symbol) (token : Token) (s : Option Suffix) → CoreIs c t → Spares what.Wrong (operand_marks mul (piece c token s))
    → Spares what.Far (operand_marks mul (piece c token s)) → SpellsOperand (t ++ suffix_symbols s) (operand_of (piece c token s))
unfolding operand_marks
operand_by mul (core.Name n) t token s is right near =
    let P : List Symbol → Type 0 = λ z. SpellsOperand (z ++ suffix_symbols s) (operand_of (piece (core.Name n) token s)) in
    subst P (sym is) (source_by mul n (source_of n) token s refl right)
operand_by mul (core.Number v) t token s is right near =
    small_by v (code_of v) token s t (code_low v) (code_value v) (number_spelled (core.Number v) t token s is (λ has. has)) right near
operand_by mul core.Unknown t token s is right near = absurd (right (inl refl))
operand_by mul core.Nowhere t token s is right near = absurd (right (inl refl))
operand_by mul (core.Label at) t token s is right near = absurd (right (inl refl))

pub operand_spelled : (mul : Bool) (p : Piece) (x : List Symbol) → PieceIs p x → Spares what.Wrong (operand_marks mul p) → Spares what.Far (operand_marks mul p) → SpellsOperand x (operand_of p)
operand_spelled mul p x (t, is, e) right near =
    let P : List Symbol → Type 0 = λ z. SpellsOperand z (operand_of p) in
    subst P (sym e) (operand_by mul p.core t p.token p.suffix is right near)

pub operands_spelled : (mul one : Bool) (a b : Piece) (x : List Symbol) → OperandsAre one a b x → Spares what.Wrong (operand_marks mul a) → Spares what.Far (operand_marks mul a)
    → Spares what.Wrong (operand_marks mul b) → Spares what.Far (operand_marks mul b) → SpellsOperands one x (operand_of a) (operand_of b)
operands_spelled mul true a b x (is, same) right near other_right other_near =
    let P : Piece → Type 0 = λ z. SpellsOperands true x (operand_of a) (operand_of z) in
    subst P (sym same) (one (operand_spelled mul a x is right near))
operands_spelled mul false a b x (y, z, first, second, e) right near other_right other_near =
    let P : List Symbol → Type 0 = λ w. SpellsOperands false w (operand_of a) (operand_of b) in
    subst P (sym e) (two (operand_spelled mul a y first right near) (operand_spelled mul b z second other_right other_near))

-- the mul unit's part tells that it sets flags

one_sets : (dot : Token) (n : Option Name) → Spares what.Wrong (first_suffix true (Some (dot_name dot n))) → sets_in (record { first = Some (dot_name dot n); second = None }) ≡ true
    → Has what.MulSets (first_suffix true (Some (dot_name dot n)) [])
one_sets dot (Some (name.Condition n)) h e = absurd (grind (arith, e))
one_sets dot (Some name.SetFlags) h e = inl refl
one_sets dot _ h e = absurd (h (inl refl))

two_sets : (dot other : Token) (n m : Option Name)
    → Spares what.Wrong (λ ms. second_suffix true (Some (dot_name dot n)) (Some (dot_name other m)) (first_suffix true (Some (dot_name dot n)) ms))
    → Has what.MulSets (second_suffix true (Some (dot_name dot n)) (Some (dot_name other m)) (first_suffix true (Some (dot_name dot n)) []))
two_sets dot other (Some (name.Condition n)) (Some name.SetFlags) h = inl refl
two_sets dot other (Some (name.Condition n)) _ h = absurd (h (inl refl))
two_sets dot other n m h = absurd (h (has_right what.Wrong (first_suffix true (Some (dot_name dot n)) []) (record { what = what.Wrong; token = other } ∷ []) (inl refl)))

sets_by : (a b : Option Suffix) → Spares what.Wrong (λ ms. second_suffix true a b (first_suffix true a ms)) → sets_in (record { first = a; second = b }) ≡ true
    → Has what.MulSets (second_suffix true a b (first_suffix true a []))
sets_by None None h e = absurd (grind (arith, e))
sets_by None (Some t) h e = absurd (h (inl refl))
sets_by (Some s) None h e = one_sets s.dot s.name h e
sets_by (Some s) (Some t) h e = two_sets s.dot t.dot s.name t.name h

pub sets_marked : (s : Suffixes) → Spares what.Wrong (suffix_marks true s) → sets_in s ≡ true → Has what.MulSets (suffix_marks true s [])
unfolding suffix_marks
sets_marked s h e = sets_by s.first s.second h e
