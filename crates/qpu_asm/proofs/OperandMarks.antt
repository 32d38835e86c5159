-- Operands of a line in which no fault is found: each is one that a line can name, and is among the line's marks.
use Rattle.std.proofs.Common.{◌≡◌, ℕ, zero, suc, ◌+◌, ◌<◌, inl, inr, Bool, true, false, List, [], Option, Some, None, refl, arith}
use Rattle.std.specs.Prelude.{◌==◌, ◌&&◌, nat_lt, find, IfSome, is_none, unwrap_or, if◌then◌else◌}
use Rattle.std.specs.List.{range_with_len}
use Rattle.std.proofs.lemmas.Bool.Decides.{nat_tests}
use Rattle.qpu_token.specs.declared.token.Token.{Token}
use Rattle.qpu_word.specs.Words.{between}
use Rattle.qpu_word.specs.Operands.{small_value}
use Rattle.qpu_line.specs.declared.operand.Operand.{Operand}
use Rattle.qpu_line.specs.declared.operand.Operand.TheVariants as operand
use Rattle.qpu_line.specs.declared.name.Name.{Name}
use Rattle.qpu_line.specs.Named.{IsNamedOperand, is_unpack_at, is_turned}
use Rattle.qpu_asm.specs.declared.piece.Core.{Core}
use Rattle.qpu_asm.specs.declared.piece.Core.TheVariants as core
use Rattle.qpu_asm.specs.declared.piece.Suffix.{Suffix}
use Rattle.qpu_asm.specs.declared.piece.Piece.{Piece}
use Rattle.qpu_asm.specs.declared.mark.What.{What}
use Rattle.qpu_asm.specs.declared.mark.What.TheVariants as what
use Rattle.qpu_asm.specs.declared.mark.Mark.{Mark}
use Rattle.qpu_asm.specs.Roles.{source_of}
use Rattle.qpu_asm.specs.reader.Marks.{mark, mark_if, fixed, no_suffix, unpack_mark, unpack_marks, source_marks, operand_marks}
use Rattle.qpu_asm.specs.Roles.{code_of, unpack_name}
use Rattle.qpu_asm.specs.reader.Meanings.{with_unpack, unpack_in, operand_of}
use Rattle.qpu_asm.proofs.GoodNames.{IsPlain, source_good, unpack_good}
use Rattle.qpu_asm.proofs.MarkLemmas.{Has, has_left, has_right}
use Rattle.qpu_asm.proofs.ProperParts.{GoodCore, GoodName, GoodSuffix, GoodPiece}
use Rattle.qpu_asm.proofs.GrowLemmas.{grown_old, grows_mark_if, piece}
use Rattle.qpu_asm.proofs.TestLemmas.{or_true}

-- what an operand reads is among the marks
abbrev pub Marked : List Mark → Operand → Type 0
Marked U (operand.Accumulator n) = Unit {0}
Marked U (operand.FileA n unpack) = Has (what.ReadsA n) U × Has (what.Unpacks n unpack) U
Marked U (operand.FileB n) = Has (what.ReadsB n) U
Marked U (operand.Small code) = (value : ℕ) × Has (what.Number value) U × (code_of value ≡ Some code)

pub record IsSaid (mul : Bool) (U : List Mark) (o : Operand) : Type 0 where
  pub named : IsNamedOperand o
  pub marked : Marked U o
  pub turned : mul ≡ true → (Has what.Fixed U → ⊥) → ((value : ℕ) → Has (what.Number value) U → ⊥) → is_turned o ≡ true

-- numbers

code_by : (p : ℕ → Bool) (a n end : ℕ) → a + n ≡ end → IfSome (find p (range_with_len a n)) (λ c. c < end)
code_by p a zero end e = tt
code_by p a (suc n) end e = by_test (p a) (code_by p (a + 1) n end (omega arith))
  where
    by_test : (b : Bool) → IfSome (find p (range_with_len (a + 1) n)) (λ c. c < end) → IfSome (if b then Some a else find p (range_with_len (a + 1) n)) (λ c. c < end)
    by_test true more = omega arith
    by_test false more = more

pub code_low : (value : ℕ) → IfSome (code_of value) (λ c. c < 48)
unfolding code_of
code_low value = code_by (λ code. small_value code == value) 0 48 48 refl

number_said : (mul : Bool) (n : ℕ) (o : Option ℕ) (token : Token) (s : Option Suffix) (U : List Mark) → code_of n ≡ o → IfSome o (λ c. c < 48)
    → ((w : What) → Has w (no_suffix s (mark_if (is_none o) what.Far token (mark (what.Number n) token []))) → Has w U)
    → (Has what.Wrong U → ⊥) → (Has what.Far U → ⊥) → IsSaid mul U (with_unpack (unpack_in s) (operand.Small (unwrap_or o 0)))
number_said mul n None token None U is low inside right near = absurd (near (inside what.Far (inr (inl refl))))
number_said mul n (Some code) token None U is low inside right near = record {
  named = low;
  marked = (n, inside (what.Number n) (inl refl), is);
  turned = λ _ _ none. absurd (none n (inside (what.Number n) (inl refl)));
}
number_said mul n o token (Some s) U is low inside right near = absurd (right (inside what.Wrong (has_right what.Wrong (mark_if (is_none o) what.Far token (mark (what.Number n) token [])) _ (inl refl))))

-- names

fixed_old : (mul : Bool) (token : Token) (w : What) (ms : List Mark) → Has w ms → Has w (fixed mul token ms)
fixed_old mul token w ms has = grown_old (fixed mul token) (grows_mark_if mul what.Fixed token) w ms has

fixed_new : (mul : Bool) (token : Token) (ms : List Mark) → mul ≡ true → Has what.Fixed (fixed mul token ms)
fixed_new true token ms is = has_right what.Fixed ms _ (inl refl)
fixed_new false token ms is = absurd (grind (arith, is))

accumulator_said : (mul : Bool) (n : ℕ) (b : Bool) (token : Token) (s : Option Suffix) (U : List Mark) → (mul && nat_lt 3 n) ≡ b → n < 6
    → ((w : What) → Has w (no_suffix s (mark_if b what.Fixed token [])) → Has w U)
    → (Has what.Wrong U → ⊥) → IsSaid mul U (with_unpack (unpack_in s) (operand.Accumulator n))
accumulator_said mul n b token (Some s) U is low inside right = absurd (right (inside what.Wrong (has_right what.Wrong (mark_if b what.Fixed token []) _ (inl refl))))
accumulator_said mul n true token None U is low inside right = record { named = low; marked = tt; turned = λ _ none _. absurd (none (inside what.Fixed (inl refl))) }
accumulator_said mul n false token None U is low inside right = record { named = low; marked = tt; turned = λ turns _ _. near_by mul is turns }
  where
    near_by : (m : Bool) → (m && nat_lt 3 n) ≡ false → m ≡ true → nat_lt n 4 ≡ true
    near_by true far turns = grind (arith, nat_tests, far)
    near_by false far turns = absurd (grind (arith, turns))

unpack_named : (n : Option Name) → GoodName n → IfSome (unpack_name n) (λ m. between 1 m 7 ≡ true)
unpack_named None good = tt
unpack_named (Some n) good = unpack_good n good

unpack_fits : (n mode : ℕ) → nat_lt n 32 ≡ true → between 1 mode 7 ≡ true → is_unpack_at n mode ≡ true
unpack_fits n mode row is = rw (row, is) (or_true (mode == 0))

-- what unpacks a read of file A
record IsUnpacked (n unpack : ℕ) (U : List Mark) : Type 0 where
  fits : is_unpack_at n unpack ≡ true
  told : Has (what.Unpacks n unpack) U

mode_said : (n : ℕ) (mode : Option ℕ) (dot : Token) (ms U : List Mark) → nat_lt n 32 ≡ true → IfSome mode (λ m. between 1 m 7 ≡ true)
    → ((w : What) → Has w (unpack_mark n dot mode ms) → Has w U) → (Has what.Wrong U → ⊥) → IsUnpacked n (unwrap_or mode 0) U
mode_said n None dot ms U row fits inside right = absurd (right (inside what.Wrong (has_right what.Wrong ms _ (inl refl))))
mode_said n (Some mode) dot ms U row fits inside right = record {
  fits = unpack_fits n mode row fits;
  told = inside (what.Unpacks n mode) (has_right (what.Unpacks n mode) ms _ (inl refl));
}

row_said : (n : ℕ) (b : Bool) (mode : Option ℕ) (dot : Token) (ms U : List Mark) → nat_lt n 32 ≡ b → IfSome mode (λ m. between 1 m 7 ≡ true)
    → ((w : What) → Has w (if b then unpack_mark n dot mode ms else mark what.Wrong dot ms) → Has w U) → (Has what.Wrong U → ⊥) → IsUnpacked n (unwrap_or mode 0) U
row_said n true mode dot ms U row fits inside right = mode_said n mode dot ms U row fits inside right
row_said n false mode dot ms U row fits inside right = absurd (right (inside what.Wrong (has_right what.Wrong ms _ (inl refl))))

unpack_said : (n : ℕ) (c : Core) (token : Token) (s : Option Suffix) (ms U : List Mark) → GoodSuffix s
    → ((w : What) → Has w (unpack_marks n (piece c token s) s ms) → Has w U) → (Has what.Wrong U → ⊥) → IsUnpacked n (unpack_in s) U
unpack_said n c token None ms U good inside right = record { fits = refl; told = inside (what.Unpacks n 0) (has_right (what.Unpacks n 0) ms _ (inl refl)) }
unpack_said n c token (Some s) ms U good inside right =
    row_said n (nat_lt n 32) (unpack_name s.name) s.dot ms U refl (unpack_named s.name good) inside right

unpack_old : (n : ℕ) (c : Core) (token : Token) (s : Option Suffix) (w : What) (ms : List Mark) → Has w ms → Has w (unpack_marks n (piece c token s) s ms)
unpack_old n c token None w ms has = has_left w ms _ has
unpack_old n c token (Some s) w ms has = by_row (nat_lt n 32) (unpack_name s.name)
  where
    by_row : (b : Bool) (mode : Option ℕ) → Has w (if b then unpack_mark n s.dot mode ms else mark what.Wrong s.dot ms)
    by_row true None = has_left w ms _ has
    by_row true (Some mode) = has_left w ms _ has
    by_row false mode = has_left w ms _ has

source_said : (mul : Bool) (o : Option Operand) (c : Core) (token : Token) (s : Option Suffix) (U : List Mark) → IfSome o IsPlain → GoodSuffix s
    → ((w : What) → Has w (source_marks mul (piece c token s) o []) → Has w U) → (Has what.Wrong U → ⊥)
    → IsSaid mul U (with_unpack (unpack_in s) (unwrap_or o (operand.Accumulator 0)))
source_said mul None c token s U plain good inside right = absurd (right (inside what.Wrong (inl refl)))
source_said mul (Some (operand.Accumulator n)) c token s U plain good inside right = accumulator_said mul n (mul && nat_lt 3 n) token s U refl plain inside right
source_said mul (Some (operand.FileA n u)) c token s U plain good inside right =
    let ms = fixed mul token (mark (what.ReadsA n) token []) in
    let unpacked : IsUnpacked n (unpack_in s) U = unpack_said n c token s ms U good inside right in
    record {
      named = (plain, unpacked.fits);
      marked = (inside (what.ReadsA n) (unpack_old n c token s (what.ReadsA n) ms (fixed_old mul token (what.ReadsA n) (mark (what.ReadsA n) token []) (inl refl))), unpacked.told);
      turned = λ turns none _. absurd (none (inside what.Fixed (unpack_old n c token s what.Fixed ms (fixed_new mul token (mark (what.ReadsA n) token []) turns))));
    }
source_said mul (Some (operand.FileB n)) c token None U plain good inside right = record {
  named = plain;
  marked = inside (what.ReadsB n) (fixed_old mul token (what.ReadsB n) (mark (what.ReadsB n) token []) (inl refl));
  turned = λ turns none _. absurd (none (inside what.Fixed (fixed_new mul token (mark (what.ReadsB n) token []) turns)));
}
source_said mul (Some (operand.FileB n)) c token (Some s) U plain good inside right =
    absurd (right (inside what.Wrong (has_right what.Wrong (fixed mul token (mark (what.ReadsB n) token [])) _ (inl refl))))
source_said mul (Some (operand.Small code)) c token s U plain good inside right = absurd plain

operand_by : (mul : Bool) (c : Core) (token : Token) (s : Option Suffix) (U : List Mark) → GoodCore c → GoodSuffix s
    → ((w : What) → Has w (operand_marks mul (piece c token s) []) → Has w U) → (Has what.Wrong U → ⊥) → (Has what.Far U → ⊥)
    → IsSaid mul U (operand_of (piece c token s))
unfolding operand_marks
operand_by mul (core.Name n) token s U named suffix inside right near = source_said mul (source_of n) (core.Name n) token s U (source_good n named) suffix inside right
operand_by mul (core.Number n) token s U named suffix inside right near = number_said mul n (code_of n) token s U refl (code_low n) inside right near
operand_by mul core.Unknown token s U named suffix inside right near = absurd (right (inside what.Wrong (inl refl)))
operand_by mul core.Nowhere token s U named suffix inside right near = absurd (right (inside what.Wrong (inl refl)))
operand_by mul (core.Label at) token s U named suffix inside right near = absurd (right (inside what.Wrong (inl refl)))

pub operand_said : (mul : Bool) (p : Piece) (U : List Mark) → GoodPiece p → ((w : What) → Has w (operand_marks mul p []) → Has w U)
    → (Has what.Wrong U → ⊥) → (Has what.Far U → ⊥) → IsSaid mul U (operand_of p)
operand_said mul p U good inside right near = operand_by mul p.core p.token p.suffix U good.core good.suffix inside right near
