-- What follows of a word's fields where the word is in the profile.
use Rattle.std.proofs.Common.{◌≡◌, ◌≢◌, ℕ, zero, suc, ◌/◌, ◌^◌, ◌<◌, Bool, false, List, [], ◌∷◌, length, get_or, None, sym, subst, arith}
use Rattle.std.specs.Prelude.{find}
use Rattle.std.proofs.Math.Nat.{mod-lt}
use Rattle.std.proofs.Math.Pow.{pow_pos}
use Rattle.std.proofs.lemmas.Bool.Decides.{nat_tests}
use Rattle.qpu_word.specs.declared.word.Fields.{Fields}
use Rattle.qpu_word.specs.declared.fault.WordFault.TheVariants.{Signal, Packing}
use Rattle.qpu_word.specs.Words.{field, fields_of, has_fault, all_faults, word_fault, IsInProfile}
use Rattle.qpu_word.specs.Writing.{pack_mode}
use Rattle.qpu_word.specs.Fit.{IsFit}

-- where nothing is found, nothing passes
none_head : {A : Type 0} (p : A → Bool) (x : A) (xs : List A) → find p (x ∷ xs) ≡ None → (p x ≡ false) × (find p xs ≡ None)
none_head p x xs none = grind (arith, none)

pub every_row : {A : Type 0} (p : A → Bool) (xs : List A) → find p xs ≡ None → (k : ℕ) (d : A) → k < length xs → p (get_or xs k d) ≡ false
every_row p [] none k d low = absurd (omega arith)
every_row p (x ∷ xs) none zero d low = (none_head p x xs none).0
every_row p (x ∷ xs) none (suc k) d low = every_row p xs (none_head p x xs none).1 k d (omega arith)

-- a field is below its power
pub field_below : (w low n : ℕ) → field w low n < 2 ^ n
field_below w low n = mod-lt (w / 2 ^ low) (pow_pos n)

-- the packing of a word of the profile can be done
no_bad_signal : (w : ℕ) → IsInProfile w → has_fault (fields_of w) Signal ≡ false
unfolding word_fault
no_bad_signal w inside = every_row (has_fault (fields_of w)) all_faults inside 0 Signal (omega arith)

no_bad_packing : (w : ℕ) → IsInProfile w → has_fault (fields_of w) Packing ≡ false
unfolding word_fault
no_bad_packing w inside = every_row (has_fault (fields_of w)) all_faults inside 5 Packing (omega arith)

pack_known : (f : Fields) → has_fault f Signal ≡ false → has_fault f Packing ≡ false → pack_mode f false ≢ 8
unfolding has_fault
pack_known f signal packing e = grind (arith, nat_tests)

-- a word of the profile is fit
pub fit_of_profile : (w : ℕ) → IsInProfile w → IsFit (fields_of w)
fit_of_profile w inside = record {
  unpack = field_below w 57 3;
  pack = field_below w 52 4;
  known = pack_known (fields_of w) (no_bad_signal w inside) (no_bad_packing w inside);
  add_a = field_below w 9 3;
  add_b = field_below w 6 3;
  mul_a = field_below w 3 3;
  mul_b = field_below w 0 3;
  raddr_b = field_below w 12 6;
  raddr_br = field_below w 45 5;
}

-- the fields of a word of the profile are fit
pub fit_of_fields : (f : Fields) (w : ℕ) → f ≡ fields_of w → IsInProfile w → IsFit f
fit_of_fields f w is inside = let P : Fields → Type 0 = IsFit in subst P (sym is) (fit_of_profile w inside)
