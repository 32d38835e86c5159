-- Sixteen digits fit 64 bits; the words of no lines.
use Rattle.std.proofs.Common.{◌≡◌, ◌∙◌, ℕ, ◌-◌, ◌^◌, ◌≤◌, List, [], ◌∷◌, length, take, Ok, refl, sym, arith}
use Rattle.std.specs.Prelude.{Result}
use Rattle.std.proofs.Math.Nat.{pow-le-pow_right}
use Rattle.std.proofs.lemmas.List.Folds.{length-prefix_len}
use Rattle.qpu_text.specs.Bytes.{is_hex_digit}
use Rattle.qpu_text.specs.Numbers.{hex_length, value_in}
use Rattle.qpu_text.specs.Lines.{lines}
use Rattle.qpu_text.proofs.LineLemmas.{lines_none}
use Rattle.qpu_text.proofs.NumberLemmas.{all_in_run, hex_value_below}
use Rattle.qpu_token.specs.declared.fault.AsmFault.{AsmFault}
use Rattle.qpu_asm.specs.HexLines.{words_behind}

-- so many digits fit 64 bits
pub digits_fit : (rest : List ℕ) → hex_length rest ≤ 16 → value_in 16 (take (hex_length rest) rest) ≤ 2 ^ 64 - 1
digits_fit rest few =
    let below = hex_value_below (take (hex_length rest) rest) (all_in_run is_hex_digit rest) in
    let long = length-prefix_len is_hex_digit rest in
    let most : 16 ^ hex_length rest ≤ 16 ^ 16 = pow-le-pow_right {n = 16} (omega arith) {i = hex_length rest} {j = 16} few in
    omega (arith, rw long at below, most)

-- where no line is left, the words are those so far
pub lines_done : {due : Result (List ℕ) AsmFault} (number : ℕ) (words rest : List ℕ) → length rest ≡ 0 → words_behind number words (lines rest) ≡ due → due ≡ Ok words
lines_done number words [] none h = sym h ∙ rw lines_none refl
lines_done number words (byte ∷ rest) none h = absurd (omega (arith, none))
