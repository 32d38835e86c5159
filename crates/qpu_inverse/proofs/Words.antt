-- The words of what the expansion leaves of the disassembler's lines.
use Rattle.std.proofs.Common.{◌≡◌, ℕ, suc, ◌-◌, ◌<◌, ◌^◌, List, [], ◌∷◌, ◌++◌, length, take, map, Option, Some, None, Result, Ok, refl, ap, subst, sym, ◌∙◌, append-nil, append_assoc, arith}
use Rattle.std.specs.Prelude.{All}
use Rattle.std.proofs.lemmas.List.{length-append}
use Rattle.std.proofs.Math.Seq.{take-append_seam}
use Rattle.qpu_token.specs.declared.token.Token.{Token}
use Rattle.qpu_token.specs.declared.fault.AsmFault.{AsmFault}
use Rattle.qpu_line.specs.declared.instruction.Instruction.{Instruction}
use Rattle.qpu_line.specs.declared.symbol.Symbol.{Symbol}
use Rattle.qpu_line.specs.Canonical.{canonical_instruction}
use Rattle.qpu_line.proofs.EachLaw.{each_named}
use Rattle.qpu_line.proofs.WordLaw.{word_back}
use Rattle.qpu_asm.specs.Placed.{Labels, placed_token}
use Rattle.qpu_asm.specs.Laws.{symbols_of}
use Rattle.qpu_asm.specs.Assembly.{and_then, closing_token, line_at, word_behind, words_of_lines}
use Rattle.qpu_asm.proofs.AgainLaw.{canonical_read}
use Rattle.qpu_asm.proofs.RawLaw.{raw_law}
use Rattle.qpu_inverse.proofs.Spelling.{Spells}
use Rattle.qpu_inverse.proofs.Runs.{worked_by, IsOut, AreOuts}
use Rattle.qpu_inverse.proofs.Placing.{same_symbol}

-- the tokens of a line without its end
without_end : (ts : List Token) (end : Token) → take (length (ts ++ end ∷ []) - 1) (ts ++ end ∷ []) ≡ ts
without_end ts end =
    let size : length (ts ++ end ∷ []) - 1 ≡ length ts = omega (arith, length-append ts (end ∷ [])) in
    ap (λ z. take z (ts ++ end ∷ [])) size ∙ take-append_seam ts (end ∷ [])

placed_as : (text : List ℕ) (labels : Labels) (ss : List Symbol) (ts : List Token) → Spells text ss ts → symbols_of (map (placed_token text labels) ts) ≡ ss
unfolding placed_token
placed_as text labels [] [] h = refl
placed_as text labels [] (t ∷ ts) h = absurd h
placed_as text labels (s ∷ ss) [] h = absurd h
placed_as text labels (s ∷ ss) (t ∷ ts) h =
    let first = same_symbol text t ∙ h.0 in
    let later = placed_as text labels ss ts h.1 in
    rw (first, later) refl

-- one line gives its word
line_word : (text : List ℕ) (labels : Labels) (w : ℕ) (o : Option Instruction) (ts : List Token) (end : Token) (words : List ℕ) → w < 2 ^ 64 → canonical_instruction w ≡ o
    → Spells text (worked_by w o) ts → word_behind text labels (ts ++ end ∷ []) words ≡ Ok (words ++ w ∷ [])
unfolding line_at
line_word text labels w None ts end words low is h =
    rw (without_end ts end, (raw_law (length words) (closing_token (ts ++ end ∷ [])) (map (placed_token text labels) ts) w).1 (placed_as text labels (worked_by w None) ts h)) refl
line_word text labels w (Some i) ts end words low is h =
    rw (
      without_end ts end,
      canonical_read (length words) (closing_token (ts ++ end ∷ [])) (map (placed_token text labels) ts) i (each_named w i is) (placed_as text labels (worked_by w (Some i)) ts h),
      word_back w i low is,
    )
    refl

-- all lines give theirs, in order

head : (P : ℕ → Type 0) (w : ℕ) (words : List ℕ) → All P (w ∷ words) → P w
head P w words all = all 0 w (omega arith)

rest : (P : ℕ → Type 0) (w : ℕ) (words : List ℕ) → All P (w ∷ words) → All P words
rest P w words all = λ k d low. all (suc k) d (omega arith)

abbrev IsWord : ℕ → Type 0
IsWord w = w < 2 ^ 64

more_words : (text : List ℕ) (labels : Labels) (w : ℕ) (out : List Token) (lines : List (List Token)) (words : List ℕ) → word_behind text labels out words ≡ Ok (words ++ w ∷ [])
    → words_of_lines text labels words (out ∷ lines) ≡ words_of_lines text labels (words ++ w ∷ []) lines
more_words text labels w out lines words e = ap (λ (r : Result (List ℕ) AsmFault). and_then r (λ more. words_of_lines text labels more lines)) e

pub words_left : (text : List ℕ) (labels : Labels) (words : List ℕ) (outs : List (List Token)) (before : List ℕ) → AreOuts text words outs → All (λ w. w < 2 ^ 64) words
    → words_of_lines text labels before outs ≡ Ok (before ++ words)
words_left text labels [] [] before are low = ap (λ (z : List ℕ). Ok z) (sym (append-nil before))
words_left text labels [] (out ∷ outs) before are low = absurd are
words_left text labels (w ∷ words) [] before are low = absurd are
words_left text labels (w ∷ words) (out ∷ outs) before are low =
    let is : IsOut text w out = are.0 in
    let one : word_behind text labels out before ≡ Ok (before ++ w ∷ []) =
    subst (λ z. word_behind text labels z before ≡ Ok (before ++ w ∷ [])) (sym is.same)
    (line_word text labels w (canonical_instruction w) is.tokens is.end before (head IsWord w words low) refl is.spells) in
    more_words text labels w out outs before one
    ∙ (words_left text labels words outs (before ++ w ∷ []) are.1 (rest IsWord w words low) ∙ ap (λ (z : List ℕ). Ok z) (append_assoc before (w ∷ []) words))
