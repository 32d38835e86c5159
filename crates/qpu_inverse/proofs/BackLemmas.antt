-- What is written of words is read again.
use Rattle.std.proofs.Common.{◌≡◌, ℕ, ◌≤◌, ◌<◌, ◌^◌, inl, inr, List, [], ◌∷◌, length, map, Result, Ok, Err, IfOk, IfErr, refl, ap, subst, sym, arith}
use Rattle.std.specs.Prelude.{All}
use Rattle.std.specs.Str.{IsUtf8}
use Rattle.std.proofs.lemmas.List.{length-map}
use Rattle.std.proofs.lemmas.List.Elements.{All-map}
use Rattle.qpu_word.specs.declared.word.Word.{Word}
use Rattle.qpu_token.specs.declared.token.TheConstants.{MOST_BYTES}
use Rattle.qpu_expr.specs.declared.limits.TheConstants.{MOST_WORDS}
use Rattle.qpu_token.specs.declared.fault.AsmKind.TheVariants.{Memory}
use Rattle.qpu_token.specs.declared.fault.AsmFault.{AsmFault}
use Rattle.qpu_asm.specs.Assembly.{IsAssembly, AreWords, IsItsFault}
use Rattle.qpu_dis.specs.Text.{disassembly}
use Rattle.qpu_inverse.proofs.Bytes.{text_utf8, text_short}
use Rattle.qpu_inverse.proofs.Law.{alone}

-- the lines of so many words
pub record AreLinesOf (words : List Word) (text : List ℕ) : Type 0 where
  pub same : text ≡ disassembly (map (λ word. word.0) words)
  pub few : length words ≤ MOST_WORDS
  pub bits : All (λ word. word.0 < 2 ^ 64) words

pub lines_utf8 : (words : List Word) (text : List ℕ) → AreLinesOf words text → IsUtf8 text
lines_utf8 words text h = subst IsUtf8 (sym h.same) (text_utf8 (map (λ word. word.0) words))

pub lines_fit : (words : List Word) (text : List ℕ) → AreLinesOf words text → length text ≤ MOST_BYTES
lines_fit words text h =
    let few = h.few in
    let size : length (map {B = ℕ} (λ (word : Word). word.0) words) ≡ length words = length-map words (λ (word : Word). word.0) in
    let short = text_short (map (λ word. word.0) words) in
    subst (λ z. length z ≤ MOST_BYTES) (sym h.same) (omega arith)

-- words with the same numbers

word_of : {x y : Word} → x.0 ≡ y.0 → x ≡ y
word_of same = λ i. record { 0 = same i }

same_words : (a b : List Word) → map {B = ℕ} (λ word. word.0) a ≡ map (λ word. word.0) b → a ≡ b
same_words [] [] e = refl
same_words [] (y ∷ b) e = cc
same_words (x ∷ a) [] e = cc
same_words (x ∷ a) (y ∷ b) e =
    let first : x.0 ≡ y.0 = cc in
    let later : map {B = ℕ} (λ word. word.0) a ≡ map (λ word. word.0) b = cc in
    let rest : a ≡ b = same_words a b later in
    let same : x ≡ y = word_of first in
    cc

oks : (a b : List ℕ) → ◌≡◌ {A = Result (List ℕ) AsmFault} (Ok a) (Ok b) → a ≡ b
oks a b e = cc

one_answer : (words : List Word) (text : List ℕ) (answer : Result (List ℕ) AsmFault) → AreLinesOf words text → IsAssembly text answer → answer ≡ Ok (map (λ word. word.0) words)
one_answer words text answer h is =
    let few = h.few in
    let size : length (map {B = ℕ} (λ (word : Word). word.0) words) ≡ length words = length-map words (λ (word : Word). word.0) in
    alone (map (λ word. word.0) words) answer (omega arith) (All-map (λ n. n < 2 ^ 64) (λ word. word.0) words h.bits) (subst (λ z. IsAssembly z answer) h.same is)

-- the answers

pub words_again : {V E : Type 0} (items : V → List Word) (words : List Word) (text : List ℕ) (r : Result V E) → AreLinesOf words text → IfOk r (λ v. AreWords text (items v))
    → IfOk r (λ v. items v ≡ words)
words_again items words text (Ok v) h are = same_words (items v) words (oks _ _ (one_answer words text _ h are))
words_again items words text (Err e) h are = tt

fault_by : (words : List Word) (text : List ℕ) (fault : AsmFault) → AreLinesOf words text → IsItsFault text fault → fault.kind ≡ Memory
fault_by words text fault h (inl none) = ap (λ (f : AsmFault). f.kind) none
fault_by words text fault h (inr is) = let never = one_answer words text (Err fault) h is in cc

pub only_memory : {V : Type 0} (words : List Word) (text : List ℕ) (r : Result V AsmFault) → AreLinesOf words text → IfErr r (λ fault. IsItsFault text fault)
    → IfErr r (λ fault. fault.kind ≡ Memory)
only_memory words text (Ok v) h is = tt
only_memory words text (Err fault) h is = fault_by words text fault h is
