-- The law.
use Rattle.std.proofs.Common.{◌≡◌, ℕ, List, [], ◌<◌, ◌≤◌, ◌^◌, length, Result, Ok, subst}
use Rattle.std.specs.Prelude.{All}
use Rattle.qpu_token.specs.declared.fault.AsmFault.{AsmFault}
use Rattle.qpu_token.specs.declared.token.Token.{Token}
use Rattle.qpu_expr.specs.declared.limits.TheConstants.{MOST_WORDS}
use Rattle.qpu_asm.specs.Assembly.{IsAssembly, assembled, labels_of, encoding}
use Rattle.qpu_asm.proofs.OneAssembly.{one_assembly}
use Rattle.qpu_dis.specs.Text.{disassembly}
use Rattle.qpu_dis.specs.Tokens.{lines_written}
use Rattle.qpu_dis.proofs.LineLaw.{lines_read}
use Rattle.qpu_inverse.proofs.Spelling.{Spells, spells_of}
use Rattle.qpu_inverse.proofs.Runs.{text_left}
use Rattle.qpu_inverse.proofs.Words.{words_left}

assembled_words : (text : List ℕ) (words : List ℕ) (tokens : List Token) → length words ≤ MOST_WORDS → All (λ w. w < 2 ^ 64) words
    → Spells text (lines_written words) tokens → assembled text tokens ≡ Ok words
unfolding encoding
assembled_words text words tokens few low h =
    let p = text_left text words tokens few h in
    rw p.left (words_left text (labels_of text []) words p.outs [] p.are low)

pub come_back : (words : List ℕ) → length words ≤ MOST_WORDS → All (λ w. w < 2 ^ 64) words → IsAssembly (disassembly words) (Ok words)
come_back words few low =
    let r = lines_read words low in
    IsAssembly.read r.are (assembled_words (disassembly words) words r.tokens few low (spells_of (disassembly words) (lines_written words) r.tokens r.symbols_are))

pub alone : (words : List ℕ) (answer : Result (List ℕ) AsmFault) → length words ≤ MOST_WORDS → All (λ w. w < 2 ^ 64) words
    → IsAssembly (disassembly words) answer → answer ≡ Ok words
alone words answer few low is = one_assembly (disassembly words) answer (Ok words) is (come_back words few low)

oks : (a b : List ℕ) → ◌≡◌ {A = Result (List ℕ) AsmFault} (Ok a) (Ok b) → a ≡ b
oks a b e = cc

-- so a text has the words of one program alone
pub same_words : (a b : List ℕ) → length a ≤ MOST_WORDS → length b ≤ MOST_WORDS → All (λ w. w < 2 ^ 64) a → All (λ w. w < 2 ^ 64) b → disassembly a ≡ disassembly b → a ≡ b
same_words a b few_a few_b low_a low_b same = oks a b (alone b (Ok a) few_b low_b (subst (λ text. IsAssembly text (Ok a)) same (come_back a few_a low_a)))
