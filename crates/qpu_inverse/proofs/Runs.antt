-- What the expansion leaves of the disassembler's lines.
use Rattle.std.proofs.Common.{◌≡◌, ℕ, ◌+◌, ◌-◌, ◌*◌, ◌≤◌, ◌<◌, true, false, List, [], ◌∷◌, ◌++◌, length, Option, Some, None, Ok, refl, ap, subst, sym, ◌∙◌, append-nil, append_assoc, arith}
use Rattle.std.specs.Prelude.{◌&&◌, codes, nat_le, not, is_some}
use Rattle.std.proofs.lemmas.Bool.Decides.{nat_tests}
use Rattle.std.proofs.lemmas.Option.{slice_get_past}
use Rattle.qpu_token.specs.declared.token.Token.{Token}
use Rattle.qpu_expr.specs.declared.limits.TheConstants.{MOST_WORDS}
use Rattle.qpu_expr.specs.LineTokens.{LineTokens}
use Rattle.qpu_expr.specs.StageParts.{Stage}
use Rattle.qpu_expr.specs.Operands.{is_name, is_dot, nothing_read, instruction_work as worked_out}
use Rattle.qpu_expr.specs.Calls.{text_deed, instruction_deed}
use Rattle.qpu_expr.specs.Lines.{lines_of, is_colon, word_head, head_of}
use Rattle.qpu_expr.specs.Stage.{too_long}
use Rattle.qpu_expr.specs.Deeds.{line_does, done_by}
use Rattle.qpu_expr.specs.Expansion.{RunResult, then, left_of, lines_run, run_within, expansion}
use Rattle.qpu_line.specs.declared.part.Part.{Part}
use Rattle.qpu_line.specs.declared.instruction.Instruction.{Instruction}
use Rattle.qpu_line.specs.declared.instruction.Instruction.TheVariants as instruction
use Rattle.qpu_line.specs.declared.name.Name.TheVariants as name
use Rattle.qpu_line.specs.declared.symbol.Symbol.{Symbol}
use Rattle.qpu_line.specs.declared.symbol.Symbol.TheVariants as symbol
use Rattle.qpu_line.specs.Canonical.{canonical_instruction}
use Rattle.qpu_line.specs.Named.{HasWord}
use Rattle.qpu_line.specs.Lines.{Bit, source_a, source_b, add_bits, mul_bits, signal_bits, other_bits, units_bits, load_bits, semaphore_bits, branch_bits, line_bits, symbols_of, line_symbols}
use Rattle.qpu_line.proofs.EachLaw.{each_named}
use Rattle.qpu_dis.specs.Tokens.{bits_written, written_by, line_written, lines_written}
use Rattle.qpu_inverse.proofs.Readings.{token_of, Looks, a_name, a_dot}
use Rattle.qpu_inverse.proofs.Spelling.{Spells, spells_length}
use Rattle.qpu_inverse.proofs.Bits.{symbols_written, AllUsed, bits_used}
use Rattle.qpu_inverse.proofs.Lines.{IsLineOf, AreLines, AllLinesUsed, text_lines}
use Rattle.qpu_inverse.proofs.Operands.{clean}
use Rattle.qpu_inverse.proofs.Pieces.{BeginsName, Ended, Works}
use Rattle.qpu_inverse.proofs.Tails.{line_works}
use Rattle.qpu_inverse.proofs.Forms.{line_section}
use Rattle.qpu_inverse.proofs.Lengths.{line_short}
use Rattle.qpu_inverse.proofs.Heading.{name_in, word_heads, no_label}

-- where lines were left, nothing was named, and as many lines were reached as words given
abbrev pub stage : List (List Token) → ℕ → ℕ → Stage
stage lines tokens k = record { lines = lines; labels = []; sets = []; macros = []; reached = k; tokens = tokens; words = k }

-- no limit is passed: 65,536 lines, 4,096 words, and 1,048,576 tokens
short_enough : (ls : List (List Token)) (n k : ℕ) (line : LineTokens) → k < 4096 → length line.tokens ≤ 1048576 - n → too_long (stage ls n k) line true ≡ None
unfolding too_long
short_enough ls n k line few small =
    let lines : nat_le 65536 k ≡ false = grind (arith, nat_tests, few) in
    let words : nat_le 4096 k ≡ false = grind (arith, nat_tests, few) in
    rw (lines, words, slice_get_past line.tokens (1048576 - n) small) refl

-- a line of an instruction
instruction_line : (text : List ℕ) (run : List LineTokens → Stage → RunResult) (t end : Token) (ts out : List Token) (lines : List LineTokens) (ls : List (List Token)) (n k : ℕ)
    → is_name text t ≡ true → is_dot text t ≡ false → is_colon text t ≡ false → worked_out text [] (t ∷ ts) ≡ clean out
    → too_long (stage ls n k) (record { tokens = t ∷ ts; end = end }) true ≡ None
    → lines_run text run false 0 (record { tokens = t ∷ ts; end = end } ∷ lines) (stage ls n k)
    ≡ lines_run text run false 0 lines (stage (ls ++ (out ++ end ∷ []) ∷ []) (n + length (t ∷ ts)) (k + 1))
unfolding line_does head_of text_deed instruction_deed done_by
instruction_line text run t end ts out lines ls n k name dot colon works long = rw (no_label text t ts colon, dot, colon, name, works, long, no_label text t ts colon) refl

-- a line of a word
word_line : (text : List ℕ) (run : List LineTokens → Stage → RunResult) (t end : Token) (ts : List Token) (lines : List LineTokens) (ls : List (List Token)) (n k : ℕ)
    → is_colon text t ≡ false → head_of text (t ∷ ts) ≡ word_head (codes "word")
    → too_long (stage ls n k) (record { tokens = t ∷ ts; end = end }) true ≡ None
    → lines_run text run false 0 (record { tokens = t ∷ ts; end = end } ∷ lines) (stage ls n k)
    ≡ lines_run text run false 0 lines (stage (ls ++ ((t ∷ ts) ++ end ∷ []) ∷ []) (n + length (t ∷ ts)) (k + 1))
unfolding line_does done_by word_head
word_line text run t end ts lines ls n k colon head long = rw (no_label text t ts colon, head, long, no_label text t ts colon) refl

-- the same by the lines' symbols

-- a line is left with such symbols, and the lines behind it are run
record Stepped (text : List ℕ) (run : List LineTokens → Stage → RunResult) (ss : List Symbol) (line : LineTokens) (lines : List LineTokens) (ls : List (List Token)) (n k : ℕ) : Type 0 where
  out : List Token
  spells : Spells text ss out
  runs : lines_run text run false 0 (line ∷ lines) (stage ls n k) ≡ lines_run text run false 0 lines (stage (ls ++ (out ++ line.end ∷ []) ∷ []) (n + length line.tokens) (k + 1))

-- the line of an instruction begins with a name
line_begins : (i : Instruction) → BeginsName (symbols_written (line_bits i))
unfolding line_bits units_bits load_bits semaphore_bits branch_bits
line_begins (instruction.Both u) = by_add u.add
  where
    by_add : (o : Option Part) → BeginsName (symbols_written (add_bits u.sets o ++ mul_bits (u.sets && not (is_some o)) u.mul ++ signal_bits u.signal ++ other_bits name.ReadA source_a u.other_a ++ other_bits name.ReadB source_b u.other_b))
    by_add None = tt
    by_add (Some p) = tt
line_begins (instruction.Load l) = tt
line_begins (instruction.Semaphore s) = tt
line_begins (instruction.Branch b) = tt

first_name : (text : List ℕ) (ss : List Symbol) (t : Token) (ts : List Token) → BeginsName ss → Spells text ss (t ∷ ts) → Looks text t true false false false
first_name text (symbol.Name n ∷ ss) t ts begins h = a_name text t (token_of text t (symbol.Name n) h.0)
first_name text _ t ts begins h = absurd begins

no_tokens : (text : List ℕ) (ss : List Symbol) → BeginsName ss → Spells text ss [] → ⊥
no_tokens text (symbol.Name n ∷ ss) begins h = h
no_tokens text _ begins h = absurd begins

worked : (text : List ℕ) (bits : List Bit) (tokens : List Token) → Works text true bits → Spells text (symbols_written bits) tokens → Ended text (symbols_of bits) [] (worked_out text [] tokens)
unfolding worked_out
worked text bits tokens works h = works.works nothing_read refl [] tokens h

instruction_step : (text : List ℕ) (run : List LineTokens → Stage → RunResult) (i : Instruction) (tokens : List Token) (end : Token) (lines : List LineTokens) (ls : List (List Token)) (n k : ℕ)
    → HasWord i → Spells text (symbols_written (line_bits i)) tokens → too_long (stage ls n k) (record { tokens = tokens; end = end }) true ≡ None
    → Stepped text run (line_symbols i) (record { tokens = tokens; end = end }) lines ls n k
instruction_step text run i [] end lines ls n k has h long = absurd (no_tokens text (symbols_written (line_bits i)) (line_begins i) h)
instruction_step text run i (t ∷ ts) end lines ls n k has h long =
    let looks = first_name text (symbols_written (line_bits i)) t ts (line_begins i) h in
    let done = worked text (line_bits i) (t ∷ ts) (line_works text (line_bits i) (line_section text i has)) h in
    record {
      out = done.tokens;
      spells = done.spells;
      runs = instruction_line text run t end ts done.tokens lines ls n k looks.name_is looks.dot_is looks.colon_is done.is long;
    }

word_step : (text : List ℕ) (run : List LineTokens → Stage → RunResult) (w : ℕ) (tokens : List Token) (end : Token) (lines : List LineTokens) (ls : List (List Token)) (n k : ℕ)
    → Spells text (symbol.Dot ∷ symbol.Name name.Word ∷ symbol.Number w ∷ []) tokens → too_long (stage ls n k) (record { tokens = tokens; end = end }) true ≡ None
    → Stepped text run (symbol.Dot ∷ symbol.Name name.Word ∷ symbol.Number w ∷ []) (record { tokens = tokens; end = end }) lines ls n k
word_step text run w [] end lines ls n k h long = absurd h
word_step text run w (t ∷ []) end lines ls n k h long = absurd h.1
word_step text run w (t ∷ u ∷ ts) end lines ls n k h long =
    let dot = a_dot text t (token_of text t symbol.Dot h.0) in
    let word = a_name text u (token_of text u (symbol.Name name.Word) h.1.0) in
    record {
      out = t ∷ u ∷ ts;
      spells = h;
      runs = word_line text run t end (u ∷ ts) lines ls n k dot.colon_is (word_heads text t u ts dot.dot_is word.name_is (name_in text u name.Word h.1.0)) long;
    }

-- the symbols of a line once its numbers are worked out
abbrev pub worked_by : ℕ → Option Instruction → List Symbol
worked_by w None = symbol.Dot ∷ symbol.Name name.Word ∷ symbol.Number w ∷ []
worked_by w (Some i) = line_symbols i

step_by : (text : List ℕ) (run : List LineTokens → Stage → RunResult) (w : ℕ) (o : Option Instruction) (line : LineTokens) (lines : List LineTokens) (ls : List (List Token)) (n k : ℕ)
    → canonical_instruction w ≡ o → Spells text (written_by w o) line.tokens → too_long (stage ls n k) line true ≡ None
    → Stepped text run (worked_by w o) line lines ls n k
unfolding bits_written
step_by text run w None line lines ls n k is h long = word_step text run w line.tokens line.end lines ls n k h long
step_by text run w (Some i) line lines ls n k is h long = instruction_step text run i line.tokens line.end lines ls n k (each_named w i is) h long

-- what is left of lines

pub record IsOut (text : List ℕ) (w : ℕ) (out : List Token) : Type 0 where
  pub tokens : List Token
  pub end : Token
  pub same : out ≡ tokens ++ end ∷ []
  pub spells : Spells text (worked_by w (canonical_instruction w)) tokens

abbrev pub AreOuts : List ℕ → List ℕ → List (List Token) → Type 0
AreOuts text [] [] = Unit {0}
AreOuts text [] (out ∷ outs) = ⊥
AreOuts text (w ∷ words) [] = ⊥
AreOuts text (w ∷ words) (out ∷ outs) = IsOut text w out × AreOuts text words outs

record Ran (text : List ℕ) (words : List ℕ) (ls : List (List Token)) (r : RunResult) : Type 0 where
  outs : List (List Token)
  are : AreOuts text words outs
  left : then r (λ s. Ok (left_of s)) ≡ Ok (record { lines = ls ++ outs; labels = [] })

ran_on : (text : List ℕ) (w : ℕ) (words : List ℕ) (ls : List (List Token)) (out : List Token) (r : RunResult) → IsOut text w out → Ran text words (ls ++ out ∷ []) r → Ran text (w ∷ words) ls r
ran_on text w words ls out r is p = record {
  outs = out ∷ p.outs;
  are = (is, p.are);
  left = p.left ∙ ap (λ z. Ok (record { lines = z; labels = [] })) (append_assoc ls (out ∷ []) p.outs);
}

tokens_short : (text : List ℕ) (w : ℕ) (line : LineTokens) → IsLineOf text (line_written w) line → length line.tokens ≤ 128
tokens_short text w line is =
    let same = spells_length text (line_written w) line.tokens is.spells in
    let short = line_short w in
    omega arith

spelled_by : (text : List ℕ) (w : ℕ) (line : LineTokens) → IsLineOf text (line_written w) line → Spells text (written_by w (canonical_instruction w)) line.tokens
unfolding line_written
spelled_by text w line is = is.spells

lines_ran : (text : List ℕ) (run : List LineTokens → Stage → RunResult) (words : List ℕ) (lines : List LineTokens) (ls : List (List Token)) (n k : ℕ)
    → AreLines text words lines → k + length words ≤ MOST_WORDS → n ≤ 128 * k → Ran text words ls (lines_run text run false 0 lines (stage ls n k))
lines_ran text run [] [] ls n k are few small =
    record { outs = []; are = tt; left = ap (λ z. Ok (record { lines = z; labels = [] })) (sym (append-nil ls)) }
lines_ran text run [] (line ∷ lines) ls n k are few small = absurd are
lines_ran text run (w ∷ words) [] ls n k are few small = absurd are
lines_ran text run (w ∷ words) (line ∷ lines) ls n k are few small =
    let one : IsLineOf text (line_written w) line = are.0 in
    let size : length line.tokens ≤ 128 = tokens_short text w line one in
    let long : too_long (stage ls n k) line true ≡ None = short_enough ls n k line (omega arith) (omega arith) in
    let p = step_by text run w (canonical_instruction w) line lines ls n k refl (spelled_by text w line one) long in
    let out : IsOut text w (p.out ++ line.end ∷ []) = record { tokens = p.out; end = line.end; same = refl; spells = p.spells } in
    subst (Ran text (w ∷ words) ls) (sym p.runs)
    (ran_on text w words ls (p.out ++ line.end ∷ []) _ out
    (lines_ran text run words lines (ls ++ (p.out ++ line.end ∷ []) ∷ []) (n + length line.tokens) (k + 1) are.1 (omega arith) (omega arith)))

-- a whole text

line_used_by : (w : ℕ) (o : Option Instruction) → AllUsed (written_by w o)
unfolding bits_written
line_used_by w None = (tt, (tt, (tt, tt)))
line_used_by w (Some i) = bits_used (line_bits i)

lines_used : (words : List ℕ) → AllLinesUsed words
unfolding line_written
lines_used [] = tt
lines_used (w ∷ words) = (line_used_by w (canonical_instruction w), lines_used words)

-- what is left of a text: lines with such symbols, and no label
pub record TextLeft (text : List ℕ) (words : List ℕ) (tokens : List Token) : Type 0 where
  pub outs : List (List Token)
  pub are : AreOuts text words outs
  pub left : expansion text tokens ≡ Ok (record { lines = outs; labels = [] })

pub text_left : (text : List ℕ) (words : List ℕ) (tokens : List Token) → length words ≤ MOST_WORDS → Spells text (lines_written words) tokens → TextLeft text words tokens
unfolding expansion
text_left text words tokens few h =
    let p = lines_ran text (run_within text 15) words (lines_of text tokens) [] 0 0 (text_lines text words tokens (lines_used words) h) (omega arith) (omega arith) in
    record { outs = p.outs; are = p.are; left = p.left }
