-- A text is refused with exactly the fault that its tokens, its expansion or its lines have first.
use Rattle.std.proofs.Common.{◌≡◌, ◌↔◌, ℕ, List, [], ◌∷◌, ◌++◌, length, Result, Ok, Err, refl, sym, subst, ap, ◌∙◌, append-nil, append_assoc}
use Rattle.qpu_token.specs.declared.token.Token.{Token}
use Rattle.qpu_token.specs.declared.fault.AsmFault.{AsmFault}
use Rattle.qpu_token.specs.Tokens.{AreTokens}
use Rattle.qpu_expr.specs.Expansion.{Left, expansion}
use Rattle.qpu_asm.specs.declared.line.Line.{Line}
use Rattle.qpu_asm.specs.Placed.{Labels}
use Rattle.qpu_asm.specs.reader.LinesRead.{word_in}
use Rattle.qpu_asm.specs.Assembly.{and_then, closing_token, line_at, words_of_lines, encoding, labels_of, IsAssembly}
use Rattle.qpu_asm.specs.SpelledTexts.{placed_line, SpellWords}
use Rattle.qpu_asm.specs.Faults.{IsFirstFault}
use Rattle.qpu_asm.specs.RefusedTexts.{IsFirstRefused, RefusesText}
use Rattle.qpu_asm.specs.RefusedTexts.RefusesText.{of_tokens, of_expansion, of_line}
use Rattle.qpu_asm.proofs.FaultLines.{faults_law}
use Rattle.qpu_asm.proofs.OneAssembly.{Known, known}
use Rattle.qpu_asm.proofs.OneAssembly.Known.{by_fault, by_tokens}
use Rattle.qpu_asm.proofs.TextLaw.{line_spells, line_has, one_more, line_step}

same_fault : {A : Type 0} (f g : AsmFault) → ◌≡◌ {A = Result A AsmFault} (Err f) (Err g) → f ≡ g
same_fault f g e = cc

-- the first line that is refused

line_refuses : (text : List ℕ) (labels : Labels) (at : ℕ) (line : List Token) (fault : AsmFault) → line_at text labels at line ≡ Err fault → IsFirstFault (closing_token line) (placed_line text labels line) fault
unfolding line_at
line_refuses text labels at line fault e = (faults_law at (closing_token line) (placed_line text labels line) fault).0 e

refuses_by : (text : List ℕ) (labels : Labels) (done : List ℕ) (line : List Token) (lines : List (List Token)) (fault : AsmFault) (r : Result Line AsmFault) → line_at text labels (length done) line ≡ r
    → and_then (and_then r (λ l. Ok (done ++ word_in l ∷ []))) (λ more. words_of_lines text labels more lines) ≡ Err fault
    → ((word : ℕ) → words_of_lines text labels (done ++ word ∷ []) lines ≡ Err fault → IsFirstRefused text labels (length (done ++ word ∷ [])) lines fault) → IsFirstRefused text labels (length done) (line ∷ lines) fault
refuses_by text labels done line lines fault (Err f) e is more =
    let same : f ≡ fault = same_fault f fault is in
    record { before = []; line = line; after = lines; words = []; whole = refl; spell = tt; faulty = subst (IsFirstFault (closing_token line) (placed_line text labels line)) same (line_refuses text labels (length done) line f e) }
refuses_by text labels done line lines fault (Ok l) e is more =
    let s = more (word_in l) is in
    record {
      before = line ∷ s.before;
      line = s.line;
      after = s.after;
      words = word_in l ∷ s.words;
      whole = ap (λ (z : List (List Token)). line ∷ z) s.whole;
      spell = (line_spells text labels (length done) line l e, subst (λ (z : ℕ). SpellWords text labels z s.before s.words) (one_more done (word_in l)) s.spell);
      faulty = s.faulty;
    }

none_refused : (words : List ℕ) (fault : AsmFault) → ◌≡◌ {A = Result (List ℕ) AsmFault} (Ok words) (Err fault) → ⊥
none_refused words fault e = cc

lines_refuse : (text : List ℕ) (labels : Labels) (done : List ℕ) (lines : List (List Token)) (fault : AsmFault) → words_of_lines text labels done lines ≡ Err fault → IsFirstRefused text labels (length done) lines fault
lines_refuse text labels done [] fault e = absurd (none_refused done fault e)
lines_refuse text labels done (line ∷ lines) fault e =
    refuses_by text labels done line lines fault (line_at text labels (length done) line) refl e (λ word f. lines_refuse text labels (done ++ word ∷ []) lines fault f)

-- lines behind lines that have words

lines_go : (text : List ℕ) (labels : Labels) (done : List ℕ) (before rest : List (List Token)) (words : List ℕ) → SpellWords text labels (length done) before words
    → words_of_lines text labels done (before ++ rest) ≡ words_of_lines text labels (done ++ words) rest
lines_go text labels done [] rest [] spell = ap (λ (z : List ℕ). words_of_lines text labels z rest) (sym (append-nil done))
lines_go text labels done [] rest (word ∷ words) spell = absurd spell
lines_go text labels done (line ∷ before) rest [] spell = absurd spell
lines_go text labels done (line ∷ before) rest (word ∷ words) spell =
    let h = line_has text labels (length done) line word spell.0 in
    let more : SpellWords text labels (length (done ++ word ∷ [])) before words = subst (λ (z : ℕ). SpellWords text labels z before words) (sym (one_more done word)) spell.1 in
    line_step text labels done (before ++ rest) (line_at text labels (length done) line) h.said word h.is h.word_is
    ∙ (lines_go text labels (done ++ word ∷ []) before rest words more ∙ ap (λ (z : List ℕ). words_of_lines text labels z rest) (append_assoc done (word ∷ []) words))

line_stops : (text : List ℕ) (labels : Labels) (done : List ℕ) (line : List Token) (lines : List (List Token)) (fault : AsmFault) → IsFirstFault (closing_token line) (placed_line text labels line) fault
    → words_of_lines text labels done (line ∷ lines) ≡ Err fault
unfolding line_at
line_stops text labels done line lines fault faulty = rw ((faults_law (length done) (closing_token line) (placed_line text labels line) fault).1 faulty) refl

-- a text

refused_by : (text : List ℕ) (tokens : List Token) (fault : AsmFault) (r : Result Left AsmFault) → AreTokens text tokens → expansion text tokens ≡ r → and_then r (encoding text) ≡ Err fault → RefusesText text fault
unfolding encoding
refused_by text tokens fault (Err f) are e is = of_expansion are (e ∙ ap (λ (z : AsmFault). Err z) (same_fault f fault is))
refused_by text tokens fault (Ok left) are e is = of_line are e (lines_refuse text (labels_of text left.labels) [] left.lines fault is)

known_refused : (text : List ℕ) (fault : AsmFault) (r : Result (List ℕ) AsmFault) → r ≡ Err fault → Known text r → RefusesText text fault
known_refused text fault r e (by_fault f is first) = subst (RefusesText text) (same_fault f fault (sym is ∙ e)) (of_tokens first.0 first.1)
known_refused text fault r e (by_tokens tokens are is) = refused_by text tokens fault (expansion text tokens) are refl (is ∙ e)

text_refused : (text : List ℕ) (fault : AsmFault) → RefusesText text fault → IsAssembly text (Err fault)
unfolding encoding
text_refused text fault (of_tokens first some) = IsAssembly.faulty first some
text_refused text fault (of_expansion are e) = IsAssembly.read are (ap (λ (r : Result Left AsmFault). and_then r (encoding text)) e)
text_refused text fault (of_line {left = left} are e s) =
    let labels : Labels = labels_of text left.labels in
    let go : words_of_lines text labels [] left.lines ≡ Err fault =
    ap (words_of_lines text labels []) s.whole ∙ (lines_go text labels [] s.before (s.line ∷ s.after) s.words s.spell ∙ line_stops text labels s.words s.line s.after fault s.faulty) in
    IsAssembly.read are (ap (λ (r : Result Left AsmFault). and_then r (encoding text)) e ∙ go)

pub refused_law : (text : List ℕ) (fault : AsmFault) → IsAssembly text (Err fault) ↔ RefusesText text fault
refused_law text fault = (λ a. known_refused text fault (Err fault) refl (known text (Err fault) a), text_refused text fault)
