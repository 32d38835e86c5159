-- The lines of tokens that spell the disassembler's lines.
use Rattle.std.proofs.Common.{◌≡◌, ℕ, true, false, List, [], ◌∷◌, ◌++◌, Option, Some, None, refl, sym, ap, ◌∙◌, subst, append-nil, append_assoc}
use Rattle.std.specs.Prelude.{fold}
use Rattle.std.proofs.lemmas.List.Sums.{fold-append}
use Rattle.qpu_token.specs.declared.token.TokenKind.TheVariants as kind
use Rattle.qpu_token.specs.declared.token.Token.{Token}
use Rattle.qpu_expr.specs.Symbols.{symbol_of as seen_of}
use Rattle.qpu_expr.specs.LineTokens.{LineTokens}
use Rattle.qpu_expr.specs.Lines.{Lining, no_line, moved_to, ends, lined, lines_of}
use Rattle.qpu_line.specs.declared.symbol.Symbol.{Symbol}
use Rattle.qpu_line.specs.declared.symbol.Symbol.TheVariants as symbol
use Rattle.qpu_dis.specs.Tokens.{line_written, lines_written}
use Rattle.qpu_inverse.proofs.Bits.{AllUsed}
use Rattle.qpu_inverse.proofs.Readings.{token_of, no_end, an_end}
use Rattle.qpu_inverse.proofs.Spelling.{Spells, parts_of}

-- tokens that end no line

goes_on : (text : List ℕ) (l : Lining) (t : Token) → ends (seen_of text t) ≡ false
    → lined text l t ≡ record { lines = l.lines; tokens = l.tokens ++ t ∷ []; last = Some t }
goes_on text l t e = rw e refl

record Passed (l : Lining) (a : List Token) (r : Lining) : Type 0 where
  lines : r.lines ≡ l.lines
  tokens : r.tokens ≡ l.tokens ++ a

passed : (text : List ℕ) (ss : List Symbol) (a : List Token) (l : Lining) → AllUsed ss → Spells text ss a → Passed l a (fold (lined text) l a)
passed text [] [] l used h = record { lines = refl; tokens = sym (append-nil l.tokens) }
passed text [] (t ∷ a) l used h = absurd h
passed text (s ∷ ss) [] l used h = absurd h
passed text (s ∷ ss) (t ∷ a) l used h =
    let next : Lining = record { lines = l.lines; tokens = l.tokens ++ t ∷ []; last = Some t } in
    let p = passed text ss a next used.1 h.1 in
    subst (λ (z : Lining). Passed l (t ∷ a) (fold (lined text) z a)) (sym (goes_on text l t (no_end text s t used.0 (token_of text t s h.0))))
    (record { lines = p.lines; tokens = p.tokens ∙ append_assoc l.tokens (t ∷ []) a })

-- lines

pub record IsLineOf (text : List ℕ) (ss : List Symbol) (line : LineTokens) : Type 0 where
  pub spells : Spells text ss line.tokens
  pub ended : line.end.kind ≡ kind.LineEnd

abbrev pub AreLines : List ℕ → List ℕ → List LineTokens → Type 0
AreLines text [] [] = Unit {0}
AreLines text [] (line ∷ lines) = ⊥
AreLines text (w ∷ words) [] = ⊥
AreLines text (w ∷ words) (line ∷ lines) = IsLineOf text (line_written w) line × AreLines text words lines

moved_kind : (end : Token) (last : Option Token) → (moved_to end last).kind ≡ end.kind
moved_kind end None = refl
moved_kind end (Some t) = refl

ends_line : (text : List ℕ) (l : Lining) (t : Token) → ends (seen_of text t) ≡ true
    → lined text l t ≡ record { lines = l.lines ++ record { tokens = l.tokens; end = moved_to t l.last } ∷ []; tokens = []; last = None }
ends_line text l t e = rw e refl

record LinesFrom (text : List ℕ) (words : List ℕ) (l r : Lining) : Type 0 where
  more : List LineTokens
  lines : r.lines ≡ l.lines ++ more
  are : AreLines text words more

abbrev pub AllLinesUsed : List ℕ → Type 0
AllLinesUsed [] = Unit {0}
AllLinesUsed (w ∷ words) = AllUsed (line_written w) × AllLinesUsed words

-- a first line, whose tokens and end are known
one_more : (text : List ℕ) (w : ℕ) (words : List ℕ) (a b : List Token) (end : Token) (l : Lining) → l.tokens ≡ [] → AllUsed (line_written w)
    → Spells text (line_written w) a → end.kind ≡ kind.LineEnd
    → ((k : Lining) → k.tokens ≡ [] → LinesFrom text words k (fold (lined text) k b))
    → LinesFrom text (w ∷ words) l (fold (lined text) l (a ++ end ∷ b))
one_more text w words a b end l none used spells is later =
    let mid : Lining = fold (lined text) l a in
    let p : Passed l a mid = passed text (line_written w) a l used spells in
    let line : LineTokens = record { tokens = mid.tokens; end = moved_to end mid.last } in
    let next : Lining = record { lines = mid.lines ++ line ∷ []; tokens = []; last = None } in
    let q : LinesFrom text words next (fold (lined text) next b) = later next refl in
    let same : mid.tokens ≡ a = p.tokens ∙ ap (λ z. z ++ a) none in
    record {
      more = line ∷ q.more;
      lines =
          ap (λ (z : Lining). z.lines) (fold-append (lined text) l a (end ∷ b))
          ∙ (ap (λ (z : Lining). (fold (lined text) z b).lines) (ends_line text mid end (an_end text end is).end_is)
          ∙ (q.lines ∙ (append_assoc mid.lines (line ∷ []) q.more ∙ ap (λ z. z ++ (line ∷ q.more)) p.lines)));
      are = (record { spells = subst (Spells text (line_written w)) (sym same) spells; ended = moved_kind end mid.last ∙ is }, q.are);
    }

none_left : (text : List ℕ) (tokens : List Token) → Spells text [] tokens → tokens ≡ []
none_left text [] h = refl
none_left text (t ∷ ts) h = absurd h

-- the end of a first line, and the lines behind it
later_lines : (text : List ℕ) (w : ℕ) (words : List ℕ) (a back : List Token) (ys : List Symbol) (l : Lining) → l.tokens ≡ [] → AllUsed (line_written w)
    → Spells text (line_written w) a → Spells text (symbol.LineEnd ∷ ys) back
    → ((b : List Token) (k : Lining) → k.tokens ≡ [] → Spells text ys b → LinesFrom text words k (fold (lined text) k b))
    → LinesFrom text (w ∷ words) l (fold (lined text) l (a ++ back))
later_lines text w words a [] ys l none used spells h later = absurd h
later_lines text w words a (end ∷ b) ys l none used spells h later =
    one_more text w words a b end l none used spells (token_of text end symbol.LineEnd h.0) (λ k empty. later b k empty h.1)

lines_from : (text : List ℕ) (words : List ℕ) (tokens : List Token) (l : Lining) → l.tokens ≡ [] → AllLinesUsed words → Spells text (lines_written words) tokens
    → LinesFrom text words l (fold (lined text) l tokens)
unfolding lines_written
lines_from text [] tokens l none used h =
    subst (λ z. LinesFrom text [] l (fold (lined text) l z)) (sym (none_left text tokens h))
    (record { more = []; lines = sym (append-nil l.lines); are = tt })
lines_from text (w ∷ words) tokens l none used h =
    let again : Spells text (line_written w ++ (symbol.LineEnd ∷ lines_written words)) tokens =
    subst (λ z. Spells text z tokens) (append_assoc (line_written w) (symbol.LineEnd ∷ []) (lines_written words)) h in
    let p = parts_of text (line_written w) (symbol.LineEnd ∷ lines_written words) tokens again in
    subst (λ z. LinesFrom text (w ∷ words) l (fold (lined text) l z)) (sym p.same)
    (later_lines text w words p.front p.back (lines_written words) l none used.0 p.front_spells p.back_spells
    (λ b k empty spells. lines_from text words b k empty used.1 spells))

pub text_lines : (text : List ℕ) (words : List ℕ) (tokens : List Token) → AllLinesUsed words → Spells text (lines_written words) tokens
    → AreLines text words (lines_of text tokens)
unfolding lines_of
text_lines text words tokens used h =
    let p = lines_from text words tokens no_line refl used h in
    subst (AreLines text words) (sym p.lines) p.are
