-- What the expansion makes of a line piece by piece: what stands between two signs `,` or `;`.
use Rattle.std.proofs.Common.{◌≡◌, ℕ, Bool, true, false, List, [], ◌∷◌, ◌++◌, None, refl, ap, subst, sym, ◌∙◌, append-nil, append_assoc}
use Rattle.std.specs.Prelude.{codes, fold}
use Rattle.std.proofs.lemmas.List.Sums.{fold-append}
use Rattle.qpu_token.specs.declared.token.TokenKind.TheVariants as kind
use Rattle.qpu_token.specs.declared.token.Token.{Token}
use Rattle.qpu_expr.specs.Symbols.{symbol_of as seen_of, sign_of as sign_seen}
use Rattle.qpu_expr.specs.Operands.{separates, begins_with_name, Working, nothing_read, Worked, put_tokens, put_piece, put_operand, worked_on, all_worked}
use Rattle.qpu_line.specs.declared.symbol.Symbol.{Symbol}
use Rattle.qpu_line.specs.declared.symbol.Symbol.TheVariants as symbol
use Rattle.qpu_line.specs.Lines.{Bit, Comma, Semicolon, Space, symbols_of}
use Rattle.qpu_dis.specs.Tokens.{symbol_of}
use Rattle.qpu_inverse.proofs.Readings.{IsSign, token_of, inside, a_name}
use Rattle.qpu_inverse.proofs.Spelling.{Spells, parts_of, spells_both}
use Rattle.qpu_inverse.proofs.Bits.{symbols_written, written_append, symbols_append, AllInside}
use Rattle.qpu_inverse.proofs.Operands.{clean, Puts, IsOperand}

-- how tokens stand: as the beginning of a part, or as an operand behind a sign `,`. The second is told by
-- an example, the end of the line `a,`

a_word : Token
a_word = record { kind = kind.Name; from = 0; to = 1; line = 1; column = 1 }

a_sign : Token
a_sign = record { kind = kind.Punct; from = 1; to = 2; line = 1; column = 2 }

pub operand_due : Working
operand_due = fold (worked_on (codes "a,") []) nothing_read (a_word ∷ a_sign ∷ [])

abbrev pub Stands : Bool → Working → Type 0
Stands true w = w.standing ≡ nothing_read.standing
Stands false w = w.standing ≡ operand_due.standing

-- a piece

abbrev pub BeginsName : List Symbol → Type 0
BeginsName (symbol.Name n ∷ ss) = Unit {0}
BeginsName _ = ⊥

pub record IsPiece (text : List ℕ) (first : Bool) (bits : List Bit) : Type 0 where
  pub puts : (w : Working) → Stands first w → (ts : List Token) → Spells text (symbols_written bits) ts → Puts text (symbols_of bits) (put_piece text [] w.standing ts)
  pub inside : AllInside (symbols_written bits)
  pub begins : first ≡ true → BeginsName (symbols_written bits)

-- an operand behind a sign `,`
pub later_piece : (text : List ℕ) (bits : List Bit) → IsOperand text bits → IsPiece text false bits
unfolding a_word a_sign operand_due seen_of sign_seen put_operand
later_piece text bits o = record {
  puts = λ w stands ts h. let p = o.puts ts h in record { tokens = p.tokens; spells = p.spells; puts = λ xs. rw stands (p.puts xs) };
  inside = o.inside;
  begins = λ e. absurd (cc);
}

-- tokens one after another

abbrev start : Working → List Token → Working
start w xs = record { standing = w.standing; piece = []; done = clean xs }

inside_step : (text : List ℕ) (w : Working) (t : Token) → separates (seen_of text t) ≡ None
    → worked_on text [] w t ≡ record { standing = w.standing; piece = w.piece ++ t ∷ []; done = w.done }
inside_step text w t e = rw e refl

gathered : (text : List ℕ) (w : Working) (ss : List Symbol) (ts : List Token) → AllInside ss → Spells text ss ts
    → fold (worked_on text []) w ts ≡ record { standing = w.standing; piece = w.piece ++ ts; done = w.done }
gathered text w [] [] all h = ap (λ z. record { standing = w.standing; piece = z; done = w.done }) (sym (append-nil w.piece))
gathered text w [] (t ∷ ts) all h = absurd h
gathered text w (s ∷ ss) [] all h = absurd h
gathered text w (s ∷ ss) (t ∷ ts) all h =
    let next : Working = record { standing = w.standing; piece = w.piece ++ t ∷ []; done = w.done } in
    ap (λ z. fold (worked_on text []) z ts) (inside_step text w t (inside text s t all.0 (token_of text t s h.0)))
    ∙ (gathered text next ss ts all.1 h.1 ∙ ap (λ z. record { standing = w.standing; piece = z; done = w.done }) (append_assoc w.piece (t ∷ []) ts))

-- what a line comes to from a place behind a sign on
pub record Ended (text : List ℕ) (ss : List Symbol) (xs : List Token) (r : Worked) : Type 0 where
  pub tokens : List Token
  pub spells : Spells text ss tokens
  pub is : r ≡ clean (xs ++ tokens)

pub record Works (text : List ℕ) (first : Bool) (bits : List Bit) : Type 0 where
  pub works : (w : Working) → Stands first w → (xs ts : List Token) → Spells text (symbols_written bits) ts
      → Ended text (symbols_of bits) xs (all_worked text [] (fold (worked_on text []) (start w xs) ts))

-- the last piece of a line
pub last_piece : (text : List ℕ) (first : Bool) (bits : List Bit) → IsPiece text first bits → Works text first bits
last_piece text first bits p = record {
  works = λ w stands xs ts h.
      let put = p.puts w stands ts h in
      record {
        tokens = put.tokens;
        spells = put.spells;
        is = ap (all_worked text []) (gathered text (start w xs) (symbols_written bits) ts p.inside h) ∙ put.puts xs;
      };
}

-- a piece, a sign, and what stands behind it

begins_name : (text : List ℕ) (ss : List Symbol) (ts : List Token) → BeginsName ss → Spells text ss ts → begins_with_name text ts ≡ true
begins_name text (symbol.Name n ∷ ss) [] begins h = absurd h
begins_name text (symbol.Name n ∷ ss) (t ∷ ts) begins h = (a_name text t (token_of text t (symbol.Name n) h.0)).name_is
begins_name text _ ts begins h = absurd begins

abbrev turned : List ℕ → Working → Working → Token → Working
turned text w next t = record { standing = next.standing; piece = []; done = put_tokens (t ∷ []) (put_piece text [] w.standing w.piece w.done) }

comma_step : (text : List ℕ) (first : Bool) (w : Working) (t : Token) → Stands first w → (first ≡ true → begins_with_name text w.piece ≡ true) → IsSign text 44 t
    → worked_on text [] w t ≡ turned text w operand_due t
unfolding a_word a_sign operand_due seen_of sign_seen
comma_step text true w t stands begins (is, byte) = let name = begins refl in rw (is, byte, stands, name) refl
comma_step text false w t stands begins (is, byte) = rw (is, byte, stands) refl

semicolon_step : (text : List ℕ) (first : Bool) (w : Working) (t : Token) → Stands first w → IsSign text 59 t
    → worked_on text [] w t ≡ turned text w nothing_read t
unfolding a_word a_sign operand_due seen_of sign_seen
semicolon_step text true w t stands (is, byte) = rw (is, byte, stands) refl
semicolon_step text false w t stands (is, byte) = rw (is, byte, stands) refl

-- the tokens of a piece, a sign and the rest
joined : (text : List ℕ) (s : Symbol) (w next : Working) (xs a b : List Token) (t : Token) (vs us : List Symbol) (put : Puts text vs (put_piece text [] w.standing a))
    → fold (worked_on text []) (start w xs) a ≡ record { standing = w.standing; piece = a; done = clean xs }
    → symbol_of text t ≡ s
    → worked_on text [] (record { standing = w.standing; piece = a; done = clean xs }) t ≡ turned text (record { standing = w.standing; piece = a; done = clean xs }) next t
    → Ended text us (xs ++ put.tokens ++ t ∷ []) (all_worked text [] (fold (worked_on text []) (start next (xs ++ put.tokens ++ t ∷ [])) b))
    → Ended text (vs ++ s ∷ us) xs (all_worked text [] (fold (worked_on text []) (start w xs) (a ++ t ∷ b)))
joined text s w next xs a b t vs us put front is step rest =
    let mid : Working = record { standing = w.standing; piece = a; done = clean xs } in
    record {
      tokens = put.tokens ++ t ∷ rest.tokens;
      spells = spells_both text vs (s ∷ us) put.tokens (t ∷ rest.tokens) put.spells (is, rest.spells);
      is =
          ap (all_worked text [])
          (fold-append (worked_on text []) (start w xs) a (t ∷ b)
          ∙ (ap (λ z. fold (worked_on text []) (worked_on text [] z t) b) front
          ∙ (ap (λ z. fold (worked_on text []) z b) step
          ∙ ap (λ z. fold (worked_on text []) (record { standing = next.standing; piece = []; done = put_tokens (t ∷ []) z }) b) (put.puts xs))))
          ∙ (rest.is ∙ ap clean (append_assoc (xs ++ put.tokens) (t ∷ []) rest.tokens ∙ append_assoc xs put.tokens (t ∷ rest.tokens)));
    }

-- the tokens of a piece, of a sign and of the rest, by their symbols
pub record Split (text : List ℕ) (xs : List Symbol) (s : Symbol) (ys : List Symbol) (ts : List Token) : Type 0 where
  front : List Token
  sign : Token
  back : List Token
  same : ts ≡ front ++ sign ∷ back
  front_spells : Spells text xs front
  sign_is : symbol_of text sign ≡ s
  back_spells : Spells text ys back

split_back : (text : List ℕ) (xs : List Symbol) (s : Symbol) (ys : List Symbol) (ts front back : List Token) → ts ≡ front ++ back → Spells text xs front
    → Spells text (s ∷ ys) back → Split text xs s ys ts
split_back text xs s ys ts front [] same p q = absurd q
split_back text xs s ys ts front (t ∷ back) same p q =
    record { front = front; sign = t; back = back; same = same; front_spells = p; sign_is = q.0; back_spells = q.1 }

split : (text : List ℕ) (xs : List Symbol) (s : Symbol) (ys : List Symbol) (ts : List Token) → Spells text (xs ++ s ∷ ys) ts → Split text xs s ys ts
split text xs s ys ts h = let p = parts_of text xs (s ∷ ys) ts h in split_back text xs s ys ts p.front p.back p.same p.front_spells p.back_spells

-- only how tokens stand decides
stands_so : (first : Bool) (w : Working) (piece : List Token) (done : Worked) → Stands first w → Stands first (record { standing = w.standing; piece = piece; done = done })
stands_so true w piece done h = h
stands_so false w piece done h = h

-- a piece, a sign, and what works behind it
separated : (text : List ℕ) (first later : Bool) (s : Symbol) (bits rest : List Bit) (next : Working) → IsPiece text first bits → Works text later rest → Stands later next
    → ((w : Working) (t : Token) → Stands first w → (first ≡ true → begins_with_name text w.piece ≡ true) → symbol_of text t ≡ s → worked_on text [] w t ≡ turned text w next t)
    → (w : Working) → Stands first w → (xs ts : List Token) → Spells text (symbols_written bits ++ s ∷ symbols_written rest) ts
    → Ended text (symbols_of bits ++ s ∷ symbols_of rest) xs (all_worked text [] (fold (worked_on text []) (start w xs) ts))
separated text first later s bits rest next piece works due step w stands xs ts h =
    let p = split text (symbols_written bits) s (symbols_written rest) ts h in
    let mid : Working = record { standing = w.standing; piece = p.front; done = clean xs } in
    let put = piece.puts w stands p.front p.front_spells in
    subst (λ z. Ended text (symbols_of bits ++ s ∷ symbols_of rest) xs (all_worked text [] (fold (worked_on text []) (start w xs) z))) (sym p.same)
    (joined text s w next xs p.front p.back p.sign (symbols_of bits) (symbols_of rest) put
    (gathered text (start w xs) (symbols_written bits) p.front piece.inside p.front_spells) p.sign_is
    (step mid p.sign (stands_so first w p.front (clean xs) stands) (λ e. begins_name text (symbols_written bits) p.front (piece.begins e) p.front_spells) p.sign_is)
    (works.works next due (xs ++ put.tokens ++ p.sign ∷ []) p.back p.back_spells))

works_again : (text : List ℕ) (first : Bool) (s : Symbol) (a b bits : List Bit) → symbols_written bits ≡ symbols_written a ++ s ∷ symbols_written b → symbols_of bits ≡ symbols_of a ++ s ∷ symbols_of b
    → ((w : Working) → Stands first w → (xs ts : List Token) → Spells text (symbols_written a ++ s ∷ symbols_written b) ts
    → Ended text (symbols_of a ++ s ∷ symbols_of b) xs (all_worked text [] (fold (worked_on text []) (start w xs) ts)))
    → Works text first bits
works_again text first s a b bits as_written as_symbols h = record {
  works = λ w stands xs ts spells.
      subst (λ z. Ended text z xs (all_worked text [] (fold (worked_on text []) (start w xs) ts))) (sym as_symbols)
      (h w stands xs ts (subst (λ z. Spells text z ts) as_written spells));
}

pub behind_comma : (text : List ℕ) (first : Bool) (a b : List Bit) → IsPiece text first a → Works text false b → Works text first (a ++ Comma ∷ Space ∷ b)
behind_comma text first a b piece works =
    works_again text first symbol.Comma a b (a ++ Comma ∷ Space ∷ b) (written_append a (Comma ∷ Space ∷ b)) (symbols_append a (Comma ∷ Space ∷ b))
    (separated text first false symbol.Comma a b operand_due piece works refl
    (λ w t stands begins is. comma_step text first w t stands begins (token_of text t symbol.Comma is)))

pub behind_semicolon : (text : List ℕ) (first : Bool) (a b : List Bit) → IsPiece text first a → Works text true b → Works text first (a ++ Semicolon ∷ Space ∷ b)
behind_semicolon text first a b piece works =
    works_again text first symbol.Semicolon a b (a ++ Semicolon ∷ Space ∷ b) (written_append a (Semicolon ∷ Space ∷ b)) (symbols_append a (Semicolon ∷ Space ∷ b))
    (separated text first true symbol.Semicolon a b nothing_read piece works refl
    (λ w t stands begins is. semicolon_step text first w t stands (token_of text t symbol.Semicolon is)))
