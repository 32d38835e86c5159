-- The spans of a text's tokens are in order and inside it.
use Rattle.std.proofs.Common.{ℕ, ◌+◌, ◌≤◌, Bool, true, false, List, [], ◌∷◌, ◌++◌, length, append-nil, arith}
use Rattle.std.specs.Prelude.{◌==◌, if◌then◌else◌}
use Rattle.qpu_token.specs.declared.token.TokenKind.TheVariants as kind
use Rattle.qpu_token.specs.declared.token.Token.{Token}
use Rattle.qpu_token.specs.declared.piece.Shape.{Shape}
use Rattle.qpu_token.specs.declared.piece.Shape.TheVariants.{Blank, Comment, Name, Number, Sign, LineEnd}
use Rattle.qpu_token.specs.Places.{place_at}
use Rattle.qpu_token.specs.Tokens.{token_at, told, Cut, at_start, on, AreTokens, AreSpans}

wider : (from to end : ℕ) (ts : List Token) → to ≤ end → AreSpans from ts to → AreSpans from ts end
wider from to end [] more h = omega arith
wider from to end (t ∷ ts) more h = (h.0, h.1, wider t.to to end ts more h.2)

spans-push : (from to : ℕ) (ts : List Token) (t : Token) → AreSpans from ts to → to ≤ t.from → t.from ≤ t.to → AreSpans from (ts ++ t ∷ []) t.to
spans-push from to [] t h after up = (omega arith, up, omega arith)
spans-push from to (u ∷ ts) t h after up = (h.0, h.1, spans-push u.to to ts t h.2 after up)

told_spans : (text : List ℕ) (from at n : ℕ) (ts : List Token) (shape : Shape) → AreSpans from ts at → AreSpans from (ts ++ told text at n shape) (at + n)
told_spans text from at n ts Blank h = rw append-nil (wider from at (at + n) ts (omega arith) h)
told_spans text from at n ts Comment h = rw append-nil (wider from at (at + n) ts (omega arith) h)
told_spans text from at n ts Name h = spans-push from at ts _ h (omega arith) (omega arith)
told_spans text from at n ts Number h = spans-push from at ts _ h (omega arith) (omega arith)
told_spans text from at n ts Sign h = spans-push from at ts _ h (omega arith) (omega arith)
told_spans text from at n ts LineEnd h = spans-push from at ts _ h (omega arith) (omega arith)

cut_spans : {text : List ℕ} {ts : List Token} {at : ℕ} → Cut text ts at → AreSpans 0 ts at
cut_spans at_start = omega arith
cut_spans (on shape n cut begins) = told_spans _ 0 _ n _ shape (cut_spans cut)

pub spans_of : (text : List ℕ) (ts : List Token) → AreTokens text ts → AreSpans 0 ts (length text)
spans_of text ts are = rw are.whole (by_end ((place_at text (length text)).column == 1))
  where
    by_end : (b : Bool) → AreSpans 0 (are.written ++ (if b then [] else token_at text (length text) 0 kind.LineEnd ∷ [])) (length text)
    by_end true = rw append-nil (cut_spans are.cut)
    by_end false = wider 0 (length text + 0) (length text) _ (omega arith) (told_spans text 0 (length text) 0 are.written LineEnd (cut_spans are.cut))
