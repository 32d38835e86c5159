-- Lines of one section and of some that follow; the last piece of a section.
use Rattle.std.proofs.Common.{◌≡◌, true, List, [], ◌∷◌, ◌++◌, append_assoc, refl, ap, ◌∙◌}
use Rattle.std.proofs.lemmas.List.{append-nil}
use Rattle.std.specs.Prelude.{Ok}
use Rattle.qpu_token.specs.declared.token.Token.{Token}
use Rattle.qpu_line.specs.declared.name.Name.{Name}
use Rattle.qpu_line.specs.declared.symbol.Symbol.{Symbol}
use Rattle.qpu_line.specs.declared.symbol.Symbol.TheVariants as symbol
use Rattle.qpu_asm.specs.declared.placed.Placed.{Placed}
use Rattle.qpu_asm.specs.declared.piece.Core.TheVariants as core
use Rattle.qpu_asm.specs.declared.piece.Piece.{Piece}
use Rattle.qpu_asm.specs.declared.part.Part.{Part}
use Rattle.qpu_asm.specs.reader.Pieces.{bare, value_core}
use Rattle.qpu_asm.specs.reader.Parts.{last_value}
use Rattle.qpu_asm.specs.Forms.{begins}
use Rattle.qpu_asm.specs.reader.Orders.{follows, due}
use Rattle.qpu_asm.specs.SectionTokens.{SectionTokens}
use Rattle.qpu_asm.proofs.AgainSpelled.{Spelled}
use Rattle.qpu_asm.proofs.AgainPieces.{Ends, Stops, ends_stops, value_name}
use Rattle.qpu_asm.proofs.AgainSections.{AllPlain, AllBegin, AreSections, Reads}

pub due_first : (n : Name) → begins n ≡ true → due [] n ≡ true
unfolding due
due_first n e = e

pub due_behind : (f : Part) (later : List Part) (n : Name) → follows f later n ≡ true → due (f ∷ later) n ≡ true
unfolding due
due_behind f later n e = e

-- sections behind sections

pub are_append : (a b : List (List Symbol)) (ts : List SectionTokens) → AreSections (a ++ b) ts
    → (front : List SectionTokens) × (back : List SectionTokens) × (ts ≡ front ++ back) × AreSections a front × AreSections b back
are_append [] b ts are = ([], ts, refl, tt, are)
are_append (s ∷ a) b [] are = absurd are
are_append (s ∷ a) b (t ∷ ts) are =
    let r = are_append a b ts are.1 in (t ∷ r.0, r.1, ap (λ z. t ∷ z) r.2, (are.0, r.3), r.4)

pub reads_append : (earlier : List Part) (front back : List SectionTokens) (ps qs : List Part) → Reads earlier front ps → Reads (earlier ++ ps) back qs
    → Reads earlier (front ++ back) (ps ++ qs)
reads_append earlier [] back [] qs r s = rw (append-nil earlier) at s
reads_append earlier [] back (p ∷ ps) qs r s = absurd r
reads_append earlier (t ∷ front) back [] qs r s = absurd r
reads_append earlier (t ∷ front) back (p ∷ ps) qs r s =
    let moved : Reads (earlier ++ p ∷ [] ++ ps) back qs = rw (append_assoc earlier (p ∷ []) ps) s in
    (r.0, reads_append (earlier ++ p ∷ []) front back ps qs r.1 moved)

pub plain_both : (a b : List (List Symbol)) → AllPlain a → AllPlain b → AllPlain (a ++ b)
plain_both [] b p q = q
plain_both (s ∷ a) b p q = (p.0, plain_both a b p.1 q)

pub begin_both : (a b : List (List Symbol)) → AllBegin a → AllBegin b → AllBegin (a ++ b)
begin_both [] b p q = q
begin_both (s ∷ a) b p q = (p.0, begin_both a b p.1 q)

-- the last piece

-- nothing stands behind the last piece
nothing_ends : (xs : List Placed) → Spelled [] xs [] → Ends xs
nothing_ends [] h = tt
nothing_ends (x ∷ xs) h = cc

value_step : (end : Token) (xs : List Placed) (p : Piece) → value_core end xs ≡ Ok (p, []) → last_value end xs ≡ Ok p
unfolding last_value
value_step end xs p e = rw e refl

pub last_word : (end : Token) (n : Name) (xs : List Placed) → Spelled (symbol.Name n ∷ []) xs []
    → (t : Token) × (last_value end xs ≡ Ok (bare (core.Name n) t))
last_word end n [] h = absurd h
last_word end n (x ∷ rest) h =
    let stop : Stops rest = ends_stops rest (nothing_ends rest h.1) in
    let read : value_core end (x ∷ rest) ≡ Ok (bare (core.Name n) x.token, []) = value_name end x rest n h.0 stop ∙ ap (λ (z : List Placed). Ok (bare (core.Name n) x.token, z)) h.1 in
    (x.token, value_step end (x ∷ rest) (bare (core.Name n) x.token) read)
