use Rattle.std.proofs.Common.{◌≡◌, false, sym, subst, ◌∙◌, arith}
use Rattle.std.proofs.lemmas.List.{length-drop}
use denote.Enum.Bare.{sameb}
use Rattle.qpu_token.specs.contracts.piece.Shape.{the_type}
use Rattle.qpu_token.specs.declared.piece.Shape.{Shape}
use Rattle.qpu_token.specs.declared.piece.Shape.TheVariants.{LineEnd}
use Rattle.qpu_token.proofs.PlaceLemmas.{place_small}
use Rattle.qpu_token.proofs.ReadLemmas.{past_more, place_further}
use Rattle.qpu_token.proofs.reading.line_fault.Goals as goal

-- a shape that isn't the same as a line end is another
other_shape : (shape : Shape) → sameb the_type shape LineEnd ≡ false → shape ≡ LineEnd → ⊥
other_shape shape apart is = let h = subst (λ s. sameb the_type s LineEnd ≡ false) is apart in cc

pub further-place-requires : goal.further-place-requires
further-place-requires c =
    let small = place_small c.args.text.now c.loop-at.at (omega arith) in
    let begins = c.in-Some.ensures in
    rw c.loop-at.invariant.place_is
    (omega (arith, begins.inside, length-drop c.loop-at.at c.args.text.now))

pub loop-at-preserved : goal.loop-at-preserved
loop-at-preserved c =
    let other = other_shape c.in-Some.piece.shape (sym c.eq.ensures ∙ c.if-eq.false) in
    record {
      past = past_more c.args.text.now c.args.large c.loop-at.at c.in-Some.piece.length c.in-Some.piece.shape c.loop-at.invariant.past c.in-Some.ensures other;
      place_is = rw (c.further-place.ensures, c.loop-at.invariant.place_is) (sym (place_further c.args.text.now c.loop-at.at c.in-Some.piece.length c.in-Some.piece.shape c.in-Some.ensures other));
    }
