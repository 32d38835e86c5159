-- Where a text may be cut: before and behind a line feed.
use Rattle.std.proofs.Common.{◌≡◌, ◌∙◌, ℕ, zero, suc, ◌≤◌, true, List, [], ◌∷◌, length, take, get_or, sym, subst, arith, add-one, length-take}
use Rattle.std.specs.Prelude.{◌==◌}
use Rattle.std.specs.Str.{IsUtf8, IsCharBoundary}
use Rattle.std.proofs.lemmas.Bool.{eqb-true}
use Rattle.std.proofs.lemmas.List.{get_or-take}
use Rattle.std.proofs.lemmas.Str.{IsCharBoundary-after_ascii}
use Rattle.qpu_text.specs.Bytes.{LF}
use Rattle.qpu_record.specs.Record.{ends_line}
use Rattle.qpu_record.specs.Heading.{begins_lf}
use Rattle.qpu_record.proofs.EndLemmas.{ends_line_last}

pub end_boundary : (text : List ℕ) (size : ℕ) → IsUtf8 text → size ≤ length text → ends_line (take size text) ≡ true → IsCharBoundary text size
end_boundary text zero utf8 fits ends = absurd (cc)
end_boundary text (suc i) utf8 fits ends =
    let long : suc i ≡ length (take (suc i) text) = omega (arith, fits, length-take (suc i) text) in
    let last : (get_or (take (suc i) text) i 0 == LF) ≡ true = sym (ends_line_last (take (suc i) text) i long) ∙ ends in
    let byte : get_or text i 0 ≡ LF = sym (get_or-take (suc i) text i 0 (omega arith)) ∙ eqb-true _ _ last in
    subst (IsCharBoundary text) (add-one i) (IsCharBoundary-after_ascii text i utf8 (omega (arith, fits)) (omega (arith, byte)))

pub begin_boundary : (text : List ℕ) → IsUtf8 text → begins_lf text ≡ true → IsCharBoundary text 1
begin_boundary [] utf8 begins = absurd (cc)
begin_boundary (byte ∷ text) utf8 begins =
    let is : byte ≡ LF = eqb-true byte LF begins in
    IsCharBoundary-after_ascii (byte ∷ text) 0 utf8 (omega arith) (omega (arith, is))
