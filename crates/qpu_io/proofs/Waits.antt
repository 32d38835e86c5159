-- Bytes that wait in a buffer: how they grow at their end, and are taken from their front.
use Rattle.std.proofs.Common.{◌≡◌, ℕ, ◌+◌, ◌-◌, ◌≤◌, List, ◌++◌, length, take, drop, ap, sym, ◌∙◌, append_assoc, arith, length-append, length-take-le, length-drop, take-take, take_at}
use Rattle.std.proofs.lemmas.List.{drop-append-le}
use Rattle.std.proofs.lemmas.Slice.{take-put_mid}
use borrow.Rule.Slice.PartMut.{put_mid}

-- bytes put behind those before `end` are seen behind them
pub waits_more : (xs piece ys rest : List ℕ) (start end k n : ℕ) → start ≤ end → end + k ≤ length xs
    → n ≤ k → n ≤ length piece → length ys ≡ k → ys ≡ take n piece ++ rest
    → drop start (take (end + n) (put_mid end k xs ys)) ≡ drop start (take end xs) ++ take n piece
waits_more xs piece ys rest start end k n from fits few some long filled =
    let front = take end xs ++ take n piece in
    let before = length-take-le end xs (omega arith) in
    let behind = length-take-le n piece some in
    let cut : take (end + n) (put_mid end k xs ys) ≡ front =
    sym (take-take (end + n) (end + k) (put_mid end k xs ys) (omega arith))
    ∙ (ap (λ z. take (end + n) z) (take-put_mid end k xs ys (end + k) (omega arith) (omega arith))
    ∙ (ap (λ z. take (end + n) (take end xs ++ z)) filled
    ∙ (ap (λ z. take (end + n) z) (sym (append_assoc (take end xs) (take n piece) rest))
    ∙ take_at front rest (end + n) (omega (arith, length-append (take end xs) (take n piece)))))) in
    ap (λ z. drop start z) cut ∙ drop-append-le start (take end xs) (take n piece) (omega arith)

-- how many bytes wait
pub waits_long : (xs : List ℕ) (start end : ℕ) → start ≤ end → end ≤ length xs
    → length (drop start (take end xs)) ≡ end - start
waits_long xs start end from fits = omega (arith, length-drop start (take end xs), length-take-le end xs fits)
