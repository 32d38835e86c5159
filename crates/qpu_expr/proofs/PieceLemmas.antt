-- The first tokens of pieces.
use Rattle.std.proofs.Common.{◌≡◌, ℕ, zero, suc, ◌+◌, ◌-◌, ◌≤◌, ◌<◌, List, [], ◌∷◌, ◌++◌, length, take, drop, get_or, refl, sym, ap, subst, ◌∙◌, arith}
use Rattle.std.specs.Prelude.{map}
use Rattle.std.specs.List.{flat_map}
use Rattle.std.proofs.lemmas.List.{take-append-le, take-append-drop, take-map, take_more, flat_map_more}
use Rattle.std.proofs.lemmas.Grind.{flat_map-append}
use Rattle.qpu_token.specs.declared.token.Token.{Token}
use Rattle.qpu_expr.specs.LineTokens.{LineTokens}
use Rattle.qpu_expr.specs.Macros.{placed_at}
use Rattle.qpu_expr.specs.Pieces.{joined}

-- tokens that are put behind the first ones, so many as are missing
pub front_more : (most : ℕ) (done piece : List Token) → take most done ++ take (most - length (take most done)) piece ≡ take most (done ++ piece)
front_more zero done piece = refl
front_more (suc n) [] piece = let all : suc n - 0 ≡ suc n = omega arith in rw all refl
front_more (suc n) (x ∷ done) piece =
    let less : suc n - length (x ∷ take n done) ≡ n - length (take n done) = omega arith in
    rw less (ap (λ xs. x ∷ xs) (front_more n done piece))

short_front : (most : ℕ) (done : List Token) → most ≤ length (take most done) → most ≤ length done
short_front zero done full = omega arith
short_front (suc n) [] full = omega (arith, full)
short_front (suc n) (x ∷ done) full = let rest = short_front n done (omega (arith, full)) in omega (arith, rest)

-- where there are enough, the pieces behind them put none
pub front_full : (most : ℕ) (pieces : List (List Token)) (i : ℕ) → most ≤ length (take most (joined (take i pieces))) → take most (joined (take i pieces)) ≡ take most (joined pieces)
front_full most pieces i full =
    let before = joined (take i pieces) in
    sym (take-append-le most before (joined (drop i pieces)) (short_front most before full))
    ∙ (ap (λ xs. take most xs) (sym (flat_map-append (λ piece. piece) (take i pieces) (drop i pieces)))
    ∙ ap (λ ps. take most (joined ps)) (take-append-drop i pieces))

pub placed_front : (at : Token) (n : ℕ) (tokens : List Token) → map (placed_at at) (take n tokens) ≡ take n (map (placed_at at) tokens)
placed_front at n tokens = sym (take-map (placed_at at) n tokens)

-- fewer tokens than were asked for are all
all_front : (most : ℕ) (tokens : List Token) → length (take most tokens) < most → take most tokens ≡ tokens
all_front zero tokens few = absurd (omega (arith, few))
all_front (suc n) [] few = refl
all_front (suc n) (x ∷ tokens) few = ap (λ xs. x ∷ xs) (all_front n tokens (omega (arith, few)))

pub whole_line : (line : LineTokens) (pieces : List (List Token)) (end : Token) (tokens : List Token) (most : ℕ) → ◌≡◌ {A = LineTokens} (record { tokens = joined pieces; end = end }) line → tokens ≡ take most line.tokens → length tokens < most → ◌≡◌ {A = LineTokens} (record { tokens = tokens; end = end }) line
whole_line line pieces end tokens most is front few =
    let all : tokens ≡ line.tokens = front ∙ all_front most line.tokens (subst (λ ts. length ts < most) front few) in
    ap (λ ts. record { tokens = ts; end = end }) (all ∙ ap (λ (l : LineTokens). l.tokens) (sym is)) ∙ is

-- what one token more puts
pub put_more : (f : Token → List Token) (before out new : List Token) (xs : List Token) (x : Token) (i : ℕ) → i < length xs → x ≡ get_or xs i x → out ≡ before ++ flat_map f (take i xs) → new ≡ out ++ f x → new ≡ before ++ flat_map f (take (i + 1) xs)
put_more f before out new xs x i more is so puts =
    puts
    ∙ (ap (λ ys. ys ++ f x) so
    ∙ (flat_map_more f before (take i xs) x
    ∙ ap (λ ys. before ++ flat_map f ys) (sym (take_more xs i x more ∙ ap (λ y. take i xs ++ y ∷ []) (sym is)))))

-- what one piece more puts
pub front_step : (most : ℕ) (pieces : List (List Token)) (i : ℕ) (piece out new : List Token) → i < length pieces → piece ≡ get_or pieces i piece → out ≡ take most (joined (take i pieces)) → new ≡ out ++ take (most - length out) piece → new ≡ take most (joined (take (i + 1) pieces))
front_step most pieces i piece out new more is so puts =
    puts
    ∙ (ap (λ o. o ++ take (most - length o) piece) so
    ∙ (front_more most (joined (take i pieces)) piece
    ∙ ap (λ xs. take most xs)
    (flat_map_more (λ p. p) [] (take i pieces) piece
    ∙ ap joined (sym (take_more pieces i piece more ∙ ap (λ y. take i pieces ++ y ∷ []) (sym is))))))

take_short : (n : ℕ) (tokens : List Token) → length (take n tokens) ≤ length tokens
take_short zero tokens = omega arith
take_short (suc n) [] = omega arith
take_short (suc n) (x ∷ tokens) = let rest = take_short n tokens in omega (arith, rest)

-- a line has as many tokens as are read of it, or more
pub long_line : (tokens xs : List Token) (n few : ℕ) → tokens ≡ take n xs → few < length tokens → few < length xs
long_line tokens xs n few front more =
    let short = take_short n xs in
    let same = ap length front in
    omega (arith, short, same, more)
