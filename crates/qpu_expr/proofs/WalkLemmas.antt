-- Walks over the tokens of pieces.
use Rattle.std.proofs.Common.{◌≡◌, ℕ, zero, suc, ◌+◌, ◌-◌, ◌<◌, ◌≤◌, List, [], ◌∷◌, ◌++◌, length, drop, get_or, refl, sym, ap, ◌∙◌, arith}
use Rattle.std.specs.Prelude.{fold}
use Rattle.std.proofs.lemmas.List.{drop_more, drop_all}
use Rattle.std.proofs.lemmas.List.Sums.{fold-append}
use Rattle.qpu_token.specs.declared.token.Token.{Token}
use Rattle.qpu_expr.specs.Pieces.{joined}

pub rest_step : {A B : Type 0} (f : B → A → B) (b c : B) (xs : List A) (i : ℕ) (x : A) (all : B) → i < length xs → x ≡ get_or xs i x → c ≡ f b x → fold f b (drop i xs) ≡ all → fold f c (drop (i + 1) xs) ≡ all
rest_step f b c xs i x all less is next same =
    ap (λ d. fold f d (drop (i + 1) xs)) (next ∙ ap (f b) is)
    ∙ (sym (ap (fold f b) (drop_more xs i x less)) ∙ same)

-- what is left out of two lists one behind the other
drop_two : (n : ℕ) (xs ys : List Token) → drop n (xs ++ ys) ≡ drop n xs ++ drop (n - length xs) ys
drop_two zero [] ys = refl
drop_two (suc n) [] ys = let all : suc n - 0 ≡ suc n = omega arith in rw all refl
drop_two zero (x ∷ xs) ys = let none : 0 - length (x ∷ xs) ≡ 0 = omega arith in rw none refl
drop_two (suc n) (x ∷ xs) ys = let less : suc n - length (x ∷ xs) ≡ n - length xs = omega arith in rw less (drop_two n xs ys)

pub piece_step : {B : Type 0} (f : B → Token → B) (b c : B) (pieces : List (List Token)) (i left : ℕ) (piece : List Token) (all : B) → i < length pieces → piece ≡ get_or pieces i piece → c ≡ fold f b (drop left piece) → fold f b (drop left (joined (drop i pieces))) ≡ all → fold f c (drop (left - length piece) (joined (drop (i + 1) pieces))) ≡ all
piece_step f b c pieces i left piece all less is next same =
    let front : drop i pieces ≡ piece ∷ drop (i + 1) pieces = drop_more pieces i piece less ∙ ap (λ p. p ∷ drop (i + 1) pieces) (sym is) in
    let rest = drop (left - length piece) (joined (drop (i + 1) pieces)) in
    ap (λ d. fold f d rest) next
    ∙ (sym (fold-append f b (drop left piece) rest)
    ∙ (ap (fold f b) (sym (drop_two left piece (joined (drop (i + 1) pieces))))
    ∙ (ap (λ ps. fold f b (drop left (joined ps))) (sym front) ∙ same)))

drop_none : (n : ℕ) → ◌≡◌ {A = List Token} (drop n []) []
drop_none zero = refl
drop_none (suc n) = refl

pub all_pieces : {B : Type 0} (f : B → Token → B) (b : B) (pieces : List (List Token)) (i left : ℕ) → length pieces ≤ i → fold f b (drop left (joined (drop i pieces))) ≡ b
all_pieces f b pieces i left done = ap (λ ps. fold f b (drop left (joined ps))) (drop_all i pieces done) ∙ ap (fold f b) (drop_none left)

pub all_rest : {A B : Type 0} (f : B → A → B) (b : B) (xs : List A) (i : ℕ) → length xs ≤ i → fold f b (drop i xs) ≡ b
all_rest f b xs i done = ap (fold f b) (drop_all i xs done)
