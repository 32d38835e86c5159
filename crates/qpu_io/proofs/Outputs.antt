-- How texts written one behind the other make one text, at the end and where a fault cuts them off.
use Rattle.std.proofs.Common.{◌≡◌, ℕ, ◌+◌, ◌-◌, ◌<◌, ◌≤◌, List, [], ◌∷◌, ◌++◌, length, take, drop, get_or, Option, Some, None, Result, Ok, Err, IsErr, IsOk, suc, option_map, refl, ap, sym, ◌∙◌, subst, append_assoc, flat_map, arith, length-drop}
use Rattle.std.proofs.lemmas.List.{append-nil, take-append-drop, take_rest, take_more, drop_more, length-take-le}
use Rattle.std.proofs.lemmas.List.Concat.{flat_map-append}
use Rattle.std.proofs.lemmas.Bool.{false≢true}
use Rattle.std.proofs.Math.Seq.{take-add}
use Rattle.qpu_io.specs.Output.{Output, appended, Cut, Prints, Writes, WriteFails}
use Rattle.qpu_io.specs.Text.{in_turn, numbered}

held_twice : (h : Option (List ℕ)) (xs ys : List ℕ)
    → option_map (λ b. b ++ ys) (option_map (λ b. b ++ xs) h) ≡ option_map (λ b. b ++ (xs ++ ys)) h
held_twice None xs ys = refl
held_twice (Some b) xs ys = ap Some (append_assoc b xs ys)

abbrev with_held : Output → Option (List ℕ) → Output
with_held o h = record o { held = h }

appended_twice : (o : Output) (xs ys : List ℕ) → appended (appended o xs) ys ≡ appended o (xs ++ ys)
appended_twice o xs ys = ap (with_held o) (held_twice o.held xs ys)

-- a text behind another
pub appended_then : (o s t : Output) (xs ys : List ℕ) → s ≡ appended o xs → t ≡ appended s ys
    → t ≡ appended o (xs ++ ys)
appended_then o s t xs ys p q = q ∙ (ap (λ (z : Output). appended z ys) p ∙ appended_twice o xs ys)

held_none : (h : Option (List ℕ)) → option_map (λ b. b ++ []) h ≡ h
held_none None = refl
held_none (Some b) = ap Some (append-nil b)

-- nothing was appended
pub appended_none : (o : Output) → appended o [] ≡ o
appended_none o = ap (with_held o) (held_none o.held)

cut_behind : (o t : Output) (xs ys : List ℕ) → Cut (appended o xs) t ys → Cut o t (xs ++ ys)
cut_behind o t xs ys cut = record {
  part = xs ++ cut.part;
  front = (cut.front.0, ap (λ (z : List ℕ). xs ++ z) cut.front.1 ∙ sym (append_assoc xs cut.part cut.front.0));
  held = cut.held ∙ held_twice o.held xs cut.part;
  faults = cut.faults;
}

-- a text was appended, and the next one cut off
pub cut_more : (o s t : Output) (xs ys : List ℕ) → s ≡ appended o xs → Cut s t ys
    → Cut o t (xs ++ ys)
cut_more o s t xs ys p cut = cut_behind o t xs ys (subst (λ (z : Output). Cut z t ys) p cut)

-- a text was cut off, so what was to stand behind it isn't there
pub cut_after : (o t : Output) (xs ys : List ℕ) → Cut o t xs → Cut o t (xs ++ ys)
cut_after o t xs ys cut = record {
  part = cut.part;
  front = (cut.front.0 ++ ys, ap (λ (z : List ℕ). z ++ ys) cut.front.1 ∙ append_assoc cut.part cut.front.0 ys);
  held = cut.held;
  faults = cut.faults;
}

-- a write that failed cuts any text off before its first byte
pub cut_at_once : (o t : Output) (xs : List ℕ) → WriteFails o t → Cut o t xs
cut_at_once o t xs failed = record {
  part = [];
  front = (xs, refl);
  held = failed.held ∙ sym (held_none o.held);
  faults = failed.faults;
}

-- a write of what stands behind a front stays within the text
pub front_within : (xs : List ℕ) (i n : ℕ) → i ≤ length xs
    → n ≤ length (take (length xs - i) (drop i xs)) → i + n ≤ length xs
front_within xs i n l h =
    let within : n ≤ length (drop i xs) = subst (λ (z : List ℕ). n ≤ length z) (take_rest xs i) h in
    omega (arith, length-drop i xs)

-- the front of a text that was appended grows by a write of what stands behind it
pub front_more : (o s t : Output) (xs : List ℕ) (i n : ℕ) → s ≡ appended o (take i xs)
    → Writes s t (take (length xs - i) (drop i xs)) n → t ≡ appended o (take (i + n) xs)
front_more o s t xs i n p w =
    let written : t ≡ appended s (take n (drop i xs)) =
    subst (λ (z : List ℕ). t ≡ appended s (take n z)) (take_rest xs i) w.held in
    appended_then o s t (take i xs) (take n (drop i xs)) p written
    ∙ ap (λ (z : List ℕ). appended o z) (sym (take-add i n xs))

-- the front of a text was appended, and then a write failed
pub front_cut : (o s t : Output) (xs : List ℕ) (i : ℕ) → s ≡ appended o (take i xs) → WriteFails s t
    → Cut o t xs
front_cut o s t xs i p failed =
    subst (λ (z : List ℕ). Cut o t z) (take-append-drop i xs)
    (cut_more o s t (take i xs) (drop i xs) p (cut_at_once s t (drop i xs) failed))

flat_map_front : {X : Type 0} (f : X → List ℕ) (xs : List X) (i : ℕ) (d : X) → i < length xs
    → flat_map f (take (i + 1) xs) ≡ flat_map f (take i xs) ++ f (get_or xs i d)
flat_map_front f xs i d l = rw (take_more xs i d l, flat_map-append, append-nil) refl

flat_map_parts : {X : Type 0} (f : X → List ℕ) (xs : List X) (i : ℕ) (d : X) → i < length xs
    → flat_map f (take i xs) ++ (f (get_or xs i d) ++ flat_map f (drop (i + 1) xs)) ≡ flat_map f xs
flat_map_parts f xs i d l =
    let behind : flat_map f (drop i xs) ≡ f (get_or xs i d) ++ flat_map f (drop (i + 1) xs) =
    ap (λ z. flat_map f z) (drop_more xs i d l) in
    ap (λ z. flat_map f (take i xs) ++ z) (sym behind)
    ∙ (sym (flat_map-append f (take i xs) (drop i xs)) ∙ ap (λ z. flat_map f z) (take-append-drop i xs))

-- one more of the items' texts was appended
pub each_more : {X : Type 0} (f : X → List ℕ) (xs : List X) (i : ℕ) (x d : X) (o s t : Output)
    → i < length xs → x ≡ get_or xs i d → s ≡ appended o (flat_map f (take i xs))
    → t ≡ appended s (f x) → t ≡ appended o (flat_map f (take (i + 1) xs))
each_more f xs i x d o s t l e p q =
    let behind : t ≡ appended s (f (get_or xs i d)) = subst (λ z. t ≡ appended s (f z)) e q in
    appended_then o s t (flat_map f (take i xs)) (f (get_or xs i d)) p behind
    ∙ ap (λ (z : List ℕ). appended o z) (sym (flat_map_front f xs i d l))

-- one of the items' texts was cut off
pub each_cut : {X : Type 0} (f : X → List ℕ) (xs : List X) (i : ℕ) (x d : X) (o s t : Output)
    → i < length xs → x ≡ get_or xs i d → s ≡ appended o (flat_map f (take i xs)) → Cut s t (f x)
    → Cut o t (flat_map f xs)
each_cut f xs i x d o s t l e p cut =
    let here : Cut s t (f (get_or xs i d)) = subst (λ z. Cut s t (f z)) e cut in
    subst (λ (z : List ℕ). Cut o t z) (flat_map_parts f xs i d l)
    (cut_more o s t (flat_map f (take i xs)) (f (get_or xs i d) ++ flat_map f (drop (i + 1) xs)) p
    (cut_after s t (f (get_or xs i d)) (flat_map f (drop (i + 1) xs)) here))

numbered_append : {X : Type 0} (f : ℕ → X → List ℕ) (n : ℕ) (xs ys : List X)
    → numbered f n (xs ++ ys) ≡ numbered f n xs ++ numbered f (n + length xs) ys
numbered_append f n [] ys = ap (λ k. numbered f k ys) (omega arith)
numbered_append f n (x ∷ xs) ys =
    let number : n + 1 + length xs ≡ n + suc (length xs) = omega arith in
    ap (λ z. f n x ++ z) (numbered_append f (n + 1) xs ys)
    ∙ (sym (append_assoc (f n x) (numbered f (n + 1) xs) (numbered f (n + 1 + length xs) ys))
    ∙ ap (λ k. (f n x ++ numbered f (n + 1) xs) ++ numbered f k ys) number)

numbered_front : {X : Type 0} (f : ℕ → X → List ℕ) (n : ℕ) (xs : List X) (i : ℕ) (d : X)
    → i < length xs
    → numbered f n (take (i + 1) xs) ≡ numbered f n (take i xs) ++ f (n + i) (get_or xs i d)
numbered_front f n xs i d l =
    let long : length (take i xs) ≡ i = length-take-le i xs (omega arith) in
    ap (λ z. numbered f n z) (take_more xs i d l)
    ∙ (numbered_append f n (take i xs) (get_or xs i d ∷ [])
    ∙ ap (λ z. numbered f n (take i xs) ++ z)
    (append-nil (f (n + length (take i xs)) (get_or xs i d)) ∙ ap (λ k. f (n + k) (get_or xs i d)) long))

numbered_parts : {X : Type 0} (f : ℕ → X → List ℕ) (n : ℕ) (xs : List X) (i : ℕ) (d : X)
    → i < length xs
    → numbered f n (take i xs) ++ (f (n + i) (get_or xs i d) ++ numbered f (n + i + 1) (drop (i + 1) xs)) ≡ numbered f n xs
numbered_parts f n xs i d l =
    let long : length (take i xs) ≡ i = length-take-le i xs (omega arith) in
    let behind : numbered f (n + i) (drop i xs) ≡ f (n + i) (get_or xs i d) ++ numbered f (n + i + 1) (drop (i + 1) xs) =
    ap (λ z. numbered f (n + i) z) (drop_more xs i d l) in
    ap (λ z. numbered f n (take i xs) ++ z) (sym behind ∙ ap (λ k. numbered f (n + k) (drop i xs)) (sym long))
    ∙ (sym (numbered_append f n (take i xs) (drop i xs)) ∙ ap (λ z. numbered f n z) (take-append-drop i xs))

-- one more of the numbered items' texts was appended
pub numbered_more : {X : Type 0} (f : ℕ → X → List ℕ) (n : ℕ) (xs : List X) (i k : ℕ) (x d : X) (o s t : Output)
    → i < length xs → k ≡ n + i → x ≡ get_or xs i d → s ≡ appended o (numbered f n (take i xs))
    → t ≡ appended s (f k x) → t ≡ appended o (numbered f n (take (i + 1) xs))
numbered_more f n xs i k x d o s t l number e p q =
    let behind : t ≡ appended s (f (n + i) (get_or xs i d)) =
    subst (λ y. t ≡ appended s (f y (get_or xs i d))) number (subst (λ z. t ≡ appended s (f k z)) e q) in
    appended_then o s t (numbered f n (take i xs)) (f (n + i) (get_or xs i d)) p behind
    ∙ ap (λ (z : List ℕ). appended o z) (sym (numbered_front f n xs i d l))

-- one of the numbered items' texts was cut off
pub numbered_cut : {X : Type 0} (f : ℕ → X → List ℕ) (n : ℕ) (xs : List X) (i k : ℕ) (x d : X) (o s t : Output)
    → i < length xs → k ≡ n + i → x ≡ get_or xs i d → s ≡ appended o (numbered f n (take i xs))
    → Cut s t (f k x) → Cut o t (numbered f n xs)
numbered_cut f n xs i k x d o s t l number e p cut =
    let here : Cut s t (f (n + i) (get_or xs i d)) =
    subst (λ y. Cut s t (f y (get_or xs i d))) number (subst (λ z. Cut s t (f k z)) e cut) in
    subst (λ (z : List ℕ). Cut o t z) (numbered_parts f n xs i d l)
    (cut_more o s t (numbered f n (take i xs))
    (f (n + i) (get_or xs i d) ++ numbered f (n + i + 1) (drop (i + 1) xs)) p
    (cut_after s t (f (n + i) (get_or xs i d)) (numbered f (n + i + 1) (drop (i + 1) xs)) here))

-- a part of a text was appended, and the rest in turn
pub turn_later : {T E : Type 0} (o s t : Output) (x : List ℕ) (xs : List (List ℕ)) (r : Result T E)
    → s ≡ appended o x → Prints s t (in_turn xs) r → Prints o t (in_turn (x ∷ xs)) r
unfolding in_turn
turn_later o s t x xs (Ok v) p q = appended_then o s t x (in_turn xs) p q
turn_later o s t x xs (Err e) p cut = cut_more o s t x (in_turn xs) p cut

-- the last part of a text
pub turn_last : {T E : Type 0} (o t : Output) (x : List ℕ) (r : Result T E) → Prints o t x r
    → Prints o t (in_turn (x ∷ [])) r
unfolding in_turn
turn_last o t x (Ok v) p = p ∙ ap (λ (z : List ℕ). appended o z) (sym (append-nil x))
turn_last o t x (Err e) cut = cut_after o t x [] cut

-- a part of a text was cut off, so the parts behind it aren't there
pub turn_cut : {T E : Type 0} (o t : Output) (x : List ℕ) (xs : List (List ℕ)) (r : Result T E)
    → IsErr r → Cut o t x → Prints o t (in_turn (x ∷ xs)) r
unfolding in_turn
turn_cut o t x xs (Ok v) failed cut = absurd (false≢true failed)
turn_cut o t x xs (Err e) failed cut = cut_after o t x (in_turn xs) cut

-- no part is left
pub turn_end : {T E : Type 0} (o : Output) (r : Result T E) → IsOk r → Prints o o (in_turn []) r
unfolding in_turn
turn_end o (Ok v) done = sym (appended_none o)
turn_end o (Err e) done = absurd (false≢true done)

-- a text of parts that several calls write
pub ruleset turns = (turn_later, turn_last, turn_end, turn_cut)
