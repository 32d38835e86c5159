-- What readings give, one behind the other.
use Rattle.std.proofs.Common.{◌≡◌, ℕ, ◌<◌, List, [], ◌++◌, length, min, take, drop, Option, Some, None, IfSome, option_map, refl, ap, sym, ◌∙◌, subst, append_assoc, length-append, arith}
use Rattle.std.proofs.lemmas.List.{take-append-drop, take_at, drop_at, nil_from_length, length-take-le, append-nil}
use Rattle.qpu_io.specs.Input.{Input, Takes, Reads, ReadsToEnd, ReadsPast}
use Rattle.qpu_io.specs.Stores.{plain_shown}

left_twice : (h : Option (List ℕ)) (xs ys : List ℕ)
    → option_map (λ rest. xs ++ rest) (option_map (λ rest. ys ++ rest) h) ≡ option_map (λ rest. (xs ++ ys) ++ rest) h
left_twice None xs ys = refl
left_twice (Some b) xs ys = ap Some (sym (append_assoc xs ys b))

-- nothing was taken
pub takes_none : (o : Input) → Takes o o []
takes_none o = record { left = left_none o.left; faults = refl } where
  left_none : (h : Option (List ℕ)) → h ≡ option_map (λ rest. [] ++ rest) h
  left_none None = refl
  left_none (Some b) = refl

-- bytes behind others were taken
pub takes_then : (o s t : Input) (xs ys : List ℕ) → Takes o s xs → Takes s t ys
    → Takes o t (xs ++ ys)
takes_then o s t xs ys p q = record {
  left = p.left ∙ (ap (λ (z : Option (List ℕ)). option_map (λ rest. xs ++ rest) z) q.left ∙ left_twice t.left xs ys);
  faults = q.faults ∙ p.faults;
}

-- bytes that a read gave, behind others, were taken
pub takes_more : (o s t : Input) (xs buffer filled : List ℕ) (n : ℕ) → Takes o s xs
    → Reads s t buffer filled n → Takes o t (xs ++ take n filled)
takes_more o s t xs buffer filled n p read = takes_then o s t xs (take n filled) p read.taken

-- the front of what was left was read
pub front_read : (left buffer filled : List ℕ) (n : ℕ) → n ≡ min (length buffer) (length left)
    → filled ≡ take n left ++ drop n buffer
    → Reads (plain_shown left) (plain_shown (drop n left)) buffer filled n
front_read left buffer filled n count e = record {
  within = omega arith;
  rest = ap (λ (z : List ℕ). drop n z) e ∙ drop_at (take n left) (drop n buffer) n long;
  taken = record {
    left = ap Some (sym (ap (λ (z : List ℕ). z ++ drop n left) front ∙ take-append-drop n left));
    faults = refl;
  };
  ended = λ none room. nil_from_length left (omega arith);
} where
  long : length (take n left) ≡ n
  long = length-take-le n left (omega arith)

  front : take n filled ≡ take n left
  front = ap (λ (z : List ℕ). take n z) e ∙ take_at (take n left) (drop n buffer) n long

left_is : (bytes xs : List ℕ) (h : Option (List ℕ))
    → Some bytes ≡ option_map (λ rest. xs ++ rest) h → (rest : List ℕ) × (h ≡ Some rest) × (bytes ≡ xs ++ rest)
left_is bytes xs None e = absurd (cc)
left_is bytes xs (Some rest) e = (rest, refl, cc)

-- a reading to the end of told bytes gave these bytes
pub whole_is : (old new : Input) (limit : ℕ) (bytes taken : List ℕ)
    → old.left ≡ Some bytes → ReadsToEnd old new limit taken → taken ≡ bytes
whole_is old new limit bytes taken e read =
    let was = left_is bytes taken new.left (sym e ∙ read.taken.left) in
    let none : was.0 ≡ [] = subst (λ (h : Option (List ℕ)). IfSome h (λ rest. rest ≡ [])) was.1 read.ended in
    sym (was.2 ∙ (ap (λ (z : List ℕ). taken ++ z) none ∙ append-nil taken))

-- a reading past the limit shows that more bytes were told than the limit allows
pub past_is : (old new : Input) (limit : ℕ) (bytes : List ℕ)
    → old.left ≡ Some bytes → ReadsPast old new limit → limit < length bytes
past_is old new limit bytes e read =
    let was = left_is bytes read.bytes new.left (sym e ∙ read.taken.left) in
    let long = length-append read.bytes was.0 in
    rw was.2 (omega (arith, long, read.more))
