-- Items of a schedule can be told apart and split off a text.
use Rattle.std.proofs.Common.{◌≡◌, ℕ, ◌+◌, ◌%◌, ◌^◌, ◌<◌, ◌≤◌, Bool, true, false, List, [], ◌∷◌, ◌++◌, length, refl, ap, sym, ◌∙◌, arith, append_assoc, codes}
use Rattle.std.specs.Prelude.{nat_le, ◌&&◌, flat_map, decimal}
use Rattle.std.specs.List.{list_all, AllByRecursion}
use Rattle.std.proofs.lemmas.List.{append_cancel_left}
use Rattle.std.proofs.lemmas.Bool.Decides.{nat_tests}
use Rattle.std.proofs.lemmas.Fmt.{decimal_by_steps, decimal_injective}
use Rattle.qpu_io.specs.Text.{joined, in_turn}
use Rattle.qpu_machine.specs.declared.actor.Actor.{Actor}
use Rattle.qpu_machine.specs.declared.actor.Actor.TheVariants.{Exec, Load, Store, Fetch}
use Rattle.qpu_machine.specs.declared.journal.Run.{Run}
use Rattle.qpu_record.specs.declared.parts.Version.TheVariants.{Second}
use Rattle.qpu_record.specs.Record.{item_text, opening_line, missing_line_end, merged, runs_text, record_text}
use Rattle.qpu_record.specs.Apart.{IsActorOf64, IsRunOf64, SpellsOneSchedule}

-- a decimal digit
abbrev is_digit : ℕ → Bool
is_digit b = nat_le 48 b && nat_le b 57

one_digit : (n : ℕ) → n < 10 → is_digit (48 + n) ≡ true
one_digit n low = grind (arith, nat_tests)

all_append : (xs : List ℕ) (b : ℕ) → list_all is_digit xs ≡ true → is_digit b ≡ true → list_all is_digit (xs ++ b ∷ []) ≡ true
all_append [] b all last = rw last refl
all_append (x ∷ xs) b all last = both (is_digit x) (list_all is_digit xs) (list_all is_digit (xs ++ b ∷ [])) all (λ more. all_append xs b more last)
  where
    both : (p q r : Bool) → (p && q) ≡ true → (q ≡ true → r ≡ true) → (p && r) ≡ true
    both true q r h next = next h
    both false q r h next = absurd (cc)

-- a number is spelled by digits
all_digits : (n : ℕ) → n < 2 ^ 64 → list_all is_digit (decimal n) ≡ true
all_digits = decimal_by_steps (λ n ds. list_all is_digit ds ≡ true)
    (λ n low. rw (one_digit n low) refl)
    (λ n ds high all. all_append ds (48 + n % 10) all (one_digit (n % 10) (omega arith)))

heads : (a b : ℕ) (xs ys : List ℕ) → a ∷ xs ≡ b ∷ ys → (a ≡ b) × (xs ≡ ys)
heads a b xs ys e = (cc, cc)

left_and : (p q : Bool) → (p && q) ≡ true → p ≡ true
left_and true q h = refl
left_and false q h = absurd (cc)

right_and : (p q : Bool) → (p && q) ≡ true → q ≡ true
right_and true q h = h
right_and false q h = absurd (cc)

digit_and_not : (a b : ℕ) → a ≡ b → is_digit a ≡ true → is_digit b ≡ false → ⊥
digit_and_not a b e digit other = let f : is_digit b ≡ true = sym (ap is_digit e) ∙ digit in let g : true ≡ false = sym f ∙ other in cc

-- digits end where the first other byte stands
split : (xs ys : List ℕ) (c d : ℕ) (r s : List ℕ) → list_all is_digit xs ≡ true → list_all is_digit ys ≡ true → is_digit c ≡ false → is_digit d ≡ false
    → xs ++ c ∷ r ≡ ys ++ d ∷ s → (xs ≡ ys) × (c ∷ r ≡ d ∷ s)
split [] [] c d r s allx ally nc nd e = (refl, e)
split [] (y ∷ ys) c d r s allx ally nc nd e =
    absurd (digit_and_not y c (sym (heads c y r (ys ++ d ∷ s) e).0) (left_and (is_digit y) _ ally) nc)
split (x ∷ xs) [] c d r s allx ally nc nd e =
    absurd (digit_and_not x d (heads x d (xs ++ c ∷ r) s e).0 (left_and (is_digit x) _ allx) nd)
split (x ∷ xs) (y ∷ ys) c d r s allx ally nc nd e =
    let h = heads x y (xs ++ c ∷ r) (ys ++ d ∷ s) e in
    let t = split xs ys c d r s (right_and (is_digit x) _ allx) (right_and (is_digit y) _ ally) nc nd h.1 in
    (same x y xs ys h.0 t.0, t.1)
  where
    same : (x y : ℕ) (xs ys : List ℕ) → x ≡ y → xs ≡ ys → x ∷ xs ≡ y ∷ ys
    same x y xs ys p q = cc

-- numbers in front of a byte that is no digit
number_then : (n m c : ℕ) (r s : List ℕ) → n < 2 ^ 64 → m < 2 ^ 64 → is_digit c ≡ false
    → decimal n ++ c ∷ r ≡ decimal m ++ c ∷ s → (n ≡ m) × (r ≡ s)
number_then n m c r s fn fm nc e =
    let t = split (decimal n) (decimal m) c c r s (all_digits n fn) (all_digits m fm) nc nc e in
    (decimal_injective n m fn fm t.0, (heads c c r s t.1).1)

-- the numbers of an item of two, and of three
two_text : ℕ → ℕ → List ℕ → List ℕ
two_text q n r = decimal q ++ (32 ∷ (decimal n ++ (10 ∷ r)))

two_apart : (q p n m : ℕ) (r s : List ℕ) → q < 2 ^ 64 → p < 2 ^ 64 → n < 2 ^ 64 → m < 2 ^ 64
    → two_text q n r ≡ two_text p m s → (q ≡ p) × (n ≡ m) × (r ≡ s)
unfolding two_text
two_apart q p n m r s fq fp fn fm e =
    let a = number_then q p 32 _ _ fq fp refl e in
    let b = number_then n m 10 r s fn fm refl a.1 in
    (a.0, b.0, b.1)

abbrev run_of : Actor → ℕ → Run
run_of actor n = record { actor = actor; count = n }

letter : Actor → ℕ
letter (Exec q) = 113
letter (Load q) = 108
letter (Store q) = 115
letter (Fetch q unit) = 116

numbers : Actor → ℕ → List ℕ → List ℕ
numbers (Exec q) n r = two_text q n r
numbers (Load q) n r = two_text q n r
numbers (Store q) n r = two_text q n r
numbers (Fetch q unit) n r = decimal q ++ (32 ∷ two_text unit n r)

regroup : (q n r : List ℕ) → (q ++ (32 ∷ (n ++ (10 ∷ [])))) ++ r ≡ q ++ (32 ∷ (n ++ (10 ∷ r)))
regroup q n r = simp append_assoc

regroup3 : (q u n r : List ℕ) → (q ++ (32 ∷ (u ++ (32 ∷ (n ++ (10 ∷ [])))))) ++ r ≡ q ++ (32 ∷ (u ++ (32 ∷ (n ++ (10 ∷ r)))))
regroup3 q u n r = simp append_assoc

-- an item begins with its letter
item_is : (actor : Actor) (n : ℕ) (r : List ℕ) → item_text (run_of actor n) ++ r ≡ letter actor ∷ (32 ∷ numbers actor n r)
unfolding letter numbers two_text
item_is (Exec q) n r = ap (λ z. 113 ∷ (32 ∷ z)) (regroup (decimal q) (decimal n) r)
item_is (Load q) n r = ap (λ z. 108 ∷ (32 ∷ z)) (regroup (decimal q) (decimal n) r)
item_is (Store q) n r = ap (λ z. 115 ∷ (32 ∷ z)) (regroup (decimal q) (decimal n) r)
item_is (Fetch q unit) n r = ap (λ z. 116 ∷ (32 ∷ z)) (regroup3 (decimal q) (decimal unit) (decimal n) r)

-- items with one letter and the same bytes are one
same_numbers : (a b : Actor) (n m : ℕ) (r s : List ℕ) → IsActorOf64 a → IsActorOf64 b → n < 2 ^ 64 → m < 2 ^ 64
    → letter a ≡ letter b → numbers a n r ≡ numbers b m s → (run_of a n ≡ run_of b m) × (r ≡ s)
unfolding letter numbers
same_numbers (Exec q) (Exec p) n m r s fa fb fn fm l e = let t = two_apart q p n m r s fa fb fn fm e in (exec q p n m t.0 t.1, t.2)
  where
    exec : (q p n m : ℕ) → q ≡ p → n ≡ m → run_of (Exec q) n ≡ run_of (Exec p) m
    exec q p n m a b = rw (a, b) refl
same_numbers (Load q) (Load p) n m r s fa fb fn fm l e = let t = two_apart q p n m r s fa fb fn fm e in (load q p n m t.0 t.1, t.2)
  where
    load : (q p n m : ℕ) → q ≡ p → n ≡ m → run_of (Load q) n ≡ run_of (Load p) m
    load q p n m a b = rw (a, b) refl
same_numbers (Store q) (Store p) n m r s fa fb fn fm l e = let t = two_apart q p n m r s fa fb fn fm e in (store q p n m t.0 t.1, t.2)
  where
    store : (q p n m : ℕ) → q ≡ p → n ≡ m → run_of (Store q) n ≡ run_of (Store p) m
    store q p n m a b = rw (a, b) refl
same_numbers (Fetch q u) (Fetch p v) n m r s fa fb fn fm l e =
    let h = number_then q p 32 _ _ fa.0 fb.0 refl e in
    let t = two_apart u v n m r s fa.1 fb.1 fn fm h.1 in
    (fetch q p u v n m h.0 t.0 t.1, t.2)
  where
    fetch : (q p u v n m : ℕ) → q ≡ p → u ≡ v → n ≡ m → run_of (Fetch q u) n ≡ run_of (Fetch p v) m
    fetch q p u v n m a b c = rw (a, b, c) refl
same_numbers (Exec q) (Load p) n m r s fa fb fn fm l e = absurd (omega (arith, l))
same_numbers (Exec q) (Store p) n m r s fa fb fn fm l e = absurd (omega (arith, l))
same_numbers (Exec q) (Fetch p v) n m r s fa fb fn fm l e = absurd (omega (arith, l))
same_numbers (Load q) (Exec p) n m r s fa fb fn fm l e = absurd (omega (arith, l))
same_numbers (Load q) (Store p) n m r s fa fb fn fm l e = absurd (omega (arith, l))
same_numbers (Load q) (Fetch p v) n m r s fa fb fn fm l e = absurd (omega (arith, l))
same_numbers (Store q) (Exec p) n m r s fa fb fn fm l e = absurd (omega (arith, l))
same_numbers (Store q) (Load p) n m r s fa fb fn fm l e = absurd (omega (arith, l))
same_numbers (Store q) (Fetch p v) n m r s fa fb fn fm l e = absurd (omega (arith, l))
same_numbers (Fetch q u) (Exec p) n m r s fa fb fn fm l e = absurd (omega (arith, l))
same_numbers (Fetch q u) (Load p) n m r s fa fb fn fm l e = absurd (omega (arith, l))
same_numbers (Fetch q u) (Store p) n m r s fa fb fn fm l e = absurd (omega (arith, l))

same_item : (x y : Run) (r s : List ℕ) → IsRunOf64 x → IsRunOf64 y → item_text x ++ r ≡ item_text y ++ s → (x ≡ y) × (r ≡ s)
same_item x y r s fx fy e =
    let f : letter x.actor ∷ (32 ∷ numbers x.actor x.count r) ≡ letter y.actor ∷ (32 ∷ numbers y.actor y.count s) =
    sym (item_is x.actor x.count r) ∙ e ∙ item_is y.actor y.count s in
    let h = heads _ _ _ _ f in
    let k = heads _ _ _ _ h.1 in
    same_numbers x.actor y.actor x.count y.count r s fx.0 fy.0 fx.1 fy.1 h.0 k.1

letter_range : (a : Actor) → 108 ≤ letter a
unfolding letter
letter_range (Exec q) = omega arith
letter_range (Load q) = omega arith
letter_range (Store q) = omega arith
letter_range (Fetch q u) = omega arith

-- the line that ends a record is no item
abbrev end_text : List ℕ
end_text = codes "endrecord\n"

no_item : (y : Run) (s : List ℕ) → end_text ≡ item_text y ++ s → ⊥
no_item y s e =
    let h = heads 101 (letter y.actor) _ _ (e ∙ item_is y.actor y.count s) in
    absurd (omega (arith, h.0, letter_range y.actor))

same_items : (xs ys : List Run) → AllByRecursion IsRunOf64 xs → AllByRecursion IsRunOf64 ys → flat_map item_text xs ++ end_text ≡ flat_map item_text ys ++ end_text → xs ≡ ys
same_items [] [] fx fy e = refl
same_items [] (y ∷ ys) fx fy e = absurd (no_item y (flat_map item_text ys ++ end_text) (e ∙ append_assoc (item_text y) (flat_map item_text ys) end_text))
same_items (x ∷ xs) [] fx fy e = absurd (no_item x (flat_map item_text xs ++ end_text) (sym e ∙ append_assoc (item_text x) (flat_map item_text xs) end_text))
same_items (x ∷ xs) (y ∷ ys) fx fy e =
    let t = same_item x y (flat_map item_text xs ++ end_text) (flat_map item_text ys ++ end_text) fx.0 fy.0
    (sym (append_assoc (item_text x) (flat_map item_text xs) end_text) ∙ e ∙ append_assoc (item_text y) (flat_map item_text ys) end_text) in
    one x y xs ys t.0 (same_items xs ys fx.1 fy.1 t.1)
  where
    one : (x y : Run) (xs ys : List Run) → x ≡ y → xs ≡ ys → x ∷ xs ≡ y ∷ ys
    one x y xs ys a b = rw (a, b) refl

-- runs with one record are the same
same_runs : (job : List ℕ) (xs ys : List Run) → AllByRecursion IsRunOf64 xs → AllByRecursion IsRunOf64 ys → runs_text job xs ≡ runs_text job ys → xs ≡ ys
unfolding runs_text in_turn
same_runs job xs ys fx fy e =
    let one = append_cancel_left (opening_line Second) _ _ e in
    let two = append_cancel_left (joined (codes "job " ∷ decimal (length job) ∷ codes "\n" ∷ [])) _ _ one in
    let three = append_cancel_left job _ _ two in
    let four = append_cancel_left (missing_line_end job) _ _ three in
    let five = append_cancel_left (codes "schedule\n") _ _ four in
    same_items xs ys fx fy five

-- a record spells one schedule
pub spells_one_schedule : SpellsOneSchedule
unfolding record_text
spells_one_schedule job s t fs ft e = same_runs job (merged s) (merged t) fs ft e
