-- What is read as an expression is what some tree writes.
use Rattle.std.proofs.Common.{◌≡◌, ℕ, ◌+◌, ◌≤◌, Bool, true, false, List, [], ◌∷◌, ◌++◌, refl, ap, sym, subst, ◌∙◌, append-nil, append_assoc, arith}
use Rattle.std.specs.Prelude.{fold, nat_lt}
use Rattle.std.proofs.lemmas.Bool.Decides.{nat_tests}
use Rattle.qpu_expr.specs.declared.place.Place.{Place}
use Rattle.qpu_expr.specs.declared.operator.Operator.{Operator}
use Rattle.qpu_expr.specs.declared.operator.Operator.TheVariants as sign
use Rattle.qpu_expr.specs.declared.expression.Frame.{Frame}
use Rattle.qpu_expr.specs.declared.expression.Frame.TheVariants as frame
use Rattle.qpu_expr.specs.declared.expression.What.{What}
use Rattle.qpu_expr.specs.declared.expression.What.TheVariants as what
use Rattle.qpu_expr.specs.declared.expression.Item.{Item}
use Rattle.qpu_expr.specs.declared.expression.Phase.{Phase}
use Rattle.qpu_expr.specs.declared.expression.Phase.TheVariants.{Due, There, Broken, Behind}
use Rattle.qpu_expr.specs.declared.expression.Parsed.TheVariants.{Whole}
use Rattle.qpu_expr.specs.Operators.{Worth, level, combined}
use Rattle.qpu_expr.specs.Expressions.{Reading, reading, collapse, read_due, read_behind, closed, passed, stepped, ended, finished, parsed_of}
use Rattle.qpu_expr.specs.Trees.{Tree, number, bracketed, minus, not, two, item, spelled_out, worth, Binds, IsTreeOf}
use Rattle.qpu_expr.proofs.TreeLaw.{level_small, stays, goes}

-- how tight what comes on a stack has to bind
abbrev need : List Frame → ℕ
need [] = 0
need (frame.Left v s place ∷ stack) = level s + 1
need (frame.Negate ∷ stack) = 6
need (frame.Invert ∷ stack) = 6
need (frame.Open ∷ stack) = 0

need_small : (stack : List Frame) → need stack ≤ 6
need_small [] = omega arith
need_small (frame.Left v s place ∷ stack) = let small = level_small s in omega arith
need_small (frame.Negate ∷ stack) = omega arith
need_small (frame.Invert ∷ stack) = omega arith
need_small (frame.Open ∷ stack) = omega arith

-- a tree that binds tight enough for a level does so for a looser one
looser : (tree : Tree) (least most : ℕ) → least ≤ most → Binds most tree → Binds least tree
looser (number v place) least most le b = tt
looser (bracketed from a to) least most le b = b
looser (minus place a) least most le b = b
looser (not place a) least most le b = b
looser (two s place a b) least most le binds = (omega (arith, binds.0), binds.1, binds.2)

-- the items that lead to a stack
abbrev Held : List Item → List Frame → Type 0
Held xs [] = xs ≡ []
Held xs (frame.Left v s place ∷ stack) = (front : List Item) × (a : Tree) × (xs ≡ front ++ (spelled_out a ++ item (what.Binary s) place ∷ [])) × (v ≡ worth a) × Binds (level s) a × (need stack ≤ level s) × Held front stack
Held xs (frame.Negate ∷ stack) = (front : List Item) × (place : Place) × (xs ≡ front ++ item (what.Binary sign.Minus) place ∷ []) × Held front stack
Held xs (frame.Invert ∷ stack) = (front : List Item) × (place : Place) × (xs ≡ front ++ item what.Invert place ∷ []) × Held front stack
Held xs (frame.Open ∷ stack) = (front : List Item) × (place : Place) × (xs ≡ front ++ item what.Open place ∷ []) × Held front stack

-- items that lead to a stack, and a tree behind it
record Behold (least : ℕ) (xs : List Item) (p : List Frame × Worth) : Type 0 where
  pub front : List Item
  pub tree : Tree
  pub same : xs ≡ front ++ spelled_out tree
  pub held : Held front p.0
  pub worth_is : p.1 ≡ worth tree
  pub binds : Binds least tree
  pub loose : need p.0 ≤ least

collapsed : (least : ℕ) (stack : List Frame) (front : List Item) (tree : Tree) (most : ℕ) → least ≤ 5 → least ≤ most → most ≤ 6 → Binds most tree → need stack ≤ most → Held front stack → Behold least (front ++ spelled_out tree) (collapse least stack (worth tree))
collapsed least [] front tree most few le top b n h =
    record { front = front; tree = tree; same = refl; held = h; worth_is = refl; binds = looser tree least most le b; loose = omega arith }
collapsed least (frame.Open ∷ stack) front tree most few le top b n h =
    record { front = front; tree = tree; same = refl; held = h; worth_is = refl; binds = looser tree least most le b; loose = omega arith }
collapsed least (frame.Negate ∷ stack) front tree most few le top b n h =
    let same : h.0 ++ spelled_out (minus h.1 tree) ≡ front ++ spelled_out tree = sym (ap (λ ys. ys ++ spelled_out tree) h.2 ∙ append_assoc h.0 (item (what.Binary sign.Minus) h.1 ∷ []) (spelled_out tree)) in
    subst (λ xs. Behold least xs (collapse least (frame.Negate ∷ stack) (worth tree))) same
    (collapsed least stack h.0 (minus h.1 tree) 6 few (omega arith) (omega arith) (looser tree 6 most (omega arith) b) (need_small stack) h.3)
collapsed least (frame.Invert ∷ stack) front tree most few le top b n h =
    let same : h.0 ++ spelled_out (not h.1 tree) ≡ front ++ spelled_out tree = sym (ap (λ ys. ys ++ spelled_out tree) h.2 ∙ append_assoc h.0 (item what.Invert h.1 ∷ []) (spelled_out tree)) in
    subst (λ xs. Behold least xs (collapse least (frame.Invert ∷ stack) (worth tree))) same
    (collapsed least stack h.0 (not h.1 tree) 6 few (omega arith) (omega arith) (looser tree 6 most (omega arith) b) (need_small stack) h.3)
collapsed least (frame.Left v s place ∷ stack) front tree most few le top b n h =
    by_test (nat_lt (level s) least) refl (λ le. collapsed least stack h.0 (two s place h.1 tree) (level s) few le (let small = level_small s in omega arith) (omega arith, h.4, looser tree (level s + 1) most n b) h.5 h.6)
  where
    by_test : (t : Bool) → nat_lt (level s) least ≡ t → (least ≤ level s → Behold least (h.0 ++ spelled_out (two s place h.1 tree)) (collapse least stack (worth (two s place h.1 tree)))) → Behold least (front ++ spelled_out tree) (collapse least (frame.Left v s place ∷ stack) (worth tree))
    by_test true t later =
        let low : level s + 1 ≤ least = grind (arith, nat_tests, t) in
        let small = level_small s in
        subst (λ p. Behold least (front ++ spelled_out tree) p) (sym (stays s place v stack least (worth tree) low few))
        (record { front = front; tree = tree; same = refl; held = h; worth_is = refl; binds = looser tree least most le b; loose = low })
    by_test false t later =
        let high : least ≤ level s = grind (arith, nat_tests, t) in
        let same : h.0 ++ spelled_out (two s place h.1 tree) ≡ front ++ spelled_out tree =
        sym (ap (λ ys. ys ++ spelled_out tree) h.2 ∙ (append_assoc h.0 (spelled_out h.1 ++ item (what.Binary s) place ∷ []) (spelled_out tree) ∙ ap (λ ys. h.0 ++ ys) (append_assoc (spelled_out h.1) (item (what.Binary s) place ∷ []) (spelled_out tree)))) in
        let same_worth : collapse least stack (worth (two s place h.1 tree)) ≡ collapse least (frame.Left v s place ∷ stack) (worth tree) =
        sym (goes s place v (worth tree) stack least high ∙ ap (λ w. collapse least stack (combined s place w (worth tree))) h.3) in
        subst (λ xs. Behold least xs (collapse least (frame.Left v s place ∷ stack) (worth tree))) same
        (subst (λ p. Behold least (h.0 ++ spelled_out (two s place h.1 tree)) p) same_worth (later high))

-- the items that lead to a phase and a stack
abbrev Spelled : List Item → Phase → List Frame → Type 0
Spelled xs Due stack = Held xs stack
Spelled xs (There v) stack = (front : List Item) × (a : Tree) × (xs ≡ front ++ spelled_out a) × (v ≡ worth a) × Binds 6 a × Held front stack
Spelled xs Broken stack = Unit {0}
Spelled xs (Behind place) stack = Unit {0}

abbrev SpelledBy : List Item → Reading → Type 0
SpelledBy xs r = Spelled xs r.phase r.stack

due_step : (w : What) (place : Place) (xs : List Item) (stack : List Frame) → Held xs stack → SpelledBy (xs ++ item w place ∷ []) (read_due w stack)
due_step (what.Value v) place xs stack h = (xs, number v place, refl, refl, tt, h)
due_step (what.Binary sign.Minus) place xs stack h = (xs, place, refl, h)
due_step (what.Binary sign.Times) place xs stack h = tt
due_step (what.Binary sign.Over) place xs stack h = tt
due_step (what.Binary sign.Rest) place xs stack h = tt
due_step (what.Binary sign.Plus) place xs stack h = tt
due_step (what.Binary sign.Left) place xs stack h = tt
due_step (what.Binary sign.Right) place xs stack h = tt
due_step (what.Binary sign.And) place xs stack h = tt
due_step (what.Binary sign.Xor) place xs stack h = tt
due_step (what.Binary sign.Or) place xs stack h = tt
due_step what.Invert place xs stack h = (xs, place, refl, h)
due_step what.Open place xs stack h = (xs, place, refl, h)
due_step what.Close place xs stack h = tt
due_step what.Other place xs stack h = tt

-- a bracket that closes
close_step : (place : Place) (xs : List Item) (p : List Frame × Worth) → Behold 0 xs p → SpelledBy (xs ++ item what.Close place ∷ []) (closed place p)
close_step place xs ([], v) c = tt
close_step place xs (frame.Left w s q ∷ stack, v) c = tt
close_step place xs (frame.Negate ∷ stack, v) c = tt
close_step place xs (frame.Invert ∷ stack, v) c = tt
close_step place xs (frame.Open ∷ stack, v) c =
    let open_place : Place = c.held.1 in
    let same : xs ++ item what.Close place ∷ [] ≡ c.held.0 ++ spelled_out (bracketed open_place c.tree place) =
    ap (λ ys. ys ++ item what.Close place ∷ []) (c.same ∙ ap (λ ys. ys ++ spelled_out c.tree) c.held.2)
    ∙ (append_assoc (c.held.0 ++ item what.Open open_place ∷ []) (spelled_out c.tree) (item what.Close place ∷ [])
    ∙ append_assoc c.held.0 (item what.Open open_place ∷ []) (spelled_out c.tree ++ item what.Close place ∷ [])) in
    (c.held.0, bracketed open_place c.tree place, same, c.worth_is, c.binds, c.held.3)

pass_step : (place : Place) (xs : List Item) (p : List Frame × Worth) → SpelledBy xs (passed place p)
pass_step place xs ([], v) = tt
pass_step place xs (f ∷ stack, v) = tt

-- a sign behind a number
sign_step : (s : Operator) (place : Place) (xs : List Item) (p : List Frame × Worth) → Behold (level s) xs p → Held (xs ++ item (what.Binary s) place ∷ []) (frame.Left p.1 s place ∷ p.0)
sign_step s place xs p c =
    (c.front, c.tree, ap (λ ys. ys ++ item (what.Binary s) place ∷ []) c.same ∙ append_assoc c.front (spelled_out c.tree) (item (what.Binary s) place ∷ []), c.worth_is, c.binds, c.loose, c.held)

there_step : (w : What) (place : Place) (front : List Item) (a : Tree) (stack : List Frame) → Binds 6 a → Held front stack → SpelledBy ((front ++ spelled_out a) ++ item w place ∷ []) (read_behind w place stack (worth a))
there_step (what.Binary s) place front a stack b h =
    sign_step s place (front ++ spelled_out a) (collapse (level s) stack (worth a)) (collapsed (level s) stack front a 6 (level_small s) (let small = level_small s in omega arith) (omega arith) b (need_small stack) h)
there_step what.Close place front a stack b h =
    close_step place (front ++ spelled_out a) (collapse 0 stack (worth a)) (collapsed 0 stack front a 6 (omega arith) (omega arith) (omega arith) b (need_small stack) h)
there_step (what.Value v) place front a stack b h = pass_step place _ (collapse 0 stack (worth a))
there_step what.Invert place front a stack b h = pass_step place _ (collapse 0 stack (worth a))
there_step what.Open place front a stack b h = pass_step place _ (collapse 0 stack (worth a))
there_step what.Other place front a stack b h = pass_step place _ (collapse 0 stack (worth a))

step : (phase : Phase) (stack : List Frame) (xs : List Item) (i : Item) → Spelled xs phase stack → SpelledBy (xs ++ i ∷ []) (stepped (reading stack phase) i)
step Due stack xs i h = due_step i.what i.place xs stack h
step (There v) stack xs i h =
    subst (λ ys. SpelledBy (ys ++ i ∷ []) (read_behind i.what i.place stack v)) (sym h.2)
    (subst (λ w. SpelledBy ((h.0 ++ spelled_out h.1) ++ i ∷ []) (read_behind i.what i.place stack w)) (sym h.3) (there_step i.what i.place h.0 h.1 stack h.4 h.5))
step Broken stack xs i h = tt
step (Behind place) stack xs i h = tt

all_steps : (ys xs : List Item) (r : Reading) → SpelledBy xs r → SpelledBy (xs ++ ys) (fold stepped r ys)
all_steps [] xs r h = subst (λ zs. SpelledBy zs r) (sym (append-nil xs)) h
all_steps (y ∷ ys) xs r h =
    subst (λ zs. SpelledBy zs (fold stepped (stepped r y) ys)) (append_assoc xs (y ∷ []) ys)
    (all_steps ys (xs ++ y ∷ []) (stepped r y) (step r.phase r.stack xs y h))

-- the end
at_end : (xs : List Item) (w : Worth) (p : List Frame × Worth) → Behold 0 xs p → ended p ≡ Whole w → IsTreeOf xs w
at_end xs w ([], v) c e =
    let same : xs ≡ spelled_out c.tree = c.same ∙ ap (λ ys. ys ++ spelled_out c.tree) c.held in
    let same_worth : v ≡ w = cc in
    record { tree = c.tree; binds = c.binds; written_is = sym same; worth_is = sym c.worth_is ∙ same_worth }
at_end xs w (f ∷ stack, v) c e = cc

whole_tree : (phase : Phase) (stack : List Frame) (xs : List Item) (w : Worth) → Spelled xs phase stack → finished (reading stack phase) ≡ Whole w → IsTreeOf xs w
whole_tree Due stack xs w h e = cc
whole_tree Broken stack xs w h e = cc
whole_tree (Behind place) stack xs w h e = cc
whole_tree (There v) stack xs w h e =
    subst (λ ys. IsTreeOf ys w) (sym h.2)
    (at_end (h.0 ++ spelled_out h.1) w (collapse 0 stack (worth h.1)) (collapsed 0 stack h.0 h.1 6 (omega arith) (omega arith) (omega arith) h.4 (need_small stack) h.5)
    (ap (λ u. ended (collapse 0 stack u)) (sym h.3) ∙ e))

pub only_trees : (items : List Item) (w : Worth) → parsed_of items ≡ Whole w → IsTreeOf items w
only_trees items w e =
    let r : Reading = fold stepped (reading [] Due) items in
    whole_tree r.phase r.stack items w (all_steps items [] (reading [] Due) refl) e
