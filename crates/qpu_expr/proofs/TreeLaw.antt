-- What the items of a tree leave on the stack.
use Rattle.std.proofs.Common.{◌≡◌, ℕ, ◌+◌, ◌≤◌, true, false, List, [], ◌∷◌, Ok, refl, ap, ◌∙◌, arith}
use Rattle.std.specs.Prelude.{fold, nat_lt}
use Rattle.std.proofs.lemmas.List.Sums.{fold-append}
use Rattle.std.proofs.lemmas.Bool.Decides.{nat_tests}
use Rattle.qpu_expr.specs.declared.place.Place.{Place}
use Rattle.qpu_expr.specs.declared.operator.Operator.{Operator}
use Rattle.qpu_expr.specs.declared.operator.Operator.TheVariants as sign
use Rattle.qpu_expr.specs.declared.expression.Frame.{Frame}
use Rattle.qpu_expr.specs.declared.expression.Frame.TheVariants as frame
use Rattle.qpu_expr.specs.declared.expression.What.TheVariants.{Binary, Close}
use Rattle.qpu_expr.specs.declared.expression.Item.{Item}
use Rattle.qpu_expr.specs.declared.expression.Phase.TheVariants.{Due, There}
use Rattle.qpu_expr.specs.declared.expression.Parsed.TheVariants.{Whole}
use Rattle.qpu_expr.specs.Operators.{Worth, level, combined}
use Rattle.qpu_expr.specs.Expressions.{Reading, reading, taken, collapse, closed, stepped, ended, finished, parsed_of}
use Rattle.qpu_expr.specs.Trees.{Tree, number, bracketed, minus, not, two, item, spelled_out, worth, Binds}

-- items read one after another
abbrev pub run : List Item → Reading → Reading
run xs r = fold stepped r xs

-- a stack of which nothing binds as tight as a level
abbrev pub Waits : ℕ → List Frame → Type 0
Waits least stack = (m : ℕ) (v : Worth) → least ≤ m → m ≤ 5 → collapse m stack v ≡ (stack, v)

-- items that lead to a number which, up to a level, comes to a worth on the stack that stood before
pub record Reads (least : ℕ) (xs : List Item) (stack : List Frame) (v : Worth) : Type 0 where
  pub top : List Frame
  pub last : Worth
  pub runs : run xs (reading stack Due) ≡ reading top (There last)
  pub comes : (k : ℕ) → k ≤ least → k ≤ 5 → collapse k top last ≡ collapse k stack v

pub level_small : (sign : Operator) → level sign ≤ 5
level_small sign.Times = omega arith
level_small sign.Over = omega arith
level_small sign.Rest = omega arith
level_small sign.Plus = omega arith
level_small sign.Minus = omega arith
level_small sign.Left = omega arith
level_small sign.Right = omega arith
level_small sign.And = omega arith
level_small sign.Xor = omega arith
level_small sign.Or = omega arith

-- a frame with a looser sign stays
pub stays : (sign : Operator) (place : Place) (a : Worth) (stack : List Frame) → Waits (level sign + 1) (frame.Left a sign place ∷ stack)
stays sign place a stack m v low high =
    let t : nat_lt (level sign) m ≡ true = grind (arith, nat_tests) in
    rw (collapse, taken, t) refl

-- a frame with a sign at least as tight is taken
pub goes : (sign : Operator) (place : Place) (a v : Worth) (stack : List Frame) (m : ℕ) → m ≤ level sign → collapse m (frame.Left a sign place ∷ stack) v ≡ collapse m stack (combined sign place a v)
goes sign place a v stack m low =
    let t : nat_lt (level sign) m ≡ false = grind (arith, nat_tests) in
    rw (collapse, taken, t) refl

-- a sign behind a number waits with what it takes on its left
waits : (sign : Operator) (place : Place) (top stack : List Frame) (last v : Worth) (ys : List Item) → collapse (level sign) top last ≡ (stack, v) → run (item (Binary sign) place ∷ ys) (reading top (There last)) ≡ run ys (reading (frame.Left v sign place ∷ stack) Due)
waits sign place top stack last v ys e = ap (λ (p : List Frame × Worth). run ys (reading (frame.Left p.1 sign place ∷ p.0) Due)) e

pub reads : (tree : Tree) (least : ℕ) (stack : List Frame) → Binds least tree → Waits least stack → Reads least (spelled_out tree) stack (worth tree)
reads (number v place) least stack b w = record { top = stack; last = Ok v; runs = refl; comes = λ k low high. refl }
reads (bracketed from a to) least stack b w =
    let r = reads a 0 (frame.Open ∷ stack) b (λ m v low high. refl) in
    record {
      top = stack;
      last = worth a;
      runs = rw (fold-append stepped (reading (frame.Open ∷ stack) Due) (spelled_out a) (item Close to ∷ []), r.runs) (ap (closed to) (r.comes 0 (omega arith) (omega arith)));
      comes = λ k low high. refl;
    }
reads (minus place a) least stack b w =
    let r = reads a 6 (frame.Negate ∷ stack) b (λ m v low high. absurd (omega arith)) in
    record { top = r.top; last = r.last; runs = r.runs; comes = λ k low high. r.comes k (omega arith) high }
reads (not place a) least stack b w =
    let r = reads a 6 (frame.Invert ∷ stack) b (λ m v low high. absurd (omega arith)) in
    record { top = r.top; last = r.last; runs = r.runs; comes = λ k low high. r.comes k (omega arith) high }
reads (two sign place a b) least stack binds w =
    let left = reads a (level sign) stack binds.1 (λ m v low high. w m v (omega arith) high) in
    let right = reads b (level sign + 1) (frame.Left (worth a) sign place ∷ stack) binds.2 (stays sign place (worth a) stack) in
    let small = level_small sign in
    let emptied : collapse (level sign) left.top left.last ≡ (stack, worth a) = left.comes (level sign) (omega arith) small ∙ w (level sign) (worth a) binds.0 small in
    record {
      top = right.top;
      last = right.last;
      runs = rw (fold-append stepped (reading stack Due) (spelled_out a) (item (Binary sign) place ∷ spelled_out b), left.runs) (waits sign place left.top stack left.last (worth a) (spelled_out b) emptied ∙ right.runs);
      comes = λ k low high. right.comes k (omega arith) high ∙ goes sign place (worth a) (worth b) stack k (omega arith);
    }

pub reads_trees : (tree : Tree) → Binds 0 tree → parsed_of (spelled_out tree) ≡ Whole (worth tree)
reads_trees tree binds =
    let r = reads tree 0 [] binds (λ m v low high. refl) in
    ap finished r.runs ∙ ap ended (r.comes 0 (omega arith) (omega arith))
