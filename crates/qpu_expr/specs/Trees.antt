-- The grammar of expressions, as trees with the precedence of their signs, and its law: the items that
-- a tree writes are read as a whole expression with the tree's worth. This project's own.
use Rattle.std.specs.Prelude.{◌≡◌, ℕ, ◌+◌, ◌≤◌, List, [], ◌∷◌, ◌++◌, Ok}
use Rattle.qpu_expr.specs.declared.place.Place.{Place}
use Rattle.qpu_expr.specs.declared.operator.Operator.{Operator}
use Rattle.qpu_expr.specs.declared.operator.Operator.TheVariants as sign
use Rattle.qpu_expr.specs.declared.expression.What.{What}
use Rattle.qpu_expr.specs.declared.expression.What.TheVariants.{Value, Binary, Invert, Open, Close}
use Rattle.qpu_expr.specs.declared.expression.Item.{Item}
use Rattle.qpu_expr.specs.declared.expression.Parsed.TheVariants.{Whole}
use Rattle.qpu_expr.specs.Operators.{Worth, level, combined, negated, inverted}
use Rattle.qpu_expr.specs.Expressions.{parsed_of}

-- each item has its place
pub data Tree : Type 0 where
  number : ℕ → Place → Tree
  bracketed : Place → Tree → Place → Tree
  minus : Place → Tree → Tree
  not : Place → Tree → Tree
  two : Operator → Place → Tree → Tree → Tree

abbrev pub item : What → Place → Item
item what place = record { what = what; place = place }

-- the items of a tree
abbrev pub spelled_out : Tree → List Item
spelled_out (number v place) = item (Value v) place ∷ []
spelled_out (bracketed from a to) = item Open from ∷ (spelled_out a ++ item Close to ∷ [])
spelled_out (minus place a) = item (Binary sign.Minus) place ∷ spelled_out a
spelled_out (not place a) = item Invert place ∷ spelled_out a
spelled_out (two sign place a b) = spelled_out a ++ (item (Binary sign) place ∷ spelled_out b)

abbrev pub worth : Tree → Worth
worth (number v place) = Ok v
worth (bracketed from a to) = worth a
worth (minus place a) = negated (worth a)
worth (not place a) = inverted (worth a)
worth (two sign place a b) = combined sign place (worth a) (worth b)

-- above all signs between two numbers
abbrev pub TIGHTEST : ℕ
TIGHTEST = 6

-- a tree that needs no bracket where signs bind at least as tight as a level: signs of one level go from
-- the left, and `-` and `~` before a number bind tighter than all others
abbrev pub Binds : ℕ → Tree → Type 0
Binds least (number v place) = Unit {0}
Binds least (bracketed from a to) = Binds 0 a
Binds least (minus place a) = Binds TIGHTEST a
Binds least (not place a) = Binds TIGHTEST a
Binds least (two sign place a b) = (least ≤ level sign) × Binds (level sign) a × Binds (level sign + 1) b

-- the items of a tree are an expression with its worth
abbrev pub ReadsTrees : Type 0
ReadsTrees = (tree : Tree) → Binds 0 tree → parsed_of (spelled_out tree) ≡ Whole (worth tree)

-- some tree that needs no bracket writes items, and has a worth
pub record IsTreeOf (items : List Item) (w : Worth) : Type 0 where
  pub tree : Tree
  pub binds : Binds 0 tree
  pub written_is : spelled_out tree ≡ items
  pub worth_is : worth tree ≡ w

-- what is read as an expression is what some tree writes, with its worth
abbrev pub ReadsOnlyTrees : Type 0
ReadsOnlyTrees = (items : List Item) (w : Worth) → parsed_of items ≡ Whole w → IsTreeOf items w
