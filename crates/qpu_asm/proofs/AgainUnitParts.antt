-- A unit's part by its fields.
use Rattle.std.proofs.Common.{◌≡◌, ℕ, Bool, true, false, refl}
use Rattle.std.specs.Prelude.{not}
use Rattle.qpu_word.specs.declared.name.Place.{Place}
use Rattle.qpu_line.specs.declared.operand.Operand.{Operand}
use Rattle.qpu_line.specs.declared.part.Part.{Part as UnitDoes}

pub not_true : (b : Bool) → not b ≡ true → b ≡ false
not_true true e = cc
not_true false e = refl

pub same_part : (p : UnitDoes) (op cond pack : ℕ) (to : Place) (a b : Operand) → op ≡ p.op → cond ≡ p.cond → to ≡ p.to → pack ≡ p.pack → a ≡ p.a → b ≡ p.b
    → record { op = op; cond = cond; to = to; pack = pack; a = a; b = b } ≡ p
same_part p op cond pack to a b e f g h i j = rw (e, f, g, h, i, j) refl
