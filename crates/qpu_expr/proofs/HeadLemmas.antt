-- The first tokens of a line tell what begins it.
use Rattle.std.proofs.Common.{◌≡◌, ℕ, Bool, true, false, List, [], ◌∷◌, take, Option, Some, None, refl}
use Rattle.std.specs.Prelude.{◌&&◌, is_some, if◌then◌else◌}
use Rattle.qpu_token.specs.declared.token.Token.{Token}
use Rattle.qpu_expr.specs.Operands.{is_name}
use Rattle.qpu_expr.specs.Lines.{is_colon, behind_label, head_of}

by_label : (text : List ℕ) (a b c d : Token) (rest : List Token) (l : Bool) → (let label : Option Token = if l then Some b else None in head_of text (if is_some label then c ∷ d ∷ [] else a ∷ b ∷ c ∷ d ∷ []) ≡ head_of text (if is_some label then c ∷ d ∷ rest else a ∷ b ∷ c ∷ d ∷ rest))
unfolding head_of
by_label text a b c d rest true = refl
by_label text a b c d rest false = refl

pub head_front : (text : List ℕ) (tokens : List Token) → head_of text (behind_label text (take 4 tokens)) ≡ head_of text (behind_label text tokens)
unfolding head_of
head_front text [] = refl
head_front text (a ∷ []) = refl
head_front text (a ∷ b ∷ []) = refl
head_front text (a ∷ b ∷ c ∷ []) = refl
head_front text (a ∷ b ∷ c ∷ d ∷ rest) = by_label text a b c d rest (is_colon text a && is_name text b)
