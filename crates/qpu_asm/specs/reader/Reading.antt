-- Reading a part of a line from its front: what is read, and what is left behind it; or the token that
-- isn't due. This project's own.
use Rattle.std.specs.Prelude.{List, [], ◌∷◌, Result, Ok, Err}
use Rattle.std.specs.Borrow.{Bor}
use Rattle.qpu_token.specs.declared.token.Token.{Token}
use Rattle.qpu_asm.specs.declared.placed.Placed.{Placed}

abbrev pub Read : Type 0 → Type 0
Read A = Result (A × List Placed) Token

-- the first token that isn't due ends it
abbrev pub go_on : {A B : Type 0} → Result A Token → (A → Result B Token) → Result B Token
go_on (Ok a) next = next a
go_on (Err token) next = Err token

-- a part behind which nothing is left
abbrev pub ended : {A : Type 0} → A → List Placed → Result A Token
ended a [] = Ok a
ended a (x ∷ xs) = Err x.token

-- what code answers: what is read and what is left
abbrev pub told : {A : Type 0} → Result (A × Bor (List Placed)) Token → Read A
told (Ok x) = Ok (x.0, x.1.now)
told (Err token) = Err token

-- what is left behind a sign
abbrev pub left_behind : Result (Bor (List Placed)) Token → Result (List Placed) Token
left_behind (Ok xs) = Ok xs.now
left_behind (Err token) = Err token
