-- The operands of an instruction's parts: numbers are worked out, names are left. This project's own.
use Rattle.std.specs.Prelude.{ℕ, ◌+◌, ◌-◌, ◌&&◌, Bool, true, false, List, [], ◌∷◌, ◌++◌, length, take, drop, fold, Option, Some, None, Ok, Err, if◌then◌else◌}
use Rattle.std.specs.Option.{option_or}
use Rattle.qpu_token.specs.declared.token.Token.{Token}
use Rattle.qpu_token.specs.declared.token.TokenKind.TheVariants as kind
use Rattle.qpu_token.specs.Tokens.{text_of}
use Rattle.qpu_expr.specs.declared.place.Place.{Place}
use Rattle.qpu_expr.specs.declared.symbol.Sign.TheVariants as sign
use Rattle.qpu_expr.specs.declared.symbol.Symbol.{Symbol}
use Rattle.qpu_expr.specs.declared.symbol.Symbol.TheVariants as symbol
use Rattle.qpu_expr.specs.declared.expression.Parsed.{Parsed}
use Rattle.qpu_expr.specs.declared.expression.Parsed.TheVariants.{Whole, Cut, Extra}
use Rattle.qpu_expr.specs.declared.setting.Expression.{Expression}
use Rattle.qpu_expr.specs.declared.operand.Operand.{Operand}
use Rattle.qpu_expr.specs.declared.operand.Between.{Between}
use Rattle.qpu_expr.specs.declared.operand.Between.TheVariants.{Operands, Parts}
use Rattle.qpu_expr.specs.declared.operand.Standing.{Standing}
use Rattle.qpu_expr.specs.declared.operand.Standing.TheVariants as standing
use Rattle.qpu_expr.specs.Symbols.{symbol_of, place_of}
use Rattle.qpu_expr.specs.Registers.{is_register}
use Rattle.qpu_expr.specs.Settings.{Sets, expression}
use Rattle.qpu_expr.specs.Tables.{found}

-- what stands where

abbrev pub names : Symbol → Bool
names symbol.Name = true
names _ = false

abbrev pub points : Symbol → Bool
points (symbol.Sign sign.Dot) = true
points _ = false

abbrev pub is_name : List ℕ → Token → Bool
is_name text token = names (symbol_of text token)

abbrev pub is_dot : List ℕ → Token → Bool
is_dot text token = points (symbol_of text token)

-- a sign between two operands, or between two parts
abbrev pub separates : Symbol → Option Between
separates (symbol.Sign sign.Comma) = Some Operands
separates (symbol.Sign sign.Semicolon) = Some Parts
separates _ = None

abbrev pub begins_with_name : List ℕ → List Token → Bool
begins_with_name text [] = false
begins_with_name text (token ∷ rest) = is_name text token

-- how many tokens the suffixes at the front have, each a `.` and a name
abbrev pub suffixes : List ℕ → List Token → ℕ
suffixes text [] = 0
suffixes text (dot ∷ []) = 0
suffixes text (dot ∷ name ∷ rest) = if is_dot text dot && is_name text name then 2 + suffixes text rest else 0

-- how many tokens an operand has before a suffix at its end
abbrev pub core : List ℕ → List Token → ℕ
core text piece = by_end (drop (length piece - 2) piece)
  where
    by_end : List Token → ℕ
    by_end [] = length piece
    by_end (a ∷ []) = length piece
    by_end (a ∷ b ∷ []) = if is_dot text a && is_name text b then length piece - 2 else length piece
    by_end (a ∷ b ∷ c ∷ rest) = length piece

-- what an operand comes to, without its suffix

abbrev pub operand_left : Operand
operand_left = record { value = None; unknown = None; zero = None }

-- a number; the fault of a name that isn't set has the place of the first token
abbrev pub number_of : Token → Expression → Parsed → Operand
number_of first e (Whole (Ok value)) = record { value = Some value; unknown = if e.unknown then Some (place_of first) else None; zero = None }
number_of first e (Whole (Err place)) = record { value = Some 0; unknown = if e.unknown then Some (place_of first) else None; zero = Some place }
number_of first e Cut = operand_left
number_of first e (Extra place) = operand_left

-- a name alone: a register's is left, also where it is set; so is one that isn't set
abbrev pub named : Sets → List ℕ → Operand
named sets name = if is_register name then operand_left else record { value = found name sets; unknown = None; zero = None }

abbrev pub operand_of : List ℕ → Sets → List Token → Operand
operand_of text sets [] = operand_left
operand_of text sets (first ∷ []) =
    if is_name text first then named sets (text_of text first)
    else number_of first (expression text sets (first ∷ [])) (expression text sets (first ∷ [])).outcome
operand_of text sets (first ∷ second ∷ rest) =
    number_of first (expression text sets (first ∷ second ∷ rest)) (expression text sets (first ∷ second ∷ rest)).outcome

-- the tokens of an operand, with a number in the place of its first token

abbrev pub number_token : Token → ℕ → Token
number_token first value = record first { kind = kind.Number value }

abbrev pub with_value : Option ℕ → ℕ → List Token → List Token
with_value None n tokens = tokens
with_value (Some value) n [] = []
with_value (Some value) n (first ∷ rest) = number_token first value ∷ drop n (first ∷ rest)

-- a line of parts

-- the tokens so far, and the leftmost faults
pub record Worked : Type 0 where
  pub tokens : List Token
  pub unknown : Option Place
  pub zero : Option Place

abbrev pub nothing_worked : Worked
nothing_worked = record { tokens = []; unknown = None; zero = None }

abbrev pub put_tokens : List Token → Worked → Worked
put_tokens tokens done = record { tokens = done.tokens ++ tokens; unknown = done.unknown; zero = done.zero }

abbrev pub noted : Operand → List Token → Worked → Worked
noted operand tokens done = record {
  tokens = done.tokens ++ tokens;
  unknown = option_or done.unknown operand.unknown;
  zero = option_or done.zero operand.zero;
}

unfoldable pub put_operand : List ℕ → Sets → List Token → Worked → Worked
put_operand text sets piece done =
    let operand = operand_of text sets (take (core text piece) piece) in
    noted operand (with_value operand.value (core text piece) piece) done

-- the first operand of a part, behind the mnemonic and its suffixes
unfoldable pub put_first : List ℕ → Sets → List Token → Worked → Worked
put_first text sets [] done = done
put_first text sets (mnemonic ∷ rest) done =
    if is_name text mnemonic
    then put_operand text sets (drop (suffixes text rest) rest) (put_tokens (mnemonic ∷ take (suffixes text rest) rest) done)
    else put_tokens (mnemonic ∷ rest) done

-- tokens between two signs `,` or `;`. A part that doesn't begin with a name has no operands
abbrev pub put_piece : List ℕ → Sets → Standing → List Token → Worked → Worked
put_piece text sets standing.First piece done = put_first text sets piece done
put_piece text sets standing.Operand piece done = put_operand text sets piece done
put_piece text sets standing.Other piece done = put_tokens piece done

-- where the tokens behind a sign stand
abbrev pub standing_behind : List ℕ → Standing → List Token → Between → Standing
standing_behind text standing.First piece Operands = if begins_with_name text piece then standing.Operand else standing.Other
standing_behind text standing.Operand piece Operands = standing.Operand
standing_behind text standing.Other piece Operands = standing.Other
standing_behind text before piece Parts = standing.First

-- up to where a line is worked out: the tokens since the last sign, and what comes before
pub record Working : Type 0 where
  pub standing : Standing
  pub piece : List Token
  pub done : Worked

abbrev pub nothing_read : Working
nothing_read = record { standing = standing.First; piece = []; done = nothing_worked }

-- behind a sign
abbrev pub turned : List ℕ → Sets → Working → Between → Token → Working
turned text sets w between token = record {
  standing = standing_behind text w.standing w.piece between;
  piece = [];
  done = put_tokens (token ∷ []) (put_piece text sets w.standing w.piece w.done);
}

abbrev pub worked_on : List ℕ → Sets → Working → Token → Working
worked_on text sets w token = by_sign (separates (symbol_of text token))
  where
    by_sign : Option Between → Working
    by_sign None = record { standing = w.standing; piece = w.piece ++ token ∷ []; done = w.done }
    by_sign (Some between) = turned text sets w between token

abbrev pub all_worked : List ℕ → Sets → Working → Worked
all_worked text sets w = put_piece text sets w.standing w.piece w.done

-- the tokens of an instruction, with its numbers worked out
unfoldable pub instruction_work : List ℕ → Sets → List Token → Worked
instruction_work text sets tokens = all_worked text sets (fold (worked_on text sets) nothing_read tokens)
