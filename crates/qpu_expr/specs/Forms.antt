-- Whether tokens are an expression, told without their numbers: by what is due and how many brackets are
-- open. This project's own.
use Rattle.std.specs.Prelude.{ℕ, zero, suc, ◌+◌, ◌&&◌, ◌||◌, Bool, true, false, List}
use Rattle.qpu_token.specs.declared.token.Token.{Token}
use Rattle.qpu_expr.specs.declared.operator.Operator.TheVariants as sign
use Rattle.qpu_expr.specs.declared.expression.What.{What}
use Rattle.qpu_expr.specs.declared.expression.What.TheVariants as what
use Rattle.qpu_expr.specs.declared.form.Form.{Form}
use Rattle.qpu_expr.specs.declared.form.Form.TheVariants.{Due, There, Broken}
use Rattle.qpu_expr.specs.declared.form.Outline.{Outline}
use Rattle.qpu_expr.specs.Settings.{Sets, item_of, is_unknown}

-- an item where a number is due
abbrev pub due_read : ℕ → What → Form
due_read depth (what.Value v) = There depth
due_read depth (what.Binary sign.Minus) = Due depth
due_read depth what.Invert = Due depth
due_read depth what.Open = Due (depth + 1)
due_read depth _ = Broken

abbrev pub bracket_closed : ℕ → Form
bracket_closed zero = Broken
bracket_closed (suc depth) = There depth

-- an item behind a number
abbrev pub behind_read : ℕ → What → Form
behind_read depth (what.Binary s) = Due depth
behind_read depth what.Close = bracket_closed depth
behind_read depth _ = Broken

abbrev pub formed : Form → What → Form
formed (Due depth) item = due_read depth item
formed (There depth) item = behind_read depth item
formed Broken item = Broken

-- an expression that may end here
abbrev pub is_form : Form → Bool
is_form (Due depth) = false
is_form (There zero) = true
is_form (There (suc depth)) = false
is_form Broken = false

-- tokens as an expression

abbrev pub no_outline : Outline
no_outline = record { form = Due 0; unknown = false }

abbrev pub outlined : List ℕ → Sets → Outline → Token → Outline
outlined text sets o token = record { form = formed o.form (item_of text sets token).what; unknown = o.unknown || is_unknown text sets token }

-- an expression with a name that isn't set
abbrev pub lacks : Outline → Bool
lacks o = is_form o.form && o.unknown
