-- What is told of a line token by token, without its tokens being held. This project's own.
use Rattle.std.specs.Prelude.{ℕ, List, Option, None}
use Rattle.qpu_token.specs.declared.token.Token.{Token}
use Rattle.qpu_expr.specs.declared.place.Place.{Place}
use Rattle.qpu_expr.specs.declared.form.Outline.{Outline}
use Rattle.qpu_expr.specs.declared.walk.Walk.{Walk}
use Rattle.qpu_expr.specs.declared.walk.Walk.TheVariants.{Number, Parts, Names}
use Rattle.qpu_expr.specs.Settings.{Sets}
use Rattle.qpu_expr.specs.Macros.{Macros}
use Rattle.qpu_expr.specs.Forms.{no_outline, outlined}
use Rattle.qpu_expr.specs.Scans.{scan_on, scan_lacks}
use Rattle.qpu_expr.specs.Headings.{headed, heading_twice}

abbrev pub walked : List ℕ → Sets → Walk → Token → Walk
walked text sets (Number o) token = Number (outlined text sets o token)
walked text sets (Parts s) token = Parts (scan_on text sets s token)
walked text sets (Names h) token = Names (headed text h token)

-- what an expression is
abbrev pub walk_outline : Walk → Outline
walk_outline (Number o) = o
walk_outline (Parts s) = no_outline
walk_outline (Names h) = no_outline

-- the first operand of parts with a name that isn't set
abbrev pub walk_lacks : List ℕ → Sets → Walk → Option Place
walk_lacks text sets (Number o) = None
walk_lacks text sets (Parts s) = scan_lacks text sets s
walk_lacks text sets (Names h) = None

-- the first name of a heading that is there already
abbrev pub walk_twice : List ℕ → Macros → Walk → Option Place
walk_twice text macros (Number o) = None
walk_twice text macros (Parts s) = None
walk_twice text macros (Names h) = heading_twice text macros h
