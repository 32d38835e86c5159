-- The names that aren't set in the operands of a line's parts, told token by token. This project's own.
use Rattle.std.specs.Prelude.{ℕ, ◌&&◌, false, not, List, Option, Some, None, option_map, is_some, if◌then◌else◌}
use Rattle.std.specs.Option.{option_or}
use Rattle.qpu_token.specs.declared.token.Token.{Token}
use Rattle.qpu_expr.specs.declared.place.Place.{Place}
use Rattle.qpu_expr.specs.declared.operand.Between.{Between}
use Rattle.qpu_expr.specs.declared.operand.Between.TheVariants.{Operands, Parts}
use Rattle.qpu_expr.specs.declared.scan.Core.{Core}
use Rattle.qpu_expr.specs.declared.scan.Last.{Last}
use Rattle.qpu_expr.specs.declared.scan.Last.TheVariants.{Nothing, One, Two}
use Rattle.qpu_expr.specs.declared.scan.Held.{Held}
use Rattle.qpu_expr.specs.declared.scan.Part.{Part}
use Rattle.qpu_expr.specs.declared.scan.Part.TheVariants.{Start, Suffixes, Dotted, Operand, Other}
use Rattle.qpu_expr.specs.declared.scan.Scan.{Scan}
use Rattle.qpu_expr.specs.Symbols.{symbol_of, place_of}
use Rattle.qpu_expr.specs.Settings.{Sets}
use Rattle.qpu_expr.specs.Operands.{is_name, is_dot, separates}
use Rattle.qpu_expr.specs.Forms.{no_outline, outlined, lacks}

-- an operand without its suffix: its first token, whether that is a name alone, and its outline

abbrev pub no_core : Core
no_core = record { first = None; lone = false; outline = no_outline }

abbrev pub cored : List ℕ → Sets → Core → Token → Core
cored text sets c token = record {
  first = option_or c.first (Some token);
  lone = not (is_some c.first) && is_name text token;
  outline = outlined text sets c.outline token;
}

-- the place of an operand with a name that isn't set
abbrev pub core_lacks : Core → Option Place
core_lacks c = if c.lone then None else if lacks c.outline then option_map place_of c.first else None

-- an operand whose last two tokens may be its suffix

abbrev pub no_held : Held
no_held = record { core = no_core; last = Nothing }

abbrev pub held : List ℕ → Sets → Held → Token → Held
held text sets h token = by_last h.last
  where
    by_last : Last → Held
    by_last Nothing = record { core = h.core; last = One token }
    by_last (One a) = record { core = h.core; last = Two a token }
    by_last (Two a b) = record { core = cored text sets h.core a; last = Two b token }

abbrev pub core_in : List ℕ → Sets → Held → Core
core_in text sets h = by_last h.last
  where
    by_last : Last → Core
    by_last Nothing = h.core
    by_last (One a) = cored text sets h.core a
    by_last (Two a b) = if is_dot text a && is_name text b then h.core else cored text sets (cored text sets h.core a) b

abbrev pub held_lacks : List ℕ → Sets → Held → Option Place
held_lacks text sets h = core_lacks (core_in text sets h)

-- a part up to its next sign `,` or `;`

abbrev pub scanned : List ℕ → Sets → Part → Token → Part
scanned text sets Start token = if is_name text token then Suffixes else Other
scanned text sets Suffixes token = if is_dot text token then Dotted token else Operand (held text sets no_held token)
scanned text sets (Dotted dot) token = if is_name text token then Suffixes else Operand (held text sets (held text sets no_held dot) token)
scanned text sets (Operand h) token = Operand (held text sets h token)
scanned text sets Other token = Other

abbrev pub part_lacks : List ℕ → Sets → Part → Option Place
part_lacks text sets Start = None
part_lacks text sets Suffixes = None
part_lacks text sets (Dotted dot) = held_lacks text sets (held text sets no_held dot)
part_lacks text sets (Operand h) = held_lacks text sets h
part_lacks text sets Other = None

-- what follows behind a sign
abbrev pub part_behind : Part → Between → Part
part_behind Start Operands = Other
part_behind Suffixes Operands = Operand no_held
part_behind (Dotted dot) Operands = Operand no_held
part_behind (Operand h) Operands = Operand no_held
part_behind Other Operands = Other
part_behind part Parts = Start

-- a line of parts

abbrev pub no_scan : Scan
no_scan = record { part = Start; unknown = None }

abbrev pub scan_lacks : List ℕ → Sets → Scan → Option Place
scan_lacks text sets s = option_or s.unknown (part_lacks text sets s.part)

abbrev pub scan_on : List ℕ → Sets → Scan → Token → Scan
scan_on text sets s token = by_sign (separates (symbol_of text token))
  where
    by_sign : Option Between → Scan
    by_sign None = record { part = scanned text sets s.part token; unknown = s.unknown }
    by_sign (Some between) = record { part = part_behind s.part between; unknown = scan_lacks text sets s }
