-- What the lines of a text have led to: lines that are left, labels, sets, macros, and counts. This
-- project's own.
use Rattle.std.specs.Prelude.{ℕ, ◌+◌, ◌-◌, ◌&&◌, Bool, true, false, nat_le, List, [], ◌∷◌, ◌++◌, length, slice_get, Option, Some, None, option_map, is_some, Result, Ok, Err, if◌then◌else◌}
use Rattle.qpu_token.specs.declared.token.Token.{Token}
use Rattle.qpu_token.specs.declared.fault.AsmFault.{AsmFault}
use Rattle.qpu_token.specs.declared.fault.AsmKind.TheVariants.{TooLong}
use Rattle.qpu_token.specs.Tokens.{text_of}
use Rattle.qpu_expr.specs.declared.limits.TheConstants.{MOST_LINES, MOST_TOKENS, MOST_WORDS}
use Rattle.qpu_expr.specs.declared.place.Place.{Place}
use Rattle.qpu_expr.specs.declared.expanded.LabelAt.{LabelAt}
use Rattle.qpu_expr.specs.declared.state.Change.{Change}
use Rattle.qpu_expr.specs.declared.state.Change.TheVariants as change
use Rattle.qpu_expr.specs.Symbols.{place_of, fault_at}
use Rattle.qpu_expr.specs.LineTokens.{LineTokens}
use Rattle.qpu_expr.specs.StageParts.{Stage}
use Rattle.qpu_expr.specs.Tables.{found, put_in}

-- before the first line
abbrev pub first_stage : Stage
first_stage = record { lines = []; labels = []; sets = []; macros = []; reached = 0; tokens = 0; words = 0 }

-- limits

-- the place of a line: that of its first token, or its column 1
abbrev pub line_place : LineTokens → Place
line_place line = by_tokens line.tokens
  where
    by_tokens : List Token → Place
    by_tokens [] = record { line = line.end.line; column = 1 }
    by_tokens (token ∷ rest) = place_of token

-- where a limit is passed by one line more, and by the word that it may give
unfoldable pub too_long : Stage → LineTokens → Bool → Option Place
too_long s line word =
    if nat_le MOST_LINES s.reached then Some (line_place line)
    else if word && nat_le MOST_WORDS s.words then Some (line_place line)
    else option_map place_of (slice_get line.tokens (MOST_TOKENS - s.tokens))

-- changes

abbrev pub tokens_counted : LineTokens → Stage → Stage
tokens_counted line s = record s { reached = s.reached + 1; tokens = s.tokens + length line.tokens }

-- a turn of a repeat counts as a line without tokens
abbrev pub turn_counted : Place → Stage → Result Stage AsmFault
turn_counted place s = if nat_le MOST_LINES s.reached then Err (fault_at TooLong place) else Ok (record s { reached = s.reached + 1 })

-- a label stands before the next word
abbrev pub labelled : List ℕ → Option Token → Stage → Stage
labelled text None s = s
labelled text (Some name) s = record s { labels = put_in (text_of text name) (record { from = name.from; to = name.to; word = s.words }) s.labels }

-- whether a change leaves a line, which gives a word
abbrev pub leaves : Change → Bool
leaves change.Nothing = false
leaves (change.Sets setting) = false
leaves (change.Defines m) = false
leaves (change.Leaves line) = true

-- what is put under a name isn't there, since the second of a name is a fault
abbrev pub changed : List ℕ → Change → Stage → Stage
changed text change.Nothing s = s
changed text (change.Sets setting) s = record s { sets = put_in (text_of text setting.name) setting.value s.sets }
changed text (change.Defines m) s = record s { macros = put_in (text_of text m.name) m s.macros }
changed text (change.Leaves line) s = record s { lines = s.lines ++ line ∷ []; words = s.words + 1 }

-- the place of a label whose name is there
abbrev pub label_twice : List ℕ → List (List ℕ × LabelAt) → Option Token → Option Place
label_twice text labels None = None
label_twice text labels (Some name) = if is_some (found (text_of text name) labels) then Some (place_of name) else None
