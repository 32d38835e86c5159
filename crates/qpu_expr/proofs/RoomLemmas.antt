-- A line without a fault passes no limit.
use Rattle.std.proofs.Common.{◌≡◌, ℕ, zero, suc, refl, ◌-◌, ◌<◌, ◌≤◌, Bool, true, false, List, [], ◌∷◌, length, Option, Some, None, arith}
use Rattle.std.specs.Prelude.{◌&&◌, nat_le, slice_get, option_map, if◌then◌else◌}
use Rattle.std.proofs.lemmas.Bool.Decides.{nat_tests}
use Rattle.std.specs.Option.{option_or}
use Rattle.qpu_token.specs.declared.token.Token.{Token}
use Rattle.qpu_token.specs.declared.fault.AsmFault.{AsmFault}
use Rattle.qpu_token.specs.declared.fault.AsmKind.{AsmKind}
use Rattle.qpu_token.specs.declared.fault.AsmKind.TheVariants as kind
use Rattle.qpu_expr.specs.declared.limits.TheConstants.{MOST_LINES, MOST_TOKENS, MOST_WORDS}
use Rattle.qpu_expr.specs.declared.place.Place.{Place}
use Rattle.qpu_expr.specs.declared.deed.Findings.{Findings}
use Rattle.qpu_expr.specs.Symbols.{place_of}
use Rattle.qpu_expr.specs.Deeds.{◌or◌, fault_in, least_fault}
use Rattle.qpu_expr.specs.LineTokens.{LineTokens}
use Rattle.qpu_expr.specs.StageParts.{Stage}
use Rattle.qpu_expr.specs.Stage.{line_place, too_long, tokens_counted, labelled}
use Rattle.qpu_expr.specs.Room.{HasTokenRoom}

pub or_none : (a b : Option AsmFault) → option_or a b ≡ None → (a ≡ None) × (b ≡ None)
or_none None b e = (refl, e)
or_none (Some fault) b e = cc

pub map_none : (kind : AsmKind) (place : Option Place) → fault_in kind place ≡ None → place ≡ None
map_none kind None e = refl
map_none kind (Some place) e = cc

pub not_long : (label long : Option Place) (f : Findings) → least_fault label long f ≡ None → long ≡ None
not_long label long f none =
    let u = fault_in kind.UnknownName f.unknown in
    let t = u or fault_in kind.Twice (option_or label f.twice) in
    let d = t or fault_in kind.TooDeep f.deep in
    let l = d or fault_in kind.TooLong long in
    let z = l or fault_in kind.DivideByZero f.zero in
    let h = z or fault_in kind.Shape f.shape in
    let at_shape : h ≡ None = (or_none h (fault_in kind.Range f.range) none).0 in
    let at_zero : z ≡ None = (or_none z (fault_in kind.Shape f.shape) at_shape).0 in
    let at_long : l ≡ None = (or_none l (fault_in kind.DivideByZero f.zero) at_zero).0 in
    map_none kind.TooLong long (or_none d (fault_in kind.TooLong long) at_long).1

if_none : (b : Bool) (place : Place) (r : Option Place) → (if b then Some place else r) ≡ None → (b ≡ false) × (r ≡ None)
if_none true place r e = cc
if_none false place r e = (refl, e)

none_there : (tokens : List Token) (k : ℕ) → option_map place_of (slice_get tokens k) ≡ None → length tokens ≤ k
none_there [] k e = omega arith
none_there (token ∷ tokens) zero e = cc
none_there (token ∷ tokens) (suc k) e = let rest = none_there tokens k e in omega arith

pub some_room : (s : Stage) (line : LineTokens) (word : Bool) → too_long s line word ≡ None → HasTokenRoom s line
unfolding too_long
some_room s line word none =
    let first = if_none (nat_le MOST_LINES s.reached) (line_place line) _ none in
    let second = if_none (word && nat_le MOST_WORDS s.words) (line_place line) _ first.1 in
    let few = first.0 in
    record {
      lines = grind (arith, nat_tests, few);
      tokens = none_there line.tokens (MOST_TOKENS - s.tokens) second.1;
    }

pub word_room : (s : Stage) (line : LineTokens) → too_long s line true ≡ None → s.words < MOST_WORDS
unfolding too_long
word_room s line none =
    let first = if_none (nat_le MOST_LINES s.reached) (line_place line) _ none in
    let second = if_none (nat_le MOST_WORDS s.words) (line_place line) _ first.1 in
    let few = second.0 in
    grind (arith, nat_tests, few)

-- a line's count and its label change no count of words
pub words_same : (text : List ℕ) (label : Option Token) (line : LineTokens) (s : Stage) → (labelled text label (tokens_counted line s)).words ≡ s.words
words_same text None line s = refl
words_same text (Some name) line s = refl
