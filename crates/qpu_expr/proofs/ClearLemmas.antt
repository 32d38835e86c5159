-- A line leads on exactly where it has no fault of any kind.
use Rattle.std.proofs.Common.{◌≡◌, ℕ, ◌-◌, ◌<◌, ◌≤◌, Bool, false, List, length, Option, Some, None, Ok, Err, refl, ap, sym, ◌∙◌, arith}
use Rattle.std.specs.Prelude.{◌&&◌, nat_le, slice_get, if◌then◌else◌}
use Rattle.std.specs.Option.{option_or}
use Rattle.std.proofs.lemmas.Bool.Decides.{nat_tests}
use Rattle.std.proofs.lemmas.Option.{slice_get_past}
use Rattle.qpu_token.specs.declared.fault.AsmFault.{AsmFault}
use Rattle.qpu_token.specs.declared.fault.AsmKind.TheVariants as kind
use Rattle.qpu_expr.specs.declared.limits.TheConstants.{MOST_LINES, MOST_TOKENS, MOST_WORDS}
use Rattle.qpu_expr.specs.declared.place.Place.{Place}
use Rattle.qpu_expr.specs.declared.deed.Act.{Act}
use Rattle.qpu_expr.specs.declared.deed.Deed.{Deed}
use Rattle.qpu_expr.specs.declared.deed.Findings.{Findings}
use Rattle.qpu_expr.specs.LineTokens.{LineTokens}
use Rattle.qpu_expr.specs.Lines.{label_of}
use Rattle.qpu_expr.specs.StageParts.{Stage}
use Rattle.qpu_expr.specs.Stage.{too_long, tokens_counted, labelled, leaves, changed, label_twice}
use Rattle.qpu_expr.specs.Deeds.{◌or◌, fault_in, least_fault, done_by}
use Rattle.qpu_expr.proofs.RoomLemmas.{or_none, map_none}

-- no fault of any kind
pub record IsClear (label long : Option Place) (f : Findings) : Type 0 where
  pub no_unknown : f.unknown ≡ None
  pub no_label : label ≡ None
  pub no_twice : f.twice ≡ None
  pub no_deep : f.deep ≡ None
  pub no_long : long ≡ None
  pub no_zero : f.zero ≡ None
  pub no_shape : f.shape ≡ None
  pub no_range : f.range ≡ None

place_none : (a b : Option Place) → option_or a b ≡ None → (a ≡ None) × (b ≡ None)
place_none None b e = (refl, e)
place_none (Some place) b e = cc

pub all_clear : (label long : Option Place) (f : Findings) → least_fault label long f ≡ None → IsClear label long f
all_clear label long f none =
    let u = fault_in kind.UnknownName f.unknown in
    let t = u or fault_in kind.Twice (option_or label f.twice) in
    let d = t or fault_in kind.TooDeep f.deep in
    let l = d or fault_in kind.TooLong long in
    let z = l or fault_in kind.DivideByZero f.zero in
    let h = z or fault_in kind.Shape f.shape in
    let at_range = or_none h (fault_in kind.Range f.range) none in
    let at_shape = or_none z (fault_in kind.Shape f.shape) at_range.0 in
    let at_zero = or_none l (fault_in kind.DivideByZero f.zero) at_shape.0 in
    let at_long = or_none d (fault_in kind.TooLong long) at_zero.0 in
    let at_deep = or_none t (fault_in kind.TooDeep f.deep) at_long.0 in
    let at_twice = or_none u (fault_in kind.Twice (option_or label f.twice)) at_deep.0 in
    let names = place_none label f.twice (map_none kind.Twice (option_or label f.twice) at_twice.1) in
    record {
      no_unknown = map_none kind.UnknownName f.unknown at_twice.0;
      no_label = names.0;
      no_twice = names.1;
      no_deep = map_none kind.TooDeep f.deep at_deep.1;
      no_long = map_none kind.TooLong long at_long.1;
      no_zero = map_none kind.DivideByZero f.zero at_zero.1;
      no_shape = map_none kind.Shape f.shape at_shape.1;
      no_range = map_none kind.Range f.range at_range.1;
    }

pub clear_none : (label long : Option Place) (f : Findings) → IsClear label long f → least_fault label long f ≡ None
clear_none label long f c = rw (c.no_unknown, c.no_label, c.no_twice, c.no_deep, c.no_long, c.no_zero, c.no_shape, c.no_range) refl

-- what a line's deed leads to
pub record IsDone (text : List ℕ) (line : LineTokens) (d : Deed) (s : Stage) (act : Act) (next : Stage) : Type 0 where
  pub clear : IsClear (label_twice text s.labels (label_of text line.tokens)) (too_long s line (leaves d.change)) d.findings
  pub acts : act ≡ d.act
  pub leads : next ≡ changed text d.change (labelled text (label_of text line.tokens) (tokens_counted line s))

faulted : (text : List ℕ) (line : LineTokens) (d : Deed) (s : Stage) (fault : AsmFault) → least_fault (label_twice text s.labels (label_of text line.tokens)) (too_long s line (leaves d.change)) d.findings ≡ Some fault → done_by text line d s ≡ Err fault
unfolding done_by
faulted text line d s fault e = rw e refl

faultless : (text : List ℕ) (line : LineTokens) (d : Deed) (s : Stage) → least_fault (label_twice text s.labels (label_of text line.tokens)) (too_long s line (leaves d.change)) d.findings ≡ None → done_by text line d s ≡ Ok (d.act, changed text d.change (labelled text (label_of text line.tokens) (tokens_counted line s)))
unfolding done_by
faultless text line d s e = rw e refl

pub done_is : (text : List ℕ) (line : LineTokens) (d : Deed) (s : Stage) (act : Act) (next : Stage) → done_by text line d s ≡ Ok (act, next) → IsDone text line d s act next
done_is text line d s act next e = by_fault (least_fault label long d.findings) refl
  where
    label : Option Place
    label = label_twice text s.labels (label_of text line.tokens)

    long : Option Place
    long = too_long s line (leaves d.change)

    by_fault : (r : Option AsmFault) → least_fault label long d.findings ≡ r → IsDone text line d s act next
    by_fault (Some fault) f = let one = sym (faulted text line d s fault f) ∙ e in absurd (cc one)
    by_fault None f =
        let one = sym (faultless text line d s f) ∙ e in
        let same : ◌≡◌ {A = Act × Stage} (d.act, changed text d.change (labelled text (label_of text line.tokens) (tokens_counted line s))) (act, next) = cc one in
        record { clear = all_clear label long d.findings f; acts = sym (ap (λ (p : Act × Stage). p.0) same); leads = sym (ap (λ (p : Act × Stage). p.1) same) }

pub is_done : (text : List ℕ) (line : LineTokens) (d : Deed) (s : Stage) (act : Act) (next : Stage) → IsDone text line d s act next → done_by text line d s ≡ Ok (act, next)
is_done text line d s act next done =
    rw (done.acts, done.leads) (faultless text line d s (clear_none (label_twice text s.labels (label_of text line.tokens)) (too_long s line (leaves d.change)) d.findings done.clear))

-- that a line is not too long

several : (b : Bool) (place : Place) (r : Option Place) → b ≡ false → r ≡ None → ◌≡◌ {A = Option Place} (if b then Some place else r) None
several b place r e f = rw (e, f) refl

pub room_long : (s : Stage) (line : LineTokens) (word : Bool) → s.reached < MOST_LINES → length line.tokens ≤ MOST_TOKENS - s.tokens → (word && nat_le MOST_WORDS s.words) ≡ false → too_long s line word ≡ None
unfolding too_long
room_long s line word lines tokens words =
    let few : nat_le MOST_LINES s.reached ≡ false = grind (arith, nat_tests, lines) in
    let none : slice_get line.tokens (MOST_TOKENS - s.tokens) ≡ None = slice_get_past line.tokens (MOST_TOKENS - s.tokens) tokens in
    rw (few, words, none) refl
