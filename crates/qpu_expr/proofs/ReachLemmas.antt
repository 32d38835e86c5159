-- A line that is reached, and the line that closes a body.
use Rattle.std.proofs.Common.{◌≡◌, ℕ, suc, ◌+◌, ◌<◌, Bool, true, false, List, [], ◌∷◌, ◌++◌, length, take, Option, Some, None, Result, Ok, Err, refl, ap, sym, subst, ◌∙◌, arith}
use Rattle.std.specs.Prelude.{◌&&◌, nat_eq, nat_le, drop, slice_get, is_some, option_map, if◌then◌else◌}
use Rattle.std.specs.Cmp.Lexicographic.{pointwise}
use Rattle.std.proofs.lemmas.Bool.Decides.{nat_tests}
use Rattle.qpu_token.specs.declared.token.Token.{Token}
use Rattle.qpu_token.specs.declared.fault.AsmFault.{AsmFault}
use Rattle.qpu_token.specs.declared.fault.AsmKind.TheVariants.{TooLong}
use Rattle.qpu_token.specs.Tokens.{text_of}
use Rattle.qpu_expr.specs.declared.limits.TheConstants.{MOST_LINES, MOST_WORDS}
use Rattle.qpu_expr.specs.declared.place.Place.{Place}
use Rattle.qpu_expr.specs.declared.line.Pair.{Pair}
use Rattle.qpu_expr.specs.declared.deed.Act.{Act}
use Rattle.qpu_expr.specs.declared.deed.Act.TheVariants as act
use Rattle.qpu_expr.specs.declared.deed.Deed.{Deed}
use Rattle.qpu_expr.specs.Symbols.{place_of, fault_at}
use Rattle.qpu_expr.specs.Tables.{found, put_in}
use Rattle.qpu_expr.specs.LineTokens.{LineTokens}
use Rattle.qpu_expr.specs.Lines.{label_of, behind_label, head_of, nesting_of, nested, body_length}
use Rattle.qpu_expr.specs.StageParts.{Stage}
use Rattle.qpu_expr.specs.Stage.{too_long, tokens_counted, turn_counted, labelled, leaves, changed, label_twice}
use Rattle.qpu_expr.specs.Deeds.{deed_by, line_does, closing_deed, closes}
use Rattle.qpu_expr.specs.Rules.{Known, Labels, none, one, Reaches, Closes}
use Rattle.qpu_expr.proofs.RoomLemmas.{some_room, word_room}
use Rattle.qpu_expr.proofs.ClearLemmas.{IsDone, done_is, is_done, room_long}
use Rattle.qpu_expr.proofs.RuleLineLemmas.{stage, known_of, Permits, LineRule, line_rule}
use Rattle.qpu_expr.proofs.RuleDoesLemmas.{rule_does}

-- what is put under a new name comes last
pub put_new : {V : Type 0} (name : List ℕ) (value : V) (es : List (List ℕ × V)) → found name es ≡ None → put_in name value es ≡ es ++ (name, value) ∷ []
put_new name value [] new = refl
put_new {V} name value (e ∷ es) new = by_name (pointwise nat_eq name e.0) new (put_new name value es)
  where
    by_name : (b : Bool) → ◌≡◌ {A = Option V} (if b then Some e.1 else found name es) None → (found name es ≡ None → put_in name value es ≡ es ++ (name, value) ∷ []) → ◌≡◌ {A = List (List ℕ × V)} (if b then (e.0, value) ∷ es else e ∷ put_in name value es) (e ∷ (es ++ (name, value) ∷ []))
    by_name true f inner = absurd (cc f)
    by_name false f inner = ap (λ xs. e ∷ xs) (inner f)

-- labels

twice_none : (b : Bool) (place : Place) → ◌≡◌ {A = Option Place} (if b then Some place else None) None → b ≡ false
twice_none true place e = cc
twice_none false place e = refl

not_found : {V : Type 0} (r : Option V) → is_some r ≡ false → r ≡ None
not_found (Some v) e = cc
not_found None e = refl

labels_are : (text : List ℕ) (s : Stage) (label : Option Token) → label_twice text s.labels label ≡ None → Labels text (known_of s) label (known_of (labelled text label s))
labels_are text s None new = none
labels_are text s (Some name) new =
    let f = not_found (found (text_of text name) s.labels) (twice_none (is_some (found (text_of text name) s.labels)) (place_of name) new) in
    rw (put_new (text_of text name) (record { from = name.from; to = name.to; word = s.words }) s.labels f) (one f)

labelled_stage : (text : List ℕ) (s : Stage) (label : Option Token) → labelled text label s ≡ stage (known_of (labelled text label s)) s.lines
labelled_stage text s None = refl
labelled_stage text s (Some name) = refl

-- a label leads to its stage, and its name is new
record IsLabelled (text : List ℕ) (k : Known) (before : List (List Token)) (label : Option Token) (a : Known) : Type 0 where
  pub leads : labelled text label (stage k before) ≡ stage a before
  pub new : label_twice text k.labels label ≡ None

is_labelled : {text : List ℕ} {k a : Known} {label : Option Token} (before : List (List Token)) → Labels text k label a → IsLabelled text k before label a
is_labelled before none = record { leads = refl; new = refl }
is_labelled {text} {k} before (one {name = name} f) = record {
  leads = rw (put_new (text_of text name) (record { from = name.from; to = name.to; word = k.words }) k.labels f) refl;
  new = rw f refl;
}

-- what a label doesn't change
pub record KeepsNames (k a : Known) : Type 0 where
  pub sets : a.sets ≡ k.sets
  pub macros : a.macros ≡ k.macros

pub keeps_names : {text : List ℕ} {k a : Known} {label : Option Token} → Labels text k label a → KeepsNames k a
keeps_names none = record { sets = refl; macros = refl }
keeps_names (one f) = record { sets = refl; macros = refl }

-- lines that are reached

reached : (text : List ℕ) (line : LineTokens) (d : Deed) (s : Stage) (asks : Act) (next : Stage) → IsDone text line d s asks next → Reaches text (known_of s) line (known_of (labelled text (label_of text line.tokens) (tokens_counted line s))) (behind_label text line.tokens)
reached text line d s asks next done =
    let room = some_room s line (leaves d.change) done.clear.no_long in
    record { lines = room.lines; tokens = room.tokens; label = labels_are text (tokens_counted line s) (label_of text line.tokens) done.clear.no_label; behind = refl }

permitted : (text : List ℕ) (line : LineTokens) (d : Deed) (s : Stage) (asks : Act) (next : Stage) → IsDone text line d s asks next → Permits text s (known_of (labelled text (label_of text line.tokens) (tokens_counted line s))) d asks next
permitted text line d s asks next done =
    let c = done.clear in
    record {
      clear = record { no_unknown = c.no_unknown; no_twice = c.no_twice; no_deep = c.no_deep; no_zero = c.no_zero; no_shape = c.no_shape; no_range = c.no_range };
      room = λ e. word_room s line (subst (λ w. too_long s line w ≡ None) e c.no_long);
      acts = done.acts;
      leads = done.leads ∙ ap (changed text d.change) (labelled_stage text (tokens_counted line s) (label_of text line.tokens));
    }

no_words : (b full : Bool) → (b ≡ true → full ≡ false) → (b && full) ≡ false
no_words true full few = few refl
no_words false full few = refl

few_words : (n : ℕ) → n < MOST_WORDS → nat_le MOST_WORDS n ≡ false
few_words n few = grind (arith, nat_tests, few)

is_permitted : {text : List ℕ} {k a : Known} {line : LineTokens} {rest : List Token} (before : List (List Token)) (d : Deed) (asks : Act) (next : Stage) → Reaches text k line a rest → Permits text (stage k before) a d asks next → IsDone text line d (stage k before) asks next
is_permitted {text} {k} {a} {line} before d asks next r p =
    let l = is_labelled before r.label in
    let c = p.clear in
    record {
      clear = record {
        no_unknown = c.no_unknown;
        no_label = l.new;
        no_twice = c.no_twice;
        no_deep = c.no_deep;
        no_long = room_long (stage k before) line (leaves d.change) r.lines r.tokens (no_words (leaves d.change) (nat_le MOST_WORDS k.words) (λ e. few_words k.words (p.room e)));
        no_zero = c.no_zero;
        no_shape = c.no_shape;
        no_range = c.no_range;
      };
      acts = p.acts;
      leads = p.leads ∙ ap (changed text d.change) (sym l.leads);
    }

-- a line by itself, by its rule
pub record IsRuled (text : List ℕ) (s : Stage) (line : LineTokens) (under : List LineTokens) (b : Bool) (asks : Act) (next : Stage) : Type 0 where
  pub known : Known
  pub rest : List Token
  pub reaches : Reaches text (known_of s) line known rest
  pub keeps : KeepsNames (known_of s) known
  pub rule : LineRule text s known line rest under b asks next

pub line_ruled : (text : List ℕ) (b : Bool) (line : LineTokens) (under : List LineTokens) (s : Stage) (asks : Act) (next : Stage) → line_does text b line under s ≡ Ok (asks, next) → IsRuled text s line under b asks next
unfolding line_does
line_ruled text b line under s asks next e =
    let rest = behind_label text line.tokens in
    let d = deed_by text s b line.end line.tokens rest under (head_of text rest) in
    let done = done_is text line d s asks next e in
    let r = reached text line d s asks next done in
    let kept = keeps_names r.label in
    record {
      known = known_of (labelled text (label_of text line.tokens) (tokens_counted line s));
      rest = rest;
      reaches = r;
      keeps = record { sets = kept.sets; macros = kept.macros };
      rule = line_rule text s _ line rest under b asks next (head_of text rest) refl (permitted text line d s asks next done);
    }

pub ruled_line : {text : List ℕ} {k a : Known} {line : LineTokens} {rest : List Token} {under : List LineTokens} {b : Bool} {asks : Act} {next : Stage} (before : List (List Token)) → Reaches text k line a rest → LineRule text (stage k before) a line rest under b asks next → line_does text b line under (stage k before) ≡ Ok (asks, next)
unfolding line_does
ruled_line {text} {k} {a} {line} {rest} {under} {b} {asks} {next} before r rule =
    let p = subst (λ xs. Permits text (stage k before) a (deed_by text (stage k before) b line.end line.tokens xs under (head_of text xs)) asks next) r.behind (rule_does rule) in
    is_done text line _ (stage k before) asks next (is_permitted before _ asks next r p)

-- lines that close a body

closing_some : (line : List Token) (token : Token) (more : List Token) → drop 2 line ≡ token ∷ more → (closing_deed line).findings.shape ≡ Some (place_of token)
closing_some line token more e = rw e refl

closing_none : (line : List Token) → drop 2 line ≡ [] → (closing_deed line).findings.shape ≡ None
closing_none line e = rw e refl

nothing_behind : (line : List Token) → (closing_deed line).findings.shape ≡ None → drop 2 line ≡ []
nothing_behind line e = by_tokens (drop 2 line) refl
  where
    by_tokens : (xs : List Token) → drop 2 line ≡ xs → drop 2 line ≡ []
    by_tokens [] f = f
    by_tokens (token ∷ more) f = let g = sym (closing_some line token more f) ∙ e in absurd (cc g)

pub record IsClosed (text : List ℕ) (s : Stage) (line : LineTokens) (next : Stage) : Type 0 where
  pub known : Known
  pub closing : Closes text (known_of s) line known
  pub leads : next ≡ stage known s.lines

pub line_closed : (text : List ℕ) (line : LineTokens) (s : Stage) (asks : Act) (next : Stage) → closes text line s ≡ Ok (asks, next) → IsClosed text s line next
unfolding closes
line_closed text line s asks next e =
    let rest = behind_label text line.tokens in
    let d = closing_deed rest in
    let done = done_is text line d s asks next e in
    record {
      known = known_of (labelled text (label_of text line.tokens) (tokens_counted line s));
      closing = record { rest = rest; reaches = reached text line d s asks next done; bare = nothing_behind rest done.clear.no_shape };
      leads = (permitted text line d s asks next done).leads;
    }

pub closed_line : {text : List ℕ} {k c : Known} {line : LineTokens} (before : List (List Token)) → Closes text k line c → closes text line (stage k before) ≡ Ok (act.Nothing, stage c before)
unfolding closes
closed_line {text} {k} {c} {line} before closing =
    let rest = behind_label text line.tokens in
    let d = closing_deed rest in
    let shape = closing_none rest (subst (λ xs. drop 2 xs ≡ []) closing.reaches.behind closing.bare) in
    is_done text line d (stage k before) act.Nothing (stage c before)
    (is_permitted before d act.Nothing (stage c before) closing.reaches
    (record {
      clear = record { no_unknown = refl; no_twice = refl; no_deep = refl; no_zero = refl; no_shape = shape; no_range = refl };
      room = λ e. absurd (cc e);
      acts = refl;
      leads = refl;
    }))

-- bodies

-- lines up to one, and those behind it
pub record IsCut (under : List LineTokens) (size : ℕ) : Type 0 where
  pub close : LineTokens
  pub at : slice_get under size ≡ Some close
  pub parts : under ≡ take size under ++ close ∷ drop (suc size) under
  pub whole : length (take size under) ≡ size

cut_more : (line : LineTokens) (under : List LineTokens) (size : ℕ) → IsCut under size → IsCut (line ∷ under) (suc size)
cut_more line under size c = record { close = c.close; at = c.at; parts = ap (λ xs. line ∷ xs) c.parts; whole = ap (λ n. suc n) c.whole }

cut_first : (line : LineTokens) (under : List LineTokens) → IsCut (line ∷ under) 0
cut_first line under = record { close = line; at = refl; parts = refl; whole = refl }

pub body_cut : (pair : Pair) (text : List ℕ) (depth : ℕ) (under : List LineTokens) (size : ℕ) → body_length pair text depth under ≡ Some size → IsCut under size
body_cut pair text depth [] size e = absurd (cc e)
body_cut pair text depth (line ∷ under) size e = by_nesting (nested depth (nesting_of pair (head_of text (behind_label text line.tokens)))) (λ inner. body_cut pair text inner under) e
  where
    by_rest : (r : Option ℕ) → ((n : ℕ) → r ≡ Some n → IsCut under n) → option_map (λ n. n + 1) r ≡ Some size → IsCut (line ∷ under) size
    by_rest None cut e = absurd (cc e)
    by_rest (Some n) cut e =
        let one : suc n ≡ n + 1 = omega arith in
        let same : n + 1 ≡ size = cc e in
        subst (IsCut (line ∷ under)) (one ∙ same) (cut_more line under n (cut n refl))

    by_nesting : (r : Option ℕ) → ((inner n : ℕ) → body_length pair text inner under ≡ Some n → IsCut under n) → elim r as (λ _. Option ℕ) [ None ↦ Some 0 | Some inner ↦ option_map (λ n. n + 1) (body_length pair text inner under) ] ≡ Some size → IsCut (line ∷ under) size
    by_nesting None cut e = let same : 0 ≡ size = cc e in subst (IsCut (line ∷ under)) same (cut_first line under)
    by_nesting (Some inner) cut e = by_rest (body_length pair text inner under) (cut inner) e

-- turns

pub turn_is : (place : Place) (s next : Stage) → turn_counted place s ≡ Ok next → (s.reached < MOST_LINES) × (next ≡ record s { reached = s.reached + 1 })
turn_is place s next e = by_test (nat_le MOST_LINES s.reached) refl e
  where
    more : Stage
    more = record s { reached = s.reached + 1 }

    by_test : (b : Bool) → nat_le MOST_LINES s.reached ≡ b → ◌≡◌ {A = Result Stage AsmFault} (if b then Err (fault_at TooLong place) else Ok more) (Ok next) → (s.reached < MOST_LINES) × (next ≡ more)
    by_test true f e = absurd (cc e)
    by_test false f e = let same : more ≡ next = cc e in (grind (arith, nat_tests, f), sym same)

pub turn_counts : (place : Place) (s : Stage) → s.reached < MOST_LINES → turn_counted place s ≡ Ok (record s { reached = s.reached + 1 })
turn_counts place s few = let test : nat_le MOST_LINES s.reached ≡ false = grind (arith, nat_tests, few) in rw test refl
