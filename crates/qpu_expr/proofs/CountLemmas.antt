-- Each line of an expansion keeps that the lines that are left are counted, within the limit.
use Rattle.std.proofs.Common.{◌≡◌, ℕ, ◌+◌, ◌<◌, ◌≤◌, Bool, true, false, List, [], ◌∷◌, length, Option, Some, None, Result, Ok, Err, refl, subst, arith, length-append}
use Rattle.std.specs.Prelude.{IfOk, nat_le, if◌then◌else◌}
use Rattle.qpu_token.specs.declared.token.Token.{Token}
use Rattle.qpu_token.specs.declared.fault.AsmFault.{AsmFault}
use Rattle.qpu_token.specs.declared.fault.AsmKind.TheVariants.{TooLong}
use Rattle.qpu_expr.specs.declared.limits.TheConstants.{MOST_LINES, MOST_WORDS}
use Rattle.qpu_expr.specs.declared.place.Place.{Place}
use Rattle.qpu_expr.specs.declared.state.Change.{Change}
use Rattle.qpu_expr.specs.declared.state.Change.TheVariants as change
use Rattle.qpu_expr.specs.declared.deed.Act.{Act}
use Rattle.qpu_expr.specs.declared.deed.Act.TheVariants as act
use Rattle.qpu_expr.specs.declared.deed.Deed.{Deed}
use Rattle.qpu_expr.specs.Symbols.{fault_at}
use Rattle.qpu_expr.specs.LineTokens.{LineTokens}
use Rattle.qpu_expr.specs.Lines.{label_of, behind_label, head_of}
use Rattle.qpu_expr.specs.StageParts.{Stage}
use Rattle.qpu_expr.specs.Stage.{too_long, tokens_counted, turn_counted, labelled, leaves, changed}
use Rattle.qpu_expr.specs.Deeds.{deed_by, done_by, line_does, closing_deed, closes}
use Rattle.qpu_expr.proofs.RoomLemmas.{word_room}
use Rattle.qpu_expr.proofs.KeepLemmas.{Runs, Keeps}
use Rattle.qpu_expr.proofs.DeedLemmas.{done_gives}

-- each line that is left is counted as a word
pub record IsCounted (s : Stage) : Type 0 where
  pub same : length s.lines ≡ s.words
  pub few : s.words ≤ MOST_WORDS

turn_counts : (place : Place) (s : Stage) → IsCounted s → IfOk (turn_counted place s) IsCounted
turn_counts place s c = by_test (nat_le MOST_LINES s.reached)
  where
    more : Stage
    more = record s { reached = s.reached + 1 }

    by_test : (b : Bool) → IfOk {T = Stage} {E = AsmFault} (if b then Err (fault_at TooLong place) else Ok more) IsCounted
    by_test true = tt
    by_test false = record { same = c.same; few = c.few }

label_counts : (text : List ℕ) (label : Option Token) (line : LineTokens) (s : Stage) → IsCounted s → IsCounted (labelled text label (tokens_counted line s))
label_counts text None line s c = record { same = c.same; few = c.few }
label_counts text (Some name) line s c = record { same = c.same; few = c.few }

change_counts : (text : List ℕ) (c : Change) (s : Stage) → IsCounted s → (leaves c ≡ true → s.words < MOST_WORDS) → IsCounted (changed text c s)
change_counts text change.Nothing s c room = c
change_counts text (change.Sets setting) s c room = record { same = c.same; few = c.few }
change_counts text (change.Defines m) s c room = record { same = c.same; few = c.few }
change_counts text (change.Leaves line) s c room =
    let more = length-append s.lines (line ∷ []) in
    let same = c.same in
    let few = room refl in
    record { same = omega (arith, more, same); few = omega (arith, few) }

label_words : (text : List ℕ) (label : Option Token) (line : LineTokens) (s : Stage) → s.words < MOST_WORDS → (labelled text label (tokens_counted line s)).words < MOST_WORDS
label_words text None line s few = few
label_words text (Some name) line s few = few

done_counts : (text : List ℕ) (line : LineTokens) (d : Deed) (s : Stage) → IsCounted s → IfOk (done_by text line d s) (λ p. IsCounted p.1)
done_counts text line d s c =
    done_gives (λ p. IsCounted p.1) text line d s
    (λ none. change_counts text d.change (labelled text label (tokens_counted line s)) (label_counts text label line s c)
    (λ left. label_words text label line s (word_room s line (subst (λ w. too_long s line w ≡ None) left none))))
  where
    label : Option Token
    label = label_of text line.tokens

any_lines : (a : Act) → Runs (λ line. Unit {0}) a
any_lines act.Nothing = tt
any_lines (act.Repeats n place lines) = tt
any_lines (act.Passes lines) = tt
any_lines (act.Calls body) = λ k d within. tt

line_counts : (text : List ℕ) (deepest : Bool) (line : LineTokens) (behind : List LineTokens) (s : Stage) → IsCounted s → IfOk (line_does text deepest line behind s) (λ p. IsCounted p.1)
unfolding line_does
line_counts text deepest line behind s c =
    let rest = behind_label text line.tokens in
    done_counts text line (deed_by text s deepest line.end line.tokens rest behind (head_of text rest)) s c

close_counts : (text : List ℕ) (line : LineTokens) (s : Stage) → IsCounted s → IfOk (closes text line s) (λ p. IsCounted p.1)
unfolding closes
close_counts text line s c = done_counts text line (closing_deed (behind_label text line.tokens)) s c

with_lines : (r : Result (Act × Stage) AsmFault) → IfOk r (λ p. IsCounted p.1) → IfOk r (λ p. Runs (λ line. Unit {0}) p.0 × IsCounted p.1)
with_lines (Ok p) c = (any_lines p.0, c)
with_lines (Err fault) c = tt

pub counts : (text : List ℕ) → Keeps text IsCounted (λ line. Unit {0})
counts text = record {
  turn = turn_counts;
  line = λ deepest line behind s q all c. with_lines (line_does text deepest line behind s) (line_counts text deepest line behind s c);
  close = λ line s q c. close_counts text line s c;
}
