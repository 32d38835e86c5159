-- Each line of an expansion keeps that the lines that are left, and those of macros, end with line ends.
use Rattle.std.proofs.Common.{ℕ, ◌+◌, Bool, true, false, List, [], ◌∷◌, Option, Some, None, Ok, Err}
use Rattle.std.specs.Prelude.{All, IfOk, nat_le, nat_eq, if◌then◌else◌}
use Rattle.std.specs.Cmp.Lexicographic.{pointwise}
use Rattle.std.proofs.lemmas.List.Elements.{All-nil, All-cons, All-head, All-tail, All-push}
use Rattle.qpu_token.specs.declared.token.Token.{Token}
use Rattle.qpu_token.specs.declared.fault.AsmFault.{AsmFault}
use Rattle.qpu_token.specs.declared.fault.AsmKind.TheVariants.{TooLong}
use Rattle.qpu_token.specs.Tokens.{text_of}
use Rattle.qpu_expr.specs.declared.limits.TheConstants.{MOST_LINES}
use Rattle.qpu_expr.specs.declared.place.Place.{Place}
use Rattle.qpu_expr.specs.declared.state.Change.{Change}
use Rattle.qpu_expr.specs.declared.state.Change.TheVariants as change
use Rattle.qpu_expr.specs.declared.deed.Deed.{Deed}
use Rattle.qpu_expr.specs.Symbols.{fault_at}
use Rattle.qpu_expr.specs.Tables.{put_in}
use Rattle.qpu_expr.specs.LineTokens.{LineTokens}
use Rattle.qpu_expr.specs.MacroTokens.{MacroTokens}
use Rattle.qpu_expr.specs.Macros.{Macros}
use Rattle.qpu_expr.specs.Lines.{label_of, behind_label, head_of}
use Rattle.qpu_expr.specs.StageParts.{Stage}
use Rattle.qpu_expr.specs.Stage.{first_stage, tokens_counted, turn_counted, labelled, changed}
use Rattle.qpu_expr.specs.Deeds.{deed_by, done_by, line_does, closing_deed, closes}
use Rattle.qpu_expr.specs.Ended.{IsEnded}
use Rattle.qpu_expr.proofs.KeepLemmas.{Runs, Keeps}
use Rattle.qpu_expr.proofs.DeedLemmas.{done_gives}
use Rattle.qpu_expr.proofs.EndLemmas.{HasEnd, BodyEnds, Ends, DeedEnds, deed_ends}

pub record StageEnds (s : Stage) : Type 0 where
  pub lines : All IsEnded s.lines
  pub macros : All BodyEnds s.macros

pub first_ends : StageEnds first_stage
first_ends = record { lines = All-nil IsEnded; macros = All-nil BodyEnds }

turn_ends : (place : Place) (s : Stage) → StageEnds s → IfOk (turn_counted place s) StageEnds
turn_ends place s ends = by_test (nat_le MOST_LINES s.reached)
  where
    more : Stage
    more = record s { reached = s.reached + 1 }

    by_test : (b : Bool) → IfOk {T = Stage} {E = AsmFault} (if b then Err (fault_at TooLong place) else Ok more) StageEnds
    by_test true = tt
    by_test false = record { lines = ends.lines; macros = ends.macros }

put_ends : (name : List ℕ) (m : MacroTokens) (macros : Macros) → All HasEnd m.body → All BodyEnds macros → All BodyEnds (put_in name m macros)
put_ends name m [] body all = All-cons BodyEnds (name, m) [] body (All-nil BodyEnds)
put_ends name m (e ∷ macros) body all = by_name (pointwise nat_eq name e.0) (put_ends name m macros body rest)
  where
    rest : All BodyEnds macros
    rest = All-tail BodyEnds e macros all

    by_name : (b : Bool) → All BodyEnds (put_in name m macros) → All BodyEnds (if b then (e.0, m) ∷ macros else e ∷ put_in name m macros)
    by_name true more = All-cons BodyEnds (e.0, m) macros body rest
    by_name false more = All-cons BodyEnds e (put_in name m macros) (All-head BodyEnds e macros all) more

label_ends : (text : List ℕ) (label : Option Token) (line : LineTokens) (s : Stage) → StageEnds s → StageEnds (labelled text label (tokens_counted line s))
label_ends text None line s ends = record { lines = ends.lines; macros = ends.macros }
label_ends text (Some name) line s ends = record { lines = ends.lines; macros = ends.macros }

change_ends : (text : List ℕ) (c : Change) (s : Stage) → StageEnds s → Ends c → StageEnds (changed text c s)
change_ends text change.Nothing s ends e = ends
change_ends text (change.Sets setting) s ends e = record { lines = ends.lines; macros = ends.macros }
change_ends text (change.Defines m) s ends e = record { lines = ends.lines; macros = put_ends (text_of text m.name) m s.macros e ends.macros }
change_ends text (change.Leaves line) s ends e = record { lines = All-push IsEnded s.lines line ends.lines e; macros = ends.macros }

done_ends : (text : List ℕ) (line : LineTokens) (d : Deed) (s : Stage) → DeedEnds d → StageEnds s → IfOk (done_by text line d s) (λ p. Runs HasEnd p.0 × StageEnds p.1)
done_ends text line d s deed ends =
    done_gives (λ p. Runs HasEnd p.0 × StageEnds p.1) text line d s
    (λ none. (deed.act, change_ends text d.change (labelled text (label_of text line.tokens) (tokens_counted line s)) (label_ends text (label_of text line.tokens) line s ends) deed.change))

line_ends : (text : List ℕ) (deepest : Bool) (line : LineTokens) (behind : List LineTokens) (s : Stage) → HasEnd line → All HasEnd behind → StageEnds s → IfOk (line_does text deepest line behind s) (λ p. Runs HasEnd p.0 × StageEnds p.1)
unfolding line_does
line_ends text deepest line behind s e all ends =
    let rest = behind_label text line.tokens in
    done_ends text line (deed_by text s deepest line.end line.tokens rest behind (head_of text rest)) s
    (deed_ends text s deepest line.end line.tokens rest behind (head_of text rest) e all ends.macros) ends

close_ends : (text : List ℕ) (line : LineTokens) (s : Stage) → StageEnds s → IfOk (closes text line s) (λ p. StageEnds p.1)
unfolding closes
close_ends text line s ends =
    done_gives (λ p. StageEnds p.1) text line (closing_deed (behind_label text line.tokens)) s (λ none. label_ends text (label_of text line.tokens) line s ends)

pub stages_end : (text : List ℕ) → Keeps text StageEnds HasEnd
stages_end text = record {
  turn = turn_ends;
  line = line_ends text;
  close = λ line s e ends. close_ends text line s ends;
}
