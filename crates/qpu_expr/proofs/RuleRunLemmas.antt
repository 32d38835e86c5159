-- What the rules leave is what is expanded.
use Rattle.std.proofs.Common.{◌≡◌, ℕ, suc, ◌+◌, List, [], ◌∷◌, ◌++◌, length, take, drop, Some, Ok, refl, ap, sym, subst, ◌∙◌, append-nil, append_assoc, arith}
use Rattle.std.specs.Prelude.{slice_get}
use Rattle.std.proofs.Math.Seq.{take-append_seam}
use Rattle.qpu_token.specs.declared.token.Token.{Token}
use Rattle.qpu_token.specs.Tokens.{text_of}
use Rattle.qpu_expr.specs.declared.place.Place.{Place}
use Rattle.qpu_expr.specs.declared.line.Pair.{Pair}
use Rattle.qpu_expr.specs.declared.state.Change.TheVariants as change
use Rattle.qpu_expr.specs.declared.deed.Act.{Act}
use Rattle.qpu_expr.specs.declared.deed.Act.TheVariants as act
use Rattle.qpu_expr.specs.Tables.{found}
use Rattle.qpu_expr.specs.LineTokens.{LineTokens}
use Rattle.qpu_expr.specs.MacroTokens.{MacroTokens}
use Rattle.qpu_expr.specs.Macros.{body_replaced}
use Rattle.qpu_expr.specs.Findings.{place_in}
use Rattle.qpu_expr.specs.StageParts.{Stage}
use Rattle.qpu_expr.specs.Stage.{changed}
use Rattle.qpu_expr.specs.Deeds.{line_does}
use Rattle.qpu_expr.specs.Expansion.{RunResult, then, closed, performed, taken, run_within}
use Rattle.qpu_expr.specs.Expansion as running
use Rattle.qpu_expr.specs.Nesting.{is_deepest, below}
use Rattle.qpu_expr.specs.Rules.{Known, with_word, with_set, Closes, IsBody, Work, lines, times, Expands, nothing, empty, set, repeat, macro, call, plain, over, turn}
use Rattle.qpu_expr.proofs.RunLemmas.{line_more, none_run}
use Rattle.qpu_expr.proofs.RuleLineLemmas.{stage, at_empty, at_set, at_plain, at_repeat, at_macro, at_call}
use Rattle.qpu_expr.proofs.ReachLemmas.{turn_counts, keeps_names, ruled_line, closed_line}
use Rattle.qpu_expr.proofs.RuledLemmas.{set_stage, macro_stage}

-- what is expanded, behind lines that are left already
abbrev Runs : List ℕ → ℕ → Known → Work → Known → List (List Token) → List (List Token) → Type 0
Runs text d k (lines xs) z left before = run_within text d xs (stage k before) ≡ Ok (stage z (before ++ left))
Runs text d k (times n body) z left before = (place : Place) → running.turns (run_within text d body) place n (stage k before) ≡ Ok (stage z (before ++ left))

-- a line, and what is behind it
line_runs : (text : List ℕ) (k z : Known) (line : LineTokens) (under : List LineTokens) (left : List (List Token)) (d : ℕ) (before : List (List Token)) (asks : Act) (s1 s2 : Stage) → line_does text (is_deepest d) line under (stage k before) ≡ Ok (asks, s1) → performed text (below text d) asks under s1 ≡ Ok s2
    → run_within text d (drop (taken asks) under) s2 ≡ Ok (stage z (before ++ left)) → Runs text d k (lines (line ∷ under)) z left before
line_runs text k z line under left d before asks s1 s2 does performs rest = line_more text d line under asks (stage k before) s1 s2 does performs ∙ rest

-- lines that are left, one behind another
joined_left : (z : Known) (before left more : List (List Token)) → stage z ((before ++ left) ++ more) ≡ stage z (before ++ (left ++ more))
joined_left z before left more = ap (stage z) (append_assoc before left more)

-- a body in the lines that it stands in

line_at : (body : List LineTokens) (close : LineTokens) (behind : List LineTokens) → slice_get (body ++ close ∷ behind) (length body) ≡ Some close
line_at [] close behind = refl
line_at (line ∷ body) close behind = line_at body close behind

behind_at : (body : List LineTokens) (close : LineTokens) (behind : List LineTokens) → drop (suc (length body)) (body ++ close ∷ behind) ≡ behind
behind_at [] close behind = refl
behind_at (line ∷ body) close behind = behind_at body close behind

record IsWithin (under body : List LineTokens) (close : LineTokens) (behind : List LineTokens) : Type 0 where
  pub front : take (length body) under ≡ body
  pub at : slice_get under (length body) ≡ Some close
  pub rest : drop (length body + 1) under ≡ behind

within_at : {pair : Pair} {text : List ℕ} {under body : List LineTokens} {close : LineTokens} {behind : List LineTokens} → IsBody pair text under body close behind → IsWithin under body close behind
within_at {under = under} {body = body} {close = close} {behind = behind} i =
    let more : length body + 1 ≡ suc (length body) = omega arith in
    record {
      front = ap (take (length body)) i.parts ∙ take-append_seam body (close ∷ behind);
      at = ap (λ xs. slice_get xs (length body)) i.parts ∙ line_at body close behind;
      rest = ap (λ n. drop n under) more ∙ (ap (drop (suc (length body))) i.parts ∙ behind_at body close behind);
    }

closing_runs : {text : List ℕ} {b c : Known} (under : List LineTokens) (size : ℕ) (close : LineTokens) (before : List (List Token)) → slice_get under size ≡ Some close → Closes text b close c → closed text (slice_get under size) (stage b before) ≡ Ok (stage c before)
closing_runs {text} {b} {c} under size close before at closing =
    ap (λ line. closed text line (stage b before)) at ∙ ap (λ r. then r (λ (p : Act × Stage). Ok p.1)) (closed_line before closing)

-- the rules are what is run
pub runs : {text : List ℕ} {d : ℕ} {k z : Known} {w : Work} {left : List (List Token)} (before : List (List Token)) → Expands text d k w z left → Runs text d k w z left before
runs {text} {d} {k} before nothing = none_run text d (stage k before) ∙ ap (λ xs. Ok (stage k xs)) (sym (append-nil before))
runs {text} {d} {k} {z} before (empty {a = a} {line = line} {behind = behind} {left = left} r e rest) = line_runs text k z line behind left d before act.Nothing (stage a before) (stage a before) (ruled_line before r (at_empty e)) refl (runs before rest)
runs {text} {d} {k} {z} before (set {a = a} {line = line} {behind = behind} {left = left} {name = name} {value = value} r e spelled new rest) =
    let led = set_stage text name value a before (ap (found (text_of text name)) (keeps_names r.label).sets ∙ new) in
    line_runs text k z line behind left d before act.Nothing (changed text (change.Sets (record { name = name; value = value })) (stage a before)) (stage (with_set text name value a) before)
    (ruled_line before r (at_set e spelled new)) (ap (λ s. Ok s) led) (runs before rest)
runs {text} {d} {k} {z} before (plain {a = a} {line = line} {tokens = tokens} {behind = behind} {left = left} r leaves few rest) =
    let x = tokens ++ line.end ∷ [] in
    line_runs text k z line behind (x ∷ left) d before act.Nothing (stage (with_word a) (before ++ x ∷ [])) (stage (with_word a) (before ++ x ∷ [])) (ruled_line before r (at_plain leaves few)) refl
    (runs (before ++ x ∷ []) rest ∙ ap (λ s. Ok s) (joined_left z before (x ∷ []) left))
runs {text = text} {d = suc d} {k = k} {z = z} before (repeat {n = n} {a = a} {b = b} {c = c} {line = line} {close = close} {rest = rest} {under = under} {body = body} {behind = behind} {left = left} {more = more} r e worth few is_body turned closing further) =
    let i = within_at is_body in
    let place = place_in line.end rest in
    let round = ap (λ xs. running.turns (run_within text d xs) place n (stage a before)) i.front ∙ runs before turned place in
    line_runs text k z line under (left ++ more) (suc d) before (act.Repeats n place (length body)) (stage a before) (stage c (before ++ left))
    (ruled_line before r (at_repeat e worth few is_body.closes))
    (ap (λ x. then x (closed text (slice_get under (length body)))) round ∙ closing_runs under (length body) close (before ++ left) i.at closing)
    (ap (λ xs. run_within text (suc d) xs (stage c (before ++ left))) i.rest ∙ (runs (before ++ left) further ∙ ap (λ s. Ok s) (joined_left z before left more)))
runs {text} {d} {k} {z} before (macro {a = a} {b = b} {line = line} {close = close} {under = under} {body = body} {behind = behind} {left = left} {name = name} {parameters = parameters} r e spelled new apart is_body closing rest) =
    let i = within_at is_body in
    let m : MacroTokens = record { name = name; parameters = parameters; body = body } in
    let led = macro_stage text m a before (ap (found (text_of text name)) (keeps_names r.label).macros ∙ new) in
    let does = subst (λ xs. line_does text (is_deepest d) line under (stage k before) ≡ Ok (act.Passes (length body), changed text (change.Defines (record { name = name; parameters = parameters; body = xs })) (stage a before))) i.front
    (ruled_line before r (at_macro e spelled new apart is_body.closes)) in
    line_runs text k z line under left d before (act.Passes (length body)) (changed text (change.Defines m) (stage a before)) (stage b before) does
    (ap (closed text (slice_get under (length body))) led ∙ closing_runs under (length body) close before i.at closing)
    (ap (λ xs. run_within text d xs (stage b before)) i.rest ∙ runs before rest)
runs {text = text} {d = suc d} {k = k} {z = z} before (call {a = a} {b = b} {line = line} {behind = behind} {left = left} {more = more} {m = m} {arguments = arguments} r e c given count inner further) =
    line_runs text k z line behind (left ++ more) (suc d) before (act.Calls (body_replaced text m.parameters arguments m.body)) (stage a before) (stage b (before ++ left)) (ruled_line before r (at_call e c given count)) (runs before inner)
    (runs (before ++ left) further ∙ ap (λ s. Ok s) (joined_left z before left more))
runs {k = k} before over = λ place. ap (λ xs. Ok (stage k xs)) (sym (append-nil before))
runs {text} {d} {k} {z} before (turn {n = n} {b = b} {body = body} {left = left} {more = more} few inner further) = λ place.
    ap (λ x. then x (λ s. then (run_within text d body s) (running.turns (run_within text d body) place n))) (turn_counts place (stage k before) few)
    ∙ (ap (λ x. then x (running.turns (run_within text d body) place n)) (runs before inner)
    ∙ (runs (before ++ left) further place ∙ ap (λ s. Ok s) (joined_left z before left more)))
