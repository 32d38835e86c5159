-- What is expanded is what the rules leave.
use Rattle.std.proofs.Common.{◌≡◌, ℕ, zero, suc, ◌+◌, ◌<◌, Bool, true, false, List, [], ◌∷◌, ◌++◌, take, drop, Some, None, Result, Ok, Err, refl, ap, sym, subst, ◌∙◌, append-nil, append_assoc, arith}
use Rattle.std.specs.Prelude.{slice_get}
use Rattle.qpu_token.specs.declared.token.Token.{Token}
use Rattle.qpu_token.specs.declared.fault.AsmFault.{AsmFault}
use Rattle.qpu_token.specs.Tokens.{text_of}
use Rattle.qpu_expr.specs.declared.limits.TheConstants.{MOST_LINES}
use Rattle.qpu_expr.specs.declared.place.Place.{Place}
use Rattle.qpu_expr.specs.declared.line.Pair.{Pair}
use Rattle.qpu_expr.specs.declared.line.Pair.TheVariants.{Repeat, Macro}
use Rattle.qpu_expr.specs.declared.state.Change.TheVariants as change
use Rattle.qpu_expr.specs.declared.deed.Act.{Act}
use Rattle.qpu_expr.specs.declared.deed.Act.TheVariants as act
use Rattle.qpu_expr.specs.Tables.{found}
use Rattle.qpu_expr.specs.LineTokens.{LineTokens}
use Rattle.qpu_expr.specs.MacroTokens.{MacroTokens}
use Rattle.qpu_expr.specs.Lines.{body_length}
use Rattle.qpu_expr.specs.Macros.{body_replaced}
use Rattle.qpu_expr.specs.Findings.{place_in}
use Rattle.qpu_expr.specs.StageParts.{Stage}
use Rattle.qpu_expr.specs.Stage.{turn_counted, changed}
use Rattle.qpu_expr.specs.Deeds.{line_does, closes}
use Rattle.qpu_expr.specs.Expansion.{RunResult, then, closed, performed, taken, lines_run, nothing_run, run_within}
use Rattle.qpu_expr.specs.Expansion as running
use Rattle.qpu_expr.specs.Nesting.{is_deepest}
use Rattle.qpu_expr.specs.Rules.{Known, with_word, with_set, with_macro, Reaches, Closes, IsBody, Work, lines, times, Expands, nothing, empty, set, repeat, macro, call, plain, over, turn}
use Rattle.qpu_expr.proofs.RuleLineLemmas.{stage, known_of, LineRule, at_empty, at_set, at_plain, at_repeat, at_macro, at_call}
use Rattle.qpu_expr.proofs.ReachLemmas.{turn_is, put_new, KeepsNames, line_ruled, IsClosed, line_closed, IsCut, body_cut}

-- what is expanded from a stage to another is what the rules leave
pub record IsOut (text : List ℕ) (d : ℕ) (s : Stage) (w : Work) (next : Stage) : Type 0 where
  pub left : List (List Token)
  pub expands : Expands text d (known_of s) w (known_of next) left
  pub joined : next.lines ≡ s.lines ++ left

-- lines that are nested by one more, where they may be
abbrev Inner : List ℕ → ℕ → (List LineTokens → Stage → RunResult) → Type 0
Inner text zero run = Unit {0}
Inner text (suc e) run = (xs : List LineTokens) (s next : Stage) → run xs s ≡ Ok next → IsOut text e s (lines xs) next

-- a result taken apart
pub then_ok : {A B : Type 0} (r : Result A AsmFault) (more : A → Result B AsmFault) (b : B) → then r more ≡ Ok b → (a : A) × (r ≡ Ok a) × (more a ≡ Ok b)
then_ok (Ok a) more b e = (a, refl, e)
then_ok (Err fault) more b e = absurd (cc e)

pub same_ok : {A : Type 0} (a b : A) → ◌≡◌ {A = Result A AsmFault} (Ok a) (Ok b) → a ≡ b
same_ok a b e = cc e

-- turns

turn_out : {text : List ℕ} {e n : ℕ} {body : List LineTokens} (s a b next : Stage) → s.reached < MOST_LINES → a ≡ record s { reached = s.reached + 1 } → IsOut text e a (lines body) b → IsOut text e b (times n body) next → IsOut text e s (times (suc n) body) next
turn_out {text} {e} {n} {body} s a b next few same o p =
    let q = subst (λ a. IsOut text e a (lines body) b) same o in
    record {
      left = q.left ++ p.left;
      expands = turn few q.expands p.expands;
      joined = p.joined ∙ (ap (λ xs. xs ++ p.left) q.joined ∙ append_assoc s.lines q.left p.left);
    }

no_turn : {text : List ℕ} {e : ℕ} {body : List LineTokens} (s next : Stage) → s ≡ next → IsOut text e s (times 0 body) next
no_turn {text} {e} {body} s next same = subst (IsOut text e s (times 0 body)) same (record { left = []; expands = over; joined = sym (append-nil s.lines) })

turns_out : (text : List ℕ) (e : ℕ) (run : List LineTokens → Stage → RunResult) → Inner text (suc e) run → (body : List LineTokens) (place : Place) (n : ℕ) (s next : Stage) → running.turns (run body) place n s ≡ Ok next → IsOut text e s (times n body) next
turns_out text e run inner body place zero s next f = no_turn s next (same_ok s next f)
turns_out text e run inner body place (suc n) s next f =
    let p = then_ok (turn_counted place s) (λ s. then (run body s) (running.turns (run body) place n)) next f in
    let q = then_ok (run body p.0) (running.turns (run body) place n) next p.2 in
    let c = turn_is place s p.0 p.1 in
    turn_out s p.0 q.0 next c.0 c.1 (inner body p.0 q.0 q.1) (turns_out text e run inner body place n q.0 next q.2)

-- the line that closes a body

closed_out : (text : List ℕ) (under : List LineTokens) (size : ℕ) (c : IsCut under size) (s next : Stage) → closed text (slice_get under size) s ≡ Ok next → IsClosed text s c.close next
closed_out text under size c s next e =
    let f = subst (λ line. closed text line s ≡ Ok next) c.at e in
    let p = then_ok (closes text c.close s) (λ (p : Act × Stage). Ok p.1) next f in
    let same = same_ok p.0.1 next p.2 in
    line_closed text c.close s p.0.0 next (p.1 ∙ ap (λ n. Ok (p.0.0, n)) same)

cut_body : (pair : Pair) (text : List ℕ) (under : List LineTokens) (size : ℕ) (c : IsCut under size) → body_length pair text 0 under ≡ Some size → IsBody pair text under (take size under) c.close (drop (suc size) under)
cut_body pair text under size c e = record { parts = c.parts; closes = e ∙ ap (λ n. Some n) (sym c.whole) }

behind_cut : (size : ℕ) (under : List LineTokens) → drop (size + 1) under ≡ drop (suc size) under
behind_cut size under = let e : size + 1 ≡ suc size = omega arith in ap (λ n. drop n under) e

-- one line, and those behind it

-- a line that leads on to known things and leaves lines
on : {text : List ℕ} {d : ℕ} {under : List LineTokens} {w : Work} (s : Stage) (b : Known) (more : List (List Token)) (s2 next : Stage) → s2 ≡ stage b (s.lines ++ more)
    → ((left : List (List Token)) → Expands text d b (lines under) (known_of next) left → Expands text d (known_of s) w (known_of next) (more ++ left)) → IsOut text d s2 (lines under) next → IsOut text d s w next
on {text} {d} {under} {w} s b more s2 next leads step o =
    let q = subst (λ x. IsOut text d x (lines under) next) leads o in
    record { left = more ++ q.left; expands = step q.left q.expands; joined = q.joined ∙ append_assoc s.lines more q.left }

unchanged : (s : Stage) (a : Known) → stage a s.lines ≡ stage a (s.lines ++ [])
unchanged s a = ap (stage a) (sym (append-nil s.lines))

pub set_stage : (text : List ℕ) (name : Token) (value : ℕ) (a : Known) (before : List (List Token)) → found (text_of text name) a.sets ≡ None → changed text (change.Sets (record { name = name; value = value })) (stage a before) ≡ stage (with_set text name value a) before
set_stage text name value a before new = rw (put_new (text_of text name) value a.sets new) refl

pub macro_stage : (text : List ℕ) (m : MacroTokens) (a : Known) (before : List (List Token)) → found (text_of text m.name) a.macros ≡ None → changed text (change.Defines m) (stage a before) ≡ stage (with_macro text m a) before
macro_stage text m a before new = rw (put_new (text_of text m.name) m a.macros new) refl

-- the turns of a repeat and the line that closes it
repeat_out : {text : List ℕ} {e n size : ℕ} {line : LineTokens} {under : List LineTokens} (run : List LineTokens → Stage → RunResult) (s s2 next : Stage) (a : Known) (place : Place) → Inner text (suc e) run
    → ((b c z : Known) (close : LineTokens) (body behind : List LineTokens) (left more : List (List Token)) → IsBody Repeat text under body close behind → Expands text e a (times n body) b left → Closes text b close c → Expands text (suc e) c (lines behind) z more → Expands text (suc e) (known_of s) (lines (line ∷ under)) z (left ++ more))
    → body_length Repeat text 0 under ≡ Some size → performed text run (act.Repeats n place size) under (stage a s.lines) ≡ Ok s2 → IsOut text (suc e) s2 (lines (drop (size + 1) under)) next → IsOut text (suc e) s (lines (line ∷ under)) next
repeat_out {text} {e} {n} {size} {line} {under} run s s2 next a place inner step found_end performs o =
    let cut = body_cut Repeat text 0 under size found_end in
    let p = then_ok (running.turns (run (take size under)) place n (stage a s.lines)) (closed text (slice_get under size)) s2 performs in
    let t = turns_out text e run inner (take size under) place n (stage a s.lines) p.0 p.1 in
    let c = closed_out text under size cut p.0 s2 p.2 in
    on s c.known t.left s2 next (c.leads ∙ ap (stage c.known) t.joined)
    (λ left more. step (known_of p.0) c.known (known_of next) cut.close (take size under) (drop (suc size) under) t.left left (cut_body Repeat text under size cut found_end) t.expands c.closing more)
    (subst (λ xs. IsOut text (suc e) s2 (lines xs) next) (behind_cut size under) o)

rule_out : {text : List ℕ} {s : Stage} {a : Known} {line : LineTokens} {rest : List Token} {under : List LineTokens} {b : Bool} {asks : Act} {s1 : Stage} (d : ℕ) (run : List LineTokens → Stage → RunResult) (s2 next : Stage) → is_deepest d ≡ b → Inner text d run
    → Reaches text (known_of s) line a rest → KeepsNames (known_of s) a → LineRule text s a line rest under b asks s1 → performed text run asks under s1 ≡ Ok s2 → IsOut text d s2 (lines (drop (taken asks) under)) next → IsOut text d s (lines (line ∷ under)) next
rule_out {text} {s} {a} d run s2 next deep inner r kept (at_empty e) performs o =
    on s a [] s2 next (sym (same_ok (stage a s.lines) s2 performs) ∙ unchanged s a) (λ left more. empty r e more) o
rule_out {text} {s} {a} d run s2 next deep inner r kept (at_set {name = name} {value = value} e spelled new) performs o =
    let led = set_stage text name value a s.lines (ap (found (text_of text name)) kept.sets ∙ new) in
    on s (with_set text name value a) [] s2 next (sym (same_ok (changed text (change.Sets (record { name = name; value = value })) (stage a s.lines)) s2 performs) ∙ (led ∙ unchanged s (with_set text name value a))) (λ left more. set r e spelled new more) o
rule_out {text} {s} {a} {line} d run s2 next deep inner r kept (at_plain {tokens = tokens} leaves few) performs o =
    on s (with_word a) ((tokens ++ line.end ∷ []) ∷ []) s2 next (sym (same_ok (changed text (change.Leaves (tokens ++ line.end ∷ [])) (stage a s.lines)) s2 performs)) (λ left more. plain r leaves few more) o
rule_out {text} {s} {a} {line} {rest} zero run s2 next deep inner r kept (at_repeat e worth few found_end) performs o = absurd (cc deep)
rule_out {text} {s} {a} {line} {rest} (suc d) run s2 next deep inner r kept (at_repeat {n = n} {size = size} e worth few found_end) performs o =
    repeat_out run s s2 next a (place_in line.end rest) inner
    (λ b c z close body behind left more is_body turned closing further. repeat r e worth few is_body turned closing further) found_end performs o
rule_out {text} {s} {a} {line} {rest} {under} d run s2 next deep inner r kept (at_macro {size = size} {name = name} {parameters = parameters} e spelled new apart found_end) performs o =
    let cut = body_cut Macro text 0 under size found_end in
    let m : MacroTokens = record { name = name; parameters = parameters; body = take size under } in
    let led = macro_stage text m a s.lines (ap (found (text_of text name)) kept.macros ∙ new) in
    let f = subst (λ x. closed text (slice_get under size) x ≡ Ok s2) led performs in
    let c = closed_out text under size cut (stage (with_macro text m a) s.lines) s2 f in
    on s c.known [] s2 next (c.leads ∙ unchanged s c.known)
    (λ left more. macro r e spelled new apart (cut_body Macro text under size cut found_end) c.closing more)
    (subst (λ xs. IsOut text d s2 (lines xs) next) (behind_cut size under) o)
rule_out zero run s2 next deep inner r kept (at_call e c given count) performs o = absurd (cc deep)
rule_out {text} {s} {a} {line} {rest} {under} (suc d) run s2 next deep inner r kept (at_call {m = m} {arguments = arguments} e c given count) performs o =
    let q = inner (body_replaced text m.parameters arguments m.body) (stage a s.lines) s2 performs in
    on s (known_of s2) q.left s2 next (ap (stage (known_of s2)) q.joined) (λ left more. call r e c given count q.expands more) o

none_out : {text : List ℕ} {d : ℕ} (s next : Stage) → s ≡ next → IsOut text d s (lines []) next
none_out {text} {d} s next same = subst (IsOut text d s (lines [])) same (record { left = []; expands = nothing; joined = sym (append-nil s.lines) })

lines_out : (text : List ℕ) (d : ℕ) (run : List LineTokens → Stage → RunResult) (b : Bool) → is_deepest d ≡ b → Inner text d run → (skip : ℕ) (xs : List LineTokens) (s next : Stage) → lines_run text run b skip xs s ≡ Ok next → IsOut text d s (lines (drop skip xs)) next
lines_out text d run b deep inner zero [] s next e = none_out s next (same_ok s next e)
lines_out text d run b deep inner (suc skip) [] s next e = none_out s next (same_ok s next e)
lines_out text d run b deep inner (suc skip) (line ∷ under) s next e = lines_out text d run b deep inner skip under s next e
lines_out text d run b deep inner zero (line ∷ under) s next e =
    let p = then_ok (line_does text b line under s) (λ (p : Act × Stage). then (performed text run p.0 under p.1) (lines_run text run b (taken p.0) under)) next e in
    let q = then_ok (performed text run p.0.0 under p.0.1) (lines_run text run b (taken p.0.0) under) next p.2 in
    let i = line_ruled text b line under s p.0.0 p.0.1 p.1 in
    rule_out d run q.0 next deep inner i.reaches i.keeps i.rule q.1 (lines_out text d run b deep inner (taken p.0.0) under q.0 next q.2)

-- lines that are expanded are expanded by the rules
pub within_out : (text : List ℕ) (d : ℕ) (xs : List LineTokens) (s next : Stage) → run_within text d xs s ≡ Ok next → IsOut text d s (lines xs) next
within_out text zero xs s next e = lines_out text 0 nothing_run true refl tt 0 xs s next e
within_out text (suc d) xs s next e = lines_out text (suc d) (run_within text d) false refl (within_out text d) 0 xs s next e
