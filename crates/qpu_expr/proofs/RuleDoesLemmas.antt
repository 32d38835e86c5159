-- A line that follows a rule has no fault, and leads to what the rule says.
use Rattle.std.proofs.Common.{◌≡◌, ℕ, ◌<◌, ◌≤◌, Bool, true, false, List, [], ◌∷◌, ◌++◌, length, take, Some, None, refl, ap, sym, subst, arith}
use Rattle.std.specs.Prelude.{◌==◌, nat_lt, drop, is_some}
use Rattle.std.proofs.lemmas.Bool.Decides.{nat_tests}
use Rattle.qpu_token.specs.declared.token.Token.{Token}
use Rattle.qpu_token.specs.Tokens.{text_of}
use Rattle.qpu_expr.specs.declared.limits.TheConstants.{MOST_WORDS, MOST_TURNS}
use Rattle.qpu_expr.specs.declared.line.Head.{Head}
use Rattle.qpu_expr.specs.declared.line.Head.TheVariants as head
use Rattle.qpu_expr.specs.declared.line.Pair.TheVariants.{Repeat, Macro}
use Rattle.qpu_expr.specs.declared.state.Change.TheVariants as change
use Rattle.qpu_expr.specs.declared.deed.Act.{Act}
use Rattle.qpu_expr.specs.declared.deed.Act.TheVariants as act
use Rattle.qpu_expr.specs.Symbols.{place_of}
use Rattle.qpu_expr.specs.Tables.{found}
use Rattle.qpu_expr.specs.Settings.{expression, value_in, zero_in}
use Rattle.qpu_expr.specs.Operands.{instruction_work}
use Rattle.qpu_expr.specs.LineTokens.{LineTokens}
use Rattle.qpu_expr.specs.MacroTokens.{MacroTokens}
use Rattle.qpu_expr.specs.Lines.{head_of, body_length, left_tokens}
use Rattle.qpu_expr.specs.Macros.{repeated_in, body_replaced, called}
use Rattle.qpu_expr.specs.StageParts.{Stage}
use Rattle.qpu_expr.specs.Stage.{leaves, changed}
use Rattle.qpu_expr.specs.Findings.{place_in, left_deed}
use Rattle.qpu_expr.specs.Directives.{set_deed, repeat_deed, macro_deed}
use Rattle.qpu_expr.specs.Calls.{call_deed, instruction_deed, other_deed}
use Rattle.qpu_expr.specs.Deeds.{deed_by}
use Rattle.qpu_expr.specs.Spelled.{IsWorth, is_setting, Setting, Names, Given}
use Rattle.qpu_expr.specs.Rules.{Known, Works, Leaves, word, no_setting, other, instruction}
use Rattle.qpu_expr.proofs.SpelledLemmas.{worth_read, names_read}
use Rattle.qpu_expr.proofs.ArgumentLemmas.{given_reads}
use Rattle.qpu_expr.proofs.RuleLineLemmas.{stage, LineRule, at_empty, at_set, at_plain, at_repeat, at_macro, at_call, fine, Permits, place_not, found_not, set_left, set_given, setting_parts, text_called, text_plain}

-- a deed whose findings and changes are these
abbrev Does : List ℕ → Stage → Known → LineTokens → List Token → List LineTokens → Bool → Act → Stage → Type 0
Does text s a line rest under b asks next = Permits text s a (deed_by text s b line.end line.tokens rest under (head_of text rest)) asks next

by_head : (text : List ℕ) (s : Stage) (a : Known) (line : LineTokens) (rest : List Token) (under : List LineTokens) (b : Bool) (asks : Act) (next : Stage) (h : Head) → head_of text rest ≡ h → Permits text s a (deed_by text s b line.end line.tokens rest under h) asks next → Does text s a line rest under b asks next
by_head text s a line rest under b asks next h e p = subst (λ h. Permits text s a (deed_by text s b line.end line.tokens rest under h) asks next) (sym e) p

no_word : {X : Type 0} → false ≡ true → X
no_word e = cc

left_does : (text : List ℕ) (s : Stage) (a : Known) (end : Token) (tokens : List Token) → s.words < MOST_WORDS → Permits text s a (left_deed end tokens) act.Nothing (changed text (change.Leaves (tokens ++ end ∷ [])) (stage a s.lines))
left_does text s a end tokens few = record { clear = fine; room = λ e. few; acts = refl; leads = refl }

set_does : (text : List ℕ) (s : Stage) (a : Known) (line : LineTokens) (rest : List Token) (name : Token) (value : ℕ) → Setting text s.sets (drop 2 rest) name value → found (text_of text name) s.sets ≡ None
    → Permits text s a (set_deed text s.sets line.end rest) act.Nothing (changed text (change.Sets (record { name = name; value = value })) (stage a s.lines))
set_does text s a line rest name value spelled new =
    let i = setting_parts spelled in
    let x = expression text s.sets i.0.value in
    subst (λ d. Permits text s a d act.Nothing (changed text (change.Sets (record { name = name; value = value })) (stage a s.lines))) (sym (set_given text s.sets line.end rest name i.0))
    (record {
      clear = record {
        no_unknown = place_not x.unknown (place_in line.end i.0.value) i.1.known;
        no_twice = place_not (is_some (found (text_of text name) s.sets)) (place_of name) (found_not (found (text_of text name) s.sets) new);
        no_deep = refl;
        no_zero = ap zero_in i.1.whole;
        no_shape = refl;
        no_range = refl;
      };
      room = λ e. no_word e;
      acts = refl;
      leads = ap (λ v. changed text (change.Sets (record { name = name; value = v })) (stage a s.lines)) (sym (ap value_in i.1.whole));
    })

few_turns : (n : ℕ) → n ≤ MOST_TURNS → nat_lt MOST_TURNS n ≡ false
few_turns n few = grind (arith, nat_tests, few)

repeat_does : (text : List ℕ) (s : Stage) (a : Known) (line : LineTokens) (rest : List Token) (under : List LineTokens) (n size : ℕ) → IsWorth text s.sets (drop 2 rest) n → n ≤ MOST_TURNS → body_length Repeat text 0 under ≡ Some size
    → Permits text s a (repeat_deed text s.sets false line.end rest under) (act.Repeats n (place_in line.end rest) size) (stage a s.lines)
unfolding repeat_deed
repeat_does text s a line rest under n size worth few closes =
    let r = worth_read text s.sets (drop 2 rest) n worth in
    record {
      clear = record { no_unknown = rw (r.known, r.whole) refl; no_twice = refl; no_deep = refl; no_zero = rw (r.whole) refl; no_shape = rw (closes, r.whole) refl; no_range = rw (r.whole, few_turns n few) refl };
      room = λ e. no_word e;
      acts = rw (r.whole, closes) refl;
      leads = refl;
    }

macro_does : (text : List ℕ) (s : Stage) (a : Known) (line : LineTokens) (rest : List Token) (under : List LineTokens) (size : ℕ) (name : Token) (parameters : List Token) → Names text (drop 2 rest) (name ∷ parameters)
    → found (text_of text name) s.macros ≡ None → repeated_in text [] parameters ≡ None → body_length Macro text 0 under ≡ Some size
    → Permits text s a (macro_deed text s.macros line.end rest under) (act.Passes size) (changed text (change.Defines (record { name = name; parameters = parameters; body = take size under })) (stage a s.lines))
unfolding macro_deed
macro_does text s a line rest under size name parameters spelled new apart closes =
    let r = names_read text (drop 2 rest) (name ∷ parameters) spelled in
    record {
      clear = record { no_unknown = rw (closes) refl; no_twice = rw (closes, r, new, apart) refl; no_deep = rw (closes) refl; no_zero = rw (closes) refl; no_shape = rw (closes, r) refl; no_range = rw (closes) refl };
      room = rw (r) (λ e. no_word e);
      acts = rw (closes) refl;
      leads = rw (r, closes) refl;
    }

same_length : (n m : ℕ) → n ≡ m → (n == m) ≡ true
same_length n m e = grind (arith, nat_tests, e)

call_does : (text : List ℕ) (s : Stage) (a : Known) (line : LineTokens) (rest : List Token) (m : MacroTokens) (arguments : List (List Token)) → Given text (drop 1 rest) arguments → length arguments ≡ length m.parameters
    → Permits text s a (call_deed text false line.end rest m) (act.Calls (body_replaced text m.parameters arguments m.body)) (stage a s.lines)
unfolding call_deed
call_does text s a line rest m arguments given count =
    let g = given_reads text line.end (drop 1 rest) arguments given in
    record {
      clear = record { no_unknown = refl; no_twice = refl; no_deep = refl; no_zero = refl; no_shape = rw (g.clear, g.same, same_length (length arguments) (length m.parameters) count) refl; no_range = refl };
      room = λ e. no_word e;
      acts = rw (g.same) refl;
      leads = refl;
    }

instruction_does : (text : List ℕ) (s : Stage) (a : Known) (line : LineTokens) (rest tokens : List Token) (k : Known) → k.sets ≡ s.sets → Works text k rest tokens → s.words < MOST_WORDS
    → Permits text s a (instruction_deed text s.sets line.end rest) act.Nothing (changed text (change.Leaves (tokens ++ line.end ∷ [])) (stage a s.lines))
unfolding instruction_deed
instruction_does text s a line rest tokens k same works few =
    let w = subst (λ sets. instruction_work text sets rest ≡ record { tokens = tokens; unknown = None; zero = None }) same works in
    record {
      clear = record { no_unknown = rw (w) refl; no_twice = refl; no_deep = refl; no_zero = rw (w) refl; no_shape = refl; no_range = refl };
      room = λ e. few;
      acts = refl;
      leads = rw (w) refl;
    }

other_does : (text : List ℕ) (s : Stage) (a : Known) (line : LineTokens) (rest left tokens : List Token) (k : Known) → k.sets ≡ s.sets → Works text k rest tokens → s.words < MOST_WORDS
    → Permits text s a (other_deed text s.sets line.end left rest) act.Nothing (changed text (change.Leaves (left ++ line.end ∷ [])) (stage a s.lines))
unfolding other_deed
other_does text s a line rest left tokens k same works few =
    let w = subst (λ sets. instruction_work text sets rest ≡ record { tokens = tokens; unknown = None; zero = None }) same works in
    record {
      clear = record { no_unknown = rw (w) refl; no_twice = refl; no_deep = refl; no_zero = rw (w) refl; no_shape = refl; no_range = refl };
      room = λ e. few;
      acts = refl;
      leads = refl;
    }

leaves_does : {text : List ℕ} {s : Stage} {a k : Known} (line : LineTokens) (rest : List Token) (under : List LineTokens) (b : Bool) {tokens : List Token} → k.sets ≡ s.sets → k.macros ≡ s.macros → Leaves text k line.tokens rest tokens → s.words < MOST_WORDS
    → Does text s a line rest under b act.Nothing (changed text (change.Leaves (tokens ++ line.end ∷ [])) (stage a s.lines))
leaves_does {text} {s} {a} {k} line rest under b {tokens} same macros (word e) few = by_head text s a line rest under b act.Nothing _ head.Word e (left_does text s a line.end rest few)
leaves_does {text} {s} {a} {k} line rest under b {tokens} same macros (no_setting e f) few =
    let g = subst (λ sets. is_setting text sets (drop 2 rest) ≡ false) same f in
    by_head text s a line rest under b act.Nothing _ head.Set e
    (subst (λ d. Permits text s a d act.Nothing (changed text (change.Leaves (rest ++ line.end ∷ [])) (stage a s.lines))) (sym (set_left text s.sets line.end rest g)) (left_does text s a line.end rest few))
leaves_does {text} {s} {a} {k} line rest under b {tokens} same macros (other {tokens = worked} e works) few =
    by_head text s a line rest under b act.Nothing _ head.Other e (other_does text s a line rest (left_tokens text line.tokens rest) worked k same works few)
leaves_does {text} {s} {a} {k} line rest under b {tokens} same macros (instruction e c works) few =
    let d = subst (λ ms. called text ms rest ≡ None) macros c in
    by_head text s a line rest under b act.Nothing _ head.Instruction e
    (subst (λ d. Permits text s a d act.Nothing (changed text (change.Leaves (tokens ++ line.end ∷ [])) (stage a s.lines))) (sym (text_plain text s b line.end rest d)) (instruction_does text s a line rest tokens k same works few))

-- a rule of a line is what the line does
pub rule_does : {text : List ℕ} {s : Stage} {a : Known} {line : LineTokens} {rest : List Token} {under : List LineTokens} {b : Bool} {asks : Act} {next : Stage} → LineRule text s a line rest under b asks next → Does text s a line rest under b asks next
rule_does {text} {s} {a} {line} {rest} {under} {b} (at_empty e) = by_head text s a line rest under b act.Nothing _ head.Nothing e (record { clear = fine; room = λ e. no_word e; acts = refl; leads = refl })
rule_does {text} {s} {a} {line} {rest} {under} {b} (at_set {name = name} {value = value} e spelled new) = by_head text s a line rest under b act.Nothing _ head.Set e (set_does text s a line rest name value spelled new)
rule_does {line = line} {rest = rest} {under = under} {b = b} (at_plain leaves few) = leaves_does line rest under b refl refl leaves few
rule_does {text} {s} {a} {line} {rest} {under} (at_repeat {n = n} {size = size} e worth few closes) = by_head text s a line rest under false _ _ (head.Opens Repeat) e (repeat_does text s a line rest under n size worth few closes)
rule_does {text} {s} {a} {line} {rest} {under} {b} (at_macro {size = size} {name = name} {parameters = parameters} e spelled new apart closes) = by_head text s a line rest under b _ _ (head.Opens Macro) e (macro_does text s a line rest under size name parameters spelled new apart closes)
rule_does {text} {s} {a} {line} {rest} {under} (at_call {m = m} {arguments = arguments} e c given count) =
    by_head text s a line rest under false _ _ head.Instruction e
    (subst (λ d. Permits text s a d (act.Calls (body_replaced text m.parameters arguments m.body)) (stage a s.lines)) (sym (text_called text s false line.end rest m c)) (call_does text s a line rest m arguments given count))
