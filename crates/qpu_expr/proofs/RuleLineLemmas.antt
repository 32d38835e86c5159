-- What one line does by itself, by the rules of its form.
use Rattle.std.proofs.Common.{◌≡◌, ℕ, ◌<◌, ◌≤◌, Bool, true, false, List, [], ◌∷◌, ◌++◌, length, take, Option, Some, None, Ok, Err, refl, ap, sym, subst, ◌∙◌, arith}
use Rattle.std.specs.Prelude.{◌&&◌, ◌==◌, nat_lt, drop, is_some, unwrap_or, if◌then◌else◌}
use Rattle.std.specs.Option.{option_or}
use Rattle.std.proofs.lemmas.Bool.Decides.{nat_tests}
use Rattle.qpu_token.specs.declared.token.Token.{Token}
use Rattle.qpu_token.specs.Tokens.{text_of}
use Rattle.qpu_expr.specs.declared.limits.TheConstants.{MOST_WORDS, MOST_TURNS}
use Rattle.qpu_expr.specs.declared.place.Place.{Place}
use Rattle.qpu_expr.specs.declared.expression.Parsed.{Parsed}
use Rattle.qpu_expr.specs.declared.expression.Parsed.TheVariants.{Whole, Cut, Extra}
use Rattle.qpu_expr.specs.declared.setting.Expression.{Expression}
use Rattle.qpu_expr.specs.declared.line.Head.{Head}
use Rattle.qpu_expr.specs.declared.line.Head.TheVariants as head
use Rattle.qpu_expr.specs.declared.line.Pair.TheVariants.{Repeat, Macro}
use Rattle.qpu_expr.specs.declared.state.Change.TheVariants as change
use Rattle.qpu_expr.specs.declared.deed.Act.{Act}
use Rattle.qpu_expr.specs.declared.deed.Act.TheVariants as act
use Rattle.qpu_expr.specs.declared.deed.Deed.{Deed}
use Rattle.qpu_expr.specs.declared.deed.Findings.{Findings}
use Rattle.qpu_expr.specs.Symbols.{place_of}
use Rattle.qpu_expr.specs.Tables.{found}
use Rattle.qpu_expr.specs.Settings.{Sets, expression, is_whole, value_in, zero_in}
use Rattle.qpu_expr.specs.Operands.{is_name, Worked, instruction_work}
use Rattle.qpu_expr.specs.LineTokens.{LineTokens}
use Rattle.qpu_expr.specs.MacroTokens.{MacroTokens}
use Rattle.qpu_expr.specs.Lines.{head_of, body_length, left_tokens}
use Rattle.qpu_expr.specs.Macros.{Macros, is_comma, names_of, heading_fault, repeated_in, arguments_of, argument_fault, body_replaced, called}
use Rattle.qpu_expr.specs.StageParts.{Stage}
use Rattle.qpu_expr.specs.Stage.{leaves, changed}
use Rattle.qpu_expr.specs.Findings.{place_in, place_when, left_deed, misshapen, no_findings}
use Rattle.qpu_expr.specs.Directives.{set_deed, repeat_by, repeat_deed, names_twice, defined, macro_by, macro_deed}
use Rattle.qpu_expr.specs.Calls.{call_deed, instruction_deed, other_deed, text_deed}
use Rattle.qpu_expr.specs.Deeds.{deed_by}
use Rattle.qpu_expr.specs.Spelled.{IsWorth, is_setting, Setting, setting, Names, last, more, Given}
use Rattle.qpu_expr.specs.Rules.{Known, Leaves, word, no_setting, other, instruction}
use Rattle.qpu_expr.proofs.SpelledLemmas.{IsRead, worth_read, read_worth, heading_spells}
use Rattle.qpu_expr.proofs.ArgumentLemmas.{call_gives}

abbrev pub stage : Known → List (List Token) → Stage
stage k lines = record { lines = lines; labels = k.labels; sets = k.sets; macros = k.macros; reached = k.reached; tokens = k.tokens; words = k.words }

abbrev pub known_of : Stage → Known
known_of s = record { sets = s.sets; macros = s.macros; labels = s.labels; reached = s.reached; tokens = s.tokens; words = s.words }

-- what a line without a fault asks for, and what it leads to, by its form
pub data LineRule (text : List ℕ) (s : Stage) (a : Known) (line : LineTokens) (rest : List Token) (under : List LineTokens) : Bool → Act → Stage → Type 0 where
  at_empty : {b : Bool} → head_of text rest ≡ head.Nothing → LineRule text s a line rest under b act.Nothing (stage a s.lines)
  at_set : {b : Bool} {name : Token} {value : ℕ} → head_of text rest ≡ head.Set → Setting text s.sets (drop 2 rest) name value → found (text_of text name) s.sets ≡ None
      → LineRule text s a line rest under b act.Nothing (changed text (change.Sets (record { name = name; value = value })) (stage a s.lines))
  at_plain : {b : Bool} {tokens : List Token} → Leaves text (known_of s) line.tokens rest tokens → s.words < MOST_WORDS
      → LineRule text s a line rest under b act.Nothing (changed text (change.Leaves (tokens ++ line.end ∷ [])) (stage a s.lines))
  at_repeat : {n size : ℕ} → head_of text rest ≡ head.Opens Repeat → IsWorth text s.sets (drop 2 rest) n → n ≤ MOST_TURNS → body_length Repeat text 0 under ≡ Some size
      → LineRule text s a line rest under false (act.Repeats n (place_in line.end rest) size) (stage a s.lines)
  at_macro : {b : Bool} {size : ℕ} {name : Token} {parameters : List Token} → head_of text rest ≡ head.Opens Macro → Names text (drop 2 rest) (name ∷ parameters)
      → found (text_of text name) s.macros ≡ None → repeated_in text [] parameters ≡ None → body_length Macro text 0 under ≡ Some size
      → LineRule text s a line rest under b (act.Passes size) (changed text (change.Defines (record { name = name; parameters = parameters; body = take size under })) (stage a s.lines))
  at_call : {m : MacroTokens} {arguments : List (List Token)} → head_of text rest ≡ head.Instruction → called text s.macros rest ≡ Some m → Given text (drop 1 rest) arguments → length arguments ≡ length m.parameters
      → LineRule text s a line rest under false (act.Calls (body_replaced text m.parameters arguments m.body)) (stage a s.lines)

-- no finding of a line's form
pub record IsFine (f : Findings) : Type 0 where
  pub no_unknown : f.unknown ≡ None
  pub no_twice : f.twice ≡ None
  pub no_deep : f.deep ≡ None
  pub no_zero : f.zero ≡ None
  pub no_shape : f.shape ≡ None
  pub no_range : f.range ≡ None

pub fine : IsFine no_findings
fine = record { no_unknown = refl; no_twice = refl; no_deep = refl; no_zero = refl; no_shape = refl; no_range = refl }

-- a deed without a fault, and what it leads to
pub record Permits (text : List ℕ) (s : Stage) (a : Known) (d : Deed) (asks : Act) (next : Stage) : Type 0 where
  pub clear : IsFine d.findings
  pub room : leaves d.change ≡ true → s.words < MOST_WORDS
  pub acts : asks ≡ d.act
  pub leads : next ≡ changed text d.change (stage a s.lines)

-- tests

and_true : (a b : Bool) → (a && b) ≡ true → (a ≡ true) × (b ≡ true)
and_true true b e = (refl, e)
and_true false b e = cc

no_place : (b : Bool) (place : Place) → place_when b place ≡ None → b ≡ false
no_place true place e = cc
no_place false place e = refl

pub place_not : (b : Bool) (place : Place) → b ≡ false → place_when b place ≡ None
place_not b place e = rw e refl

not_found : {V : Type 0} (r : Option V) → is_some r ≡ false → r ≡ None
not_found (Some v) e = cc
not_found None e = refl

pub found_not : {V : Type 0} (r : Option V) → r ≡ None → is_some r ≡ false
found_not r e = rw e refl

either_none : (a b : Option Place) → option_or a b ≡ None → (a ≡ None) × (b ≡ None)
either_none None b e = (refl, e)
either_none (Some place) b e = cc

both_none : (a b : Option Place) → a ≡ None → b ≡ None → option_or a b ≡ None
both_none a b e f = rw (e, f) refl

-- values

valued : (p : Parsed) → is_whole p ≡ true → zero_in p ≡ None → p ≡ Whole (Ok (value_in p))
valued (Whole (Ok value)) w z = refl
valued (Whole (Err place)) w z = cc
valued Cut w z = cc
valued (Extra place) w z = cc

shaped : (first : Place) (p : Parsed) → misshapen first p ≡ None → is_whole p ≡ true
shaped first (Whole worth) e = refl
shaped first Cut e = cc
shaped first (Extra place) e = cc

-- a line of parts, worked out

works_by : (w : Worked) → w.unknown ≡ None → w.zero ≡ None → w ≡ record { tokens = w.tokens; unknown = None; zero = None }
works_by w e f = by_parts w.tokens w.unknown w.zero e f
  where
    by_parts : (tokens : List Token) (unknown division : Option Place) → unknown ≡ None → division ≡ None → ◌≡◌ {A = Worked} (record { tokens = tokens; unknown = unknown; zero = division }) (record { tokens = tokens; unknown = None; zero = None })
    by_parts tokens unknown division e f = rw (e, f) refl

-- `.set`

chosen_left : {A : Type 0} (b w : Bool) (x left : A) → (b && w) ≡ false → (if b then (if w then x else left) else left) ≡ left
chosen_left true true x left e = cc
chosen_left true false x left e = refl
chosen_left false w x left e = refl

pub set_left : (text : List ℕ) (sets : Sets) (end : Token) (line : List Token) → is_setting text sets (drop 2 line) ≡ false → set_deed text sets end line ≡ left_deed end line
unfolding set_deed
set_left text sets end line = by_tokens (drop 2 line) refl
  where
    by_tokens : (xs : List Token) → drop 2 line ≡ xs → is_setting text sets (drop 2 line) ≡ false → set_deed text sets end line ≡ left_deed end line
    by_tokens [] e f = rw e refl
    by_tokens (name ∷ []) e f = rw e refl
    by_tokens (name ∷ comma ∷ value) e f =
        let g = subst (λ xs. is_setting text sets xs ≡ false) e f in
        rw e (chosen_left (is_name text name && is_comma text comma) (is_whole (expression text sets value).outcome) _ (left_deed end line) g)

-- the parts of a setting
pub record IsSetting (text : List ℕ) (sets : Sets) (tokens : List Token) (name : Token) : Type 0 where
  pub comma : Token
  pub value : List Token
  pub same : tokens ≡ name ∷ comma ∷ value
  pub named : is_name text name ≡ true
  pub signed : is_comma text comma ≡ true
  pub whole : is_whole (expression text sets value).outcome ≡ true

pub set_given : (text : List ℕ) (sets : Sets) (end : Token) (line : List Token) (name : Token) (i : IsSetting text sets (drop 2 line) name) → set_deed text sets end line ≡ record {
  findings = record { unknown = place_when (expression text sets i.value).unknown (place_in end i.value); twice = place_when (is_some (found (text_of text name) sets)) (place_of name); deep = None; zero = zero_in (expression text sets i.value).outcome; shape = None; range = None };
  change = change.Sets (record { name = name; value = value_in (expression text sets i.value).outcome });
  act = act.Nothing;
}
unfolding set_deed
set_given text sets end line name i = rw (i.same, i.named, i.signed, i.whole) refl

setting_at : (text : List ℕ) (sets : Sets) (tokens : List Token) → is_setting text sets tokens ≡ true → (name : Token) × IsSetting text sets tokens name
setting_at text sets [] e = cc
setting_at text sets (name ∷ []) e = cc
setting_at text sets (name ∷ comma ∷ value) e =
    let w = and_true (is_name text name && is_comma text comma) (is_whole (expression text sets value).outcome) e in
    let n = and_true (is_name text name) (is_comma text comma) w.0 in
    (name, record { comma = comma; value = value; same = refl; named = n.0; signed = n.1; whole = w.1 })

pub setting_parts : {text : List ℕ} {sets : Sets} {tokens : List Token} {name : Token} {n : ℕ} → Setting text sets tokens name n → (i : IsSetting text sets tokens name) × IsRead (expression text sets i.value) n
setting_parts {text} {sets} (setting {comma = comma} {expr = expr} {value = value} is sign worth) =
    let r = worth_read text sets expr value worth in
    (record { comma = comma; value = expr; same = refl; named = is; signed = sign; whole = ap is_whole r.whole }, r)

-- a line that isn't left
set_rule : (text : List ℕ) (s : Stage) (a : Known) (line : LineTokens) (rest : List Token) (under : List LineTokens) (b : Bool) (asks : Act) (next : Stage) (name : Token) (i : IsSetting text s.sets (drop 2 rest) name) → head_of text rest ≡ head.Set → Permits text s a (set_deed text s.sets line.end rest) asks next → LineRule text s a line rest under b asks next
set_rule text s a line rest under b asks next name i e p =
    let q = subst (λ d. Permits text s a d asks next) (set_given text s.sets line.end rest name i) p in
    let x = expression text s.sets i.value in
    let worth = read_worth text s.sets i.value (value_in x.outcome) (record { whole = valued x.outcome i.whole q.clear.no_zero; known = no_place x.unknown (place_in line.end i.value) q.clear.no_unknown }) in
    let new = not_found (found (text_of text name) s.sets) (no_place (is_some (found (text_of text name) s.sets)) (place_of name) q.clear.no_twice) in
    rw (q.acts, q.leads) (at_set e (subst (λ xs. Setting text s.sets xs name (value_in x.outcome)) (sym i.same) (setting i.named i.signed worth)) new)

left_rule : (text : List ℕ) (s : Stage) (a : Known) (line : LineTokens) (rest tokens : List Token) (under : List LineTokens) (b : Bool) (asks : Act) (next : Stage) → Leaves text (known_of s) line.tokens rest tokens → Permits text s a (left_deed line.end tokens) asks next → LineRule text s a line rest under b asks next
left_rule text s a line rest tokens under b asks next leaves p = rw (p.acts, p.leads) (at_plain leaves (p.room refl))

either_set : (text : List ℕ) (s : Stage) (a : Known) (line : LineTokens) (rest : List Token) (under : List LineTokens) (b : Bool) (asks : Act) (next : Stage) → head_of text rest ≡ head.Set → Permits text s a (set_deed text s.sets line.end rest) asks next → LineRule text s a line rest under b asks next
either_set text s a line rest under b asks next e p = by_form (is_setting text s.sets (drop 2 rest)) refl
  where
    by_form : (w : Bool) → is_setting text s.sets (drop 2 rest) ≡ w → LineRule text s a line rest under b asks next
    by_form true f = let i = setting_at text s.sets (drop 2 rest) f in set_rule text s a line rest under b asks next i.0 i.1 e p
    by_form false f =
        left_rule text s a line rest rest under b asks next (no_setting e f)
        (subst (λ d. Permits text s a d asks next) (set_left text s.sets line.end rest f) p)

-- `.rep`

record IsRepeat (deepest : Bool) (e : Expression) (body : Option ℕ) : Type 0 where
  pub size : ℕ
  pub closes : body ≡ Some size
  pub read : IsRead e (value_in e.outcome)
  pub few : value_in e.outcome ≤ MOST_TURNS
  pub room : deepest ≡ false

repeat_is : (deepest : Bool) (dot first : Place) (e : Expression) (body : Option ℕ) → IsFine (repeat_by deepest dot first e body).findings → IsRepeat deepest e body
repeat_is deepest dot first e None f = let h = f.no_shape in absurd (cc h)
repeat_is deepest dot first e (Some size) f =
    let w = shaped first e.outcome f.no_shape in
    let u = no_place (is_whole e.outcome && e.unknown) first f.no_unknown in
    let few = no_place (nat_lt MOST_TURNS (value_in e.outcome)) first f.no_range in
    record {
      size = size;
      closes = refl;
      read = record { whole = valued e.outcome w f.no_zero; known = subst (λ b. (b && e.unknown) ≡ false) w u };
      few = grind (arith, nat_tests, few);
      room = no_place deepest dot f.no_deep;
    }

repeat_rule : (text : List ℕ) (s : Stage) (a : Known) (line : LineTokens) (rest : List Token) (under : List LineTokens) (b : Bool) (asks : Act) (next : Stage) → head_of text rest ≡ head.Opens Repeat → Permits text s a (repeat_deed text s.sets b line.end rest under) asks next → LineRule text s a line rest under b asks next
unfolding repeat_deed
repeat_rule text s a line rest under b asks next e p =
    let x = expression text s.sets (drop 2 rest) in
    let r = repeat_is b (place_in line.end rest) (place_in line.end (drop 2 rest)) x (body_length Repeat text 0 under) p.clear in
    let asked : asks ≡ act.Repeats (value_in x.outcome) (place_in line.end rest) r.size = p.acts ∙ ap (λ o. act.Repeats (value_in x.outcome) (place_in line.end rest) (unwrap_or o 0)) r.closes in
    rw (asked, p.leads) (subst (λ deepest. LineRule text s a line rest under deepest (act.Repeats (value_in x.outcome) (place_in line.end rest) r.size) (stage a s.lines)) (sym r.room)
    (at_repeat e (read_worth text s.sets (drop 2 rest) (value_in x.outcome) r.read) r.few r.closes))

-- `.macro`

record IsDefined (text : List ℕ) (macros : Macros) (tokens names : List Token) (body : Option ℕ) : Type 0 where
  pub name : Token
  pub parameters : List Token
  pub same : names ≡ name ∷ parameters
  pub spelled : Names text tokens names
  pub new : found (text_of text name) macros ≡ None
  pub apart : repeated_in text [] parameters ≡ None
  pub size : ℕ
  pub closes : body ≡ Some size

some_names : {text : List ℕ} {tokens names : List Token} → Names text tokens names → (name : Token) × (parameters : List Token) × (names ≡ name ∷ parameters)
some_names (last {name = name} is) = (name, [], refl)
some_names (more {name = name} {names = names} is sign rest) = (name, names, refl)

macro_is : (text : List ℕ) (macros : Macros) (dot : Place) (end : Token) (tokens : List Token) (body : Option ℕ) → IsFine (macro_by dot (heading_fault end (names_of text tokens)) (names_twice text macros (names_of text tokens).names) body) → IsDefined text macros tokens (names_of text tokens).names body
macro_is text macros dot end tokens None f = let h = f.no_shape in absurd (cc h)
macro_is text macros dot end tokens (Some size) f =
    let spelled = heading_spells text tokens end f.no_shape in
    let n = some_names spelled in
    let twice = subst (λ names. names_twice text macros names ≡ None) n.2 f.no_twice in
    let h = either_none (place_when (is_some (found (text_of text n.0) macros)) (place_of n.0)) (repeated_in text [] n.1) twice in
    record {
      name = n.0;
      parameters = n.1;
      same = n.2;
      spelled = spelled;
      new = not_found (found (text_of text n.0) macros) (no_place (is_some (found (text_of text n.0) macros)) (place_of n.0) h.0);
      apart = h.1;
      size = size;
      closes = refl;
    }

macro_rule : (text : List ℕ) (s : Stage) (a : Known) (line : LineTokens) (rest : List Token) (under : List LineTokens) (b : Bool) (asks : Act) (next : Stage) → head_of text rest ≡ head.Opens Macro → Permits text s a (macro_deed text s.macros line.end rest under) asks next → LineRule text s a line rest under b asks next
unfolding macro_deed
macro_rule text s a line rest under b asks next e p =
    let i = macro_is text s.macros (place_in line.end rest) line.end (drop 2 rest) (body_length Macro text 0 under) p.clear in
    let asked : asks ≡ act.Passes i.size = p.acts ∙ ap (λ o. act.Passes (unwrap_or o 0)) i.closes in
    let led : next ≡ changed text (change.Defines (record { name = i.name; parameters = i.parameters; body = take i.size under })) (stage a s.lines) =
    p.leads ∙ (ap (λ names. changed text (defined names (take (unwrap_or (body_length Macro text 0 under) 0) under)) (stage a s.lines)) i.same
    ∙ ap (λ o. changed text (change.Defines (record { name = i.name; parameters = i.parameters; body = take (unwrap_or o 0) under })) (stage a s.lines)) i.closes) in
    rw (asked, led) (at_macro e (subst (Names text (drop 2 rest)) i.same i.spelled) i.new i.apart i.closes)

-- calls and instructions

same_count : (n m : ℕ) (place : Place) → ◌≡◌ {A = Option Place} (if n == m then None else Some place) None → n ≡ m
same_count n m place e = by_test (n == m) refl e
  where
    by_test : (b : Bool) → (n == m) ≡ b → ◌≡◌ {A = Option Place} (if b then None else Some place) None → n ≡ m
    by_test true f e = grind (arith, nat_tests, f)
    by_test false f e = absurd (cc e)

call_rule : (text : List ℕ) (s : Stage) (a : Known) (line : LineTokens) (rest : List Token) (under : List LineTokens) (b : Bool) (asks : Act) (next : Stage) (m : MacroTokens) → head_of text rest ≡ head.Instruction → called text s.macros rest ≡ Some m → Permits text s a (call_deed text b line.end rest m) asks next → LineRule text s a line rest under b asks next
unfolding call_deed
call_rule text s a line rest under b asks next m e c p =
    let place = place_in line.end rest in
    let h = either_none (argument_fault text line.end (drop 1 rest)) (if length (arguments_of text (drop 1 rest)) == length m.parameters then None else Some place) p.clear.no_shape in
    let shallow = no_place b place p.clear.no_deep in
    rw (p.acts, p.leads, shallow) (at_call e c (call_gives text line.end (drop 1 rest) h.0) (same_count (length (arguments_of text (drop 1 rest))) (length m.parameters) place h.1))

instruction_rule : (text : List ℕ) (s : Stage) (a : Known) (line : LineTokens) (rest : List Token) (under : List LineTokens) (b : Bool) (asks : Act) (next : Stage) → head_of text rest ≡ head.Instruction → called text s.macros rest ≡ None → Permits text s a (instruction_deed text s.sets line.end rest) asks next → LineRule text s a line rest under b asks next
unfolding instruction_deed
instruction_rule text s a line rest under b asks next e c p =
    rw (p.acts, p.leads) (at_plain (instruction e c (works_by (instruction_work text s.sets rest) p.clear.no_unknown p.clear.no_zero)) (p.room refl))

pub text_called : (text : List ℕ) (s : Stage) (b : Bool) (end : Token) (line : List Token) (m : MacroTokens) → called text s.macros line ≡ Some m → text_deed text s b end line ≡ call_deed text b end line m
unfolding text_deed
text_called text s b end line m e = rw e refl

pub text_plain : (text : List ℕ) (s : Stage) (b : Bool) (end : Token) (line : List Token) → called text s.macros line ≡ None → text_deed text s b end line ≡ instruction_deed text s.sets end line
unfolding text_deed
text_plain text s b end line e = rw e refl

text_rule : (text : List ℕ) (s : Stage) (a : Known) (line : LineTokens) (rest : List Token) (under : List LineTokens) (b : Bool) (asks : Act) (next : Stage) → head_of text rest ≡ head.Instruction → Permits text s a (text_deed text s b line.end rest) asks next → LineRule text s a line rest under b asks next
text_rule text s a line rest under b asks next e p = by_macro (called text s.macros rest) refl
  where
    by_macro : (r : Option MacroTokens) → called text s.macros rest ≡ r → LineRule text s a line rest under b asks next
    by_macro (Some m) f = call_rule text s a line rest under b asks next m e f (subst (λ d. Permits text s a d asks next) (text_called text s b line.end rest m f) p)
    by_macro None f = instruction_rule text s a line rest under b asks next e f (subst (λ d. Permits text s a d asks next) (text_plain text s b line.end rest f) p)

other_rule : (text : List ℕ) (s : Stage) (a : Known) (line : LineTokens) (rest : List Token) (under : List LineTokens) (b : Bool) (asks : Act) (next : Stage) → head_of text rest ≡ head.Other → Permits text s a (other_deed text s.sets line.end (left_tokens text line.tokens rest) rest) asks next → LineRule text s a line rest under b asks next
unfolding other_deed
other_rule text s a line rest under b asks next e p =
    rw (p.acts, p.leads) (at_plain (other e (works_by (instruction_work text s.sets rest) p.clear.no_unknown p.clear.no_zero)) (p.room refl))

-- a line without a fault follows a rule
pub line_rule : (text : List ℕ) (s : Stage) (a : Known) (line : LineTokens) (rest : List Token) (under : List LineTokens) (b : Bool) (asks : Act) (next : Stage) (h : Head) → head_of text rest ≡ h → Permits text s a (deed_by text s b line.end line.tokens rest under h) asks next → LineRule text s a line rest under b asks next
line_rule text s a line rest under b asks next head.Nothing e p = rw (p.acts, p.leads) (at_empty e)
line_rule text s a line rest under b asks next head.Set e p = either_set text s a line rest under b asks next e p
line_rule text s a line rest under b asks next (head.Opens Repeat) e p = repeat_rule text s a line rest under b asks next e p
line_rule text s a line rest under b asks next (head.Opens Macro) e p = macro_rule text s a line rest under b asks next e p
line_rule text s a line rest under b asks next (head.Closes pair) e p = let f = p.clear.no_shape in absurd (cc f)
line_rule text s a line rest under b asks next head.Word e p = left_rule text s a line rest rest under b asks next (word e) p
line_rule text s a line rest under b asks next head.Other e p = other_rule text s a line rest under b asks next e p
line_rule text s a line rest under b asks next head.Instruction e p = text_rule text s a line rest under b asks next e p
