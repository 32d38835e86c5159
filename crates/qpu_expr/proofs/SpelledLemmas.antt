-- What directives and calls spell is what is read of them.
use Rattle.std.proofs.Common.{◌≡◌, ℕ, Bool, true, false, List, [], ◌∷◌, ◌++◌, map, Option, Some, None, Ok, refl, ap, sym, subst, ◌∙◌, append_assoc}
use Rattle.std.specs.Prelude.{fold}
use Rattle.qpu_token.specs.declared.token.Token.{Token}
use Rattle.qpu_expr.specs.declared.place.Place.{Place}
use Rattle.qpu_expr.specs.declared.expression.Parsed.TheVariants.{Whole}
use Rattle.qpu_expr.specs.declared.setting.Expression.{Expression}
use Rattle.qpu_expr.specs.Expressions.{parsed_of}
use Rattle.qpu_expr.specs.Trees.{spelled_out}
use Rattle.qpu_expr.specs.Symbols.{place_of}
use Rattle.qpu_expr.specs.Operands.{is_name}
use Rattle.qpu_expr.specs.Settings.{Sets, item_of, expression}
use Rattle.qpu_expr.specs.Macros.{is_comma, named_on, names_of, heading_fault, argued, arguments_read, arguments_of, argument_fault, empty_place}
use Rattle.qpu_expr.specs.Macros as macros
use Rattle.qpu_expr.specs.Spelled.{IsWorth, Names, last, more}
use Rattle.qpu_expr.proofs.TreeLaw.{reads_trees}
use Rattle.qpu_expr.proofs.OnlyTreeLaw.{only_trees}

-- worth

-- an expression that is read, with a value
pub record IsRead (e : Expression) (value : ℕ) : Type 0 where
  pub whole : e.outcome ≡ Whole (Ok value)
  pub known : e.unknown ≡ false

pub worth_read : (text : List ℕ) (sets : Sets) (tokens : List Token) (value : ℕ) → IsWorth text sets tokens value → IsRead (expression text sets tokens) value
unfolding expression
worth_read text sets tokens value w =
    let t = w.tree in
    let read : parsed_of (spelled_out t.tree) ≡ Whole (Ok value) = reads_trees t.tree t.binds ∙ ap Whole t.worth_is in
    record { whole = ap parsed_of (sym t.written_is) ∙ read; known = w.known }

pub read_worth : (text : List ℕ) (sets : Sets) (tokens : List Token) (value : ℕ) → IsRead (expression text sets tokens) value → IsWorth text sets tokens value
unfolding expression
read_worth text sets tokens value r = record { tree = only_trees (map (item_of text sets) tokens) (Ok value) r.whole; known = r.known }

-- names

-- names that are read behind others
record NamesRead (text : List ℕ) (tokens : List Token) (before after : List Token) : Type 0 where
  pub names : List Token
  pub spelled : Names text tokens names
  pub joined : after ≡ before ++ names

faulty : (text : List ℕ) (names : List Token) (due : Bool) (place : Place) (tokens : List Token) → fold (named_on text) (record { names = names; due = due; fault = Some place }) tokens ≡ record { names = names; due = due; fault = Some place }
faulty text names due place [] = refl
faulty text names due place (token ∷ tokens) = faulty text names due place tokens

abbrev due_from : List Token → Bool → macros.Names
due_from names due = record { names = names; due = due; fault = None }

named : (text : List ℕ) (name : Token) (before : List Token) → is_name text name ≡ true → named_on text (due_from before true) name ≡ due_from (before ++ name ∷ []) false
named text name before is = rw is refl

separated : (text : List ℕ) (comma : Token) (before : List Token) → is_comma text comma ≡ true → named_on text (due_from before false) comma ≡ due_from before true
separated text comma before is = rw is refl

-- what is spelled is read
names_on : {text : List ℕ} {tokens names : List Token} (before : List Token) → Names text tokens names → fold (named_on text) (due_from before true) tokens ≡ due_from (before ++ names) false
names_on {text} before (last {name = name} is) = named text name before is
names_on {text} before (more {name = name} {comma = comma} {tokens = tokens} {names = names} is sign rest) =
    ap (λ n. fold (named_on text) (named_on text n comma) tokens) (named text name before is)
    ∙ (ap (λ n. fold (named_on text) n tokens) (separated text comma (before ++ name ∷ []) sign)
    ∙ (names_on (before ++ name ∷ []) rest ∙ ap (λ xs. due_from xs false) (append_assoc before (name ∷ []) names)))

pub names_read : (text : List ℕ) (tokens names : List Token) → Names text tokens names → names_of text tokens ≡ due_from names false
unfolding names_of
names_read text tokens names spelled = names_on [] spelled

-- what is read is spelled

unnamed : (text : List ℕ) (token : Token) (before : List Token) → is_name text token ≡ false → named_on text (due_from before true) token ≡ record { names = before; due = true; fault = Some (place_of token) }
unnamed text token before is = rw is refl

joining : (text : List ℕ) (token : Token) (before : List Token) → is_comma text token ≡ false → named_on text (due_from before false) token ≡ record { names = before; due = false; fault = Some (place_of token) }
joining text token before is = rw is refl

spells : (text : List ℕ) (tokens before after : List Token) → fold (named_on text) (due_from before true) tokens ≡ due_from after false → NamesRead text tokens before after
spells text [] before after e = let d : true ≡ false = ap (λ (n : macros.Names). n.due) e in absurd (cc d)
spells text (name ∷ []) before after e = by_name (is_name text name) refl
  where
    by_name : (b : Bool) → is_name text name ≡ b → NamesRead text (name ∷ []) before after
    by_name false is =
        let f : ◌≡◌ {A = Option Place} (Some (place_of name)) None = ap (λ (n : macros.Names). n.fault) (sym (unnamed text name before is) ∙ e) in
        absurd (cc f)
    by_name true is = record { names = name ∷ []; spelled = last is; joined = ap (λ (n : macros.Names). n.names) (sym e ∙ named text name before is) }
spells text (name ∷ comma ∷ tokens) before after e = by_name (is_name text name) (is_comma text comma) refl refl (λ h. spells text tokens (before ++ name ∷ []) after h)
  where
    More : Type 0
    More = fold (named_on text) (due_from (before ++ name ∷ []) true) tokens ≡ due_from after false → NamesRead text tokens (before ++ name ∷ []) after

    by_name : (b c : Bool) → is_name text name ≡ b → is_comma text comma ≡ c → More → NamesRead text (name ∷ comma ∷ tokens) before after
    by_name false c is sign inner =
        let at = ap (λ n. fold (named_on text) (named_on text n comma) tokens) (unnamed text name before is) ∙ faulty text before true (place_of name) tokens in
        let f : ◌≡◌ {A = Option Place} (Some (place_of name)) None = ap (λ (n : macros.Names). n.fault) (sym at ∙ e) in
        absurd (cc f)
    by_name true false is sign inner =
        let at = ap (λ n. fold (named_on text) (named_on text n comma) tokens) (named text name before is)
        ∙ (ap (λ n. fold (named_on text) n tokens) (joining text comma (before ++ name ∷ []) sign) ∙ faulty text (before ++ name ∷ []) false (place_of comma) tokens) in
        let f : ◌≡◌ {A = Option Place} (Some (place_of comma)) None = ap (λ (n : macros.Names). n.fault) (sym at ∙ e) in
        absurd (cc f)
    by_name true true is sign inner =
        let at = ap (λ n. fold (named_on text) (named_on text n comma) tokens) (named text name before is)
        ∙ ap (λ n. fold (named_on text) n tokens) (separated text comma (before ++ name ∷ []) sign) in
        let r = inner (sym at ∙ e) in
        record { names = name ∷ r.names; spelled = more is sign r.spelled; joined = r.joined ∙ append_assoc before (name ∷ []) r.names }

unfaulted : (n : macros.Names) (end : Token) → heading_fault end n ≡ None → n ≡ due_from n.names false
unfaulted n end none = by_parts n.names n.fault n.due none
  where
    by_parts : (names : List Token) (fault : Option Place) (due : Bool) → heading_fault end (record { names = names; due = due; fault = fault }) ≡ None → ◌≡◌ {A = macros.Names} (record { names = names; due = due; fault = fault }) (due_from names false)
    by_parts names (Some place) due none = absurd (cc none)
    by_parts names None true none = absurd (cc none)
    by_parts names None false none = refl

-- a heading without a fault spells its names
pub heading_spells : (text : List ℕ) (tokens : List Token) (end : Token) → heading_fault end (names_of text tokens) ≡ None → Names text tokens (names_of text tokens).names
unfolding names_of
heading_spells text tokens end none =
    let r = spells text tokens [] (names_of text tokens).names (unfaulted (names_of text tokens) end none) in
    subst (Names text tokens) (sym r.joined) r.spelled
