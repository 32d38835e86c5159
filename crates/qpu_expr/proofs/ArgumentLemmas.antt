-- The arguments that a call spells are those that are read of it.
use Rattle.std.proofs.Common.{◌≡◌, ℕ, ◌<◌, Bool, true, false, List, [], ◌∷◌, ◌++◌, length, length-append, Option, Some, None, refl, ap, sym, subst, ◌∙◌, append-nil, append_assoc, arith}
use Rattle.std.specs.Prelude.{◌||◌, fold, if◌then◌else◌}
use Rattle.std.specs.List.{list_any}
use Rattle.std.specs.Option.{option_or}
use Rattle.std.proofs.lemmas.List.Sums.{fold-append}
use Rattle.qpu_token.specs.declared.token.Token.{Token}
use Rattle.qpu_expr.specs.declared.place.Place.{Place}
use Rattle.qpu_expr.specs.Symbols.{place_of}
use Rattle.qpu_expr.specs.Macros.{is_comma, argued, arguments_read, arguments_of, argument_fault, empty_place}
use Rattle.qpu_expr.specs.Macros as macros
use Rattle.qpu_expr.specs.Spelled.{Arguments, last, more, Given, nothing_given, listed}

abbrev arguing : List (List Token) → List Token → macros.Arguments
arguing before since = record { before = before; last = since; fault = None }

abbrev argued_on : List ℕ → macros.Arguments → List Token → macros.Arguments
argued_on text a tokens = fold (argued text) a tokens

or_false : (a b : Bool) → (a || b) ≡ false → (a ≡ false) × (b ≡ false)
or_false true b e = cc
or_false false b e = (refl, e)

any_append : (p : Token → Bool) (xs ys : List Token) → list_any p xs ≡ false → list_any p ys ≡ false → list_any p (xs ++ ys) ≡ false
any_append p [] ys a b = b
any_append p (x ∷ xs) ys a b = let h = or_false (p x) (list_any p xs) a in rw (h.0) (any_append p xs ys h.1 b)

-- a token of an argument
goes_on : (text : List ℕ) (before : List (List Token)) (since : List Token) (token : Token) → is_comma text token ≡ false → argued text (arguing before since) token ≡ arguing before (since ++ token ∷ [])
goes_on text before since token is = rw is refl

-- a sign behind an argument
turns : (text : List ℕ) (before : List (List Token)) (since : List Token) (comma : Token) → 0 < length since → is_comma text comma ≡ true → argued text (arguing before since) comma ≡ arguing (before ++ since ∷ []) []
turns text before [] comma whole is = absurd (omega (arith, whole))
turns text before (token ∷ since) comma whole is = rw is refl

tokens_on : (text : List ℕ) (before : List (List Token)) (since tokens : List Token) → list_any (is_comma text) tokens ≡ false → argued_on text (arguing before since) tokens ≡ arguing before (since ++ tokens)
tokens_on text before since [] none = ap (arguing before) (sym (append-nil since))
tokens_on text before since (token ∷ tokens) none =
    let h = or_false (is_comma text token) (list_any (is_comma text) tokens) none in
    ap (λ a. argued_on text a tokens) (goes_on text before since token h.0)
    ∙ (tokens_on text before (since ++ token ∷ []) tokens h.1 ∙ ap (arguing before) (append_assoc since (token ∷ []) tokens))

-- what is read of arguments
record AreRead (text : List ℕ) (tokens : List Token) (before arguments : List (List Token)) : Type 0 where
  pub front : List (List Token)
  pub end : List Token
  pub reads : argued_on text (arguing before []) tokens ≡ arguing (before ++ front) end
  pub whole : arguments ≡ front ++ end ∷ []
  pub some : 0 < length end
  pub begun : 0 < length tokens

arguments_on : {text : List ℕ} {tokens : List Token} {arguments : List (List Token)} (before : List (List Token)) → Arguments text tokens arguments → AreRead text tokens before arguments
arguments_on {text} {tokens} before (last is) = record {
  front = [];
  end = tokens;
  reads = tokens_on text before [] tokens is.whole ∙ ap (λ xs. arguing xs tokens) (sym (append-nil before));
  whole = refl;
  some = is.some;
  begun = is.some;
}
arguments_on {text} before (more {argument = argument} {tokens = tokens} comma is sign rest) =
    let r = arguments_on (before ++ argument ∷ []) rest in
    let longer = length-append argument (comma ∷ tokens) in
    record {
      front = argument ∷ r.front;
      end = r.end;
      reads = fold-append (argued text) (arguing before []) argument (comma ∷ tokens)
          ∙ (ap (λ a. argued_on text a (comma ∷ tokens)) (tokens_on text before [] argument is.whole)
          ∙ (ap (λ a. argued_on text a tokens) (turns text before argument comma is.some sign)
          ∙ (r.reads ∙ ap (λ xs. arguing xs r.end) (append_assoc before (argument ∷ []) r.front))));
      whole = ap (λ xs. argument ∷ xs) r.whole;
      some = r.some;
      begun = omega (arith, longer);
    }

-- arguments that are read behind others
record Spelling (text : List ℕ) (tokens : List Token) (before : List (List Token)) (r : macros.Arguments) : Type 0 where
  pub arguments : List (List Token)
  pub spelled : Arguments text tokens arguments
  pub joined : r.before ++ r.last ∷ [] ≡ before ++ arguments

faulted : (text : List ℕ) (before : List (List Token)) (since : List Token) (place : Place) (tokens : List Token) → (argued_on text (record { before = before; last = since; fault = Some place }) tokens).fault ≡ Some place
faulted text before since place [] = refl
faulted text before since place (token ∷ tokens) = by_sign (is_comma text token) (faulted text (before ++ since ∷ []) [] place tokens) (faulted text before (since ++ token ∷ []) place tokens)
  where
    by_sign : (b : Bool) → (argued_on text (record { before = before ++ since ∷ []; last = []; fault = Some place }) tokens).fault ≡ Some place
        → (argued_on text (record { before = before; last = since ++ token ∷ []; fault = Some place }) tokens).fault ≡ Some place
        → (argued_on text (if b then record { before = before ++ since ∷ []; last = []; fault = Some place } else record { before = before; last = since ++ token ∷ []; fault = Some place }) tokens).fault ≡ Some place
    by_sign true a b = a
    by_sign false a b = b

bare : (text : List ℕ) (before : List (List Token)) (comma : Token) → is_comma text comma ≡ true → argued text (arguing before []) comma ≡ record { before = before ++ [] ∷ []; last = []; fault = Some (place_of comma) }
bare text before comma is = rw is refl

spells : (text : List ℕ) (tokens : List Token) (before : List (List Token)) (since : List Token) (r : macros.Arguments) → list_any (is_comma text) since ≡ false → argued_on text (arguing before since) tokens ≡ r → r.fault ≡ None → 0 < length r.last → Spelling text (since ++ tokens) before r
spells text [] before since r whole e clear some = record {
  arguments = since ∷ [];
  spelled = subst (λ xs. Arguments text xs (since ∷ [])) (sym (append-nil since)) (last (record { some = subst (λ (a : macros.Arguments). 0 < length a.last) (sym e) some; whole = whole }));
  joined = ap (λ (a : macros.Arguments). a.before ++ a.last ∷ []) (sym e);
}
spells text (token ∷ tokens) before since r whole e clear some =
    by_sign (is_comma text token) since refl refl
    (λ h. spells text tokens before (since ++ token ∷ []) r h)
    (spells text tokens (before ++ since ∷ []) [] r refl)
  where
    Inner : Type 0
    Inner = list_any (is_comma text) (since ++ token ∷ []) ≡ false → argued_on text (arguing before (since ++ token ∷ [])) tokens ≡ r → r.fault ≡ None → 0 < length r.last → Spelling text ((since ++ token ∷ []) ++ tokens) before r

    Next : Type 0
    Next = argued_on text (arguing (before ++ since ∷ []) []) tokens ≡ r → r.fault ≡ None → 0 < length r.last → Spelling text tokens (before ++ since ∷ []) r

    by_sign : (b : Bool) (xs : List Token) → is_comma text token ≡ b → since ≡ xs → Inner → Next → Spelling text (since ++ token ∷ tokens) before r
    by_sign false xs is same inner next =
        let i = inner (any_append (is_comma text) since (token ∷ []) whole (rw is refl)) (ap (λ a. argued_on text a tokens) (sym (goes_on text before since token is)) ∙ e) clear some in
        record { arguments = i.arguments; spelled = subst (λ ys. Arguments text ys i.arguments) (append_assoc since (token ∷ []) tokens) i.spelled; joined = i.joined }
    by_sign true [] is same inner next =
        let none : argued_on text (arguing before []) (token ∷ tokens) ≡ r = subst (λ ys. argued_on text (arguing before ys) (token ∷ tokens) ≡ r) same e in
        let at = ap (λ a. argued_on text a tokens) (sym (bare text before token is)) ∙ none in
        let f : ◌≡◌ {A = Option Place} (Some (place_of token)) None = sym (faulted text (before ++ [] ∷ []) [] (place_of token) tokens) ∙ (ap (λ (a : macros.Arguments). a.fault) at ∙ clear) in
        absurd (cc f)
    by_sign true (x ∷ xs) is same inner next =
        let begun : 0 < length since = subst (λ (ys : List Token). 0 < length ys) (sym same) (omega arith) in
        let n = next (ap (λ a. argued_on text a tokens) (sym (turns text before since token begun is)) ∙ e) clear some in
        record {
          arguments = since ∷ n.arguments;
          spelled = more token (record { some = begun; whole = whole }) is n.spelled;
          joined = n.joined ∙ append_assoc before (since ∷ []) n.arguments;
        }

-- a place is missing exactly where there is no token
some_place : (end : Token) (tokens : List Token) → empty_place end tokens ≡ None → 0 < length tokens
some_place end [] none = absurd (cc none)
some_place end (token ∷ tokens) none = omega arith

no_place : (end : Token) (tokens : List Token) → 0 < length tokens → empty_place end tokens ≡ None
no_place end [] some = absurd (omega (arith, some))
no_place end (token ∷ tokens) some = refl

either_none : (a b : Option Place) → option_or a b ≡ None → (a ≡ None) × (b ≡ None)
either_none None b e = (refl, e)
either_none (Some place) b e = cc

-- a call without a fault gives the arguments that are read
pub call_gives : (text : List ℕ) (end : Token) (tokens : List Token) → argument_fault text end tokens ≡ None → Given text tokens (arguments_of text tokens)
unfolding arguments_of argument_fault
call_gives text end [] clear = nothing_given
call_gives text end (token ∷ tokens) clear =
    let r = arguments_read text (token ∷ tokens) in
    let h = either_none r.fault (empty_place end r.last) clear in
    let s = spells text (token ∷ tokens) [] [] r refl refl h.0 (some_place end r.last h.1) in
    listed (subst (Arguments text (token ∷ tokens)) (sym s.joined) s.spelled)

-- arguments that are given are read, and without a fault
pub record AreGiven (text : List ℕ) (end : Token) (tokens : List Token) (arguments : List (List Token)) : Type 0 where
  pub same : arguments_of text tokens ≡ arguments
  pub clear : argument_fault text end tokens ≡ None

by_read : (text : List ℕ) (end : Token) (tokens : List Token) (arguments : List (List Token)) → AreRead text tokens [] arguments → AreGiven text end tokens arguments
unfolding arguments_of argument_fault
by_read text end [] arguments r = let begun = r.begun in absurd (omega (arith, begun))
by_read text end (token ∷ tokens) arguments r =
    record { same = rw (r.reads) (sym r.whole); clear = rw (r.reads) (no_place end r.end r.some) }

pub given_reads : (text : List ℕ) (end : Token) (tokens : List Token) (arguments : List (List Token)) → Given text tokens arguments → AreGiven text end tokens arguments
unfolding arguments_of argument_fault
given_reads text end tokens arguments nothing_given = record { same = refl; clear = refl }
given_reads text end tokens arguments (listed spelled) = by_read text end tokens arguments (arguments_on [] spelled)
