-- The names of a macro's heading, read up to the first that is there twice.
use Rattle.std.proofs.Common.{◌≡◌, ℕ, Bool, true, false, List, [], ◌∷◌, ◌++◌, drop, Option, Some, None, refl, sym, ap, subst, ◌∙◌, append-nil, append_assoc}
use Rattle.std.specs.Prelude.{fold, is_some}
use Rattle.std.specs.List.{list_any}
use Rattle.std.specs.Option.{option_or}
use Rattle.qpu_token.specs.declared.token.Token.{Token}
use Rattle.qpu_token.specs.Tokens.{text_of}
use Rattle.qpu_expr.specs.declared.place.Place.{Place}
use Rattle.qpu_expr.specs.Symbols.{is_named, place_of}
use Rattle.qpu_expr.specs.Operands.{is_name}
use Rattle.qpu_expr.specs.Tables.{found}
use Rattle.qpu_expr.specs.Macros.{is_comma, Names, no_name, named_on, names_of, repeated_in, Macros}
use Rattle.qpu_expr.specs.Findings.{place_when}
use Rattle.qpu_expr.specs.Directives.{names_twice}
use Rattle.qpu_expr.specs.Headings.{Heading, no_heading, name_twice, headed, heading_twice}

-- parameters behind others

repeated_more : (text : List ℕ) (before ps qs : List Token) → repeated_in text before (ps ++ qs) ≡ option_or (repeated_in text before ps) (repeated_in text (before ++ ps) qs)
repeated_more text before [] qs = ap (λ bs. repeated_in text bs qs) (sym (append-nil before))
repeated_more text before (p ∷ ps) qs = by_test (list_any (is_named text (text_of text p)) before) refl (repeated_more text (before ++ p ∷ []) ps qs)
  where
    by_test : (t : Bool) → list_any (is_named text (text_of text p)) before ≡ t → repeated_in text (before ++ p ∷ []) (ps ++ qs) ≡ option_or (repeated_in text (before ++ p ∷ []) ps) (repeated_in text ((before ++ p ∷ []) ++ ps) qs) → repeated_in text before (p ∷ (ps ++ qs)) ≡ option_or (repeated_in text before (p ∷ ps)) (repeated_in text (before ++ p ∷ ps) qs)
    by_test true t later = rw t refl
    by_test false t later = rw t (later ∙ ap (λ bs. option_or (repeated_in text (before ++ p ∷ []) ps) (repeated_in text bs qs)) (append_assoc before (p ∷ []) ps))

repeated_last : (text : List ℕ) (ps : List Token) (q : Token) → repeated_in text [] ps ≡ None → repeated_in text [] (ps ++ q ∷ []) ≡ place_when (list_any (is_named text (text_of text q)) ps) (place_of q)
repeated_last text ps q none = repeated_more text [] ps (q ∷ []) ∙ ap (λ r. option_or r (repeated_in text ps (q ∷ []))) none

-- the names that were read, and all names

abbrev Stands : List ℕ → Names → Option Place → Names → Type 0
Stands text names None n = (names ≡ n) × (repeated_in text [] (drop 1 n.names) ≡ None)
Stands text names (Some place) n = (a : Token) × (ps : List Token) × (more : List Token) × (names.names ≡ a ∷ ps) × (n.names ≡ a ∷ (ps ++ more)) × (repeated_in text [] ps ≡ Some place)

grows : (text : List ℕ) (n : Names) (token : Token) → (more : List Token) × ((named_on text n token).names ≡ n.names ++ more)
grows text n token = by_fault n.names n.due n.fault
  where
    by_comma : (names : List Token) (c : Bool) → is_comma text token ≡ c → (more : List Token) × ((named_on text (record { names = names; due = false; fault = None }) token).names ≡ names ++ more)
    by_comma names true c = rw c ([], sym (append-nil names))
    by_comma names false c = rw c ([], sym (append-nil names))

    by_name : (names : List Token) (n : Bool) → is_name text token ≡ n → (more : List Token) × ((named_on text (record { names = names; due = true; fault = None }) token).names ≡ names ++ more)
    by_name names true n = rw n (token ∷ [], refl)
    by_name names false n = rw n ([], sym (append-nil names))

    by_fault : (names : List Token) (due : Bool) (fault : Option Place) → (more : List Token) × ((named_on text (record { names = names; due = due; fault = fault }) token).names ≡ names ++ more)
    by_fault names due (Some place) = ([], sym (append-nil names))
    by_fault names true None = by_name names (is_name text token) refl
    by_fault names false None = by_comma names (is_comma text token) refl

-- one token more, where no name is there twice yet
clean_step : (text : List ℕ) (names : List Token) (due : Bool) (fault : Option Place) (token : Token) → repeated_in text [] (drop 1 names) ≡ None → (let n : Names = record { names = names; due = due; fault = fault } in Stands text (named_on text n token) (name_twice text n token) (named_on text n token))
clean_step text names true (Some place) token none = (refl, none)
clean_step text names false (Some place) token none = (refl, none)
clean_step text names false None token none = by_comma (is_comma text token) refl
  where
    by_comma : (c : Bool) → is_comma text token ≡ c → Stands text (named_on text (record { names = names; due = false; fault = None }) token) None (named_on text (record { names = names; due = false; fault = None }) token)
    by_comma true c = rw c (refl, none)
    by_comma false c = rw c (refl, none)
clean_step text names true None token none = by_name (is_name text token) refl
  where
    by_there : (a : Token) (ps : List Token) (t : Bool) → list_any (is_named text (text_of text token)) ps ≡ t → repeated_in text [] ps ≡ None → Stands text (record { names = a ∷ (ps ++ token ∷ []); due = false; fault = None }) (place_when t (place_of token)) (record { names = a ∷ (ps ++ token ∷ []); due = false; fault = None })
    by_there a ps true t none = (a, ps ++ token ∷ [], [], refl, ap (λ xs. a ∷ xs) (sym (append-nil (ps ++ token ∷ []))), repeated_last text ps token none ∙ ap (λ b. place_when b (place_of token)) t)
    by_there a ps false t none = (refl, repeated_last text ps token none ∙ ap (λ b. place_when b (place_of token)) t)

    by_names : (names : List Token) → repeated_in text [] (drop 1 names) ≡ None → Stands text (record { names = names ++ token ∷ []; due = false; fault = None }) (place_when (list_any (is_named text (text_of text token)) (drop 1 names)) (place_of token)) (record { names = names ++ token ∷ []; due = false; fault = None })
    by_names [] none = (refl, refl)
    by_names (a ∷ ps) none = by_there a ps (list_any (is_named text (text_of text token)) ps) refl none

    by_name : (n : Bool) → is_name text token ≡ n → (let m : Names = record { names = names; due = true; fault = None } in Stands text (named_on text m token) (name_twice text m token) (named_on text m token))
    by_name true n = rw n (by_names names none)
    by_name false n = rw n (refl, none)

step : (text : List ℕ) (names : Names) (twice : Option Place) (n : Names) (token : Token) → Stands text names twice n → (let h : Heading = headed text (record { names = names; twice = twice }) token in Stands text h.names h.twice (named_on text n token))
step text names None n token stands =
    subst (λ (m : Names). Stands text (named_on text m token) (name_twice text m token) (named_on text n token)) (sym stands.0)
    (clean_step text n.names n.due n.fault token stands.1)
step text names (Some place) n token stands =
    let more = grows text n token in
    (stands.0, stands.1, stands.2 ++ more.0, stands.3, more.1 ∙ (ap (λ xs. xs ++ more.0) stands.4 ∙ ap (λ xs. stands.0 ∷ xs) (append_assoc stands.1 stands.2 more.0)), stands.5)

stands_fold : (text : List ℕ) (tokens : List Token) (h : Heading) (n : Names) → Stands text h.names h.twice n → Stands text (fold (headed text) h tokens).names (fold (headed text) h tokens).twice (fold (named_on text) n tokens)
stands_fold text [] h n stands = stands
stands_fold text (token ∷ tokens) h n stands = stands_fold text tokens (headed text h token) (named_on text n token) (step text h.names h.twice n token stands)

same_names : (text : List ℕ) (macros : Macros) (names : List Token) (due : Bool) (fault : Option Place) → repeated_in text [] (drop 1 names) ≡ None → heading_twice text macros (record { names = record { names = names; due = due; fault = fault }; twice = None }) ≡ names_twice text macros names
same_names text macros [] due fault none = refl
same_names text macros (a ∷ ps) due fault none = ap (option_or (place_when (is_some (found (text_of text a) macros)) (place_of a))) (sym none)

same_twice : (text : List ℕ) (macros : Macros) (names : Names) (twice : Option Place) (n : Names) → Stands text names twice n → heading_twice text macros (record { names = names; twice = twice }) ≡ names_twice text macros n.names
same_twice text macros names None n stands =
    ap (λ (m : Names). heading_twice text macros (record { names = m; twice = None })) stands.0
    ∙ same_names text macros n.names n.due n.fault stands.1
same_twice text macros names (Some place) n stands =
    let first : Option Place = place_when (is_some (found (text_of text stands.0) macros)) (place_of stands.0) in
    let later : repeated_in text [] (stands.1 ++ stands.2) ≡ Some place = repeated_more text [] stands.1 stands.2 ∙ ap (λ r. option_or r (repeated_in text stands.1 stands.2)) stands.5 in
    ap (λ ns. heading_twice text macros (record { names = record names { names = ns }; twice = Some place })) stands.3
    ∙ (ap (option_or first) (sym later) ∙ ap (names_twice text macros) (sym stands.4))

pub heading_names : (text : List ℕ) (macros : Macros) (tokens : List Token) → heading_twice text macros (fold (headed text) no_heading tokens) ≡ names_twice text macros (names_of text tokens).names
unfolding names_of
heading_names text macros tokens =
    let h : Heading = fold (headed text) no_heading tokens in
    same_twice text macros h.names h.twice (fold (named_on text) no_name tokens) (stands_fold text tokens no_heading no_name (refl, refl))
