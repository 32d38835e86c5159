-- The names that aren't set in a line of parts, told token by token.
use Rattle.std.proofs.Common.{◌≡◌, ℕ, suc, ◌+◌, ◌-◌, Bool, true, false, List, [], ◌∷◌, length, take, drop, Option, Some, None, Ok, Err, refl, sym, ap, ◌∙◌, arith}
use Rattle.std.specs.Prelude.{◌&&◌, fold, if◌then◌else◌}
use Rattle.std.specs.Option.{option_or}
use Rattle.std.proofs.lemmas.List.Sums.{fold-append}
use Rattle.qpu_token.specs.declared.token.Token.{Token}
use Rattle.qpu_token.specs.Tokens.{text_of}
use Rattle.qpu_expr.specs.declared.place.Place.{Place}
use Rattle.qpu_expr.specs.declared.expression.Parsed.{Parsed}
use Rattle.qpu_expr.specs.declared.expression.Parsed.TheVariants.{Whole, Cut, Extra}
use Rattle.qpu_expr.specs.declared.setting.Expression.{Expression}
use Rattle.qpu_expr.specs.declared.operand.Between.{Between}
use Rattle.qpu_expr.specs.declared.operand.Between.TheVariants as between
use Rattle.qpu_expr.specs.declared.operand.Standing.{Standing}
use Rattle.qpu_expr.specs.declared.operand.Standing.TheVariants as standing
use Rattle.qpu_expr.specs.declared.form.Outline.{Outline}
use Rattle.qpu_expr.specs.declared.scan.Core.{Core}
use Rattle.qpu_expr.specs.declared.scan.Last.TheVariants.{Two}
use Rattle.qpu_expr.specs.declared.scan.Held.{Held}
use Rattle.qpu_expr.specs.declared.scan.Part.{Part}
use Rattle.qpu_expr.specs.declared.scan.Part.TheVariants.{Start, Suffixes, Dotted, Operand, Other}
use Rattle.qpu_expr.specs.declared.scan.Scan.{Scan}
use Rattle.qpu_expr.specs.Symbols.{symbol_of, place_of}
use Rattle.qpu_expr.specs.Registers.{is_register}
use Rattle.qpu_expr.specs.Settings.{Sets, expression, is_whole}
use Rattle.qpu_expr.specs.Operands.{is_name, is_dot, separates, suffixes, core, number_of, named, operand_of, Worked, put_operand, put_first, put_piece, standing_behind, Working, nothing_read, worked_on, instruction_work}
use Rattle.qpu_expr.specs.Forms.{no_outline, outlined}
use Rattle.qpu_expr.specs.Scans.{no_core, cored, core_lacks, no_held, held, core_in, held_lacks, scanned, part_lacks, part_behind, no_scan, scan_lacks, scan_on}
use Rattle.qpu_expr.proofs.FormLemmas.{outline_lacks}

-- operands without a suffix

core_fold : (text : List ℕ) (sets : Sets) (tokens : List Token) (first : Token) (o : Outline) → fold (cored text sets) (record { first = Some first; lone = false; outline = o }) tokens ≡ record { first = Some first; lone = false; outline = fold (outlined text sets) o tokens }
core_fold text sets [] first o = refl
core_fold text sets (token ∷ tokens) first o = core_fold text sets tokens first (outlined text sets o token)

named_lacks : (sets : Sets) (name : List ℕ) → (named sets name).unknown ≡ None
named_lacks sets name = by_test (is_register name) refl
  where
    by_test : (t : Bool) → is_register name ≡ t → (named sets name).unknown ≡ None
    by_test true t = rw t refl
    by_test false t = rw t refl

number_lacks : (first : Token) (e : Expression) (outcome : Parsed) → (number_of first e outcome).unknown ≡ (if is_whole outcome && e.unknown then Some (place_of first) else None)
number_lacks first e (Whole (Ok value)) = refl
number_lacks first e (Whole (Err place)) = refl
number_lacks first e Cut = refl
number_lacks first e (Extra place) = refl

outlined_lacks : (text : List ℕ) (sets : Sets) (tokens : List Token) (first : Token) → (number_of first (expression text sets tokens) (expression text sets tokens).outcome).unknown ≡ core_lacks (record { first = Some first; lone = false; outline = fold (outlined text sets) no_outline tokens })
outlined_lacks text sets tokens first =
    number_lacks first (expression text sets tokens) (expression text sets tokens).outcome
    ∙ ap (λ (b : Bool). if b then Some (place_of first) else None) (sym (outline_lacks text sets tokens))

operand_lacks : (text : List ℕ) (sets : Sets) (tokens : List Token) → (operand_of text sets tokens).unknown ≡ core_lacks (fold (cored text sets) no_core tokens)
operand_lacks text sets [] = refl
operand_lacks text sets (first ∷ []) = by_test (is_name text first) refl
  where
    by_test : (t : Bool) → is_name text first ≡ t → (operand_of text sets (first ∷ [])).unknown ≡ core_lacks (fold (cored text sets) no_core (first ∷ []))
    by_test true t = rw t (named_lacks sets (text_of text first))
    by_test false t = rw t (outlined_lacks text sets (first ∷ []) first)
operand_lacks text sets (first ∷ second ∷ rest) =
    outlined_lacks text sets (first ∷ second ∷ rest) first
    ∙ ap core_lacks (sym (core_fold text sets rest first (outlined text sets (outlined text sets no_outline first) second)))

-- operands with their suffixes

core_more : (text : List ℕ) (a b x : Token) (xs : List Token) → core text (a ∷ b ∷ x ∷ xs) ≡ suc (core text (b ∷ x ∷ xs))
core_more text a b x xs = by_end (drop (length xs) (b ∷ x ∷ xs)) refl
  where
    longer : suc (suc (suc (length xs))) - 2 ≡ suc (length xs)
    longer = omega arith

    shorter : suc (suc (length xs)) - 2 ≡ length xs
    shorter = omega arith

    by_suffix : (p q : Token) (t : Bool) → (is_dot text p && is_name text q) ≡ t → drop (length xs) (b ∷ x ∷ xs) ≡ p ∷ q ∷ [] → core text (a ∷ b ∷ x ∷ xs) ≡ suc (core text (b ∷ x ∷ xs))
    by_suffix p q true t is = rw (longer, shorter, is, t, longer, shorter) refl
    by_suffix p q false t is = rw (longer, shorter, is, t) refl

    by_end : (t : List Token) → drop (length xs) (b ∷ x ∷ xs) ≡ t → core text (a ∷ b ∷ x ∷ xs) ≡ suc (core text (b ∷ x ∷ xs))
    by_end [] is = rw (longer, shorter, is) refl
    by_end (p ∷ []) is = rw (longer, shorter, is) refl
    by_end (p ∷ q ∷ []) is = by_suffix p q (is_dot text p && is_name text q) refl is
    by_end (p ∷ q ∷ r ∷ more) is = rw (longer, shorter, is) refl

two_held : (text : List ℕ) (sets : Sets) (xs : List Token) (c : Core) (a b : Token) → core_in text sets (fold (held text sets) (record { core = c; last = Two a b }) xs) ≡ fold (cored text sets) c (take (core text (a ∷ b ∷ xs)) (a ∷ b ∷ xs))
two_held text sets [] c a b = by_test (is_dot text a && is_name text b) refl
  where
    by_test : (t : Bool) → (is_dot text a && is_name text b) ≡ t → core_in text sets (record { core = c; last = Two a b }) ≡ fold (cored text sets) c (take (core text (a ∷ b ∷ [])) (a ∷ b ∷ []))
    by_test true t = rw t refl
    by_test false t = rw t refl
two_held text sets (x ∷ xs) c a b =
    two_held text sets xs (cored text sets c a) b x
    ∙ ap (λ n. fold (cored text sets) c (take n (a ∷ b ∷ x ∷ xs))) (sym (core_more text a b x xs))

held_core : (text : List ℕ) (sets : Sets) (piece : List Token) → core_in text sets (fold (held text sets) no_held piece) ≡ fold (cored text sets) no_core (take (core text piece) piece)
held_core text sets [] = refl
held_core text sets (a ∷ []) = refl
held_core text sets (a ∷ b ∷ xs) = two_held text sets xs no_core a b

piece_lacks : (text : List ℕ) (sets : Sets) (piece : List Token) → (operand_of text sets (take (core text piece) piece)).unknown ≡ held_lacks text sets (fold (held text sets) no_held piece)
piece_lacks text sets piece = operand_lacks text sets (take (core text piece) piece) ∙ ap core_lacks (sym (held_core text sets piece))

-- parts

abbrev held_in : List ℕ → Sets → Part → Held
held_in text sets Start = no_held
held_in text sets Suffixes = no_held
held_in text sets (Dotted dot) = held text sets no_held dot
held_in text sets (Operand h) = h
held_in text sets Other = no_held

lacks_held : (text : List ℕ) (sets : Sets) (p : Part) → part_lacks text sets p ≡ held_lacks text sets (held_in text sets p)
lacks_held text sets Start = refl
lacks_held text sets Suffixes = refl
lacks_held text sets (Dotted dot) = refl
lacks_held text sets (Operand h) = refl
lacks_held text sets Other = refl

operand_fold : (text : List ℕ) (sets : Sets) (xs : List Token) (h : Held) → fold (scanned text sets) (Operand h) xs ≡ Operand (fold (held text sets) h xs)
operand_fold text sets [] h = refl
operand_fold text sets (x ∷ xs) h = operand_fold text sets xs (held text sets h x)

other_fold : (text : List ℕ) (sets : Sets) (xs : List Token) → fold (scanned text sets) Other xs ≡ Other
other_fold text sets [] = refl
other_fold text sets (x ∷ xs) = other_fold text sets xs

-- behind a mnemonic: the operand begins behind its suffixes
suffixed : (text : List ℕ) (sets : Sets) (rest : List Token) → held_in text sets (fold (scanned text sets) Suffixes rest) ≡ fold (held text sets) no_held (drop (suffixes text rest) rest)
suffixed text sets [] = refl
suffixed text sets (a ∷ []) = by_dot (is_dot text a) refl
  where
    by_dot : (d : Bool) → is_dot text a ≡ d → held_in text sets (fold (scanned text sets) Suffixes (a ∷ [])) ≡ held text sets no_held a
    by_dot true d = rw d refl
    by_dot false d = rw d refl
suffixed text sets (a ∷ b ∷ rest) = by_dot (is_dot text a) (is_name text b) refl refl (suffixed text sets rest)
  where
    more : 2 + suffixes text rest ≡ suc (suc (suffixes text rest))
    more = omega arith

    by_dot : (d n : Bool) → is_dot text a ≡ d → is_name text b ≡ n → held_in text sets (fold (scanned text sets) Suffixes rest) ≡ fold (held text sets) no_held (drop (suffixes text rest) rest) → held_in text sets (fold (scanned text sets) Suffixes (a ∷ b ∷ rest)) ≡ fold (held text sets) no_held (drop (suffixes text (a ∷ b ∷ rest)) (a ∷ b ∷ rest))
    by_dot true true d n later = rw (d, n, more) later
    by_dot true false d n later = rw (d, n) (ap (held_in text sets) (operand_fold text sets rest (held text sets (held text sets no_held a) b)))
    by_dot false t d n later = rw d (ap (held_in text sets) (operand_fold text sets rest (held text sets (held text sets no_held a) b)))

-- where pieces begin

abbrev start_of : Standing → Part
start_of standing.First = Start
start_of standing.Operand = Operand no_held
start_of standing.Other = Other

abbrev part_of : List ℕ → Sets → Standing → List Token → Part
part_of text sets st piece = fold (scanned text sets) (start_of st) piece

or_none : (a : Option Place) → a ≡ option_or a None
or_none None = refl
or_none (Some place) = refl

put_lacks : (text : List ℕ) (sets : Sets) (st : Standing) (piece : List Token) (done : Worked) → (put_piece text sets st piece done).unknown ≡ option_or done.unknown (part_lacks text sets (part_of text sets st piece))
unfolding put_first put_operand
put_lacks text sets standing.First [] done = or_none done.unknown
put_lacks text sets standing.First (mnemonic ∷ rest) done = by_name (is_name text mnemonic) refl
  where
    by_name : (n : Bool) → is_name text mnemonic ≡ n → (put_first text sets (mnemonic ∷ rest) done).unknown ≡ option_or done.unknown (part_lacks text sets (fold (scanned text sets) Start (mnemonic ∷ rest)))
    by_name true n =
        rw n
        (ap (option_or done.unknown)
        (piece_lacks text sets (drop (suffixes text rest) rest)
        ∙ (ap (held_lacks text sets) (sym (suffixed text sets rest))
        ∙ sym (lacks_held text sets (fold (scanned text sets) Suffixes rest)))))
    by_name false n = rw n (or_none done.unknown ∙ ap (λ p. option_or done.unknown (part_lacks text sets p)) (sym (other_fold text sets rest)))
put_lacks text sets standing.Operand piece done =
    ap (option_or done.unknown)
    (piece_lacks text sets piece ∙ ap (part_lacks text sets) (sym (operand_fold text sets piece no_held)))
put_lacks text sets standing.Other piece done = or_none done.unknown ∙ ap (λ p. option_or done.unknown (part_lacks text sets p)) (sym (other_fold text sets piece))

-- behind a sign

parts_start : (p : Part) → part_behind p between.Parts ≡ Start
parts_start Start = refl
parts_start Suffixes = refl
parts_start (Dotted dot) = refl
parts_start (Operand h) = refl
parts_start Other = refl

abbrev begun : Part → Bool
begun Start = false
begun Suffixes = true
begun (Dotted dot) = true
begun (Operand h) = true
begun Other = false

begun_on : (text : List ℕ) (sets : Sets) (p : Part) (token : Token) → begun p ≡ true → begun (scanned text sets p token) ≡ true
begun_on text sets Start token b = absurd cc
begun_on text sets Suffixes token b = by_test (is_dot text token) refl
  where
    by_test : (t : Bool) → is_dot text token ≡ t → begun (scanned text sets Suffixes token) ≡ true
    by_test true t = rw t refl
    by_test false t = rw t refl
begun_on text sets (Dotted dot) token b = by_test (is_name text token) refl
  where
    by_test : (t : Bool) → is_name text token ≡ t → begun (scanned text sets (Dotted dot) token) ≡ true
    by_test true t = rw t refl
    by_test false t = rw t refl
begun_on text sets (Operand h) token b = refl
begun_on text sets Other token b = absurd cc

begun_fold : (text : List ℕ) (sets : Sets) (xs : List Token) (p : Part) → begun p ≡ true → begun (fold (scanned text sets) p xs) ≡ true
begun_fold text sets [] p b = b
begun_fold text sets (x ∷ xs) p b = begun_fold text sets xs (scanned text sets p x) (begun_on text sets p x b)

begun_behind : (p : Part) → begun p ≡ true → part_behind p between.Operands ≡ Operand no_held
begun_behind Start b = absurd cc
begun_behind Suffixes b = refl
begun_behind (Dotted dot) b = refl
begun_behind (Operand h) b = refl
begun_behind Other b = absurd cc

next_part : (text : List ℕ) (sets : Sets) (st : Standing) (piece : List Token) (b : Between) → start_of (standing_behind text st piece b) ≡ part_behind (part_of text sets st piece) b
next_part text sets standing.First piece between.Parts = sym (parts_start (part_of text sets standing.First piece))
next_part text sets standing.Operand piece between.Parts = sym (parts_start (part_of text sets standing.Operand piece))
next_part text sets standing.Other piece between.Parts = sym (parts_start (part_of text sets standing.Other piece))
next_part text sets standing.First [] between.Operands = refl
next_part text sets standing.First (mnemonic ∷ rest) between.Operands = by_name (is_name text mnemonic) refl
  where
    by_name : (n : Bool) → is_name text mnemonic ≡ n → start_of (standing_behind text standing.First (mnemonic ∷ rest) between.Operands) ≡ part_behind (part_of text sets standing.First (mnemonic ∷ rest)) between.Operands
    by_name true n = rw n (sym (begun_behind (fold (scanned text sets) Suffixes rest) (begun_fold text sets rest Suffixes refl)))
    by_name false n = rw n (ap (λ p. part_behind p between.Operands) (sym (other_fold text sets rest)))
next_part text sets standing.Operand piece between.Operands = ap (λ p. part_behind p between.Operands) (sym (operand_fold text sets piece no_held))
next_part text sets standing.Other piece between.Operands = ap (λ p. part_behind p between.Operands) (sym (other_fold text sets piece))

-- lines

abbrev view : List ℕ → Sets → Working → Scan
view text sets w = record { part = part_of text sets w.standing w.piece; unknown = w.done.unknown }

view_on : (text : List ℕ) (sets : Sets) (w : Working) (token : Token) → view text sets (worked_on text sets w token) ≡ scan_on text sets (view text sets w) token
view_on text sets w token = by_sign (separates (symbol_of text token)) refl
  where
    by_sign : (s : Option Between) → separates (symbol_of text token) ≡ s → view text sets (worked_on text sets w token) ≡ scan_on text sets (view text sets w) token
    by_sign None s = rw s (ap (λ p. record { part = p; unknown = w.done.unknown }) (fold-append (scanned text sets) (start_of w.standing) w.piece (token ∷ [])))
    by_sign (Some b) s =
        rw s
        (ap (λ u. record { part = start_of (standing_behind text w.standing w.piece b); unknown = u }) (put_lacks text sets w.standing w.piece w.done)
        ∙ ap (λ p. record { part = p; unknown = option_or w.done.unknown (part_lacks text sets (part_of text sets w.standing w.piece)) }) (next_part text sets w.standing w.piece b))

views : (text : List ℕ) (sets : Sets) (tokens : List Token) (w : Working) → view text sets (fold (worked_on text sets) w tokens) ≡ fold (scan_on text sets) (view text sets w) tokens
views text sets [] w = refl
views text sets (token ∷ tokens) w =
    views text sets tokens (worked_on text sets w token)
    ∙ ap (λ s. fold (scan_on text sets) s tokens) (view_on text sets w token)

pub scan_instruction : (text : List ℕ) (sets : Sets) (tokens : List Token) → scan_lacks text sets (fold (scan_on text sets) no_scan tokens) ≡ (instruction_work text sets tokens).unknown
unfolding instruction_work
scan_instruction text sets tokens =
    let w = fold (worked_on text sets) nothing_read tokens in
    sym (put_lacks text sets w.standing w.piece w.done ∙ ap (scan_lacks text sets) (views text sets tokens nothing_read))
