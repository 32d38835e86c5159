-- The pieces of a part agree with its form: suffixes of a mnemonic, a target with its pack, an operand with
-- its unpack mode, where a branch goes.
use Rattle.std.proofs.Common.{◌≡◌, ℕ, zero, suc, Bool, true, false, List, [], ◌∷◌, ◌++◌, append_assoc, take, drop, Option, Some, None, Result, Ok, refl, ap, sym, subst, ◌∙◌, arith}
use Rattle.std.proofs.lemmas.List.{append-nil}
use Rattle.std.specs.Prelude.{◌%◌, ◌^◌, ◌==◌, ◌&&◌, not, nat_lt, nat_le, is_some, is_none, if◌then◌else◌}
use Rattle.qpu_token.specs.declared.token.Token.{Token}
use Rattle.qpu_word.specs.declared.name.Place.{Place}
use Rattle.qpu_line.specs.declared.operand.Operand.{Operand}
use Rattle.qpu_line.specs.declared.operand.Operand.TheVariants as operand
use Rattle.qpu_line.specs.declared.name.Name.{Name}
use Rattle.qpu_line.specs.declared.name.Name.TheVariants as name
use Rattle.qpu_line.specs.declared.name.Register.{Register}
use Rattle.qpu_line.specs.declared.name.Register.TheVariants as register
use Rattle.qpu_line.specs.declared.symbol.Symbol.{Symbol}
use Rattle.qpu_line.specs.declared.symbol.Symbol.TheVariants as symbol
use Rattle.qpu_asm.specs.declared.placed.Placed.{Placed}
use Rattle.qpu_asm.specs.declared.piece.Core.{Core}
use Rattle.qpu_asm.specs.declared.piece.Core.TheVariants as core
use Rattle.qpu_asm.specs.declared.piece.Suffix.{Suffix}
use Rattle.qpu_asm.specs.declared.piece.Piece.{Piece}
use Rattle.qpu_asm.specs.declared.part.Suffixes.{Suffixes}
use Rattle.qpu_asm.specs.declared.mark.What.{What}
use Rattle.qpu_asm.specs.declared.mark.What.TheVariants as what
use Rattle.qpu_asm.specs.declared.mark.Mark.{Mark}
use Rattle.qpu_asm.specs.Signs.{is_dot, is_minus, is_colon, has_dot, length_of}
use Rattle.qpu_asm.specs.Expressions.{expression_length}
use Rattle.qpu_asm.specs.Roles.{source_of, is_condition, is_set_flags, is_branch_condition, is_pack, is_row, if_link, unpack_name, code_of}
use Rattle.qpu_asm.specs.Forms.{Slot, begins_with}
use Rattle.qpu_asm.specs.Forms.Suffixed.{setting, settled, packed, unpacked}
use Rattle.qpu_asm.specs.Forms.Aim.{anywhere, somewhere, linked, linked_somewhere, row, other_a, other_b}
use Rattle.qpu_asm.specs.Forms.Slot.{suffix_slot, target_slot, operand_slot, colon_slot, way_slot}
use Rattle.qpu_asm.specs.Stands.{stands_if, wrong_unless, second_name, name_place, place_of, writes, source_at, reads_a, reads_b, row_named, single, between_these, turns, any_number as any_of, operates_on, operates, unpack_means, unpacks_of, unpacks_at, unpacks, labelled, jumps, sets}
use Rattle.qpu_asm.specs.reader.Reading.{go_on}
use Rattle.qpu_asm.specs.reader.Pieces.{suffix_at, alone, name_alone, bare, value_of_length, value_core, label_by, label_core, jump_core, target_core, target_at, operand_core, operand_at}
use Rattle.qpu_asm.specs.reader.Parts.{suffixes_at}
use Rattle.qpu_asm.specs.reader.Marks.{mark, mark_if, flags_mark, first_suffix, has_condition, second_suffix, suffix_marks, condition_marks, branch_marks, target_place, place_mark, pack_marks, target_marks, somewhere as somewhere_of, unpack_mark, source_marks, operand_marks, any_number, number_between, jump_marks, is_row_name, rotation_marks, source_in, other_a as other_a_marks, other_b as other_b_marks}
use Rattle.qpu_asm.proofs.FaultChain.{mark_at, marked, Chain, chain_map, fill, fails, go_assoc, name_in, suffix_chain, CoreOf, Agrees, target_chain, core_of, if_one, one_is, value_told, single_is}
use Rattle.qpu_asm.proofs.FaultChain.CoreOf.{dash, known, other}

-- marks that are put where something holds

if_marked : (b : Bool) (w : What) (t : Token) → mark_if b w t [] ≡ marked t (stands_if b w)
if_marked true w t = refl
if_marked false w t = refl

-- suffixes

first_told : (unit mul : Bool) (s : Suffix) (b : Bool) → is_set_flags s.name ≡ b
    → (if b then flags_mark (unit && mul) s.dot [] else mark_if (not (is_condition s.name)) what.Wrong s.dot []) ≡ marked s.dot (if b then sets (unit && mul) else wrong_unless (is_condition s.name))
first_told unit mul s true e = if_marked (unit && mul) what.MulSets s.dot
first_told unit mul s false e = if_marked (not (is_condition s.name)) what.Wrong s.dot

second_told : (m : Bool) (dot : Token) (b : Bool) → (if b then flags_mark m dot [] else mark what.Wrong dot []) ≡ marked dot (if b then sets m else what.Wrong ∷ [])
second_told m dot true = if_marked m what.MulSets dot
second_told m dot false = refl

second_grows : (m : Bool) (ms : List Mark) (dot : Token) (b : Bool) → (if b then flags_mark m dot ms else mark what.Wrong dot ms) ≡ ms ++ (if b then flags_mark m dot [] else mark what.Wrong dot [])
second_grows true ms dot true = refl
second_grows false ms dot true = sym (append-nil ms)
second_grows m ms dot false = refl

two_suffixes : (m : Bool) (first second : Option Suffix) → suffix_marks m (record { first = first; second = second }) [] ≡ first_suffix m first [] ++ second_suffix m first second []
unfolding suffix_marks
two_suffixes m first None = sym (append-nil (first_suffix m first []))
two_suffixes m first (Some s) = second_grows m (first_suffix m first []) s.dot (has_condition first && is_set_flags s.name)

condition_in : (a : Option Suffix) (n : Option Name) → n ≡ (name_in a) → is_condition n ≡ has_condition a
condition_in None n e = rw e refl
condition_in (Some s) n e = rw e refl

pub suffixes_chain : {B : Type 0} (unit mul : Bool) (slots : List Slot) (end : Token) (before xs : List Placed) (Q : B → List Mark → Type 0) (next : Suffixes × List Placed → Result B Token)
    → ((s : Suffixes) (mid rest : List Placed) → Chain mul slots end mid rest (λ b l. Q b (suffix_marks (unit && mul) s [] ++ l)) (next (s, rest)))
    → Chain mul (suffix_slot (setting unit) ∷ suffix_slot (settled unit) ∷ slots) end before xs Q (go_on (suffixes_at xs) next)
unfolding suffixes_at
suffixes_chain {B} unit mul slots end before xs Q next k =
    let m : Bool = unit && mul in
    let P : Result B Token → Type 0 = λ r. Chain mul (suffix_slot (setting unit) ∷ suffix_slot (settled unit) ∷ slots) end before xs Q r in
    subst P (go_assoc (suffix_at xs) _ next)
    (suffix_chain mul (setting unit) (suffix_slot (settled unit) ∷ slots) end before xs Q (λ a. first_suffix m a []) _ refl
    (λ dot n. first_told unit mul (record { dot = dot; name = n }) (is_set_flags n) refl)
    (λ a mid rest named there.
    let R : Result B Token → Type 0 = λ r. Chain mul (suffix_slot (settled unit) ∷ slots) end mid rest (λ b l. Q b (first_suffix m a [] ++ l)) r in
    subst R (go_assoc (suffix_at rest) _ next)
    (suffix_chain mul (settled unit) slots end mid rest (λ b l. Q b (first_suffix m a [] ++ l)) (λ c. second_suffix m a c []) _ refl
    (λ dot n. second_told m dot (has_condition a && is_set_flags n) ∙ ap (λ z. marked dot (if z && is_set_flags n then sets m else what.Wrong ∷ [])) (sym (condition_in a (second_name mid) named)))
    (λ c last left is some.
    chain_map mul slots end last left (λ b l. Q b (suffix_marks m (record { first = a; second = c }) [] ++ l)) (λ b l. Q b (first_suffix m a [] ++ (second_suffix m a c [] ++ l))) _
    (λ b l q. subst (Q b) (ap (λ z. z ++ l) (two_suffixes m a c) ∙ append_assoc (first_suffix m a []) (second_suffix m a c []) l) q) (k (record { first = a; second = c }) last left)))))

pub condition_told : (dot : Token) (n : Option Name) → condition_marks (Some (record { dot = dot; name = n })) [] ≡ marked dot (wrong_unless (is_condition n))
condition_told dot n = if_marked (not (is_condition n)) what.Wrong dot

pub branch_told : (dot : Token) (n : Option Name) → branch_marks (Some (record { dot = dot; name = n })) [] ≡ marked dot (wrong_unless (is_branch_condition n))
branch_told dot n = if_marked (not (is_branch_condition n)) what.Wrong dot

-- targets

placed : (p : Option Place) (t : Token) → marked t (writes p) ≡ place_mark p t []
placed None t = refl
placed (Some p) t = refl

core_place : (s : Symbol) (c : Core) → CoreOf s c → place_of s ≡ target_place c
core_place _ _ dash = refl
core_place _ _ known = refl
core_place _ _ other = refl

core_name : (s : Symbol) (c : Core) → CoreOf s c → name_place s ≡ somewhere_of c
core_name _ _ dash = refl
core_name _ _ known = refl
core_name _ _ other = refl

core_source : (s : Symbol) (c : Core) → CoreOf s c → source_at s ≡ source_in c
core_source _ _ dash = refl
core_source _ _ known = refl
core_source _ _ other = refl

pub anywhere_agrees : Agrees anywhere (λ c t. place_mark (target_place c) t [])
anywhere_agrees s c t of = placed (place_of s) t ∙ ap (λ z. place_mark z t []) (core_place s c of)

pub somewhere_agrees : Agrees somewhere (λ c t. place_mark (somewhere_of c) t [])
somewhere_agrees s c t of = placed (name_place s) t ∙ ap (λ z. place_mark z t []) (core_name s c of)

pub linked_agrees : Agrees linked (λ c t. place_mark (if_link (target_place c)) t [])
linked_agrees s c t of = placed (if_link (place_of s)) t ∙ ap (λ z. place_mark (if_link z) t []) (core_place s c of)

pub linked_somewhere_agrees : Agrees linked_somewhere (λ c t. place_mark (if_link (somewhere_of c)) t [])
linked_somewhere_agrees s c t of = placed (if_link (name_place s)) t ∙ ap (λ z. place_mark (if_link z) t []) (core_name s c of)

row_register : (r : Register) (t : Token) → marked t (row_named (symbol.Name (name.Register r))) ≡ mark_if (not (is_row_name (core.Name (name.Register r)))) what.Wrong t []
row_register (register.RowA n) t = refl
row_register _ t = refl

row_name : (n : Name) (t : Token) → marked t (row_named (symbol.Name n)) ≡ mark_if (not (is_row_name (core.Name n))) what.Wrong t []
row_name (name.Register r) t = row_register r t
row_name _ t = refl

pub row_agrees : Agrees row (λ c t. mark_if (not (is_row_name c)) what.Wrong t [])
row_agrees _ _ t dash = refl
row_agrees _ _ t (known {n}) = row_name n t
row_agrees _ _ t other = refl

read_a : (o : Option Operand) (t : Token) → marked t (reads_a o) ≡ other_a_marks o t []
read_a None t = refl
read_a (Some (operand.FileA n unpack)) t = refl
read_a (Some (operand.FileB n)) t = refl
read_a (Some (operand.Accumulator n)) t = refl
read_a (Some (operand.Small code)) t = refl

read_b : (o : Option Operand) (t : Token) → marked t (reads_b o) ≡ other_b_marks o t []
read_b None t = refl
read_b (Some (operand.FileA n unpack)) t = refl
read_b (Some (operand.FileB n)) t = refl
read_b (Some (operand.Accumulator n)) t = refl
read_b (Some (operand.Small code)) t = refl

pub other_a_agrees : Agrees other_a (λ c t. other_a_marks (source_in c) t [])
other_a_agrees s c t of = read_a (source_at s) t ∙ ap (λ z. other_a_marks z t []) (core_source s c of)

pub other_b_agrees : Agrees other_b (λ c t. other_b_marks (source_in c) t [])
other_b_agrees s c t of = read_b (source_at s) t ∙ ap (λ z. other_b_marks z t []) (core_source s c of)

-- a target with its pack

if_grows : (b : Bool) (w : What) (t : Token) (ms : List Mark) → mark_if b w t ms ≡ ms ++ mark_if b w t []
if_grows true w t ms = refl
if_grows false w t ms = sym (append-nil ms)

pack_grows : (to : Option Place) (a : Option Suffix) (ms : List Mark) → pack_marks to a ms ≡ ms ++ pack_marks to a []
pack_grows to None ms = sym (append-nil ms)
pack_grows to (Some s) ms = if_grows (not (is_row to && is_pack s.name)) what.Wrong s.dot ms

target_split : (c : Core) (t : Token) (a : Option Suffix) → target_marks (record { core = c; token = t; suffix = a }) [] ≡ place_mark (target_place c) t [] ++ pack_marks (target_place c) a []
unfolding target_marks
target_split c t a = pack_grows (target_place c) a (place_mark (target_place c) t [])

pub packed_chain : {B : Type 0} (mul : Bool) (slots : List Slot) (end : Token) (before xs : List Placed) (Q : B → List Mark → Type 0) (next : Piece × List Placed → Result B Token)
    → ((p : Piece) (mid rest : List Placed) → Chain mul slots end mid rest (λ b l. Q b (target_marks p [] ++ l)) (next (p, rest)))
    → Chain mul (target_slot anywhere ∷ suffix_slot packed ∷ slots) end before xs Q (go_on (target_at end xs) next)
unfolding target_at
packed_chain {B} mul slots end before xs Q next k =
    let P : Result B Token → Type 0 = λ r. Chain mul (target_slot anywhere ∷ suffix_slot packed ∷ slots) end before xs Q r in
    subst P (go_assoc (target_core end xs) _ next)
    (target_chain mul anywhere (suffix_slot packed ∷ slots) end before xs Q (λ c t. place_mark (target_place c) t []) _ anywhere_agrees
    (λ s c t mid rest of first.
    let own : List Mark = place_mark (target_place c) t [] in
    let R : Result B Token → Type 0 = λ r. Chain mul (suffix_slot packed ∷ slots) end mid rest (λ b l. Q b (own ++ l)) r in
    subst R (go_assoc (suffix_at rest) _ next)
    (suffix_chain mul packed slots end mid rest (λ b l. Q b (own ++ l)) (λ a. pack_marks (target_place c) a []) _ refl
    (λ dot n. if_marked (not (is_row (target_place c) && is_pack n)) what.Wrong dot ∙ ap (λ z. marked dot (wrong_unless (is_row z && is_pack n))) (sym (first ∙ core_place s c of)))
    (λ a last left is some.
    chain_map mul slots end last left (λ b l. Q b (target_marks (record { core = c; token = t; suffix = a }) [] ++ l)) (λ b l. Q b (own ++ (pack_marks (target_place c) a [] ++ l))) _
    (λ b l q. subst (Q b) (ap (λ z. z ++ l) (target_split c t a) ∙ append_assoc own (pack_marks (target_place c) a []) l) q) (k (record { core = c; token = t; suffix = a }) last left)))))

-- numbers

between_agrees : (low high : ℕ) (o : Option Symbol) (t : Token) → marked t (between_these low high o) ≡ number_between low high (bare (core_of o) t) []
between_agrees low high None t = refl
between_agrees low high (Some (symbol.Number v)) t = sym (if_marked (not (nat_le low (v % 2 ^ 32) && nat_le (v % 2 ^ 32) high)) what.Far t)
between_agrees low high (Some (symbol.Name n)) t = refl
between_agrees low high (Some _) t = refl

pub bounded_agrees : (o : Option Symbol) (t : Token) → marked t (between_these 0 15 o) ≡ number_between 0 15 (bare (core_of o) t) []
bounded_agrees o t = between_agrees 0 15 o t

pub any_agrees : (o : Option Symbol) (t : Token) → marked t (any_of o) ≡ any_number (bare (core_of o) t) []
any_agrees None t = refl
any_agrees (Some (symbol.Number v)) t = refl
any_agrees (Some (symbol.Name n)) t = refl
any_agrees (Some _) t = refl

by_r5 : (b : Bool) (t : Token) → marked t (wrong_unless b) ≡ (if b then [] else mark what.Wrong t [])
by_r5 true t = refl
by_r5 false t = refl

turn_register : (r : Register) (t : Token) → marked t (turns (Some (symbol.Name (name.Register r)))) ≡ rotation_marks (bare (core.Name (name.Register r)) t) []
turn_register (register.Accumulator n) t = by_r5 (n == 5) t
turn_register _ t = refl

turn_name : (n : Name) (t : Token) → marked t (turns (Some (symbol.Name n))) ≡ rotation_marks (bare (core.Name n) t) []
turn_name (name.Register r) t = turn_register r t
turn_name _ t = refl

pub turn_agrees : (o : Option Symbol) (t : Token) → marked t (turns o) ≡ rotation_marks (bare (core_of o) t) []
turn_agrees None t = refl
turn_agrees (Some (symbol.Name n)) t = turn_name n t
turn_agrees (Some (symbol.Number v)) t = between_agrees 1 15 (Some (symbol.Number v)) t
turn_agrees (Some _) t = refl

-- operands

abbrev unpack_of_one : Option Symbol → Option Name → List What
unpack_of_one None m = []
unpack_of_one (Some s) m = unpacks_at s m

abbrev unpack_part : Option Symbol → Option Suffix → List Mark
unpack_part o None = []
unpack_part o (Some s) = marked s.dot (unpack_of_one o s.name)

-- an expression of one token alone has length 1
pub one_token : (s : Symbol) (n : ℕ) → expression_length (s ∷ []) ≡ Some n → n ≡ 1
one_token (symbol.Name m) n e = sym cc
one_token symbol.Unknown n e = sym cc
one_token (symbol.Number v) n e = sym cc
one_token _ n e = absurd cc

unpacks_taken : (x : Placed) (rest : List Placed) (n : ℕ) (one : Bool) (m : Option Name) → (n == 1) ≡ one → length_of (x ∷ rest) ≡ Some n → unpacks (take n (x ∷ rest)) m ≡ unpack_of_one (if one then Some x.symbol else None) m
unpacks_taken x rest n true m is long = rw (one_is n is) refl
unpacks_taken x rest zero false m is long = refl
unpacks_taken x [] (suc n) false m is long = absurd (let e : suc n ≡ 1 = one_token x.symbol (suc n) long in grind (arith, e, is))
unpacks_taken x (y ∷ rest) (suc zero) false m is long = absurd (grind (arith, is))
unpacks_taken x (y ∷ rest) (suc (suc n)) false m is long = refl

-- with a suffix `-` alone isn't read as a number
abbrev NoDash : Option Symbol → Type 0
NoDash None = Unit {0}
NoDash (Some s) = is_minus s ≡ false

source_none : (mul : Bool) (p : Option Operand) (c : Core) (t : Token) → source_marks mul (record { core = c; token = t; suffix = None }) p [] ≡ marked t (operates_on mul false p) ++ []
source_none mul None c t = refl
source_none true (Some (operand.Accumulator n)) c t = if_marked (nat_lt 3 n) what.Fixed t ∙ sym (append-nil (marked t (stands_if (nat_lt 3 n) what.Fixed)))
source_none false (Some (operand.Accumulator n)) c t = refl
source_none true (Some (operand.FileA n unpack)) c t = refl
source_none false (Some (operand.FileA n unpack)) c t = refl
source_none true (Some (operand.FileB n)) c t = refl
source_none false (Some (operand.FileB n)) c t = refl
source_none mul (Some (operand.Small code)) c t = refl

unpack_told : (n : ℕ) (dot : Token) (o : Option ℕ) (ms : List Mark) → unpack_mark n dot o ms ≡ ms ++ marked dot (unpack_means n o)
unpack_told n dot None ms = refl
unpack_told n dot (Some mode) ms = refl

row_unpack : (n : ℕ) (dot : Token) (m : Option Name) (ms : List Mark) (b : Bool)
    → (if b then unpack_mark n dot (unpack_name m) ms else mark what.Wrong dot ms) ≡ ms ++ marked dot (if b then unpack_means n (unpack_name m) else what.Wrong ∷ [])
row_unpack n dot m ms true = unpack_told n dot (unpack_name m) ms
row_unpack n dot m ms false = refl

source_some : (mul : Bool) (p : Option Operand) (c : Core) (t : Token) (s : Suffix) → source_marks mul (record { core = c; token = t; suffix = Some s }) p [] ≡ marked t (operates_on mul true p) ++ marked s.dot (unpacks_of p s.name)
source_some mul None c t s = refl
source_some true (Some (operand.Accumulator n)) c t s = ap (λ z. mark what.Wrong s.dot z) (if_marked (nat_lt 3 n) what.Fixed t)
source_some false (Some (operand.Accumulator n)) c t s = refl
source_some true (Some (operand.FileA n unpack)) c t s = row_unpack n s.dot s.name (mark_at t (what.ReadsA n) ∷ mark_at t what.Fixed ∷ []) (nat_lt n 32)
source_some false (Some (operand.FileA n unpack)) c t s = row_unpack n s.dot s.name (mark_at t (what.ReadsA n) ∷ []) (nat_lt n 32)
source_some true (Some (operand.FileB n)) c t s = refl
source_some false (Some (operand.FileB n)) c t s = refl
source_some mul (Some (operand.Small code)) c t s = refl

no_code : (o : Option ℕ) → is_none o ≡ not (is_some o)
no_code None = refl
no_code (Some n) = refl

number_told : (n : ℕ) (t : Token) (b c : Bool) → b ≡ c → mark_if b what.Far t (mark (what.Number n) t []) ≡ marked t (what.Number n ∷ stands_if c what.Far)
number_told n t true c e = rw (sym e) refl
number_told n t false c e = rw (sym e) refl

operand_none : (mul : Bool) (o : Option Symbol) (t : Token) → operand_marks mul (record { core = core_of o; token = t; suffix = None }) [] ≡ marked t (operates mul false o) ++ []
unfolding operand_marks
operand_none mul None t = refl
operand_none mul (Some (symbol.Name n)) t = source_none mul (source_of n) (core.Name n) t
operand_none mul (Some (symbol.Number v)) t =
    number_told (v % 2 ^ 32) t (is_none (code_of (v % 2 ^ 32))) (not (is_some (code_of (v % 2 ^ 32)))) (no_code (code_of (v % 2 ^ 32))) ∙ sym (append-nil (marked t (operates mul false (Some (symbol.Number v)))))
operand_none mul (Some _) t = refl

operand_some : (mul : Bool) (o : Option Symbol) (t : Token) (s : Suffix) → NoDash o → operand_marks mul (record { core = core_of o; token = t; suffix = Some s }) [] ≡ marked t (operates mul true o) ++ marked s.dot (unpack_of_one o s.name)
unfolding operand_marks
operand_some mul None t s nay = refl
operand_some mul (Some (symbol.Name n)) t s nay = source_some mul (source_of n) (core.Name n) t s
operand_some mul (Some (symbol.Number v)) t s nay =
    ap (λ z. mark what.Wrong s.dot z) (number_told (v % 2 ^ 32) t (is_none (code_of (v % 2 ^ 32))) (not (is_some (code_of (v % 2 ^ 32)))) (no_code (code_of (v % 2 ^ 32))))
operand_some mul (Some symbol.Minus) t s nay = absurd (grind (arith, nay))
operand_some mul (Some _) t s nay = refl

operand_split : (mul dotted : Bool) (o : Option Symbol) (t : Token) (a : Option Suffix) → is_some a ≡ dotted → (dotted ≡ true → NoDash o)
    → operand_marks mul (record { core = core_of o; token = t; suffix = a }) [] ≡ marked t (operates mul dotted o) ++ unpack_part o a
operand_split mul true o t (Some s) is nay = operand_some mul o t s (nay refl)
operand_split mul false o t None is nay = operand_none mul o t
operand_split mul true o t None is nay = absurd (grind (arith, is))
operand_split mul false o t (Some s) is nay = absurd (grind (arith, is))

same_dot : (xs : List Placed) → begins_with is_dot xs ≡ has_dot xs
same_dot [] = refl
same_dot (x ∷ xs) = refl

-- what comes behind an operand
abbrev pub BehindPiece : {B : Type 0} → Bool → List Slot → Token → (B → List Mark → Type 0) → (Piece × List Placed → Result B Token) → Type 0
BehindPiece mul slots end Q next = (p : Piece) (mid rest : List Placed) → Chain mul slots end mid rest (λ b l. Q b (operand_marks mul p [] ++ l)) (next (p, rest))

abbrev with : {B : Type 0} → (Piece × List Placed → Result B Token) → Piece × List Placed → Result B Token
with next p = go_on (go_on (suffix_at p.1) (λ s. Ok (record p.0 { suffix = s.0 }, s.1))) next

-- `-` with a suffix

minus_symbol : (s : Symbol) → is_minus s ≡ true → s ≡ symbol.Minus
minus_symbol symbol.Minus e = refl
minus_symbol _ e = absurd (grind (arith, e))

dash_marks : (mul : Bool) (t : Token) (a : Option Suffix) → is_some a ≡ true → unpack_part (Some symbol.Minus) a ≡ operand_marks mul (record { core = core.Nowhere; token = t; suffix = a }) []
unfolding operand_marks
dash_marks mul t (Some s) e = refl
dash_marks mul t None e = absurd (grind (arith, e))

dash_chain : {B : Type 0} (mul : Bool) (slots : List Slot) (end : Token) (before : List Placed) (x : Placed) (rest : List Placed) (Q : B → List Mark → Type 0) (next : Piece × List Placed → Result B Token)
    → BehindPiece mul slots end Q next → is_minus x.symbol ≡ true → has_dot rest ≡ true
    → Chain mul (operand_slot ∷ suffix_slot unpacked ∷ slots) end before (x ∷ rest) Q (with next (bare core.Nowhere x.token, rest))
dash_chain {B} mul slots end before x rest Q next k minus dot =
    let P : Option Suffix → List Mark = λ a. unpack_part (Some symbol.Minus) a in
    let R : Result B Token → Type 0 = λ r. Chain mul (suffix_slot unpacked ∷ slots) end (x ∷ []) rest Q r in
    fill mul operand_slot (suffix_slot unpacked ∷ slots) end before (x ∷ rest) Q 1 [] _ (rw (minus, dot) refl) (rw (minus, dot) refl)
    (subst R (go_assoc (suffix_at rest) _ next)
    (suffix_chain mul unpacked slots end (x ∷ []) rest Q P _ refl (λ d n. ap (λ z. marked d (unpacks_at z n)) (sym (minus_symbol x.symbol minus)))
    (λ a last left is some.
    chain_map mul slots end last left (λ b l. Q b (operand_marks mul (record { core = core.Nowhere; token = x.token; suffix = a }) [] ++ l)) (λ b l. Q b (P a ++ l)) _
    (λ b l q. subst (Q b) (ap (λ z. z ++ l) (sym (dash_marks mul x.token a (some ∙ same_dot rest ∙ dot)))) q) (k (record { core = core.Nowhere; token = x.token; suffix = a }) last left))))

-- a name or a number

no_dash : (m d : Bool) → (m && d) ≡ false → d ≡ true → m ≡ false
no_dash m true e f = e'
  where
    e' : m ≡ false
    e' = grind (arith, e)
no_dash m false e f = absurd (grind (arith, f))

-- behind one token stands what is left; behind several it isn't asked
dotted_by : (mul d : Bool) (x : Placed) (rest : List Placed) (n : ℕ) (one : Bool) → (n == 1) ≡ one → has_dot rest ≡ d
    → operates mul d (if one then Some x.symbol else None) ≡ operates mul (has_dot (drop n (x ∷ rest))) (if one then Some x.symbol else None)
dotted_by mul d x rest n true is e =
    let P : ℕ → Type 0 = λ z. operates mul d (Some x.symbol) ≡ operates mul (has_dot (drop z (x ∷ rest))) (Some x.symbol) in
    subst P (sym (one_is n is)) (ap (λ z. operates mul z (Some x.symbol)) (sym e))
dotted_by mul d x rest n false is e = refl

same_has : (x : Placed) (rest : List Placed) (n : ℕ) (one : Bool) → (n == 1) ≡ one → (is_minus x.symbol && has_dot rest) ≡ false → has_dot (drop n (x ∷ rest)) ≡ true → NoDash (if one then Some x.symbol else None)
same_has x rest n true is e f = no_dash (is_minus x.symbol) (has_dot rest) e (let P : ℕ → Type 0 = λ z. has_dot (drop z (x ∷ rest)) ≡ true in subst P (one_is n is) f)
same_has x rest n false is e f = tt

operand_by : {B : Type 0} (mul : Bool) (slots : List Slot) (end : Token) (before : List Placed) (x : Placed) (rest : List Placed) (Q : B → List Mark → Type 0) (next : Piece × List Placed → Result B Token) (l : Option ℕ)
    → BehindPiece mul slots end Q next → (is_minus x.symbol && has_dot rest) ≡ false → length_of (x ∷ rest) ≡ l
    → Chain mul (operand_slot ∷ suffix_slot unpacked ∷ slots) end before (x ∷ rest) Q (go_on (value_of_length x rest (alone x.symbol) l) (with next))
operand_by mul slots end before x rest Q next None k nay long = fails mul operand_slot (suffix_slot unpacked ∷ slots) end before (x ∷ rest) Q x.token (rw (nay, long) refl) refl
operand_by {B} mul slots end before x rest Q next (Some n) k nay long =
    let o : Option Symbol = if_one n x.symbol in
    let left : List Placed = drop n (x ∷ rest) in
    let mid : List Placed = take n (x ∷ rest) in
    let own : List Mark = marked x.token (operates mul (has_dot left) o) in
    let same : operates mul (has_dot rest) (single (x ∷ rest)) ≡ operates mul (has_dot left) o =
    ap (λ z. operates mul (has_dot rest) z) (single_is x rest n long) ∙ dotted_by mul (has_dot rest) x rest n (n == 1) refl refl in
    let P : Result (Piece × List Placed) Token → Type 0 = λ r. Chain mul (operand_slot ∷ suffix_slot unpacked ∷ slots) end before (x ∷ rest) Q (go_on r (with next)) in
    let R : Result B Token → Type 0 = λ r. Chain mul (suffix_slot unpacked ∷ slots) end mid left (λ b l. Q b (own ++ l)) r in
    subst P (sym (value_told x.symbol x rest n))
    (fill mul operand_slot (suffix_slot unpacked ∷ slots) end before (x ∷ rest) Q n own _ (rw nay long) (rw nay (ap (marked x.token) same))
    (subst R (go_assoc (suffix_at left) _ next)
    (suffix_chain mul unpacked slots end mid left (λ b l. Q b (own ++ l)) (λ a. unpack_part o a) _ refl
    (λ dot m. ap (marked dot) (sym (unpacks_taken x rest n (n == 1) m refl long)))
    (λ a last behind is some.
    let piece : Piece = record { core = core_of o; token = x.token; suffix = a } in
    let whole : own ++ unpack_part o a ≡ operand_marks mul piece [] = sym (operand_split mul (has_dot left) o x.token a (some ∙ same_dot left) (λ f. same_has x rest n (n == 1) refl nay f)) in
    chain_map mul slots end last behind (λ b l. Q b (operand_marks mul piece [] ++ l)) (λ b l. Q b (own ++ (unpack_part o a ++ l))) _
    (λ b l q. subst (Q b) (ap (λ z. z ++ l) (sym whole) ∙ append_assoc own (unpack_part o a) l) q) (k piece last behind)))))

operand_if : {B : Type 0} (mul : Bool) (slots : List Slot) (end : Token) (before : List Placed) (x : Placed) (rest : List Placed) (Q : B → List Mark → Type 0) (next : Piece × List Placed → Result B Token) (m d b : Bool)
    → BehindPiece mul slots end Q next → is_minus x.symbol ≡ m → has_dot rest ≡ d → (m && d) ≡ b
    → Chain mul (operand_slot ∷ suffix_slot unpacked ∷ slots) end before (x ∷ rest) Q (go_on (if b then Ok (bare core.Nowhere x.token, rest) else value_of_length x rest (alone x.symbol) (length_of (x ∷ rest))) (with next))
operand_if mul slots end before x rest Q next true true true k minus dot e = dash_chain mul slots end before x rest Q next k minus dot
operand_if mul slots end before x rest Q next m d false k minus dot e = operand_by mul slots end before x rest Q next (length_of (x ∷ rest)) k (rw (minus, dot) e) refl
operand_if mul slots end before x rest Q next true false true k minus dot e = absurd (grind (arith, e))
operand_if mul slots end before x rest Q next false d true k minus dot e = absurd (grind (arith, e))

operand_core_chain : {B : Type 0} (mul : Bool) (slots : List Slot) (end : Token) (before xs : List Placed) (Q : B → List Mark → Type 0) (next : Piece × List Placed → Result B Token)
    → BehindPiece mul slots end Q next → Chain mul (operand_slot ∷ suffix_slot unpacked ∷ slots) end before xs Q (go_on (operand_core end xs) (with next))
unfolding operand_core value_core
operand_core_chain mul slots end before [] Q next k = fails mul operand_slot (suffix_slot unpacked ∷ slots) end before [] Q end refl refl
operand_core_chain mul slots end before (x ∷ rest) Q next k = operand_if mul slots end before x rest Q next (is_minus x.symbol) (has_dot rest) (is_minus x.symbol && has_dot rest) k refl refl refl

pub operand_chain : {B : Type 0} (mul : Bool) (slots : List Slot) (end : Token) (before xs : List Placed) (Q : B → List Mark → Type 0) (next : Piece × List Placed → Result B Token)
    → BehindPiece mul slots end Q next → Chain mul (operand_slot ∷ suffix_slot unpacked ∷ slots) end before xs Q (go_on (operand_at end xs) next)
unfolding operand_at
operand_chain {B} mul slots end before xs Q next k =
    let P : Result B Token → Type 0 = λ r. Chain mul (operand_slot ∷ suffix_slot unpacked ∷ slots) end before xs Q r in
    subst P (go_assoc (operand_core end xs) _ next) (operand_core_chain mul slots end before xs Q next k)

-- where a branch goes

abbrev pub BehindWay : {B : Type 0} → Bool → List Slot → Token → (B → List Mark → Type 0) → (Piece × List Placed → Result B Token) → Type 0
BehindWay mul slots end Q next = (p : Piece) (mid rest : List Placed) → Chain mul slots end mid rest (λ b l. Q b (jump_marks p [] ++ l)) (next (p, rest))

jump_register : (r : Register) (t : Token) → marked t (jumps (Some (symbol.Name (name.Register r)))) ≡ jump_marks (bare (core.Name (name.Register r)) t) []
jump_register (register.RowA n) t = refl
jump_register _ t = refl

jump_name : (n : Name) (t : Token) → marked t (jumps (Some (symbol.Name n))) ≡ jump_marks (bare (core.Name n) t) []
jump_name (name.Register r) t = jump_register r t
jump_name _ t = refl

jump_agrees : (o : Option Symbol) (t : Token) → marked t (jumps o) ≡ jump_marks (bare (core_of o) t) []
jump_agrees None t = refl
jump_agrees (Some (symbol.Name n)) t = jump_name n t
jump_agrees (Some (symbol.Number v)) t = refl
jump_agrees (Some _) t = refl

label_agrees : (o : Option ℕ) (t : Token) → marked t (labelled o) ≡ jump_marks (bare (core.Label o) t) []
label_agrees None t = refl
label_agrees (Some word) t = refl

way_by : {B : Type 0} (mul : Bool) (slots : List Slot) (end : Token) (x : Placed) (rest : List Placed) (Q : B → List Mark → Type 0) (next : Piece × List Placed → Result B Token) (l : Option ℕ)
    → BehindWay mul slots end Q next → length_of (x ∷ rest) ≡ l → Chain mul (way_slot ∷ slots) end [] (x ∷ rest) Q (go_on (value_of_length x rest (alone x.symbol) l) next)
way_by mul slots end x rest Q next None k long = fails mul way_slot slots end [] (x ∷ rest) Q x.token long refl
way_by mul slots end x rest Q next (Some n) k long =
    let o : Option Symbol = if_one n x.symbol in
    let P : Result (Piece × List Placed) Token → Type 0 = λ r. Chain mul (way_slot ∷ slots) end [] (x ∷ rest) Q (go_on r next) in
    subst P (sym (value_told x.symbol x rest n))
    (fill mul way_slot slots end [] (x ∷ rest) Q n (jump_marks (bare (core_of o) x.token) []) _ long (ap (λ z. marked x.token (jumps z)) (single_is x rest n long) ∙ jump_agrees o x.token)
    (k (bare (core_of o) x.token) (take n (x ∷ rest)) (drop n (x ∷ rest))))

label_there : {B : Type 0} (mul : Bool) (slots : List Slot) (end : Token) (x y : Placed) (rest : List Placed) (Q : B → List Mark → Type 0) (next : Piece × List Placed → Result B Token) (s : Symbol)
    → BehindWay mul slots end Q next → is_colon x.symbol ≡ true → y.symbol ≡ s → Chain mul (way_slot ∷ slots) end (x ∷ []) (y ∷ rest) Q (go_on (label_by y rest (name_alone s)) next)
label_there mul slots end x y rest Q next (symbol.Name n) k colon is =
    fill mul way_slot slots end (x ∷ []) (y ∷ rest) Q 1 (jump_marks (bare (core.Label y.label) y.token) []) _ (rw (colon, is) refl) (rw colon (label_agrees y.label y.token)) (k (bare (core.Label y.label) y.token) (y ∷ []) rest)
label_there mul slots end x y rest Q next symbol.Unknown k colon is =
    fill mul way_slot slots end (x ∷ []) (y ∷ rest) Q 1 (jump_marks (bare (core.Label y.label) y.token) []) _ (rw (colon, is) refl) (rw colon (label_agrees y.label y.token)) (k (bare (core.Label y.label) y.token) (y ∷ []) rest)
label_there mul slots end x y rest Q next _ k colon is = fails mul way_slot slots end (x ∷ []) (y ∷ rest) Q y.token (rw (colon, is) refl) refl

label_chain : {B : Type 0} (mul : Bool) (slots : List Slot) (end : Token) (x : Placed) (rest : List Placed) (Q : B → List Mark → Type 0) (next : Piece × List Placed → Result B Token)
    → BehindWay mul slots end Q next → is_colon x.symbol ≡ true → Chain mul (way_slot ∷ slots) end (x ∷ []) rest Q (go_on (label_core end rest) next)
label_chain mul slots end x [] Q next k colon = fails mul way_slot slots end (x ∷ []) [] Q end (rw colon refl) refl
label_chain mul slots end x (y ∷ rest) Q next k colon = label_there mul slots end x y rest Q next y.symbol k colon refl

jump_by : {B : Type 0} (mul : Bool) (slots : List Slot) (end : Token) (before : List Placed) (x : Placed) (rest : List Placed) (Q : B → List Mark → Type 0) (next : Piece × List Placed → Result B Token) (c : Bool)
    → BehindWay mul slots end Q next → is_colon x.symbol ≡ c
    → Chain mul (colon_slot ∷ way_slot ∷ slots) end before (x ∷ rest) Q (go_on (if c then label_core end rest else value_of_length x rest (alone x.symbol) (length_of (x ∷ rest))) next)
jump_by mul slots end before x rest Q next true k is = fill mul colon_slot (way_slot ∷ slots) end before (x ∷ rest) Q 1 [] _ (rw is refl) refl (label_chain mul slots end x rest Q next k is)
jump_by mul slots end before x rest Q next false k is = fill mul colon_slot (way_slot ∷ slots) end before (x ∷ rest) Q 0 [] _ (rw is refl) refl (way_by mul slots end x rest Q next (length_of (x ∷ rest)) k refl)

pub jump_chain : {B : Type 0} (mul : Bool) (slots : List Slot) (end : Token) (before xs : List Placed) (Q : B → List Mark → Type 0) (next : Piece × List Placed → Result B Token)
    → BehindWay mul slots end Q next → Chain mul (colon_slot ∷ way_slot ∷ slots) end before xs Q (go_on (jump_core end xs) next)
unfolding jump_core value_core
jump_chain mul slots end before [] Q next k = fill mul colon_slot (way_slot ∷ slots) end before [] Q 0 [] _ refl refl (fails mul way_slot slots end [] [] Q end refl refl)
jump_chain mul slots end before (x ∷ rest) Q next k = jump_by mul slots end before x rest Q next (is_colon x.symbol) k refl
