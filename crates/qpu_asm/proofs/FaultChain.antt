-- Reading a part's tokens agrees with the part's form: it ends at the first token that doesn't fill the place
-- that is due, and what it marks is what the tokens stand for.
use Rattle.std.proofs.Common.{◌≡◌, ℕ, zero, suc, ◌+◌, Bool, true, false, List, [], ◌∷◌, ◌++◌, take, drop, map, Option, Some, None, Result, Ok, Err, refl, ap, sym, subst, ◌∙◌, arith}
use Rattle.std.proofs.lemmas.List.{map-append}
use Rattle.std.specs.Prelude.{◌%◌, ◌^◌, ◌==◌, ◌&&◌, is_some, option_map, if◌then◌else◌}
use Rattle.qpu_token.specs.declared.token.Token.{Token}
use Rattle.qpu_line.specs.declared.name.Name.{Name}
use Rattle.qpu_line.specs.declared.symbol.Symbol.{Symbol}
use Rattle.qpu_line.specs.declared.symbol.Symbol.TheVariants as symbol
use Rattle.qpu_asm.specs.declared.placed.Placed.{Placed}
use Rattle.qpu_asm.specs.declared.piece.Core.{Core}
use Rattle.qpu_asm.specs.declared.piece.Core.TheVariants as core
use Rattle.qpu_asm.specs.declared.piece.Suffix.{Suffix}
use Rattle.qpu_asm.specs.declared.piece.Piece.{Piece}
use Rattle.qpu_asm.specs.declared.mark.What.{What}
use Rattle.qpu_asm.specs.declared.mark.Mark.{Mark}
use Rattle.qpu_asm.specs.Signs.{is_comma, is_dot, is_minus, stops, length_of}
use Rattle.qpu_asm.specs.Forms.{Suffixed, Aim, Use, Slot, is_name, begins_with, filled, misfit}
use Rattle.qpu_asm.specs.Forms.Slot.{suffix_slot, comma_slot, target_slot, number_slot}
use Rattle.qpu_asm.specs.Stands.{second_name, place_of, first_place, aimed, single, used, tells, means, first_stands, moved, slots_stand}
use Rattle.qpu_asm.specs.Faults.{token_at}
use Rattle.qpu_asm.specs.reader.Reading.{Read, go_on, ended}
use Rattle.qpu_asm.specs.reader.Pieces.{named, suffix_of, suffix_behind, suffix_at, alone, name_alone, bare, target_of_length, target_core, value_of_length, value_core, comma_at}

-- marks of tokens

abbrev pub mark_at : Token → What → Mark
mark_at token w = record { what = w; token = token }

abbrev pub marked : Token → List What → List Mark
marked token ws = map (mark_at token) ws

abbrev pub told : Token → List Placed → List (ℕ × What) → List Mark
told end xs stands = map (λ s. mark_at (token_at end xs s.0) s.1) stands

pub token_moved : (end : Token) (n m : ℕ) (xs : List Placed) → token_at end xs (n + m) ≡ token_at end (drop n xs) m
token_moved end zero m xs = ap (λ k. token_at end xs k) (let e : 0 + m ≡ m = omega arith in e)
token_moved end (suc n) m [] = refl
token_moved end (suc n) m (x ∷ xs) = ap (λ k. token_at end (x ∷ xs) k) (let e : suc n + m ≡ suc (n + m) = omega arith in e) ∙ token_moved end n m xs

pub told_moved : (end : Token) (n : ℕ) (xs : List Placed) (stands : List (ℕ × What)) → told end xs (moved n stands) ≡ told end (drop n xs) stands
told_moved end n xs [] = refl
told_moved end n xs (s ∷ stands) = rw (token_moved end n s.0 xs, told_moved end n xs stands) refl

pub told_first : (end : Token) (xs : List Placed) (ws : List What) → told end xs (first_stands ws) ≡ marked (token_at end xs 0) ws
told_first end xs [] = refl
told_first end xs (w ∷ ws) = rw (told_first end xs ws) refl

-- what is read of a part from a place on, and the marks of what is read

pub data Chain {B : Type 0} (mul : Bool) (slots : List Slot) (end : Token) (before xs : List Placed) (Q : B → List Mark → Type 0) : Result B Token → Type 0 where
  whole : {b : B} → misfit slots before xs ≡ None → Q b (told end xs (slots_stand mul slots before xs)) → Chain mul slots end before xs Q (Ok b)
  misses : {t : Token} (m : ℕ) → misfit slots before xs ≡ Some m → t ≡ token_at end xs m → Chain mul slots end before xs Q (Err t)

pub chain_map : {B : Type 0} (mul : Bool) (slots : List Slot) (end : Token) (before xs : List Placed) (P Q : B → List Mark → Type 0) (r : Result B Token)
    → ((b : B) (ms : List Mark) → P b ms → Q b ms) → Chain mul slots end before xs P r → Chain mul slots end before xs Q r
chain_map mul slots end before xs P Q r f (whole {b} none p) = whole none (f b _ p)
chain_map mul slots end before xs P Q r f (misses m some same) = misses m some same

pub misfit_step : (s : Slot) (slots : List Slot) (before xs : List Placed) (n : ℕ) → filled s before xs ≡ Some n
    → misfit (s ∷ slots) before xs ≡ option_map (λ k. n + k) (misfit slots (take n xs) (drop n xs))
misfit_step s slots before xs n e = ap (λ o. elim o as (λ _. Option ℕ) [ None ↦ Some 0 | Some m ↦ option_map (λ k. m + k) (misfit slots (take m xs) (drop m xs)) ]) e

pub misfit_none : (s : Slot) (slots : List Slot) (before xs : List Placed) → filled s before xs ≡ None → misfit (s ∷ slots) before xs ≡ Some 0
misfit_none s slots before xs e = ap (λ o. elim o as (λ _. Option ℕ) [ None ↦ Some 0 | Some m ↦ option_map (λ k. m + k) (misfit slots (take m xs) (drop m xs)) ]) e

stands_step : (mul : Bool) (s : Slot) (slots : List Slot) (before xs : List Placed) (n : ℕ) → filled s before xs ≡ Some n
    → slots_stand mul (s ∷ slots) before xs ≡ first_stands (means mul s before xs) ++ moved n (slots_stand mul slots (take n xs) (drop n xs))
stands_step mul s slots before xs n e =
    ap (λ o. elim o as (λ _. List (ℕ × What)) [ None ↦ [] | Some m ↦ first_stands (means mul s before xs) ++ moved m (slots_stand mul slots (take m xs) (drop m xs)) ]) e

told_step : (mul : Bool) (s : Slot) (slots : List Slot) (end : Token) (before xs : List Placed) (n : ℕ) (ms : List Mark) → filled s before xs ≡ Some n → marked (token_at end xs 0) (means mul s before xs) ≡ ms
    → ms ++ told end (drop n xs) (slots_stand mul slots (take n xs) (drop n xs)) ≡ told end xs (slots_stand mul (s ∷ slots) before xs)
told_step mul s slots end before xs n ms e same =
    let later : List (ℕ × What) = slots_stand mul slots (take n xs) (drop n xs) in
    let own : List (ℕ × What) = first_stands (means mul s before xs) in
    let one : told end xs (slots_stand mul (s ∷ slots) before xs) ≡ told end xs (own ++ moved n later) = ap (told end xs) (stands_step mul s slots before xs n e) in
    let two : told end xs (own ++ moved n later) ≡ told end xs own ++ told end xs (moved n later) = map-append (λ z. mark_at (token_at end xs z.0) z.1) own (moved n later) in
    let three : told end xs own ++ told end xs (moved n later) ≡ ms ++ told end (drop n xs) later = rw (told_first end xs (means mul s before xs), same, told_moved end n xs later) refl in
    sym (one ∙ two ∙ three)

-- tokens that fill a place
pub fill : {B : Type 0} (mul : Bool) (s : Slot) (slots : List Slot) (end : Token) (before xs : List Placed) (Q : B → List Mark → Type 0) (n : ℕ) (ms : List Mark) (r : Result B Token)
    → filled s before xs ≡ Some n → marked (token_at end xs 0) (means mul s before xs) ≡ ms
    → Chain mul slots end (take n xs) (drop n xs) (λ b l. Q b (ms ++ l)) r → Chain mul (s ∷ slots) end before xs Q r
fill mul s slots end before xs Q n ms r e same (whole {b} none q) =
    whole (misfit_step s slots before xs n e ∙ ap (λ o. option_map (λ k. n + k) o) none) (subst (Q b) (told_step mul s slots end before xs n ms e same) q)
fill mul s slots end before xs Q n ms r e same (misses m some is) =
    misses (n + m) (misfit_step s slots before xs n e ∙ ap (λ o. option_map (λ k. n + k) o) some) (is ∙ sym (token_moved end n m xs))

-- and tokens that don't
pub fails : {B : Type 0} (mul : Bool) (s : Slot) (slots : List Slot) (end : Token) (before xs : List Placed) (Q : B → List Mark → Type 0) (t : Token)
    → filled s before xs ≡ None → t ≡ token_at end xs 0 → Chain mul (s ∷ slots) end before xs Q (Err t)
fails mul s slots end before xs Q t e same = misses 0 (ap (λ o. elim o as (λ _. Option ℕ) [ None ↦ Some 0 | Some m ↦ option_map (λ k. m + k) (misfit slots (take m xs) (drop m xs)) ]) e) same

-- the end of a part
pub chain_ended : {B : Type 0} (mul : Bool) (end : Token) (before xs : List Placed) (Q : B → List Mark → Type 0) (b : B) → Q b [] → Chain mul [] end before xs Q (ended b xs)
chain_ended mul end before [] Q b q = whole refl q
chain_ended mul end before (x ∷ xs) Q b q = misses 0 refl refl

pub go_assoc : {A B C : Type 0} (r : Result A Token) (f : A → Result B Token) (next : B → Result C Token) → go_on r (λ a. go_on (f a) next) ≡ go_on (go_on r f) next
go_assoc (Ok a) f next = refl
go_assoc (Err token) f next = refl

-- suffixes

abbrev pub name_in : Option Suffix → Option Name
name_in None = None
name_in (Some s) = s.name

-- what comes behind a suffix that may be there
abbrev pub BehindSuffix : {B : Type 0} → Bool → List Slot → Token → List Placed → (B → List Mark → Type 0) → (Option Suffix → List Mark) → (Option Suffix × List Placed → Result B Token) → Type 0
BehindSuffix mul slots end xs Q g next =
    (a : Option Suffix) (mid rest : List Placed) → second_name mid ≡ name_in a → is_some a ≡ begins_with is_dot xs → Chain mul slots end mid rest (λ b l. Q b (g a ++ l)) (next (a, rest))

suffix_there : {B : Type 0} (mul : Bool) (s : Suffixed) (slots : List Slot) (end : Token) (before : List Placed) (x y : Placed) (rest : List Placed) (Q : B → List Mark → Type 0) (g : Option Suffix → List Mark)
    (next : Option Suffix × List Placed → Result B Token) (z : Symbol) → ((dot : Token) (n : Option Name) → g (Some (record { dot = dot; name = n })) ≡ marked dot (tells mul s before n))
    → BehindSuffix mul slots end (x ∷ y ∷ rest) Q g next → is_dot x.symbol ≡ true → y.symbol ≡ z
    → Chain mul (suffix_slot s ∷ slots) end before (x ∷ y ∷ rest) Q (go_on (suffix_of x.token y.token rest (named z)) next)
suffix_there mul s slots end before x y rest Q g next (symbol.Name n) agree k dot is =
    fill mul (suffix_slot s) slots end before (x ∷ y ∷ rest) Q 2 (g (Some (record { dot = x.token; name = Some n }))) _ (rw (dot, is) refl) (rw (dot, is) (sym (agree x.token (Some n))))
    (k (Some (record { dot = x.token; name = Some n })) (x ∷ y ∷ []) rest (rw is refl) (sym dot))
suffix_there mul s slots end before x y rest Q g next symbol.Unknown agree k dot is =
    fill mul (suffix_slot s) slots end before (x ∷ y ∷ rest) Q 2 (g (Some (record { dot = x.token; name = None }))) _ (rw (dot, is) refl) (rw (dot, is) (sym (agree x.token None)))
    (k (Some (record { dot = x.token; name = None })) (x ∷ y ∷ []) rest (rw is refl) (sym dot))
suffix_there mul s slots end before x y rest Q g next _ agree k dot is = fails mul (suffix_slot s) slots end before (x ∷ y ∷ rest) Q x.token (rw (dot, is) refl) refl

suffix_behind_dot : {B : Type 0} (mul : Bool) (s : Suffixed) (slots : List Slot) (end : Token) (before : List Placed) (x : Placed) (rest : List Placed) (Q : B → List Mark → Type 0) (g : Option Suffix → List Mark)
    (next : Option Suffix × List Placed → Result B Token) → ((dot : Token) (n : Option Name) → g (Some (record { dot = dot; name = n })) ≡ marked dot (tells mul s before n))
    → BehindSuffix mul slots end (x ∷ rest) Q g next → is_dot x.symbol ≡ true → Chain mul (suffix_slot s ∷ slots) end before (x ∷ rest) Q (go_on (suffix_behind x.token rest) next)
suffix_behind_dot mul s slots end before x [] Q g next agree k dot = fails mul (suffix_slot s) slots end before (x ∷ []) Q x.token (rw dot refl) refl
suffix_behind_dot mul s slots end before x (y ∷ rest) Q g next agree k dot = suffix_there mul s slots end before x y rest Q g next y.symbol agree k dot refl

suffix_by : {B : Type 0} (mul : Bool) (s : Suffixed) (slots : List Slot) (end : Token) (before : List Placed) (x : Placed) (rest : List Placed) (Q : B → List Mark → Type 0) (g : Option Suffix → List Mark)
    (next : Option Suffix × List Placed → Result B Token) (d : Bool) → [] ≡ g None → ((dot : Token) (n : Option Name) → g (Some (record { dot = dot; name = n })) ≡ marked dot (tells mul s before n))
    → BehindSuffix mul slots end (x ∷ rest) Q g next → is_dot x.symbol ≡ d
    → Chain mul (suffix_slot s ∷ slots) end before (x ∷ rest) Q (go_on (if d then suffix_behind x.token rest else Ok (None, x ∷ rest)) next)
suffix_by mul s slots end before x rest Q g next true none agree k dot = suffix_behind_dot mul s slots end before x rest Q g next agree k dot
suffix_by mul s slots end before x rest Q g next false none agree k dot =
    fill mul (suffix_slot s) slots end before (x ∷ rest) Q 0 (g None) _ (rw dot refl) (rw dot none) (k None [] (x ∷ rest) refl (sym dot))

pub suffix_chain : {B : Type 0} (mul : Bool) (s : Suffixed) (slots : List Slot) (end : Token) (before xs : List Placed) (Q : B → List Mark → Type 0) (g : Option Suffix → List Mark)
    (next : Option Suffix × List Placed → Result B Token) → [] ≡ g None → ((dot : Token) (n : Option Name) → g (Some (record { dot = dot; name = n })) ≡ marked dot (tells mul s before n))
    → BehindSuffix mul slots end xs Q g next → Chain mul (suffix_slot s ∷ slots) end before xs Q (go_on (suffix_at xs) next)
suffix_chain mul s slots end before [] Q g next none agree k = fill mul (suffix_slot s) slots end before [] Q 0 (g None) _ refl none (k None [] [] refl refl)
suffix_chain mul s slots end before (x ∷ rest) Q g next none agree k = suffix_by mul s slots end before x rest Q g next (is_dot x.symbol) none agree k refl

-- commas

comma_by : {B : Type 0} (mul : Bool) (slots : List Slot) (end : Token) (before : List Placed) (x : Placed) (rest : List Placed) (Q : B → List Mark → Type 0) (next : List Placed → Result B Token) (c : Bool)
    → ((mid : List Placed) → Chain mul slots end mid rest Q (next rest)) → is_comma x.symbol ≡ c
    → Chain mul (comma_slot ∷ slots) end before (x ∷ rest) Q (go_on (if c then Ok rest else Err x.token) next)
comma_by mul slots end before x rest Q next true k is = fill mul comma_slot slots end before (x ∷ rest) Q 1 [] _ (rw is refl) refl (k (x ∷ []))
comma_by mul slots end before x rest Q next false k is = fails mul comma_slot slots end before (x ∷ rest) Q x.token (rw is refl) refl

pub comma_chain : {B : Type 0} (mul : Bool) (slots : List Slot) (end : Token) (before xs : List Placed) (Q : B → List Mark → Type 0) (next : List Placed → Result B Token)
    → ((mid rest : List Placed) → Chain mul slots end mid rest Q (next rest)) → Chain mul (comma_slot ∷ slots) end before xs Q (go_on (comma_at end xs) next)
comma_chain mul slots end before [] Q next k = fails mul comma_slot slots end before [] Q end refl refl
comma_chain mul slots end before (x ∷ rest) Q next k = comma_by mul slots end before x rest Q next (is_comma x.symbol) (λ mid. k mid rest) refl

-- targets

pub data CoreOf : Symbol → Core → Type 0 where
  dash : CoreOf symbol.Minus core.Nowhere
  known : {n : Name} → CoreOf (symbol.Name n) (core.Name n)
  other : CoreOf symbol.Unknown core.Unknown

-- what comes behind a target
abbrev pub BehindTarget : {B : Type 0} → Bool → List Slot → Token → (B → List Mark → Type 0) → (Core → Token → List Mark) → (Piece × List Placed → Result B Token) → Type 0
BehindTarget mul slots end Q g next =
    (s : Symbol) (c : Core) (t : Token) (mid rest : List Placed) → CoreOf s c → first_place mid ≡ place_of s → Chain mul slots end mid rest (λ b l. Q b (g c t ++ l)) (next (bare c t, rest))

abbrev pub Agrees : Aim → (Core → Token → List Mark) → Type 0
Agrees a g = (s : Symbol) (c : Core) (t : Token) → CoreOf s c → marked t (aimed a s) ≡ g c t

target_one : {B : Type 0} (mul : Bool) (a : Aim) (slots : List Slot) (end : Token) (before : List Placed) (x : Placed) (rest : List Placed) (Q : B → List Mark → Type 0) (g : Core → Token → List Mark)
    (next : Piece × List Placed → Result B Token) (c : Core) (m : ℕ) (one : Bool) → Agrees a g → BehindTarget mul slots end Q g next → CoreOf x.symbol c → is_name x.symbol ≡ true → (is_minus x.symbol && stops rest) ≡ false
    → length_of (x ∷ rest) ≡ Some m → (m == 1) ≡ one → Chain mul (target_slot a ∷ slots) end before (x ∷ rest) Q (go_on (if one then Ok (bare c x.token, rest) else Err x.token) next)
target_one mul a slots end before x rest Q g next c m true agree k of name nay long one =
    fill mul (target_slot a) slots end before (x ∷ rest) Q 1 (g c x.token) _ (rw (nay, name, long, one) refl) (agree x.symbol c x.token of) (k x.symbol c x.token (x ∷ []) rest of refl)
target_one mul a slots end before x rest Q g next c m false agree k of name nay long one = fails mul (target_slot a) slots end before (x ∷ rest) Q x.token (rw (nay, name, long, one) refl) refl

target_named : {B : Type 0} (mul : Bool) (a : Aim) (slots : List Slot) (end : Token) (before : List Placed) (x : Placed) (rest : List Placed) (Q : B → List Mark → Type 0) (g : Core → Token → List Mark)
    (next : Piece × List Placed → Result B Token) (c : Core) (l : Option ℕ) → Agrees a g → BehindTarget mul slots end Q g next → CoreOf x.symbol c → is_name x.symbol ≡ true → (is_minus x.symbol && stops rest) ≡ false
    → length_of (x ∷ rest) ≡ l → Chain mul (target_slot a ∷ slots) end before (x ∷ rest) Q (go_on (target_of_length x rest (Some c) l) next)
target_named mul a slots end before x rest Q g next c None agree k of name nay long = fails mul (target_slot a) slots end before (x ∷ rest) Q x.token (rw (nay, name, long) refl) refl
target_named mul a slots end before x rest Q g next c (Some m) agree k of name nay long = target_one mul a slots end before x rest Q g next c m (m == 1) agree k of name nay long refl

target_symbol : {B : Type 0} (mul : Bool) (a : Aim) (slots : List Slot) (end : Token) (before : List Placed) (x : Placed) (rest : List Placed) (Q : B → List Mark → Type 0) (g : Core → Token → List Mark)
    (next : Piece × List Placed → Result B Token) (s : Symbol) → Agrees a g → BehindTarget mul slots end Q g next → x.symbol ≡ s → (is_minus x.symbol && stops rest) ≡ false
    → Chain mul (target_slot a ∷ slots) end before (x ∷ rest) Q (go_on (target_of_length x rest (name_alone s) (length_of (x ∷ rest))) next)
target_symbol mul a slots end before x rest Q g next (symbol.Name n) agree k is nay =
    target_named mul a slots end before x rest Q g next (core.Name n) (length_of (x ∷ rest)) agree k (subst (λ z. CoreOf z (core.Name n)) (sym is) known) (rw is refl) nay refl
target_symbol mul a slots end before x rest Q g next symbol.Unknown agree k is nay =
    target_named mul a slots end before x rest Q g next core.Unknown (length_of (x ∷ rest)) agree k (subst (λ z. CoreOf z core.Unknown) (sym is) other) (rw is refl) nay refl
target_symbol mul a slots end before x rest Q g next _ agree k is nay = fails mul (target_slot a) slots end before (x ∷ rest) Q x.token (rw (nay, is) refl) refl

minus_is : (s : Symbol) (b : Bool) → (is_minus s && b) ≡ true → s ≡ symbol.Minus
minus_is symbol.Minus b e = refl
minus_is _ b e = absurd (grind (arith, e))

target_by : {B : Type 0} (mul : Bool) (a : Aim) (slots : List Slot) (end : Token) (before : List Placed) (x : Placed) (rest : List Placed) (Q : B → List Mark → Type 0) (g : Core → Token → List Mark)
    (next : Piece × List Placed → Result B Token) (m : Bool) → Agrees a g → BehindTarget mul slots end Q g next → (is_minus x.symbol && stops rest) ≡ m
    → Chain mul (target_slot a ∷ slots) end before (x ∷ rest) Q (go_on (if m then Ok (bare core.Nowhere x.token, rest) else target_of_length x rest (name_alone x.symbol) (length_of (x ∷ rest))) next)
target_by mul a slots end before x rest Q g next true agree k e =
    let of : CoreOf x.symbol core.Nowhere = subst (λ z. CoreOf z core.Nowhere) (sym (minus_is x.symbol (stops rest) e)) dash in
    fill mul (target_slot a) slots end before (x ∷ rest) Q 1 (g core.Nowhere x.token) _ (rw e refl) (agree x.symbol core.Nowhere x.token of) (k x.symbol core.Nowhere x.token (x ∷ []) rest of refl)
target_by mul a slots end before x rest Q g next false agree k e = target_symbol mul a slots end before x rest Q g next x.symbol agree k refl e

pub target_chain : {B : Type 0} (mul : Bool) (a : Aim) (slots : List Slot) (end : Token) (before xs : List Placed) (Q : B → List Mark → Type 0) (g : Core → Token → List Mark)
    (next : Piece × List Placed → Result B Token) → Agrees a g → BehindTarget mul slots end Q g next → Chain mul (target_slot a ∷ slots) end before xs Q (go_on (target_core end xs) next)
unfolding target_core
target_chain mul a slots end before [] Q g next agree k = fails mul (target_slot a) slots end before [] Q end refl refl
target_chain mul a slots end before (x ∷ rest) Q g next agree k = target_by mul a slots end before x rest Q g next (is_minus x.symbol && stops rest) agree k refl

-- numbers

abbrev pub core_of : Option Symbol → Core
core_of (Some (symbol.Name n)) = core.Name n
core_of (Some (symbol.Number v)) = core.Number (v % 2 ^ 32)
core_of _ = core.Unknown

abbrev pub if_one : ℕ → Symbol → Option Symbol
if_one n s = if n == 1 then Some s else None

pub one_is : (n : ℕ) → (n == 1) ≡ true → n ≡ 1
one_is n e = grind (arith, e)

value_if : (c : Core) (s : Symbol) (x : Placed) (rest : List Placed) (n : ℕ) (one : Bool) → core_of (Some s) ≡ c → (n == 1) ≡ one
    → ◌≡◌ {A = Read Piece} (if one then Ok (bare c x.token, rest) else Ok (bare core.Unknown x.token, drop n (x ∷ rest))) (Ok (bare (core_of (if one then Some s else None)) x.token, drop n (x ∷ rest)))
value_if c s x rest n true is one = rw (is, one_is n one) refl
value_if c s x rest n false is one = refl

value_other : (s : Symbol) (x : Placed) (rest : List Placed) (n : ℕ) (one : Bool) → core_of (Some s) ≡ core.Unknown
    → ◌≡◌ {A = Read Piece} (Ok (bare core.Unknown x.token, drop n (x ∷ rest))) (Ok (bare (core_of (if one then Some s else None)) x.token, drop n (x ∷ rest)))
value_other s x rest n true is = rw is refl
value_other s x rest n false is = refl

pub value_told : (s : Symbol) (x : Placed) (rest : List Placed) (n : ℕ) → value_of_length x rest (alone s) (Some n) ≡ Ok (bare (core_of (if_one n s)) x.token, drop n (x ∷ rest))
value_told (symbol.Name m) x rest n = value_if (core.Name m) (symbol.Name m) x rest n (n == 1) refl refl
value_told symbol.Unknown x rest n = value_if core.Unknown symbol.Unknown x rest n (n == 1) refl refl
value_told (symbol.Number v) x rest n = value_if (core.Number (v % 2 ^ 32)) (symbol.Number v) x rest n (n == 1) refl refl
value_told _ x rest n = value_other _ x rest n (n == 1) refl

pub single_is : (x : Placed) (rest : List Placed) (n : ℕ) → length_of (x ∷ rest) ≡ Some n → single (x ∷ rest) ≡ if_one n x.symbol
single_is x rest n e = rw e refl

-- what comes behind a number
abbrev pub BehindNumber : {B : Type 0} → Bool → List Slot → Token → (B → List Mark → Type 0) → (Core → Token → List Mark) → (Piece × List Placed → Result B Token) → Type 0
BehindNumber mul slots end Q g next = (o : Option Symbol) (t : Token) (mid rest : List Placed) → Chain mul slots end mid rest (λ b l. Q b (g (core_of o) t ++ l)) (next (bare (core_of o) t, rest))

value_by : {B : Type 0} (mul : Bool) (u : Use) (slots : List Slot) (end : Token) (before : List Placed) (x : Placed) (rest : List Placed) (Q : B → List Mark → Type 0) (g : Core → Token → List Mark)
    (next : Piece × List Placed → Result B Token) (l : Option ℕ) → ((o : Option Symbol) (t : Token) → marked t (used u o) ≡ g (core_of o) t) → BehindNumber mul slots end Q g next → length_of (x ∷ rest) ≡ l
    → Chain mul (number_slot u ∷ slots) end before (x ∷ rest) Q (go_on (value_of_length x rest (alone x.symbol) l) next)
value_by mul u slots end before x rest Q g next None agree k long = fails mul (number_slot u) slots end before (x ∷ rest) Q x.token long refl
value_by {B} mul u slots end before x rest Q g next (Some n) agree k long =
    let o : Option Symbol = if_one n x.symbol in
    let P : Result (Piece × List Placed) Token → Type 0 = λ r. Chain mul (number_slot u ∷ slots) end before (x ∷ rest) Q (go_on r next) in
    subst P (sym (value_told x.symbol x rest n))
    (fill mul (number_slot u) slots end before (x ∷ rest) Q n (g (core_of o) x.token) _ long (ap (λ z. marked x.token (used u z)) (single_is x rest n long) ∙ agree o x.token)
    (k o x.token (take n (x ∷ rest)) (drop n (x ∷ rest))))

pub value_chain : {B : Type 0} (mul : Bool) (u : Use) (slots : List Slot) (end : Token) (before xs : List Placed) (Q : B → List Mark → Type 0) (g : Core → Token → List Mark)
    (next : Piece × List Placed → Result B Token) → ((o : Option Symbol) (t : Token) → marked t (used u o) ≡ g (core_of o) t) → BehindNumber mul slots end Q g next
    → Chain mul (number_slot u ∷ slots) end before xs Q (go_on (value_core end xs) next)
unfolding value_core
value_chain mul u slots end before [] Q g next agree k = fails mul (number_slot u) slots end before [] Q end refl refl
value_chain mul u slots end before (x ∷ rest) Q g next agree k = value_by mul u slots end before x rest Q g next (length_of (x ∷ rest)) agree k refl
