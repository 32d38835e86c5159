-- The pieces that symbols spell are read; what they mark is clean, and they mean what is spelled.
use Rattle.std.proofs.Common.{◌≡◌, ℕ, ◌<◌, inl, inr, Bool, true, false, List, [], ◌∷◌, ◌++◌, ◌⊎◌, Option, Some, None, Ok, refl, sym, subst, ap, ◌∙◌, arith}
use Rattle.std.specs.Prelude.{◌&&◌, ◌%◌, nat_lt, is_none, unwrap_or, if◌then◌else◌}
use Rattle.qpu_token.specs.declared.token.Token.{Token}
use Rattle.qpu_word.specs.declared.name.Place.{Place}
use Rattle.qpu_word.specs.declared.name.Place.TheVariants as place
use Rattle.qpu_word.specs.Operands.{small_value}
use Rattle.qpu_line.specs.declared.operand.Operand.{Operand}
use Rattle.qpu_line.specs.declared.operand.Operand.TheVariants as operand
use Rattle.qpu_line.specs.declared.name.Name.{Name}
use Rattle.qpu_line.specs.declared.name.Name.TheVariants as name
use Rattle.qpu_line.specs.declared.name.Register.{Register}
use Rattle.qpu_line.specs.declared.name.Register.TheVariants as register
use Rattle.qpu_line.specs.declared.symbol.Symbol.{Symbol}
use Rattle.qpu_line.specs.declared.symbol.Symbol.TheVariants as symbol
use Rattle.qpu_line.specs.Targets.{is_row_a}
use Rattle.qpu_asm.specs.declared.placed.Placed.{Placed}
use Rattle.qpu_asm.specs.declared.piece.Core.{Core}
use Rattle.qpu_asm.specs.declared.piece.Core.TheVariants as core
use Rattle.qpu_asm.specs.declared.piece.Suffix.{Suffix}
use Rattle.qpu_asm.specs.declared.piece.Piece.{Piece}
use Rattle.qpu_asm.specs.declared.part.Suffixes.{Suffixes}
use Rattle.qpu_asm.specs.declared.mark.What.TheVariants as what
use Rattle.qpu_asm.specs.declared.mark.Mark.{Mark}
use Rattle.qpu_asm.specs.reader.Pieces.{alone, bare, value_of_length, target_core, value_core, operand_core, suffix_at, operand_at}
use Rattle.qpu_asm.specs.Signs.{length_of, has_dot}
use Rattle.qpu_asm.specs.reader.Parts.{suffixes_at}
use Rattle.qpu_asm.specs.Roles.{source_of, pack_of, unpack_of}
use Rattle.qpu_asm.specs.reader.Marks.{mark, suffix_marks, target_place, fixed, pack_marks, unpack_marks, source_marks, number_marks, operand_marks}
use Rattle.qpu_asm.specs.Roles.{code_of}
use Rattle.qpu_asm.specs.reader.Meanings.{sets_in, pack_in, unpack_in, with_unpack, operand_of, condition_at}
use Rattle.qpu_asm.specs.SpelledPieces.{dotted, SpellsNumber, SpellsTarget, SpellsCondition, SpellsFlags, SpellsPack, SpellsOperand, is_nowhere}
use Rattle.qpu_asm.specs.SpelledPieces.SpellsNumber.{number}
use Rattle.qpu_asm.specs.SpelledPieces.SpellsTarget.{nowhere, named as target_named}
use Rattle.qpu_asm.specs.SpelledPieces.SpellsCondition.{always, given, dropped}
use Rattle.qpu_asm.specs.SpelledPieces.SpellsFlags.{kept, set}
use Rattle.qpu_asm.specs.SpelledPieces.SpellsPack.{whole as pack_whole, packed}
use Rattle.qpu_asm.specs.SpelledPieces.SpellsOperand.{named as operand_named, unpacked, small}
use Rattle.qpu_asm.proofs.SmallLemmas.{code_found}
use Rattle.qpu_asm.proofs.AgainSpelled.{Spelled}
use Rattle.qpu_asm.proofs.AgainPieces.{Ends, Stops, NoDot, ends_stops, ends_no_dot, number_length, target_name, target_nowhere, operand_name, operand_number_step, no_suffix_at, suffixed, suffix_there, Suffixed, SaysSuffixes, two_suffixes, suffix_behind_operand}
use Rattle.qpu_asm.proofs.AgainMarks.{Given, Clean, clean_mark, clean_if}
use Rattle.qpu_asm.proofs.AgainSources.{Holds}
use Rattle.qpu_asm.proofs.SpellsPieces.{no_mode}

-- what stands behind a piece

pub comma_front : (x : List Symbol) (xs rest : List Placed) → Spelled (symbol.Comma ∷ x) xs rest → Ends xs
comma_front x [] rest h = tt
comma_front x (y ∷ xs) rest h = h.0

pub nothing_front : (xs : List Placed) → xs ≡ [] → Ends xs
nothing_front [] e = tt
nothing_front (x ∷ xs) e = cc

moved_ends : (xs mid : List Placed) → xs ≡ mid → Ends mid → Ends xs
moved_ends xs mid e h = subst Ends (sym e) h

moved_stops : (xs mid : List Placed) → xs ≡ mid → Stops mid → Stops xs
moved_stops xs mid e h = subst Stops (sym e) h

moved_calm : (xs mid : List Placed) → xs ≡ mid → NoDot mid → NoDot xs
moved_calm xs mid e h = subst NoDot (sym e) h

-- suffixes

abbrev pub opt : Option Name → List Symbol
opt None = []
opt (Some n) = dotted n

pub opt_read : (o : Option Name) (xs mid : List Placed) → Spelled (opt o) xs mid → NoDot mid → (s : Option Suffix) × (suffix_at xs ≡ Ok (s, mid)) × Suffixed o s
opt_read None xs mid h calm = (None, rw h (no_suffix_at mid calm), refl)
opt_read (Some n) [] mid h calm = absurd h
opt_read (Some n) (x ∷ []) mid h calm = absurd h.1
opt_read (Some n) (x ∷ y ∷ rest) mid h calm =
    (suffixed x.token n, suffix_there x y rest n h.0 h.1.0 ∙ ap (λ (z : List Placed). Ok (suffixed x.token n, z)) h.1.1, (x.token, refl))

pub opt_stops : (o : Option Name) (xs mid : List Placed) → Spelled (opt o) xs mid → Ends mid → Stops xs
opt_stops None xs mid h ends = moved_stops xs mid h (ends_stops mid ends)
opt_stops (Some n) [] mid h ends = tt
opt_stops (Some n) (x ∷ xs) mid h ends = inr h.0

-- the suffixes of a mnemonic

abbrev pub flag_symbols : Bool → List Symbol
flag_symbols false = []
flag_symbols true = dotted name.SetFlags

two_read : (s : Suffixes) (xs rest mid : List Placed) → suffixes_at xs ≡ Ok (s, rest) → rest ≡ mid → suffixes_at xs ≡ Ok (s, mid)
two_read s xs rest mid e f = e ∙ ap (λ (z : List Placed). Ok (s, z)) f

pub suffixes_read : (o : Option Name) (sets : Bool) (xs mid : List Placed) → Spelled (opt o ++ flag_symbols sets) xs mid → NoDot mid
    → (s : Suffixes) × (suffixes_at xs ≡ Ok (s, mid)) × SaysSuffixes o sets s
suffixes_read None false xs mid h calm =
    let e = no_suffix_at xs (moved_calm xs mid h calm) in
    (record { first = None; second = None }, two_read _ xs xs mid (two_suffixes xs xs xs None None e e) h, refl)
suffixes_read None true [] mid h calm = absurd h
suffixes_read None true (x ∷ []) mid h calm = absurd h.1
suffixes_read None true (x ∷ y ∷ r) mid h calm =
    let e = suffix_there x y r name.SetFlags h.0 h.1.0 in
    let f = no_suffix_at r (moved_calm r mid h.1.1 calm) in
    (record { first = suffixed x.token name.SetFlags; second = None }, two_read _ (x ∷ y ∷ r) r mid (two_suffixes (x ∷ y ∷ r) r r _ None e f) h.1.1, (x.token, refl))
suffixes_read (Some n) false [] mid h calm = absurd h
suffixes_read (Some n) false (x ∷ []) mid h calm = absurd h.1
suffixes_read (Some n) false (x ∷ y ∷ r) mid h calm =
    let e = suffix_there x y r n h.0 h.1.0 in
    let f = no_suffix_at r (moved_calm r mid h.1.1 calm) in
    (record { first = suffixed x.token n; second = None }, two_read _ (x ∷ y ∷ r) r mid (two_suffixes (x ∷ y ∷ r) r r _ None e f) h.1.1, (x.token, refl))
suffixes_read (Some n) true [] mid h calm = absurd h
suffixes_read (Some n) true (x ∷ []) mid h calm = absurd h.1
suffixes_read (Some n) true (x ∷ y ∷ []) mid h calm = absurd h.1.1
suffixes_read (Some n) true (x ∷ y ∷ z ∷ []) mid h calm = absurd h.1.1.1
suffixes_read (Some n) true (x ∷ y ∷ z ∷ w ∷ r) mid h calm =
    let e = suffix_there x y (z ∷ w ∷ r) n h.0 h.1.0 in
    let f = suffix_there z w r name.SetFlags h.1.1.0 h.1.1.1.0 in (
      record { first = suffixed x.token n; second = suffixed z.token name.SetFlags },
      two_read _ (x ∷ y ∷ z ∷ w ∷ r) r mid (two_suffixes (x ∷ y ∷ z ∷ w ∷ r) (z ∷ w ∷ r) r _ _ e f) h.1.1.1.1,
      (x.token, z.token, refl),
    )

pub flags_are : (f : List Symbol) (sets : Bool) → SpellsFlags f sets → f ≡ flag_symbols sets
flags_are f sets kept = refl
flags_are f sets set = refl

-- a condition or none
abbrev pub IsCondition : Option Name → Type 0
IsCondition None = Unit {0}
IsCondition (Some (name.Condition n)) = Unit {0}
IsCondition _ = ⊥

pub record ConditionSaid (c : List Symbol) (to : Place) (cond : ℕ) : Type 0 where
  pub o : Option Name
  pub is : c ≡ opt o
  pub named : IsCondition o
  pub gives : (sets : Bool) (s : Suffixes) → SaysSuffixes o sets s → condition_at to s.first ≡ cond
  pub alone : (s : Option Suffix) → Suffixed o s → condition_at to s ≡ cond

one_by : (b : Bool) → ◌≡◌ {A = ℕ} (if b then 1 else 1) 1
one_by true = refl
one_by false = refl

always_first : (to : Place) (sets : Bool) (s : Suffixes) → SaysSuffixes None sets s → condition_at to s.first ≡ 1
always_first to false s h = rw h (one_by (is_nowhere to))
always_first to true s h = rw h.1 (one_by (is_nowhere to))

always_alone : (to : Place) (s : Option Suffix) → Suffixed None s → condition_at to s ≡ 1
always_alone to s h = rw h (one_by (is_nowhere to))

given_first : (to : Place) (n cond : ℕ) (sets : Bool) (s : Suffixes) → (if is_nowhere to then 1 else n) ≡ cond → SaysSuffixes (Some (name.Condition n)) sets s → condition_at to s.first ≡ cond
given_first to n cond false s e h = rw h.1 e
given_first to n cond true s e h = rw h.2 e

given_alone : (to : Place) (n cond : ℕ) (s : Option Suffix) → (if is_nowhere to then 1 else n) ≡ cond → Suffixed (Some (name.Condition n)) s → condition_at to s ≡ cond
given_alone to n cond s e h = rw h.1 e

chosen : (b c : Bool) (n m : ℕ) → b ≡ c → (if b then n else m) ≡ (if c then n else m)
chosen b c n m e = rw e refl

pub condition_said : (c : List Symbol) (to : Place) (cond : ℕ) → SpellsCondition c to cond → ConditionSaid c to cond
condition_said c to cond always = record { o = None; is = refl; named = tt; gives = always_first to; alone = always_alone to }
condition_said c to cond (given e) =
    let f = chosen (is_nowhere to) false 1 cond e in
    record { o = Some (name.Condition cond); is = refl; named = tt; gives = λ sets s h. given_first to cond cond sets s f h; alone = λ s h. given_alone to cond cond s f h }
condition_said c to cond (dropped {cond = n} e) =
    let f = chosen (is_nowhere to) true 1 n e in
    record { o = Some (name.Condition n); is = refl; named = tt; gives = λ sets s h. given_first to n 1 sets s f h; alone = λ s h. given_alone to n 1 s f h }

pub sets_said : (o : Option Name) (sets : Bool) (s : Suffixes) → IsCondition o → SaysSuffixes o sets s → sets_in s ≡ sets
sets_said None false s c h = rw h refl
sets_said None true s c h = rw h.1 refl
sets_said (Some (name.Condition n)) false s c h = rw h.1 refl
sets_said (Some (name.Condition n)) true s c h = rw h.2 refl
sets_said (Some _) sets s c h = absurd c

pub suffixes_clean : (W : Place → Type 0) (g : Given) (mul : Bool) (o : Option Name) (sets : Bool) (s : Suffixes) (ms : List Mark) → IsCondition o → (mul ≡ true → sets ≡ true → g.adds ≡ false)
    → SaysSuffixes o sets s → Clean W g ms → Clean W g (suffix_marks mul s ms)
unfolding suffix_marks
suffixes_clean W g mul None false s ms n fits h c = rw h c
suffixes_clean W g mul None true s ms n fits h c = rw h.1 (clean_if W g mul what.MulSets h.0 ms (λ is. fits is refl) c)
suffixes_clean W g mul (Some (name.Condition k)) false s ms n fits h c = rw h.1 c
suffixes_clean W g mul (Some (name.Condition k)) true s ms n fits h c = rw h.2 (clean_if W g mul what.MulSets h.1 ms (λ is. fits is refl) c)
suffixes_clean W g mul (Some _) sets s ms n fits h c = absurd n

-- targets

pub record TargetRead (end : Token) (to : Place) (xs mid : List Placed) : Type 0 where
  pub c : Core
  pub token : Token
  pub read : target_core end xs ≡ Ok (bare c token, mid)
  pub place : target_place c ≡ Some to

pub target_read : (end : Token) (t : List Symbol) (to : Place) (xs mid : List Placed) → SpellsTarget t to → Spelled t xs mid → Stops mid → TargetRead end to xs mid
target_read end t to [] mid nowhere h stop = absurd h
target_read end t to (x ∷ rest) mid nowhere h stop = record {
  c = core.Nowhere;
  token = x.token;
  read = target_nowhere end x rest h.0 (moved_stops rest mid h.1 stop) ∙ ap (λ (z : List Placed). Ok (bare core.Nowhere x.token, z)) h.1;
  place = refl;
}
target_read end t to [] mid (target_named {n = n} e) h stop = absurd h
target_read end t to (x ∷ rest) mid (target_named {n = n} e) h stop = record {
  c = core.Name n;
  token = x.token;
  read = target_name end x rest n h.0 (moved_stops rest mid h.1 stop) ∙ ap (λ (z : List Placed). Ok (bare (core.Name n) x.token, z)) h.1;
  place = e;
}

pub target_calm : (t : List Symbol) (to : Place) (xs mid : List Placed) → SpellsTarget t to → Spelled t xs mid → NoDot xs
target_calm t to [] mid s h = tt
target_calm t to (x ∷ rest) mid nowhere h = rw h.0 refl
target_calm t to (x ∷ rest) mid (target_named e) h = rw h.0 refl

-- packs

pub record PackSaid (k : List Symbol) (to : Place) (mode : ℕ) : Type 0 where
  pub o : Option Name
  pub is : k ≡ opt o
  pub gives : (s : Option Suffix) → Suffixed o s → pack_in s ≡ mode
  pub marks : (s : Option Suffix) (ms : List Mark) → Suffixed o s → pack_marks (Some to) s ms ≡ ms

pack_gives : (n : Name) (mode : ℕ) (s : Option Suffix) → pack_of n ≡ Some mode → Suffixed (Some n) s → pack_in s ≡ mode
pack_gives n mode s e h = rw (h.1, e) refl

pack_marked : (n : Name) (to : Place) (mode : ℕ) (s : Option Suffix) (ms : List Mark) → is_row_a to ≡ true → pack_of n ≡ Some mode → Suffixed (Some n) s → pack_marks (Some to) s ms ≡ ms
pack_marked n to mode s ms row e h = rw (h.1, row, e) refl

no_pack : (s : Option Suffix) → Suffixed None s → pack_in s ≡ 0
no_pack s h = rw h refl

no_pack_marks : (to : Place) (s : Option Suffix) (ms : List Mark) → Suffixed None s → pack_marks (Some to) s ms ≡ ms
no_pack_marks to s ms h = rw h refl

pub pack_said : (k : List Symbol) (to : Place) (mode : ℕ) → SpellsPack k to mode → PackSaid k to mode
pack_said k to mode pack_whole = record { o = None; is = refl; gives = no_pack; marks = no_pack_marks to }
pack_said k to mode (packed {n = n} row e) = record { o = Some n; is = refl; gives = λ s h. pack_gives n mode s e h; marks = λ s ms h. pack_marked n to mode s ms row e h }

-- numbers

number_any_step : (x : Placed) (rest : List Placed) (s : Symbol) (l : Option ℕ) (n : ℕ) → s ≡ symbol.Number n → l ≡ Some 1
    → value_of_length x rest (alone s) l ≡ Ok (bare (core.Number (n % 4294967296)) x.token, rest)
number_any_step x rest s l n e f = rw (e, f) refl

number_any : (end : Token) (x : Placed) (rest : List Placed) (n : ℕ) → x.symbol ≡ symbol.Number n → Stops rest → value_core end (x ∷ rest) ≡ Ok (bare (core.Number (n % 4294967296)) x.token, rest)
unfolding value_core
number_any end x rest n e h = number_any_step x rest x.symbol (length_of (x ∷ rest)) n e (number_length x rest n e h)

pub number_read : (end : Token) (x : List Symbol) (v : ℕ) (xs mid : List Placed) → SpellsNumber x v → Spelled x xs mid → Stops mid
    → (t : Token) × (value_core end xs ≡ Ok (bare (core.Number v) t, mid))
number_read end x v [] mid (number {v = w}) h stop = absurd h
number_read end x v (y ∷ rest) mid (number {v = w}) h stop =
    (y.token, number_any end y rest w h.0 (moved_stops rest mid h.1 stop) ∙ ap (λ (z : List Placed). Ok (bare (core.Number (w % 4294967296)) y.token, z)) h.1)

operand_any : (end : Token) (x : Placed) (rest : List Placed) (n : ℕ) → x.symbol ≡ symbol.Number n → Stops rest → operand_core end (x ∷ rest) ≡ Ok (bare (core.Number (n % 4294967296)) x.token, rest)
unfolding operand_core
operand_any end x rest n e h =
    operand_number_step x.symbol (has_dot rest) (Ok (bare core.Nowhere x.token, rest)) (value_core end (x ∷ rest)) n e ∙ number_any end x rest n e h

-- operands

abbrev pub UnpackSays : ℕ → ℕ → Option Suffix → Type 0
UnpackSays row mode s = ((s ≡ None) × (mode ≡ 0)) ⊎ ((dot : Token) × (m : Name) × (s ≡ suffixed dot m) × (nat_lt row 32 ≡ true) × (unpack_of m ≡ Some mode))

abbrev pub OperandSays : Operand → Piece → Type 0
OperandSays (operand.Accumulator n) p = (m : Name) × (t : Token) × (p ≡ record { core = core.Name m; token = t; suffix = None }) × (source_of m ≡ Some (operand.Accumulator n))
OperandSays (operand.FileA n u) p =
    (m : Name) × (t : Token) × (s : Option Suffix) × (p ≡ record { core = core.Name m; token = t; suffix = s }) × (source_of m ≡ Some (operand.FileA n 0)) × UnpackSays n u s
OperandSays (operand.FileB n) p = (m : Name) × (t : Token) × (p ≡ record { core = core.Name m; token = t; suffix = None }) × (source_of m ≡ Some (operand.FileB n))
OperandSays (operand.Small code) p = (t : Token) × (p ≡ record { core = core.Number (small_value code); token = t; suffix = None }) × (code < 48)

no_small : (r : Register) (code : ℕ) → source_of (name.Register r) ≡ Some (operand.Small code) → ⊥
no_small (register.Accumulator n) code e = cc
no_small (register.RowA n) code e = cc
no_small (register.RowB n) code e = cc
no_small register.Vpm code e = cc
no_small (register.Source (place.FileA n)) code e = cc
no_small (register.Source (place.FileB n)) code e = cc
no_small (register.Source (place.Both n)) code e = cc
no_small (register.Target p) code e = cc

never_small : (n : Name) (code : ℕ) → source_of n ≡ Some (operand.Small code) → ⊥
never_small (name.Register r) code e = no_small r code e
never_small _ code e = grind (arith, e)

zero_mode : (n : Name) (row mode : ℕ) → source_of n ≡ Some (operand.FileA row mode) → mode ≡ 0
zero_mode n row mode e = same mode (sym e ∙ no_mode n row mode e)
  where
    same : (mode : ℕ) → Some (operand.FileA row mode) ≡ Some (operand.FileA row 0) → mode ≡ 0
    same mode f = cc

named_says : (n : Name) (t : Token) (o : Operand) → source_of n ≡ Some o → OperandSays o (record { core = core.Name n; token = t; suffix = None })
named_says n t (operand.Accumulator k) e = (n, t, refl, e)
named_says n t (operand.FileA row mode) e = (n, t, None, refl, no_mode n row mode e, inl (refl, zero_mode n row mode e))
named_says n t (operand.FileB k) e = (n, t, refl, e)
named_says n t (operand.Small code) e = absurd (never_small n code e)

name_read : (end : Token) (n : Name) (x : Placed) (rest mid : List Placed) (o : Option Name) → x.symbol ≡ symbol.Name n → Spelled (opt o) rest mid → Ends mid
    → (s : Option Suffix) × (operand_at end (x ∷ rest) ≡ Ok (record { core = core.Name n; token = x.token; suffix = s }, mid)) × Suffixed o s
name_read end n x rest mid o e h ends =
    let r = opt_read o rest mid h (ends_no_dot mid ends) in
    (r.0, suffix_behind_operand end (x ∷ rest) rest mid (core.Name n) x.token r.0 (operand_name end x rest n e (opt_stops o rest mid h ends)) r.1, r.2)

pub operand_read : (end : Token) (x : List Symbol) (o : Operand) (xs mid : List Placed) → SpellsOperand x o → Spelled x xs mid → Ends mid
    → (p : Piece) × (operand_at end xs ≡ Ok (p, mid)) × OperandSays o p
operand_read end x o [] mid (operand_named {n = n} e) h ends = absurd h
operand_read end x o (y ∷ rest) mid (operand_named {n = n} e) h ends =
    let r = name_read end n y rest mid None h.0 h.1 ends in
    let P : Option Suffix → Type 0 = λ z. operand_at end (y ∷ rest) ≡ Ok (record { core = core.Name n; token = y.token; suffix = z }, mid) in
    (record { core = core.Name n; token = y.token; suffix = None }, subst P r.2 r.1, named_says n y.token o e)
operand_read end x o [] mid (unpacked {n = n} {m = m} e low is) h ends = absurd h
operand_read end x o (y ∷ rest) mid (unpacked {n = n} {m = m} e low is) h ends =
    let r = name_read end n y rest mid (Some m) h.0 h.1 ends in
    (record { core = core.Name n; token = y.token; suffix = r.0 }, r.1, (n, y.token, r.0, refl, e, inr (r.2.0, m, r.2.1, low, is)))
operand_read end x o xs mid (small {code = code} low is) h ends = by_number x (small_value code) xs is h
  where
    by_number : (x : List Symbol) (v : ℕ) (xs : List Placed) → SpellsNumber x v → Spelled x xs mid → (p : Piece) × (operand_at end xs ≡ Ok (p, mid)) × ((t : Token) × (p ≡ record { core = core.Number v; token = t; suffix = None }) × (code < 48))
    by_number x v [] (number {v = w}) h = absurd h
    by_number x v (y ∷ rest) (number {v = w}) h =
        let calm = no_suffix_at rest (ends_no_dot rest (moved_ends rest mid h.1 ends)) in
        let read = suffix_behind_operand end (y ∷ rest) rest rest (core.Number (w % 4294967296)) y.token None (operand_any end y rest w h.0 (ends_stops rest (moved_ends rest mid h.1 ends))) calm in (
          record { core = core.Number (w % 4294967296); token = y.token; suffix = None },
          read ∙ ap (λ (z : List Placed). Ok (record { core = core.Number (w % 4294967296); token = y.token; suffix = None }, z)) h.1,
          (y.token, refl, low),
        )

-- what operands mark

unpack_clean : (W : Place → Type 0) (g : Given) (n u : ℕ) (p : Piece) (s : Option Suffix) (ms : List Mark) → g.unpack ≡ u → UnpackSays n u s → Clean W g ms → Clean W g (unpack_marks n p s ms)
unpack_clean W g n u p s ms is (inl (none, zero)) c = rw none (clean_mark W g (what.Unpacks n 0) p.token ms (is ∙ zero) c)
unpack_clean W g n u p s ms is (inr (dot, m, e, low, mode)) c = rw (e, low, mode) (clean_mark W g (what.Unpacks n u) dot ms is c)

none_there : (o : Option ℕ) (n : ℕ) → o ≡ Some n → is_none o ≡ false
none_there o n e = rw e refl

number_clean : (W : Place → Type 0) (g : Given) (code : ℕ) (t : Token) (ms : List Mark) → g.b ≡ code → g.small ≡ true → code < 48 → g.turns ≡ false → Clean W g ms
    → Clean W g (number_marks (record { core = core.Number (small_value code); token = t; suffix = None }) (small_value code) ms)
number_clean W g code t ms is holds near still c =
    let there : is_none (code_of (small_value code)) ≡ false = none_there (code_of (small_value code)) code (code_found (small_value code) code near refl) in
    rw there (clean_mark W g (what.Number (small_value code)) t ms (holds, ap small_value is, still) c)

pub operand_clean : (W : Place → Type 0) (g : Given) (mul : Bool) (o : Operand) (p : Piece) (ms : List Mark) → OperandSays o p → Holds g mul o → Clean W g ms → Clean W g (operand_marks mul p ms)
unfolding operand_marks
operand_clean W g mul (operand.Accumulator n) p ms says h c =
    let q : Piece = record { core = core.Name says.0; token = says.1; suffix = None } in
    subst (λ (q : Piece). Clean W g (operand_marks mul q ms)) (sym says.2)
    (subst (λ (o : Option Operand). Clean W g (source_marks mul q o ms)) (sym says.3) (clean_if W g (mul && nat_lt 3 n) what.Fixed says.1 ms h c))
operand_clean W g mul (operand.FileA n u) p ms says h c =
    let q : Piece = record { core = core.Name says.0; token = says.1; suffix = says.2 } in
    let read = clean_mark W g (what.ReadsA n) says.1 ms h.0 c in
    let kept = clean_if W g mul what.Fixed says.1 (mark (what.ReadsA n) says.1 ms) h.3 read in
    let whole = unpack_clean W g n u q says.2 (fixed mul says.1 (mark (what.ReadsA n) says.1 ms)) h.1 says.5 kept in
    subst (λ (q : Piece). Clean W g (operand_marks mul q ms)) (sym says.3) (subst (λ (o : Option Operand). Clean W g (source_marks mul q o ms)) (sym says.4) whole)
operand_clean W g mul (operand.FileB n) p ms says h c =
    let q : Piece = record { core = core.Name says.0; token = says.1; suffix = None } in
    let read = clean_mark W g (what.ReadsB n) says.1 ms (h.0, h.1) c in
    let whole = clean_if W g mul what.Fixed says.1 (mark (what.ReadsB n) says.1 ms) h.2 read in
    subst (λ (q : Piece). Clean W g (operand_marks mul q ms)) (sym says.2) (subst (λ (o : Option Operand). Clean W g (source_marks mul q o ms)) (sym says.3) whole)
operand_clean W g mul (operand.Small code) p ms says h c =
    subst (λ (q : Piece). Clean W g (operand_marks mul q ms)) (sym says.1) (number_clean W g code says.0 ms h.0 h.1 h.2 h.3 c)

-- what operands mean

file_a_means : (m : Name) (s : Option Suffix) (n u : ℕ) → source_of m ≡ Some (operand.FileA n 0) → UnpackSays n u s → with_unpack (unpack_in s) (unwrap_or (source_of m) (operand.Accumulator 0)) ≡ operand.FileA n u
file_a_means m s n u e (inl (none, zero)) = rw (none, e, zero) refl
file_a_means m s n u e (inr (dot, w, f, low, mode)) = rw (f, e, mode) refl

file_b_means : (m : Name) (o : Operand) (n : ℕ) → source_of m ≡ Some (operand.FileB n) → with_unpack 0 (unwrap_or (source_of m) (operand.Accumulator 0)) ≡ operand.FileB n
file_b_means m o n e = rw e refl

accumulator_means : (m : Name) (n : ℕ) → source_of m ≡ Some (operand.Accumulator n) → with_unpack 0 (unwrap_or (source_of m) (operand.Accumulator 0)) ≡ operand.Accumulator n
accumulator_means m n e = rw e refl

small_means : (o : Option ℕ) (code : ℕ) → o ≡ Some code → with_unpack 0 (operand.Small (unwrap_or o 0)) ≡ operand.Small code
small_means o code e = rw e refl

pub operand_means : (o : Operand) (p : Piece) → OperandSays o p → operand_of p ≡ o
operand_means (operand.Accumulator n) p says = ap operand_of says.2 ∙ accumulator_means says.0 n says.3
operand_means (operand.FileA n u) p says = ap operand_of says.3 ∙ file_a_means says.0 says.2 n u says.4 says.5
operand_means (operand.FileB n) p says = ap operand_of says.2 ∙ file_b_means says.0 (operand.FileB n) n says.3
operand_means (operand.Small code) p says = ap operand_of says.1 ∙ small_means (code_of (small_value code)) code (code_found (small_value code) code says.2 refl)
