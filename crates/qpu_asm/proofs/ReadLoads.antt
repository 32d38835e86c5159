-- Lines whose symbols spell a load or a semaphore's step are read as it.
use Rattle.std.proofs.Common.{◌≡◌, ℕ, ◌<◌, Bool, true, false, List, [], ◌∷◌, ◌++◌, fold, Option, Some, None, Ok, refl, sym, subst, ap, ◌∙◌, append_assoc, arith}
use Rattle.std.specs.Prelude.{if◌then◌else◌}
use Rattle.qpu_token.specs.declared.token.Token.{Token}
use Rattle.qpu_word.specs.declared.name.Place.{Place}
use Rattle.qpu_word.specs.declared.name.Place.TheVariants as place
use Rattle.qpu_line.specs.declared.load.LoadKind.{LoadKind}
use Rattle.qpu_line.specs.declared.load.Load.{Load}
use Rattle.qpu_line.specs.declared.load.Write.{Write}
use Rattle.qpu_line.specs.declared.semaphore.Semaphore.{Semaphore}
use Rattle.qpu_line.specs.declared.instruction.Instruction.TheVariants as instruction
use Rattle.qpu_line.specs.declared.name.Name.{Name}
use Rattle.qpu_line.specs.declared.name.Name.TheVariants as name
use Rattle.qpu_line.specs.declared.symbol.Symbol.{Symbol}
use Rattle.qpu_line.specs.declared.symbol.Symbol.TheVariants as symbol
use Rattle.qpu_line.specs.Loads.{write_target}
use Rattle.qpu_line.specs.Worded.{IsSemaphore, IsLoad, is_exchanged_load}
use Rattle.qpu_asm.specs.declared.placed.Placed.{Placed}
use Rattle.qpu_asm.specs.declared.piece.Core.{Core}
use Rattle.qpu_asm.specs.declared.piece.Core.TheVariants as core
use Rattle.qpu_asm.specs.declared.piece.Suffix.{Suffix}
use Rattle.qpu_asm.specs.declared.part.AlsoPart.{AlsoPart}
use Rattle.qpu_asm.specs.declared.part.LoadPart.{LoadPart}
use Rattle.qpu_asm.specs.declared.part.Part.{Part}
use Rattle.qpu_asm.specs.declared.part.Part.TheVariants as part
use Rattle.qpu_asm.specs.declared.mark.Mark.{Mark}
use Rattle.qpu_asm.specs.declared.line.Line.TheVariants.{Says}
use Rattle.qpu_asm.specs.Roles.{target_meant}
use Rattle.qpu_asm.specs.reader.Pieces.{bare, target_core}
use Rattle.qpu_asm.specs.SectionTokens.{SectionTokens}
use Rattle.qpu_asm.specs.reader.Marks.{suffix_marks, condition_marks, target_place, place_mark, somewhere, load_marks, also_marks, part_marks}
use Rattle.qpu_asm.specs.Clashes.{cross}
use Rattle.qpu_asm.specs.reader.Meanings.{sets_in, place_of, number_of, condition_at, write_in, also_in, load_of_part, meaning}
use Rattle.qpu_asm.specs.Laws.{symbols_of}
use Rattle.qpu_asm.specs.reader.LinesRead.{read_line}
use Rattle.qpu_asm.specs.SpelledPieces.{name_alone, SpellsNumber, SpellsTarget, is_nowhere, SpellsCondition, SpellsFlags, written}
use Rattle.qpu_asm.specs.Spells.{SpellsAlso, SpellsLoad, SpellsSemaphore, behind_first, joined}
use Rattle.qpu_asm.specs.Spells.SpellsAlso.{absent, also}
use Rattle.qpu_asm.specs.Spells.SpellsLoad.{load}
use Rattle.qpu_asm.specs.Spells.SpellsSemaphore.{increment, decrement}
use Rattle.qpu_asm.proofs.AgainSpelled.{Spelled, spelled_append, spelled_map, never}
use Rattle.qpu_asm.proofs.AgainPieces.{place_by, NoDot, ends_stops, target_name, Suffixed, SaysSuffixes}
use Rattle.qpu_asm.proofs.AgainSections.{Plain, AllPlain, AllBegin, plain_append, section_after, AreSections, Reads, IsLine, line_read}
use Rattle.qpu_asm.proofs.AgainForms.{due_first, due_behind}
use Rattle.qpu_asm.proofs.AgainMarks.{Given, nothing_given, Clean, clean_start, clean_first, clean_second, NoTarget, AnyTarget, Only, no_fault, marks_are}
use Rattle.qpu_asm.proofs.AgainHeld.{no_cross}
use Rattle.qpu_asm.proofs.AgainLoads.{load_step, also_step, also_part_by, load_part_by, same_load, value_marks, place_marked}
use Rattle.qpu_asm.proofs.AgainSemaphores.{step_part, step_by, step_begins, step_mnemonic, step_fault, step_says}
use Rattle.qpu_asm.proofs.SpellsPieces.{written_same}
use Rattle.qpu_asm.proofs.ReadNames.{AreThere, PartsThere, there_left, there_right, named_there, target_there}
use Rattle.qpu_asm.proofs.ReadPieces.{comma_front, nothing_front, opt, opt_read, suffixes_read, flag_symbols, flags_are, IsCondition, ConditionSaid, condition_said, sets_said, suffixes_clean, TargetRead, target_read, target_calm, number_read}
use Rattle.qpu_asm.proofs.ReadOthers.{section_plain}
use Rattle.qpu_asm.proofs.ReadParts.{IsSection, section_read, opt_plain, flags_plain, target_plain, number_plain, comma_read, last_number}

-- semaphores

abbrev IsStep : Bool → ℕ → Part → Type 0
IsStep down n p = (t : Token) × (p ≡ step_part down (bare (core.Number n) t))

semaphore_section : (down : Bool) (x : List Symbol) (n : ℕ) (t : SectionTokens) → SpellsNumber x n → Spelled (symbol.Name (if down then name.Decrement else name.Increment) ∷ x) t.tokens []
    → (p : Part) × Reads [] (t ∷ []) (p ∷ []) × IsStep down n p
semaphore_section down x n t spells h =
    let m : Name = if down then name.Decrement else name.Increment in
    let r = section_after (IsStep down n) [] t.end m x t.tokens h (due_first m (step_begins down))
    (λ token rest g.
    let v = last_number t.end x n rest spells g in
    (step_part down (bare (core.Number n) v.0), step_by down token t.end rest (bare (core.Number n) v.0) v.1, (v.0, refl))) in
    (r.0, (r.1, tt), r.2)

step_line : (at : ℕ) (down : Bool) (x : List Symbol) (n : ℕ) (ts : List SectionTokens) → n < 16 → SpellsNumber x n → AreSections ((symbol.Name (if down then name.Decrement else name.Increment) ∷ x) ∷ []) ts
    → IsLine at (instruction.Semaphore (record { down = down; number = n })) ts
step_line at down x n [] near spells are = absurd are
step_line at down x n (t ∷ u ∷ ts) near spells are = absurd are.1
step_line at down x n (t ∷ []) near spells are =
    let r = semaphore_section down x n t spells are.0 in
    record { first = r.0; later = []; reads = r.1; clean = rw r.2.1 (step_fault down n r.2.0 near); says = rw r.2.1 (step_says at down n r.2.0) }

plain_end : (x : List Symbol) (xs : List Placed) → symbols_of xs ≡ joined (x ∷ []) → Spelled (x ++ behind_first []) xs []
plain_end x xs e = spelled_map xs (x ++ behind_first []) e

step_read : (at : ℕ) (end : Token) (down : Bool) (x : List Symbol) (n : ℕ) (xs : List Placed) → n < 16 → SpellsNumber x n
    → symbols_of xs ≡ joined ((symbol.Name (if down then name.Decrement else name.Increment) ∷ x) ∷ []) → read_line at end xs ≡ Ok (Says (instruction.Semaphore (record { down = down; number = n })))
step_read at end down x n xs near spells e =
    line_read at end (if down then name.Decrement else name.Increment) x [] xs _ (number_plain x n spells) tt (step_mnemonic down) tt (plain_end (symbol.Name (if down then name.Decrement else name.Increment) ∷ x) xs e) (λ ts are. step_line at down x n ts near spells are)

pub semaphore_read : (at : ℕ) (end : Token) (parts : List (List Symbol)) (s : Semaphore) (xs : List Placed) → SpellsSemaphore parts s → IsSemaphore s → symbols_of xs ≡ joined parts
    → read_line at end xs ≡ Ok (Says (instruction.Semaphore s))
semaphore_read at end parts s xs (increment {x = x} {n = n} spells) near e = step_read at end false x n xs near spells e
semaphore_read at end parts s xs (decrement {x = x} {n = n} spells) near e = step_read at end true x n xs near spells e

-- loads

record LoadSays (kind : LoadKind) (sets : Bool) (to : Place) (cond n : ℕ) (v : LoadPart) : Type 0 where
  kind_is : v.kind ≡ kind
  o : Option Name
  condition : IsCondition o
  suffixes : SaysSuffixes o sets v.suffixes
  at_cond : condition_at to v.suffixes.first ≡ cond
  place : target_place v.to.core ≡ Some to
  value : v.value.core ≡ core.Number n

abbrev IsLoadPart : LoadKind → Bool → Place → ℕ → ℕ → Part → Type 0
IsLoadPart kind sets to cond n p = (v : LoadPart) × (p ≡ part.Load v) × LoadSays kind sets to cond n v

renamed : (c c' f f' z : List Symbol) → c ≡ c' → f ≡ f' → c ++ (f ++ z) ≡ c' ++ (f' ++ z)
renamed c c' f f' z e g = rw (e, g) refl

moved : (a b c : List Symbol) → a ++ (b ++ c) ≡ (a ++ b) ++ c
moved a b c = sym (append_assoc a b c)

load_section : (kind : LoadKind) (c f t x : List Symbol) (cond n : ℕ) (sets : Bool) (to : Place) → SpellsCondition c to cond → SpellsFlags f sets → SpellsTarget t to → SpellsNumber x n
    → IsSection (IsLoadPart kind sets to cond n) (symbol.Name (name.Load kind) ∷ c ++ (f ++ (t ++ symbol.Comma ∷ x)))
load_section kind c f t x cond n sets to condition flags target value =
    let cs : ConditionSaid c to cond = condition_said c to cond condition in
    record {
      n = name.Load kind;
      h = opt cs.o ++ (flag_symbols sets ++ (t ++ symbol.Comma ∷ x));
      is = ap (λ z. symbol.Name (name.Load kind) ∷ z) (renamed c (opt cs.o) f (flag_symbols sets) (t ++ symbol.Comma ∷ x) cs.is (flags_are f sets flags));
      plain = plain_append (opt cs.o) _ (opt_plain cs.o) (plain_append (flag_symbols sets) _ (flags_plain sets) (plain_append t (symbol.Comma ∷ x) (target_plain t to target) (refl, number_plain x n value)));
      mnemonic = refl;
      reads = λ token end rest h.
          (let m = spelled_append (opt cs.o ++ flag_symbols sets) (t ++ symbol.Comma ∷ x) rest [] (subst (λ (z : List Symbol). Spelled z rest []) (moved (opt cs.o) (flag_symbols sets) (t ++ symbol.Comma ∷ x)) h) in
          let w = spelled_append t (symbol.Comma ∷ x) m.0 [] m.2 in
          let s = suffixes_read cs.o sets rest m.0 m.1 (target_calm t to m.0 w.0 target w.1) in
          let g : TargetRead end to m.0 w.0 = target_read end t to m.0 w.0 target w.1 (ends_stops w.0 (comma_front x w.0 [] w.2)) in
          let k = comma_read end x w.0 [] w.2 in
          let v = number_read end x n k.0 [] value k.2 tt in
          let l : LoadPart = record { kind = kind; suffixes = s.0; to = bare g.c g.token; value = bare (core.Number n) v.0 } in (
            part.Load l,
            load_part_by kind token end rest ∙ load_step kind end rest m.0 w.0 k.0 s.0 (bare g.c g.token) (bare (core.Number n) v.0) s.1 g.read k.1 v.1,
            (l, refl, record { kind_is = refl; o = cs.o; condition = cs.named; suffixes = s.2; at_cond = cs.gives sets s.0 s.2; place = g.place; value = refl }),
          ));
    }

-- the second target

record AlsoSays (n : Name) (to : Place) (cond : ℕ) (a : AlsoPart) : Type 0 where
  o : Option Name
  condition : IsCondition o
  suffix : Suffixed o a.suffix
  at_cond : condition_at to a.suffix ≡ cond
  real : is_nowhere to ≡ true → to ≡ place.Both 39
  there : somewhere a.to.core ≡ Some to
  place : target_place a.to.core ≡ Some to

abbrev IsAlsoPart : Name → Place → ℕ → Part → Type 0
IsAlsoPart n to cond p = (a : AlsoPart) × (p ≡ part.Also a) × AlsoSays n to cond a

name_calm : (n : Name) (xs : List Placed) → Spelled (name_alone n) xs [] → NoDot xs
name_calm n [] h = tt
name_calm n (x ∷ rest) h = rw h.0 refl

name_read : (end : Token) (n : Name) (xs : List Placed) → Spelled (name_alone n) xs [] → (t : Token) × (target_core end xs ≡ Ok (bare (core.Name n) t, []))
name_read end n [] h = absurd h
name_read end n (x ∷ rest) h =
    (x.token, target_name end x rest n h.0 (ends_stops rest (nothing_front rest h.1)) ∙ ap (λ (z : List Placed). Ok (bare (core.Name n) x.token, z)) h.1)

also_section : (n : Name) (c : List Symbol) (to : Place) (cond : ℕ) → SpellsCondition c to cond → target_meant n ≡ Some to → (is_nowhere to ≡ true → to ≡ place.Both 39)
    → IsSection (IsAlsoPart n to cond) (symbol.Name name.Also ∷ c ++ name_alone n)
also_section n c to cond condition meant real =
    let cs : ConditionSaid c to cond = condition_said c to cond condition in
    record {
      n = name.Also;
      h = opt cs.o ++ name_alone n;
      is = ap (λ z. symbol.Name name.Also ∷ (z ++ name_alone n)) cs.is;
      plain = plain_append (opt cs.o) (name_alone n) (opt_plain cs.o) (refl, tt);
      mnemonic = refl;
      reads = λ token end rest h.
          (let m = spelled_append (opt cs.o) (name_alone n) rest [] h in
          let s = opt_read cs.o rest m.0 m.1 (name_calm n m.0 m.2) in
          let g = name_read end n m.0 m.2 in
          let a : AlsoPart = record { suffix = s.0; to = bare (core.Name n) g.0 } in (
            part.Also a,
            also_part_by token end rest ∙ also_step end rest m.0 s.0 (bare (core.Name n) g.0) s.1 g.1,
            (a, refl, record { o = cs.o; condition = cs.named; suffix = s.2; at_cond = cs.alone s.0 s.2; real = real; there = meant; place = meant }),
          ));
    }

data AlsoParts : List Part → Option Write → Type 0 where
  no_also : AlsoParts [] None
  with_also : {n : Name} {to : Place} {cond : ℕ} {a : AlsoPart} → AlsoSays n to cond a → AlsoParts (part.Also a ∷ []) (written to cond)

record AlsoRead (v : LoadPart) (ts : List SectionTokens) (mul : Option Write) : Type 0 where
  parts : List Part
  reads : Reads (part.Load v ∷ []) ts parts
  are : AlsoParts parts mul

also_real : (n : Name) (c : List Symbol) (to : Place) → target_meant n ≡ Some to → AreThere (symbol.Name name.Also ∷ c ++ name_alone n) → is_nowhere to ≡ true → to ≡ place.Both 39
also_real n c to e real dropped =
    let own : AreThere (name_alone n) = there_right (symbol.Name name.Also ∷ c) (name_alone n) real in
    absurd (let f : true ≡ false = sym dropped ∙ named_there n to own.0 e in grind (arith, f))

also_read : (v : LoadPart) (xs : List (List Symbol)) (mul : Option Write) (ts : List SectionTokens) → SpellsAlso xs mul → PartsThere xs → AreSections xs ts → AlsoRead v ts mul
unfolding also_section
also_read v xs mul [] absent real are = record { parts = []; reads = tt; are = no_also }
also_read v xs mul (t ∷ ts) absent real are = absurd are
also_read v xs mul [] (also n c e) real are = absurd are
also_read v xs mul (t ∷ u ∷ ts) (also n c e) real are = absurd are.1
also_read v xs mul (t ∷ []) (also n {c = x} {to = to} {cond = cond} c e) real are =
    let s = also_section n x to cond c e (also_real n x to e real.0) in
    let r = section_read (IsAlsoPart n to cond) (symbol.Name name.Also ∷ x ++ name_alone n) s (part.Load v ∷ []) t are.0 (due_behind (part.Load v) [] name.Also refl) in
    record {
      parts = part.Also r.2.0 ∷ [];
      reads = (r.1 ∙ ap (λ z. Ok z) r.2.1, tt);
      are = with_also r.2.2;
    }

also_shaped : (xs : List (List Symbol)) (mul : Option Write) → SpellsAlso xs mul → PartsThere xs → AllPlain xs × AllBegin xs
also_shaped xs mul absent real = (tt, tt)
also_shaped xs mul (also n {c = x} {to = to} {cond = cond} c e) real =
    let s = also_section n x to cond c e (also_real n x to e real.0) in
    ((subst Plain (sym s.is) (refl, s.plain), tt), ((name.Also, refl, refl), tt))

-- what they mean

written_means : (to : Place) (cond : ℕ) (c : Core) (s : Option Suffix) → target_place c ≡ Some to → condition_at to s ≡ cond → write_in (place_of c) s ≡ written to cond
written_means to cond c s e f =
    let at : place_of c ≡ to = place_by (target_place c) to _ e in
    ap (λ (z : Place). write_in z s) at ∙ (sym (written_same to s) ∙ ap (λ (z : ℕ). written to z) f)

also_means : (parts : List Part) (mul : Option Write) → AlsoParts parts mul → also_in parts ≡ mul
also_means parts mul no_also = refl
also_means parts mul (with_also {to = to} {cond = cond} {a = a} says) = written_means to cond a.to.core a.suffix says.place says.at_cond

load_means : (at : ℕ) (kind : LoadKind) (sets : Bool) (to : Place) (cond n : ℕ) (mul : Option Write) (v : LoadPart) (parts : List Part) → LoadSays kind sets to cond n v → AlsoParts parts mul
    → meaning at (part.Load v) parts ≡ instruction.Load (record { kind = kind; sets = sets; add = written to cond; mul = mul; immediate = n })
unfolding meaning load_of_part
load_means at kind sets to cond n mul v parts says second =
    ap (λ z. instruction.Load z)
    (same_load (record { kind = kind; sets = sets; add = written to cond; mul = mul; immediate = n }) v.kind (sets_in v.suffixes) (write_in (place_of v.to.core) v.suffixes.first) (also_in parts) (number_of v.value.core)
    says.kind_is (sets_said says.o sets v.suffixes says.condition says.suffixes) (written_means to cond v.to.core v.suffixes.first says.place says.at_cond) (also_means parts mul second) (ap number_of says.value))

-- no fault

written_by : (to : Place) (cond : ℕ) (b : Bool) → (b ≡ true → to ≡ place.Both 39) → write_target (if b then None else Some (record { cond = cond; to = to })) ≡ to
written_by to cond true e = sym (e refl)
written_by to cond false e = refl

condition_marked : (o : Option Name) (s : Option Suffix) (ms : List Mark) → IsCondition o → Suffixed o s → condition_marks s ms ≡ ms
condition_marked None s ms c h = rw h refl
condition_marked (Some (name.Condition n)) s ms c h = rw h.1 refl
condition_marked (Some _) s ms c h = absurd c

first_clean : (g : Given) (kind : LoadKind) (sets : Bool) (to : Place) (cond n : ℕ) (v : LoadPart) → LoadSays kind sets to cond n v → Clean (Only to) g (part_marks false [] (part.Load v))
unfolding part_marks load_marks
first_clean g kind sets to cond n v says =
    let s = suffixes_clean NoTarget g false says.o sets v.suffixes [] says.condition (λ e. absurd (never e)) says.suffixes (clean_start NoTarget g) in
    let w = clean_first g to v.to.token (suffix_marks false v.suffixes []) s in
    rw (value_marks v.value n (place_mark (target_place v.to.core) v.to.token (suffix_marks false v.suffixes [])) says.value, place_marked (target_place v.to.core) to v.to.token (suffix_marks false v.suffixes []) says.place) w

also_clean : (g : Given) (p : Place) (parts : List Part) (mul : Option Write) (ms : List Mark) → AlsoParts parts mul → cross p (write_target mul) ≡ false
    → Clean (Only p) g ms → (W : Place → Type 0) × Clean W g (fold (part_marks true) ms parts)
unfolding part_marks also_marks
also_clean g p parts mul ms no_also apart c = (Only p, c)
also_clean g p parts mul ms (with_also {n = n} {to = to} {cond = cond} {a = a} says) apart c =
    let whole : write_target (written to cond) ≡ to = written_by to cond (is_nowhere to) says.real in
    let clear : cross p to ≡ false = subst (λ (z : Place). cross p z ≡ false) whole apart in
    let w = clean_second (Only p) g to a.to.token ms (λ q e. subst (λ (z : Place). cross z to ≡ false) (sym e) clear) c in
    (AnyTarget, rw (condition_marked says.o a.suffix ms says.condition says.suffix, place_marked (somewhere a.to.core) to a.to.token ms says.there) w)

load_line : (at : ℕ) (kind : LoadKind) (sets : Bool) (to : Place) (cond n : ℕ) (mul : Option Write) (v : LoadPart) (parts : List Part) (t : SectionTokens) (ts : List SectionTokens)
    → IsLoad (record { kind = kind; sets = sets; add = written to cond; mul = mul; immediate = n }) → (is_nowhere to ≡ true → to ≡ place.Both 39)
    → LoadSays kind sets to cond n v → AlsoParts parts mul → Reads [] (t ∷ ts) (part.Load v ∷ parts)
    → IsLine at (instruction.Load (record { kind = kind; sets = sets; add = written to cond; mul = mul; immediate = n })) (t ∷ ts)
load_line at kind sets to cond n mul v parts t ts is whole says second reads =
    let l : Load = record { kind = kind; sets = sets; add = written to cond; mul = mul; immediate = n } in
    let add : write_target (written to cond) ≡ to = written_by to cond (is_nowhere to) whole in
    let apart : cross to (write_target mul) ≡ false =
    subst (λ (z : Place). cross z (write_target mul) ≡ false) add (no_cross (is_exchanged_load l) (write_target l.add) (write_target l.mul) is.add_to is.mul_to) in
    let c = also_clean nothing_given to parts mul (part_marks false [] (part.Load v)) second apart (first_clean nothing_given kind sets to cond n v says) in
    record {
      first = part.Load v;
      later = parts;
      reads = reads;
      clean = rw (marks_are (part.Load v) parts) (no_fault c.0 nothing_given _ c.1);
      says = load_means at kind sets to cond n mul v parts says second;
    }

lines_are : (at : ℕ) (kind : LoadKind) (c f t x : List Symbol) (xs : List (List Symbol)) (cond n : ℕ) (sets : Bool) (to : Place) (mul : Option Write) (ts : List SectionTokens)
    → IsLoad (record { kind = kind; sets = sets; add = written to cond; mul = mul; immediate = n }) → SpellsCondition c to cond → SpellsFlags f sets → SpellsTarget t to → SpellsNumber x n → SpellsAlso xs mul
    → (is_nowhere to ≡ true → to ≡ place.Both 39) → PartsThere xs → AreSections ((symbol.Name (name.Load kind) ∷ c ++ (f ++ (t ++ symbol.Comma ∷ x))) ∷ xs) ts
    → IsLine at (instruction.Load (record { kind = kind; sets = sets; add = written to cond; mul = mul; immediate = n })) ts
unfolding load_section
lines_are at kind c f t x xs cond n sets to mul [] is condition flags target value second whole real are = absurd are
lines_are at kind c f t x xs cond n sets to mul (u ∷ ts) is condition flags target value second whole real are =
    let s = load_section kind c f t x cond n sets to condition flags target value in
    let r = section_read (IsLoadPart kind sets to cond n) (symbol.Name (name.Load kind) ∷ c ++ (f ++ (t ++ symbol.Comma ∷ x))) s [] u are.0 (due_first (name.Load kind) refl) in
    let o = also_read r.2.0 xs mul ts second real are.1 in
    load_line at kind sets to cond n mul r.2.0 o.parts u ts is whole r.2.2 o.are (r.1 ∙ ap (λ z. Ok z) r.2.1, o.reads)

load_read_by : (at : ℕ) (end : Token) (kind : LoadKind) (c f t x : List Symbol) (os : List (List Symbol)) (cond n : ℕ) (sets : Bool) (to : Place) (mul : Option Write) (xs : List Placed)
    → IsLoad (record { kind = kind; sets = sets; add = written to cond; mul = mul; immediate = n }) → SpellsCondition c to cond → SpellsFlags f sets → SpellsTarget t to → SpellsNumber x n → SpellsAlso os mul
    → PartsThere ((symbol.Name (name.Load kind) ∷ c ++ (f ++ (t ++ symbol.Comma ∷ x))) ∷ os)
    → symbols_of xs ≡ joined ((symbol.Name (name.Load kind) ∷ c ++ (f ++ (t ++ symbol.Comma ∷ x))) ∷ os)
    → read_line at end xs ≡ Ok (Says (instruction.Load (record { kind = kind; sets = sets; add = written to cond; mul = mul; immediate = n })))
load_read_by at end kind c f t x os cond n sets to mul xs is condition flags target value second real e =
    let s = load_section kind c f t x cond n sets to condition flags target value in
    let one : Plain (symbol.Name (name.Load kind) ∷ c ++ (f ++ (t ++ symbol.Comma ∷ x))) = section_plain (IsLoadPart kind sets to cond n) _ s in
    let more = also_shaped os mul second real.1 in
    let own : AreThere t = there_left t (symbol.Comma ∷ x) (there_right f (t ++ symbol.Comma ∷ x) (there_right c (f ++ (t ++ symbol.Comma ∷ x)) real.0.1)) in
    line_read at end (name.Load kind) (c ++ (f ++ (t ++ symbol.Comma ∷ x))) os xs (instruction.Load (record { kind = kind; sets = sets; add = written to cond; mul = mul; immediate = n }))
    one.1 more.0 refl more.1 (spelled_map xs ((symbol.Name (name.Load kind) ∷ c ++ (f ++ (t ++ symbol.Comma ∷ x))) ++ behind_first os) e)
    (λ ts are. lines_are at kind c f t x os cond n sets to mul ts is condition flags target value second (target_there t to own target) real.1 are)

pub load_read : (at : ℕ) (end : Token) (parts : List (List Symbol)) (l : Load) (xs : List Placed) → SpellsLoad parts l → IsLoad l → PartsThere parts → symbols_of xs ≡ joined parts
    → read_line at end xs ≡ Ok (Says (instruction.Load l))
load_read at end parts l xs (load {kind = kind} {c = c} {f = f} {t = t} {x = x} {xs = os} {cond = cond} {v = n} {sets = sets} {to = to} {mul = mul} condition flags target value second) is real e =
    load_read_by at end kind c f t x os cond n sets to mul xs is condition flags target value second real e
