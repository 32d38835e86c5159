-- Lines whose symbols spell a branch are read as it.
use Rattle.std.proofs.Common.{◌≡◌, ℕ, Bool, true, false, List, [], ◌∷◌, ◌++◌, fold, Option, Some, None, Ok, refl, sym, subst, ap, ◌∙◌, arith}
use Rattle.std.specs.Prelude.{◌&&◌, ◌||◌, ◌%◌, not, if◌then◌else◌}
use Rattle.std.specs.Option.{option_or}
use Rattle.std.specs.List.{list_any}
use Rattle.qpu_token.specs.declared.token.Token.{Token}
use Rattle.qpu_word.specs.declared.name.Place.{Place}
use Rattle.qpu_word.specs.declared.name.Place.TheVariants as place
use Rattle.qpu_word.specs.Words.{is_link_address}
use Rattle.qpu_line.specs.declared.branch.Branch.{Branch}
use Rattle.qpu_line.specs.declared.instruction.Instruction.TheVariants as instruction
use Rattle.qpu_line.specs.declared.name.Name.{Name}
use Rattle.qpu_line.specs.declared.name.Name.TheVariants as name
use Rattle.qpu_line.specs.declared.name.Register.TheVariants as register
use Rattle.qpu_line.specs.declared.symbol.Symbol.{Symbol}
use Rattle.qpu_line.specs.declared.symbol.Symbol.TheVariants as symbol
use Rattle.qpu_line.specs.Targets.{address_of}
use Rattle.qpu_line.specs.Worded.{IsBranch, is_exchanged_branch}
use Rattle.qpu_asm.specs.declared.placed.Placed.{Placed}
use Rattle.qpu_asm.specs.declared.piece.Core.{Core}
use Rattle.qpu_asm.specs.declared.piece.Core.TheVariants as core
use Rattle.qpu_asm.specs.declared.piece.Suffix.{Suffix}
use Rattle.qpu_asm.specs.declared.piece.Piece.{Piece}
use Rattle.qpu_asm.specs.declared.part.BranchPart.{BranchPart}
use Rattle.qpu_asm.specs.declared.part.Part.{Part}
use Rattle.qpu_asm.specs.declared.part.Part.TheVariants as part
use Rattle.qpu_asm.specs.declared.mark.What.TheVariants as what
use Rattle.qpu_asm.specs.declared.mark.Mark.{Mark}
use Rattle.qpu_asm.specs.declared.line.Line.TheVariants.{Says}
use Rattle.qpu_asm.specs.reader.Reading.{Read}
use Rattle.qpu_asm.specs.Roles.{target_meant}
use Rattle.qpu_asm.specs.reader.Pieces.{bare, name_alone as name_core, label_by, label_core, value_core, jump_core, comma_at}
use Rattle.qpu_asm.specs.reader.Parts.{part_by}
use Rattle.qpu_asm.specs.reader.Orders.{is_link, is_row, is_name, due}
use Rattle.qpu_asm.specs.SectionTokens.{SectionTokens}
use Rattle.qpu_asm.specs.reader.Sections.{sections_of, part_after}
use Rattle.qpu_asm.specs.reader.Marks.{mark, branch_marks, target_place, place_mark, jump_marks, jumping_marks, part_marks}
use Rattle.qpu_asm.specs.Roles.{if_link}
use Rattle.qpu_asm.specs.Clashes.{cross}
use Rattle.qpu_asm.specs.reader.Meanings.{branch_condition_in, place_of, distance, target_row, row_part, first_told, link_in, branch_of_part, meaning}
use Rattle.qpu_asm.specs.Laws.{symbols_of}
use Rattle.qpu_asm.specs.reader.LinesRead.{read_line}
use Rattle.qpu_asm.specs.SpelledPieces.{name_alone, SpellsNumber, SpellsTarget, is_nowhere, SpellsBranchCondition, IsName, SpellsJump, way}
use Rattle.qpu_asm.specs.SpelledPieces.IsName.{known, unknown}
use Rattle.qpu_asm.specs.SpelledPieces.SpellsNumber.{number}
use Rattle.qpu_asm.specs.SpelledPieces.SpellsTarget.{nowhere, named as target_named}
use Rattle.qpu_asm.specs.SpelledPieces.SpellsBranchCondition.{always, given}
use Rattle.qpu_asm.specs.SpelledPieces.SpellsJump.{number as jump_number, label as jump_label, row as jump_row}
use Rattle.qpu_asm.specs.Spells.{SpellsLinks, SpellsBranch, branch_name, behind_first, joined, label_in}
use Rattle.qpu_asm.specs.Signs.{is_colon}
use Rattle.qpu_asm.specs.Spells.SpellsLinks.{none as links_none, link, adds}
use Rattle.qpu_asm.specs.Spells.SpellsBranch.{branch}
use Rattle.qpu_asm.proofs.AgainSpelled.{Spelled, spelled_append, spelled_map, never}
use Rattle.qpu_asm.proofs.AgainPieces.{ends_stops, place_by, value_name, Suffixed}
use Rattle.qpu_asm.proofs.AgainSections.{Plain, AllPlain, AllBegin, plain_append, after_step, AreSections, Reads, IsLine, line_read_by}
use Rattle.qpu_asm.proofs.AgainForms.{due_first, due_behind}
use Rattle.qpu_asm.proofs.AgainMarks.{Given, nothing_given, Clean, clean_start, clean_first, clean_second, NoTarget, AnyTarget, Only, no_fault, marks_are}
use Rattle.qpu_asm.proofs.AgainHeld.{no_cross}
use Rattle.qpu_asm.proofs.AgainBranches.{branch_step, branch_by, branch_begins, branch_mnemonic, link_step, row_step}
use Rattle.qpu_asm.proofs.SpellsLine.{CutFrom, is_cut, sections_are}
use Rattle.qpu_asm.proofs.ReadNames.{PartsThere, named_there}
use Rattle.qpu_asm.proofs.ReadPieces.{comma_front, nothing_front, opt, opt_read, TargetRead, target_read, target_calm, number_read}
use Rattle.qpu_asm.proofs.ReadParts.{IsSection, section_read, opt_plain, target_plain, number_plain, comma_read, last_named}
use Rattle.qpu_asm.proofs.ReadOthers.{any_more, not_false}

-- labels among tokens

-- a sign `:` with a token behind it
abbrev pub has_label : List Placed → Bool
has_label [] = false
has_label (x ∷ []) = false
has_label (x ∷ y ∷ rest) = is_colon x.symbol || has_label (y ∷ rest)

label_whole : (front more : List Placed) → has_label front ≡ true → label_in (front ++ more) ≡ label_in front
label_whole [] more e = absurd (never e)
label_whole (x ∷ []) more e = absurd (never e)
label_whole (x ∷ y ∷ rest) more e = by_sign (is_colon x.symbol) e (label_whole (y ∷ rest) more)
  where
    by_sign : (b : Bool) → (b || has_label (y ∷ rest)) ≡ true → (has_label (y ∷ rest) ≡ true → label_in (y ∷ (rest ++ more)) ≡ label_in (y ∷ rest))
        → ◌≡◌ {A = Option ℕ} (if b then y.label else label_in (y ∷ (rest ++ more))) (if b then y.label else label_in (y ∷ rest))
    by_sign true e next = refl
    by_sign false e next = next e

abbrev NoLabel : List Symbol → Type 0
NoLabel [] = Unit {0}
NoLabel (s ∷ ss) = (is_colon s ≡ false) × NoLabel ss

skip_one : (x : Placed) (rest : List Placed) → is_colon x.symbol ≡ false → has_label rest ≡ true → (has_label (x ∷ rest) ≡ true) × (label_in (x ∷ rest) ≡ label_in rest)
skip_one x [] e h = absurd (never h)
skip_one x (y ∷ rest) e h = rw e (h, refl)

skip_all : (ss : List Symbol) (xs mid : List Placed) → NoLabel ss → Spelled ss xs mid → has_label mid ≡ true → (has_label xs ≡ true) × (label_in xs ≡ label_in mid)
skip_all [] xs mid none h e = rw h (e, refl)
skip_all (s ∷ ss) [] mid none h e = absurd h
skip_all (s ∷ ss) (x ∷ xs) mid none h e =
    let r = skip_all ss xs mid none.1 h.1 e in
    let o = skip_one x xs (ap is_colon h.0 ∙ none.0) r.0 in
    (o.0, o.1 ∙ r.1)

opt_no_label : (o : Option Name) → NoLabel (opt o)
opt_no_label None = tt
opt_no_label (Some n) = (refl, (refl, tt))

target_no_label : (t : List Symbol) (to : Place) → SpellsTarget t to → NoLabel t
target_no_label t to nowhere = (refl, tt)
target_no_label t to (target_named e) = (refl, tt)

cut_label : (xs : List Placed) (first : SectionTokens) (more : List SectionTokens) → CutFrom xs first more → has_label first.tokens ≡ true → label_in xs ≡ label_in first.tokens
cut_label xs first [] e h = ap label_in e
cut_label xs first (next ∷ more) (x, rest, e, semicolon, cut) h = ap label_in e ∙ label_whole first.tokens (x ∷ rest) h

-- where a branch goes

pub record JumpSays (relative : Bool) (at imm : ℕ) (row : Option ℕ) (p : Piece) : Type 0 where
  goes : distance relative at p.core ≡ imm
  adds_row : target_row p.core ≡ row
  marks : (ms : List Mark) → jump_marks p ms ≡ ms
  free : row ≡ None → is_name p.core ≡ false

jump_value : (end : Token) (x : Placed) (rest : List Placed) (s : Symbol) (r : Read Piece) (other : Read Piece) → is_colon s ≡ false → (if is_colon s then other else r) ≡ r
jump_value end x rest s r other e = rw e refl

number_jump : (end : Token) (x : List Symbol) (n : ℕ) (xs : List Placed) → SpellsNumber x n → Spelled x xs [] → (t : Token) × (jump_core end xs ≡ Ok (bare (core.Number n) t, []))
unfolding jump_core
number_jump end x n [] (number {v = w}) h = absurd h
number_jump end x n (y ∷ rest) (number {v = w}) h =
    let r = number_read end (symbol.Number w ∷ []) (w % 4294967296) (y ∷ rest) [] number h tt in
    (r.0, jump_value end y rest y.symbol (value_core end (y ∷ rest)) (label_core end rest) (ap is_colon h.0) ∙ r.1)

row_jump : (end : Token) (n : Name) (xs : List Placed) → Spelled (name_alone n) xs [] → (t : Token) × (jump_core end xs ≡ Ok (bare (core.Name n) t, []))
unfolding jump_core
row_jump end n [] h = absurd h
row_jump end n (y ∷ rest) h =
    let read = value_name end y rest n h.0 (ends_stops rest (nothing_front rest h.1)) ∙ ap (λ (z : List Placed). Ok (bare (core.Name n) y.token, z)) h.1 in
    (y.token, jump_value end y rest y.symbol (value_core end (y ∷ rest)) (label_core end rest) (ap is_colon h.0) ∙ read)

label_is : (z : Placed) (rest : List Placed) (s : Symbol) → IsName s → z.symbol ≡ s → label_by z rest (name_core z.symbol) ≡ Ok (bare (core.Label z.label) z.token, rest)
label_is z rest s known e = rw e refl
label_is z rest s unknown e = rw e refl

colon_step : (end : Token) (y z : Placed) (rest : List Placed) (s : Symbol) → s ≡ symbol.Colon → (if is_colon s then label_core end (z ∷ rest) else value_core end (y ∷ z ∷ rest)) ≡ label_by z rest (name_core z.symbol)
colon_step end y z rest s e = rw e refl

label_jump : (end : Token) (y z : Placed) (rest : List Placed) (s : Symbol) → IsName s → y.symbol ≡ symbol.Colon → z.symbol ≡ s → rest ≡ [] → jump_core end (y ∷ z ∷ rest) ≡ Ok (bare (core.Label z.label) z.token, [])
unfolding jump_core
label_jump end y z rest s is e f g =
    colon_step end y z rest y.symbol e ∙ (label_is z rest s is f ∙ ap (λ (w : List Placed). Ok (bare (core.Label z.label) z.token, w)) g)

label_says : (relative : Bool) (at word : ℕ) (o : Option ℕ) (t : Token) → o ≡ Some word → JumpSays relative at (way relative at word) None (bare (core.Label o) t)
label_says relative at word o t e =
    let P : Option ℕ → Type 0 = λ z. JumpSays relative at (way relative at word) None (bare (core.Label z) t) in
    subst P (sym e) (record { goes = refl; adds_row = refl; marks = λ ms. refl; free = λ f. refl })

colon_has : (y z : Placed) (rest : List Placed) → y.symbol ≡ symbol.Colon → (has_label (y ∷ z ∷ rest) ≡ true) × (label_in (y ∷ z ∷ rest) ≡ z.label)
colon_has y z rest e = rw e (refl, refl)

jump_read : (end : Token) (relative : Bool) (at : ℕ) (o : Option ℕ) (x : List Symbol) (imm : ℕ) (row : Option ℕ) (xs : List Placed) → SpellsJump relative at o x imm row → Spelled x xs []
    → (has_label xs ≡ true → o ≡ label_in xs) → (p : Piece) × (jump_core end xs ≡ Ok (p, [])) × JumpSays relative at imm row p
jump_read end relative at o x imm row xs (jump_number spells) h found =
    let r = number_jump end x imm xs spells h in
    (bare (core.Number imm) r.0, r.1, record { goes = refl; adds_row = refl; marks = λ ms. refl; free = λ e. refl })
jump_read end relative at o x imm row [] (jump_label is e) h found = absurd h
jump_read end relative at o x imm row (y ∷ []) (jump_label is e) h found = absurd h.1
jump_read end relative at o x imm row (y ∷ z ∷ rest) (jump_label {s = s} {word = word} is e) h found =
    let c = colon_has y z rest h.0 in
    (bare (core.Label z.label) z.token, label_jump end y z rest s is h.0 h.1.0 h.1.1, label_says relative at word z.label z.token (sym c.1 ∙ (sym (found c.0) ∙ e)))
jump_read end relative at o x imm row xs (jump_row {n = n}) h found =
    let r = row_jump end (name.Register (register.RowA n)) xs h in
    (bare (core.Name (name.Register (register.RowA n))) r.0, r.1, record { goes = refl; adds_row = refl; marks = λ ms. refl; free = λ e. absurd cc })

jump_plain : (relative : Bool) (at : ℕ) (o : Option ℕ) (x : List Symbol) (imm : ℕ) (row : Option ℕ) → SpellsJump relative at o x imm row → Plain x
jump_plain relative at o x imm row (jump_number spells) = number_plain x imm spells
jump_plain relative at o x imm row (jump_label known e) = (refl, (refl, tt))
jump_plain relative at o x imm row (jump_label unknown e) = (refl, (refl, tt))
jump_plain relative at o x imm row jump_row = (refl, tt)

-- the condition

record TakenSaid (c : List Symbol) (cond : ℕ) : Type 0 where
  o : Option Name
  is : c ≡ opt o
  gives : (s : Option Suffix) → Suffixed o s → branch_condition_in s ≡ cond
  marks : (s : Option Suffix) (ms : List Mark) → Suffixed o s → branch_marks s ms ≡ ms

always_gives : (s : Option Suffix) → Suffixed None s → branch_condition_in s ≡ 15
always_gives s h = rw h refl

always_marks : (s : Option Suffix) (ms : List Mark) → Suffixed None s → branch_marks s ms ≡ ms
always_marks s ms h = rw h refl

given_gives : (n : ℕ) (s : Option Suffix) → Suffixed (Some (name.BranchCondition n)) s → branch_condition_in s ≡ n
given_gives n s h = rw h.1 refl

given_marks : (n : ℕ) (s : Option Suffix) (ms : List Mark) → Suffixed (Some (name.BranchCondition n)) s → branch_marks s ms ≡ ms
given_marks n s ms h = rw h.1 refl

taken_said : (c : List Symbol) (cond : ℕ) → SpellsBranchCondition c cond → TakenSaid c cond
taken_said c cond always = record { o = None; is = refl; gives = always_gives; marks = always_marks }
taken_said c cond given = record { o = Some (name.BranchCondition cond); is = refl; gives = given_gives cond; marks = given_marks cond }

-- the branch's own part

pub record BranchSays (relative : Bool) (at cond imm : ℕ) (to : Place) (row : Option ℕ) (v : BranchPart) : Type 0 where
  relative_is : v.relative ≡ relative
  condition : branch_condition_in v.suffix ≡ cond
  marks : (ms : List Mark) → branch_marks v.suffix ms ≡ ms
  place : target_place v.to.core ≡ Some to
  jump : JumpSays relative at imm row v.target

comma_ok : (end : Token) (y : Placed) (rest mid : List Placed) → y.symbol ≡ symbol.Comma → comma_at end (y ∷ rest) ≡ Ok mid → rest ≡ mid
comma_ok end y rest mid e f = let step : comma_at end (y ∷ rest) ≡ Ok rest = rw e refl in cc

comma_there : (end : Token) (x : List Symbol) (xs mid : List Placed) → Spelled (symbol.Comma ∷ x) xs [] → comma_at end xs ≡ Ok mid → Spelled (symbol.Comma ∷ []) xs mid
comma_there end x [] mid h e = absurd h
comma_there end x (y ∷ rest) mid h e = (h.0, comma_ok end y rest mid h.0 e)

pub branch_read : (relative : Bool) (at cond imm : ℕ) (o : Option ℕ) (c t x : List Symbol) (to : Place) (row : Option ℕ) (token end : Token) (rest : List Placed) → SpellsBranchCondition c cond → SpellsTarget t to
    → SpellsJump relative at o x imm row → Spelled (c ++ (t ++ symbol.Comma ∷ x)) rest [] → (has_label rest ≡ true → o ≡ label_in rest)
    → (v : BranchPart) × (part_by (branch_name relative) token end rest ≡ Ok (part.Branch v)) × BranchSays relative at cond imm to row v
branch_read relative at cond imm o c t x to row token end rest condition target goes h found =
    let cs = taken_said c cond condition in
    let own : Spelled (opt cs.o ++ (t ++ symbol.Comma ∷ x)) rest [] = subst (λ (z : List Symbol). Spelled (z ++ (t ++ symbol.Comma ∷ x)) rest []) cs.is h in
    let m = spelled_append (opt cs.o) (t ++ symbol.Comma ∷ x) rest [] own in
    let w = spelled_append t (symbol.Comma ∷ x) m.0 [] m.2 in
    let s = opt_read cs.o rest m.0 m.1 (target_calm t to m.0 w.0 target w.1) in
    let g : TargetRead end to m.0 w.0 = target_read end t to m.0 w.0 target w.1 (ends_stops w.0 (comma_front x w.0 [] w.2)) in
    let k = comma_read end x w.0 [] w.2 in
    let comma : Spelled (symbol.Comma ∷ []) w.0 k.0 = comma_there end x w.0 k.0 w.2 k.1 in
    let skipped : has_label k.0 ≡ true → (has_label rest ≡ true) × (label_in rest ≡ label_in k.0) =
    λ e.
    (let one = skip_all (symbol.Comma ∷ []) w.0 k.0 (refl, tt) comma e in
    let two = skip_all t m.0 w.0 (target_no_label t to target) w.1 one.0 in
    let three = skip_all (opt cs.o) rest m.0 (opt_no_label cs.o) m.1 two.0 in
    (three.0, three.1 ∙ (two.1 ∙ one.1))) in
    let j = jump_read end relative at o x imm row k.0 goes k.2 (λ e. found (skipped e).0 ∙ (skipped e).1) in
    let v : BranchPart = record { relative = relative; suffix = s.0; to = bare g.c g.token; target = j.0 } in (
      v,
      branch_by relative token end rest ∙ branch_step relative end rest m.0 w.0 k.0 s.0 (bare g.c g.token) j.0 s.1 g.read k.1 j.1,
      record { relative_is = refl; condition = cs.gives s.0 s.2; marks = λ ms. cs.marks s.0 ms s.2; place = g.place; jump = j.2 },
    )

-- what stands behind: the second target and the row

data AreLinks (row : Option ℕ) : List Part → Place → Option ℕ → Type 0 where
  nothing : AreLinks row [] (place.Both 39) row
  linked : {n : Name} {t : Token} {p : Part} {ps : List Part} {to : Place} {reg : Option ℕ} → p ≡ part.Link (bare (core.Name n) t) → target_meant n ≡ Some to → is_nowhere to ≡ false
      → AreLinks row ps (place.Both 39) reg → AreLinks row (p ∷ ps) to reg
  added : {n : ℕ} {t : Token} {p : Part} {ps : List Part} {to : Place} → p ≡ part.Row (bare (core.Name (name.Register (register.RowA n))) t)
      → AreLinks row ps to None → AreLinks row (p ∷ ps) to (Some n)

-- where a row is added behind, the branch goes to no name
links_row : (row : Option ℕ) (xs : List (List Symbol)) (to : Place) (reg : Option ℕ) → SpellsLinks row xs to reg → reg ≡ None → row ≡ None
links_row row xs to reg links_none e = e
links_row row xs to reg (link is more) e = links_row row _ _ reg more e
links_row row xs to reg (adds more) e = absurd (grind (arith, e))

link_section : (n : Name) → IsSection (λ p. (t : Token) × (p ≡ part.Link (bare (core.Name n) t))) (symbol.Name name.Link ∷ name_alone n)
link_section n = record {
  n = name.Link;
  h = name_alone n;
  is = refl;
  plain = (refl, tt);
  mnemonic = refl;
  reads = λ token last rest h. (let r = last_named last n rest h in (part.Link (bare (core.Name n) r.0), link_step token last rest (bare (core.Name n) r.0) r.1, (r.0, refl)));
}

row_section : (n : Name) → IsSection (λ p. (t : Token) × (p ≡ part.Row (bare (core.Name n) t))) (symbol.Name name.Row ∷ name_alone n)
row_section n = record {
  n = name.Row;
  h = name_alone n;
  is = refl;
  plain = (refl, tt);
  mnemonic = refl;
  reads = λ token last rest h. (let r = last_named last n rest h in (part.Row (bare (core.Name n) r.0), row_step token last rest (bare (core.Name n) r.0) r.1, (r.0, refl)));
}

link_due : (v : BranchPart) (done : List Part) → list_any is_link done ≡ false → due (part.Branch v ∷ done) name.Link ≡ true
link_due v done e = due_behind (part.Branch v) done name.Link (not_false (list_any is_link done) e)

both_not : (a b : Bool) → a ≡ false → b ≡ false → (not a && not b) ≡ true
both_not a b e f = rw (e, f) refl

row_due : (v : BranchPart) (done : List Part) → list_any is_row done ≡ false → is_name v.target.core ≡ false → due (part.Branch v ∷ done) name.Row ≡ true
row_due v done e f = due_behind (part.Branch v) done name.Row (both_not (list_any is_row done) (is_name v.target.core) e f)

record LinksRead (v : BranchPart) (row : Option ℕ) (done : List Part) (ts : List SectionTokens) (to : Place) (reg : Option ℕ) : Type 0 where
  parts : List Part
  reads : Reads (part.Branch v ∷ done) ts parts
  are : AreLinks row parts to reg

abbrev FreeLink : List Part → Place → Type 0
FreeLink done to = is_nowhere to ≡ false → list_any is_link done ≡ false

abbrev FreeRow : List Part → Option ℕ → Option ℕ → Type 0
FreeRow done row None = Unit {0}
FreeRow done row (Some n) = row ≡ None → list_any is_row done ≡ false

free_row : (done : List Part) (p : Part) (row reg : Option ℕ) → is_row p ≡ false → FreeRow done row reg → FreeRow (done ++ p ∷ []) row reg
free_row done p row None e free = tt
free_row done p row (Some n) e free = λ none. any_more is_row done p (free none) e

links_read : (v : BranchPart) (row : Option ℕ) (xs : List (List Symbol)) (to : Place) (reg : Option ℕ) (done : List Part) (ts : List SectionTokens) → SpellsLinks row xs to reg
    → (row ≡ None → is_name v.target.core ≡ false) → FreeLink done to → FreeRow done row reg → PartsThere xs → AreSections xs ts → LinksRead v row done ts to reg
unfolding link_section row_section
links_read v row xs to reg done [] links_none named free_l free_r real are = record { parts = []; reads = tt; are = nothing }
links_read v row xs to reg done (t ∷ ts) links_none named free_l free_r real are = absurd are
links_read v row xs to reg done [] (link {n = n} {xs = ys} is more) named free_l free_r real are = absurd are
links_read v row xs to reg done (t ∷ ts) (link {n = n} {xs = ys} is more) named free_l free_r real are =
    let somewhere_to : is_nowhere to ≡ false = named_there n to real.0.1.0 is in
    let r = section_read (λ p. (k : Token) × (p ≡ part.Link (bare (core.Name n) k))) (symbol.Name name.Link ∷ name_alone n) (link_section n) (part.Branch v ∷ done) t are.0 (link_due v done (free_l somewhere_to)) in
    let l = links_read v row ys (place.Both 39) reg (done ++ r.0 ∷ []) ts more named (λ e. absurd (never (sym e))) (free_row done r.0 row reg (rw r.2.1 refl) free_r) real.1 are.1 in
    record { parts = r.0 ∷ l.parts; reads = (r.1, l.reads); are = linked r.2.1 is somewhere_to l.are }
links_read v row xs to reg done [] (adds {n = n} {xs = ys} more) named free_l free_r real are = absurd are
links_read v row xs to reg done (t ∷ ts) (adds {n = n} {xs = ys} more) named free_l free_r real are =
    let none : row ≡ None = links_row row ys to None more refl in
    let m : Name = name.Register (register.RowA n) in
    let r = section_read (λ p. (k : Token) × (p ≡ part.Row (bare (core.Name m) k))) (symbol.Name name.Row ∷ name_alone m) (row_section m) (part.Branch v ∷ done) t are.0 (row_due v done (free_r none) (named none)) in
    let l = links_read v row ys to None (done ++ r.0 ∷ []) ts more named (λ e. any_more is_link done r.0 (free_l e) (rw r.2.1 refl)) tt real.1 are.1 in
    record { parts = r.0 ∷ l.parts; reads = (r.1, l.reads); are = added r.2.1 l.are }

links_shaped : (row : Option ℕ) (xs : List (List Symbol)) (to : Place) (reg : Option ℕ) → SpellsLinks row xs to reg → AllPlain xs × AllBegin xs
links_shaped row xs to reg links_none = (tt, tt)
links_shaped row xs to reg (link {xs = ys} is more) = let r = links_shaped row ys (place.Both 39) reg more in (((refl, (refl, tt)), r.0), ((name.Link, refl, refl), r.1))
links_shaped row xs to reg (adds {xs = ys} more) = let r = links_shaped row ys to None more in (((refl, (refl, tt)), r.0), ((name.Row, refl, refl), r.1))

-- what they mean

same_row : (o : Option ℕ) → option_or o None ≡ o
same_row None = refl
same_row (Some n) = refl

linked_means : (n : Name) (t : Token) (p : Part) (ps : List Part) (to : Place) → p ≡ part.Link (bare (core.Name n) t) → target_meant n ≡ Some to → link_in (p ∷ ps) ≡ to
linked_means n t p ps to e is = rw (e, is) refl

link_tells : (n : Name) (t : Token) (p : Part) (ps : List Part) → p ≡ part.Link (bare (core.Name n) t) → first_told row_part (p ∷ ps) ≡ first_told row_part ps
link_tells n t p ps e = rw e refl

row_tells : (n : ℕ) (t : Token) (p : Part) (ps : List Part) → p ≡ part.Row (bare (core.Name (name.Register (register.RowA n))) t) → (first_told row_part (p ∷ ps) ≡ Some n) × (link_in (p ∷ ps) ≡ link_in ps)
row_tells n t p ps e = rw e (refl, refl)

none_left : (a b : Option ℕ) → option_or a b ≡ None → a ≡ None
none_left None b e = refl
none_left (Some n) b e = e

row_told : (a b : Option ℕ) (n : ℕ) → a ≡ None → b ≡ Some n → option_or a b ≡ Some n
row_told a b n e f = rw (e, f) refl

links_mean : (row : Option ℕ) (ps : List Part) (to : Place) (reg : Option ℕ) → AreLinks row ps to reg → (link_in ps ≡ to) × (option_or row (first_told row_part ps) ≡ reg)
links_mean row ps to reg nothing = (refl, same_row row)
links_mean row ps to reg (linked {n = n} {t = t} {p = p} {ps = qs} e is some more) =
    let m = links_mean row qs (place.Both 39) reg more in
    (linked_means n t p qs to e is, ap (λ (z : Option ℕ). option_or row z) (link_tells n t p qs e) ∙ m.1)
links_mean row ps to reg (added {n = n} {t = t} {p = p} {ps = qs} e more) =
    let m = links_mean row qs to None more in
    let r = row_tells n t p qs e in
    (r.1 ∙ m.0, row_told row (first_told row_part (p ∷ qs)) n (none_left row (first_told row_part qs) m.1) r.0)

same_branch : (b : Branch) (cond : ℕ) (relative : Bool) (reg : Option ℕ) (add mul : Place) (imm : ℕ) → cond ≡ b.cond → relative ≡ b.relative → reg ≡ b.register → add ≡ b.add → mul ≡ b.mul → imm ≡ b.immediate
    → record { cond = cond; relative = relative; register = reg; add = add; mul = mul; immediate = imm } ≡ b
same_branch b cond relative reg add mul imm e f g h i j = rw (e, f, g, h, i, j) refl

relative_distance : (r s : Bool) (at imm : ℕ) (c : Core) → r ≡ s → distance s at c ≡ imm → distance r at c ≡ imm
relative_distance r s at imm c e f = let P : Bool → Type 0 = λ z. distance z at c ≡ imm in subst P (sym e) f

branch_means : (relative : Bool) (at cond imm : ℕ) (to mul : Place) (row reg : Option ℕ) (v : BranchPart) (ps : List Part) → BranchSays relative at cond imm to row v → AreLinks row ps mul reg
    → meaning at (part.Branch v) ps ≡ instruction.Branch (record { cond = cond; relative = relative; register = reg; add = to; mul = mul; immediate = imm })
unfolding meaning branch_of_part
branch_means relative at cond imm to mul row reg v ps says are =
    let m = links_mean row ps mul reg are in
    ap (λ z. instruction.Branch z)
    (same_branch (record { cond = cond; relative = relative; register = reg; add = to; mul = mul; immediate = imm }) (branch_condition_in v.suffix) v.relative
    (option_or (target_row v.target.core) (first_told row_part ps)) (place_of v.to.core) (link_in ps) (distance v.relative at v.target.core)
    says.condition says.relative_is (ap (λ (z : Option ℕ). option_or z (first_told row_part ps)) says.jump.adds_row ∙ m.1) (place_by (target_place v.to.core) to _ says.place) m.0
    (relative_distance v.relative relative at imm v.target.core says.relative_is says.jump.goes))

-- no fault

link_marked : (o : Option Place) (to : Place) (t : Token) (ms : List Mark) → o ≡ Some to → is_link_address (address_of to) ≡ true → place_mark (if_link o) t ms ≡ mark (what.Writes to) t ms
link_marked o to t ms e f = rw (e, f) refl

first_clean : (g : Given) (relative : Bool) (at cond imm : ℕ) (to : Place) (row : Option ℕ) (v : BranchPart) → is_link_address (address_of to) ≡ true → BranchSays relative at cond imm to row v
    → Clean (Only to) g (part_marks false [] (part.Branch v))
unfolding part_marks jumping_marks
first_clean g relative at cond imm to row v fits says =
    let w = clean_first g to v.to.token [] (clean_start NoTarget g) in
    rw (says.marks [], link_marked (target_place v.to.core) to v.to.token [] says.place fits, says.jump.marks (mark (what.Writes to) v.to.token [])) w

rest_clean : (W : Place → Type 0) (g : Given) (row : Option ℕ) (ps : List Part) (to : Place) (reg : Option ℕ) (ms : List Mark) → AreLinks row ps to reg → is_nowhere to ≡ true → Clean W g ms
    → Clean W g (fold (part_marks true) ms ps)
unfolding part_marks
rest_clean W g row ps to reg ms nothing e c = c
rest_clean W g row ps to reg ms (linked f is some more) e c = absurd (never (sym some ∙ e))
rest_clean W g row ps to reg ms (added {ps = qs} f more) e c = rest_clean W g row qs to None _ more e (rw f c)

links_clean : (g : Given) (a : Place) (row : Option ℕ) (ps : List Part) (to : Place) (reg : Option ℕ) (ms : List Mark) → AreLinks row ps to reg → is_link_address (address_of to) ≡ true → cross a to ≡ false
    → Clean (Only a) g ms → (W : Place → Type 0) × Clean W g (fold (part_marks true) ms ps)
unfolding part_marks
links_clean g a row ps to reg ms nothing fits apart c = (Only a, c)
links_clean g a row ps to reg ms (linked {n = n} {t = t} {p = p} {ps = qs} f is some more) fits apart c =
    let w = clean_second (Only a) g to t ms (λ q e. subst (λ (z : Place). cross z to ≡ false) (sym e) apart) c in
    let own : Clean AnyTarget g (part_marks true ms p) = rw (f, link_marked (target_meant n) to t ms is fits) w in
    (AnyTarget, rest_clean AnyTarget g row qs (place.Both 39) reg (part_marks true ms p) more refl own)
links_clean g a row ps to reg ms (added {p = p} {ps = qs} f more) fits apart c =
    let own : Clean (Only a) g (part_marks true ms p) = rw f c in
    links_clean g a row qs to None (part_marks true ms p) more fits apart own

-- the whole line

branch_line : (at : ℕ) (b : Branch) (row : Option ℕ) (v : BranchPart) (ps : List Part) (t : SectionTokens) (ts : List SectionTokens) → IsBranch b → BranchSays b.relative at b.cond b.immediate b.add row v
    → AreLinks row ps b.mul b.register → Reads [] (t ∷ ts) (part.Branch v ∷ ps) → IsLine at (instruction.Branch b) (t ∷ ts)
branch_line at b row v ps t ts is says are reads =
    let apart : cross b.add b.mul ≡ false = no_cross (is_exchanged_branch b) b.add b.mul is.add_to is.mul_to in
    let c = links_clean nothing_given b.add row ps b.mul b.register (part_marks false [] (part.Branch v)) are is.mul apart (first_clean nothing_given b.relative at b.cond b.immediate b.add row v is.add says) in
    record {
      first = part.Branch v;
      later = ps;
      reads = reads;
      clean = rw (marks_are (part.Branch v) ps) (no_fault c.0 nothing_given _ c.1);
      says = branch_means b.relative at b.cond b.immediate b.add b.mul row b.register v ps says are;
    }

lines_are : (at : ℕ) (o : Option ℕ) (b : Branch) (c t x : List Symbol) (os : List (List Symbol)) (row : Option ℕ) (u : SectionTokens) (ts : List SectionTokens) (y : Placed) (rest : List Placed) → IsBranch b
    → SpellsBranchCondition c b.cond → SpellsTarget t b.add → SpellsJump b.relative at o x b.immediate row → SpellsLinks row os b.mul b.register → PartsThere os
    → u.tokens ≡ y ∷ rest → y.symbol ≡ symbol.Name (branch_name b.relative) → Spelled (c ++ (t ++ symbol.Comma ∷ x)) rest [] → AreSections os ts
    → (has_label rest ≡ true → o ≡ label_in rest) → IsLine at (instruction.Branch b) (u ∷ ts)
lines_are at o b c t x os row u ts y rest is condition target goes links real whole named spelled are found =
    let r = branch_read b.relative at b.cond b.immediate o c t x b.add row y.token u.end rest condition target goes spelled found in
    let first : part_after [] u.end (y ∷ rest) ≡ Ok (part.Branch r.0) =
    after_step [] y.symbol y.token u.end rest (branch_name b.relative) (part.Branch r.0) named (due_first (branch_name b.relative) (branch_begins b.relative)) r.1 in
    let own : part_after [] u.end u.tokens ≡ Ok (part.Branch r.0) = ap (λ (z : List Placed). part_after [] u.end z) whole ∙ first in
    let l = links_read r.0 row os b.mul b.register [] ts links r.2.jump.free (λ e. refl) (no_row row b.register) real are in
    branch_line at b row r.0 l.parts u ts is r.2 l.are (own, l.reads)
  where
    no_row : (row reg : Option ℕ) → FreeRow [] row reg
    no_row row None = tt
    no_row row (Some n) = λ e. refl

sections_by : (at : ℕ) (end : Token) (xs : List Placed) (b : Branch) (c t x : List Symbol) (os : List (List Symbol)) (row : Option ℕ) (ts : List SectionTokens) → IsBranch b
    → SpellsBranchCondition c b.cond → SpellsTarget t b.add → SpellsJump b.relative at (label_in xs) x b.immediate row → SpellsLinks row os b.mul b.register → PartsThere os
    → sections_of end xs ≡ ts → AreSections ((symbol.Name (branch_name b.relative) ∷ c ++ (t ++ symbol.Comma ∷ x)) ∷ os) ts → IsLine at (instruction.Branch b) ts
sections_by at end xs b c t x os row [] is condition target goes links real cut are = absurd are
sections_by at end xs b c t x os row (u ∷ ts) is condition target goes links real cut are =
    by_tokens u.tokens refl are.0
  where
    by_tokens : (ys : List Placed) → u.tokens ≡ ys → Spelled (symbol.Name (branch_name b.relative) ∷ c ++ (t ++ symbol.Comma ∷ x)) ys [] → IsLine at (instruction.Branch b) (u ∷ ts)
    by_tokens [] e h = absurd h
    by_tokens (y ∷ rest) e h =
        let k = is_cut end [] [] xs in
        let same : k.first ∷ k.more ≡ u ∷ ts = sym k.same ∙ (sym (sections_are end xs) ∙ cut) in
        let head : k.first ≡ u = cc in
        let tokens : k.first.tokens ≡ y ∷ rest = ap (λ (z : SectionTokens). z.tokens) head ∙ e in
        let found : has_label rest ≡ true → label_in xs ≡ label_in rest =
        λ f.
        (let o = skip_one y rest (ap is_colon h.0) f in
        let has : has_label k.first.tokens ≡ true = ap has_label tokens ∙ o.0 in
        cut_label xs k.first k.more k.cut has ∙ (ap label_in tokens ∙ o.1)) in
        lines_are at (label_in xs) b c t x os row u ts y rest is condition target goes links real e h.0 h.1 are.1 found

branch_plain : (relative : Bool) (at : ℕ) (o : Option ℕ) (c t x : List Symbol) (cond imm : ℕ) (to : Place) (row : Option ℕ) → SpellsBranchCondition c cond → SpellsTarget t to → SpellsJump relative at o x imm row
    → Plain (c ++ (t ++ symbol.Comma ∷ x))
branch_plain relative at o c t x cond imm to row condition target goes =
    let cs = taken_said c cond condition in
    plain_append c (t ++ symbol.Comma ∷ x) (subst Plain (sym cs.is) (opt_plain cs.o)) (plain_append t (symbol.Comma ∷ x) (target_plain t to target) (refl, jump_plain relative at o x imm row goes))

branch_read_by : (at : ℕ) (end : Token) (xs : List Placed) (b : Branch) (c t x : List Symbol) (os : List (List Symbol)) (row : Option ℕ) → IsBranch b
    → SpellsBranchCondition c b.cond → SpellsTarget t b.add → SpellsJump b.relative at (label_in xs) x b.immediate row → SpellsLinks row os b.mul b.register
    → PartsThere ((symbol.Name (branch_name b.relative) ∷ c ++ (t ++ symbol.Comma ∷ x)) ∷ os)
    → symbols_of xs ≡ joined ((symbol.Name (branch_name b.relative) ∷ c ++ (t ++ symbol.Comma ∷ x)) ∷ os) → read_line at end xs ≡ Ok (Says (instruction.Branch b))
branch_read_by at end xs b c t x os row is condition target goes links real e =
    let more = links_shaped row os b.mul b.register links in
    line_read_by at end (branch_name b.relative) (c ++ (t ++ symbol.Comma ∷ x)) os xs (instruction.Branch b)
    (branch_plain b.relative at (label_in xs) c t x b.cond b.immediate b.add row condition target goes) more.0 (branch_mnemonic b.relative) more.1
    (spelled_map xs ((symbol.Name (branch_name b.relative) ∷ c ++ (t ++ symbol.Comma ∷ x)) ++ behind_first os) e)
    (λ ts cut are. sections_by at end xs b c t x os row ts is condition target goes links real.1 cut are)

pub branch_line_read : (at : ℕ) (end : Token) (parts : List (List Symbol)) (b : Branch) (xs : List Placed) → SpellsBranch at (label_in xs) parts b → IsBranch b → PartsThere parts → symbols_of xs ≡ joined parts
    → read_line at end xs ≡ Ok (Says (instruction.Branch b))
branch_line_read at end parts b xs (branch {c = c} {t = t} {x = x} {xs = os} {row = row} condition target goes links) is real e =
    branch_read_by at end xs b c t x os row is condition target goes links real e
