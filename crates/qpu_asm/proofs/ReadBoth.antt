-- A line whose symbols spell an instruction of both units is read as it.
use Rattle.std.proofs.Common.{◌≡◌, ℕ, Bool, true, false, List, [], ◌∷◌, ◌++◌, fold, Option, Some, None, Ok, refl, sym, subst, ap, ◌∙◌, arith}
use Rattle.std.proofs.lemmas.List.Sums.{fold-append}
use Rattle.std.specs.Prelude.{◌&&◌, ◌||◌, ◌==◌, not, nat_le, IfSome, IsSomeAnd, is_some, unwrap_or}
use Rattle.std.specs.List.{list_any}
use Rattle.qpu_token.specs.declared.token.Token.{Token}
use Rattle.qpu_word.specs.declared.name.Place.{Place}
use Rattle.qpu_line.specs.declared.operand.Operand.{Operand}
use Rattle.qpu_line.specs.declared.operand.Operand.TheVariants as operand
use Rattle.qpu_line.specs.declared.part.Part.{Part as UnitDoes}
use Rattle.qpu_line.specs.declared.units.Signal.{Signal}
use Rattle.qpu_line.specs.declared.units.Signal.TheVariants as signal
use Rattle.qpu_line.specs.declared.units.Units.{Units}
use Rattle.qpu_line.specs.declared.slots.UnitFields.{UnitFields}
use Rattle.qpu_line.specs.declared.instruction.Instruction.TheVariants as instruction
use Rattle.qpu_line.specs.declared.name.Name.{Name}
use Rattle.qpu_line.specs.declared.name.Name.TheVariants as name
use Rattle.qpu_line.specs.declared.symbol.Symbol.{Symbol}
use Rattle.qpu_line.specs.declared.symbol.Symbol.TheVariants as symbol
use Rattle.qpu_line.specs.Both.{IsOperand, IsPart, IsBoth}
use Rattle.qpu_line.specs.Units.{fields_of_units, any_uses, signal_of, other_read}
use Rattle.qpu_line.specs.Named.{IsAddPart, IsMulPart, IsNamedSignal, CanTurn, is_turned, IsNamed}
use Rattle.qpu_asm.specs.declared.placed.Placed.{Placed}
use Rattle.qpu_asm.specs.declared.part.UnitPart.{UnitPart}
use Rattle.qpu_asm.specs.declared.part.Part.{Part}
use Rattle.qpu_asm.specs.declared.part.Part.TheVariants as part
use Rattle.qpu_asm.specs.declared.mark.What.TheVariants as what
use Rattle.qpu_asm.specs.declared.mark.Mark.{Mark}
use Rattle.qpu_asm.specs.Roles.{op_in_add, op_in_mul, is_mnemonic}
use Rattle.qpu_asm.specs.Forms.{begins}
use Rattle.qpu_asm.specs.reader.Orders.{is_unit, is_signal, is_rotation as is_rotation_part, is_read_a, is_read_b, due}
use Rattle.qpu_asm.specs.SectionTokens.{SectionTokens}
use Rattle.qpu_asm.specs.reader.Sections.{part_after}
use Rattle.qpu_asm.specs.reader.Marks.{mark, mark_if, suffix_marks, pack_marks, target_marks, operand_marks, unit_marks, target_place, part_marks, marks_of}
use Rattle.qpu_asm.specs.reader.Judging.{line_fault}
use Rattle.qpu_asm.specs.reader.Meanings.{place_of, pack_in, operand_of, condition_at, unit_of, unit_does, unit_sets, signal_in, address_a, address_b, reads_by, first_told, other_a_part, other_b_part, unless, units_of_parts}
use Rattle.qpu_asm.specs.SpelledPieces.{name_alone}
use Rattle.qpu_asm.specs.Spells.{SpellsAdd, SpellsMul, SpellsOthers, by_a, by_b, by_part, IsOther, SpellsUnits}
use Rattle.qpu_asm.specs.Spells.SpellsAdd.{idle as add_idle, active as add_active}
use Rattle.qpu_asm.specs.Spells.SpellsMul.{absent as mul_absent, idle as mul_idle, active as mul_active}
use Rattle.qpu_asm.specs.Spells.IsOther.{other, none as other_none, superfluous}
use Rattle.qpu_asm.specs.Spells.SpellsUnits.{units}
use Rattle.qpu_asm.specs.declared.line.Line.TheVariants.{Says as LineSays}
use Rattle.qpu_asm.specs.Laws.{symbols_of}
use Rattle.qpu_asm.specs.reader.LinesRead.{read_line}
use Rattle.qpu_asm.specs.Spells.{behind_first, joined}
use Rattle.qpu_asm.proofs.AgainSpelled.{Spelled, spelled_map, never}
use Rattle.qpu_asm.proofs.AgainPieces.{place_by}
use Rattle.qpu_asm.proofs.AgainSections.{Plain, AllPlain, AllBegin, AreSections, Reads, IsLine, line_read}
use Rattle.qpu_asm.proofs.AgainForms.{due_first, due_behind, are_append, reads_append, plain_both, begin_both}
use Rattle.qpu_asm.proofs.AgainMarks.{Given, Clean, clean_start, clean_first, clean_second, clean_if, NoTarget, AnyTarget, Only, no_fault, marks_are}
use Rattle.qpu_asm.proofs.AgainSources.{Holds, target_marks_are}
use Rattle.qpu_asm.proofs.AgainHeld.{given_of, holds_of, is_rotation, rotation_held, signal_held, other_held}
use Rattle.qpu_asm.proofs.AgainUnitParts.{not_true, same_part}
use Rattle.qpu_asm.proofs.AgainBoth.{head_part, head_mul, nop_step}
use Rattle.qpu_asm.proofs.AgainBothSays.{same_units, head_meaning}
use Rattle.qpu_asm.proofs.AgainBothClean.{two_true, turned_by, AddTarget, mul_apart}
use Rattle.qpu_asm.proofs.ProperParts.{Each, each_append}
use Rattle.qpu_asm.proofs.LineLaw.{units_by, alone_units}
use Rattle.qpu_asm.proofs.SpellsBoth.{some_read, both_reads, some_a, some_b}
use Rattle.qpu_asm.proofs.ReadPieces.{sets_said, suffixes_clean, operand_clean, operand_means}
use Rattle.qpu_asm.proofs.ReadParts.{IsSection, section_read, UnitSays, IsUnit, UnitSection, unit_reads, add_ops, mul_ops}
use Rattle.qpu_asm.proofs.ReadOthers.{FreeSignal, FreeRead, others_read, AreOthers, OthersMean, others_mean, FitsSignal, FitsA, FitsB, others_clean, section_plain, section_begins, others_shaped}

-- a unit's part

unit_clean : (W V : Place → Type 0) (g : Given) (mul : Bool) (has : Name → Option ℕ) (sets : Bool) (p : UnitDoes) (v : UnitPart) (ms : List Mark)
    → ((t : Token) (ns : List Mark) → Clean W g ns → Clean V g (mark (what.Writes p.to) t ns))
    → (mul ≡ false → g.adds ≡ true) → (mul ≡ true → sets ≡ true → g.adds ≡ false)
    → Holds g mul p.a → Holds g mul p.b → UnitSays has sets p v → Clean W g ms → Clean V g (unit_marks mul v ms)
unfolding unit_marks
unit_clean W V g mul has sets p v ms step adds fits first second says c =
    let start : List Mark = mark_if (not mul) what.Adds v.token ms in
    let begun : Clean W g start = clean_if W g (not mul) what.Adds v.token ms (λ is. adds (not_true mul is)) c in
    let behind : List Mark = suffix_marks mul v.suffixes start in
    let suffixed : Clean W g behind = suffixes_clean W g mul says.o sets v.suffixes start says.condition fits says.suffixes begun in
    let written : Clean V g (mark (what.Writes p.to) v.to.token behind) = step v.to.token behind suffixed in
    let packed : Clean V g (pack_marks (Some p.to) v.to.suffix (mark (what.Writes p.to) v.to.token behind)) =
    subst (λ (z : List Mark). Clean V g z) (sym (says.packs (mark (what.Writes p.to) v.to.token behind))) written in
    let target : Clean V g (target_marks v.to behind) = subst (λ (z : List Mark). Clean V g z) (sym (target_marks_are v.to p.to behind says.place)) packed in
    let one : Clean V g (operand_marks mul v.a (target_marks v.to behind)) = operand_clean V g mul p.a v.a (target_marks v.to behind) says.a first target in
    operand_clean V g mul p.b v.b (operand_marks mul v.a (target_marks v.to behind)) says.b second one

unit_means : (has : Name → Option ℕ) (sets : Bool) (n : ℕ) (p : UnitDoes) (v : UnitPart) → n ≡ p.op → UnitSays has sets p v → unit_of n v ≡ p
unfolding unit_of
unit_means has sets n p v is says =
    let to : place_of v.to.core ≡ p.to = place_by (target_place v.to.core) p.to _ says.place in
    same_part p n (condition_at (place_of v.to.core) v.suffixes.first) (pack_in v.to.suffix) (place_of v.to.core) (operand_of v.a) (operand_of v.b) is
    (ap (λ (z : Place). condition_at z v.suffixes.first) to ∙ says.cond) to says.pack (operand_means p.a v.a says.a) (operand_means p.b v.b says.b)

abbrev Says : (Name → Option ℕ) → Bool → Option UnitDoes → Option UnitPart → Type 0
Says has sets None o = (o ≡ None) × (sets ≡ false)
Says has sets (Some p) o = (v : UnitPart) × (o ≡ Some v) × UnitSays has sets p v

code_of_op : (o : Option ℕ) (n : ℕ) → o ≡ Some n → unwrap_or o 0 ≡ n
code_of_op o n e = rw e refl

does_means : (has : Name → Option ℕ) (sets : Bool) (d : Option UnitDoes) (o : Option UnitPart) → Says has sets d o → unit_does has o ≡ d
does_means has sets None o says = rw says.0 refl
does_means has sets (Some p) o says =
    ap (unit_does has) says.1 ∙ ap (λ z. Some z) (unit_means has sets (unwrap_or (has says.0.op) 0) p says.0 (code_of_op (has says.0.op) p.op says.2.named) says.2)

sets_mean : (has : Name → Option ℕ) (sets : Bool) (d : Option UnitDoes) (o : Option UnitPart) → Says has sets d o → unit_sets o ≡ sets
sets_mean has sets None o says = rw (says.0, says.1) refl
sets_mean has sets (Some p) o says = ap unit_sets says.1 ∙ sets_said says.2.o sets says.0.suffixes says.2.condition says.2.suffixes

-- the first section

record HeadRead (x : List Symbol) (sets : Bool) (o : Option UnitDoes) : Type 0 where
  n : Name
  h : List Symbol
  is : x ≡ symbol.Name n ∷ h
  plain : Plain h
  mnemonic : is_mnemonic n ≡ true
  reads : (t : SectionTokens) → Spelled x t.tokens [] → (f : Option UnitPart) × (part_after [] t.end t.tokens ≡ Ok (head_part f)) × Says op_in_add sets o f

add_begins : (n : Name) (op : ℕ) → op_in_add n ≡ Some op → begins n ≡ true
add_begins (name.Add a) op e = refl
add_begins name.Mov op e = refl
add_begins _ op e = absurd (grind (arith, e))

nop_section : IsSection (λ p. p ≡ part.Nop) (name_alone name.Nop)
nop_section = record { n = name.Nop; h = []; is = refl; plain = tt; mnemonic = refl; reads = λ token end rest g. (part.Nop, nop_step token end rest g, refl) }

nop_read : (t : SectionTokens) (earlier : List Part) → Spelled (name_alone name.Nop) t.tokens [] → due earlier name.Nop ≡ true → part_after earlier t.end t.tokens ≡ Ok part.Nop
unfolding nop_section
nop_read t earlier g d =
    let r = section_read (λ p. p ≡ part.Nop) (name_alone name.Nop) nop_section earlier t g d in r.1 ∙ ap (λ z. Ok z) r.2

head_read : (x : List Symbol) (sets : Bool) (o : Option UnitDoes) → SpellsAdd x sets o → HeadRead x sets o
head_read x sets o add_idle = record {
  n = name.Nop;
  h = [];
  is = refl;
  plain = tt;
  mnemonic = refl;
  reads = λ t g. (None, nop_read t [] g (due_first name.Nop refl), (refl, refl));
}
head_read x sets o (add_active {p = p} spells) =
    let u : UnitSection op_in_add sets p x = unit_reads op_in_add x sets p add_ops spells in
    record {
      n = u.section.n;
      h = u.section.h;
      is = u.section.is;
      plain = u.section.plain;
      mnemonic = u.section.mnemonic;
      reads = λ t g.
          (let r = section_read (IsUnit op_in_add sets p) x u.section [] t g (due_first u.section.n (add_begins u.section.n p.op u.named)) in
          (Some r.2.0, r.1 ∙ ap (λ z. Ok z) r.2.1, (r.2.0, refl, r.2.2)));
    }

-- the mul unit's section

data MulParts : List Part → Option UnitPart → Type 0 where
  no_part : MulParts [] None
  nop_part : MulParts (part.Nop ∷ []) None
  unit_part : {v : UnitPart} → MulParts (part.Unit v ∷ []) (Some v)

record MulRead (f : Option UnitPart) (ts : List SectionTokens) (sets : Bool) (o : Option UnitDoes) : Type 0 where
  parts : List Part
  second : Option UnitPart
  reads : Reads (head_part f ∷ []) ts parts
  are : MulParts parts second
  says : Says op_in_mul sets o second

no_head : (sets : Bool) (add : Option UnitDoes) (f : Option UnitPart) → add ≡ None → Says op_in_add sets add f → f ≡ None
no_head sets None f e says = says.0
no_head sets (Some p) f e says = absurd (grind (arith, e))

nop_due : (f : Option UnitPart) → f ≡ None → due (head_part f ∷ []) name.Nop ≡ true
nop_due f e = let P : Option UnitPart → Type 0 = λ z. due (head_part z ∷ []) name.Nop ≡ true in subst P (sym e) (due_behind part.Nop [] name.Nop refl)

mul_read : (add_sets : Bool) (add : Option UnitDoes) (f : Option UnitPart) (m : List (List Symbol)) (sets : Bool) (o : Option UnitDoes) (ts : List SectionTokens) → SpellsMul add m sets o
    → Says op_in_add add_sets add f → AreSections m ts → MulRead f ts sets o
mul_read add_sets add f m sets o [] mul_absent head are = record { parts = []; second = None; reads = tt; are = no_part; says = (refl, refl) }
mul_read add_sets add f m sets o (t ∷ ts) mul_absent head are = absurd are
mul_read add_sets add f m sets o [] (mul_idle e) head are = absurd are
mul_read add_sets add f m sets o (t ∷ []) (mul_idle e) head are = record {
  parts = part.Nop ∷ [];
  second = None;
  reads = (nop_read t (head_part f ∷ []) are.0 (nop_due f (no_head add_sets add f e head)), tt);
  are = nop_part;
  says = (refl, refl);
}
mul_read add_sets add f m sets o (t ∷ u ∷ ts) (mul_idle e) head are = absurd are.1
mul_read add_sets add f m sets o [] (mul_active {x = x} {p = p} spells once) head are = absurd are
mul_read add_sets add f m sets o (t ∷ []) (mul_active {x = x} {p = p} spells once) head are =
    let u : UnitSection op_in_mul sets p x = unit_reads op_in_mul x sets p mul_ops spells in
    let r = section_read (IsUnit op_in_mul sets p) x u.section (head_part f ∷ []) t are.0 (due_behind (head_part f) [] u.section.n (head_mul f u.section.n p.op u.named)) in
    record { parts = part.Unit r.2.0 ∷ []; second = Some r.2.0; reads = (r.1 ∙ ap (λ z. Ok z) r.2.1, tt); are = unit_part; says = (r.2.0, refl, r.2.2) }
mul_read add_sets add f m sets o (t ∷ u ∷ ts) (mul_active {x = x} {p = p} spells once) head are = absurd are.1

mul_shaped : (add : Option UnitDoes) (m : List (List Symbol)) (sets : Bool) (o : Option UnitDoes) → SpellsMul add m sets o → AllPlain m × AllBegin m
mul_shaped add m sets o mul_absent = (tt, tt)
mul_shaped add m sets o (mul_idle e) = (((refl, tt), tt), ((name.Nop, refl, refl), tt))
mul_shaped add m sets o (mul_active {x = x} {p = p} spells once) =
    let u : UnitSection op_in_mul sets p x = unit_reads op_in_mul x sets p mul_ops spells in
    ((section_plain (IsUnit op_in_mul sets p) x u.section, tt), (section_begins (IsUnit op_in_mul sets p) x u.section, tt))

-- what may stand behind

quiet_parts : (parts : List Part) (second : Option UnitPart) → MulParts parts second
    → (list_any is_signal parts ≡ false) × (list_any is_rotation_part parts ≡ false) × (list_any is_read_a parts ≡ false) × (list_any is_read_b parts ≡ false)
quiet_parts parts second no_part = (refl, refl, refl, refl)
quiet_parts parts second nop_part = (refl, refl, refl, refl)
quiet_parts parts second unit_part = (refl, refl, refl, refl)

unit_there : (parts : List Part) (second : Option UnitPart) → MulParts parts second → (sets : Bool) (o : Option UnitDoes) → Says op_in_mul sets o second → IsSomeAnd o CanTurn → list_any is_unit parts ≡ true
unit_there parts second no_part sets None says can = absurd can
unit_there parts second nop_part sets None says can = absurd can
unit_there parts second unit_part sets None says can = absurd can
unit_there parts second no_part sets (Some p) says can = absurd (let e = says.1 in cc)
unit_there parts second nop_part sets (Some p) says can = absurd (let e = says.1 in cc)
unit_there parts second unit_part sets (Some p) says can = refl

free_behind : (parts : List Part) (second : Option UnitPart) (sets : Bool) (o : Option UnitDoes) (s : Signal) → MulParts parts second → Says op_in_mul sets o second → IsNamedSignal s o → FreeSignal parts s
free_behind parts second sets o signal.Nothing are says named = tt
free_behind parts second sets o signal.End are says named = (quiet_parts parts second are).0
free_behind parts second sets o signal.Load0 are says named = (quiet_parts parts second are).0
free_behind parts second sets o signal.Load1 are says named = (quiet_parts parts second are).0
free_behind parts second sets o (signal.Rotate code) are says named = (unit_there parts second are sets o says named.1, (quiet_parts parts second are).1)

free_none : (kind : Part → Bool) (parts : List Part) (o : Option ℕ) → list_any kind parts ≡ false → FreeRead kind parts o
free_none kind parts None e = tt
free_none kind parts (Some n) e = e

-- the meaning of the whole

units_are : (f : Option UnitPart) (parts : List Part) (second : Option UnitPart) (ps : List Part) (s : Signal) (a b : Option ℕ) → MulParts parts second → OthersMean ps s a b
    → units_of_parts f (parts ++ ps) ≡ units_by f second ps
unfolding units_of_parts
units_are f parts second ps s a b no_part m = alone_units f ps m.alone
units_are f parts second ps s a b nop_part m = alone_units f (part.Nop ∷ ps) refl
units_are f parts second ps s a b unit_part m = refl

other_means : (reads : List ℕ) (w o : Option ℕ) (c : Bool) → IsOther reads w o → some_read reads ≡ c → unless c w ≡ o
other_means reads w o c is e = subst (λ (z : Bool). unless z w ≡ o) e (by_kind reads w o is)
  where
    by_kind : (reads : List ℕ) (w o : Option ℕ) → IsOther reads w o → unless (some_read reads) w ≡ o
    by_kind reads w o other = refl
    by_kind reads w o other_none = refl
    by_kind reads w o superfluous = refl

-- the fields hold what operands read

each_operand_a : (s : UnitFields) (o : Operand) → IsOperand s o → Each (λ n. s.raddr_a ≡ n) (by_a o)
each_operand_a s (operand.FileA n u) is = (is.0, tt)
each_operand_a s (operand.FileB n) is = tt
each_operand_a s (operand.Accumulator n) is = tt
each_operand_a s (operand.Small code) is = tt

each_operand_b : (s : UnitFields) (o : Operand) → IsOperand s o → Each (λ n. (s.raddr_b ≡ n) × ((s.sig == 13) ≡ false)) (by_b o)
each_operand_b s (operand.FileA n u) is = tt
each_operand_b s (operand.FileB n) is = (is, tt)
each_operand_b s (operand.Accumulator n) is = tt
each_operand_b s (operand.Small code) is = tt

each_part : (P : ℕ → Type 0) (by : Operand → List ℕ) (s : UnitFields) (in_b : Bool) (o : Option UnitDoes) → ((y : Operand) → IsOperand s y → Each P (by y)) → IfSome o (IsPart s in_b) → Each P (by_part by o)
each_part P by s in_b None f is = tt
each_part P by s in_b (Some p) f is = each_append P (by p.a) (by p.b) (f p.a is.first) (f p.b is.second)

abbrev IfRead : (ℕ → Type 0) → Option ℕ → Type 0
IfRead P None = Unit {0}
IfRead P (Some n) = P n

written_held : (P : ℕ → Type 0) (reads : List ℕ) (w o : Option ℕ) → IsOther reads w o → Each P reads → IfRead P o → IfRead P w
written_held P reads w o other each is = is
written_held P reads w o other_none each is = tt
written_held P reads w o superfluous each is = each.0

held_a : (s : UnitFields) (named : Bool) (o : Option ℕ) → other_read named s.raddr_a ≡ o → IfRead (λ n. s.raddr_a ≡ n) o
held_a s named None e = tt
held_a s named (Some n) e = (other_held named s.raddr_a n e).1

or_first : (x y : Bool) → (x || y) ≡ false → x ≡ false
or_first true y e = absurd cc
or_first false y e = refl

held_b : (s : UnitFields) (named : Bool) (o : Option ℕ) → other_read ((s.sig == 13) || named) s.raddr_b ≡ o → IfRead (λ n. (s.raddr_b ≡ n) × ((s.sig == 13) ≡ false)) o
held_b s named None e = tt
held_b s named (Some n) e = let r = other_held ((s.sig == 13) || named) s.raddr_b n e in (r.1, or_first (s.sig == 13) named r.0)

fits_a : (s : UnitFields) (adds turns : Bool) (o : Option ℕ) → IfRead (λ n. s.raddr_a ≡ n) o → FitsA (given_of s adds turns) o
fits_a s adds turns None is = tt
fits_a s adds turns (Some n) is = is

fits_b : (s : UnitFields) (adds turns : Bool) (o : Option ℕ) → IfRead (λ n. (s.raddr_b ≡ n) × ((s.sig == 13) ≡ false)) o → FitsB (given_of s adds turns) o
fits_b s adds turns None is = tt
fits_b s adds turns (Some n) is = is

fits_signal : (s : UnitFields) (adds : Bool) (g : Signal) → signal_of s.sig s.raddr_b ≡ g → FitsSignal (given_of s adds (is_rotation g)) g
fits_signal s adds signal.Nothing e = tt
fits_signal s adds signal.End e = signal_held s.sig s.raddr_b signal.End e refl
fits_signal s adds signal.Load0 e = signal_held s.sig s.raddr_b signal.Load0 e refl
fits_signal s adds signal.Load1 e = signal_held s.sig s.raddr_b signal.Load1 e refl
fits_signal s adds (signal.Rotate code) e = ((rotation_held s.sig s.raddr_b (signal.Rotate code) e refl).0, refl)

-- no fault in the units' parts

head_clean : (s : UnitFields) (in_b sets adds turns : Bool) (o : Option UnitDoes) (f : Option UnitPart) → is_some o ≡ adds → (turns ≡ true → nat_le 48 s.raddr_b ≡ true)
    → IfSome o IsAddPart → IfSome o (IsPart s in_b) → Says op_in_add sets o f → Clean (AddTarget o) (given_of s adds turns) (part_marks false [] (head_part f))
unfolding part_marks
head_clean s in_b sets adds turns None f some far named held says = rw says.0 (clean_start NoTarget (given_of s adds turns))
head_clean s in_b sets adds turns (Some p) f some far named held says =
    let g : Given = given_of s adds turns in
    let first = holds_of s adds turns false p.a held.first named.part.a (λ t m. absurd (never m)) far in
    let second = holds_of s adds turns false p.b held.second named.part.b (λ t m. absurd (never m)) far in
    rw says.1
    (unit_clean NoTarget (Only p.to) g false op_in_add sets p says.0 [] (λ t ns c. clean_first g p.to t ns c) (λ e. sym some) (λ m. absurd (never m)) first second says.2 (clean_start NoTarget g))

second_sets : (add : Option UnitDoes) (m : List (List Symbol)) (sets : Bool) (o : Option UnitDoes) → SpellsMul add m sets o → sets ≡ true → is_some add ≡ false
second_sets add m sets o mul_absent e = absurd (never e)
second_sets add m sets o (mul_idle none) e = absurd (never e)
second_sets add m sets o (mul_active spells once) e = by_sets sets (is_some add) e once
  where
    by_sets : (b c : Bool) → b ≡ true → (b && c) ≡ false → c ≡ false
    by_sets true c e once = once
    by_sets false c e once = absurd (never e)

mul_clean : (s : UnitFields) (sets turns : Bool) (add o : Option UnitDoes) (parts : List Part) (second : Option UnitPart) (ms : List Mark) → (turns ≡ true → nat_le 48 s.raddr_b ≡ true)
    → (turns ≡ true → IsSomeAnd o CanTurn) → (sets ≡ true → is_some add ≡ false) → IfSome add (IsPart s (s.ws == 1)) → IfSome o IsMulPart → IfSome o (IsPart s (not (s.ws == 1)))
    → MulParts parts second → Says op_in_mul sets o second → Clean (AddTarget add) (given_of s (is_some add) turns) ms
    → (W : Place → Type 0) × Clean W (given_of s (is_some add) turns) (fold (part_marks true) ms parts)
unfolding part_marks
mul_clean s sets turns add o parts second ms far turn alone held_add named held no_part says c = (AddTarget add, c)
mul_clean s sets turns add o parts second ms far turn alone held_add named held nop_part says c = (AddTarget add, c)
mul_clean s sets turns add None parts second ms far turn alone held_add named held unit_part says c = absurd (let e = says.0 in cc)
mul_clean s sets turns add (Some p) parts second ms far turn alone held_add named held (unit_part {v = v}) says c =
    let g : Given = given_of s (is_some add) turns in
    let first = holds_of s (is_some add) turns true p.a held.first named.part.a (λ t e. (two_true (is_turned p.a) (is_turned p.b) (turn t)).0) far in
    let other = holds_of s (is_some add) turns true p.b held.second named.part.b (λ t e. (two_true (is_turned p.a) (is_turned p.b) (turn t)).1) far in
    let written : (t : Token) (ns : List Mark) → Clean (AddTarget add) g ns → Clean AnyTarget g (mark (what.Writes p.to) t ns) =
    λ t ns d. clean_second (AddTarget add) g p.to t ns (mul_apart s add p.to held_add held.target) d in
    let same : says.0 ≡ v = (let e : Some v ≡ Some says.0 = says.1 in cc) in
    let whole = unit_clean (AddTarget add) AnyTarget g true op_in_mul sets p says.0 ms written (λ e. absurd (never (sym e))) (λ e f. alone f) first other says.2 c in
    (AnyTarget, subst (λ (z : UnitPart). Clean AnyTarget g (unit_marks true z ms)) same whole)

-- the whole line

units_mean : (f second : Option UnitPart) (ps : List Part) (u : Units) (add_sets mul_sets : Bool) (read_a read_b : Option ℕ) → Says op_in_add add_sets u.add f → Says op_in_mul mul_sets u.mul second
    → OthersMean ps u.signal read_a read_b → (add_sets || mul_sets) ≡ u.sets → IsOther (by_part by_a u.add ++ by_part by_a u.mul) read_a u.other_a → IsOther (by_part by_b u.add ++ by_part by_b u.mul) read_b u.other_b
    → units_by f second ps ≡ u
units_mean f second ps u add_sets mul_sets read_a read_b first then_ others sets is_a is_b =
    let add : unit_does op_in_add f ≡ u.add = does_means op_in_add add_sets u.add f first in
    let mul : unit_does op_in_mul second ≡ u.mul = does_means op_in_mul mul_sets u.mul second then_ in
    let flags : (unit_sets f || unit_sets second) ≡ u.sets =
    ap (λ (z : Bool). z || unit_sets second) (sets_mean op_in_add add_sets u.add f first) ∙ (ap (λ (z : Bool). add_sets || z) (sets_mean op_in_mul mul_sets u.mul second then_) ∙ sets) in
    let reads_of_a : (reads_by address_a u.add || reads_by address_a u.mul) ≡ (reads_by address_a (unit_does op_in_add f) || reads_by address_a (unit_does op_in_mul second)) =
    sym (ap (λ (z : Option UnitDoes). reads_by address_a z || reads_by address_a (unit_does op_in_mul second)) add ∙ ap (λ (z : Option UnitDoes). reads_by address_a u.add || reads_by address_a z) mul) in
    let reads_of_b : (reads_by address_b u.add || reads_by address_b u.mul) ≡ (reads_by address_b (unit_does op_in_add f) || reads_by address_b (unit_does op_in_mul second)) =
    sym (ap (λ (z : Option UnitDoes). reads_by address_b z || reads_by address_b (unit_does op_in_mul second)) add ∙ ap (λ (z : Option UnitDoes). reads_by address_b u.add || reads_by address_b z) mul) in
    let a : unless (reads_by address_a (unit_does op_in_add f) || reads_by address_a (unit_does op_in_mul second)) read_a ≡ u.other_a =
    other_means (by_part by_a u.add ++ by_part by_a u.mul) read_a u.other_a _ is_a (both_reads by_a address_a u.add u.mul some_a ∙ reads_of_a) in
    let b : unless (reads_by address_b (unit_does op_in_add f) || reads_by address_b (unit_does op_in_mul second)) read_b ≡ u.other_b =
    other_means (by_part by_b u.add ++ by_part by_b u.mul) read_b u.other_b _ is_b (both_reads by_b address_b u.add u.mul some_b ∙ reads_of_b) in
    same_units u (unit_does op_in_add f) (unit_does op_in_mul second) (unit_sets f || unit_sets second) (signal_in ps)
    (unless (reads_by address_a (unit_does op_in_add f) || reads_by address_a (unit_does op_in_mul second)) (first_told other_a_part ps))
    (unless (reads_by address_b (unit_does op_in_add f) || reads_by address_b (unit_does op_in_mul second)) (first_told other_b_part ps))
    add mul flags others.told
    (ap (λ (z : Option ℕ). unless (reads_by address_a (unit_does op_in_add f) || reads_by address_a (unit_does op_in_mul second)) z) others.told_a ∙ a)
    (ap (λ (z : Option ℕ). unless (reads_by address_b (unit_does op_in_add f) || reads_by address_b (unit_does op_in_mul second)) z) others.told_b ∙ b)

both_clean : (u : Units) (f second : Option UnitPart) (parts ps : List Part) (add_sets mul_sets : Bool) (read_a read_b : Option ℕ) → IsBoth u → IsNamed u
    → Says op_in_add add_sets u.add f → MulParts parts second → Says op_in_mul mul_sets u.mul second → (mul_sets ≡ true → is_some u.add ≡ false) → AreOthers ps u.signal read_a read_b
    → IsOther (by_part by_a u.add ++ by_part by_a u.mul) read_a u.other_a → IsOther (by_part by_b u.add ++ by_part by_b u.mul) read_b u.other_b
    → line_fault (marks_of (head_part f ∷ (parts ++ ps))) ≡ None
both_clean u f second parts ps add_sets mul_sets read_a read_b is named first are then_ alone others is_a is_b =
    let s : UnitFields = fields_of_units u in
    let adds : Bool = is_some u.add in
    let turns : Bool = is_rotation u.signal in
    let far : turns ≡ true → nat_le 48 s.raddr_b ≡ true = λ e. (rotation_held s.sig s.raddr_b u.signal is.signal e).1 in
    let start : List Mark = part_marks false [] (head_part f) in
    let one = head_clean s (s.ws == 1) add_sets adds turns u.add f refl far named.add is.add first in
    let two = mul_clean s mul_sets turns u.add u.mul parts second start far (λ e. turned_by u.signal u.mul named.signal e) alone is.add named.mul is.mul are then_ one in
    let A : ℕ → Type 0 = λ n. s.raddr_a ≡ n in
    let B : ℕ → Type 0 = λ n. (s.raddr_b ≡ n) × ((s.sig == 13) ≡ false) in
    let reads_of_a : Each A (by_part by_a u.add ++ by_part by_a u.mul) =
    each_append A (by_part by_a u.add) (by_part by_a u.mul) (each_part A by_a s (s.ws == 1) u.add (each_operand_a s) is.add) (each_part A by_a s (not (s.ws == 1)) u.mul (each_operand_a s) is.mul) in
    let reads_of_b : Each B (by_part by_b u.add ++ by_part by_b u.mul) =
    each_append B (by_part by_b u.add) (by_part by_b u.mul) (each_part B by_b s (s.ws == 1) u.add (each_operand_b s) is.add) (each_part B by_b s (not (s.ws == 1)) u.mul (each_operand_b s) is.mul) in
    let a = fits_a s adds turns read_a (written_held A (by_part by_a u.add ++ by_part by_a u.mul) read_a u.other_a is_a reads_of_a (held_a s (any_uses s 6) u.other_a is.other_a)) in
    let b = fits_b s adds turns read_b (written_held B (by_part by_b u.add ++ by_part by_b u.mul) read_b u.other_b is_b reads_of_b (held_b s (any_uses s 7) u.other_b is.other_b)) in
    let three = others_clean two.0 (given_of s adds turns) ps u.signal read_a read_b (fold (part_marks true) start parts) others (fits_signal s adds u.signal is.signal) a b two.1 in
    rw (marks_are (head_part f) (parts ++ ps), fold-append (part_marks true) start parts ps) (no_fault two.0 (given_of s adds turns) _ three)

both_line : (at : ℕ) (u : Units) (f second : Option UnitPart) (parts ps : List Part) (t : SectionTokens) (ts : List SectionTokens) (add_sets mul_sets : Bool) (read_a read_b : Option ℕ) → IsBoth u → IsNamed u
    → Says op_in_add add_sets u.add f → MulParts parts second → Says op_in_mul mul_sets u.mul second → (mul_sets ≡ true → is_some u.add ≡ false) → AreOthers ps u.signal read_a read_b
    → (add_sets || mul_sets) ≡ u.sets
    → IsOther (by_part by_a u.add ++ by_part by_a u.mul) read_a u.other_a → IsOther (by_part by_b u.add ++ by_part by_b u.mul) read_b u.other_b
    → Reads [] (t ∷ ts) (head_part f ∷ (parts ++ ps)) → IsLine at (instruction.Both u) (t ∷ ts)
both_line at u f second parts ps t ts add_sets mul_sets read_a read_b is named first are then_ alone others sets is_a is_b reads =
    let m = others_mean ps u.signal read_a read_b others in
    record {
      first = head_part f;
      later = parts ++ ps;
      reads = reads;
      clean = both_clean u f second parts ps add_sets mul_sets read_a read_b is named first are then_ alone others is_a is_b;
      says = head_meaning at f (parts ++ ps) ∙ ap (λ (z : Units). instruction.Both z)
          (units_are f parts second ps u.signal read_a read_b are m ∙ units_mean f second ps u add_sets mul_sets read_a read_b first then_ m sets is_a is_b);
    }

lines_are : (at : ℕ) (u : Units) (x : List Symbol) (m xs : List (List Symbol)) (add_sets mul_sets : Bool) (read_a read_b : Option ℕ) (ts : List SectionTokens) → IsBoth u → IsNamed u
    → HeadRead x add_sets u.add → SpellsMul u.add m mul_sets u.mul → SpellsOthers xs u.signal read_a read_b → (add_sets || mul_sets) ≡ u.sets
    → IsOther (by_part by_a u.add ++ by_part by_a u.mul) read_a u.other_a → IsOther (by_part by_b u.add ++ by_part by_b u.mul) read_b u.other_b
    → AreSections (x ∷ (m ++ xs)) ts → IsLine at (instruction.Both u) ts
lines_are at u x m xs add_sets mul_sets read_a read_b [] is named head mul others sets is_a is_b are = absurd are
lines_are at u x m xs add_sets mul_sets read_a read_b (t ∷ ts) is named head mul others sets is_a is_b are =
    let h = head.reads t are.0 in
    let cut = are_append m xs ts are.1 in
    let r = mul_read add_sets u.add h.0 m mul_sets u.mul cut.0 mul h.2 cut.3 in
    let quiet = quiet_parts r.parts r.second r.are in
    let o = others_read h.0 xs u.signal read_a read_b r.parts cut.1 others (free_behind r.parts r.second mul_sets u.mul u.signal r.are r.says named.signal)
    (free_none is_read_a r.parts read_a quiet.2) (free_none is_read_b r.parts read_b quiet.3) cut.4 in
    let behind : Reads (head_part h.0 ∷ []) (cut.0 ++ cut.1) (r.parts ++ o.parts) = reads_append (head_part h.0 ∷ []) cut.0 cut.1 r.parts o.parts r.reads o.reads in
    let moved : Reads (head_part h.0 ∷ []) ts (r.parts ++ o.parts) = subst (λ (z : List SectionTokens). Reads (head_part h.0 ∷ []) z (r.parts ++ o.parts)) (sym cut.2) behind in
    both_line at u h.0 r.second r.parts o.parts t ts add_sets mul_sets read_a read_b is named h.2 r.are r.says (second_sets u.add m mul_sets u.mul mul) o.are sets is_a is_b (h.1, moved)

both_read_by : (at : ℕ) (end : Token) (u : Units) (x : List Symbol) (m os : List (List Symbol)) (xs : List Placed) (add_sets mul_sets : Bool) (read_a read_b : Option ℕ) → IsBoth u → IsNamed u
    → SpellsAdd x add_sets u.add → SpellsMul u.add m mul_sets u.mul → SpellsOthers os u.signal read_a read_b → (add_sets || mul_sets) ≡ u.sets
    → IsOther (by_part by_a u.add ++ by_part by_a u.mul) read_a u.other_a → IsOther (by_part by_b u.add ++ by_part by_b u.mul) read_b u.other_b
    → symbols_of xs ≡ joined (x ∷ (m ++ os)) → read_line at end xs ≡ Ok (LineSays (instruction.Both u))
both_read_by at end u x m os xs add_sets mul_sets read_a read_b is named add mul others sets is_a is_b e =
    let head = head_read x add_sets u.add add in
    let one = mul_shaped u.add m mul_sets u.mul mul in
    let more = others_shaped os u.signal read_a read_b others in
    let spelled : Spelled (x ++ behind_first (m ++ os)) xs [] = spelled_map xs (x ++ behind_first (m ++ os)) e in
    let whole : Spelled ((symbol.Name head.n ∷ head.h) ++ behind_first (m ++ os)) xs [] = subst (λ (z : List Symbol). Spelled (z ++ behind_first (m ++ os)) xs []) head.is spelled in
    line_read at end head.n head.h (m ++ os) xs (instruction.Both u) head.plain (plain_both m os one.0 more.0) head.mnemonic (begin_both m os one.1 more.1) whole
    (λ ts are.
    lines_are at u x m os add_sets mul_sets read_a read_b ts is named head mul others sets is_a is_b
    (subst (λ (z : List Symbol). AreSections (z ∷ (m ++ os)) ts) (sym head.is) are))

pub both_read : (at : ℕ) (end : Token) (parts : List (List Symbol)) (u : Units) (xs : List Placed) → SpellsUnits parts u → IsBoth u → IsNamed u → symbols_of xs ≡ joined parts
    → read_line at end xs ≡ Ok (LineSays (instruction.Both u))
both_read at end parts u xs (units {x = x} {m = m} {xs = os} {add_sets = add_sets} {mul_sets = mul_sets} {read_a = read_a} {read_b = read_b} add mul others is_a is_b) is named e =
    both_read_by at end u x m os xs add_sets mul_sets read_a read_b is named add mul others refl is_a is_b e
