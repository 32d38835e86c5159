-- A line that is read as an instruction spells it.
use Rattle.std.proofs.Common.{◌≡◌, ℕ, Bool, true, false, List, [], ◌∷◌, Option, Some, None, Ok, refl, sym, subst, ◌∙◌, arith}
use Rattle.std.specs.Prelude.{◌||◌, ◌&&◌, All, is_some, nat_le}
use Rattle.qpu_token.specs.declared.token.Token.{Token}
use Rattle.qpu_line.specs.declared.instruction.Instruction.{Instruction}
use Rattle.qpu_line.specs.declared.name.Name.{Name}
use Rattle.qpu_line.specs.declared.name.Name.TheVariants as name
use Rattle.qpu_line.specs.declared.symbol.Symbol.{Symbol}
use Rattle.qpu_line.specs.Named.{HasWord}
use Rattle.qpu_asm.specs.declared.placed.Placed.{Placed}
use Rattle.qpu_asm.specs.declared.part.UnitPart.{UnitPart}
use Rattle.qpu_asm.specs.declared.part.Part.{Part}
use Rattle.qpu_asm.specs.declared.part.Part.TheVariants as part
use Rattle.qpu_asm.specs.declared.line.Line.TheVariants.{Says}
use Rattle.qpu_asm.specs.Roles.{op_in_mul}
use Rattle.qpu_asm.specs.Forms.{begins, is_nop}
use Rattle.qpu_asm.specs.reader.Orders.{extra, unit_follows, due}
use Rattle.qpu_asm.specs.SectionTokens.{SectionTokens}
use Rattle.qpu_asm.specs.reader.Marks.{marks_of}
use Rattle.qpu_asm.specs.reader.Meanings.{meaning}
use Rattle.qpu_asm.specs.reader.LinesRead.{read_line}
use Rattle.qpu_asm.specs.Laws.{IsProper, symbols_of}
use Rattle.qpu_asm.specs.SpelledPieces.{name_alone}
use Rattle.qpu_asm.specs.Spells.{SpellsAdd, SpellsParts, label_in, IsSpelled}
use Rattle.qpu_asm.specs.Spells.SpellsAdd.{idle as add_idle}
use Rattle.qpu_asm.specs.Spells.SpellsParts.{units, load, semaphore, branch}
use Rattle.qpu_asm.proofs.MarkLemmas.{IsClear, is_clear}
use Rattle.qpu_asm.proofs.ProperParts.{Good}
use Rattle.qpu_asm.proofs.ProperLines.{all_good, turn_by, GoodParts}
use Rattle.qpu_asm.proofs.LineLaw.{same_marks, lines_law}
use Rattle.qpu_asm.proofs.SpellsLine.{texts, cut_joined, cut_label, SectionTold, AllTold, LineTold, line_told}
use Rattle.qpu_asm.proofs.SpellsTags.{tag, tag_of, told_tag, section_symbols, may_follow, none_behind}
use Rattle.qpu_asm.proofs.SpellsUnitParts.{spelled_symbols}
use Rattle.qpu_asm.proofs.SpellsForms.{first_spares, increment_spelled, decrement_spelled, load_spelled, branch_spelled_whole}
use Rattle.qpu_asm.proofs.SpellsOthers.{IsUnits}
use Rattle.qpu_asm.proofs.SpellsBoth.{add_here, Spoken, none_spelled, unit_second, nop_second, extra_second}

-- both units, whichever part stands second

not_second : (n : Name) → nat_le 2 (tag_of n) ≡ true → (op_in_mul n ≡ None) × (is_nop n ≡ false)
not_second (name.Add op) e = absurd (grind (arith, e))
not_second (name.Mul op) e = absurd (grind (arith, e))
not_second name.Mov e = absurd (grind (arith, e))
not_second name.Nop e = absurd (grind (arith, e))
not_second _ e = (refl, refl)

extra_here : (idle : Bool) (n : Name) → nat_le 2 (tag_of n) ≡ true → unit_follows idle [] n ≡ true → extra [] n ≡ true
extra_here idle n e may =
    let no = not_second n e in
    turn_by true (is_some (op_in_mul n)) idle (is_nop n) (extra [] n) may (rw no.0 refl) no.1

late : (head : Part) (idle : Bool) (p : Part) → IsUnits head idle → nat_le 2 (tag p) ≡ true → (s : SectionTokens) (h : SectionTold (head ∷ []) s.tokens p) → extra [] h.n ≡ true
late head idle p units_of e s h =
    let P : ℕ → Type 0 = λ z. nat_le 2 z ≡ true in
    extra_here idle h.n (subst P (told_tag h.n h.rest p h.told) e) (units_of [] h.n (may_follow head [] h.n h.may))

idle_nop : (idle : Bool) (n : Name) → n ≡ name.Nop → unit_follows idle [] n ≡ true → idle ≡ true
idle_nop true n e may = refl
idle_nop false n e may = absurd (let P : Name → Type 0 = λ z. unit_follows false [] z ≡ true in let f : false ≡ true = subst P e may in grind (arith, f))

nop_there : (head : Part) (idle : Bool) (first : Option UnitPart) (rest : List Part) → IsUnits head idle → (idle ≡ true → first ≡ None) → Spoken head first (part.Nop ∷ rest)
nop_there head idle first rest units_of none x add [] told is ordered good clear = absurd told
nop_there head idle first rest units_of none x add (t ∷ ss) told is ordered good clear =
    let h = told.0 in
    let is_idle : idle ≡ true = idle_nop idle h.n h.told.op (units_of [] h.n (may_follow head [] h.n h.may)) in
    let P : Option UnitPart → Type 0 = λ z. Spoken head z (part.Nop ∷ rest) in
    let U : Bool → Type 0 = IsUnits head in
    subst P (sym (none is_idle)) (nop_second head rest (subst U is_idle units_of)) x add (t ∷ ss) told is ordered good clear

units_spelled : (head : Part) (idle : Bool) (first : Option UnitPart) (later : List Part) → IsUnits head idle → (idle ≡ true → first ≡ None) → Spoken head first later
units_spelled head idle first [] units_of none = none_spelled head first
units_spelled head idle first (part.Unit v ∷ rest) units_of none = unit_second head idle first v rest units_of
units_spelled head idle first (part.Nop ∷ rest) units_of none = nop_there head idle first rest units_of none
units_spelled head idle first (p ∷ rest) units_of none = extra_second head idle first p rest units_of refl refl (λ s h. late head idle p units_of refl s h)

-- the first part

abbrev starts : ℕ → Bool
starts k = nat_le k 2 || (nat_le 4 k && nat_le k 6)

begins_tag : (n : Name) → begins n ≡ true → starts (tag_of n) ≡ true
begins_tag (name.Add op) e = refl
begins_tag name.Mov e = refl
begins_tag name.Nop e = refl
begins_tag (name.Load kind) e = refl
begins_tag name.Increment e = refl
begins_tag name.Decrement e = refl
begins_tag name.Branch e = refl
begins_tag name.RelativeBranch e = refl
begins_tag _ e = absurd (grind (arith, e))

first_begins : (n : Name) → due [] n ≡ true → begins n ≡ true
unfolding due
first_begins n e = e

first_starts : (xs : List Placed) (p : Part) → SectionTold [] xs p → starts (tag p) ≡ true
first_starts xs p h = let P : ℕ → Type 0 = λ z. starts z ≡ true in subst P (sym (told_tag h.n h.rest p h.told)) (begins_tag h.n (first_begins h.n h.may))

alone : (at : ℕ) (o : Option ℕ) (s : SectionTokens) (ss : List SectionTokens) (i : Instruction) → ss ≡ [] → SpellsParts at o (symbols_of s.tokens ∷ []) i → SpellsParts at o (texts (s ∷ ss)) i
alone at o s ss i e spells = let P : List SectionTokens → Type 0 = λ z. SpellsParts at o (texts (s ∷ z)) i in subst P (sym e) spells

nop_starts : (s : SectionTokens) (h : SectionTold [] s.tokens part.Nop) → SpellsAdd (symbols_of s.tokens) false None
nop_starts s h =
    let text : symbols_of s.tokens ≡ name_alone name.Nop = section_symbols [] s.tokens part.Nop h ∙ rw (h.told.op, h.told.nothing) refl in
    let P : List Symbol → Type 0 = λ z. SpellsAdd z false None in
    subst P (sym text) add_idle

says_by : (at : ℕ) (o : Option ℕ) (s : SectionTokens) (ss : List SectionTokens) (first : Part) (later : List Part) → AllTold [] (s ∷ ss) (first ∷ later) → GoodParts (first ∷ later)
    → IsClear (marks_of (first ∷ later)) → ((word : ℕ) → label_in s.tokens ≡ Some word → o ≡ Some word) → SpellsParts at o (texts (s ∷ ss)) (meaning at first later)
unfolding meaning
says_by at o s ss part.Nop later told good clear found =
    units (units_spelled part.Nop true None later (λ before n e. e) (λ e. refl) (symbols_of s.tokens) (λ second rest early spoken. nop_starts s told.0) ss told.1 tt good.ordered.1 good.each.1 clear)
says_by at o s ss (part.Unit u) later told good clear found =
    units (units_spelled (part.Unit u) false (Some u) later (λ before n e. e) (λ e. absurd (grind (arith, e))) (symbols_of s.tokens)
    (λ second rest early spoken. add_here s u second rest early told.0 spoken) ss told.1 (good.each.0, good.ordered.0, same_marks u) good.ordered.1 good.each.1 clear)
says_by at o s ss (part.Load l) later told good clear found = load (load_spelled l s ss later told.0 told.1 clear)
says_by at o s ss (part.Increment p) later told good clear found =
    let h = told.0 in
    let n = none_behind (part.Increment p) [] ss later (λ m. refl) told.1 in
    alone at o s ss _ n.0 (semaphore (increment_spelled s.tokens p h.told.t h.told.is
    (section_symbols [] s.tokens (part.Increment p) h ∙ rw (h.told.op, spelled_symbols _ h.rest h.told.there) refl) (first_spares _ (part.Increment p) later clear.right)))
says_by at o s ss (part.Decrement p) later told good clear found =
    let h = told.0 in
    let n = none_behind (part.Decrement p) [] ss later (λ m. refl) told.1 in
    alone at o s ss _ n.0 (semaphore (decrement_spelled s.tokens p h.told.t h.told.is
    (section_symbols [] s.tokens (part.Decrement p) h ∙ rw (h.told.op, spelled_symbols _ h.rest h.told.there) refl) (first_spares _ (part.Decrement p) later clear.right)))
says_by at o s ss (part.Branch b) later told good clear found = branch (branch_spelled_whole at o b s ss later told.0 told.1 found clear)
says_by at o s ss p later told good clear found = absurd (let e : false ≡ true = first_starts s.tokens p told.0 in grind (arith, e))

-- the whole

pub line_spelled : (at : ℕ) (xs : List Placed) (i : Instruction) → Good xs → LineTold at xs i → HasWord i → IsSpelled at xs i
line_spelled at xs i good l word =
    let says : SpellsParts at (label_in xs) (texts (l.section ∷ l.sections)) (meaning at l.first l.later) =
    says_by at (label_in xs) l.section l.sections l.first l.later l.told (l.good good) (is_clear (marks_of (l.first ∷ l.later)) l.clean)
    (λ w e. cut_label xs l.section l.sections w l.cut e) in
    let P : Instruction → Type 0 = λ z. SpellsParts at (label_in xs) (texts (l.section ∷ l.sections)) z in
    record { parts = texts (l.section ∷ l.sections); whole = cut_joined xs l.section l.sections l.cut; says = subst P l.says says; fits = word }

pub read_spelled : (at : ℕ) (end : Token) (xs : List Placed) (i : Instruction) → All IsProper xs → read_line at end xs ≡ Ok (Says i) → IsSpelled at xs i
read_spelled at end xs i proper e = line_spelled at xs i (all_good xs proper) (line_told at end xs i e) (lines_law at end xs i proper e)
