-- A line that is read as an instruction: its tokens are sections with signs `;` between them, these are told part by
-- part, and no fault is found in their marks.
use Rattle.std.proofs.Common.{◌≡◌, ℕ, Bool, true, false, List, [], ◌∷◌, ◌++◌, fold, Option, Some, None, Result, Ok, Err, refl, sym, subst, ap, ◌∙◌, append_assoc, arith}
use Rattle.std.proofs.lemmas.List.{append-nil, map-append}
use Rattle.std.specs.Prelude.{if◌then◌else◌}
use Rattle.qpu_token.specs.declared.token.Token.{Token}
use Rattle.qpu_token.specs.declared.fault.AsmFault.{AsmFault}
use Rattle.qpu_line.specs.declared.instruction.Instruction.{Instruction}
use Rattle.qpu_line.specs.declared.name.Name.{Name}
use Rattle.qpu_line.specs.declared.symbol.Symbol.{Symbol}
use Rattle.qpu_line.specs.declared.symbol.Symbol.TheVariants as symbol
use Rattle.qpu_asm.specs.declared.placed.Placed.{Placed}
use Rattle.qpu_asm.specs.declared.part.Part.{Part}
use Rattle.qpu_asm.specs.declared.line.Line.{Line}
use Rattle.qpu_asm.specs.declared.line.Line.TheVariants.{Raw, Says}
use Rattle.qpu_asm.specs.Signs.{is_dot}
use Rattle.qpu_asm.specs.reader.Reading.{go_on}
use Rattle.qpu_asm.specs.reader.Parts.{part_by}
use Rattle.qpu_asm.specs.reader.Orders.{due}
use Rattle.qpu_asm.specs.SectionTokens.{SectionTokens}
use Rattle.qpu_asm.specs.Signs.{is_semicolon}
use Rattle.qpu_asm.specs.reader.Sections.{Cutting, put_section, cut_on, sections_of, unknown_in, first_of, part_after_symbol, part_after, parts_on, parts_of}
use Rattle.qpu_asm.specs.reader.Marks.{marks_of}
use Rattle.qpu_asm.specs.reader.Judging.{line_fault}
use Rattle.qpu_asm.specs.reader.Meanings.{meaning}
use Rattle.qpu_asm.specs.reader.LinesRead.{directive, by_fault, by_parts, by_unknown, instruction_line, shaped, read_line}
use Rattle.qpu_asm.specs.Laws.{symbols_of}
use Rattle.qpu_asm.specs.Spells.{joined, label_in}
use Rattle.qpu_asm.specs.Signs.{is_colon}
use Rattle.qpu_asm.proofs.ProperParts.{Good, GivesPart}
use Rattle.qpu_asm.proofs.ProperLines.{GoodParts, line_good}
use Rattle.qpu_asm.proofs.LineLaw.{IsRaw, raw_directive}
use Rattle.qpu_asm.proofs.SpellsTold.{Told, part_told}

-- tokens are sections with signs `;` between them
abbrev pub CutFrom : List Placed → SectionTokens → List SectionTokens → Type 0
CutFrom xs first [] = xs ≡ first.tokens
CutFrom xs first (next ∷ more) = (x : Placed) × (rest : List Placed) × (xs ≡ first.tokens ++ x ∷ rest) × (x.symbol ≡ symbol.Semicolon) × CutFrom rest next more

pub record IsCut (end : Token) (done : List SectionTokens) (front xs : List Placed) : Type 0 where
  pub first : SectionTokens
  pub more : List SectionTokens
  pub same : (put_section end (fold cut_on (record { sections = done; tokens = front }) xs)).sections ≡ done ++ first ∷ more
  pub cut : CutFrom (front ++ xs) first more

semicolon_is : (s : Symbol) → is_semicolon s ≡ true → s ≡ symbol.Semicolon
semicolon_is symbol.Semicolon e = refl
semicolon_is _ e = absurd (grind (arith, e))

cut_by : (b : Bool) (end : Token) (done : List SectionTokens) (front : List Placed) (x : Placed) (xs : List Placed) → is_semicolon x.symbol ≡ b
    → ((before : List SectionTokens) (tokens : List Placed) → IsCut end before tokens xs)
    → IsCut end done front (x ∷ xs)
cut_by true end done front x xs e more =
    let own : SectionTokens = record { tokens = front; end = x.token } in
    let r = more (done ++ own ∷ []) [] in
    let step : cut_on (record { sections = done; tokens = front }) x ≡ record { sections = done ++ own ∷ []; tokens = [] } = rw e refl in
    record {
      first = own;
      more = r.first ∷ r.more;
      same = ap (λ (c : Cutting). (put_section end (fold cut_on c xs)).sections) step ∙ (r.same ∙ append_assoc done (own ∷ []) (r.first ∷ r.more));
      cut = (x, xs, refl, semicolon_is x.symbol e, r.cut);
    }
cut_by false end done front x xs e more =
    let r = more done (front ++ x ∷ []) in
    let step : cut_on (record { sections = done; tokens = front }) x ≡ record { sections = done; tokens = front ++ x ∷ [] } = rw e refl in
    let P : List Placed → Type 0 = λ z. CutFrom z r.first r.more in
    record {
      first = r.first;
      more = r.more;
      same = ap (λ (c : Cutting). (put_section end (fold cut_on c xs)).sections) step ∙ r.same;
      cut = subst P (append_assoc front (x ∷ []) xs) r.cut;
    }

pub is_cut : (end : Token) (done : List SectionTokens) (front xs : List Placed) → IsCut end done front xs
is_cut end done front [] = record { first = record { tokens = front; end = end }; more = []; same = refl; cut = append-nil front }
is_cut end done front (x ∷ xs) = cut_by (is_semicolon x.symbol) end done front x xs refl (λ before tokens. is_cut end before tokens xs)

-- their symbols

abbrev pub texts : List SectionTokens → List (List Symbol)
texts [] = []
texts (s ∷ ss) = symbols_of s.tokens ∷ texts ss

symbols_apart : (front : List Placed) (x : Placed) (rest : List Placed) → symbols_of (front ++ x ∷ rest) ≡ symbols_of front ++ x.symbol ∷ symbols_of rest
symbols_apart front x rest = map-append (λ (y : Placed). y.symbol) front (x ∷ rest)

pub cut_joined : (xs : List Placed) (first : SectionTokens) (more : List SectionTokens) → CutFrom xs first more → symbols_of xs ≡ joined (texts (first ∷ more))
cut_joined xs first [] e = ap symbols_of e ∙ sym (append-nil (symbols_of first.tokens))
cut_joined xs first (next ∷ more) (x, rest, e, semicolon, cut) =
    let later : symbols_of rest ≡ joined (texts (next ∷ more)) = cut_joined rest next more cut in
    ap symbols_of e ∙ (symbols_apart first.tokens x rest ∙ rw (semicolon, later) refl)

-- the first label of the first section is that of the line
label_on : (front more : List Placed) (word : ℕ) → label_in front ≡ Some word → label_in (front ++ more) ≡ Some word
label_on [] more word e = absurd (grind (arith, e))
label_on (x ∷ []) more word e = absurd (grind (arith, e))
label_on (x ∷ y ∷ rest) more word e = by_colon (is_colon x.symbol) e (label_on (y ∷ rest) more word)
  where
    by_colon : (b : Bool) → (if b then y.label else label_in (y ∷ rest)) ≡ Some word → (label_in (y ∷ rest) ≡ Some word → label_in (y ∷ (rest ++ more)) ≡ Some word)
        → (if b then y.label else label_in (y ∷ (rest ++ more))) ≡ Some word
    by_colon true e more = e
    by_colon false e more = more e

pub cut_label : (xs : List Placed) (first : SectionTokens) (more : List SectionTokens) (word : ℕ) → CutFrom xs first more → label_in first.tokens ≡ Some word → label_in xs ≡ Some word
cut_label xs first [] word e label = rw e label
cut_label xs first (next ∷ more) word (x, rest, e, semicolon, cut) label = rw e (label_on first.tokens (x ∷ rest) word label)

-- parts

pub record SectionTold (earlier : List Part) (xs : List Placed) (p : Part) : Type 0 where
  pub n : Name
  pub x : Placed
  pub rest : List Placed
  pub whole : xs ≡ x ∷ rest
  pub is : x.symbol ≡ symbol.Name n
  pub may : due earlier n ≡ true
  pub told : Told n rest p

abbrev pub AllTold : List Part → List SectionTokens → List Part → Type 0
AllTold earlier [] [] = Unit {0}
AllTold earlier (t ∷ ts) (p ∷ ps) = SectionTold earlier t.tokens p × AllTold (earlier ++ p ∷ []) ts ps
AllTold earlier ts ps = ⊥

due_by : (earlier : List Part) (n : Name) (b : Bool) (x : Placed) (end : Token) (rest : List Placed) → due earlier n ≡ b → x.symbol ≡ symbol.Name n
    → GivesPart (SectionTold earlier (x ∷ rest)) (if b then part_by n x.token end rest else Err x.token)
due_by earlier n true x end rest may is = made (part_by n x.token end rest) (part_told n x.token end rest)
  where
    made : (r : Result Part Token) → GivesPart (Told n rest) r → GivesPart (SectionTold earlier (x ∷ rest)) r
    made (Ok p) g = record { n = n; x = x; rest = rest; whole = refl; is = is; may = may; told = g }
    made (Err t) g = tt
due_by earlier n false x end rest may is = tt

symbol_by : (earlier : List Part) (s : Symbol) (x : Placed) (end : Token) (rest : List Placed) → x.symbol ≡ s
    → GivesPart (SectionTold earlier (x ∷ rest)) (part_after_symbol earlier s x.token end rest)
symbol_by earlier (symbol.Name n) x end rest is = due_by earlier n (due earlier n) x end rest refl is
symbol_by earlier _ x end rest is = tt

section_told : (earlier : List Part) (end : Token) (xs : List Placed) → GivesPart (SectionTold earlier xs) (part_after earlier end xs)
section_told earlier end [] = tt
section_told earlier end (x ∷ rest) = symbol_by earlier x.symbol x end rest refl

record AreTold (earlier : List Part) (ts : List SectionTokens) (ps : List Part) : Type 0 where
  more : List Part
  whole : ps ≡ earlier ++ more
  told : AllTold earlier ts more

failed : (ts : List SectionTokens) (token : Token) (P : List Part → Type 0) → GivesPart P (fold parts_on (Err token) ts)
failed [] token P = tt
failed (t ∷ ts) token P = failed ts token P

longer : (earlier : List Part) (t : SectionTokens) (ts : List SectionTokens) (p : Part) (r : Result (List Part) Token) → SectionTold earlier t.tokens p
    → GivesPart (AreTold (earlier ++ p ∷ []) ts) r → GivesPart (AreTold earlier (t ∷ ts)) r
longer earlier t ts p (Ok ps) here g = record { more = p ∷ g.more; whole = g.whole ∙ append_assoc earlier (p ∷ []) g.more; told = (here, g.told) }
longer earlier t ts p (Err token) here g = tt

told_by : (earlier : List Part) (t : SectionTokens) (ts : List SectionTokens) (r : Result Part Token) → GivesPart (SectionTold earlier t.tokens) r
    → ((p : Part) → GivesPart (AreTold (earlier ++ p ∷ []) ts) (fold parts_on (Ok (earlier ++ p ∷ [])) ts))
    → GivesPart (AreTold earlier (t ∷ ts)) (fold parts_on (go_on r (λ p. Ok (earlier ++ p ∷ []))) ts)
told_by earlier t ts (Ok p) here more = longer earlier t ts p (fold parts_on (Ok (earlier ++ p ∷ [])) ts) here (more p)
told_by earlier t ts (Err token) here more = failed ts token (AreTold earlier (t ∷ ts))

parts_told : (earlier : List Part) (ts : List SectionTokens) → GivesPart (AreTold earlier ts) (fold parts_on (Ok earlier) ts)
parts_told earlier [] = record { more = []; whole = sym (append-nil earlier); told = tt }
parts_told earlier (t ∷ ts) = told_by earlier t ts (part_after earlier t.end t.tokens) (section_told earlier t.end t.tokens) (λ p. parts_told (earlier ++ p ∷ []) ts)

all_told : (ts : List SectionTokens) → GivesPart (AllTold [] ts) (parts_of ts)
unfolding parts_of
all_told ts = by_result (fold parts_on (Ok []) ts) (parts_told [] ts)
  where
    by_result : (r : Result (List Part) Token) → GivesPart (AreTold [] ts) r → GivesPart (AllTold [] ts) r
    by_result (Ok ps) g = let P : List Part → Type 0 = AllTold [] ts in subst P (sym g.whole) g.told
    by_result (Err token) g = tt

-- a whole line

pub record LineTold (at : ℕ) (xs : List Placed) (i : Instruction) : Type 0 where
  pub section : SectionTokens
  pub sections : List SectionTokens
  pub cut : CutFrom xs section sections
  pub first : Part
  pub later : List Part
  pub told : AllTold [] (section ∷ sections) (first ∷ later)
  pub good : Good xs → GoodParts (first ∷ later)
  pub clean : line_fault (marks_of (first ∷ later)) ≡ None
  pub says : meaning at first later ≡ i

abbrev LineGives : (Instruction → Type 0) → Result Line AsmFault → Type 0
LineGives P (Ok (Says i)) = P i
LineGives P (Ok (Raw n)) = Unit {0}
LineGives P (Err fault) = Unit {0}

judged : (at : ℕ) (xs : List Placed) (s : SectionTokens) (ss : List SectionTokens) (first : Part) (later : List Part) (o : Option AsmFault) → CutFrom xs s ss
    → AllTold [] (s ∷ ss) (first ∷ later) → (Good xs → GoodParts (first ∷ later)) → line_fault (marks_of (first ∷ later)) ≡ o → LineGives (LineTold at xs) (by_fault o (Says (meaning at first later)))
judged at xs s ss first later (Some fault) cut told good clean = tt
judged at xs s ss first later None cut told good clean = record { section = s; sections = ss; cut = cut; first = first; later = later; told = told; good = good; clean = clean; says = refl }

read_parts : (at : ℕ) (end : Token) (xs : List Placed) (s : SectionTokens) (ss : List SectionTokens) (r : Result (List Part) Token) → CutFrom xs s ss
    → GivesPart (AllTold [] (s ∷ ss)) r → (Good xs → GivesPart GoodParts r) → LineGives (LineTold at xs) (by_parts at end r)
read_parts at end xs s ss (Err token) cut told good = tt
read_parts at end xs s ss (Ok []) cut told good = tt
read_parts at end xs s ss (Ok (first ∷ later)) cut told good = judged at xs s ss first later (line_fault (marks_of (first ∷ later))) cut told good refl

known_by : (at : ℕ) (end : Token) (xs : List Placed) (s : SectionTokens) (ss all : List SectionTokens) (o : Option Token) → all ≡ s ∷ ss → CutFrom xs s ss
    → (Good xs → GivesPart GoodParts (parts_of all)) → LineGives (LineTold at xs) (by_unknown at end all o)
known_by at end xs s ss all (Some token) e cut good = tt
known_by at end xs s ss all None e cut good =
    let G : List SectionTokens → Type 0 = λ z. GivesPart GoodParts (parts_of z) in
    let P : List SectionTokens → Type 0 = λ z. LineGives (LineTold at xs) (by_parts at end (parts_of z)) in
    subst P (sym e) (read_parts at end xs s ss (parts_of (s ∷ ss)) cut (all_told (s ∷ ss)) (λ all_good. subst G e (good all_good)))

pub sections_are : (end : Token) (xs : List Placed) → sections_of end xs ≡ (put_section end (fold cut_on (record { sections = []; tokens = [] }) xs)).sections
unfolding sections_of
sections_are end xs = refl

instruction_told : (at : ℕ) (end : Token) (xs : List Placed) → LineGives (LineTold at xs) (instruction_line at end xs)
unfolding instruction_line
instruction_told at end xs =
    let c = is_cut end [] [] xs in
    known_by at end xs c.first c.more (sections_of end xs) (first_of (λ s. unknown_in s.tokens) (sections_of end xs)) (sections_are end xs ∙ c.same) c.cut (line_good end xs)

raw_gives : (P : Instruction → Type 0) (r : Result Line Token) → GivesPart IsRaw r → LineGives P (shaped r)
raw_gives P (Ok (Raw n)) raw = tt
raw_gives P (Ok (Says i)) raw = absurd raw
raw_gives P (Err token) raw = tt

line_by : (P : Instruction → Type 0) (a b : Bool) (d i : Result Line AsmFault) (fault : AsmFault) → LineGives P d → LineGives P i → LineGives P (if a then d else if b then Err fault else i)
line_by P true b d i fault one other = one
line_by P false true d i fault one other = tt
line_by P false false d i fault one other = other

line_gives : (at : ℕ) (end : Token) (xs : List Placed) → LineGives (LineTold at xs) (read_line at end xs)
unfolding read_line
line_gives at end [] = tt
line_gives at end (x ∷ rest) =
    line_by (LineTold at (x ∷ rest)) (is_dot x.symbol) (is_colon x.symbol) (shaped (directive x.token end rest)) (instruction_line at end (x ∷ rest)) _
    (raw_gives (LineTold at (x ∷ rest)) (directive x.token end rest) (raw_directive x.token end rest)) (instruction_told at end (x ∷ rest))

pub line_told : (at : ℕ) (end : Token) (xs : List Placed) (i : Instruction) → read_line at end xs ≡ Ok (Says i) → LineTold at xs i
line_told at end xs i e = let P : Result Line AsmFault → Type 0 = LineGives (LineTold at xs) in subst P e (line_gives at end xs)
