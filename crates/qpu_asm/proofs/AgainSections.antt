-- A line of parts between signs `;` is cut into its sections, and these are read as parts.
use Rattle.std.proofs.Common.{◌≡◌, ℕ, Bool, true, false, List, [], ◌∷◌, ◌++◌, append_assoc, refl, ap, ◌∙◌}
use Rattle.std.proofs.lemmas.List.{append-nil}
use Rattle.std.specs.Prelude.{fold, Option, None, Result, Ok, if◌then◌else◌}
use Rattle.std.specs.Option.{option_or}
use Rattle.qpu_token.specs.declared.token.Token.{Token}
use Rattle.qpu_token.specs.declared.fault.AsmFault.{AsmFault}
use Rattle.qpu_line.specs.declared.instruction.Instruction.{Instruction}
use Rattle.qpu_line.specs.declared.name.Name.{Name}
use Rattle.qpu_line.specs.declared.symbol.Symbol.{Symbol}
use Rattle.qpu_line.specs.declared.symbol.Symbol.TheVariants as symbol
use Rattle.qpu_asm.specs.declared.placed.Placed.{Placed}
use Rattle.qpu_asm.specs.declared.part.Part.{Part}
use Rattle.qpu_asm.specs.declared.line.Line.{Line}
use Rattle.qpu_asm.specs.declared.line.Line.TheVariants.{Says}
use Rattle.qpu_asm.specs.Roles.{is_mnemonic}
use Rattle.qpu_asm.specs.reader.Parts.{part_by}
use Rattle.qpu_asm.specs.reader.Orders.{due}
use Rattle.qpu_asm.specs.Signs.{is_dot}
use Rattle.qpu_asm.specs.SectionTokens.{SectionTokens}
use Rattle.qpu_asm.specs.Signs.{is_semicolon}
use Rattle.qpu_asm.specs.reader.Sections.{Cutting, cut_on, put_section, sections_of, unknown_in, unknown_symbol, first_of, part_after_symbol, part_after, parts_on, parts_of}
use Rattle.qpu_asm.specs.reader.Marks.{marks_of}
use Rattle.qpu_asm.specs.reader.Judging.{line_fault}
use Rattle.qpu_asm.specs.reader.Meanings.{meaning}
use Rattle.qpu_asm.specs.reader.LinesRead.{instruction_line, read_line}
use Rattle.qpu_asm.specs.Spells.{behind_first}
use Rattle.qpu_asm.specs.Signs.{is_colon}
use Rattle.qpu_asm.proofs.AgainSpelled.{Spelled, spelled_append, spelled_front}

-- symbols with no sign `;`
abbrev pub Plain : List Symbol → Type 0
Plain [] = Unit {0}
Plain (s ∷ ss) = (is_semicolon s ≡ false) × Plain ss

pub plain_append : (ss tt : List Symbol) → Plain ss → Plain tt → Plain (ss ++ tt)
plain_append [] tt p q = q
plain_append (s ∷ ss) tt p q = (p.0, plain_append ss tt p.1 q)

abbrev pub AllPlain : List (List Symbol) → Type 0
AllPlain [] = Unit {0}
AllPlain (s ∷ ss) = Plain s × AllPlain ss

-- sections behind the first
abbrev pub tails : List (List Symbol) → List Symbol
tails xs = behind_first xs

-- sections that are spelled so
abbrev pub AreSections : List (List Symbol) → List SectionTokens → Type 0
AreSections [] [] = Unit {0}
AreSections (s ∷ ss) (t ∷ ts) = Spelled s t.tokens [] × AreSections ss ts
AreSections ss ts = ⊥

cut_plain : (x : Placed) (done : List SectionTokens) (tokens : List Placed) (b : Bool) → b ≡ false
    → (if b then put_section x.token (record { sections = done; tokens = tokens }) else record { sections = done; tokens = tokens ++ x ∷ [] }) ≡ record { sections = done; tokens = tokens ++ x ∷ [] }
cut_plain x done tokens b e = rw e refl

cut_front : (ss : List Symbol) (front rest : List Placed) (done : List SectionTokens) (tokens : List Placed) → Plain ss → Spelled ss front []
    → fold cut_on (record { sections = done; tokens = tokens }) (front ++ rest) ≡ fold cut_on (record { sections = done; tokens = tokens ++ front }) rest
cut_front [] [] rest done tokens p h = rw (append-nil tokens) refl
cut_front [] (x ∷ front) rest done tokens p h = absurd cc
cut_front (s ∷ ss) [] rest done tokens p h = absurd h
cut_front (s ∷ ss) (x ∷ front) rest done tokens p h =
    let no : is_semicolon x.symbol ≡ false = rw h.0 p.0 in
    let step : cut_on (record { sections = done; tokens = tokens }) x ≡ record { sections = done; tokens = tokens ++ x ∷ [] } = cut_plain x done tokens (is_semicolon x.symbol) no in
    let later = cut_front ss front rest done (tokens ++ x ∷ []) p.1 h.1 in
    let same : tokens ++ x ∷ [] ++ front ≡ tokens ++ (x ∷ front) = append_assoc tokens (x ∷ []) front in
    ap (λ c. fold cut_on c (front ++ rest)) step ∙ (later ∙ ap (λ z. fold cut_on (record { sections = done; tokens = z }) rest) same)

cut_there : (y : Placed) (c : Cutting) (s : Symbol) → s ≡ symbol.Semicolon
    → (if is_semicolon s then put_section y.token c else record { sections = c.sections; tokens = c.tokens ++ y ∷ [] }) ≡ put_section y.token c
cut_there y c s e = rw e refl

pub record IsCut (end : Token) (ss : List (List Symbol)) (xs : List Placed) (done : List SectionTokens) : Type 0 where
  pub sections : List SectionTokens
  pub are : AreSections ss sections
  pub cut : (put_section end (fold cut_on (record { sections = done; tokens = [] }) xs)).sections ≡ done ++ sections

cut_behind : (end : Token) (h s : List Symbol) (ss : List (List Symbol)) (xs mid front : List Placed) (done : List SectionTokens) → Plain h
    → Spelled (symbol.Semicolon ∷ (s ++ tails ss)) mid [] → xs ≡ front ++ mid → Spelled h front []
    → ((ys : List Placed) (before : List SectionTokens) → Spelled (s ++ tails ss) ys [] → IsCut end (s ∷ ss) ys before) → IsCut end (h ∷ s ∷ ss) xs done
cut_behind end h s ss xs [] front done p spelled whole own next = absurd spelled
cut_behind end h s ss xs (y ∷ ys) front done p spelled whole own next =
    let first : SectionTokens = record { tokens = front; end = y.token } in
    let start : Cutting = record { sections = done; tokens = [] } in
    let c : Cutting = record { sections = done; tokens = front } in
    let r = next ys (done ++ first ∷ []) spelled.1 in
    let step : cut_on c y ≡ record { sections = done ++ first ∷ []; tokens = [] } = cut_there y c y.symbol spelled.0 in
    record {
      sections = first ∷ r.sections;
      are = (own, r.are);
      cut = ap (λ (zs : List Placed). (put_section end (fold cut_on start zs)).sections) whole
          ∙ (ap (λ (z : Cutting). (put_section end z).sections) (cut_front h front (y ∷ ys) done [] p own)
          ∙ (ap (λ (z : Cutting). (put_section end (fold cut_on z ys)).sections) step ∙ (r.cut ∙ append_assoc done (first ∷ []) r.sections)));
    }

cut_last : (end : Token) (h : List Symbol) (xs front : List Placed) (done : List SectionTokens) → Plain h → xs ≡ front ++ [] → Spelled h front []
    → IsCut end (h ∷ []) xs done
cut_last end h xs front done p whole own = record {
  sections = record { tokens = front; end = end } ∷ [];
  are = (own, tt);
  cut = rw (whole, cut_front h front [] done [] p own) refl;
}

pub is_cut : (end : Token) (h : List Symbol) (ss : List (List Symbol)) (xs : List Placed) (done : List SectionTokens) → Plain h → AllPlain ss
    → Spelled (h ++ tails ss) xs [] → IsCut end (h ∷ ss) xs done
is_cut end h [] xs done p q spelled =
    let m = spelled_append h [] xs [] spelled in
    let f = spelled_front h xs m.0 m.1 in
    cut_last end h xs f.0 done p (f.1 ∙ ap (λ (z : List Placed). f.0 ++ z) m.2) f.2
is_cut end h (s ∷ ss) xs done p q spelled =
    let m = spelled_append h (symbol.Semicolon ∷ (s ++ tails ss)) xs [] spelled in
    let f = spelled_front h xs m.0 m.1 in
    cut_behind end h s ss xs m.0 f.0 done p m.2 f.1 f.2 (λ ys before g. is_cut end s ss ys before q.0 q.1 g)

-- every section begins with a mnemonic
abbrev pub Begins : List Symbol → Type 0
Begins [] = ⊥
Begins (s ∷ ss) = (n : Name) × (s ≡ symbol.Name n) × (is_mnemonic n ≡ true)

abbrev pub AllBegin : List (List Symbol) → Type 0
AllBegin [] = Unit {0}
AllBegin (s ∷ ss) = Begins s × AllBegin ss

known_symbol : (s : Symbol) (t : Token) (n : Name) → s ≡ symbol.Name n → is_mnemonic n ≡ true → unknown_symbol s t ≡ None
known_symbol s t n e known = rw (e, known) refl

known_tokens : (ss : List Symbol) (xs : List Placed) → Spelled ss xs [] → Begins ss → unknown_in xs ≡ None
known_tokens [] xs h b = absurd b
known_tokens (s ∷ ss) [] h b = absurd h
known_tokens (s ∷ ss) (x ∷ xs) h b = known_symbol x.symbol x.token b.0 (h.0 ∙ b.1) b.2

none_or : (a b : Option Token) → a ≡ None → b ≡ None → option_or a b ≡ None
none_or a b e f = rw (e, f) refl

all_known : (ss : List (List Symbol)) (ts : List SectionTokens) → AreSections ss ts → AllBegin ss → first_of (λ t. unknown_in t.tokens) ts ≡ None
all_known [] [] are b = refl
all_known [] (t ∷ ts) are b = absurd are
all_known (s ∷ ss) [] are b = absurd are
all_known (s ∷ ss) (t ∷ ts) are b = none_or (unknown_in t.tokens) (first_of (λ t. unknown_in t.tokens) ts) (known_tokens s t.tokens are.0 b.0) (all_known ss ts are.1 b.1)

-- sections are read as parts, behind earlier ones
abbrev pub Reads : List Part → List SectionTokens → List Part → Type 0
Reads earlier [] [] = Unit {0}
Reads earlier (t ∷ ts) (p ∷ ps) = (part_after earlier t.end t.tokens ≡ Ok p) × Reads (earlier ++ p ∷ []) ts ps
Reads earlier ts ps = ⊥

parts_step : (earlier : List Part) (t : SectionTokens) (p : Part) → part_after earlier t.end t.tokens ≡ Ok p → parts_on (Ok earlier) t ≡ Ok (earlier ++ p ∷ [])
parts_step earlier t p e = rw e refl

reads_all : (earlier : List Part) (ts : List SectionTokens) (ps : List Part) → Reads earlier ts ps → fold parts_on (Ok earlier) ts ≡ Ok (earlier ++ ps)
reads_all earlier [] [] r = rw (append-nil earlier) refl
reads_all earlier [] (p ∷ ps) r = absurd r
reads_all earlier (t ∷ ts) [] r = absurd r
reads_all earlier (t ∷ ts) (p ∷ ps) r =
    rw (parts_step earlier t p r.0) (reads_all (earlier ++ p ∷ []) ts ps r.1 ∙ ap Ok (append_assoc earlier (p ∷ []) ps))

-- a section with a mnemonic that is due
pub after_step : (earlier : List Part) (s : Symbol) (token end : Token) (rest : List Placed) (n : Name) (p : Part) → s ≡ symbol.Name n → due earlier n ≡ true
    → part_by n token end rest ≡ Ok p → part_after_symbol earlier s token end rest ≡ Ok p
after_step earlier s token end rest n p e d f = rw (e, d) f

pub section_after : (P : Part → Type 0) (earlier : List Part) (end : Token) (n : Name) (ss : List Symbol) (xs : List Placed) → Spelled (symbol.Name n ∷ ss) xs []
    → due earlier n ≡ true → ((token : Token) (rest : List Placed) → Spelled ss rest [] → (p : Part) × (part_by n token end rest ≡ Ok p) × P p)
    → (p : Part) × (part_after earlier end xs ≡ Ok p) × P p
section_after P earlier end n ss [] h d reads = absurd h
section_after P earlier end n ss (x ∷ xs) h d reads =
    let r = reads x.token xs h.1 in (r.0, after_step earlier x.symbol x.token end xs n r.0 h.0 d r.1, r.2)

-- a whole line

line_step : (at : ℕ) (end : Token) (xs : List Placed) (ts : List SectionTokens) (first : Part) (later : List Part) (i : Instruction)
    → sections_of end xs ≡ ts → first_of (λ t. unknown_in t.tokens) ts ≡ None → parts_of ts ≡ Ok (first ∷ later)
    → line_fault (marks_of (first ∷ later)) ≡ None → meaning at first later ≡ i → instruction_line at end xs ≡ Ok (Says i)
unfolding instruction_line
line_step at end xs ts first later i a b c d e = rw (a, b, c, d, e) refl

neither : (a b : Bool) (p q r : Result Line AsmFault) → a ≡ false → b ≡ false → (if a then p else if b then q else r) ≡ r
neither a b p q r e f = rw (e, f) refl

name_no_dot : (s : Symbol) (n : Name) → s ≡ symbol.Name n → is_dot s ≡ false
name_no_dot s n e = rw e refl

name_no_colon : (s : Symbol) (n : Name) → s ≡ symbol.Name n → is_colon s ≡ false
name_no_colon s n e = rw e refl

read_step : (at : ℕ) (end : Token) (x : Placed) (rest : List Placed) (n : Name) (r : Result Line AsmFault) → x.symbol ≡ symbol.Name n
    → instruction_line at end (x ∷ rest) ≡ r → read_line at end (x ∷ rest) ≡ r
unfolding read_line
read_step at end x rest n r e f = neither (is_dot x.symbol) (is_colon x.symbol) _ _ _ (name_no_dot x.symbol n e) (name_no_colon x.symbol n e) ∙ f

pub record IsLine (at : ℕ) (i : Instruction) (ts : List SectionTokens) : Type 0 where
  pub first : Part
  pub later : List Part
  pub reads : Reads [] ts (first ∷ later)
  pub clean : line_fault (marks_of (first ∷ later)) ≡ None
  pub says : meaning at first later ≡ i

sections_are : (end : Token) (xs : List Placed) → sections_of end xs ≡ (put_section end (fold cut_on (record { sections = []; tokens = [] }) xs)).sections
unfolding sections_of
sections_are end xs = refl

parts_are : (ts : List SectionTokens) → parts_of ts ≡ fold parts_on (Ok []) ts
unfolding parts_of
parts_are ts = refl

pub line_read_by : (at : ℕ) (end : Token) (n : Name) (h : List Symbol) (ss : List (List Symbol)) (xs : List Placed) (i : Instruction)
    → Plain h → AllPlain ss → is_mnemonic n ≡ true → AllBegin ss → Spelled ((symbol.Name n ∷ h) ++ tails ss) xs []
    → ((ts : List SectionTokens) → sections_of end xs ≡ ts → AreSections ((symbol.Name n ∷ h) ∷ ss) ts → IsLine at i ts)
    → read_line at end xs ≡ Ok (Says i)
line_read_by at end n h ss [] i p q mnemonic begin spelled reads = absurd spelled
line_read_by at end n h ss (x ∷ xs) i p q mnemonic begin spelled reads =
    let c = is_cut end (symbol.Name n ∷ h) ss (x ∷ xs) [] (refl, p) q spelled in
    let l = reads c.sections (sections_are end (x ∷ xs) ∙ c.cut) c.are in
    let known = all_known ((symbol.Name n ∷ h) ∷ ss) c.sections c.are ((n, refl, mnemonic), begin) in
    read_step at end x xs n (Ok (Says i)) spelled.0
    (line_step at end (x ∷ xs) c.sections l.first l.later i (sections_are end (x ∷ xs) ∙ c.cut) known (parts_are c.sections ∙ reads_all [] c.sections (l.first ∷ l.later) l.reads) l.clean l.says)

pub line_read : (at : ℕ) (end : Token) (n : Name) (h : List Symbol) (ss : List (List Symbol)) (xs : List Placed) (i : Instruction)
    → Plain h → AllPlain ss → is_mnemonic n ≡ true → AllBegin ss → Spelled ((symbol.Name n ∷ h) ++ tails ss) xs []
    → ((ts : List SectionTokens) → AreSections ((symbol.Name n ∷ h) ∷ ss) ts → IsLine at i ts)
    → read_line at end xs ≡ Ok (Says i)
line_read at end n h ss xs i p q mnemonic begin spelled reads = line_read_by at end n h ss xs i p q mnemonic begin spelled (λ ts e are. reads ts are)
