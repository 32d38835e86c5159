-- A line is refused with a kind and at a place exactly where the table of faults says so.
use Rattle.std.proofs.Common.{◌≡◌, ℕ, zero, suc, ◌+◌, ◌<◌, inl, inr, Bool, true, false, List, [], ◌∷◌, ◌++◌, map, Option, Some, None, Result, Ok, Err, refl, ap, sym, subst, ◌∙◌, arith}
use Rattle.std.proofs.lemmas.Bool.Decides.{nat_tests}
use Rattle.std.specs.Prelude.{◌&&◌, ◌⊎◌, not, nat_lt, fold, option_map, if◌then◌else◌}
use Rattle.std.specs.Option.{option_or}
use Rattle.qpu_token.specs.declared.token.Token.{Token}
use Rattle.qpu_token.specs.declared.fault.AsmKind.{AsmKind}
use Rattle.qpu_token.specs.declared.fault.AsmKind.TheVariants as kind
use Rattle.qpu_token.specs.declared.fault.AsmFault.{AsmFault}
use Rattle.qpu_asm.specs.declared.placed.Placed.{Placed}
use Rattle.qpu_asm.specs.declared.part.Part.{Part}
use Rattle.qpu_asm.specs.declared.mark.What.{What}
use Rattle.qpu_asm.specs.declared.mark.Mark.{Mark}
use Rattle.qpu_asm.specs.Signs.{is_semicolon}
use Rattle.qpu_asm.specs.declared.judge.Judged.{Judged}
use Rattle.qpu_asm.specs.declared.judge.Judged.TheVariants.{Operands, TwoImmediates, TwoReads, Label, Range}
use Rattle.qpu_asm.specs.declared.line.Line.{Line}
use Rattle.qpu_asm.specs.declared.line.Line.TheVariants.{Says}
use Rattle.qpu_asm.specs.SectionTokens.{SectionTokens}
use Rattle.qpu_asm.specs.Clashes.{kind_of, fault_at}
use Rattle.qpu_asm.specs.Forms.{is_unknown}
use Rattle.qpu_asm.specs.Stands.{Spot, line_stands}
use Rattle.qpu_asm.specs.Faults.{before_first, cut, token_in, InPart, IsMisfit, IsMisplaced, all_known, IsUnknown, IsJudged, FaultyPart, rank, IsLeft, ComesFirst}
use Rattle.qpu_asm.specs.Faults.FaultyPart.{off_form, off_place, no_mnemonic, meant_so}
use Rattle.qpu_asm.specs.reader.Sections.{unknown_in, own_fault, first_of, parts_of}
use Rattle.qpu_asm.specs.reader.Marks.{part_marks, marks_of}
use Rattle.qpu_asm.specs.reader.Meanings.{meaning}
use Rattle.qpu_asm.specs.reader.Judging.{first_faulty, fault_of_kind, line_fault}
use Rattle.qpu_asm.specs.reader.LinesRead.{by_fault, by_parts, by_unknown, instruction_line}
use Rattle.qpu_asm.proofs.FaultMarks.{clash_any}
use Rattle.qpu_asm.proofs.FaultSections.{Search, own_search, unknown_search, sections_cut, IsOff, AllMarked, Parted, parts_read}
use Rattle.qpu_asm.proofs.FaultSections.Search.{found as search_found, nowhere as search_nowhere}
use Rattle.qpu_asm.proofs.FaultSections.Parted.{parted, broken}
use Rattle.qpu_asm.proofs.FaultJudged.{JudgedFrom, mark_of, First, first_found, line_sorted, told_line, line_alike, line_told}
use Rattle.qpu_asm.proofs.FaultJudged.First.{found, nowhere}

-- what is judged of the parts of a plain line
pub data Verdict (end : Token) (parts : List SectionTokens) : Result Line AsmFault → Type 0 where
  clean : {l : Line} → ((k : AsmKind) (i m : ℕ) → FaultyPart parts k i m → ⊥) → Verdict end parts (Ok l)
  faulty : {f : AsmFault} (k : AsmKind) (i m : ℕ) → FaultyPart parts k i m → ((l : AsmKind) (j n : ℕ) → FaultyPart parts l j n → ComesFirst k i m l j n) → f ≡ fault_at k (token_in end parts i m) → Verdict end parts (Err f)

-- a property that holds somewhere, for one that is wider

in_wider : (P Q : List SectionTokens → SectionTokens → ℕ → Type 0) → ((e : List SectionTokens) (p : SectionTokens) (m : ℕ) → P e p m → Q e p m) → (earlier parts : List SectionTokens) (i m : ℕ)
    → InPart P earlier parts i m → InPart Q earlier parts i m
in_wider P Q wide earlier [] i m has = has
in_wider P Q wide earlier (p ∷ parts) zero m has = wide earlier p m has
in_wider P Q wide earlier (p ∷ parts) (suc i) m has = in_wider P Q wide (earlier ++ p ∷ []) parts i m has

misfit_off : (parts : List SectionTokens) (i m : ℕ) → InPart IsMisfit [] parts i m → InPart IsOff [] parts i m
misfit_off parts i m has = in_wider IsMisfit IsOff (λ e p n h. inl h) [] parts i m has

misplaced_off : (parts : List SectionTokens) (i m : ℕ) → InPart IsMisplaced [] parts i m → InPart IsOff [] parts i m
misplaced_off parts i m has = in_wider IsMisplaced IsOff (λ e p n h. inr h) [] parts i m has

off_either : (earlier parts : List SectionTokens) (i m : ℕ) → InPart IsOff earlier parts i m → InPart IsMisfit earlier parts i m ⊎ InPart IsMisplaced earlier parts i m
off_either earlier [] i m has = absurd has
off_either earlier (p ∷ parts) zero m has = has
off_either earlier (p ∷ parts) (suc i) m has = off_either (earlier ++ p ∷ []) parts i m has

off_faulty : (parts : List SectionTokens) (i m : ℕ) → all_known parts ≡ true → InPart IsOff [] parts i m → FaultyPart parts kind.Shape i m
off_faulty parts i m known has = by (off_either [] parts i m has)
  where
    by : InPart IsMisfit [] parts i m ⊎ InPart IsMisplaced [] parts i m → FaultyPart parts kind.Shape i m
    by (inl h) = off_form h
    by (inr h) = off_place known h

-- all mnemonics are known where none is unknown

known_here : (b : Bool) → ((n : ℕ) → (n ≡ 0) × (b ≡ true) → ⊥) → not b ≡ true
known_here true none = absurd (none 0 (refl, refl))
known_here false none = refl

known_all : (earlier parts : List SectionTokens) → ((j n : ℕ) → InPart IsUnknown earlier parts j n → ⊥) → all_known parts ≡ true
known_all earlier [] none = refl
known_all earlier (p ∷ parts) none = rw (known_here (is_unknown p.tokens) (none 0), known_all (earlier ++ p ∷ []) parts (λ j n has. none (suc j) n has)) refl

known_head : (b c : Bool) → (not b && c) ≡ true → (b ≡ true → ⊥) × (c ≡ true)
known_head true c e = absurd (grind (arith, e))
known_head false c e = ((λ f. grind (arith, f)), e)

none_unknown : (earlier parts : List SectionTokens) (i m : ℕ) → all_known parts ≡ true → InPart IsUnknown earlier parts i m → ⊥
none_unknown earlier [] i m known has = has
none_unknown earlier (p ∷ parts) zero m known has = (known_head (is_unknown p.tokens) (all_known parts) known).0 has.1
none_unknown earlier (p ∷ parts) (suc i) m known has = none_unknown (earlier ++ p ∷ []) parts i m (known_head (is_unknown p.tokens) (all_known parts) known).1 has

-- kinds behind others

low : (k : Judged) → rank kind.UnknownOp < rank (kind_of k)
low Operands = omega arith
low TwoImmediates = omega arith
low TwoReads = omega arith
low Label = omega arith
low Range = omega arith

lower : (k : Judged) → rank kind.Shape < rank (kind_of k)
lower k = let e : 9 < rank (kind_of k) = low k in omega arith

-- a Shape fault

shape_verdict : (end : Token) (parts : List SectionTokens) (i m : ℕ) → FaultyPart parts kind.Shape i m → ((j n : ℕ) → InPart IsMisfit [] parts j n → IsLeft i m j n)
    → ((j n : ℕ) → all_known parts ≡ true → InPart IsMisplaced [] parts j n → IsLeft i m j n) → Verdict end parts (Err (fault_at kind.Shape (token_in end parts i m)))
shape_verdict end parts i m has form place = faulty kind.Shape i m has first refl
  where
    first : (l : AsmKind) (j n : ℕ) → FaultyPart parts l j n → ComesFirst kind.Shape i m l j n
    first _ j n (off_form h) = inr (refl, form j n h)
    first _ j n (off_place known h) = inr (refl, place j n known h)
    first _ j n (no_mnemonic h) = inl (omega arith)
    first _ j n (meant_so k h) = inl (lower k)

-- a line with a name that is no mnemonic

unknown_verdict : (end : Token) (parts : List SectionTokens) (t : Token) (o : Option Token) → Search IsMisfit end [] parts o → Search IsUnknown end [] parts (Some t)
    → Verdict end parts (Err (elim o as (λ _. AsmFault) [ None ↦ fault_at kind.UnknownOp t | Some other ↦ fault_at kind.Shape other ]))
unknown_verdict end parts t (Some s) (search_found i m has left is) (search_found a b unknown least same) =
    rw is (shape_verdict end parts i m (off_form has) left (λ j n known h. absurd (none_unknown [] parts a b known unknown)))
unknown_verdict end parts t None (search_nowhere none) (search_found a b unknown least same) = faulty kind.UnknownOp a b (no_mnemonic unknown) first (ap (fault_at kind.UnknownOp) same)
  where
    first : (l : AsmKind) (j n : ℕ) → FaultyPart parts l j n → ComesFirst kind.UnknownOp a b l j n
    first _ j n (off_form h) = absurd (none j n h)
    first _ j n (off_place known h) = absurd (none_unknown [] parts a b known unknown)
    first _ j n (no_mnemonic h) = inr (refl, least j n h)
    first _ j n (meant_so k h) = inl (low k)

data Sides (a b : ℕ) : Type 0 where
  less : a < b → Sides a b
  equal : a ≡ b → Sides a b
  more : b < a → Sides a b

sides_by : (a b : ℕ) (c d : Bool) → nat_lt a b ≡ c → nat_lt b a ≡ d → Sides a b
sides_by a b true d e f = less (grind (arith, nat_tests, e))
sides_by a b false true e f = more (grind (arith, nat_tests, f))
sides_by a b false false e f = equal (grind (arith, nat_tests, e, f))

sides : (a b : ℕ) → Sides a b
sides a b = sides_by a b (nat_lt a b) (nat_lt b a) refl refl

-- a fault of what the names and numbers stand for

abbrev tok_of : Token → List SectionTokens → Spot → Token
tok_of end parts s = token_in end parts s.0 s.1

abbrev JudgedAt : Judged → List SectionTokens → Spot → Type 0
JudgedAt k parts spot = JudgedFrom k [] (line_stands false 0 parts) spot

to_judged : (k : Judged) (parts : List SectionTokens) (spot : Spot) → JudgedAt k parts spot → IsJudged k (line_stands false 0 parts) spot
to_judged k parts spot h = record { before = h.front; meant = h.meant; behind = h.back; among = h.among; faulty = h.faulty }

from_judged : (k : Judged) (parts : List SectionTokens) (spot : Spot) → IsJudged k (line_stands false 0 parts) spot → JudgedAt k parts spot
from_judged k parts spot h = record { front = h.before; meant = h.meant; back = h.behind; among = h.among; faulty = h.faulty }

abbrev Found : Token → List SectionTokens → Judged → Option Token → Type 0
Found end parts k o = First k (tok_of end parts) [] (line_stands false 0 parts) o

-- no kind before one is there
abbrev NoneBefore : List SectionTokens → ℕ → Type 0
NoneBefore parts r = (k : Judged) (spot : Spot) → rank (kind_of k) < r → JudgedAt k parts spot → ⊥

same_kind : (k l : Judged) → rank (kind_of k) ≡ rank (kind_of l) → k ≡ l
same_kind Operands Operands e = refl
same_kind TwoImmediates TwoImmediates e = refl
same_kind TwoReads TwoReads e = refl
same_kind Label Label e = refl
same_kind Range Range e = refl
same_kind _ _ e = absurd (grind (arith, e))

judged_first : (parts : List SectionTokens) (k : Judged) (spot : Spot) → all_known parts ≡ true → ((i m : ℕ) → InPart IsOff [] parts i m → ⊥) → NoneBefore parts (rank (kind_of k))
    → ((other : Spot) → JudgedAt k parts other → IsLeft spot.0 spot.1 other.0 other.1) → (l : AsmKind) (j n : ℕ) → FaultyPart parts l j n → ComesFirst (kind_of k) spot.0 spot.1 l j n
judged_first parts k spot known fine none least _ j n (off_form h) = absurd (fine j n (misfit_off parts j n h))
judged_first parts k spot known fine none least _ j n (off_place all h) = absurd (fine j n (misplaced_off parts j n h))
judged_first parts k spot known fine none least _ j n (no_mnemonic h) = absurd (none_unknown [] parts j n known h)
judged_first parts k spot known fine none least _ j n (meant_so l h) = by (sides (rank (kind_of k)) (rank (kind_of l)))
  where
    here : JudgedAt l parts (j, n)
    here = from_judged l parts (j, n) h

    by : Sides (rank (kind_of k)) (rank (kind_of l)) → ComesFirst (kind_of k) spot.0 spot.1 (kind_of l) j n
    by (less e) = inl e
    by (more e) = absurd (none l (j, n) e here)
    by (equal e) =
        let same : k ≡ l = same_kind k l e in
        let P : Judged → Type 0 = λ z. JudgedAt z parts (j, n) in
        inr (ap kind_of same, least (j, n) (subst P (sym same) here))

kind_verdict : (end : Token) (parts : List SectionTokens) (k : Judged) (spot : Spot) (t : Token) → all_known parts ≡ true → ((i m : ℕ) → InPart IsOff [] parts i m → ⊥) → NoneBefore parts (rank (kind_of k))
    → JudgedAt k parts spot → ((other : Spot) → JudgedAt k parts other → IsLeft spot.0 spot.1 other.0 other.1) → t ≡ tok_of end parts spot → Verdict end parts (Err (fault_at (kind_of k) t))
kind_verdict end parts k spot t known fine none has least is =
    faulty (kind_of k) spot.0 spot.1 (meant_so k (to_judged k parts spot has)) (judged_first parts k spot known fine none least) (ap (fault_at (kind_of k)) is)

-- one kind after another
abbrev told_kind : Judged → Option Token → Option AsmFault
told_kind k o = option_map (fault_at (kind_of k)) o

more_none : (parts : List SectionTokens) (k : Judged) → NoneBefore parts (rank (kind_of k)) → ((spot : Spot) → JudgedAt k parts spot → ⊥) → NoneBefore parts (rank (kind_of k) + 1)
more_none parts k none never l spot low has = by (sides (rank (kind_of l)) (rank (kind_of k)))
  where
    by : Sides (rank (kind_of l)) (rank (kind_of k)) → ⊥
    by (less e) = none l spot e has
    by (equal e) = (let P : Judged → Type 0 = λ z. JudgedAt z parts spot in never spot (subst P (same_kind l k e) has))
    by (more e) = omega arith

try_kind : (end : Token) (parts : List SectionTokens) (at : ℕ) (first : Part) (later : List Part) (k : Judged) (o : Option Token) (r : Option AsmFault) → all_known parts ≡ true → ((i m : ℕ) → InPart IsOff [] parts i m → ⊥)
    → NoneBefore parts (rank (kind_of k)) → Found end parts k o → (NoneBefore parts (rank (kind_of k) + 1) → Verdict end parts (by_fault r (Says (meaning at first later))))
    → Verdict end parts (by_fault (option_or (told_kind k o) r) (Says (meaning at first later)))
try_kind end parts at first later k (Some t) r known fine none (found spot has least is) next = kind_verdict end parts k spot t known fine none has least is
try_kind end parts at first later k None r known fine none (nowhere never) next = next (more_none parts k none never)

or_right : (a b c d e : Option AsmFault) → option_or (option_or (option_or (option_or a b) c) d) e ≡ option_or a (option_or b (option_or c (option_or d e)))
or_right (Some x) b c d e = refl
or_right None (Some x) c d e = refl
or_right None None (Some x) d e = refl
or_right None None None d e = refl

seen_none : (k : Judged) (w : What) → clash_any k w [] ≡ clash_any k w []
seen_none k w = refl

-- the marks of a line's parts, as the tokens stand
found_kind : (end : Token) (parts : List SectionTokens) (first : Part) (later : List Part) (k : Judged) → AllMarked false (first ∷ later) parts → Found end parts k (first_faulty k [] (marks_of (first ∷ later)))
unfolding marks_of
found_kind end parts first later k all =
    let ms : List Mark = fold (part_marks true) (part_marks false [] first) later in
    let one : first_faulty k [] ms ≡ first_faulty k [] (told_line false parts) = (line_alike first later parts all).0 k [] [] seen_none in
    let two : told_line false parts ≡ map (mark_of (tok_of end parts)) (line_stands false 0 parts) = line_told false end 0 parts (tok_of end parts) (λ j m. ap (λ z. token_in end parts z m) (let e : 0 + j ≡ j = omega arith in e)) in
    subst (Found end parts k) (sym (one ∙ ap (first_faulty k []) two)) (first_found k (tok_of end parts) [] (line_stands false 0 parts) (line_sorted false 0 parts))

none_first : (parts : List SectionTokens) → NoneBefore parts (rank (kind_of Operands))
none_first parts Operands spot e has = omega arith
none_first parts TwoImmediates spot e has = omega arith
none_first parts TwoReads spot e has = omega arith
none_first parts Label spot e has = omega arith
none_first parts Range spot e has = omega arith

last : (k : Judged) → rank (kind_of k) < 15
last Operands = omega arith
last TwoImmediates = omega arith
last TwoReads = omega arith
last Label = omega arith
last Range = omega arith

clean_line : (end : Token) (parts : List SectionTokens) (l : Line) → all_known parts ≡ true → ((i m : ℕ) → InPart IsOff [] parts i m → ⊥) → NoneBefore parts 15 → Verdict end parts (Ok l)
clean_line end parts l known fine none = clean never
  where
    never : (k : AsmKind) (i m : ℕ) → FaultyPart parts k i m → ⊥
    never _ i m (off_form h) = fine i m (misfit_off parts i m h)
    never _ i m (off_place all h) = fine i m (misplaced_off parts i m h)
    never _ i m (no_mnemonic h) = none_unknown [] parts i m known h
    never _ i m (meant_so k h) = none k (i, m) (last k) (from_judged k parts (i, m) h)

last_kind : (end : Token) (parts : List SectionTokens) (at : ℕ) (first : Part) (later : List Part) (o : Option Token) → all_known parts ≡ true → ((i m : ℕ) → InPart IsOff [] parts i m → ⊥)
    → NoneBefore parts (rank (kind_of Range)) → Found end parts Range o → Verdict end parts (by_fault (told_kind Range o) (Says (meaning at first later)))
last_kind end parts at first later (Some t) known fine none (found spot has least is) = kind_verdict end parts Range spot t known fine none has least is
last_kind end parts at first later None known fine none (nowhere never) = clean_line end parts (Says (meaning at first later)) known fine (more_none parts Range none never)

said_verdict : (end : Token) (parts : List SectionTokens) (at : ℕ) (first : Part) (later : List Part) → all_known parts ≡ true → ((i m : ℕ) → InPart IsOff [] parts i m → ⊥) → AllMarked false (first ∷ later) parts
    → Verdict end parts (by_fault (line_fault (marks_of (first ∷ later))) (Says (meaning at first later)))
unfolding line_fault fault_of_kind
said_verdict end parts at first later known fine all =
    let ms : List Mark = marks_of (first ∷ later) in
    let o : Judged → Option Token = λ k. first_faulty k [] ms in
    let f : (k : Judged) → Found end parts k (o k) = λ k. found_kind end parts first later k all in
    let V : Option AsmFault → Type 0 = λ r. Verdict end parts (by_fault r (Says (meaning at first later))) in
    let e4 : Option AsmFault = told_kind Range (o Range) in
    let e3 : Option AsmFault = option_or (told_kind Label (o Label)) e4 in
    let e2 : Option AsmFault = option_or (told_kind TwoReads (o TwoReads)) e3 in
    let e1 : Option AsmFault = option_or (told_kind TwoImmediates (o TwoImmediates)) e2 in
    subst V (sym (or_right (told_kind Operands (o Operands)) (told_kind TwoImmediates (o TwoImmediates)) (told_kind TwoReads (o TwoReads)) (told_kind Label (o Label)) e4))
    (try_kind end parts at first later Operands (o Operands) e1 known fine (none_first parts) (f Operands)
    (λ n1. try_kind end parts at first later TwoImmediates (o TwoImmediates) e2 known fine n1 (f TwoImmediates)
    (λ n2. try_kind end parts at first later TwoReads (o TwoReads) e3 known fine n2 (f TwoReads)
    (λ n3. try_kind end parts at first later Label (o Label) e4 known fine n3 (f Label)
    (λ n4. last_kind end parts at first later (o Range) known fine n4 (f Range))))))

parts_verdict : (end : Token) (parts : List SectionTokens) (at : ℕ) (r : Result (List Part) Token) → (parts ≡ [] → ⊥) → all_known parts ≡ true → Parted false end [] parts [] r → Verdict end parts (by_parts at end r)
parts_verdict end parts at _ some known (broken {t} i m has left is) =
    subst (λ z. Verdict end parts (Err (fault_at kind.Shape z))) (sym is)
    (shape_verdict end parts i m (off_faulty parts i m known has) (λ j n h. left j n (misfit_off parts j n h)) (λ j n all h. left j n (misplaced_off parts j n h)))
parts_verdict end parts at _ some known (parted new {all} is never marked) = subst (λ z. Verdict end parts (by_parts at end (Ok z))) (sym is) (by new parts some known never marked)
  where
    by : (new : List Part) (ps : List SectionTokens) → (ps ≡ [] → ⊥) → all_known ps ≡ true → ((j n : ℕ) → InPart IsOff [] ps j n → ⊥) → AllMarked false new ps → Verdict end ps (by_parts at end (Ok new))
    by [] [] some known never marked = absurd (some refl)
    by [] (p ∷ ps) some known never marked = absurd marked
    by (first ∷ later) ps some known never marked = said_verdict end ps at first later known never marked

unknown_or : (end : Token) (parts : List SectionTokens) (at : ℕ) (o : Option Token) → (parts ≡ [] → ⊥) → Search IsUnknown end [] parts o → Verdict end parts (by_unknown at end parts o)
unknown_or end parts at (Some t) some s = unknown_verdict end parts t (first_of own_fault parts) (own_search end [] parts) s
unknown_or end parts at None some (search_nowhere none) =
    let known : all_known parts ≡ true = known_all [] parts none in parts_verdict end parts at (parts_of parts) some known (parts_read end parts known)

cut_some : (end : Token) (xs : List Placed) → cut end xs ≡ [] → ⊥
cut_some end [] e = cc
cut_some end (x ∷ xs) e = by (is_semicolon x.symbol) (cut end xs) (cut_some end xs) e
  where
    by : (b : Bool) (ps : List SectionTokens) → (ps ≡ [] → ⊥) → ◌≡◌ {A = List SectionTokens} (if b then record { tokens = []; end = x.token } ∷ ps else before_first x ps) [] → ⊥
    by true ps some e = cc
    by false [] some e = some refl
    by false (p ∷ ps) some e = cc

-- a line of instructions is refused exactly as the table of its parts says
pub instruction_verdict : (at : ℕ) (end : Token) (xs : List Placed) → Verdict end (cut end xs) (instruction_line at end xs)
unfolding instruction_line
instruction_verdict at end xs =
    let P : List SectionTokens → Type 0 = λ z. Verdict end (cut end xs) (by_unknown at end z (first_of (λ s. unknown_in s.tokens) z)) in
    subst P (sym (sections_cut end xs)) (unknown_or end (cut end xs) at _ (cut_some end xs) (unknown_search end [] (cut end xs)))
