-- The parts of a line are read one after another, up to the first token that isn't due.
use Rattle.std.proofs.Common.{◌≡◌, ℕ, zero, suc, ◌+◌, inl, inr, Bool, true, false, List, [], ◌∷◌, ◌++◌, append_assoc, map, Option, Some, None, Result, Ok, Err, refl, ap, sym, subst, ◌∙◌, arith}
use Rattle.std.proofs.lemmas.List.{append-nil, map-append}
use Rattle.std.specs.Prelude.{◌==◌, ◌&&◌, ◌⊎◌, ◌≤◌, not, fold, is_some, if◌then◌else◌}
use Rattle.std.specs.Option.{option_or}
use Rattle.qpu_token.specs.declared.token.Token.{Token}
use Rattle.qpu_line.specs.declared.name.Name.{Name}
use Rattle.qpu_line.specs.declared.name.Name.TheVariants as name
use Rattle.qpu_line.specs.declared.symbol.Symbol.{Symbol}
use Rattle.qpu_line.specs.declared.symbol.Symbol.TheVariants as symbol
use Rattle.qpu_asm.specs.declared.placed.Placed.{Placed}
use Rattle.qpu_asm.specs.declared.part.Part.{Part}
use Rattle.qpu_asm.specs.declared.part.Part.TheVariants as part
use Rattle.qpu_asm.specs.declared.mark.What.{What}
use Rattle.qpu_asm.specs.SectionTokens.{SectionTokens}
use Rattle.qpu_asm.specs.Signs.{is_semicolon}
use Rattle.qpu_asm.specs.Roles.{is_mnemonic}
use Rattle.qpu_asm.specs.Forms.{form, is_unknown_symbol, is_unknown, symbol_misfit, part_misfit, begins_with, may_stand}
use Rattle.qpu_asm.specs.Stands.{first_stands, moved, slots_stand, mnemonic_means, part_stands}
use Rattle.qpu_asm.specs.Faults.{before_first, cut, token_at, token_in, InPart, IsMisfit, stands_behind, IsMisplaced, all_known, IsUnknown, IsLeft}
use Rattle.qpu_asm.specs.reader.Reading.{go_on}
use Rattle.qpu_asm.specs.reader.Orders.{due}
use Rattle.qpu_asm.specs.reader.Parts.{part_by}
use Rattle.qpu_asm.specs.reader.Sections.{Cutting, put_section, cut_on, sections_of, part_of_symbol, part_in, unknown_symbol, unknown_in, fault_of, own_fault, first_of, part_after_symbol, part_after, parts_on, parts_of}
use Rattle.qpu_asm.specs.reader.Marks.{part_marks}
use Rattle.qpu_asm.proofs.ProperParts.{GivesPart}
use Rattle.qpu_asm.proofs.SpellsTold.{part_told}
use Rattle.qpu_asm.proofs.SpellsTags.{tag, tag_of, told_tag}
use Rattle.qpu_asm.proofs.FaultMarks.{Alike, alike_same, alike_then}
use Rattle.qpu_asm.proofs.FaultChain.{mark_at, marked, told, token_moved, told_moved, told_first, Chain}
use Rattle.qpu_asm.proofs.FaultChain.Chain.{whole, misses}
use Rattle.qpu_asm.proofs.FaultParts.{PartTold, part_chain}
use Rattle.qpu_asm.proofs.FaultOrder.{WayOf, KindOf, Kinds, kinds_more, due_same, branch_way}

-- sections

abbrev before_all : List Placed → List SectionTokens → List SectionTokens
before_all front [] = []
before_all front (p ∷ parts) = record { tokens = front ++ p.tokens; end = p.end } ∷ parts

before_none : (parts : List SectionTokens) → before_all [] parts ≡ parts
before_none [] = refl
before_none (p ∷ parts) = refl

before_more : (front : List Placed) (x : Placed) (parts : List SectionTokens) → before_all (front ++ x ∷ []) parts ≡ before_all front (before_first x parts)
before_more front x [] = refl
before_more front x (p ∷ parts) = rw (append_assoc front (x ∷ []) p.tokens) refl

abbrev closed : Token → Cutting → List SectionTokens
closed end c = (put_section end c).sections

cut_by : (end : Token) (done : List SectionTokens) (front : List Placed) (x : Placed) (xs : List Placed) (b : Bool)
    → ((d : List SectionTokens) (f : List Placed) → closed end (fold cut_on (record { sections = d; tokens = f }) xs) ≡ d ++ before_all f (cut end xs))
    → closed end (fold cut_on (if b then put_section x.token (record { sections = done; tokens = front }) else record { sections = done; tokens = front ++ x ∷ [] }) xs)
    ≡ done ++ before_all front (if b then record { tokens = []; end = x.token } ∷ cut end xs else before_first x (cut end xs))
cut_by end done front x xs true again =
    let s : SectionTokens = record { tokens = front; end = x.token } in
    again (done ++ s ∷ []) [] ∙ ap (λ z. done ++ s ∷ [] ++ z) (before_none (cut end xs)) ∙ append_assoc done (s ∷ []) (cut end xs)
    ∙ ap (λ z. done ++ (record { tokens = z; end = x.token } ∷ cut end xs)) (sym (append-nil front))
cut_by end done front x xs false again = again done (front ++ x ∷ []) ∙ ap (λ z. done ++ z) (before_more front x (cut end xs))

cut_from : (end : Token) (xs : List Placed) (done : List SectionTokens) (front : List Placed) → closed end (fold cut_on (record { sections = done; tokens = front }) xs) ≡ done ++ before_all front (cut end xs)
cut_from end [] done front = ap (λ z. done ++ (record { tokens = z; end = end } ∷ [])) (sym (append-nil front))
cut_from end (x ∷ xs) done front = cut_by end done front x xs (is_semicolon x.symbol) (cut_from end xs)

pub sections_cut : (end : Token) (xs : List Placed) → sections_of end xs ≡ cut end xs
unfolding sections_of
sections_cut end xs = cut_from end xs [] [] ∙ before_none (cut end xs)

-- one part

pub data PartRead (mul : Bool) (end : Token) (xs : List Placed) : Result Part Token → Type 0 where
  reads : {p : Part} → part_misfit xs ≡ None → KindOf p xs → Alike (part_marks mul [] p) (told end xs (part_stands mul xs)) → PartRead mul end xs (Ok p)
  breaks : {t : Token} (m : ℕ) → part_misfit xs ≡ Some m → t ≡ token_at end xs m → PartRead mul end xs (Err t)

gives_map : {A : Type 0} (P Q : A → Type 0) (r : Result A Token) → ((a : A) → P a → Q a) → GivesPart P r → GivesPart Q r
gives_map P Q (Ok a) f given = f a given
gives_map P Q (Err token) f given = tt

abbrev IsKind : Name → List Placed → Part → Type 0
IsKind n rest p = (tag p ≡ tag_of n) × WayOf p rest

no_branch : (p : Part) (rest : List Placed) → (tag p == 6) ≡ false → WayOf p rest
no_branch (part.Branch b) rest e = absurd (grind (arith, e))
no_branch _ rest e = tt

kind_tag : (n : Name) (token end : Token) (rest : List Placed) → GivesPart (λ p. tag p ≡ tag_of n) (part_by n token end rest)
kind_tag n token end rest = gives_map _ (λ p. tag p ≡ tag_of n) (part_by n token end rest) (λ p h. told_tag n rest p h) (part_told n token end rest)

other_way : (n : Name) (token end : Token) (rest : List Placed) → (tag_of n == 6) ≡ false → GivesPart (λ p. WayOf p rest) (part_by n token end rest)
other_way n token end rest nay = gives_map (λ p. tag p ≡ tag_of n) (λ p. WayOf p rest) (part_by n token end rest) (λ p e. no_branch p rest (ap (λ z. z == 6) e ∙ nay)) (kind_tag n token end rest)

kind_way : (n : Name) (token end : Token) (rest : List Placed) → GivesPart (λ p. WayOf p rest) (part_by n token end rest)
unfolding part_by
kind_way name.Branch token end rest = branch_way false end rest
kind_way name.RelativeBranch token end rest = branch_way true end rest
kind_way n token end rest = other_way n token end rest refl

gives_both : {A : Type 0} (P Q : A → Type 0) (r : Result A Token) → GivesPart P r → GivesPart Q r → GivesPart (λ a. P a × Q a) r
gives_both P Q (Ok a) p q = (p, q)
gives_both P Q (Err token) p q = tt

part_kind : (n : Name) (token end : Token) (rest : List Placed) → GivesPart (IsKind n rest) (part_by n token end rest)
part_kind n token end rest = gives_both (λ p. tag p ≡ tag_of n) (λ p. WayOf p rest) (part_by n token end rest) (kind_tag n token end rest) (kind_way n token end rest)

-- the marks of a part's tokens, its mnemonic's first
told_part : (mul : Bool) (end : Token) (x : Placed) (rest : List Placed) (n : Name) → x.symbol ≡ symbol.Name n
    → marked x.token (mnemonic_means mul n) ++ told end rest (slots_stand mul (form n) [] rest) ≡ told end (x ∷ rest) (part_stands mul (x ∷ rest))
told_part mul end x rest n is =
    let own : List (ℕ × What) = first_stands (mnemonic_means mul n) in
    let later : List (ℕ × What) = slots_stand mul (form n) [] rest in
    let one : told end (x ∷ rest) (own ++ moved 1 later) ≡ told end (x ∷ rest) own ++ told end (x ∷ rest) (moved 1 later) = map-append (λ z. mark_at (token_at end (x ∷ rest) z.0) z.1) own (moved 1 later) in
    let two : told end (x ∷ rest) own ≡ marked x.token (mnemonic_means mul n) = told_first end (x ∷ rest) (mnemonic_means mul n) in
    let three : told end (x ∷ rest) (moved 1 later) ≡ told end rest later = told_moved end 1 (x ∷ rest) later in
    sym (rw is (one ∙ rw (two, three) refl))

symbol_kind : (p : Part) (x : Placed) (rest : List Placed) (n : Name) → x.symbol ≡ symbol.Name n → IsKind n rest p → KindOf p (x ∷ rest)
symbol_kind p x rest n is kind = rw is kind

by_chain : (mul : Bool) (end : Token) (x : Placed) (rest : List Placed) (n : Name) (r : Result Part Token) → x.symbol ≡ symbol.Name n → is_mnemonic n ≡ true → GivesPart (IsKind n rest) r
    → Chain mul (form n) end [] rest (PartTold mul x.token n) r → PartRead mul end (x ∷ rest) r
by_chain mul end x rest n _ is known kind (whole {b} none q) =
    reads (rw (is, known, none) refl) (symbol_kind b x rest n is kind) (alike_then _ _ _ q (alike_same _ _ (told_part mul end x rest n is)))
by_chain mul end x rest n _ is known kind (misses {t} m some e) = breaks (1 + m) (rw (is, known, some) refl) (e ∙ sym (token_moved end 1 m (x ∷ rest)))

known_by : (b : Bool) → not b ≡ false → b ≡ true
known_by true e = refl
known_by false e = absurd (grind (arith, e))

read_symbol : (mul : Bool) (end : Token) (x : Placed) (rest : List Placed) (s : Symbol) → x.symbol ≡ s → is_unknown_symbol s ≡ false → PartRead mul end (x ∷ rest) (part_of_symbol s x.token end rest)
read_symbol mul end x rest (symbol.Name n) is known =
    by_chain mul end x rest n (part_by n x.token end rest) is (known_by (is_mnemonic n) known) (part_kind n x.token end rest) (part_chain mul n x.token end rest (known_by (is_mnemonic n) known))
read_symbol mul end x rest symbol.Unknown is known = absurd (grind (arith, known))
read_symbol mul end x rest _ is known = breaks 0 (rw is refl) refl

pub part_read : (mul : Bool) (end : Token) (xs : List Placed) → is_unknown xs ≡ false → PartRead mul end xs (part_in end xs)
part_read mul end [] known = breaks 0 refl refl
part_read mul end (x ∷ rest) known = read_symbol mul end x rest x.symbol refl known

-- a search from left to right

-- what holds first in one part
pub data InOne (P : ℕ → Type 0) (p : SectionTokens) : Option Token → Type 0 where
  here : {t : Token} (m : ℕ) → P m → ((n : ℕ) → P n → m ≤ n) → t ≡ token_at p.end p.tokens m → InOne P p (Some t)
  none : ((n : ℕ) → P n → ⊥) → InOne P p None

-- and in several
pub data Search (P : List SectionTokens → SectionTokens → ℕ → Type 0) (end : Token) (earlier parts : List SectionTokens) : Option Token → Type 0 where
  found : {t : Token} (i m : ℕ) → InPart P earlier parts i m → ((j n : ℕ) → InPart P earlier parts j n → IsLeft i m j n) → t ≡ token_in end parts i m → Search P end earlier parts (Some t)
  nowhere : ((j n : ℕ) → InPart P earlier parts j n → ⊥) → Search P end earlier parts None

left_here : (P : List SectionTokens → SectionTokens → ℕ → Type 0) (earlier : List SectionTokens) (p : SectionTokens) (parts : List SectionTokens) (m : ℕ) → ((n : ℕ) → P earlier p n → m ≤ n)
    → (j n : ℕ) → InPart P earlier (p ∷ parts) j n → IsLeft 0 m j n
left_here P earlier p parts m least zero n has = inr (refl, least n has)
left_here P earlier p parts m least (suc j) n has = inl (omega arith)

left_later : (i m j n : ℕ) → IsLeft i m j n → IsLeft (suc i) m (suc j) n
left_later i m j n (inl less) = inl (omega arith)
left_later i m j n (inr (same, less)) = inr (ap suc same, less)

left_behind : (P : List SectionTokens → SectionTokens → ℕ → Type 0) (earlier : List SectionTokens) (p : SectionTokens) (parts : List SectionTokens) (i m : ℕ) → ((n : ℕ) → P earlier p n → ⊥)
    → ((j n : ℕ) → InPart P (earlier ++ p ∷ []) parts j n → IsLeft i m j n) → (j n : ℕ) → InPart P earlier (p ∷ parts) j n → IsLeft (suc i) m j n
left_behind P earlier p parts i m nay left zero n has = absurd (nay n has)
left_behind P earlier p parts i m nay left (suc j) n has = left_later i m j n (left j n has)

none_there : (P : List SectionTokens → SectionTokens → ℕ → Type 0) (earlier : List SectionTokens) (p : SectionTokens) (parts : List SectionTokens) → ((n : ℕ) → P earlier p n → ⊥)
    → ((j n : ℕ) → InPart P (earlier ++ p ∷ []) parts j n → ⊥) → (j n : ℕ) → InPart P earlier (p ∷ parts) j n → ⊥
none_there P earlier p parts nay never zero n has = nay n has
none_there P earlier p parts nay never (suc j) n has = never j n has

pub search_more : (P : List SectionTokens → SectionTokens → ℕ → Type 0) (end : Token) (earlier : List SectionTokens) (p : SectionTokens) (parts : List SectionTokens) (o r : Option Token)
    → InOne (P earlier p) p o → Search P end (earlier ++ p ∷ []) parts r → Search P end earlier (p ∷ parts) (option_or o r)
search_more P end earlier p parts (Some t) r (here m holds least is) later = found 0 m holds (left_here P earlier p parts m least) is
search_more P end earlier p parts None (Some t) (none nay) (found i m holds left is) = found (suc i) m holds (left_behind P earlier p parts i m nay left) is
search_more P end earlier p parts None None (none nay) (nowhere never) = nowhere (none_there P earlier p parts nay never)

-- names that are no mnemonics

abbrev section : List Placed → Token → SectionTokens
section xs end = record { tokens = xs; end = end }

unknown_by : (earlier : List SectionTokens) (end : Token) (x : Placed) (rest : List Placed) (b : Bool) → is_unknown_symbol x.symbol ≡ b → InOne (IsUnknown earlier (section (x ∷ rest) end)) (section (x ∷ rest) end) (if b then Some x.token else None)
unknown_by earlier end x rest true e = here 0 (refl, e) (λ n has. omega arith) refl
unknown_by earlier end x rest false e = none (λ n has. (let f : true ≡ false = sym has.1 ∙ e in grind (arith, f)))

unknown_told : (s : Symbol) (token : Token) → unknown_symbol s token ≡ (if is_unknown_symbol s then Some token else None)
unknown_told (symbol.Name n) token = by (is_mnemonic n)
  where
    by : (b : Bool) → ◌≡◌ {A = Option Token} (if b then None else Some token) (if not b then Some token else None)
    by true = refl
    by false = refl
unknown_told symbol.Unknown token = refl
unknown_told _ token = refl

unknown_one : (earlier : List SectionTokens) (xs : List Placed) (end : Token) → InOne (IsUnknown earlier (section xs end)) (section xs end) (unknown_in xs)
unknown_one earlier [] end = none (λ n has. (let f : true ≡ false = sym has.1 in grind (arith, f)))
unknown_one earlier (x ∷ rest) end =
    subst (InOne (IsUnknown earlier (section (x ∷ rest) end)) (section (x ∷ rest) end)) (sym (unknown_told x.symbol x.token)) (unknown_by earlier end x rest (is_unknown_symbol x.symbol) refl)

pub unknown_search : (end : Token) (earlier parts : List SectionTokens) → Search IsUnknown end earlier parts (first_of (λ s. unknown_in s.tokens) parts)
unknown_search end earlier [] = nowhere (λ j n has. has)
unknown_search end earlier (p ∷ parts) =
    search_more IsUnknown end earlier p parts (unknown_in p.tokens) (first_of (λ s. unknown_in s.tokens) parts) (unknown_one earlier p.tokens p.end) (unknown_search end (earlier ++ p ∷ []) parts)

-- tokens that aren't due in their part

same_place : (o : Option ℕ) (m n : ℕ) → o ≡ Some m → o ≡ Some n → m ≤ n
same_place o m n e f = let g : Some m ≡ Some n = sym e ∙ f in let h : m ≡ n = cc in omega arith

misfit_one : (mul : Bool) (earlier : List SectionTokens) (xs : List Placed) (end : Token) (r : Result Part Token) → PartRead mul end xs r → InOne (IsMisfit earlier (section xs end)) (section xs end) (fault_of r)
misfit_one mul earlier xs end _ (reads fit kind marks) = none (λ n has. (let f : None ≡ Some n = sym fit ∙ has in cc))
misfit_one mul earlier xs end _ (breaks m some is) = here m some (λ n has. same_place (part_misfit xs) m n some has) is

unknown_fits : (xs : List Placed) → is_unknown xs ≡ true → part_misfit xs ≡ None
unknown_fits [] e = absurd (grind (arith, e))
unknown_fits (x ∷ rest) e = by x.symbol e
  where
    named : (n : Name) (b : Bool) (o : Option ℕ) → not b ≡ true → (if b then o else None) ≡ None
    named n true o e = absurd (grind (arith, e))
    named n false o e = refl

    by : (s : Symbol) → is_unknown_symbol s ≡ true → symbol_misfit s rest ≡ None
    by (symbol.Name n) e = named n (is_mnemonic n) _ e
    by symbol.Unknown e = refl
    by _ e = absurd (grind (arith, e))

some_if : (b : Bool) (token : Token) (o : Option Token) → o ≡ (if b then Some token else None) → is_some o ≡ b
some_if true token o e = rw e refl
some_if false token o e = rw e refl

some_unknown : (xs : List Placed) → is_some (unknown_in xs) ≡ is_unknown xs
some_unknown [] = refl
some_unknown (x ∷ rest) = some_if (is_unknown_symbol x.symbol) x.token (unknown_symbol x.symbol x.token) (unknown_told x.symbol x.token)

own_by : (earlier : List SectionTokens) (xs : List Placed) (end : Token) (b : Bool) → is_unknown xs ≡ b
    → InOne (IsMisfit earlier (section xs end)) (section xs end) (if b then None else fault_of (part_in end xs))
own_by earlier xs end true e = none (λ n has. (let f : None ≡ Some n = sym (unknown_fits xs e) ∙ has in cc))
own_by earlier xs end false e = misfit_one false earlier xs end (part_in end xs) (part_read false end xs e)

own_one : (earlier : List SectionTokens) (xs : List Placed) (end : Token) → InOne (IsMisfit earlier (section xs end)) (section xs end) (own_fault (section xs end))
own_one earlier xs end = rw (some_unknown xs) (own_by earlier xs end (is_unknown xs) refl)

pub own_search : (end : Token) (earlier parts : List SectionTokens) → Search IsMisfit end earlier parts (first_of own_fault parts)
own_search end earlier [] = nowhere (λ j n has. has)
own_search end earlier (p ∷ parts) = search_more IsMisfit end earlier p parts (own_fault p) (first_of own_fault parts) (own_one earlier p.tokens p.end) (own_search end (earlier ++ p ∷ []) parts)

-- parts in their order

abbrev pub IsOff : List SectionTokens → SectionTokens → ℕ → Type 0
IsOff earlier p m = IsMisfit earlier p m ⊎ IsMisplaced earlier p m

abbrev pub AllMarked : Bool → List Part → List SectionTokens → Type 0
AllMarked mul [] [] = Unit {0}
AllMarked mul (p ∷ ps) (s ∷ ss) = Alike (part_marks mul [] p) (told s.end s.tokens (part_stands mul s.tokens)) × AllMarked true ps ss
AllMarked mul ps ss = ⊥

-- what is read of parts behind others
pub data Parted (mul : Bool) (end : Token) (earlier parts : List SectionTokens) (done : List Part) : Result (List Part) Token → Type 0 where
  parted : (new : List Part) {all : List Part} → all ≡ done ++ new → ((j n : ℕ) → InPart IsOff earlier parts j n → ⊥) → AllMarked mul new parts → Parted mul end earlier parts done (Ok all)
  broken : {t : Token} (i m : ℕ) → InPart IsOff earlier parts i m → ((j n : ℕ) → InPart IsOff earlier parts j n → IsLeft i m j n) → t ≡ token_in end parts i m → Parted mul end earlier parts done (Err t)

broken_rest : (t : Token) (parts : List SectionTokens) → fold parts_on (Err t) parts ≡ Err t
broken_rest t [] = refl
broken_rest t (p ∷ parts) = broken_rest t parts

-- one part behind others

pub data AfterRead (mul : Bool) (earlier : List SectionTokens) (p : SectionTokens) : Result Part Token → Type 0 where
  fits : {q : Part} → ((n : ℕ) → IsOff earlier p n → ⊥) → KindOf q p.tokens → Alike (part_marks mul [] q) (told p.end p.tokens (part_stands mul p.tokens)) → AfterRead mul earlier p (Ok q)
  off : {t : Token} (m : ℕ) → IsOff earlier p m → ((n : ℕ) → IsOff earlier p n → m ≤ n) → t ≡ token_at p.end p.tokens m → AfterRead mul earlier p (Err t)

abbrev texts_of : List SectionTokens → List (List Placed)
texts_of parts = map (λ p. p.tokens) parts

-- a part that stands where it may
placed_after : (mul : Bool) (earlier : List SectionTokens) (xs : List Placed) (end : Token) (r : Result Part Token) → begins_with (λ s. not (stands_behind earlier s)) xs ≡ false
    → PartRead mul end xs r → AfterRead mul earlier (section xs end) r
placed_after mul earlier xs end _ may (reads fit kind marks) = fits nay kind marks
  where
    nay : (n : ℕ) → IsOff earlier (section xs end) n → ⊥
    nay n (inl has) = let f : None ≡ Some n = sym fit ∙ has in cc
    nay n (inr has) = let f : true ≡ false = sym has.1 ∙ may in grind (arith, f)
placed_after mul earlier xs end _ may (breaks m some is) = off m (inl some) least is
  where
    least : (n : ℕ) → IsOff earlier (section xs end) n → m ≤ n
    least n (inl has) = same_place (part_misfit xs) m n some has
    least n (inr has) = absurd (let f : true ≡ false = sym has.1 ∙ may in grind (arith, f))

after_due : (mul : Bool) (earlier : List SectionTokens) (done : List Part) (x : Placed) (rest : List Placed) (end : Token) (n : Name) (b : Bool) → x.symbol ≡ symbol.Name n → is_mnemonic n ≡ true
    → due done n ≡ b → due done n ≡ may_stand (texts_of earlier) n → AfterRead mul earlier (section (x ∷ rest) end) (if b then part_by n x.token end rest else Err x.token)
after_due mul earlier done x rest end n true is known may same =
    let here : may_stand (texts_of earlier) n ≡ true = sym same ∙ may in
    placed_after mul earlier (x ∷ rest) end (part_by n x.token end rest) (rw (is, known, here) refl) (read_symbol mul end x rest (symbol.Name n) is (rw known refl))
after_due mul earlier done x rest end n false is known may same =
    let here : may_stand (texts_of earlier) n ≡ false = sym same ∙ may in
    off 0 (inr (refl, rw (is, known, here) refl)) (λ n has. omega arith) refl

after_symbol : (mul : Bool) (earlier : List SectionTokens) (done : List Part) (x : Placed) (rest : List Placed) (end : Token) (s : Symbol) → x.symbol ≡ s → is_unknown_symbol s ≡ false
    → Kinds done (texts_of earlier) → AfterRead mul earlier (section (x ∷ rest) end) (part_after_symbol done s x.token end rest)
after_symbol mul earlier done x rest end (symbol.Name n) is known kinds =
    after_due mul earlier done x rest end n (due done n) is (known_by (is_mnemonic n) known) refl (due_same done (texts_of earlier) n kinds)
after_symbol mul earlier done x rest end symbol.Unknown is known kinds = absurd (grind (arith, known))
after_symbol mul earlier done x rest end _ is known kinds = off 0 (inl (rw is refl)) (λ n has. omega arith) refl

after_read : (mul : Bool) (earlier : List SectionTokens) (done : List Part) (xs : List Placed) (end : Token) → is_unknown xs ≡ false → Kinds done (texts_of earlier)
    → AfterRead mul earlier (section xs end) (part_after done end xs)
after_read mul earlier done [] end known kinds = off 0 (inl refl) (λ n has. omega arith) refl
after_read mul earlier done (x ∷ rest) end known kinds = after_symbol mul earlier done x rest end x.symbol refl known kinds

-- all of them

more_texts : (earlier : List SectionTokens) (p : SectionTokens) → texts_of (earlier ++ p ∷ []) ≡ texts_of earlier ++ p.tokens ∷ []
more_texts earlier p = map-append (λ s. s.tokens) earlier (p ∷ [])

parted_more : (mul : Bool) (end : Token) (earlier : List SectionTokens) (p : SectionTokens) (parts : List SectionTokens) (done : List Part) (q : Part) (r : Result (List Part) Token) → ((n : ℕ) → IsOff earlier p n → ⊥)
    → Alike (part_marks mul [] q) (told p.end p.tokens (part_stands mul p.tokens)) → Parted true end (earlier ++ p ∷ []) parts (done ++ q ∷ []) r → Parted mul end earlier (p ∷ parts) done r
parted_more mul end earlier p parts done q _ nay marks (parted new is never all) =
    parted (q ∷ new) (is ∙ append_assoc done (q ∷ []) new) (none_there IsOff earlier p parts nay never) (marks, all)
parted_more mul end earlier p parts done q _ nay marks (broken i m has left is) = broken (suc i) m has (left_behind IsOff earlier p parts i m nay left) is

both_known : (b c : Bool) → (b && c) ≡ true → (b ≡ true) × (c ≡ true)
both_known true c e = (refl, e)
both_known false c e = absurd (grind (arith, e))

not_unknown : (b : Bool) → not b ≡ true → b ≡ false
not_unknown true e = absurd (grind (arith, e))
not_unknown false e = refl

parts_by : (mul : Bool) (end : Token) (earlier : List SectionTokens) (p : SectionTokens) (parts : List SectionTokens) (done : List Part) (r : Result Part Token) → AfterRead mul earlier p r → Kinds done (texts_of earlier)
    → ((all : List Part) (before : List SectionTokens) → Kinds all (texts_of before) → Parted true end before parts all (fold parts_on (Ok all) parts))
    → Parted mul end earlier (p ∷ parts) done (fold parts_on (go_on r (λ q. Ok (done ++ q ∷ []))) parts)
parts_by mul end earlier p parts done _ (fits {q} nay kind marks) kinds again =
    parted_more mul end earlier p parts done q _ nay marks
    (again (done ++ q ∷ []) (earlier ++ p ∷ []) (rw (more_texts earlier p) (kinds_more done (texts_of earlier) q p.tokens kinds kind)))
parts_by mul end earlier p parts done _ (off {t} m has least is) kinds again =
    rw (broken_rest t parts) (broken 0 m has (left_here IsOff earlier p parts m least) is)

pub parts_from : (mul : Bool) (end : Token) (parts : List SectionTokens) (done : List Part) (earlier : List SectionTokens) → all_known parts ≡ true → Kinds done (texts_of earlier)
    → Parted mul end earlier parts done (fold parts_on (Ok done) parts)
parts_from mul end [] done earlier known kinds = parted [] (sym (append-nil done)) (λ j n has. has) tt
parts_from mul end (p ∷ parts) done earlier known kinds =
    let each = both_known (not (is_unknown p.tokens)) (all_known parts) known in
    parts_by mul end earlier p parts done (part_after done p.end p.tokens) (after_read mul earlier done p.tokens p.end (not_unknown (is_unknown p.tokens) each.0) kinds) kinds
    (λ all before more. parts_from true end parts all before each.1 more)

pub parts_read : (end : Token) (parts : List SectionTokens) → all_known parts ≡ true → Parted false end [] parts [] (parts_of parts)
unfolding parts_of
parts_read end parts known = parts_from false end parts [] [] known tt
