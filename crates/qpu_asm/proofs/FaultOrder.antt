-- Which part may stand behind others is told by their mnemonics, and by where a branch goes.
use Rattle.std.proofs.Common.{◌≡◌, ℕ, Bool, true, false, List, [], ◌∷◌, ◌++◌, drop, Option, Some, None, Ok, Err, refl, ap, sym, subst, ◌∙◌, arith}
use Rattle.std.specs.Prelude.{◌==◌, ◌&&◌, ◌||◌, not, nat_le, if◌then◌else◌}
use Rattle.std.specs.List.{list_any}
use Rattle.qpu_token.specs.declared.token.Token.{Token}
use Rattle.qpu_line.specs.declared.name.Name.{Name}
use Rattle.qpu_line.specs.declared.name.Name.TheVariants as name
use Rattle.qpu_line.specs.declared.symbol.Symbol.{Symbol}
use Rattle.qpu_line.specs.declared.symbol.Symbol.TheVariants as symbol
use Rattle.qpu_asm.specs.declared.placed.Placed.{Placed}
use Rattle.qpu_asm.specs.declared.piece.Core.{Core}
use Rattle.qpu_asm.specs.declared.piece.Core.TheVariants as core
use Rattle.qpu_asm.specs.declared.piece.Piece.{Piece}
use Rattle.qpu_asm.specs.declared.part.BranchPart.{BranchPart}
use Rattle.qpu_asm.specs.declared.part.Part.{Part}
use Rattle.qpu_asm.specs.declared.part.Part.TheVariants as part
use Rattle.qpu_asm.specs.Signs.{is_comma, is_dot, is_minus, is_colon, stops, length_of}
use Rattle.qpu_asm.specs.Forms.{is_number, is_unit_name, is_signal_name, is_rotate_name, is_read_a_name, is_read_b_name, is_link_name, is_row_part, symbol_is, has_part, may_extend, is_none, may_join, is_place, behind_comma, may_link, may_also, may_follow, may_follow_symbol, may_stand}
use Rattle.qpu_asm.specs.reader.Reading.{ended}
use Rattle.qpu_asm.specs.reader.Pieces.{named, suffix_of, suffix_behind, suffix_at, alone, name_alone, bare, target_of_length, target_core, value_of_length, value_core, label_by, label_core, jump_core, comma_at}
use Rattle.qpu_asm.specs.reader.Parts.{branch_part}
use Rattle.qpu_asm.specs.reader.Orders.{is_unit, is_signal, is_rotation, is_read_a, is_read_b, is_link, is_row, is_empty, extra, unit_follows, load_follows, is_name, branch_follows, follows, due}
use Rattle.qpu_asm.proofs.ProperParts.{GivesPart, gives_on, gives_if}
use Rattle.qpu_asm.proofs.SpellsTags.{tag, tag_of}
use Rattle.qpu_asm.proofs.FaultChain.{core_of, one_is, value_told}
use Rattle.qpu_asm.proofs.FaultPieces.{one_token}

-- a part and the tokens that it is of

abbrev pub WayOf : Part → List Placed → Type 0
WayOf (part.Branch b) rest = not (is_name b.target.core) ≡ is_place (behind_comma rest)
WayOf p rest = Unit {0}

abbrev pub SymbolKind : Part → Symbol → List Placed → Type 0
SymbolKind p (symbol.Name n) rest = (tag p ≡ tag_of n) × WayOf p rest
SymbolKind p s rest = ⊥

abbrev pub KindOf : Part → List Placed → Type 0
KindOf p [] = ⊥
KindOf p (x ∷ rest) = SymbolKind p x.symbol rest

abbrev pub Kinds : List Part → List (List Placed) → Type 0
Kinds [] [] = Unit {0}
Kinds (p ∷ ps) (xs ∷ xss) = KindOf p xs × Kinds ps xss
Kinds ps xss = ⊥

pub kinds_more : (ps : List Part) (xss : List (List Placed)) (p : Part) (xs : List Placed) → Kinds ps xss → KindOf p xs → Kinds (ps ++ p ∷ []) (xss ++ xs ∷ [])
kinds_more [] [] p xs all kind = (kind, tt)
kinds_more [] (ys ∷ xss) p xs all kind = absurd all
kinds_more (q ∷ ps) [] p xs all kind = absurd all
kinds_more (q ∷ ps) (ys ∷ xss) p xs all kind = (all.0, kinds_more ps xss p xs all.1 kind)

-- kinds of parts by their mnemonics

unit_tag : (p : Part) → is_unit p ≡ (tag p == 1)
unit_tag (part.Unit u) = refl
unit_tag _ = refl

signal_tag : (p : Part) → is_signal p ≡ (tag p == 9)
signal_tag (part.Signal s token) = refl
signal_tag _ = refl

rotation_tag : (p : Part) → is_rotation p ≡ (tag p == 10)
rotation_tag (part.Rotate token by) = refl
rotation_tag _ = refl

read_a_tag : (p : Part) → is_read_a p ≡ (tag p == 11)
read_a_tag (part.ReadA q) = refl
read_a_tag _ = refl

read_b_tag : (p : Part) → is_read_b p ≡ (tag p == 12)
read_b_tag (part.ReadB q) = refl
read_b_tag _ = refl

link_tag : (p : Part) → is_link p ≡ (tag p == 7)
link_tag (part.Link q) = refl
link_tag _ = refl

row_tag : (p : Part) → is_row p ≡ (tag p == 8)
row_tag (part.Row q) = refl
row_tag _ = refl

unit_named : (n : Name) → is_unit_name n ≡ (tag_of n == 1)
unit_named (name.Add op) = refl
unit_named (name.Mul op) = refl
unit_named name.Mov = refl
unit_named _ = refl

signal_named : (n : Name) → is_signal_name n ≡ (tag_of n == 9)
signal_named name.End = refl
signal_named name.Load0 = refl
signal_named name.Load1 = refl
signal_named _ = refl

rotation_named : (n : Name) → is_rotate_name n ≡ (tag_of n == 10)
rotation_named name.Rotate = refl
rotation_named _ = refl

read_a_named : (n : Name) → is_read_a_name n ≡ (tag_of n == 11)
read_a_named name.ReadA = refl
read_a_named _ = refl

read_b_named : (n : Name) → is_read_b_name n ≡ (tag_of n == 12)
read_b_named name.ReadB = refl
read_b_named _ = refl

link_named : (n : Name) → is_link_name n ≡ (tag_of n == 7)
link_named name.Link = refl
link_named _ = refl

row_named : (n : Name) → is_row_part n ≡ (tag_of n == 8)
row_named name.Row = refl
row_named _ = refl

symbol_same : (kind : Part → Bool) (named : Name → Bool) (k : ℕ) (p : Part) (s : Symbol) (rest : List Placed) → ((q : Part) → kind q ≡ (tag q == k)) → ((n : Name) → named n ≡ (tag_of n == k))
    → SymbolKind p s rest → kind p ≡ symbol_is named s
symbol_same kind named k p (symbol.Name n) rest one two is = one p ∙ ap (λ z. z == k) is.0 ∙ sym (two n)
symbol_same kind named k p _ rest one two is = absurd is

any_same : (kind : Part → Bool) (named : Name → Bool) (k : ℕ) (ps : List Part) (xss : List (List Placed)) → ((q : Part) → kind q ≡ (tag q == k)) → ((n : Name) → named n ≡ (tag_of n == k))
    → Kinds ps xss → list_any kind ps ≡ has_part named xss
any_same kind named k [] [] one two all = refl
any_same kind named k [] (xs ∷ xss) one two all = absurd all
any_same kind named k (p ∷ ps) [] one two all = absurd all
any_same kind named k (p ∷ ps) ([] ∷ xss) one two all = absurd all.0
any_same kind named k (p ∷ ps) ((x ∷ rest) ∷ xss) one two all = rw (symbol_same kind named k p x.symbol rest one two all.0, any_same kind named k ps xss one two all.1) refl

empty_same : (ps : List Part) (xss : List (List Placed)) → Kinds ps xss → is_empty ps ≡ is_none xss
empty_same [] [] all = refl
empty_same [] (xs ∷ xss) all = absurd all
empty_same (p ∷ ps) [] all = absurd all
empty_same (p ∷ ps) (xs ∷ xss) all = refl

-- what may follow

extra_same : (ps : List Part) (xss : List (List Placed)) (n : Name) → Kinds ps xss → extra ps n ≡ may_extend xss n
extra_same ps xss name.End all = ap not (any_same is_signal is_signal_name 9 ps xss signal_tag signal_named all)
extra_same ps xss name.Load0 all = ap not (any_same is_signal is_signal_name 9 ps xss signal_tag signal_named all)
extra_same ps xss name.Load1 all = ap not (any_same is_signal is_signal_name 9 ps xss signal_tag signal_named all)
extra_same ps xss name.Rotate all = rw (any_same is_unit is_unit_name 1 ps xss unit_tag unit_named all, any_same is_rotation is_rotate_name 10 ps xss rotation_tag rotation_named all) refl
extra_same ps xss name.ReadA all = ap not (any_same is_read_a is_read_a_name 11 ps xss read_a_tag read_a_named all)
extra_same ps xss name.ReadB all = ap not (any_same is_read_b is_read_b_name 12 ps xss read_b_tag read_b_named all)
extra_same ps xss _ all = refl

unit_same : (idle : Bool) (ps : List Part) (xss : List (List Placed)) (n : Name) → Kinds ps xss → unit_follows idle ps n ≡ may_join idle xss n
unit_same idle ps xss n all = rw (empty_same ps xss all, extra_same ps xss n all) refl

also_same : (ps : List Part) (xss : List (List Placed)) (n : Name) → Kinds ps xss → load_follows ps n ≡ may_also xss n
also_same ps xss name.Also all = empty_same ps xss all
also_same ps xss _ all = refl

branch_same : (b : BranchPart) (rest : List Placed) (ps : List Part) (xss : List (List Placed)) (n : Name) → Kinds ps xss → not (is_name b.target.core) ≡ is_place (behind_comma rest) → branch_follows b ps n ≡ may_link rest xss n
branch_same b rest ps xss name.Link all way = ap not (any_same is_link is_link_name 7 ps xss link_tag link_named all)
branch_same b rest ps xss name.Row all way = rw (any_same is_row is_row_part 8 ps xss row_tag row_named all, way) refl
branch_same b rest ps xss _ all way = refl

-- behind other parts stands none
abbrev leads : ℕ → Bool
leads k = nat_le k 2 || k == 6

may_none : (m : Name) (rest : List Placed) (xss : List (List Placed)) (n : Name) → leads (tag_of m) ≡ false → may_follow m rest xss n ≡ false
may_none name.Nop rest xss n e = absurd (grind (arith, e))
may_none (name.Add op) rest xss n e = absurd (grind (arith, e))
may_none (name.Mul op) rest xss n e = absurd (grind (arith, e))
may_none name.Mov rest xss n e = absurd (grind (arith, e))
may_none (name.Load kind) rest xss n e = absurd (grind (arith, e))
may_none name.Branch rest xss n e = absurd (grind (arith, e))
may_none name.RelativeBranch rest xss n e = absurd (grind (arith, e))
may_none _ rest xss n e = refl

follows_same : (p : Part) (m : Name) (rest : List Placed) (ps : List Part) (xss : List (List Placed)) (n : Name) → tag p ≡ tag_of m → WayOf p rest → Kinds ps xss → follows p ps n ≡ may_follow m rest xss n
follows_same part.Nop name.Nop rest ps xss n e way all = unit_same true ps xss n all
follows_same part.Nop _ rest ps xss n e way all = absurd (grind (arith, e))
follows_same (part.Unit u) (name.Add op) rest ps xss n e way all = unit_same false ps xss n all
follows_same (part.Unit u) (name.Mul op) rest ps xss n e way all = unit_same false ps xss n all
follows_same (part.Unit u) name.Mov rest ps xss n e way all = unit_same false ps xss n all
follows_same (part.Unit u) _ rest ps xss n e way all = absurd (grind (arith, e))
follows_same (part.Load l) (name.Load kind) rest ps xss n e way all = also_same ps xss n all
follows_same (part.Load l) _ rest ps xss n e way all = absurd (grind (arith, e))
follows_same (part.Branch b) name.Branch rest ps xss n e way all = branch_same b rest ps xss n all way
follows_same (part.Branch b) name.RelativeBranch rest ps xss n e way all = branch_same b rest ps xss n all way
follows_same (part.Branch b) _ rest ps xss n e way all = absurd (grind (arith, e))
follows_same (part.Also a) m rest ps xss n e way all = sym (may_none m rest xss n (ap leads (sym e)))
follows_same (part.Increment q) m rest ps xss n e way all = sym (may_none m rest xss n (ap leads (sym e)))
follows_same (part.Decrement q) m rest ps xss n e way all = sym (may_none m rest xss n (ap leads (sym e)))
follows_same (part.Link q) m rest ps xss n e way all = sym (may_none m rest xss n (ap leads (sym e)))
follows_same (part.Row q) m rest ps xss n e way all = sym (may_none m rest xss n (ap leads (sym e)))
follows_same (part.Signal s token) m rest ps xss n e way all = sym (may_none m rest xss n (ap leads (sym e)))
follows_same (part.Rotate token q) m rest ps xss n e way all = sym (may_none m rest xss n (ap leads (sym e)))
follows_same (part.ReadA q) m rest ps xss n e way all = sym (may_none m rest xss n (ap leads (sym e)))
follows_same (part.ReadB q) m rest ps xss n e way all = sym (may_none m rest xss n (ap leads (sym e)))

symbol_follows : (p : Part) (s : Symbol) (rest : List Placed) (ps : List Part) (xss : List (List Placed)) (n : Name) → SymbolKind p s rest → Kinds ps xss → follows p ps n ≡ may_follow_symbol s rest xss n
symbol_follows p (symbol.Name m) rest ps xss n kind all = follows_same p m rest ps xss n kind.0 kind.1 all
symbol_follows p _ rest ps xss n kind all = absurd kind

pub due_same : (ps : List Part) (xss : List (List Placed)) (n : Name) → Kinds ps xss → due ps n ≡ may_stand xss n
unfolding due
due_same [] [] n all = refl
due_same [] (xs ∷ xss) n all = absurd all
due_same (p ∷ ps) [] n all = absurd all
due_same (p ∷ ps) ([] ∷ xss) n all = absurd all.0
due_same (p ∷ ps) ((x ∷ rest) ∷ xss) n all = symbol_follows p x.symbol rest ps xss n all.0 all.1

-- where a branch goes stands behind its comma

abbrev SameGap : {A : Type 0} → List Placed → A × List Placed → Type 0
SameGap xs p = behind_comma xs ≡ behind_comma p.1

dot_not : (s : Symbol) → is_dot s ≡ true → is_comma s ≡ false
dot_not symbol.Dot e = refl
dot_not _ e = absurd (grind (arith, e))

gap_named : (x y : Placed) (rest : List Placed) (s : Symbol) → is_comma x.symbol ≡ false → y.symbol ≡ s → GivesPart (SameGap (x ∷ y ∷ rest)) (suffix_of x.token y.token rest (named s))
gap_named x y rest (symbol.Name n) nay e = rw (nay, e) refl
gap_named x y rest symbol.Unknown nay e = rw (nay, e) refl
gap_named x y rest _ nay e = tt

gap_behind : (x : Placed) (rest : List Placed) → is_comma x.symbol ≡ false → GivesPart (SameGap (x ∷ rest)) (suffix_behind x.token rest)
gap_behind x [] nay = tt
gap_behind x (y ∷ rest) nay = gap_named x y rest y.symbol nay refl

gap_suffix : (xs : List Placed) → GivesPart (SameGap xs) (suffix_at xs)
gap_suffix [] = refl
gap_suffix (x ∷ rest) =
    gives_if (SameGap (x ∷ rest)) (is_dot x.symbol) (suffix_behind x.token rest) (Ok (None, x ∷ rest)) (λ e. gap_behind x rest (dot_not x.symbol e)) (λ _. refl)

gap_one : (c : Core) (x : Placed) (rest : List Placed) → is_comma x.symbol ≡ false → SameGap {A = Piece} (x ∷ rest) (bare c x.token, rest)
gap_one c x rest nay = rw nay refl

gap_length : (c : Core) (x : Placed) (rest : List Placed) (l : Option ℕ) → is_comma x.symbol ≡ false → GivesPart (SameGap (x ∷ rest)) (target_of_length x rest (Some c) l)
gap_length c x rest None nay = tt
gap_length c x rest (Some n) nay = gives_if (SameGap (x ∷ rest)) (n == 1) _ _ (λ _. gap_one c x rest nay) (λ _. tt)

gap_symbol : (x : Placed) (rest : List Placed) (s : Symbol) (l : Option ℕ) → x.symbol ≡ s → GivesPart (SameGap (x ∷ rest)) (target_of_length x rest (name_alone s) l)
gap_symbol x rest (symbol.Name n) l e = gap_length (core.Name n) x rest l (rw e refl)
gap_symbol x rest symbol.Unknown l e = gap_length core.Unknown x rest l (rw e refl)
gap_symbol x rest _ l e = tt

minus_not : (s : Symbol) (b : Bool) → (is_minus s && b) ≡ true → is_comma s ≡ false
minus_not symbol.Minus b e = refl
minus_not _ b e = absurd (grind (arith, e))

gap_target : (end : Token) (xs : List Placed) → GivesPart (SameGap xs) (target_core end xs)
unfolding target_core
gap_target end [] = tt
gap_target end (x ∷ rest) =
    gives_if (SameGap (x ∷ rest)) (is_minus x.symbol && stops rest) _ _ (λ e. gap_one core.Nowhere x rest (minus_not x.symbol (stops rest) e)) (λ _. gap_symbol x rest x.symbol (length_of (x ∷ rest)) refl)

gap_comma : (end : Token) (xs : List Placed) → GivesPart (λ rest. behind_comma xs ≡ rest) (comma_at end xs)
gap_comma end [] = tt
gap_comma end (x ∷ rest) = gives_if (λ z. behind_comma (x ∷ rest) ≡ z) (is_comma x.symbol) (Ok rest) (Err x.token) (λ e. rw e refl) (λ _. tt)

-- a branch goes to a number or a label
abbrev GoesTo : List Placed → Piece × List Placed → Type 0
GoesTo xs p = p.1 ≡ [] → not (is_name p.0.core) ≡ is_place xs

one_way : (s : Symbol) → not (is_name (core_of (Some s))) ≡ is_number s
one_way (symbol.Name n) = refl
one_way symbol.Unknown = refl
one_way (symbol.Number v) = refl
one_way _ = refl

way_told : (x : Placed) (rest : List Placed) (n : ℕ) (one : Bool) → is_colon x.symbol ≡ false → (n == 1) ≡ one → length_of (x ∷ rest) ≡ Some n → drop n (x ∷ rest) ≡ []
    → not (is_name (core_of (if one then Some x.symbol else None))) ≡ is_place (x ∷ rest)
way_told x [] n true nay is long e = one_way x.symbol
way_told x (y ∷ rest) n true nay is long e = absurd (let P : ℕ → Type 0 = λ z. drop z (x ∷ y ∷ rest) ≡ [] in let f : y ∷ rest ≡ [] = subst P (one_is n is) e in cc)
way_told x [] n false nay is long e = absurd (let f : n ≡ 1 = one_token x.symbol n long in grind (arith, f, is))
way_told x (y ∷ rest) n false nay is long e = sym nay

way_length : (x : Placed) (rest : List Placed) (l : Option ℕ) → is_colon x.symbol ≡ false → length_of (x ∷ rest) ≡ l → GivesPart (GoesTo (x ∷ rest)) (value_of_length x rest (alone x.symbol) l)
way_length x rest None nay long = tt
way_length x rest (Some n) nay long = subst (GivesPart (GoesTo (x ∷ rest))) (sym (value_told x.symbol x rest n)) (λ e. way_told x rest n (n == 1) nay refl long e)

label_way : (x y : Placed) (rest : List Placed) (s : Symbol) → is_colon x.symbol ≡ true → GivesPart (GoesTo (x ∷ y ∷ rest)) (label_by y rest (name_alone s))
label_way x y rest (symbol.Name n) colon = λ e. sym colon
label_way x y rest symbol.Unknown colon = λ e. sym colon
label_way x y rest _ colon = tt

label_goes : (end : Token) (x : Placed) (rest : List Placed) → is_colon x.symbol ≡ true → GivesPart (GoesTo (x ∷ rest)) (label_core end rest)
label_goes end x [] colon = tt
label_goes end x (y ∷ rest) colon = label_way x y rest y.symbol colon

jump_goes : (end : Token) (xs : List Placed) → GivesPart (GoesTo xs) (jump_core end xs)
unfolding jump_core value_core
jump_goes end [] = tt
jump_goes end (x ∷ rest) =
    gives_if (GoesTo (x ∷ rest)) (is_colon x.symbol) (label_core end rest) _ (λ e. label_goes end x rest e) (λ e. way_length x rest (length_of (x ∷ rest)) e refl)

way_ended : (P : Part → Type 0) (p : Part) (xs : List Placed) → (xs ≡ [] → P p) → GivesPart P (ended p xs)
way_ended P p [] holds = holds refl
way_ended P p (x ∷ xs) holds = tt

pub branch_way : (relative : Bool) (end : Token) (xs : List Placed) → GivesPart (λ p. WayOf p xs) (branch_part relative end xs)
unfolding branch_part
branch_way relative end xs =
    gives_on (SameGap xs) (λ p. WayOf p xs) (suffix_at xs) _ (gap_suffix xs)
    (λ s one. gives_on (SameGap s.1) (λ p. WayOf p xs) (target_core end s.1) _ (gap_target end s.1)
    (λ to two. gives_on (λ z. behind_comma to.1 ≡ z) (λ p. WayOf p xs) (comma_at end to.1) _ (gap_comma end to.1)
    (λ rest three. gives_on (GoesTo rest) (λ p. WayOf p xs) (jump_core end rest) _ (jump_goes end rest)
    (λ w goes. way_ended (λ p. WayOf p xs) _ w.1 (λ e. goes e ∙ ap is_place (sym (one ∙ two ∙ three)))))))
