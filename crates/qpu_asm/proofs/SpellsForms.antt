-- Lines of loads, semaphores and branches in which no fault is found spell what they say.
use Rattle.std.proofs.Common.{◌≡◌, ℕ, inl, inr, Bool, true, false, List, [], ◌∷◌, ◌++◌, ◌⊎◌, Option, Some, None, refl, sym, subst, ap, ◌∙◌, append_assoc, arith}
use Rattle.std.specs.Prelude.{◌&&◌, not, if◌then◌else◌}
use Rattle.std.specs.Option.{option_or}
use Rattle.std.specs.List.{list_any}
use Rattle.qpu_token.specs.declared.token.Token.{Token}
use Rattle.qpu_word.specs.declared.name.Place.{Place}
use Rattle.qpu_line.specs.declared.load.Write.{Write}
use Rattle.qpu_line.specs.declared.name.Name.{Name}
use Rattle.qpu_line.specs.declared.name.Name.TheVariants as name
use Rattle.qpu_line.specs.declared.name.Register.{Register}
use Rattle.qpu_line.specs.declared.name.Register.TheVariants as register
use Rattle.qpu_line.specs.declared.symbol.Symbol.{Symbol}
use Rattle.qpu_line.specs.declared.symbol.Symbol.TheVariants as symbol
use Rattle.qpu_asm.specs.declared.placed.Placed.{Placed}
use Rattle.qpu_asm.specs.declared.piece.Core.{Core}
use Rattle.qpu_asm.specs.declared.piece.Core.TheVariants as core
use Rattle.qpu_asm.specs.declared.piece.Suffix.{Suffix}
use Rattle.qpu_asm.specs.declared.piece.Piece.{Piece}
use Rattle.qpu_asm.specs.declared.part.AlsoPart.{AlsoPart}
use Rattle.qpu_asm.specs.declared.part.LoadPart.{LoadPart}
use Rattle.qpu_asm.specs.declared.part.BranchPart.{BranchPart}
use Rattle.qpu_asm.specs.declared.part.Part.{Part}
use Rattle.qpu_asm.specs.declared.part.Part.TheVariants as part
use Rattle.qpu_asm.specs.declared.mark.What.{What}
use Rattle.qpu_asm.specs.declared.mark.What.TheVariants as what
use Rattle.qpu_asm.specs.reader.Orders.{is_link, is_row, is_name, load_follows, branch_follows, follows}
use Rattle.qpu_asm.specs.SectionTokens.{SectionTokens}
use Rattle.qpu_asm.specs.reader.Marks.{suffix_marks, condition_marks, branch_marks, target_place, place_mark, somewhere, any_number, load_marks, also_marks, jump_marks, jumping_marks, is_row_name, part_marks, marks_of}
use Rattle.qpu_asm.specs.Roles.{if_link}
use Rattle.qpu_asm.specs.reader.Meanings.{sets_in, nowhere_place, place_of, number_of, write_in, also_in, load_of_part, distance, first_told, target_row, row_part, link_in, branch_of_part, step}
use Rattle.qpu_asm.specs.Laws.{symbols_of}
use Rattle.qpu_asm.specs.SpelledPieces.{name_alone, SpellsTarget, SpellsJump}
use Rattle.qpu_asm.specs.SpelledPieces.SpellsTarget.{nowhere, named as target_named}
use Rattle.qpu_asm.specs.SpelledPieces.SpellsJump.{number, label, row}
use Rattle.qpu_asm.specs.Spells.{SpellsAlso, SpellsLoad, SpellsSemaphore, SpellsLinks, SpellsBranch, branch_name, label_in}
use Rattle.qpu_asm.specs.Signs.{is_colon}
use Rattle.qpu_asm.specs.Spells.SpellsAlso.{absent, also}
use Rattle.qpu_asm.specs.Spells.SpellsLoad.{load}
use Rattle.qpu_asm.specs.Spells.SpellsSemaphore.{increment, decrement}
use Rattle.qpu_asm.specs.Spells.SpellsLinks.{none as links_none, link, adds}
use Rattle.qpu_asm.specs.Spells.SpellsBranch.{branch}
use Rattle.qpu_asm.proofs.MarkLemmas.{Has, IsClear}
use Rattle.qpu_asm.proofs.GrowLemmas.{Marking, grows_place, grows_any, grows_jump, piece, later_marks, later_first, later_rest}
use Rattle.qpu_asm.proofs.ShortLaws.{heads, tails}
use Rattle.qpu_asm.proofs.AgainSpelled.{Spelled}
use Rattle.qpu_asm.proofs.SpellsTold.{CoreIs, LabelIs, named_symbol, suffix_symbols, conditions_of, AlsoTold, LastTold, Told}
use Rattle.qpu_asm.proofs.SpellsLine.{texts, SectionTold, AllTold}
use Rattle.qpu_asm.proofs.SpellsPieces.{Spares, spares_old, spares_new, written_same, MnemonicSpelled, mnemonic_spelled, condition_spelled, branch_spelled, target_spelled, NameSpelled, somewhere_spelled, link_place, number_spelled, between_spelled}
use Rattle.qpu_asm.proofs.SpellsUnitParts.{spelled_symbols}
use Rattle.qpu_asm.proofs.SpellsTags.{tag, tag_of, told_tag, section_symbols, may_follow, none_behind, once_more}

-- what a line's clear marks spare, part by part

pub first_spares : (w : What) (p : Part) (later : List Part) → (Has w (marks_of (p ∷ later)) → ⊥) → Spares w (λ ms. part_marks false ms p)
first_spares w p later none = λ has. none (heads w p later has)

pub later_spares : (w : What) (p : Part) (later : List Part) → (Has w (marks_of (p ∷ later)) → ⊥) → Has w (later_marks later) → ⊥
later_spares w p later none = λ has. none (tails w p later has)

-- semaphores

pub increment_spelled : (xs : List Placed) (p : Piece) (t : List Symbol) → CoreIs p.core t → symbols_of xs ≡ symbol.Name name.Increment ∷ t → Spares what.Wrong (λ ms. part_marks false ms (part.Increment p))
    → SpellsSemaphore (symbols_of xs ∷ []) (step false p)
unfolding part_marks
increment_spelled xs p t is e h =
    let P : List Symbol → Type 0 = λ z. SpellsSemaphore (z ∷ []) (step false p) in
    subst P (sym e) (increment (between_spelled 0 15 p.core t p.token p.suffix is h))

pub decrement_spelled : (xs : List Placed) (p : Piece) (t : List Symbol) → CoreIs p.core t → symbols_of xs ≡ symbol.Name name.Decrement ∷ t → Spares what.Wrong (λ ms. part_marks false ms (part.Decrement p))
    → SpellsSemaphore (symbols_of xs ∷ []) (step true p)
unfolding part_marks
decrement_spelled xs p t is e h =
    let P : List Symbol → Type 0 = λ z. SpellsSemaphore (z ∷ []) (step true p) in
    subst P (sym e) (decrement (between_spelled 0 15 p.core t p.token p.suffix is h))

-- loads

pub whole_by : (s : List Symbol) (n m : Name) (ys front t end : List Symbol) → s ≡ symbol.Name n ∷ ys → n ≡ m → ys ≡ front ++ t → t ≡ end → s ≡ symbol.Name m ∷ (front ++ end)
whole_by s n m ys front t end e f g h = rw (e, f, g, h) refl

also_symbols : (a : AlsoPart) (n : Name) (xs ys : List Placed) (told : AlsoTold n ys a) → Spares what.Wrong (also_marks a) → symbols_of xs ≡ symbol.Name n ∷ symbols_of ys
    → SpellsAlso (symbols_of xs ∷ []) (write_in (place_of a.to.core) a.suffix)
unfolding also_marks
also_symbols a n xs ys told h e =
    let placing : Marking = place_mark (somewhere a.to.core) a.to.token in
    let c = condition_spelled a.suffix (place_of a.to.core) (spares_old what.Wrong (condition_marks a.suffix) placing (grows_place (somewhere a.to.core) a.to.token) h) in
    let t : NameSpelled a.to.core told.t = somewhere_spelled a.to.core told.t a.to.token told.to (spares_new what.Wrong (condition_marks a.suffix) placing (grows_place (somewhere a.to.core) a.to.token) h) in
    let whole : symbols_of xs ≡ symbol.Name name.Also ∷ (suffix_symbols a.suffix ++ name_alone t.n) =
    whole_by (symbols_of xs) n name.Also (symbols_of ys) (suffix_symbols a.suffix) told.t (name_alone t.n) e told.op (spelled_symbols _ ys told.there) t.is in
    let P : List Symbol → Type 0 = λ z. SpellsAlso (z ∷ []) (write_in (place_of a.to.core) a.suffix) in
    let Q : Option Write → Type 0 = λ w. SpellsAlso ((symbol.Name name.Also ∷ (suffix_symbols a.suffix ++ name_alone t.n)) ∷ []) w in
    subst P (sym whole) (subst Q (written_same (place_of a.to.core) a.suffix) (also t.n c t.meant))

is_also : (n : Name) → load_follows [] n ≡ true → n ≡ name.Also
is_also name.Also e = refl
is_also _ e = absurd (grind (arith, e))

not_behind : (q : Part) (done : List Part) (n : Name) → load_follows (q ∷ done) n ≡ false
not_behind q done name.Also = refl
not_behind q done _ = refl

also_by : (l : LoadPart) (s : SectionTokens) (ss : List SectionTokens) (p : Part) (later : List Part) → SectionTold (part.Load l ∷ []) s.tokens p
    → AllTold (part.Load l ∷ p ∷ []) ss later → Spares what.Wrong (λ ms. part_marks true ms p) → 3 ≡ tag p → SpellsAlso (texts (s ∷ ss)) (also_in (p ∷ later))
unfolding part_marks
also_by l s ss (part.Also a) later h more right e =
    let n = none_behind (part.Load l) (part.Also a ∷ []) ss later (not_behind (part.Also a) []) more in
    let P : List SectionTokens → Type 0 = λ z. SpellsAlso (symbols_of s.tokens ∷ texts z) (write_in (place_of a.to.core) a.suffix) in
    subst P (sym n.0) (also_symbols a h.n s.tokens h.rest h.told right (section_symbols (part.Load l ∷ []) s.tokens (part.Also a) h))
also_by l s ss _ later h more right e = absurd (grind (arith, e))

also_spelled : (l : LoadPart) (ss : List SectionTokens) (later : List Part) → AllTold (part.Load l ∷ []) ss later → (Has what.Wrong (later_marks later) → ⊥) → SpellsAlso (texts ss) (also_in later)
also_spelled l [] [] told right = absent
also_spelled l [] (p ∷ later) told right = absurd told
also_spelled l (s ∷ ss) [] told right = absurd told
also_spelled l (s ∷ ss) (p ∷ later) told right =
    let h = told.0 in
    let n : h.n ≡ name.Also = is_also h.n (may_follow (part.Load l) [] h.n h.may) in
    also_by l s ss p later h told.1 (λ has. right (later_first what.Wrong p later has)) (ap tag_of (sym n) ∙ sym (told_tag h.n h.rest p h.told))

parted : (c f t x conditions : List Symbol) → conditions ≡ c ++ f → conditions ++ (t ++ x) ≡ c ++ (f ++ (t ++ x))
parted c f t x conditions e = ap (λ y. y ++ (t ++ x)) e ∙ append_assoc c f (t ++ x)

pub load_spelled : (l : LoadPart) (s : SectionTokens) (ss : List SectionTokens) (later : List Part) (h : SectionTold [] s.tokens (part.Load l)) → AllTold (part.Load l ∷ []) ss later
    → IsClear (marks_of (part.Load l ∷ later)) → SpellsLoad (texts (s ∷ ss)) (load_of_part l later)
unfolding load_of_part part_marks load_marks
load_spelled l s ss later h told clear =
    let own : Spares what.Wrong (λ ms. load_marks l ms) = first_spares what.Wrong (part.Load l) later clear.right in
    let placing : Marking = place_mark (target_place l.to.core) l.to.token in
    let numbering : Marking = any_number l.value in
    let of_target : Spares what.Wrong (λ ms. placing (suffix_marks false l.suffixes ms)) = spares_old what.Wrong (λ ms. placing (suffix_marks false l.suffixes ms)) numbering (grows_any l.value) own in
    let m : MnemonicSpelled l.suffixes = mnemonic_spelled false l.suffixes (spares_old what.Wrong (suffix_marks false l.suffixes) placing (grows_place (target_place l.to.core) l.to.token) of_target) in
    let to = target_spelled l.to.core h.told.t l.to.token h.told.to (spares_new what.Wrong (suffix_marks false l.suffixes) placing (grows_place (target_place l.to.core) l.to.token) of_target) in
    let value = number_spelled l.value.core h.told.x l.value.token l.value.suffix h.told.value (spares_new what.Wrong (λ ms. placing (suffix_marks false l.suffixes ms)) numbering (grows_any l.value) own) in
    let second = also_spelled l ss later told (later_spares what.Wrong (part.Load l) later clear.right) in
    let whole : symbols_of s.tokens ≡ symbol.Name (name.Load l.kind) ∷ (m.c ++ (m.f ++ (h.told.t ++ symbol.Comma ∷ h.told.x))) =
    section_symbols [] s.tokens (part.Load l) h ∙ rw (h.told.op, spelled_symbols _ h.rest h.told.there ∙ parted m.c m.f h.told.t (symbol.Comma ∷ h.told.x) (conditions_of l.suffixes) m.whole) refl in
    let P : List Symbol → Type 0 = λ z. SpellsLoad (z ∷ texts ss) (load_of_part l later) in
    let Q : Option Write → Type 0 = λ w. SpellsLoad ((symbol.Name (name.Load l.kind) ∷ (m.c ++ (m.f ++ (h.told.t ++ symbol.Comma ∷ h.told.x)))) ∷ texts ss)
    (record { kind = l.kind; sets = sets_in l.suffixes; add = w; mul = also_in later; immediate = number_of l.value.core }) in
    subst P (sym whole) (subst Q (written_same (place_of l.to.core) l.suffixes.first) (load (m.condition (place_of l.to.core)) m.flags to value second))

-- branches

jump_register : (relative : Bool) (at : ℕ) (o : Option ℕ) (r : Register) (token : Token) (s : Option Suffix) → Spares what.Wrong (jump_marks (piece (core.Name (name.Register r)) token s))
    → SpellsJump relative at o (name_alone (name.Register r)) 0 (target_row (core.Name (name.Register r)))
jump_register relative at o (register.RowA n) token s h = row
jump_register relative at o (register.RowB n) token s h = absurd (h (inl refl))
jump_register relative at o (register.Accumulator n) token s h = absurd (h (inl refl))
jump_register relative at o register.Vpm token s h = absurd (h (inl refl))
jump_register relative at o (register.Source p) token s h = absurd (h (inl refl))
jump_register relative at o (register.Target p) token s h = absurd (h (inl refl))

jump_name : (relative : Bool) (at : ℕ) (o : Option ℕ) (n : Name) (token : Token) (s : Option Suffix) → Spares what.Wrong (jump_marks (piece (core.Name n) token s))
    → SpellsJump relative at o (name_alone n) 0 (target_row (core.Name n))
jump_name relative at o (name.Register r) token s h = jump_register relative at o r token s h
jump_name relative at o _ token s h = absurd (h (inl refl))

jump_spelled : (relative : Bool) (at : ℕ) (o : Option ℕ) (c : Core) (x : List Symbol) (jump : List Placed) (token : Token) (s : Option Suffix) → CoreIs c x → LabelIs c jump
    → ((word : ℕ) → label_in jump ≡ Some word → o ≡ Some word) → Spares what.Wrong (jump_marks (piece c token s)) → Spares what.Missing (jump_marks (piece c token s))
    → SpellsJump relative at o x (distance relative at c) (target_row c)
jump_spelled relative at o (core.Number v) x jump token s is here found right known = number (number_spelled (core.Number v) x token s is (λ has. has))
jump_spelled relative at o (core.Name n) x jump token s is here found right known =
    let P : List Symbol → Type 0 = λ z. SpellsJump relative at o z 0 (target_row (core.Name n)) in
    subst P (sym is) (jump_name relative at o n token s right)
jump_spelled relative at o (core.Label (Some word)) x jump token s (a, named, e) here found right known =
    let P : List Symbol → Type 0 = λ z. SpellsJump relative at o z (distance relative at (core.Label (Some word))) None in
    subst P (sym e) (label named (found word here))
jump_spelled relative at o (core.Label None) x jump token s is here found right known = absurd (known (inl refl))
jump_spelled relative at o core.Unknown x jump token s is here found right known = absurd (right (inl refl))
jump_spelled relative at o core.Nowhere x jump token s is here found right known = absurd (right (inl refl))

-- what stands behind

no_link : (later : List Part) → list_any is_link later ≡ false → link_in later ≡ nowhere_place
no_link [] e = refl
no_link (part.Link p ∷ later) e = absurd (grind (arith, e))
no_link (_ ∷ later) e = no_link later e

no_row : (later : List Part) → list_any is_row later ≡ false → first_told row_part later ≡ None
no_row [] e = refl
no_row (part.Row p ∷ later) e = absurd (grind (arith, e))
no_row (_ ∷ later) e = no_row later e

not_by : (a : Bool) → a ≡ true → not a ≡ true → ⊥
not_by true e f = grind (arith, f)
not_by false e f = grind (arith, e)

left_true : (a b : Bool) → (a && b) ≡ true → a ≡ true
left_true true b e = refl
left_true false b e = e

link_once : (b : BranchPart) (before : List Part) (n : Name) (xs : List Placed) (p : Part) → list_any is_link before ≡ true → follows (part.Branch b) before n ≡ true → Told n xs p → is_link p ≡ false
link_once b before n xs (part.Link p) some may told = absurd (by_name n told.op may)
  where
    by_name : (n : Name) → n ≡ name.Link → branch_follows b before n ≡ true → ⊥
    by_name n e may = let link_may : branch_follows b before name.Link ≡ true = (let P : Name → Type 0 = λ z. branch_follows b before z ≡ true in subst P e may) in not_by (list_any is_link before) some link_may
link_once b before n xs _ some may told = refl

row_once : (b : BranchPart) (before : List Part) (n : Name) (xs : List Placed) (p : Part) → list_any is_row before ≡ true → follows (part.Branch b) before n ≡ true → Told n xs p → is_row p ≡ false
row_once b before n xs (part.Row p) some may told = absurd (by_name n told.op may)
  where
    by_name : (n : Name) → n ≡ name.Row → branch_follows b before n ≡ true → ⊥
    by_name n e may =
        let row_may : branch_follows b before name.Row ≡ true = (let P : Name → Type 0 = λ z. branch_follows b before z ≡ true in subst P e may) in
        not_by (list_any is_row before) some (left_true (not (list_any is_row before)) (not (is_name b.target.core)) row_may)
row_once b before n xs _ some may told = refl

-- a branch to a name has no row behind it
no_name_row : (c : Core) → not (is_name c) ≡ true → target_row c ≡ None
no_name_row (core.Name n) e = absurd (grind (arith, e))
no_name_row core.Unknown e = refl
no_name_row (core.Number v) e = refl
no_name_row core.Nowhere e = refl
no_name_row (core.Label at) e = refl

right_true : (a b : Bool) → (a && b) ≡ true → b ≡ true
right_true true b e = e
right_true false b e = absurd (grind (arith, e))

row_name_is : (c : Core) (t : List Symbol) (b : Bool) (token : Token) → CoreIs c t → is_row_name c ≡ b → (Has what.Wrong (if not b then record { what = what.Wrong; token = token } ∷ [] else []) → ⊥)
    → (k : ℕ) × (t ≡ name_alone (name.Register (register.RowA k))) × (target_row c ≡ Some k)
row_name_is c t false token is e h = absurd (h (inl refl))
row_name_is (core.Name (name.Register (register.RowA k))) t true token is e h = (k, is, refl)
row_name_is _ t true token is e h = absurd (grind (arith, e))

abbrev LinksOf : BranchPart → List SectionTokens → List Part → Type 0
LinksOf b ss later = SpellsLinks (target_row b.target.core) (texts ss) (link_in later) (option_or (target_row b.target.core) (first_told row_part later))

link_step : (b : BranchPart) (s : SectionTokens) (ss : List SectionTokens) (q : Piece) (later : List Part) (xs : List Placed) (told : LastTold name.Link name.Link xs q)
    → symbols_of s.tokens ≡ symbol.Name name.Link ∷ symbols_of xs → Spares what.Wrong (place_mark (if_link (somewhere q.core)) q.token) → list_any is_link later ≡ false
    → LinksOf b ss later → LinksOf b (s ∷ ss) (part.Link q ∷ later)
link_step b s ss q later xs told e right single more =
    let t : NameSpelled q.core told.t = somewhere_spelled q.core told.t q.token told.is (link_place (somewhere q.core) q.token right) in
    let whole : symbols_of s.tokens ≡ symbol.Name name.Link ∷ name_alone t.n =
    whole_by (symbols_of s.tokens) name.Link name.Link (symbols_of xs) [] told.t (name_alone t.n) e refl (spelled_symbols _ xs told.there) t.is in
    let o = option_or (target_row b.target.core) (first_told row_part later) in
    let P : List Symbol → Type 0 = λ z. SpellsLinks (target_row b.target.core) (z ∷ texts ss) (place_of q.core) o in
    let R : Place → Type 0 = λ z. SpellsLinks (target_row b.target.core) (texts ss) z o in
    subst P (sym whole) (link t.meant (subst R (no_link later single) more))

row_step : (b : BranchPart) (s : SectionTokens) (ss : List SectionTokens) (q : Piece) (later : List Part) (xs : List Placed) (told : LastTold name.Row name.Row xs q)
    → symbols_of s.tokens ≡ symbol.Name name.Row ∷ symbols_of xs → Spares what.Wrong (λ ms. part_marks true ms (part.Row q)) → list_any is_row later ≡ false → target_row b.target.core ≡ None
    → LinksOf b ss later → LinksOf b (s ∷ ss) (part.Row q ∷ later)
unfolding part_marks
row_step b s ss q later xs told e right single free more =
    let r = row_name_is q.core told.t (is_row_name q.core) q.token told.is refl right in
    let whole : symbols_of s.tokens ≡ symbol.Name name.Row ∷ name_alone (name.Register (register.RowA r.0)) =
    whole_by (symbols_of s.tokens) name.Row name.Row (symbols_of xs) [] told.t (name_alone (name.Register (register.RowA r.0))) e refl (spelled_symbols _ xs told.there) r.1 in
    let none : option_or (target_row b.target.core) (first_told row_part later) ≡ None = rw (free, no_row later single) refl in
    let some : option_or (target_row b.target.core) (first_told row_part (part.Row q ∷ later)) ≡ Some r.0 = rw (free, r.2) refl in
    let P : List Symbol → Type 0 = λ z. SpellsLinks (target_row b.target.core) (z ∷ texts ss) (link_in later) (option_or (target_row b.target.core) (first_told row_part (part.Row q ∷ later))) in
    let O : Option ℕ → Type 0 = λ z. SpellsLinks (target_row b.target.core) ((symbol.Name name.Row ∷ name_alone (name.Register (register.RowA r.0))) ∷ texts ss) (link_in later) z in
    let R : Option ℕ → Type 0 = λ z. SpellsLinks (target_row b.target.core) (texts ss) (link_in later) z in
    subst P (sym whole) (subst O (sym some) (adds (subst R none more)))

is_behind : (b : BranchPart) (done : List Part) (n : Name) → branch_follows b done n ≡ true → (n ≡ name.Link) ⊎ ((n ≡ name.Row) × (not (is_name b.target.core) ≡ true))
is_behind b done name.Link e = inl refl
is_behind b done name.Row e = inr (refl, right_true (not (list_any is_row done)) (not (is_name b.target.core)) e)
is_behind b done _ e = absurd (grind (arith, e))

abbrev Behind : Name → BranchPart → Type 0
Behind n b = (n ≡ name.Link) ⊎ ((n ≡ name.Row) × (not (is_name b.target.core) ≡ true))

links_by : (b : BranchPart) (done : List Part) (s : SectionTokens) (ss : List SectionTokens) (p : Part) (later : List Part) (h : SectionTold (part.Branch b ∷ done) s.tokens p)
    → AllTold (part.Branch b ∷ (done ++ p ∷ [])) ss later → Spares what.Wrong (λ ms. part_marks true ms p) → Behind h.n b → LinksOf b ss later → LinksOf b (s ∷ ss) (p ∷ later)
unfolding part_marks
links_by b done s ss (part.Link q) later h told right behind more =
    link_step b s ss q later h.rest (record { op = refl; t = h.told.t; is = h.told.is; there = h.told.there })
    (section_symbols (part.Branch b ∷ done) s.tokens (part.Link q) h ∙ ap (λ n. symbol.Name n ∷ symbols_of h.rest) h.told.op) right
    (once_more is_link (part.Branch b) done (part.Link q) ss later (link_once b) refl told) more
links_by b done s ss (part.Row q) later h told right (inl e) more =
    absurd (let f : 8 ≡ 7 = told_tag h.n h.rest (part.Row q) h.told ∙ ap tag_of e in grind (arith, f))
links_by b done s ss (part.Row q) later h told right (inr (e, free)) more =
    row_step b s ss q later h.rest (record { op = refl; t = h.told.t; is = h.told.is; there = h.told.there })
    (section_symbols (part.Branch b ∷ done) s.tokens (part.Row q) h ∙ ap (λ n. symbol.Name n ∷ symbols_of h.rest) h.told.op) right
    (once_more is_row (part.Branch b) done (part.Row q) ss later (row_once b) refl told) (no_name_row b.target.core free) more
links_by b done s ss p later h told right (inl e) more = absurd (let f : tag p ≡ 7 = told_tag h.n h.rest p h.told ∙ ap tag_of e in grind (arith, f))
links_by b done s ss p later h told right (inr (e, free)) more = absurd (let f : tag p ≡ 8 = told_tag h.n h.rest p h.told ∙ ap tag_of e in grind (arith, f))

same_row : (o : Option ℕ) → option_or o None ≡ o
same_row None = refl
same_row (Some n) = refl

links_spelled : (b : BranchPart) (done : List Part) (ss : List SectionTokens) (later : List Part) → AllTold (part.Branch b ∷ done) ss later → (Has what.Wrong (later_marks later) → ⊥) → LinksOf b ss later
links_spelled b done [] [] told right =
    let P : Option ℕ → Type 0 = λ z. SpellsLinks (target_row b.target.core) [] nowhere_place z in subst P (sym (same_row (target_row b.target.core))) links_none
links_spelled b done [] (p ∷ later) told right = absurd told
links_spelled b done (s ∷ ss) [] told right = absurd told
links_spelled b done (s ∷ ss) (p ∷ later) told right =
    let h = told.0 in
    links_by b done s ss p later h told.1 (λ has. right (later_first what.Wrong p later has)) (is_behind b done h.n (may_follow (part.Branch b) done h.n h.may))
    (links_spelled b (done ++ p ∷ []) ss later told.1 (λ has. right (later_rest what.Wrong p later has)))

-- no label stands before where the branch goes

abbrev NoLabel : List Symbol → Type 0
NoLabel [] = Unit {0}
NoLabel (s ∷ ss) = (is_colon s ≡ false) × NoLabel ss

no_label_join : (a b : List Symbol) → NoLabel a → NoLabel b → NoLabel (a ++ b)
no_label_join [] b one other = other
no_label_join (s ∷ a) b one other = (one.0, no_label_join a b one.1 other)

suffix_no_label : (s : Option Suffix) → NoLabel (suffix_symbols s)
suffix_no_label None = tt
suffix_no_label (Some s) = (refl, (by_name s.name, tt))
  where
    by_name : (n : Option Name) → is_colon (named_symbol n) ≡ false
    by_name None = refl
    by_name (Some n) = refl

target_no_label : (t : List Symbol) (to : Place) → SpellsTarget t to → NoLabel t
target_no_label t to nowhere = (refl, tt)
target_no_label t to (target_named e) = (refl, tt)

label_skip : (x : Placed) (rest : List Placed) → is_colon x.symbol ≡ false → label_in (x ∷ rest) ≡ label_in rest
label_skip x [] e = refl
label_skip x (y ∷ rest) e = rw e refl

labels_skip : (ss : List Symbol) (xs mid : List Placed) → NoLabel ss → Spelled ss xs mid → label_in xs ≡ label_in mid
labels_skip [] xs mid none h = ap label_in h
labels_skip (s ∷ ss) [] mid none h = absurd h
labels_skip (s ∷ ss) (x ∷ xs) mid none h = label_skip x xs (ap is_colon h.0 ∙ none.0) ∙ labels_skip ss xs mid none.1 h.1

jump_label : (b : BranchPart) (s : SectionTokens) (h : SectionTold [] s.tokens (part.Branch b)) (to : Place) → SpellsTarget h.told.t to → label_in s.tokens ≡ label_in h.told.jump
jump_label b s h to target =
    let own : NoLabel (suffix_symbols b.suffix ++ (h.told.t ++ symbol.Comma ∷ [])) =
    no_label_join (suffix_symbols b.suffix) (h.told.t ++ symbol.Comma ∷ []) (suffix_no_label b.suffix) (no_label_join h.told.t (symbol.Comma ∷ []) (target_no_label h.told.t to target) (refl, tt)) in
    ap label_in h.whole ∙ (label_skip h.x h.rest (ap is_colon h.is) ∙ labels_skip _ h.rest h.told.jump own h.told.behind)

pub branch_spelled_whole : (at : ℕ) (o : Option ℕ) (b : BranchPart) (s : SectionTokens) (ss : List SectionTokens) (later : List Part) (h : SectionTold [] s.tokens (part.Branch b))
    → AllTold (part.Branch b ∷ []) ss later → ((word : ℕ) → label_in s.tokens ≡ Some word → o ≡ Some word) → IsClear (marks_of (part.Branch b ∷ later))
    → SpellsBranch at o (texts (s ∷ ss)) (branch_of_part at b later)
unfolding branch_of_part part_marks jumping_marks
branch_spelled_whole at o b s ss later h told found clear =
    let own : Spares what.Wrong (λ ms. jumping_marks b ms) = first_spares what.Wrong (part.Branch b) later clear.right in
    let own_known : Spares what.Missing (λ ms. jumping_marks b ms) = first_spares what.Missing (part.Branch b) later clear.known in
    let placing : Marking = place_mark (if_link (target_place b.to.core)) b.to.token in
    let two : Marking = λ ms. placing (branch_marks b.suffix ms) in
    let of_two : Spares what.Wrong two = spares_old what.Wrong two (jump_marks b.target) (grows_jump b.target) own in
    let c = branch_spelled b.suffix (spares_old what.Wrong (branch_marks b.suffix) placing (grows_place (if_link (target_place b.to.core)) b.to.token) of_two) in
    let to = target_spelled b.to.core h.told.t b.to.token h.told.to
    (link_place (target_place b.to.core) b.to.token (spares_new what.Wrong (branch_marks b.suffix) placing (grows_place (if_link (target_place b.to.core)) b.to.token) of_two)) in
    let goes = jump_spelled b.relative at o b.target.core h.told.x h.told.jump b.target.token b.target.suffix h.told.target h.told.label
    (λ word e. found word (jump_label b s h (place_of b.to.core) to ∙ e)) (spares_new what.Wrong two (jump_marks b.target) (grows_jump b.target) own) (spares_new what.Missing two (jump_marks b.target) (grows_jump b.target) own_known) in
    let links = links_spelled b [] ss later told (later_spares what.Wrong (part.Branch b) later clear.right) in
    let whole : symbols_of s.tokens ≡ symbol.Name (branch_name b.relative) ∷ (suffix_symbols b.suffix ++ (h.told.t ++ symbol.Comma ∷ h.told.x)) =
    whole_by (symbols_of s.tokens) h.n (branch_name b.relative) (symbols_of h.rest) (suffix_symbols b.suffix) _ _ (section_symbols [] s.tokens (part.Branch b) h) h.told.op (spelled_symbols _ h.rest h.told.there) refl in
    let P : List Symbol → Type 0 = λ z. SpellsBranch at o (z ∷ texts ss) (branch_of_part at b later) in
    subst P (sym whole) (branch c to goes links)
