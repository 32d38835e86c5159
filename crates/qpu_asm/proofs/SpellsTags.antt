-- Which part a mnemonic has.
use Rattle.std.proofs.Common.{◌≡◌, ℕ, Bool, true, false, List, [], ◌∷◌, ◌++◌, refl, sym, ap, ◌∙◌, arith}
use Rattle.std.specs.Prelude.{◌||◌, if◌then◌else◌}
use Rattle.std.specs.List.{list_any}
use Rattle.qpu_token.specs.declared.token.Token.{Token}
use Rattle.qpu_line.specs.declared.name.Name.{Name}
use Rattle.qpu_line.specs.declared.name.Name.TheVariants as name
use Rattle.qpu_line.specs.declared.units.Signal.{Signal}
use Rattle.qpu_line.specs.declared.units.Signal.TheVariants as signal
use Rattle.qpu_line.specs.declared.symbol.Symbol.TheVariants as symbol
use Rattle.qpu_asm.specs.declared.placed.Placed.{Placed}
use Rattle.qpu_asm.specs.declared.part.Part.{Part}
use Rattle.qpu_asm.specs.declared.part.Part.TheVariants as part
use Rattle.qpu_asm.specs.reader.Orders.{follows, due}
use Rattle.qpu_asm.specs.SectionTokens.{SectionTokens}
use Rattle.qpu_asm.specs.Laws.{symbols_of}
use Rattle.qpu_asm.proofs.ProperParts.{is_op}
use Rattle.qpu_asm.proofs.SpellsTold.{Told}
use Rattle.qpu_asm.proofs.SpellsLine.{SectionTold, AllTold}

abbrev pub tag : Part → ℕ
tag part.Nop = 0
tag (part.Unit u) = 1
tag (part.Load l) = 2
tag (part.Also a) = 3
tag (part.Increment p) = 4
tag (part.Decrement p) = 5
tag (part.Branch b) = 6
tag (part.Link p) = 7
tag (part.Row p) = 8
tag (part.Signal s token) = 9
tag (part.Rotate token p) = 10
tag (part.ReadA p) = 11
tag (part.ReadB p) = 12

abbrev pub tag_of : Name → ℕ
tag_of name.Nop = 0
tag_of (name.Add op) = 1
tag_of (name.Mul op) = 1
tag_of name.Mov = 1
tag_of (name.Load kind) = 2
tag_of name.Also = 3
tag_of name.Increment = 4
tag_of name.Decrement = 5
tag_of name.Branch = 6
tag_of name.RelativeBranch = 6
tag_of name.Link = 7
tag_of name.Row = 8
tag_of name.End = 9
tag_of name.Load0 = 9
tag_of name.Load1 = 9
tag_of name.Rotate = 10
tag_of name.ReadA = 11
tag_of name.ReadB = 12
tag_of _ = 13

op_tag : (n : Name) → is_op n ≡ true → tag_of n ≡ 1
op_tag (name.Add op) e = refl
op_tag (name.Mul op) e = refl
op_tag name.Mov e = refl
op_tag _ e = absurd (grind (arith, e))

branch_tag : (relative : Bool) → tag_of (if relative then name.RelativeBranch else name.Branch) ≡ 6
branch_tag true = refl
branch_tag false = refl

tagged : (n m : Name) → n ≡ m → tag_of m ≡ tag_of n
tagged n m e = ap tag_of (sym e)

signal_tag : (s : Signal) (n : Name) (xs : List Placed) (token : Token) → Told n xs (part.Signal s token) → 9 ≡ tag_of n
signal_tag signal.End n xs token told = tagged n name.End told.op
signal_tag signal.Load0 n xs token told = tagged n name.Load0 told.op
signal_tag signal.Load1 n xs token told = tagged n name.Load1 told.op
signal_tag _ n xs token told = absurd told

pub told_tag : (n : Name) (xs : List Placed) (p : Part) → Told n xs p → tag p ≡ tag_of n
told_tag n xs part.Nop told = tagged n name.Nop told.op
told_tag n xs (part.Unit u) told = sym (op_tag n told.is_op)
told_tag n xs (part.Load l) told = tagged n (name.Load l.kind) told.op
told_tag n xs (part.Also a) told = tagged n name.Also told.op
told_tag n xs (part.Increment p) told = tagged n name.Increment told.op
told_tag n xs (part.Decrement p) told = tagged n name.Decrement told.op
told_tag n xs (part.Branch b) told = sym (branch_tag b.relative) ∙ tagged n _ told.op
told_tag n xs (part.Link p) told = tagged n name.Link told.op
told_tag n xs (part.Row p) told = tagged n name.Row told.op
told_tag n xs (part.Signal s token) told = signal_tag s n xs token told
told_tag n xs (part.Rotate token p) told = tagged n name.Rotate told.op
told_tag n xs (part.ReadA p) told = tagged n name.ReadA told.op
told_tag n xs (part.ReadB p) told = tagged n name.ReadB told.op

-- sections

pub section_symbols : (earlier : List Part) (xs : List Placed) (p : Part) → (h : SectionTold earlier xs p) → symbols_of xs ≡ symbol.Name h.n ∷ symbols_of h.rest
section_symbols earlier xs p h = rw (h.whole, h.is) refl

pub may_follow : (first : Part) (done : List Part) (n : Name) → due (first ∷ done) n ≡ true → follows first done n ≡ true
unfolding due
may_follow first done n e = e

-- nothing may follow
pub none_behind : (first : Part) (done : List Part) (ss : List SectionTokens) (later : List Part) → ((n : Name) → follows first done n ≡ false) → AllTold (first ∷ done) ss later
    → (ss ≡ []) × (later ≡ [])
none_behind first done [] [] none told = (refl, refl)
none_behind first done [] (p ∷ later) none told = absurd told
none_behind first done (s ∷ ss) [] none told = absurd told
none_behind first done (s ∷ ss) (p ∷ later) none told =
    absurd (let h = told.0 in let e : false ≡ true = sym (none h.n) ∙ may_follow first done h.n h.may in grind (arith, e))

-- a part of a kind stays one of those that are done

pub any_left : (kind : Part → Bool) (done : List Part) (p : Part) → list_any kind done ≡ true → list_any kind (done ++ p ∷ []) ≡ true
any_left kind [] p e = absurd (grind (arith, e))
any_left kind (q ∷ done) p e = by_head (kind q) e (any_left kind done p)
  where
    by_head : (b : Bool) → (b || list_any kind done) ≡ true → (list_any kind done ≡ true → list_any kind (done ++ p ∷ []) ≡ true) → (b || list_any kind (done ++ p ∷ [])) ≡ true
    by_head true e more = refl
    by_head false e more = more e

pub any_last : (kind : Part → Bool) (done : List Part) (p : Part) → kind p ≡ true → list_any kind (done ++ p ∷ []) ≡ true
any_last kind [] p e = rw e refl
any_last kind (q ∷ done) p e = by_head (kind q) (any_last kind done p e)
  where
    by_head : (b : Bool) → list_any kind (done ++ p ∷ []) ≡ true → (b || list_any kind (done ++ p ∷ [])) ≡ true
    by_head true more = refl
    by_head false more = more

none_more : (kind : Part → Bool) (p : Part) (later : List Part) → kind p ≡ false → list_any kind later ≡ false → list_any kind (p ∷ later) ≡ false
none_more kind p later e f = rw (e, f) refl

-- so none follows, where one may not be there twice
pub once : (kind : Part → Bool) (first : Part) (done : List Part) (ss : List SectionTokens) (later : List Part)
    → ((before : List Part) (n : Name) (xs : List Placed) (p : Part) → list_any kind before ≡ true → follows first before n ≡ true → Told n xs p → kind p ≡ false)
    → list_any kind done ≡ true → AllTold (first ∷ done) ss later → list_any kind later ≡ false
once kind first done [] [] single some told = refl
once kind first done [] (p ∷ later) single some told = absurd told
once kind first done (s ∷ ss) [] single some told = absurd told
once kind first done (s ∷ ss) (p ∷ later) single some told =
    let h = told.0 in
    none_more kind p later (single done h.n h.rest p some (may_follow first done h.n h.may) h.told)
    (once kind first (done ++ p ∷ []) ss later single (any_left kind done p some) told.1)

pub once_more : (kind : Part → Bool) (first : Part) (done : List Part) (p : Part) (ss : List SectionTokens) (later : List Part)
    → ((before : List Part) (n : Name) (xs : List Placed) (q : Part) → list_any kind before ≡ true → follows first before n ≡ true → Told n xs q → kind q ≡ false)
    → kind p ≡ true → AllTold (first ∷ (done ++ p ∷ [])) ss later → list_any kind later ≡ false
once_more kind first done p ss later single is told = once kind first (done ++ p ∷ []) ss later single (any_last kind done p is) told
