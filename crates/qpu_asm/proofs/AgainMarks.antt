-- Marks that fit together: none is faulty by itself or beside an earlier one.
use Rattle.std.proofs.Common.{◌≡◌, ℕ, Bool, true, false, List, [], ◌∷◌, ◌++◌, append_assoc, refl, sym, ◌∙◌, subst, arith}
use Rattle.std.proofs.lemmas.List.{append-nil}
use Rattle.std.proofs.lemmas.Bool.Decides.{nat_tests}
use Rattle.std.specs.Prelude.{◌==◌, ◌&&◌, not, fold, Option, Some, None, if◌then◌else◌}
use Rattle.std.specs.List.{list_any}
use Rattle.qpu_token.specs.declared.token.Token.{Token}
use Rattle.qpu_word.specs.declared.name.Place.{Place}
use Rattle.qpu_word.specs.Operands.{small_value}
use Rattle.qpu_asm.specs.declared.part.Part.{Part}
use Rattle.qpu_asm.specs.declared.mark.What.{What}
use Rattle.qpu_asm.specs.declared.mark.What.TheVariants as what
use Rattle.qpu_asm.specs.declared.mark.Mark.{Mark}
use Rattle.qpu_asm.specs.declared.judge.Judged.{Judged}
use Rattle.qpu_asm.specs.declared.judge.Judged.TheVariants.{Operands, TwoImmediates, TwoReads, Label, Range}
use Rattle.qpu_asm.specs.Clashes.{is_wrong, cross, not_beside, other_immediate, other_read, clashes}
use Rattle.qpu_asm.specs.reader.Judging.{is_faulty, first_faulty, fault_of_kind, line_fault}
use Rattle.qpu_asm.specs.reader.Marks.{mark, mark_if, part_marks, marks_of}

-- what a line's word holds
pub record Given : Type 0 where
  pub small : Bool
  pub a : ℕ
  pub unpack : ℕ
  pub b : ℕ
  pub adds : Bool
  pub turns : Bool

-- a word of which nothing is asked
abbrev pub nothing_given : Given
nothing_given = record { small = false; a = 0; unpack = 0; b = 0; adds = false; turns = false }

-- a mark agrees with what the word holds, and a target with some rule
abbrev pub Fits : (Place → Type 0) → Given → What → Type 0
Fits W g what.Wrong = ⊥
Fits W g what.Missing = ⊥
Fits W g what.Far = ⊥
Fits W g what.Adds = g.adds ≡ true
Fits W g what.MulSets = g.adds ≡ false
Fits W g (what.Writes p) = W p
Fits W g (what.ReadsA n) = g.a ≡ n
Fits W g (what.Unpacks n m) = g.unpack ≡ m
Fits W g (what.ReadsB n) = (g.b ≡ n) × (g.small ≡ false)
Fits W g (what.Number v) = (g.small ≡ true) × (small_value g.b ≡ v) × (g.turns ≡ false)
Fits W g what.Fixed = g.turns ≡ false
Fits W g what.Rotates = (g.small ≡ true) × (g.turns ≡ true)
Fits W g what.Signals = g.small ≡ false

wider : (W V : Place → Type 0) (g : Given) → ((p : Place) → W p → V p) → (w : What) → Fits W g w → Fits V g w
wider W V g sub (what.Writes p) h = sub p h
wider W V g sub w h = h

same_not : (n m : ℕ) → n ≡ m → not (n == m) ≡ false
same_not n m e = grind (arith, nat_tests)

and_not : (b c : Bool) → c ≡ false → (b && c) ≡ false
and_not true c e = e
and_not false c e = refl

abbrev Apart : (Place → Type 0) → (Place → Type 0) → Type 0
Apart W V = (p q : Place) → W p → V q → cross p q ≡ false

beside : (W V : Place → Type 0) (g : Given) → Apart W V → (a b : What) → Fits W g a → Fits V g b → not_beside a b ≡ false
beside W V g apart what.Adds what.MulSets f h = cc
beside W V g apart (what.Writes p) (what.Writes q) f h = apart p q f h
beside W V g apart (what.Unpacks n u) (what.Unpacks m v) f h = let e : u ≡ v = sym f ∙ h in and_not (n == m) (not (u == v)) (same_not u v e)
beside W V g apart (what.Number n) what.Signals f h = let e : true ≡ false = sym f.0 ∙ h in cc
beside W V g apart what.Rotates what.Signals f h = let e : true ≡ false = sym f.0 ∙ h in cc
beside W V g apart what.Signals what.Rotates f h = let e : true ≡ false = sym h.0 ∙ f in cc
beside W V g apart what.Fixed what.Rotates f h = let e : true ≡ false = sym h.1 ∙ f in cc
beside W V g apart a b f h = refl

immediates : (W V : Place → Type 0) (g : Given) (a b : What) → Fits W g a → Fits V g b → other_immediate a b ≡ false
immediates W V g (what.Number n) (what.Number m) f h = same_not n m (sym f.1 ∙ h.1)
immediates W V g (what.Number n) (what.ReadsB m) f h = let e : true ≡ false = sym f.0 ∙ h.1 in cc
immediates W V g (what.ReadsB n) (what.Number m) f h = let e : true ≡ false = sym h.0 ∙ f.1 in cc
immediates W V g (what.Number n) what.Rotates f h = let e : true ≡ false = sym h.1 ∙ f.2 in cc
immediates W V g (what.ReadsB n) what.Rotates f h = let e : true ≡ false = sym h.0 ∙ f.1 in cc
immediates W V g what.Rotates (what.ReadsB n) f h = let e : true ≡ false = sym f.0 ∙ h.1 in cc
immediates W V g a b f h = refl

reads : (W V : Place → Type 0) (g : Given) (a b : What) → Fits W g a → Fits V g b → other_read a b ≡ false
reads W V g (what.ReadsA n) (what.ReadsA m) f h = same_not n m (sym f ∙ h)
reads W V g (what.ReadsB n) (what.ReadsB m) f h = same_not n m (sym f.0 ∙ h.0)
reads W V g a b f h = refl

no_clash : (W V : Place → Type 0) (g : Given) → Apart W V → (k : Judged) (a b : What) → Fits W g a → Fits V g b → clashes k a b ≡ false
no_clash W V g apart Operands a b f h = beside W V g apart a b f h
no_clash W V g apart TwoImmediates a b f h = immediates W V g a b f h
no_clash W V g apart TwoReads a b f h = reads W V g a b f h
no_clash W V g apart Label a b f h = refl
no_clash W V g apart Range a b f h = refl

not_wrong : (V : Place → Type 0) (g : Given) (k : Judged) (w : What) → Fits V g w → is_wrong k w ≡ false
not_wrong V g Operands what.Wrong h = absurd h
not_wrong V g Label what.Missing h = absurd h
not_wrong V g Range what.Far h = absurd h
not_wrong V g k w h = refl

abbrev pub AllFit : (Place → Type 0) → Given → List Mark → Type 0
AllFit W g [] = Unit {0}
AllFit W g (m ∷ ms) = Fits W g m.what × AllFit W g ms

none_clashes : (W V : Place → Type 0) (g : Given) → Apart W V → (k : Judged) (earlier : List Mark) (m : Mark) → AllFit W g earlier → Fits V g m.what
    → list_any (λ e. clashes k e.what m.what) earlier ≡ false
none_clashes W V g apart k [] m fit h = refl
none_clashes W V g apart k (e ∷ earlier) m fit h =
    rw (no_clash W V g apart k e.what m.what fit.0 h, none_clashes W V g apart k earlier m fit.1 h) refl

not_faulty : (W V : Place → Type 0) (g : Given) → Apart W V → (k : Judged) (earlier : List Mark) (m : Mark) → AllFit W g earlier → Fits V g m.what
    → is_faulty k earlier m ≡ false
not_faulty W V g apart k earlier m fit h = rw (not_wrong V g k m.what h, none_clashes W V g apart k earlier m fit h) refl

-- a mark more

none_of : (b : Bool) (t : Token) (r : Option Token) → (if b then Some t else r) ≡ None → (b ≡ false) × (r ≡ None)
none_of true t r e = absurd cc
none_of false t r e = (refl, e)

last_fault : (k : Judged) (earlier : List Mark) (m : Mark) (b : Bool) → b ≡ false → ◌≡◌ {A = Option Token} (if b then Some m.token else None) None
last_fault k earlier m b e = rw e refl

first_more : (k : Judged) (earlier ms : List Mark) (m : Mark) → first_faulty k earlier ms ≡ None → is_faulty k (earlier ++ ms) m ≡ false
    → first_faulty k earlier (ms ++ m ∷ []) ≡ None
first_more k earlier [] m none fine =
    let here : is_faulty k earlier m ≡ false = rw (append-nil earlier) at fine in last_fault k earlier m (is_faulty k earlier m) here
first_more k earlier (x ∷ ms) m none fine =
    let n = none_of (is_faulty k earlier x) x.token (first_faulty k (earlier ++ x ∷ []) ms) none in
    let moved : is_faulty k (earlier ++ x ∷ [] ++ ms) m ≡ false = rw (append_assoc earlier (x ∷ []) ms) fine in
    rw n.0 (first_more k (earlier ++ x ∷ []) ms m n.1 moved)

fit_more : (W : Place → Type 0) (g : Given) (ms : List Mark) (m : Mark) → AllFit W g ms → Fits W g m.what → AllFit W g (ms ++ m ∷ [])
fit_more W g [] m fit h = (h, tt)
fit_more W g (x ∷ ms) m fit h = (fit.0, fit_more W g ms m fit.1 h)

all_wider : (W V : Place → Type 0) (g : Given) → ((p : Place) → W p → V p) → (ms : List Mark) → AllFit W g ms → AllFit V g ms
all_wider W V g sub [] fit = tt
all_wider W V g sub (m ∷ ms) fit = (wider W V g sub m.what fit.0, all_wider W V g sub ms fit.1)

-- marks that fit together
pub record Clean (W : Place → Type 0) (g : Given) (ms : List Mark) : Type 0 where
  pub fit : AllFit W g ms
  pub none : (k : Judged) → first_faulty k [] ms ≡ None

pub clean_start : (W : Place → Type 0) (g : Given) → Clean W g []
clean_start W g = record { fit = tt; none = λ k. refl }

-- a mark that fits by one rule, behind marks by another
clean_more : (W N V : Place → Type 0) (g : Given) → ((p : Place) → W p → V p) → ((p : Place) → N p → V p) → Apart W N
    → (ms : List Mark) (m : Mark) → Clean W g ms → Fits N g m.what → Clean V g (ms ++ m ∷ [])
clean_more W N V g old new apart ms m c h = record {
  fit = fit_more V g ms m (all_wider W V g old ms c.fit) (wider N V g new m.what h);
  none = λ k. first_more k [] ms m (c.none k) (not_faulty W N g apart k ms m c.fit h);
}

abbrev pub NoTarget : Place → Type 0
NoTarget p = ⊥

abbrev pub AnyTarget : Place → Type 0
AnyTarget p = Unit {0}

-- what is no target
pub clean_mark : (W : Place → Type 0) (g : Given) (w : What) (t : Token) (ms : List Mark) → Fits NoTarget g w → Clean W g ms → Clean W g (mark w t ms)
clean_mark W g w t ms h c = clean_more W NoTarget W g (λ p q. q) (λ p q. absurd q) (λ p q r s. absurd s) ms (record { what = w; token = t }) c h

pub clean_if : (W : Place → Type 0) (g : Given) (b : Bool) (w : What) (t : Token) (ms : List Mark) → (b ≡ true → Fits NoTarget g w) → Clean W g ms → Clean W g (mark_if b w t ms)
clean_if W g true w t ms h c = clean_mark W g w t ms (h refl) c
clean_if W g false w t ms h c = c

-- the first target
abbrev pub Only : Place → Place → Type 0
Only p q = q ≡ p

pub clean_first : (g : Given) (p : Place) (t : Token) (ms : List Mark) → Clean NoTarget g ms → Clean (Only p) g (mark (what.Writes p) t ms)
clean_first g p t ms c = clean_more NoTarget (Only p) (Only p) g (λ q r. absurd r) (λ q r. r) (λ q r s u. absurd s) ms (record { what = what.Writes p; token = t }) c refl

-- the second
pub clean_second : (W : Place → Type 0) (g : Given) (q : Place) (t : Token) (ms : List Mark) → ((p : Place) → W p → cross p q ≡ false) → Clean W g ms
    → Clean AnyTarget g (mark (what.Writes q) t ms)
clean_second W g q t ms apart c =
    let N : Place → Type 0 = Only q in
    let each : Apart W N = λ p r h e. subst (λ (z : Place). cross p z ≡ false) (sym e) (apart p h) in
    clean_more W N AnyTarget g (λ p r. tt) (λ p r. tt) each ms (record { what = what.Writes q; token = t }) c refl

-- no fault
kind_none : (ms : List Mark) (k : Judged) → first_faulty k [] ms ≡ None → fault_of_kind ms k ≡ None
unfolding fault_of_kind
kind_none ms k e = rw e refl

pub no_fault : (W : Place → Type 0) (g : Given) (ms : List Mark) → Clean W g ms → line_fault ms ≡ None
unfolding line_fault
no_fault W g ms c =
    rw (kind_none ms Operands (c.none Operands), kind_none ms TwoImmediates (c.none TwoImmediates), kind_none ms TwoReads (c.none TwoReads), kind_none ms Label (c.none Label), kind_none ms Range (c.none Range)) refl

-- the marks of the first part and those behind them
pub marks_are : (f : Part) (later : List Part) → marks_of (f ∷ later) ≡ fold (part_marks true) (part_marks false [] f) later
unfolding marks_of
marks_are f later = refl
