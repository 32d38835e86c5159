-- Marks that are judged alike: what stands twice is faulty no sooner than where it stands first.
use Rattle.std.proofs.Common.{◌≡◌, ℕ, inl, inr, Bool, true, false, List, [], ◌∷◌, ◌++◌, append_assoc, Option, Some, None, refl, ap, sym, subst, ◌∙◌, arith}
use Rattle.std.proofs.lemmas.Bool.Decides.{nat_tests}
use Rattle.std.specs.Prelude.{◌==◌, ◌&&◌, ◌||◌, ◌⊎◌, not, if◌then◌else◌}
use Rattle.std.specs.Option.{option_or}
use Rattle.std.specs.List.{list_any}
use Rattle.qpu_token.specs.declared.token.Token.{Token}
use Rattle.qpu_line.specs.declared.operand.Operand.{Operand}
use Rattle.qpu_line.specs.declared.operand.Operand.TheVariants as operand
use Rattle.qpu_asm.specs.declared.mark.What.{What}
use Rattle.qpu_asm.specs.declared.mark.What.TheVariants as what
use Rattle.qpu_asm.specs.declared.mark.Mark.{Mark}
use Rattle.qpu_asm.specs.declared.judge.Judged.{Judged}
use Rattle.qpu_asm.specs.declared.judge.Judged.TheVariants.{Operands, TwoImmediates, TwoReads, Label, Range}
use Rattle.qpu_asm.specs.Clashes.{is_wrong, not_beside, other_immediate, other_read, clashes}
use Rattle.qpu_asm.specs.reader.Judging.{is_faulty, first_faulty}
use Rattle.qpu_asm.proofs.MarkLemmas.{Has, free_own, free_across}

abbrev pub clash_any : Judged → What → List Mark → Bool
clash_any k w e = list_any (λ x. clashes k x.what w) e

any_append : (k : Judged) (w : What) (a b : List Mark) → clash_any k w (a ++ b) ≡ (clash_any k w a || clash_any k w b)
any_append k w [] b = refl
any_append k w (m ∷ a) b = ap (λ z. clashes k m.what w || z) (any_append k w a b) ∙ or_assoc (clashes k m.what w) (clash_any k w a) (clash_any k w b)
  where
    or_assoc : (x y z : Bool) → (x || (y || z)) ≡ ((x || y) || z)
    or_assoc true y z = refl
    or_assoc false y z = refl

-- earlier marks with which the same clash
abbrev pub Seen : List Mark → List Mark → Type 0
Seen e f = (k : Judged) (w : What) → clash_any k w e ≡ clash_any k w f

seen_more : (e f a b : List Mark) → Seen e f → Seen a b → Seen (e ++ a) (f ++ b)
seen_more e f a b one two k w = any_append k w e a ∙ rw (one k w, two k w) (sym (any_append k w f b))

-- marks that are judged alike behind such
abbrev pub Alike : List Mark → List Mark → Type 0
Alike ms ns = ((k : Judged) (e f : List Mark) → Seen e f → first_faulty k e ms ≡ first_faulty k f ns) × Seen ms ns

ff_by : (b : Bool) (t : Token) (r s : Option Token) → option_or (if b then Some t else r) s ≡ (if b then Some t else option_or r s)
ff_by true t r s = refl
ff_by false t r s = refl

pub ff_append : (k : Judged) (e a b : List Mark) → first_faulty k e (a ++ b) ≡ option_or (first_faulty k e a) (first_faulty k (e ++ a) b)
ff_append k e [] b = ap (λ z. first_faulty k z b) (nil e)
  where
    nil : (e : List Mark) → e ≡ e ++ []
    nil [] = refl
    nil (m ∷ e) = ap (λ z. m ∷ z) (nil e)
ff_append k e (m ∷ a) b =
    let later = ff_append k (e ++ m ∷ []) a b in
    let same : first_faulty k (e ++ m ∷ [] ++ a) b ≡ first_faulty k (e ++ (m ∷ a)) b = ap (λ z. first_faulty k z b) (append_assoc e (m ∷ []) a) in
    ap (λ z. if is_faulty k e m then Some m.token else z) (later ∙ ap (λ z. option_or (first_faulty k (e ++ m ∷ []) a) z) same)
    ∙ sym (ff_by (is_faulty k e m) m.token (first_faulty k (e ++ m ∷ []) a) (first_faulty k (e ++ (m ∷ a)) b))

seen_same : (ms : List Mark) → Seen ms ms
seen_same ms k w = refl

ff_same : (k : Judged) (e f ms : List Mark) → Seen e f → first_faulty k e ms ≡ first_faulty k f ms
ff_same k e f [] seen = refl
ff_same k e f (m ∷ ms) seen = rw (seen k m.what, ff_same k (e ++ m ∷ []) (f ++ m ∷ []) ms (seen_more e f (m ∷ []) (m ∷ []) seen (seen_same (m ∷ [])))) refl

pub alike_same : (ms ns : List Mark) → ms ≡ ns → Alike ms ns
alike_same ms ns e = subst (Alike ms) e ((λ k e f seen. ff_same k e f ms seen), seen_same ms)

pub alike_append : (a b c d : List Mark) → Alike a b → Alike c d → Alike (a ++ c) (b ++ d)
alike_append a b c d one two =
    ((λ k e f seen. ff_append k e a c ∙ rw (one.0 k e f seen, two.0 k (e ++ a) (f ++ b) (seen_more e f a b seen one.1)) (sym (ff_append k f b d))), seen_more a b c d one.1 two.1)

pub alike_then : (a b c : List Mark) → Alike a b → Alike b c → Alike a c
alike_then a b c one two = ((λ k e f seen. one.0 k e e (seen_same e) ∙ two.0 k e f seen), (λ k w. one.1 k w ∙ two.1 k w))

-- none is faulty

any_none : (k : Judged) (w : What) (e : List Mark) → ((a : What) → Has a e → clashes k a w ≡ false) → clash_any k w e ≡ false
any_none k w [] nay = refl
any_none k w (m ∷ e) nay = rw (nay m.what (inl refl), any_none k w e (λ a has. nay a (inr has))) refl

has_append : (a : What) (e f : List Mark) → Has a (e ++ f) → Has a e ⊎ Has a f
has_append a [] f has = inr has
has_append a (m ∷ e) f (inl is) = inl (inl is)
has_append a (m ∷ e) f (inr later) = more (has_append a e f later)
  where
    more : Has a e ⊎ Has a f → Has a (m ∷ e) ⊎ Has a f
    more (inl has) = inl (inr has)
    more (inr has) = inr has

among : (a : What) (e : List Mark) (m : Mark) (ms : List Mark) → Has a (e ++ m ∷ []) ⊎ Has a ms → Has a e ⊎ Has a (m ∷ ms)
among a e m ms (inr has) = inr (inr has)
among a e m ms (inl has) = by (has_append a e (m ∷ []) has)
  where
    by : Has a e ⊎ Has a (m ∷ []) → Has a e ⊎ Has a (m ∷ ms)
    by (inl early) = inl early
    by (inr (inl is)) = inr (inl is)
    by (inr (inr never)) = absurd never

none_faulty : (k : Judged) (e ms : List Mark) → ((w : What) → Has w ms → is_wrong k w ≡ false) → ((a w : What) → Has a e ⊎ Has a ms → Has w ms → clashes k a w ≡ false) → first_faulty k e ms ≡ None
none_faulty k e [] own nay = refl
none_faulty k e (m ∷ ms) own nay =
    let here : clash_any k m.what e ≡ false = any_none k m.what e (λ a has. nay a m.what (inl has) (inl refl)) in
    let later : first_faulty k (e ++ m ∷ []) ms ≡ None = none_faulty k (e ++ m ∷ []) ms (λ w has. own w (inr has)) (λ a w has other. nay a w (among a e m ms has) (inr other)) in
    rw (own m.what (inl refl), here, later) refl

-- marks that don't clash with one another, twice

abbrev pub Calm : List Mark → Type 0
Calm ms = (k : Judged) (a b : What) → Has a ms → Has b ms → clashes k a b ≡ false

twice_none : (k : Judged) (e ms : List Mark) → Calm ms → first_faulty k e ms ≡ None → first_faulty k (e ++ ms) ms ≡ None
twice_none k e ms calm none = none_faulty k (e ++ ms) ms (λ w has. free_own k e ms w none has) (λ a w has other. by a w other (early a has))
  where
    early : (a : What) → Has a (e ++ ms) ⊎ Has a ms → Has a e ⊎ Has a ms
    early a (inl has) = has_append a e ms has
    early a (inr has) = inr has

    by : (a w : What) → Has w ms → Has a e ⊎ Has a ms → clashes k a w ≡ false
    by a w other (inl has) = free_across k e ms a w none has other
    by a w other (inr has) = calm k a w has other

twice_or : (r s : Option Token) → (r ≡ None → s ≡ None) → option_or r s ≡ r
twice_or None s none = none refl
twice_or (Some t) s none = refl

or_twice : (b : Bool) → (b || b) ≡ b
or_twice true = refl
or_twice false = refl

pub alike_twice : (ms : List Mark) → Calm ms → Alike (ms ++ ms) ms
alike_twice ms calm =
    ((λ k e f seen. ff_append k e ms ms ∙ twice_or (first_faulty k e ms) (first_faulty k (e ++ ms) ms) (twice_none k e ms calm) ∙ ff_same k e f ms seen), (λ k w. any_append k w ms ms ∙ or_twice (clash_any k w ms)))

-- the marks of one operand

abbrev pub Near : Operand → What → Type 0
Near o what.Wrong = Unit {0}
Near o what.Far = Unit {0}
Near o what.Fixed = Unit {0}
Near (operand.FileA n u) (what.ReadsA m) = m ≡ n
Near (operand.FileA n u) (what.Unpacks m v) = v ≡ u
Near (operand.FileB n) (what.ReadsB m) = m ≡ n
Near (operand.Small n) (what.Number m) = m ≡ n
Near o w = ⊥

not_other : (n m p : ℕ) → n ≡ p → m ≡ p → not (n == m) ≡ false
not_other n m p e f = let g : n ≡ m = e ∙ sym f in grind (arith, nat_tests, g)

and_no : (b c : Bool) → c ≡ false → (b && c) ≡ false
and_no true c e = e
and_no false c e = refl

beside : (o : Operand) (a b : What) → Near o a → Near o b → not_beside a b ≡ false
beside (operand.FileA n u) (what.Unpacks m v) (what.Unpacks p w) f h = and_no (m == p) (not (v == w)) (not_other v w u f h)
beside (operand.FileB n) (what.Unpacks m v) (what.Unpacks p w) f h = absurd f
beside (operand.Small n) (what.Unpacks m v) (what.Unpacks p w) f h = absurd f
beside (operand.Accumulator n) (what.Unpacks m v) (what.Unpacks p w) f h = absurd f
beside (operand.FileA n u) what.Adds what.MulSets f h = absurd f
beside (operand.FileB n) what.Adds what.MulSets f h = absurd f
beside (operand.Small n) what.Adds what.MulSets f h = absurd f
beside (operand.Accumulator n) what.Adds what.MulSets f h = absurd f
beside (operand.FileA n u) (what.Writes p) (what.Writes q) f h = absurd f
beside (operand.FileB n) (what.Writes p) (what.Writes q) f h = absurd f
beside (operand.Small n) (what.Writes p) (what.Writes q) f h = absurd f
beside (operand.Accumulator n) (what.Writes p) (what.Writes q) f h = absurd f
beside (operand.FileA n u) a what.Signals f h = absurd h
beside (operand.FileB n) a what.Signals f h = absurd h
beside (operand.Small n) a what.Signals f h = absurd h
beside (operand.Accumulator n) a what.Signals f h = absurd h
beside (operand.FileA n u) a what.Rotates f h = absurd h
beside (operand.FileB n) a what.Rotates f h = absurd h
beside (operand.Small n) a what.Rotates f h = absurd h
beside (operand.Accumulator n) a what.Rotates f h = absurd h
beside o a b f h = refl

immediates : (o : Operand) (a b : What) → Near o a → Near o b → other_immediate a b ≡ false
immediates (operand.Small n) (what.Number m) (what.Number p) f h = not_other m p n f h
immediates (operand.FileA n u) (what.Number m) b f h = absurd f
immediates (operand.FileB n) (what.Number m) b f h = absurd f
immediates (operand.Accumulator n) (what.Number m) b f h = absurd f
immediates (operand.FileA n u) (what.ReadsB m) b f h = absurd f
immediates (operand.Small n) (what.ReadsB m) b f h = absurd f
immediates (operand.Accumulator n) (what.ReadsB m) b f h = absurd f
immediates (operand.Small n) (what.Number m) (what.ReadsB p) f h = absurd h
immediates (operand.Small n) (what.Number m) what.Rotates f h = absurd h
immediates (operand.FileB n) (what.ReadsB m) (what.Number p) f h = absurd h
immediates (operand.FileB n) (what.ReadsB m) what.Rotates f h = absurd h
immediates (operand.FileA n u) what.Rotates b f h = absurd f
immediates (operand.FileB n) what.Rotates b f h = absurd f
immediates (operand.Small n) what.Rotates b f h = absurd f
immediates (operand.Accumulator n) what.Rotates b f h = absurd f
immediates o a b f h = refl

reads : (o : Operand) (a b : What) → Near o a → Near o b → other_read a b ≡ false
reads (operand.FileA n u) (what.ReadsA m) (what.ReadsA p) f h = not_other m p n f h
reads (operand.FileB n) (what.ReadsA m) b f h = absurd f
reads (operand.Small n) (what.ReadsA m) b f h = absurd f
reads (operand.Accumulator n) (what.ReadsA m) b f h = absurd f
reads (operand.FileB n) (what.ReadsB m) (what.ReadsB p) f h = not_other m p n f h
reads (operand.FileA n u) (what.ReadsB m) b f h = absurd f
reads (operand.Small n) (what.ReadsB m) b f h = absurd f
reads (operand.Accumulator n) (what.ReadsB m) b f h = absurd f
reads o a b f h = refl

near_clash : (o : Operand) (k : Judged) (a b : What) → Near o a → Near o b → clashes k a b ≡ false
near_clash o Operands a b f h = beside o a b f h
near_clash o TwoImmediates a b f h = immediates o a b f h
near_clash o TwoReads a b f h = reads o a b f h
near_clash o Label a b f h = refl
near_clash o Range a b f h = refl

abbrev pub AllNear : Operand → List Mark → Type 0
AllNear o [] = Unit {0}
AllNear o (m ∷ ms) = Near o m.what × AllNear o ms

near_has : (o : Operand) (ms : List Mark) (w : What) → AllNear o ms → Has w ms → Near o w
near_has o [] w near never = absurd never
near_has o (m ∷ ms) w near (inl is) = subst (Near o) is near.0
near_has o (m ∷ ms) w near (inr later) = near_has o ms w near.1 later

pub near_calm : (o : Operand) (ms : List Mark) → AllNear o ms → Calm ms
near_calm o ms near k a b f h = near_clash o k a b (near_has o ms a near f) (near_has o ms b near h)
