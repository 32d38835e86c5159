-- One answer at most follows.
use Rattle.std.proofs.Common.{◌≡◌, ℕ, ◌*◌, ◌<◌, Bool, true, false, ◌&&◌, ◌||◌, List, Option, Some, None, refl, ap, sym, ◌∙◌, inl, inr, true≢false, arith}
use Rattle.std.specs.Prelude.{is_some, if◌then◌else◌}
use Rattle.std.proofs.lemmas.Bool.{eqb-true}
use Rattle.qpu_word.specs.Words.{is_branch, is_program_end}
use Rattle.qpu_word.specs.Instruction.{is_link_point}
use Rattle.qpu_flow.specs.declared.slots.Slots.{Slots}
use Rattle.qpu_flow.specs.declared.slots.Successors.{Successors}
use Rattle.qpu_flow.specs.declared.control.Control.{Control}
use Rattle.qpu_flow.specs.declared.control.Progress.{Progress}
use Rattle.qpu_flow.specs.declared.control.Progress.TheVariants.{Straight, Ending, To}
use Rattle.qpu_flow.specs.declared.control.Next.TheVariants.{At, AnyLink, Ended, Outside}
use Rattle.qpu_flow.specs.Code.{fields_at}
use Rattle.qpu_flow.specs.Control.{slots_after, asks_for, leads_to}
use Rattle.qpu_flow.specs.Follow.{RestIs, has_target, is_chosen, KeepsChoice, ways, chosen_way, Follows, OneFollows}
use Rattle.qpu_flow.proofs.FollowLemmas.{no_branch, and_second}

-- what is in progress

not_both : (code : List ℕ) (s : Slots) → is_program_end (fields_at code s.place) ≡ true → is_branch (fields_at code s.place) ≡ true → ⊥
not_both code s ends branches = absurd (true≢false (sym branches ∙ no_branch (fields_at code s.place) ends))

no_end : (code : List ℕ) (s : Slots) (n : ℕ) → RestIs code (Some s) Straight → RestIs code (Some s) (Ending n) → ⊥
no_end code s n (inl none) q = absurd (omega (arith, none, q.0, q.1))
no_end code s n (inr ways) q = not_both code s q.2 ways.0

one_rest : (code : List ℕ) (slots : Option Slots) (chosen : Bool) (r q : Progress) → RestIs code slots r → RestIs code slots q
    → KeepsChoice code slots chosen r → KeepsChoice code slots chosen q → r ≡ q
one_rest code slots chosen Straight Straight p q c d = refl
one_rest code None chosen Straight (Ending n) p q c d = absurd q
one_rest code (Some s) chosen Straight (Ending n) p q c d = absurd (no_end code s n p q)
one_rest code None chosen Straight (To n t) p q c d = absurd q
one_rest code (Some s) chosen Straight (To n t) p q c d =
    let some : 0 < s.left = omega (arith, q.0, q.1) in absurd (true≢false (d some ∙ sym (c some)))
one_rest code None chosen (Ending n) r p q c d = absurd p
one_rest code (Some s) chosen (Ending n) Straight p q c d = absurd (no_end code s n q p)
one_rest code (Some s) chosen (Ending n) (Ending m) p q c d = ap (λ (x : ℕ). Ending x) (sym p.0 ∙ q.0)
one_rest code (Some s) chosen (Ending n) (To m t) p q c d = absurd (not_both code s p.2 q.2)
one_rest code None chosen (To n t) r p q c d = absurd p
one_rest code (Some s) chosen (To n t) Straight p q c d =
    let some : 0 < s.left = omega (arith, p.0, p.1) in absurd (true≢false (c some ∙ sym (d some)))
one_rest code (Some s) chosen (To n t) (Ending m) p q c d = absurd (not_both code s q.2 p.2)
one_rest code (Some s) chosen (To n t) (To m u) p q c d =
    let left : n ≡ m = sym p.0 ∙ q.0 in
    let target : t ≡ u = p.3 ∙ sym q.3 in
    λ i. To (left i) (target i)

-- the place

same_asked : (o : Option ℕ) (x y : ℕ) → asks_for o x ≡ true → asks_for o y ≡ true → x ≡ y
same_asked None x y p q = absurd (true≢false (sym p))
same_asked (Some asked) x y p q = sym (eqb-true asked x p) ∙ eqb-true asked y q

ahead_only : (a b : Bool) → ((a || false) || (false && b)) ≡ true → a ≡ true
ahead_only true b e = refl
ahead_only false b e = absurd (true≢false (sym e))

jump_only : (a b : Bool) → ((false || a) || (false && b)) ≡ true → a ≡ true
jump_only true b e = refl
jump_only false b e = absurd (true≢false (sym e))

one_ahead : (code : List ℕ) (ahead : Option ℕ) (a b : ℕ) → leads_to code (record { ahead = ahead; jump = None; any_link = false }) a ≡ true
    → leads_to code (record { ahead = ahead; jump = None; any_link = false }) b ≡ true → a ≡ b
one_ahead code ahead a b p q =
    same_asked ahead a b (ahead_only _ (is_link_point code a) (and_second _ _ p)) (ahead_only _ (is_link_point code b) (and_second _ _ q))

eighths : (a b : ℕ) → 8 * a ≡ 8 * b → a ≡ b
eighths a b e = omega (arith, e)

one_jump : (code : List ℕ) (jump : Option ℕ) (a b : ℕ) → leads_to code (record { ahead = None; jump = jump; any_link = false }) a ≡ true
    → leads_to code (record { ahead = None; jump = jump; any_link = false }) b ≡ true → a ≡ b
one_jump code jump a b p q =
    eighths a b
    (same_asked jump (8 * a) (8 * b) (jump_only _ (is_link_point code a) (and_second _ _ p)) (jump_only _ (is_link_point code b) (and_second _ _ q)))

one_place : (code : List ℕ) (rest : Progress) (next : Successors) (a b : ℕ) → (chosen_way rest next).any_link ≡ false
    → leads_to code (chosen_way rest next) a ≡ true → leads_to code (chosen_way rest next) b ≡ true → a ≡ b
one_place code rest next a b = by_choice (has_target rest && (is_some next.jump || next.any_link))
  where
    away : (any : Bool) → any ≡ false → leads_to code (record next { ahead = None; any_link = any }) a ≡ true
        → leads_to code (record next { ahead = None; any_link = any }) b ≡ true → a ≡ b
    away false e p q = one_jump code next.jump a b p q
    away true e p q = absurd (true≢false e)

    by_choice : (t : Bool) → (if t then record next { ahead = None } else record next { jump = None; any_link = false }).any_link ≡ false
        → leads_to code (if t then record next { ahead = None } else record next { jump = None; any_link = false }) a ≡ true
        → leads_to code (if t then record next { ahead = None } else record next { jump = None; any_link = false }) b ≡ true → a ≡ b
    by_choice true e p q = away next.any_link e p q
    by_choice false e p q = one_ahead code next.ahead a b p q

-- answers

is_false : (b : Bool) → (b ≡ true → ⊥) → b ≡ false
is_false true none = absurd (none refl)
is_false false none = refl

one_at : (code : List ℕ) (slots : Option Slots) (c a b : Control) (taken : Bool) → Follows code slots c taken (At a) → Follows code slots c taken (At b) → At a ≡ At b
one_at code slots c a b taken p q =
    let no_link : (chosen_way c.rest (ways code slots c)).any_link ≡ false =
    is_false _ (λ any. absurd (let e : At a ≡ AnyLink = p.any_link.1 any in cc)) in
    let x = p.at a refl in
    let y = q.at b refl in
    let place : a.place ≡ b.place = one_place code c.rest (ways code slots c) a.place b.place no_link x.place y.place in
    let rest : a.rest ≡ b.rest =
    one_rest code (slots_after code slots c.place) (is_chosen (fields_at code c.place) taken c.rest) a.rest b.rest x.rest y.rest x.choice y.choice in
    λ i. At (record { place = place i; rest = rest i })

pub one_follows : OneFollows
one_follows code slots c taken AnyLink y p q = sym (q.any_link.1 (p.any_link.0 refl))
one_follows code slots c taken Ended y p q = sym (q.ended.1 (p.ended.0 refl))
one_follows code slots c taken Outside y p q = sym (q.outside.1 (p.outside.0 refl))
one_follows code slots c taken (At a) AnyLink p q = p.any_link.1 (q.any_link.0 refl)
one_follows code slots c taken (At a) Ended p q = p.ended.1 (q.ended.0 refl)
one_follows code slots c taken (At a) Outside p q = p.outside.1 (q.outside.0 refl)
one_follows code slots c taken (At a) (At b) p q = one_at code slots c a b taken p q
