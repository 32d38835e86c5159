-- Values that go whole to their places, and what the writes of registers leave alone.
use Rattle.std.proofs.Common.{◌≡◌, ℕ, Bool, true, false, not, List, length, refl, ap, sym, arith, ◌∙◌, true≢false}
use Rattle.std.specs.Prelude.{◌==◌, ◌&&◌, ◌||◌, nat_le, if◌then◌else◌}
use Rattle.std.proofs.lemmas.Bool.Decides.{nat_tests}
use Rattle.qpu_word.specs.declared.word.Fields.{Fields}
use Rattle.qpu_word.specs.declared.traffic.Ins.{Ins}
use Rattle.qpu_word.specs.declared.state.Flags.{Flags}
use Rattle.qpu_word.specs.declared.code.TheConstants.{COND_ALWAYS, WRITE_R3}
use Rattle.qpu_word.specs.Words.{swaps_writes, add_writes, mul_writes}
use Rattle.qpu_word.specs.Processor.{ProcessorState}
use Rattle.qpu_word.specs.Writing.{pack_mode, old_at, left, stored, written}
use Rattle.qpu_word.specs.Instruction.{write_cond, add_sent, mul_sent, add_stored, mul_stored, put_add, put_mul, put_loaded, registers_after}
use Rattle.qpu_decoded.specs.Targets.{goes_whole, is_whole}
use Rattle.qpu_local.proofs.StoreLemmas.{whole_left}

both : (a b : Bool) → (a && b) ≡ true → (a ≡ true) × (b ≡ true)
both true true e = (refl, refl)
both true false e = absurd (true≢false (sym e))
both false b e = absurd (true≢false (sym e))

acting : (a b : Bool) → (not a || b) ≡ true → a ≡ true → b ≡ true
acting true b e acts = e
acting false b e acts = absurd (true≢false (sym acts))

-- what stays of values that go whole
left_whole : (flags : Flags) (cond mode : ℕ) (old values : List ℕ) → length values ≡ 16 → (cond == COND_ALWAYS) ≡ true → (mode == 0) ≡ true → left cond flags mode old values ≡ values
left_whole flags cond mode old values long always whole =
    let one : cond ≡ 1 = grind (arith, nat_tests) in
    let none : mode ≡ 0 = grind (arith, nat_tests) in
    rw (one, none) (sym (whole_left flags old values long))

stored_whole : (f : Fields) (p : ProcessorState) (in_b : Bool) (address cond : ℕ) (values : List ℕ) → length values ≡ 16
    → (nat_le address WRITE_R3 && (cond == COND_ALWAYS) && (pack_mode f in_b == 0)) ≡ true → stored f p in_b address cond values ≡ values
unfolding stored
stored_whole f p in_b address cond values long test =
    let last = both (nat_le address WRITE_R3 && (cond == COND_ALWAYS)) (pack_mode f in_b == 0) test in
    let first = both (nat_le address WRITE_R3) (cond == COND_ALWAYS) last.0 in
    let low : nat_le address WRITE_R3 ≡ true = first.0 in
    rw low (left_whole p.flags cond (pack_mode f in_b) (old_at p in_b address) values long first.1 last.1)

on_one : (writes : Bool) (x y : List ℕ) (g : List ℕ → ProcessorState) (p : ProcessorState) → (writes ≡ true → x ≡ y) → (if writes then g x else p) ≡ (if writes then g y else p)
on_one true x y g p same = ap g (same refl)
on_one false x y g p same = refl

add_whole : (f : Fields) (p before : ProcessorState) (ins : Ins) (values : List ℕ) → values ≡ add_sent f before ins → length values ≡ 16
    → goes_whole (add_writes f) f (swaps_writes f) f.waddr_add (write_cond f f.cond_add) ≡ true → put_add f values p ≡ put_add f (add_stored f before ins) p
unfolding put_add add_stored
add_whole f p before ins values sent long test =
    on_one (add_writes f) values _ (λ x. written (swaps_writes f) f.waddr_add x p) p
    (λ acts. rw (← sent) (sym (stored_whole f before (swaps_writes f) f.waddr_add (write_cond f f.cond_add) values long (acting _ _ test acts))))

mul_whole : (f : Fields) (p before : ProcessorState) (ins : Ins) (values : List ℕ) → values ≡ mul_sent f before ins → length values ≡ 16
    → goes_whole (mul_writes f) f (not (swaps_writes f)) f.waddr_mul (write_cond f f.cond_mul) ≡ true → put_mul f values p ≡ put_mul f (mul_stored f before ins) p
unfolding put_mul mul_stored
mul_whole f p before ins values sent long test =
    on_one (mul_writes f) values _ (λ x. written (not (swaps_writes f)) f.waddr_mul x p) p
    (λ acts. rw (← sent) (sym (stored_whole f before (not (swaps_writes f)) f.waddr_mul (write_cond f f.cond_mul) values long (acting _ _ test acts))))

-- the registers after writes that go whole
pub registers_whole : (f : Fields) (p : ProcessorState) (ins : Ins) (add mul : List ℕ) → add ≡ add_sent f p ins → mul ≡ mul_sent f p ins → length add ≡ 16 → length mul ≡ 16
    → is_whole f ≡ true → put_loaded f ins (put_mul f mul (put_add f add p)) ≡ registers_after f p ins
unfolding registers_after
registers_whole f p ins add mul by_add by_mul long_add long_mul test =
    let tests = both _ _ test in
    ap (put_loaded f ins)
    (mul_whole f (put_add f add p) p ins mul by_mul long_mul tests.1 ∙ ap (put_mul f (mul_stored f p ins)) (add_whole f p p ins add by_add long_add tests.0))

-- the writes of registers leave the book alone

book_written : (in_b : Bool) (address : ℕ) (values : List ℕ) (p : ProcessorState) → (written in_b address values p).book ≡ p.book
unfolding written
book_written in_b address values p = grind (arith, nat_tests)

book_add : (f : Fields) (values : List ℕ) (p : ProcessorState) → (put_add f values p).book ≡ p.book
unfolding put_add
book_add f values p = grind (arith, nat_tests, book_written)

book_mul : (f : Fields) (values : List ℕ) (p : ProcessorState) → (put_mul f values p).book ≡ p.book
unfolding put_mul
book_mul f values p = grind (arith, nat_tests, book_written)

book_loaded : (f : Fields) (ins : Ins) (p : ProcessorState) → (put_loaded f ins p).book ≡ p.book
unfolding put_loaded
book_loaded f ins p = grind (arith, nat_tests)

pub book_kept : (f : Fields) (p : ProcessorState) (ins : Ins) → (registers_after f p ins).book ≡ p.book
unfolding registers_after
book_kept f p ins = book_loaded f ins _ ∙ book_mul f _ _ ∙ book_add f _ _
