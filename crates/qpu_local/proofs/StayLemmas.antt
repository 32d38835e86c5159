-- What a word leaves as it is: its book, where it writes no address past the registers, and its
-- registers and flags, where it writes none.
use Rattle.std.proofs.Common.{◌≡◌, ◌<◌, ℕ, Bool, true, false, List, Option, None, Ok, refl, arith}
use Rattle.std.proofs.lemmas.Bool.Decides.{nat_tests}
use Rattle.std.specs.Prelude.{◌==◌, ◌&&◌, nat_lt, if◌then◌else◌}
use Rattle.qpu_word.specs.declared.word.Fields.{Fields}
use Rattle.qpu_word.specs.declared.traffic.Ins.{Ins}
use Rattle.qpu_word.specs.declared.setup.Book.{Book}
use Rattle.qpu_word.specs.declared.state.Flags.{Flags}
use Rattle.qpu_word.specs.declared.code.TheConstants.{NOWHERE, WRITE_UNIFORMS_ADDRESS, WRITE_VPM_SETUP}
use Rattle.qpu_word.specs.Words.{swaps_writes, is_unit_word, add_writes, mul_writes, writes_a, writes_b}
use Rattle.qpu_word.specs.Processor.{ProcessorState}
use Rattle.qpu_local.specs.Quiet.{StaysIn, IsQuiet}
use Rattle.qpu_word.specs.Instruction.{sent_to, sent_to_a, sent_to_b, outs_from, outs_of, after_setups, after_uniform_to, then_after, put_add, put_mul, put_loaded, registers_after, unit_flags, load_flags, flags_after, place_after, rest_after, halt_after, raised_by, moved_on, done}

-- a unit that writes no address past 39 writes none of them
none_past : (acts : Bool) (at address : ℕ) → (acts && nat_lt NOWHERE at) ≡ false → NOWHERE < address → (acts && (at == address)) ≡ false
none_past acts at address stays past = grind (arith, nat_tests)

neither : (exchanged a b : Bool) → a ≡ false → b ≡ false → (if exchanged then a else b) ≡ false
neither true a b x y = x
neither false a b x y = y

unsent_to : (f : Fields) (add mul : List ℕ) (address : ℕ) → (mul_writes f && (f.waddr_mul == address)) ≡ false
    → (add_writes f && (f.waddr_add == address)) ≡ false → sent_to f add mul address ≡ None
unfolding sent_to
unsent_to f add mul address by_mul by_add = rw (by_mul, by_add) refl

unsent_to_a : (f : Fields) (add mul : List ℕ) (address : ℕ) → writes_a f address ≡ false → sent_to_a f add mul address ≡ None
unfolding sent_to_a
unsent_to_a f add mul address none = rw none refl

unsent_to_b : (f : Fields) (add mul : List ℕ) (address : ℕ) → writes_b f address ≡ false → sent_to_b f add mul address ≡ None
unfolding sent_to_b
unsent_to_b f add mul address none = rw none refl

nothing_to_a : (f : Fields) (add mul : List ℕ) (address : ℕ) → NOWHERE < address → StaysIn f → sent_to_a f add mul address ≡ None
nothing_to_a f add mul address past stays =
    unsent_to_a f add mul address
    (neither (swaps_writes f) _ _ (none_past (mul_writes f) f.waddr_mul address stays.mul past) (none_past (add_writes f) f.waddr_add address stays.add past))

nothing_to_b : (f : Fields) (add mul : List ℕ) (address : ℕ) → NOWHERE < address → StaysIn f → sent_to_b f add mul address ≡ None
nothing_to_b f add mul address past stays =
    unsent_to_b f add mul address
    (neither (swaps_writes f) _ _ (none_past (add_writes f) f.waddr_add address stays.add past) (none_past (mul_writes f) f.waddr_mul address stays.mul past))

nothing_to : (f : Fields) (add mul : List ℕ) (address : ℕ) → NOWHERE < address → StaysIn f → sent_to f add mul address ≡ None
nothing_to f add mul address past stays =
    unsent_to f add mul address (none_past (mul_writes f) f.waddr_mul address stays.mul past) (none_past (add_writes f) f.waddr_add address stays.add past)

-- such a word changes no setup
setups_stay : (f : Fields) (add mul : List ℕ) (book : Book) → StaysIn f → after_setups (outs_from f add mul) book ≡ Ok book
unfolding after_setups outs_from
setups_stay f add mul book stays =
    rw (nothing_to_a f add mul WRITE_VPM_SETUP (omega arith) stays, nothing_to_b f add mul WRITE_VPM_SETUP (omega arith) stays) refl

-- nor the uniforms address
uniforms_stay : (f : Fields) (add mul : List ℕ) (book : Book) → StaysIn f → after_uniform_to (outs_from f add mul).uniform_to book ≡ book
unfolding outs_from
uniforms_stay f add mul book stays = rw (nothing_to f add mul WRITE_UNIFORMS_ADDRESS (omega arith) stays) refl

-- so it is done with the book as it was
pub done_within : (f : Fields) (p : ProcessorState) (ins : Ins) → StaysIn f
    → then_after (after_setups (outs_of f p ins) p.book) (λ book. Ok (done f p ins (after_uniform_to (outs_of f p ins).uniform_to book)))
    ≡ Ok (done f p ins p.book)
done_within f p ins stays = rw (setups_stay f _ _ p.book stays, uniforms_stay f _ _ p.book stays) refl

same_registers : (f : Fields) (p : ProcessorState) (ins : Ins) → IsQuiet f → registers_after f p ins ≡ p
unfolding registers_after put_add put_mul put_loaded
same_registers f p ins quiet = rw (quiet.takes, quiet.mul, quiet.add) refl

same_unit_flags : (f : Fields) (flags : Flags) (add mul : List ℕ) (carries : Option ℕ) → (f.sf == 1) ≡ false → unit_flags f flags add carries mul ≡ flags
unfolding unit_flags
same_unit_flags f flags add mul carries none = rw none refl

same_load_flags : (f : Fields) (flags : Flags) (values : List ℕ) → (f.sf == 1) ≡ false → load_flags f flags values ≡ flags
unfolding load_flags
same_load_flags f flags values none = rw none refl

either_same : (first : Bool) (a b c : Flags) → a ≡ c → b ≡ c → (if first then a else b) ≡ c
either_same true a b c x y = x
either_same false a b c x y = y

same_flags : (f : Fields) (p : ProcessorState) (ins : Ins) → IsQuiet f → flags_after f p ins ≡ p.flags
unfolding flags_after
same_flags f p ins quiet =
    either_same (is_unit_word f) _ _ p.flags (same_unit_flags f p.flags _ _ _ quiet.flags) (same_load_flags f p.flags _ quiet.flags)

none_raised : (f : Fields) → IsQuiet f → raised_by f ≡ 0
none_raised f quiet = rw (quiet.add, quiet.mul) refl

-- such a word moves its processor on, and nothing else
pub done_quietly : (f : Fields) (p : ProcessorState) (ins : Ins) (book : Book) → IsQuiet f
    → done f p ins book ≡ moved_on p.flags (place_after f p) (rest_after f p) book 0 (halt_after f p) p
unfolding done
done_quietly f p ins book quiet = rw (same_flags f p ins quiet, none_raised f quiet, same_registers f p ins quiet) refl
