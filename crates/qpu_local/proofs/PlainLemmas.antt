-- What a plain word's instruction makes of its processor is what its units do.
use Rattle.std.proofs.Common.{◌≡◌, ◌<◌, ◌≤◌, ℕ, Bool, true, false, not, List, Option, None, Some, Ok, length, refl, ap, sym, subst, arith, ◌∙◌}
use Rattle.std.specs.Prelude.{◌==◌, ◌&&◌, ◌||◌, ◌-◌, ◌+◌, ◌%◌, nat_lt, nat_le, replicate, if◌then◌else◌}
use Rattle.std.proofs.lemmas.Bool.Decides.{nat_tests}
use Rattle.qpu_word.specs.declared.word.Fields.{Fields}
use Rattle.qpu_word.specs.declared.state.Flags.{Flags}
use Rattle.qpu_word.specs.declared.code.TheConstants.{MUX_FILE_A, MUX_FILE_B, ROWS, READ_NUMBER, WRITE_R3, NOWHERE, WRITE_HOST_INT}
use Rattle.qpu_word.specs.Lanes.{lanes, lane, Gives}
use Rattle.qpu_word.specs.Fit.{IsFit}
use Rattle.qpu_word.specs.Words.{IsInProfile, is_unit_word, is_small, fields_of, is_branch, is_program_end, is_tmu_load, swaps_writes, add_active, mul_active, add_writes, mul_writes}
use Rattle.qpu_word.specs.declared.operation.AddOp.{AddOp}
use Rattle.qpu_word.specs.Operations.{add_op, add_carry}
use Rattle.qpu_word.specs.Operands.{row_of, immediate_of, unpacked, read_a, read_b, operand}
use Rattle.qpu_word.specs.Writing.{rotation, rotated, written}
use Rattle.qpu_word.specs.Processor.{ProcessorState}
use Rattle.qpu_word.specs.Instruction.{add_values, mul_values, carry_mask, add_carries, add_sent, mul_sent, put_add, put_mul, put_loaded, registers_after, flags_of, unit_flags, flags_after, place_later, place_after, rest_later, rest_after, halt_later, halt_after, raised_by, done, no_ins, branch_fails, local_result}
use Rattle.qpu_word.proofs.LaneLemmas.{lanes_same, length-lanes, get_or-lanes, lanes_repeated}
use Rattle.qpu_decoded.specs.Sources.{given, IsSourceThere, source_a, source_b, source_of}
use Rattle.qpu_decoded.specs.declared.source.Source.{Source}
use Rattle.qpu_decoded.specs.declared.source.Source.TheVariants.{FileA, FileB, Accumulator, All, QpuNumber, ElementNumber}
use Rattle.qpu_decoded.specs.Targets.{put_to, IsTargetThere, target_at, target_of, is_whole}
use Rattle.qpu_decoded.specs.declared.target.Target.{Target}
use Rattle.qpu_decoded.specs.Units.{setter_of, flags_by, units_of, rotates, is_plain, deed_of, decoded_of, AreThere}
use Rattle.qpu_decoded.specs.declared.decoded.Decoded.{Decoded}
use Rattle.qpu_decoded.specs.declared.units.Units.{Units}
use Rattle.qpu_decoded.specs.declared.decoded.Deed.{Deed}
use Rattle.qpu_decoded.specs.declared.decoded.Deed.TheVariants.{Plain, Other}
use Rattle.qpu_decoded.specs.declared.units.Setter.TheVariants.{Neither, Add, Mul}
use Rattle.qpu_word.proofs.ProfileLemmas.{fit_of_profile}
use Rattle.qpu_local.specs.Plain.{add_of, carries_of, mul_of, flags_left, plainly_done}
use Rattle.qpu_local.proofs.UnitLemmas.{carries_same}
use Rattle.qpu_local.specs.Quiet.{StaysIn}
use Rattle.qpu_local.proofs.StayLemmas.{done_within}
use Rattle.qpu_local.proofs.WholeLemmas.{registers_whole}

-- what is known of a plain word
record IsPlainWord (f : Fields) : Type 0 where
  unit : is_unit_word f ≡ true
  goes_on : is_program_end f ≡ false
  takes : (is_tmu_load f 0 || is_tmu_load f 1) ≡ false
  straight : rotates f ≡ false
  unpacked : f.unpack ≡ 0
  whole : is_whole f ≡ true

six : (a b c d e w : Bool) → (a && not b && not c && not d && e && w) ≡ true → (a ≡ true) × (b ≡ false) × (c ≡ false) × (d ≡ false) × (e ≡ true) × (w ≡ true)
six a b c d e w all = (grind (arith, all), grind (arith, all), grind (arith, all), grind (arith, all), grind (arith, all), grind (arith, all))

plain_word : (f : Fields) → is_plain f ≡ true → IsPlainWord f
unfolding is_plain
plain_word f is =
    let parts = six (is_unit_word f) (is_program_end f) (is_tmu_load f 0 || is_tmu_load f 1) (rotates f) (f.unpack == 0) (is_whole f) is in
    let test : (f.unpack == 0) ≡ true = parts.4 in
    let none : f.unpack ≡ 0 = grind (arith, nat_tests) in
    record { unit = parts.0; goes_on = parts.1; takes = parts.2; straight = parts.3; unpacked = none; whole = parts.5 }

no_branch : (f : Fields) → is_unit_word f ≡ true → is_branch f ≡ false
no_branch f unit = grind (arith, nat_tests)

-- operands

given_if : (p : ProcessorState) (i : ℕ) (test : Bool) (x y : Source) → given p (if test then x else y) i ≡ (if test then given p x i else given p y i)
given_if p i true x y = refl
given_if p i false x y = refl

-- where nothing shared is read, all addresses but the rows and the number give 0
nothing_else : (low uniform number vpm busy : Bool) (row i : ℕ) (vpm_lane : ℕ) → (uniform ≡ true → number ≡ false) → vpm_lane ≡ 0
    → (if low then row else if uniform then 0 else if number then i else if vpm then vpm_lane else if busy then 0 else 0) ≡ (if low then row else if number then i else 0)
nothing_else true uniform number vpm busy row i vpm_lane apart none = refl
nothing_else false true number vpm busy row i vpm_lane apart none = rw (apart refl) refl
nothing_else false false true vpm busy row i vpm_lane apart none = refl
nothing_else false false false true busy row i vpm_lane apart none = none
nothing_else false false false false true row i vpm_lane apart none = refl
nothing_else false false false false false row i vpm_lane apart none = refl

apart : (address : ℕ) → (address == 32) ≡ true → (address == READ_NUMBER) ≡ false
apart address is = grind (arith, nat_tests)

given_a : (p : ProcessorState) (address i : ℕ) → i < 16 → read_a p no_ins address i ≡ given p (source_a address) i
unfolding read_a
given_a p address i low =
    nothing_else (nat_lt address ROWS) (address == 32) (address == READ_NUMBER) (address == 48) (address == 49) (lane (row_of p.file_a address) i) i _ (apart address) (get_or-lanes (λ i. 0) i low)
    ∙ ap (λ n. if nat_lt address ROWS then lane (row_of p.file_a address) i else n) (sym (given_if p i (address == READ_NUMBER) ElementNumber (All 0)))
    ∙ sym (given_if p i (nat_lt address ROWS) (FileA address) _)

given_b : (p : ProcessorState) (address i : ℕ) → i < 16 → read_b p no_ins address i ≡ given p (source_b address) i
unfolding read_b
given_b p address i low =
    nothing_else (nat_lt address ROWS) (address == 32) (address == READ_NUMBER) (address == 48) (address == 49) (lane (row_of p.file_b address) i) p.q _ (apart address) (get_or-lanes (λ i. 0) i low)
    ∙ ap (λ n. if nat_lt address ROWS then lane (row_of p.file_b address) i else n) (sym (given_if p i (address == READ_NUMBER) QpuNumber (All 0)))
    ∙ sym (given_if p i (nat_lt address ROWS) (FileB address) _)

given_file_b : (p : ProcessorState) (f : Fields) (i : ℕ) → i < 16
    → (if is_small f then immediate_of f.raddr_b else read_b p no_ins f.raddr_b i) ≡ given p (if is_small f then All (immediate_of f.raddr_b) else source_b f.raddr_b) i
given_file_b p f i low = rw (given_b p f.raddr_b i low) (sym (given_if p i (is_small f) (All (immediate_of f.raddr_b)) (source_b f.raddr_b)))

unpacked_whole : (n : ℕ) → unpacked 0 n ≡ n
unfolding unpacked
unpacked_whole n = refl

-- an operand is what its source gives
operand_given : (p : ProcessorState) (f : Fields) (mux i : ℕ) → f.unpack ≡ 0 → i < 16 → operand f p no_ins mux i ≡ given p (source_of f mux) i
unfolding operand source_of
operand_given p f mux i none low =
    rw (none, unpacked_whole (read_a p no_ins f.raddr_a i), given_a p f.raddr_a i low, given_file_b p f i low)
    (ap (λ n. if mux == MUX_FILE_A then given p (source_a f.raddr_a) i else n) (sym (given_if p i (mux == MUX_FILE_B) _ (Accumulator mux)))
    ∙ sym (given_if p i (mux == MUX_FILE_A) (source_a f.raddr_a) _))

-- values, carries and flags

add_is : (f : Fields) (p : ProcessorState) → f.unpack ≡ 0 → add_values f p no_ins ≡ add_of p (units_of f)
unfolding add_values add_of units_of
add_is f p none = lanes_same _ _ (λ k low. rw (operand_given p f f.add_a k none low, operand_given p f f.add_b k none low) refl)

mul_is : (f : Fields) (p : ProcessorState) → f.unpack ≡ 0 → mul_values f p no_ins ≡ mul_of p (units_of f)
unfolding mul_values mul_of units_of
mul_is f p none = lanes_same _ _ (λ k low. rw (operand_given p f f.mul_a k none low, operand_given p f f.mul_b k none low) refl)

mask_of_same : (op : Option AddOp) (a b c d : ℕ → ℕ) → ((k : ℕ) → k < 16 → a k ≡ c k) → ((k : ℕ) → k < 16 → b k ≡ d k) → carry_mask op a b ≡ carry_mask op c d
mask_of_same None a b c d first second = refl
mask_of_same (Some op) a b c d first second = carries_same _ a b c d first second

carries_are : (f : Fields) (p : ProcessorState) → f.unpack ≡ 0 → add_carries f p no_ins ≡ carries_of p (units_of f)
unfolding add_carries carries_of units_of
carries_are f p none =
    mask_of_same (add_op f.op_add) _ _ _ _ (λ k low. operand_given p f f.add_a k none low) (λ k low. operand_given p f f.add_b k none low)

-- where the add unit has no operation its results are 0, and it has no carries; else they are the operation's
pub none_added : (p : ProcessorState) (u : Units) → u.add ≡ None → replicate 16 0 ≡ add_of p u
unfolding add_of
none_added p u none = rw none (lanes_repeated 0)

pub none_multiplied : (p : ProcessorState) (u : Units) → u.mul ≡ None → replicate 16 0 ≡ mul_of p u
unfolding mul_of
none_multiplied p u none = rw none (lanes_repeated 0)

pub carries_by : (p : ProcessorState) (u : Units) (op : AddOp) (a b : List ℕ) (result : Option ℕ) → u.add ≡ Some op → Gives a (given p u.add_a) → Gives b (given p u.add_b)
    → result ≡ carry_mask (Some op) (lane a) (lane b) → result ≡ carries_of p u
unfolding carries_of
carries_by p u op a b result known first second is =
    is ∙ carries_same (add_carry op) (lane a) (lane b) (given p u.add_a) (given p u.add_b) first.at second.at ∙ rw known refl

set_by_cases : (s a m : Bool) (flags : Flags) (add : List ℕ) (c : Option ℕ) (mul : List ℕ)
    → (if not s then flags else if a then flags_of add c else if m then flags_of mul None else flags) ≡ flags_by (if not s then Neither else if a then Add else if m then Mul else Neither) flags add c mul
set_by_cases false a m flags add c mul = refl
set_by_cases true true m flags add c mul = refl
set_by_cases true false true flags add c mul = refl
set_by_cases true false false flags add c mul = refl

flags_are_by : (f : Fields) (flags : Flags) (add : List ℕ) (c : Option ℕ) (mul : List ℕ) → unit_flags f flags add c mul ≡ flags_by (units_of f).sets flags add c mul
unfolding unit_flags units_of setter_of
flags_are_by f flags add c mul = set_by_cases (f.sf == 1) (add_active f) (mul_active f) flags add c mul

flags_are : (f : Fields) (p : ProcessorState) → IsPlainWord f → flags_after f p no_ins ≡ flags_left p (units_of f)
unfolding flags_after flags_left
flags_are f p plain =
    rw (plain.unit, add_is f p plain.unpacked, carries_are f p plain.unpacked, mul_is f p plain.unpacked)
    (flags_are_by f p.flags (add_of p (units_of f)) (carries_of p (units_of f)) (mul_of p (units_of f)))

-- registers

target_put : (in_b : Bool) (address : ℕ) (values : List ℕ) (p : ProcessorState) → address ≤ 35 → written in_b address values p ≡ put_to (target_at in_b address) values p
unfolding written
target_put true address values p low = grind (arith, nat_tests)
target_put false address values p low = grind (arith, nat_tests)

low_address : (acts : Bool) (address : ℕ) (b c : Bool) → (not acts || (nat_le address WRITE_R3 && b && c)) ≡ true → acts ≡ true → address ≤ 35
low_address acts address b c test is = grind (arith, nat_tests)

put_where : (acts in_b : Bool) (address : ℕ) (values : List ℕ) (p : ProcessorState) → (acts ≡ true → address ≤ 35)
    → (if acts then written in_b address values p else p) ≡ put_to (target_of acts in_b address) values p
unfolding target_of
put_where true in_b address values p low = target_put in_b address values p (low refl)
put_where false in_b address values p low = refl

both : (a b : Bool) → (a && b) ≡ true → (a ≡ true) × (b ≡ true)
both a b all = (grind (arith, all), grind (arith, all))

add_low : (f : Fields) → is_whole f ≡ true → add_writes f ≡ true → f.waddr_add ≤ 35
add_low f whole = low_address (add_writes f) f.waddr_add _ _ (both _ _ whole).0

mul_low : (f : Fields) → is_whole f ≡ true → mul_writes f ≡ true → f.waddr_mul ≤ 35
mul_low f whole = low_address (mul_writes f) f.waddr_mul _ _ (both _ _ whole).1

add_put : (f : Fields) (values : List ℕ) (p : ProcessorState) → is_whole f ≡ true → put_add f values p ≡ put_to (units_of f).add_to values p
unfolding put_add units_of
add_put f values p whole = put_where (add_writes f) (swaps_writes f) f.waddr_add values p (add_low f whole)

mul_put : (f : Fields) (values : List ℕ) (p : ProcessorState) → is_whole f ≡ true → put_mul f values p ≡ put_to (units_of f).mul_to values p
unfolding put_mul units_of
mul_put f values p whole = put_where (mul_writes f) (not (swaps_writes f)) f.waddr_mul values p (mul_low f whole)

not_turned : (f : Fields) (p : ProcessorState) → rotates f ≡ false → rotation f p ≡ 0
unfolding rotation
not_turned f p straight = grind (arith, nat_tests)

turned_back : (i : ℕ) → i < 16 → (i + 16 - 0) % 16 ≡ i
turned_back i low = omega arith

turned_none : (g : ℕ → ℕ) → rotated 0 (lanes g) ≡ lanes g
unfolding rotated
turned_none g = lanes_same _ g (λ k low. ap (λ j. lane (lanes g) j) (turned_back k low) ∙ get_or-lanes g k low)

add_sent_is : (f : Fields) (p : ProcessorState) → IsPlainWord f → add_of p (units_of f) ≡ add_sent f p no_ins
unfolding add_sent
add_sent_is f p plain = rw plain.unit (sym (add_is f p plain.unpacked))

mul_unturned : (p : ProcessorState) (f : Fields) → rotated 0 (mul_of p (units_of f)) ≡ mul_of p (units_of f)
unfolding mul_of
mul_unturned p f = turned_none _

mul_sent_is : (f : Fields) (p : ProcessorState) → IsPlainWord f → mul_of p (units_of f) ≡ mul_sent f p no_ins
unfolding mul_sent
mul_sent_is f p plain =
    rw (plain.unit, not_turned f p plain.straight, mul_is f p plain.unpacked) (sym (mul_unturned p f))

add_long : (p : ProcessorState) (f : Fields) → length (add_of p (units_of f)) ≡ 16
unfolding add_of
add_long p f = length-lanes _

mul_long : (p : ProcessorState) (f : Fields) → length (mul_of p (units_of f)) ≡ 16
unfolding mul_of
mul_long p f = length-lanes _

nothing_loaded : (f : Fields) (p : ProcessorState) → (is_tmu_load f 0 || is_tmu_load f 1) ≡ false → put_loaded f no_ins p ≡ p
unfolding put_loaded
nothing_loaded f p none = rw none refl

registers_are : (f : Fields) (p : ProcessorState) → IsPlainWord f
    → registers_after f p no_ins ≡ put_to (units_of f).mul_to (mul_of p (units_of f)) (put_to (units_of f).add_to (add_of p (units_of f)) p)
registers_are f p plain =
    sym (registers_whole f p no_ins (add_of p (units_of f)) (mul_of p (units_of f)) (add_sent_is f p plain) (mul_sent_is f p plain) (add_long p f) (mul_long p f) plain.whole)
    ∙ nothing_loaded f _ plain.takes
    ∙ mul_put f _ _ plain.whole
    ∙ ap (put_to (units_of f).mul_to (mul_of p (units_of f))) (add_put f _ p plain.whole)

-- control

no_interrupt : (acts : Bool) (address : ℕ) → (acts ≡ true → address ≤ 35) → (acts && (address == WRITE_HOST_INT)) ≡ false
no_interrupt true address low = let small = low refl in grind (arith, nat_tests)
no_interrupt false address low = refl

none_raised : (f : Fields) → is_whole f ≡ true → raised_by f ≡ 0
none_raised f whole =
    rw (no_interrupt (add_writes f) f.waddr_add (add_low f whole), no_interrupt (mul_writes f) f.waddr_mul (mul_low f whole)) refl

place_is : (f : Fields) (p : ProcessorState) → IsPlainWord f → place_after f p ≡ place_later p.rest p.place
unfolding place_after
place_is f p plain = rw (no_branch f plain.unit, plain.goes_on) refl

rest_is : (f : Fields) (p : ProcessorState) → IsPlainWord f → rest_after f p ≡ rest_later p.rest
unfolding rest_after
rest_is f p plain = rw (no_branch f plain.unit, plain.goes_on) refl

halt_is : (f : Fields) (p : ProcessorState) → IsPlainWord f → halt_after f p ≡ halt_later p.rest
unfolding halt_after
halt_is f p plain = rw (no_branch f plain.unit, plain.goes_on) refl

-- the whole instruction
done_plainly : (f : Fields) (p : ProcessorState) → is_plain f ≡ true → done f p no_ins p.book ≡ plainly_done (units_of f) p
unfolding done plainly_done
done_plainly f p is =
    let plain = plain_word f is in
    rw (flags_are f p plain, place_is f p plain, rest_is f p plain, none_raised f plain.whole, halt_is f p plain, registers_are f p plain) refl

no_fault : (is_link : ℕ → Bool) (f : Fields) (p : ProcessorState) → is_unit_word f ≡ true → branch_fails is_link f p ≡ false
unfolding branch_fails
no_fault is_link f p unit = rw (no_branch f unit) refl

none_past : (acts : Bool) (address : ℕ) → (acts ≡ true → address ≤ 35) → (acts && nat_lt NOWHERE address) ≡ false
none_past true address low = let small = low refl in grind (arith, nat_tests)
none_past false address low = refl

stays : (f : Fields) → is_whole f ≡ true → StaysIn f
stays f whole = record { add = none_past (add_writes f) f.waddr_add (add_low f whole); mul = none_past (mul_writes f) f.waddr_mul (mul_low f whole) }

plain_outcome : (is_link : ℕ → Bool) (number : ℕ) (p : ProcessorState) → is_plain (fields_of number) ≡ true → local_result is_link number p ≡ Ok (plainly_done (units_of (fields_of number)) p)
unfolding local_result
plain_outcome is_link number p is =
    let f = fields_of number in
    let plain = plain_word f is in
    rw (no_fault is_link f p plain.unit) (done_within f p no_ins (stays f plain.whole) ∙ ap Ok (done_plainly f p is))

abbrev units_in : Deed → Units → Units
units_in (Plain u) other = u
units_in Other other = other

told_plain : (test : Bool) (u v : Units) → (if test then Plain u else Other) ≡ Plain v → (test ≡ true) × (u ≡ v)
told_plain true u v is = (refl, ap (λ d. units_in d u) is)
told_plain false u v is = absurd (cc)

-- what a word that is decoded as a plain one makes of its processor, and where its units read and write
told_deed : (number : ℕ) (d : Decoded) (u : Units) → d ≡ decoded_of number → d.deed ≡ Plain u → deed_of (fields_of number) ≡ Plain u
told_deed number d u decoded is = sym (ap (λ (x : Decoded). x.deed) decoded) ∙ is

plain_told : (is_link : ℕ → Bool) (number : ℕ) (p : ProcessorState) (u : Units) → deed_of (fields_of number) ≡ Plain u → local_result is_link number p ≡ Ok (plainly_done u p)
unfolding deed_of
plain_told is_link number p u is =
    let told = told_plain (is_plain (fields_of number)) (units_of (fields_of number)) u is in
    plain_outcome is_link number p told.0 ∙ ap (λ v. Ok (plainly_done v p)) told.1

pub plain_result : (is_link : ℕ → Bool) (number : ℕ) (p : ProcessorState) (d : Decoded) (u : Units) → d ≡ decoded_of number → d.deed ≡ Plain u → local_result is_link number p ≡ Ok (plainly_done u p)
plain_result is_link number p d u decoded is = plain_told is_link number p u (told_deed number d u decoded is)

-- its sources and targets are registers, or none

source_there : (test : Bool) (x y : Source) → (test ≡ true → IsSourceThere x) → (test ≡ false → IsSourceThere y) → IsSourceThere (if test then x else y)
source_there true x y a b = a refl
source_there false x y a b = b refl

a_there : (address : ℕ) → IsSourceThere (source_a address)
a_there address =
    source_there (nat_lt address ROWS) (FileA address) _ (λ low. grind (arith, nat_tests))
    (λ high. source_there (address == READ_NUMBER) ElementNumber (All 0) (λ e. tt) (λ e. tt))

b_there : (address : ℕ) → IsSourceThere (source_b address)
b_there address =
    source_there (nat_lt address ROWS) (FileB address) _ (λ low. grind (arith, nat_tests))
    (λ high. source_there (address == READ_NUMBER) QpuNumber (All 0) (λ e. tt) (λ e. tt))

of_mux_there : (f : Fields) (mux : ℕ) → mux < 8 → IsSourceThere (source_of f mux)
unfolding source_of
of_mux_there f mux low =
    source_there (mux == MUX_FILE_A) (source_a f.raddr_a) _ (λ e. a_there f.raddr_a)
    (λ no_a. source_there (mux == MUX_FILE_B) _ (Accumulator mux)
    (λ e. source_there (is_small f) (All (immediate_of f.raddr_b)) (source_b f.raddr_b) (λ e. tt) (λ e. b_there f.raddr_b))
    (λ no_b. grind (arith, nat_tests)))

target_there : (test : Bool) (x y : Target) → (test ≡ true → IsTargetThere x) → (test ≡ false → IsTargetThere y) → IsTargetThere (if test then x else y)
target_there true x y a b = a refl
target_there false x y a b = b refl

at_there : (in_b : Bool) (address : ℕ) → address ≤ 35 → IsTargetThere (target_at in_b address)
at_there in_b address low =
    target_there (nat_lt address ROWS) _ _ (λ e. target_there in_b _ _ (λ b. grind (arith, nat_tests)) (λ a. grind (arith, nat_tests)))
    (λ high. omega arith)

written_there : (acts in_b : Bool) (address : ℕ) → (acts ≡ true → address ≤ 35) → IsTargetThere (target_of acts in_b address)
unfolding target_of
written_there true in_b address low = at_there in_b address (low refl)
written_there false in_b address low = tt

there : (f : Fields) → IsFit f → is_plain f ≡ true → AreThere (units_of f)
unfolding units_of
there f fit is =
    let plain = plain_word f is in
    record {
      add_a = of_mux_there f f.add_a fit.add_a;
      add_b = of_mux_there f f.add_b fit.add_b;
      add_to = written_there (add_writes f) (swaps_writes f) f.waddr_add (add_low f plain.whole);
      mul_a = of_mux_there f f.mul_a fit.mul_a;
      mul_b = of_mux_there f f.mul_b fit.mul_b;
      mul_to = written_there (mul_writes f) (not (swaps_writes f)) f.waddr_mul (mul_low f plain.whole);
    }

told_there : (f : Fields) (u : Units) → IsFit f → deed_of f ≡ Plain u → AreThere u
unfolding deed_of
told_there f u fit is =
    let told = told_plain (is_plain f) (units_of f) u is in
    subst (λ v. AreThere v) told.1 (there f fit told.0)

pub plain_there : (number : ℕ) (d : Decoded) (u : Units) → IsInProfile number → d ≡ decoded_of number → d.deed ≡ Plain u → AreThere u
plain_there number d u inside decoded is = told_there (fields_of number) u (fit_of_profile number inside) (told_deed number d u decoded is)
