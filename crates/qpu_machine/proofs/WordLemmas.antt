-- What holds of the word at the place of a processor that stands on a path.
use Rattle.std.proofs.Common.{◌≡◌, ◌<◌, ℕ, Bool, true, false, not, List, length, refl, ap, ◌∙◌, arith}
use Rattle.std.specs.Prelude.{◌==◌, ◌&&◌, ◌||◌, slice_index}
use Rattle.std.proofs.lemmas.Bool.Decides.{nat_tests}
use Rattle.qpu_word.specs.declared.word.Fields.{Fields}
use Rattle.qpu_word.specs.declared.fault.WordFault.TheVariants.{Signal, WriteAddress}
use Rattle.qpu_word.specs.declared.code.TheConstants.{WRITE_VPM, WRITE_DMA_ADDRESS, WRITE_MUTEX, WRITE_TMU0_S, WRITE_TMU1_S}
use Rattle.qpu_word.specs.Words.{fields_of, is_branch, is_alu, is_unit_word, is_link_address, is_semaphore, is_tmu_load, is_shared, is_local, add_active, mul_active, add_writes, mul_writes, is_load, is_write_address, writes, has_fault, all_faults, word_fault, IsInProfile}
use Rattle.qpu_word.specs.Processor.{ProcessorState}
use Rattle.qpu_word.proofs.ProfileLemmas.{every_row}
use Rattle.qpu_tmu.specs.Looks.{LookupsState}
use Rattle.qpu_shared.specs.declared.pending.Pending.{Pending}
use Rattle.qpu_shared.specs.Exec.{HasRoom}
use Rattle.qpu_decoded.specs.declared.decoded.Decoded.{Decoded}
use Rattle.qpu_decoded.specs.Units.{decoded_of}
use Rattle.qpu_flow.specs.Code.{fields_at}
use Rattle.qpu_hazard.specs.Paths.{IsClean}
use Rattle.qpu_hazard.specs.Holds.{WordHolds}
use Rattle.qpu_hazard.proofs.HoldLemmas.{word_holds}
use Rattle.qpu_machine.specs.Kept.{IsOnPath}
use Rattle.qpu_machine.proofs.KeptLooks.{room_holds}

-- it may follow the path, so all holds that checked programs promise
pub holds_on_path : (code : List ℕ) (p : ProcessorState) (looks : LookupsState) → IsClean code → (on : IsOnPath code p looks) → WordHolds code on.path p.place
holds_on_path code p looks clean on = word_holds code on.path p.place clean on.is_path on.stands.follows

-- it is a word of the program
pub place_in : (code : List ℕ) (p : ProcessorState) (looks : LookupsState) → IsClean code → IsOnPath code p looks → p.place < length code
place_in code p looks clean on = (holds_on_path code p looks clean on).there

-- it is decoded as the word at its place
pub decoded_word : (code : List ℕ) (place at : ℕ) (d : Decoded) → at ≡ place → d ≡ decoded_of (slice_index code at) → d ≡ decoded_of (slice_index code place)
decoded_word code place at d same is = is ∙ ap (λ k. decoded_of (slice_index code k)) same

-- its decoded fields are the word's, and so is the test of it
pub decoded_fields : (code : List ℕ) (place at : ℕ) (d : Decoded) → at ≡ place → d ≡ decoded_of (slice_index code at) → d.fields ≡ fields_of (slice_index code place)
decoded_fields code place at d same is = ap (λ (x : Decoded). x.fields) is ∙ ap (λ k. fields_of (slice_index code k)) same

pub decoded_local : (code : List ℕ) (place at : ℕ) (d : Decoded) → at ≡ place → d ≡ decoded_of (slice_index code at) → d.local ≡ is_local (fields_of (slice_index code place))
decoded_local code place at d same is = ap (λ (x : Decoded). x.local) is ∙ ap (λ k. is_local (fields_of (slice_index code k))) same

-- and a look-up that it issues finds room
pub room_on_path : (code : List ℕ) (p : ProcessorState) (pending : Pending) → IsClean code → IsOnPath code p pending.looks
    → HasRoom (fields_of (slice_index code p.place)) pending
unfolding fields_at
room_on_path code p pending clean on =
    let holds = holds_on_path code p pending.looks clean on in
    room_holds (fields_of (slice_index code p.place)) pending
    (λ some. let room = holds.looks_0.room some in omega (arith, on.looks0, room))
    (λ some. let room = holds.looks_1.room some in omega (arith, on.looks1, room))

-- a branch links to an accumulator or a row, so it touches its processor alone

link_faults : (f : Fields) → has_fault f WriteAddress ≡ false → is_branch f ≡ true → (is_link_address f.waddr_add ≡ true) × (is_link_address f.waddr_mul ≡ true)
unfolding has_fault
link_faults f none branch =
    last ((add_active f || (is_load f && not (f.cond_add == 0))) && not (is_write_address f.waddr_add))
    ((mul_active f || (is_load f && not (f.cond_mul == 0))) && not (is_write_address f.waddr_mul))
    (is_branch f) (is_link_address f.waddr_add) (is_link_address f.waddr_mul) branch none
  where
    last : (a b branch x y : Bool) → branch ≡ true → (a || b || (branch && not (x && y))) ≡ false → (x ≡ true) × (y ≡ true)
    last a b branch x y is none = grind arith

not_address : (x address : ℕ) → is_link_address x ≡ true → 39 < address → (x == address) ≡ false
not_address x address link far = grind (arith, nat_tests)

neither_unit : (a b x y : Bool) → x ≡ false → y ≡ false → ((a && x) || (b && y)) ≡ false
neither_unit a b x y first second = grind arith

no_far_write : (f : Fields) (address : ℕ) → is_link_address f.waddr_add ≡ true → is_link_address f.waddr_mul ≡ true → 39 < address → writes f address ≡ false
no_far_write f address add mul far =
    neither_unit (add_writes f) (mul_writes f) (f.waddr_add == address) (f.waddr_mul == address) (not_address f.waddr_add address add far) (not_address f.waddr_mul address mul far)

no_units : (f : Fields) → is_branch f ≡ true → is_unit_word f ≡ false
no_units f branch = grind (arith, nat_tests)

no_alu : (f : Fields) → is_branch f ≡ true → is_alu f ≡ false
no_alu f branch = grind (arith, nat_tests)

no_semaphore : (f : Fields) → is_branch f ≡ true → is_semaphore f ≡ false
no_semaphore f branch = grind (arith, nat_tests)

no_load : (f : Fields) (unit : ℕ) → unit < 2 → is_branch f ≡ true → is_tmu_load f unit ≡ false
no_load f unit low branch = grind (arith, nat_tests)

branch_local : (f : Fields) → has_fault f WriteAddress ≡ false → is_branch f ≡ true → is_local f ≡ true
unfolding is_shared
branch_local f none branch =
    let links = link_faults f none branch in
    rw (
      no_far_write f WRITE_VPM links.0 links.1 (omega arith),
      no_far_write f WRITE_DMA_ADDRESS links.0 links.1 (omega arith),
      no_far_write f WRITE_MUTEX links.0 links.1 (omega arith),
      no_far_write f WRITE_TMU0_S links.0 links.1 (omega arith),
      no_far_write f WRITE_TMU1_S links.0 links.1 (omega arith),
      no_units f branch,
      no_alu f branch,
      no_load f 0 (omega arith) branch,
      no_load f 1 (omega arith) branch,
      no_semaphore f branch,
    )
    refl

no_bad_write : (w : ℕ) → IsInProfile w → has_fault (fields_of w) WriteAddress ≡ false
unfolding word_fault
no_bad_write w inside = every_row (has_fault (fields_of w)) all_faults inside 4 Signal (omega arith)

straight_by : (branch local : Bool) → (branch ≡ true → local ≡ true) → local ≡ false → branch ≡ false
straight_by true local is shared = let holds = is refl in absurd (cc)
straight_by false local is shared = refl

-- a shared word of the profile is no branch
pub shared_straight : (w : ℕ) → IsInProfile w → is_local (fields_of w) ≡ false → is_branch (fields_of w) ≡ false
shared_straight w inside shared = straight_by (is_branch (fields_of w)) (is_local (fields_of w)) (branch_local (fields_of w) (no_bad_write w inside)) shared
