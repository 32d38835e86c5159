-- How many look-ups are outstanding after an instruction.
use Rattle.std.proofs.Common.{◌≡◌, ◌<◌, ◌≤◌, ℕ, zero, suc, ◌+◌, ◌-◌, Bool, true, false, ◌&&◌, ◌||◌, List, [], ◌∷◌, length, drop, Option, Some, None, Result, Ok, Err, refl, ap, sym, ◌∙◌, arith, if◌then◌else◌}
use Rattle.std.proofs.lemmas.Bool.Decides.{nat_tests}
use Rattle.std.proofs.lemmas.List.{length_push}
use Rattle.std.specs.Prelude.{◌==◌, ◌/◌, is_some, is_none, nat_lt}
use Rattle.std.specs.List.{list_all}
use Rattle.qpu_word.specs.declared.word.Fields.{Fields}
use Rattle.qpu_word.specs.declared.lanes.Lanes.{Lanes}
use Rattle.qpu_word.specs.declared.traffic.Outs.{Outs}
use Rattle.qpu_word.specs.declared.setup.Book.{Book}
use Rattle.qpu_word.specs.declared.fault.FaultKind.{FaultKind}
use Rattle.qpu_word.specs.declared.fault.FaultKind.TheVariants.{LookUp as LookUpFault}
use Rattle.qpu_word.specs.declared.code.TheConstants.{NOWHERE, READ_MUTEX, WRITE_TMU1_S}
use Rattle.qpu_word.specs.Words.{is_semaphore, is_tmu_load, add_writes, mul_writes, reads_a, reads_b, one_if}
use Rattle.qpu_word.specs.Instruction.{after_setups, as_lanes, is_look_address, look_address, outs_from, sent_to, then_after}
use Rattle.qpu_tmu.specs.declared.look_up.LookUp.{LookUp}
use Rattle.qpu_tmu.specs.Looks.{LookupsState, queue_of, oldest_words, is_waiting, with_look, with_words}
use Rattle.qpu_hazard.specs.Demands.{actions, look_place, looks_made, looks_taken}
use Rattle.qpu_hazard.specs.Paths.{looks_after}
use Rattle.qpu_shared.specs.declared.pending.Pending.{Pending}
use Rattle.qpu_shared.specs.declared.starts.Begun.{Begun}
use Rattle.qpu_dma.specs.declared.direction.Direction.TheVariants.{Load as LoadOf, Store as StoreOf}
use Rattle.qpu_shared.specs.Instruction.{looks_of, after_vpm_write, transfer_started, word_indexes, look_issued, after_writes, after_take, after_issue, lookups_after}
use Rattle.qpu_shared.specs.Exec.{HasRoom}
use Rattle.qpu_shared.proofs.LocalLemmas.{nothing_nowhere}

-- words are put into one look-up
one_fetched : (waits : Bool) (words : List ℕ) (look : LookUp) (more : List LookUp) → length (with_words words more) ≡ length more
    → length (if waits then record look { words = Some words } ∷ more else look ∷ with_words words more) ≡ length (look ∷ more)
one_fetched true words look more same = refl
one_fetched false words look more same = rw same refl

pub fetched_length : (words : List ℕ) (looks : List LookUp) → length (with_words words looks) ≡ length looks
fetched_length words [] = refl
fetched_length words (look ∷ more) = one_fetched (is_waiting look) words look more (fetched_length words more)

-- which unit a write of a look-up's address is for

-- the unit of an address
abbrev unit_at : ℕ → ℕ
unit_at address = if address == WRITE_TMU1_S then 1 else 0

-- a write of such an address is a look-up of its unit
unit_is : (address unit : ℕ) → unit < 2 → is_look_address address ≡ true → (address == look_place unit) ≡ (unit_at address == unit)
unit_is address unit low is = grind (arith, nat_tests)

place_is_address : (address unit : ℕ) → unit < 2 → (address == look_place unit) ≡ true → is_look_address address ≡ true
place_is_address address unit low is = grind (arith, nat_tests)

-- the look-ups that one write makes
made_here : (writes_it : Bool) (address unit : ℕ) → unit < 2 → (writes_it && is_look_address address) ≡ true → one_if (writes_it && (address == look_place unit)) ≡ one_if (unit_at address == unit)
made_here false address unit low is = absurd (cc)
made_here true address unit low is = ap one_if (unit_is address unit low is)

made_none : (writes_it : Bool) (address unit : ℕ) → unit < 2 → (writes_it && is_look_address address) ≡ false → one_if (writes_it && (address == look_place unit)) ≡ 0
made_none false address unit low none = refl
made_none true address unit low none = by_test (address == look_place unit) refl
  where
    by_test : (b : Bool) → (address == look_place unit) ≡ b → one_if b ≡ 0
    by_test false is = refl
    by_test true is = let there : is_look_address address ≡ true = place_is_address address unit low is in absurd (cc)

-- the look-up that is issued

writes_itself : (writes_it : Bool) (address : ℕ) → (writes_it && is_look_address address) ≡ true → (writes_it && (address == address)) ≡ true
writes_itself false address is = absurd (cc)
writes_itself true address is = grind (arith, nat_tests)

some_lanes : (first second : Bool) (add mul : List ℕ) → second ≡ true → is_some (as_lanes (if first then Some mul else if second then Some add else None)) ≡ true
some_lanes true second add mul is = refl
some_lanes false second add mul is = rw is refl

some_lanes_first : (first : Bool) (mul : List ℕ) (rest : Option (List ℕ)) → first ≡ true → is_some (as_lanes (if first then Some mul else rest)) ≡ true
some_lanes_first first mul rest is = rw is refl

-- of the mul unit
pub record IssuesMul (f : Fields) : Type 0 where
  pub mul : (mul_writes f && is_look_address f.waddr_mul) ≡ true

-- of the add unit, where the mul unit issues none
pub record IssuesAdd (f : Fields) : Type 0 where
  pub mul : (mul_writes f && is_look_address f.waddr_mul) ≡ false
  pub add : (add_writes f && is_look_address f.waddr_add) ≡ true

-- of neither
pub record IssuesNone (f : Fields) : Type 0 where
  pub mul : (mul_writes f && is_look_address f.waddr_mul) ≡ false
  pub add : (add_writes f && is_look_address f.waddr_add) ≡ false

-- a word is one of the three
pub by_issue : (f : Fields) (P : Type 0) → (IssuesMul f → P) → (IssuesAdd f → P) → (IssuesNone f → P) → P
by_issue f P mul add none = by_tests (mul_writes f && is_look_address f.waddr_mul) (add_writes f && is_look_address f.waddr_add) refl refl
  where
    by_tests : (m a : Bool) → (mul_writes f && is_look_address f.waddr_mul) ≡ m → (add_writes f && is_look_address f.waddr_add) ≡ a → P
    by_tests true a m_is a_is = mul (record { mul = m_is })
    by_tests false true m_is a_is = add (record { mul = m_is; add = a_is })
    by_tests false false m_is a_is = none (record { mul = m_is; add = a_is })

-- its address
mul_address : (f : Fields) → IssuesMul f → look_address f ≡ f.waddr_mul
unfolding look_address
mul_address f is = rw is.mul refl

add_address : (f : Fields) → IssuesAdd f → look_address f ≡ f.waddr_add
unfolding look_address
add_address f is = rw (is.mul, is.add) refl

no_address : (f : Fields) → IssuesNone f → look_address f ≡ NOWHERE
unfolding look_address
no_address f is = rw (is.mul, is.add) refl

-- and whether it is there
mul_there : (f : Fields) (add mul : List ℕ) → IssuesMul f → is_some (as_lanes (sent_to f add mul (look_address f))) ≡ true
unfolding sent_to
mul_there f add mul is = rw (mul_address f is) (some_lanes_first _ mul _ (writes_itself (mul_writes f) f.waddr_mul is.mul))

add_there : (f : Fields) (add mul : List ℕ) → IssuesAdd f → is_some (as_lanes (sent_to f add mul (look_address f))) ≡ true
unfolding sent_to
add_there f add mul is = rw (add_address f is) (some_lanes _ _ add mul (writes_itself (add_writes f) f.waddr_add is.add))

pub none_there : (f : Fields) (add mul : List ℕ) → IssuesNone f → is_some (as_lanes (sent_to f add mul (look_address f))) ≡ false
none_there f add mul is = rw (no_address f is, nothing_nowhere f add mul) refl

-- where the mul unit issues one, the add unit issues none
alone : (a b c d e g : ℕ) → b ≡ 1 → a + b + c + d + e + g ≤ 1 → a ≡ 0
alone a b c d e g is few = omega (arith, is, few)

not_one : (b : Bool) → one_if b ≡ 0 → b ≡ false
not_one false is = refl
not_one true is = absurd (omega (arith, is))

mul_alone : (f : Fields) → actions f ≤ 1 → IssuesMul f → (add_writes f && is_look_address f.waddr_add) ≡ false
unfolding actions
mul_alone f few is =
    not_one _ (alone (one_if (add_writes f && is_look_address f.waddr_add)) (one_if (mul_writes f && is_look_address f.waddr_mul)) (one_if (is_tmu_load f 0 || is_tmu_load f 1))
    (one_if (reads_a f READ_MUTEX)) (one_if (reads_b f READ_MUTEX)) (one_if (is_semaphore f)) (ap one_if is.mul) few)

-- the look-ups of a unit that a word makes are those that it issues to the unit
sum_of : (a b c d : ℕ) → a ≡ c → b ≡ d → a + b ≡ c + d
sum_of a b c d x y = omega (arith, x, y)

right_only : (n : ℕ) → 0 + n ≡ n
right_only n = omega arith

left_only : (n : ℕ) → n + 0 ≡ n
left_only n = omega arith

made_is : (f : Fields) (add mul : List ℕ) (unit : ℕ) → unit < 2 → actions f ≤ 1
    → looks_made f unit ≡ one_if (is_some (outs_from f add mul).look && ((outs_from f add mul).look_unit == unit))
unfolding looks_made outs_from
made_is f add mul unit low few =
    by_issue f _
    (λ is.
    rw (mul_there f add mul is, mul_address f is)
    (sum_of _ _ 0 (one_if (unit_at f.waddr_mul == unit)) (made_none (add_writes f) f.waddr_add unit low (mul_alone f few is)) (made_here (mul_writes f) f.waddr_mul unit low is.mul)
    ∙ right_only (one_if (unit_at f.waddr_mul == unit))))
    (λ is.
    rw (add_there f add mul is, add_address f is)
    (sum_of _ _ (one_if (unit_at f.waddr_add == unit)) 0 (made_here (add_writes f) f.waddr_add unit low is.add) (made_none (mul_writes f) f.waddr_mul unit low is.mul)
    ∙ left_only (one_if (unit_at f.waddr_add == unit))))
    (λ is.
    rw (none_there f add mul is)
    (sum_of _ _ 0 0 (made_none (add_writes f) f.waddr_add unit low is.add) (made_none (mul_writes f) f.waddr_mul unit low is.mul)))

-- what an instruction sends is what starts

pub ok_same : (a b : Begun) → ◌≡◌ {A = Result Begun FaultKind} (Ok a) (Ok b) → a ≡ b
ok_same a b e = cc

-- one step after another came to its end, so both did
pub through : {A B P : Type 0} (r : Result A FaultKind) (next : A → Result B FaultKind) (b : B) → ((a : A) → r ≡ Ok a → next a ≡ Ok b → P) → then_after r next ≡ Ok b → P
through (Ok a) next b k e = k a refl e
through (Err kind) next b k e = absurd (cc)

pub ok_look : (a b : Option Lanes) → ◌≡◌ {A = Result (Option Lanes) FaultKind} (Ok a) (Ok b) → is_some b ≡ is_some a
ok_look a b e = let same : a ≡ b = cc in ap (λ (o : Option Lanes). is_some o) (sym same)

issued_by : (inside : Bool) (words issued : Option Lanes) → (if inside then Ok words else Err LookUpFault) ≡ Ok issued → is_some issued ≡ is_some words
issued_by true words issued e = ok_look words issued e
issued_by false words issued e = absurd (cc)

issued_same : (look : Option Lanes) (memory : List ℕ) (issued : Option Lanes) → look_issued look memory ≡ Ok issued → is_some issued ≡ is_some look
issued_same None memory issued e = ok_look None issued e
issued_same (Some addresses) memory issued e = issued_by (list_all (λ a. nat_lt (a / 4) (length memory)) addresses.v) (Some (word_indexes addresses)) issued e

pub look_starts : (outs : Outs) (memory : List ℕ) (book : Book) (starts : Begun) → after_writes outs memory book ≡ Ok starts → is_some starts.look ≡ is_some outs.look
unfolding after_writes
look_starts outs memory book starts e =
    through (after_vpm_write outs.vpm book) _ starts (λ b _.
    through (after_setups outs b) _ starts (λ c _.
    through (transfer_started LoadOf outs.load_at c memory) _ starts (λ load _.
    through (transfer_started StoreOf outs.store_at c memory) _ starts (λ store _.
    through (look_issued outs.look memory) _ starts (λ look is last.
    ap (λ (s : Begun). is_some s.look) (sym (ok_same _ _ last)) ∙ issued_same outs.look memory look is))))) e

-- the queue of a unit

issue_length : (look : Option Lanes) (look_unit unit : ℕ) (looks : List LookUp) → length (after_issue look look_unit unit looks) ≡ length looks + one_if (is_some look && (look_unit == unit))
issue_length None look_unit unit looks = sym (left_only (length looks))
issue_length (Some at) look_unit unit looks = by_test (look_unit == unit)
  where
    by_test : (b : Bool) → length (if b then with_look at.v looks else looks) ≡ length looks + one_if b
    by_test true = length_push looks _
    by_test false = sym (left_only (length looks))

take_by : (takes : Bool) (looks : List LookUp) → (takes && is_none (oldest_words looks)) ≡ false → length (if takes then drop 1 looks else looks) + one_if takes ≡ length looks
take_by false looks free = left_only (length looks)
take_by true [] free = absurd (cc)
take_by true (look ∷ more) free = omega arith

take_length : (f : Fields) (unit : ℕ) (looks : List LookUp) → (is_tmu_load f unit && is_none (oldest_words looks)) ≡ false
    → length (after_take f unit looks) + looks_taken f unit ≡ length looks
unfolding looks_taken
take_length f unit looks free = take_by (is_tmu_load f unit) looks free

count : (left taken before made after : ℕ) → left + taken ≡ before → after ≡ left + made → after ≡ before + made - taken
count left taken before made after took came = omega (arith, took, came)

unit_step : (f : Fields) (add mul : List ℕ) (look : Option Lanes) (unit : ℕ) (looks : List LookUp) → unit < 2 → actions f ≤ 1
    → is_some look ≡ is_some (outs_from f add mul).look → (is_tmu_load f unit && is_none (oldest_words looks)) ≡ false
    → length (after_issue look (outs_from f add mul).look_unit unit (after_take f unit looks)) ≡ looks_after f unit (length looks)
unit_step f add mul look unit looks low few same free =
    count (length (after_take f unit looks)) (looks_taken f unit) (length looks) (looks_made f unit) _ (take_length f unit looks free)
    (issue_length look (outs_from f add mul).look_unit unit (after_take f unit looks)
    ∙ ap (λ (n : ℕ). length (after_take f unit looks) + n)
    (ap (λ (b : Bool). one_if (b && ((outs_from f add mul).look_unit == unit))) same ∙ sym (made_is f add mul unit low few)))

-- the outstanding look-ups of a unit after an instruction are those that paths count
pub looks_step : (f : Fields) (add mul memory : List ℕ) (book : Book) (starts : Begun) (lookups : LookupsState) (unit : ℕ) → unit < 2 → actions f ≤ 1
    → after_writes (outs_from f add mul) memory book ≡ Ok starts → (is_tmu_load f unit && is_none (oldest_words (queue_of lookups unit))) ≡ false
    → length (queue_of (lookups_after f (outs_from f add mul) starts.look lookups) unit) ≡ looks_after f unit (length (queue_of lookups unit))
looks_step f add mul memory book starts lookups zero low few done free =
    unit_step f add mul starts.look 0 lookups.looks0 low few (look_starts (outs_from f add mul) memory book starts done) free
looks_step f add mul memory book starts lookups (suc zero) low few done free =
    unit_step f add mul starts.look 1 lookups.looks1 low few (look_starts (outs_from f add mul) memory book starts done) free
looks_step f add mul memory book starts lookups (suc (suc unit)) low few done free = absurd (omega arith)

-- a word that issues a look-up finds room

unit_below : (address : ℕ) → unit_at address < 2
unit_below address = by_test (address == WRITE_TMU1_S)
  where
    by_test : (b : Bool) → (if b then 1 else 0) < 2
    by_test true = omega arith
    by_test false = omega arith

itself : (unit : ℕ) → one_if (unit == unit) ≡ 1
itself unit = let same : (unit == unit) ≡ true = grind (arith, nat_tests) in ap one_if same

first_some : (a b : ℕ) → a ≡ 1 → 0 < a + b
first_some a b is = omega (arith, is)

second_some : (a b : ℕ) → b ≡ 1 → 0 < a + b
second_some a b is = omega (arith, is)

mul_makes : (f : Fields) → IssuesMul f → 0 < looks_made f (unit_at f.waddr_mul)
unfolding looks_made
mul_makes f is =
    second_some _ _ (made_here (mul_writes f) f.waddr_mul (unit_at f.waddr_mul) (unit_below f.waddr_mul) is.mul ∙ itself (unit_at f.waddr_mul))

add_makes : (f : Fields) → IssuesAdd f → 0 < looks_made f (unit_at f.waddr_add)
unfolding looks_made
add_makes f is =
    first_some _ _ (made_here (add_writes f) f.waddr_add (unit_at f.waddr_add) (unit_below f.waddr_add) is.add ∙ itself (unit_at f.waddr_add))

room_of : (f : Fields) (pending : Pending) → (0 < looks_made f 0 → length (looks_of pending 0) < 4) → (0 < looks_made f 1 → length (looks_of pending 1) < 4)
    → (unit : ℕ) → unit < 2 → 0 < looks_made f unit → length (looks_of pending unit) < 4
room_of f pending room0 room1 zero low makes = room0 makes
room_of f pending room0 room1 (suc zero) low makes = room1 makes
room_of f pending room0 room1 (suc (suc unit)) low makes = absurd (omega arith)

pub room_holds : (f : Fields) (pending : Pending) → (0 < looks_made f 0 → length (looks_of pending 0) < 4) → (0 < looks_made f 1 → length (looks_of pending 1) < 4)
    → HasRoom f pending
room_holds f pending room0 room1 somewhere =
    by_issue f _
    (λ is. rw (mul_address f is) (room_of f pending room0 room1 (unit_at f.waddr_mul) (unit_below f.waddr_mul) (mul_makes f is)))
    (λ is. rw (add_address f is) (room_of f pending room0 room1 (unit_at f.waddr_add) (unit_below f.waddr_add) (add_makes f is)))
    (λ is. absurd (somewhere (no_address f is)))
