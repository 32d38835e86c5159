-- A load, a semaphore word or a branch and its canonical word are alike.
use Rattle.std.proofs.Common.{◌≡◌, ℕ, Bool, true, false, refl, sym, ◌∙◌}
use Rattle.std.specs.Prelude.{◌==◌, ◌||◌, ◌&&◌}
use Rattle.qpu_word.specs.declared.word.Fields.{Fields}
use Rattle.qpu_word.specs.Lanes.{lanes}
use Rattle.qpu_word.specs.Words.{is_unit_word, is_load, is_semaphore, is_branch, add_active, mul_active, add_writes, mul_writes, swaps_writes}
use Rattle.qpu_word.specs.Writing.{pack_mode}
use Rattle.qpu_word.specs.Instruction.{loaded, plain_values}
use Rattle.qpu_word.specs.Canonical.{file_matters}
use Rattle.qpu_word.specs.CanonicalWord.{exchange_matters, canonical_exchange, canonical_load, canonical_branch}
use Rattle.qpu_word.proofs.PackedLemmas.{HoldsImmediate, HoldsBranch}
use Rattle.qpu_word.proofs.FaultLemmas.{IsFaultless}
use Rattle.qpu_word.proofs.PlainForms.{LoadActs, SemaphoreActs, no_pack}
use Rattle.qpu_word.proofs.AlikeUnits.{address_of, said_of, far_left, far_right, pack_zero, both_false}
use Rattle.qpu_word.proofs.Alike.{SameFiles, same, apart, Alike}

-- words of other forms have no active unit
idle_add : (f : Fields) → is_unit_word f ≡ false → add_active f ≡ false
idle_add f none = rw none refl

idle_mul : (f : Fields) → is_unit_word f ≡ false → mul_active f ≡ false
idle_mul f none = rw none refl

neither : (a b : Bool) → a ≡ false → b ≡ false → (a || b) ≡ false
neither a b left right = rw (left, right) refl

-- load immediates

loaded_same : (f g : Fields) → g.kind ≡ f.kind → g.immediate ≡ f.immediate → (i : ℕ) → loaded g i ≡ loaded f i
unfolding loaded
loaded_same f g kind immediate i = rw (kind, immediate) refl

plain_same : (f g : Fields) → is_branch g ≡ false → is_branch f ≡ false → g.kind ≡ f.kind → g.immediate ≡ f.immediate → (place : ℕ) → plain_values g place ≡ plain_values f place
unfolding plain_values
plain_same f g none own kind immediate place = rw (none, own) (λ t. lanes (λ i. loaded_same f g kind immediate i t))

load_ws : (f g : Fields) → HoldsImmediate g (canonical_load f) → exchange_matters f ≡ true → swaps_writes g ≡ swaps_writes f
unfolding canonical_load canonical_exchange
load_ws f g h is = rw (h.ws, said_of (exchange_matters f) f.ws is) refl

load_files : (f g : Fields) (matters : Bool) → exchange_matters f ≡ matters → HoldsImmediate g (canonical_load f) → g.pack ≡ 0 → f.pack ≡ 0 → SameFiles f g
load_files f g true is h pack own = same (load_ws f g h is)
load_files f g false is h pack own =
    apart (record {
      add = far_left (add_active f) (add_writes f) (file_matters f.waddr_add) ((mul_active f || mul_writes f) && file_matters f.waddr_mul) is;
      mul = far_right ((add_active f || add_writes f) && file_matters f.waddr_add) (mul_active f) (mul_writes f) (file_matters f.waddr_mul) is;
      pack = λ in_b. pack_zero (is_branch g) in_b g.pack pack;
      own_pack = λ in_b. pack_zero (is_branch f) in_b f.pack own;
    })

pub load_alike : (f g : Fields) → HoldsImmediate g (canonical_load f) → LoadActs f g → is_load f ≡ true → IsFaultless f → Alike f g
unfolding canonical_load
load_alike f g h a is n =
    let unit : is_unit_word f ≡ false = rw a.own_sig refl in
    let branch : is_branch f ≡ false = rw a.own_sig refl in
    let branch' : is_branch g ≡ false = rw a.sig refl in
    let own : f.pack ≡ 0 = no_pack f a.own_sig n.packing in
    record {
      unit = rw (a.sig, a.own_sig) refl;
      load = a.load ∙ sym is;
      semaphore = both_false (is_semaphore g) (is_semaphore f) a.semaphore a.own_semaphore;
      branch = rw (a.sig, a.own_sig) refl;
      ends = rw (a.sig, a.own_sig) refl;
      take0 = rw (a.sig, a.own_sig) refl;
      take1 = rw (a.sig, a.own_sig) refl;
      stands_a = λ m quiet. rw (a.sig, a.own_sig) refl;
      stands_b = λ m quiet. rw (a.sig, a.own_sig) refl;
      acts_add = rw (a.sig, a.own_sig) refl;
      acts_mul = rw (a.sig, a.own_sig) refl;
      add = a.add;
      mul = a.mul;
      add_to = λ writes. h.waddr_add ∙ address_of (add_writes f) f.waddr_add writes;
      mul_to = λ writes. h.waddr_mul ∙ address_of (mul_writes f) f.waddr_mul writes;
      files = load_files f g (exchange_matters f) refl h (h.pack ∙ own) own;
      pack = λ in_b. rw (a.sig, a.own_sig, h.pack) refl;
      add_cond = λ writes. rw (a.sig, a.own_sig) (h.cond_add ∙ said_of (add_writes f) f.cond_add writes);
      mul_cond = λ writes. rw (a.sig, a.own_sig) (h.cond_mul ∙ said_of (mul_writes f) f.cond_mul writes);
      adds = λ acts. absurd (let none : add_active f ≡ false = idle_add f unit in cc);
      carries = λ acts. absurd (let none : add_active f ≡ false = idle_add f unit in cc);
      muls = λ acts. absurd (let none : mul_active f ≡ false = idle_mul f unit in cc);
      turns = λ acts. absurd (let none : mul_active f ≡ false = idle_mul f unit in cc);
      plain = λ some place. plain_same f g branch' branch h.kind h.immediate place;
      unit_sets = λ some. absurd (let none : (add_active f || mul_active f) ≡ false = neither (add_active f) (mul_active f) (idle_add f unit) (idle_mul f unit) in cc);
      load_sets = λ there. h.sf;
      branches = λ there. absurd (cc);
      down = λ there. absurd (let none : is_semaphore f ≡ false = a.own_semaphore in cc);
      number = λ there. absurd (let none : is_semaphore f ≡ false = a.own_semaphore in cc);
    }

-- semaphore words

-- what the fields of a semaphore word of the profile are
pub record IsStep (f : Fields) : Type 0 where
  pub sig : f.sig ≡ 14
  pub kind : f.kind ≡ 4
  pub pack : f.pack ≡ 0
  pub waddr_add : f.waddr_add ≡ 39
  pub waddr_mul : f.waddr_mul ≡ 39

no_add : (f : Fields) → f.waddr_add ≡ 39 → add_writes f ≡ false
no_add f to = rw to refl

no_mul : (f : Fields) → f.waddr_mul ≡ 39 → mul_writes f ≡ false
no_mul f to = rw to refl

pub semaphore_alike : (f g : Fields) (m : ℕ) → SemaphoreActs g m → IsStep f → g.down ≡ f.down → g.number ≡ f.number → Alike f g
semaphore_alike f g m a s down number =
    let unit : is_unit_word f ≡ false = rw s.sig refl in
    let load : is_load f ≡ false = rw (s.sig, s.kind) refl in
    let branch : is_branch f ≡ false = rw s.sig refl in
    let add : add_writes f ≡ false = no_add f s.waddr_add in
    let mul : mul_writes f ≡ false = no_mul f s.waddr_mul in
    record {
      unit = rw (a.sig, s.sig) refl;
      load = rw (a.sig, a.kind, s.sig, s.kind) refl;
      semaphore = rw (a.sig, a.kind, s.sig, s.kind) refl;
      branch = rw (a.sig, s.sig) refl;
      ends = rw (a.sig, s.sig) refl;
      take0 = rw (a.sig, s.sig) refl;
      take1 = rw (a.sig, s.sig) refl;
      stands_a = λ n quiet. rw (a.sig, s.sig) refl;
      stands_b = λ n quiet. rw (a.sig, s.sig) refl;
      acts_add = rw (a.sig, s.sig) refl;
      acts_mul = rw (a.sig, s.sig) refl;
      add = both_false (add_writes g) (add_writes f) (no_add g a.waddr_add) add;
      mul = both_false (mul_writes g) (mul_writes f) (no_mul g a.waddr_mul) mul;
      add_to = λ writes. absurd (cc);
      mul_to = λ writes. absurd (cc);
      files = apart (record {
        add = λ writes. absurd (cc);
        mul = λ writes. absurd (cc);
        pack = λ in_b. pack_zero (is_branch g) in_b g.pack a.pack;
        own_pack = λ in_b. pack_zero (is_branch f) in_b f.pack s.pack;
      });
      pack = λ in_b. rw (a.sig, s.sig, a.pack, s.pack) refl;
      add_cond = λ writes. absurd (cc);
      mul_cond = λ writes. absurd (cc);
      adds = λ acts. absurd (let none : add_active f ≡ false = idle_add f unit in cc);
      carries = λ acts. absurd (let none : add_active f ≡ false = idle_add f unit in cc);
      muls = λ acts. absurd (let none : mul_active f ≡ false = idle_mul f unit in cc);
      turns = λ acts. absurd (let none : mul_active f ≡ false = idle_mul f unit in cc);
      plain = λ some. absurd (let none : (is_load f || is_branch f) ≡ false = neither (is_load f) (is_branch f) load branch in cc);
      unit_sets = λ some. absurd (let none : (add_active f || mul_active f) ≡ false = neither (add_active f) (mul_active f) (idle_add f unit) (idle_mul f unit) in cc);
      load_sets = λ there. absurd (cc);
      branches = λ there. absurd (cc);
      down = λ there. down;
      number = λ there. number;
    }

-- branches

branch_ws : (f g : Fields) → HoldsBranch g (canonical_branch f) → exchange_matters f ≡ true → swaps_writes g ≡ swaps_writes f
unfolding canonical_branch canonical_exchange
branch_ws f g h is = rw (h.ws, said_of (exchange_matters f) f.ws is) refl

unpacked_branch : (f : Fields) → f.sig ≡ 15 → (in_b : Bool) → pack_mode f in_b ≡ 0
unpacked_branch f sig in_b = rw sig refl

branch_files : (f g : Fields) (matters : Bool) → exchange_matters f ≡ matters → HoldsBranch g (canonical_branch f) → g.sig ≡ 15 → f.sig ≡ 15 → SameFiles f g
branch_files f g true is h sig own = same (branch_ws f g h is)
branch_files f g false is h sig own =
    apart (record {
      add = far_left (add_active f) (add_writes f) (file_matters f.waddr_add) ((mul_active f || mul_writes f) && file_matters f.waddr_mul) is;
      mul = far_right ((add_active f || add_writes f) && file_matters f.waddr_add) (mul_active f) (mul_writes f) (file_matters f.waddr_mul) is;
      pack = unpacked_branch g sig;
      own_pack = unpacked_branch f own;
    })

linked : (f g : Fields) → g.sig ≡ 15 → f.sig ≡ 15 → (place : ℕ) → plain_values g place ≡ plain_values f place
unfolding plain_values
linked f g sig own place = rw (sig, own) refl

pub branch_alike : (f g : Fields) → HoldsBranch g (canonical_branch f) → g.sig ≡ 15 → f.sig ≡ 15 → Alike f g
unfolding canonical_branch
branch_alike f g h sig own =
    let unit : is_unit_word f ≡ false = rw own refl in
    let load : is_load f ≡ false = rw own refl in
    let semaphore : is_semaphore f ≡ false = rw own refl in
    record {
      unit = rw (sig, own) refl;
      load = rw (sig, own) refl;
      semaphore = rw (sig, own) refl;
      branch = rw (sig, own) refl;
      ends = rw (sig, own) refl;
      take0 = rw (sig, own) refl;
      take1 = rw (sig, own) refl;
      stands_a = λ m quiet. rw (sig, own) refl;
      stands_b = λ m quiet. rw (sig, own) refl;
      acts_add = rw (sig, own) refl;
      acts_mul = rw (sig, own) refl;
      add = rw (sig, own, h.waddr_add) refl;
      mul = rw (sig, own, h.waddr_mul) refl;
      add_to = λ writes. h.waddr_add;
      mul_to = λ writes. h.waddr_mul;
      files = branch_files f g (exchange_matters f) refl h sig own;
      pack = λ in_b. unpacked_branch g sig in_b ∙ sym (unpacked_branch f own in_b);
      add_cond = λ writes. rw (sig, own) refl;
      mul_cond = λ writes. rw (sig, own) refl;
      adds = λ acts. absurd (let none : add_active f ≡ false = idle_add f unit in cc);
      carries = λ acts. absurd (let none : add_active f ≡ false = idle_add f unit in cc);
      muls = λ acts. absurd (let none : mul_active f ≡ false = idle_mul f unit in cc);
      turns = λ acts. absurd (let none : mul_active f ≡ false = idle_mul f unit in cc);
      plain = λ some place. linked f g sig own place;
      unit_sets = λ some. absurd (let none : (add_active f || mul_active f) ≡ false = neither (add_active f) (mul_active f) (idle_add f unit) (idle_mul f unit) in cc);
      load_sets = λ there. absurd (cc);
      branches = λ there. record { cond = h.cond_br; rel = h.rel; reg = h.reg; row = λ on. h.raddr_br ∙ said_of (f.reg == 1) f.raddr_br on; immediate = h.immediate };
      down = λ there. absurd (cc);
      number = λ there. absurd (cc);
    }
