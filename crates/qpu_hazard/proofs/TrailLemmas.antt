-- The trail decides: what may follow a path, what the next word breaks, and the next trail; also
-- once what no later word depends on is forgotten.
use Rattle.std.proofs.Common.{◌≡◌, ℕ, Bool, true, false, List, ◌&&◌, Option, Some, None, refl, ap, sym}
use Rattle.std.specs.Prelude.{if◌then◌else◌}
use Rattle.qpu_word.specs.declared.word.Fields.{Fields}
use Rattle.qpu_word.specs.declared.code.TheConstants.{WRITE_UNIFORMS_ADDRESS, READ_UNIFORM}
use Rattle.qpu_word.specs.Words.{writes, reads}
use Rattle.qpu_flow.specs.Code.{fields_at}
use Rattle.qpu_hazard.specs.Demands.{uniform_conflict}
use Rattle.qpu_hazard.specs.Rules.{break_when, h4, rules_broken}
use Rattle.qpu_hazard.specs.declared.trail.Trail.{Trail}
use Rattle.qpu_hazard.specs.Trails.{advance, follows_from, broken_from, remembered, forget, onward}

no_conflict : (before f : Fields) → writes before WRITE_UNIFORMS_ADDRESS ≡ false → uniform_conflict before f ≡ false
unfolding uniform_conflict
no_conflict before f none = ap (λ (b : Bool). b && reads f READ_UNIFORM) none

remembered_word : (code : List ℕ) (a : ℕ) (f : Fields) (b : Bool) → writes (fields_at code a) WRITE_UNIFORMS_ADDRESS ≡ b
    → h4 code (if b then Some a else None) f ≡ h4 code (Some a) f
remembered_word code a f true is = refl
remembered_word code a f false is = ap (λ (b : Bool). break_when b 4 a) (sym (no_conflict (fields_at code a) f is))

-- H4 is the same after what is remembered
pub h4_remembered : (code : List ℕ) (earlier : Option ℕ) (f : Fields) → h4 code (remembered code earlier) f ≡ h4 code earlier f
h4_remembered code None f = refl
h4_remembered code (Some a) f = remembered_word code a f (writes (fields_at code a) WRITE_UNIFORMS_ADDRESS) refl

-- a trail that forgets

pub follows_forgotten : (code : List ℕ) (r : Trail) (a : ℕ) → follows_from code (forget code r) a ≡ follows_from code r a
unfolding follows_from forget
follows_forgotten code r a = refl

pub broken_forgotten : (code : List ℕ) (r : Trail) (a : ℕ) → broken_from code (forget code r) a ≡ broken_from code r a
unfolding broken_from rules_broken forget
broken_forgotten code r a = rw (h4_remembered code r.earlier (fields_at code a)) refl

pub next_forgotten : (code : List ℕ) (r : Trail) (a : ℕ) → onward code (forget code r) a ≡ onward code r a
unfolding onward forget advance
next_forgotten code r a = refl
