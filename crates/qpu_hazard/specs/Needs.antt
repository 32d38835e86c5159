-- Which parts of the rules the search over trails has to follow: those that some way breaks. What it
-- keeps of a path has neutral values for all others. This project's own.
use Rattle.std.specs.Prelude.{◌≡◌, ℕ, true, false, List, None, if◌then◌else◌}
use Rattle.qpu_hazard.specs.declared.trail.Trail.{Trail}
use Rattle.qpu_hazard.specs.declared.needs.Needs.{Needs}
use Rattle.qpu_hazard.specs.declared.part.Part.TheVariants.{Near, Uniforms, R4, Flags, Carry, Looks0, Looks1}
use Rattle.qpu_hazard.specs.Trails.{trail, forget, onward}
use Rattle.qpu_hazard.specs.Parts.{IsPartClean}

-- each part that isn't followed is clean on all ways
pub record IsSparing (code : List ℕ) (needs : Needs) : Type 0 where
  pub near : needs.near ≡ false → IsPartClean Near code
  pub uniforms : needs.uniforms ≡ false → IsPartClean Uniforms code
  pub r4 : needs.r4 ≡ false → IsPartClean R4 code
  pub flags : needs.flags ≡ false → IsPartClean Flags code
  pub carry : needs.carry ≡ false → IsPartClean Carry code
  pub looks_0 : needs.looks_0 ≡ false → IsPartClean Looks0 code
  pub looks_1 : needs.looks_1 ≡ false → IsPartClean Looks1 code

-- no part is followed
pub record IsNoNeed (needs : Needs) : Type 0 where
  pub near : needs.near ≡ false
  pub uniforms : needs.uniforms ≡ false
  pub r4 : needs.r4 ≡ false
  pub flags : needs.flags ≡ false
  pub carry : needs.carry ≡ false
  pub looks_0 : needs.looks_0 ≡ false
  pub looks_1 : needs.looks_1 ≡ false

-- a trail with neutral values for what isn't followed; the last word and the slots always are
abbrev pub followed : Needs → Trail → Trail
followed needs r = record {
  last = r.last;
  earlier = (if needs.uniforms then r.earlier else None);
  slots = r.slots;
  r4 = (if needs.r4 then r.r4 else true);
  flags = (if needs.flags then r.flags else true);
  carry = (if needs.carry then r.carry else true);
  looks_0 = (if needs.looks_0 then r.looks_0 else 2);
  looks_1 = (if needs.looks_1 then r.looks_1 else 2);
}

-- what is kept of a path, and of a trail one word further
unfoldable pub kept_trail : Needs → List ℕ → List ℕ → Trail
kept_trail needs code t = followed needs (forget code (trail code t))

unfoldable pub further : Needs → List ℕ → Trail → ℕ → Trail
further needs code r a = followed needs (onward code r a)
