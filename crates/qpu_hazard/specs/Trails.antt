-- What later words depend on: the trail that a path leaves. This project's own.
use Rattle.std.specs.Prelude.{ℕ, ◌||◌, Bool, List, Option, Some, None, if◌then◌else◌}
use Rattle.qpu_word.specs.declared.code.TheConstants.{WRITE_UNIFORMS_ADDRESS}
use Rattle.qpu_word.specs.Words.{writes}
use Rattle.qpu_flow.specs.Code.{fields_at}
use Rattle.qpu_flow.specs.Control.{slots_after, next_from, leads_to}
use Rattle.qpu_hazard.specs.declared.breaks.Break.{Break}
use Rattle.qpu_hazard.specs.declared.trail.Trail.{Trail}
use Rattle.qpu_hazard.specs.Demands.{loads_r4, sets_flags}
use Rattle.qpu_hazard.specs.Rules.{rules_broken}
use Rattle.qpu_hazard.specs.Paths.{last_of, earlier_of, slots_of, r4_defined, flags_defined, c_defined, carry_after, outstanding_looks, looks_after}

-- the trail of a path
unfoldable pub trail : List ℕ → List ℕ → Trail
trail code t = record {
  last = last_of t;
  earlier = earlier_of t;
  slots = slots_of code t;
  r4 = r4_defined code t;
  flags = flags_defined code t;
  carry = c_defined code t;
  looks_0 = outstanding_looks code 0 t;
  looks_1 = outstanding_looks code 1 t;
}

-- the trail one word further
unfoldable pub advance : List ℕ → Trail → ℕ → Trail
advance code r a = record {
  last = Some a;
  earlier = r.last;
  slots = slots_after code r.slots a;
  r4 = loads_r4 (fields_at code a) || r.r4;
  flags = sets_flags (fields_at code a) || r.flags;
  carry = carry_after (fields_at code a) r.carry;
  looks_0 = looks_after (fields_at code a) 0 r.looks_0;
  looks_1 = looks_after (fields_at code a) 1 r.looks_1;
}

-- a word may follow a trail
unfoldable pub follows_from : List ℕ → Trail → ℕ → Bool
follows_from code r a = leads_to code (next_from code r.slots r.last) a

-- the rules that a word breaks after a trail
unfoldable pub broken_from : List ℕ → Trail → ℕ → List Break
broken_from code r a = rules_broken code r.last r.earlier r.slots r.r4 r.flags r.carry r.looks_0 r.looks_1 a

-- the last word but one matters only where it wrote the uniforms address
abbrev pub remembered : List ℕ → Option ℕ → Option ℕ
remembered code None = None
remembered code (Some a) = if writes (fields_at code a) WRITE_UNIFORMS_ADDRESS then Some a else None

-- a trail without what no later word depends on
unfoldable pub forget : List ℕ → Trail → Trail
forget code r = record r { earlier = remembered code r.earlier }

-- a trail one word further, without what no later word depends on
unfoldable pub onward : List ℕ → Trail → ℕ → Trail
onward code r a = forget code (advance code r a)
