-- One more program is checked and clean, or refused.
use Rattle.std.proofs.Common.{◌≡◌, [], ◌∷◌, ◌++◌, All, List, ℕ, ap, sym, subst, append_assoc, ◌∙◌, length, rules, arith}
use Rattle.std.specs.Vec.Iter.{into_iter_items}
use Rattle.std.proofs.lemmas.List.Elements.{All-push, All-same}
use Rattle.qpu_hazard.specs.Faults.{IsHazardFault}
use Rattle.qpu_hazard.specs.Refusal.{NoneRefusable}
use Rattle.qpu_job.proofs.CheckLemmas.{first_hazard, none_left}
use Rattle.qpu_job.proofs.checking.judge_all.Goals as goal

pub returns-in-Err-Hazard-clause-err : goal.returns-in-Err-Hazard-clause-err
returns-in-Err-Hazard-clause-err c =
    let before = c.loop-flow in
    let index : length before.list.items ≡ c.len-program.result = search rules in
    let hazard = subst (IsHazardFault c.in-Some.flow) c.in-Err-Hazard.field-0-is c.in-Err-Hazard.ensures.first in
    rw (← index, c.in-Err-Hazard.rule-is, c.in-Err-Hazard.at-is, c.in-Err-Hazard.before-is)
    (first_hazard _ _ _ _ _ _ _ (rw c.in-Some.ensures.steps.0 at before.invariant.taken) c.requires.inside before.invariant.clean hazard)

pub loop-flow-preserved : goal.loop-flow-preserved
loop-flow-preserved c =
    let before = c.loop-flow in
    let steps = c.in-Some.ensures.steps in
    let pushed : c.push.new.self.items ≡ before.list.items ++ c.in-Some.flow ∷ [] = rw (← c.in-Ok.ensures.words) c.in-Ok-push.ensures.items in
    record {
      taken = ap (λ (l : List (List ℕ)). l ++ into_iter_items c.next.new.self) pushed
          ∙ append_assoc before.list.items (c.in-Some.flow ∷ []) _ ∙ rw (← steps.0) before.invariant.taken;
      left = omega (arith, before.invariant.left, steps.1, ap length steps.0);
      clean = All-same NoneRefusable _ _ pushed (All-push NoneRefusable _ _ before.invariant.clean c.in-Ok.ensures.clean);
    }

pub returns-clause-clean : goal.returns-clause-clean
returns-clause-clean c =
    let before = c.loop-flow.invariant in
    subst (All NoneRefusable) (none_left _ _ _ before.taken (sym before.left ∙ c.in-None.ensures.steps.0)) before.clean
