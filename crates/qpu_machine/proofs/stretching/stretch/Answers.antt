use Rattle.std.proofs.Common.{◌≡◌, ◌+◌, suc, refl, sym, subst, arith}
use Rattle.qpu_machine.specs.Local.{LocalSteps, none, one_more}
use Rattle.qpu_machine.proofs.LocalLemmas.{kept_steps, none_left_after}
use Rattle.qpu_machine.proofs.stretching.stretch.Goals as goal

pub loop-steps-init : goal.loop-steps-init
loop-steps-init c = record { taken = none; last = refl }

pub step_alone-requires-clause-kept : goal.step_alone-requires-clause-kept
step_alone-requires-clause-kept c =
    (c.requires.kept.0, kept_steps c.requires.kept.0 c.words-words.ensures.clean c.requires.kept.1 c.loop-steps.invariant.taken)

pub loop-steps-preserved : goal.loop-steps-preserved
loop-steps-preserved c =
    let more : c.loop-steps.steps + 1 ≡ suc c.loop-steps.steps = omega arith in
    record {
      taken =
          subst (λ n. LocalSteps c.args.program.now c.args.limit c.args.processor.now n c.step_alone.new.processor) (sym more)
          (one_more c.loop-steps.invariant.taken c.if-not-step_alone.ensures.0 c.if-not-step_alone.ensures.1);
      last = refl;
    }

pub returns-clause-stops : goal.returns-clause-stops
returns-clause-stops c = none_left_after c.loop-steps.invariant.taken (omega (arith, c.loop-steps-test.false))
