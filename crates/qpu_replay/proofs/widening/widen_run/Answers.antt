use Rattle.std.proofs.Common.{refl, replicate}
use Rattle.qpu_replay.proofs.WidenLemmas.{nothing_yet, step_gained, spelled_on, has_room}
use Rattle.qpu_replay.proofs.widening.widen_run.Goals as goal

pub loop-taken-init : goal.loop-taken-init
loop-taken-init c = record { gained = nothing_yet c.args.wide.now c.args.machine.now.state; last = refl }

pub push-requires-clause-fits : goal.push-requires-clause-fits
push-requires-clause-fits c =
    has_room c.loop-taken.wide c.loop-taken.machine.state c.take_whole.new.machine.state c.args.run.now.actor c.in-Some.rows
    (spelled_on c.args.wide.now c.loop-taken.wide c.args.machine.now.state c.loop-taken.machine.state (replicate c.loop-taken.taken c.args.run.now.actor) c.requires c.loop-taken.invariant.gained)
    c.in-Some.ensures.rows c.in-Some.ensures.taken

pub loop-taken-preserved : goal.loop-taken-preserved
loop-taken-preserved c = record {
  gained = step_gained c.args.wide.now c.loop-taken.wide c.push.new.self c.loop-taken.taken c.in-Some.rows c.args.run.now.actor c.loop-taken.invariant.gained c.in_ok-push.ensures.ok
      c.in-Some.ensures.rows c.in-Some.ensures.taken;
  last = refl;
}
