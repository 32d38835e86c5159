-- One more program is in the profile.
use Rattle.std.proofs.Common.{ℕ, List, [], ◌∷◌, ◌++◌, ap, ◌∙◌, arith}
use Rattle.qpu_flow.specs.Code.{AllInProfile}
use Rattle.qpu_job.proofs.CheckLemmas.{one_taken, one_within, short_words}
use Rattle.qpu_job.proofs.checking.flows_of.Goals as goal

pub of-requires : goal.of-requires
of-requires c =
    rw c.deref.ensures.value
    (short_words c.args.codes.now c.loop-program.program c.index-codes-program.result _ c.requires.short (omega arith) c.index-codes-program.is)

pub loop-program-preserved : goal.loop-program-preserved
loop-program-preserved c = record {
  taken = one_taken c.args.codes.now c.loop-program.program c.index-codes-program.result _ _ _ (omega arith) c.index-codes-program.is
      c.loop-program.invariant.taken (c.in-Ok-push.ensures.items ∙ ap (λ (x : List ℕ). c.loop-program.flows.items ++ x ∷ []) (rw c.deref.ensures.value at c.in-Ok.ensures.words));
  inside = one_within AllInProfile c.args.codes.now c.loop-program.program c.index-codes-program.result _ (omega arith) c.index-codes-program.is
      c.loop-program.invariant.inside (rw c.deref.ensures.value at c.in-Ok.ensures.inside);
}
