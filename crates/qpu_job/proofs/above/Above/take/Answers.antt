use Rattle.qpu_job.specs.Above.{above_of}
use Rattle.qpu_job.proofs.AboveLemmas.{place_fits}
use Rattle.qpu_job.proofs.above.Above.take.Goals as goal

pub put_values-requires : goal.put_values-requires
put_values-requires c =
    rw c.deref.ensures.value
    (place_fits c.in-Data.address c.in-Data.values.items (above_of c.args.self.now) (rw c.in-Data.is at c.requires.fits))
