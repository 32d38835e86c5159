use Rattle.std.proofs.Common.{◌<◌, arith, refl}
use Rattle.qpu_word.proofs.LaneLemmas.{filled_more, get_or-lanes}
use Rattle.qpu_local.proofs.storing.left_of.Goals as goal

pub loop-i-preserved : goal.loop-i-preserved
loop-i-preserved c =
    let low : c.loop-i.i < 16 = omega arith in
    filled_more _ low (rw (c.pick.ensures, c.holds_in.ensures, c.pack_into-packed.ensures, get_or-lanes _ _ low) refl) c.loop-i.invariant
