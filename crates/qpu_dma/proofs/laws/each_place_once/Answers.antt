use Rattle.qpu_dma.proofs.OnceLemmas.{each_place_once}
use Rattle.qpu_dma.proofs.laws.each_place_once.Goals as goal

pub returns : goal.returns
returns c = each_place_once
