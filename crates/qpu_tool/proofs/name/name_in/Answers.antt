-- The name is that of the program of the index.
use Rattle.std.proofs.Common.{refl, arith, ◌∙◌}
use Rattle.qpu_tool.proofs.OpenLemmas.{name_there}
use Rattle.qpu_tool.proofs.name.name_in.Goals as goal

pub returns : goal.returns
returns c =
    c.as_str.ensures.value
    ∙ name_there c.args.programs.now c.args.program _ c.index-programs-at.result (omega arith) refl
