use Rattle.std.proofs.Common.{◌≡◌, [], take}
use Rattle.std.specs.Prelude.{fold}
use Rattle.qpu_asm.specs.Assembly.{label_put}
use Rattle.qpu_asm.proofs.assembly.labels_of.Given as goal

abbrev pub invariant-loop-label : goal.invariant-loop-label
invariant-loop-label l = l.table ≡ fold (label_put l.text) [] (take l.label-index l.labels)
