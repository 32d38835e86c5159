use Rattle.std.proofs.Common.{ap, ◌∙◌}
use Rattle.std.specs.Prelude.{List, ℕ, slice_index}
use Rattle.qpu_bytes.proofs.ByteLemmas.{byte_read}
use Rattle.qpu_bytes.proofs.part.byte_of.Goals as goal

pub returns : goal.returns
returns c = c.from.ensures ∙ (ap (λ (bytes : List ℕ). slice_index bytes c.args.low) c.write_u32.ensures ∙ byte_read c.args.word c.args.low c.requires)
