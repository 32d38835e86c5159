use Rattle.qpu_token.proofs.ReadLemmas.{read_nothing}
use Rattle.qpu_token.proofs.reading.tokens.Goals as goal

pub loop-here-init : goal.loop-here-init
loop-here-init c = rw c.new-tokens.ensures.items (read_nothing c.as_bytes-text.result.now)
