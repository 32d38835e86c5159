use Rattle.qpu_word.proofs.CanonicalLemmas.{canonical_tells}
use Rattle.qpu_word.proofs.word.Word.is_canonical.Goals as goal

pub returns-clause-canonical : goal.returns-clause-canonical
returns-clause-canonical c = canonical_tells c.args.self.0 c.is_ruled.result c.is_ruled.ensures
