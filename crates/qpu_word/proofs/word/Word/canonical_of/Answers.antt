use Rattle.std.proofs.Common.{◌∙◌, sym, subst, arith}
use Rattle.qpu_word.specs.Canonical.{IsCanonical}
use Rattle.qpu_word.proofs.CanonicalLaw.{is_canonical_again, own_word, outside_back}
use Rattle.qpu_word.proofs.word.Word.canonical_of.Goals as goal

pub returns-clause-canonical : goal.returns-clause-canonical
returns-clause-canonical c = λ inside. subst (λ n. IsCanonical n) (sym c.canonical_word.ensures) (is_canonical_again c.args.self.0 inside)

pub returns-clause-own : goal.returns-clause-own
returns-clause-own c = λ own. c.canonical_word.ensures ∙ own_word c.args.self.0 (omega arith) own

pub returns-clause-outside : goal.returns-clause-outside
returns-clause-outside c = λ some. c.canonical_word.ensures ∙ outside_back c.args.self.0 some
