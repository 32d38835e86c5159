use Rattle.qpu_hazard.proofs.CompleteLemmas.{clean_from_none, none_from_clean}
use Rattle.qpu_hazard.proofs.laws.clean_programs_are_not_refused.Goals as goal

pub returns-clause-clean : goal.returns-clause-clean
returns-clause-clean c = clean_from_none

pub returns-clause-none : goal.returns-clause-none
returns-clause-none c = none_from_clean
