use Rattle.qpu_hazard.proofs.PartLemmas.{clean_from_parts, parts_from_clean}
use Rattle.qpu_hazard.proofs.laws.clean_programs_are_clean_by_parts.Goals as goal

pub returns-clause-clean : goal.returns-clause-clean
returns-clause-clean c = clean_from_parts

pub returns-clause-parts : goal.returns-clause-parts
returns-clause-parts c = parts_from_clean
