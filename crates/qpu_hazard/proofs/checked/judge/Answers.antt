use Rattle.std.proofs.Common.{◌<◌, length, sym, ◌∙◌, arith}
use Rattle.qpu_hazard.proofs.CompleteLemmas.{first_found, none_found, clean_from_none, none_from_clean, first_of_empty}
use Rattle.qpu_hazard.proofs.PartLemmas.{clean_without_needs}
use Rattle.qpu_hazard.proofs.checked.judge.Goals as goal

pub returns-then-len-eq0-clause-first : goal.returns-then-len-eq0-clause-first
returns-then-len-eq0-clause-first c = first_of_empty _ (sym c.len.ensures.count ∙ c.if-len-eq0.true)

pub invariant_of-result : goal.invariant_of-result
invariant_of-result c =
    let some : 0 < length c.args.flow = omega (arith, c.len.ensures.count) in
    clean_without_needs _ _ some c.of-needs.ensures (c.are_any.ensures c.if-not-are_any.true)

pub returns-then-not-are_any-clause-clean : goal.returns-then-not-are_any-clause-clean
returns-then-not-are_any-clause-clean c =
    let some : 0 < length c.args.flow = omega (arith, c.len.ensures.count) in
    none_from_clean _ (clean_without_needs _ _ some c.of-needs.ensures (c.are_any.ensures c.if-not-are_any.true))

pub invariant_of-result-in-None : goal.invariant_of-result-in-None
invariant_of-result-in-None c =
    let some : 0 < length c.args.flow = omega (arith, c.len.ensures.count) in
    clean_from_none _ (none_found _ _ _ some c.in-Ok.ensures c.in-None.is)

pub returns-in-Some-clause-first : goal.returns-in-Some-clause-first
returns-in-Some-clause-first c =
    let some : 0 < length c.args.flow = omega (arith, c.len.ensures.count) in
    first_found _ _ _ _ some c.in-Ok.ensures c.in-Some.is

pub returns-in-None-clause-clean : goal.returns-in-None-clause-clean
returns-in-None-clause-clean c =
    let some : 0 < length c.args.flow = omega (arith, c.len.ensures.count) in
    none_found _ _ _ some c.in-Ok.ensures c.in-None.is
