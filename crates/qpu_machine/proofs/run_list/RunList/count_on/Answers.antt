use Rattle.std.proofs.Common.{◌≡◌, ◌≢◌, ◌-◌, rules, arith, length, vec_len, suc, ap}
use Rattle.qpu_machine.specs.Journal.{last_count}
use Rattle.qpu_machine.specs.RunList.{RunListState}
use Rattle.qpu_machine.proofs.JournalLemmas.{counts_on, counts_last, first_run, one_more, none_first, none_last, stays_merged}
use Rattle.qpu_machine.proofs.run_list.RunList.count_on.Goals as goal

pub overflow_add-last : goal.overflow_add-last
overflow_add-last c =
    let same : c.in-Some.last.now.actor ≡ c.args.actor = search rules in
    let long : suc (vec_len c.self.inside.runs - 1) ≡ length c.self.inside.runs.items = search rules in
    let counted : last_count c.self.inside.runs.items c.args.actor ≡ c.in-Some.last.now.count =
    counts_last c.self.inside.runs.items (vec_len c.self.inside.runs - 1) c.in-Some.last.now c.args.actor long (c.in-Some.ensures.value) same in
    let fits = c.requires.fits in
    let told : last_count c.self.inside.runs.items c.args.actor ≡ last_count c.args.self.now.runs c.args.actor = ap (λ (x : RunListState). last_count x.runs c.args.actor) c.self.view_is in
    omega (arith, fits, told, counted)

pub returns-in_default-clause-one_more : goal.returns-in_default-clause-one_more
returns-in_default-clause-one_more c =
    let none : length c.self.inside.runs.items ≡ 0 = search rules in
    rw (← c.self.view_is) (first_run c.self.inside.runs.items c.args.actor c.args.count none)

pub returns-then-ne-clause-one_more : goal.returns-then-ne-clause-one_more
returns-then-ne-clause-one_more c =
    let apart : c.in-Some.last.now.actor ≢ c.args.actor = search rules in
    let long : suc (vec_len c.self.inside.runs - 1) ≡ length c.self.inside.runs.items = search rules in
    rw (← c.self.view_is)
    (one_more c.self.inside.runs.items (vec_len c.self.inside.runs - 1) c.in-Some.last.now c.args.actor c.args.count long (c.in-Some.ensures.value) apart)

pub invariant_of-self-2 : goal.invariant_of-self-2
invariant_of-self-2 c =
    let same : c.in-Some.last.now.actor ≡ c.args.actor = search rules in
    let long : suc (vec_len c.self.inside.runs - 1) ≡ length c.self.inside.runs.items = search rules in
    rw (counts_on c.self.inside.runs.items (vec_len c.self.inside.runs - 1) c.in-Some.last.now c.args.actor c.args.count long (c.in-Some.ensures.value) same)
    (stays_merged c.self.inside.runs.items c.args.actor c.args.count c.self.invariant c.requires.some)

pub returns-clause-on : goal.returns-clause-on
returns-clause-on c =
    let same : c.in-Some.last.now.actor ≡ c.args.actor = search rules in
    let long : suc (vec_len c.self.inside.runs - 1) ≡ length c.self.inside.runs.items = search rules in
    rw (← c.self.view_is)
    (counts_on c.self.inside.runs.items (vec_len c.self.inside.runs - 1) c.in-Some.last.now c.args.actor c.args.count long (c.in-Some.ensures.value) same)

pub returns-in_default-clause-apart : goal.returns-in_default-clause-apart
returns-in_default-clause-apart c =
    let none : length c.self.inside.runs.items ≡ 0 = search rules in
    rw (← c.self.view_is) (none_first c.self.inside.runs.items c.args.actor none)

pub returns-then-ne-clause-apart : goal.returns-then-ne-clause-apart
returns-then-ne-clause-apart c =
    let apart : c.in-Some.last.now.actor ≢ c.args.actor = search rules in
    let long : suc (vec_len c.self.inside.runs - 1) ≡ length c.self.inside.runs.items = search rules in
    rw (← c.self.view_is)
    (none_last c.self.inside.runs.items (vec_len c.self.inside.runs - 1) c.in-Some.last.now c.args.actor long c.in-Some.ensures.value apart)
