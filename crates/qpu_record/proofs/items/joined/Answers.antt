-- An item joins the run of its actor.
use Rattle.std.proofs.Common.{rules, ◌≡◌, ◌≢◌}
use Rattle.qpu_record.proofs.LeftLemmas.{alone_item, apart_item, same_item}
use Rattle.qpu_record.proofs.items.joined.Goals as goal

pub returns-in_default-clause-some : goal.returns-in_default-clause-some
returns-in_default-clause-some c = alone_item c.args.begun c.args.item (search rules)

pub returns-then-ne-clause-none : goal.returns-then-ne-clause-none
returns-then-ne-clause-none c =
    let apart : c.in-Some.run'.actor ≢ c.args.item.actor = search rules in
    λ _. apart_item c.args.begun c.in-Some.run' c.args.item c.in-Some.is apart

pub returns-clause-some : goal.returns-clause-some
returns-clause-some c =
    let same : c.in-Some.run'.actor ≡ c.args.item.actor = search rules in
    same_item c.args.begun c.in-Some.run' c.args.item c.in-Some.is same
