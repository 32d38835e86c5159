use Rattle.std.proofs.Common.{◌≡◌, ◌<◌, ◌*◌, ◌%◌, length, ◌∙◌, rules, arith}
use Rattle.std.specs.Vec.{vec_len}
use Rattle.qpu_mem.specs.declared.bank.TheConstants.{BANK}
use Rattle.qpu_mem.specs.declared.memory.TheConstants.{GROUP}
use Rattle.qpu_mem.proofs.BankLemmas.{one_of, bank_is, bank_there, word_there, group_in}
use Rattle.qpu_mem.proofs.memory.Memory.group.Goals as goal

pub index-requires : goal.index-requires
index-requires c =
    let first : c.args.k * GROUP < length c.args.self.now = search rules in
    let long : vec_len c.self.inside.banks ≡ length c.self.inside.banks.items = search rules in
    let there = bank_there c.self.inside.banks.items (c.args.k * GROUP) c.self.invariant.0 (one_of c.self.inside.banks.items c.self.invariant.0 c.self.view_is first) in
    omega (arith, long, there)

pub group-requires : goal.group-requires
group-requires c =
    let first : c.args.k * GROUP < length c.args.self.now = search rules in
    let low = one_of c.self.inside.banks.items c.self.invariant.0 c.self.view_is first in
    let there : c.args.k * GROUP % BANK < length c.index.result.now = rw (bank_is c.self.inside.banks.items c.self.invariant.0 low c.index.ensures) (word_there c.self.inside.banks.items (c.args.k * GROUP) c.self.invariant.0 low) in
    omega (arith, there)

pub returns-then-first-len-clause-group : goal.returns-then-first-len-clause-group
returns-then-first-len-clause-group c =
    let first : c.args.k * GROUP < length c.args.self.now = search rules in
    let low = one_of c.self.inside.banks.items c.self.invariant.0 c.self.view_is first in
    c.group.ensures ∙ group_in c.args.k c.self.inside.banks.items c.self.invariant.0 c.self.view_is (omega arith) low (bank_is c.self.inside.banks.items c.self.invariant.0 low c.index.ensures)
