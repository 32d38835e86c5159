use Rattle.std.proofs.Common.{◌≡◌, ◌+◌, ◌/◌, ◌%◌, ◌<◌, ◌≤◌, length, refl, ◌∙◌, rules, arith}
use Rattle.std.specs.Vec.{vec_len}
use Rattle.qpu_mem.specs.declared.bank.TheConstants.{BANK}
use Rattle.qpu_mem.proofs.BankLemmas.{bank_is, bank_there, not_none, run_of, run_there, run_in, run_small}
use Rattle.qpu_mem.proofs.memory.Memory.read.Goals as goal

pub index-requires : goal.index-requires
index-requires c =
    let some = not_none (length c.args.out.now) c.if-is_empty.ensures in
    let last = run_of c.self.inside.banks.items c.self.invariant.0 c.self.view_is (c.if-not-is_in_bank.ensures.inside refl) in
    let long : vec_len c.self.inside.banks ≡ length c.self.inside.banks.items = search rules in
    let there = bank_there c.self.inside.banks.items c.args.at c.self.invariant.0 (omega (arith, some, last)) in
    omega (arith, long, there)

pub read-requires : goal.read-requires
read-requires c =
    let some = not_none (length c.args.out.now) c.if-is_empty.ensures in
    let last = run_of c.self.inside.banks.items c.self.invariant.0 c.self.view_is (c.if-not-is_in_bank.ensures.inside refl) in
    rw (bank_is c.self.inside.banks.items c.self.invariant.0 (omega (arith, some, last)) c.index.ensures)
    (run_there c.self.inside.banks.items c.args.at (length c.args.out.now) c.self.invariant.0 some last (c.if-not-is_in_bank.ensures.bank refl))

pub returns-clause-done : goal.returns-clause-done
returns-clause-done c told =
    let some = not_none (length c.args.out.now) c.if-is_empty.ensures in
    let last = run_of c.self.inside.banks.items c.self.invariant.0 c.self.view_is (c.if-not-is_in_bank.ensures.inside refl) in
    c.read.ensures.words
    ∙ run_in c.args.at c.self.inside.banks.items c.self.invariant.0 c.self.view_is some last (c.if-not-is_in_bank.ensures.bank refl)
    (bank_is c.self.inside.banks.items c.self.invariant.0 (omega (arith, some, last)) c.index.ensures)

pub returns-clause-small : goal.returns-clause-small
returns-clause-small c told =
    let some = not_none (length c.args.out.now) c.if-is_empty.ensures in
    let last = run_of c.self.inside.banks.items c.self.invariant.0 c.self.view_is (c.if-not-is_in_bank.ensures.inside refl) in
    run_small _ _ (c.args.at % BANK) c.args.at _
    (run_in c.args.at c.self.inside.banks.items c.self.invariant.0 c.self.view_is some last (c.if-not-is_in_bank.ensures.bank refl)
    (bank_is c.self.inside.banks.items c.self.invariant.0 (omega (arith, some, last)) c.index.ensures))
    c.read.ensures.small
