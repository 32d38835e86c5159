use Rattle.std.proofs.Common.{◌≡◌, ◌/◌, length, ap, ◌∙◌, rules, arith}
use Rattle.std.proofs.Math.ListN.{set}
use Rattle.std.specs.Vec.{vec_len}
use Rattle.qpu_mem.specs.Banks.{words_in}
use Rattle.qpu_mem.specs.declared.bank.TheConstants.{BANK}
use Rattle.qpu_mem.proofs.BankLemmas.{one_of, bank_is, bank_there, word_there, written}
use Rattle.qpu_mem.proofs.memory.Memory.set_at.Goals as goal

pub index_mut-requires : goal.index_mut-requires
index_mut-requires c =
    let long : vec_len c.self.inside.banks ≡ length c.self.inside.banks.items = search rules in
    let there = bank_there c.self.inside.banks.items c.args.at c.self.invariant.0 (one_of c.self.inside.banks.items c.self.invariant.0 c.self.view_is c.requires) in
    omega (arith, long, there)

pub set-requires : goal.set-requires
set-requires c =
    let low = one_of c.self.inside.banks.items c.self.invariant.0 c.self.view_is c.requires in
    rw (bank_is c.self.inside.banks.items c.self.invariant.0 low c.index_mut.ensures.value) (word_there c.self.inside.banks.items c.args.at c.self.invariant.0 low)

pub returns : goal.returns
returns c =
    let low = one_of c.self.inside.banks.items c.self.invariant.0 c.self.view_is c.requires in
    ap (λ bank. words_in (set c.self.inside.banks.items (c.args.at / BANK) bank)) c.set.ensures
    ∙ written c.self.inside.banks.items c.args.value c.self.invariant.0 low (bank_is c.self.inside.banks.items c.self.invariant.0 low c.index_mut.ensures.value)
    ∙ ap (λ words. set words c.args.at c.args.value) c.self.view_is
