use Rattle.std.proofs.Common.{◌≡◌, ◌%◌, length, get_or, ap, sym, ◌∙◌, rules, arith}
use Rattle.std.specs.Vec.{vec_len}
use Rattle.qpu_mem.specs.declared.bank.TheConstants.{BANK}
use Rattle.qpu_mem.proofs.BankLemmas.{one_of, bank_is, bank_there, word_there, read}
use Rattle.qpu_mem.proofs.memory.Memory.word_at.Goals as goal

pub index-requires : goal.index-requires
index-requires c =
    let long : vec_len c.self.inside.banks ≡ length c.self.inside.banks.items = search rules in
    let there = bank_there c.self.inside.banks.items c.args.at c.self.invariant.0 (one_of c.self.inside.banks.items c.self.invariant.0 c.self.view_is c.requires) in
    omega (arith, long, there)

pub word-requires : goal.word-requires
word-requires c =
    let low = one_of c.self.inside.banks.items c.self.invariant.0 c.self.view_is c.requires in
    rw (bank_is c.self.inside.banks.items c.self.invariant.0 low c.index.ensures) (word_there c.self.inside.banks.items c.args.at c.self.invariant.0 low)

pub returns : goal.returns
returns c =
    let low = one_of c.self.inside.banks.items c.self.invariant.0 c.self.view_is c.requires in
    c.word.ensures
    ∙ ap (λ bank. get_or bank (c.args.at % BANK) 0) (bank_is c.self.inside.banks.items c.self.invariant.0 low c.index.ensures)
    ∙ sym (read c.self.inside.words c.self.inside.banks.items c.args.at c.self.invariant.0 low)
    ∙ ap (λ words. get_or words c.args.at 0) c.self.view_is
