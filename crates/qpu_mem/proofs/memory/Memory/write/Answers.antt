use Rattle.std.proofs.Common.{◌≡◌, ◌+◌, ◌/◌, ◌%◌, ◌<◌, ◌≤◌, length, refl, ap, ◌∙◌, rules, arith}
use Rattle.std.specs.Vec.{vec_len}
use Rattle.qpu_mem.specs.declared.bank.TheConstants.{BANK}
use Rattle.std.proofs.Math.ListN.{set}
use Rattle.qpu_bytes.specs.Elements.{with_words}
use Rattle.qpu_bytes.proofs.RunLemmas.{length_with}
use Rattle.qpu_mem.specs.Banks.{words_in}
use Rattle.qpu_mem.proofs.BankLemmas.{bank_is, bank_there, not_none, run_of, run_there, run_in, run_small, run_written, kept}
use Rattle.qpu_mem.proofs.memory.Memory.write.Goals as goal

pub index_mut-requires : goal.index_mut-requires
index_mut-requires c =
    let some = not_none (length c.args.words.now) c.if-is_empty.ensures in
    let last = run_of c.self.inside.banks.items c.self.invariant.0 c.self.view_is (c.if-not-is_in_bank.ensures.inside refl) in
    let long : vec_len c.self.inside.banks ≡ length c.self.inside.banks.items = search rules in
    let there = bank_there c.self.inside.banks.items c.args.at c.self.invariant.0 (omega (arith, some, last)) in
    omega (arith, long, there)

pub write-requires : goal.write-requires
write-requires c =
    let some = not_none (length c.args.words.now) c.if-is_empty.ensures in
    let last = run_of c.self.inside.banks.items c.self.invariant.0 c.self.view_is (c.if-not-is_in_bank.ensures.inside refl) in
    rw (bank_is c.self.inside.banks.items c.self.invariant.0 (omega (arith, some, last)) c.index_mut.ensures.value)
    (run_there c.self.inside.banks.items c.args.at (length c.args.words.now) c.self.invariant.0 some last (c.if-not-is_in_bank.ensures.bank refl))

pub invariant_of-self : goal.invariant_of-self
invariant_of-self c =
    let some = not_none (length c.args.words.now) c.if-is_empty.ensures in
    let last = run_of c.self.inside.banks.items c.self.invariant.0 c.self.view_is (c.if-not-is_in_bank.ensures.inside refl) in
    let bank = bank_is c.self.inside.banks.items c.self.invariant.0 (omega (arith, some, last)) c.index_mut.ensures.value in
    let room : c.args.at % BANK + length c.args.words.now ≤ length c.index_mut.result.now =
    rw bank (run_there c.self.inside.banks.items c.args.at (length c.args.words.now) c.self.invariant.0 some last (c.if-not-is_in_bank.ensures.bank refl)) in (
      kept c.self.inside.banks.items (c.args.at / BANK) c.write.new.self (ap length c.write.ensures.words ∙ length_with c.index_mut.result.now (c.args.at % BANK) c.args.words.now room ∙ ap length bank) c.self.invariant.0,
      c.self.invariant.1,
    )

pub returns-clause-done : goal.returns-clause-done
returns-clause-done c told =
    let some = not_none (length c.args.words.now) c.if-is_empty.ensures in
    let last = run_of c.self.inside.banks.items c.self.invariant.0 c.self.view_is (c.if-not-is_in_bank.ensures.inside refl) in
    let bank = bank_is c.self.inside.banks.items c.self.invariant.0 (omega (arith, some, last)) c.index_mut.ensures.value in
    ap (λ bank. words_in (set c.self.inside.banks.items (c.args.at / BANK) bank)) c.write.ensures.words
    ∙ run_written c.args.at c.self.inside.banks.items c.args.words.now c.self.invariant.0 some last (c.if-not-is_in_bank.ensures.bank refl) bank
    ∙ ap (λ words. with_words words c.args.at c.args.words.now) c.self.view_is

pub returns-clause-small : goal.returns-clause-small
returns-clause-small c told =
    let some = not_none (length c.args.words.now) c.if-is_empty.ensures in
    let last = run_of c.self.inside.banks.items c.self.invariant.0 c.self.view_is (c.if-not-is_in_bank.ensures.inside refl) in
    run_small _ _ (c.args.at % BANK) c.args.at _
    (run_in c.args.at c.self.inside.banks.items c.self.invariant.0 c.self.view_is some last (c.if-not-is_in_bank.ensures.bank refl)
    (bank_is c.self.inside.banks.items c.self.invariant.0 (omega (arith, some, last)) c.index_mut.ensures.value))
    c.write.ensures.small
