use Rattle.qpu_machine.proofs.SoundLemmas.{DoesWord, took_done, took_fault, took_none}
use Rattle.qpu_shared.specs.declared.did.Did.TheVariants.{Stepped, Awaits, Faulted}
use Rattle.qpu_machine.proofs.stepping.take_word.Goals as goal

pub returns-in-Stepped-clause-took : goal.returns-in-Stepped-clause-took
returns-in-Stepped-clause-took c = λ m there runs words same.
    let does : DoesWord m c.args.q c.args.p.now Stepped c.keep_word.new.p c.keep_word.new.shared = rw (words, same) c.in-Stepped.ensures.did in
    took_done m c.args.q c.args.p.now c.keep_word.new.p c.keep_word.new.shared there runs c.requires.number does

pub returns-in-Awaits-clause-took : goal.returns-in-Awaits-clause-took
returns-in-Awaits-clause-took c = λ m there runs words same.
    let does : DoesWord m c.args.q c.args.p.now (Awaits c.in-Awaits.field-0) c.keep_word.new.p c.keep_word.new.shared = rw (words, same) c.in-Awaits.ensures.did in
    (took_none m c.args.q c.args.p.now c.keep_word.new.p c.keep_word.new.shared c.in-Awaits.field-0 there runs c.requires.number does, does.1, does.2)

pub returns-in-Faulted-clause-took : goal.returns-in-Faulted-clause-took
returns-in-Faulted-clause-took c = λ m there runs words same.
    let does : DoesWord m c.args.q c.args.p.now (Faulted c.in-Faulted.field-0) c.keep_word.new.p c.keep_word.new.shared = rw (words, same) c.in-Faulted.ensures.did in
    took_fault m c.args.q c.args.p.now c.keep_word.new.p c.keep_word.new.shared c.in-Faulted.field-0 there runs c.requires.number does
