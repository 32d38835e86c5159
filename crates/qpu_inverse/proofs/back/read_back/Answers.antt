-- What is read is what was written.
use Rattle.std.proofs.Common.{◌∙◌}
use Rattle.qpu_inverse.proofs.BackLemmas.{lines_utf8, lines_fit, words_again, only_memory}
use Rattle.qpu_inverse.proofs.back.read_back.Goals as goal

pub as_text-requires : goal.as_text-requires
as_text-requires c =
    lines_utf8 c.args.words.now c.bytes.result.now
    (record { same = c.bytes.ensures ∙ c.in_ok-sink.ensures.ok; few = c.requires; bits = c.have_bits.ensures })

pub assemble-requires : goal.assemble-requires
assemble-requires c =
    lines_fit c.args.words.now c.as_text.result.now
    (record { same = c.as_text.ensures ∙ (c.bytes.ensures ∙ c.in_ok-sink.ensures.ok); few = c.requires; bits = c.have_bits.ensures })

pub returns-clause-ok : goal.returns-clause-ok
returns-clause-ok c =
    words_again (λ v. v.items) c.args.words.now c.as_text.result.now c.assemble.result
    (record { same = c.as_text.ensures ∙ (c.bytes.ensures ∙ c.in_ok-sink.ensures.ok); few = c.requires; bits = c.have_bits.ensures })
    c.assemble.ensures.ok

pub returns-clause-err : goal.returns-clause-err
returns-clause-err c =
    only_memory c.args.words.now c.as_text.result.now c.assemble.result
    (record { same = c.as_text.ensures ∙ (c.bytes.ensures ∙ c.in_ok-sink.ensures.ok); few = c.requires; bits = c.have_bits.ensures })
    c.assemble.ensures.err
