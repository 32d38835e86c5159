use Rattle.std.proofs.Common.{◌≡◌, sym, subst, Ok, ℕ, List}
use Rattle.qpu_token.specs.Stops.{StopsBy}
use Rattle.qpu_asm.specs.Assembly.{encoding, IsAssembly, IsItsFault}
use Rattle.qpu_asm.proofs.AnswerLemmas.{expansion_fault, words_due, stop_due}
use Rattle.qpu_asm.proofs.assembly.assemble_tokens.Goals as goal

pub returns-in-Err-clause-err : goal.returns-in-Err-clause-err
returns-in-Err-clause-err c = expansion_fault c.args.text.now c.args.tokens.now c.in-Err.fault c.requires c.in-Err.ensures.err

pub returns-in-Ok-encode-clause-ok : goal.returns-in-Ok-encode-clause-ok
returns-in-Ok-encode-clause-ok c =
    let w = subst (λ text. encoding text (record { lines = c.in-Ok.expanded.lines.items; labels = c.in-Ok.expanded.labels.items }) ≡ Ok c.in-Ok-encode.words) c.as_bytes.ensures.value c.in-Ok-encode.ensures.due in
    subst (λ (ws : List ℕ). IsAssembly c.args.text.now (Ok ws)) (sym c.words.view_is)
    (words_due c.args.text.now c.args.tokens.now _ c.in-Ok-encode.words c.requires c.in-Ok.ensures.ok w)

pub returns-clause-err : goal.returns-clause-err
returns-clause-err c =
    let s = subst (λ text. StopsBy (encoding text (record { lines = c.in-Ok.expanded.lines.items; labels = c.in-Ok.expanded.labels.items })) c.in-Err-encode.stop) c.as_bytes.ensures.value c.in-Err-encode.ensures.due in
    subst (λ fault. IsItsFault c.args.text.now fault) (sym c.fault.ensures)
    (stop_due c.args.text.now c.args.tokens.now _ c.in-Err-encode.stop c.requires c.in-Ok.ensures.ok s)
