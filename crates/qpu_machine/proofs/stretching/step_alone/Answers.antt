use Rattle.std.proofs.Common.{◌≡◌, [], true, rules, ap, sym, ◌∙◌}
use Rattle.std.specs.Prelude.{slice_index}
use Rattle.qpu_word.specs.Words.{fields_of, is_local}
use Rattle.qpu_shared.specs.SharedState.{opening_shared}
use Rattle.qpu_decoded.specs.declared.decoded.Decoded.{Decoded}
use Rattle.qpu_machine.proofs.WordLemmas.{place_in, decoded_word}
use Rattle.qpu_machine.proofs.LocalLemmas.{next_is, took_local}
use Rattle.qpu_machine.proofs.SoundLemmas.{going_running}
use Rattle.qpu_machine.proofs.stretching.step_alone.Goals as goal

pub decoded-word-requires : goal.decoded-word-requires
decoded-word-requires c =
    let going = going_running c.args.limit c.args.processor.now (sym c.is_running.ensures ∙ c.if-not-is_running.false) in
    rw c.place.ensures (place_in c.args.program.now c.args.processor.now c.requires.kept.0 c.words-words.ensures.clean (c.requires.kept.1 going))

pub do_local-requires-clause-place : goal.do_local-requires-clause-place
do_local-requires-clause-place c =
    let going = going_running c.args.limit c.args.processor.now (sym c.is_running.ensures ∙ c.if-not-is_running.false) in
    place_in c.args.program.now c.args.processor.now c.requires.kept.0 c.words-words.ensures.clean (c.requires.kept.1 going)

pub do_local-requires-clause-profile : goal.do_local-requires-clause-profile
do_local-requires-clause-profile c =
    let going = going_running c.args.limit c.args.processor.now (sym c.is_running.ensures ∙ c.if-not-is_running.false) in
    c.words-words.ensures.inside c.args.processor.now.place
    (place_in c.args.program.now c.args.processor.now c.requires.kept.0 c.words-words.ensures.clean (c.requires.kept.1 going))

pub do_local-requires-clause-decoded : goal.do_local-requires-clause-decoded
do_local-requires-clause-decoded c = decoded_word c.args.program.now c.args.processor.now.place c.place.result c.decoded-word.result.now c.place.ensures c.decoded-word.ensures

pub returns : goal.returns
returns c =
    let runs = sym c.is_running.ensures ∙ c.if-not-is_running.false in
    let told : c.decoded-word.result.now.local ≡ true = search rules in
    let is : c.decoded-word.result.now.local ≡ is_local (fields_of (slice_index c.args.program.now c.args.processor.now.place)) =
    ap (λ (d : Decoded). d.local) c.decoded-word.ensures ∙ ap (λ at. is_local (fields_of (slice_index c.args.program.now at))) c.place.ensures in
    took_local c.args.program.now c.args.limit c.args.processor.now c.do_local.new.p c.do_local.result (opening_shared [])
    (next_is c.args.program.now c.args.limit c.args.processor.now runs (sym is ∙ told)) (c.do_local.ensures (opening_shared []))
