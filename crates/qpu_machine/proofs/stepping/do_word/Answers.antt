use Rattle.std.proofs.Common.{◌≡◌, false, sym, subst, ◌∙◌}
use Rattle.std.specs.Prelude.{slice_index}
use Rattle.qpu_word.specs.declared.word.Fields.{Fields}
use Rattle.qpu_word.specs.Words.{is_branch}
use Rattle.qpu_word.specs.Instruction.{is_link_point}
use Rattle.qpu_shared.specs.Exec.{HasRoom}
use Rattle.qpu_shared.specs.Instruction.{pending_of}
use Rattle.qpu_shared.proofs.LocalLemmas.{outcome_local}
use Rattle.qpu_machine.proofs.WordLemmas.{place_in, room_on_path, shared_straight, decoded_word, decoded_fields, decoded_local}
use Rattle.qpu_machine.proofs.stepping.do_word.Goals as goal

pub decoded-word-requires : goal.decoded-word-requires
decoded-word-requires c = rw c.place.ensures (place_in c.args.program.now c.args.p.now _ c.words-words.ensures.clean c.requires.on_path)

pub do_local-requires-clause-place : goal.do_local-requires-clause-place
do_local-requires-clause-place c = place_in c.args.program.now c.args.p.now _ c.words-words.ensures.clean c.requires.on_path

pub do_local-requires-clause-profile : goal.do_local-requires-clause-profile
do_local-requires-clause-profile c =
    c.words-words.ensures.inside c.args.p.now.place (place_in c.args.program.now c.args.p.now _ c.words-words.ensures.clean c.requires.on_path)

pub do_local-requires-clause-decoded : goal.do_local-requires-clause-decoded
do_local-requires-clause-decoded c = decoded_word c.args.program.now c.args.p.now.place c.place.result c.decoded-word.result.now c.place.ensures c.decoded-word.ensures

pub exec_fields-requires-clause-profile : goal.exec_fields-requires-clause-profile
exec_fields-requires-clause-profile c = (
  slice_index c.args.program.now c.args.p.now.place,
  decoded_fields c.args.program.now c.args.p.now.place c.place.result c.decoded-word.result.now c.place.ensures c.decoded-word.ensures,
  c.words-words.ensures.inside c.args.p.now.place (place_in c.args.program.now c.args.p.now _ c.words-words.ensures.clean c.requires.on_path),
)

pub exec_fields-requires-clause-straight : goal.exec_fields-requires-clause-straight
exec_fields-requires-clause-straight c =
    let fields = decoded_fields c.args.program.now c.args.p.now.place c.place.result c.decoded-word.result.now c.place.ensures c.decoded-word.ensures in
    let local = decoded_local c.args.program.now c.args.p.now.place c.place.result c.decoded-word.result.now c.place.ensures c.decoded-word.ensures in
    let low = place_in c.args.program.now c.args.p.now _ c.words-words.ensures.clean c.requires.on_path in
    subst (λ (f : Fields). is_branch f ≡ false) (sym fields)
    (shared_straight (slice_index c.args.program.now c.args.p.now.place) (c.words-words.ensures.inside c.args.p.now.place low) (sym local ∙ c.if-word.false))

pub exec_fields-requires-clause-room : goal.exec_fields-requires-clause-room
exec_fields-requires-clause-room c =
    let fields = decoded_fields c.args.program.now c.args.p.now.place c.place.result c.decoded-word.result.now c.place.ensures c.decoded-word.ensures in
    let pending = pending_of c.args.shared.now c.args.q in
    subst (λ (f : Fields). HasRoom f pending) (sym fields) (room_on_path c.args.program.now c.args.p.now pending c.words-words.ensures.clean c.requires.on_path)

pub returns-then-word : goal.returns-then-word
returns-then-word c =
    let local = decoded_local c.args.program.now c.args.p.now.place c.place.result c.decoded-word.result.now c.place.ensures c.decoded-word.ensures in
    rw (← c.requires.number, outcome_local (is_link_point c.args.program.now) (slice_index c.args.program.now c.args.p.now.place) c.args.p.now c.args.shared.now (sym local ∙ c.if-word.true))
    (c.do_local.ensures c.args.shared.now)

pub returns-else-word : goal.returns-else-word
returns-else-word c =
    let fields = decoded_fields c.args.program.now c.args.p.now.place c.place.result c.decoded-word.result.now c.place.ensures c.decoded-word.ensures in
    c.exec_fields.ensures (is_link_point c.args.program.now) (slice_index c.args.program.now c.args.p.now.place) fields
