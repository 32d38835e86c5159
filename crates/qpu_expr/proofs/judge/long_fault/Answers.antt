use Rattle.std.proofs.Common.{sym, ◌∙◌, arith}
use Rattle.qpu_expr.proofs.RoomLemmas.{not_long, some_room}
use Rattle.qpu_expr.proofs.judge.long_fault.Goals as goal

pub unreachable-requires : goal.unreachable-requires
unreachable-requires c =
    let none = not_long c.label_twice-label.result c.too_long-long.result c.args.told.findings (sym c.least_fault.ensures ∙ c.in-None.is) in
    let room = (some_room c.args.state.now c.args.first.now c.args.told.word (sym c.too_long-long.ensures ∙ none)).tokens in
    let more = c.requires in
    omega (arith, room, more)
