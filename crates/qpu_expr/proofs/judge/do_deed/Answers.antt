use Rattle.std.proofs.Common.{◌≡◌, None, sym, ◌∙◌, ap, subst, arith}
use Rattle.qpu_expr.specs.StageParts.{Stage}
use Rattle.qpu_expr.specs.Stage.{too_long, labelled}
use Rattle.qpu_expr.proofs.RoomLemmas.{not_long, some_room, word_room, words_same}
use Rattle.qpu_expr.proofs.judge.do_deed.Goals as goal

pub count-requires : goal.count-requires
count-requires c =
    some_room c.args.state.now c.args.line.now c.leaves.result
    (sym c.too_long-long.ensures ∙ not_long c.label_twice.result c.too_long-long.result c.args.deed.findings (sym c.least_fault.ensures ∙ c.in_default.is))

pub change-requires : goal.change-requires
change-requires c = λ left.
    let none : too_long c.args.state.now c.args.line.now c.leaves.result ≡ None = sym c.too_long-long.ensures ∙ not_long c.label_twice.result c.too_long-long.result c.args.deed.findings (sym c.least_fault.ensures ∙ c.in_default.is) in
    let room = word_room c.args.state.now c.args.line.now (subst (λ w. too_long c.args.state.now c.args.line.now w ≡ None) (c.leaves.ensures ∙ left) none) in
    let before = words_same c.args.text.now c.label_of-label.result c.args.line.now c.args.state.now in
    let labels = ap (λ (s : Stage). s.words) c.in_ok-put_label.ensures in
    let counts = ap (λ (s : Stage). (labelled c.args.text.now c.label_of-label.result s).words) c.count.ensures in
    omega (arith, room, before, labels, counts)
