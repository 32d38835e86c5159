use Rattle.std.proofs.Common.{◌≡◌, ◌∷◌, ◌-◌, length, take, drop, sym, ap, subst, ◌∙◌, Ok}
use Rattle.std.proofs.lemmas.Result.{err_from_is_err_and}
use Rattle.qpu_expr.specs.Deeds.{line_does}
use Rattle.qpu_token.specs.Stops.{StopsBy}
use Rattle.qpu_expr.specs.Expansion.{run_within}
use Rattle.qpu_expr.specs.Nesting.{is_deepest, below}
use Rattle.qpu_expr.proofs.RunLemmas.{line_more, act_stopped, first_line, turn_more}
use Rattle.qpu_expr.proofs.expansion.+running.Goals as goal

pub repeat-loop-turn-preserved : goal.repeat-loop-turn-preserved
repeat-loop-turn-preserved t c =
    sym (turn_more (below c.args.text.now c.args.depth c.args.body.now) c.args.place c.args.times c.loop-turn._turn c.loop-turn.state c.count_turn.new.state c.run_below.new.state c.loop-turn-test.true c.in_ok-count_turn.ensures c.in_ok-run_below.ensures)
    ∙ c.loop-turn.invariant

pub run_lines-returns-in_err-perform : goal.run_lines-returns-in_err-perform
run_lines-returns-in_err-perform t c =
    let lines = c.loop-rest.rest.now in
    let line = c.line-item.result in
    let behind = take (length lines - 1) (drop 1 lines) in
    let e : lines ≡ line ∷ behind = first_line lines line c.in-len1-up.len_at_least c.line-item.is in
    let does : line_does c.args.text.now (is_deepest c.args.depth) line behind c.loop-rest.state ≡ Ok (c.in_ok-act.act, c.take_line.new.state) =
    subst (λ d. line_does c.args.text.now d line behind c.loop-rest.state ≡ Ok (c.in_ok-act.act, c.take_line.new.state)) c.is_deepest.ensures c.in_ok-act.ensures in
    let p = err_from_is_err_and c.from_residual-in_err-perform.result c.from_residual-in_err-perform.ensures.1 in
    rw (p.1, p.2)
    (subst (λ due. StopsBy due c.in_err-perform.field-0.0) (ap (λ xs. run_within c.args.text.now c.args.depth xs c.loop-rest.state) (sym e) ∙ c.loop-rest.invariant)
    (act_stopped c.args.text.now c.args.depth line behind c.in_ok-act.act c.loop-rest.state c.take_line.new.state c.in_err-perform.field-0.0 does c.in_err-perform.ensures))

pub run_lines-loop-rest-preserved : goal.run_lines-loop-rest-preserved
run_lines-loop-rest-preserved t c =
    let lines = c.loop-rest.rest.now in
    let line = c.line-item.result in
    let behind = take (length lines - 1) (drop 1 lines) in
    let e : lines ≡ line ∷ behind = first_line lines line c.in-len1-up.len_at_least c.line-item.is in
    let does : line_does c.args.text.now (is_deepest c.args.depth) line behind c.loop-rest.state ≡ Ok (c.in_ok-act.act, c.take_line.new.state) =
    subst (λ d. line_does c.args.text.now d line behind c.loop-rest.state ≡ Ok (c.in_ok-act.act, c.take_line.new.state)) c.is_deepest.ensures c.in_ok-act.ensures in
    rw c.behind_act-rest.ensures
    (sym (line_more c.args.text.now c.args.depth line behind c.in_ok-act.act c.loop-rest.state c.take_line.new.state c.perform.new.state does c.in_ok-perform.ensures)
    ∙ (ap (λ xs. run_within c.args.text.now c.args.depth xs c.loop-rest.state) (sym e) ∙ c.loop-rest.invariant))
