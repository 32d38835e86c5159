-- One more group is appended, or cut off.
use Rattle.std.proofs.Common.{◌≡◌, ◌+◌, ◌-◌, ◌/◌, arith, length, ap, refl, ◌∙◌}
use Rattle.std.specs.List.{range_with_len}
use Rattle.std.proofs.lemmas.Result.{err_from_is_err_and}
use Rattle.std.proofs.lemmas.List.{take_all}
use Rattle.std.proofs.lemmas.List.FromFn.{get_or-range_with_len, length-range_with_len}
use Rattle.qpu_report.specs.Report.{group_line, memory_text}
use Rattle.qpu_io.proofs.Outputs.{each_more, each_cut}
use Rattle.qpu_report.proofs.parts.put_memory.Goals as goal

pub put_group-requires : goal.put_group-requires
put_group-requires g c = omega (arith, c.group.ensures.most, c.len.ensures.words)

pub returns-in_err-put_group : goal.returns-in_err-put_group
unfolding memory_text
returns-in_err-put_group g c =
    let p = err_from_is_err_and c.from_residual.result c.from_residual.ensures.1 in
    let groups : (c.len.result + 8 - 1) / 8 ≡ (length c.args.memory.now + 8 - 1) / 8 = ap (λ n. (n + 8 - 1) / 8) c.len.ensures.words in
    rw (p.1, ← groups)
    (each_cut (group_line c.args.memory.now) (range_with_len 0 ((c.len.result + 8 - 1) / 8)) c.loop-k.k c.loop-k.k 0 _ _ _
    (omega (arith, length-range_with_len 0 ((c.len.result + 8 - 1) / 8))) (omega (arith, get_or-range_with_len 0 ((c.len.result + 8 - 1) / 8) c.loop-k.k 0 (omega arith)))
    c.loop-k.invariant (rw c.group.ensures.group at c.in_err-put_group.ensures))

pub loop-k-preserved : goal.loop-k-preserved
loop-k-preserved g c =
    each_more (group_line c.args.memory.now) (range_with_len 0 ((c.len.result + 8 - 1) / 8)) c.loop-k.k c.loop-k.k 0 _ _ _
    (omega (arith, length-range_with_len 0 ((c.len.result + 8 - 1) / 8))) (omega (arith, get_or-range_with_len 0 ((c.len.result + 8 - 1) / 8) c.loop-k.k 0 (omega arith)))
    c.loop-k.invariant (rw c.group.ensures.group at c.in_ok-put_group.ensures)

pub returns : goal.returns
unfolding memory_text
returns g c =
    let groups : (c.len.result + 8 - 1) / 8 ≡ (length c.args.memory.now + 8 - 1) / 8 = ap (λ n. (n + 8 - 1) / 8) c.len.ensures.words in
    c.loop-k.invariant
    ∙ rw (take_all c.loop-k.k (range_with_len 0 ((c.len.result + 8 - 1) / 8)) (omega (arith, length-range_with_len 0 ((c.len.result + 8 - 1) / 8))), groups) refl
