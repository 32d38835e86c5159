-- Each line is an item of the run that is begun, begins another, or ends them.
use Rattle.std.proofs.Common.{refl, sym, ◌∙◌, arith, rules}
use Rattle.qpu_text.specs.Lines.{cut_of}
use Rattle.qpu_record.proofs.LeftLemmas.{gives_last, never_fails, line_ends, goes_on, gives_run, begun_fits, gives_some, gives_none}
use Rattle.qpu_record.proofs.items.ItemsRuns.next.Goals as goal

pub invariant_of-self : goal.invariant_of-self
invariant_of-self c =
    (gives_last c.loop-line.self-inside.number c.loop-line.self-inside.begun c.loop-line.self-inside.text.now (cut_of c.first_line-line.result)
    c.loop-line.invariant.has c.first_line-line.ensures.cut (sym c.is_end.ensures ∙ c.if-is_end.true)).0

pub returns-then-is_end-clause-some : goal.returns-then-is_end-clause-some
returns-then-is_end-clause-some c =
    gives_some c.loop-line.self-inside.begun _ _ _ c.loop-line.invariant.left
    (gives_last c.loop-line.self-inside.number c.loop-line.self-inside.begun c.loop-line.self-inside.text.now (cut_of c.first_line-line.result)
    c.loop-line.invariant.has c.first_line-line.ensures.cut (sym c.is_end.ensures ∙ c.if-is_end.true)).1

pub returns-then-is_end-clause-none : goal.returns-then-is_end-clause-none
returns-then-is_end-clause-none c =
    gives_none c.loop-line.self-inside.begun _ _ _ c.loop-line.invariant.left
    (gives_last c.loop-line.self-inside.number c.loop-line.self-inside.begun c.loop-line.self-inside.text.now (cut_of c.first_line-line.result)
    c.loop-line.invariant.has c.first_line-line.ensures.cut (sym c.is_end.ensures ∙ c.if-is_end.true)).1

pub unreachable-requires : goal.unreachable-requires
unreachable-requires c =
    never_fails c.loop-line.self-inside.number c.loop-line.self-inside.begun c.loop-line.self-inside.text.now (cut_of c.first_line-line.result) c.in_default.field-0
    c.loop-line.invariant.has c.first_line-line.ensures.cut (sym c.is_end.ensures ∙ c.if-is_end.false) (sym c.item_at.ensures.is ∙ c.in_default.is)

pub joined-requires : goal.joined-requires
joined-requires c =
    begun_fits c.loop-line.self-inside.number c.loop-line.self-inside.begun c.loop-line.self-inside.text.now c.in-Ok.item c.loop-line.invariant.has c.in-Ok.ensures.few

pub invariant_of-self-in_default-joined : goal.invariant_of-self-in_default-joined
invariant_of-self-in_default-joined c =
    let other = sym c.is_end.ensures ∙ c.if-is_end.false in
    let ok = sym c.in-Ok.ensures.is in
    let found = line_ends c.loop-line.self-inside.number c.loop-line.self-inside.begun c.loop-line.self-inside.text.now (cut_of c.first_line-line.result) c.in-Ok.item c.loop-line.invariant.has c.first_line-line.ensures.cut other ok in
    (gives_run c.loop-line.self-inside.number c.loop-line.self-inside.begun c.loop-line.self-inside.text.now (cut_of c.first_line-line.result) c.in-Ok.item
    c.loop-line.invariant.has c.first_line-line.ensures.cut other ok (c.first_line-line.ensures.parts found) c.in-Ok.ensures.few (c.in_default-joined.ensures.none refl)).0

pub returns-in_default-joined-clause-some : goal.returns-in_default-joined-clause-some
returns-in_default-joined-clause-some c =
    let other = sym c.is_end.ensures ∙ c.if-is_end.false in
    let ok = sym c.in-Ok.ensures.is in
    let found = line_ends c.loop-line.self-inside.number c.loop-line.self-inside.begun c.loop-line.self-inside.text.now (cut_of c.first_line-line.result) c.in-Ok.item c.loop-line.invariant.has c.first_line-line.ensures.cut other ok in
    gives_some c.loop-line.self-inside.begun _ _ _ c.loop-line.invariant.left
    (gives_run c.loop-line.self-inside.number c.loop-line.self-inside.begun c.loop-line.self-inside.text.now (cut_of c.first_line-line.result) c.in-Ok.item
    c.loop-line.invariant.has c.first_line-line.ensures.cut other ok (c.first_line-line.ensures.parts found) c.in-Ok.ensures.few (c.in_default-joined.ensures.none refl)).1

pub returns-in_default-joined-clause-none : goal.returns-in_default-joined-clause-none
returns-in_default-joined-clause-none c =
    let other = sym c.is_end.ensures ∙ c.if-is_end.false in
    let ok = sym c.in-Ok.ensures.is in
    let found = line_ends c.loop-line.self-inside.number c.loop-line.self-inside.begun c.loop-line.self-inside.text.now (cut_of c.first_line-line.result) c.in-Ok.item c.loop-line.invariant.has c.first_line-line.ensures.cut other ok in
    gives_none c.loop-line.self-inside.begun _ _ _ c.loop-line.invariant.left
    (gives_run c.loop-line.self-inside.number c.loop-line.self-inside.begun c.loop-line.self-inside.text.now (cut_of c.first_line-line.result) c.in-Ok.item
    c.loop-line.invariant.has c.first_line-line.ensures.cut other ok (c.first_line-line.ensures.parts found) c.in-Ok.ensures.few (c.in_default-joined.ensures.none refl)).1

pub loop-line-smaller : goal.loop-line-smaller
loop-line-smaller c =
    let other = sym c.is_end.ensures ∙ c.if-is_end.false in
    let ok = sym c.in-Ok.ensures.is in
    let found = line_ends c.loop-line.self-inside.number c.loop-line.self-inside.begun c.loop-line.self-inside.text.now (cut_of c.first_line-line.result) c.in-Ok.item c.loop-line.invariant.has c.first_line-line.ensures.cut other ok in
    let parts = c.first_line-line.ensures.parts found in
    omega (arith, parts)

pub loop-line-preserved : goal.loop-line-preserved
loop-line-preserved c =
    let other = sym c.is_end.ensures ∙ c.if-is_end.false in
    let ok = sym c.in-Ok.ensures.is in
    let found = line_ends c.loop-line.self-inside.number c.loop-line.self-inside.begun c.loop-line.self-inside.text.now (cut_of c.first_line-line.result) c.in-Ok.item c.loop-line.invariant.has c.first_line-line.ensures.cut other ok in
    let goes = goes_on c.loop-line.self-inside.number c.loop-line.self-inside.begun c.loop-line.self-inside.text.now (cut_of c.first_line-line.result) c.in-Ok.item c.in-Some.run'
    c.loop-line.invariant.has c.first_line-line.ensures.cut other ok (c.first_line-line.ensures.parts found) c.in-Ok.ensures.few c.in-Some.ensures.some in
    record {
      utf8 = search rules;
      has = goes.0;
      left = c.loop-line.invariant.left ∙ goes.1;
    }
