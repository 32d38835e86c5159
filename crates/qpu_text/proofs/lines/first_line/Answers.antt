-- A text is cut behind its first line feed, or not at all.
use Rattle.std.proofs.Common.{sym, refl}
use Rattle.qpu_text.specs.Bytes.{LF}
use Rattle.qpu_text.proofs.LineLemmas.{cut_some, cut_none, lines_first, lines_last, lines_none, line_ends, lf_boundary}
use Rattle.qpu_text.proofs.lines.first_line.Goals as goal

pub split_at-requires : goal.split_at-requires
split_at-requires c =
    lf_boundary c.args.text.now c.in-Some.at c.utf8.text (rw c.as_bytes-bytes.ensures.value at (sym c.in-Some.ensures))

pub returns-in-None-clause-cut : goal.returns-in-None-clause-cut
returns-in-None-clause-cut c =
    let h = rw c.as_bytes-bytes.ensures.value at (sym c.in-None.ensures) in
    rw (cut_none LF c.args.text.now h, c.as_bytes-bytes.ensures.value) refl

pub returns-in-None-clause-whole : goal.returns-in-None-clause-whole
returns-in-None-clause-whole c =
    let h = rw c.as_bytes-bytes.ensures.value at (sym c.in-None.ensures) in
    rw (cut_none LF c.args.text.now h) refl

pub returns-in-None-clause-lines : goal.returns-in-None-clause-lines
returns-in-None-clause-lines c =
    let h = rw c.as_bytes-bytes.ensures.value at (sym c.in-None.ensures) in
    λ some. rw lines_none (lines_last c.args.text.now h some)

pub returns-in-Some-clause-cut : goal.returns-in-Some-clause-cut
returns-in-Some-clause-cut c =
    let h = rw c.as_bytes-bytes.ensures.value at (sym c.in-Some.ensures) in
    rw (cut_some LF c.args.text.now c.in-Some.at h, c.split_at.ensures.back, c.as_bytes-bytes.ensures.value) refl

pub returns-in-Some-clause-whole : goal.returns-in-Some-clause-whole
returns-in-Some-clause-whole c =
    let h = rw c.as_bytes-bytes.ensures.value at (sym c.in-Some.ensures) in
    rw (cut_some LF c.args.text.now c.in-Some.at h, c.split_at.ensures.front) (line_ends c.args.text.now c.in-Some.at h)

pub returns-in-Some-clause-lines : goal.returns-in-Some-clause-lines
returns-in-Some-clause-lines c =
    let h = rw c.as_bytes-bytes.ensures.value at (sym c.in-Some.ensures) in
    λ some. rw (c.split_at.ensures.front, c.split_at.ensures.back) (lines_first c.args.text.now c.in-Some.at h)
