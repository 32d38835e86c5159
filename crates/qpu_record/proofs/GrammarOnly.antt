-- Every record is read, and so is every one that was written.
use Rattle.std.proofs.Common.{◌≡◌, ◌≢◌, ℕ, suc, ◌+◌, ◌^◌, ◌<◌, ◌≤◌, Bool, true, false, List, [], ◌∷◌, ◌++◌, length, Some, Ok, refl, ap, sym, ◌∙◌, arith, append-nil, append_assoc, length-append, codes}
use Rattle.std.specs.Prelude.{nat_le, fold, flat_map, decimal, if◌then◌else◌}
use Rattle.std.specs.List.{list_any, AllByRecursion}
use Rattle.std.proofs.Math.Seq.{take-append_seam, drop-append_seam}
use Rattle.std.proofs.lemmas.Bool.{or_parts}
use Rattle.std.proofs.lemmas.Bool.Decides.{nat_tests}
use Rattle.std.proofs.lemmas.List.Sums.{sum_by-append, sum_by-cons}
use Rattle.qpu_io.specs.Text.{in_turn}
use Rattle.qpu_machine.specs.declared.actor.Actor.{Actor}
use Rattle.qpu_machine.specs.declared.journal.Run.{Run}
use Rattle.qpu_machine.specs.Journal.{IsMerged, is_same_actor, pushed}
use Rattle.qpu_machine.proofs.JournalLemmas.{not_of}
use Rattle.qpu_record.specs.declared.parts.Version.{Version}
use Rattle.qpu_record.specs.declared.parts.Version.TheVariants.{First, Second}
use Rattle.qpu_record.specs.Record.{item_text, opening_line, ends_line, missing_line_end, merged, runs_text, record_text}
use Rattle.qpu_text.specs.Bytes.{LF, is_lf}
use Rattle.qpu_text.specs.Lines.{cut_at, line_feeds}
use Rattle.qpu_record.specs.Heading.{line_behind, opening, size_line, job_part, schedule_line, heading_of}
use Rattle.qpu_record.specs.Reading.{Parts, schedule_of, record_of}
use Rattle.qpu_record.specs.Grammar.{IsItem, put, put_together, front_text, IsBehind, nothing, line_end, ReadsEveryRecord, RecordsAreRead}
use Rattle.qpu_record.proofs.MergedLemmas.{is_merged}
use Rattle.qpu_text.proofs.LineLemmas.{is_mark}
use Rattle.qpu_record.proofs.ReadLemmas.{by_first_line}
use Rattle.qpu_record.proofs.GrammarLemmas.{Lacks, cut_behind, cut_nowhere, number_lacks, number_read, item_line, item_ends, line_lacks, no_end, item_read}

-- what stands before the items

opening_read : (version : Version) (rest : List ℕ) → opening (opening_line version ++ rest) ≡ Ok (version, rest)
unfolding opening cut_at
opening_read First rest = refl
opening_read Second rest = refl

size_read : (n : ℕ) (rest : List ℕ) → n ≤ length rest → n < 2 ^ 64 → size_line (codes "job " ++ (decimal n ++ LF ∷ rest)) ≡ Some (n, rest)
unfolding size_line
size_read n rest within fits =
    let cut = cut_behind LF (codes "job " ++ decimal n) rest (number_lacks LF n (omega arith) fits) in
    let test : nat_le n (length rest) ≡ true = grind (arith, nat_tests) in
    rw (cut, number_read (length rest) n within fits, test) refl

job_by : (job rest : List ℕ) (ends : Bool) → ends_line job ≡ ends
    → job_part (length job) (job ++ (missing_line_end job ++ rest)) ≡ Ok (record { job = job; rest = rest; number = line_behind job + length (missing_line_end job) })
unfolding job_part
job_by job rest true is =
    rw (take-append_seam job (missing_line_end job ++ rest), drop-append_seam job (missing_line_end job ++ rest), is)
    (ap (λ (k : ℕ). Ok (record { job = job; rest = rest; number = k })) (omega arith))
job_by job rest false is =
    rw (take-append_seam job (missing_line_end job ++ rest), drop-append_seam job (missing_line_end job ++ rest), is) refl

schedule_read : (number : ℕ) (rest : List ℕ) → schedule_line number (codes "schedule\n" ++ rest) ≡ Ok rest
unfolding schedule_line cut_at
schedule_read number rest = refl

abbrev pub line_of_items : List ℕ → ℕ
line_of_items job = line_behind job + length (missing_line_end job) + 1

heading_read : (version : Version) (job rest : List ℕ) → length job < 2 ^ 64
    → heading_of (opening_line version ++ (codes "job " ++ (decimal (length job) ++ LF ∷ (job ++ (missing_line_end job ++ (codes "schedule\n" ++ rest))))))
    ≡ Ok (record { version = version; job = job; rest = rest; number = line_of_items job })
unfolding heading_of
heading_read version job rest fits =
    let behind = missing_line_end job ++ (codes "schedule\n" ++ rest) in
    let within : length job ≤ length (job ++ behind) = omega (arith, length-append job behind) in
    rw (
      opening_read version (codes "job " ++ (decimal (length job) ++ LF ∷ (job ++ behind))),
      size_read (length job) (job ++ behind) within fits,
      job_by job (codes "schedule\n" ++ rest) (ends_line job) refl,
      schedule_read (line_behind job + length (missing_line_end job)) rest,
    )
    refl

-- the items

end_read : (number : ℕ) (runs : List Run) (behind rest : List ℕ) → IsBehind behind rest
    → schedule_of number runs [] (codes "endrecord" ++ behind) ≡ Ok (record { runs = runs; rest = rest; rest_line = number + 1 })
end_read number runs behind rest nothing =
    rw (by_first_line number runs (codes "endrecord"), cut_nowhere LF (codes "endrecord") refl) refl
end_read number runs behind rest (line_end more) =
    rw (by_first_line number runs (codes "endrecord" ++ LF ∷ more), cut_behind LF (codes "endrecord") more refl) refl

items_read : (items : List Run) (number : ℕ) (runs : List Run) (behind rest : List ℕ) → AllByRecursion IsItem items → IsBehind behind rest
    → schedule_of number runs [] (flat_map item_text items ++ (codes "endrecord" ++ behind))
    ≡ Ok (record { runs = fold put runs items; rest = rest; rest_line = number + length items + 1 })
items_read [] number runs behind rest ranges is =
    end_read number runs behind rest is ∙ ap (λ (k : ℕ). Ok (record { runs = runs; rest = rest; rest_line = k })) (omega arith)
items_read (run ∷ items) number runs behind rest ranges is =
    let more = flat_map item_text items ++ (codes "endrecord" ++ behind) in
    let split : (item_text run ++ flat_map item_text items) ++ (codes "endrecord" ++ behind) ≡ item_line run.actor run.count ++ LF ∷ more =
    append_assoc (item_text run) (flat_map item_text items) (codes "endrecord" ++ behind) ∙ item_ends run.actor run.count more in
    let cut = cut_behind LF (item_line run.actor run.count) more (line_lacks run.actor run.count ranges.0.0 ranges.0.2) in
    let item = item_read number run.actor run.count ranges.0.0 ranges.0.1 ranges.0.2 in
    let rest_read = items_read items (number + 1) (put runs run) behind rest ranges.1 is in
    let lines : number + 1 + length items + 1 ≡ number + suc (length items) + 1 = omega arith in
    rw (split, by_first_line number runs (item_line run.actor run.count ++ LF ∷ more), cut, no_end run.actor run.count, item)
    (rest_read ∙ ap (λ (k : ℕ). Ok (record { runs = fold put (put runs run) items; rest = rest; rest_line = k })) lines)

-- line feeds

feeds_first : (byte : ℕ) (text : List ℕ) → line_feeds (byte ∷ text) ≡ (if is_lf byte then 1 else 0) + line_feeds text
feeds_first byte text = sum_by-cons (λ (b : ℕ). if is_lf b then 1 else 0) byte text

feeds_more : (xs ys : List ℕ) → line_feeds (xs ++ ys) ≡ line_feeds xs + line_feeds ys
feeds_more xs ys = sum_by-append (λ (b : ℕ). if is_lf b then 1 else 0) xs ys

no_feeds : (text : List ℕ) → Lacks LF text → line_feeds text ≡ 0
no_feeds [] lacks = refl
no_feeds (byte ∷ text) lacks =
    let parts = or_parts (is_mark LF byte) (list_any (is_mark LF) text) lacks in
    feeds_first byte text ∙ rw (parts.0, no_feeds text parts.1) refl

feeds_line : (line rest : List ℕ) → Lacks LF line → line_feeds (line ++ LF ∷ rest) ≡ 1 + line_feeds rest
feeds_line line rest lacks = omega (arith, feeds_more line (LF ∷ rest), no_feeds line lacks, feeds_first LF rest)

feeds_items : (items : List Run) → AllByRecursion IsItem items → line_feeds (flat_map item_text items) ≡ length items
feeds_items [] ranges = refl
feeds_items (run ∷ items) ranges =
    let one = feeds_line (item_line run.actor run.count) (flat_map item_text items) (line_lacks run.actor run.count ranges.0.0 ranges.0.2) in
    rw (item_ends run.actor run.count (flat_map item_text items)) (omega (arith, one, feeds_items items ranges.1))

feeds_missing_by : (job : List ℕ) (ends : Bool) → ends_line job ≡ ends → line_feeds (missing_line_end job) ≡ length (missing_line_end job)
feeds_missing_by job true is = rw is refl
feeds_missing_by job false is = rw is refl

feeds_size : (n : ℕ) → n < 2 ^ 64 → line_feeds (codes "job " ++ (decimal n ++ LF ∷ [])) ≡ 1
feeds_size n fits = feeds_line (codes "job " ++ decimal n) [] (number_lacks LF n (omega arith) fits)

feeds_opening : (version : Version) → line_feeds (opening_line version) ≡ 1
feeds_opening First = refl
feeds_opening Second = refl

pub feeds_front : (version : Version) (job : List ℕ) (items : List Run) → length job < 2 ^ 64 → AllByRecursion IsItem items
    → line_feeds (front_text version job items) + 2 ≡ line_of_items job + length items + 1
unfolding front_text in_turn
feeds_front version job items fits ranges =
    let a = opening_line version in
    let b = codes "job " ++ (decimal (length job) ++ LF ∷ []) in
    let c = missing_line_end job in
    let d = codes "schedule\n" in
    let e = flat_map item_text items in
    let f = codes "endrecord" in
    omega (
      arith,
      feeds_opening version,
      feeds_more a (b ++ (job ++ (c ++ (d ++ (e ++ f))))),
      feeds_more b (job ++ (c ++ (d ++ (e ++ f)))),
      feeds_more job (c ++ (d ++ (e ++ f))),
      feeds_more c (d ++ (e ++ f)),
      feeds_more d (e ++ f),
      feeds_more e f,
      feeds_size (length job) fits,
      feeds_missing_by job (ends_line job) refl,
      feeds_items items ranges,
    )

-- the whole

regroup : (a b c d e f g r : List ℕ) → (a ++ (b ++ (c ++ (d ++ (e ++ (f ++ g)))))) ++ r ≡ a ++ (b ++ (c ++ (d ++ (e ++ (f ++ (g ++ r))))))
regroup a b c d e f g r = simp append_assoc

size_regroup : (n r : List ℕ) → (codes "job " ++ (n ++ LF ∷ [])) ++ r ≡ codes "job " ++ (n ++ LF ∷ r)
size_regroup n r = simp append_assoc

pub front_grouped : (version : Version) (job : List ℕ) (items : List Run) (behind : List ℕ) → front_text version job items ++ behind
    ≡ opening_line version ++ (codes "job " ++ (decimal (length job) ++ LF ∷ (job ++ (missing_line_end job ++ (codes "schedule\n" ++ (flat_map item_text items ++ (codes "endrecord" ++ behind)))))))
unfolding front_text in_turn
front_grouped version job items behind =
    regroup (opening_line version) (codes "job " ++ (decimal (length job) ++ LF ∷ [])) job (missing_line_end job) (codes "schedule\n") (flat_map item_text items) (codes "endrecord") behind
    ∙ ap (λ (t : List ℕ). opening_line version ++ t) (size_regroup (decimal (length job)) _)

pub record_read : (version : Version) (job : List ℕ) (items : List Run) (behind rest : List ℕ) → length job < 2 ^ 64 → AllByRecursion IsItem items → IsBehind behind rest
    → record_of (front_text version job items ++ behind)
    ≡ Ok (record { version = version; job = job; runs = put_together items; rest = rest; rest_line = line_feeds (front_text version job items) + 2 })
unfolding record_of
record_read version job items behind rest fits ranges is =
    rw (
      front_grouped version job items behind,
      heading_read version job (flat_map item_text items ++ (codes "endrecord" ++ behind)) fits,
      items_read items (line_of_items job) [] behind rest ranges is,
    )
    (ap (λ (k : ℕ). Ok (record { version = version; job = job; runs = put_together items; rest = rest; rest_line = k })) (sym (feeds_front version job items fits ranges)))

job_within : (version : Version) (job : List ℕ) (items : List Run) (behind : List ℕ) → length job ≤ length (front_text version job items ++ behind)
job_within version job items behind =
    let tail = missing_line_end job ++ (codes "schedule\n" ++ (flat_map item_text items ++ (codes "endrecord" ++ behind))) in
    let front = opening_line version ++ (codes "job " ++ (decimal (length job) ++ LF ∷ [])) in
    let split : front_text version job items ++ behind ≡ front ++ (job ++ tail) =
    front_grouped version job items behind
    ∙ (ap (λ (t : List ℕ). opening_line version ++ t) (sym (size_regroup (decimal (length job)) (job ++ tail)))
    ∙ sym (append_assoc (opening_line version) (codes "job " ++ (decimal (length job) ++ LF ∷ [])) (job ++ tail))) in
    rw split (omega (arith, length-append front (job ++ tail), length-append job tail))

same_parts : (parts : Parts) (runs : List Run) (line : ℕ) → parts.runs ≡ runs → parts.rest_line ≡ line
    → ◌≡◌ {A = Parts} (record { version = parts.version; job = parts.job; runs = runs; rest = parts.rest; rest_line = line }) parts
same_parts parts runs line a b =
    ap (λ (r : List Run). record { version = parts.version; job = parts.job; runs = r; rest = parts.rest; rest_line = line }) (sym a)
    ∙ ap (λ (k : ℕ). record { version = parts.version; job = parts.job; runs = parts.runs; rest = parts.rest; rest_line = k }) (sym b)

pub every_record : ReadsEveryRecord
every_record text parts fits is =
    let within : length parts.job ≤ length text = rw is.written (job_within parts.version parts.job is.items is.behind) in
    let read = record_read parts.version parts.job is.items is.behind parts.rest (omega (arith, within, fits)) is.ranges is.followed in
    rw (is.written, read) (ap (λ (p : Parts). Ok p) (same_parts parts _ _ is.together is.line))

-- merged runs stay as they are

pushed_other : (front : List Run) (last : Run) (actor : Actor) (count : ℕ) → last.actor ≢ actor
    → pushed (front ++ last ∷ []) actor count ≡ (front ++ last ∷ []) ++ (record { actor = actor; count = count }) ∷ []
unfolding pushed
pushed_other [] last actor count other = rw (not_of last.actor actor (is_same_actor last.actor actor) refl other) refl
pushed_other (run ∷ []) last actor count other =
    rw (not_of last.actor actor (is_same_actor last.actor actor) refl other) refl
pushed_other (run ∷ next ∷ front) last actor count other =
    ap (λ (runs : List Run). run ∷ runs) (pushed_other (next ∷ front) last actor count other)

put_behind : (runs front : List Run) (last : Run) → IsMerged (last ∷ runs) → fold put (front ++ last ∷ []) runs ≡ front ++ last ∷ runs
put_behind [] front last all = refl
put_behind (run ∷ runs) front last all =
    let one = pushed_other front last run.actor run.count all.1 in
    let more = put_behind runs (front ++ last ∷ []) run all.2 in
    rw one (more ∙ append_assoc front (last ∷ []) (run ∷ runs))

stays : (runs : List Run) → IsMerged runs → put_together runs ≡ runs
unfolding pushed
stays [] all = refl
stays (run ∷ runs) all = put_behind runs [] run all

-- a record that was written

runs_grouped : (job : List ℕ) (items : List Run) (rest : List ℕ) → runs_text job items ++ rest
    ≡ opening_line Second ++ (codes "job " ++ (decimal (length job) ++ LF ∷ (job ++ (missing_line_end job ++ (codes "schedule\n" ++ (flat_map item_text items ++ (codes "endrecord" ++ LF ∷ rest)))))))
unfolding runs_text in_turn
runs_grouped job items rest =
    regroup (opening_line Second) (codes "job " ++ (decimal (length job) ++ LF ∷ [])) job (missing_line_end job) (codes "schedule\n") (flat_map item_text items) (codes "endrecord\n") rest
    ∙ ap (λ (t : List ℕ). opening_line Second ++ t) (size_regroup (decimal (length job)) _)

runs_front : (job : List ℕ) (items : List Run) (rest : List ℕ) → runs_text job items ++ rest ≡ front_text Second job items ++ LF ∷ rest
runs_front job items rest = runs_grouped job items rest ∙ sym (front_grouped Second job items (LF ∷ rest))

feeds_runs : (job : List ℕ) (items : List Run) → 1 + line_feeds (runs_text job items) ≡ line_feeds (front_text Second job items) + 2
feeds_runs job items =
    let same = sym (append-nil (runs_text job items)) ∙ runs_front job items [] in
    let all = ap (λ (t : List ℕ). line_feeds t) same in
    omega (arith, all, feeds_more (front_text Second job items) (LF ∷ []), feeds_first LF [])

pub records_are_read : RecordsAreRead
unfolding record_text
records_are_read job s rest fits ranges =
    let read = record_read Second job (merged s) (LF ∷ rest) rest fits ranges (line_end rest) in
    let together = stays (merged s) (is_merged s) in
    rw (runs_front job (merged s) rest, read, together)
    (ap (λ (k : ℕ). Ok (record { version = Second; job = job; runs = merged s; rest = rest; rest_line = k })) (sym (feeds_runs job (merged s))))
