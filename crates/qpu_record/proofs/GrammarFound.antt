-- What is read is a record.
use Rattle.std.proofs.Common.{◌≡◌, ℕ, ◌+◌, ◌^◌, ◌<◌, ◌≤◌, Bool, true, false, List, [], ◌∷◌, ◌++◌, length, take, drop, Option, Some, None, Result, Ok, Err, refl, ap, sym, ◌∙◌, subst, arith, append_assoc, length-append, length-take, codes}
use Rattle.std.specs.Prelude.{◌&&◌, nat_eq, nat_le, fold, flat_map, decimal, bytes_eq, option_and_then, if◌then◌else◌}
use Rattle.std.specs.List.{starts_with, AllByRecursion}
use Rattle.std.proofs.lemmas.Bool.{and_parts, eqb-true}
use Rattle.std.proofs.lemmas.Bool.Decides.{nat_tests, Decides-eqb}
use Rattle.std.proofs.lemmas.List.{take-append-drop}
use Rattle.std.proofs.lemmas.Slice.Eq.{bytes_eq-Decides, starts_is}
use Rattle.qpu_machine.specs.declared.journal.Run.{Run}
use Rattle.qpu_record.specs.declared.fault.RecordFault.{RecordFault}
use Rattle.qpu_record.specs.declared.fault.RecordFault.TheVariants as fault
use Rattle.qpu_record.specs.declared.parts.Version.{Version}
use Rattle.qpu_record.specs.declared.parts.Version.TheVariants.{First, Second}
use Rattle.qpu_record.specs.Record.{item_text, opening_line, ends_line, missing_line_end}
use Rattle.qpu_text.specs.Bytes.{LF, is_lf}
use Rattle.qpu_text.specs.Lines.{first_line}
use Rattle.qpu_record.specs.Numbers.{number_of}
use Rattle.qpu_record.specs.Items.{item_at}
use Rattle.qpu_record.specs.Heading.{Heading, JobPart, and_then, or_line, with_line_end, headed, that_fit, line_behind, begins_lf, opening, size_line, job_part, schedule_line, with_schedule, with_job, heading_of}
use Rattle.qpu_record.specs.Reading.{Schedule, Parts, parts_with, is_end, ended, open_item, schedule_of, after_heading, record_of}
use Rattle.qpu_record.specs.Grammar.{IsItem, put, IsBehind, nothing, line_end, IsRecord, ReadsRecordsAlone}
use Rattle.qpu_record.proofs.GrammarLemmas.{item_ends}
use Rattle.qpu_record.proofs.GrammarOnly.{front_grouped, feeds_front, line_of_items}
use Rattle.qpu_record.proofs.FoundLemmas.{cut_found, number_found, IsLineOfItem, item_found}

goes_on : {A B : Type 0} (r : Result A RecordFault) (f : A → Result B RecordFault) (b : B) → and_then r f ≡ Ok b → (a : A) × (r ≡ Ok a) × (f a ≡ Ok b)
goes_on (Ok a) f b e = (a, refl, e)
goes_on (Err fault) f b e = absurd (cc)

-- a line of given bytes
line_of : (text word : List ℕ) → bytes_eq (first_line text).front word ≡ true → (first_line text).found ≡ true → text ≡ word ++ LF ∷ (first_line text).rest
line_of text word is found =
    let front = (bytes_eq-Decides (first_line text).front word).0 is in
    cut_found LF text found ∙ ap (λ (t : List ℕ). t ++ LF ∷ (first_line text).rest) front

-- the first line

record IsOpened (text : List ℕ) (opened : Version × List ℕ) : Type 0 where
  pub written : text ≡ opening_line opened.0 ++ opened.1

opening_one : (text word : List ℕ) (version : Version) (opened : Version × List ℕ) (found : Bool) → word ++ LF ∷ [] ≡ opening_line version → bytes_eq (first_line text).front word ≡ true → (first_line text).found ≡ found
    → ◌≡◌ {A = Result (Version × List ℕ) RecordFault} (if found then Ok (version, (first_line text).rest) else Err (fault.Line 1)) (Ok opened) → IsOpened text opened
opening_one text word version opened true spelt is found e =
    let same : ◌≡◌ {A = Version × List ℕ} (version, (first_line text).rest) opened = cc in
    let rest = (first_line text).rest in
    subst (IsOpened text) same
    (record { written = line_of text word is found ∙ sym (append_assoc word (LF ∷ []) rest) ∙ ap (λ (t : List ℕ). t ++ rest) spelt })
opening_one text word version opened false spelt is found e = absurd (cc)

opening_by : (text : List ℕ) (opened : Version × List ℕ) (begins one two : Bool) → bytes_eq (first_line text).front (codes "qpurecord 1") ≡ one → bytes_eq (first_line text).front (codes "qpurecord 2") ≡ two
    → ◌≡◌ {A = Result (Version × List ℕ) RecordFault}
    (if begins then and_then (if one then Ok First else if two then Ok Second else Err fault.Version) (with_line_end (first_line text)) else Err (fault.Line 1)) (Ok opened)
    → IsOpened text opened
opening_by text opened true true two is other e = opening_one text (codes "qpurecord 1") First opened (first_line text).found refl is refl e
opening_by text opened true false true other is e = opening_one text (codes "qpurecord 2") Second opened (first_line text).found refl is refl e
opening_by text opened true false false a b e = absurd (cc)
opening_by text opened false one two a b e = absurd (cc)

opening_found : (text : List ℕ) (opened : Version × List ℕ) → opening text ≡ Ok opened → IsOpened text opened
unfolding opening
opening_found text opened e =
    opening_by text opened (starts_with nat_eq (first_line text).front (codes "qpurecord ")) (bytes_eq (first_line text).front (codes "qpurecord 1"))
    (bytes_eq (first_line text).front (codes "qpurecord 2")) refl refl e

-- the second line

pub record IsSizeLine (text : List ℕ) (size : ℕ) (rest : List ℕ) : Type 0 where
  pub written : text ≡ codes "job " ++ (decimal size ++ LF ∷ rest)
  pub fits : size ≤ length rest

fit_by : (size : ℕ) (behind : List ℕ) (sized : ℕ × List ℕ) (fits : Bool) → nat_le size (length behind) ≡ fits → ◌≡◌ {A = Option (ℕ × List ℕ)} (if fits then Some (size, behind) else None) (Some sized)
    → (size ≡ sized.0) × (behind ≡ sized.1) × (size ≤ length behind)
fit_by size behind sized true is e =
    let pair : ◌≡◌ {A = ℕ × List ℕ} (size, behind) sized = cc in
    (ap (λ (p : ℕ × List ℕ). p.0) pair, ap (λ (p : ℕ × List ℕ). p.1) pair, grind (arith, nat_tests))
fit_by size behind sized false is e = absurd (cc)

size_in : (text : List ℕ) (sized : ℕ × List ℕ) (told : Option ℕ) → length text < 2 ^ 64 → (first_line text).found ≡ true → starts_with nat_eq (first_line text).front (codes "job ") ≡ true
    → number_of (length (first_line text).rest) (drop 4 (first_line text).front) ≡ told → option_and_then (λ size. that_fit size (first_line text).rest) told ≡ Some sized
    → IsSizeLine text sized.0 sized.1
size_in text sized None small found begins is e = absurd (cc)
size_in text sized (Some size) small found begins is e =
    let rest = (first_line text).rest in
    let fit = fit_by size rest sized (nat_le size (length rest)) refl e in
    let split = cut_found LF text found in
    let long = ap (λ (t : List ℕ). length t) split in
    let below : length rest < 2 ^ 64 = omega (arith, long, small, length-append (first_line text).front (LF ∷ rest)) in
    let digits = number_found (length rest) (drop 4 (first_line text).front) size is fit.2 (omega (arith, below, fit.2)) in
    let front : (first_line text).front ≡ codes "job " ++ drop 4 (first_line text).front = (starts_is Decides-eqb (first_line text).front (codes "job ") _ refl).0 begins in
    let whole : text ≡ codes "job " ++ (decimal size ++ LF ∷ rest) = split ∙ ap (λ (t : List ℕ). t ++ LF ∷ rest) (front ∙ ap (λ (t : List ℕ). codes "job " ++ t) digits) in
    let here : IsSizeLine text size rest = record { written = whole; fits = fit.2 } in
    subst (λ (r : List ℕ). IsSizeLine text sized.0 r) fit.1 (subst (λ (n : ℕ). IsSizeLine text n rest) fit.0 here)

size_by : (text : List ℕ) (sized : ℕ × List ℕ) (is : Bool) → length text < 2 ^ 64 → ((first_line text).found && starts_with nat_eq (first_line text).front (codes "job ")) ≡ is
    → (if is then option_and_then (λ size. that_fit size (first_line text).rest) (number_of (length (first_line text).rest) (drop 4 (first_line text).front)) else None) ≡ Some sized
    → IsSizeLine text sized.0 sized.1
size_by text sized true small is e =
    let parts = and_parts (first_line text).found (starts_with nat_eq (first_line text).front (codes "job ")) is in
    size_in text sized (number_of (length (first_line text).rest) (drop 4 (first_line text).front)) small parts.0 parts.1 refl e
size_by text sized false small is e = absurd (cc)

size_found : (text : List ℕ) (sized : ℕ × List ℕ) → length text < 2 ^ 64 → size_line text ≡ Some sized → IsSizeLine text sized.0 sized.1
unfolding size_line
size_found text sized small e =
    size_by text sized ((first_line text).found && starts_with nat_eq (first_line text).front (codes "job ")) small refl e

line_given : {A : Type 0} (number : ℕ) (o : Option A) (a : A) → or_line number o ≡ Ok a → o ≡ Some a
line_given number None a e = absurd (cc)
line_given number (Some b) a e = cc

-- the job

pub record IsJobPart (size : ℕ) (text : List ℕ) (part : JobPart) : Type 0 where
  pub written : text ≡ part.job ++ (missing_line_end part.job ++ part.rest)
  pub long : size ≡ length part.job
  pub line : part.number ≡ line_behind part.job + length (missing_line_end part.job)

begins_with : (text : List ℕ) → begins_lf text ≡ true → text ≡ LF ∷ drop 1 text
begins_with [] e = absurd (cc)
begins_with (byte ∷ text) e = ap (λ (b : ℕ). b ∷ text) (eqb-true byte LF e)

job_by : (size : ℕ) (text job behind : List ℕ) (part : JobPart) (ends begins : Bool) → text ≡ job ++ behind → size ≡ length job → ends_line job ≡ ends → begins_lf behind ≡ begins
    → ◌≡◌ {A = Result JobPart RecordFault}
    (if ends then Ok (record { job = job; rest = behind; number = line_behind job })
    else if begins then Ok (record { job = job; rest = drop 1 behind; number = line_behind job + 1 })
    else Err (fault.Line (line_behind job))) (Ok part)
    → IsJobPart size text part
job_by size text job behind part true begins split long is b e =
    let same : ◌≡◌ {A = JobPart} (record { job = job; rest = behind; number = line_behind job }) part = cc in
    subst (IsJobPart size text) same (record { written = rw is split; long = long; line = rw is (omega arith) })
job_by size text job behind part false true split long is b e =
    let same : ◌≡◌ {A = JobPart} (record { job = job; rest = drop 1 behind; number = line_behind job + 1 }) part = cc in
    subst (IsJobPart size text) same
    (record { written = rw is (split ∙ ap (λ (t : List ℕ). job ++ t) (begins_with behind b)); long = long; line = rw is refl })
job_by size text job behind part false false split long is b e = absurd (cc)

job_found : (size : ℕ) (text : List ℕ) (part : JobPart) → size ≤ length text → job_part size text ≡ Ok part → IsJobPart size text part
unfolding job_part
job_found size text part fits e =
    job_by size text (take size text) (drop size text) part (ends_line (take size text)) (begins_lf (drop size text)) (sym (take-append-drop size text))
    (omega (arith, length-take size text, fits)) refl refl e

-- the line `schedule`

schedule_line_by : (number : ℕ) (text rest : List ℕ) (is : Bool) → ((first_line text).found && bytes_eq (first_line text).front (codes "schedule")) ≡ is
    → ◌≡◌ {A = Result (List ℕ) RecordFault} (if is then Ok (first_line text).rest else Err (fault.Line number)) (Ok rest) → text ≡ codes "schedule\n" ++ rest
schedule_line_by number text rest true is e =
    let parts = and_parts (first_line text).found (bytes_eq (first_line text).front (codes "schedule")) is in
    let behind : (first_line text).rest ≡ rest = cc in
    line_of text (codes "schedule") parts.1 parts.0 ∙ ap (λ (t : List ℕ). codes "schedule\n" ++ t) behind
schedule_line_by number text rest false is e = absurd (cc)

schedule_line_found : (number : ℕ) (text rest : List ℕ) → schedule_line number text ≡ Ok rest → text ≡ codes "schedule\n" ++ rest
unfolding schedule_line
schedule_line_found number text rest e =
    schedule_line_by number text rest ((first_line text).found && bytes_eq (first_line text).front (codes "schedule")) refl e

-- all that stands before the items

abbrev heading_text : Version → List ℕ → List ℕ → List ℕ
heading_text version job rest =
    opening_line version ++ (codes "job " ++ (decimal (length job) ++ LF ∷ (job ++ (missing_line_end job ++ (codes "schedule\n" ++ rest)))))

pub record IsHeading (text : List ℕ) (heading : Heading) : Type 0 where
  pub written : text ≡ heading_text heading.version heading.job heading.rest
  pub line : heading.number ≡ line_of_items heading.job
  pub fits : length heading.job < 2 ^ 64

heading_join : (text : List ℕ) (opened : Version × List ℕ) (size : ℕ) (sized : List ℕ) (part : JobPart) (rest : List ℕ) → length text < 2 ^ 64 → text ≡ opening_line opened.0 ++ opened.1
    → IsSizeLine opened.1 size sized → IsJobPart size sized part → part.rest ≡ codes "schedule\n" ++ rest → IsHeading text (headed opened.0 part rest)
heading_join text opened size sized part rest small first second third last = record {
  written =
      first ∙ ap (λ (t : List ℕ). opening_line opened.0 ++ t) (second.written ∙ rw (third.long, third.written, last) refl);
  line = omega (arith, third.line);
  fits =
      let a = ap (λ (t : List ℕ). length t) first in
      let b = length-append (opening_line opened.0) opened.1 in
      let c = ap (λ (t : List ℕ). length t) second.written in
      let d = length-append (decimal size) (LF ∷ sized) in
      omega (arith, small, a, b, c, d, second.fits, third.long);
}

heading_same : (text : List ℕ) (opened : Version × List ℕ) (size : ℕ) (sized : List ℕ) (part : JobPart) (heading : Heading) (rest : List ℕ) → length text < 2 ^ 64 → text ≡ opening_line opened.0 ++ opened.1
    → IsSizeLine opened.1 size sized → IsJobPart size sized part → part.rest ≡ codes "schedule\n" ++ rest
    → ◌≡◌ {A = Result Heading RecordFault} (Ok (headed opened.0 part rest)) (Ok heading) → IsHeading text heading
heading_same text opened size sized part heading rest small first second third last e =
    let same : ◌≡◌ {A = Heading} (headed opened.0 part rest) heading = cc in
    subst (IsHeading text) same (heading_join text opened size sized part rest small first second third last)

opened_short : (text : List ℕ) (opened : Version × List ℕ) → length text < 2 ^ 64 → text ≡ opening_line opened.0 ++ opened.1 → length opened.1 < 2 ^ 64
opened_short text opened small is =
    omega (arith, small, ap (λ (t : List ℕ). length t) is, length-append (opening_line opened.0) opened.1)

heading_found : (text : List ℕ) (heading : Heading) → length text < 2 ^ 64 → heading_of text ≡ Ok heading → IsHeading text heading
unfolding heading_of
heading_found text heading small e =
    let first = goes_on (opening text) with_job heading e in
    let opened = opening_found text first.0 first.1 in
    let below = opened_short text first.0 small opened.written in
    let second = goes_on (or_line 2 (size_line first.0.1)) (λ (sized : ℕ × List ℕ). and_then (job_part sized.0 sized.1) (with_schedule first.0.0)) heading first.2 in
    let size = size_found first.0.1 second.0 below (line_given 2 (size_line first.0.1) second.0 second.1) in
    let third = goes_on (job_part second.0.0 second.0.1) (with_schedule first.0.0) heading second.2 in
    let job = job_found second.0.0 second.0.1 third.0 size.fits third.1 in
    let last = goes_on (schedule_line third.0.number third.0.rest) (λ (rest : List ℕ). Ok (headed first.0.0 third.0 rest)) heading third.2 in
    let line = schedule_line_found third.0.number third.0.rest last.0 last.1 in
    heading_same text first.0 second.0.0 second.0.1 third.0 heading last.0 small opened.written size job line last.2

-- the items

pub record AreItems (number : ℕ) (runs : List Run) (text : List ℕ) (schedule : Schedule) : Type 0 where
  pub items : List Run
  pub ranges : AllByRecursion IsItem items
  pub behind : List ℕ
  pub written : text ≡ flat_map item_text items ++ (codes "endrecord" ++ behind)
  pub followed : IsBehind behind schedule.rest
  pub together : schedule.runs ≡ fold put runs items
  pub line : schedule.rest_line ≡ number + length items + 1

no_items : (number : ℕ) (runs : List Run) (text behind : List ℕ) (schedule : Schedule) (rest : List ℕ) → text ≡ codes "endrecord" ++ behind → IsBehind behind rest
    → ended number runs rest ≡ Ok schedule → AreItems number runs text schedule
no_items number runs text behind schedule rest written followed e =
    let same : ◌≡◌ {A = Schedule} (record { runs = runs; rest = rest; rest_line = number + 1 }) schedule = cc in
    subst (AreItems number runs text) same
    (record { items = []; ranges = tt; behind = behind; written = written; followed = followed; together = refl; line = omega arith })

one_more : (number : ℕ) (runs : List Run) (line text : List ℕ) (run : Run) (schedule : Schedule) → IsLineOfItem line run → AreItems (number + 1) (put runs run) text schedule
    → AreItems number runs (line ++ LF ∷ text) schedule
one_more number runs line text run schedule is more = record {
  items = run ∷ more.items;
  ranges = (is.item, more.ranges);
  behind = more.behind;
  written =
      let joined : item_text run ++ (flat_map item_text more.items ++ (codes "endrecord" ++ more.behind)) ≡ (item_text run ++ flat_map item_text more.items) ++ (codes "endrecord" ++ more.behind) =
      sym (append_assoc (item_text run) (flat_map item_text more.items) (codes "endrecord" ++ more.behind)) in
      ap (λ (t : List ℕ). t ++ LF ∷ text) is.written ∙ sym (item_ends run.actor run.count text) ∙ ap (λ (t : List ℕ). item_text run ++ t) more.written ∙ joined;
  followed = more.followed;
  together = more.together;
  line = omega (arith, more.line);
}

at_end : (number : ℕ) (runs : List Run) (line : List ℕ) (schedule : Schedule) (is : Bool) → is_end line ≡ is
    → (if is then ended number runs [] else and_then (item_at number line) (open_item number)) ≡ Ok schedule → AreItems number runs (line ++ []) schedule
at_end number runs line schedule true is e =
    let word = (bytes_eq-Decides line (codes "endrecord")).0 is in
    no_items number runs (line ++ []) [] schedule [] (ap (λ (t : List ℕ). t ++ []) word) nothing e
at_end number runs line schedule false is e =
    let turn = goes_on (item_at number line) (open_item number) schedule e in
    let wrong : ◌≡◌ {A = Result Schedule RecordFault} (Err (fault.Line number)) (Ok schedule) = turn.2 in
    absurd (cc)

at_line : (number : ℕ) (runs : List Run) (line text : List ℕ) (schedule : Schedule) (is : Bool) → is_end line ≡ is
    → (if is then ended number runs text else and_then (item_at number line) (λ run. schedule_of (number + 1) (put runs run) [] text)) ≡ Ok schedule
    → ((run : Run) → schedule_of (number + 1) (put runs run) [] text ≡ Ok schedule → AreItems (number + 1) (put runs run) text schedule)
    → AreItems number runs (line ++ LF ∷ text) schedule
at_line number runs line text schedule true is e more =
    let word = (bytes_eq-Decides line (codes "endrecord")).0 is in
    no_items number runs (line ++ LF ∷ text) (LF ∷ text) schedule text (ap (λ (t : List ℕ). t ++ LF ∷ text) word) (line_end text) e
at_line number runs line text schedule false is e more =
    let turn = goes_on (item_at number line) (λ (run : Run). schedule_of (number + 1) (put runs run) [] text) schedule e in
    one_more number runs line text turn.0 schedule (item_found number line turn.0 turn.1) (more turn.0 turn.2)

at_byte : (number : ℕ) (runs : List Run) (line : List ℕ) (byte : ℕ) (text : List ℕ) (schedule : Schedule) (is : Bool) → is_lf byte ≡ is
    → (if is then (if is_end line then ended number runs text else and_then (item_at number line) (λ run. schedule_of (number + 1) (put runs run) [] text))
    else schedule_of number runs (line ++ byte ∷ []) text) ≡ Ok schedule
    → ((run : Run) → schedule_of (number + 1) (put runs run) [] text ≡ Ok schedule → AreItems (number + 1) (put runs run) text schedule)
    → (schedule_of number runs (line ++ byte ∷ []) text ≡ Ok schedule → AreItems number runs ((line ++ byte ∷ []) ++ text) schedule)
    → AreItems number runs (line ++ byte ∷ text) schedule
at_byte number runs line byte text schedule true is e more on =
    rw (eqb-true byte LF is) (at_line number runs line text schedule (is_end line) refl e more)
at_byte number runs line byte text schedule false is e more on =
    subst (λ (t : List ℕ). AreItems number runs t schedule) (append_assoc line (byte ∷ []) text) (on e)

items_found : (number : ℕ) (runs : List Run) (line text : List ℕ) (schedule : Schedule) → schedule_of number runs line text ≡ Ok schedule → AreItems number runs (line ++ text) schedule
unfolding schedule_of
items_found number runs line [] schedule e = at_end number runs line schedule (is_end line) refl e
items_found number runs line (byte ∷ text) schedule e =
    at_byte number runs line byte text schedule (is_lf byte) refl e (λ run f. items_found (number + 1) (put runs run) [] text schedule f)
    (λ f. items_found number runs (line ++ byte ∷ []) text schedule f)

-- the whole

whole : (text : List ℕ) (heading : Heading) (schedule : Schedule) → IsHeading text heading → AreItems heading.number [] heading.rest schedule → IsRecord text (parts_with heading schedule)
whole text heading schedule head are = record {
  items = are.items;
  ranges = are.ranges;
  behind = are.behind;
  written =
      head.written ∙ ap (λ (t : List ℕ). heading_text heading.version heading.job t) are.written ∙ sym (front_grouped heading.version heading.job are.items are.behind);
  followed = are.followed;
  together = are.together;
  line = omega (arith, are.line, head.line, feeds_front heading.version heading.job are.items head.fits are.ranges);
}

pub records_alone : ReadsRecordsAlone
unfolding record_of
records_alone text parts fits e =
    let first = goes_on (heading_of text) after_heading parts e in
    let head = heading_found text first.0 fits first.1 in
    let second = goes_on (schedule_of first.0.number [] [] first.0.rest) (λ (schedule : Schedule). Ok (parts_with first.0 schedule)) parts first.2 in
    let are = items_found first.0.number [] [] first.0.rest second.0 second.1 in
    let same : ◌≡◌ {A = Parts} (parts_with first.0 second.0) parts = cc in
    subst (IsRecord text) same (whole text first.0 second.0 head are)
