-- Reading item after item: what is read before a line and behind it, and how it ends.
use Rattle.std.proofs.Common.{◌≡◌, ℕ, ◌+◌, ◌*◌, ◌^◌, ◌<◌, ◌≤◌, Bool, true, false, List, [], ◌∷◌, ◌++◌, length, replicate, Result, Ok, Err, refl, ap, sym, ◌∙◌, arith, append-nil, append_assoc}
use Rattle.std.specs.Prelude.{if◌then◌else◌}
use Rattle.std.proofs.lemmas.List.{length-replicate}
use Rattle.qpu_machine.specs.declared.actor.Actor.{Actor}
use Rattle.qpu_machine.specs.declared.journal.Run.{Run}
use Rattle.qpu_machine.specs.Journal.{pushed, last_count, steps_in}
use Rattle.qpu_machine.proofs.JournalLemmas.{spells_more}
use Rattle.qpu_machine.proofs.SerialLemmas.{gained_count, last_few}
use Rattle.qpu_record.specs.declared.fault.RecordFault.{RecordFault}
use Rattle.qpu_record.specs.declared.fault.RecordFault.TheVariants as fault
use Rattle.qpu_record.specs.declared.item.TheConstants.{MOST_COUNT}
use Rattle.qpu_record.specs.declared.parts.TheConstants.{MOST_TEXT}
use Rattle.qpu_text.specs.Bytes.{is_lf}
use Rattle.qpu_text.specs.Lines.{Cut, with_front, cut_at, first_line}
use Rattle.qpu_record.specs.Items.{item_at}
use Rattle.qpu_record.specs.Heading.{and_then}
use Rattle.qpu_record.specs.Reading.{Schedule, is_end, ended, open_item, schedule_of}

-- the schedule, by its first line

abbrev pub put : List Run → Run → List Run
put runs run = pushed runs run.actor run.count

abbrev pub behind : ℕ → List Run → Cut → Run → Result Schedule RecordFault
behind number runs cut run =
    if cut.found then schedule_of (number + 1) (put runs run) [] cut.rest else open_item number run

abbrev pub by_line : ℕ → List Run → Cut → Result Schedule RecordFault
by_line number runs cut =
    if is_end cut.front then ended number runs cut.rest
    else and_then (item_at number cut.front) (behind number runs cut)

abbrev onto : List ℕ → Cut → Cut
onto front cut = with_front (front ++ cut.front) cut

schedule_by : (number : ℕ) (runs : List Run) (line : List ℕ) (byte : ℕ) (text : List ℕ) (here : Bool) → is_lf byte ≡ here
    → schedule_of number runs (line ++ byte ∷ []) text ≡ by_line number runs (onto (line ++ byte ∷ []) (first_line text))
    → schedule_of number runs line (byte ∷ text) ≡ by_line number runs (onto line (first_line (byte ∷ text)))
unfolding schedule_of cut_at
schedule_by number runs line byte text true is more = rw (is, append-nil line) refl
schedule_by number runs line byte text false is more =
    let join : (line ++ byte ∷ []) ++ (first_line text).front ≡ line ++ byte ∷ (first_line text).front = append_assoc line (byte ∷ []) (first_line text).front in
    rw is (more ∙ rw join refl)

schedule_is : (number : ℕ) (runs : List Run) (line text : List ℕ) → schedule_of number runs line text ≡ by_line number runs (onto line (first_line text))
unfolding schedule_of cut_at
schedule_is number runs line [] = rw (append-nil line) refl
schedule_is number runs line (byte ∷ text) =
    schedule_by number runs line byte text (is_lf byte) refl (schedule_is number runs (line ++ byte ∷ []) text)

pub by_first_line : (number : ℕ) (runs : List Run) (text : List ℕ) → schedule_of number runs [] text ≡ by_line number runs (first_line text)
by_first_line number runs text = schedule_is number runs [] text

-- what is due, from the line of this number on, with these runs above it
pub record IsRead (due : Result Schedule RecordFault) (number : ℕ) (runs : List Run) (rest : List ℕ) : Type 0 where
  pub read : schedule_of number runs [] rest ≡ due
  pub room : number + length rest ≤ MOST_TEXT
  pub steps : steps_in runs ≤ MOST_COUNT * number

pub read_nothing : (number : ℕ) (text : List ℕ) → number + length text ≤ MOST_TEXT → IsRead (schedule_of number [] [] text) number [] text
read_nothing number text room = record { read = refl; room = room; steps = omega arith }

line_due : {due : Result Schedule RecordFault} (number : ℕ) (runs : List Run) (rest : List ℕ) (cut : Cut) → IsRead due number runs rest → cut ≡ first_line rest → by_line number runs cut ≡ due
line_due number runs rest cut r is = rw is (sym (by_first_line number runs rest) ∙ r.read)

pub read_ends : {due : Result Schedule RecordFault} (number : ℕ) (runs : List Run) (rest : List ℕ) (cut : Cut) → IsRead due number runs rest → cut ≡ first_line rest
    → is_end cut.front ≡ true → due ≡ ended number runs cut.rest
read_ends number runs rest cut r is end = sym (line_due number runs rest cut r is) ∙ rw end refl

-- an item

item_due : {due : Result Schedule RecordFault} (number : ℕ) (runs : List Run) (rest : List ℕ) (cut : Cut) → IsRead due number runs rest → cut ≡ first_line rest
    → is_end cut.front ≡ false → and_then (item_at number cut.front) (behind number runs cut) ≡ due
item_due number runs rest cut r is other = let e = line_due number runs rest cut r is in rw other at e

pub read_fails : {due : Result Schedule RecordFault} (number : ℕ) (runs : List Run) (rest : List ℕ) (cut : Cut) (f : RecordFault) → IsRead due number runs rest → cut ≡ first_line rest
    → is_end cut.front ≡ false → item_at number cut.front ≡ Err f → due ≡ Err f
read_fails number runs rest cut f r is other fails = sym (item_due number runs rest cut r is other) ∙ rw fails refl

pub read_open : {due : Result Schedule RecordFault} (number : ℕ) (runs : List Run) (rest : List ℕ) (cut : Cut) (run : Run) → IsRead due number runs rest → cut ≡ first_line rest
    → is_end cut.front ≡ false → item_at number cut.front ≡ Ok run → cut.found ≡ false → due ≡ Err (fault.Line number)
read_open number runs rest cut run r is other item none = sym (item_due number runs rest cut r is other) ∙ rw (item, none) refl

more_steps : (runs : List Run) (run : Run) → steps_in (put runs run) ≡ steps_in runs + run.count
more_steps runs run =
    let more = gained_count runs (put runs run) (replicate run.count run.actor) (spells_more runs run.actor run.count) in
    more ∙ ap (λ n. steps_in runs + n) (length-replicate run.count run.actor)

pub read_more : {due : Result Schedule RecordFault} (number : ℕ) (runs : List Run) (rest : List ℕ) (cut : Cut) (run : Run) → IsRead due number runs rest → cut ≡ first_line rest
    → is_end cut.front ≡ false → item_at number cut.front ≡ Ok run → cut.found ≡ true → length cut.front + length cut.rest + 1 ≡ length rest → run.count ≤ MOST_COUNT
    → IsRead due (number + 1) (put runs run) cut.rest
read_more number runs rest cut run r is other item found long few = record {
  read =
      let e : and_then (item_at number cut.front) (behind number runs cut) ≡ schedule_of (number + 1) (put runs run) [] cut.rest = rw (item, found) refl in
      sym e ∙ item_due number runs rest cut r is other;
  room = omega (arith, long, r.room);
  steps = omega (arith, more_steps runs run, r.steps, few);
}

-- the counts of runs stay small
pub has_room : {due : Result Schedule RecordFault} (number : ℕ) (runs : List Run) (rest : List ℕ) (actor : Actor) (count : ℕ) → IsRead due number runs rest → count ≤ MOST_COUNT → last_count runs actor + count < 2 ^ 64
has_room number runs rest actor count r few = omega (arith, last_few runs actor, r.steps, r.room, few)
