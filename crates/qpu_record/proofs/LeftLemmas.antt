-- The runs that items give, line by line.
use Rattle.std.proofs.Common.{◌≡◌, ◌≢◌, ◌≤◌, ◌<◌, ℕ, ◌+◌, ◌^◌, Bool, true, false, List, [], ◌∷◌, ◌++◌, length, Option, Some, None, Result, Ok, Err, IfSome, IsNone, is_ok, refl, ap, sym, ◌∙◌, subst, arith}
use Rattle.std.specs.Prelude.{if◌then◌else◌}
use Rattle.qpu_machine.specs.declared.actor.Actor.{Actor}
use Rattle.qpu_machine.specs.declared.journal.Run.{Run}
use Rattle.qpu_machine.specs.Journal.{is_same_actor, pushed}
use Rattle.qpu_machine.proofs.JournalLemmas.{counts_on, one_more}
use Rattle.qpu_record.specs.declared.fault.RecordFault.{RecordFault}
use Rattle.qpu_record.specs.declared.item.TheConstants.{MOST_COUNT}
use Rattle.qpu_record.specs.declared.parts.TheConstants.{MOST_TEXT}
use Rattle.qpu_record.specs.declared.reading.Ended.{Ended}
use Rattle.qpu_text.specs.Bytes.{is_lf}
use Rattle.qpu_text.specs.Lines.{Cut, first_line}
use Rattle.qpu_record.specs.Items.{item_at}
use Rattle.qpu_record.specs.Heading.{and_then}
use Rattle.qpu_record.specs.Reading.{Schedule, is_end, ended, open_item, schedule_of}
use Rattle.qpu_record.specs.Left.{above, runs_in, runs_left, HasItems, with_item, IsApart, GivesRun}
use Rattle.qpu_record.specs.Told.{EndsAs}
use Rattle.qpu_record.proofs.ReadLemmas.{IsRead, read_ends, read_fails, read_open, read_more}

-- a run in front stays in front

abbrev with_run : Run → Result Schedule RecordFault → Result Schedule RecordFault
with_run run (Ok schedule) = Ok (record schedule { runs = run ∷ schedule.runs })
with_run run (Err fault) = Err fault

-- some runs
abbrev Has : List Run → Type 0
Has runs = (x : Run) × ((xs : List Run) × (runs ≡ x ∷ xs))

one_pushed : (x : Run) (actor : Actor) (count : ℕ) (same : Bool)
    → Has (if same then (record x { count = x.count + count }) ∷ [] else x ∷ (record { actor = actor; count = count }) ∷ [])
one_pushed x actor count true = (record x { count = x.count + count }, ([], refl))
one_pushed x actor count false = (x, ((record { actor = actor; count = count }) ∷ [], refl))

some_pushed : (x : Run) (xs : List Run) (actor : Actor) (count : ℕ) → Has (pushed (x ∷ xs) actor count)
unfolding pushed
some_pushed x [] actor count = one_pushed x actor count (is_same_actor x.actor actor)
some_pushed x (y ∷ ys) actor count = (x, (pushed (y ∷ ys) actor count, refl))

abbrev Stays : Run → ℕ → List Run → List ℕ → List ℕ → Type 0
Stays run number runs line text = schedule_of number (run ∷ runs) line text ≡ with_run run (schedule_of number runs line text)

item_stays : (run : Run) (number : ℕ) (x : Run) (xs : List Run) (text : List ℕ) (r : Result Run RecordFault)
    → ((y : Run) (ys : List Run) → Stays run (number + 1) (y ∷ ys) [] text)
    → and_then r (λ item. schedule_of (number + 1) (pushed (run ∷ x ∷ xs) item.actor item.count) [] text)
    ≡ with_run run (and_then r (λ item. schedule_of (number + 1) (pushed (x ∷ xs) item.actor item.count) [] text))
unfolding pushed
item_stays run number x xs text (Err fault) more = refl
item_stays run number x xs text (Ok item) more =
    let has = some_pushed x xs item.actor item.count in
    subst (λ (runs : List Run). Stays run (number + 1) runs [] text) (sym has.1.1) (more has.0 has.1.0)

last_stays : (run : Run) (number : ℕ) (r : Result Run RecordFault)
    → and_then r (open_item number) ≡ with_run run (and_then r (open_item number))
last_stays run number (Ok item) = refl
last_stays run number (Err fault) = refl

end_stays : (run : Run) (number : ℕ) (runs : List Run) (r : Result Run RecordFault) (end : Bool)
    → (if end then ended number (run ∷ runs) [] else and_then r (open_item number))
    ≡ with_run run (if end then ended number runs [] else and_then r (open_item number))
end_stays run number runs r true = refl
end_stays run number runs r false = last_stays run number r

line_stays : (run : Run) (number : ℕ) (x : Run) (xs : List Run) (line text : List ℕ) (byte : ℕ) (r : Result Run RecordFault) (end here : Bool)
    → ((y : Run) (ys : List Run) → Stays run (number + 1) (y ∷ ys) [] text)
    → Stays run number (x ∷ xs) (line ++ byte ∷ []) text
    → (if here then (if end then ended number (run ∷ x ∷ xs) text
    else and_then r (λ item. schedule_of (number + 1) (pushed (run ∷ x ∷ xs) item.actor item.count) [] text))
    else schedule_of number (run ∷ x ∷ xs) (line ++ byte ∷ []) text)
    ≡ with_run run (if here then (if end then ended number (x ∷ xs) text
    else and_then r (λ item. schedule_of (number + 1) (pushed (x ∷ xs) item.actor item.count) [] text))
    else schedule_of number (x ∷ xs) (line ++ byte ∷ []) text)
line_stays run number x xs line text byte r end false next on = on
line_stays run number x xs line text byte r true true next on = refl
line_stays run number x xs line text byte r false true next on = item_stays run number x xs text r next

front_stays : (run : Run) (number : ℕ) (x : Run) (xs : List Run) (line text : List ℕ) → Stays run number (x ∷ xs) line text
unfolding schedule_of
front_stays run number x xs line [] = end_stays run number (x ∷ xs) (item_at number line) (is_end line)
front_stays run number x xs line (byte ∷ text) =
    line_stays run number x xs line text byte (item_at number line) (is_end line) (is_lf byte)
    (λ y ys. front_stays run (number + 1) y ys [] text) (front_stays run number x xs (line ++ byte ∷ []) text)

ok_behind : (run : Run) (s : Result Schedule RecordFault) → is_ok (with_run run s) ≡ true → is_ok s ≡ true
ok_behind run (Ok schedule) is = refl
ok_behind run (Err fault) is = is

runs_behind : (run : Run) (s : Result Schedule RecordFault) → is_ok (with_run run s) ≡ true → runs_in (with_run run s) ≡ run ∷ runs_in s
runs_behind run (Ok schedule) is = refl
runs_behind run (Err fault) is = absurd (let f : false ≡ true = is in cc)

-- there are no more runs than bytes

abbrev Short : ℕ → Result Schedule RecordFault → Type 0
Short n s = length (runs_in s) ≤ n

short_item : (n : ℕ) (r : Result Run RecordFault) (k : Run → Result Schedule RecordFault) → ((run : Run) → Short n (k run)) → Short n (and_then r k)
short_item n (Ok run) k all = all run
short_item n (Err fault) k all = omega arith

one_short : (x : Run) (actor : Actor) (count : ℕ) (same : Bool)
    → length (if same then (record x { count = x.count + count }) ∷ [] else x ∷ (record { actor = actor; count = count }) ∷ []) ≤ 2
one_short x actor count true = omega arith
one_short x actor count false = omega arith

pushed_short : (runs : List Run) (actor : Actor) (count : ℕ) → length (pushed runs actor count) ≤ length runs + 1
unfolding pushed
pushed_short [] actor count = omega arith
pushed_short (x ∷ []) actor count = omega (arith, one_short x actor count (is_same_actor x.actor actor))
pushed_short (x ∷ y ∷ ys) actor count = omega (arith, pushed_short (y ∷ ys) actor count)

line_short : (number : ℕ) (runs : List Run) (line text : List ℕ) (byte : ℕ) (r : Result Run RecordFault) (end here : Bool)
    → ((item : Run) → Short (length (pushed runs item.actor item.count) + length text) (schedule_of (number + 1) (pushed runs item.actor item.count) [] text))
    → Short (length runs + length text) (schedule_of number runs (line ++ byte ∷ []) text)
    → Short (length runs + length (byte ∷ text)) (if here then (if end then ended number runs text
    else and_then r (λ item. schedule_of (number + 1) (pushed runs item.actor item.count) [] text))
    else schedule_of number runs (line ++ byte ∷ []) text)
line_short number runs line text byte r end false next on = omega (arith, on)
line_short number runs line text byte r true true next on = omega arith
line_short number runs line text byte r false true next on =
    short_item (length runs + length (byte ∷ text)) r _ (λ item. omega (arith, next item, pushed_short runs item.actor item.count))

end_short : (number : ℕ) (runs : List Run) (r : Result Run RecordFault) (end : Bool)
    → Short (length runs + 0) (if end then ended number runs [] else and_then r (open_item number))
end_short number runs r true = omega arith
end_short number runs r false = short_item (length runs + 0) r (open_item number) (λ item. omega arith)

schedule_short : (number : ℕ) (runs : List Run) (line text : List ℕ) → Short (length runs + length text) (schedule_of number runs line text)
unfolding schedule_of
schedule_short number runs line [] = end_short number runs (item_at number line) (is_end line)
schedule_short number runs line (byte ∷ text) =
    line_short number runs line text byte (item_at number line) (is_end line) (is_lf byte)
    (λ item. schedule_short (number + 1) (pushed runs item.actor item.count) [] text) (schedule_short number runs (line ++ byte ∷ []) text)

above_short : (begun : Option Run) → length (above begun) ≤ 1
above_short None = omega arith
above_short (Some run) = omega arith

pub left_counts : (number : ℕ) (begun : Option Run) (text : List ℕ) → HasItems number begun text → length (runs_left number begun text) < 2 ^ 64
left_counts number begun text has =
    let short = schedule_short number (above begun) [] text in
    let room = has.room in
    omega (arith, short, room, above_short begun)

-- what is left, read on

pub as_read : (number : ℕ) (begun : Option Run) (text : List ℕ) → HasItems number begun text → IsRead (schedule_of number (above begun) [] text) number (above begun) text
as_read number begun text has = record { read = refl; room = has.room; steps = has.steps }

-- the last line
pub ends_left : (number : ℕ) (begun : Option Run) (text : List ℕ) (cut : Cut) → HasItems number begun text → cut ≡ first_line text → is_end cut.front ≡ true
    → runs_left number begun text ≡ above begun
ends_left number begun text cut has is end = ap runs_in (read_ends number (above begun) text cut (as_read number begun text has) is end)

nothing_begun : (number : ℕ) (begun : Option Run) (text : List ℕ) (cut : Cut) → HasItems number begun text → cut ≡ first_line text → is_end cut.front ≡ true
    → HasItems number None text
nothing_begun number begun text cut has is end =
    let new : IsRead (schedule_of number [] [] text) number [] text = record { read = refl; room = has.room; steps = omega arith } in
    record {
      read = ap is_ok (read_ends number [] text cut new is end);
      room = has.room;
      steps = omega arith;
    }

abbrev pub AtEnd : ℕ → Option Run → List ℕ → Type 0
AtEnd number begun text = HasItems number None text × GivesRun begun (runs_left number begun text) (runs_left number None text)

pub gives_last : (number : ℕ) (begun : Option Run) (text : List ℕ) (cut : Cut) → HasItems number begun text → cut ≡ first_line text → is_end cut.front ≡ true
    → AtEnd number begun text
gives_last number None text cut has is end = (has, ends_left number None text cut has is end)
gives_last number (Some run) text cut has is end =
    let new = nothing_begun number (Some run) text cut has is end in
    (new, ends_left number (Some run) text cut has is end ∙ ap (λ (runs : List Run). run ∷ runs) (sym (ends_left number None text cut new is end)))

-- an item can't be missing
pub never_fails : (number : ℕ) (begun : Option Run) (text : List ℕ) (cut : Cut) (fault : RecordFault) → HasItems number begun text → cut ≡ first_line text → is_end cut.front ≡ false
    → item_at number cut.front ≡ Err fault → ⊥
never_fails number begun text cut fault has is other fails =
    let due = read_fails number (above begun) text cut fault (as_read number begun text has) is other fails in
    let not : false ≡ true = sym (ap is_ok due) ∙ has.read in absurd (cc)

is_found : (number : ℕ) (begun : Option Run) (text : List ℕ) (cut : Cut) (item : Run) (found : Bool) → HasItems number begun text → cut ≡ first_line text → is_end cut.front ≡ false
    → item_at number cut.front ≡ Ok item → cut.found ≡ found → found ≡ true
is_found number begun text cut item true has is other ok found = refl
is_found number begun text cut item false has is other ok found =
    let due = read_open number (above begun) text cut item (as_read number begun text has) is other ok found in
    let not : false ≡ true = sym (ap is_ok due) ∙ has.read in absurd (cc)

pub line_ends : (number : ℕ) (begun : Option Run) (text : List ℕ) (cut : Cut) (item : Run) → HasItems number begun text → cut ≡ first_line text → is_end cut.front ≡ false
    → item_at number cut.front ≡ Ok item → cut.found ≡ true
line_ends number begun text cut item has is other ok = is_found number begun text cut item cut.found has is other ok refl

-- an item behind the run that is begun

pub alone_item : (begun : Option Run) (item : Run) → begun ≡ None → with_item begun item ≡ item ∷ []
unfolding pushed
alone_item None item is = refl
alone_item (Some run) item is = absurd (cc)

pub apart_item : (begun : Option Run) (run item : Run) → begun ≡ Some run → run.actor ≢ item.actor → IsApart begun item
apart_item None run item is apart = absurd (cc)
apart_item (Some r) run item is apart =
    let same : r ≡ run = cc in
    let other : r.actor ≢ item.actor = λ e. apart (ap (λ (x : Run). x.actor) (sym same) ∙ e) in
    sym (one_more (r ∷ []) 0 r item.actor item.count refl refl other)

pub same_item : (begun : Option Run) (run item : Run) → begun ≡ Some run → run.actor ≡ item.actor
    → with_item begun item ≡ (record { actor = run.actor; count = run.count + item.count }) ∷ []
same_item None run item is same = absurd (cc)
same_item (Some r) run item is same =
    let e : r ≡ run = cc in
    subst (λ (x : Run). with_item (Some x) item ≡ (record { actor = run.actor; count = run.count + item.count }) ∷ []) (sym e)
    (sym (counts_on (run ∷ []) 0 run item.actor item.count refl refl same))

-- one more line

-- what is left behind it, with the run above it
abbrev pub Goes : ℕ → Option Run → List ℕ → Option Run → List ℕ → Type 0
Goes number begun text next rest = HasItems (number + 1) next rest × (runs_left number begun text ≡ runs_left (number + 1) next rest)

behind_line : (number : ℕ) (begun : Option Run) (text : List ℕ) (cut : Cut) (item : Run) → HasItems number begun text → cut ≡ first_line text → is_end cut.front ≡ false
    → item_at number cut.front ≡ Ok item → length cut.front + length cut.rest + 1 ≡ length text → item.count ≤ MOST_COUNT
    → IsRead (schedule_of number (above begun) [] text) (number + 1) (with_item begun item) cut.rest
behind_line number begun text cut item has is other ok long few =
    read_more number (above begun) text cut item (as_read number begun text has) is other ok (line_ends number begun text cut item has is other ok) long few

pub goes_on : (number : ℕ) (begun : Option Run) (text : List ℕ) (cut : Cut) (item run : Run) → HasItems number begun text → cut ≡ first_line text → is_end cut.front ≡ false
    → item_at number cut.front ≡ Ok item → length cut.front + length cut.rest + 1 ≡ length text → item.count ≤ MOST_COUNT
    → with_item begun item ≡ run ∷ [] → Goes number begun text (Some run) cut.rest
goes_on number begun text cut item run has is other ok long few one =
    let r = subst (λ (runs : List Run). IsRead (schedule_of number (above begun) [] text) (number + 1) runs cut.rest) one (behind_line number begun text cut item has is other ok long few) in
    (record { read = ap is_ok r.read ∙ has.read; room = r.room; steps = r.steps }, sym (ap runs_in r.read))

abbrev pub Gives : ℕ → Option Run → List ℕ → Run → List ℕ → Type 0
Gives number begun text item rest = HasItems (number + 1) (Some item) rest × GivesRun begun (runs_left number begun text) (runs_left (number + 1) (Some item) rest)

pub gives_run : (number : ℕ) (begun : Option Run) (text : List ℕ) (cut : Cut) (item : Run) → HasItems number begun text → cut ≡ first_line text → is_end cut.front ≡ false
    → item_at number cut.front ≡ Ok item → length cut.front + length cut.rest + 1 ≡ length text → item.count ≤ MOST_COUNT
    → IsApart begun item → Gives number begun text item cut.rest
gives_run number None text cut item has is other ok long few apart = absurd apart
gives_run number (Some run) text cut item has is other ok long few apart =
    let r = subst (λ (runs : List Run). IsRead (schedule_of number (run ∷ []) [] text) (number + 1) runs cut.rest) apart (behind_line number (Some run) text cut item has is other ok long few) in
    let stays = front_stays run (number + 1) item [] [] cut.rest in
    let good : is_ok (with_run run (schedule_of (number + 1) (item ∷ []) [] cut.rest)) ≡ true = sym (ap is_ok stays) ∙ (ap is_ok r.read ∙ has.read) in (
      record { read = ok_behind run (schedule_of (number + 1) (item ∷ []) [] cut.rest) good; room = r.room; steps = omega (arith, r.steps) },
      sym (ap runs_in r.read) ∙ (ap runs_in stays ∙ runs_behind run (schedule_of (number + 1) (item ∷ []) [] cut.rest) good),
    )

-- the run that is begun counts no more than the lines before
pub begun_fits : (number : ℕ) (begun : Option Run) (text : List ℕ) (item : Run) → HasItems number begun text → item.count ≤ MOST_COUNT → IfSome begun (λ run. run.count + item.count < 2 ^ 64)
begun_fits number None text item has few = tt
begun_fits number (Some run) text item has few = let steps = has.steps in let room = has.room in omega (arith, steps, room, few)

-- what is given, as a call tells it

pub gives_some : (given : Option Run) (now old new : List Run) → now ≡ old → GivesRun given old new → IfSome given (λ run. now ≡ run ∷ new)
gives_some None now old new is gives = tt
gives_some (Some run) now old new is gives = is ∙ gives

pub gives_none : (given : Option Run) (now old new : List Run) → now ≡ old → GivesRun given old new → IsNone given → now ≡ []
gives_none None now old new is gives none = is ∙ gives
gives_none (Some run) now old new is gives none = absurd (let f : false ≡ true = sym none in cc)

-- items that end so

pub has_items : (first : ℕ) (text : List ℕ) (ended : Ended) → first + length text ≤ MOST_TEXT → EndsAs (Ok ended) (schedule_of first [] [] text)
    → HasItems first None text
has_items first text ended room ends = record { read = ap is_ok ends.1; room = room; steps = omega arith }

pub found_is : (first : ℕ) (text : List ℕ) (ended : Ended) → EndsAs (Ok ended) (schedule_of first [] [] text)
    → Ok (record { runs = runs_left first None text; rest = ended.rest.now; rest_line = ended.rest_line }) ≡ schedule_of first [] [] text
found_is first text ended ends =
    let runs = ap runs_in ends.1 in
    ap (λ (x : List Run). Ok (record { runs = x; rest = ended.rest.now; rest_line = ended.rest_line })) runs ∙ sym ends.1
