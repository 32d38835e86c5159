-- What a processor keeps of its setups stays sound.
use Rattle.std.proofs.Common.{◌≡◌, ◌<◌, ℕ, Bool, true, false, Option, Some, None, Result, Ok, Err, IfOk, IfSome, IsNone, refl, subst, arith}
use Rattle.std.proofs.Math.Nat.{mod-lt}
use Rattle.std.proofs.lemmas.Bool.Decides.{nat_tests}
use Rattle.std.specs.Prelude.{◌==◌, ◌+◌, if◌then◌else◌}
use Rattle.qpu_word.specs.declared.setup.Book.{Book}
use Rattle.qpu_word.specs.declared.setup.Vectors.{Vectors}
use Rattle.qpu_word.specs.declared.setup.ReadSetup.{ReadSetup}
use Rattle.qpu_word.specs.declared.setup.ReadSetup.TheVariants.{Vectors as VpmRead, Load, Pitch}
use Rattle.qpu_word.specs.declared.setup.WriteSetup.{WriteSetup}
use Rattle.qpu_word.specs.declared.setup.WriteSetup.TheVariants.{Vectors as VpmWrite, Store, Stride}
use Rattle.qpu_word.specs.declared.fault.SetupFault.{SetupFault}
use Rattle.qpu_word.specs.declared.fault.FaultKind.{FaultKind}
use Rattle.qpu_word.specs.declared.traffic.Outs.{Outs}
use Rattle.qpu_word.specs.Words.{field}
use Rattle.qpu_word.specs.Setups.{read_setup, write_setup, counted, vector_count, fresh, queued, with_read_setup, put_read, with_write_setup, put_write, with_vector_read, take_vector, with_vector_written, put_vector}
use Rattle.qpu_word.specs.Books.{IsReading, IsWriting, IsSoundBook}
use Rattle.qpu_word.specs.Processor.{opening_book}
use Rattle.qpu_word.specs.Instruction.{after_read_setup, after_write_setup, after_setups, after_uniform_to, then_after}

-- the book of a processor before any step
pub opening_sound : (uniforms : ℕ) → IsSoundBook (opening_book uniforms)
opening_sound uniforms = record {
  first = tt;
  second = tt;
  order = λ none. refl;
  writes = tt;
  load = tt;
  store = tt;
}

some_vectors : (n : ℕ) → 0 < counted n 16
some_vectors n = grind (arith, nat_tests)

queued_sound : (first second : Option Vectors) (book : Book) (setup : ℕ) → book.first ≡ first → IsReading (fresh setup)
    → IsSoundBook book → IfOk (queued first second book setup) IsSoundBook
queued_sound None second book setup e reading b = record {
  first = reading;
  second = b.second;
  order = λ none. absurd (cc);
  writes = b.writes;
  load = b.load;
  store = b.store;
}
queued_sound (Some v) None book setup e reading b = record {
  first = b.first;
  second = reading;
  order = λ none. let none_there : IsNone {T = Vectors} (Some v) = subst (IsNone {T = Vectors}) e none in absurd (cc);
  writes = b.writes;
  load = b.load;
  store = b.store;
}
queued_sound (Some v) (Some w) book setup e reading b = tt

read_kind_sound : (kind : Result ReadSetup SetupFault) (book : Book) (value : ℕ) → read_setup value ≡ kind
    → IsSoundBook book → IfOk (with_read_setup kind book value) IsSoundBook
read_kind_sound (Ok VpmRead) book value e b = queued_sound book.first book.second book value refl (e, some_vectors (field value 20 4)) b
read_kind_sound (Ok Load) book value e b = record {
  first = b.first;
  second = b.second;
  order = b.order;
  writes = b.writes;
  load = e;
  store = b.store;
}
read_kind_sound (Ok Pitch) book value e b = record {
  first = b.first;
  second = b.second;
  order = b.order;
  writes = b.writes;
  load = b.load;
  store = b.store;
}
read_kind_sound (Err fault) book value e b = tt

-- a value of the read setup register keeps a book sound
pub put_read_sound : (book : Book) (value : ℕ) → IsSoundBook book → IfOk (put_read book value) IsSoundBook
unfolding put_read
put_read_sound book value b = read_kind_sound (read_setup value) book value refl b

write_kind_sound : (kind : Result WriteSetup SetupFault) (book : Book) (value : ℕ) → write_setup value ≡ kind
    → IsSoundBook book → IfOk (with_write_setup kind book value) IsSoundBook
write_kind_sound (Ok VpmWrite) book value e b = record {
  first = b.first;
  second = b.second;
  order = b.order;
  writes = (e, omega arith);
  load = b.load;
  store = b.store;
}
write_kind_sound (Ok Store) book value e b = record {
  first = b.first;
  second = b.second;
  order = b.order;
  writes = b.writes;
  load = b.load;
  store = e;
}
write_kind_sound (Ok Stride) book value e b = record {
  first = b.first;
  second = b.second;
  order = b.order;
  writes = b.writes;
  load = b.load;
  store = b.store;
}
write_kind_sound (Err fault) book value e b = tt

-- a value of the write setup register keeps a book sound
pub put_write_sound : (book : Book) (value : ℕ) → IsSoundBook book → IfOk (put_write book value) IsSoundBook
unfolding put_write
put_write_sound book value b = write_kind_sound (write_setup value) book value refl b

-- one step after another
then_sound : (due : Result Book FaultKind) (next : Book → Result Book FaultKind) → IfOk due IsSoundBook
    → ((book : Book) → IsSoundBook book → IfOk (next book) IsSoundBook) → IfOk (then_after due next) IsSoundBook
then_sound (Ok book) next b more = more book b
then_sound (Err kind) next b more = tt

read_register_sound : (value : Option ℕ) (book : Book) → IsSoundBook book → IfOk (after_read_setup value book) IsSoundBook
read_register_sound None book b = b
read_register_sound (Some value) book b = put_read_sound book value b

write_register_sound : (value : Option ℕ) (book : Book) → IsSoundBook book → IfOk (after_write_setup value book) IsSoundBook
write_register_sound None book b = b
write_register_sound (Some value) book b = put_write_sound book value b

-- what an instruction sends to the setup registers keeps a book sound
pub setups_sound : (outs : Outs) (book : Book) → IsSoundBook book → IfOk (after_setups outs book) IsSoundBook
unfolding after_setups
setups_sound outs book b =
    then_sound (after_read_setup outs.to_read_setup book) (λ c. after_write_setup outs.to_write_setup c)
    (read_register_sound outs.to_read_setup book b) (λ c d. write_register_sound outs.to_write_setup c d)

-- so does a new uniforms address
pub uniform_sound : (address : Option ℕ) (book : Book) → IsSoundBook book → IsSoundBook (after_uniform_to address book)
uniform_sound None book b = b
uniform_sound (Some at) book b = record {
  first = b.first;
  second = b.second;
  order = b.order;
  writes = b.writes;
  load = b.load;
  store = b.store;
}

-- a read setup after one more of its vectors
vector_left : (last : Bool) (v : Vectors) (book : Book) → (v.done + 1 == vector_count v.setup) ≡ last → IsReading v → IsSoundBook book
    → IfOk {E = FaultKind}
    (if last then Ok (record book { first = book.second; second = None }) else Ok (record book { first = Some (record v { done = v.done + 1 }) }))
    IsSoundBook
vector_left true v book e reading b = record {
  first = b.second;
  second = tt;
  order = λ none. refl;
  writes = b.writes;
  load = b.load;
  store = b.store;
}
vector_left false v book e reading b =
    let few : v.done < vector_count v.setup = reading.1 in
    let left : v.done + 1 < vector_count v.setup = grind (arith, nat_tests) in
    record {
      first = (reading.0, left);
      second = b.second;
      order = λ none. absurd (cc);
      writes = b.writes;
      load = b.load;
      store = b.store;
    }

vector_read_sound : (first : Option Vectors) (book : Book) → IfSome first IsReading → IsSoundBook book → IfOk (with_vector_read first book) IsSoundBook
vector_read_sound None book reading b = tt
vector_read_sound (Some v) book reading b = vector_left (v.done + 1 == vector_count v.setup) v book refl reading b

-- a vector that is read keeps a book sound
pub take_sound : (book : Book) → IsSoundBook book → IfOk (take_vector book) IsSoundBook
unfolding take_vector
take_sound book b = vector_read_sound book.first book b.first b

vector_written_sound : (writes : Option Vectors) (book : Book) → IfSome writes IsWriting → IsSoundBook book
    → IfOk (with_vector_written writes book) IsSoundBook
vector_written_sound None book writing b = tt
vector_written_sound (Some v) book writing b = record {
  first = b.first;
  second = b.second;
  order = b.order;
  writes = (writing.0, mod-lt (v.done + 1) (omega arith));
  load = b.load;
  store = b.store;
}

-- so does a vector that is written
pub put_sound : (book : Book) → IsSoundBook book → IfOk (put_vector book) IsSoundBook
unfolding put_vector
put_sound book b = vector_written_sound book.writes book b.writes b

-- the book that a sound result leaves
pub sound_result : (due : Result Book FaultKind) (new : Book) → IfOk due IsSoundBook → due ≡ Ok new → IsSoundBook new
sound_result due new sound is = let P : Result Book FaultKind → Type 0 = λ r. IfOk r IsSoundBook in subst P is sound

-- the book after the setup registers and the uniforms address
pub kept_by_setups : (outs : Outs) (book new : Book) → IsSoundBook book → after_setups outs book ≡ Ok new → IsSoundBook new
kept_by_setups outs book new b is = sound_result (after_setups outs book) new (setups_sound outs book b) is
