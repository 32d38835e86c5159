use Rattle.std.proofs.Common.{sym}
use Rattle.qpu_word.proofs.BookLemmas.{kept_by_setups, uniform_sound}
use Rattle.qpu_shared.proofs.shared.Shared.starts.Goals as goal

pub returns-clause-sound : goal.returns-clause-sound
returns-clause-sound c =
    rw c.with_uniform_to.ensures
    (uniform_sound c.args.outs.now.uniform_to c.in_ok-book-2.book
    (kept_by_setups c.args.outs.now c.in_ok-book.book c.in_ok-book-2.book c.in_ok-book.ensures.sound (sym c.in_ok-book-2.ensures)))
