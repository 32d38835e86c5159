use Rattle.std.proofs.Common.{drop, arith}
use Rattle.std.proofs.lemmas.List.{take_rest, length-take-le, length-drop}
use Rattle.qpu_token.proofs.PlaceLemmas.{place_small}
use Rattle.qpu_token.proofs.ReadLemmas.{turned}
use Rattle.qpu_token.proofs.turn.take_turn.Goals as goal

pub turn_of-requires-clause-line : goal.turn_of-requires-clause-line
turn_of-requires-clause-line c =
    let small = place_small c.args.text.now c.args.here.at (omega arith) in
    rw c.requires.place (omega arith)

pub turn_of-requires-clause-column : goal.turn_of-requires-clause-column
turn_of-requires-clause-column c =
    let small = place_small c.args.text.now c.args.here.at (omega arith) in
    let begins = c.in-Some.ensures in
    rw (c.requires.place, take_rest c.args.text.now c.args.here.at, length-take-le c.in-Some.piece.length (drop c.args.here.at c.args.text.now) begins.inside)
    (omega (arith, begins.inside, length-drop c.args.here.at c.args.text.now))

pub returns : goal.returns
returns c =
    rw (c.turn_of.ensures, take_rest c.args.text.now c.args.here.at)
    (turned c.args.text.now c.args.here c.in-Some.piece.shape c.in-Some.piece.length c.requires.place c.in-Some.ensures)
