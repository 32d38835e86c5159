use Rattle.std.proofs.Common.{◌/◌, subst, rules}
use Rattle.qpu_word.specs.declared.code.TheConstants.{MEMORY_WORDS}
use Rattle.qpu_dma.specs.declared.WordRow.{WordRow}
use Rattle.qpu_dma.specs.Runs.{LiesInRun}
use Rattle.qpu_dma.specs.States.{IsMovable}
use Rattle.qpu_dma.proofs.RunLemmas.{run_inside}
use Rattle.qpu_dma.proofs.transfer.Transfer.word_row.Goals as goal

pub returns-clause-inside : goal.returns-clause-inside
returns-clause-inside c =
    let row : WordRow = record { at = c.pair-first.result.at / 4; place = c.pair-first.result.place / 4 } in
    let movable = subst IsMovable c.self.view_is c.self.invariant in
    let run : LiesInRun c.args.self.now c.args.self.now.moved row = search rules in
    run_inside c.args.self.now MEMORY_WORDS c.args.self.now.moved row movable.possible movable.fits movable.left movable.possible.some_elements run
