use Rattle.std.proofs.Common.{Ok, ap, sym, rules, ◌∙◌}
use Rattle.qpu_word.specs.Instruction.{no_ins}
use Rattle.qpu_local.specs.Quiet.{StaysIn}
use Rattle.qpu_local.proofs.StayLemmas.{done_within}
use Rattle.qpu_local.proofs.processor.Processor.step_word.Goals as goal

pub returns : goal.returns
returns c =
    let stays : StaysIn c.args.f.now = search rules in
    done_within c.args.f.now c.args.self.now no_ins stays ∙ ap Ok (sym c.step_within.ensures)
