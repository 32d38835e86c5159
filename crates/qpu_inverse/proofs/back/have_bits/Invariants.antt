-- The words that were read have 64 bits.
use Rattle.std.proofs.Common.{◌<◌, ◌^◌}
use Rattle.std.specs.List.{AllWithin}
use Rattle.qpu_word.specs.declared.word.Word.{Word}
use Rattle.qpu_inverse.proofs.back.have_bits.Given as goal

abbrev pub invariant-loop-word : goal.invariant-loop-word
invariant-loop-word l = AllWithin (λ (word : Word). word.0 < 2 ^ 64) l.words 0 l.word-index
