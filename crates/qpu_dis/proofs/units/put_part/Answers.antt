-- The first part was written, and what is behind it; or a fault cut it off.
use Rattle.std.specs.Prelude.{◌∷◌, ◌++◌}
use Rattle.qpu_line.specs.Lines.{Word, Space, condition_bits, flags_bits, target_bits, pack_bits, operand_bits, and_then}
use Rattle.qpu_dis.specs.Text.{second_bits}
use Rattle.qpu_dis.proofs.TextLemmas.{bits_later, bits_cut, bits_again, behind_four}
use Rattle.qpu_dis.proofs.units.put_part.Goals as goal

pub returns-in_err-put_operation : goal.returns-in_err-put_operation
returns-in_err-put_operation g c =
    bits_again _ _ _ _ _ (behind_four (Word c.args.op ∷ condition_bits c.args.part.now.cond ++ flags_bits c.args.sets) (Space ∷ target_bits c.args.part.now.to) (pack_bits c.args.part.now.pack) (and_then (operand_bits c.args.part.now.a)) (second_bits c.args.one c.args.part.now.b))
    (bits_cut _ _ (Word c.args.op ∷ condition_bits c.args.part.now.cond ++ flags_bits c.args.sets) (Space ∷ target_bits c.args.part.now.to ++ pack_bits c.args.part.now.pack ++ and_then (operand_bits c.args.part.now.a) ++ second_bits c.args.one c.args.part.now.b) _ c.from_residual.ensures.0 c.in_err-put_operation.ensures)

pub returns : goal.returns
returns g c =
    bits_again _ _ _ _ _ (behind_four (Word c.args.op ∷ condition_bits c.args.part.now.cond ++ flags_bits c.args.sets) (Space ∷ target_bits c.args.part.now.to) (pack_bits c.args.part.now.pack) (and_then (operand_bits c.args.part.now.a)) (second_bits c.args.one c.args.part.now.b))
    (bits_later _ _ _ (Word c.args.op ∷ condition_bits c.args.part.now.cond ++ flags_bits c.args.sets) (Space ∷ target_bits c.args.part.now.to ++ pack_bits c.args.part.now.pack ++ and_then (operand_bits c.args.part.now.a) ++ second_bits c.args.one c.args.part.now.b) _ c.in_ok-put_operation.ensures c.put_places.ensures)
