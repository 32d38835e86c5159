-- The first part was written, and what is behind it; or a fault cut it off.
use Rattle.std.specs.Prelude.{◌∷◌, ◌++◌, []}
use Rattle.qpu_line.specs.declared.name.Name.TheVariants as name
use Rattle.qpu_line.specs.Loads.{write_target}
use Rattle.qpu_line.specs.Lines.{Word, Number, Hexadecimal, Space, write_bits, flags_bits, target_bits, and_then, also_bits, load_bits}
use Rattle.qpu_dis.proofs.TextLemmas.{bits_later, bits_cut, bits_again, behind_three}
use Rattle.qpu_dis.proofs.load.put_load.Goals as goal

pub returns-in_err-put_load_name : goal.returns-in_err-put_load_name
unfolding load_bits
returns-in_err-put_load_name g c =
    bits_again _ _ _ _ _ (behind_three (Word (name.Load c.args.load.now.kind) ∷ write_bits c.args.load.now.add ++ flags_bits c.args.load.now.sets) (Space ∷ target_bits (write_target c.args.load.now.add)) (and_then (Number (Hexadecimal c.args.load.now.immediate) ∷ [])) (also_bits c.args.load.now.mul))
    (bits_cut _ _ (Word (name.Load c.args.load.now.kind) ∷ write_bits c.args.load.now.add ++ flags_bits c.args.load.now.sets) (Space ∷ target_bits (write_target c.args.load.now.add) ++ and_then (Number (Hexadecimal c.args.load.now.immediate) ∷ []) ++ also_bits c.args.load.now.mul) _ c.from_residual.ensures.0 c.in_err-put_load_name.ensures)

pub returns : goal.returns
unfolding load_bits
returns g c =
    bits_again _ _ _ _ _ (behind_three (Word (name.Load c.args.load.now.kind) ∷ write_bits c.args.load.now.add ++ flags_bits c.args.load.now.sets) (Space ∷ target_bits (write_target c.args.load.now.add)) (and_then (Number (Hexadecimal c.args.load.now.immediate) ∷ [])) (also_bits c.args.load.now.mul))
    (bits_later _ _ _ (Word (name.Load c.args.load.now.kind) ∷ write_bits c.args.load.now.add ++ flags_bits c.args.load.now.sets) (Space ∷ target_bits (write_target c.args.load.now.add) ++ and_then (Number (Hexadecimal c.args.load.now.immediate) ∷ []) ++ also_bits c.args.load.now.mul) _ c.in_ok-put_load_name.ensures c.put_load_places.ensures)
