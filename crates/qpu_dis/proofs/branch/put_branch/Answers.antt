-- The first part was written, and what is behind it; or a fault cut it off.
use Rattle.std.specs.Prelude.{◌∷◌, ◌++◌, []}
use Rattle.qpu_line.specs.Lines.{Word, Space, branch_condition_bits, target_bits, and_then, link_bits, row_bits, branch_bits}
use Rattle.qpu_dis.specs.Text.{branch_name, distance_bit}
use Rattle.qpu_dis.proofs.TextLemmas.{bits_later, bits_cut, bits_again, behind_four}
use Rattle.qpu_dis.proofs.branch.put_branch.Goals as goal

pub returns-in_err-put_branch_name : goal.returns-in_err-put_branch_name
unfolding branch_bits
returns-in_err-put_branch_name g c =
    bits_again _ _ _ _ _ (behind_four (Word (branch_name c.args.branch.now.relative) ∷ branch_condition_bits c.args.branch.now.cond) (Space ∷ target_bits c.args.branch.now.add) (and_then (distance_bit c.args.branch.now ∷ [])) (link_bits c.args.branch.now.mul) (row_bits c.args.branch.now.register))
    (bits_cut _ _ (Word (branch_name c.args.branch.now.relative) ∷ branch_condition_bits c.args.branch.now.cond) (Space ∷ target_bits c.args.branch.now.add ++ and_then (distance_bit c.args.branch.now ∷ []) ++ link_bits c.args.branch.now.mul ++ row_bits c.args.branch.now.register) _ c.from_residual.ensures.0 c.in_err-put_branch_name.ensures)

pub returns : goal.returns
unfolding branch_bits
returns g c =
    bits_again _ _ _ _ _ (behind_four (Word (branch_name c.args.branch.now.relative) ∷ branch_condition_bits c.args.branch.now.cond) (Space ∷ target_bits c.args.branch.now.add) (and_then (distance_bit c.args.branch.now ∷ [])) (link_bits c.args.branch.now.mul) (row_bits c.args.branch.now.register))
    (bits_later _ _ _ (Word (branch_name c.args.branch.now.relative) ∷ branch_condition_bits c.args.branch.now.cond) (Space ∷ target_bits c.args.branch.now.add ++ and_then (distance_bit c.args.branch.now ∷ []) ++ link_bits c.args.branch.now.mul ++ row_bits c.args.branch.now.register) _ c.in_ok-put_branch_name.ensures c.put_branch_places.ensures)
