-- What the units make of operands that are read lane by lane.
use Rattle.std.proofs.Common.{◌≡◌, ℕ, ◌<◌, Bool, List, Option, Some, None, refl, ap, ◌∙◌}
use Rattle.std.specs.Prelude.{option_map}
use Rattle.qpu_word.specs.declared.word.Fields.{Fields}
use Rattle.qpu_word.specs.declared.traffic.Ins.{Ins}
use Rattle.qpu_word.specs.declared.operation.AddOp.{AddOp}
use Rattle.qpu_word.specs.declared.operation.MulOp.{MulOp}
use Rattle.qpu_word.specs.Lanes.{lanes, lane, mask, Gives}
use Rattle.qpu_word.specs.Operations.{add_result, add_carry, mul_result, add_op, mul_op}
use Rattle.qpu_word.specs.Operands.{operand}
use Rattle.qpu_word.specs.Processor.{ProcessorState}
use Rattle.qpu_word.specs.Instruction.{add_values, mul_values, add_carries, carry_mask}
use Rattle.qpu_word.proofs.LaneLemmas.{lanes_of_two, mask_same}

-- the add unit's results
pub add_values_by : (f : Fields) (p : ProcessorState) (ins : Ins) (op : AddOp) (a b result : List ℕ) → add_op f.op_add ≡ Some op
    → Gives a (operand f p ins f.add_a) → Gives b (operand f p ins f.add_b)
    → result ≡ lanes (λ i. add_result op (lane a i) (lane b i)) → result ≡ add_values f p ins
unfolding add_values
add_values_by f p ins op a b result known first second is = is ∙ lanes_of_two (add_result op) first second ∙ rw known refl

-- the mul unit's results
pub mul_values_by : (f : Fields) (p : ProcessorState) (ins : Ins) (op : MulOp) (a b result : List ℕ) → mul_op f.op_mul ≡ Some op
    → Gives a (operand f p ins f.mul_a) → Gives b (operand f p ins f.mul_b)
    → result ≡ lanes (λ i. mul_result op (lane a i) (lane b i)) → result ≡ mul_values f p ins
unfolding mul_values
mul_values_by f p ins op a b result known first second is = is ∙ lanes_of_two (mul_result op) first second ∙ rw known refl

-- the carries of operands that agree lane by lane
pub carries_same : (carry : Option (ℕ → ℕ → Bool)) (a b c d : ℕ → ℕ) → ((k : ℕ) → k < 16 → a k ≡ c k) → ((k : ℕ) → k < 16 → b k ≡ d k)
    → option_map (λ t. mask (λ i. t (a i) (b i))) carry ≡ option_map (λ t. mask (λ i. t (c i) (d i))) carry
carries_same None a b c d first second = refl
carries_same (Some t) a b c d first second =
    ap Some (mask_same (λ i. t (a i) (b i)) (λ i. t (c i) (d i)) (λ k low. rw (first k low, second k low) refl))

-- the add unit's carries
pub add_carries_by : (f : Fields) (p : ProcessorState) (ins : Ins) (op : AddOp) (a b : List ℕ) (result : Option ℕ) → add_op f.op_add ≡ Some op
    → Gives a (operand f p ins f.add_a) → Gives b (operand f p ins f.add_b)
    → result ≡ carry_mask (Some op) (lane a) (lane b) → result ≡ add_carries f p ins
unfolding add_carries
add_carries_by f p ins op a b result known first second is =
    is ∙ carries_same (add_carry op) (lane a) (lane b) (operand f p ins f.add_a) (operand f p ins f.add_b) first.at second.at ∙ rw known refl
