-- Worked programs, run by the definitions of whole steps along the schedule of an independent
-- program, with the registers, counts, halts and shared parts that this program gave.
use Rattle.std.proofs.Common.{◌≡◌, ℕ, ◌+◌, ◌*◌, List, [], ◌∷◌, ◌++◌, map, replicate, take, Option, Some, None, refl}
use Rattle.std.specs.Prelude.{◌==◌, if◌then◌else◌, length, option_map, slice_index, option_and_then, flat_map}
use Rattle.std.specs.List.{range_with_len}
use Rattle.qpu_word.specs.declared.state.Flags.{Flags}
use Rattle.qpu_word.specs.declared.state.Halt.{Halt}
use Rattle.qpu_word.specs.declared.state.Halt.TheVariants.{Going, Ended, Faulted}
use Rattle.qpu_word.specs.declared.fault.FaultKind.TheVariants.{Uniform, NoSetup, Setup, Transfer}
use Rattle.qpu_word.specs.declared.fault.SetupFault.TheVariants.{Size}
use Rattle.qpu_word.specs.Processor.{ProcessorState, opening_processor}
use Rattle.qpu_word.specs.Lanes.{lanes, mask_below}
use Rattle.qpu_word.specs.Words.{is_shared}
use Rattle.qpu_word.specs.Operations.{add_result, mul_result, add_op, mul_op}
use Rattle.qpu_word.specs.Operands.{read_a, read_b, operand, unpacked, small_value}
use Rattle.qpu_word.specs.Flags.{lane_test, branch_test}
use Rattle.qpu_word.specs.Writing.{rotation, rotated, packed, left, replicated, written, stored}
use Rattle.qpu_word.specs.Setups.{read_setup, write_setup, put_read, put_write, take_vector, put_vector}
use Rattle.qpu_word.specs.Instruction.{add_values, mul_values, loaded, plain_values, add_sent, mul_sent, add_stored, mul_stored, put_add, put_mul, put_loaded, zn_of, add_carries, unit_flags, load_flags, flags_after, target_of, branch_fails, rest_after, place_after, halt_after, sent_to, sent_to_a, sent_to_b, look_address, outs_from, after_setups, registers_after, moved_on, done, halted, is_link_point}
use Rattle.qpu_bytes.specs.Elements.{word_part, with_word_part}
use Rattle.qpu_vpm.specs.Cells.{vector_places}
use Rattle.qpu_dma.specs.Transfers.{transfer_of, row_pairs, fits}
use Rattle.qpu_dma.specs.Moves.{carried, after_row}
use Rattle.qpu_shared.specs.SharedState.{opening_shared}
use Rattle.qpu_shared.specs.Instruction.{awaits, first_cause, ins_of, after_reads, after_writes, mutex_after, semaphores_after, pending_after, shared_after, instruction_result, instruction}
use Rattle.qpu_machine.specs.declared.actor.Actor.{Actor}
use Rattle.qpu_machine.specs.declared.actor.Actor.TheVariants.{Exec, Load, Store, Fetch}
use Rattle.qpu_machine.specs.declared.conclusion.Ending.{Ending}
use Rattle.qpu_machine.specs.declared.conclusion.Ending.TheVariants.{Done, Stuck, RanOut, Faulted as SomeFaulted}
use Rattle.qpu_shared.specs.Moves.{row_moved, fetch_moved}
use Rattle.qpu_machine.specs.Machine.{MachineState, machine_of, after_step}
use Rattle.qpu_machine.specs.Ending.{ending_of}

-- the machine after a schedule, none where a step of it isn't permitted
abbrev along : List Actor → MachineState → Option MachineState
along [] m = Some m
along (actor ∷ s) m = option_and_then (along s) (after_step m actor)

-- a processor's r0 to r3, its first rows of file A, its flags, halt and executed count
abbrev shown : ProcessorState → List (List ℕ) × List (List ℕ) × Flags × Halt × ℕ
shown p = (take 4 p.accumulators, take 2 p.file_a, p.flags, p.halt, p.executed)

-- the numbers of a list that aren't 0, with their places
abbrev marked : List ℕ → List (ℕ × ℕ)
marked values = flat_map (λ k. if slice_index values k == 0 then [] else (k, slice_index values k) ∷ []) (range_with_len 0 (length values))

-- the processors, the ending, the holder of the mutex, and what isn't 0 of semaphores, VPM and memory
abbrev seen : MachineState → List (Option (List (List ℕ) × List (List ℕ) × Flags × Halt × ℕ)) × Ending × Option ℕ × List (ℕ × ℕ) × List (ℕ × ℕ) × List (ℕ × ℕ)
seen m = (
  map (option_map shown) (take 2 m.processors),
  ending_of m,
  m.shared.mutex,
  marked m.shared.semaphores,
  marked m.shared.vpm,
  marked m.shared.memory,
)

-- a difference that wraps, a product of 24 bits, leading zeros, and flags of the add unit
abbrev units_program : MachineState
units_program = (machine_of (replicate 16 0) 100 ((0xe002082700ffffff ∷ 0x100049e1409e7000 ∷ 0xd00268a34d9c17db ∷ 0x100208e7189e76c0 ∷ 0x300009e7009e7000 ∷ 0x100009e7009e7000 ∷ 0x100009e7009e7000 ∷ []) ∷ []) (record { q = 0; program = 0; uniforms = 0 } ∷ []))

units : option_map seen (along (Exec 0 ∷ Exec 0 ∷ Exec 0 ∷ Exec 0 ∷ Exec 0 ∷ Exec 0 ∷ Exec 0 ∷ []) units_program) ≡ Some ((Some (((replicate 16 0xffffff) ∷ (replicate 16 0xfe000001) ∷ (replicate 16 0xffffffff) ∷ (replicate 16 0x20) ∷ []), ((replicate 16 0x0) ∷ (replicate 16 0x0) ∷ []), record { zn = Some (0x0, 0xffff); c = Some 0xffff }, Ended, 7)) ∷ (None) ∷ [], Done, None, [], [], [])
unfolding lanes mask_below is_shared add_result mul_result add_op mul_op read_a read_b operand unpacked small_value lane_test branch_test rotation rotated packed left replicated written stored read_setup write_setup put_read put_write take_vector put_vector add_values mul_values loaded plain_values add_sent mul_sent add_stored mul_stored put_add put_mul put_loaded zn_of add_carries unit_flags load_flags flags_after target_of branch_fails rest_after place_after halt_after sent_to sent_to_a sent_to_b look_address outs_from after_setups registers_after moved_on done halted is_link_point word_part with_word_part vector_places transfer_of row_pairs fits opening_shared opening_processor awaits first_cause ins_of after_reads after_writes mutex_after semaphores_after shared_after instruction_result instruction machine_of carried after_row after_step ending_of lib.Count.count_leading_zeros row_moved fetch_moved pending_after
units = refl

-- a rotation by one lane, and one by r5, which is 0
abbrev rotations_program : MachineState
rotations_program = (machine_of (replicate 16 0) 100 ((0x10020827159a7d80 ∷ 0x100009e7009e7000 ∷ 0xd00049e1809f1000 ∷ 0xd00049e2809f0000 ∷ 0x300009e7009e7000 ∷ 0x100009e7009e7000 ∷ 0x100009e7009e7000 ∷ []) ∷ []) (record { q = 0; program = 0; uniforms = 0 } ∷ []))

rotations : option_map seen (along (Exec 0 ∷ Exec 0 ∷ Exec 0 ∷ Exec 0 ∷ Exec 0 ∷ Exec 0 ∷ Exec 0 ∷ []) rotations_program) ≡ Some ((Some (((0x0 ∷ 0x1 ∷ 0x2 ∷ 0x3 ∷ 0x4 ∷ 0x5 ∷ 0x6 ∷ 0x7 ∷ 0x8 ∷ 0x9 ∷ 0xa ∷ 0xb ∷ 0xc ∷ 0xd ∷ 0xe ∷ 0xf ∷ []) ∷ (0xf ∷ 0x0 ∷ 0x1 ∷ 0x2 ∷ 0x3 ∷ 0x4 ∷ 0x5 ∷ 0x6 ∷ 0x7 ∷ 0x8 ∷ 0x9 ∷ 0xa ∷ 0xb ∷ 0xc ∷ 0xd ∷ 0xe ∷ []) ∷ (0x0 ∷ 0x1 ∷ 0x2 ∷ 0x3 ∷ 0x4 ∷ 0x5 ∷ 0x6 ∷ 0x7 ∷ 0x8 ∷ 0x9 ∷ 0xa ∷ 0xb ∷ 0xc ∷ 0xd ∷ 0xe ∷ 0xf ∷ []) ∷ (replicate 16 0x0) ∷ []), ((replicate 16 0x0) ∷ (replicate 16 0x0) ∷ []), record { zn = None; c = None }, Ended, 7)) ∷ (None) ∷ [], Done, None, [], [], [])
unfolding lanes mask_below is_shared add_result mul_result add_op mul_op read_a read_b operand unpacked small_value lane_test branch_test rotation rotated packed left replicated written stored read_setup write_setup put_read put_write take_vector put_vector add_values mul_values loaded plain_values add_sent mul_sent add_stored mul_stored put_add put_mul put_loaded zn_of add_carries unit_flags load_flags flags_after target_of branch_fails rest_after place_after halt_after sent_to sent_to_a sent_to_b look_address outs_from after_setups registers_after moved_on done halted is_link_point word_part with_word_part vector_places transfer_of row_pairs fits opening_shared opening_processor awaits first_cause ins_of after_reads after_writes mutex_after semaphores_after shared_after instruction_result instruction machine_of carried after_row after_step ending_of lib.Count.count_leading_zeros row_moved fetch_moved pending_after
rotations = refl

-- saturating bytes, and packs with clamping into bytes of a row
abbrev packs_program : MachineState
packs_program = (machine_of (replicate 16 0) 100 ((0xe0020827ff01ff01 ∷ 0xe002086702020202 ∷ 0x100208a71e9e7040 ∷ 0xe00208e70000012c ∷ 0x10c20027159e76c0 ∷ 0xe0020067ffffffff ∷ 0xd0c20067159dffc0 ∷ 0x300009e7009e7000 ∷ 0x100009e7009e7000 ∷ 0x100009e7009e7000 ∷ []) ∷ []) (record { q = 0; program = 0; uniforms = 0 } ∷ []))

packs : option_map seen (along (Exec 0 ∷ Exec 0 ∷ Exec 0 ∷ Exec 0 ∷ Exec 0 ∷ Exec 0 ∷ Exec 0 ∷ Exec 0 ∷ Exec 0 ∷ Exec 0 ∷ []) packs_program) ≡ Some ((Some (((replicate 16 0xff01ff01) ∷ (replicate 16 0x2020202) ∷ (replicate 16 0xff03ff03) ∷ (replicate 16 0x12c) ∷ []), ((replicate 16 0xff) ∷ (replicate 16 0xffffff00) ∷ []), record { zn = None; c = None }, Ended, 10)) ∷ (None) ∷ [], Done, None, [], [], [])
unfolding lanes mask_below is_shared add_result mul_result add_op mul_op read_a read_b operand unpacked small_value lane_test branch_test rotation rotated packed left replicated written stored read_setup write_setup put_read put_write take_vector put_vector add_values mul_values loaded plain_values add_sent mul_sent add_stored mul_stored put_add put_mul put_loaded zn_of add_carries unit_flags load_flags flags_after target_of branch_fails rest_after place_after halt_after sent_to sent_to_a sent_to_b look_address outs_from after_setups registers_after moved_on done halted is_link_point word_part with_word_part vector_places transfer_of row_pairs fits opening_shared opening_processor awaits first_cause ins_of after_reads after_writes mutex_after semaphores_after shared_after instruction_result instruction machine_of carried after_row after_step ending_of lib.Count.count_leading_zeros row_moved fetch_moved pending_after
packs = refl

-- both files read one uniform; the third read lies outside memory
abbrev uniforms_program : MachineState
uniforms_program = (machine_of (5 ∷ 6 ∷ []) 100 ((0x100208270c820dc0 ∷ 0x1002086715827d80 ∷ 0x100208a715827d80 ∷ 0x300009e7009e7000 ∷ 0x100009e7009e7000 ∷ 0x100009e7009e7000 ∷ []) ∷ []) (record { q = 0; program = 0; uniforms = 0 } ∷ []))

uniforms : option_map seen (along (Exec 0 ∷ Exec 0 ∷ Exec 0 ∷ []) uniforms_program) ≡ Some ((Some (((replicate 16 0xa) ∷ (replicate 16 0x6) ∷ (replicate 16 0x0) ∷ (replicate 16 0x0) ∷ []), ((replicate 16 0x0) ∷ (replicate 16 0x0) ∷ []), record { zn = None; c = None }, Faulted Uniform 2, 2)) ∷ (None) ∷ [], SomeFaulted, None, [], [], (0, 0x5) ∷ (1, 0x6) ∷ [])
unfolding lanes mask_below is_shared add_result mul_result add_op mul_op read_a read_b operand unpacked small_value lane_test branch_test rotation rotated packed left replicated written stored read_setup write_setup put_read put_write take_vector put_vector add_values mul_values loaded plain_values add_sent mul_sent add_stored mul_stored put_add put_mul put_loaded zn_of add_carries unit_flags load_flags flags_after target_of branch_fails rest_after place_after halt_after sent_to sent_to_a sent_to_b look_address outs_from after_setups registers_after moved_on done halted is_link_point word_part with_word_part vector_places transfer_of row_pairs fits opening_shared opening_processor awaits first_cause ins_of after_reads after_writes mutex_after semaphores_after shared_after instruction_result instruction machine_of carried after_row after_step ending_of lib.Count.count_leading_zeros row_moved fetch_moved pending_after
uniforms = refl

-- a column written and read back by its rows
abbrev vectors_program : MachineState
vectors_program = (machine_of (replicate 16 0) 100 ((0xe0021c670000023f ∷ 0x10020c27159a7d80 ∷ 0xe0020c6700100a3f ∷ 0x1002082715c27d80 ∷ 0x300009e7009e7000 ∷ 0x100009e7009e7000 ∷ 0x100009e7009e7000 ∷ []) ∷ []) (record { q = 0; program = 0; uniforms = 0 } ∷ []))

vectors : option_map seen (along (Exec 0 ∷ Exec 0 ∷ Exec 0 ∷ Exec 0 ∷ Exec 0 ∷ Exec 0 ∷ Exec 0 ∷ []) vectors_program) ≡ Some ((Some (((0x0 ∷ 0x0 ∷ 0x0 ∷ 0x0 ∷ 0x0 ∷ 0x0 ∷ 0x0 ∷ 0x0 ∷ 0x0 ∷ 0x0 ∷ 0x0 ∷ 0x0 ∷ 0x0 ∷ 0x0 ∷ 0x0 ∷ 0xf ∷ []) ∷ (replicate 16 0x0) ∷ (replicate 16 0x0) ∷ (replicate 16 0x0) ∷ []), ((replicate 16 0x0) ∷ (replicate 16 0x0) ∷ []), record { zn = None; c = None }, Ended, 7)) ∷ (None) ∷ [], Done, None, [], (799, 0x1) ∷ (815, 0x2) ∷ (831, 0x3) ∷ (847, 0x4) ∷ (863, 0x5) ∷ (879, 0x6) ∷ (895, 0x7) ∷ (911, 0x8) ∷ (927, 0x9) ∷ (943, 0xa) ∷ (959, 0xb) ∷ (975, 0xc) ∷ (991, 0xd) ∷ (1007, 0xe) ∷ (1023, 0xf) ∷ [], [])
unfolding lanes mask_below is_shared add_result mul_result add_op mul_op read_a read_b operand unpacked small_value lane_test branch_test rotation rotated packed left replicated written stored read_setup write_setup put_read put_write take_vector put_vector add_values mul_values loaded plain_values add_sent mul_sent add_stored mul_stored put_add put_mul put_loaded zn_of add_carries unit_flags load_flags flags_after target_of branch_fails rest_after place_after halt_after sent_to sent_to_a sent_to_b look_address outs_from after_setups registers_after moved_on done halted is_link_point word_part with_word_part vector_places transfer_of row_pairs fits opening_shared opening_processor awaits first_cause ins_of after_reads after_writes mutex_after semaphores_after shared_after instruction_result instruction machine_of carried after_row after_step ending_of lib.Count.count_leading_zeros row_moved fetch_moved pending_after
vectors = refl

-- seventeen reads of a setup of sixteen vectors
abbrev past_the_vectors_program : MachineState
past_the_vectors_program = (machine_of (replicate 16 0) 100 ((0xe0020c6700001a00 ∷ 0x1002082715c27d80 ∷ 0x1002082715c27d80 ∷ 0x1002082715c27d80 ∷ 0x1002082715c27d80 ∷ 0x1002082715c27d80 ∷ 0x1002082715c27d80 ∷ 0x1002082715c27d80 ∷ 0x1002082715c27d80 ∷ 0x1002082715c27d80 ∷ 0x1002082715c27d80 ∷ 0x1002082715c27d80 ∷ 0x1002082715c27d80 ∷ 0x1002082715c27d80 ∷ 0x1002082715c27d80 ∷ 0x1002082715c27d80 ∷ 0x1002082715c27d80 ∷ 0x1002082715c27d80 ∷ 0x300009e7009e7000 ∷ 0x100009e7009e7000 ∷ 0x100009e7009e7000 ∷ []) ∷ []) (record { q = 0; program = 0; uniforms = 0 } ∷ []))

past_the_vectors : option_map seen (along (Exec 0 ∷ Exec 0 ∷ Exec 0 ∷ Exec 0 ∷ Exec 0 ∷ Exec 0 ∷ Exec 0 ∷ Exec 0 ∷ Exec 0 ∷ Exec 0 ∷ Exec 0 ∷ Exec 0 ∷ Exec 0 ∷ Exec 0 ∷ Exec 0 ∷ Exec 0 ∷ Exec 0 ∷ Exec 0 ∷ []) past_the_vectors_program) ≡ Some ((Some (((replicate 16 0x0) ∷ (replicate 16 0x0) ∷ (replicate 16 0x0) ∷ (replicate 16 0x0) ∷ []), ((replicate 16 0x0) ∷ (replicate 16 0x0) ∷ []), record { zn = None; c = None }, Faulted NoSetup 17, 17)) ∷ (None) ∷ [], SomeFaulted, None, [], [], [])
unfolding lanes mask_below is_shared add_result mul_result add_op mul_op read_a read_b operand unpacked small_value lane_test branch_test rotation rotated packed left replicated written stored read_setup write_setup put_read put_write take_vector put_vector add_values mul_values loaded plain_values add_sent mul_sent add_stored mul_stored put_add put_mul put_loaded zn_of add_carries unit_flags load_flags flags_after target_of branch_fails rest_after place_after halt_after sent_to sent_to_a sent_to_b look_address outs_from after_setups registers_after moved_on done halted is_link_point word_part with_word_part vector_places transfer_of row_pairs fits opening_shared opening_processor awaits first_cause ins_of after_reads after_writes mutex_after semaphores_after shared_after instruction_result instruction machine_of carried after_row after_step ending_of lib.Count.count_leading_zeros row_moved fetch_moved pending_after
past_the_vectors = refl

-- a store of 128 units of 16 words, which no VPM has
abbrev too_many_units_program : MachineState
too_many_units_program = (machine_of (replicate 1024 0) 100 ((0xe0021c6780104000 ∷ 0xe0021ca700000000 ∷ 0x300009e7009e7000 ∷ 0x100009e7009e7000 ∷ 0x100009e7009e7000 ∷ []) ∷ []) (record { q = 0; program = 0; uniforms = 0 } ∷ []))

too_many_units : option_map seen (along (Exec 0 ∷ Exec 0 ∷ []) too_many_units_program) ≡ Some ((Some (((replicate 16 0x0) ∷ (replicate 16 0x0) ∷ (replicate 16 0x0) ∷ (replicate 16 0x0) ∷ []), ((replicate 16 0x0) ∷ (replicate 16 0x0) ∷ []), record { zn = None; c = None }, Faulted Transfer 1, 1)) ∷ (None) ∷ [], SomeFaulted, None, [], [], [])
unfolding lanes mask_below is_shared add_result mul_result add_op mul_op read_a read_b operand unpacked small_value lane_test branch_test rotation rotated packed left replicated written stored read_setup write_setup put_read put_write take_vector put_vector add_values mul_values loaded plain_values add_sent mul_sent add_stored mul_stored put_add put_mul put_loaded zn_of add_carries unit_flags load_flags flags_after target_of branch_fails rest_after place_after halt_after sent_to sent_to_a sent_to_b look_address outs_from after_setups registers_after moved_on done halted is_link_point word_part with_word_part vector_places transfer_of row_pairs fits opening_shared opening_processor awaits first_cause ins_of after_reads after_writes mutex_after semaphores_after shared_after instruction_result instruction machine_of carried after_row after_step ending_of lib.Count.count_leading_zeros row_moved fetch_moved pending_after
too_many_units = refl

-- a store of the whole VPM
abbrev all_of_the_vpm_program : MachineState
all_of_the_vpm_program = (machine_of (replicate 1024 0) 100 ((0xe0021c67a0104000 ∷ 0xe0021ca700000000 ∷ 0x300009e7009e7000 ∷ 0x100009e7009e7000 ∷ 0x100009e7009e7000 ∷ []) ∷ []) (record { q = 0; program = 0; uniforms = 0 } ∷ []))

all_of_the_vpm : option_map seen (along ((Exec 0 ∷ Exec 0 ∷ Store 0 ∷ Exec 0 ∷ Exec 0 ∷ Exec 0 ∷ []) ++ replicate 63 (Store 0)) all_of_the_vpm_program) ≡ Some ((Some (((replicate 16 0x0) ∷ (replicate 16 0x0) ∷ (replicate 16 0x0) ∷ (replicate 16 0x0) ∷ []), ((replicate 16 0x0) ∷ (replicate 16 0x0) ∷ []), record { zn = None; c = None }, Ended, 5)) ∷ (None) ∷ [], Done, None, [], [], [])
unfolding lanes mask_below is_shared add_result mul_result add_op mul_op read_a read_b operand unpacked small_value lane_test branch_test rotation rotated packed left replicated written stored read_setup write_setup put_read put_write take_vector put_vector add_values mul_values loaded plain_values add_sent mul_sent add_stored mul_stored put_add put_mul put_loaded zn_of add_carries unit_flags load_flags flags_after target_of branch_fails rest_after place_after halt_after sent_to sent_to_a sent_to_b look_address outs_from after_setups registers_after moved_on done halted is_link_point word_part with_word_part vector_places transfer_of row_pairs fits opening_shared opening_processor awaits first_cause ins_of after_reads after_writes mutex_after semaphores_after shared_after instruction_result instruction machine_of carried after_row after_step ending_of lib.Count.count_leading_zeros row_moved fetch_moved pending_after
all_of_the_vpm = refl

-- the same store in a memory that is one word short
abbrev memory_too_short_program : MachineState
memory_too_short_program = (machine_of (replicate 1023 0) 100 ((0xe0021c67a0104000 ∷ 0xe0021ca700000000 ∷ 0x300009e7009e7000 ∷ 0x100009e7009e7000 ∷ 0x100009e7009e7000 ∷ []) ∷ []) (record { q = 0; program = 0; uniforms = 0 } ∷ []))

memory_too_short : option_map seen (along (Exec 0 ∷ Exec 0 ∷ []) memory_too_short_program) ≡ Some ((Some (((replicate 16 0x0) ∷ (replicate 16 0x0) ∷ (replicate 16 0x0) ∷ (replicate 16 0x0) ∷ []), ((replicate 16 0x0) ∷ (replicate 16 0x0) ∷ []), record { zn = None; c = None }, Faulted Transfer 1, 1)) ∷ (None) ∷ [], SomeFaulted, None, [], [], [])
unfolding lanes mask_below is_shared add_result mul_result add_op mul_op read_a read_b operand unpacked small_value lane_test branch_test rotation rotated packed left replicated written stored read_setup write_setup put_read put_write take_vector put_vector add_values mul_values loaded plain_values add_sent mul_sent add_stored mul_stored put_add put_mul put_loaded zn_of add_carries unit_flags load_flags flags_after target_of branch_fails rest_after place_after halt_after sent_to sent_to_a sent_to_b look_address outs_from after_setups registers_after moved_on done halted is_link_point word_part with_word_part vector_places transfer_of row_pairs fits opening_shared opening_processor awaits first_cause ins_of after_reads after_writes mutex_after semaphores_after shared_after instruction_result instruction machine_of carried after_row after_step ending_of lib.Count.count_leading_zeros row_moved fetch_moved pending_after
memory_too_short = refl

-- a load, and a word that waits for it
abbrev load_and_wait_program : MachineState
load_and_wait_program = (machine_of (9 ∷ 0 ∷ 0 ∷ 0 ∷ 0 ∷ 0 ∷ 0 ∷ 0 ∷ 0 ∷ 0 ∷ 0 ∷ 0 ∷ 0 ∷ 0 ∷ 0 ∷ 0 ∷ []) 100 ((0xe0020c6780011000 ∷ 0xe0020ca700000000 ∷ 0x100209e715ca7d80 ∷ 0x300009e7009e7000 ∷ 0x100009e7009e7000 ∷ 0x100009e7009e7000 ∷ []) ∷ []) (record { q = 0; program = 0; uniforms = 0 } ∷ []))

load_and_wait : option_map seen (along (Exec 0 ∷ Exec 0 ∷ Load 0 ∷ Exec 0 ∷ Exec 0 ∷ Exec 0 ∷ Exec 0 ∷ []) load_and_wait_program) ≡ Some ((Some (((replicate 16 0x0) ∷ (replicate 16 0x0) ∷ (replicate 16 0x0) ∷ (replicate 16 0x0) ∷ []), ((replicate 16 0x0) ∷ (replicate 16 0x0) ∷ []), record { zn = None; c = None }, Ended, 6)) ∷ (None) ∷ [], Done, None, [], (0, 0x9) ∷ [], (0, 0x9) ∷ [])
unfolding lanes mask_below is_shared add_result mul_result add_op mul_op read_a read_b operand unpacked small_value lane_test branch_test rotation rotated packed left replicated written stored read_setup write_setup put_read put_write take_vector put_vector add_values mul_values loaded plain_values add_sent mul_sent add_stored mul_stored put_add put_mul put_loaded zn_of add_carries unit_flags load_flags flags_after target_of branch_fails rest_after place_after halt_after sent_to sent_to_a sent_to_b look_address outs_from after_setups registers_after moved_on done halted is_link_point word_part with_word_part vector_places transfer_of row_pairs fits opening_shared opening_processor awaits first_cause ins_of after_reads after_writes mutex_after semaphores_after shared_after instruction_result instruction machine_of carried after_row after_step ending_of lib.Count.count_leading_zeros row_moved fetch_moved pending_after
load_and_wait = refl

-- two processors that wait for each other in turn
abbrev two_semaphores_program : MachineState
two_semaphores_program = (machine_of (replicate 16 0) 100 ((0xe80009e700000000 ∷ 0xe80009e700000011 ∷ 0x300009e7009e7000 ∷ 0x100009e7009e7000 ∷ 0x100009e7009e7000 ∷ []) ∷ (0xe80009e700000010 ∷ 0xe80009e700000001 ∷ 0x300009e7009e7000 ∷ 0x100009e7009e7000 ∷ 0x100009e7009e7000 ∷ []) ∷ []) (record { q = 0; program = 0; uniforms = 0 } ∷ record { q = 1; program = 1; uniforms = 0 } ∷ []))

two_semaphores : option_map seen (along (Exec 0 ∷ Exec 1 ∷ Exec 1 ∷ Exec 0 ∷ Exec 1 ∷ Exec 1 ∷ Exec 1 ∷ Exec 0 ∷ Exec 0 ∷ Exec 0 ∷ []) two_semaphores_program) ≡ Some ((Some (((replicate 16 0x0) ∷ (replicate 16 0x0) ∷ (replicate 16 0x0) ∷ (replicate 16 0x0) ∷ []), ((replicate 16 0x0) ∷ (replicate 16 0x0) ∷ []), record { zn = None; c = None }, Ended, 5)) ∷ (Some (((replicate 16 0x0) ∷ (replicate 16 0x0) ∷ (replicate 16 0x0) ∷ (replicate 16 0x0) ∷ []), ((replicate 16 0x0) ∷ (replicate 16 0x0) ∷ []), record { zn = None; c = None }, Ended, 5)) ∷ [], Done, None, [], [], [])
unfolding lanes mask_below is_shared add_result mul_result add_op mul_op read_a read_b operand unpacked small_value lane_test branch_test rotation rotated packed left replicated written stored read_setup write_setup put_read put_write take_vector put_vector add_values mul_values loaded plain_values add_sent mul_sent add_stored mul_stored put_add put_mul put_loaded zn_of add_carries unit_flags load_flags flags_after target_of branch_fails rest_after place_after halt_after sent_to sent_to_a sent_to_b look_address outs_from after_setups registers_after moved_on done halted is_link_point word_part with_word_part vector_places transfer_of row_pairs fits opening_shared opening_processor awaits first_cause ins_of after_reads after_writes mutex_after semaphores_after shared_after instruction_result instruction machine_of carried after_row after_step ending_of lib.Count.count_leading_zeros row_moved fetch_moved pending_after
two_semaphores = refl

-- two processors that both wait
abbrev deadlock_program : MachineState
deadlock_program = (machine_of (replicate 16 0) 100 ((0xe80009e700000010 ∷ 0xe80009e700000000 ∷ 0x300009e7009e7000 ∷ 0x100009e7009e7000 ∷ 0x100009e7009e7000 ∷ []) ∷ []) (record { q = 0; program = 0; uniforms = 0 } ∷ record { q = 1; program = 0; uniforms = 0 } ∷ []))

deadlock : option_map seen (along ([]) deadlock_program) ≡ Some ((Some (((replicate 16 0x0) ∷ (replicate 16 0x0) ∷ (replicate 16 0x0) ∷ (replicate 16 0x0) ∷ []), ((replicate 16 0x0) ∷ (replicate 16 0x0) ∷ []), record { zn = None; c = None }, Going, 0)) ∷ (Some (((replicate 16 0x0) ∷ (replicate 16 0x0) ∷ (replicate 16 0x0) ∷ (replicate 16 0x0) ∷ []), ((replicate 16 0x0) ∷ (replicate 16 0x0) ∷ []), record { zn = None; c = None }, Going, 0)) ∷ [], Stuck, None, [], [], [])
unfolding lanes mask_below is_shared add_result mul_result add_op mul_op read_a read_b operand unpacked small_value lane_test branch_test rotation rotated packed left replicated written stored read_setup write_setup put_read put_write take_vector put_vector add_values mul_values loaded plain_values add_sent mul_sent add_stored mul_stored put_add put_mul put_loaded zn_of add_carries unit_flags load_flags flags_after target_of branch_fails rest_after place_after halt_after sent_to sent_to_a sent_to_b look_address outs_from after_setups registers_after moved_on done halted is_link_point word_part with_word_part vector_places transfer_of row_pairs fits opening_shared opening_processor awaits first_cause ins_of after_reads after_writes mutex_after semaphores_after shared_after instruction_result instruction machine_of carried after_row after_step ending_of lib.Count.count_leading_zeros row_moved fetch_moved pending_after
deadlock = refl

-- sixteen increments of a semaphore
abbrev full_semaphore_program : MachineState
full_semaphore_program = (machine_of (replicate 16 0) 100 ((0xe80009e700000003 ∷ 0xe80009e700000003 ∷ 0xe80009e700000003 ∷ 0xe80009e700000003 ∷ 0xe80009e700000003 ∷ 0xe80009e700000003 ∷ 0xe80009e700000003 ∷ 0xe80009e700000003 ∷ 0xe80009e700000003 ∷ 0xe80009e700000003 ∷ 0xe80009e700000003 ∷ 0xe80009e700000003 ∷ 0xe80009e700000003 ∷ 0xe80009e700000003 ∷ 0xe80009e700000003 ∷ 0xe80009e700000003 ∷ 0x300009e7009e7000 ∷ 0x100009e7009e7000 ∷ 0x100009e7009e7000 ∷ []) ∷ []) (record { q = 0; program = 0; uniforms = 0 } ∷ []))

full_semaphore : option_map seen (along (Exec 0 ∷ Exec 0 ∷ Exec 0 ∷ Exec 0 ∷ Exec 0 ∷ Exec 0 ∷ Exec 0 ∷ Exec 0 ∷ Exec 0 ∷ Exec 0 ∷ Exec 0 ∷ Exec 0 ∷ Exec 0 ∷ Exec 0 ∷ Exec 0 ∷ []) full_semaphore_program) ≡ Some ((Some (((replicate 16 0x0) ∷ (replicate 16 0x0) ∷ (replicate 16 0x0) ∷ (replicate 16 0x0) ∷ []), ((replicate 16 0x0) ∷ (replicate 16 0x0) ∷ []), record { zn = None; c = None }, Going, 15)) ∷ (None) ∷ [], Stuck, None, (3, 0xf) ∷ [], [], [])
unfolding lanes mask_below is_shared add_result mul_result add_op mul_op read_a read_b operand unpacked small_value lane_test branch_test rotation rotated packed left replicated written stored read_setup write_setup put_read put_write take_vector put_vector add_values mul_values loaded plain_values add_sent mul_sent add_stored mul_stored put_add put_mul put_loaded zn_of add_carries unit_flags load_flags flags_after target_of branch_fails rest_after place_after halt_after sent_to sent_to_a sent_to_b look_address outs_from after_setups registers_after moved_on done halted is_link_point word_part with_word_part vector_places transfer_of row_pairs fits opening_shared opening_processor awaits first_cause ins_of after_reads after_writes mutex_after semaphores_after shared_after instruction_result instruction machine_of carried after_row after_step ending_of lib.Count.count_leading_zeros row_moved fetch_moved pending_after
full_semaphore = refl

-- two processors that acquire the mutex
abbrev mutex_program : MachineState
mutex_program = (machine_of (replicate 16 0) 100 ((0x100209e715ce7d80 ∷ 0x300009e7009e7000 ∷ 0x100009e7009e7000 ∷ 0x100009e7009e7000 ∷ []) ∷ []) (record { q = 0; program = 0; uniforms = 0 } ∷ record { q = 1; program = 0; uniforms = 0 } ∷ []))

mutex : option_map seen (along (Exec 0 ∷ Exec 0 ∷ Exec 0 ∷ Exec 0 ∷ []) mutex_program) ≡ Some ((Some (((replicate 16 0x0) ∷ (replicate 16 0x0) ∷ (replicate 16 0x0) ∷ (replicate 16 0x0) ∷ []), ((replicate 16 0x0) ∷ (replicate 16 0x0) ∷ []), record { zn = None; c = None }, Ended, 4)) ∷ (Some (((replicate 16 0x0) ∷ (replicate 16 0x0) ∷ (replicate 16 0x0) ∷ (replicate 16 0x0) ∷ []), ((replicate 16 0x0) ∷ (replicate 16 0x0) ∷ []), record { zn = None; c = None }, Going, 0)) ∷ [], Stuck, Some 0, [], [], [])
unfolding lanes mask_below is_shared add_result mul_result add_op mul_op read_a read_b operand unpacked small_value lane_test branch_test rotation rotated packed left replicated written stored read_setup write_setup put_read put_write take_vector put_vector add_values mul_values loaded plain_values add_sent mul_sent add_stored mul_stored put_add put_mul put_loaded zn_of add_carries unit_flags load_flags flags_after target_of branch_fails rest_after place_after halt_after sent_to sent_to_a sent_to_b look_address outs_from after_setups registers_after moved_on done halted is_link_point word_part with_word_part vector_places transfer_of row_pairs fits opening_shared opening_processor awaits first_cause ins_of after_reads after_writes mutex_after semaphores_after shared_after instruction_result instruction machine_of carried after_row after_step ending_of lib.Count.count_leading_zeros row_moved fetch_moved pending_after
mutex = refl

-- a branch to itself, up to a limit
abbrev endless_program : MachineState
endless_program = (machine_of (replicate 16 0) 1000 ((0xf0f809e7ffffffe0 ∷ 0x100009e7009e7000 ∷ 0x100009e7009e7000 ∷ 0x100009e7009e7000 ∷ []) ∷ []) (record { q = 0; program = 0; uniforms = 0 } ∷ []))

endless : option_map seen (along (replicate 1000 (Exec 0)) endless_program) ≡ Some ((Some (((replicate 16 0x0) ∷ (replicate 16 0x0) ∷ (replicate 16 0x0) ∷ (replicate 16 0x0) ∷ []), ((replicate 16 0x0) ∷ (replicate 16 0x0) ∷ []), record { zn = None; c = None }, Going, 1000)) ∷ (None) ∷ [], RanOut, None, [], [], [])
unfolding lanes mask_below is_shared add_result mul_result add_op mul_op read_a read_b operand unpacked small_value lane_test branch_test rotation rotated packed left replicated written stored read_setup write_setup put_read put_write take_vector put_vector add_values mul_values loaded plain_values add_sent mul_sent add_stored mul_stored put_add put_mul put_loaded zn_of add_carries unit_flags load_flags flags_after target_of branch_fails rest_after place_after halt_after sent_to sent_to_a sent_to_b look_address outs_from after_setups registers_after moved_on done halted is_link_point word_part with_word_part vector_places transfer_of row_pairs fits opening_shared opening_processor awaits first_cause ins_of after_reads after_writes mutex_after semaphores_after shared_after instruction_result instruction machine_of carried after_row after_step ending_of lib.Count.count_leading_zeros row_moved fetch_moved pending_after
endless = refl

-- a limit of no instruction
abbrev no_limit_program : MachineState
no_limit_program = (machine_of (replicate 16 0) 0 ((0xf0f809e7ffffffe0 ∷ 0x100009e7009e7000 ∷ 0x100009e7009e7000 ∷ 0x100009e7009e7000 ∷ []) ∷ []) (record { q = 0; program = 0; uniforms = 0 } ∷ []))

no_limit : option_map seen (along ([]) no_limit_program) ≡ Some ((Some (((replicate 16 0x0) ∷ (replicate 16 0x0) ∷ (replicate 16 0x0) ∷ (replicate 16 0x0) ∷ []), ((replicate 16 0x0) ∷ (replicate 16 0x0) ∷ []), record { zn = None; c = None }, Going, 0)) ∷ (None) ∷ [], RanOut, None, [], [], [])
unfolding lanes mask_below is_shared add_result mul_result add_op mul_op read_a read_b operand unpacked small_value lane_test branch_test rotation rotated packed left replicated written stored read_setup write_setup put_read put_write take_vector put_vector add_values mul_values loaded plain_values add_sent mul_sent add_stored mul_stored put_add put_mul put_loaded zn_of add_carries unit_flags load_flags flags_after target_of branch_fails rest_after place_after halt_after sent_to sent_to_a sent_to_b look_address outs_from after_setups registers_after moved_on done halted is_link_point word_part with_word_part vector_places transfer_of row_pairs fits opening_shared opening_processor awaits first_cause ins_of after_reads after_writes mutex_after semaphores_after shared_after instruction_result instruction machine_of carried after_row after_step ending_of lib.Count.count_leading_zeros row_moved fetch_moved pending_after
no_limit = refl

-- a look-up of sixteen times one word
abbrev look_up_program : MachineState
look_up_program = (machine_of (7 ∷ 0 ∷ 0 ∷ 0 ∷ 0 ∷ 0 ∷ 0 ∷ 0 ∷ 0 ∷ 0 ∷ 0 ∷ 0 ∷ 0 ∷ 0 ∷ 0 ∷ 0 ∷ []) 100 ((0x10020e27159e7000 ∷ 0xa00009e7009e7000 ∷ 0x10020867159e7900 ∷ 0x300009e7009e7000 ∷ 0x100009e7009e7000 ∷ 0x100009e7009e7000 ∷ []) ∷ []) (record { q = 0; program = 0; uniforms = 0 } ∷ []))

look_up : option_map seen (along (Exec 0 ∷ Fetch 0 0 ∷ Exec 0 ∷ Exec 0 ∷ Exec 0 ∷ Exec 0 ∷ Exec 0 ∷ []) look_up_program) ≡ Some ((Some (((replicate 16 0x0) ∷ (replicate 16 0x7) ∷ (replicate 16 0x0) ∷ (replicate 16 0x0) ∷ []), ((replicate 16 0x0) ∷ (replicate 16 0x0) ∷ []), record { zn = None; c = None }, Ended, 6)) ∷ (None) ∷ [], Done, None, [], [], (0, 0x7) ∷ [])
unfolding lanes mask_below is_shared add_result mul_result add_op mul_op read_a read_b operand unpacked small_value lane_test branch_test rotation rotated packed left replicated written stored read_setup write_setup put_read put_write take_vector put_vector add_values mul_values loaded plain_values add_sent mul_sent add_stored mul_stored put_add put_mul put_loaded zn_of add_carries unit_flags load_flags flags_after target_of branch_fails rest_after place_after halt_after sent_to sent_to_a sent_to_b look_address outs_from after_setups registers_after moved_on done halted is_link_point word_part with_word_part vector_places transfer_of row_pairs fits opening_shared opening_processor awaits first_cause ins_of after_reads after_writes mutex_after semaphores_after shared_after instruction_result instruction machine_of carried after_row after_step ending_of lib.Count.count_leading_zeros row_moved fetch_moved pending_after
look_up = refl

-- the look-up in the second unit
abbrev second_unit_program : MachineState
second_unit_program = (machine_of (7 ∷ 0 ∷ 0 ∷ 0 ∷ 0 ∷ 0 ∷ 0 ∷ 0 ∷ 0 ∷ 0 ∷ 0 ∷ 0 ∷ 0 ∷ 0 ∷ 0 ∷ 0 ∷ []) 100 ((0x10020f27159e7000 ∷ 0xb00009e7009e7000 ∷ 0x10020867159e7900 ∷ 0x300009e7009e7000 ∷ 0x100009e7009e7000 ∷ 0x100009e7009e7000 ∷ []) ∷ []) (record { q = 0; program = 0; uniforms = 0 } ∷ []))

-- the same through the second unit, and there is no third
second_unit : option_map seen (along (Exec 0 ∷ Fetch 0 1 ∷ Exec 0 ∷ Exec 0 ∷ Exec 0 ∷ Exec 0 ∷ Exec 0 ∷ []) second_unit_program) ≡ Some ((Some (((replicate 16 0x0) ∷ (replicate 16 0x7) ∷ (replicate 16 0x0) ∷ (replicate 16 0x0) ∷ []), ((replicate 16 0x0) ∷ (replicate 16 0x0) ∷ []), record { zn = None; c = None }, Ended, 6)) ∷ (None) ∷ [], Done, None, [], [], (0, 0x7) ∷ [])
unfolding lanes mask_below is_shared add_result mul_result add_op mul_op read_a read_b operand unpacked small_value lane_test branch_test rotation rotated packed left replicated written stored read_setup write_setup put_read put_write take_vector put_vector add_values mul_values loaded plain_values add_sent mul_sent add_stored mul_stored put_add put_mul put_loaded zn_of add_carries unit_flags load_flags flags_after target_of branch_fails rest_after place_after halt_after sent_to sent_to_a sent_to_b look_address outs_from after_setups registers_after moved_on done halted is_link_point word_part with_word_part vector_places transfer_of row_pairs fits opening_shared opening_processor awaits first_cause ins_of after_reads after_writes mutex_after semaphores_after shared_after instruction_result instruction machine_of carried after_row after_step ending_of lib.Count.count_leading_zeros row_moved fetch_moved pending_after
second_unit = refl

no_third_unit : option_map seen (along (Exec 0 ∷ Fetch 0 2 ∷ []) second_unit_program) ≡ None
unfolding lanes mask_below is_shared add_result mul_result add_op mul_op read_a read_b operand unpacked small_value lane_test branch_test rotation rotated packed left replicated written stored read_setup write_setup put_read put_write take_vector put_vector add_values mul_values loaded plain_values add_sent mul_sent add_stored mul_stored put_add put_mul put_loaded zn_of add_carries unit_flags load_flags flags_after target_of branch_fails rest_after place_after halt_after sent_to sent_to_a sent_to_b look_address outs_from after_setups registers_after moved_on done halted is_link_point word_part with_word_part vector_places transfer_of row_pairs fits opening_shared opening_processor awaits first_cause ins_of after_reads after_writes mutex_after semaphores_after shared_after instruction_result instruction machine_of carried after_row after_step ending_of lib.Count.count_leading_zeros row_moved fetch_moved pending_after
no_third_unit = refl

-- writes where Z is set, and a branch that is taken
abbrev conditions_program : MachineState
conditions_program = (machine_of (replicate 16 0) 100 ((0xd00229e70d983dc0 ∷ 0x100009e7009e7000 ∷ 0xe004082700000001 ∷ 0xe008086700000002 ∷ 0xf02809e700000000 ∷ 0x100009e7009e7000 ∷ 0x100009e7009e7000 ∷ 0x100009e7009e7000 ∷ 0xe00208a700000007 ∷ 0x300009e7009e7000 ∷ 0x100009e7009e7000 ∷ 0x100009e7009e7000 ∷ []) ∷ []) (record { q = 0; program = 0; uniforms = 0 } ∷ []))

conditions : option_map seen (along (Exec 0 ∷ Exec 0 ∷ Exec 0 ∷ Exec 0 ∷ Exec 0 ∷ Exec 0 ∷ Exec 0 ∷ Exec 0 ∷ Exec 0 ∷ Exec 0 ∷ Exec 0 ∷ Exec 0 ∷ []) conditions_program) ≡ Some ((Some (((0x0 ∷ 0x0 ∷ 0x0 ∷ 0x1 ∷ 0x0 ∷ 0x0 ∷ 0x0 ∷ 0x0 ∷ 0x0 ∷ 0x0 ∷ 0x0 ∷ 0x0 ∷ 0x0 ∷ 0x0 ∷ 0x0 ∷ 0x0 ∷ []) ∷ (0x2 ∷ 0x2 ∷ 0x2 ∷ 0x0 ∷ 0x0 ∷ 0x0 ∷ 0x0 ∷ 0x0 ∷ 0x0 ∷ 0x0 ∷ 0x0 ∷ 0x0 ∷ 0x0 ∷ 0x0 ∷ 0x0 ∷ 0x0 ∷ []) ∷ (replicate 16 0x7) ∷ (replicate 16 0x0) ∷ []), ((replicate 16 0x0) ∷ (replicate 16 0x0) ∷ []), record { zn = Some (0x8, 0x7); c = Some 0x7 }, Ended, 12)) ∷ (None) ∷ [], Done, None, [], [], [])
unfolding lanes mask_below is_shared add_result mul_result add_op mul_op read_a read_b operand unpacked small_value lane_test branch_test rotation rotated packed left replicated written stored read_setup write_setup put_read put_write take_vector put_vector add_values mul_values loaded plain_values add_sent mul_sent add_stored mul_stored put_add put_mul put_loaded zn_of add_carries unit_flags load_flags flags_after target_of branch_fails rest_after place_after halt_after sent_to sent_to_a sent_to_b look_address outs_from after_setups registers_after moved_on done halted is_link_point word_part with_word_part vector_places transfer_of row_pairs fits opening_shared opening_processor awaits first_cause ins_of after_reads after_writes mutex_after semaphores_after shared_after instruction_result instruction machine_of carried after_row after_step ending_of lib.Count.count_leading_zeros row_moved fetch_moved pending_after
conditions = refl

-- a link, and a register branch back to it
abbrev link_program : MachineState
link_program = (machine_of (replicate 16 0) 60 ((0xf0f8016700000018 ∷ 0x100009e7009e7000 ∷ 0x100009e7009e7000 ∷ 0x100009e7009e7000 ∷ 0xe002082700000005 ∷ 0xf0f809e700000028 ∷ 0x100009e7009e7000 ∷ 0x100009e7009e7000 ∷ 0xf0f4a9e700000000 ∷ 0x100009e7009e7000 ∷ 0x100009e7009e7000 ∷ 0x100009e7009e7000 ∷ 0x300009e7009e7000 ∷ 0x100009e7009e7000 ∷ 0x100009e7009e7000 ∷ []) ∷ []) (record { q = 0; program = 0; uniforms = 0 } ∷ []))

link : option_map seen (along (Exec 0 ∷ Exec 0 ∷ Exec 0 ∷ Exec 0 ∷ Exec 0 ∷ Exec 0 ∷ Exec 0 ∷ Exec 0 ∷ Exec 0 ∷ Exec 0 ∷ Exec 0 ∷ Exec 0 ∷ Exec 0 ∷ Exec 0 ∷ Exec 0 ∷ Exec 0 ∷ Exec 0 ∷ Exec 0 ∷ Exec 0 ∷ Exec 0 ∷ Exec 0 ∷ Exec 0 ∷ Exec 0 ∷ Exec 0 ∷ Exec 0 ∷ Exec 0 ∷ Exec 0 ∷ Exec 0 ∷ Exec 0 ∷ Exec 0 ∷ Exec 0 ∷ Exec 0 ∷ Exec 0 ∷ Exec 0 ∷ Exec 0 ∷ Exec 0 ∷ Exec 0 ∷ Exec 0 ∷ Exec 0 ∷ Exec 0 ∷ Exec 0 ∷ Exec 0 ∷ Exec 0 ∷ Exec 0 ∷ Exec 0 ∷ Exec 0 ∷ Exec 0 ∷ Exec 0 ∷ Exec 0 ∷ Exec 0 ∷ Exec 0 ∷ Exec 0 ∷ Exec 0 ∷ Exec 0 ∷ Exec 0 ∷ Exec 0 ∷ Exec 0 ∷ Exec 0 ∷ Exec 0 ∷ Exec 0 ∷ []) link_program) ≡ Some ((Some (((replicate 16 0x5) ∷ (replicate 16 0x0) ∷ (replicate 16 0x0) ∷ (replicate 16 0x0) ∷ []), ((replicate 16 0x0) ∷ (replicate 16 0x0) ∷ []), record { zn = None; c = None }, Going, 60)) ∷ (None) ∷ [], RanOut, None, [], [], [])
unfolding lanes mask_below is_shared add_result mul_result add_op mul_op read_a read_b operand unpacked small_value lane_test branch_test rotation rotated packed left replicated written stored read_setup write_setup put_read put_write take_vector put_vector add_values mul_values loaded plain_values add_sent mul_sent add_stored mul_stored put_add put_mul put_loaded zn_of add_carries unit_flags load_flags flags_after target_of branch_fails rest_after place_after halt_after sent_to sent_to_a sent_to_b look_address outs_from after_setups registers_after moved_on done halted is_link_point word_part with_word_part vector_places transfer_of row_pairs fits opening_shared opening_processor awaits first_cause ins_of after_reads after_writes mutex_after semaphores_after shared_after instruction_result instruction machine_of carried after_row after_step ending_of lib.Count.count_leading_zeros row_moved fetch_moved pending_after
link = refl

-- sixteen packed bytes, of which each fourth is read as the low byte of a column
abbrev bytes_in_a_row_program : MachineState
bytes_in_a_row_program = (machine_of (replicate 16 0) 100 ((0xe0021c6700001801 ∷ 0x10020c27159a7d80 ∷ 0xe0020c6700101c00 ∷ 0x1002082715c27d80 ∷ 0x300009e7009e7000 ∷ 0x100009e7009e7000 ∷ 0x100009e7009e7000 ∷ []) ∷ []) (record { q = 0; program = 0; uniforms = 0 } ∷ []))

bytes_in_a_row : option_map seen (along (replicate 7 (Exec 0)) bytes_in_a_row_program) ≡ Some ((Some (((0x0 ∷ 0x0 ∷ 0x0 ∷ 0x0 ∷ 0x0 ∷ 0x4 ∷ 0x8 ∷ 0xc ∷ 0x0 ∷ 0x0 ∷ 0x0 ∷ 0x0 ∷ 0x0 ∷ 0x0 ∷ 0x0 ∷ 0x0 ∷ []) ∷ (replicate 16 0x0) ∷ (replicate 16 0x0) ∷ (replicate 16 0x0) ∷ []), ((replicate 16 0x0) ∷ (replicate 16 0x0) ∷ []), record { zn = None; c = None }, Ended, 7)) ∷ (None) ∷ [], Done, None, [], (4, 0x03020100) ∷ (5, 0x07060504) ∷ (6, 0x0b0a0908) ∷ (7, 0x0f0e0d0c) ∷ [], [])
unfolding lanes mask_below is_shared add_result mul_result add_op mul_op read_a read_b operand unpacked small_value lane_test branch_test rotation rotated packed left replicated written stored read_setup write_setup put_read put_write take_vector put_vector add_values mul_values loaded plain_values add_sent mul_sent add_stored mul_stored put_add put_mul put_loaded zn_of add_carries unit_flags load_flags flags_after target_of branch_fails rest_after place_after halt_after sent_to sent_to_a sent_to_b look_address outs_from after_setups registers_after moved_on done halted is_link_point word_part with_word_part vector_places transfer_of row_pairs fits opening_shared opening_processor awaits first_cause ins_of after_reads after_writes mutex_after semaphores_after shared_after instruction_result instruction machine_of carried after_row after_step ending_of lib.Count.count_leading_zeros row_moved fetch_moved pending_after
bytes_in_a_row = refl

-- the same bytes, stored from byte address 1 on
abbrev stored_bytes_program : MachineState
stored_bytes_program = (machine_of (replicate 16 0) 100 ((0xe0021c6700001801 ∷ 0x10020c27159a7d80 ∷ 0xe0021c6780904024 ∷ 0xe0021ca700000001 ∷ 0x300009e7009e7000 ∷ 0x100009e7009e7000 ∷ 0x100009e7009e7000 ∷ []) ∷ []) (record { q = 0; program = 0; uniforms = 0 } ∷ []))

stored_bytes : option_map seen (along (replicate 4 (Exec 0) ++ (Store 0 ∷ Exec 0 ∷ Exec 0 ∷ Exec 0 ∷ [])) stored_bytes_program) ≡ Some ((Some (((replicate 16 0x0) ∷ (replicate 16 0x0) ∷ (replicate 16 0x0) ∷ (replicate 16 0x0) ∷ []), ((replicate 16 0x0) ∷ (replicate 16 0x0) ∷ []), record { zn = None; c = None }, Ended, 7)) ∷ (None) ∷ [], Done, None, [], (4, 0x03020100) ∷ (5, 0x07060504) ∷ (6, 0x0b0a0908) ∷ (7, 0x0f0e0d0c) ∷ [], (0, 0x02010000) ∷ (1, 0x06050403) ∷ (2, 0x0a090807) ∷ (3, 0x0e0d0c0b) ∷ (4, 0xf) ∷ [])
unfolding lanes mask_below is_shared add_result mul_result add_op mul_op read_a read_b operand unpacked small_value lane_test branch_test rotation rotated packed left replicated written stored read_setup write_setup put_read put_write take_vector put_vector add_values mul_values loaded plain_values add_sent mul_sent add_stored mul_stored put_add put_mul put_loaded zn_of add_carries unit_flags load_flags flags_after target_of branch_fails rest_after place_after halt_after sent_to sent_to_a sent_to_b look_address outs_from after_setups registers_after moved_on done halted is_link_point word_part with_word_part vector_places transfer_of row_pairs fits opening_shared opening_processor awaits first_cause ins_of after_reads after_writes mutex_after semaphores_after shared_after instruction_result instruction machine_of carried after_row after_step ending_of lib.Count.count_leading_zeros row_moved fetch_moved pending_after
stored_bytes = refl

-- a size that no elements have
abbrev no_such_size_program : MachineState
no_such_size_program = (machine_of (replicate 16 0) 100 ((0xe0020c6700100b00 ∷ 0x300009e7009e7000 ∷ 0x100009e7009e7000 ∷ 0x100009e7009e7000 ∷ []) ∷ []) (record { q = 0; program = 0; uniforms = 0 } ∷ []))

no_such_size : option_map seen (along (Exec 0 ∷ []) no_such_size_program) ≡ Some ((Some (((replicate 16 0x0) ∷ (replicate 16 0x0) ∷ (replicate 16 0x0) ∷ (replicate 16 0x0) ∷ []), ((replicate 16 0x0) ∷ (replicate 16 0x0) ∷ []), record { zn = None; c = None }, Faulted (Setup Size) 0, 0)) ∷ (None) ∷ [], SomeFaulted, None, [], [], [])
unfolding lanes mask_below is_shared add_result mul_result add_op mul_op read_a read_b operand unpacked small_value lane_test branch_test rotation rotated packed left replicated written stored read_setup write_setup put_read put_write take_vector put_vector add_values mul_values loaded plain_values add_sent mul_sent add_stored mul_stored put_add put_mul put_loaded zn_of add_carries unit_flags load_flags flags_after target_of branch_fails rest_after place_after halt_after sent_to sent_to_a sent_to_b look_address outs_from after_setups registers_after moved_on done halted is_link_point word_part with_word_part vector_places transfer_of row_pairs fits opening_shared opening_processor awaits first_cause ins_of after_reads after_writes mutex_after semaphores_after shared_after instruction_result instruction machine_of carried after_row after_step ending_of lib.Count.count_leading_zeros row_moved fetch_moved pending_after
no_such_size = refl

-- packed bytes in 65 places: four in a row
abbrev sixty_five_places_program : MachineState
sixty_five_places_program = (machine_of (replicate 16 0) 100 ((0xe0021c6700001800 ∷ replicate 65 0x10020c27159a7d80 ++ (0x300009e7009e7000 ∷ 0x100009e7009e7000 ∷ 0x100009e7009e7000 ∷ [])) ∷ []) (record { q = 0; program = 0; uniforms = 0 } ∷ []))

sixty_five_places : option_map seen (along (replicate 69 (Exec 0)) sixty_five_places_program) ≡ Some ((Some (((replicate 16 0x0) ∷ (replicate 16 0x0) ∷ (replicate 16 0x0) ∷ (replicate 16 0x0) ∷ []), ((replicate 16 0x0) ∷ (replicate 16 0x0) ∷ []), record { zn = None; c = None }, Ended, 69)) ∷ (None) ∷ [], Done, None, [], flat_map (λ k. (4 * k, 0x03020100) ∷ (4 * k + 1, 0x07060504) ∷ (4 * k + 2, 0x0b0a0908) ∷ (4 * k + 3, 0x0f0e0d0c) ∷ []) (range_with_len 0 65), [])
unfolding lanes mask_below is_shared add_result mul_result add_op mul_op read_a read_b operand unpacked small_value lane_test branch_test rotation rotated packed left replicated written stored read_setup write_setup put_read put_write take_vector put_vector add_values mul_values loaded plain_values add_sent mul_sent add_stored mul_stored put_add put_mul put_loaded zn_of add_carries unit_flags load_flags flags_after target_of branch_fails rest_after place_after halt_after sent_to sent_to_a sent_to_b look_address outs_from after_setups registers_after moved_on done halted is_link_point word_part with_word_part vector_places transfer_of row_pairs fits opening_shared opening_processor awaits first_cause ins_of after_reads after_writes mutex_after semaphores_after shared_after instruction_result instruction machine_of carried after_row after_step ending_of lib.Count.count_leading_zeros row_moved fetch_moved pending_after
sixty_five_places = refl
