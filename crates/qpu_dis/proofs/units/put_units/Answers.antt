-- Each part was written behind those before it, or a fault cut it off.
use Rattle.std.specs.Prelude.{◌++◌}
use Rattle.std.proofs.lemmas.Result.{err_from_is_err_and}
use Rattle.qpu_line.specs.declared.name.Name.TheVariants.{ReadA, ReadB}
use Rattle.qpu_line.specs.Lines.{signal_bits, other_bits, source_a, source_b, units_bits}
use Rattle.qpu_dis.specs.Text.{parts_bits}
use Rattle.qpu_dis.proofs.TextLemmas.{bits_later, bits_both, bits_front, bits_cut}
use Rattle.qpu_dis.proofs.units.put_units.Goals as goal

pub returns-in_err-put_parts : goal.returns-in_err-put_parts
unfolding units_bits
returns-in_err-put_parts g c =
    bits_front _ _ (parts_bits c.args.units.now ++ signal_bits c.args.units.now.signal ++ other_bits ReadA source_a c.args.units.now.other_a) (other_bits ReadB source_b c.args.units.now.other_b) _ c.from_residual.ensures.0
    (bits_front _ _ (parts_bits c.args.units.now ++ signal_bits c.args.units.now.signal) (other_bits ReadA source_a c.args.units.now.other_a) _ c.from_residual.ensures.0
    (bits_cut _ _ (parts_bits c.args.units.now) (signal_bits c.args.units.now.signal) _ c.from_residual.ensures.0 c.in_err-put_parts.ensures))

pub returns-in_err-put_signal : goal.returns-in_err-put_signal
unfolding units_bits
returns-in_err-put_signal g c =
    let r = err_from_is_err_and c.from_residual-in_err-put_signal.result c.from_residual-in_err-put_signal.ensures.1 in
    bits_front _ _ (parts_bits c.args.units.now ++ signal_bits c.args.units.now.signal ++ other_bits ReadA source_a c.args.units.now.other_a) (other_bits ReadB source_b c.args.units.now.other_b) _ c.from_residual-in_err-put_signal.ensures.0
    (bits_front _ _ (parts_bits c.args.units.now ++ signal_bits c.args.units.now.signal) (other_bits ReadA source_a c.args.units.now.other_a) _ c.from_residual-in_err-put_signal.ensures.0
    (bits_later _ _ _ (parts_bits c.args.units.now) (signal_bits c.args.units.now.signal) _ c.in_ok-put_parts.ensures (rw r.1 c.in_err-put_signal.ensures)))

pub returns-in_err-put_other_a : goal.returns-in_err-put_other_a
unfolding units_bits
returns-in_err-put_other_a g c =
    let r = err_from_is_err_and c.from_residual-in_err-put_other_a.result c.from_residual-in_err-put_other_a.ensures.1 in
    bits_front _ _ (parts_bits c.args.units.now ++ signal_bits c.args.units.now.signal ++ other_bits ReadA source_a c.args.units.now.other_a) (other_bits ReadB source_b c.args.units.now.other_b) _ c.from_residual-in_err-put_other_a.ensures.0
    (bits_later _ _ _ (parts_bits c.args.units.now ++ signal_bits c.args.units.now.signal) (other_bits ReadA source_a c.args.units.now.other_a) _ (bits_both _ _ _ (parts_bits c.args.units.now) (signal_bits c.args.units.now.signal) c.in_ok-put_parts.ensures c.in_ok-put_signal.ensures) (rw r.1 c.in_err-put_other_a.ensures))

pub returns : goal.returns
unfolding units_bits
returns g c =
    bits_later _ _ _ (parts_bits c.args.units.now ++ signal_bits c.args.units.now.signal ++ other_bits ReadA source_a c.args.units.now.other_a) (other_bits ReadB source_b c.args.units.now.other_b) _
    (bits_both _ _ _ (parts_bits c.args.units.now ++ signal_bits c.args.units.now.signal) (other_bits ReadA source_a c.args.units.now.other_a) (bits_both _ _ _ (parts_bits c.args.units.now) (signal_bits c.args.units.now.signal) c.in_ok-put_parts.ensures c.in_ok-put_signal.ensures) c.in_ok-put_other_a.ensures)
    c.put_other_b.ensures
