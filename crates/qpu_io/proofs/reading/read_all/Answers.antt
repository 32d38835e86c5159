-- What the last read took stands behind the bytes so far, also where they aren't kept.
use Rattle.std.proofs.Common.{◌≤◌, ◌++◌, length, take, length-append, arith}
use Rattle.std.proofs.lemmas.List.{length-take-le}
use Rattle.qpu_io.proofs.Inputs.{takes_more}
use Rattle.qpu_io.proofs.reading.read_all.Goals as goal

pub returns-then-len-count-clause-too_long : goal.returns-then-len-count-clause-too_long
returns-then-len-count-clause-too_long g c = λ _. record {
  bytes = c.loop-bytes.bytes.items ++ take c.in_ok-count.count c.read.new.buf;
  more =
      let within : c.in_ok-count.count ≤ length c.read.new.buf = omega (arith, c.in_ok-count.ensures.ok.within) in
      rw (length-append, length-take-le c.in_ok-count.count c.read.new.buf within) (omega arith);
  taken = takes_more _ _ _ _ _ _ _ c.loop-bytes.invariant.taken c.in_ok-count.ensures.ok;
}

pub returns-in_err-extend_from_slice-clause-memory : goal.returns-in_err-extend_from_slice-clause-memory
returns-in_err-extend_from_slice-clause-memory g c = λ _. record {
  bytes = c.loop-bytes.bytes.items ++ take c.in_ok-count.count c.read.new.buf;
  at_most =
      let within : c.in_ok-count.count ≤ length c.read.new.buf = omega (arith, c.in_ok-count.ensures.ok.within) in
      rw (length-append, length-take-le c.in_ok-count.count c.read.new.buf within) (omega arith);
  taken = takes_more _ _ _ _ _ _ _ c.loop-bytes.invariant.taken c.in_ok-count.ensures.ok;
}
