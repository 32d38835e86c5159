-- Each part of the text was appended behind those before it, or cut off.
use Rattle.qpu_io.proofs.Outputs.{turn_later, turn_last, turn_cut}
use Rattle.qpu_record.specs.Record.{runs_text}
use Rattle.qpu_record.proofs.writing.write_runs.Goals as goal

pub returns-in_err-write_all_of : goal.returns-in_err-write_all_of
unfolding runs_text
returns-in_err-write_all_of g c =
    (turn_cut _ _ _ _ _ c.from_residual.ensures.0 c.in_err-write_all_of.ensures)

pub returns-in_err-put_size : goal.returns-in_err-put_size
unfolding runs_text
returns-in_err-put_size g c =
    (turn_later _ _ _ _ _ _ c.in_ok-write_all_of.ensures
    (turn_cut _ _ _ _ _ c.from_residual-in_err-put_size.ensures.0 c.in_err-put_size.ensures))

pub returns-in_err-write_all_of-2 : goal.returns-in_err-write_all_of-2
unfolding runs_text
returns-in_err-write_all_of-2 g c =
    (turn_later _ _ _ _ _ _ c.in_ok-write_all_of.ensures
    (turn_later _ _ _ _ _ _ c.in_ok-put_size.ensures
    (turn_cut _ _ _ _ _ c.from_residual-in_err-write_all_of-2.ensures.0 c.in_err-write_all_of-2.ensures)))

pub returns-in_err-put_missing_line_end : goal.returns-in_err-put_missing_line_end
unfolding runs_text
returns-in_err-put_missing_line_end g c =
    (turn_later _ _ _ _ _ _ c.in_ok-write_all_of.ensures
    (turn_later _ _ _ _ _ _ c.in_ok-put_size.ensures
    (turn_later _ _ _ _ _ _ c.in_ok-write_all_of-2.ensures
    (turn_cut _ _ _ _ _ c.from_residual-in_err-put_missing_line_end.ensures.0 c.in_err-put_missing_line_end.ensures))))

pub returns-in_err-write_all_of-3 : goal.returns-in_err-write_all_of-3
unfolding runs_text
returns-in_err-write_all_of-3 g c =
    (turn_later _ _ _ _ _ _ c.in_ok-write_all_of.ensures
    (turn_later _ _ _ _ _ _ c.in_ok-put_size.ensures
    (turn_later _ _ _ _ _ _ c.in_ok-write_all_of-2.ensures
    (turn_later _ _ _ _ _ _ c.in_ok-put_missing_line_end.ensures
    (turn_cut _ _ _ _ _ c.from_residual-in_err-write_all_of-3.ensures.0 c.in_err-write_all_of-3.ensures)))))

pub returns-in_err-put_runs : goal.returns-in_err-put_runs
unfolding runs_text
returns-in_err-put_runs g c =
    (turn_later _ _ _ _ _ _ c.in_ok-write_all_of.ensures
    (turn_later _ _ _ _ _ _ c.in_ok-put_size.ensures
    (turn_later _ _ _ _ _ _ c.in_ok-write_all_of-2.ensures
    (turn_later _ _ _ _ _ _ c.in_ok-put_missing_line_end.ensures
    (turn_later _ _ _ _ _ _ c.in_ok-write_all_of-3.ensures
    (turn_cut _ _ _ _ _ c.from_residual-in_err-put_runs.ensures.0 c.in_err-put_runs.ensures))))))

pub returns : goal.returns
unfolding runs_text
returns g c =
    (turn_later _ _ _ _ _ _ c.in_ok-write_all_of.ensures
    (turn_later _ _ _ _ _ _ c.in_ok-put_size.ensures
    (turn_later _ _ _ _ _ _ c.in_ok-write_all_of-2.ensures
    (turn_later _ _ _ _ _ _ c.in_ok-put_missing_line_end.ensures
    (turn_later _ _ _ _ _ _ c.in_ok-write_all_of-3.ensures
    (turn_later _ _ _ _ _ _ c.in_ok-put_runs.ensures
    (turn_last _ _ _ _ c.write_all_of-4.ensures)))))))
