-- How many runs a buffer takes, and how many there are.
use Rattle.std.specs.Prelude.{ℕ, ◌+◌, ◌-◌, min, List}
use Rattle.std.specs.Vec.{vec_len, vec_capacity}
use Rattle.zms_units.specs.Runs.{run_count}
use Rattle.ms_model.specs.Gains.{is_gained, is_given}
use Rattle.ms_model.specs.declared.notes.Noted.{Noted}
use Rattle.ms_core.specs.declared.buffer.RunBuf.{RunBuf}

-- how many further runs both lists take without memory
abbrev pub run_room : RunBuf → ℕ
run_room buf = min (vec_capacity buf.allocs - vec_len buf.allocs) (vec_capacity buf.frees - vec_len buf.frees)

-- how many runs a group changes
abbrev pub changed_runs : List Noted → ℕ → ℕ → ℕ
changed_runs h units t = run_count (is_gained t h) units + run_count (is_given t h) units
