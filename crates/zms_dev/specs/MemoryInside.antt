-- What holds inside a pool device in memory.
use Rattle.std.specs.Prelude.{◌≡◌, ℕ, ◌≤◌, List, ◌++◌, length, map, vec_capacity}
use Rattle.zms_dev.specs.History.{start, after}
use Rattle.zms_dev.specs.MemoryDisk.{step_of}
use Rattle.zms_dev.specs.declared.memory.calls.CallRecord.{CallRecord}
use Rattle.zms_dev.specs.declared.memory.disk.MemDisk.TheInside.{Inside}

-- the calls lead from the first bytes to those that are read, and what is written later changes none of them
pub record Records (first written bytes : List ℕ) (calls : List CallRecord) : Type 0 where
  pub reads : bytes ≡ (after (start first) (map (step_of written) calls)).seen
  pub stable : (more : List ℕ) → map (step_of (written ++ more)) calls ≡ map (step_of written) calls

-- the record is true, and there is memory for all that there is room for
pub record IsSound (d : Inside) : Type 0 where
  pub records : Records d.first.items d.written.items d.bytes.items d.calls.items
  pub bytes_fit : d.end ≤ vec_capacity d.bytes
  pub written_fit : d.room ≤ vec_capacity d.written
  pub written_within : length d.written.items ≤ d.room
  pub calls_fit : d.script.room ≤ vec_capacity d.calls
  pub calls_within : length d.calls.items ≤ d.script.made
