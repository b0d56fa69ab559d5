-- What a call of the program is handed, as it stands at a moment.
use Rattle.std.specs.Prelude.{ℕ}
use Rattle.zms_dev.specs.Disk.{DiskState}
use Rattle.zms_dev.specs.Stream.{SourceState, SinkState}

-- the command file, the two sinks, and the pool device with its count of faults
pub record World : Type 1 where
  pub input : SourceState
  pub out : SinkState
  pub trace : SinkState
  pub disk : DiskState
  pub faults : ℕ

abbrev pub world : SourceState → SinkState → SinkState → DiskState → ℕ → World
world input out trace disk faults = record { input = input; out = out; trace = trace; disk = disk; faults = faults }
