-- What the objects in memory are seen as.
use Rattle.std.specs.Prelude.{ℕ, List}
use Rattle.zms_dev.specs.Script.{ScriptState}

-- a source: the bytes that it has left
pub record SourceForm : Type 0 where
  pub left : List ℕ
  pub script : ScriptState

-- a sink: the bytes that it has taken, those that it has handed on, and how many it has room for in all
pub record SinkForm : Type 0 where
  pub taken : List ℕ
  pub handed : List ℕ
  pub room : ℕ
  pub script : ScriptState

-- the device of a vdev: its bytes, its discards, and the greatest end that it has room for
pub record DataForm : Type 0 where
  pub bytes : List ℕ
  pub discards : List (ℕ × ℕ)
  pub room : ℕ
  pub script : ScriptState
