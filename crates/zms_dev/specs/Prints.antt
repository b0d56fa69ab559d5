-- A text, written to a sink.
use Rattle.std.specs.Prelude.{◌≡◌, ℕ, ◌++◌, List, take, is_some, IsSome, Result, OnOk}
use Rattle.zms_dev.specs.Causes.{HasCause}
use Rattle.zms_dev.specs.Stream.{SinkState, told}

-- a text was handed to a sink: all of it, or as much of its front as it took before a call failed
pub record Prints {T E : Type 0} (old new : SinkState) (text : List ℕ) (result : Result T E) : Type 0 where
  pub kind : is_some new.taken ≡ is_some old.taken
  pub whole : IsSome old.taken → OnOk result (told new.taken ≡ told old.taken ++ text)
  pub partly : IsSome old.taken → (n : ℕ) × (told new.taken ≡ told old.taken ++ take n text)
  pub cause : HasCause old.faults new.faults result

-- and it was handed on: where all went well, all that the sink has taken has left it
pub record HandsOn {T E : Type 0} (old new : SinkState) (text : List ℕ) (result : Result T E) : Type 0 where
  pub prints : Prints old new text result
  pub left : OnOk result (new.handed ≡ new.taken)
