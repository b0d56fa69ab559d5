-- What is read from a source and written to a sink.
use Rattle.std.specs.Prelude.{◌≡◌, ℕ, ◌<◌, ◌≤◌, List, [], ◌++◌, [], length, take, drop, Option, unwrap_or}

-- a source at a moment: the bytes that it has left, where it tells them, and how often it has failed
pub record SourceState : Type 0 where
  pub left : Option (List ℕ)
  pub faults : ℕ

-- a sink at a moment: the bytes that it has taken and those that it has handed on, where it tells them, and how often it
-- has failed
pub record SinkState : Type 0 where
  pub taken : Option (List ℕ)
  -- all that it had taken at its last flush that succeeded
  pub handed : Option (List ℕ)
  pub faults : ℕ

-- the bytes that an object tells, or none where it tells nothing
abbrev pub told : Option (List ℕ) → List ℕ
told bytes = unwrap_or bytes []

-- a read took n bytes off the front into the buffer, and none only at the end
pub record Takes (before after buf : List ℕ) (n : ℕ) : Type 0 where
  pub enough : n ≤ length before
  pub front : take n buf ≡ take n before
  pub rest : after ≡ drop n before
  pub ended : n ≡ 0 → 0 < length buf → before ≡ []

-- n bytes went off the front of a source to the end of a text
pub record Moves (before after old new : List ℕ) (n : ℕ) : Type 0 where
  pub enough : n ≤ length before
  pub text : new ≡ old ++ take n before
  pub rest : after ≡ drop n before
