-- What is written when the lanes are done: the replies and totals to one sink, and then the trace to another.
use Rattle.std.specs.Prelude.{◌≡◌, ℕ, List, Result, OnOk, OnErr, IsErr}
use Rattle.zms_dev.specs.Prints.{HandsOn}
use Rattle.zms_dev.specs.Stream.{SinkState}
use Rattle.zms_dev.specs.declared.failed.Failed.{Failed}

-- two texts were handed to two sinks, one behind the other: the second took nothing before the first had handed on its
-- text whole
pub record WritesBoth (out out_now trace trace_now : SinkState) (first second : List ℕ) (result : Result (Unit {0}) Failed) : Type 0 where
  pub printed : Result (Unit {0}) Failed
  pub prints : HandsOn out out_now first printed
  pub traces : OnOk printed (HandsOn trace trace_now second result)
  pub stops : OnErr printed ((trace_now ≡ trace) × IsErr result)
