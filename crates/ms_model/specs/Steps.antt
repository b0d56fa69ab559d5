-- The steps of one lane in one journal.
pub use Rattle.lane_steps.specs.Steps.{Step, look, noting, after, notes_at, notes_of, Quiet, Follows, Settled, IsPrefix}
