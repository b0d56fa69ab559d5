use Rattle.std.proofs.Common.{◌≡◌, ◌<◌, ℕ, take, get_or}
use Rattle.std.specs.List.{count_by}
use Rattle.zms_units.specs.Weights.{is_in_bucket}
use Rattle.seg_trees.proofs.runs.histogram_of.Given as goal

abbrev pub invariant-loop-run : goal.invariant-loop-run
invariant-loop-run l = (bucket : ℕ) → bucket < 64 → get_or l.hist.runs bucket 0 ≡ count_by (is_in_bucket l.ashift bucket) (take l.run-index l.runs)
