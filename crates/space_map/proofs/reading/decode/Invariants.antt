use Rattle.std.proofs.Common.{length, ◌-◌}
use Rattle.space_map.proofs.Deciding.{IsReadUpTo}
use Rattle.space_map.proofs.reading.decode.Given as goal

abbrev pub invariant-loop-at : goal.invariant-loop-at
invariant-loop-at l = IsReadUpTo l.kind l.words l.at l.found.items

abbrev pub decreases-loop-at : goal.decreases-loop-at
decreases-loop-at l = length l.words - l.at
