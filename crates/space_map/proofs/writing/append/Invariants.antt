use Rattle.std.proofs.Common.{◌+◌, ◌*◌, ◌-◌, ◌≤◌, length, vec_len}
use Rattle.std.specs.Vec.{vec_capacity}
use Rattle.space_map.proofs.Batching.{IsWrittenUpTo}
use Rattle.space_map.proofs.writing.append.Given as goal

abbrev pub invariant-loop-run : goal.invariant-loop-run
invariant-loop-run l =
    IsWrittenUpTo l.place l.fn.group.0 l.kind l.runs l.run-index l.fn.words.items l.words.items
    × (vec_len l.words + 3 * (length l.runs - l.run-index) ≤ vec_capacity l.words)
