use Rattle.std.proofs.Common.{◌≡◌, ◌+◌, ◌≤◌, length, drop, vec_len}
use Rattle.std.specs.Vec.{vec_capacity}
use Rattle.std.specs.Vec.Iter.{into_iter_items, into_iter_len}
use Rattle.turn_passes.specs.Parts.{IsRest}
use Rattle.turn_passes.specs.Pairs.{Each}
use Rattle.ms_cell.specs.Closed.{StandsBy}
use Rattle.ms_cell.proofs.opening.make_metaslabs.Given as goal

abbrev pub decreases-loop-base : goal.decreases-loop-base
decreases-loop-base g l = into_iter_len l.bases

abbrev pub invariant-loop-base : goal.invariant-loop-base
invariant-loop-base g l = record {
  left : into_iter_items l.bases ≡ drop (length l.metaslabs.items) l.fn.bases.items;
  count : into_iter_len l.bases + vec_len l.metaslabs ≡ length l.fn.bases.items;
  both : vec_len l.rests ≡ vec_len l.metaslabs;
  room : length l.fn.bases.items ≤ vec_capacity l.metaslabs;
  rooms : length l.fn.bases.items ≤ vec_capacity l.rests;
  rests : Each (λ k t p. IsRest 0 t p) l.metaslabs.items l.rests.items;
  stand : Each (λ k base c. StandsBy l.vdevs l.opened.0 k base c) l.fn.bases.items l.rests.items;
}
