use Rattle.std.proofs.Common.{◌≡◌, ◌+◌, ◌≤◌, length, drop, vec_len}
use Rattle.std.specs.Vec.{vec_capacity}
use Rattle.std.specs.Vec.Iter.{into_iter_items, into_iter_len}
use Rattle.turn_passes.specs.Pairs.{Each}
use Rattle.pool_lanes.specs.Lanes.{IsJournalOf, IsCountOf}
use Rattle.pool_lanes.proofs.telling.tell_metaslabs.Given as goal

abbrev pub invariant-loop-metaslab : goal.invariant-loop-metaslab
invariant-loop-metaslab l = record {
  items : into_iter_items l.metaslab-iterator ≡ drop (length l.journals.items) l.fn.metaslabs.items;
  left : into_iter_len l.metaslab-iterator + vec_len l.journals ≡ length l.fn.metaslabs.items;
  both : vec_len l.totals ≡ vec_len l.journals;
  room : length l.fn.metaslabs.items ≤ vec_capacity l.journals;
  totals_room : length l.fn.metaslabs.items ≤ vec_capacity l.totals;
  told : Each (λ k m j. IsJournalOf m j) l.fn.metaslabs.items l.journals.items;
  counted : Each (λ k m c. IsCountOf m c) l.fn.metaslabs.items l.totals.items;
}
