use Rattle.std.proofs.Common.{◌≡◌, take}
use Rattle.std.specs.List.{sum_by}
use Rattle.zms_top.specs.Texts.{if_asked, live_bytes, deferred_bytes, vacant_bytes}
use Rattle.zms_top.proofs.output.sums_of.Given as goal

abbrev pub invariant-loop-tally : goal.invariant-loop-tally
invariant-loop-tally l = record {
  live : l.sums.live ≡ sum_by (if_asked l.asked live_bytes) (take l.tally-index l.tallies);
  deferred : l.sums.deferred ≡ sum_by (if_asked l.asked deferred_bytes) (take l.tally-index l.tallies);
  vacant : l.sums.vacant ≡ sum_by (if_asked l.asked vacant_bytes) (take l.tally-index l.tallies);
}
