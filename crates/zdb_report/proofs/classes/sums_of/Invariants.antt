use Rattle.std.proofs.Common.{◌≡◌, ◌*◌, ◌^◌, ◌≤◌, List, take}
use Rattle.std.specs.List.{sum_by}
use Rattle.zdb_report.specs.Stats.{AreRows}
use Rattle.zdb_report.specs.Texts.{if_asked, live_bytes, vacant_bytes}
use Rattle.zdb_report.specs.declared.stats.MetaslabStats.{MetaslabStats}
use Rattle.zdb_report.proofs.classes.sums_of.Given as goal

abbrev pub invariant-loop-number : goal.invariant-loop-number
invariant-loop-number g l = record {
  live : (stats : List MetaslabStats) → AreRows l.store.table stats → l.sums.live ≡ sum_by (if_asked l.asked live_bytes) (take l.number stats);
  vacant : (stats : List MetaslabStats) → AreRows l.store.table stats → l.sums.vacant ≡ sum_by (if_asked l.asked vacant_bytes) (take l.number stats);
  few_live : l.sums.live ≤ l.number * 2 ^ 29;
  few_vacant : l.sums.vacant ≤ l.number * 2 ^ 29;
}
