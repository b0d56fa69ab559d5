use Rattle.std.proofs.Common.{◌≡◌, ◌*◌, ◌^◌, ◌≤◌, take}
use Rattle.std.specs.List.{sum_by}
use Rattle.run_text.specs.Tallies.{units_in}
use Rattle.run_text.proofs.tallies.vdev_bytes.Given as goal

abbrev pub invariant-loop-metaslab : goal.invariant-loop-metaslab
invariant-loop-metaslab l = record {
  value : l.bytes ≡ sum_by (λ counts. units_in l.share counts * 2 ^ l.row.ashift) (take l.metaslab-index l.counts);
  few : l.bytes ≤ l.metaslab-index * 2 ^ 44;
}
