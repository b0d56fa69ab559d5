use Rattle.std.proofs.Common.{◌≡◌, ◌*◌, ◌^◌, ◌≤◌, take}
use Rattle.std.specs.List.{sum_by}
use Rattle.run_text.specs.Tallies.{by_vdev, bytes_if}
use Rattle.run_text.proofs.tallies.class_bytes.Given as goal

abbrev pub invariant-loop-vdev : goal.invariant-loop-vdev
invariant-loop-vdev l = record {
  value : l.bytes ≡ sum_by (bytes_if l.class l.share) (take l.vdev (by_vdev l.vdevs l.counts));
  few : l.bytes ≤ l.vdev * 2 ^ 54;
}
