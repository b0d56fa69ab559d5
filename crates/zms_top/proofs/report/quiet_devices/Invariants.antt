use Rattle.std.proofs.Common.{◌≡◌, ◌-◌, ◌≤◌, [], replicate, vec_len}
use Rattle.zms_top.proofs.report.quiet_devices.Given as goal

abbrev pub invariant-filling : goal.invariant-filling
invariant-filling l = record {
  are : l.lists.items ≡ replicate (vec_len l.lists) [];
  few : vec_len l.lists ≤ 16;
}

abbrev pub decreases-filling : goal.decreases-filling
decreases-filling l = 16 - vec_len l.lists
