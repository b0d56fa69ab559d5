use Rattle.std.proofs.Common.{◌≡◌, length}
use Rattle.zms_tool.proofs.files.data_files.Given as goal

abbrev pub invariant-loop-index : goal.invariant-loop-index
invariant-loop-index l = length l.devices.items ≡ l.index-counter
