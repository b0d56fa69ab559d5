use Rattle.std.proofs.Common.{◌≤◌, length}
use Rattle.zms_tool.proofs.file.read_full.Given as goal

abbrev pub invariant-loop : goal.invariant-loop
invariant-loop l = l.got ≤ length l.buf
