use Rattle.std.proofs.Common.{take}
use Rattle.std.specs.List.{All}
use Rattle.ms_cell.specs.Closed.{IsLawful}
use Rattle.ms_cell.proofs.closing.look_over.Given as goal

abbrev pub invariant-loop-metaslab : goal.invariant-loop-metaslab
invariant-loop-metaslab g l = All IsLawful (take l.metaslab-index l.metaslabs)
