use Rattle.std.proofs.Common.{◌≡◌, ℕ, ◌<◌, length, get_or, take, false}
use Rattle.ms_core.proofs.Words.{covered}
use Rattle.ms_core.proofs.holding.table_of.Given as goal

abbrev pub invariant-loop-seg : goal.invariant-loop-seg
invariant-loop-seg l = record {
  len : length l.table.items ≡ l.units;
  covered : (u : ℕ) → u < l.units → get_or l.table.items u false ≡ covered (take l.seg-index l.segs) u;
}
