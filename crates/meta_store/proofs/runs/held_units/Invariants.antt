use Rattle.std.proofs.Common.{◌≡◌, ℕ, false, length, take}
use Rattle.std.specs.Prelude.{slice_index_or}
use Rattle.space_map.specs.Replay.{is_held}
use Rattle.meta_store.proofs.runs.held_units.Given as goal

abbrev pub invariant-loop-run : goal.invariant-loop-run
invariant-loop-run l = record {
  len : length l.held.items ≡ l.units;
  held : (u : ℕ) → slice_index_or l.held.items u false ≡ is_held (take l.run-index l.found) u;
}
