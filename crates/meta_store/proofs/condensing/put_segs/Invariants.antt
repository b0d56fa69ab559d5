use Rattle.std.proofs.Common.{◌≡◌, ℕ, false, take}
use Rattle.std.specs.Prelude.{if◌then◌else◌, slice_index_or}
use Rattle.zms_units.specs.Segments.{covered}
use Rattle.meta_store.proofs.condensing.put_segs.Given as goal

abbrev pub invariant-loop-seg : goal.invariant-loop-seg
invariant-loop-seg l = (u : ℕ) → slice_index_or l.marks u false ≡ (if covered (take l.seg-index l.segs) u then l.value else slice_index_or l.fn.marks u false)
