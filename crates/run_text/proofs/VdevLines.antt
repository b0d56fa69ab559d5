-- The lines of the metaslabs, as far as a loop over the vdevs has come.
use Rattle.std.proofs.Common.{◌≡◌, ℕ, ◌+◌, ◌<◌, ◌≤◌, List, ◌++◌, length, get_or, take, drop, sym, arith}
use Rattle.zms_units.specs.declared.places.VdevRow.{VdevRow}
use Rattle.ms_core.specs.declared.faults.Counts.{Counts}
use Rattle.trace_text.specs.Numbers.{numbered}
use Rattle.trace_text.proofs.Lists.{numbered-item_more, numbered-item_split, numbered-all}
use Rattle.run_text.specs.Tallies.{VdevCounts, by_vdev}
use Rattle.run_text.specs.Texts.{vdev_lines, metaslab_lines}
use Rattle.run_text.proofs.ByVdev.{length-by_vdev}

module _ (rows : List VdevRow) (counts : List Counts) (v : ℕ) where
  -- at one vdev more, and what is left then
  module _ (here : VdevCounts) (lt : v < length rows) (at : (none : VdevCounts) → get_or (by_vdev rows counts) v none ≡ here) where
    there : v < length (by_vdev rows counts)
    there = omega (arith, length-by_vdev rows counts)

    pub lines_more : metaslab_lines (take (v + 1) (by_vdev rows counts)) ≡ metaslab_lines (take v (by_vdev rows counts)) ++ vdev_lines v here
    lines_more = numbered-item_more vdev_lines 0 v (by_vdev rows counts) v here there (omega arith) (sym (at here))

    pub lines_split : metaslab_lines (by_vdev rows counts)
        ≡ metaslab_lines (take v (by_vdev rows counts))
        ++ (vdev_lines v here ++ numbered vdev_lines (0 + length (take (v + 1) (by_vdev rows counts))) (drop (v + 1) (by_vdev rows counts)))
    lines_split = numbered-item_split vdev_lines 0 v (by_vdev rows counts) v here there (omega arith) (sym (at here))

  -- and at the end
  pub lines_all : length rows ≤ v → metaslab_lines (by_vdev rows counts) ≡ metaslab_lines (take v (by_vdev rows counts))
  lines_all past = numbered-all vdev_lines 0 (by_vdev rows counts) v (omega (arith, length-by_vdev rows counts))
