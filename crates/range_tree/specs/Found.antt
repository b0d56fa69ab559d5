-- What is found among the runs of a tree.
use Rattle.std.specs.Prelude.{ℕ, ◌<◌, ◌≤◌, ◌⊎◌, Option, Some, None}
use Rattle.std.specs.List.{Contains}
use Rattle.zms_units.specs.declared.segments.Seg.{Seg}
use Rattle.zms_units.specs.Segments.{end_of}
use Rattle.seg_pool.specs.declared.NodeNo.{NodeNo}
use Rattle.seg_pool.specs.Pool.{Pool}
use Rattle.seg_order.specs.Lists.{Each}
use Rattle.range_tree.specs.declared.node.RunNode.{RunNode}
use Rattle.range_tree.specs.declared.tree.Tree.{Tree}
use Rattle.range_tree.specs.Kept.{seg_at, placed}

-- the lowest run that ends at a unit or behind it
pub record IsFirstEnding (pool : Pool RunNode) (tree : Tree) (unit at : ℕ) : Type 0 where
  pub listed : Contains (placed pool tree) at
  pub reaches : unit ≤ end_of (seg_at pool at)
  pub others : Each (λ one. (end_of (seg_at pool one) < unit) ⊎ ((seg_at pool at).start ≤ (seg_at pool one).start)) (placed pool tree)

-- the same, none where each ends before
abbrev pub FindsEnding : Pool RunNode → Tree → ℕ → Option NodeNo → Type 0
FindsEnding pool tree unit None = Each (λ one. end_of (seg_at pool one) < unit) (placed pool tree)
FindsEnding pool tree unit (Some at) = IsFirstEnding pool tree unit at.0

-- a run covers a segment whole
pub record Holds (pool : Pool RunNode) (tree : Tree) (seg : Seg) (at : ℕ) : Type 0 where
  pub listed : Contains (placed pool tree) at
  pub from : (seg_at pool at).start ≤ seg.start
  pub till : end_of seg ≤ end_of (seg_at pool at)
