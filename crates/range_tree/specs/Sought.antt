-- What a search from a place on finds.
use Rattle.std.specs.Prelude.{◌≡◌, ℕ, ◌<◌, ◌≤◌, ◌⊎◌, Option, Some, None, List, ◌∷◌, ◌++◌}
use Rattle.zms_units.specs.declared.segments.Seg.{Seg}
use Rattle.seg_pool.specs.declared.NodeNo.{NodeNo}
use Rattle.seg_pool.specs.Pool.{Pool}
use Rattle.seg_order.specs.Lists.{Each}
use Rattle.seg_order.specs.Trees.{nodes_from, links_at, greatest_of, IsOver}
use Rattle.range_tree.specs.declared.node.RunNode.{RunNode}
use Rattle.range_tree.specs.Nodes.{place_rules}
use Rattle.range_tree.specs.Kept.{seg_at}

module _ (pool : Pool RunNode) where
  -- the places on the right of a node
  abbrev pub right_of : ℕ → List ℕ
  right_of at = nodes_from place_rules pool (links_at place_rules pool at).right

  -- the first long run of a list is a node's own, or one on its right
  pub record IsPoint (count : ℕ) (list : List ℕ) (at : ℕ) : Type 0 where
    pub front : List ℕ
    pub back : List ℕ
    pub split : list ≡ front ++ at ∷ (right_of at ++ back)
    pub short : Each (λ one. (seg_at pool one).count < count) front
    pub over : IsOver place_rules pool (links_at place_rules pool at).right
    pub long : (count ≤ (seg_at pool at).count) ⊎ (count ≤ greatest_of place_rules pool (right_of at))

  -- none where no run of the list is long
  abbrev pub Points : ℕ → List ℕ → Option NodeNo → Type 0
  Points count list None = Each (λ one. (seg_at pool one).count < count) list
  Points count list (Some at) = IsPoint count list at.0

  -- a list's runs from a place on, and what of them is found
  pub record PointsFrom (count from : ℕ) (list : List ℕ) (found : Option NodeNo) : Type 0 where
    pub before : List ℕ
    pub behind : List ℕ
    pub split : list ≡ before ++ behind
    pub passed : Each (λ one. (seg_at pool one).start < from) before
    pub begun : Each (λ one. from ≤ (seg_at pool one).start) behind
    pub points : Points count behind found

  -- the first long run of a list
  pub record IsFirstLong (count : ℕ) (list : List ℕ) (run : Seg) : Type 0 where
    pub at : ℕ
    pub front : List ℕ
    pub back : List ℕ
    pub split : list ≡ front ++ at ∷ back
    pub short : Each (λ one. (seg_at pool one).count < count) front
    pub long : count ≤ (seg_at pool at).count
    pub is : seg_at pool at ≡ run
