-- The tree that the links of a pool make below a root, and the list that it stands for.
use Rattle.std.specs.Prelude.{◌≡◌, ℕ, zero, suc, ◌+◌, ◌*◌, ◌^◌, ◌<◌, ◌≤◌, ◌⊎◌, max, Option, Some, None, IsSome, List, [], ◌∷◌, ◌++◌}
use Rattle.seg_pool.specs.declared.NodeNo.{NodeNo}
use Rattle.seg_pool.specs.Pool.{Pool, node_at}
use Rattle.seg_order.specs.declared.links.Links.{Links}
use Rattle.seg_order.specs.Rules.{Rules}
use Rattle.seg_order.specs.Sides.{IsBefore}
use Rattle.seg_order.specs.Lists.{Each}

-- a tree of places
pub data Tree : Type 0 where
  Leaf : Tree
  Fork : Tree → ℕ → Tree → Tree

-- its places, in order
abbrev pub places : Tree → List ℕ
places Leaf = []
places (Fork left at right) = places left ++ at ∷ places right

-- how many levels it has
abbrev pub levels : Tree → ℕ
levels Leaf = 0
levels (Fork left at right) = max (levels left) (levels right) + 1

-- two numbers differ by so many at most
abbrev pub DifferByAtMost : ℕ → ℕ → ℕ → Type 0
DifferByAtMost most a b = (a ≤ b + most) × (b ≤ a + most)

-- what hangs below a node is none, or a place that a pool can have
abbrev pub IsPlace : Option NodeNo → Type 0
IsPlace None = Unit {0}
IsPlace (Some at) = at.0 < 2 ^ 24

-- the place at a root is in use
abbrev pub IsInUse : {N : Type 0} → Pool N → Option NodeNo → Type 0
IsInUse pool None = Unit {0}
IsInUse pool (Some at) = IsSome (node_at pool at.0)

module _ {N : Type 0} (rules : Rules N) where
  -- the links and the span of a node, none and 0 where there is no node
  abbrev pub links_of_node : Option N → Links
  links_of_node None = record { left = None; right = None; height = 0; greatest = 0 }
  links_of_node (Some node) = rules.links node

  abbrev pub span_of_node : Option N → ℕ
  span_of_node None = 0
  span_of_node (Some node) = rules.span node

module _ {N : Type 0} (rules : Rules N) (pool : Pool N) where
  -- the links and the span at a place
  abbrev pub links_at : ℕ → Links
  links_at at = links_of_node rules (node_at pool at)

  abbrev pub span_at : ℕ → ℕ
  span_at at = span_of_node rules (node_at pool at)

  -- the greatest span of a list's nodes, 0 where there is none
  abbrev pub greatest_of : List ℕ → ℕ
  greatest_of [] = 0
  greatest_of (at ∷ rest) = max (span_at at) (greatest_of rest)

  -- what the root says of its subtree
  abbrev pub stored_height : Option NodeNo → ℕ
  stored_height None = 0
  stored_height (Some at) = (links_at at.0).height

  abbrev pub stored_greatest : Option NodeNo → ℕ
  stored_greatest None = 0
  stored_greatest (Some at) = (links_at at.0).greatest

  -- the tree of so many levels at most below a root
  abbrev pub tree_to : ℕ → Option NodeNo → Tree
  tree_to zero root = Leaf
  tree_to (suc depth) None = Leaf
  tree_to (suc depth) (Some at) = Fork (tree_to depth (links_at at.0).left) at.0 (tree_to depth (links_at at.0).right)

  -- the tree below a root
  unfoldable pub tree_at : Option NodeNo → Tree
  tree_at root = tree_to (stored_height root) root

  -- the list that a root stands for
  unfoldable pub nodes_from : Option NodeNo → List ℕ
  nodes_from root = places (tree_at root)

  -- the node at a place is in use and says what hangs below it, of which both sides stand and are as high but for one
  pub record IsFork (left_stands right_stands : Option NodeNo → Type 0) (left : Tree) (at : ℕ) (right : Tree) : Type 0 where
    pub in_use : IsSome (node_at pool at)
    pub goes_left : left_stands (links_at at).left
    pub goes_right : right_stands (links_at at).right
    pub height : (links_at at).height ≡ max (levels left) (levels right) + 1
    pub greatest : (links_at at).greatest ≡ greatest_of (places left ++ at ∷ places right)
    pub balanced : DifferByAtMost 1 (levels left) (levels right)

  -- the links below a root make a tree
  abbrev pub Stands : Tree → Option NodeNo → Type 0
  Stands Leaf = λ root. root ≡ None
  Stands (Fork left at right) = λ root. (root ≡ Some (record { 0 = at })) × IsFork (Stands left) (Stands right) left at right

  -- the links below a root make the tree that they lead through
  unfoldable pub StandsFrom : Option NodeNo → Type 0
  StandsFrom root = Stands (tree_at root) root

  -- each node of a list comes before all later ones
  abbrev pub IsSorted : List ℕ → Type 0
  IsSorted [] = Unit {0}
  IsSorted (at ∷ rest) = Each (λ later. IsBefore rules pool at later) rest × IsSorted rest

  -- the order with this root stands over the pool
  pub record IsOver (root : Option NodeNo) : Type 0 where
    pub stands : StandsFrom root
    pub sorted : IsSorted (nodes_from root)

  -- a node comes before or after each of a list
  abbrev pub Differs : ℕ → List ℕ → Type 0
  Differs at list = Each (λ one. IsBefore rules pool at one ⊎ IsBefore rules pool one at) list

-- so many visits are what one descent may make in a tree of so many nodes
pub record FewVisits (visits nodes : ℕ) : Type 0 where
  pub half : ℕ
  pub fits : 2 ^ half ≤ 2 * nodes + 1
  pub few : visits ≤ 2 * half + 2
