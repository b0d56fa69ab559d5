-- What a call leaves of a pool and of the subtrees that it joins.
use Rattle.std.specs.Prelude.{◌≡◌, ℕ, ◌+◌, ◌≤◌, max, Option, Some, None, IsSome, List, ◌∷◌}
use Rattle.seg_pool.specs.declared.NodeNo.{NodeNo}
use Rattle.seg_pool.specs.Pool.{Pool, node_at, with_node, used}
use Rattle.seg_order.specs.declared.links.Links.{Links}
use Rattle.seg_order.specs.declared.links.Side.{Side}
use Rattle.seg_order.specs.declared.links.Told.{Told}
use Rattle.seg_order.specs.Rules.{Rules}
use Rattle.seg_order.specs.Lists.{IsApart, PutIn, Parts}
use Rattle.seg_order.specs.Sides.{between, other, toward}
use Rattle.seg_order.specs.Trees.{links_at, span_at, stored_height, stored_greatest, nodes_from, StandsFrom, IsSorted, DifferByAtMost}

module _ {N : Type 0} (rules : Rules N) where
  -- what was at a place is there still, but for its links
  abbrev pub IsRelinked : Option N → Option N → Type 0
  IsRelinked None new = new ≡ None
  IsRelinked (Some node) new = (links : Links) × (new ≡ Some (rules.with_links node links))

  -- nothing but the links of some nodes changed
  pub record OnlyLinks (old new : Pool N) (touched : List ℕ) : Type 0 where
    pub relinked : (at : ℕ) → IsRelinked (node_at old at) (node_at new at)
    pub others : (at : ℕ) → IsApart at touched → node_at new at ≡ node_at old at
    pub spare : new.spare ≡ old.spare
    pub used : used new ≡ used old

  -- a node has new links, with these subtrees below it
  pub record Attaches (old new : Pool N) (left right : Option NodeNo) (at : ℕ) : Type 0 where
    pub node : N
    pub was : node_at old at ≡ Some node
    pub links : Links
    pub after : new ≡ with_node old at (rules.with_links node links)
    pub goes_left : links.left ≡ left
    pub goes_right : links.right ≡ right
    pub height : links.height ≡ max (stored_height rules old left) (stored_height rules old right) + 1
    pub greatest : links.greatest ≡ max (max (stored_greatest rules old left) (stored_greatest rules old right)) (rules.span node)

  -- a node may be put over two subtrees
  pub record IsUnder (pool : Pool N) (near far : Option NodeNo) (at : ℕ) : Type 0 where
    pub in_use : IsSome (node_at pool at)
    pub near_stands : StandsFrom rules pool near
    pub far_stands : StandsFrom rules pool far
    pub parts : Parts (nodes_from rules pool near) at (nodes_from rules pool far)

  -- a node's links are those over two subtrees, of which the near one has this root, height and greatest span
  pub record IsOverBoth (side : Side) (pool : Pool N) (at : ℕ) (near : Told) (far : Option NodeNo) : Type 0 where
    pub goes_near : toward side (links_at rules pool at) ≡ near.root
    pub goes_far : toward (other side) (links_at rules pool at) ≡ far
    pub height : (links_at rules pool at).height ≡ max near.height (stored_height rules pool far) + 1
    pub greatest : (links_at rules pool at).greatest ≡ max (max near.greatest (stored_greatest rules pool far)) (span_at rules pool at)
    pub balanced : DifferByAtMost 1 near.height (stored_height rules pool far)

  -- a node and two subtrees have become one
  pub record Joins (side : Side) (old new : Pool N) (near far : Option NodeNo) (at : ℕ) (root : Option NodeNo) : Type 0 where
    pub stands : StandsFrom rules new root
    pub list : nodes_from rules new root ≡ between side (nodes_from rules old near) at (nodes_from rules old far)
    pub links : OnlyLinks old new (between side (nodes_from rules old near) at (nodes_from rules old far))
    pub no_lower : max (stored_height rules old near) (stored_height rules old far) ≤ stored_height rules new root
    pub no_higher : stored_height rules new root ≤ max (stored_height rules old near) (stored_height rules old far) + 1
    pub level : DifferByAtMost 1 (stored_height rules old near) (stored_height rules old far) → stored_height rules new root ≡ max (stored_height rules old near) (stored_height rules old far) + 1

  -- a node has come into a subtree
  pub record Inserts (old : Pool N) (root : Option NodeNo) (at : ℕ) (new : Pool N) (after : Option NodeNo) : Type 0 where
    pub stands : StandsFrom rules new after
    pub put : PutIn (nodes_from rules old root) at (nodes_from rules new after)
    pub sorted : IsSorted rules old (nodes_from rules new after)
    pub links : OnlyLinks old new (nodes_from rules new after)
    pub no_lower : stored_height rules old root ≤ stored_height rules new after
    pub no_higher : stored_height rules new after ≤ stored_height rules old root + 1

  -- a node has left a subtree
  pub record Removes (old : Pool N) (root : Option NodeNo) (at : ℕ) (new : Pool N) (after : Option NodeNo) : Type 0 where
    pub stands : StandsFrom rules new after
    pub put : PutIn (nodes_from rules new after) at (nodes_from rules old root)
    pub links : OnlyLinks old new (nodes_from rules old root)
    pub no_higher : stored_height rules new after ≤ stored_height rules old root
    pub no_lower : stored_height rules old root ≤ stored_height rules new after + 1

  -- the first node has left a subtree
  pub record RemovesFirst (old : Pool N) (root : Option NodeNo) (at : ℕ) (new : Pool N) (after : Option NodeNo) : Type 0 where
    pub removes : Removes old root at new after
    pub first : nodes_from rules old root ≡ at ∷ nodes_from rules new after
