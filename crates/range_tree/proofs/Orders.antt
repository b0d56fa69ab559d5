-- The two orders of one pool: a change of one leaves the other, and what the pool takes or gives leaves both.
use Rattle.std.proofs.Common.{◌≡◌, ◌≢◌, ℕ, ◌+◌, ◌-◌, ◌<◌, cond, Option, Some, None, is_some, IsSome, List, [], ◌∷◌, length, get_or, set, map, refl, sym, ap, subst, ◌∙◌, arith, true≢false}
use Rattle.std.proofs.lemmas.List.{get_or-set_same, get_or-set_other, get_or_past}
use Rattle.std.proofs.lemmas.List.Sums.{sum_by-set}
use Rattle.seg_pool.specs.declared.NodeNo.{NodeNo}
use Rattle.seg_pool.specs.Pool.{Pool, node_at, used}
use Rattle.seg_order.specs.Rules.{Rules}
use Rattle.seg_order.specs.Lists.{Each}
use Rattle.seg_order.specs.Sides.{IsBefore, comes_before}
use Rattle.seg_order.specs.Trees.{nodes_from, IsSorted, IsOver, links_of_node, span_of_node}
use Rattle.seg_order.specs.Changes.{IsRelinked, OnlyLinks}
use Rattle.seg_order.proofs.Apart.{Each-weaker, Each-both}
use Rattle.seg_order.proofs.Standing.{IsKept, kept_from}
use Rattle.range_tree.specs.declared.node.RunNode.{RunNode}
use Rattle.range_tree.specs.Nodes.{place_rules, size_rules}
use Rattle.range_tree.specs.Kept.{seg_of, seg_at}

-- an order stands over another pool with the same list
pub record SameOver (rules : Rules RunNode) (old new : Pool RunNode) (root : Option NodeNo) : Type 0 where
  pub over : IsOver rules new root
  pub list : nodes_from rules new root ≡ nodes_from rules old root

-- nodes with the same links of an order, the same span and the same run
record IsLike (rules : Rules RunNode) (old new : Option RunNode) : Type 0 where
  pub in_use : IsSome old → IsSome new
  pub links : links_of_node rules new ≡ links_of_node rules old
  pub span : span_of_node rules new ≡ span_of_node rules old
  pub before_left : (other : Option RunNode) → comes_before rules new other ≡ comes_before rules old other
  pub before_right : (other : Option RunNode) → comes_before rules other new ≡ comes_before rules other old

module _ (rules : Rules RunNode) (old new : Pool RunNode) where
  sorted_like : (xs : List ℕ) → Each (λ k. IsLike rules (node_at old k) (node_at new k)) xs → IsSorted rules old xs → IsSorted rules new xs
  sorted_like [] h s = tt
  sorted_like (x ∷ xs) h s = (
    Each-both (λ k. IsLike rules (node_at old k) (node_at new k)) (IsBefore rules old x) (IsBefore rules new x)
        (λ k like before. h.0.before_left (node_at new k) ∙ like.before_right (node_at old x) ∙ before) xs h.1 s.0,
    sorted_like xs h.1 s.1,
  )

  same_over : (root : Option NodeNo) → IsOver rules old root → Each (λ k. IsLike rules (node_at old k) (node_at new k)) (nodes_from rules old root) → SameOver rules old new root
  same_over root v h =
      let s = kept_from rules old new root v.stands (Each-weaker (λ k. IsLike rules (node_at old k) (node_at new k)) (IsKept rules old new) (λ k like. record { in_use = like.in_use; links = like.links; span = like.span }) _ h) in
      record { over = record { stands = s.stands; sorted = subst (IsSorted rules new) (sym s.list) (sorted_like _ h v.sorted) }; list = s.list }

  -- where no node of the list changed
  pub over_beside : (root : Option NodeNo) → IsOver rules old root → Each (λ k. node_at new k ≡ node_at old k) (nodes_from rules old root) → SameOver rules old new root
  over_beside root v h = same_over root v (Each-weaker (λ k. node_at new k ≡ node_at old k) (λ k. IsLike rules (node_at old k) (node_at new k)) (λ k e. like_same (node_at old k) (node_at new k) e) _ h)
    where
      like_same : (x y : Option RunNode) → y ≡ x → IsLike rules x y
      like_same x y e = subst (λ o. IsLike rules x o) (sym e) (record { in_use = λ h. h; links = refl; span = refl; before_left = λ o. refl; before_right = λ o. refl })

abbrev Each-all : (P : ℕ → Type 0) → ((k : ℕ) → P k) → (xs : List ℕ) → Each P xs
Each-all P f [] = tt
Each-all P f (x ∷ xs) = (f x, Each-all P f xs)

size_like : (x y : Option RunNode) → IsRelinked place_rules x y → IsLike size_rules x y
size_like None y p = subst (λ o. IsLike size_rules None o) (sym p) (record { in_use = λ h. h; links = refl; span = refl; before_left = λ o. refl; before_right = λ o. refl })
size_like (Some x) y p = subst (λ o. IsLike size_rules (Some x) o) (sym p.1) (record { in_use = λ h. refl; links = refl; span = refl; before_left = left; before_right = right })
  where
    left : (o : Option RunNode) → comes_before size_rules (Some (place_rules.with_links x p.0)) o ≡ comes_before size_rules (Some x) o
    left None = refl
    left (Some z) = refl

    right : (o : Option RunNode) → comes_before size_rules o (Some (place_rules.with_links x p.0)) ≡ comes_before size_rules o (Some x)
    right None = refl
    right (Some z) = refl

place_like : (x y : Option RunNode) → IsRelinked size_rules x y → IsLike place_rules x y
place_like None y p = subst (λ o. IsLike place_rules None o) (sym p) (record { in_use = λ h. h; links = refl; span = refl; before_left = λ o. refl; before_right = λ o. refl })
place_like (Some x) y p = subst (λ o. IsLike place_rules (Some x) o) (sym p.1) (record { in_use = λ h. refl; links = refl; span = refl; before_left = left; before_right = right })
  where
    left : (o : Option RunNode) → comes_before place_rules (Some (size_rules.with_links x p.0)) o ≡ comes_before place_rules (Some x) o
    left None = refl
    left (Some z) = refl

    right : (o : Option RunNode) → comes_before place_rules o (Some (size_rules.with_links x p.0)) ≡ comes_before place_rules o (Some x)
    right None = refl
    right (Some z) = refl

-- links of one order leave the other
pub sizes_stay : {old new : Pool RunNode} {touched : List ℕ} → OnlyLinks place_rules old new touched → (root : Option NodeNo) → IsOver size_rules old root → SameOver size_rules old new root
sizes_stay {old} {new} o root v = same_over size_rules old new root v (Each-all (λ k. IsLike size_rules (node_at old k) (node_at new k)) (λ k. size_like _ _ (o.relinked k)) _)

pub places_stay : {old new : Pool RunNode} {touched : List ℕ} → OnlyLinks size_rules old new touched → (root : Option NodeNo) → IsOver place_rules old root → SameOver place_rules old new root
places_stay {old} {new} o root v = same_over place_rules old new root v (Each-all (λ k. IsLike place_rules (node_at old k) (node_at new k)) (λ k. place_like _ _ (o.relinked k)) _)

-- the run of a node stays
place_seg : (x y : Option RunNode) → IsRelinked place_rules x y → seg_of y ≡ seg_of x
place_seg None y p = ap seg_of p
place_seg (Some x) y p = ap seg_of p.1

size_seg : (x y : Option RunNode) → IsRelinked size_rules x y → seg_of y ≡ seg_of x
size_seg None y p = ap seg_of p
size_seg (Some x) y p = ap seg_of p.1

pub place_segs : {old new : Pool RunNode} {touched : List ℕ} → OnlyLinks place_rules old new touched → (k : ℕ) → seg_at new k ≡ seg_at old k
place_segs o k = place_seg _ _ (o.relinked k)

pub size_segs : {old new : Pool RunNode} {touched : List ℕ} → OnlyLinks size_rules old new touched → (k : ℕ) → seg_at new k ≡ seg_at old k
size_segs o k = size_seg _ _ (o.relinked k)

-- runs at places that did not change
pub same_runs : (old new : Pool RunNode) (xs : List ℕ) → Each (λ k. seg_at new k ≡ seg_at old k) xs → map (seg_at new) xs ≡ map (seg_at old) xs
same_runs old new [] h = refl
same_runs old new (x ∷ xs) h = ap (λ q. q ∷ map (seg_at new) xs) h.0 ∙ ap (λ q. seg_at old x ∷ q) (same_runs old new xs h.1)

pub all_runs : (old new : Pool RunNode) → ((k : ℕ) → seg_at new k ≡ seg_at old k) → (xs : List ℕ) → map (seg_at new) xs ≡ map (seg_at old) xs
all_runs old new f xs = same_runs old new xs (Each-all (λ k. seg_at new k ≡ seg_at old k) f xs)

abbrev count_of : Option RunNode → ℕ
count_of o = cond (is_some o) 1 0

counts_one : (o : Option RunNode) → IsSome o → count_of o ≡ 1
counts_one None h = absurd (true≢false (sym h))
counts_one (Some x) h = refl

-- a node is taken into a vacant place
pub record Takes (old new : Pool RunNode) (at : ℕ) (node : RunNode) : Type 0 where
  pub vacant : node_at old at ≡ None
  pub place : at < length old.nodes
  pub taken : new ≡ record { nodes = set old.nodes at (Some node); spare = old.spare - 1 }

-- a node is given back
pub record Gives (old new : Pool RunNode) (at : ℕ) : Type 0 where
  pub present : IsSome (node_at old at)
  pub given : new ≡ record { nodes = set old.nodes at None; spare = old.spare + 1 }

module _ {old new : Pool RunNode} {at : ℕ} {node : RunNode} (k : Takes old new at node) where
  pub taken_node : node_at new at ≡ Some node
  taken_node = ap (λ (p : Pool RunNode). node_at p at) k.taken ∙ get_or-set_same old.nodes at (Some node) None k.place

  pub taken_beside : (q : ℕ) → IsSome (node_at old q) → node_at new q ≡ node_at old q
  taken_beside q present =
      let differs : q ≢ at = λ e. true≢false (sym (subst IsSome (ap (node_at old) e ∙ k.vacant) present)) in
      ap (λ (p : Pool RunNode). node_at p q) k.taken ∙ get_or-set_other old.nodes at q (Some node) None differs

  pub taken_used : used new ≡ used old + 1
  taken_used =
      let counted = sum_by-set count_of old.nodes at (Some node) None k.place in
      let none : count_of (get_or old.nodes at None) ≡ 0 = ap count_of k.vacant in
      let e = ap used k.taken in
      omega (arith, e, counted, none)

module _ {old new : Pool RunNode} {at : ℕ} (k : Gives old new at) where
  given_place : at < length old.nodes
  given_place = let present = k.present in grind (arith, get_or_past)

  pub given_beside : (q : ℕ) → q ≢ at → node_at new q ≡ node_at old q
  given_beside q differs = ap (λ (p : Pool RunNode). node_at p q) k.given ∙ get_or-set_other old.nodes at q None None differs

  pub given_used : used new + 1 ≡ used old
  given_used =
      let counted = sum_by-set count_of old.nodes at None None given_place in
      let one = counts_one (get_or old.nodes at None) k.present in
      let e = ap used k.given in
      omega (arith, e, counted, one)
