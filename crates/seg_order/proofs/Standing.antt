-- Trees that the links of a pool make.
use Rattle.std.proofs.Common.{◌≡◌, ℕ, zero, suc, ◌+◌, ◌*◌, ◌/◌, ◌^◌, ◌≤◌, max, Option, Some, None, IsSome, List, [], ◌∷◌, ◌++◌, length, refl, sym, ap, subst, ◌∙◌, arith, length-append}
use Rattle.seg_pool.specs.declared.NodeNo.{NodeNo}
use Rattle.seg_pool.specs.Pool.{Pool, node_at}
use Rattle.seg_order.specs.declared.links.Links.{Links}
use Rattle.seg_order.specs.declared.links.Side.{Side}
use Rattle.seg_order.specs.declared.links.Side.TheVariants.{Left, Right}
use Rattle.seg_order.specs.Rules.{Rules}
use Rattle.seg_order.specs.Lists.{Each}
use Rattle.seg_order.specs.Sides.{between, other, toward}
use Rattle.seg_order.specs.Trees.{Tree, Leaf, Fork, places, levels, DifferByAtMost, IsInUse, links_of_node, span_of_node, links_at, span_at, greatest_of, stored_height, stored_greatest, tree_to, tree_at, nodes_from, IsFork, Stands, StandsFrom, FewVisits}
use Rattle.seg_order.proofs.Apart.{Each-front, Each-back}

module _ {N : Type 0} (rules : Rules N) (pool : Pool N) where
  pub tree_to-is : (t : Tree) (depth : ℕ) (root : Option NodeNo) → Stands rules pool t root → levels t ≤ depth → tree_to rules pool depth root ≡ t
  tree_to-is Leaf zero root s low = refl
  tree_to-is Leaf (suc depth) root s low = subst (λ r. tree_to rules pool (suc depth) r ≡ Leaf) (sym s) refl
  tree_to-is (Fork left at right) zero root s low = absurd (omega arith)
  tree_to-is (Fork left at right) (suc depth) root s low =
      let one = tree_to-is left depth _ s.1.goes_left (omega arith) in
      let two = tree_to-is right depth _ s.1.goes_right (omega arith) in
      subst (λ r. tree_to rules pool (suc depth) r ≡ Fork left at right) (sym s.0) (ap (λ q. Fork q at (tree_to rules pool depth (links_at rules pool at).right)) one ∙ ap (λ q. Fork left at q) two)

  pub stored_height-is : (t : Tree) (root : Option NodeNo) → Stands rules pool t root → stored_height rules pool root ≡ levels t
  stored_height-is Leaf root s = subst (λ r. stored_height rules pool r ≡ 0) (sym s) refl
  stored_height-is (Fork left at right) root s = subst (λ r. stored_height rules pool r ≡ levels (Fork left at right)) (sym s.0) s.1.height

  pub stored_greatest-is : (t : Tree) (root : Option NodeNo) → Stands rules pool t root → stored_greatest rules pool root ≡ greatest_of rules pool (places t)
  stored_greatest-is Leaf root s = subst (λ r. stored_greatest rules pool r ≡ 0) (sym s) refl
  stored_greatest-is (Fork left at right) root s = subst (λ r. stored_greatest rules pool r ≡ greatest_of rules pool (places (Fork left at right))) (sym s.0) s.1.greatest

  pub tree_at-is : (t : Tree) (root : Option NodeNo) → Stands rules pool t root → tree_at rules pool root ≡ t
  unfolding tree_at
  tree_at-is t root s = tree_to-is t (stored_height rules pool root) root s (omega (arith, stored_height-is t root s))

  pub nodes_from-is : (t : Tree) (root : Option NodeNo) → Stands rules pool t root → nodes_from rules pool root ≡ places t
  unfolding nodes_from
  nodes_from-is t root s = ap places (tree_at-is t root s)

  pub StandsFrom-is : (t : Tree) (root : Option NodeNo) → Stands rules pool t root → StandsFrom rules pool root
  unfolding StandsFrom
  StandsFrom-is t root s = subst (λ q. Stands rules pool q root) (sym (tree_at-is t root s)) s

  pub tree_stands : (root : Option NodeNo) → StandsFrom rules pool root → Stands rules pool (tree_at rules pool root) root
  unfolding StandsFrom
  tree_stands root s = s

  pub nodes_are : (root : Option NodeNo) → nodes_from rules pool root ≡ places (tree_at rules pool root)
  unfolding nodes_from
  nodes_are root = refl

  pub height_from : (root : Option NodeNo) → StandsFrom rules pool root → stored_height rules pool root ≡ levels (tree_at rules pool root)
  height_from root s = stored_height-is _ root (tree_stands root s)

  pub greatest_from : (root : Option NodeNo) → StandsFrom rules pool root → stored_greatest rules pool root ≡ greatest_of rules pool (nodes_from rules pool root)
  greatest_from root s = stored_greatest-is _ root (tree_stands root s) ∙ ap (greatest_of rules pool) (sym (nodes_are root))

  pub none_stands : StandsFrom rules pool None
  none_stands = StandsFrom-is Leaf None refl

  pub none_empty : nodes_from rules pool None ≡ []
  none_empty = nodes_from-is Leaf None refl

  pub greatest-append : (xs ys : List ℕ) → greatest_of rules pool (xs ++ ys) ≡ max (greatest_of rules pool xs) (greatest_of rules pool ys)
  greatest-append [] ys = omega arith
  greatest-append (x ∷ xs) ys = omega (arith, greatest-append xs ys)

  -- a tree of so many levels has half of these in powers of two of places
  pub few_levels : (n : ℕ) (t : Tree) (root : Option NodeNo) → Stands rules pool t root → 2 * n ≤ levels t → 2 ^ n ≤ length (places t) + 1
  few_levels zero t root s high = omega arith
  few_levels (suc n) Leaf root s high = absurd (omega arith)
  few_levels (suc n) (Fork left at right) root s high =
      let b = s.1.balanced in
      let one = few_levels n left _ s.1.goes_left (omega arith) in
      let two = few_levels n right _ s.1.goes_right (omega arith) in
      omega (arith, one, two, length-append (places left) (at ∷ places right))

  -- a root stands for a list, with so many levels
  pub record Has (root : Option NodeNo) (xs : List ℕ) (h : ℕ) : Type 0 where
    pub stands : StandsFrom rules pool root
    pub list : nodes_from rules pool root ≡ xs
    pub height : stored_height rules pool root ≡ h

  pub has : (root : Option NodeNo) → StandsFrom rules pool root → Has root (nodes_from rules pool root) (stored_height rules pool root)
  has root s = record { stands = s; list = refl; height = refl }

  has_tree : (t : Tree) (root : Option NodeNo) → Stands rules pool t root → Has root (places t) (levels t)
  has_tree t root s = record { stands = StandsFrom-is t root s; list = nodes_from-is t root s; height = stored_height-is t root s }

  -- what a place at which a tree begins says of the roots on its sides
  pub record Opened (side : Side) (at : NodeNo) (near far : Option NodeNo) : Type 0 where
    pub in_use : IsSome (node_at pool at.0)
    pub near_stands : StandsFrom rules pool near
    pub far_stands : StandsFrom rules pool far
    pub list : nodes_from rules pool (Some at) ≡ between side (nodes_from rules pool near) at.0 (nodes_from rules pool far)
    pub height : stored_height rules pool (Some at) ≡ max (stored_height rules pool near) (stored_height rules pool far) + 1
    pub balanced : DifferByAtMost 1 (stored_height rules pool near) (stored_height rules pool far)
    pub greatest : (links_at rules pool at.0).greatest ≡ greatest_of rules pool (nodes_from rules pool (Some at))
    pub near_height : stored_height rules pool near ≡ stored_height rules pool (toward side (links_at rules pool at.0))
    pub far_height : stored_height rules pool far ≡ stored_height rules pool (toward (other side) (links_at rules pool at.0))

  opened_fork : (at : NodeNo) (left right : Tree) → IsFork rules pool (Stands rules pool left) (Stands rules pool right) left at.0 right → Opened Left at (links_at rules pool at.0).left (links_at rules pool at.0).right
  opened_fork at left right f =
      let one = has_tree left _ f.goes_left in
      let two = has_tree right _ f.goes_right in
      let whole = nodes_from-is (Fork left at.0 right) (Some at) (refl, f) in
      let b = f.balanced in
      record {
        in_use = f.in_use;
        near_stands = one.stands;
        far_stands = two.stands;
        list = whole ∙ ap (λ q. q ++ at.0 ∷ places right) (sym one.list) ∙ ap (λ q. nodes_from rules pool (links_at rules pool at.0).left ++ at.0 ∷ q) (sym two.list);
        height = omega (arith, f.height, one.height, two.height);
        balanced = omega (arith, b, one.height, two.height);
        greatest = f.greatest ∙ ap (greatest_of rules pool) (sym whole);
        near_height = refl;
        far_height = refl;
      }

  open_tree : (at : NodeNo) (t : Tree) → Stands rules pool t (Some at) → Opened Left at (links_at rules pool at.0).left (links_at rules pool at.0).right
  open_tree at Leaf s = absurd (cc)
  open_tree at (Fork left k right) s =
      let same : at ≡ record { 0 = k } = cc in
      let place : k ≡ at.0 = sym (ap (λ q. q.0) same) in
      opened_fork at left right (subst (λ q. IsFork rules pool (Stands rules pool left) (Stands rules pool right) left q right) place s.1)

  open_side : (side : Side) (at : NodeNo) → StandsFrom rules pool (Some at) → Opened side at (toward side (links_at rules pool at.0)) (toward (other side) (links_at rules pool at.0))
  open_side Left at s = open_tree at _ (tree_stands (Some at) s)
  open_side Right at s =
      let o = open_tree at _ (tree_stands (Some at) s) in
      record {
        in_use = o.in_use;
        near_stands = o.far_stands;
        far_stands = o.near_stands;
        list = o.list;
        height = omega (arith, o.height);
        balanced = (o.balanced.1, o.balanced.0);
        greatest = o.greatest;
        near_height = refl;
        far_height = refl;
      }

  pub opens : (side : Side) (at : NodeNo) (near far : Option NodeNo) → StandsFrom rules pool (Some at) → near ≡ toward side (links_at rules pool at.0) → far ≡ toward (other side) (links_at rules pool at.0) → Opened side at near far
  opens side at near far s one two =
      subst (λ q. Opened side at q far) (sym one) (subst (λ q. Opened side at (toward side (links_at rules pool at.0)) q) (sym two) (open_side side at s))

  pub in_use : (root : Option NodeNo) → StandsFrom rules pool root → IsInUse pool root
  in_use None s = tt
  in_use (Some at) s = (open_side Left at s).in_use

  -- no levels, no root
  pub none_from : (root : Option NodeNo) → StandsFrom rules pool root → stored_height rules pool root ≡ 0 → root ≡ None
  none_from None s low = refl
  none_from (Some at) s low = absurd (omega (arith, (open_side Left at s).height))

  pub FewVisits-is : (v : ℕ) (root : Option NodeNo) → StandsFrom rules pool root → v ≤ stored_height rules pool root → FewVisits v (length (nodes_from rules pool root))
  FewVisits-is v root s few =
      let h = height_from root s in
      let half = few_levels (v / 2) _ root (tree_stands root s) (omega arith) in
      let same = ap length (nodes_are root) in
      record { half = v / 2; fits = omega (arith, half, same); few = omega arith }

module _ {N : Type 0} (rules : Rules N) (old new : Pool N) where
  -- a place has the links and the span that it had
  pub record IsKept (at : ℕ) : Type 0 where
    pub in_use : IsSome (node_at old at) → IsSome (node_at new at)
    pub links : links_at rules new at ≡ links_at rules old at
    pub span : span_at rules new at ≡ span_at rules old at

  pub same_kept : (at : ℕ) → node_at new at ≡ node_at old at → IsKept at
  same_kept at same =
      record {
        in_use = λ h. subst IsSome (sym same) h;
        links = ap (links_of_node rules) same;
        span = ap (span_of_node rules) same;
      }

  greatest_kept : (xs : List ℕ) → Each IsKept xs → greatest_of rules new xs ≡ greatest_of rules old xs
  greatest_kept [] h = refl
  greatest_kept (x ∷ xs) h = omega (arith, h.0.span, greatest_kept xs h.1)

  pub Stands-kept : (t : Tree) (root : Option NodeNo) → Each IsKept (places t) → Stands rules old t root → Stands rules new t root
  Stands-kept Leaf root h s = s
  Stands-kept (Fork left at right) root h s =
      let front = Each-front IsKept (places left) (at ∷ places right) h in
      let back = Each-back IsKept (places left) (at ∷ places right) h in
      let f = s.1 in (
        s.0,
        record {
          in_use = back.0.in_use f.in_use;
          goes_left = subst (λ (q : Links). Stands rules new left q.left) (sym back.0.links) (Stands-kept left _ front f.goes_left);
          goes_right = subst (λ (q : Links). Stands rules new right q.right) (sym back.0.links) (Stands-kept right _ back.1 f.goes_right);
          height = ap (λ (q : Links). q.height) back.0.links ∙ f.height;
          greatest = ap (λ (q : Links). q.greatest) back.0.links ∙ f.greatest ∙ sym (greatest_kept (places (Fork left at right)) h);
          balanced = f.balanced;
        },
      )

  -- a root stands for what it stood for
  pub record SameFrom (root : Option NodeNo) : Type 0 where
    pub stands : StandsFrom rules new root
    pub list : nodes_from rules new root ≡ nodes_from rules old root
    pub height : stored_height rules new root ≡ stored_height rules old root

  pub kept_from : (root : Option NodeNo) → StandsFrom rules old root → Each IsKept (nodes_from rules old root) → SameFrom root
  kept_from root s h =
      let t = tree_at rules old root in
      let before = tree_stands rules old root s in
      let after = Stands-kept t root (subst (Each IsKept) (nodes_are rules old root) h) before in
      record {
        stands = StandsFrom-is rules new t root after;
        list = nodes_from-is rules new t root after ∙ sym (nodes_are rules old root);
        height = stored_height-is rules new t root after ∙ sym (stored_height-is rules old t root before);
      }
