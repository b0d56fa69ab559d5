-- What a subtree tells the node above it, and a node that is right as it is.
use Rattle.std.proofs.Common.{◌≡◌, ℕ, ◌+◌, max, Option, Some, None, IsSome, List, [], ◌∷◌, set, refl, sym, ap, ◌∙◌, arith, true≢false}
use Rattle.std.proofs.lemmas.List.{set-get_or}
use Rattle.seg_pool.specs.declared.NodeNo.{NodeNo}
use Rattle.seg_pool.specs.Pool.{Pool, node_at, with_node}
use Rattle.seg_order.specs.declared.links.Links.{Links}
use Rattle.seg_order.specs.declared.links.Told.{Told}
use Rattle.seg_order.specs.declared.links.Side.{Side}
use Rattle.seg_order.specs.declared.links.Side.TheVariants.{Left, Right}
use Rattle.seg_order.specs.Rules.{Rules, IsLawful}
use Rattle.seg_order.specs.Sides.{between, other, toward}
use Rattle.seg_order.specs.Trees.{DifferByAtMost, links_of_node, span_of_node, links_at, span_at, greatest_of, stored_height, stored_greatest, nodes_from, StandsFrom}
use Rattle.seg_order.specs.Changes.{OnlyLinks, Attaches, IsUnder, IsOverBoth, Joins}
use Rattle.seg_order.proofs.Standing.{Opened, greatest_from, greatest-append}
use Rattle.seg_order.proofs.Changing.{relinked_span, joins, flip_joins, flip_under}

has_node : {N : Type 0} → (o : Option N) → IsSome o → (x : N) × (o ≡ Some x)
has_node None h = absurd (true≢false (sym h))
has_node (Some x) h = (x, refl)

module _ {N : Type 0} (rules : Rules N) (lawful : IsLawful rules) where
  -- a node that is written with the links that it has
  rewritten : (pool : Pool N) (at : ℕ) (node : N) → node_at pool at ≡ Some node → with_node pool at (rules.with_links node (rules.links node)) ≡ pool
  rewritten pool at node was =
      ap (with_node pool at) (lawful.unchanged node)
      ∙ ap (λ o. record pool { nodes = set pool.nodes at o }) (sym was)
      ∙ ap (λ ns. record pool { nodes = ns }) (set-get_or pool.nodes at None)

  -- a node whose links are those over two subtrees is as if they had been written
  attached_still : {pool : Pool N} {left right : Option NodeNo} {at : ℕ} → IsSome (node_at pool at) → (links_at rules pool at).left ≡ left → (links_at rules pool at).right ≡ right → (links_at rules pool at).height ≡ max (stored_height rules pool left) (stored_height rules pool right) + 1 → (links_at rules pool at).greatest ≡ max (max (stored_greatest rules pool left) (stored_greatest rules pool right)) (span_at rules pool at) → Attaches rules pool pool left right at
  attached_still {pool} {left} {right} {at} present goes_left goes_right height greatest =
      let found = has_node (node_at pool at) present in
      let links : links_at rules pool at ≡ rules.links found.0 = ap (links_of_node rules) found.1 in
      let span : span_at rules pool at ≡ rules.span found.0 = ap (span_of_node rules) found.1 in
      record {
        node = found.0;
        was = found.1;
        links = rules.links found.0;
        after = sym (rewritten pool at found.0 found.1);
        goes_left = ap (λ (q : Links). q.left) (sym links) ∙ goes_left;
        goes_right = ap (λ (q : Links). q.right) (sym links) ∙ goes_right;
        height = omega (arith, ap (λ (q : Links). q.height) links, height);
        greatest = omega (arith, ap (λ (q : Links). q.greatest) links, greatest, span);
      }

  -- where the near subtree tells what it told before, nothing has to be written
  pub stays : (side : Side) {pool : Pool N} {no : NodeNo} {before : Told} {near far : Option NodeNo} → IsUnder rules pool near far no.0 → IsOverBoth rules side pool no.0 before far → before.root ≡ near → before.height ≡ stored_height rules pool near → before.greatest ≡ stored_greatest rules pool near → Joins rules side pool pool near far no.0 (Some no)
  stays Left {pool} {no} {before} {near} {far} u o r h g =
      let b = o.balanced in
      let level : DifferByAtMost 1 (stored_height rules pool near) (stored_height rules pool far) = omega (arith, b, h) in
      joins rules lawful (attached_still u.in_use (o.goes_near ∙ r) o.goes_far (omega (arith, o.height, h)) (omega (arith, o.greatest, g))) u level
  stays Right {pool} {no} {before} {near} {far} u o r h g =
      let b = o.balanced in
      let level : DifferByAtMost 1 (stored_height rules pool far) (stored_height rules pool near) = omega (arith, b, h) in
      flip_joins rules Right (joins rules lawful (attached_still u.in_use o.goes_far (o.goes_near ∙ r) (omega (arith, o.height, h)) (omega (arith, o.greatest, g))) (flip_under u) level)

  greatest_between : (pool : Pool N) (side : Side) (xs : List ℕ) (at : ℕ) (ys : List ℕ) → greatest_of rules pool (between side xs at ys) ≡ max (max (greatest_of rules pool xs) (greatest_of rules pool ys)) (span_at rules pool at)
  greatest_between pool Left xs at ys = omega (arith, greatest-append rules pool xs (at ∷ ys))
  greatest_between pool Right xs at ys = omega (arith, greatest-append rules pool ys (at ∷ xs))

  spans_stay : {old new : Pool N} {touched : List ℕ} → OnlyLinks rules old new touched → (xs : List ℕ) → greatest_of rules new xs ≡ greatest_of rules old xs
  spans_stay o [] = refl
  spans_stay o (x ∷ xs) = omega (arith, relinked_span rules lawful _ _ (o.relinked x), spans_stay o xs)

  -- a subtree that has its list yet has its greatest span
  pub greatest_stays : {old new : Pool N} {touched : List ℕ} → OnlyLinks rules old new touched → (root : Option NodeNo) → StandsFrom rules old root → StandsFrom rules new root → nodes_from rules new root ≡ nodes_from rules old root → stored_greatest rules new root ≡ stored_greatest rules old root
  greatest_stays {old} {new} o root was stands list =
      greatest_from rules new root stands
      ∙ ap (greatest_of rules new) list
      ∙ spans_stay o (nodes_from rules old root)
      ∙ sym (greatest_from rules old root was)

  -- a node that was over two subtrees, of which the far one is as it was
  pub over_both : {side : Side} {old new : Pool N} {at : NodeNo} {near far : Option NodeNo} {before : Told} → Opened rules old side at near far → node_at new at.0 ≡ node_at old at.0 → stored_height rules new far ≡ stored_height rules old far → stored_greatest rules new far ≡ stored_greatest rules old far → near ≡ toward side (links_at rules old at.0) → far ≡ toward (other side) (links_at rules old at.0) → before.root ≡ near → before.height ≡ stored_height rules old near → before.greatest ≡ stored_greatest rules old near → IsOverBoth rules side new at.0 before far
  over_both {side} {old} {new} {at} {near} {far} {before} o same far_high far_great one two r h g =
      let links : links_at rules new at.0 ≡ links_at rules old at.0 = ap (links_of_node rules) same in
      let span : span_at rules new at.0 ≡ span_at rules old at.0 = ap (span_of_node rules) same in
      let whole = ap (greatest_of rules old) o.list ∙ greatest_between old side _ at.0 _ in
      let b = o.balanced in
      record {
        goes_near = ap (toward side) links ∙ sym one ∙ sym r;
        goes_far = ap (toward (other side)) links ∙ sym two;
        height = omega (arith, ap (λ (q : Links). q.height) links, o.height, h, far_high);
        greatest = omega (arith, ap (λ (q : Links). q.greatest) links, o.greatest, whole, greatest_from rules old near o.near_stands, greatest_from rules old far o.far_stands, g, far_great, span);
        balanced = omega (arith, b, h, far_high);
      }
