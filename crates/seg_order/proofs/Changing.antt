-- What a pool keeps where nothing but links of some nodes changed.
use Rattle.std.proofs.Common.{◌≡◌, ◌≢◌, ℕ, ◌<◌, Option, Some, None, is_some, IsSome, true, cond, List, [], ◌∷◌, ◌++◌, length, get_or, refl, sym, ap, subst, ◌∙◌, arith, true≢false}
use Rattle.std.proofs.lemmas.Bool.{cases_eq}
use Rattle.std.proofs.lemmas.List.{get_or-set_same, get_or-set_other, get_or_past}
use Rattle.std.proofs.lemmas.List.Sums.{sum_by-set}
use Rattle.std.proofs.Common.{inl, inr}
use Rattle.seg_pool.specs.declared.NodeNo.{NodeNo}
use Rattle.seg_pool.specs.Pool.{Pool, node_at, with_node, used}
use Rattle.seg_order.specs.declared.links.Links.{Links}
use Rattle.seg_order.specs.declared.links.Side.{Side}
use Rattle.seg_order.specs.declared.links.Side.TheVariants.{Left, Right}
use Rattle.seg_order.specs.Rules.{Rules, IsLawful}
use Rattle.seg_order.specs.Lists.{Each, IsApart, AreApart, Parts}
use Rattle.seg_order.specs.Sides.{between, other, comes_before, IsBefore}
use Rattle.seg_order.specs.Trees.{Fork, DifferByAtMost, places, links_of_node, span_of_node, links_at, span_at, greatest_of, stored_height, stored_greatest, tree_at, nodes_from, Stands, StandsFrom, IsSorted}
use Rattle.seg_order.specs.Changes.{IsRelinked, OnlyLinks, Attaches, IsUnder, Joins}
use Rattle.seg_order.proofs.Apart.{Each-weaker, from_between}
use Rattle.seg_order.proofs.Standing.{tree_stands, nodes_are, StandsFrom-is, nodes_from-is, stored_height-is, stored_greatest-is, height_from, greatest-append, IsKept, same_kept, Stands-kept, SameFrom, kept_from, Has}

-- what a node after a write of one place is
pub node_written : {N : Type 0} → (pool : Pool N) (at : ℕ) (x : N) → IsSome (node_at pool at) → node_at (with_node pool at x) at ≡ Some x
node_written pool at x used_at =
    let within : at < length pool.nodes = grind (arith, get_or_past) in
    get_or-set_same pool.nodes at (Some x) None within

pub node_beside : {N : Type 0} → (pool : Pool N) (at : ℕ) (x : N) (k : ℕ) → k ≢ at → node_at (with_node pool at x) k ≡ node_at pool k
node_beside pool at x k differs = get_or-set_other pool.nodes at k (Some x) None differs

abbrev count_of : {N : Type 0} → Option N → ℕ
count_of o = cond (is_some o) 1 0

counts_one : {N : Type 0} → (o : Option N) → IsSome o → count_of o ≡ 1
counts_one None h = absurd (true≢false (sym h))
counts_one (Some x) h = refl

-- as many nodes are in use after a write of one that is
pub used_written : {N : Type 0} → (pool : Pool N) (at : ℕ) (x : N) → IsSome (node_at pool at) → used (with_node pool at x) ≡ used pool
used_written pool at x used_at =
    let within : at < length pool.nodes = grind (arith, get_or_past) in
    let counted = sum_by-set count_of pool.nodes at (Some x) None within in
    let one = counts_one (get_or pool.nodes at None) used_at in
    omega (arith, counted, one)

module _ {N : Type 0} (rules : Rules N) (lawful : IsLawful rules) where
  pub relinked_again : (x y z : Option N) → IsRelinked rules x y → IsRelinked rules y z → IsRelinked rules x z
  relinked_again None y z p q = subst (λ o. IsRelinked rules o z) p q
  relinked_again (Some x) y z p q =
      let r = subst (λ o. IsRelinked rules o z) p.1 q in
      (r.0, r.1 ∙ ap (λ w. Some w) (lawful.again x p.0 r.0))

  pub relinked_same : (x : Option N) → IsRelinked rules x x
  relinked_same None = refl
  relinked_same (Some x) = (rules.links x, ap (λ w. Some w) (sym (lawful.unchanged x)))

  pub relinked_used : (x y : Option N) → IsRelinked rules x y → IsSome x → IsSome y
  relinked_used None y p h = absurd (true≢false (sym h))
  relinked_used (Some x) y p h = subst IsSome (sym p.1) refl

  pub relinked_was : (x y : Option N) → IsRelinked rules x y → IsSome y → IsSome x
  relinked_was None y p h = absurd (true≢false (sym (subst IsSome p h)))
  relinked_was (Some x) y p h = refl

  pub relinked_span : (x y : Option N) → IsRelinked rules x y → span_of_node rules y ≡ span_of_node rules x
  relinked_span None y p = ap (span_of_node rules) p
  relinked_span (Some x) y p = ap (span_of_node rules) p.1 ∙ lawful.same_span x p.0

  pub relinked_before : (x y u v : Option N) → IsRelinked rules x u → IsRelinked rules y v → comes_before rules u v ≡ comes_before rules x y
  relinked_before None y u v p q = ap (λ o. comes_before rules o v) p
  relinked_before (Some x) None u v p q = ap (λ o. comes_before rules o v) p.1 ∙ ap (λ o. comes_before rules (Some (rules.with_links x p.0)) o) q
  relinked_before (Some x) (Some y) u v p q =
      ap (λ o. comes_before rules o v) p.1
      ∙ ap (λ o. comes_before rules (Some (rules.with_links x p.0)) o) q.1
      ∙ lawful.same_first x (rules.with_links y q.0) p.0
      ∙ lawful.same_second x y q.0

  module _ {old new : Pool N} {touched : List ℕ} (o : OnlyLinks rules old new touched) where
    pub still_used : (at : ℕ) → IsSome (node_at old at) → IsSome (node_at new at)
    still_used at h = relinked_used _ _ (o.relinked at) h

    pub still_before : (j k : ℕ) → IsBefore rules old j k → IsBefore rules new j k
    still_before j k h = relinked_before _ _ _ _ (o.relinked j) (o.relinked k) ∙ h

    pub still_sorted : (xs : List ℕ) → IsSorted rules old xs → IsSorted rules new xs
    still_sorted [] s = tt
    still_sorted (x ∷ xs) s = (Each-weaker (IsBefore rules old x) (IsBefore rules new x) (λ k. still_before x k) xs s.0, still_sorted xs s.1)

    -- a root stands for what it did, where none of its nodes was touched
    pub beside : (root : Option NodeNo) → StandsFrom rules old root → AreApart (nodes_from rules old root) touched → SameFrom rules old new root
    beside root s apart =
        kept_from rules old new root s (Each-weaker (λ k. IsApart k touched) (IsKept rules old new) (λ k p. same_kept rules old new k (o.others k p)) (nodes_from rules old root) apart)

    -- the same, of a list that is named
    pub beside_has : {root : Option NodeNo} {xs : List ℕ} {h : ℕ} → Has rules old root xs h → AreApart xs touched → Has rules new root xs h
    beside_has {root} {xs} {h} was apart =
        let s = beside root was.stands (subst (λ q. AreApart q touched) (sym was.list) apart) in
        record { stands = s.stands; list = s.list ∙ was.list; height = s.height ∙ was.height }

  pub both_links : {first second third : Pool N} {one two : List ℕ} → (touched : List ℕ) → OnlyLinks rules first second one → OnlyLinks rules second third two → ((k : ℕ) → IsApart k touched → IsApart k one) → ((k : ℕ) → IsApart k touched → IsApart k two) → OnlyLinks rules first third touched
  both_links touched p q f g =
      record {
        relinked = λ at. relinked_again _ _ _ (p.relinked at) (q.relinked at);
        others = λ at apart. q.others at (g at apart) ∙ p.others at (f at apart);
        spare = q.spare ∙ p.spare;
        used = q.used ∙ p.used;
      }

  pub no_links : (pool : Pool N) (touched : List ℕ) → OnlyLinks rules pool pool touched
  no_links pool touched =
      record { relinked = λ at. relinked_same (node_at pool at); others = λ at apart. refl; spare = refl; used = refl }

  pub wider_links : {old new : Pool N} {one : List ℕ} → (touched : List ℕ) → OnlyLinks rules old new one → ((k : ℕ) → IsApart k touched → IsApart k one) → OnlyLinks rules old new touched
  wider_links touched p f =
      record { relinked = p.relinked; others = λ at apart. p.others at (f at apart); spare = p.spare; used = p.used }

  keeps_node : (o : Option N) → rules.keeps (links_of_node rules o).greatest ≡ true
  keeps_node None = lawful.keeps_none
  keeps_node (Some x) = lawful.keeps_kept x

  -- there is room for what a subtree says of its greatest span
  keeps_stored : (pool : Pool N) (root : Option NodeNo) → rules.keeps (stored_greatest rules pool root) ≡ true
  keeps_stored pool None = lawful.keeps_none
  keeps_stored pool (Some at) = keeps_node (node_at pool at.0)

  module _ {old new : Pool N} {left right : Option NodeNo} {at : ℕ} (a : Attaches rules old new left right at) where
    was_used : IsSome (node_at old at)
    was_used = subst IsSome (sym a.was) refl

    attached_node : node_at new at ≡ Some (rules.with_links a.node a.links)
    attached_node = subst (λ p. node_at p at ≡ Some (rules.with_links a.node a.links)) (sym a.after) (node_written old at _ was_used)

    attached_beside : (k : ℕ) → k ≢ at → node_at new k ≡ node_at old k
    attached_beside k differs = subst (λ p. node_at p k ≡ node_at old k) (sym a.after) (node_beside old at _ k differs)

    kept : rules.keeps a.links.greatest ≡ true
    kept =
        subst (λ q. rules.keeps q ≡ true) (sym a.greatest)
        (lawful.keeps_either _ _ (lawful.keeps_either _ _ (keeps_stored old left) (keeps_stored old right)) (lawful.keeps_span a.node))

    attached_links : links_at rules new at ≡ a.links
    attached_links = ap (links_of_node rules) attached_node ∙ lawful.written a.node a.links kept

    attached_relinked : (k : ℕ) → IsRelinked rules (node_at old k) (node_at new k)
    attached_relinked k =
        elim (cases_eq k at) [
          | inl same ↦ subst (λ q. IsRelinked rules (node_at old q) (node_at new q)) (sym same) (subst (λ o. IsRelinked rules o (node_at new at)) (sym a.was) (a.links, attached_node))
          | inr differs ↦ subst (λ o. IsRelinked rules (node_at old k) o) (sym (attached_beside k differs)) (relinked_same (node_at old k))
        ]

    pub attached : (touched : List ℕ) → ((k : ℕ) → IsApart k touched → at ≢ k) → OnlyLinks rules old new touched
    attached touched f =
        record {
          relinked = attached_relinked;
          others = λ k apart. attached_beside k (λ e. f k apart (sym e));
          spare = ap (λ p. p.spare) a.after;
          used = ap used a.after ∙ used_written old at _ was_used;
        }

    kept_beside : (root : Option NodeNo) → IsApart at (nodes_from rules old root) → Each (IsKept rules old new) (places (tree_at rules old root))
    kept_beside root apart =
        Each-weaker (λ j. j ≡ at → ⊥) (IsKept rules old new) (λ j p. same_kept rules old new j (attached_beside j p)) _
        (subst (λ q. IsApart at q) (nodes_are rules old root) apart)

    -- a node over two subtrees of about one height makes one of them
    pub joins : IsUnder rules old left right at → DifferByAtMost 1 (stored_height rules old left) (stored_height rules old right) → Joins rules Left old new left right at (Some (record { 0 = at }))
    joins u balanced =
        let l = tree_at rules old left in
        let r = tree_at rules old right in
        let left_stands = tree_stands rules old left u.near_stands in
        let right_stands = tree_stands rules old right u.far_stands in
        let left_now = Stands-kept rules old new l left (kept_beside left u.parts.at_near) left_stands in
        let right_now = Stands-kept rules old new r right (kept_beside right u.parts.at_far) right_stands in
        let hl = height_from rules old left u.near_stands in
        let hr = height_from rules old right u.far_stands in
        let gl = stored_greatest-is rules old l left left_stands in
        let gr = stored_greatest-is rules old r right right_stands in
        let gl_now = greatest_same (places l) (kept_beside left u.parts.at_near) in
        let gr_now = greatest_same (places r) (kept_beside right u.parts.at_far) in
        let span : span_at rules new at ≡ rules.span a.node = ap (span_of_node rules) attached_node ∙ lawful.same_span a.node a.links in
        let both = greatest-append rules new (places l) (at ∷ places r) in
        let goes_left : (links_at rules new at).left ≡ left = ap (λ (q : Links). q.left) attached_links ∙ a.goes_left in
        let goes_right : (links_at rules new at).right ≡ right = ap (λ (q : Links). q.right) attached_links ∙ a.goes_right in
        let high = ap (λ (q : Links). q.height) attached_links ∙ a.height in
        let great = ap (λ (q : Links). q.greatest) attached_links ∙ a.greatest in
        let stands : Stands rules new (Fork l at r) (Some (record { 0 = at })) = (
          refl,
          record {
            in_use = subst IsSome (sym attached_node) refl;
            goes_left = subst (Stands rules new l) (sym goes_left) left_now;
            goes_right = subst (Stands rules new r) (sym goes_right) right_now;
            height = omega (arith, high, hl, hr);
            greatest = omega (arith, great, gl, gr, gl_now, gr_now, span, both);
            balanced = omega (arith, balanced, hl, hr);
          },
        ) in
        let height = stored_height-is rules new (Fork l at r) (Some (record { 0 = at })) stands in
        record {
          stands = StandsFrom-is rules new (Fork l at r) (Some (record { 0 = at })) stands;
          list = nodes_from-is rules new (Fork l at r) (Some (record { 0 = at })) stands ∙ ap (λ q. q ++ at ∷ places r) (sym (nodes_are rules old left)) ∙ ap (λ q. nodes_from rules old left ++ at ∷ q) (sym (nodes_are rules old right));
          links = attached (nodes_from rules old left ++ at ∷ nodes_from rules old right) (λ k apart. (from_between (λ j. j ≡ k → ⊥) Left _ at _ apart).at);
          no_lower = omega (arith, height, hl, hr);
          no_higher = omega (arith, height, hl, hr);
          level = λ _. omega (arith, height, hl, hr);
        }
      where
        greatest_same : (xs : List ℕ) → Each (IsKept rules old new) xs → greatest_of rules new xs ≡ greatest_of rules old xs
        greatest_same [] h = refl
        greatest_same (x ∷ xs) h = omega (arith, h.0.span, greatest_same xs h.1)

pub flip_under : {N : Type 0} {rules : Rules N} {pool : Pool N} {near far : Option NodeNo} {at : ℕ} → IsUnder rules pool near far at → IsUnder rules pool far near at
flip_under u =
    record {
      in_use = u.in_use;
      near_stands = u.far_stands;
      far_stands = u.near_stands;
      parts = record {
        near_distinct = u.parts.far_distinct;
        far_distinct = u.parts.near_distinct;
        at_near = u.parts.at_far;
        at_far = u.parts.at_near;
        across = u.parts.back;
        back = u.parts.across;
      };
    }

-- two subtrees with lists of their own
pub under : {N : Type 0} (rules : Rules N) {pool : Pool N} {near far : Option NodeNo} {at : ℕ} {xs ys : List ℕ} {h g : ℕ} → IsSome (node_at pool at) → Has rules pool near xs h → Has rules pool far ys g → Parts xs at ys → IsUnder rules pool near far at
under rules {pool} {near} {far} {at} {xs} {ys} used_at one two parts =
    record {
      in_use = used_at;
      near_stands = one.stands;
      far_stands = two.stands;
      parts = subst (λ q. Parts q at (nodes_from rules pool far)) (sym one.list) (subst (λ q. Parts xs at q) (sym two.list) parts);
    }

module _ {N : Type 0} (rules : Rules N) {side : Side} {old new : Pool N} {near far : Option NodeNo} {at : ℕ} {root : Option NodeNo} {xs ys : List ℕ} {h g : ℕ} (j : Joins rules side old new near far at root) (one : Has rules old near xs h) (two : Has rules old far ys g) where
  pub joined_list : between side (nodes_from rules old near) at (nodes_from rules old far) ≡ between side xs at ys
  joined_list = ap (λ q. between side q at (nodes_from rules old far)) one.list ∙ ap (λ q. between side xs at q) two.list

  pub joined_has : Has rules new root (between side xs at ys) (stored_height rules new root)
  joined_has = record { stands = j.stands; list = j.list ∙ joined_list; height = refl }

  pub joined_links : OnlyLinks rules old new (between side xs at ys)
  joined_links = subst (OnlyLinks rules old new) joined_list j.links

-- the two sides may be named the other way round
pub flip_joins : {N : Type 0} (rules : Rules N) (side : Side) {old new : Pool N} {near far : Option NodeNo} {at : ℕ} {root : Option NodeNo} → Joins rules (other side) old new far near at root → Joins rules side old new near far at root
flip_joins rules Left j =
    record { stands = j.stands; list = j.list; links = j.links; no_lower = omega (arith, j.no_lower); no_higher = omega (arith, j.no_higher); level = λ d. omega (arith, d, j.level (omega (arith, d))) }
flip_joins rules Right j =
    record { stands = j.stands; list = j.list; links = j.links; no_lower = omega (arith, j.no_lower); no_higher = omega (arith, j.no_higher); level = λ d. omega (arith, d, j.level (omega (arith, d))) }
