-- A run that comes into a tree, or leaves it.
use Rattle.std.proofs.Common.{◌≡◌, ◌≢◌, ℕ, suc, ◌+◌, ◌^◌, ◌<◌, ◌≤◌, ◌⊎◌, inl, inr, Bool, true, false, cond, eqb, leb, ltb, Option, Some, None, IsSome, List, [], ◌∷◌, ◌++◌, length, get_or, set, map, refl, sym, ap, subst, ◌∙◌, arith, Contains, true≢false}
use Rattle.std.specs.Prelude.{◌||◌, ◌&&◌}
use Rattle.std.specs.List.{sum_by, count_by}
use Rattle.std.proofs.lemmas.Bool.{cases_lt, cases_eq, lt-ltb, ltb-true, leb-true}
use Rattle.std.proofs.lemmas.List.{length-map, get_or-set_same, get_or-set_other}
use Rattle.std.proofs.lemmas.List.Sums.{sum_by-cons}
use Rattle.zms_units.proofs.Bools.{true_and}
use Rattle.zms_units.proofs.Buckets.{one_bucket}
use Rattle.seg_trees.proofs.Histograms.{length_fits}
use Rattle.std.proofs.lemmas.Bool.Decides.{nat_tests}
use Rattle.std.proofs.lemmas.List.Elements.{Contains-append_left, Contains-append_right, Contains-append_cases}
use Rattle.zms_units.specs.declared.segments.Seg.{Seg}
use Rattle.zms_units.specs.Segments.{end_of, covers, covered}
use Rattle.zms_units.specs.Apart.{AreApartFrom}
use Rattle.seg_trees.specs.Sets.{IsSegment}
use Rattle.seg_pool.specs.declared.NodeNo.{NodeNo}
use Rattle.seg_pool.specs.Pool.{Pool, node_at}
use Rattle.seg_order.specs.Lists.{Each, IsApart, PutIn}
use Rattle.seg_order.specs.Sides.{IsBefore, comes_before}
use Rattle.seg_order.specs.Trees.{nodes_from, IsSorted, IsOver, Differs}
use Rattle.seg_order.specs.Changes.{OnlyLinks}
use Rattle.seg_order.proofs.Apart.{Each-weaker, Each-both, Each-in, Each-front, Each-back}
use Rattle.seg_order.proofs.Sorting.{each_put, Sorted, sorted_parts}
use Rattle.seg_order.proofs.Heights.{all_used}
use Rattle.seg_order.proofs.Changing.{still_used}
use Rattle.seg_order.specs.declared.links.Side.TheVariants.{Left}
use Rattle.range_tree.specs.declared.node.RunNode.{RunNode}
use Rattle.range_tree.specs.declared.tree.Tree.{Tree}
use Rattle.range_tree.specs.Nodes.{place_rules, size_rules, place_lawful, is_smaller}
use Rattle.range_tree.specs.Kept.{seg_of, seg_at, placed, sized, runs_of, units_of, is_long_as, IsTree, Touches, HoldsNoneAround}
use Rattle.range_tree.proofs.Orders.{SameOver, over_beside, sizes_stay, places_stay, place_segs, size_segs, same_runs, all_runs, Takes, taken_node, taken_beside, taken_used}
use Rattle.range_tree.proofs.Runs.{IsClear, sum_fits, sum_put, covered_put, length_put, clear_all, apart_put}

pub end_place : (x y : Option RunNode) → IsSome x → IsSome y → end_of (seg_of x) < end_of (seg_of y) → comes_before place_rules x y ≡ true
end_place None y p q l = absurd (true≢false (sym p))
end_place (Some x) None p q l = absurd (true≢false (sym q))
end_place (Some x) (Some y) p q l = lt-ltb _ _ l

pub place_ends : (x y : Option RunNode) → comes_before place_rules x y ≡ true → end_of (seg_of x) < end_of (seg_of y)
place_ends None y e = absurd (true≢false (sym e))
place_ends (Some x) None e = absurd (true≢false (sym e))
place_ends (Some x) (Some y) e = ltb-true _ _ e

smaller_one : (s t : Seg) → ((s.count ≡ t.count) → (s.start ≡ t.start) → ⊥) → ((ltb s.count t.count || (eqb s.count t.count && ltb s.start t.start)) ≡ true) ⊎ ((ltb t.count s.count || (eqb t.count s.count && ltb t.start s.start)) ≡ true)
smaller_one s t differ =
    elim (cases_lt s.count t.count) [
      | inl less ↦ inl (grind (arith, nat_tests))
      | inr rest ↦ elim (cases_lt t.count s.count) [
        | inl more ↦ inr (grind (arith, nat_tests))
        | inr same ↦ elim (cases_lt s.start t.start) [
          | inl before ↦ inl (grind (arith, nat_tests))
          | inr other ↦ elim (cases_lt t.start s.start) [
            | inl behind ↦ inr (grind (arith, nat_tests))
            | inr equal ↦ absurd (differ (omega arith) (omega arith))
          ]
        ]
      ]
    ]

pub size_place : (x y : Option RunNode) → IsSome x → IsSome y → (((seg_of x).count ≡ (seg_of y).count) → ((seg_of x).start ≡ (seg_of y).start) → ⊥) → (comes_before size_rules x y ≡ true) ⊎ (comes_before size_rules y x ≡ true)
size_place None y p q d = absurd (true≢false (sym p))
size_place (Some x) None p q d = absurd (true≢false (sym q))
size_place (Some x) (Some y) p q d = smaller_one x.seg y.seg d

pub contains_put : {rest list : List ℕ} {at : ℕ} (k : ℕ) → PutIn rest at list → Contains rest k → Contains list k
contains_put {rest} {list} {at} k p c =
    let split = subst (λ q. Contains q k) p.without c in
    subst (λ q. Contains q k) (sym p.with_it) (elim (Contains-append_cases p.front p.back k split) [
      | inl left ↦ Contains-append_left p.front (at ∷ p.back) k left
      | inr right ↦ Contains-append_right p.front (at ∷ p.back) k (suc right.0, omega (arith, right.1), right.2)
    ])

pub contains_it : {rest list : List ℕ} {at : ℕ} → PutIn rest at list → Contains list at
contains_it {rest} {list} {at} p = subst (λ q. Contains q at) (sym p.with_it) (Contains-append_right p.front (at ∷ p.back) at (0, omega arith, refl))

pub each_with : (P Q : ℕ → Type 0) (xs : List ℕ) → Each P xs → ((k : ℕ) → Contains xs k → P k → Q k) → Each Q xs
each_with P Q [] h f = tt
each_with P Q (x ∷ xs) h f = (f x (0, omega arith, refl) h.0, each_with P Q xs h.1 (λ k c p. f k (suc c.0, omega (arith, c.1), c.2) p))

pub each_itself : (xs : List ℕ) → Each (Contains xs) xs
each_itself [] = tt
each_itself (x ∷ xs) = ((0, omega arith, refl), Each-weaker (Contains xs) (Contains (x ∷ xs)) (λ k c. (suc c.0, omega (arith, c.1), c.2)) xs (each_itself xs))

-- a place that is apart from one order is apart from the other
pub apart_sized : (pool : Pool RunNode) (tree : Tree) → IsTree pool tree → (k : ℕ) → IsApart k (placed pool tree) → IsApart k (sized pool tree)
apart_sized pool tree t k apart =
    Each-weaker (Contains (placed pool tree)) (λ j. j ≡ k → ⊥) (λ j c. Each-in (λ i. i ≡ k → ⊥) (placed pool tree) j apart c) _ t.all_placed

-- a node comes into the pool, then into both orders
module _ {first second : Pool RunNode} {tree : Tree} {no : NodeNo} {run : Seg} {node : RunNode} (t : IsTree first tree) (around : HoldsNoneAround (units_of first tree) run) (segment : IsSegment run) (is : node.seg ≡ run) (took : Takes first second no.0 node) where
  here : seg_at second no.0 ≡ run
  here = ap seg_of (taken_node took) ∙ is

  pub now_used : IsSome (node_at second no.0)
  now_used = subst IsSome (sym (taken_node took)) refl

  beside_places : Each (λ k. node_at second k ≡ node_at first k) (placed first tree)
  beside_places = Each-weaker (λ k. IsSome (node_at first k)) (λ k. node_at second k ≡ node_at first k) (taken_beside took) _ (all_used place_rules first tree.places.root t.places.stands)

  beside_sizes : Each (λ k. node_at second k ≡ node_at first k) (sized first tree)
  beside_sizes = Each-weaker (λ k. IsSome (node_at first k)) (λ k. node_at second k ≡ node_at first k) (taken_beside took) _ (all_used size_rules first tree.sizes.root t.sizes.stands)

  pub places_then : SameOver place_rules first second tree.places.root
  places_then = over_beside place_rules first second tree.places.root t.places beside_places

  pub sizes_then : SameOver size_rules first second tree.sizes.root
  sizes_then = over_beside size_rules first second tree.sizes.root t.sizes beside_sizes

  clear_first : Each (λ k. IsClear run (seg_at first k)) (placed first tree)
  clear_first = clear_all (seg_at first) 0 131073 run (placed first tree) t.apart around

  -- what is known of each node of the tree beside the new one
  record Stands (k : ℕ) : Type 0 where
    pub in_use : IsSome (node_at second k)
    pub clear : IsClear run (seg_at second k)
    pub same : seg_at second k ≡ seg_at first k

  stands_first : Each Stands (placed first tree)
  stands_first =
      let known = Each-both (λ k. node_at second k ≡ node_at first k) (λ k. IsClear run (seg_at first k)) (λ k. (node_at second k ≡ node_at first k) × IsClear run (seg_at first k)) (λ k a b. (a, b)) _ beside_places clear_first in
      Each-both (λ k. (node_at second k ≡ node_at first k) × IsClear run (seg_at first k)) (λ k. IsSome (node_at first k)) Stands
      (λ k a b. record { in_use = subst IsSome (sym a.0) b; clear = subst (λ o. IsClear run (seg_of o)) (sym a.0) a.1; same = ap seg_of a.0 }) _ known (all_used place_rules first tree.places.root t.places.stands)

  stands_sized : Each Stands (sized first tree)
  stands_sized = each_with (λ k. Contains (placed first tree) k) Stands _ t.all_placed (λ k _ c. Each-in Stands (placed first tree) k stands_first c)

  place_differs : (k : ℕ) → Stands k → IsBefore place_rules second no.0 k ⊎ IsBefore place_rules second k no.0
  place_differs k s =
      elim s.clear [
        | inl before ↦ inr (end_place (node_at second k) (node_at second no.0) s.in_use now_used (omega (arith, ap end_of here, ap (λ (r : Seg). r.start) here, ap (λ (r : Seg). r.count) here, before)))
        | inr after ↦ inl (end_place (node_at second no.0) (node_at second k) now_used s.in_use (omega (arith, ap end_of here, after)))
      ]

  pub places_differ : Differs place_rules second no.0 (nodes_from place_rules second tree.places.root)
  places_differ = subst (Differs place_rules second no.0) (sym places_then.list) (Each-weaker Stands (λ k. IsBefore place_rules second no.0 k ⊎ IsBefore place_rules second k no.0) place_differs _ stands_first)

  size_differs : (k : ℕ) → Stands k → IsBefore size_rules second no.0 k ⊎ IsBefore size_rules second k no.0
  size_differs k s =
      size_place (node_at second no.0) (node_at second k) now_used s.in_use
      (λ counts starts. let at = here in elim s.clear [
        | inl before ↦ omega (arith, before, ap (λ (r : Seg). r.start) here, ap (λ (r : Seg). r.count) here)
        | inr after ↦ omega (arith, after, ap (λ (r : Seg). r.start) here, ap (λ (r : Seg). r.count) here, segment.some)
      ])

  module _ {third : Pool RunNode} {places_root : Option NodeNo} (lp : OnlyLinks place_rules second third (nodes_from place_rules third places_root)) (vp : IsOver place_rules third places_root) (pp : PutIn (nodes_from place_rules second tree.places.root) no.0 (nodes_from place_rules third places_root)) where
    pub sizes_next : SameOver size_rules second third tree.sizes.root
    sizes_next = sizes_stay lp tree.sizes.root sizes_then.over

    pub still_there : IsSome (node_at third no.0)
    still_there = still_used place_rules place_lawful lp no.0 now_used

    size_keeps : (x y u v : Option RunNode) → seg_of u ≡ seg_of x → seg_of v ≡ seg_of y → IsSome u → IsSome v → IsSome x → IsSome y → comes_before size_rules x y ≡ true → comes_before size_rules u v ≡ true
    size_keeps x y None v e f p q r s b = absurd (true≢false (sym p))
    size_keeps x y (Some u) None e f p q r s b = absurd (true≢false (sym q))
    size_keeps None y (Some u) (Some v) e f p q r s b = absurd (true≢false (sym r))
    size_keeps (Some x) None (Some u) (Some v) e f p q r s b = absurd (true≢false (sym s))
    size_keeps (Some x) (Some y) (Some u) (Some v) e f p q r s b = subst (λ t. is_smaller t v.seg ≡ true) (sym e) (subst (λ t. is_smaller x.seg t ≡ true) (sym f) b)

    size_next : (k : ℕ) → Stands k → IsBefore size_rules third no.0 k ⊎ IsBefore size_rules third k no.0
    size_next k s =
        let there = still_used place_rules place_lawful lp k s.in_use in
        elim (size_differs k s) [
          | inl before ↦ inl (size_keeps _ _ _ _ (place_segs lp no.0) (place_segs lp k) still_there there now_used s.in_use before)
          | inr after ↦ inr (size_keeps _ _ _ _ (place_segs lp k) (place_segs lp no.0) there still_there s.in_use now_used after)
        ]

    pub sizes_differ : Differs size_rules third no.0 (nodes_from size_rules third tree.sizes.root)
    sizes_differ =
        subst (Differs size_rules third no.0) (sym (sizes_next.list ∙ sizes_then.list))
        (Each-weaker Stands (λ k. IsBefore size_rules third no.0 k ⊎ IsBefore size_rules third k no.0) size_next _ stands_sized)

    module _ {last : Pool RunNode} {sizes_root : Option NodeNo} (ls : OnlyLinks size_rules third last (nodes_from size_rules last sizes_root)) (vs : IsOver size_rules last sizes_root) (ps : PutIn (nodes_from size_rules third tree.sizes.root) no.0 (nodes_from size_rules last sizes_root)) where
      places_last : SameOver place_rules third last places_root
      places_last = places_stay ls places_root vp

      put_places : PutIn (placed first tree) no.0 (nodes_from place_rules last places_root)
      put_places = subst (λ q. PutIn q no.0 (nodes_from place_rules last places_root)) places_then.list (subst (PutIn _ no.0) (sym places_last.list) pp)

      put_sizes : PutIn (sized first tree) no.0 (nodes_from size_rules last sizes_root)
      put_sizes = subst (λ q. PutIn q no.0 (nodes_from size_rules last sizes_root)) (sizes_next.list ∙ sizes_then.list) ps

      segs : (k : ℕ) → seg_at last k ≡ seg_at second k
      segs k = size_segs ls k ∙ place_segs lp k

      -- the runs as the new node's pool has them
      runs_now : map (seg_at last) (nodes_from place_rules last places_root) ≡ map (seg_at second) (put_places.front ++ no.0 ∷ put_places.back)
      runs_now = all_runs second last segs _ ∙ ap (map (seg_at second)) put_places.with_it

      runs_before : runs_of first tree ≡ map (seg_at second) (put_places.front ++ put_places.back)
      runs_before = sym (same_runs first second _ (Each-weaker Stands (λ k. seg_at second k ≡ seg_at first k) (λ k s. s.same) _ stands_first)) ∙ ap (map (seg_at second)) put_places.without

      pub put_units : (u : ℕ) → covered (map (seg_at last) (nodes_from place_rules last places_root)) u ≡ (covers run u || units_of first tree u)
      put_units u =
          ap (λ q. covered q u) runs_now ∙ covered_put (seg_at second) put_places.front put_places.back no.0 u
          ∙ ap (λ q. covers q u || covered (map (seg_at second) (put_places.front ++ put_places.back)) u) here
          ∙ ap (λ q. covers run u || covered q u) (sym runs_before)

      sorted_now : Sorted place_rules place_lawful third Left put_places.front no.0 put_places.back
      sorted_now = sorted_parts place_rules place_lawful third Left _ _ _ (subst (IsSorted place_rules third) (sym places_last.list ∙ put_places.with_it) vp.sorted)

      stands_split : Each Stands (put_places.front ++ put_places.back)
      stands_split = subst (Each Stands) put_places.without stands_first

      ends : (j k : ℕ) → IsBefore place_rules third j k → end_of (seg_at second j) < end_of (seg_at second k)
      ends j k before =
          let e = ap end_of (place_segs lp j) in
          let f = ap end_of (place_segs lp k) in
          omega (arith, place_ends (node_at third j) (node_at third k) before, e, f)

      pub put_apart : AreApartFrom 0 131073 (map (seg_at last) (nodes_from place_rules last places_root))
      put_apart =
          let start = ap (λ (r : Seg). r.start) here in
          let count = ap (λ (r : Seg). r.count) here in
          subst (AreApartFrom 0 131073) (sym runs_now) (apart_put (seg_at second) 0 131073 put_places.front put_places.back no.0
          (subst (AreApartFrom 0 131073) runs_before t.apart)
          (Each-both Stands (λ j. IsBefore place_rules third j no.0) (λ k. end_of (seg_at second k) < (seg_at second no.0).start)
          (λ k s before. elim s.clear [ inl ok ↦ omega (arith, ok, start) | inr bad ↦ absurd (omega (arith, bad, ends k no.0 before, start, count)) ]) _
          (Each-front Stands put_places.front put_places.back stands_split) sorted_now.near_comes)
          (Each-both Stands (λ j. IsBefore place_rules third no.0 j) (λ k. end_of (seg_at second no.0) < (seg_at second k).start)
          (λ k s after. elim s.clear [ inl bad ↦ absurd (omega (arith, bad, ends no.0 k after, start, count)) | inr ok ↦ omega (arith, ok, start, count) ]) _
          (Each-back Stands put_places.front put_places.back stands_split) sorted_now.far_comes)
          (omega arith) (omega (arith, count, segment.some)) (omega (arith, start, count, segment.within)))

      pub put_length : length (nodes_from place_rules last places_root) ≡ length (placed first tree) + 1
      put_length = ap length put_places.with_it ∙ length_put (seg_at second) put_places.front put_places.back no.0 ∙ ap (λ q. length q + 1) (sym put_places.without)

      size_length : length (nodes_from size_rules last sizes_root) ≡ length (sized first tree) + 1
      size_length = ap length put_sizes.with_it ∙ length_put (seg_at second) put_sizes.front put_sizes.back no.0 ∙ ap (λ q. length q + 1) (sym put_sizes.without)

      pub put_sum : (f : Seg → ℕ) → sum_by f (map (seg_at last) (nodes_from place_rules last places_root)) ≡ sum_by f (runs_of first tree) + f run
      put_sum f =
          ap (sum_by f) runs_now ∙ sum_put (seg_at second) f put_places.front put_places.back no.0
          ∙ ap (λ q. sum_by f (map (seg_at second) (put_places.front ++ put_places.back)) + f q) here
          ∙ ap (λ q. sum_by f q + f run) (sym runs_before)

      -- the tree with the counts that go with the run
      pub put_tree : (after : Tree) → after.places.root ≡ places_root → after.sizes.root ≡ sizes_root → after.nodes ≡ tree.nodes + 1 → after.units ≡ tree.units + run.count → length after.lengths ≡ 18
          → ((bit : ℕ) → bit < 18 → get_or after.lengths bit 0 ≡ get_or tree.lengths bit 0 + cond (is_long_as bit run) 1 0) → IsTree last after
      put_tree after is_places is_sizes nodes units bits lengths =
          let root_places = sym is_places in
          let root_sizes = sym is_sizes in
          record {
            places = subst (IsOver place_rules last) root_places places_last.over;
            sizes = subst (IsOver size_rules last) root_sizes vs;
            all_sized = subst (λ p. Each (λ at. Contains (nodes_from size_rules last after.sizes.root) at) (nodes_from place_rules last p)) root_places (subst (λ s. Each (λ at. Contains (nodes_from size_rules last s) at) (nodes_from place_rules last places_root)) root_sizes all_sized_now);
            all_placed = subst (λ p. Each (λ at. Contains (nodes_from place_rules last p) at) (nodes_from size_rules last after.sizes.root)) root_places (subst (λ s. Each (λ at. Contains (nodes_from place_rules last places_root) at) (nodes_from size_rules last s)) root_sizes all_placed_now);
            as_many = ap (λ s. length (nodes_from size_rules last s)) is_sizes ∙ size_length ∙ ap (λ n. n + 1) t.as_many ∙ sym put_length ∙ sym (ap (λ p. length (nodes_from place_rules last p)) is_places);
            apart = subst (λ p. AreApartFrom 0 131073 (map (seg_at last) (nodes_from place_rules last p))) root_places put_apart;
            nodes = omega (arith, nodes, t.nodes, put_length, ap (λ p. length (nodes_from place_rules last p)) is_places);
            units = omega (arith, units, t.units, put_sum (λ (r : Seg). r.count), ap (λ p. sum_by (λ (r : Seg). r.count) (map (seg_at last) (nodes_from place_rules last p))) is_places);
            bits = bits;
            lengths = λ bit below. omega (arith, lengths bit below, t.lengths bit below, put_sum (λ r. cond (is_long_as bit r) 1 0), ap (λ p. count_by (is_long_as bit) (map (seg_at last) (nodes_from place_rules last p))) is_places);
          }
        where
          all_sized_now : Each (λ at. Contains (nodes_from size_rules last sizes_root) at) (nodes_from place_rules last places_root)
          all_sized_now =
              each_put (λ at. Contains (nodes_from size_rules last sizes_root) at) put_places
              (Each-weaker (λ at. Contains (sized first tree) at) (λ at. Contains (nodes_from size_rules last sizes_root) at) (λ k c. contains_put k put_sizes c) _ t.all_sized) (contains_it put_sizes)

          all_placed_now : Each (λ at. Contains (nodes_from place_rules last places_root) at) (nodes_from size_rules last sizes_root)
          all_placed_now =
              each_put (λ at. Contains (nodes_from place_rules last places_root) at) put_sizes
              (Each-weaker (λ at. Contains (placed first tree) at) (λ at. Contains (nodes_from place_rules last places_root) at) (λ k c. contains_put k put_places c) _ t.all_placed) (contains_it put_places)

      pub put_touches : 1 ≤ first.spare → Touches first last (placed first tree) (nodes_from place_rules last places_root)
      put_touches some =
          record {
            kept = λ k present apart.
                let differs : no.0 ≢ k = λ e. true≢false (sym (subst IsSome (ap (node_at first) (sym e) ∙ took.vacant) present)) in
                let apart_places : IsApart k (nodes_from place_rules third places_root) = subst (IsApart k) places_last.list (each_put (λ j. j ≡ k → ⊥) put_places apart differs) in
                let apart_sizes : IsApart k (nodes_from size_rules last sizes_root) = each_put (λ j. j ≡ k → ⊥) put_sizes (apart_sized first tree t k apart) differs in
                ls.others k apart_sizes ∙ lp.others k apart_places ∙ taken_beside took k present;
            fresh = each_put (λ at. Contains (placed first tree) at ⊎ (node_at first at ≡ None)) put_places
                (Each-weaker (Contains (placed first tree)) (λ at. Contains (placed first tree) at ⊎ (node_at first at ≡ None)) (λ k c. inl c) _ (each_itself (placed first tree))) (inr took.vacant);
            used = omega (arith, ls.used, lp.used, taken_used took, put_length);
            spare = omega (arith, ls.spare, lp.spare, ap (λ (p : Pool RunNode). p.spare) took.taken, put_length);
          }

-- how much a tree has
module _ {pool : Pool RunNode} {tree : Tree} (t : IsTree pool tree) where
  pub few_nodes : length (placed pool tree) ≤ 131073
  few_nodes = omega (arith, length_fits 0 131073 _ t.apart, length-map (placed pool tree) (seg_at pool))

  pub few_units : tree.units ≤ 131073
  few_units = omega (arith, sum_fits 0 131073 _ t.apart, t.units)

  -- as many of each length as runs, which are no more than nodes
  pub few_alike : (bit : ℕ) → bit < 18 → get_or tree.lengths bit 0 ≤ 131073
  few_alike bit below = omega (arith, t.lengths bit below, count_by-le (is_long_as bit) (runs_of pool tree), few_nodes, length-map (placed pool tree) (seg_at pool))
    where
      count_by-le : (p : Seg → Bool) (xs : List Seg) → count_by p xs ≤ length xs
      count_by-le p [] = omega arith
      count_by-le p (x ∷ xs) = omega (arith, sum_by-cons (λ y. cond (p y) 1 0) x xs, one (p x), count_by-le p xs)
        where
          one : (b : Bool) → cond b 1 0 ≤ 1
          one true = omega arith
          one false = omega arith

-- the count of one length changes with a run of that length
pub raised : (lengths : List ℕ) (bit at n : ℕ) (run : Seg) → at < length lengths → 2 ^ at ≤ run.count → run.count < 2 ^ (at + 1) → n ≡ get_or lengths at 0 + 1 → get_or (set lengths at n) bit 0 ≡ get_or lengths bit 0 + cond (is_long_as bit run) 1 0
raised lengths bit at n run within low high e =
    elim (cases_eq bit at) [
      | inl same ↦
          let yes : is_long_as at run ≡ true = grind (arith, nat_tests) in
          let read : get_or (set lengths at n) at 0 ≡ n = get_or-set_same lengths at n 0 within in
          let one : cond (is_long_as at run) 1 0 ≡ (let k : ℕ = 1 in k) = ap (λ b. cond b (let k : ℕ = 1 in k) 0) yes in
          subst (λ q. get_or (set lengths at n) q 0 ≡ get_or lengths q 0 + cond (is_long_as q run) 1 0) (sym same) (omega (arith, read, one))
      | inr differs ↦
          let no_one : is_long_as bit run ≡ false = not_true (is_long_as bit run) (λ t. differs (other_bit t)) in
          let zero_more : cond (is_long_as bit run) 1 0 ≡ (let k : ℕ = 0 in k) = ap (λ b. cond b (let k : ℕ = 1 in k) 0) no_one in
          omega (arith, get_or-set_other lengths at bit n 0 differs, zero_more)
    ]
  where
    not_true : (b : Bool) → (b ≡ true → ⊥) → b ≡ false
    not_true true f = absurd (f refl)
    not_true false f = refl

    other_bit : is_long_as bit run ≡ true → bit ≡ at
    other_bit t =
        let both = true_and (leb (2 ^ bit) run.count) (ltb run.count (2 ^ (bit + 1))) t in
        one_bucket bit at run.count (record { least = leb-true _ _ both.0; most = ltb-true _ _ both.1 }) (record { least = low; most = high })
