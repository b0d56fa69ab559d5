-- The two descents of a search from a place on.
use Rattle.std.proofs.Common.{◌≡◌, ℕ, ◌+◌, ◌-◌, ◌<◌, ◌≤◌, ◌⊎◌, inl, inr, Option, Some, None, List, [], ◌∷◌, ◌++◌, refl, sym, ap, subst, ◌∙◌, append_assoc, append-nil, arith, Contains}
use Rattle.std.proofs.lemmas.Bool.{cases_lt, false≢true}
use Rattle.zms_units.specs.declared.segments.Seg.{Seg}
use Rattle.zms_units.specs.Runs.{IsFirstFrom, NoneFrom}
use Rattle.seg_pool.specs.declared.NodeNo.{NodeNo}
use Rattle.seg_pool.specs.Pool.{Pool, node_at}
use Rattle.seg_order.specs.declared.links.Side.TheVariants.{Left}
use Rattle.seg_order.specs.Lists.{Each}
use Rattle.seg_order.specs.Sides.{IsBefore}
use Rattle.seg_order.specs.Trees.{nodes_from, stored_height, greatest_of, links_at, IsOver, IsSorted}
use Rattle.seg_order.proofs.Apart.{Each-weaker, Each-both, Each-in, Each-append, Each-front, Each-back}
use Rattle.seg_order.proofs.Standing.{Opened, none_empty, greatest-append}
use Rattle.seg_order.proofs.Sorting.{sorted_parts}
use Rattle.seg_order.proofs.Moving.{near_over, far_over, opened_sorted}
use Rattle.range_tree.specs.declared.node.RunNode.{RunNode}
use Rattle.range_tree.specs.declared.tree.Tree.{Tree}
use Rattle.range_tree.specs.Nodes.{place_rules, place_lawful}
use Rattle.range_tree.specs.Kept.{seg_at, placed, units_of, IsTree}
use Rattle.range_tree.specs.Sought.{right_of, IsPoint, Points, PointsFrom, IsFirstLong}
use Rattle.range_tree.proofs.Putting.{place_ends, each_itself, contains_it}
use Rattle.range_tree.proofs.Finding.{listed_maximal, maximal_listed}
use Rattle.range_tree.proofs.Choosing.{greatest_bounds, span_is}

module _ {pool : Pool RunNode} {tree : Tree} (t : IsTree pool tree) where
  -- of two listed runs the one that ends first starts first
  starts_follow : (j k : ℕ) → Contains (placed pool tree) j → Contains (placed pool tree) k → IsBefore place_rules pool j k → (seg_at pool j).start ≤ (seg_at pool k).start
  starts_follow j k c d before =
      let ends = place_ends (node_at pool j) (node_at pool k) before in
      let m = listed_maximal t j c in
      let n = listed_maximal t k d in
      elim (cases_lt (seg_at pool k).start (seg_at pool j).start) [
        | inl lower ↦ absurd (false≢true (sym (m.before ((seg_at pool j).start - 1) (omega (arith, lower))) ∙ n.inside ((seg_at pool j).start - 1) (omega (arith, lower), omega (arith, lower, ends))))
        | inr ok ↦ ok
      ]

  -- so far down: what lies before the subtree starts before the place, and what lies behind it at the place or later
  pub record Walks (count from : ℕ) (below found : Option NodeNo) (visits : ℕ) : Type 0 where
    pub over : IsOver place_rules pool below
    pub before : List ℕ
    pub behind : List ℕ
    pub split : placed pool tree ≡ before ++ (nodes_from place_rules pool below ++ behind)
    pub passed : Each (λ one. (seg_at pool one).start < from) before
    pub begun : Each (λ one. from ≤ (seg_at pool one).start) behind
    pub points : Points pool count behind found
    pub counted : visits + stored_height place_rules pool below ≤ stored_height place_rules pool tree.places.root

  pub walk_starts : (count from : ℕ) → Walks count from tree.places.root None 0
  walk_starts count from =
      record { over = t.places; before = []; behind = []; split = sym (append-nil _); passed = tt; begun = tt; points = tt; counted = omega arith }

  pub walk_ends : {count from : ℕ} {below found : Option NodeNo} {visits : ℕ} → Walks count from below found visits → below ≡ None → PointsFrom pool count from (placed pool tree) found
  walk_ends {count} {from} {below} {found} w none =
      let empty : nodes_from place_rules pool below ≡ [] = ap (nodes_from place_rules pool) none ∙ none_empty place_rules pool in
      record { before = w.before; behind = w.behind; split = w.split ∙ ap (λ q. w.before ++ (q ++ w.behind)) empty; passed = w.passed; begun = w.begun; points = w.points }

  module _ {count from : ℕ} {at : NodeNo} {found near far : Option NodeNo} {visits : ℕ} (w : Walks count from (Some at) found visits) (o : Opened place_rules pool Left at near far) where
    listed : Each (Contains (placed pool tree)) (nodes_from place_rules pool near ++ at.0 ∷ nodes_from place_rules pool far)
    listed =
        let all = subst (Each (Contains (placed pool tree))) w.split (each_itself (placed pool tree)) in
        subst (Each (Contains (placed pool tree))) o.list (Each-front (Contains (placed pool tree)) _ w.behind (Each-back (Contains (placed pool tree)) w.before _ all))

    listed_at : Contains (placed pool tree) at.0
    listed_at = (Each-back (Contains (placed pool tree)) (nodes_from place_rules pool near) (at.0 ∷ nodes_from place_rules pool far) listed).0

    near_starts : (seg_at pool at.0).start < from → Each (λ one. (seg_at pool one).start < from) (nodes_from place_rules pool near)
    near_starts l =
        Each-both (Contains (placed pool tree)) (λ j. IsBefore place_rules pool j at.0) (λ one. (seg_at pool one).start < from)
        (λ j c b. omega (arith, l, starts_follow j at.0 c listed_at b)) _ (Each-front (Contains (placed pool tree)) (nodes_from place_rules pool near) (at.0 ∷ nodes_from place_rules pool far) listed) (opened_sorted place_rules place_lawful w.over o).near_comes

    far_starts : from ≤ (seg_at pool at.0).start → Each (λ one. from ≤ (seg_at pool one).start) (nodes_from place_rules pool far)
    far_starts l =
        Each-both (Contains (placed pool tree)) (λ j. IsBefore place_rules pool at.0 j) (λ one. from ≤ (seg_at pool one).start)
        (λ j c b. omega (arith, l, starts_follow at.0 j listed_at c b)) _ (Each-back (Contains (placed pool tree)) (nodes_from place_rules pool near) (at.0 ∷ nodes_from place_rules pool far) listed).1 (opened_sorted place_rules place_lawful w.over o).far_comes

    pub walk_right : (seg_at pool at.0).start < from → Walks count from far found (visits + 1)
    walk_right l =
        record {
          over = far_over place_rules place_lawful w.over o;
          before = w.before ++ (nodes_from place_rules pool near ++ at.0 ∷ []);
          behind = w.behind;
          split = w.split ∙ ap (λ q. w.before ++ (q ++ w.behind)) o.list ∙ shift w.before _ _ w.behind;
          passed = Each-append (λ one. (seg_at pool one).start < from) w.before _ w.passed (Each-append (λ one. (seg_at pool one).start < from) _ (at.0 ∷ []) (near_starts l) (l, tt));
          begun = w.begun;
          points = w.points;
          counted = omega (arith, w.counted, o.height);
        }
      where
        shift : (front l r back : List ℕ) → front ++ ((l ++ at.0 ∷ r) ++ back) ≡ (front ++ (l ++ at.0 ∷ [])) ++ (r ++ back)
        shift front l r back = simp append_assoc

    left_split : placed pool tree ≡ w.before ++ (nodes_from place_rules pool near ++ at.0 ∷ (nodes_from place_rules pool far ++ w.behind))
    left_split = w.split ∙ ap (λ q. w.before ++ (q ++ w.behind)) o.list ∙ ap (λ q. w.before ++ q) (append_assoc (nodes_from place_rules pool near) (at.0 ∷ nodes_from place_rules pool far) w.behind)

    left_begun : from ≤ (seg_at pool at.0).start → Each (λ one. from ≤ (seg_at pool one).start) (at.0 ∷ (nodes_from place_rules pool far ++ w.behind))
    left_begun l = (l, Each-append (λ one. from ≤ (seg_at pool one).start) _ w.behind (far_starts l) w.begun)

    -- on the left, with this node to turn at
    pub walk_left_here : far ≡ (links_at place_rules pool at.0).right → from ≤ (seg_at pool at.0).start → (count ≤ (seg_at pool at.0).count) ⊎ (count ≤ greatest_of place_rules pool (nodes_from place_rules pool far)) → Walks count from near (Some at) (visits + 1)
    walk_left_here is l long =
        record {
          over = near_over place_rules place_lawful w.over o;
          before = w.before;
          behind = at.0 ∷ (nodes_from place_rules pool far ++ w.behind);
          split = left_split;
          passed = w.passed;
          begun = left_begun l;
          points = record {
            front = [];
            back = w.behind;
            split = ap (λ q. at.0 ∷ (nodes_from place_rules pool q ++ w.behind)) is;
            short = tt;
            over = subst (IsOver place_rules pool) is (far_over place_rules place_lawful w.over o);
            long = subst (λ q. (count ≤ (seg_at pool at.0).count) ⊎ (count ≤ greatest_of place_rules pool (nodes_from place_rules pool q))) is long;
          };
          counted = omega (arith, w.counted, o.height);
        }

    points_later : (skip : List ℕ) (rest : Option NodeNo) → Each (λ one. (seg_at pool one).count < count) skip → Points pool count w.behind rest → Points pool count (skip ++ w.behind) rest
    points_later skip None h p = Each-append (λ one. (seg_at pool one).count < count) skip w.behind h p
    points_later skip (Some turn) h p =
        record {
          front = skip ++ p.front;
          back = p.back;
          split = ap (λ q. skip ++ q) p.split ∙ sym (append_assoc skip p.front (turn.0 ∷ (right_of pool turn.0 ++ p.back)));
          short = Each-append (λ one. (seg_at pool one).count < count) skip p.front h p.short;
          over = p.over;
          long = p.long;
        }

    -- on the left, where neither this node nor what is on its right is long
    pub walk_left : from ≤ (seg_at pool at.0).start → (seg_at pool at.0).count < count → greatest_of place_rules pool (nodes_from place_rules pool far) < count → Walks count from near found (visits + 1)
    walk_left l here right =
        record {
          over = near_over place_rules place_lawful w.over o;
          before = w.before;
          behind = at.0 ∷ (nodes_from place_rules pool far ++ w.behind);
          split = left_split;
          passed = w.passed;
          begun = left_begun l;
          points = points_later (at.0 ∷ nodes_from place_rules pool far) found (here, Each-weaker (λ k. (seg_at pool k).count ≤ greatest_of place_rules pool (nodes_from place_rules pool far)) (λ one. (seg_at pool one).count < count) (λ k le. omega (arith, le, right)) _ (greatest_bounds pool (nodes_from place_rules pool far))) w.points;
          counted = omega (arith, w.counted, o.height);
        }

  -- the lowest long run from a place on, among the runs from there on
  module _ {count from : ℕ} {found : Option NodeNo} (p : PointsFrom pool count from (placed pool tree) found) where
    pub none_sought : Each (λ one. (seg_at pool one).count < count) p.behind → NoneFrom (units_of pool tree) 131072 count from
    none_sought short other o =
        let w = maximal_listed t other o.maximal in
        let both = Each-append (λ k. ((seg_at pool k).start < from) ⊎ ((seg_at pool k).count < count)) p.before p.behind
        (Each-weaker (λ one. (seg_at pool one).start < from) (λ k. ((seg_at pool k).start < from) ⊎ ((seg_at pool k).count < count)) (λ k l. inl l) _ p.passed)
        (Each-weaker (λ one. (seg_at pool one).count < count) (λ k. ((seg_at pool k).start < from) ⊎ ((seg_at pool k).count < count)) (λ k l. inr l) _ short) in
        elim (Each-in (λ k. ((seg_at pool k).start < from) ⊎ ((seg_at pool k).count < count)) (placed pool tree) w.0 (subst (Each (λ k. ((seg_at pool k).start < from) ⊎ ((seg_at pool k).count < count))) (sym p.split) both) w.1) [
          | inl low ↦ omega (arith, low, w.2, o.from)
          | inr less ↦ omega (arith, less, w.3, o.long)
        ]

    module _ {at : ℕ} (q : IsPoint pool count p.behind at) where
      whole : placed pool tree ≡ (p.before ++ q.front) ++ at ∷ (right_of pool at ++ q.back)
      whole = p.split ∙ ap (λ r. p.before ++ r) q.split ∙ sym (append_assoc p.before q.front (at ∷ (right_of pool at ++ q.back)))

      pub point_listed : Contains (placed pool tree) at
      point_listed = contains_it (record { front = p.before ++ q.front; back = right_of pool at ++ q.back; without = refl; with_it = whole })

      -- each run before a listed one that is long is too low or too short
      pub first_sought : (front back : List ℕ) (k : ℕ) → placed pool tree ≡ (p.before ++ front) ++ k ∷ back → Each (λ one. (seg_at pool one).count < count) front → from ≤ (seg_at pool k).start → count ≤ (seg_at pool k).count → IsFirstFrom (units_of pool tree) 131072 count from (seg_at pool k)
      first_sought front back k split short begun long =
          let listed : Contains (placed pool tree) k = contains_it (record { front = p.before ++ front; back = back; without = refl; with_it = split }) in
          let sorted = sorted_parts place_rules place_lawful pool Left (p.before ++ front) k back (subst (IsSorted place_rules pool) split t.places.sorted) in
          let all = subst (Each (Contains (placed pool tree))) split (each_itself (placed pool tree)) in
          let behind = Each-both (Contains (placed pool tree)) (λ j. IsBefore place_rules pool k j) (λ j. (seg_at pool k).start ≤ (seg_at pool j).start)
          (λ j c b. starts_follow k j listed c b) back (Each-back (Contains (placed pool tree)) (p.before ++ front) (k ∷ back) all).1 sorted.far_comes in
          let each = subst (Each (λ j. ((seg_at pool j).start < from) ⊎ (((seg_at pool j).count < count) ⊎ ((seg_at pool k).start ≤ (seg_at pool j).start)))) (sym split)
          (Each-append (λ j. ((seg_at pool j).start < from) ⊎ (((seg_at pool j).count < count) ⊎ ((seg_at pool k).start ≤ (seg_at pool j).start))) (p.before ++ front) (k ∷ back)
          (Each-append (λ j. ((seg_at pool j).start < from) ⊎ (((seg_at pool j).count < count) ⊎ ((seg_at pool k).start ≤ (seg_at pool j).start))) p.before front
          (Each-weaker (λ one. (seg_at pool one).start < from) (λ j. ((seg_at pool j).start < from) ⊎ (((seg_at pool j).count < count) ⊎ ((seg_at pool k).start ≤ (seg_at pool j).start))) (λ j l. inl l) _ p.passed)
          (Each-weaker (λ one. (seg_at pool one).count < count) (λ j. ((seg_at pool j).start < from) ⊎ (((seg_at pool j).count < count) ⊎ ((seg_at pool k).start ≤ (seg_at pool j).start))) (λ j l. inr (inl l)) _ short))
          (inr (inr (omega arith)), Each-weaker (λ j. (seg_at pool k).start ≤ (seg_at pool j).start) (λ j. ((seg_at pool j).start < from) ⊎ (((seg_at pool j).count < count) ⊎ ((seg_at pool k).start ≤ (seg_at pool j).start))) (λ j l. inr (inr l)) _ behind)) in
          record {
            is_long = record { maximal = listed_maximal t k listed; long = long; from = begun };
            lowest = λ other o. let w = maximal_listed t other o.maximal in elim (Each-in (λ j. ((seg_at pool j).start < from) ⊎ (((seg_at pool j).count < count) ⊎ ((seg_at pool k).start ≤ (seg_at pool j).start))) (placed pool tree) w.0 each w.1) [
              | inl low ↦ absurd (omega (arith, low, w.2, o.from))
              | inr rest ↦ elim rest [ inl less ↦ absurd (omega (arith, less, w.3, o.long)) | inr later ↦ omega (arith, later, w.2) ]
            ];
          }

      begun_there : Each (λ one. from ≤ (seg_at pool one).start) (at ∷ (right_of pool at ++ q.back))
      begun_there = Each-back (λ one. from ≤ (seg_at pool one).start) q.front _ (subst (Each (λ one. from ≤ (seg_at pool one).start)) q.split p.begun)

      pub point_itself : count ≤ (seg_at pool at).count → IsFirstFrom (units_of pool tree) 131072 count from (seg_at pool at)
      point_itself long = first_sought q.front (right_of pool at ++ q.back) at whole q.short begun_there.0 long

      pub point_right : (run : Seg) → (seg_at pool at).count < count → IsFirstLong pool count (right_of pool at) run → IsFirstFrom (units_of pool tree) 131072 count from run
      point_right run short f =
          let right = Each-front (λ one. from ≤ (seg_at pool one).start) (right_of pool at) q.back begun_there.1 in
          let there = (Each-back (λ one. from ≤ (seg_at pool one).start) f.front (f.at ∷ f.back) (subst (Each (λ one. from ≤ (seg_at pool one).start)) f.split right)).0 in
          subst (IsFirstFrom (units_of pool tree) 131072 count from) f.is
          (first_sought (q.front ++ at ∷ f.front) (f.back ++ q.back) f.at (whole ∙ ap (λ r. (p.before ++ q.front) ++ at ∷ (r ++ q.back)) f.split ∙ regroup p.before q.front at f.front f.at f.back q.back)
          (Each-append (λ one. (seg_at pool one).count < count) q.front (at ∷ f.front) q.short (short, f.short)) there f.long)
        where
          regroup : (a b : List ℕ) (x : ℕ) (c : List ℕ) (y : ℕ) (d e : List ℕ) → (a ++ b) ++ x ∷ ((c ++ y ∷ d) ++ e) ≡ (a ++ (b ++ x ∷ c)) ++ y ∷ (d ++ e)
          regroup a b x c y d e = simp append_assoc

-- down to the first long run of a subtree that has one
module _ (pool : Pool RunNode) where
  pub record Steers (count : ℕ) (root at : NodeNo) (visits : ℕ) : Type 0 where
    pub over : IsOver place_rules pool (Some at)
    pub front : List ℕ
    pub back : List ℕ
    pub split : nodes_from place_rules pool (Some root) ≡ front ++ (nodes_from place_rules pool (Some at) ++ back)
    pub short : Each (λ one. (seg_at pool one).count < count) front
    pub long : count ≤ greatest_of place_rules pool (nodes_from place_rules pool (Some at))
    pub counted : visits + stored_height place_rules pool (Some at) ≤ stored_height place_rules pool (Some root) + 1

  pub steer_starts : (count : ℕ) (root : NodeNo) → IsOver place_rules pool (Some root) → count ≤ greatest_of place_rules pool (nodes_from place_rules pool (Some root)) → Steers count root root 1
  steer_starts count root v long =
      record { over = v; front = []; back = []; split = sym (append-nil _); short = tt; long = long; counted = omega arith }

  all_short : (count : ℕ) (xs : List ℕ) → greatest_of place_rules pool xs < count → Each (λ one. (seg_at pool one).count < count) xs
  all_short count xs l = Each-weaker (λ k. (seg_at pool k).count ≤ greatest_of place_rules pool xs) (λ one. (seg_at pool one).count < count) (λ k le. omega (arith, le, l)) xs (greatest_bounds pool xs)

  module _ {count : ℕ} {root at : NodeNo} {visits : ℕ} (w : Steers count root at visits) where
    pub steer_left : {next : NodeNo} {far : Option NodeNo} → Opened place_rules pool Left at (Some next) far → count ≤ greatest_of place_rules pool (nodes_from place_rules pool (Some next)) → Steers count root next (visits + 1)
    steer_left {next} {far} o long =
        record {
          over = near_over place_rules place_lawful w.over o;
          front = w.front;
          back = at.0 ∷ (nodes_from place_rules pool far ++ w.back);
          split = w.split ∙ ap (λ q. w.front ++ (q ++ w.back)) o.list ∙ ap (λ q. w.front ++ q) (append_assoc (nodes_from place_rules pool (Some next)) (at.0 ∷ nodes_from place_rules pool far) w.back);
          short = w.short;
          long = long;
          counted = omega (arith, w.counted, o.height);
        }

    pub steer_here : {near far : Option NodeNo} → Opened place_rules pool Left at near far → greatest_of place_rules pool (nodes_from place_rules pool near) < count → count ≤ (seg_at pool at.0).count → IsFirstLong pool count (nodes_from place_rules pool (Some root)) (seg_at pool at.0)
    steer_here {near} {far} o left here =
        record {
          at = at.0;
          front = w.front ++ nodes_from place_rules pool near;
          back = nodes_from place_rules pool far ++ w.back;
          split = w.split ∙ ap (λ q. w.front ++ (q ++ w.back)) o.list ∙ shift w.front _ at.0 _ w.back;
          short = Each-append (λ one. (seg_at pool one).count < count) w.front _ w.short (all_short count _ left);
          long = here;
          is = refl;
        }
      where
        shift : (a b : List ℕ) (x : ℕ) (c d : List ℕ) → a ++ ((b ++ x ∷ c) ++ d) ≡ (a ++ b) ++ x ∷ (c ++ d)
        shift a b x c d = simp append_assoc

    right_long : {near far : Option NodeNo} → Opened place_rules pool Left at near far → greatest_of place_rules pool (nodes_from place_rules pool near) < count → (seg_at pool at.0).count < count → count ≤ greatest_of place_rules pool (nodes_from place_rules pool far)
    right_long {near} {far} o left here =
        omega (arith, w.long, ap (greatest_of place_rules pool) o.list, greatest-append place_rules pool (nodes_from place_rules pool near) (at.0 ∷ nodes_from place_rules pool far), span_is pool at.0, left, here)

    pub steer_right : {next : NodeNo} {near : Option NodeNo} → Opened place_rules pool Left at near (Some next) → greatest_of place_rules pool (nodes_from place_rules pool near) < count → (seg_at pool at.0).count < count → Steers count root next (visits + 1)
    steer_right {next} {near} o left here =
        record {
          over = far_over place_rules place_lawful w.over o;
          front = w.front ++ (nodes_from place_rules pool near ++ at.0 ∷ []);
          back = w.back;
          split = w.split ∙ ap (λ q. w.front ++ (q ++ w.back)) o.list ∙ shift w.front _ at.0 _ w.back;
          short = Each-append (λ one. (seg_at pool one).count < count) w.front _ w.short (Each-append (λ one. (seg_at pool one).count < count) _ (at.0 ∷ []) (all_short count _ left) (here, tt));
          long = right_long o left here;
          counted = omega (arith, w.counted, o.height);
        }
      where
        shift : (a b : List ℕ) (x : ℕ) (c d : List ℕ) → a ++ ((b ++ x ∷ c) ++ d) ≡ (a ++ (b ++ x ∷ [])) ++ (c ++ d)
        shift a b x c d = simp append_assoc

    -- there is somewhere to go
    pub steer_left_none : {near : Option NodeNo} → near ≡ None → count ≤ greatest_of place_rules pool (nodes_from place_rules pool near) → 0 < count → ⊥
    steer_left_none {near} none long some = omega (arith, long, some, ap (λ q. greatest_of place_rules pool (nodes_from place_rules pool q)) none, ap (greatest_of place_rules pool) (none_empty place_rules pool))

    pub steer_right_none : {near far : Option NodeNo} → Opened place_rules pool Left at near far → far ≡ None → greatest_of place_rules pool (nodes_from place_rules pool near) < count → (seg_at pool at.0).count < count → ⊥
    steer_right_none {near} {far} o none left here =
        omega (arith, right_long o left here, left, ap (λ q. greatest_of place_rules pool (nodes_from place_rules pool q)) none, ap (greatest_of place_rules pool) (none_empty place_rules pool))
