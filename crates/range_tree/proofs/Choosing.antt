-- The shortest run that is long enough, and the longest.
use Rattle.std.proofs.Common.{◌≡◌, ℕ, suc, ◌<◌, ◌≤◌, ◌⊎◌, inl, inr, true, Option, Some, None, IsSome, List, [], ◌∷◌, refl, sym, ap, subst, ◌∙◌, arith, Contains, true≢false}
use Rattle.std.proofs.lemmas.Bool.{cases_lt, false≢true}
use Rattle.std.proofs.lemmas.Bool.Decides.{nat_tests}
use Rattle.zms_units.specs.declared.segments.Seg.{Seg}
use Rattle.zms_units.specs.Runs.{IsLongFrom, IsBest, NoneFrom, IsLargest}
use Rattle.seg_pool.specs.declared.NodeNo.{NodeNo}
use Rattle.seg_pool.specs.Pool.{Pool, node_at}
use Rattle.seg_order.specs.declared.links.Side.TheVariants.{Left}
use Rattle.seg_order.specs.Lists.{Each}
use Rattle.seg_order.specs.Sides.{comes_before, IsBefore}
use Rattle.seg_order.specs.Trees.{IsSorted, greatest_of, stored_greatest, span_at, span_of_node}
use Rattle.seg_order.specs.Looks.{IsFirstPassing}
use Rattle.seg_order.proofs.Apart.{Each-weaker, Each-in, Each-append}
use Rattle.seg_order.proofs.Sorting.{sorted_parts}
use Rattle.seg_order.proofs.Standing.{greatest_from}
use Rattle.seg_order.proofs.Heights.{all_used}
use Rattle.range_tree.specs.declared.node.RunNode.{RunNode}
use Rattle.range_tree.specs.declared.tree.Tree.{Tree}
use Rattle.range_tree.specs.Nodes.{place_rules, size_rules, size_lawful, is_smaller}
use Rattle.range_tree.specs.Kept.{seg_of, seg_at, placed, sized, units_of, IsTree}
use Rattle.range_tree.proofs.Putting.{contains_it}
use Rattle.range_tree.proofs.Finding.{listed_maximal, maximal_listed}

same_count : (s t : Seg) → is_smaller s t ≡ true → t.count ≤ s.count → s.count ≡ t.count
same_count s t e rest = grind (arith, nat_tests)

lower_start : (s t : Seg) → is_smaller s t ≡ true → t.count ≤ s.count → s.start < t.start
lower_start s t e rest = grind (arith, nat_tests)

shorter_is_smaller : (s t : Seg) → s.count < t.count → is_smaller s t ≡ true
shorter_is_smaller s t l = grind (arith, nat_tests)

smaller_means : (s t : Seg) → is_smaller s t ≡ true → (s.count < t.count) ⊎ ((s.count ≡ t.count) × (s.start < t.start))
smaller_means s t e =
    elim (cases_lt s.count t.count) [
      | inl less ↦ inl less
      | inr rest ↦ inr (same_count s t e rest, lower_start s t e rest)
    ]

size_means : (x y : Option RunNode) → comes_before size_rules x y ≡ true → ((seg_of x).count < (seg_of y).count) ⊎ (((seg_of x).count ≡ (seg_of y).count) × ((seg_of x).start < (seg_of y).start))
size_means None y e = absurd (true≢false (sym e))
size_means (Some x) None e = absurd (true≢false (sym e))
size_means (Some x) (Some y) e = smaller_means x.seg y.seg e

size_shorter : (x y : Option RunNode) → IsSome x → IsSome y → (seg_of x).count < (seg_of y).count → comes_before size_rules x y ≡ true
size_shorter None y p q l = absurd (true≢false (sym p))
size_shorter (Some x) None p q l = absurd (true≢false (sym q))
size_shorter (Some x) (Some y) p q l = shorter_is_smaller x.seg y.seg l

module _ {pool : Pool RunNode} {tree : Tree} (t : IsTree pool tree) (key : RunNode) (count : ℕ) (is : key.seg ≡ record { start = 0; count = count }) where
  too_short : (k : ℕ) → comes_before size_rules (node_at pool k) (Some key) ≡ true → (seg_at pool k).count < count
  too_short k e =
      let length_is = ap (λ (r : Seg). r.count) is in
      let start_is = ap (λ (r : Seg). r.start) is in
      elim (size_means (node_at pool k) (Some key) e) [ inl less ↦ omega (arith, less, length_is) | inr lower ↦ absurd (omega (arith, lower.1, start_is)) ]

  sized_listed : (other : Seg) → IsLongFrom (units_of pool tree) 131072 count 0 other → (k : ℕ) × Contains (sized pool tree) k × ((seg_at pool k).start ≡ other.start) × ((seg_at pool k).count ≡ other.count)
  sized_listed other o =
      let w = maximal_listed t other o.maximal in
      (w.0, Each-in (Contains (sized pool tree)) (placed pool tree) w.0 t.all_sized w.1, w.2, w.3)

  pub best_none : Each (λ one. comes_before size_rules (node_at pool one) (Some key) ≡ true) (sized pool tree) → NoneFrom (units_of pool tree) 131072 count 0
  best_none h other o =
      let w = sized_listed other o in
      omega (arith, too_short w.0 (Each-in (λ one. comes_before size_rules (node_at pool one) (Some key) ≡ true) (sized pool tree) w.0 h w.1), w.3, o.long)

  module _ (at : NodeNo) (f : IsFirstPassing (λ one. comes_before size_rules (node_at pool one) (Some key)) (sized pool tree) at.0) where
    pub listed : Contains (placed pool tree) at.0
    listed = Each-in (Contains (placed pool tree)) (sized pool tree) at.0 t.all_placed (contains_it (record { front = f.front; back = f.back; without = refl; with_it = f.split }))

    long : count ≤ (seg_at pool at.0).count
    long =
        elim (cases_lt (seg_at pool at.0).count count) [
          | inl short ↦ absurd (false≢true (sym f.passes ∙ size_shorter (node_at pool at.0) (Some key) (used_at at.0 listed) refl (omega (arith, short, ap (λ (r : Seg). r.count) is))))
          | inr ok ↦ ok
        ]
      where
        used_at : (k : ℕ) → Contains (placed pool tree) k → IsSome (node_at pool k)
        used_at k c = Each-in (λ q. IsSome (node_at pool q)) (placed pool tree) k (all_used place_rules pool tree.places.root t.places.stands) c

    -- how each run of the order by size compares
    compared : Each (λ k. ((seg_at pool k).count < count) ⊎ (((seg_at pool at.0).count < (seg_at pool k).count) ⊎ (((seg_at pool at.0).count ≡ (seg_at pool k).count) × ((seg_at pool at.0).start ≤ (seg_at pool k).start)))) (sized pool tree)
    compared =
        let sorted = sorted_parts size_rules size_lawful pool Left f.front at.0 f.back (subst (IsSorted size_rules pool) f.split t.sizes.sorted) in
        subst (Each (λ k. ((seg_at pool k).count < count) ⊎ (((seg_at pool at.0).count < (seg_at pool k).count) ⊎ (((seg_at pool at.0).count ≡ (seg_at pool k).count) × ((seg_at pool at.0).start ≤ (seg_at pool k).start))))) (sym f.split)
        (Each-append (λ k. ((seg_at pool k).count < count) ⊎ (((seg_at pool at.0).count < (seg_at pool k).count) ⊎ (((seg_at pool at.0).count ≡ (seg_at pool k).count) × ((seg_at pool at.0).start ≤ (seg_at pool k).start)))) f.front (at.0 ∷ f.back)
        (Each-weaker (λ one. comes_before size_rules (node_at pool one) (Some key) ≡ true) (λ k. ((seg_at pool k).count < count) ⊎ (((seg_at pool at.0).count < (seg_at pool k).count) ⊎ (((seg_at pool at.0).count ≡ (seg_at pool k).count) × ((seg_at pool at.0).start ≤ (seg_at pool k).start)))) (λ k e. inl (too_short k e)) f.front f.skipped)
        (inr (inr (refl, omega arith)), Each-weaker (λ k. IsBefore size_rules pool at.0 k) (λ k. ((seg_at pool k).count < count) ⊎ (((seg_at pool at.0).count < (seg_at pool k).count) ⊎ (((seg_at pool at.0).count ≡ (seg_at pool k).count) × ((seg_at pool at.0).start ≤ (seg_at pool k).start)))) after f.back sorted.far_comes))
      where
        after : (k : ℕ) → IsBefore size_rules pool at.0 k → ((seg_at pool k).count < count) ⊎ (((seg_at pool at.0).count < (seg_at pool k).count) ⊎ (((seg_at pool at.0).count ≡ (seg_at pool k).count) × ((seg_at pool at.0).start ≤ (seg_at pool k).start)))
        after k e = elim (size_means (node_at pool at.0) (node_at pool k) e) [ inl less ↦ inr (inl less) | inr lower ↦ inr (inr (lower.0, omega (arith, lower.1))) ]

    pub best_some : IsBest (units_of pool tree) 131072 count (seg_at pool at.0)
    best_some =
        record {
          is_long = record { maximal = listed_maximal t at.0 listed; long = long; from = omega arith };
          shortest = λ other o. let w = sized_listed other o in elim (against w.0 w.1) [
            | inl short ↦ absurd (omega (arith, short, w.3, o.long))
            | inr rest ↦ elim rest [ inl less ↦ omega (arith, less, w.3) | inr same ↦ omega (arith, same.0, w.3) ]
          ];
          lowest = λ other o e. let w = sized_listed other o in elim (against w.0 w.1) [
            | inl short ↦ absurd (omega (arith, short, w.3, o.long))
            | inr rest ↦ elim rest [ inl less ↦ absurd (omega (arith, less, w.3, e)) | inr same ↦ omega (arith, same.1, w.2) ]
          ];
        }
      where
        against : (k : ℕ) → Contains (sized pool tree) k → ((seg_at pool k).count < count) ⊎ (((seg_at pool at.0).count < (seg_at pool k).count) ⊎ (((seg_at pool at.0).count ≡ (seg_at pool k).count) × ((seg_at pool at.0).start ≤ (seg_at pool k).start)))
        against k c = Each-in (λ k. ((seg_at pool k).count < count) ⊎ (((seg_at pool at.0).count < (seg_at pool k).count) ⊎ (((seg_at pool at.0).count ≡ (seg_at pool k).count) × ((seg_at pool at.0).start ≤ (seg_at pool k).start)))) (sized pool tree) k compared c

-- the span of a run's node is its length
pub span_is : (pool : Pool RunNode) (k : ℕ) → span_at place_rules pool k ≡ (seg_at pool k).count
span_is pool k = by_node (node_at pool k)
  where
    by_node : (o : Option RunNode) → span_of_node place_rules o ≡ (seg_of o).count
    by_node None = refl
    by_node (Some node) = refl

-- the greatest of a list is no less than each, and is that of one of them
pub greatest_bounds : (pool : Pool RunNode) (xs : List ℕ) → Each (λ k. (seg_at pool k).count ≤ greatest_of place_rules pool xs) xs
greatest_bounds pool [] = tt
greatest_bounds pool (x ∷ xs) =
    (omega (arith, span_is pool x), Each-weaker (λ k. (seg_at pool k).count ≤ greatest_of place_rules pool xs) (λ k. (seg_at pool k).count ≤ greatest_of place_rules pool (x ∷ xs)) (λ k l. omega (arith, l)) xs (greatest_bounds pool xs))

pub greatest_met : (pool : Pool RunNode) (xs : List ℕ) → 0 < greatest_of place_rules pool xs → (k : ℕ) × Contains xs k × ((seg_at pool k).count ≡ greatest_of place_rules pool xs)
greatest_met pool [] l = absurd (omega arith)
greatest_met pool (x ∷ xs) l =
    elim (cases_lt (span_at place_rules pool x) (greatest_of place_rules pool xs)) [
      | inl below ↦ later (greatest_met pool xs (omega arith)) below
      | inr here ↦ (x, (0, omega arith, refl), omega (arith, span_is pool x))
    ]
  where
    later : (k : ℕ) × Contains xs k × ((seg_at pool k).count ≡ greatest_of place_rules pool xs) → span_at place_rules pool x < greatest_of place_rules pool xs → (k : ℕ) × Contains (x ∷ xs) k × ((seg_at pool k).count ≡ greatest_of place_rules pool (x ∷ xs))
    later w below = (w.0, (suc w.1.0, omega (arith, w.1.1), w.1.2), omega (arith, w.2, below))

pub largest_is : {pool : Pool RunNode} {tree : Tree} → IsTree pool tree → (n : ℕ) → n ≡ stored_greatest place_rules pool tree.places.root → IsLargest (units_of pool tree) 131072 n
largest_is {pool} {tree} t n e =
    let greatest : n ≡ greatest_of place_rules pool (placed pool tree) = e ∙ greatest_from place_rules pool tree.places.root t.places.stands in
    record {
      bounds = λ run m. let w = maximal_listed t run m in omega (arith, Each-in (λ k. (seg_at pool k).count ≤ greatest_of place_rules pool (placed pool tree)) (placed pool tree) w.0 (greatest_bounds pool (placed pool tree)) w.1, w.3, greatest);
      met = λ some. let w = greatest_met pool (placed pool tree) (omega (arith, some, greatest)) in (seg_at pool w.0, (listed_maximal t w.0 w.1, w.2 ∙ sym greatest));
    }
