-- How high a tree over a pool can be, and how a change of one side changes its height.
use Rattle.std.proofs.Common.{◌≡◌, ℕ, ◌+◌, ◌^◌, ◌<◌, ◌≤◌, ◌⊎◌, inl, inr, max, true, false, eqb, ◌||◌, Option, IsSome, List, [], ◌∷◌, length, sym, ap, subst, arith}
use Rattle.std.specs.List.{list_any, IsDistinct as IsDistinctBy, AllByRecursion}
use Rattle.std.proofs.lemmas.Bool.{cases_lt, cases_eq, ne_eqb, false≢true}
use Rattle.std.proofs.lemmas.List.{get_or_past}
use Rattle.std.proofs.lemmas.Map.Steps.{length-le_from_distinct_below}
use Rattle.seg_pool.specs.declared.NodeNo.{NodeNo}
use Rattle.seg_pool.specs.Pool.{Pool, node_at}
use Rattle.seg_order.specs.declared.links.Side.{Side}
use Rattle.seg_order.specs.Rules.{Rules}
use Rattle.seg_order.specs.Lists.{Each, IsApart, IsDistinct}
use Rattle.seg_order.specs.Trees.{Tree, Leaf, Fork, places, DifferByAtMost, stored_height, nodes_from, Stands, StandsFrom}
use Rattle.seg_order.specs.Changes.{Joins}
use Rattle.seg_order.proofs.Apart.{Each-append, Each-weaker}
use Rattle.seg_order.proofs.Standing.{tree_stands, nodes_are, height_from, few_levels}

distinct_by : (xs : List ℕ) → IsDistinct xs → IsDistinctBy eqb xs
unfolding IsDistinctBy
distinct_by [] d = tt
distinct_by (x ∷ xs) d = (differ xs d.0, distinct_by xs d.1)
  where
    differ : (ys : List ℕ) → IsApart x ys → AllByRecursion (λ y. eqb x y ≡ false) ys
    differ [] h = tt
    differ (y ∷ ys) h = (ne_eqb x y (λ e. h.0 (sym e)), differ ys h.1)

each_any : (P : ℕ → Type 0) (xs : List ℕ) (q : ℕ) → Each P xs → list_any (eqb q) xs ≡ true → P q
each_any P [] q h found = absurd (false≢true found)
each_any P (x ∷ xs) q h found =
    elim (cases_eq q x) [
      | inl same ↦ subst P (sym same) h.0
      | inr differs ↦ each_any P xs q h.1 (subst (λ b. (b || list_any (eqb q) xs) ≡ true) (ne_eqb q x differs) found)
    ]

-- so many different numbers below a bound are no more than it
pub few_below : (xs : List ℕ) (bound : ℕ) → IsDistinct xs → Each (λ k. k < bound) xs → length xs ≤ bound
few_below xs bound d h = length-le_from_distinct_below xs bound (distinct_by xs d) (λ q found. each_any (λ k. k < bound) xs q h found)

module _ {N : Type 0} (rules : Rules N) (pool : Pool N) where
  tree_used : (t : Tree) (root : Option NodeNo) → Stands rules pool t root → Each (λ k. IsSome (node_at pool k)) (places t)
  tree_used Leaf root s = tt
  tree_used (Fork left at right) root s =
      Each-append (λ k. IsSome (node_at pool k)) (places left) (at ∷ places right) (tree_used left _ s.1.goes_left) (s.1.in_use, tree_used right _ s.1.goes_right)

  -- each place of a list that a root stands for is in use
  pub all_used : (root : Option NodeNo) → StandsFrom rules pool root → Each (λ k. IsSome (node_at pool k)) (nodes_from rules pool root)
  all_used root s = subst (Each (λ k. IsSome (node_at pool k))) (sym (nodes_are rules pool root)) (tree_used _ root (tree_stands rules pool root s))

  within_pool : (k : ℕ) → IsSome (node_at pool k) → k < length pool.nodes
  within_pool k present = grind (arith, get_or_past)

  -- no tree over a pool is higher than fifty-one levels
  pub is_low : (root : Option NodeNo) → StandsFrom rules pool root → IsDistinct (nodes_from rules pool root) → length pool.nodes ≤ 2 ^ 24 → stored_height rules pool root ≤ 51
  is_low root s d small =
      let h = height_from rules pool root s in
      let few = few_below (nodes_from rules pool root) (length pool.nodes) d (Each-weaker (λ k. IsSome (node_at pool k)) (λ k. k < length pool.nodes) within_pool _ (all_used root s)) in
      let same = ap length (nodes_are rules pool root) in
      elim (cases_lt (stored_height rules pool root) 52) [
        | inl low ↦ omega arith
        | inr high ↦ absurd (omega (arith, few_levels rules pool 26 _ root (tree_stands rules pool root s) (omega arith)))
      ]

-- how high a join is
pub record Rise (near far root : ℕ) : Type 0 where
  pub no_lower : max near far ≤ root
  pub no_higher : root ≤ max near far + 1
  pub level : (root ≡ max near far + 1) ⊎ ((far + 2 ≤ near) ⊎ (near + 2 ≤ far))

pub rise : {N : Type 0} {rules : Rules N} {side : Side} {old new : Pool N} {near far : Option NodeNo} {at : ℕ} {root : Option NodeNo} → Joins rules side old new near far at root → Rise (stored_height rules old near) (stored_height rules old far) (stored_height rules new root)
rise {N} {rules} {side} {old} {new} {near} {far} j =
    record {
      no_lower = j.no_lower;
      no_higher = j.no_higher;
      level = elim (cases_lt (stored_height rules old far + 1) (stored_height rules old near)) [
        | inl high ↦ inr (inl (omega arith))
        | inr less ↦ elim (cases_lt (stored_height rules old near + 1) (stored_height rules old far)) [
          | inl high ↦ inr (inr (omega arith))
          | inr even ↦ inl (j.level (omega (arith, less, even)))
        ]
      ];
    }

pub flip_rise : {near far root : ℕ} → Rise near far root → Rise far near root
flip_rise {near} {far} {root} r =
    record {
      no_lower = omega (arith, r.no_lower);
      no_higher = omega (arith, r.no_higher);
      level = elim r.level [
        | inl level ↦ inl (omega arith)
        | inr tall ↦ elim tall [ inl one ↦ inr (inr one) | inr two ↦ inr (inl two) ]
      ];
    }

-- one side has grown by one level at most
pub grown : (near far before near_now after : ℕ) → Rise near_now far after → before ≡ max near far + 1 → DifferByAtMost 1 near far → near ≤ near_now → near_now ≤ near + 1 → (before ≤ after) × (after ≤ before + 1)
grown near far before near_now after r height balanced low high =
    elim r.level [
      | inl level ↦ omega (arith, r.no_lower, r.no_higher, balanced)
      | inr tall ↦ elim tall [
        | inl one ↦ omega (arith, r.no_lower, r.no_higher, balanced)
        | inr two ↦ omega (arith, r.no_lower, r.no_higher, balanced)
      ]
    ]

-- one side has shrunk by one level at most
pub shrunk : (near far before near_now after : ℕ) → Rise near_now far after → before ≡ max near far + 1 → DifferByAtMost 1 near far → near_now ≤ near → near ≤ near_now + 1 → (after ≤ before) × (before ≤ after + 1)
shrunk near far before near_now after r height balanced low high =
    elim r.level [
      | inl level ↦ omega (arith, r.no_lower, r.no_higher, balanced)
      | inr tall ↦ elim tall [
        | inl one ↦ omega (arith, r.no_lower, r.no_higher, balanced)
        | inr two ↦ omega (arith, r.no_lower, r.no_higher, balanced)
      ]
    ]
