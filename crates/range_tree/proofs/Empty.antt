-- A tree without runs, and thirteen of them.
use Rattle.std.proofs.Common.{◌≡◌, ℕ, zero, suc, ◌<◌, false, None, Some, Option, List, [], ◌∷◌, length, get_or, replicate, map, refl, sym, ap, subst, ◌∙◌, arith, Contains, inl, inr}
use Rattle.std.proofs.lemmas.Bool.{cases_lt}
use Rattle.std.proofs.lemmas.List.{get_or-map, get_or_past, length-map}
use Rattle.std.proofs.lemmas.List.Elements.{Contains-append_right}
use Rattle.std.proofs.lemmas.List.Sums.{sum_by-cons}
use Rattle.zms_units.specs.Segments.{covered}
use Rattle.seg_trees.specs.Kept.{sets_of}
use Rattle.seg_pool.specs.Pool.{used}
use Rattle.seg_order.specs.Lists.{AreApart}
use Rattle.seg_order.specs.declared.links.Side.TheVariants.{Left}
use Rattle.seg_order.specs.Trees.{StandsFrom}
use Rattle.seg_order.proofs.Standing.{opens}
use Rattle.range_tree.specs.Thirteen.{AreTrees}
use Rattle.seg_pool.specs.declared.NodeNo.{NodeNo}
use Rattle.seg_pool.specs.Pool.{Pool}
use Rattle.zms_units.specs.declared.segments.Seg.{Seg}
use Rattle.zms_units.specs.Apart.{AreApartFrom}
use Rattle.std.specs.List.{sum_by, count_by}
use Rattle.seg_order.specs.Rules.{Rules}
use Rattle.seg_order.specs.Lists.{Each}
use Rattle.seg_order.specs.Trees.{IsSorted, IsOver, nodes_from}
use Rattle.seg_order.proofs.Standing.{none_stands, none_empty}
use Rattle.range_tree.specs.declared.node.RunNode.{RunNode}
use Rattle.range_tree.specs.declared.tree.Tree.{Tree}
use Rattle.range_tree.specs.Nodes.{place_rules, size_rules}
use Rattle.range_tree.specs.Kept.{seg_at, placed, sized, runs_of, units_of, is_long_as, IsTree}

pub no_list : (rules : Rules RunNode) (pool : Pool RunNode) (root : Option NodeNo) → root ≡ None → nodes_from rules pool root ≡ []
no_list rules pool root e = ap (nodes_from rules pool) e ∙ none_empty rules pool

no_over : (rules : Rules RunNode) (pool : Pool RunNode) (root : Option NodeNo) → root ≡ None → IsOver rules pool root
no_over rules pool root e =
    subst (IsOver rules pool) (sym e) (record { stands = none_stands rules pool; sorted = subst (IsSorted rules pool) (sym (none_empty rules pool)) tt })

pub empty_placed : (pool : Pool RunNode) (tree : Tree) → tree.places.root ≡ None → placed pool tree ≡ []
empty_placed pool tree e = no_list place_rules pool tree.places.root e

none_get : (n k : ℕ) → get_or (replicate n (let z : ℕ = 0 in z)) k 0 ≡ (let z : ℕ = 0 in z)
none_get zero k = refl
none_get (suc n) zero = refl
none_get (suc n) (suc k) = none_get n k

pub empty_tree : (pool : Pool RunNode) (tree : Tree) → tree.places.root ≡ None → tree.sizes.root ≡ None → tree.nodes ≡ (let z : ℕ = 0 in z) → tree.units ≡ (let z : ℕ = 0 in z) → tree.lengths ≡ replicate 18 (let z : ℕ = 0 in z) → IsTree pool tree
empty_tree pool tree p s nodes units lengths =
    let list = no_list place_rules pool tree.places.root p in
    let other = no_list size_rules pool tree.sizes.root s in
    let runs : runs_of pool tree ≡ [] = ap (map (seg_at pool)) list in
    record {
      places = no_over place_rules pool tree.places.root p;
      sizes = no_over size_rules pool tree.sizes.root s;
      all_sized = subst (Each (λ at. Contains (sized pool tree) at)) (sym list) tt;
      all_placed = subst (Each (λ at. Contains (placed pool tree) at)) (sym other) tt;
      as_many = ap length other ∙ sym (ap length list);
      apart = subst (AreApartFrom 0 131073) (sym runs) (omega arith);
      nodes = nodes ∙ sym (ap length list);
      units = units ∙ sym (ap (sum_by (λ (r : Seg). r.count)) runs);
      bits = ap length lengths;
      lengths = λ bit below. ap (λ q. get_or q bit 0) lengths ∙ none_get 18 bit ∙ sym (ap (count_by (is_long_as bit)) runs);
    }

-- the node on top of a tree is one of its own, and a tree without nodes has no unit
pub top_listed : (pool : Pool RunNode) (tree : Tree) (at : NodeNo) → IsTree pool tree → tree.places.root ≡ Some at → Contains (placed pool tree) at.0
top_listed pool tree at t e =
    let o = opens place_rules pool Left at _ _ (subst (StandsFrom place_rules pool) e t.places.stands) refl refl in
    subst (λ q. Contains q at.0) (sym (ap (nodes_from place_rules pool) e ∙ o.list)) (Contains-append_right _ (at.0 ∷ _) at.0 (0, omega arith, refl))

pub no_units : (pool : Pool RunNode) (tree : Tree) (u : ℕ) → length (placed pool tree) ≡ (let z : ℕ = 0 in z) → units_of pool tree u ≡ false
no_units pool tree u e = ap (λ q. covered (map (seg_at pool) q) u) (none_of (placed pool tree) e)
  where
    none_of : (xs : List ℕ) → length xs ≡ (let z : ℕ = 0 in z) → xs ≡ []
    none_of [] e = refl
    none_of (x ∷ xs) e = absurd (omega (arith, e))

module _ (pool : Pool RunNode) (trees : List Tree) (none : (i : ℕ) (d : Tree) → i < length trees → placed pool (get_or trees i d) ≡ []) where
  pub empty_trees : length trees ≡ 13 → ((i : ℕ) (d : Tree) → i < length trees → IsTree pool (get_or trees i d)) → used pool ≡ (let z : ℕ = 0 in z) → AreTrees pool trees
  empty_trees thirteen each unused =
      record {
        thirteen = thirteen;
        each = each;
        apart = λ i k d l m differs. subst (λ q. AreApart q (placed pool (get_or trees k d))) (sym (none i d l)) tt;
        used_by = omega (arith, unused, no_sum trees none);
      }
    where
      no_sum : (ts : List Tree) → ((i : ℕ) (d : Tree) → i < length ts → placed pool (get_or ts i d) ≡ []) → sum_by (λ t. length (placed pool t)) ts ≡ (let z : ℕ = 0 in z)
      no_sum [] h = refl
      no_sum (t ∷ ts) h = omega (arith, sum_by-cons (λ q. length (placed pool q)) t ts, ap length (h 0 t (omega arith)), no_sum ts (λ i d l. h (suc i) d (omega arith)))

  pub empty_sets : (i u : ℕ) (d : Tree) → sets_of (map (runs_of pool) trees) i u ≡ false
  empty_sets i u d =
      elim (cases_lt i (length trees)) [
        | inl l ↦ ap (λ q. covered q u) (get_or-map (runs_of pool) trees i d [] l) ∙ no_units pool (get_or trees i d) u (ap length (none i d l))
        | inr past ↦ ap (λ q. covered q u) (get_or_past (map (runs_of pool) trees) i [] (omega (arith, past, length-map trees (runs_of pool))))
      ]
