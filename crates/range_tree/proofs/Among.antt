-- One of the trees changes, and the others stay.
use Rattle.std.proofs.Common.{◌≡◌, ◌≢◌, ℕ, zero, suc, ◌+◌, ◌<◌, ◌≤◌, ◌⊎◌, inl, inr, Option, Some, None, IsSome, List, [], ◌∷◌, length, get_or, set, map, length-set, add-zero, zero-add, refl, sym, ap, subst, ◌∙◌, arith, Contains, true≢false}
use Rattle.std.specs.List.{sum_by, count_by, range_with_len}
use Rattle.std.proofs.lemmas.Bool.{cases_eq, cases_lt}
use Rattle.std.proofs.lemmas.List.{get_or-set_same, get_or-set_other, get_or-map, get_or_past, length-map}
use Rattle.std.proofs.lemmas.List.Sums.{sum_by-cons}
use Rattle.zms_units.specs.declared.segments.Seg.{Seg}
use Rattle.zms_units.specs.Segments.{covered}
use Rattle.zms_units.specs.Apart.{AreApartFrom}
use Rattle.zms_units.specs.declared.histograms.Histogram.{Histogram}
use Rattle.zms_units.specs.Weights.{IsHistogramOf}
use Rattle.seg_trees.specs.Sets.{Sets, HoldsAll, OthersStay, nodes_of, size_of, all_nodes}
use Rattle.seg_trees.specs.Kept.{sets_of}
use Rattle.seg_trees.proofs.Sizes.{nodes_of-covered, size_of-covered}
use Rattle.seg_pool.specs.Pool.{Pool, node_at, used, SameNodes}
use Rattle.seg_order.specs.Lists.{Each, IsApart, AreApart}
use Rattle.seg_order.proofs.Apart.{Each-weaker, Each-both, Each-in, AreApart-sym}
use Rattle.seg_order.proofs.Heights.{all_used}
use Rattle.range_tree.specs.declared.node.RunNode.{RunNode}
use Rattle.range_tree.specs.declared.tree.Tree.{Tree}
use Rattle.range_tree.specs.Nodes.{place_rules, size_rules}
use Rattle.range_tree.specs.Kept.{seg_of, seg_at, placed, sized, runs_of, units_of, is_long_as, IsTree, Touches}
use Rattle.range_tree.specs.Thirteen.{AreTrees}
use Rattle.range_tree.specs.Found.{Holds}
use Rattle.range_tree.proofs.Finding.{held_all}
use Rattle.std.specs.Prelude.{IfSome, IfNone}
use Rattle.seg_pool.specs.declared.NodeNo.{NodeNo}
use Rattle.range_tree.proofs.Orders.{over_beside, same_runs}

-- a tree none of whose nodes changed
pub record SameTree (old new : Pool RunNode) (tree : Tree) : Type 0 where
  pub tree_is : IsTree new tree
  pub list : placed new tree ≡ placed old tree
  pub runs : runs_of new tree ≡ runs_of old tree

pub same_tree : {old new : Pool RunNode} {tree : Tree} → IsTree old tree → Each (λ k. node_at new k ≡ node_at old k) (placed old tree) → SameTree old new tree
same_tree {old} {new} {tree} t h =
    let sizes_same = Each-weaker (Contains (placed old tree)) (λ k. node_at new k ≡ node_at old k) (λ k c. Each-in (λ q. node_at new q ≡ node_at old q) (placed old tree) k h c) _ t.all_placed in
    let places = over_beside place_rules old new tree.places.root t.places h in
    let sizes = over_beside size_rules old new tree.sizes.root t.sizes sizes_same in
    let runs : runs_of new tree ≡ runs_of old tree = ap (map (seg_at new)) places.list ∙ same_runs old new (placed old tree) (Each-weaker (λ k. node_at new k ≡ node_at old k) (λ k. seg_at new k ≡ seg_at old k) (λ k e. ap seg_of e) _ h) in
    record {
      tree_is = record {
        places = places.over;
        sizes = sizes.over;
        all_sized = subst (λ q. Each (λ at. Contains q at) (placed new tree)) (sym sizes.list) (subst (Each (λ at. Contains (sized old tree) at)) (sym places.list) t.all_sized);
        all_placed = subst (λ q. Each (λ at. Contains q at) (sized new tree)) (sym places.list) (subst (Each (λ at. Contains (placed old tree) at)) (sym sizes.list) t.all_placed);
        as_many = ap length sizes.list ∙ t.as_many ∙ sym (ap length places.list);
        apart = subst (λ q. AreApartFrom 0 131073 q) (sym runs) t.apart;
        nodes = t.nodes ∙ sym (ap length places.list);
        units = t.units ∙ sym (ap (sum_by (λ (r : Seg). r.count)) runs);
        bits = t.bits;
        lengths = λ bit below. t.lengths bit below ∙ sym (ap (count_by (is_long_as bit)) runs);
      };
      list = places.list;
      runs = runs;
    }

sum_changed : (f g : Tree → ℕ) (ts : List Tree) (i : ℕ) (x d : Tree) → i < length ts → ((k : ℕ) → k < length ts → k ≢ i → g (get_or ts k d) ≡ f (get_or ts k d)) → sum_by g (set ts i x) + f (get_or ts i d) ≡ sum_by f ts + g x
sum_changed f g [] i x d l h = absurd (omega arith)
sum_changed f g (t ∷ ts) zero x d l h = omega (arith, sum_by-cons g x ts, sum_by-cons f t ts, all_same ts (λ k b. h (suc k) (omega arith) (λ e. omega arith)))
  where
    all_same : (us : List Tree) → ((k : ℕ) → k < length us → g (get_or us k d) ≡ f (get_or us k d)) → sum_by g us ≡ sum_by f us
    all_same [] h = refl
    all_same (u ∷ us) h = omega (arith, sum_by-cons g u us, sum_by-cons f u us, h 0 (omega arith), all_same us (λ k b. h (suc k) (omega arith)))
sum_changed f g (t ∷ ts) (suc i) x d l h =
    omega (arith, sum_by-cons g t (set ts i x), sum_by-cons f t ts, h 0 (omega arith) (λ e. omega arith), sum_changed f g ts i x d (omega arith) (λ k b n. h (suc k) (omega arith) (λ e. n (omega arith))))

module _ {old new : Pool RunNode} {trees : List Tree} (a : AreTrees old trees) (i : ℕ) (x d : Tree) (within : i < length trees) (t : IsTree new x) (touch : Touches old new (placed old (get_or trees i d)) (placed new x)) where
  pub other_same : (k : ℕ) → k < length trees → k ≢ i → SameTree old new (get_or trees k d)
  other_same k l differs =
      let tk = a.each k d l in
      same_tree tk (Each-both (λ j. IsSome (node_at old j)) (λ j. IsApart j (placed old (get_or trees i d))) (λ j. node_at new j ≡ node_at old j) (λ j p q. touch.kept j p q) _
      (all_used place_rules old (get_or trees k d).places.root tk.places.stands) (a.apart k i d l within differs))

  new_apart : (k : ℕ) → k < length trees → k ≢ i → AreApart (placed new (get_or trees k d)) (placed new x)
  new_apart k l differs =
      let tk = a.each k d l in
      let used_there = all_used place_rules old (get_or trees k d).places.root tk.places.stands in
      subst (λ q. AreApart q (placed new x)) (sym (other_same k l differs).list)
      (Each-both (λ j. IsSome (node_at old j)) (λ j. IsApart j (placed old (get_or trees i d))) (λ j. IsApart j (placed new x))
      (λ j p q. Each-weaker (λ at. Contains (placed old (get_or trees i d)) at ⊎ (node_at old at ≡ None)) (λ m. m ≡ j → ⊥)
      (λ m c e. elim c [ inl listed ↦ Each-in (λ n. n ≡ j → ⊥) (placed old (get_or trees i d)) m q listed e | inr vacant ↦ true≢false (sym (subst IsSome (ap (node_at old) (sym e) ∙ vacant) p)) ]) _ touch.fresh) _ used_there (a.apart k i d l within differs))

  at_same : get_or (set trees i x) i d ≡ x
  at_same = get_or-set_same trees i x d within

  at_other : (k : ℕ) → k ≢ i → get_or (set trees i x) k d ≡ get_or trees k d
  at_other k differs = get_or-set_other trees i k x d differs

  after_each : (k : ℕ) (e : Tree) → k < length (set trees i x) → IsTree new (get_or (set trees i x) k e)
  after_each k e l =
      let inside : k < length trees = omega (arith, l, length-set trees i x) in
      elim (cases_eq k i) [
        | inl same ↦ subst (IsTree new) (sym (ap (λ n. get_or (set trees i x) n e) same ∙ get_or-set_same trees i x e within)) t
        | inr differs ↦ subst (IsTree new) (sym (get_or-set_other trees i k x e differs ∙ any_default trees k e d inside)) (other_same k inside differs).tree_is
      ]
    where
      any_default : (ts : List Tree) (k : ℕ) (e d : Tree) → k < length ts → get_or ts k e ≡ get_or ts k d
      any_default [] k e d l = absurd (omega arith)
      any_default (u ∷ us) zero e d l = refl
      any_default (u ∷ us) (suc k) e d l = any_default us k e d (omega arith)

  apart_one : (k : ℕ) (e : Tree) → k < length trees → k ≢ i → AreApart (placed new (get_or (set trees i x) k e)) (placed new (get_or (set trees i x) i e))
  apart_one k e l differs =
      let here : get_or (set trees i x) i e ≡ x = get_or-set_same trees i x e within in
      let there : get_or (set trees i x) k e ≡ get_or trees k d = get_or-set_other trees i k x e differs ∙ default_any trees k e d l in
      subst (λ p. AreApart (placed new p) (placed new (get_or (set trees i x) i e))) (sym there) (subst (λ q. AreApart (placed new (get_or trees k d)) (placed new q)) (sym here) (new_apart k l differs))
    where
      default_any : (ts : List Tree) (k : ℕ) (e d : Tree) → k < length ts → get_or ts k e ≡ get_or ts k d
      default_any [] k e d l = absurd (omega arith)
      default_any (u ∷ us) zero e d l = refl
      default_any (u ∷ us) (suc k) e d l = default_any us k e d (omega arith)

  apart_two : (j k : ℕ) (e : Tree) → j < length trees → k < length trees → j ≢ i → k ≢ i → j ≢ k → AreApart (placed new (get_or (set trees i x) j e)) (placed new (get_or (set trees i x) k e))
  apart_two j k e l m differ_j differ_k differs =
      let first : placed new (get_or (set trees i x) j e) ≡ placed old (get_or trees j d) = ap (placed new) (get_or-set_other trees i j x e differ_j ∙ default_any trees j e d l) ∙ (other_same j l differ_j).list in
      let second : placed new (get_or (set trees i x) k e) ≡ placed old (get_or trees k d) = ap (placed new) (get_or-set_other trees i k x e differ_k ∙ default_any trees k e d m) ∙ (other_same k m differ_k).list in
      subst (λ p. AreApart p (placed new (get_or (set trees i x) k e))) (sym first) (subst (λ q. AreApart (placed old (get_or trees j d)) q) (sym second) (a.apart j k d l m differs))
    where
      default_any : (ts : List Tree) (k : ℕ) (e d : Tree) → k < length ts → get_or ts k e ≡ get_or ts k d
      default_any [] k e d l = absurd (omega arith)
      default_any (u ∷ us) zero e d l = refl
      default_any (u ∷ us) (suc k) e d l = default_any us k e d (omega arith)

  after_apart : (j k : ℕ) (e : Tree) → j < length (set trees i x) → k < length (set trees i x) → j ≢ k → AreApart (placed new (get_or (set trees i x) j e)) (placed new (get_or (set trees i x) k e))
  after_apart j k e l m differs =
      let in_j : j < length trees = omega (arith, l, length-set trees i x) in
      let in_k : k < length trees = omega (arith, m, length-set trees i x) in
      elim (cases_eq j i) [
        | inl same ↦
            let other : k ≢ i = λ q. differs (same ∙ sym q) in
            AreApart-sym _ _ (subst (λ n. AreApart (placed new (get_or (set trees i x) k e)) (placed new (get_or (set trees i x) n e))) (sym same) (apart_one k e in_k other))
        | inr not_j ↦ elim (cases_eq k i) [
          | inl same ↦ subst (λ n. AreApart (placed new (get_or (set trees i x) j e)) (placed new (get_or (set trees i x) n e))) (sym same) (apart_one j e in_j not_j)
          | inr not_k ↦ apart_two j k e in_j in_k not_j not_k differs
        ]
      ]

  -- the trees after one of them changed
  pub trees_after : AreTrees new (set trees i x)
  trees_after =
      record {
        thirteen = length-set trees i x ∙ a.thirteen;
        each = λ k e l. after_each k e l;
        apart = after_apart;
        used_by = omega (arith, a.used_by, touch.used, sum_changed (λ q. length (placed old q)) (λ q. length (placed new q)) trees i x d within (λ k l n. ap length (other_same k l n).list));
      }

  -- the units of the tree, and of each other
  pub units_there : (u : ℕ) → sets_of (map (runs_of new) (set trees i x)) i u ≡ units_of new x u
  units_there u = ap (λ q. covered q u) (get_or-map (runs_of new) (set trees i x) i d [] (omega (arith, within, length-set trees i x)) ∙ ap (runs_of new) at_same)

  pub units_elsewhere : OthersStay (sets_of (map (runs_of old) trees)) (sets_of (map (runs_of new) (set trees i x))) i
  units_elsewhere k u differs = ap (λ q. covered q u) (by_place (cases_lt k (length trees)))
    where
      by_place : (k < length trees) ⊎ (length trees ≤ k) → get_or (map (runs_of new) (set trees i x)) k [] ≡ get_or (map (runs_of old) trees) k []
      by_place (inl l) =
          get_or-map (runs_of new) (set trees i x) k d [] (omega (arith, l, length-set trees i x)) ∙ ap (runs_of new) (at_other k differs) ∙ (other_same k l differs).runs ∙ sym (get_or-map (runs_of old) trees k d [] l)
      by_place (inr l) =
          get_or_past (map (runs_of new) (set trees i x)) k [] (omega (arith, l, length-map (set trees i x) (runs_of new), length-set trees i x)) ∙ sym (get_or_past (map (runs_of old) trees) k [] (omega (arith, l, length-map trees (runs_of old))))

module _ {pool : Pool RunNode} {trees : List Tree} (a : AreTrees pool trees) (i : ℕ) (d : Tree) (within : i < length trees) where
  pub units_at : (u : ℕ) → sets_of (map (runs_of pool) trees) i u ≡ units_of pool (get_or trees i d) u
  units_at u = ap (λ q. covered q u) (get_or-map (runs_of pool) trees i d [] within)

  pub nodes_at : nodes_of (sets_of (map (runs_of pool) trees) i) ≡ length (placed pool (get_or trees i d))
  nodes_at =
      ap (λ q. nodes_of (covered q)) (get_or-map (runs_of pool) trees i d [] within)
      ∙ nodes_of-covered (runs_of pool (get_or trees i d)) (a.each i d within).apart
      ∙ length-map (placed pool (get_or trees i d)) (seg_at pool)

  pub size_at : size_of (sets_of (map (runs_of pool) trees) i) ≡ (get_or trees i d).units
  size_at =
      ap (λ q. size_of (covered q)) (get_or-map (runs_of pool) trees i d [] within)
      ∙ size_of-covered (runs_of pool (get_or trees i d)) (a.each i d within).apart
      ∙ sym (a.each i d within).units

  pub histogram_at : (ashift : ℕ) (hist : Histogram) → IsHistogramOf (units_of pool (get_or trees i d)) 131072 ashift hist → IsHistogramOf (sets_of (map (runs_of pool) trees) i) 131072 ashift hist
  histogram_at ashift hist h = subst (λ (rs : List Seg). IsHistogramOf (λ u. covered rs u) 131072 ashift hist) (sym (get_or-map (runs_of pool) trees i d [] within)) h

-- as many nodes as all trees have
nodes_in : (pool : Pool RunNode) (sets : Sets) (k : ℕ) (ts : List Tree) → ((i : ℕ) (d : Tree) → i < length ts → nodes_of (sets (k + i)) ≡ length (placed pool (get_or ts i d))) → sum_by (λ tree. nodes_of (sets tree)) (range_with_len k (length ts)) ≡ sum_by (λ t. length (placed pool t)) ts
nodes_in pool sets k [] f = refl
nodes_in pool sets k (t ∷ ts) f =
    let e : sum_by (λ tree. nodes_of (sets tree)) (k ∷ range_with_len (k + 1) (length ts)) ≡ nodes_of (sets k) + sum_by (λ tree. nodes_of (sets tree)) (range_with_len (k + 1) (length ts)) =
    sum_by-cons (λ tree. nodes_of (sets tree)) k (range_with_len (k + 1) (length ts)) in
    let h : nodes_of (sets k) ≡ length (placed pool t) = ap (λ n. nodes_of (sets n)) (sym (add-zero k)) ∙ f 0 t (omega arith) in
    let r = nodes_in pool sets (k + 1) ts (λ i d l. let same : (k + 1) + i ≡ k + suc i = omega arith in ap (λ n. nodes_of (sets n)) same ∙ f (suc i) d (omega arith)) in
    omega (arith, e, h, r, sum_by-cons (λ q. length (placed pool q)) t ts)

pub all_used_by : {pool : Pool RunNode} {trees : List Tree} → AreTrees pool trees → used pool ≡ all_nodes (sets_of (map (runs_of pool) trees))
unfolding all_nodes
all_used_by {pool} {trees} a =
    a.used_by ∙ sym (subst (λ n. sum_by (λ tree. nodes_of (sets_of (map (runs_of pool) trees) tree)) (range_with_len 0 n) ≡ sum_by (λ t. length (placed pool t)) trees) a.thirteen
    (nodes_in pool (sets_of (map (runs_of pool) trees)) 0 trees (λ i d l. ap (λ n. nodes_of (sets_of (map (runs_of pool) trees) n)) (zero-add i) ∙ nodes_at a i d l)))

-- the tree that stands where a list has none
abbrev pub blank : Tree
blank = record { places = record { root = None; order = record {} }; sizes = record { root = None; order = record {} }; nodes = 0; units = 0; lengths = [] }

-- a pool with the same nodes keeps all trees
module _ {old new : Pool RunNode} {trees : List Tree} (a : AreTrees old trees) (same : SameNodes old new) where
  each_same : (xs : List ℕ) → Each (λ k. node_at new k ≡ node_at old k) xs
  each_same [] = tt
  each_same (x ∷ xs) = (same.at x, each_same xs)

  kept_at : (i : ℕ) (d : Tree) → i < length trees → SameTree old new (get_or trees i d)
  kept_at i d l = same_tree (a.each i d l) (each_same _)

  sum_kept : (ts : List Tree) → ((i : ℕ) (d : Tree) → i < length ts → length (placed new (get_or ts i d)) ≡ length (placed old (get_or ts i d))) → sum_by (λ t. length (placed new t)) ts ≡ sum_by (λ t. length (placed old t)) ts
  sum_kept [] h = refl
  sum_kept (t ∷ ts) h = omega (arith, sum_by-cons (λ q. length (placed new q)) t ts, sum_by-cons (λ q. length (placed old q)) t ts, h 0 t (omega arith), sum_kept ts (λ i d l. h (suc i) d (omega arith)))

  pub trees_kept : AreTrees new trees
  trees_kept =
      record {
        thirteen = a.thirteen;
        each = λ i d l. (kept_at i d l).tree_is;
        apart = λ i k d l m n. subst (λ p. AreApart p (placed new (get_or trees k d))) (sym (kept_at i d l).list) (subst (λ q. AreApart (placed old (get_or trees i d)) q) (sym (kept_at k d m).list) (a.apart i k d l m n));
        used_by = same.count ∙ a.used_by ∙ sym (sum_kept trees (λ i d l. ap length (kept_at i d l).list));
      }

  lists_kept : (ts : List Tree) → ((i : ℕ) (d : Tree) → i < length ts → runs_of new (get_or ts i d) ≡ runs_of old (get_or ts i d)) → map (runs_of new) ts ≡ map (runs_of old) ts
  lists_kept [] h = refl
  lists_kept (t ∷ ts) h = ap (λ q. q ∷ map (runs_of new) ts) (h 0 t (omega arith)) ∙ ap (λ q. runs_of old t ∷ q) (lists_kept ts (λ i d l. h (suc i) d (omega arith)))

  pub views_kept : map (runs_of new) trees ≡ map (runs_of old) trees
  views_kept = lists_kept trees (λ i d l. (kept_at i d l).runs)

pub found_tells : {pool : Pool RunNode} {trees : List Tree} (a : AreTrees pool trees) (i : ℕ) → i < length trees → (seg : Seg) (found : Option NodeNo) → IfSome found (λ (no : NodeNo). Holds pool (get_or trees i blank) seg no.0) → IfNone found (HoldsAll (units_of pool (get_or trees i blank)) seg → ⊥)
    → (IsSome found → HoldsAll (sets_of (map (runs_of pool) trees) i) seg) × (HoldsAll (sets_of (map (runs_of pool) trees) i) seg → IsSome found)
found_tells {pool} {trees} a i l seg (Some no_) some none =
    (λ e u c. units_at a i blank l u ∙ held_all (a.each i blank l) seg no_.0 some u c, λ h. refl)
found_tells {pool} {trees} a i l seg None some none =
    (λ e. absurd (true≢false (sym e)), λ h. absurd (none (λ u c. sym (units_at a i blank l u) ∙ h u c)))
