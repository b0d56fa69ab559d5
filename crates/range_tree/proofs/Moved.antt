-- Two trees change places.
use Rattle.std.proofs.Common.{◌≡◌, ◌≢◌, ℕ, ◌<◌, ◌⊎◌, inl, inr, List, [], length, get_or, map, refl, sym, ap, subst, ◌∙◌, arith}
use Rattle.std.specs.List.{sum_by}
use Rattle.std.proofs.lemmas.Bool.{cases_eq, cases_lt}
use Rattle.std.proofs.lemmas.List.{get_or-map, get_or_past, length-map}
use Rattle.zms_units.specs.Segments.{covered}
use Rattle.seg_trees.specs.Kept.{sets_of}
use Rattle.seg_pool.specs.Pool.{Pool}
use Rattle.seg_order.specs.Lists.{AreApart}
use Rattle.range_tree.specs.declared.node.RunNode.{RunNode}
use Rattle.range_tree.specs.declared.tree.Tree.{Tree}
use Rattle.range_tree.specs.Kept.{placed, runs_of, IsTree}
use Rattle.range_tree.specs.Thirteen.{AreTrees}
use Rattle.range_tree.proofs.Among.{blank}

-- the place that a tree came from
record CameFrom (ts us : List Tree) (first second i from : ℕ) : Type 0 where
  pub same : (d : Tree) → get_or us i d ≡ get_or ts from d
  pub which : ((i ≡ first) × (from ≡ second)) ⊎ (((i ≡ second) × (from ≡ first)) ⊎ ((i ≢ first) × (i ≢ second) × (from ≡ i)))

apart_sources : (first second i k m n : ℕ) → ((i ≡ first) × (m ≡ second)) ⊎ (((i ≡ second) × (m ≡ first)) ⊎ ((i ≢ first) × (i ≢ second) × (m ≡ i))) → ((k ≡ first) × (n ≡ second)) ⊎ (((k ≡ second) × (n ≡ first)) ⊎ ((k ≢ first) × (k ≢ second) × (n ≡ k))) → i ≢ k → m ≢ n
apart_sources first second i k m n (inl a) (inl b) d e = d (omega arith)
apart_sources first second i k m n (inl a) (inr (inl b)) d e = d (omega arith)
apart_sources first second i k m n (inl a) (inr (inr b)) d e = b.1 (omega arith)
apart_sources first second i k m n (inr (inl a)) (inl b) d e = d (omega arith)
apart_sources first second i k m n (inr (inl a)) (inr (inl b)) d e = d (omega arith)
apart_sources first second i k m n (inr (inl a)) (inr (inr b)) d e = b.0 (omega arith)
apart_sources first second i k m n (inr (inr a)) (inl b) d e = a.1 (omega arith)
apart_sources first second i k m n (inr (inr a)) (inr (inl b)) d e = a.0 (omega arith)
apart_sources first second i k m n (inr (inr a)) (inr (inr b)) d e = d (omega arith)

module _ {pool : Pool RunNode} {ts : List Tree} (a : AreTrees pool ts) (us : List Tree) (first second : ℕ) (in_first : first < length ts) (in_second : second < length ts) (as_long : length us ≡ length ts)
    (at_first : (d : Tree) → get_or us first d ≡ get_or ts second d) (at_second : (d : Tree) → get_or us second d ≡ get_or ts first d) (at_other : (k : ℕ) (d : Tree) → k ≢ first → k ≢ second → get_or us k d ≡ get_or ts k d)
    (same_sum : sum_by (λ t. length (placed pool t)) us ≡ sum_by (λ t. length (placed pool t)) ts) where
  source : (i : ℕ) → i < length us → (m : ℕ) × (m < length ts) × CameFrom ts us first second i m
  source i l =
      elim (cases_eq i first) [
        | inl one ↦ (second, in_second, record { same = λ d. ap (λ n. get_or us n d) one ∙ at_first d; which = inl (one, refl) })
        | inr not_one ↦ elim (cases_eq i second) [
          | inl two ↦ (first, in_first, record { same = λ d. ap (λ n. get_or us n d) two ∙ at_second d; which = inr (inl (two, refl)) })
          | inr not_two ↦ (i, omega (arith, l, as_long), record { same = λ d. at_other i d not_one not_two; which = inr (inr (not_one, not_two, refl)) })
        ]
      ]

  pub trees_swapped : AreTrees pool us
  trees_swapped =
      record {
        thirteen = as_long ∙ a.thirteen;
        each = λ i d l. let s = source i l in subst (IsTree pool) (sym (s.2.same d)) (a.each s.0 d s.1);
        apart = λ i k d l m differs.
            let s = source i l in
            let t = source k m in
            subst (λ p. AreApart (placed pool p) (placed pool (get_or us k d))) (sym (s.2.same d)) (subst (λ q. AreApart (placed pool (get_or ts s.0 d)) (placed pool q)) (sym (t.2.same d))
            (a.apart s.0 t.0 d s.1 t.1 (apart_sources first second i k s.0 t.0 s.2.which t.2.which differs)));
        used_by = a.used_by ∙ sym same_sum;
      }

-- the units go with the tree
pub units_moved : (pool : Pool RunNode) (ts us : List Tree) (i k : ℕ) → length us ≡ length ts → i < length ts → k < length ts → ((d : Tree) → get_or us k d ≡ get_or ts i d) → (u : ℕ) → sets_of (map (runs_of pool) us) k u ≡ sets_of (map (runs_of pool) ts) i u
units_moved pool ts us i k e l m f u =
    ap (λ q. covered q u) (get_or-map (runs_of pool) us k blank [] (omega (arith, m, e)) ∙ ap (runs_of pool) (f blank) ∙ sym (get_or-map (runs_of pool) ts i blank [] l))

pub units_stayed : (pool : Pool RunNode) (ts us : List Tree) (k : ℕ) → length us ≡ length ts → ((d : Tree) → get_or us k d ≡ get_or ts k d) → (u : ℕ) → sets_of (map (runs_of pool) us) k u ≡ sets_of (map (runs_of pool) ts) k u
units_stayed pool ts us k e f u =
    elim (cases_lt k (length ts)) [
      | inl l ↦ units_moved pool ts us k k e l l f u
      | inr past ↦ ap (λ q. covered q u) (get_or_past (map (runs_of pool) us) k [] (omega (arith, past, e, length-map us (runs_of pool))) ∙ sym (get_or_past (map (runs_of pool) ts) k [] (omega (arith, past, length-map ts (runs_of pool)))))
    ]
