-- Listed runs and the units of a tree.
use Rattle.std.proofs.Common.{◌≡◌, ℕ, zero, suc, ◌+◌, ◌<◌, ◌≤◌, ◌⊎◌, inl, inr, max, Bool, true, false, Option, Some, None, IsSome, List, [], ◌∷◌, ◌++◌, length, get_or, map, refl, sym, ap, subst, ◌∙◌, arith, Contains}
use Rattle.std.proofs.lemmas.Bool.{cases_lt, false≢true}
use Rattle.std.proofs.lemmas.List.{length-map, get_or-map}
use Rattle.zms_units.specs.declared.segments.Seg.{Seg}
use Rattle.zms_units.specs.Segments.{end_of, covers, covered, Covers}
use Rattle.zms_units.specs.Apart.{AreApartFrom}
use Rattle.zms_units.specs.Runs.{IsMaximalRun}
use Rattle.zms_units.proofs.Bools.{or_cases}
use Rattle.zms_units.proofs.Covers.{covers_true}
use Rattle.zms_units.proofs.Maximal.{maximal_at, maximal_is_at}
use Rattle.seg_trees.specs.Sets.{HoldsAll, HoldsNone, IsLowest, IsSegment}
use Rattle.seg_pool.specs.declared.NodeNo.{NodeNo}
use Rattle.seg_pool.specs.Pool.{Pool, node_at}
use Rattle.seg_order.specs.Lists.{Each}
use Rattle.seg_order.specs.Sides.{comes_before}
use Rattle.seg_order.specs.Looks.{IsFirstFrom}
use Rattle.seg_order.proofs.Apart.{Each-weaker, Each-in, Each-append, Each-back}
use Rattle.seg_order.proofs.Heights.{all_used}
use Rattle.range_tree.specs.declared.node.RunNode.{RunNode}
use Rattle.range_tree.specs.declared.tree.Tree.{Tree}
use Rattle.range_tree.specs.Nodes.{place_rules}
use Rattle.range_tree.specs.Kept.{seg_at, placed, runs_of, units_of, IsTree}
use Rattle.range_tree.specs.Found.{IsFirstEnding, FindsEnding, Holds}
use Rattle.range_tree.proofs.Putting.{place_ends, end_place, contains_it}

not_true : (b : Bool) → (b ≡ true → ⊥) → b ≡ false
not_true true f = absurd (f refl)
not_true false f = refl

module _ (seg : ℕ → Seg) where
  found_in : (xs : List ℕ) (u : ℕ) → covered (map seg xs) u ≡ true → (k : ℕ) × Contains xs k × Covers (seg k) u
  found_in [] u e = absurd (false≢true e)
  found_in (x ∷ xs) u e =
      elim (or_cases (covers (seg x) u) (covered (map seg xs) u) e) [
        | inl here ↦ (x, (0, omega arith, refl), covers_true (seg x) u here)
        | inr later ↦ let r = found_in xs u later in (r.0, (suc r.1.0, omega (arith, r.1.1), r.1.2), r.2)
      ]

  back_above : (low next : ℕ) (front back : List ℕ) (at : ℕ) → AreApartFrom low next (map seg (front ++ at ∷ back)) → Each (λ k. end_of (seg at) < (seg k).start) back
  back_above low next [] back at a = above (end_of (seg at) + 1) back a.2 (omega arith)
    where
      above : (low : ℕ) (ys : List ℕ) → AreApartFrom low next (map seg ys) → end_of (seg at) + 1 ≤ low → Each (λ k. end_of (seg at) < (seg k).start) ys
      above low [] a l = tt
      above low (y ∷ ys) a l = (omega (arith, a.0), above (end_of (seg y) + 1) ys a.2 (omega (arith, a.0, a.1)))
  back_above low next (x ∷ xs) back at a = back_above (end_of (seg x) + 1) next xs back at a.2

module _ {pool : Pool RunNode} {tree : Tree} (t : IsTree pool tree) where
  pub unit_found : (u : ℕ) → units_of pool tree u ≡ true → (k : ℕ) × Contains (placed pool tree) k × Covers (seg_at pool k) u
  unit_found u e = found_in (seg_at pool) (placed pool tree) u e

  -- each listed run is maximal, and each maximal run is listed
  pub listed_maximal : (k : ℕ) → Contains (placed pool tree) k → IsMaximalRun (units_of pool tree) 131072 (seg_at pool k)
  listed_maximal k c =
      let within : c.0 < length (runs_of pool tree) = omega (arith, c.1, length-map (placed pool tree) (seg_at pool)) in
      let is : get_or (runs_of pool tree) c.0 (seg_at pool k) ≡ seg_at pool k = get_or-map (seg_at pool) (placed pool tree) c.0 k (seg_at pool k) c.1 ∙ ap (seg_at pool) c.2 in
      subst (IsMaximalRun (units_of pool tree) 131072) is (maximal_at (units_of pool tree) 131072 (runs_of pool tree) t.apart (λ u l. refl) c.0 (seg_at pool k) within)

  pub maximal_listed : (run : Seg) → IsMaximalRun (units_of pool tree) 131072 run → (k : ℕ) × Contains (placed pool tree) k × ((seg_at pool k).start ≡ run.start) × ((seg_at pool k).count ≡ run.count)
  maximal_listed run m =
      let w = maximal_is_at (units_of pool tree) 131072 (runs_of pool tree) t.apart (λ u l. refl) run run m in
      let within : w.0 < length (placed pool tree) = omega (arith, w.1, length-map (placed pool tree) (seg_at pool)) in
      let k = get_or (placed pool tree) w.0 0 in
      let is : get_or (runs_of pool tree) w.0 run ≡ seg_at pool k = get_or-map (seg_at pool) (placed pool tree) w.0 0 run within in
      (k, (w.0, within, get_or_any (placed pool tree) w.0 0 k within), ap (λ (r : Seg). r.start) (sym is) ∙ w.2, ap (λ (r : Seg). r.count) (sym is) ∙ w.3)
    where
      get_or_any : (xs : List ℕ) (i d e : ℕ) → i < length xs → get_or xs i e ≡ get_or xs i d
      get_or_any [] i d e l = absurd (omega arith)
      get_or_any (x ∷ xs) zero d e l = refl
      get_or_any (x ∷ xs) (suc i) d e l = get_or_any xs i d e (omega arith)

  -- what the first run that is not before a key tells
  pub ending : (key : RunNode) (unit : ℕ) (found : Option NodeNo) → key.seg ≡ record { start = unit; count = 0 } → IsFirstFrom place_rules pool key (placed pool tree) found → FindsEnding pool tree unit found
  ending key unit None is f =
      Each-weaker (λ one. comes_before place_rules (node_at pool one) (Some key) ≡ true) (λ one. end_of (seg_at pool one) < unit)
      (λ k e. omega (arith, place_ends (node_at pool k) (Some key) e, ap end_of is)) _ f
  ending key unit (Some at) is f =
      let whole = subst (λ q. AreApartFrom 0 131073 (map (seg_at pool) q)) f.split t.apart in
      let behind = back_above (seg_at pool) 0 131073 f.front f.back at.0 whole in
      let used_each = subst (Each (λ k. IsSome (node_at pool k))) f.split (all_used place_rules pool tree.places.root t.places.stands) in
      let used_here = (Each-back (λ k. IsSome (node_at pool k)) f.front (at.0 ∷ f.back) used_each).0 in
      let listed : Contains (placed pool tree) at.0 = contains_it (record { front = f.front; back = f.back; without = refl; with_it = f.split }) in
      record {
        listed = listed;
        reaches = reached (cases_lt (end_of (seg_at pool at.0)) unit) (λ l. false≢true (sym f.passes ∙ end_place (node_at pool at.0) (Some key) used_here refl (omega (arith, l, ap end_of is))));
        others = subst (Each (λ one. (end_of (seg_at pool one) < unit) ⊎ ((seg_at pool at.0).start ≤ (seg_at pool one).start))) (sym f.split)
            (Each-append (λ one. (end_of (seg_at pool one) < unit) ⊎ ((seg_at pool at.0).start ≤ (seg_at pool one).start)) f.front (at.0 ∷ f.back)
            (Each-weaker (λ one. comes_before place_rules (node_at pool one) (Some key) ≡ true) (λ one. (end_of (seg_at pool one) < unit) ⊎ ((seg_at pool at.0).start ≤ (seg_at pool one).start)) (λ k e. inl (omega (arith, place_ends (node_at pool k) (Some key) e, ap end_of is))) f.front f.skipped)
            (inr (omega arith), Each-weaker (λ k. end_of (seg_at pool at.0) < (seg_at pool k).start) (λ one. (end_of (seg_at pool one) < unit) ⊎ ((seg_at pool at.0).start ≤ (seg_at pool one).start)) (λ k l. inr (omega (arith, l))) f.back behind));
      }
    where
      reached : {a b : ℕ} → (a < b) ⊎ (b ≤ a) → (a < b → ⊥) → b ≤ a
      reached (inl l) f = absurd (f l)
      reached (inr l) f = l

  -- where each run ends at a unit or before it, no unit from there on is covered
  pub none_from : (unit : ℕ) → Each (λ one. end_of (seg_at pool one) < unit + 1) (placed pool tree) → (u : ℕ) → unit ≤ u → units_of pool tree u ≡ false
  none_from unit h u l =
      not_true (units_of pool tree u) (λ e. let w = unit_found u e in omega (arith, w.2.0, w.2.1, Each-in (λ one. end_of (seg_at pool one) < unit + 1) (placed pool tree) w.0 h w.1))

  -- a covered unit from a unit on lies at or behind the first run that ends behind it
  pub at_or_behind : (unit at : ℕ) → IsFirstEnding pool tree (unit + 1) at → (u : ℕ) → unit ≤ u → units_of pool tree u ≡ true → (seg_at pool at).start ≤ u
  at_or_behind unit at f u l e =
      let w = unit_found u e in
      elim (Each-in (λ one. (end_of (seg_at pool one) < unit + 1) ⊎ ((seg_at pool at).start ≤ (seg_at pool one).start)) (placed pool tree) w.0 f.others w.1) [
        | inl before ↦ absurd (omega (arith, before, w.2.1))
        | inr behind ↦ omega (arith, behind, w.2.0)
      ]

  pub held_all : (seg : Seg) (at : ℕ) → Holds pool tree seg at → HoldsAll (units_of pool tree) seg
  held_all seg at h u c = (listed_maximal at h.listed).inside u (omega (arith, h.from, c.0), omega (arith, h.till, c.1))

  -- a covered segment lies in the first run that ends behind its start
  pub holds_first : (seg : Seg) (at : ℕ) → IsSegment seg → IsFirstEnding pool tree (seg.start + 1) at → HoldsAll (units_of pool tree) seg → Holds pool tree seg at
  holds_first seg at s f all =
      let m = listed_maximal at f.listed in
      let from = at_or_behind seg.start at f seg.start (omega arith) (all seg.start (omega arith, omega (arith, s.some))) in
      record {
        listed = f.listed;
        from = from;
        till = elim (cases_lt (end_of (seg_at pool at)) (end_of seg)) [
          | inl short ↦ absurd (false≢true (sym (m.after (omega (arith, short, s.within))) ∙ all (end_of (seg_at pool at)) (omega (arith, f.reaches), short)))
          | inr long ↦ long
        ];
      }

  pub none_held : (seg : Seg) → IsSegment seg → Each (λ one. end_of (seg_at pool one) < seg.start + 1) (placed pool tree) → HoldsAll (units_of pool tree) seg → ⊥
  none_held seg s h all = false≢true (sym (none_from seg.start h seg.start (omega arith)) ∙ all seg.start (omega arith, omega (arith, s.some)))

  pub none_met : (seg : Seg) (at : ℕ) → IsFirstEnding pool tree (seg.start + 1) at → end_of seg ≤ (seg_at pool at).start → HoldsNone (units_of pool tree) seg
  none_met seg at f above u c = not_true (units_of pool tree u) (λ e. omega (arith, at_or_behind seg.start at f u c.0 e, c.1))

  pub met : (seg : Seg) (at unit : ℕ) → IsSegment seg → IsFirstEnding pool tree (seg.start + 1) at → (seg_at pool at).start < end_of seg → unit ≡ max (seg_at pool at).start seg.start → IsLowest (units_of pool tree) seg unit
  met seg at unit s f below is =
      record {
        inside = (omega arith, omega (arith, s.some));
        held = (listed_maximal at f.listed).inside unit (omega arith, omega (arith, f.reaches, (listed_maximal at f.listed).some));
        lowest = λ u c l. not_true (units_of pool tree u) (λ e. omega (arith, at_or_behind seg.start at f u c.0 e, c.0));
      }

  pub none_before : (unit at : ℕ) → IsFirstEnding pool tree (unit + 1) at → (u : ℕ) → unit ≤ u → u < (seg_at pool at).start → units_of pool tree u ≡ false
  none_before unit at f u l below = not_true (units_of pool tree u) (λ e. omega (arith, at_or_behind unit at f u l e))
