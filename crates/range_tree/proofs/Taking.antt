-- A run that leaves a tree.
use Rattle.std.proofs.Common.{◌≡◌, ◌≢◌, ℕ, zero, suc, ◌+◌, ◌^◌, ◌<◌, ◌≤◌, ◌⊎◌, inl, inr, Bool, true, false, cond, leb, ltb, Option, None, IsSome, List, [], ◌∷◌, ◌++◌, length, get_or, set, map, refl, sym, ap, subst, ◌∙◌, arith, Contains}
use Rattle.std.specs.Prelude.{◌||◌, ◌&&◌, not}
use Rattle.std.specs.List.{sum_by, count_by}
use Rattle.std.proofs.lemmas.Bool.{cases_eq, leb-true, ltb-true}
use Rattle.std.proofs.lemmas.Bool.Decides.{nat_tests}
use Rattle.std.proofs.lemmas.List.Elements.{Contains-append_cases, Contains-append_left, Contains-append_right}
use Rattle.std.proofs.lemmas.List.{get_or-set_same, get_or-set_other}
use Rattle.zms_units.specs.declared.segments.Seg.{Seg}
use Rattle.zms_units.specs.Segments.{end_of, covers, covered, Covers}
use Rattle.zms_units.specs.Apart.{AreApartFrom}
use Rattle.zms_units.proofs.Bools.{true_and}
use Rattle.zms_units.proofs.Covers.{covers_true, covers_yes}
use Rattle.zms_units.proofs.Buckets.{one_bucket}
use Rattle.seg_pool.specs.declared.NodeNo.{NodeNo}
use Rattle.seg_pool.specs.Pool.{Pool, node_at}
use Rattle.seg_order.specs.Lists.{Each, IsApart, PutIn, IsDistinct}
use Rattle.seg_order.specs.Trees.{nodes_from, IsOver}
use Rattle.seg_order.specs.Changes.{OnlyLinks}
use Rattle.seg_order.specs.declared.links.Side.TheVariants.{Left}
use Rattle.seg_order.proofs.Apart.{Each-weaker, Each-in, Each-append, Each-both, parts_from}
use Rattle.seg_order.proofs.Sorting.{each_rest, sorted_distinct}
use Rattle.seg_order.proofs.Heights.{all_used}
use Rattle.seg_order.proofs.Changing.{still_used}
use Rattle.range_tree.specs.declared.node.RunNode.{RunNode}
use Rattle.range_tree.specs.declared.tree.Tree.{Tree}
use Rattle.range_tree.specs.Nodes.{place_rules, size_rules, place_lawful, size_lawful}
use Rattle.range_tree.specs.Kept.{seg_of, seg_at, placed, sized, runs_of, units_of, is_long_as, IsTree, Touches}
use Rattle.range_tree.proofs.Orders.{SameOver, over_beside, sizes_stay, places_stay, place_segs, size_segs, same_runs, Gives, given_beside, given_used}
use Rattle.range_tree.proofs.Putting.{apart_sized, each_itself}
use Rattle.range_tree.proofs.Runs.{sum_put, covered_put, length_put, apart_rest, not_covered}

-- a place that left a list without repeats is apart from the rest
apart_gone : {rest list : List ℕ} {at : ℕ} → PutIn rest at list → IsDistinct list → IsApart at rest
apart_gone {rest} {list} {at} p d =
    let parts = parts_from Left p.front at p.back (subst IsDistinct p.with_it d) in
    subst (IsApart at) (sym p.without) (Each-append (λ j. j ≡ at → ⊥) p.front p.back parts.at_near parts.at_far)

without_one : (c r f : Bool) → f ≡ (c || r) → (c ≡ true → r ≡ false) → r ≡ (not c && f)
without_one true r f e h = h refl
without_one false r f e h = sym e

contains_later : (x at : ℕ) (back : List ℕ) → Contains (at ∷ back) x → x ≢ at → Contains back x
contains_later x at back c differs = by_place c.0 c.1 c.2
  where
    by_place : (k : ℕ) → k < suc (length back) → get_or (at ∷ back) k x ≡ x → Contains back x
    by_place zero within found = absurd (differs (sym found))
    by_place (suc k) within found = (k, omega arith, found)

contains_left : {rest list : List ℕ} {at : ℕ} → PutIn rest at list → (x : ℕ) → Contains list x → x ≢ at → Contains rest x
contains_left {rest} {list} {at} p x c differs =
    subst (λ q. Contains q x) (sym p.without) (elim (Contains-append_cases p.front (at ∷ p.back) x (subst (λ q. Contains q x) p.with_it c)) [
      | inl front ↦ Contains-append_left p.front p.back x front
      | inr back ↦ Contains-append_right p.front p.back x (contains_later x at p.back back differs)
    ])

-- which places stay in an order that keeps all but one
keeps : {rest list : List ℕ} {at : ℕ} (other : List ℕ) → PutIn rest at list → IsApart at other → Each (Contains list) other → Each (Contains rest) other
keeps {rest} {list} {at} other p apart h =
    Each-both (λ j. j ≡ at → ⊥) (Contains list) (Contains rest) (λ x differs c. contains_left p x c differs) other apart h

module _ {first second : Pool RunNode} {tree : Tree} {no : NodeNo} {places_root : Option NodeNo} (t : IsTree first tree) (listed : Contains (placed first tree) no.0)
    (lp : OnlyLinks place_rules first second (placed first tree)) (vp : IsOver place_rules second places_root) (pp : PutIn (nodes_from place_rules second places_root) no.0 (placed first tree)) where
  pub out_sizes : SameOver size_rules first second tree.sizes.root
  out_sizes = sizes_stay lp tree.sizes.root t.sizes

  pub out_listed : Contains (nodes_from size_rules second tree.sizes.root) no.0
  out_listed = subst (λ q. Contains q no.0) (sym out_sizes.list) (Each-in (Contains (sized first tree)) (placed first tree) no.0 t.all_sized listed)

  in_use : IsSome (node_at first no.0)
  in_use = Each-in (λ k. IsSome (node_at first k)) (placed first tree) no.0 (all_used place_rules first tree.places.root t.places.stands) listed

  module _ {third : Pool RunNode} {sizes_root : Option NodeNo} (ls : OnlyLinks size_rules second third (nodes_from size_rules second tree.sizes.root)) (vs : IsOver size_rules third sizes_root) (ps : PutIn (nodes_from size_rules third sizes_root) no.0 (nodes_from size_rules second tree.sizes.root)) where
    pub out_used : IsSome (node_at third no.0)
    out_used = still_used size_rules size_lawful ls no.0 (still_used place_rules place_lawful lp no.0 in_use)

    pub out_seg : seg_at third no.0 ≡ seg_at first no.0
    out_seg = size_segs ls no.0 ∙ place_segs lp no.0

    module _ {last : Pool RunNode} (gv : Gives third last no.0) where
      places_third : SameOver place_rules second third places_root
      places_third = places_stay ls places_root vp

      gone_places : IsApart no.0 (nodes_from place_rules second places_root)
      gone_places = apart_gone pp (sorted_distinct place_rules place_lawful first _ t.places.sorted)

      gone_sizes : IsApart no.0 (nodes_from size_rules third sizes_root)
      gone_sizes = apart_gone ps (sorted_distinct size_rules size_lawful second _ out_sizes.over.sorted)

      places_last : SameOver place_rules third last places_root
      places_last =
          over_beside place_rules third last places_root places_third.over
          (Each-weaker (λ j. j ≡ no.0 → ⊥) (λ k. node_at last k ≡ node_at third k) (λ k differs. given_beside gv k differs) _ (subst (IsApart no.0) (sym places_third.list) gone_places))

      sizes_last : SameOver size_rules third last sizes_root
      sizes_last = over_beside size_rules third last sizes_root vs (Each-weaker (λ j. j ≡ no.0 → ⊥) (λ k. node_at last k ≡ node_at third k) (λ k differs. given_beside gv k differs) _ gone_sizes)

      left_places : PutIn (nodes_from place_rules last places_root) no.0 (placed first tree)
      left_places = subst (λ q. PutIn q no.0 (placed first tree)) (sym (places_last.list ∙ places_third.list)) pp

      left_sizes : PutIn (nodes_from size_rules last sizes_root) no.0 (sized first tree)
      left_sizes = subst (λ q. PutIn q no.0 (sized first tree)) (sym sizes_last.list) (subst (PutIn (nodes_from size_rules third sizes_root) no.0) out_sizes.list ps)

      runs_before : runs_of first tree ≡ map (seg_at first) (left_places.front ++ no.0 ∷ left_places.back)
      runs_before = ap (map (seg_at first)) left_places.with_it

      runs_now : map (seg_at last) (nodes_from place_rules last places_root) ≡ map (seg_at first) (left_places.front ++ left_places.back)
      runs_now =
          same_runs first last _ (Each-weaker (λ j. j ≡ no.0 → ⊥) (λ k. seg_at last k ≡ seg_at first k) (λ k differs. ap seg_of (given_beside gv k differs) ∙ size_segs ls k ∙ place_segs lp k) _ (subst (IsApart no.0) (sym (places_last.list ∙ places_third.list)) gone_places))
          ∙ ap (map (seg_at first)) left_places.without

      pub out_units : (u : ℕ) → covered (map (seg_at last) (nodes_from place_rules last places_root)) u ≡ (not (covers (seg_at first no.0) u) && units_of first tree u)
      out_units u =
          let whole = ap (λ q. covered q u) runs_before ∙ covered_put (seg_at first) left_places.front left_places.back no.0 u in
          ap (λ q. covered q u) runs_now ∙ without_one (covers (seg_at first no.0) u) _ (units_of first tree u) whole
          (λ c. let inside = covers_true (seg_at first no.0) u c in not_covered (seg_at first) 0 131073 left_places.front left_places.back no.0 (subst (AreApartFrom 0 131073) runs_before t.apart) u (omega (arith, inside)) (omega (arith, inside)))

      pub out_held : (u : ℕ) → Covers (seg_at first no.0) u → units_of first tree u ≡ true
      out_held u inside =
          ap (λ q. covered q u) runs_before ∙ covered_put (seg_at first) left_places.front left_places.back no.0 u
          ∙ ap (λ q. q || covered (map (seg_at first) (left_places.front ++ left_places.back)) u) (covers_yes (seg_at first no.0) u inside.0 inside.1)

      -- the run stood apart from the others
      pub out_around : (u : ℕ) → (seg_at first no.0).start ≤ u + 1 → u ≤ end_of (seg_at first no.0) → covered (map (seg_at last) (nodes_from place_rules last places_root)) u ≡ false
      out_around u low high = ap (λ q. covered q u) runs_now ∙ not_covered (seg_at first) 0 131073 left_places.front left_places.back no.0 (subst (AreApartFrom 0 131073) runs_before t.apart) u low high

      out_apart : AreApartFrom 0 131073 (map (seg_at last) (nodes_from place_rules last places_root))
      out_apart = subst (AreApartFrom 0 131073) (sym runs_now) (apart_rest (seg_at first) 0 131073 left_places.front left_places.back no.0 (subst (AreApartFrom 0 131073) runs_before t.apart))

      pub out_length : length (nodes_from place_rules last places_root) + 1 ≡ length (placed first tree)
      out_length = ap (λ q. length q + 1) left_places.without ∙ sym (length_put (seg_at first) left_places.front left_places.back no.0) ∙ sym (ap length left_places.with_it)

      out_size_length : length (nodes_from size_rules last sizes_root) + 1 ≡ length (sized first tree)
      out_size_length = ap (λ q. length q + 1) left_sizes.without ∙ sym (length_put (seg_at first) left_sizes.front left_sizes.back no.0) ∙ sym (ap length left_sizes.with_it)

      pub out_sum : (f : Seg → ℕ) → sum_by f (map (seg_at last) (nodes_from place_rules last places_root)) + f (seg_at first no.0) ≡ sum_by f (runs_of first tree)
      out_sum f = ap (λ q. sum_by f q + f (seg_at first no.0)) runs_now ∙ sym (sum_put (seg_at first) f left_places.front left_places.back no.0) ∙ sym (ap (sum_by f) runs_before)

      pub out_tree : (after : Tree) → after.places.root ≡ places_root → after.sizes.root ≡ sizes_root → after.nodes + 1 ≡ tree.nodes → after.units + (seg_at first no.0).count ≡ tree.units → length after.lengths ≡ 18
          → ((bit : ℕ) → bit < 18 → get_or after.lengths bit 0 + cond (is_long_as bit (seg_at first no.0)) 1 0 ≡ get_or tree.lengths bit 0) → IsTree last after
      out_tree after is_places is_sizes nodes units bits lengths =
          let root_places = sym is_places in
          let root_sizes = sym is_sizes in
          record {
            places = subst (IsOver place_rules last) root_places places_last.over;
            sizes = subst (IsOver size_rules last) root_sizes sizes_last.over;
            all_sized = subst (λ p. Each (λ at. Contains (nodes_from size_rules last after.sizes.root) at) (nodes_from place_rules last p)) root_places (subst (λ s. Each (λ at. Contains (nodes_from size_rules last s) at) (nodes_from place_rules last places_root)) root_sizes
                (keeps _ left_sizes (subst (IsApart no.0) (sym (places_last.list ∙ places_third.list)) gone_places) (each_rest (Contains (sized first tree)) left_places t.all_sized)));
            all_placed = subst (λ p. Each (λ at. Contains (nodes_from place_rules last p) at) (nodes_from size_rules last after.sizes.root)) root_places (subst (λ s. Each (λ at. Contains (nodes_from place_rules last places_root) at) (nodes_from size_rules last s)) root_sizes
                (keeps _ left_places (subst (IsApart no.0) (sym sizes_last.list) gone_sizes) (each_rest (Contains (placed first tree)) left_sizes t.all_placed)));
            as_many = omega (arith, ap (λ s. length (nodes_from size_rules last s)) is_sizes, out_size_length, t.as_many, out_length, ap (λ p. length (nodes_from place_rules last p)) is_places);
            apart = subst (λ p. AreApartFrom 0 131073 (map (seg_at last) (nodes_from place_rules last p))) root_places out_apart;
            nodes = omega (arith, nodes, t.nodes, out_length, ap (λ p. length (nodes_from place_rules last p)) is_places);
            units = omega (arith, units, t.units, out_sum (λ (r : Seg). r.count), ap (λ p. sum_by (λ (r : Seg). r.count) (map (seg_at last) (nodes_from place_rules last p))) is_places);
            bits = bits;
            lengths = λ bit below. omega (arith, lengths bit below, t.lengths bit below, out_sum (λ r. cond (is_long_as bit r) 1 0), ap (λ p. count_by (is_long_as bit) (map (seg_at last) (nodes_from place_rules last p))) is_places);
          }

      pub out_touches : Touches first last (placed first tree) (nodes_from place_rules last places_root)
      out_touches =
          record {
            kept = λ k present apart.
                let differs : k ≢ no.0 = λ e. Each-in (λ j. j ≡ k → ⊥) (placed first tree) no.0 apart listed (sym e) in
                let apart_sizes : IsApart k (nodes_from size_rules second tree.sizes.root) = subst (IsApart k) (sym out_sizes.list) (apart_sized first tree t k apart) in
                given_beside gv k differs ∙ ls.others k apart_sizes ∙ lp.others k apart;
            fresh = Each-weaker (Contains (placed first tree)) (λ at. Contains (placed first tree) at ⊎ (node_at first at ≡ None)) (λ k c. inl c) _ (each_rest (Contains (placed first tree)) left_places (each_itself (placed first tree)));
            used = omega (arith, given_used gv, ls.used, lp.used, out_length);
            spare = omega (arith, ap (λ (p : Pool RunNode). p.spare) gv.given, ls.spare, lp.spare, out_length);
          }

-- the run of a listed place
module _ {pool : Pool RunNode} {tree : Tree} (t : IsTree pool tree) (at : ℕ) (listed : Contains (placed pool tree) at) where
  run_facts : (xs : List ℕ) (low : ℕ) → AreApartFrom low 131073 (map (seg_at pool) xs) → Each (λ k. (0 < (seg_at pool k).count) × (end_of (seg_at pool k) + 1 ≤ 131073)) xs
  run_facts [] low a = tt
  run_facts (x ∷ xs) low a = ((a.1, ends (end_of (seg_at pool x) + 1) xs a.2), run_facts xs _ a.2)
    where
      ends : (low : ℕ) (ys : List ℕ) → AreApartFrom low 131073 (map (seg_at pool) ys) → low ≤ 131073
      ends low [] a = a
      ends low (y ∷ ys) a = omega (arith, a.0, a.1, ends (end_of (seg_at pool y) + 1) ys a.2)

  pub listed_run : (0 < (seg_at pool at).count) × (end_of (seg_at pool at) ≤ 131072)
  listed_run =
      let f = Each-in (λ k. (0 < (seg_at pool k).count) × (end_of (seg_at pool k) + 1 ≤ 131073)) (placed pool tree) at (run_facts _ 0 t.apart) listed in
      (f.0, omega (arith, f.1))

-- the count of one length changes with a run of that length
pub lowered : (lengths : List ℕ) (bit at n : ℕ) (run : Seg) → at < length lengths → 2 ^ at ≤ run.count → run.count < 2 ^ (at + 1) → n + 1 ≡ get_or lengths at 0 → get_or (set lengths at n) bit 0 + cond (is_long_as bit run) 1 0 ≡ get_or lengths bit 0
lowered lengths bit at n run within low high e =
    elim (cases_eq bit at) [
      | inl same ↦
          let yes : is_long_as at run ≡ true = grind (arith, nat_tests) in
          let read : get_or (set lengths at n) at 0 ≡ n = get_or-set_same lengths at n 0 within in
          let one : cond (is_long_as at run) 1 0 ≡ (let k : ℕ = 1 in k) = ap (λ b. cond b (let k : ℕ = 1 in k) 0) yes in
          subst (λ q. get_or (set lengths at n) q 0 + cond (is_long_as q run) 1 0 ≡ get_or lengths q 0) (sym same) (omega (arith, read, one))
      | inr differs ↦
          let no_one : is_long_as bit run ≡ false = not_true (is_long_as bit run) (λ t. differs (other_bit t)) in
          let zero_more : cond (is_long_as bit run) 1 0 ≡ (let k : ℕ = 0 in k) = ap (λ b. cond b (let k : ℕ = 1 in k) 0) no_one in
          omega (arith, get_or-set_other lengths at bit n 0 differs, zero_more)
    ]
  where
    not_true : (b : Bool) → (b ≡ true → ⊥) → b ≡ false
    not_true true f = absurd (f refl)
    not_true false f = refl

    other_bit : is_long_as bit run ≡ true → bit ≡ at
    other_bit t =
        let both = true_and (leb (2 ^ bit) run.count) (ltb run.count (2 ^ (bit + 1))) t in
        one_bucket bit at run.count (record { least = leb-true _ _ both.0; most = ltb-true _ _ both.1 }) (record { least = low; most = high })

-- a run of a length is counted there
pub counted_one : (bit : ℕ) (run : Seg) (rest whole : ℕ) → 2 ^ bit ≤ run.count → run.count < 2 ^ (bit + 1) → rest + cond (is_long_as bit run) 1 0 ≡ whole → 1 ≤ whole
counted_one bit run rest whole low high e =
    let yes : is_long_as bit run ≡ true = grind (arith, nat_tests) in
    let one : cond (is_long_as bit run) 1 0 ≡ (let k : ℕ = 1 in k) = ap (λ b. cond b (let k : ℕ = 1 in k) 0) yes in
    omega (arith, e, one)
