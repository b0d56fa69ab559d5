-- How many nodes trees may have, and how many more or fewer a change of their sets makes: for the layers above.
use Rattle.std.proofs.Common.{◌≡◌, ℕ, zero, suc, ◌+◌, ◌*◌, ◌^◌, ◌≤◌, ◌<◌, Bool, true, false, cond, List, [], ◌∷◌, length, refl, sym, ◌∙◌, arith, ◌⊎◌, inl, inr}
use Rattle.std.specs.Prelude.{◌||◌, ◌&&◌, not}
use Rattle.std.specs.List.{count_by, sum_by, range_with_len}
use Rattle.std.proofs.lemmas.List.Sums.{sum_by-cons}
use Rattle.std.proofs.lemmas.List.FromFn.{length-range_with_len}
use Rattle.zms_units.specs.declared.segments.Seg.{Seg}
use Rattle.zms_units.specs.Segments.{end_of, covers, covered}
use Rattle.zms_units.specs.Runs.{units_in, begins_run}
use Rattle.zms_units.proofs.Bools.{le_or, same_not, or_false}
use Rattle.zms_units.proofs.Covers.{covers_true, covers_yes, covers_low}
use Rattle.zms_units.proofs.Counting.{count_cons, units_le, units_seg, units_none, units_same_below, run_count-length, run_count_same}
use Rattle.seg_trees.specs.Sets.{Sets, range, nodes_of, all_nodes, IsSegment}
use Rattle.seg_trees.proofs.Sizes.{range-is}

sum_most : (f : ℕ → ℕ) → ((x : ℕ) → f x ≤ 131072) → (xs : List ℕ) → sum_by f xs ≤ length xs * 131072
sum_most f most [] = omega arith
sum_most f most (x ∷ xs) = omega (arith, sum_by-cons f x xs, most x, sum_most f most xs)

-- thirteen trees have so few nodes that there is room to ask for any count that a metaslab needs
pub may_reserve : (sets : Sets) (n : ℕ) → n ≤ 15073280 → all_nodes sets + n ≤ 2 ^ 24
unfolding all_nodes
may_reserve sets n h =
    omega (
      arith,
      sum_most (λ tree. nodes_of (sets tree)) (λ tree. omega (arith, units_le (begins_run (sets tree)) range, range-is)) (range_with_len 0 13),
      length-range_with_len 0 13,
    )

one_of : (a b c : Bool) → (a ≡ true → (b || c) ≡ true) → cond a 1 0 ≤ cond b 1 0 + cond c 1 0
one_of false b c f = omega arith
one_of true true c f = omega arith
one_of true false true f = omega arith
one_of true false false f = absurd (none (f refl)) where
  none : false ≡ true → ⊥
  none e = cc

count_union : (p q r : ℕ → Bool) → ((u : ℕ) → p u ≡ true → (q u || r u) ≡ true) → (xs : List ℕ) → count_by p xs ≤ count_by q xs + count_by r xs
count_union p q r f [] = omega arith
count_union p q r f (x ∷ xs) = omega (arith, count_cons p x xs, count_cons q x xs, count_cons r x xs, one_of (p x) (q x) (r x) (f x), count_union p q r f xs)

union_begins : (a b ab bb : Bool) → ((a || b) && not (ab || bb)) ≡ true → ((a && not ab) || (b && not bb)) ≡ true
union_begins true b false bb e = refl
union_begins true b true bb e = absurd (none e) where
  none : false ≡ true → ⊥
  none h = cc
union_begins false true false false e = refl
union_begins false true true bb e = absurd (none e) where
  none : false ≡ true → ⊥
  none h = cc
union_begins false true false true e = absurd (none e) where
  none : false ≡ true → ⊥
  none h = cc
union_begins false false ab bb e = absurd (none e) where
  none : false ≡ true → ⊥
  none h = cc

-- a union has no more runs than the two together
pub nodes_of_union : (set other : ℕ → Bool) → nodes_of (λ u. set u || other u) ≤ nodes_of set + nodes_of other
nodes_of_union set other = count_union (begins_run (λ u. set u || other u)) (begins_run set) (begins_run other) begins (range_with_len 0 range) where
  begins : (u : ℕ) → begins_run (λ u. set u || other u) u ≡ true → (begins_run set u || begins_run other u) ≡ true
  begins zero e = union_begins (set 0) (other 0) false false e
  begins (suc v) e = union_begins (set (suc v)) (other (suc v)) (set v) (other v) e

-- one segment is one run
pub nodes_of-segment : (seg : Seg) → IsSegment seg → nodes_of (covers seg) ≡ 1
nodes_of-segment seg s =
    run_count_same (covers seg) (covered (seg ∷ [])) range (λ u. sym (or_false (covers seg u)))
    ∙ run_count-length 0 range (seg ∷ []) (omega arith, s.some, omega (arith, s.within, range-is))

-- a segment more is one run more at most
pub nodes_of_add : (set : ℕ → Bool) (seg : Seg) → IsSegment seg → nodes_of (λ u. covers seg u || set u) ≤ nodes_of set + 1
nodes_of_add set seg s = omega (arith, nodes_of_union (covers seg) set, nodes_of-segment seg s)

-- and so is a segment less
after : Seg → Seg
after seg = record { start = end_of seg; count = 1 }

one_after : (seg : Seg) → IsSegment seg → (end_of seg + 1 ≤ range) ⊎ (range < end_of seg + 1) → units_in (covers (after seg)) range ≤ 1
unfolding after
one_after seg s (inl h) = omega (arith, units_seg (after seg) range h)
one_after seg s (inr h) =
    let none : units_in (covers (after seg)) range ≡ units_in (λ _. false) range = units_same_below (covers (after seg)) (λ _. false) range (λ u l. covers_low (after seg) u (omega arith)) in
    omega (arith, none, units_none (λ _. false) range (λ u. refl))

cut_begins : (c s cb sb f : Bool) → (cb ≡ true → c ≡ false → f ≡ true) → ((not c && s) && not (not cb && sb)) ≡ true → ((s && not sb) || f) ≡ true
cut_begins true s cb sb f h e = absurd (none e) where
  none : false ≡ true → ⊥
  none k = cc
cut_begins false false cb sb f h e = absurd (none e) where
  none : false ≡ true → ⊥
  none k = cc
cut_begins false true true false f h e = refl
cut_begins false true true true f h e = h refl refl
cut_begins false true false false f h e = refl
cut_begins false true false true f h e = absurd (none e) where
  none : false ≡ true → ⊥
  none k = cc

pub nodes_of_cut : (set : ℕ → Bool) (seg : Seg) → IsSegment seg → nodes_of (λ u. not (covers seg u) && set u) ≤ nodes_of set + 1
unfolding after
nodes_of_cut set seg s =
    omega (
      arith,
      count_union (begins_run (λ u. not (covers seg u) && set u)) (begins_run set) (covers (after seg)) begins (range_with_len 0 range),
      one_after seg s (le_or (end_of seg + 1) range),
    ) where
      follows : (v : ℕ) → covers seg v ≡ true → covers seg (suc v) ≡ false → (suc v < end_of seg) ⊎ (end_of seg ≤ suc v) → covers (after seg) (suc v) ≡ true
      follows v e f (inl h) = let c = covers_true seg v e in absurd (same_not (covers_yes seg (suc v) (omega arith) h) f)
      follows v e f (inr h) = let c = covers_true seg v e in covers_yes (after seg) (suc v) h (omega arith)

      begins : (u : ℕ) → begins_run (λ u. not (covers seg u) && set u) u ≡ true → (begins_run set u || covers (after seg) u) ≡ true
      begins zero e = cut_begins (covers seg 0) (set 0) false false (covers (after seg) 0) (λ h. absurd (no_true h)) e where
        no_true : false ≡ true → ⊥
        no_true k = cc
      begins (suc v) e =
          cut_begins (covers seg (suc v)) (set (suc v)) (covers seg v) (set v) (covers (after seg) (suc v)) (λ h k. follows v h k (swap_or (le_or (end_of seg) (suc v)))) e where
            swap_or : (end_of seg ≤ suc v) ⊎ (suc v < end_of seg) → (suc v < end_of seg) ⊎ (end_of seg ≤ suc v)
            swap_or (inl h) = inr h
            swap_or (inr h) = inl h
