-- What searches among runs that stand apart find.
use Rattle.std.proofs.Common.{◌≡◌, ℕ, ◌+◌, ◌≤◌, ◌<◌, List, length, get_or, take, drop, ◌-◌, ◌∙◌, ap, length-drop, get_or-drop, max, refl, subst, arith, ◌⊎◌, inl, inr}
use Rattle.std.proofs.lemmas.List.{take_all}
use Rattle.zms_units.specs.declared.segments.Seg.{Seg}
use Rattle.zms_units.specs.Segments.{end_of, covered}
use Rattle.zms_units.specs.Apart.{AreApartFrom}
use Rattle.zms_units.specs.Runs.{IsFirstFrom, NoneFrom, IsLongFrom}
use Rattle.std.specs.Prelude.{Option, Some, None, IfSome, IfNone, IsSome}
use Rattle.seg_trees.specs.Pieces.{IsHolder}
use Rattle.seg_trees.specs.Sets.{IsLowest, IsSegment, HoldsNone, HoldsAll}
use Rattle.zms_units.proofs.Bools.{le_or}
use Rattle.zms_units.proofs.ApartRuns.{apart_at, covered_at}
use Rattle.seg_trees.proofs.Places.{met_from, bool_false, starts_rise}
use Rattle.zms_units.proofs.Maximal.{maximal_at, maximal_is_at}

module _ (runs : List Seg) (apart : AreApartFrom 0 131073 runs) where
  module _ (seg : Seg) (segment : IsSegment seg) (i : ℕ) (d : Seg) (below : (k : ℕ) (d : Seg) → k < i → end_of (get_or runs k d) ≤ seg.start) where
    pub none_beyond : length runs ≤ i → HoldsNone (covered runs) seg
    none_beyond h u c = bool_false (covered runs u) (λ e. omega (arith, (met_from 131073 runs seg i u d apart below c e).0))

    pub none_within : end_of seg ≤ (get_or runs i d).start → HoldsNone (covered runs) seg
    none_within h u c = bool_false (covered runs u) (λ e. omega (arith, (met_from 131073 runs seg i u d apart below c e).1, c.1))

    pub is_lowest : i < length runs → seg.start < end_of (get_or runs i d) → (get_or runs i d).start < end_of seg → (unit : ℕ) → unit ≡ max seg.start (get_or runs i d).start
        → IsLowest (covered runs) seg unit
    is_lowest l above within unit e =
        record {
          inside = (omega arith, omega (arith, segment.some));
          held = covered_at runs i d l unit (omega arith, omega (arith, (apart_at 0 131073 runs i d apart l).1));
          lowest = λ u c lt. bool_false (covered runs u) (λ t. omega (arith, (met_from 131073 runs seg i u d apart below c t).1, c.0));
        }

  module _ (count at from : ℕ) (d : Seg) (below : (k : ℕ) (d : Seg) → k < from → k < length runs → (get_or runs k d).start < at) where
    long_place : (other : Seg) → IsLongFrom (covered runs) 131072 count at other → (k : ℕ) × (k < length runs) × (from ≤ k) × ((get_or runs k d).start ≡ other.start) × (count ≤ (get_or runs k d).count)
    long_place other o =
        let t = maximal_is_at (covered runs) 131072 runs apart (λ u l. refl) other d o.maximal in
        (t.0, t.1, reached t.0 t.1 t.2 (le_or from t.0), t.2, omega (arith, t.3, o.long)) where
          reached : (k : ℕ) → k < length runs → (get_or runs k d).start ≡ other.start → (from ≤ k) ⊎ (k < from) → from ≤ k
          reached k l e (inl h) = h
          reached k l e (inr h) = absurd (omega (arith, below k d h l, o.from))

    pub first_found : (i : ℕ) → i < length runs → from ≤ i → at ≤ (get_or runs i d).start → count ≤ (get_or runs i d).count
        → ((k : ℕ) → from ≤ k → k < i → (get_or runs k d).count < count) → IsFirstFrom (covered runs) 131072 count at (get_or runs i d)
    first_found i l le a c short =
        record {
          is_long = record { maximal = maximal_at (covered runs) 131072 runs apart (λ u l. refl) i d l; long = c; from = a };
          lowest = λ other o. let t = long_place other o in by_place other t.0 t.1 t.2 t.3 t.4 (le_or i t.0);
        } where
          by_place : (other : Seg) (k : ℕ) → k < length runs → from ≤ k → (get_or runs k d).start ≡ other.start → count ≤ (get_or runs k d).count → (i ≤ k) ⊎ (k < i) → (get_or runs i d).start ≤ other.start
          by_place other k l f e g (inl h) = omega (arith, (starts_rise 0 131073 runs i k d apart h l).0)
          by_place other k l f e g (inr h) = absurd (omega (arith, short k f h))

    pub none_found : ((k : ℕ) → from ≤ k → k < length runs → (get_or runs k d).count < count) → NoneFrom (covered runs) 131072 count at
    none_found short other o = let t = long_place other o in omega (arith, short t.0 t.2 t.1, t.4)

-- runs have no more units than they have room
-- the runs from a place on
pub tail_is : (runs : List Seg) (from : ℕ) → take (length runs - from) (drop from runs) ≡ drop from runs
tail_is runs from = take_all (length runs - from) (drop from runs) (omega (arith, length-drop from runs))

pub tail_at : (runs : List Seg) (from j : ℕ) (d : Seg) → get_or (take (length runs - from) (drop from runs)) j d ≡ get_or runs (from + j) d
tail_at runs from j d = ap (λ rs. get_or rs j d) (tail_is runs from) ∙ get_or-drop from runs j d

pub tail_length : (runs : List Seg) (from : ℕ) → length (take (length runs - from) (drop from runs)) ≡ length runs - from
tail_length runs from = ap length (tail_is runs from) ∙ length-drop from runs

module _ (runs : List Seg) (from index count : ℕ) (d : Seg) where
  pub tail_long : count ≤ (get_or (take (length runs - from) (drop from runs)) index d).count → count ≤ (get_or runs (from + index) d).count
  tail_long h = let P : Seg → Type 0 = λ r. count ≤ r.count in subst P (tail_at runs from index d) h

  pub tail_short : ((k : ℕ) → k < index → (get_or (take (length runs - from) (drop from runs)) k d).count < count)
      → (k : ℕ) → from ≤ k → k < from + index → (get_or runs k d).count < count
  tail_short f k le lt =
      let P : Seg → Type 0 = λ r. r.count < count in
      let e : from + (k - from) ≡ k = omega arith in
      subst P (tail_at runs from (k - from) d ∙ ap (λ n. get_or runs n d) e) (f (k - from) (omega arith))

-- a run that covers a segment whole shows that the segment is covered
pub held_all : (runs : List Seg) (seg : Seg) (i : ℕ) → IsHolder runs seg i → HoldsAll (covered runs) seg
held_all runs seg i h u c = covered_at runs i seg h.place u (omega (arith, h.from seg, c.0), omega (arith, h.till seg, c.1))

pub holder_tells : (runs : List Seg) (seg : Seg) (found : Option ℕ) → IfSome found (IsHolder runs seg) → IfNone found (HoldsAll (covered runs) seg → ⊥)
    → (IsSome found → HoldsAll (covered runs) seg) × (HoldsAll (covered runs) seg → IsSome found)
holder_tells runs seg (Some i) some none = (λ _. held_all runs seg i some, λ _. refl)
holder_tells runs seg None some none = (λ h. cc, λ h. absurd (none h))
