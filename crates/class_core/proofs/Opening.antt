-- The groups of a class as its pool opens it, and the class that they are.
use Rattle.std.proofs.Common.{◌≡◌, ℕ, zero, suc, ◌+◌, ◌*◌, ◌<◌, ◌≤◌, Bool, true, false, cond, Option, Some, None, List, [], ◌∷◌, ◌++◌, length, length-append, replicate, take, get_or, refl, sym, ◌∙◌, ap, subst, ◌⊎◌, inl, inr, arith}
use Rattle.std.specs.Prelude.{map, slice_get}
use Rattle.std.specs.Bool.{Decides}
use Rattle.std.proofs.lemmas.Bool.{cases_lt}
use Rattle.std.proofs.lemmas.List.{length-map, get_or_append_left, get_or_push}
use Rattle.zms_units.specs.declared.places.Class.{Class}
use Rattle.zms_units.specs.declared.places.VdevRow.{VdevRow}
use Rattle.vdev_map.specs.Numbers.{row_at, metaslabs_in, number_of}
use Rattle.class_model.specs.Replay.{LaneNote, IsVdevOf, vdevs_of, weights_in, metaslabs_of, weight_at, first_or}
use Rattle.class_model.specs.Legal.{IsClassLegal}
use Rattle.class_model.specs.declared.origin.ClassOrigin.{ClassOrigin}
use Rattle.class_model.specs.declared.origin.ClassVdev.{ClassVdev}
use Rattle.class_core.specs.Groups.{GroupState, group_at, active_in, kind_place}
use Rattle.class_core.specs.Opening.{new_group, Adds, IsGroupOf, AreGroups}
use Rattle.class_core.specs.Classes.{HasClass, IsOriginOf}
use Rattle.class_core.specs.ClassInside.{origin_of, IsKept}
use Rattle.class_core.proofs.Booleans.{clash, eqb_same, eqb_other}
use Rattle.class_core.proofs.Keeping.{Rises, vdev_at}

module _ (rows : List VdevRow) (class : Class) (weights : List ℕ) where
  pub groups_none : AreGroups rows class weights 0 []
  groups_none = record { rising = λ j k lt end. absurd (omega (arith, end)); each = λ k lt. absurd (omega (arith, lt)); all = λ v lt e. absurd (omega (arith, lt)) }

  lifted : (n : ℕ) (g : GroupState) → IsGroupOf rows class weights n g → IsGroupOf rows class weights (n + 1) g
  lifted n g is = record { below = omega (arith, is.below); class = is.class; fresh = is.fresh; count = is.count; weights = is.weights }

  module _ (n : ℕ) (groups : List GroupState) (are : AreGroups rows class weights n groups) where
    pub groups_same : ((row_at rows n).class ≡ class → ⊥) → AreGroups rows class weights (n + 1) groups
    groups_same not_it = record { rising = are.rising; each = λ k lt. lifted n (group_at groups k) (are.each k lt); all = λ v lt e. at v e (cases_lt v n) lt } where
      at : (v : ℕ) → (row_at rows v).class ≡ class → (v < n) ⊎ (n ≤ v) → v < n + 1 → (k : ℕ) × ((k < length groups) × (vdev_at groups k ≡ v))
      at v e (inl below) lt = are.all v below e
      at v e (inr le) lt = let same : v ≡ n = omega (arith, le, lt) in absurd (not_it (subst (λ (x : ℕ). (row_at rows x).class ≡ class) same e))

    module _ (own : List ℕ) (is : IsGroupOf rows class weights (n + 1) (new_group n own)) where
      len : length (groups ++ new_group n own ∷ []) ≡ length groups + 1
      len = length-append groups (new_group n own ∷ [])

      old_at : (k : ℕ) → k < length groups → group_at (groups ++ new_group n own ∷ []) k ≡ group_at groups k
      old_at k lt = get_or_append_left groups (new_group n own ∷ []) _ k lt

      new_at : (k : ℕ) → length groups ≡ k → group_at (groups ++ new_group n own ∷ []) k ≡ new_group n own
      new_at k e = get_or_push groups (new_group n own) _ k e

      each_at : (k : ℕ) → k < length groups + 1 → (k < length groups) ⊎ (length groups ≤ k) → IsGroupOf rows class weights (n + 1) (group_at (groups ++ new_group n own ∷ []) k)
      each_at k lt (inl below) = subst (IsGroupOf rows class weights (n + 1)) (sym (old_at k below)) (lifted n (group_at groups k) (are.each k below))
      each_at k lt (inr le) = subst (IsGroupOf rows class weights (n + 1)) (sym (new_at k (omega (arith, le, lt)))) is

      rising_at : (j k : ℕ) → j < k → k < length groups + 1 → (k < length groups) ⊎ (length groups ≤ k) → vdev_at (groups ++ new_group n own ∷ []) j < vdev_at (groups ++ new_group n own ∷ []) k
      rising_at j k lt end (inl below) =
          let vj = ap (λ (g : GroupState). g.vdev) (old_at j (omega (arith, lt, below))) in let vk = ap (λ (g : GroupState). g.vdev) (old_at k below) in omega (arith, are.rising j k lt below, vj, vk)
      rising_at j k lt end (inr le) =
          let vj = ap (λ (g : GroupState). g.vdev) (old_at j (omega (arith, lt, le, end))) in let vk = ap (λ (g : GroupState). g.vdev) (new_at k (omega (arith, le, end))) in
          omega (arith, (are.each j (omega (arith, lt, le, end))).below, vj, vk)

      all_at : (v : ℕ) → (row_at rows v).class ≡ class → (v < n) ⊎ (n ≤ v) → v < n + 1 → (k : ℕ) × ((k < length (groups ++ new_group n own ∷ [])) × (vdev_at (groups ++ new_group n own ∷ []) k ≡ v))
      all_at v e (inl below) lt = let found = are.all v below e in (found.0, (omega (arith, found.1.0, len), ap (λ (g : GroupState). g.vdev) (old_at found.0 found.1.0) ∙ found.1.1))
      all_at v e (inr le) lt = (length groups, (omega (arith, len), ap (λ (g : GroupState). g.vdev) (new_at (length groups) refl) ∙ omega (arith, le, lt)))

      pub groups_more : AreGroups rows class weights (n + 1) (groups ++ new_group n own ∷ [])
      groups_more = record {
        rising = λ j k lt end. rising_at j k lt (omega (arith, end, len)) (cases_lt k (length groups));
        each = λ k lt. each_at k (omega (arith, lt, len)) (cases_lt k (length groups));
        all = λ v lt e. all_at v e (cases_lt v n) lt;
      }

  -- one more vdev was looked at
  pub groups_step : (n : ℕ) (groups new : List GroupState) (own : List ℕ) (wanted : Bool) → AreGroups rows class weights n groups → Decides wanted ((row_at rows n).class ≡ class)
      → length own ≡ (row_at rows n).metaslabs → ((i : ℕ) → i < length own → get_or own i 0 ≡ get_or weights (metaslabs_in (take n rows) + i) 0) → Adds groups n own wanted new
      → AreGroups rows class weights (n + 1) new
  groups_step n groups new own true are decides count look adds =
      subst (AreGroups rows class weights (n + 1)) (sym adds)
      (groups_more n groups are own (record {
        below = omega arith;
        class = decides.0 refl;
        fresh = refl;
        count = count;
        weights = λ i lt. look i lt ∙ ap (λ (k : ℕ). get_or weights k 0) (omega arith);
      }))
  groups_step n groups new own false are decides count look adds =
      subst (AreGroups rows class weights (n + 1)) (sym adds) (groups_same n groups are (λ e. clash false (decides.1 e) refl))

-- the vdevs of a class of these groups
module _ (class : Class) where
  vdevs_look : (groups : List GroupState) (k : ℕ) → get_or (vdevs_of (origin_of class groups)) k 0 ≡ vdev_at groups k
  vdevs_look [] k = refl
  vdevs_look (g ∷ groups) zero = refl
  vdevs_look (g ∷ groups) (suc k) = vdevs_look groups k

  vdevs_map : (groups : List GroupState) → vdevs_of (origin_of class groups) ≡ map (λ (g : GroupState). g.vdev) groups
  vdevs_map [] = refl
  vdevs_map (g ∷ groups) = ap (λ (l : List ℕ). g.vdev ∷ l) (vdevs_map groups)

  vdev_found : (groups : List GroupState) (k : ℕ) → k < length groups → slice_get (vdevs_of (origin_of class groups)) k ≡ Some (vdev_at groups k)
  vdev_found [] k lt = absurd (omega (arith, lt))
  vdev_found (g ∷ groups) zero lt = refl
  vdev_found (g ∷ groups) (suc k) lt = vdev_found groups k (omega (arith, lt))

  vdev_is : (groups : List GroupState) (k v : ℕ) → slice_get (vdevs_of (origin_of class groups)) k ≡ Some v → (k < length groups) × (vdev_at groups k ≡ v)
  vdev_is [] k v e = absurd (gone v e) where
    gone : (v : ℕ) → ◌≡◌ {A = Option ℕ} None (Some v) → ⊥
    gone v e = cc
  vdev_is (g ∷ groups) zero v e = (omega arith, same g.vdev v e) where
    same : (a b : ℕ) → ◌≡◌ {A = Option ℕ} (Some a) (Some b) → a ≡ b
    same a b e = cc
  vdev_is (g ∷ groups) (suc k) v e = let rest = vdev_is groups k v e in (omega (arith, rest.0), rest.1)

  weights_found : (groups : List GroupState) (k : ℕ) → Rises groups → k < length groups → weights_in (origin_of class groups).vdevs (vdev_at groups k) ≡ (group_at groups k).weights
  weights_found [] k rises lt = absurd (omega (arith, lt))
  weights_found (g ∷ groups) zero rises lt = ap (λ (b : Bool). cond b g.weights (weights_in (origin_of class groups).vdevs g.vdev)) (eqb_same g.vdev g.vdev refl)
  weights_found (g ∷ groups) (suc k) rises lt =
      let ne : g.vdev ≡ vdev_at groups k → ⊥ = λ e. let up : g.vdev < vdev_at groups k = rises 0 (suc k) (omega arith) lt in omega (arith, e, up) in
      ap (λ (b : Bool). cond b g.weights (weights_in (origin_of class groups).vdevs (vdev_at groups k))) (eqb_other g.vdev (vdev_at groups k) ne)
      ∙ weights_found groups k (λ i j below end. rises (suc i) (suc j) (omega (arith, below)) (omega (arith, end))) (omega (arith, lt))

nothing_active : (n k : ℕ) → get_or {A = Option ℕ} (replicate n None) k None ≡ None
nothing_active zero k = refl
nothing_active (suc n) zero = refl
nothing_active (suc n) (suc k) = nothing_active n k

legal_none : (o : ClassOrigin) → IsClassLegal o []
legal_none o [] n rest e = absurd (none n rest e) where
  none : (n : LaneNote) (rest : List LaneNote) → ◌≡◌ {A = List LaneNote} (n ∷ rest) [] → ⊥
  none n rest e = cc
legal_none o (m ∷ before) n rest e = absurd (none m (before ++ n ∷ rest) e) where
  none : (n : LaneNote) (rest : List LaneNote) → ◌≡◌ {A = List LaneNote} (n ∷ rest) [] → ⊥
  none n rest e = cc

first_vdev : (class : Class) (groups : List GroupState) → first_or 0 (vdevs_of (origin_of class groups)) ≡ vdev_at groups 0
first_vdev class [] = refl
first_vdev class (g ∷ groups) = refl

module _ (rows : List VdevRow) (class : Class) (weights : List ℕ) (groups : List GroupState) (are : AreGroups rows class weights (length rows) groups) where
  found : (k : ℕ) → k < length groups → weights_in (origin_of class groups).vdevs (vdev_at groups k) ≡ (group_at groups k).weights
  found k lt = weights_found class groups k are.rising lt

  -- nothing is noted yet, and all is as it was
  pub kept_new : IsKept (origin_of class groups) [] groups (record { place = 0; used = 0 })
  kept_new = record {
    legal = legal_none (origin_of class groups);
    vdevs = vdevs_map class groups;
    rising = are.rising;
    each = λ k lt. record {
      count = ap length (found k lt);
      places = ap (λ (g : GroupState). length g.active) (are.each k lt).fresh;
      weights = λ i. ap (λ (l : List ℕ). get_or l i 0) (found k lt);
      active = λ p. sym (ap (λ (g : GroupState). active_in g (2 * p.allocator + kind_place p.kind)) (are.each k lt).fresh ∙ nothing_active 8 (2 * p.allocator + kind_place p.kind));
    };
    rotor = ap (λ (v : ℕ). record { vdev = v; used = 0 }) (first_vdev class groups);
    place = λ some. some;
    small = omega arith;
  }

  to_class : (v : ℕ) → IsVdevOf (origin_of class groups) v → HasClass rows class v
  to_class v at =
      let is = vdev_is class groups at.0 v at.1 in
      let group = are.each at.0 is.0 in
      (omega (arith, group.below, is.1), subst (λ (x : ℕ). (row_at rows x).class ≡ class) is.1 group.class)

  from_class : (v : ℕ) → HasClass rows class v → IsVdevOf (origin_of class groups) v
  from_class v has =
      let place = are.all v has.0 has.1 in
      (place.0, vdev_found class groups place.0 place.1.0 ∙ ap Some place.1.1)

  counted : (v : ℕ) → IsVdevOf (origin_of class groups) v → metaslabs_of (origin_of class groups) v ≡ (row_at rows v).metaslabs
  counted v at =
      let is = vdev_is class groups at.0 v at.1 in
      subst (λ (x : ℕ). metaslabs_of (origin_of class groups) x ≡ (row_at rows x).metaslabs) is.1 (ap length (found at.0 is.0) ∙ (are.each at.0 is.0).count)

  weighs : (v i : ℕ) → IsVdevOf (origin_of class groups) v → i < metaslabs_of (origin_of class groups) v → weight_at (origin_of class groups) [] v i ≡ get_or weights (number_of rows (record { vdev = v; index = i })) 0
  weighs v i at lt =
      let is = vdev_is class groups at.0 v at.1 in
      let P : ℕ → Type 0 = λ x. i < metaslabs_of (origin_of class groups) x → weight_at (origin_of class groups) [] x i ≡ get_or weights (number_of rows (record { vdev = x; index = i })) 0 in
      subst P is.1
      (λ below. ap (λ (l : List ℕ). get_or l i 0) (found at.0 is.0) ∙ (are.each at.0 is.0).weights i (omega (arith, below, ap length (found at.0 is.0))))
      lt

  pub origin_new : IsOriginOf rows class weights (origin_of class groups)
  origin_new = record {
    class = refl;
    vdevs = λ v. (to_class v, from_class v);
    rising = λ j k lt end. omega (arith, are.rising j k lt (omega (arith, end, length-map groups (λ (g : GroupState). let one : ClassVdev = record { vdev = g.vdev; weights = g.weights } in one))), vdevs_look class groups j, vdevs_look class groups k);
    metaslabs = counted;
    weights = λ id at lt. weighs id.vdev id.index at lt;
  }
