-- The stops of a route: what one more makes of them, and where each stands.
use Rattle.std.proofs.Common.{◌≡◌, ℕ, zero, suc, get_or, ◌+◌, ◌<◌, ◌≤◌, Bool, true, false, cond, eqb, Option, Some, None, List, [], ◌∷◌, ◌++◌, length, refl, sym, ◌∙◌, ap, subst, arith, ◌⊎◌, inl, inr}
use Rattle.std.specs.Prelude.{◌↔◌, IsTrue, map, slice_get, option_map, ⊤}
use Rattle.std.specs.List.{IsDistinct, list_any}
use Rattle.std.proofs.lemmas.Bool.{cases_lt}
use Rattle.std.proofs.lemmas.List.{length-map, length_push}
use Rattle.std.proofs.lemmas.Option.{slice_get-get_or, slice_get_within, slice_get-map, get_or_from_slice_get}
use Rattle.std.proofs.lemmas.Map.Keys.{IsDistinct-from_apart}
use Rattle.std.proofs.lemmas.Map.Steps.{length-le_from_distinct_below}
use Rattle.vdev_map.specs.Numbers.{row_at}
use Rattle.copy_walk.specs.Plans.{Plan, IsVdev, IsPlan, holds, distance, ComesBefore}
use Rattle.copy_walk.specs.Routes.{stop_of, HasStops, IsTaken, IsRoute}
use Rattle.copy_walk.specs.declared.route.Stop.{Stop}
use Rattle.copy_walk.proofs.Booleans.{clash, false_of, or_either, eqb_is}
use Rattle.copy_walk.proofs.Order.{one_distance, distance_within, never_itself, not_both}

-- lists by their places

pub same_place : (stops : List Stop) (k j : ℕ) (t s : Stop) → slice_get stops k ≡ Some t → slice_get stops j ≡ Some s → k ≡ j → t ≡ s
same_place stops k j t s a b e = cc

-- a place in a list that has one item more
pub data IsPlace (stops : List Stop) (x : Stop) (k : ℕ) (s : Stop) : Type 0 where
  before : slice_get stops k ≡ Some s → k < length stops → IsPlace stops x k s
  last : x ≡ s → k ≡ length stops → IsPlace stops x k s

place_next : (y : Stop) (stops : List Stop) (x : Stop) (k : ℕ) (s : Stop) → IsPlace stops x k s → IsPlace (y ∷ stops) x (suc k) s
place_next y stops x k s (before at lt) = before at (omega (arith, lt))
place_next y stops x k s (last e f) = last e (omega (arith, f))

pub place_of : (stops : List Stop) (x : Stop) (k : ℕ) (s : Stop) → slice_get (stops ++ x ∷ []) k ≡ Some s → IsPlace stops x k s
place_of [] x zero s e = last (cc) refl
place_of [] x (suc k) s e = cc
place_of (y ∷ stops) x zero s e = before e (omega arith)
place_of (y ∷ stops) x (suc k) s e = place_next y stops x k s (place_of stops x k s e)

pub stays : (stops : List Stop) (x : Stop) (k : ℕ) (s : Stop) → slice_get stops k ≡ Some s → slice_get (stops ++ x ∷ []) k ≡ Some s
stays [] x k s e = cc
stays (y ∷ stops) x zero s e = e
stays (y ∷ stops) x (suc k) s e = stays stops x k s e

pub comes_last : (stops : List Stop) (x : Stop) → slice_get (stops ++ x ∷ []) (length stops) ≡ Some x
comes_last [] x = refl
comes_last (y ∷ stops) x = comes_last stops x

-- behind the last place there is none
pub past_none : (stops : List Stop) (place k : ℕ) (t : Stop) → slice_get stops place ≡ None → slice_get stops k ≡ Some t → k < place
past_none stops place k t none at = there (cases_lt k place) where
  there : (k < place) ⊎ (place ≤ k) → k < place
  there (inl lt) = lt
  there (inr le) =
      let within : k < length stops = slice_get_within stops k t at in
      let some : slice_get stops place ≡ Some (get_or stops place t) = slice_get-get_or stops place t (omega (arith, le, within)) in
      cc

module _ (p : Plan) (P : ℕ → Type 0) (stops : List Stop) (has : HasStops p P stops) where
  -- what comes before a stop stands before it
  pub stands_before : (place : ℕ) (s : Stop) → slice_get stops place ≡ Some s → (k : ℕ) (t : Stop) → slice_get stops k ≡ Some t → ComesBefore p t.vdev s.vdev → k < place
  stands_before place s here k t there comes = at (cases_lt k place) (cases_lt place k) where
    at : (k < place) ⊎ (place ≤ k) → (place < k) ⊎ (k ≤ place) → k < place
    at (inl lt) _ = lt
    at (inr le) (inl lt) = absurd (not_both p t.vdev s.vdev comes (has.sorted place k s t lt here there))
    at (inr le) (inr ge) =
        let same : t ≡ s = same_place stops k place t s there here (omega (arith, le, ge)) in
        absurd (never_itself p s.vdev (subst (λ (x : Stop). ComesBefore p x.vdev s.vdev) same comes))

  -- two stops of one vdev are one
  pub one_place : (k j : ℕ) (t s : Stop) → slice_get stops k ≡ Some t → slice_get stops j ≡ Some s → t.vdev ≡ s.vdev → k ≡ j
  one_place k j t s a b same = at (cases_lt k j) (cases_lt j k) where
    at : (k < j) ⊎ (j ≤ k) → (j < k) ⊎ (k ≤ j) → k ≡ j
    at (inl lt) _ = absurd (never_itself p s.vdev (subst (λ (v : ℕ). ComesBefore p v s.vdev) same (has.sorted k j t s lt a b)))
    at (inr le) (inl lt) = absurd (never_itself p s.vdev (subst (λ (v : ℕ). ComesBefore p s.vdev v) same (has.sorted j k s t lt b a)))
    at (inr le) (inr ge) = omega (arith, le, ge)

  abbrev vdevs_in : List ℕ
  vdevs_in = map (λ (s : Stop). s.vdev) stops

  vdev_in : (k : ℕ) (d : Stop) → k < length vdevs_in → (v : ℕ) → get_or vdevs_in k v ≡ (get_or stops k d).vdev
  vdev_in k d lt v =
      let within : k < length stops = omega (arith, lt, length-map stops (λ (s : Stop). s.vdev)) in
      get_or_from_slice_get vdevs_in k (get_or stops k d).vdev v
      (slice_get-map (λ (s : Stop). s.vdev) stops k ∙ ap (λ (o : Option Stop). option_map (λ (s : Stop). s.vdev) o) (slice_get-get_or stops k d within))

  none_of : Stop
  none_of = record { vdev = 0; first = 0; metaslabs = 0 }

  differ : (i j d : ℕ) → i < j → j < length vdevs_in → eqb (get_or vdevs_in i d) (get_or vdevs_in j d) ≡ false
  differ i j d lt within = false_of (eqb (get_or vdevs_in i d) (get_or vdevs_in j d)) (λ e.
      let below : j < length stops = omega (arith, within, length-map stops (λ (s : Stop). s.vdev)) in
      let same : get_or vdevs_in i d ≡ get_or vdevs_in j d = eqb_is (get_or vdevs_in i d) (get_or vdevs_in j d) e in
      let one : (get_or stops i none_of).vdev ≡ (get_or stops j none_of).vdev = sym (vdev_in i none_of (omega (arith, lt, within)) d) ∙ (same ∙ vdev_in j none_of within d) in
      let places : i ≡ j = one_place i j (get_or stops i none_of) (get_or stops j none_of) (slice_get-get_or stops i none_of (omega (arith, lt, below))) (slice_get-get_or stops j none_of below) one in
      omega (arith, places, lt))

  head_or_tail : (n q x : ℕ) (xs : List ℕ) → x < n → (list_any (eqb q) xs ≡ true → q < n) → (eqb q x ≡ true) ⊎ (list_any (eqb q) xs ≡ true) → q < n
  head_or_tail n q x xs lt more (inl same) = let is : q ≡ x = eqb_is q x same in omega (arith, is, lt)
  head_or_tail n q x xs lt more (inr e) = more e

  all_below : (n : ℕ) (xs : List ℕ) → ((k x : ℕ) → slice_get xs k ≡ Some x → x < n) → (q : ℕ) → list_any (eqb q) xs ≡ true → q < n
  all_below n [] each q e = cc
  all_below n (x ∷ xs) each q e = head_or_tail n q x xs (each zero x refl) (all_below n xs (λ k y g. each (suc k) y g) q) (or_either (eqb q x) (list_any (eqb q) xs) e)

  vdev_below : (k x : ℕ) → slice_get vdevs_in k ≡ Some x → x < length p.vdevs
  vdev_below k x e =
      let within : k < length vdevs_in = slice_get_within vdevs_in k x e in
      let below : k < length stops = omega (arith, within, length-map stops (λ (s : Stop). s.vdev)) in
      let is : get_or vdevs_in k x ≡ x = get_or_from_slice_get vdevs_in k x x e in
      let one : get_or vdevs_in k x ≡ (get_or stops k none_of).vdev = vdev_in k none_of within x in
      let vdev : (get_or stops k none_of).vdev < length p.vdevs = (has.each k (get_or stops k none_of) (slice_get-get_or stops k none_of below)).0.0 in
      omega (arith, is, one, vdev)

  -- there are no more stops than vdevs
  pub few_stops : length stops ≤ length p.vdevs
  few_stops =
      let distinct : IsDistinct eqb vdevs_in = IsDistinct-from_apart eqb vdevs_in differ in
      let few : length vdevs_in ≤ length p.vdevs = length-le_from_distinct_below vdevs_in (length p.vdevs) distinct (all_below (length p.vdevs) vdevs_in vdev_below) in
      omega (arith, few, length-map stops (λ (s : Stop). s.vdev))

-- the next vdev from the rotor's on

module _ (p : Plan) (is : IsPlan p) (b : Bool) (n : ℕ) (stops : List Stop) (has : HasStops p (IsTaken p b n) stops) (v : ℕ) (within : v < length p.vdevs) (far : distance p v ≡ n) where
  one_vdev : (u : ℕ) → IsVdev p u → distance p u < n + 1 → (n ≤ distance p u) → u ≡ v
  one_vdev u vdev lt ge = one_distance p u v is.rotor.0 vdev.0 within (omega (arith, lt, ge, far))

  taken_more : (u : ℕ) → IsTaken p b n u → IsTaken p b (n + 1) u
  taken_more u (inl both) = inl both
  taken_more u (inr both) = inr (both.0, omega (arith, both.1))

  -- one that is not wanted
  pub passed_over : (IsVdev p v → holds p v ≡ b → ⊥) → HasStops p (IsTaken p b (n + 1)) stops
  passed_over unwanted = record {
    each = λ k s at. let e = has.each k s at in (e.0, (taken_more s.vdev e.1.0, e.1.1));
    all = λ u vdev taken. by_taken u vdev taken;
    sorted = has.sorted;
  } where
    by_distance : (u : ℕ) → IsVdev p u → holds p u ≡ b → distance p u < n + 1 → (distance p u < n) ⊎ (n ≤ distance p u) → (k : ℕ) × (slice_get stops k ≡ Some (stop_of p.vdevs u))
    by_distance u vdev same lt (inl less) = has.all u vdev (inr (same, less))
    by_distance u vdev same lt (inr ge) =
        let one : u ≡ v = one_vdev u vdev lt ge in
        absurd (unwanted (subst (IsVdev p) one vdev) (subst (λ (w : ℕ). holds p w ≡ b) one same))

    by_taken : (u : ℕ) → IsVdev p u → IsTaken p b (n + 1) u → (k : ℕ) × (slice_get stops k ≡ Some (stop_of p.vdevs u))
    by_taken u vdev (inl both) = has.all u vdev (inl both)
    by_taken u vdev (inr both) = by_distance u vdev both.0 both.1 (cases_lt (distance p u) n)

  -- one that is
  module _ (vdev : IsVdev p v) (wanted : holds p v ≡ b) where
    abbrev added : List Stop
    added = stops ++ stop_of p.vdevs v ∷ []

    each_at : (k : ℕ) (s : Stop) → IsPlace stops (stop_of p.vdevs v) k s → IsVdev p s.vdev × (IsTaken p b (n + 1) s.vdev × (s ≡ stop_of p.vdevs s.vdev))
    each_at k s (before at lt) = let e = has.each k s at in (e.0, (taken_more s.vdev e.1.0, e.1.1))
    each_at k s (last e f) =
        subst (λ (t : Stop). IsVdev p t.vdev × (IsTaken p b (n + 1) t.vdev × (t ≡ stop_of p.vdevs t.vdev))) e
        (vdev, (inr (wanted, omega (arith, far)), refl))

    found : (u : ℕ) → (k : ℕ) × (slice_get stops k ≡ Some (stop_of p.vdevs u)) → (k : ℕ) × (slice_get added k ≡ Some (stop_of p.vdevs u))
    found u at = (at.0, stays stops (stop_of p.vdevs v) at.0 (stop_of p.vdevs u) at.1)

    by_distance : (u : ℕ) → IsVdev p u → holds p u ≡ b → distance p u < n + 1 → (distance p u < n) ⊎ (n ≤ distance p u) → (k : ℕ) × (slice_get added k ≡ Some (stop_of p.vdevs u))
    by_distance u is_u same lt (inl less) = found u (has.all u is_u (inr (same, less)))
    by_distance u is_u same lt (inr ge) =
        let one : u ≡ v = one_vdev u is_u lt ge in
        (length stops, comes_last stops (stop_of p.vdevs v) ∙ ap (λ (w : ℕ). Some (stop_of p.vdevs w)) (sym one))

    by_taken : (u : ℕ) → IsVdev p u → IsTaken p b (n + 1) u → (k : ℕ) × (slice_get added k ≡ Some (stop_of p.vdevs u))
    by_taken u is_u (inl both) = found u (has.all u is_u (inl both))
    by_taken u is_u (inr both) = by_distance u is_u both.0 both.1 (cases_lt (distance p u) n)

    before_it : (u : ℕ) → IsTaken p b n u → ComesBefore p u v
    before_it u (inl both) = inl (both.0, wanted ∙ both.1)
    before_it u (inr both) = inr (both.0 ∙ sym wanted, omega (arith, both.1, far))

    sorted_at : (j k : ℕ) (s t : Stop) → j < k → IsPlace stops (stop_of p.vdevs v) j s → IsPlace stops (stop_of p.vdevs v) k t → ComesBefore p s.vdev t.vdev
    sorted_at j k s t lt (before a la) (before c lc) = has.sorted j k s t lt a c
    sorted_at j k s t lt (before a la) (last e f) = subst (λ (x : Stop). ComesBefore p s.vdev x.vdev) e (before_it s.vdev (has.each j s a).1.0)
    sorted_at j k s t lt (last e f) (before c lc) = absurd (omega (arith, f, lc, lt))
    sorted_at j k s t lt (last e f) (last g h) = absurd (omega (arith, f, h, lt))

    pub taken_in : HasStops p (IsTaken p b (n + 1)) added
    taken_in = record {
      each = λ k s at. each_at k s (place_of stops (stop_of p.vdevs v) k s at);
      all = by_taken;
      sorted = λ j k s t lt a c. sorted_at j k s t lt (place_of stops (stop_of p.vdevs v) j s a) (place_of stops (stop_of p.vdevs v) k t c);
    }

  -- one that may be wanted
  abbrev IsWanted : Type 0
  IsWanted = ((row_at p.vdevs v).class ≡ p.class) × (holds p v ≡ b)

  pub room : IsWanted → length stops < 16
  room wanted =
      let more : HasStops p (IsTaken p b (n + 1)) (stops ++ stop_of p.vdevs v ∷ []) = taken_in (within, wanted.0) wanted.1 in
      omega (arith, few_stops p (IsTaken p b (n + 1)) (stops ++ stop_of p.vdevs v ∷ []) more, length_push stops (stop_of p.vdevs v), is.vdevs.count.most)

  pub step_on : (wanted : Bool) → (IsTrue wanted ↔ IsWanted) → HasStops p (IsTaken p b (n + 1)) (cond wanted (stops ++ stop_of p.vdevs v ∷ []) stops)
  step_on true when = taken_in (within, (when.0 refl).0) (when.0 refl).1
  step_on false when = passed_over (λ vdev same. clash false (when.1 (vdev.1, same)) refl)

-- other words for which vdevs have stops
pub renamed : (p : Plan) (P Q : ℕ → Type 0) (stops : List Stop) → ((v : ℕ) → IsVdev p v → P v → Q v) → ((v : ℕ) → IsVdev p v → Q v → P v) → HasStops p P stops → HasStops p Q stops
renamed p P Q stops to from has = record {
  each = λ k s at. let e = has.each k s at in (e.0, (to s.vdev e.0 e.1.0, e.1.1));
  all = λ v vdev q. has.all v vdev (from v vdev q);
  sorted = has.sorted;
}

-- no vdev
pub none_yet : (p : Plan) → HasStops p (IsTaken p false 0) []
none_yet p = record {
  each = λ k s at. cc;
  all = λ v vdev taken. absurd (nothing v taken);
  sorted = λ j k s t lt a c. cc;
} where
  nothing : (v : ℕ) → IsTaken p false 0 v → ⊥
  nothing v (inl both) = clash false both.1 refl
  nothing v (inr both) = omega (arith, both.1)

-- all that hold no earlier copy
pub half_way : (p : Plan) (stops : List Stop) → IsPlan p → HasStops p (IsTaken p false (length p.vdevs)) stops → HasStops p (IsTaken p true 0) stops
half_way p stops is has = renamed p (IsTaken p false (length p.vdevs)) (IsTaken p true 0) stops (λ v vdev t. to v t) (λ v vdev t. from v vdev t) has where
  to : (v : ℕ) → IsTaken p false (length p.vdevs) v → IsTaken p true 0 v
  to v (inl both) = inl (both.0, refl)
  to v (inr both) = inl (both.0, refl)

  from : (v : ℕ) → IsVdev p v → IsTaken p true 0 v → IsTaken p false (length p.vdevs) v
  from v vdev (inl both) = inr (both.0, distance_within p v is.rotor.0 vdev.0)
  from v vdev (inr both) = absurd (omega (arith, both.1))

pub all_taken : (p : Plan) (stops : List Stop) → IsPlan p → HasStops p (IsTaken p true (length p.vdevs)) stops → IsRoute p stops
all_taken p stops is has = renamed p (IsTaken p true (length p.vdevs)) (λ _. ⊤) stops (λ v vdev t. tt) (λ v vdev t. taken v vdev (holds p v) refl) has where
  taken : (v : ℕ) → IsVdev p v → (b : Bool) → holds p v ≡ b → IsTaken p true (length p.vdevs) v
  taken v vdev false e = inl (e, refl)
  taken v vdev true e = inr (e, distance_within p v is.rotor.0 vdev.0)
