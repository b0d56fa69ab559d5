-- The rows that the bytes of a table say.
use Rattle.std.proofs.Common.{◌≡◌, inl, inr, ℕ, ◌+◌, ◌*◌, ◌<◌, ◌≤◌, min, List, length, take, map, fold, get_or, refl, sym, ◌∙◌, ap, subst, arith}
use Rattle.std.specs.Prelude.{◌==◌, if◌then◌else◌}
use Rattle.std.proofs.lemmas.List.{take-map, length-map, get_or-map}
use Rattle.std.proofs.lemmas.List.Sums.{fold_more}
use Rattle.std.proofs.lemmas.Bool.{cases_eq, ne_eqb}
use Rattle.std.proofs.lemmas.List.FromFn.{get_or-map-range_with_len, length-map-range_with_len}
use Rattle.zms_units.specs.declared.places.Class.{Class}
use Rattle.zms_units.specs.declared.places.Class.TheVariants.{Normal, Log, Special, Dedup}
use Rattle.zms_units.specs.declared.places.VdevRow.{VdevRow}
use Rattle.std.proofs.lemmas.List.Sums.{sum_by_more, sum_by-take-le}
use Rattle.zms_units.specs.declared.places.MsId.{MsId}
use Rattle.vdev_map.specs.Limits.{HasNormal, IsUnits}
use Rattle.vdev_map.specs.Numbers as Vdevs
use Rattle.vdev_map.specs.Numbers.{IsIn}
use Rattle.vdev_map.specs.Tables.{AreUnitsOf, OfMetaslab, IsPlace, IsWords, IsHeld, log_row_at, ms_row_at}
use Rattle.vdev_map.specs.Places.{room_of, row_place}
use Rattle.vdev_map.specs.declared.layout.Head.{Head}
use Rattle.vdev_map.proofs.InOrder.{one_number}
use Rattle.vdev_map.specs.declared.table.LogRow.{LogRow}
use Rattle.vdev_map.specs.declared.table.MsRow.{MsRow}
use Rattle.uber_ring.specs.Numbers.{number_at}
use Rattle.uber_ring.specs.TableBytes.{vdev_count_in, log_count_in, metaslab_count_in, vdev_at, log_at, row_at, class_of, class_number, vdev_row_in, log_row_in, ms_row_in, vdevs_in, logs_in, rows_in, table_in}

module _ (bytes : List ℕ) where
  pub length-vdevs_in : length (vdevs_in bytes) ≡ vdev_count_in bytes
  unfolding vdevs_in
  length-vdevs_in = length-map-range_with_len (λ v. vdev_row_in bytes (vdev_at v)) 0 (vdev_count_in bytes)

  pub get-vdevs_in : (v : ℕ) (d : VdevRow) → v < vdev_count_in bytes → get_or (vdevs_in bytes) v d ≡ vdev_row_in bytes (vdev_at v)
  unfolding vdevs_in
  get-vdevs_in v d lt = get_or-map-range_with_len (λ w. vdev_row_in bytes (vdev_at w)) 0 (vdev_count_in bytes) v v d lt (omega arith)

  pub length-logs_in : length (logs_in bytes) ≡ log_count_in bytes
  unfolding logs_in
  length-logs_in = length-map-range_with_len (λ l. log_row_in bytes (log_at (vdev_count_in bytes) l)) 0 (log_count_in bytes)

  pub get-logs_in : (l : ℕ) (d : LogRow) → l < log_count_in bytes → get_or (logs_in bytes) l d ≡ log_row_in bytes (log_at (vdev_count_in bytes) l)
  unfolding logs_in
  get-logs_in l d lt = get_or-map-range_with_len (λ k. log_row_in bytes (log_at (vdev_count_in bytes) k)) 0 (log_count_in bytes) l l d lt (omega arith)

  pub length-rows_in : length (rows_in bytes) ≡ metaslab_count_in bytes
  unfolding rows_in
  length-rows_in = length-map-range_with_len (λ m. ms_row_in bytes (row_at (vdev_count_in bytes) (log_count_in bytes) m)) 0 (metaslab_count_in bytes)

  pub get-rows_in : (m : ℕ) (d : MsRow) → m < metaslab_count_in bytes → get_or (rows_in bytes) m d ≡ ms_row_in bytes (row_at (vdev_count_in bytes) (log_count_in bytes) m)
  unfolding rows_in
  get-rows_in m d lt = get_or-map-range_with_len (λ k. ms_row_in bytes (row_at (vdev_count_in bytes) (log_count_in bytes) k)) 0 (metaslab_count_in bytes) m m d lt (omega arith)

-- the class of a number, and back
pub class_back : (class : Class) → class_of (class_number class) ≡ class
class_back Normal = refl
class_back Log = refl
class_back Special = refl
class_back Dedup = refl

other_class : (n : ℕ) → (n ≡ 0 → ⊥) → (if n == 0 then Normal else (if n == 1 then Log else (if n == 2 then Special else Dedup))) ≡ Normal → ⊥
other_class n ne is = elim (cases_eq n 1) [
  | inl one ↦ let at : class_of 1 ≡ Normal = ap class_of (sym one) ∙ is in cc
  | inr ne1 ↦ elim (cases_eq n 2) [
    | inl two ↦ let at : class_of 2 ≡ Normal = ap class_of (sym two) ∙ is in cc
    | inr ne2 ↦ let at : Dedup ≡ Normal = sym (rw (ne_eqb n 0 ne, ne_eqb n 1 ne1, ne_eqb n 2 ne2) refl) ∙ is in cc
  ]
]

pub normal_is_zero : (n : ℕ) → class_of n ≡ Normal → n ≡ 0
normal_is_zero n is = elim (cases_eq n 0) [ inl e ↦ e | inr ne ↦ absurd (other_class n ne is) ]

-- one more term of a least number
pub fold_min_more : {X : Type 0} (f : X → ℕ) (a : ℕ) (xs : List X) (i : ℕ) (d : X) → i < length xs → fold min a (map f (take (i + 1) xs)) ≡ min (fold min a (map f (take i xs))) (f (get_or xs i d))
fold_min_more f a xs i d lt =
    ap (λ (ys : List ℕ). fold min a ys) (sym (take-map f (i + 1) xs))
    ∙ fold_more min a (map f xs) i (f d) (omega (arith, length-map xs f))
    ∙ (λ j. min (fold min a (take-map f i xs j)) (get_or-map f xs i d (f d) lt j))

module _ (bytes : List ℕ) where
  abbrev vdevs : List VdevRow
  vdevs = vdevs_in bytes

  no_row : VdevRow
  no_row = record { class = Normal; ashift = 0; units = 0; metaslabs = 0 }

  pub class_is : (v : ℕ) → v < vdev_count_in bytes → (Vdevs.row_at vdevs v).class ≡ class_of (number_at bytes (vdev_at v) 4)
  class_is v lt = ap (λ (row : VdevRow). row.class) (get-vdevs_in bytes v _ lt)

  pub has_normal : (v : ℕ) → v < vdev_count_in bytes → number_at bytes (vdev_at v) 4 ≡ 0 → HasNormal vdevs
  has_normal v lt none = (v, (omega (arith, length-vdevs_in bytes), class_is v lt ∙ ap class_of none))

  pub has_no_normal : ((v : ℕ) → v < vdev_count_in bytes → number_at bytes (vdev_at v) 4 ≡ 0 → ⊥) → HasNormal vdevs → ⊥
  has_no_normal none has =
      let lt : has.0 < vdev_count_in bytes = omega (arith, has.1.0, length-vdevs_in bytes) in
      none has.0 lt (normal_is_zero (number_at bytes (vdev_at has.0) 4) (sym (class_is has.0 lt) ∙ has.1.1))

  pub metaslabs_more : (v : ℕ) → v < vdev_count_in bytes → Vdevs.metaslabs_in (take (v + 1) vdevs) ≡ Vdevs.metaslabs_in (take v vdevs) + number_at bytes (vdev_at v + 12) 4
  metaslabs_more v lt =
      let one = sum_by_more (λ (row : VdevRow). row.metaslabs * 1) vdevs v no_row (omega (arith, length-vdevs_in bytes)) in
      let row : (get_or vdevs v no_row).metaslabs ≡ number_at bytes (vdev_at v + 12) 4 = ap (λ (row : VdevRow). row.metaslabs) (get-vdevs_in bytes v no_row lt) in
      omega (arith, one, row)

  -- no vdev has more metaslabs than all have
  pub few_metaslabs : (v : ℕ) → v < vdev_count_in bytes → number_at bytes (vdev_at v + 12) 4 ≤ Vdevs.metaslabs_in vdevs
  few_metaslabs v lt = omega (arith, metaslabs_more v lt, sum_by-take-le (λ (row : VdevRow). row.metaslabs * 1) vdevs (v + 1))

  pub units_more : (v : ℕ) → v < vdev_count_in bytes → Vdevs.units_in (take (v + 1) vdevs) ≡ Vdevs.units_in (take v vdevs) + number_at bytes (vdev_at v + 12) 4 * number_at bytes (vdev_at v + 8) 4
  units_more v lt =
      sum_by_more (λ (row : VdevRow). row.metaslabs * row.units) vdevs v no_row (omega (arith, length-vdevs_in bytes))
      ∙ ap (λ (row : VdevRow). Vdevs.units_in (take v vdevs) + row.metaslabs * row.units) (get-vdevs_in bytes v no_row lt)

  pub least_more : (a m : ℕ) → m < metaslab_count_in bytes → fold min a (map (λ (row : MsRow). row.unflushed.0) (take (m + 1) (rows_in bytes)))
      ≡ min (fold min a (map (λ (row : MsRow). row.unflushed.0) (take m (rows_in bytes)))) (number_at bytes (row_at (vdev_count_in bytes) (log_count_in bytes) m + 16) 8)
  least_more a m lt =
      let row : MsRow = record { place = 0; words = 0; unflushed = record { 0 = 0 }; held = 0; side = 0 } in
      fold_min_more (λ (row : MsRow). row.unflushed.0) a (rows_in bytes) m row (omega (arith, length-rows_in bytes))
      ∙ ap (λ (r : MsRow). min (fold min a (map (λ (row : MsRow). row.unflushed.0) (take m (rows_in bytes)))) r.unflushed.0) (get-rows_in bytes m row lt)

  units_is : (v : ℕ) → v < vdev_count_in bytes → (Vdevs.row_at vdevs v).units ≡ number_at bytes (vdev_at v + 8) 4
  units_is v lt = ap (λ (row : VdevRow). row.units) (get-vdevs_in bytes v _ lt)

  pub units_right : (v : ℕ) → v < vdev_count_in bytes → IsUnits (number_at bytes (vdev_at v + 8) 4)
      → Vdevs.units_in (take v vdevs) + number_at bytes (vdev_at v + 12) 4 * number_at bytes (vdev_at v + 8) 4 ≤ 4194304 → AreUnitsOf vdevs v
  units_right v lt each within = record {
    each = subst IsUnits (sym (units_is v lt)) each;
    so_far = omega (arith, units_more v lt, within);
  }

  pub units_shown : (v : ℕ) → v < vdev_count_in bytes → AreUnitsOf vdevs v → IsUnits (number_at bytes (vdev_at v + 8) 4)
      × (Vdevs.units_in (take v vdevs) + number_at bytes (vdev_at v + 12) 4 * number_at bytes (vdev_at v + 8) 4 ≤ 4194304)
  units_shown v lt right = (subst IsUnits (units_is v lt) right.each, omega (arith, units_more v lt, right.so_far))

  pub log_group_is : (l : ℕ) → l < log_count_in bytes → (log_row_at (table_in bytes) l).group.0 ≡ number_at bytes (log_at (vdev_count_in bytes) l) 8
  log_group_is l lt = ap (λ (row : LogRow). row.group.0) (get-logs_in bytes l _ lt)

  pub log_words_is : (l : ℕ) → l < log_count_in bytes → (log_row_at (table_in bytes) l).words ≡ number_at bytes (log_at (vdev_count_in bytes) l + 8) 8
  log_words_is l lt = ap (λ (row : LogRow). row.words) (get-logs_in bytes l _ lt)

  pub ms_row_is : (m : ℕ) → m < metaslab_count_in bytes → ms_row_at (table_in bytes) m ≡ ms_row_in bytes (row_at (vdev_count_in bytes) (log_count_in bytes) m)
  ms_row_is m lt = get-rows_in bytes m _ lt

-- a rule on the metaslab of a number is one on the one metaslab that has it
pub of_one : (vdevs : List VdevRow) (m : ℕ) (P : MsId → Type 0) (id : MsId) → IsIn vdevs id → Vdevs.number_of vdevs id ≡ m → P id → OfMetaslab vdevs m P
of_one vdevs m P id in_ number holds other other_in same = subst P (sym (one_number vdevs id other in_ other_in (same ∙ sym number))) holds

-- the fields of the row of a metaslab, whose id has its number
module _ (bytes : List ℕ) (head : Head) (vdevs : List VdevRow) (same : vdevs ≡ vdevs_in bytes) (id : MsId) (m : ℕ) (in_ : IsIn vdevs id) (number : Vdevs.number_of vdevs id ≡ m) (lt : m < metaslab_count_in bytes) where
  abbrev row : ℕ
  row = row_at (vdev_count_in bytes) (log_count_in bytes) m

  abbrev here : MsRow
  here = ms_row_at (table_in bytes) m

  in_bytes : IsIn (vdevs_in bytes) id
  in_bytes = subst (λ (vs : List VdevRow). IsIn vs id) same in_

  number_in_bytes : Vdevs.number_of (vdevs_in bytes) id ≡ m
  number_in_bytes = subst (λ (vs : List VdevRow). Vdevs.number_of vs id ≡ m) same number

  abbrev units_here : ℕ
  units_here = (Vdevs.row_at vdevs id.vdev).units

  place_is : here.place ≡ number_at bytes row 8
  place_is = ap (λ (r : MsRow). r.place) (ms_row_is bytes m lt)

  words_is : here.words ≡ number_at bytes (row + 8) 8
  words_is = ap (λ (r : MsRow). r.words) (ms_row_is bytes m lt)

  held_is : here.held ≡ number_at bytes (row + 24) 8
  held_is = ap (λ (r : MsRow). r.held) (ms_row_is bytes m lt)

  pub unflushed_is : here.unflushed.0 ≡ number_at bytes (row + 16) 8
  unflushed_is = ap (λ (r : MsRow). r.unflushed.0) (ms_row_is bytes m lt)

  pub side_is : here.side ≡ number_at bytes (row + 32) 4
  side_is = ap (λ (r : MsRow). r.side) (ms_row_is bytes m lt)

  pub place_right : number_at bytes row 8 ≡ row_place head vdevs id → IsPlace head (table_in bytes) m
  place_right is =
      of_one (vdevs_in bytes) m (λ i. here.place ≡ row_place head (vdevs_in bytes) i) id in_bytes number_in_bytes (place_is ∙ is ∙ ap (λ (vs : List VdevRow). row_place head vs id) same)

  pub place_shown : IsPlace head (table_in bytes) m → number_at bytes row 8 ≡ row_place head vdevs id
  place_shown right = sym place_is ∙ right id in_bytes number_in_bytes ∙ sym (ap (λ (vs : List VdevRow). row_place head vs id) same)

  pub words_right : number_at bytes (row + 8) 8 ≤ room_of head.form units_here → IsWords head (table_in bytes) m
  words_right within =
      of_one (vdevs_in bytes) m (λ i. here.words ≤ room_of head.form (Vdevs.row_at (vdevs_in bytes) i.vdev).units) id in_bytes number_in_bytes
      (subst (λ (vs : List VdevRow). here.words ≤ room_of head.form (Vdevs.row_at vs id.vdev).units) same (omega (arith, words_is, within)))

  pub words_shown : IsWords head (table_in bytes) m → number_at bytes (row + 8) 8 ≤ room_of head.form units_here
  words_shown right =
      let there = subst (λ (vs : List VdevRow). here.words ≤ room_of head.form (Vdevs.row_at vs id.vdev).units) (sym same) (right id in_bytes number_in_bytes) in
      omega (arith, words_is, there)

  pub held_right : number_at bytes (row + 24) 8 ≤ units_here → IsHeld (table_in bytes) m
  held_right within =
      of_one (vdevs_in bytes) m (λ i. here.held ≤ (Vdevs.row_at (vdevs_in bytes) i.vdev).units) id in_bytes number_in_bytes
      (subst (λ (vs : List VdevRow). here.held ≤ (Vdevs.row_at vs id.vdev).units) same (omega (arith, held_is, within)))

  pub held_shown : IsHeld (table_in bytes) m → number_at bytes (row + 24) 8 ≤ units_here
  held_shown right =
      let there = subst (λ (vs : List VdevRow). here.held ≤ (Vdevs.row_at vs id.vdev).units) (sym same) (right id in_bytes number_in_bytes) in
      omega (arith, held_is, there)
