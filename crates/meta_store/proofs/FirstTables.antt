-- The rows of the first group's table, one by one, and the table that they make.
use Rattle.std.proofs.Common.{◌≡◌, inl, inr, ℕ, ◌+◌, ◌-◌, ◌*◌, ◌<◌, ◌≤◌, List, [], ◌∷◌, ◌++◌, length, take, get_or, refl, sym, ◌∙◌, ap, subst, arith, length-append}
use Rattle.std.specs.List.{All}
use Rattle.std.proofs.lemmas.Bool.{cases_lt}
use Rattle.std.proofs.lemmas.List.{get_or_append_left, get_or-append_right}
use Rattle.std.proofs.lemmas.List.Elements.{All-append, All-cons, All-nil}
use Rattle.std.proofs.lemmas.List.Sums.{sum_by-take-le}
use Rattle.zms_units.specs.declared.places.MsId.{MsId}
use Rattle.zms_units.specs.declared.places.VdevRow.{VdevRow}
use Rattle.vdev_map.specs.Limits.{IsLayout}
use Rattle.vdev_map.specs.Numbers.{IsIn, number_of, metaslabs_in, units_in}
use Rattle.vdev_map.specs.Tables.{IsTable, ms_row_at, first_log}
use Rattle.vdev_map.specs.declared.layout.Head.{Head}
use Rattle.vdev_map.specs.declared.layout.Layout.{Layout}
use Rattle.vdev_map.specs.declared.table.MsRow.{MsRow}
use Rattle.vdev_map.specs.declared.table.Table.{Table}
use Rattle.vdev_map.proofs.InOrder.{before_within, one_number}
use Rattle.meta_store.specs.Creates.{IsFirstTable}
use Rattle.meta_store.specs.FirstGroups.{first_row, AreFirstRows}
use Rattle.meta_store.specs.Heads.{head_of}
use Rattle.meta_store.specs.NextRows.{row_among}
use Rattle.meta_store.specs.Words.{row_of}
use Rattle.meta_store.proofs.NextTables.{least_same}

abbrev IsFlushed : MsRow → Type 0
IsFlushed row = (row.unflushed.0 ≡ 5) × (row.side ≡ 0)

pub first_rows_none : (head : Head) (vdevs : List VdevRow) (rows : List MsRow) → rows ≡ [] → AreFirstRows head vdevs 0 rows
first_rows_none head vdevs rows none = record {
  count = ap length none;
  flushed = subst (λ (r : List MsRow). All IsFlushed r) (sym none) (All-nil IsFlushed);
  each = λ id in_ lt. absurd (omega arith);
}

-- one row more
module _ (head : Head) (vdevs : List VdevRow) (rows : List MsRow) (n : ℕ) (was : AreFirstRows head vdevs n rows) (id : MsId) (in_ : IsIn vdevs id) (number : number_of vdevs id ≡ n) where
  abbrev none_row : MsRow
  none_row = record { place = 0; words = 0; unflushed = record { 0 = 0 }; held = 0; side = 0 }

  abbrev row : MsRow
  row = first_row head vdevs id

  earlier_row : (other : MsId) → number_of vdevs other < n → row_among (rows ++ row ∷ []) vdevs other ≡ row_among rows vdevs other
  earlier_row other lt = get_or_append_left rows (row ∷ []) none_row (number_of vdevs other) (omega (arith, was.count))

  own_row : row_among (rows ++ row ∷ []) vdevs id ≡ row
  own_row = get_or-append_right rows (row ∷ []) n (number_of vdevs id) none_row was.count (omega arith) ∙ ap (λ (k : ℕ). get_or (row ∷ []) k none_row) (let e : number_of vdevs id - n ≡ 0 = omega arith in e)

  same_id : (other : MsId) → IsIn vdevs other → n ≤ number_of vdevs other → number_of vdevs other < n + 1 → other ≡ id
  same_id other other_in low high = one_number vdevs id other in_ other_in (let e : number_of vdevs other ≡ number_of vdevs id = omega arith in e)

  pub first_rows_more : AreFirstRows head vdevs (n + 1) (rows ++ row ∷ [])
  first_rows_more = record {
    count = omega (arith, length-append rows (row ∷ []), was.count);
    flushed = All-append IsFlushed rows (row ∷ []) was.flushed (All-cons IsFlushed row [] (refl, refl) (All-nil IsFlushed));
    each = λ other other_in lt. elim (cases_lt (number_of vdevs other) n) [
      | inl below ↦ earlier_row other below ∙ was.each other other_in below
      | inr at_it ↦ subst (λ (i : MsId). row_among (rows ++ row ∷ []) vdevs i ≡ first_row head vdevs i) (sym (same_id other other_in at_it lt)) own_row
    ];
  }

-- the table of these rows
module _ (layout : Layout) (limits : IsLayout layout) (rows : List MsRow) (are : AreFirstRows (head_of layout) layout.vdevs (metaslabs_in layout.vdevs) rows) where
  abbrev made : Table
  made = record { group = record { 0 = 4 }; vdevs = layout.vdevs; logs = []; rows = rows }

  row_here : (m : ℕ) (id : MsId) → IsIn layout.vdevs id → number_of layout.vdevs id ≡ m → ms_row_at made m ≡ first_row (head_of layout) layout.vdevs id
  row_here m id in_ is =
      subst (λ (k : ℕ). ms_row_at made k ≡ first_row (head_of layout) layout.vdevs id) is
      (are.each id in_ (let within : number_of layout.vdevs id + 1 ≤ metaslabs_in layout.vdevs = before_within (λ _. 1) layout.vdevs id in_ in omega arith))

  row_is : (id : MsId) → IsIn layout.vdevs id → row_of made id ≡ first_row (head_of layout) layout.vdevs id
  row_is id in_ = row_here (number_of layout.vdevs id) id in_ refl

  flushed_at : (m : ℕ) → m < length rows → IsFlushed (ms_row_at made m)
  flushed_at m lt = are.flushed m _ lt

  fits : IsTable (head_of layout) made
  fits = record {
    group = record { least = omega arith; last = omega arith };
    vdevs = record { count = limits.vdevs.count; normal = limits.vdevs.normal };
    metaslab_rows = record { most = omega (arith, are.count, limits.vdevs.metaslabs_in_all); one_each = are.count };
    log_count = let least : first_log made ≡ 5 = least_same 5 rows are.flushed in omega arith;
    shifts = limits.vdevs.shifts;
    units = λ v lt. record { each = limits.vdevs.units v lt; so_far = let part : units_in (take (v + 1) layout.vdevs) ≤ units_in layout.vdevs = sum_by-take-le (λ (row : VdevRow). row.metaslabs * row.units) layout.vdevs (v + 1) in omega (arith, limits.vdevs.units_in_all) };
    metaslabs = limits.vdevs.metaslabs;
    log_groups = λ l lt. absurd (omega arith);
    log_words = λ l lt. absurd (omega arith);
    places = λ m lt id in_ is. ap (λ (row : MsRow). row.place) (row_here m id in_ is);
    words = λ m lt id in_ is. let none : (ms_row_at made m).words ≡ 0 = ap (λ (row : MsRow). row.words) (row_here m id in_ is) in omega arith;
    unflushed = λ m lt. let row = flushed_at m lt in record { least = omega (arith, row.0); due = omega (arith, row.0, limits.flush.least); most = omega (arith, row.0); whole = λ is. row.0 };
    held = λ m lt id in_ is. let none : (ms_row_at made m).held ≡ 0 = ap (λ (row : MsRow). row.held) (row_here m id in_ is) in omega arith;
    sides = λ m lt. let row = flushed_at m lt in record { most = omega (arith, row.1); whole = λ is. row.1 };
  }

  pub is_first_table : IsFirstTable layout made
  is_first_table = record {
    fits = fits;
    group = refl;
    vdevs = refl;
    logs = refl;
    words = λ id in_. ap (λ (row : MsRow). row.words) (row_is id in_);
    held = λ id in_. ap (λ (row : MsRow). row.held) (row_is id in_);
  }
