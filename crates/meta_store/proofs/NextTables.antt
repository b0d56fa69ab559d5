-- The table of the next group is one, and the words that it names stay where nothing is written over them.
use Rattle.std.proofs.Common.{◌≡◌, inl, inr, ℕ, ◌+◌, ◌-◌, ◌*◌, ◌++◌, length-append, ◌<◌, ◌≤◌, ◌^◌, List, [], ◌∷◌, length, map, get_or, refl, sym, ◌∙◌, ap, subst, arith}
use Rattle.std.specs.Prelude.{min, fold}
use Rattle.std.specs.List.{All}
use Rattle.std.proofs.lemmas.Bool.{cases_lt}
use Rattle.std.proofs.lemmas.List.{get_or_append_left, get_or-append_right}
use Rattle.std.proofs.lemmas.List.Elements.{All-append, All-cons, All-head, All-nil, All-tail}
use Rattle.zms_dev.specs.Bytes.{byte, Holds, Outside, Torn}
use Rattle.zms_dev.specs.Disk.{DiskState}
use Rattle.zms_dev.specs.Runs.{Spares, Untouched}
use Rattle.zms_dev.proofs.Resting.{rests_spares}
use Rattle.zms_dev.proofs.Sparing.{spares_less, spares_then}
use Rattle.zms_units.specs.declared.places.MsId.{MsId}
use Rattle.zms_units.specs.declared.segments.Group.{Group}
use Rattle.zms_units.specs.declared.segments.Seg.{Seg}
use Rattle.vdev_map.specs.Numbers.{IsIn, number_of}
use Rattle.vdev_map.specs.Places.{room_of, row_place, table_place, metaslabs_place, len_of as piece_len}
use Rattle.vdev_map.specs.Tables.{IsTable, ms_row_at}
use Rattle.vdev_map.specs.declared.layout.Batch.{Batch}
use Rattle.vdev_map.specs.declared.layout.Form.{Form}
use Rattle.vdev_map.specs.declared.layout.Form.TheVariants.{Whole}
use Rattle.vdev_map.specs.declared.layout.Head.{Head}
use Rattle.vdev_map.specs.declared.table.MsRow.{MsRow}
use Rattle.vdev_map.specs.declared.table.Table.{Table}
use Rattle.vdev_map.specs.declared.places.Piece.TheVariants.{WholeSlot}
use Rattle.vdev_map.proofs.Apart.{is_apart}
use Rattle.vdev_map.proofs.InOrder.{one_number}
use Rattle.uber_ring.specs.Encoding.{len_of}
use Rattle.uber_ring.specs.Numbers.{number_at}
use Rattle.uber_ring.proofs.Pieces.{number_moved}
use Rattle.meta_store.specs.Batches.{AreBatches}
use Rattle.meta_store.specs.Heads.{IsWholeLimits}
use Rattle.meta_store.specs.NextGroups.{IsNextTable, IsSpared, OffWords}
use Rattle.meta_store.specs.NextRows.{AreNextRows, HasNextRows, row_among}
use Rattle.meta_store.specs.Causes.{ShowsDamage}
use Rattle.meta_store.specs.CommitFaults.{IsCommitFault}
use Rattle.meta_store.specs.declared.commit_faults.CommitFault.{CommitFault}
use Rattle.meta_store.specs.declared.commit_faults.CommitFault.TheVariants.{Failed, Memory, Damaged}
use Rattle.meta_store.specs.NextWords.{allocs_of, frees_of, side_place, AreNextWords, HasNextWords, IsNextRow}
use Rattle.meta_store.specs.Words.{row_of, units_of, words_at, words_in, AreHeldRuns}
use Rattle.meta_store.proofs.BatchOrder.{all_changes}
use Rattle.meta_store.proofs.RowPlaces.{has_row}
use Rattle.meta_store.proofs.WordsAt.{words_at_same, words_at_from, get-words_at}

-- the least of numbers that are all the same
pub least_same : (a : ℕ) (rows : List MsRow) → All (λ (row : MsRow). (row.unflushed.0 ≡ a) × (row.side ≡ 0)) rows → fold min a (map (λ (row : MsRow). row.unflushed.0) rows) ≡ a
least_same a [] all = refl
least_same a (row ∷ rows) all =
    let first = All-head (λ (row : MsRow). (row.unflushed.0 ≡ a) × (row.side ≡ 0)) row rows all in
    let same : min a row.unflushed.0 ≡ a = omega (arith, first.0) in
    ap (λ (n : ℕ). fold min n (map (λ (row : MsRow). row.unflushed.0) rows)) same ∙ least_same a rows (All-tail (λ (row : MsRow). (row.unflushed.0 ≡ a) × (row.side ≡ 0)) row rows all)

-- the words of the next group stay where a run spares them
pub words_torn : (safe : ℕ → Type 0) (old mid new : List ℕ) (head : Head) (table : Table) (group : Group) (id : MsId) (allocs frees : List Seg) (n : ℕ) → Torn safe mid new
    → ((p : ℕ) → side_place head table id group ≤ p → p < side_place head table id group + 8 * n → safe p) → HasNextWords old mid head table group id allocs frees n → HasNextWords old new head table group id allocs frees n
words_torn safe old mid new head table group id allocs frees n torn spared has = record {
  words = subst (λ (words : List ℕ). AreNextWords old table group.0 id allocs frees words) (sym (words_at_same mid new (side_place head table id group) n (λ p low high. torn.same p (omega (arith, has.lies)) (spared p low high)))) has.words;
  some = has.some;
  lies = omega (arith, has.lies, torn.no_shorter);
}

module _ (head : Head) (table : Table) (limits : IsWholeLimits head) (fits : IsTable head table) (batches : List Batch) (are : AreBatches table batches) (group : Group) (next : group.0 ≡ table.group.0 + 1) (named : group.0 < 2 ^ 50)
    (rows : List MsRow) (made : AreNextRows table group.0 batches (length table.rows) rows) where
  abbrev made_table : Table
  made_table = record { group = group; vdevs = table.vdevs; logs = []; rows = rows }

  flushed_at : (m : ℕ) → m < length rows → ((ms_row_at made_table m).unflushed.0 ≡ group.0 + 1) × ((ms_row_at made_table m).side ≡ 0)
  flushed_at m lt = made.flushed m _ lt

  module _ (m : ℕ) (id : MsId) (in_ : IsIn table.vdevs id) (is : number_of table.vdevs id ≡ m) where
    row_here : IsNextRow table group.0 id (allocs_of batches id) (frees_of batches id) (ms_row_at made_table m)
    row_here = subst (λ (k : ℕ). IsNextRow table group.0 id (allocs_of batches id) (frees_of batches id) (ms_row_at made_table k)) is (made.each id in_ (has_row head table fits id in_))

    old_place : (row_of table id).place ≡ row_place head table.vdevs id
    old_place = fits.places (number_of table.vdevs id) (has_row head table fits id in_) id in_ refl

    old_held : (row_of table id).held ≤ units_of table id
    old_held = fits.held (number_of table.vdevs id) (has_row head table fits id in_) id in_ refl

    new_held : (ms_row_at made_table m).held ≤ units_of table id
    new_held = let changes = all_changes table batches id are.each old_held in omega (arith, row_here.held, changes.most)

    new_words : (ms_row_at made_table m).words ≤ room_of head.form (units_of table id)
    new_words = subst (λ (form : Form). (ms_row_at made_table m).words ≤ room_of form (units_of table id)) (sym limits.whole) (omega (arith, row_here.words))

  made_fits : IsTable head made_table
  made_fits = record {
    group = record { least = let was = fits.group.least in omega arith; last = named };
    vdevs = fits.vdevs;
    metaslab_rows = record { most = omega (arith, made.count, fits.metaslab_rows.most); one_each = made.count ∙ fits.metaslab_rows.one_each };
    log_count = omega (arith, least_same (group.0 + 1) rows made.flushed);
    shifts = fits.shifts;
    units = fits.units;
    metaslabs = fits.metaslabs;
    log_groups = λ l lt. absurd (omega arith);
    log_words = λ l lt. absurd (omega arith);
    places = λ m lt id in_ is. let row = row_here m id in_ is in row.place ∙ old_place m id in_ is;
    words = λ m lt id in_ is. new_words m id in_ is;
    unflushed = λ m lt. let row = flushed_at m lt in record { least = let was = fits.group.least in omega (arith, row.0); due = omega (arith, row.0); most = omega (arith, row.0); whole = λ is. row.0 };
    held = λ m lt id in_ is. new_held m id in_ is;
    sides = λ m lt. let row = flushed_at m lt in record { most = omega (arith, row.1); whole = λ is. row.1 };
  }

  pub is_next_table : IsNextTable head table batches made_table
  is_next_table = record { fits = made_fits; group = next; vdevs = refl; rows = λ id in_. made.each id in_ (has_row head table fits id in_) }

  pub made_len : len_of made_table ≤ 262144
  made_len = let vdevs = fits.vdevs.count.most in omega (arith, made.count, fits.metaslab_rows.most)

-- words that were written at their place
pub words_written : (old new : List ℕ) (head : Head) (table : Table) (group : Group) (id : MsId) (allocs frees : List Seg) (words slice other : List ℕ) (at n : ℕ) → AreNextWords old table group.0 id allocs frees words
    → 0 < length words → slice ≡ words → other ≡ words → n ≡ length other → at ≡ side_place head table id group → words_at new at (length slice) ≡ slice → at + 8 * length slice ≤ length new
    → HasNextWords old new head table group id allocs frees n
words_written old new head table group id allocs frees words slice other at n are some first second count place written lies =
    let same : n ≡ length slice = count ∙ ap length (second ∙ sym first) in
    let here : words_at new (side_place head table id group) n ≡ words = ap (λ (p : ℕ). words_at new p n) (sym place) ∙ ap (λ (k : ℕ). words_at new at k) same ∙ written ∙ first in
    record {
      words = subst (λ (w : List ℕ). AreNextWords old table group.0 id allocs frees w) (sym here) are;
      some = omega (arith, same, ap length first, some);
      lies = omega (arith, same, place, lies);
    }

-- a run that only reads, and then one write inside a piece
pub side_spares : (old mid new : DiskState) (at n place len : ℕ) → at ≡ place → n ≤ len → Untouched old mid → Spares (Outside at n) mid new → Spares (Outside place len) old new
side_spares old mid new at n place len is few rests run =
    spares_then (Outside place len) old mid new (rests_spares old mid (Outside place len) rests)
    (spares_less (Outside at n) mid new (Outside place len) (λ p out le. omega (arith, is, few, out)) run)

-- words read again from the bytes that were written
pub words_held : (a b : List ℕ) (at : ℕ) (bytes words : List ℕ) → Holds a at bytes b → length bytes ≡ 8 * length words → words_at bytes 0 (length words) ≡ words → words_at b at (length words) ≡ words
words_held a b at bytes words holds len said =
    sym (words_at_from b at (length words) words refl
    (λ k lt.
    let here : number_at bytes (0 + 8 * k) 8 ≡ number_at b (at + 8 * k) 8 =
    number_moved b bytes (0 + 8 * k) (at + 8 * k) 8
    (λ j small.
    let one : 0 + 8 * k + j ≡ 8 * k + j = omega arith in
    let two : at + (8 * k + j) ≡ at + 8 * k + j = omega arith in
    ap (λ (i : ℕ). byte bytes i) one ∙ sym (holds.inside (8 * k + j) (omega arith)) ∙ ap (λ (i : ℕ). byte b i) two) in
    ap (λ (w : List ℕ). get_or w k 0) (sym said) ∙ get-words_at bytes 0 (length words) k lt ∙ here))

-- no rows at first
pub next_rows_none : (table : Table) (group : ℕ) (batches : List Batch) (rows : List MsRow) → rows ≡ [] → AreNextRows table group batches 0 rows
next_rows_none table group batches rows none = record {
  count = ap length none;
  flushed = subst (λ (r : List MsRow). All (λ (row : MsRow). (row.unflushed.0 ≡ group + 1) × (row.side ≡ 0)) r) (sym none) (All-nil (λ (row : MsRow). (row.unflushed.0 ≡ group + 1) × (row.side ≡ 0)));
  each = λ id in_ lt. absurd (omega arith);
}

-- one row more
module _ (table : Table) (rows : List MsRow) (row : MsRow) (n : ℕ) (count : length rows ≡ n) (id : MsId) (in_ : IsIn table.vdevs id) (number : number_of table.vdevs id ≡ n) where
  abbrev none_row : MsRow
  none_row = record { place = 0; words = 0; unflushed = record { 0 = 0 }; held = 0; side = 0 }

  earlier_row : (other : MsId) → number_of table.vdevs other < n → row_among (rows ++ row ∷ []) table.vdevs other ≡ row_among rows table.vdevs other
  earlier_row other lt = get_or_append_left rows (row ∷ []) none_row (number_of table.vdevs other) (omega arith)

  own_row : row_among (rows ++ row ∷ []) table.vdevs id ≡ row
  own_row = get_or-append_right rows (row ∷ []) n (number_of table.vdevs id) none_row count (omega arith) ∙ ap (λ (k : ℕ). get_or (row ∷ []) k none_row) (let e : number_of table.vdevs id - n ≡ 0 = omega arith in e)

  same_id : (other : MsId) → IsIn table.vdevs other → n ≤ number_of table.vdevs other → number_of table.vdevs other < n + 1 → other ≡ id
  same_id other other_in low high = one_number table.vdevs id other in_ other_in (let e : number_of table.vdevs other ≡ number_of table.vdevs id = omega arith in e)

  pub next_rows_more : (group : ℕ) (batches : List Batch) → AreNextRows table group batches n rows → IsNextRow table group id (allocs_of batches id) (frees_of batches id) row → AreNextRows table group batches (n + 1) (rows ++ row ∷ [])
  next_rows_more group batches was here = record {
    count = omega (arith, length-append rows (row ∷ []), count);
    flushed = All-append (λ (r : MsRow). (r.unflushed.0 ≡ group + 1) × (r.side ≡ 0)) rows (row ∷ []) was.flushed
        (All-cons (λ (r : MsRow). (r.unflushed.0 ≡ group + 1) × (r.side ≡ 0)) row [] (here.unflushed, here.side) (All-nil (λ (r : MsRow). (r.unflushed.0 ≡ group + 1) × (r.side ≡ 0))));
    each = λ other other_in lt. elim (cases_lt (number_of table.vdevs other) n) [
      | inl below ↦ subst (λ (r : MsRow). IsNextRow table group other (allocs_of batches other) (frees_of batches other) r) (sym (earlier_row other below)) (was.each other other_in below)
      | inr at_it ↦
          subst (λ (i : MsId). IsNextRow table group i (allocs_of batches i) (frees_of batches i) (row_among (rows ++ row ∷ []) table.vdevs i)) (sym (same_id other other_in at_it lt))
          (subst (λ (r : MsRow). IsNextRow table group id (allocs_of batches id) (frees_of batches id) r) (sym own_row) here)
    ];
  }

  pub next_words_more : (old mid new : List ℕ) (head : Head) (group : Group) (batches : List Batch) → head.form ≡ Whole → HasNextRows old mid head table group batches n rows
      → Torn (Outside (side_place head table id group) (piece_len head table.vdevs (WholeSlot id group))) mid new
      → IsTable head table → ((other : MsId) → IsIn table.vdevs other → number_of table.vdevs other < n → (row_among rows table.vdevs other).words ≤ units_of table other + 64)
      → HasNextWords old new head table group id (allocs_of batches id) (frees_of batches id) row.words → HasNextRows old new head table group batches (n + 1) (rows ++ row ∷ [])
  next_words_more old mid new head group batches whole was torn fits few here other other_in lt = elim (cases_lt (number_of table.vdevs other) n) [
    | inl below ↦
        let words = (row_among rows table.vdevs other).words in
        let most : words ≤ units_of table other + 64 = few other other_in below in
        let apart = is_apart head table.vdevs (WholeSlot id group) (side_place head table id group) (piece_len head table.vdevs (WholeSlot id group)) (whole, in_) refl refl (WholeSlot other group) (whole, other_in)
        (λ same. absurd (let e : number_of table.vdevs id ≡ number_of table.vdevs other = ap (number_of table.vdevs) same.0 in omega arith)) in
        let off : (p : ℕ) → side_place head table other group ≤ p → p < side_place head table other group + 8 * words → Outside (side_place head table id group) (piece_len head table.vdevs (WholeSlot id group)) p =
        λ p low high. elim apart [ inl under ↦ λ le. omega arith | inr over ↦ λ le. absurd (omega arith) ] in
        subst (λ (r : MsRow). HasNextWords old new head table group other (allocs_of batches other) (frees_of batches other) r.words) (sym (earlier_row other below))
        (words_torn (Outside (side_place head table id group) (piece_len head table.vdevs (WholeSlot id group))) old mid new head table group other (allocs_of batches other) (frees_of batches other) words torn off (was other other_in below))
    | inr at_it ↦
        subst (λ (i : MsId). HasNextWords old new head table group i (allocs_of batches i) (frees_of batches i) (row_among (rows ++ row ∷ []) table.vdevs i).words) (sym (same_id other other_in at_it lt))
        (subst (λ (r : MsRow). HasNextWords old new head table group id (allocs_of batches id) (frees_of batches id) r.words) (sym own_row) here)
  ]

-- what was made of other words that are the same
pub words_from : (b c : List ℕ) (image : List ℕ) (head : Head) (table : Table) (group : Group) (id : MsId) (allocs frees : List Seg) (n : ℕ) → words_in c table id ≡ words_in b table id
    → HasNextWords c image head table group id allocs frees n → HasNextWords b image head table group id allocs frees n
words_from b c image head table group id allocs frees n same has =
    let w = has.words in
    record {
      words = record { held = w.held; free = w.free; was = subst (λ (words : List ℕ). AreHeldRuns words (units_of table id) w.held) same w.was; count = w.count; left = w.left; are = w.are };
      some = has.some;
      lies = has.lies;
    }

-- and a fault that they show
pub fault_from : (b c : List ℕ) (table : Table) → ((id : MsId) → IsIn table.vdevs id → words_in c table id ≡ words_in b table id) → (fault : CommitFault) → IsCommitFault c table fault → IsCommitFault b table fault
fault_from b c table same Failed shows = tt
fault_from b c table same Memory shows = tt
fault_from b c table same (Damaged id damage) shows = (shows.0, subst (λ (words : List ℕ). ShowsDamage words (units_of table id) (row_of table id).held damage) (same id shows.0) shows.1)

-- the words lie behind the tables
pub words_off_table : (head : Head) (table : Table) → IsWholeLimits head → (old mid new : List ℕ) (group : Group) (id : MsId) (allocs frees : List Seg) (n : ℕ) (at : Group) → at ≡ group → (len most : ℕ) → len ≡ most → most ≤ 262144
    → Torn (Outside (table_place at.0) len) mid new → HasNextWords old mid head table group id allocs frees n → HasNextWords old new head table group id allocs frees n
words_off_table head table limits old mid new group id allocs frees n at same len most is few torn has =
    words_torn (Outside (table_place at.0) len) old mid new head table group id allocs frees n torn
    (λ p low high le. omega (arith, is, few, behind head limits.whole)) has
  where
    behind : (h : Head) → h.form ≡ Whole → 2232320 ≤ side_place h table id group
    behind h whole = let edge : metaslabs_place h.form h.flush h.log ≡ 2232320 = ap (λ (form : Form). metaslabs_place form h.flush h.log) whole in omega (arith, edge)

module _ (head : Head) (table : Table) (limits : IsWholeLimits head) (fits : IsTable head table) (batches : List Batch) (are : AreBatches table batches) (group : Group) (next : group.0 ≡ table.group.0 + 1) (named : group.0 < 2 ^ 50)
    (rows : List MsRow) (made : AreNextRows table group.0 batches (length table.rows) rows) (written : Table) (is : written ≡ record { group = group; vdevs = table.vdevs; logs = []; rows = rows }) where
  -- the write of the table
  pub table_spares : (old mid new : DiskState) → Spares (OffWords head table.vdevs group) old mid → Spares (Outside (table_place written.group.0) (len_of written)) mid new → Spares (IsSpared head table.vdevs group) old new
  table_spares old mid new first second =
      let few : len_of written ≤ 262144 = subst (λ (t : Table). len_of t ≤ 262144) (sym is) (made_len head table limits fits batches are group next named rows made) in
      let place : table_place written.group.0 ≡ table_place group.0 = ap (λ (t : Table). table_place t.group.0) is in
      spares_then (IsSpared head table.vdevs group) old mid new
      (spares_less (OffWords head table.vdevs group) old mid (IsSpared head table.vdevs group) (λ p spared. spared.words) first)
      (spares_less (Outside (table_place written.group.0) (len_of written)) mid new (IsSpared head table.vdevs group) (λ p spared le.
      let low : table_place group.0 ≤ p = omega (arith, place, le) in
      let out : table_place group.0 + 262144 ≤ p = spared.table low in
      omega (arith, few, place, out)) second)
