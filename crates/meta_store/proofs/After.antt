-- The next group, once it is laid down and its slot is valid: it is the newest, and finds what the batches make of the
-- group before.
use Rattle.std.proofs.Common.{◌≡◌, ◌⊎◌, inl, inr, ℕ, ◌+◌, ◌*◌, ◌%◌, ◌<◌, ◌≤◌, ◌^◌, Bool, true, false, List, length, refl, sym, ◌∙◌, ap, subst, arith}
use Rattle.std.specs.Prelude.{not}
use Rattle.zms_dev.specs.Bytes.{Outside, Torn}
use Rattle.zms_dev.proofs.Sparing.{torn_then, torn_less}
use Rattle.zms_units.specs.Runs.{units_in}
use Rattle.zms_units.specs.Segments.{covered, AreSegs}
use Rattle.zms_units.specs.declared.places.MsId.{MsId}
use Rattle.zms_units.specs.declared.places.VdevRow.{VdevRow}
use Rattle.zms_units.specs.declared.segments.Group.{Group}
use Rattle.zms_units.specs.declared.segments.Seg.{Seg}
use Rattle.zms_units.proofs.Bools.{le_or, same_not}
use Rattle.zms_units.proofs.Counting.{units_same_below, rising_units}
use Rattle.zms_units.proofs.RisingSegs.{rising_above}
use Rattle.vdev_map.specs.Numbers.{IsIn, row_at}
use Rattle.vdev_map.specs.Places.{slot_place, table_place, place_of}
use Rattle.vdev_map.specs.Tables.{IsTable}
use Rattle.vdev_map.specs.declared.layout.Batch.{Batch}
use Rattle.vdev_map.specs.declared.layout.Head.{Head}
use Rattle.vdev_map.specs.declared.layout.Layout.{Layout}
use Rattle.vdev_map.specs.declared.places.Piece.TheVariants.{WholeSlot}
use Rattle.vdev_map.specs.declared.table.Table.{Table}
use Rattle.uber_ring.specs.Slots.{IsValid, IsNewest}
use Rattle.uber_ring.specs.TableFields.{HasTable}
use Rattle.uber_ring.specs.Writes.{Within}
use Rattle.uber_ring.specs.declared.slot.Uber.{Uber}
use Rattle.uber_ring.proofs.Depends.{table_agrees}
use Rattle.uber_ring.proofs.NewestSoFar.{one_in_slot}
use Rattle.uber_ring.proofs.Pieces.{bytes_at_same}
use Rattle.uber_ring.proofs.ReadTables.{one_table}
use Rattle.space_map.specs.Laws.{HoldsAllButFree}
use Rattle.space_map.specs.Replay.{Replays, is_held}
use Rattle.space_map.specs.declared.places.MapKind.TheVariants.{Side}
use Rattle.space_map.proofs.Condensing.{holds_all_but_free}
use Rattle.space_map.proofs.Deciding.{runs_certain}
use Rattle.meta_store.specs.Batches.{AreBatches, AreBacked, after, after_batches}
use Rattle.meta_store.specs.Commits.{IsAfter}
use Rattle.meta_store.specs.Groups.{HasRows, HasGroup, Contents, Finds, IsSound, layout_of}
use Rattle.meta_store.specs.Heads.{head_bytes, head_of, IsWholeHead}
use Rattle.meta_store.specs.Kept.{IsKept, LiesIn}
use Rattle.meta_store.specs.NextGroups.{IsSpared, IsNextGroup, IsLaid}
use Rattle.meta_store.specs.NextWords.{allocs_of, frees_of, is_held_after, side_place, AreNextWords, HasNextWords}
use Rattle.meta_store.specs.Stores.{RestsAt}
use Rattle.meta_store.specs.Words.{row_of, units_of, words_place, words_at, words_in, HoldUnits}
use Rattle.meta_store.specs.declared.laying.NextGroup.{NextGroup}
use Rattle.meta_store.proofs.BatchOrder.{after_is, AreBackedRuns, backed_runs, runs_lie}
use Rattle.meta_store.proofs.FoundOnce.{one_head}
use Rattle.meta_store.proofs.Keeping.{kept_back, rows_kept, same_back}
use Rattle.meta_store.proofs.NextUnits.{units_after}
use Rattle.meta_store.proofs.Retaining.{Leaves, table_group, table_fits, same_recent, keeps_groups, ring_lies, slot_ends}
use Rattle.meta_store.proofs.RowPlaces.{place_is}
use Rattle.meta_store.proofs.WordsAt.{words_at_same}

not_not : (b : Bool) → not (not b) ≡ b
not_not true = refl
not_not false = refl

module _ (layout : Layout) (table : Table) (batches : List Batch) (image mid c : List ℕ) (rests : RestsAt layout table image) (are : AreBatches table batches) (next : NextGroup)
    (is_next : IsNextGroup (head_of layout) table batches next) (named : next.table.group.0 < 2 ^ 50) (laid : IsLaid image mid (head_of layout) table batches next)
    (torn : Torn (IsSpared (head_of layout) layout.vdevs next.table.group) image mid) (opened : Torn (Outside (slot_place next.table.group.0) 1024) mid c)
    (valid : IsValid c next.uber) (others : (found : Uber) → IsValid c found → (found ≡ next.uber) ⊎ IsValid image found) where
  abbrev head : Head
  head = head_of layout

  abbrev t : Group
  t = next.table.group

  old_fits : IsTable head table
  old_fits = table_fits image rests.uber head table rests.has.rows.has_table rests.newest.valid

  old_group : table.group.0 ≡ rests.uber.group.0
  old_group = table_group image rests.uber head table rests.has.rows.has_table

  old_vdevs : table.vdevs ≡ layout.vdevs
  old_vdevs = rests.alike rests.uber head table rests.newest.valid (omega arith) rests.has.rows

  is_one_more : t.0 ≡ rests.uber.group.0 + 1
  is_one_more = omega (arith, is_next.table_is.group, old_group)

  uber_group : next.uber.group.0 ≡ t.0
  uber_group = ap (λ (g : Group). g.0) is_next.names.group

  -- what the run spares
  abbrev safe : ℕ → Type 0
  safe p = IsSpared head layout.vdevs t p × Outside (slot_place t.0) 1024 p

  wide : (p : ℕ) → Leaves head layout.vdevs refl t p → safe p
  wide p left = (left.laid, left.opened)

  whole_run : Torn safe image c
  whole_run = torn_then safe image mid c (torn_less (IsSpared head layout.vdevs t) safe image mid (λ p both. both.0) torn) (torn_less (Outside (slot_place t.0) 1024) safe mid c (λ p both. both.1) opened)

  longer : length image ≤ length c
  longer = omega (arith, torn.no_shorter, opened.no_shorter)

  -- the same from the middle on, behind the ring
  behind_ring : (p : ℕ) → 135168 ≤ p → Outside (slot_place t.0) 1024 p
  behind_ring p low le = omega arith

  -- one metaslab of it
  module _ (id : MsId) (in_ : IsIn table.vdevs id) where
    abbrev allocs : List Seg
    allocs = allocs_of batches id

    abbrev frees : List Seg
    frees = frees_of batches id

    abbrev units : ℕ
    units = units_of table id

    laid_here : HasNextWords image mid head table t id allocs frees (row_of next.table id).words
    laid_here = laid.words id in_

    abbrev nw : AreNextWords image table t.0 id allocs frees (words_at mid (side_place head table id t) (row_of next.table id).words)
    nw = laid_here.words

    next_in : IsIn next.table.vdevs id
    next_in = subst (λ (v : List VdevRow). IsIn v id) (sym is_next.table_is.vdevs) in_

    next_units : units_of next.table id ≡ units
    next_units = ap (λ (v : List VdevRow). (row_at v id.vdev).units) is_next.table_is.vdevs

    place : words_place next.table id ≡ side_place head table id t
    place = place_is head next.table is_next.table_is.fits id next_in ∙ ap (λ (v : List VdevRow). place_of head v (WholeSlot id t)) is_next.table_is.vdevs

    side_behind : 2232320 ≤ side_place head table id t
    side_behind = omega arith

    words_here : words_in c next.table id ≡ words_at mid (side_place head table id t) (row_of next.table id).words
    words_here =
        ap (λ (at : ℕ). words_at c at (row_of next.table id).words) place
        ∙ words_at_same mid c (side_place head table id t) (row_of next.table id).words
        (λ p low high. opened.same p (omega (arith, laid_here.lies)) (behind_ring p (omega (arith, side_behind))))

    units_some : 64 ≤ units
    units_some = let each = (old_fits.units id.vdev in_.vdev).each in each.least

    units_few : units < 2 ^ 32
    units_few = let each = (old_fits.units id.vdev in_.vdev).each in omega (arith, each.most)

    holds : HoldsAllButFree (words_in c next.table id) units nw.free
    holds = subst (λ (words : List ℕ). HoldsAllButFree words units nw.free) (sym (words_here ∙ nw.are)) (holds_all_but_free t.0 units nw.free named (omega (arith, units_some)) units_few nw.left.segs)

    bit : (u : ℕ) → u < units → is_held holds.found u ≡ is_held_after allocs frees u (covered nw.held u)
    bit u lt = holds.held u lt ∙ ap not (nw.left.each u lt) ∙ not_not (is_held_after allocs frees u (covered nw.held u))

    -- where the batches are backed by what was held
    module _ (backed : AreBackedRuns (covered nw.held) allocs frees) where
      count : units_in (is_held holds.found) units ≡ (row_of next.table id).held
      count =
          let lie = runs_lie table batches id are.each in
          let row = is_next.table_is.rows id in_ in
          omega (
            arith,
            units_same_below (is_held holds.found) (λ u. is_held_after allocs frees u (covered nw.held u)) units bit,
            units_after (covered nw.held) (covered allocs) (covered frees) backed.fresh backed.freed units,
            rising_units 0 units allocs lie.0,
            rising_units 0 units frees lie.1,
            rising_units 0 units nw.held nw.was.maximal.rising,
            nw.count,
            row.held,
          )

      sound : IsSound c next.table id
      sound = subst (λ (n : ℕ). HoldUnits (words_in c next.table id) n (row_of next.table id).held) (sym next_units) (record { found = holds.found; decodes = holds.decodes; held = count })

  -- some metaslab
  abbrev first_id : MsId
  first_id = record { vdev = 0; index = 0 }

  first_in : IsIn table.vdevs first_id
  first_in = let some : 0 < length table.vdevs = omega (arith, old_fits.vdevs.count.least) in record { vdev = some; index = omega (arith, old_fits.metaslabs 0 some) }

  -- the tables lie before the words of a metaslab
  tables_lie : (p : ℕ) → p < 2232320 → p < length mid
  tables_lie p lt = let here = laid_here first_id first_in in omega (arith, here.lies, side_behind first_id first_in)

  table_lies : (p : ℕ) → p < table_place next.uber.group.0 + next.uber.table_len → p < length mid
  table_lies p lt = tables_lie p (omega (arith, is_next.limits.table_len))

  -- what the group before holds
  module _ (contents : Contents) (found : Finds image table.group.0 contents) where
    same_uber : found.uber ≡ rests.uber
    same_uber = one_in_slot image found.uber rests.uber (let e : found.uber.group.0 ≡ rests.uber.group.0 = omega (arith, found.named, old_group) in ap (λ (g : ℕ). g % 128) e) found.has.valid rests.newest.valid

    same_head : found.head ≡ head
    same_head = one_head (head_bytes image) found.head head found.has.rows.has_head rests.has.rows.has_head

    same_table : found.table ≡ table
    same_table =
        one_table image head rests.uber table rests.has.rows.has_table found.table
        (subst (λ (h : Head). HasTable image h rests.uber found.table) same_head (subst (λ (u : Uber). HasTable image found.head u found.table) same_uber found.has.rows.has_table))

    abbrev FindsIn : Table → Type 0
    FindsIn rows = (id : MsId) (u : ℕ) → IsIn rows.vdevs id → u < units_of rows id → Replays (Side (units_of rows id)) (words_in image rows id) u (contents.held id u)

    finds_here : FindsIn table
    finds_here = subst FindsIn same_table found.found

    module _ (id : MsId) (in_ : IsIn table.vdevs id) where
      old_bit : (u : ℕ) → u < units_of table id → contents.held id u ≡ covered (nw id in_).held u
      old_bit u lt =
          let replays = finds_here id u in_ lt in
          let was = (nw id in_).was in
          sym replays.says ∙ ap (λ f. is_held f u) (runs_certain (Side (units_of table id)) (words_in image table id) replays.found was.found replays.decodes was.decodes)
          ∙ sym (was.maximal.whole u lt)

      module _ (backed : AreBacked contents batches) where
        below : (segs : List Seg) → (lie : AreSegs (units_of table id) segs) → (u : ℕ) → covered segs u ≡ true → u < units_of table id
        below segs lie u is = elim (le_or (units_of table id) u) [ inl past ↦ absurd (same_not is (rising_above 0 (units_of table id) segs lie u past)) | inr lt ↦ lt ]

        backed_here : AreBackedRuns (covered (nw id in_).held) (allocs_of batches id) (frees_of batches id)
        backed_here =
            let runs = backed_runs contents batches id backed in
            let lie = runs_lie table batches id are.each in
            record {
              fresh = λ u is. sym (old_bit u (below (allocs_of batches id) lie.0 u is)) ∙ runs.fresh u is;
              freed = λ u is. elim (runs.freed u is) [ inl held ↦ inl (sym (old_bit u (below (frees_of batches id) lie.1 u is)) ∙ held) | inr allocated ↦ inr allocated ];
            }

        new_bit : (u : ℕ) → u < units_of table id → is_held (holds id in_).found u ≡ after_batches batches id u (contents.held id u)
        new_bit u lt =
            bit id in_ u lt ∙ ap (λ (b : Bool). is_held_after (allocs_of batches id) (frees_of batches id) u b) (sym (old_bit u lt)) ∙ sym (after_is batches id u (contents.held id u))

    module _ (backed : AreBacked contents batches) where
      new_head : IsWholeHead (head_bytes c) head
      new_head =
          subst (λ (bytes : List ℕ). IsWholeHead bytes head)
          (sym (bytes_at_same image c 0 64 (λ p low high. let same = same_recent layout table image rests t is_one_more safe wide c whole_run rests.uber rests.newest.valid (omega arith) in same p (IsKept.head (omega arith))))) rests.has.rows.has_head

      new_table : HasTable c head next.uber next.table
      new_table = table_agrees mid c next.uber head (λ p low high. opened.same p (table_lies p high) (behind_ring p (omega arith))) next.table laid.table_is

      pub new_group : HasGroup c next.uber head next.table
      new_group = record {
        valid = valid;
        rows = record { has_head = new_head; has_table = new_table };
        sound = λ id in_. let old_in = subst (λ (v : List VdevRow). IsIn v id) is_next.table_is.vdevs in_ in sound id old_in (backed_here id old_in backed);
      }

      abbrev Says : Table → Type 0
      Says rows = (id : MsId) (u : ℕ) → IsIn rows.vdevs id → u < units_of rows id → Replays (Side (units_of rows id)) (words_in c rows id) u (after_batches batches id u (contents.held id u))

      pub new_finds : Finds c (table.group.0 + 1) (after contents batches)
      new_finds = record {
        uber = next.uber;
        head = head;
        table = next.table;
        named = omega (arith, uber_group, is_next.table_is.group);
        has = new_group;
        layout = found.layout ∙ (λ i. layout_of (same_head i) (same_table i)) ∙ ap (λ (v : List VdevRow). record { flush = layout.flush; log = layout.log; vdevs = v }) (sym is_next.table_is.vdevs);
        found = λ id u in_ lt.
            let old_in = subst (λ (v : List VdevRow). IsIn v id) is_next.table_is.vdevs in_ in
            let few : u < units_of table id = omega (arith, next_units id old_in) in
            subst (λ (n : ℕ). Replays (Side n) (words_in c next.table id) u (after_batches batches id u (contents.held id u))) (sym (next_units id old_in))
            (record { found = (holds id old_in).found; decodes = (holds id old_in).decodes; says = new_bit id old_in backed u few });
      }

  pub newest : IsNewest c next.uber
  newest = record {
    valid = valid;
    greatest = λ other is. elim (others other is) [
      | inl same ↦ let e : other.group.0 ≡ next.uber.group.0 = ap (λ (u : Uber). u.group.0) same in omega arith
      | inr was ↦ omega (arith, rests.newest.greatest other was, uber_group, is_one_more)
    ];
  }

  pub is_after : IsAfter table.group.0 batches image c
  is_after = record {
    newest = record { uber = next.uber; newest = newest; named = omega (arith, uber_group, is_next.table_is.group) };
    only = λ other is. elim (others other is) [
      | inl same ↦ inl (let e : other.group.0 ≡ next.uber.group.0 = ap (λ (u : Uber). u.group.0) same in omega (arith, uber_group, is_next.table_is.group))
      | inr was ↦ inr was
    ];
    keeps = keeps_groups layout table image rests t is_one_more safe wide c whole_run (table.group.0 + 1) (omega (arith, old_group));
    finds = λ contents found backed. new_finds contents found backed;
  }

  -- the store may go on from it
  module _ (contents : Contents) (found : Finds image table.group.0 contents) (backed : AreBacked contents batches) where
    own_head : IsWholeHead (head_bytes c) head
    own_head = new_head contents found backed

    own_table : HasTable c head next.uber next.table
    own_table = new_table contents found backed

    same_rows : (h : Head) (rows : Table) → HasRows c next.uber h rows → rows ≡ next.table
    same_rows h rows has =
        one_table c head next.uber next.table own_table rows
        (subst (λ (x : Head). HasTable c x next.uber rows) (one_head (head_bytes c) h head has.has_head own_head) has.has_table)

    words_lie : (p : ℕ) (rows : Table) (id : MsId) → rows ≡ next.table → IsIn rows.vdevs id → Within (words_place rows id) (8 * (row_of rows id).words) p → p < length c
    words_lie p rows id same in_ here =
        let there : Within (words_place next.table id) (8 * (row_of next.table id).words) p = subst (λ (r : Table). Within (words_place r id) (8 * (row_of r id).words) p) same here in
        let old_in : IsIn table.vdevs id = subst (λ (v : List VdevRow). IsIn v id) (ap (λ (r : Table). r.vdevs) same ∙ is_next.table_is.vdevs) in_ in
        let lies = laid_here id old_in in
        omega (arith, there.1, place id old_in, lies.lies, opened.no_shorter)

    new_lies : LiesIn c next.uber
    new_lies p (IsKept.head lt) = omega (arith, ring_lies layout table image rests t is_one_more p (omega arith), longer)
    new_lies p (IsKept.slot here) = omega (arith, ring_lies layout table image rests t is_one_more p (slot_ends layout table image rests t is_one_more next.uber.group p here.1), longer)
    new_lies p (IsKept.table here) = omega (arith, table_lies p here.1, opened.no_shorter)
    new_lies p (IsKept.words h rows id has in_ here) = words_lie p rows id (same_rows h rows has) in_ here

    pub rests_after : RestsAt layout next.table c
    rests_after = record {
      uber = next.uber;
      newest = newest;
      has = new_group contents found backed;
      lies = λ other is recent. elim (others other is) [
        | inl same ↦ subst (λ (u : Uber). LiesIn c u) (sym same) new_lies
        | inr was ↦
            let early : rests.uber.group.0 ≤ other.group.0 + 2 = omega (arith, uber_group, is_one_more) in
            let kept = same_recent layout table image rests t is_one_more safe wide c whole_run other was early in
            λ p k. omega (arith, rests.lies other was early p (kept_back image c other kept p k), longer)
      ];
      alike = λ other h rows is recent has. elim (others other is) [
        | inl same ↦ ap (λ (r : Table). r.vdevs) (same_rows h rows (subst (λ (u : Uber). HasRows c u h rows) same has)) ∙ is_next.table_is.vdevs ∙ old_vdevs
        | inr was ↦
            let early : rests.uber.group.0 ≤ other.group.0 + 2 = omega (arith, uber_group, is_one_more) in
            let kept = same_recent layout table image rests t is_one_more safe wide c whole_run other was early in
            rests.alike other h rows was early (rows_kept c image other (same_back image c other kept) h rows has)
      ];
    }
