-- The moments of a commit: laying the next group down, and then making it openable.
use Rattle.std.proofs.Common.{◌≡◌, ◌⊎◌, inl, inr, ℕ, ◌+◌, ◌%◌, ◌<◌, ◌^◌, List, refl, sym, ◌∙◌, ap, subst, arith}
use Rattle.zms_dev.specs.Bytes.{Outside, Same, Torn}
use Rattle.zms_dev.specs.Disk.{DiskState, Tells, bytes_of, Only}
use Rattle.zms_dev.specs.Runs.{LeavesOnly, Before, Spares}
use Rattle.zms_dev.proofs.Moments.{joined, weaker}
use Rattle.zms_dev.proofs.Sparing.{torn_then, torn_less}
use Rattle.zms_units.specs.Runs.{units_in}
use Rattle.zms_units.specs.declared.faults.Damage.{Damage}
use Rattle.zms_units.specs.declared.faults.Damage.TheVariants.{Word, Counts, Unit as UnitDiffers}
use Rattle.zms_units.specs.declared.places.VdevRow.{VdevRow}
use Rattle.zms_units.specs.declared.segments.Group.{Group}
use Rattle.vdev_map.specs.Places.{slot_place}
use Rattle.vdev_map.specs.declared.layout.Batch.{Batch}
use Rattle.vdev_map.specs.declared.layout.Head.{Head}
use Rattle.vdev_map.specs.declared.layout.Layout.{Layout}
use Rattle.vdev_map.specs.declared.table.Table.{Table}
use Rattle.uber_ring.specs.Slots.{IsValid}
use Rattle.uber_ring.specs.Writes.{Within, HasFlushed, IsOldOrNew, IsWritten}
use Rattle.uber_ring.specs.declared.slot.Uber.{Uber}
use Rattle.uber_ring.proofs.NewestSoFar.{one_in_slot}
use Rattle.space_map.specs.Replay.{is_held}
use Rattle.space_map.specs.declared.places.MapKind.TheVariants.{Side}
use Rattle.space_map.proofs.Deciding.{runs_certain, runs_show_no_fault}
use Rattle.meta_store.specs.Batches.{AreBatches, AreBacked}
use Rattle.meta_store.specs.Causes.{ShowsDamage}
use Rattle.meta_store.specs.Commits.{IsBefore, IsAfter, IsBeforeOrAfter, IsCommitted}
use Rattle.meta_store.specs.CommitFaults.{IsCommitFault, IsCommitFailure}
use Rattle.meta_store.specs.Groups.{Contents, Finds}
use Rattle.meta_store.specs.Heads.{head_of}
use Rattle.meta_store.specs.NextGroups.{IsSpared, OffWords, KeepsWords, IsNextGroup, IsLaid}
use Rattle.meta_store.specs.Stores.{RestsAt, IsAtRest}
use Rattle.meta_store.specs.Words.{row_of, units_of, words_in, HoldUnits}
use Rattle.meta_store.specs.declared.commit_faults.CommitFault.{CommitFault}
use Rattle.meta_store.specs.declared.commit_faults.CommitFault.TheVariants.{Failed, Memory, Damaged}
use Rattle.meta_store.specs.declared.laying.NextGroup.{NextGroup}
use Rattle.meta_store.proofs.After.{is_after, rests_after}
use Rattle.meta_store.proofs.Retaining.{table_group, laid_back, slot_back, before, rests_still, words_stay, ring_lies}
use Rattle.meta_store.proofs.ValidOrNot.{same_or_not, valid_or_not}

-- a run that leaves only images with P, and only images with Q
pub both_leave : (old new : DiskState) (P Q : List ℕ → Type 0) → LeavesOnly old new P → LeavesOnly old new Q → LeavesOnly old new (λ c. P c × Q c)
both_leave old new P Q first second = record {
  later = first.later;
  each = λ c left. (first.each c left, second.each c left);
  before = λ t c le left. elim (first.before t c le left) [
    | inl was ↦ inl was
    | inr p ↦ elim (second.before t c le left) [ inl was ↦ inl was | inr q ↦ inr (p, q) ]
  ];
}

-- words that hold what they should show no damage
no_damage : (words : List ℕ) (units held : ℕ) (damage : Damage) → HoldUnits words units held → ShowsDamage words units held damage → ⊥
no_damage words units held (Word fault) holds shows = runs_show_no_fault (Side units) words holds.found fault holds.decodes shows
no_damage words units held (Counts kept found) holds shows =
    let other = shows.1.0 in
    shows.1.1 (sym other.held ∙ ap (λ f. units_in (is_held f) units) (runs_certain (Side units) words other.found holds.found other.decodes holds.decodes) ∙ holds.held)
no_damage words units held (UnitDiffers u) holds shows = shows

module _ (layout : Layout) (table : Table) (batches : List Batch) (t : Group) (next_is : t.0 ≡ table.group.0 + 1) where
  abbrev head : Head
  head = head_of layout

  abbrev Spared : ℕ → Type 0
  Spared = IsSpared head layout.vdevs t

  module _ (image : List ℕ) (rests : RestsAt layout table image) where
    group_is : rests.uber.group.0 ≡ table.group.0
    group_is = sym (table_group image rests.uber head table rests.has.rows.has_table)

    one_more : t.0 ≡ rests.uber.group.0 + 1
    one_more = omega (arith, group_is, next_is)

    -- laying it down
    pub laid_before : (c : List ℕ) → Torn Spared image c → IsBefore table.group.0 image c
    laid_before c torn =
        subst (λ (g : ℕ). IsBefore g image c) group_is
        (before layout table image rests t one_more Spared (λ p left. left.laid) c torn (laid_back layout table image rests t one_more c torn))

    pub laid_rests : (c : List ℕ) → Torn Spared image c → RestsAt layout table c
    laid_rests c torn = rests_still layout table image rests t one_more Spared (λ p left. left.laid) c torn (laid_back layout table image rests t one_more c torn)

    pub keeps_words : table.vdevs ≡ layout.vdevs → KeepsWords image head table t
    keeps_words same c torn id in_ =
        words_stay layout table image rests t one_more c
        (subst (λ (v : List VdevRow). Torn (OffWords head v t) image c) same torn) id in_

    -- at rest nothing is damaged
    pub honest : (fault : CommitFault) → IsCommitFault image table fault → IsCommitFailure fault
    honest Failed shows = inl refl
    honest Memory shows = inr refl
    honest (Damaged id damage) shows = absurd (no_damage (words_in image table id) (units_of table id) (row_of table id).held damage (rests.has.sound id shows.0) shows.1)

  -- making it openable
  module _ (image mid : List ℕ) (rests : RestsAt layout table image) (are : AreBatches table batches) (next : NextGroup) (is_next : IsNextGroup head table batches next)
      (same_t : next.table.group ≡ t) (named : t.0 < 2 ^ 50) (laid : IsLaid image mid head table batches next) (torn : Torn Spared image mid) where
    own_torn : Torn (IsSpared head layout.vdevs next.table.group) image mid
    own_torn = subst (λ (g : Group). Torn (IsSpared head layout.vdevs g) image mid) (sym same_t) torn

    own_named : next.table.group.0 < 2 ^ 50
    own_named = subst (λ (g : Group). g.0 < 2 ^ 50) (sym same_t) named

    slot_is : next.uber.group.0 ≡ next.table.group.0
    slot_is = ap (λ (g : Group). g.0) is_next.names.group

    module _ (c : List ℕ) (opened : Torn (Outside (slot_place next.uber.group.0) 1024) mid c) where
      abbrev own : Group
      own = next.table.group

      own_one_more : own.0 ≡ rests.uber.group.0 + 1
      own_one_more = omega (arith, ap (λ (g : Group). g.0) same_t, one_more image rests)

      own_opened : Torn (Outside (slot_place own.0) 1024) mid c
      own_opened = subst (λ (g : ℕ). Torn (Outside (slot_place g) 1024) mid c) slot_is opened

      abbrev safe : ℕ → Type 0
      safe p = IsSpared head layout.vdevs own p × Outside (slot_place own.0) 1024 p

      run : Torn safe image c
      run = torn_then safe image mid c (torn_less (IsSpared head layout.vdevs own) safe image mid (λ p both. both.0) own_torn) (torn_less (Outside (slot_place own.0) 1024) safe mid c (λ p both. both.1) own_opened)

      -- what is valid was so before, but for the next group
      abbrev Others : Type 0
      Others = (found : Uber) → IsValid c found → (found ≡ next.uber) ⊎ IsValid image found

      others : IsOldOrNew mid next.uber c → Others
      others either found valid = elim (same_or_not (found.group.0 % 128) (next.uber.group.0 % 128)) [
        | inl same ↦ elim (either found same valid) [ inl is ↦ inl is | inr was ↦ inr (laid_back layout table image rests own own_one_more mid own_torn found was) ]
        | inr differ ↦ inr (slot_back layout table image rests own own_one_more safe (λ p left. (left.laid, left.opened)) c run found (λ same. differ (sym same ∙ ap (λ (g : ℕ). g % 128) (sym slot_is))) valid)
      ]

      valid_others : IsValid c next.uber → Others
      valid_others valid = others (λ found same is. inl (one_in_slot c found next.uber same is valid))

      after_is : IsValid c next.uber → Others → IsAfter table.group.0 batches image c
      after_is valid them = is_after layout table batches image mid c rests are next is_next own_named laid own_torn own_opened valid them

      pub either_is : IsOldOrNew mid next.uber c → IsBefore table.group.0 image c ⊎ IsAfter table.group.0 batches image c
      either_is either = elim (valid_or_not _ next.uber is_next.limits) [
        | inl valid ↦ inr (after_is valid (others either))
        | inr none ↦ inl (subst (λ (g : ℕ). IsBefore g image c) (group_is image rests)
            (before layout table image rests own own_one_more safe (λ p left. (left.laid, left.opened)) c run
            (λ found valid. elim (others either found valid) [ inl is ↦ absurd (none (subst (λ (u : Uber). IsValid c u) is valid)) | inr was ↦ was ])))
      ]

      pub valid_after : IsValid c next.uber → IsAfter table.group.0 batches image c
      valid_after valid = after_is valid (valid_others valid)

      pub valid_rests : IsValid c next.uber → (contents : Contents) → Finds image table.group.0 contents → AreBacked contents batches → RestsAt layout next.table c
      valid_rests valid contents found backed =
          rests_after layout table batches image mid c rests are next is_next own_named laid own_torn own_opened valid (valid_others valid) contents found backed

  module _ (old mid : DiskState) (at_rest : IsAtRest old layout table) (run : Spares Spared old mid) where
    pub moments_laid : LeavesOnly old mid (IsBeforeOrAfter old table.group.0 batches)
    moments_laid =
        weaker old mid (Before old Spared) (IsBeforeOrAfter old table.group.0 batches)
        (λ c from. record { old = from.0; was = from.1; either = inl (laid_before from.0 (at_rest.each from.0 from.1) c from.2) }) run.any_moment

    pub laid_at_rest : IsAtRest mid layout table
    laid_at_rest = record { tells = run.tells; each = λ c now. let from = run.images c now in laid_rests from.0 (at_rest.each from.0 from.1) c from.2 }

  module _ (old mid new : DiskState) (at_rest : IsAtRest old layout table) (reads : old.may_leave (bytes_of old)) (are : AreBatches table batches) (next : NextGroup) (is_next : IsNextGroup head table batches next)
      (same_t : next.table.group ≡ t) (named : t.0 < 2 ^ 50) (laid : IsLaid (bytes_of old) (bytes_of mid) head table batches next) (run : Spares Spared old mid) (flushed : Only (bytes_of mid) mid.may_leave)
      (opened : Spares (Outside (slot_place next.uber.group.0) 1024) mid new) where
    abbrev rests : RestsAt layout table (bytes_of old)
    rests = at_rest.each (bytes_of old) reads

    -- the slot is flushed
    pub slot_flushed : HasFlushed mid (slot_place next.uber.group.0) 1024
    slot_flushed c now =
        subst (λ (d : List ℕ). Same (Within (slot_place next.uber.group.0) 1024) (bytes_of mid) d) (sym (flushed c now))
        (record {
          lies = λ p here. omega (arith, ring_lies layout table (bytes_of old) rests t (one_more (bytes_of old) rests) p (omega (arith, here.1)), run.contents.no_shorter);
          same = λ p here. refl;
        })

    opened_torn : (c : List ℕ) → Before mid (Outside (slot_place next.uber.group.0) 1024) c → Torn (Outside (slot_place next.uber.group.0) 1024) (bytes_of mid) c
    opened_torn c from = subst (λ (d : List ℕ). Torn (Outside (slot_place next.uber.group.0) 1024) d c) (flushed from.0 from.1) from.2

    pub moments : LeavesOnly mid new (IsOldOrNew (bytes_of mid) next.uber) → LeavesOnly old new (IsBeforeOrAfter old table.group.0 batches)
    moments slot =
        joined old mid new (IsBeforeOrAfter old table.group.0 batches) (moments_laid old mid at_rest run)
        (weaker mid new _ (IsBeforeOrAfter old table.group.0 batches)
        (λ c both. record {
          old = bytes_of old;
          was = reads;
          either = either_is (bytes_of old) (bytes_of mid) rests are next is_next same_t named laid run.contents c (opened_torn c both.1) both.0;
        })
        (both_leave mid new (IsOldOrNew (bytes_of mid) next.uber) (Before mid (Outside (slot_place next.uber.group.0) 1024)) slot opened.any_moment))

    module _ (written : IsWritten (bytes_of new) next.uber) (durable : Only (bytes_of new) new.may_leave) where
      pub committed : (c : List ℕ) → new.may_leave c → IsCommitted old table.group.0 batches c
      committed c now = record {
        old = bytes_of old;
        was = reads;
        after = subst (λ (d : List ℕ). IsAfter table.group.0 batches (bytes_of old) d) (sym (durable c now))
            (valid_after (bytes_of old) (bytes_of mid) rests are next is_next same_t named laid run.contents (bytes_of new) opened.contents written.valid);
      }

      pub rests_on : (contents : Contents) → Finds (bytes_of old) table.group.0 contents → AreBacked contents batches → IsAtRest new layout next.table
      rests_on contents found backed = record {
        tells = opened.tells;
        each = λ c now.
            subst (λ (d : List ℕ). RestsAt layout next.table d) (sym (durable c now))
            (valid_rests (bytes_of old) (bytes_of mid) rests are next is_next same_t named laid run.contents (bytes_of new) opened.contents written.valid contents found backed);
      }

-- the same, said as the calls say it: of a head that is the layout's, and of the table's vdevs
module _ (layout : Layout) (table : Table) (batches : List Batch) (head : Head) (head_is : head ≡ head_of layout) (same : table.vdevs ≡ layout.vdevs) (old mid : DiskState) (at_rest : IsAtRest old layout table)
    (spares : Spares (IsSpared head table.vdevs (record { 0 = table.group.0 + 1 })) old mid) where
  abbrev t : Group
  t = record { 0 = table.group.0 + 1 }

  laid_run : Spares (IsSpared (head_of layout) layout.vdevs t) old mid
  laid_run =
      subst (λ (v : List VdevRow). Spares (IsSpared (head_of layout) v t) old mid) same
      (subst (λ (h : Head). Spares (IsSpared h table.vdevs t) old mid) head_is spares)

  pub before_the_slot : LeavesOnly old mid (IsBeforeOrAfter old table.group.0 batches)
  before_the_slot = moments_laid layout table batches t refl old mid at_rest laid_run

  pub rests_before_the_slot : IsAtRest mid layout table
  rests_before_the_slot = laid_at_rest layout table batches t refl old mid at_rest laid_run

  module _ (reads : old.may_leave (bytes_of old)) where
    keeps : KeepsWords (bytes_of old) head table t
    keeps = subst (λ (h : Head). KeepsWords (bytes_of old) h table t) (sym head_is) (keeps_words layout table batches t refl (bytes_of old) (at_rest.each (bytes_of old) reads) same)

    pub honest_fault : (fault : CommitFault) → (KeepsWords (bytes_of old) head table t → IsCommitFault (bytes_of old) table fault) → IsCommitFailure fault
    honest_fault fault shows = honest layout table batches t refl (bytes_of old) (at_rest.each (bytes_of old) reads) fault (shows keeps)

    module _ (new : DiskState) (are : AreBatches table batches) (named : table.group.0 + 1 < 2 ^ 50) (next : NextGroup) (is_next : IsNextGroup head table batches next) (same_t : next.table.group ≡ t)
        (laid : KeepsWords (bytes_of old) head table t → IsLaid (bytes_of old) (bytes_of mid) head table batches next) (flushed : Only (bytes_of mid) mid.may_leave)
        (opened : Tells mid → Spares (Outside (slot_place next.uber.group.0) 1024) mid new) where
      next_is : IsNextGroup (head_of layout) table batches next
      next_is = subst (λ (h : Head). IsNextGroup h table batches next) head_is is_next

      laid_is : IsLaid (bytes_of old) (bytes_of mid) (head_of layout) table batches next
      laid_is = subst (λ (h : Head). IsLaid (bytes_of old) (bytes_of mid) h table batches next) head_is (laid keeps)

      pub with_the_slot : (Tells mid → HasFlushed mid (slot_place next.uber.group.0) 1024 → LeavesOnly mid new (IsOldOrNew (bytes_of mid) next.uber)) → LeavesOnly old new (IsBeforeOrAfter old table.group.0 batches)
      with_the_slot slot =
          moments layout table batches t refl old mid new at_rest reads are next next_is same_t named laid_is laid_run flushed (opened laid_run.tells)
          (slot laid_run.tells (slot_flushed layout table batches t refl old mid new at_rest reads are next next_is same_t named laid_is laid_run flushed (opened laid_run.tells)))

      module _ (written : Tells mid → IsWritten (bytes_of new) next.uber) (durable : Tells mid → Only (bytes_of new) new.may_leave) where
        pub slot_commits : (c : List ℕ) → new.may_leave c → IsCommitted old table.group.0 batches c
        slot_commits = committed layout table batches t refl old mid new at_rest reads are next next_is same_t named laid_is laid_run flushed (opened laid_run.tells) (written laid_run.tells) (durable laid_run.tells)

        pub rests_behind_the_slot : (contents : Contents) → Finds (bytes_of old) table.group.0 contents → AreBacked contents batches → IsAtRest new layout next.table
        rests_behind_the_slot = rests_on layout table batches t refl old mid new at_rest reads are next next_is same_t named laid_is laid_run flushed (opened laid_run.tells) (written laid_run.tells) (durable laid_run.tells)
