-- The device over a read of what the last committed group holds.
use Rattle.std.proofs.Common.{◌≡◌, ℕ, ◌≤◌, Option, None, List, refl, sym, ◌∙◌, ap, subst, arith}
use Rattle.zms_units.specs.Runs.{units_in}
use Rattle.zms_units.specs.declared.faults.Damage.{Damage}
use Rattle.zms_units.specs.declared.faults.Damage.TheVariants.{Word, Counts, Unit as UnitDiffers}
use Rattle.zms_units.specs.declared.faults.First.{First}
use Rattle.zms_units.specs.declared.places.MsId.{MsId}
use Rattle.zms_dev.specs.Disk.{DiskState, Tells, bytes_of}
use Rattle.zms_dev.specs.Runs.{Untouched}
use Rattle.zms_dev.proofs.Moments.{weaker, joined}
use Rattle.zms_dev.proofs.Resting.{rests_spares}
use Rattle.zms_dev.proofs.Sparing.{spares_then}
use Rattle.vdev_map.specs.Numbers.{IsIn}
use Rattle.vdev_map.specs.declared.layout.Layout.{Layout}
use Rattle.vdev_map.specs.declared.table.Table.{Table}
use Rattle.space_map.specs.Replay.{is_held}
use Rattle.space_map.specs.declared.places.MapKind.TheVariants.{Side}
use Rattle.space_map.proofs.Deciding.{runs_certain, runs_show_no_fault}
use Rattle.meta_store.specs.Causes.{ShowsDamage}
use Rattle.meta_store.specs.Groups.{Finds}
use Rattle.meta_store.specs.Stores.{StoreState, IsAtRest, RestsAt}
use Rattle.meta_store.specs.Words.{HoldUnits, row_of, units_of, words_in}
use Rattle.meta_store.proofs.LastGroup.{adds_then, adds_none}
use Rattle.pool_keeper.specs.History.{History, contents_of}
use Rattle.pool_keeper.specs.Images.{Remembers, IsReady, IsHeldBy, IsBeside, IsDamage}
use Rattle.pool_keeper.specs.Keeper.{IsSound, history_of, unwritten}
use Rattle.pool_keeper.specs.Notes.{IsCounted}
use Rattle.pool_keeper.specs.Commits.{IsUncommitted}
use Rattle.pool_keeper.specs.declared.keeper.Keeper.{Keeper}
use Rattle.pool_keeper.proofs.Remembering.{remembers_lower, newest_is}

-- words that hold what they should show no damage
no_damage : (words : List ℕ) (units held : ℕ) (damage : Damage) → HoldUnits words units held → ShowsDamage words units held damage → ⊥
no_damage words units held (Word fault) holds shows = runs_show_no_fault (Side units) words holds.found fault holds.decodes shows
no_damage words units held (Counts kept found) holds shows =
    let other = shows.1.0 in
    shows.1.1 (sym other.held ∙ ap (λ f. units_in (is_held f) units) (runs_certain (Side units) words other.found holds.found other.decodes holds.decodes) ∙ holds.held)
no_damage words units held (UnitDiffers u) holds shows = shows

pub not_shown : (layout : Layout) (table : Table) (image : List ℕ) (id : MsId) (damage : Damage) → RestsAt layout table image → IsIn table.vdevs id
    → ShowsDamage (words_in image table id) (units_of table id) (row_of table id).held damage → ⊥
not_shown layout table image id damage rests inside shows = no_damage (words_in image table id) (units_of table id) (row_of table id).held damage (rests.has.sound id inside) shows

module _ (h : History) (g : ℕ) (table : Table) (start old : DiskState) (was : IsHeldBy h g None table start old) (from : h.opened ≤ g) where
  pub held_read : (new : DiskState) (first : Option First) → Untouched old new → (IsDamage first → ⊥) → IsHeldBy h g first table start new
  held_read new first read honest = record {
    tells = read.tells;
    run = joined start old new (Remembers h h.opened) was.run (weaker old new old.may_leave (Remembers h h.opened) (λ c may. remembers_lower h g h.opened c from (was.left c may)) read.any_moment);
    left = λ c may. was.left c (read.images c may);
    rests = λ e. record { tells = read.tells; each = λ c may. let at = was.rests refl in at.each c (read.images c may) };
    honest = honest;
    spares = spares_then (IsBeside h.layout) start old new was.spares (rests_spares old new (IsBeside h.layout) read);
    adds = adds_then start old new was.adds (adds_none old new read.flushes);
  }

  pub finds_last : table.group.0 ≡ g → old.may_leave (bytes_of old) → Finds (bytes_of old) g (contents_of h g)
  finds_last of_group reads =
      let there : Remembers h g (bytes_of old) = was.left (bytes_of old) reads in
      let rests = was.rests refl in
      let newest : there.newest ≡ g = newest_is h g table (bytes_of old) (bytes_of old) (rests.each (bytes_of old) reads) of_group there in
      there.finds g (record { from = from; to = omega (arith, newest); recent = omega (arith, newest) })

module _ {D R : Type 0} (state : D → DiskState) (faults : D → ℕ) (k : Keeper D R) (s : IsSound state faults k) (idle : k.first ≡ None) where
  abbrev h : History
  h = history_of k.start s.journal

  counted : faults k.store.disk ≡ faults k.start.store.value.disk
  counted = subst (IsCounted (faults k.start.store.value.disk) (faults k.store.disk)) idle s.counts

  pub start_counts : (now : ℕ) → now ≡ faults k.store.disk → IsCounted (faults k.start.store.value.disk) now None
  start_counts now is = is ∙ counted

  pub faults_then : faults k.store.disk ≡ faults k.start.store.value.disk
  faults_then = counted

  module _ (ready : IsReady (history_of k.start unwritten) k.start.store.value.table (state k.start.store.value.disk)) where
    pub held_then : IsHeldBy h k.store.table.group.0 None k.store.table (state k.start.store.value.disk) (state k.store.disk)
    held_then = subst (λ f. IsHeldBy h k.store.table.group.0 f k.store.table (state k.start.store.value.disk) (state k.store.disk)) idle (s.device ready)

    pub rests_then : IsAtRest (state k.store.disk) k.store.layout k.store.table
    rests_then = subst (λ l. IsAtRest (state k.store.disk) l k.store.table) (sym s.layout) (let at = held_then in at.rests refl)

    pub tells_then : Tells (state k.store.disk)
    tells_then = let at = held_then in at.tells

    pub finds_then : (state k.store.disk).may_leave (bytes_of (state k.store.disk)) → Finds (bytes_of (state k.store.disk)) k.store.table.group.0 (contents_of h k.store.table.group.0)
    finds_then reads = finds_last h k.store.table.group.0 k.store.table (state k.start.store.value.disk) (state k.store.disk) held_then s.from refl reads

  -- a read leaves the store as it was, with what was met
  pub read_left : (store : StoreState D) (first : Option First) → store.layout ≡ k.store.layout → store.table ≡ k.store.table → IsCounted (faults k.start.store.value.disk) (faults store.disk) first
      → (Tells (state k.store.disk) → Untouched (state k.store.disk) (state store.disk)) → (IsReady (history_of k.start unwritten) k.start.store.value.table (state k.start.store.value.disk) → IsDamage first → ⊥)
      → IsUncommitted state faults k s first store
  read_left store first layout table counts read honest = record {
    layout = layout;
    table = table;
    counts = counts;
    device = λ ready.
        subst (λ x. IsHeldBy h k.store.table.group.0 first x (state k.start.store.value.disk) (state store.disk)) (sym table)
        (held_read h k.store.table.group.0 k.store.table (state k.start.store.value.disk) (state k.store.disk) (held_then ready) s.from (state store.disk) first (read (tells_then ready)) (honest ready));
  }
