-- A sound keeper lays its next group down.
use Rattle.std.proofs.Common.{◌≡◌, ℕ, ◌+◌, ◌<◌, ◌≤◌, Option, None, List, length, inl, inr, refl, sym, ◌∙◌, ap, subst, arith}
use Rattle.zms_units.specs.declared.faults.First.{First}
use Rattle.zms_units.specs.declared.places.MsId.{MsId}
use Rattle.zms_dev.specs.Disk.{DiskState, Tells, bytes_of}
use Rattle.zms_dev.specs.Runs.{LeavesOnly, Spares}
use Rattle.vdev_map.specs.Numbers.{IsIn, number_of, row_at, metaslabs_in}
use Rattle.vdev_map.specs.declared.layout.Batch.{Batch}
use Rattle.vdev_map.specs.declared.layout.Layout.{Layout}
use Rattle.vdev_map.specs.declared.table.Table.{Table}
use Rattle.ms_model.specs.Units.{settled_group}
use Rattle.ms_model.specs.Legal.{IsLegal}
use Rattle.ms_cell.specs.Turns.{Turns}
use Rattle.meta_store.specs.Batches.{AreBatches, AreBacked}
use Rattle.meta_store.specs.Commits.{IsBeforeOrAfter, IsCommitted}
use Rattle.meta_store.specs.CommitFaults.{IsCommitFailure}
use Rattle.meta_store.specs.declared.commit_faults.CommitFault.{CommitFault}
use Rattle.meta_store.specs.declared.commit_faults.CommitFault.TheVariants.{Failed, Memory, Damaged}
use Rattle.zms_units.specs.declared.faults.Damage.{Damage}
use Rattle.meta_store.specs.Groups.{Finds}
use Rattle.meta_store.specs.Heads.{head_of}
use Rattle.meta_store.specs.NextGroups.{IsNextTable}
use Rattle.meta_store.specs.Rewinds.{Adds}
use Rattle.meta_store.specs.Stores.{IsAtRest}
use Rattle.pool_keeper.specs.History.{History, contents_of, AllCollected}
use Rattle.pool_keeper.specs.Images.{IsReady, IsHeldBy, IsBeside, IsDamage}
use Rattle.pool_keeper.specs.Groups.{AreCounted}
use Rattle.pool_keeper.specs.Keeper.{IsOf, IsSound, history_of, unwritten}
use Rattle.pool_keeper.specs.declared.keeper.Keeper.{Keeper}
use Rattle.pool_keeper.proofs.Remembering.{number_within}
use Rattle.pool_keeper.proofs.Sound.{places}
use Rattle.pool_keeper.proofs.Batching.{all_fit, all_counted, all_backed}
use Rattle.pool_keeper.proofs.CommitImages.{origin_units, finds_now, held_committed, held_uncommitted}

pub not_damage : (id : MsId) (damage : Damage) (fault : CommitFault) → fault ≡ Damaged id damage → IsCommitFailure fault → ⊥
not_damage id damage fault is (inl e) = none (sym is ∙ e) where
  none : Damaged id damage ≡ Failed → ⊥
  none bad = cc
not_damage id damage fault is (inr e) = none (sym is ∙ e) where
  none : Damaged id damage ≡ Memory → ⊥
  none bad = cc

module _ {D R : Type 0} (state : D → DiskState) (faults : D → ℕ) (t : Turns) (k : Keeper D R) (of : IsOf t k.start) (s : IsSound state faults k) (all : length k.gathered.items ≡ length t.metaslabs) (idle : k.first ≡ None) where
  abbrev g : ℕ
  g = k.store.table.group.0

  abbrev layout : Layout
  layout = k.start.store.value.layout

  abbrev h : History
  h = history_of k.start s.journal

  abbrev batches : List Batch
  batches = k.gathered.items

  enough : metaslabs_in layout.vdevs ≤ length batches
  enough = omega (arith, all, places state faults t k of s)

  known : (i : ℕ) → i < metaslabs_in layout.vdevs → IsLegal (h.origin i) (h.journal i) × (settled_group (h.origin i) (h.journal i) ≤ g)
  known i lt = let is = s.gathered.before i (omega (arith, enough)) in (is.legal, is.mark_settled)

  collected : AllCollected h (g + 1)
  collected i lt = let is = s.gathered.before i (omega (arith, enough)) in omega (arith, is.mark_collected)

  units : (id : MsId) → IsIn layout.vdevs id → (h.origin (number_of layout.vdevs id)).units ≡ (row_at layout.vdevs id.vdev).units
  units = origin_units t k.start.passes.value layout.vdevs of.fresh.know of.vdevs of.count (number_within layout.vdevs)

  pub fits : (vdevs : k.store.table.vdevs ≡ k.store.layout.vdevs) → AreBatches k.store.table batches
  fits vdevs = all_fit h g batches enough known s.gathered.changes units k.store.table (vdevs ∙ ap (λ (l : Layout). l.vdevs) s.layout) s.counted

  module _ (ready : IsReady (history_of k.start unwritten) k.start.store.value.table (state k.start.store.value.disk)) where
    was : IsHeldBy h g None k.store.table (state k.start.store.value.disk) (state k.store.disk)
    was = subst (λ f. IsHeldBy h g f k.store.table (state k.start.store.value.disk) (state k.store.disk)) idle (s.device ready)

    pub resting : IsAtRest (state k.store.disk) k.store.layout k.store.table
    resting = subst (λ l. IsAtRest (state k.store.disk) l k.store.table) (sym s.layout) (was.rests refl)

    pub telling : Tells (state k.store.disk)
    telling = was.tells

    pub finding : (state k.store.disk).may_leave (bytes_of (state k.store.disk)) → Finds (bytes_of (state k.store.disk)) g (contents_of h g)
    finding reads = finds_now h g batches enough known s.gathered.changes units k.store.table refl s.from collected (state k.start.store.value.disk) (state k.store.disk) (state k.store.disk) was reads

    pub backed : AreBacked (contents_of h g) batches
    backed = all_backed h g batches enough known s.gathered.changes units

    module _ (new : D) (run : LeavesOnly (state k.store.disk) (state new) (IsBeforeOrAfter (state k.store.disk) g batches)) (tells : Tells (state new)) (spares : Spares (IsBeside k.store.layout) (state k.store.disk) (state new))
        (adds : Adds (state k.store.disk) (state new)) where
      there : Spares (IsBeside layout) (state k.store.disk) (state new)
      there = subst (λ l. Spares (IsBeside l) (state k.store.disk) (state new)) s.layout spares

      pub then_committed : (l : Layout) (next : Table) → l ≡ k.store.layout → ((c : List ℕ) → (state new).may_leave c → IsCommitted (state k.store.disk) g batches c) → IsAtRest (state new) l next
          → IsHeldBy h (g + 1) None next (state k.start.store.value.disk) (state new)
      then_committed l next is done rests =
          held_committed h g batches enough known s.gathered.changes units k.store.table refl s.from collected (state k.start.store.value.disk) (state k.store.disk) (state new) was run tells there adds next done
          (subst (λ x. IsAtRest (state new) x next) (is ∙ s.layout) rests)

      pub then_uncommitted : (l : Layout) (table : Table) (first : Option First) → l ≡ k.store.layout → table ≡ k.store.table → (IsDamage first → ⊥) → ((c : List ℕ) → (state new).may_leave c → (state new).left_since (state k.store.disk).moment c)
          → (first ≡ None → IsAtRest (state new) l table) → IsHeldBy h g first table (state k.start.store.value.disk) (state new)
      then_uncommitted l table first is same honest counts_now rests =
          subst (λ x. IsHeldBy h g first x (state k.start.store.value.disk) (state new)) (sym same)
          (held_uncommitted h g batches enough known s.gathered.changes units k.store.table refl s.from collected (state k.start.store.value.disk) (state k.store.disk) (state new) was run tells there adds first honest counts_now
          (λ e. subst (λ x. IsAtRest (state new) layout x) same (subst (λ x. IsAtRest (state new) x table) (is ∙ s.layout) (rests e))))

  pub counted_next : (l : Layout) (next : Table) → k.store.table.vdevs ≡ k.store.layout.vdevs → IsNextTable (head_of k.store.layout) k.store.table batches next → AreCounted layout.vdevs (g + 1) next h.origin h.journal
  counted_next l next vdevs is =
      all_counted h g batches enough known s.gathered.changes units k.store.table (vdevs ∙ ap (λ (x : Layout). x.vdevs) s.layout) s.counted next
      (subst (λ x. IsNextTable (head_of x) k.store.table batches next) s.layout is)
