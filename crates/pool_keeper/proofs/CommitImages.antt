-- The device over a commit of the next group.
use Rattle.std.proofs.Common.{◌≡◌, ℕ, ◌+◌, ◌<◌, ◌≤◌, Option, Some, None, List, length, ◌⊎◌, inl, inr, refl, sym, ◌∙◌, ap, subst, arith}
use Rattle.std.specs.Prelude.{slice_get}
use Rattle.zms_units.specs.declared.faults.First.{First}
use Rattle.zms_units.specs.declared.places.MsId.{MsId}
use Rattle.zms_units.specs.declared.places.VdevRow.{VdevRow}
use Rattle.zms_dev.specs.Disk.{DiskState, Tells, bytes_of}
use Rattle.zms_dev.specs.Runs.{LeavesOnly, Spares}
use Rattle.zms_dev.proofs.Moments.{weaker, joined}
use Rattle.zms_dev.proofs.Sparing.{spares_then}
use Rattle.turn_passes.proofs.Pairs.{some_at}
use Rattle.uber_ring.specs.Writes.{Flushes}
use Rattle.vdev_map.specs.Numbers.{IsIn, number_of, row_at, metaslabs_in}
use Rattle.vdev_map.specs.declared.layout.Batch.{Batch}
use Rattle.vdev_map.specs.declared.layout.Layout.{Layout}
use Rattle.vdev_map.specs.declared.table.Table.{Table}
use Rattle.vdev_map.proofs.InOrder.{one_number}
use Rattle.ms_model.specs.Units.{settled_group}
use Rattle.ms_model.specs.Legal.{IsLegal}
use Rattle.ms_cell.specs.Turns.{Turns, origin_from}
use Rattle.ms_cell.specs.Passes.{Passes, KnowAll, fixed_of, origin_in}
use Rattle.meta_store.specs.Commits.{IsBefore, IsAfter, IsBeforeOrAfter, IsCommitted}
use Rattle.meta_store.specs.Groups.{Finds}
use Rattle.meta_store.specs.Heads.{head_of}
use Rattle.meta_store.specs.NextGroups.{IsLeft}
use Rattle.meta_store.specs.Rewinds.{Adds}
use Rattle.meta_store.specs.Stores.{IsAtRest}
use Rattle.meta_store.proofs.LastGroup.{adds_then}
use Rattle.pool_keeper.specs.History.{History, contents_of, AllCollected}
use Rattle.pool_keeper.specs.Images.{Remembers, IsHeldBy, IsBeside, IsDamage}
use Rattle.pool_keeper.specs.Groups.{IsChange}
use Rattle.pool_keeper.proofs.Remembering.{remembers_lower, before_remembers, after_remembers, newest_is}
use Rattle.pool_keeper.proofs.Batching.{all_backed, all_after}

-- what lies beside all groups lies beside the next
pub beside_next : (layout : Layout) (vdevs : List VdevRow) (group : ℕ) → vdevs ≡ layout.vdevs → (p : ℕ) → IsBeside layout p → IsLeft (head_of layout) vdevs group p
beside_next layout vdevs group is p beside = subst (λ (v : List VdevRow). IsLeft (head_of layout) v group p) (sym is) (beside group)

pub adds_of : (most : ℕ) (old new : DiskState) → Flushes most old new → Adds old new
adds_of most old new are = record { more = are.more; noted = are.noted }

pub some_none : (x : First) → Some x ≡ None → ⊥
some_none x e = cc

-- the units of a metaslab are those of its vdev
pub origin_units : (t : Turns) (p : Passes) (vdevs : List VdevRow) → KnowAll t p → t.vdevs ≡ vdevs → length t.metaslabs ≡ metaslabs_in t.vdevs → ((id : MsId) → IsIn vdevs id → number_of vdevs id < metaslabs_in vdevs)
    → (id : MsId) → IsIn vdevs id → (origin_in p (number_of vdevs id)).units ≡ (row_at vdevs id.vdev).units
origin_units t p vdevs know is count within id inside =
    let lt : number_of vdevs id < length p.metaslabs = omega (arith, within id inside, count, know.count, ap metaslabs_in is) in
    let c = some_at p.metaslabs (number_of vdevs id) lt in
    let knows = know.each (number_of vdevs id) c.0 c.1 in
    let there : IsIn vdevs knows.standing.id = subst (λ (v : List VdevRow). IsIn v knows.standing.id) is knows.stands.inside in
    let place : number_of vdevs knows.standing.id ≡ number_of vdevs id = subst (λ (v : List VdevRow). number_of v knows.standing.id ≡ number_of vdevs id) is knows.stands.place in
    let same : knows.standing.id ≡ id = one_number vdevs id knows.standing.id inside there place in
    ap (λ x. (origin_from (fixed_of x)).units) c.1
    ∙ (ap (λ x. (origin_from x).units) knows.is
    ∙ (knows.stands.units
    ∙ (ap (λ (v : List VdevRow). (row_at v knows.standing.id.vdev).units) is ∙ ap (λ (i : MsId). (row_at vdevs i.vdev).units) same)))

module _ (h : History) (g : ℕ) (batches : List Batch) (enough : metaslabs_in h.layout.vdevs ≤ length batches)
    (known : (k : ℕ) → k < metaslabs_in h.layout.vdevs → IsLegal (h.origin k) (h.journal k) × (settled_group (h.origin k) (h.journal k) ≤ g))
    (changes : (k : ℕ) (b : Batch) → slice_get batches k ≡ Some b → IsChange h.layout.vdevs (g + 1) k (h.origin k) (h.journal k) b)
    (units : (id : MsId) → IsIn h.layout.vdevs id → (h.origin (number_of h.layout.vdevs id)).units ≡ (row_at h.layout.vdevs id.vdev).units)
    (table : Table) (of_group : table.group.0 ≡ g) (from : h.opened ≤ g) (collected : AllCollected h (g + 1)) (start old new : DiskState) (was : IsHeldBy h g None table start old) where
  rests : IsAtRest old h.layout table
  rests = was.rests refl

  pub moment_remembers : (c : List ℕ) → IsBeforeOrAfter old g batches c → Remembers h g c
  moment_remembers c now = by_case now.either where
    there : Remembers h g now.old
    there = was.left now.old now.was

    by_case : IsBefore g now.old c ⊎ IsAfter g batches now.old c → Remembers h g c
    by_case (inl before) = before_remembers h g table now.old c (rests.each now.old now.was) of_group there before
    by_case (inr later) =
        remembers_lower h (g + 1) g c (omega arith)
        (after_remembers h g table now.old c (rests.each now.old now.was) of_group there batches from collected (all_backed h g batches enough known changes units) (all_after h g batches enough known changes units) later)

  pub done_remembers : (c : List ℕ) → IsCommitted old g batches c → Remembers h (g + 1) c
  done_remembers c now =
      after_remembers h g table now.old c (rests.each now.old now.was) of_group (was.left now.old now.was) batches from collected (all_backed h g batches enough known changes units) (all_after h g batches enough known changes units) now.after

  pub finds_now : old.may_leave (bytes_of old) → Finds (bytes_of old) g (contents_of h g)
  finds_now reads =
      let there : Remembers h g (bytes_of old) = was.left (bytes_of old) reads in
      let newest : there.newest ≡ g = newest_is h g table (bytes_of old) (bytes_of old) (rests.each (bytes_of old) reads) of_group there in
      there.finds g (record { from = from; to = omega (arith, newest); recent = omega (arith, newest) })

  module _ (run : LeavesOnly old new (IsBeforeOrAfter old g batches)) (tells : Tells new) (spares : Spares (IsBeside h.layout) old new) (adds : Adds old new) where
    runs : LeavesOnly start new (Remembers h h.opened)
    runs = joined start old new (Remembers h h.opened) was.run
        (weaker old new (IsBeforeOrAfter old g batches) (Remembers h h.opened) (λ c now. remembers_lower h g h.opened c from (moment_remembers c now)) run)

    -- the group is committed
    pub held_committed : (next : Table) → ((c : List ℕ) → new.may_leave c → IsCommitted old g batches c) → IsAtRest new h.layout next → IsHeldBy h (g + 1) None next start new
    held_committed next done resting = record {
      tells = tells;
      run = runs;
      left = λ c may. done_remembers c (done c may);
      rests = λ e. resting;
      honest = λ bad. bad;
      spares = spares_then (IsBeside h.layout) start old new was.spares spares;
      adds = adds_then start old new was.adds adds;
    }

    -- it is not
    pub held_uncommitted : (first : Option First) → (IsDamage first → ⊥) → ((c : List ℕ) → new.may_leave c → new.left_since old.moment c) → (first ≡ None → IsAtRest new h.layout table) → IsHeldBy h g first table start new
    held_uncommitted first honest counts_now resting = record {
      tells = tells;
      run = runs;
      left = λ c may. moment_remembers c (run.each c (counts_now c may));
      rests = resting;
      honest = honest;
      spares = spares_then (IsBeside h.layout) start old new was.spares spares;
      adds = adds_then start old new was.adds adds;
    }
