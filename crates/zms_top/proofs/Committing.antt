-- What a commit leaves of a pool whose next group is due, and of its device.
use Rattle.std.proofs.Common.{◌≡◌, ℕ, ◌+◌, None, List, [], ◌∷◌, ◌++◌, ◌⊎◌, inl, inr, sym, ◌∙◌, ap, subst, arith}
use Rattle.zms_units.specs.Runs.{units_in, AreMaximalRuns}
use Rattle.zms_units.specs.Segments.{AreSegs, total_of}
use Rattle.zms_units.specs.declared.places.MsId.{MsId}
use Rattle.zms_units.specs.declared.places.VdevRow.{VdevRow}
use Rattle.zms_units.specs.declared.segments.Group.{Group}
use Rattle.zms_units.proofs.Counting.{units_same, units_le}
use Rattle.ms_model.specs.Origin.{Origin}
use Rattle.ms_model.specs.Units.{held, settled_group}
use Rattle.ms_model.specs.Gains.{is_gained, is_given}
use Rattle.ms_model.specs.declared.notes.Act.TheVariants.{Settle}
use Rattle.ms_model.specs.declared.notes.Noted.{Noted}
use Rattle.ms_model.proofs.Held.{held-quiet}
use Rattle.ms_model.proofs.Histories.{settled_group-push}
use Rattle.ms_model.proofs.Overlaps.{opened_le_settled}
use Rattle.ms_core.specs.State.{MsState, origin_of, settled_of, StaysButNotes}
use Rattle.zms_dev.specs.Disk.{DiskState, Tells, bytes_of}
use Rattle.zms_dev.specs.Runs.{LeavesOnly}
use Rattle.zms_dev.proofs.Moments.{weaker}
use Rattle.vdev_map.specs.Numbers.{IsIn, row_at}
use Rattle.vdev_map.specs.declared.layout.Batch.{Batch}
use Rattle.vdev_map.specs.declared.layout.Layout.{Layout}
use Rattle.vdev_map.specs.declared.table.Table.{Table}
use Rattle.meta_store.specs.Batches.{IsBatch, AreBatches, AreBacked}
use Rattle.meta_store.specs.Commits.{IsBefore, IsAfter, IsBeforeOrAfter, IsCommitted}
use Rattle.meta_store.specs.Groups.{Finds}
use Rattle.meta_store.specs.Heads.{head_of}
use Rattle.meta_store.specs.NextGroups.{IsLeft, IsNextTable}
use Rattle.meta_store.specs.Stores.{IsAtRest, RestsAt}
use Rattle.meta_store.specs.Words.{row_of, units_of}
use Rattle.zms_top.specs.Sound.{first_id, Grows}
use Rattle.zms_top.specs.Stored.{IsSingle, contents_of, Remembers, IsBeside}
use Rattle.zms_top.specs.Pools.{IsStoreOf, IsRemembered, StaysRemembered, IsDue}
use Rattle.zms_top.specs.declared.pool.Pool.{Pool}
use Rattle.zms_top.proofs.Growing.{grows_may}
use Rattle.zms_top.proofs.Remembering.{all_one, single_units, first_in, batch_backed, finds_next, counts_add, remembers_grown, remembers_lower, before_remembers, after_remembers, newest_is}

-- what lies beside all groups lies beside the next
pub beside_next : (layout : Layout) (table : Table) → table.vdevs ≡ layout.vdevs → (p : ℕ) → IsBeside layout p → IsLeft (head_of layout) table.vdevs (table.group.0 + 1) p
beside_next layout table vdevs p beside = subst (λ (v : List VdevRow). IsLeft (head_of layout) v (table.group.0 + 1) p) (sym vdevs) (beside (table.group.0 + 1))

module _ (p : Pool) (layout : Layout) (table : Table) (group : Group) (batch : Batch) (due : IsDue p layout table group batch) where
  abbrev o : Origin
  o = origin_of p.metaslab

  abbrev h : List Noted
  h = p.metaslab.notes

  abbrev t : ℕ
  t = settled_of p.metaslab

  single : IsSingle layout p.metaslab.units
  single = due.store.single

  allocs : AreMaximalRuns (is_gained (t + 1) h) p.metaslab.units batch.allocs
  allocs = subst (λ (n : ℕ). AreMaximalRuns (is_gained n h) p.metaslab.units batch.allocs) due.next due.allocs

  frees : AreMaximalRuns (is_given (t + 1) h) p.metaslab.units batch.frees
  frees = subst (λ (n : ℕ). AreMaximalRuns (is_given n h) p.metaslab.units batch.frees) due.next due.frees

  backed : AreBacked (contents_of layout o h t) (batch ∷ [])
  backed = batch_backed layout o h t batch single due.legal (omega arith) due.id allocs frees

  counts : units_in (held o h (t + 1)) p.metaslab.units + total_of batch.frees ≡ units_in (held o h t) p.metaslab.units + total_of batch.allocs
  counts = counts_add layout o h t batch single due.legal (omega arith) due.id allocs frees

  -- the batch fits the table

  units_is : units_of table batch.id ≡ p.metaslab.units
  units_is = ap (units_of table) due.id ∙ (ap (λ (vdevs : List VdevRow). (row_at vdevs first_id.vdev).units) due.store.vdevs ∙ single_units layout p.metaslab.units single)

  inside : IsIn table.vdevs first_id
  inside = subst (λ (vdevs : List VdevRow). IsIn vdevs first_id) (sym due.store.vdevs) (first_in layout p.metaslab.units single)

  row_is : (row_of table batch.id).held ≡ units_in (held o h t) p.metaslab.units
  row_is = ap (λ (id : MsId). (row_of table id).held) due.id ∙ due.store.count

  pub batches_fit : AreBatches table (batch ∷ [])
  batches_fit = record {
    each = all_one (IsBatch table) batch (record {
      in_table = subst (IsIn table.vdevs) (sym due.id) inside;
      allocs = subst (λ (n : ℕ). AreSegs n batch.allocs) (sym units_is) allocs.rising;
      frees = subst (λ (n : ℕ). AreSegs n batch.frees) (sym units_is) frees.rising;
      least = omega (arith, counts, row_is);
      most = omega (arith, counts, row_is, units_is, units_le (held o h (t + 1)) p.metaslab.units);
    });
    order = (omega arith, tt);
  }

  -- images

  pub moment_remembers : (disk : DiskState) (c : List ℕ) → IsRemembered p layout table disk → IsBeforeOrAfter disk table.group.0 (batch ∷ []) c → Remembers layout o h t c
  moment_remembers disk c was now = by_case now.either where
    g_is : table.group.0 ≡ t
    g_is = due.store.group

    rests : RestsAt layout table now.old
    rests = (was.rests due.idle).each now.old now.was

    there : Remembers layout o h t now.old
    there = was.left now.old now.was

    by_case : IsBefore table.group.0 now.old c ⊎ IsAfter table.group.0 (batch ∷ []) now.old c → Remembers layout o h t c
    by_case (inl before) = before_remembers layout o h t table now.old c rests g_is there (subst (λ (n : ℕ). IsBefore n now.old c) g_is before)
    by_case (inr later) =
        remembers_lower layout o h (t + 1) t c (omega arith)
        (after_remembers layout o h t table now.old c rests g_is there batch (opened_le_settled o h due.legal) (omega (arith, due.collected, due.next)) backed
        (finds_next layout o h t batch single due.legal (omega arith) due.id allocs frees) (subst (λ (n : ℕ). IsAfter n (batch ∷ []) now.old c) g_is later))

  pub done_remembers : (disk : DiskState) (c : List ℕ) → IsRemembered p layout table disk → IsCommitted disk table.group.0 (batch ∷ []) c → Remembers layout o h (t + 1) c
  done_remembers disk c was now =
      let g_is : table.group.0 ≡ t = due.store.group in
      let rests : RestsAt layout table now.old = (was.rests due.idle).each now.old now.was in
      after_remembers layout o h t table now.old c rests g_is (was.left now.old now.was) batch (opened_le_settled o h due.legal) (omega (arith, due.collected, due.next)) backed
      (finds_next layout o h t batch single due.legal (omega arith) due.id allocs frees) (subst (λ (n : ℕ). IsAfter n (batch ∷ []) now.old c) g_is now.after)

  -- what the opened store finds before the commit
  pub finds_now : (disk : DiskState) → IsRemembered p layout table disk → disk.may_leave (bytes_of disk) → Finds (bytes_of disk) table.group.0 (contents_of layout o h t)
  finds_now disk was reads =
      let there : Remembers layout o h t (bytes_of disk) = was.left (bytes_of disk) reads in
      let newest : there.newest ≡ t = newest_is layout o h t table (bytes_of disk) (bytes_of disk) ((was.rests due.idle).each (bytes_of disk) reads) due.store.group there in
      subst (λ (n : ℕ). Finds (bytes_of disk) n (contents_of layout o h t)) (sym due.store.group)
      (there.finds t (record { from = opened_le_settled o h due.legal; to = omega (arith, newest); recent = omega (arith, newest) }))

  pub backed_now : AreBacked (contents_of layout o h t) (batch ∷ [])
  backed_now = backed

  -- nothing was settled: each image of the call remembers as before
  pub unsettled_stays : (q : Pool) (old new : DiskState) → q.metaslab ≡ p.metaslab → Tells new → (q.first ≡ None → IsAtRest new layout table)
      → ((c : List ℕ) → new.may_leave c → new.left_since old.moment c) → IsRemembered p layout table old
      → LeavesOnly old new (IsBeforeOrAfter old table.group.0 (batch ∷ [])) → StaysRemembered p q layout table old new
  unsettled_stays q old new same tells rests counts_now was run =
      let notes : q.metaslab.notes ≡ h = ap (λ (m : MsState). m.notes) same in
      record {
        run = weaker old new (IsBeforeOrAfter old table.group.0 (batch ∷ [])) (Remembers layout o q.metaslab.notes o.opened)
            (λ c now. rw notes (remembers_lower layout o h t o.opened c (opened_le_settled o h due.legal) (moment_remembers old c was now))) run;
        now = record {
          tells = tells;
          rests = rests;
          left = λ c may.
              subst (λ (m : MsState). Remembers layout (origin_of m) m.notes (settled_of m) c) (sym same) (moment_remembers old c was (run.each c (counts_now c may)));
        };
      }

  -- the group was settled

  module _ (q : Pool) (lane : ℕ) (notes : q.metaslab.notes ≡ h ++ record { lane = lane; act = Settle group } ∷ []) (stays : StaysButNotes p.metaslab q.metaslab) where
    abbrev settle : Noted
    settle = record { lane = lane; act = Settle group }

    origin : origin_of q.metaslab ≡ o
    origin = ap origin_of stays

    settled : settled_group o q.metaslab.notes ≡ t + 1
    settled = ap (settled_group o) notes ∙ (settled_group-push o h settle ∙ due.next)

    settled_q : settled_of q.metaslab ≡ t + 1
    settled_q = ap (λ (x : Origin). settled_group x q.metaslab.notes) origin ∙ settled

    grows : Grows o h q.metaslab.notes
    grows = subst (Grows o h) (sym notes) (grows_may o h lane (Settle group) (due.next, omega (arith, due.collected)))

    pub settled_stays : (old new : DiskState) (next : Table) → Tells new → (q.first ≡ None → IsAtRest new layout next) → IsRemembered p layout table old
        → LeavesOnly old new (IsBeforeOrAfter old table.group.0 (batch ∷ [])) → ((c : List ℕ) → new.may_leave c → IsCommitted old table.group.0 (batch ∷ []) c) → StaysRemembered p q layout next old new
    settled_stays old new next tells rests was run done = record {
      run = weaker old new (IsBeforeOrAfter old table.group.0 (batch ∷ [])) (Remembers layout o q.metaslab.notes o.opened)
          (λ c now. remembers_grown layout o h q.metaslab.notes o.opened c grows (remembers_lower layout o h t o.opened c (opened_le_settled o h due.legal) (moment_remembers old c was now))) run;
      now = record {
        tells = tells;
        rests = rests;
        left = λ c may.
            subst (λ (x : Origin). Remembers layout x q.metaslab.notes (settled_of q.metaslab) c) (sym origin)
            (rw settled_q (remembers_grown layout o h q.metaslab.notes (t + 1) c grows (done_remembers old c was (done c may))));
      };
    }

    held_is : (u : ℕ) → held o h (t + 1) u ≡ held (origin_of q.metaslab) q.metaslab.notes (settled_of q.metaslab) u
    held_is u =
        sym (held-quiet o h settle (t + 1) u (λ x. x)) ∙ (ap (λ (l : List Noted). held o l (t + 1) u) (sym notes)
        ∙ (ap (λ (n : ℕ). held o q.metaslab.notes n u) (sym settled_q) ∙ ap (λ (x : Origin). held x q.metaslab.notes (settled_of q.metaslab) u) (sym origin)))

    pub settled_store : (next : Table) → IsNextTable (head_of layout) table (batch ∷ []) next → IsStoreOf q layout next
    settled_store next is =
        let units : q.metaslab.units ≡ p.metaslab.units = ap (λ (m : MsState). m.units) stays in
        let row = is.rows first_id inside in
        let row_held : (row_of next first_id).held + total_of batch.frees ≡ (row_of table first_id).held + total_of batch.allocs = rw due.id at row.held in
        let here : units_in (held o h (t + 1)) p.metaslab.units ≡ units_in (held (origin_of q.metaslab) q.metaslab.notes (settled_of q.metaslab)) q.metaslab.units =
        units_same (held o h (t + 1)) (held (origin_of q.metaslab) q.metaslab.notes (settled_of q.metaslab)) p.metaslab.units held_is
        ∙ ap (units_in (held (origin_of q.metaslab) q.metaslab.notes (settled_of q.metaslab))) (sym units) in
        record {
          single = subst (IsSingle layout) (sym units) single;
          vdevs = is.vdevs ∙ due.store.vdevs;
          group = omega (arith, is.group, due.store.group, settled_q);
          count = omega (arith, row_held, due.store.count, counts, here);
        }
