-- What a group shows that is read part by part.
use Rattle.std.proofs.Common.{◌≡◌, inl, inr, ℕ, ◌+◌, ◌<◌, List, sym, ◌∙◌, subst, arith}
use Rattle.std.proofs.lemmas.Bool.{cases_lt}
use Rattle.zms_units.specs.Limits.{GROUPS_END}
use Rattle.zms_units.specs.declared.places.MsId.{MsId}
use Rattle.vdev_map.specs.Numbers.{IsIn, number_of}
use Rattle.vdev_map.specs.declared.layout.Head.{Head}
use Rattle.vdev_map.specs.declared.table.Table.{Table}
use Rattle.vdev_map.proofs.InOrder.{one_number}
use Rattle.uber_ring.specs.TableFields.{HasTable, HasTableFault}
use Rattle.uber_ring.specs.declared.faults.TableFault.{TableFault}
use Rattle.uber_ring.specs.declared.faults.TableFault.TheVariants.{Failed as TableFailed, Memory as TableMemory, TableDamaged as DamagedTable, Malformed as MalformedTable}
use Rattle.uber_ring.specs.declared.slot.Uber.{Uber}
use Rattle.meta_store.specs.Causes.{IsFirstDamaged, IsMetaslabFault, IsOpenFaultOf}
use Rattle.meta_store.specs.Faults.{of_found, of_table}
use Rattle.meta_store.specs.Finding.{IsFoundFault}
use Rattle.meta_store.specs.Groups.{IsSound}
use Rattle.meta_store.specs.Heads.{head_bytes, IsWholeHead}
use Rattle.meta_store.specs.Words.{HoldUnits, AreHeldRuns}
use Rattle.meta_store.specs.declared.causes.FoundFault.{FoundFault}
use Rattle.meta_store.specs.declared.causes.FoundFault.TheVariants.{Failed as FoundFailed, Memory as FoundMemory, Damaged}
use Rattle.meta_store.specs.declared.causes.OpenFault.{OpenFault}
use Rattle.meta_store.specs.declared.causes.OpenFault.TheVariants.{Cause, Failed, Memory}
use Rattle.meta_store.specs.declared.causes.OpenCause.TheVariants.{NoSlot, NotRetained, Spent, HeadDamaged, TableDamaged, Malformed, MapDamaged}
use Rattle.meta_store.proofs.HeldRuns.{maximal_count}
use Rattle.zms_units.specs.Segments.{total_of}
use Rattle.zms_units.specs.declared.segments.Seg.{Seg}
use Rattle.space_map.specs.Replay.{is_held}

-- runs that add up to what the row says
pub runs_sound : (words : List ℕ) (units held : ℕ) (runs : List Seg) → AreHeldRuns words units runs → total_of runs ≡ held → HoldUnits words units held
runs_sound words units held runs are count = record {
  found = are.found;
  decodes = are.decodes;
  held = maximal_count (is_held are.found) units runs are.maximal ∙ count;
}

module _ (image : List ℕ) (table : Table) where
  -- the metaslabs before a number are sound
  abbrev pub SoundBelow : ℕ → Type 0
  SoundBelow n = (id : MsId) → IsIn table.vdevs id → number_of table.vdevs id < n → IsSound image table id

  pub sound_none : SoundBelow 0
  sound_none id in_ lt = absurd (omega arith)

  pub sound_more : (n : ℕ) (id : MsId) → IsIn table.vdevs id → number_of table.vdevs id ≡ n → IsSound image table id → SoundBelow n → SoundBelow (n + 1)
  sound_more n id in_ is sound below other other_in lt = elim (cases_lt (number_of table.vdevs other) n) [
    | inl before ↦ below other other_in before
    | inr here ↦
        let same : other ≡ id = one_number table.vdevs id other in_ other_in (let e : number_of table.vdevs other ≡ number_of table.vdevs id = omega arith in e) in
        subst (λ (i : MsId). IsSound image table i) (sym same) sound
  ]

  pub metaslab_fault : (n : ℕ) (id : MsId) (fault : FoundFault) → IsIn table.vdevs id → number_of table.vdevs id ≡ n → SoundBelow n → IsFoundFault image table id fault → IsMetaslabFault image table (of_found fault)
  metaslab_fault n id FoundFailed in_ is below shows = tt
  metaslab_fault n id FoundMemory in_ is below shows = tt
  metaslab_fault n id (Damaged other damage) in_ is below shows =
      subst (λ (i : MsId). IsFirstDamaged image table i damage) (sym shows.0) (record {
        in_table = in_;
        shows = shows.1;
        before = λ before_id before_in lt. below before_id before_in (omega arith);
      })

-- the faults of a group
module _ (image : List ℕ) (uber : Uber) (early : uber.group.0 < GROUPS_END) (head : Head) (has_head : IsWholeHead (head_bytes image) head) where
  pub table_cause : (fault : TableFault) → HasTableFault image head uber fault → IsOpenFaultOf image uber (of_table fault)
  table_cause TableFailed shows = tt
  table_cause TableMemory shows = tt
  table_cause (DamagedTable group kept found) shows = (early, record { head = head; has_head = has_head; shows = shows })
  table_cause (MalformedTable part at) shows = (early, inr (record { head = head; has_head = has_head; shows = shows }))

  pub metaslab_cause : (table : Table) (fault : OpenFault) → HasTable image head uber table → IsMetaslabFault image table fault → IsOpenFaultOf image uber fault
  metaslab_cause table Failed has shows = tt
  metaslab_cause table Memory has shows = tt
  metaslab_cause table (Cause NoSlot) has shows = absurd shows
  metaslab_cause table (Cause (NotRetained asked newest)) has shows = absurd shows
  metaslab_cause table (Cause (Spent group)) has shows = absurd shows
  metaslab_cause table (Cause (HeadDamaged kept found)) has shows = absurd shows
  metaslab_cause table (Cause (TableDamaged group kept found)) has shows = absurd shows
  metaslab_cause table (Cause (Malformed part at)) has shows = absurd shows
  metaslab_cause table (Cause (MapDamaged id damage)) has shows = (early, record { head = head; table = table; rows = record { has_head = has_head; has_table = has }; first = shows })
