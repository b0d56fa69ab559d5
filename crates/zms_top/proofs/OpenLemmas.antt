-- A pool as it is put together and opened.
use Rattle.std.proofs.Common.{◌≡◌, ◌≢◌, ℕ, ◌^◌, ◌<◌, ◌≤◌, None, List, [], refl, sym, ◌∙◌, ap, subst, arith}
use Rattle.std.specs.List.{All}
use Rattle.zms_units.specs.Segments.{covered, total_of, AreSegs}
use Rattle.zms_units.specs.Runs.{units_in, AreMaximalRuns}
use Rattle.zms_units.specs.declared.faults.Damage.{Damage}
use Rattle.zms_units.specs.declared.faults.Damage.TheVariants.{Word, Counts, Unit as UnitDiffers}
use Rattle.space_map.specs.Replay.{is_held}
use Rattle.space_map.proofs.Deciding.{runs_certain, runs_show_no_fault}
use Rattle.space_map.specs.declared.places.Found.{Found}
use Rattle.space_map.specs.declared.places.MapKind.TheVariants.{Side}
use Rattle.zms_dev.specs.Causes.{one_more}
use Rattle.zms_dev.specs.Runs.{Untouched}
use Rattle.meta_store.specs.Causes.{ShowsDamage, IsOpenFault, IsFaultOf}
use Rattle.meta_store.specs.Finding.{IsFoundFault}
use Rattle.meta_store.specs.declared.causes.FoundFault.{FoundFault}
use Rattle.meta_store.specs.declared.causes.FoundFault.TheVariants.{Failed as FoundFailed, Memory as FoundMemory, Damaged as FoundDamaged}
use Rattle.meta_store.specs.declared.causes.OpenFault.{OpenFault}
use Rattle.meta_store.specs.declared.causes.OpenFault.TheVariants.{Cause, Failed as OpenFailed, Memory as OpenMemory}
use Rattle.zms_top.specs.Ends.{IsOfText, IsOpenEnd, IsOrigin}
use Rattle.zms_top.specs.Reports.{IsOpenedWhole}
use Rattle.zms_top.specs.declared.status.PoolCause.TheVariants.{Open, OtherLayout, AlreadyPool}
use Rattle.zms_top.specs.declared.status.Status.{Status}
use Rattle.zms_top.specs.declared.status.Status.TheVariants.{Done, Usage, BadText, ReadFault, WriteFault, DeviceFault, NotAPool, Memory, Found as StatusFound}
use Rattle.zms_top.proofs.EndLemmas.{whole_from}
use Rattle.zms_units.specs.declared.places.MsId.{MsId}
use Rattle.zms_units.specs.declared.places.VdevRow.{VdevRow}
use Rattle.zms_units.specs.declared.segments.Group.{Group}
use Rattle.zms_units.specs.declared.segments.Seg.{Seg}
use Rattle.zms_units.proofs.Counting.{units_same}
use Rattle.ms_model.specs.Origin.{Origin}
use Rattle.ms_model.specs.Units.{held, settled_group}
use Rattle.ms_model.specs.declared.notes.Act.TheVariants.{Unload}
use Rattle.ms_model.specs.declared.notes.Noted.{Noted}
use Rattle.ms_model.specs.declared.notes.GateNote.{GateNote}
use Rattle.ms_model.proofs.Histories.{legal_none}
use Rattle.ms_core.specs.State.{origin_of, settled_of}
use Rattle.zms_dev.specs.Disk.{DiskState, Tells, bytes_of}
use Rattle.vdev_map.specs.Numbers.{IsIn, row_at}
use Rattle.vdev_map.specs.declared.layout.Layout.{Layout}
use Rattle.vdev_map.specs.declared.table.Table.{Table}
use Rattle.meta_store.specs.Groups.{Finds}
use Rattle.meta_store.specs.Heads.{head_of}
use Rattle.meta_store.specs.Stores.{Opens}
use Rattle.meta_store.specs.Words.{row_of, units_of, words_in, HoldUnits, AreHeldRuns}
use Rattle.meta_store.specs.declared.causes.At.{At}
use Rattle.meta_store.proofs.HeldRuns.{maximal_count}
use Rattle.meta_store.proofs.KeptPlaces.{group_of_table}
use Rattle.zms_top.specs.Sound.{first_id, IsSound}
use Rattle.zms_top.specs.Stored.{IsSingle, opened_contents, IsWhole}
use Rattle.zms_top.specs.Pools.{IsStoreOf}
use Rattle.zms_top.specs.FreshPool.{IsAssembled, IsOpened, IsUnfit, status_of_open, status_of_found}
use Rattle.zms_top.specs.declared.pool.Pool.{Pool}
use Rattle.zms_top.proofs.Remembering.{base_held, single_id, single_units, first_in}

-- nothing was done yet
pub sound_none : (o : Origin) (h : List Noted) (g : List GateNote) → h ≡ [] → g ≡ [] → IsSound o h g None
sound_none o h g no_note no_gate = rw (no_note, no_gate) (record {
  legal = legal_none o;
  kept = none_in;
  synced = refl;
  next = refl;
  behind = omega arith;
  level = λ e. refl;
}) where
  none_in : All {X = Noted} (λ note. note.act ≢ Unload) []
  none_in i d lt = absurd (omega (arith, lt))

pub assembled : (group : Group) (units : ℕ) (runs : List Seg) (p : Pool) → 64 ≤ units → units ≤ 131072 → AreSegs units runs
    → p.metaslab.units ≡ units → p.metaslab.ashift ≡ 12 → p.metaslab.opened ≡ group.0 → p.metaslab.base ≡ runs → p.metaslab.notes ≡ []
    → p.metaslab.id ≡ record { vdev = 0; index = 0 } → p.gate.opened ≡ group.0 → p.gate.notes ≡ [] → p.base.items ≡ runs → p.first ≡ None → group.0 < 2 ^ 49
    → IsAssembled group units runs p
assembled group units runs p least most are same shift opened base notes id gate gate_notes copy idle small =
    let sound : IsSound (origin_of p.metaslab) p.metaslab.notes p.gate.notes None = sound_none (origin_of p.metaslab) p.metaslab.notes p.gate.notes notes gate_notes in
    record {
      fresh = record {
        pool = record {
          least_units = omega (arith, least, same);
          most_units = omega (arith, most, same);
          shift = shift;
          opened = gate ∙ sym opened;
          base_is = copy ∙ sym base;
          segs = rw (same, base) are;
          sound = rw idle sound;
        };
        notes = notes;
        gate = gate_notes;
        first = idle;
        id = id;
        small = omega (arith, opened, small);
      };
      group = opened;
      units = same;
      base = base;
    }

-- the store is the pool's, where the runs add up to what the row counts
pub store_of : (group : Group) (units : ℕ) (runs : List Seg) (p : Pool) (layout : Layout) (table : Table) → IsAssembled group units runs p → IsSingle layout units → table.vdevs ≡ layout.vdevs
    → table.group ≡ group → AreMaximalRuns (covered runs) (units_of table first_id) runs → total_of runs ≡ (row_of table first_id).held → IsStoreOf p layout table
store_of group units runs p layout table made single vdevs is_group are count =
    let o : Origin = origin_of p.metaslab in
    let settled : settled_of p.metaslab ≡ o.opened = ap (settled_group o) made.fresh.notes in
    let units_is : units_of table first_id ≡ units = ap (λ (v : List VdevRow). (row_at v first_id.vdev).units) vdevs ∙ single_units layout units single in
    let same : (u : ℕ) → covered runs u ≡ held o p.metaslab.notes (settled_of p.metaslab) u =
    λ u. ap (λ (l : List Seg). covered l u) (sym made.base) ∙ rw (settled, made.fresh.notes) (sym (base_held o u (o.base u) refl)) in
    record {
      single = subst (IsSingle layout) (sym made.units) single;
      vdevs = vdevs;
      group = ap (λ (x : Group). x.0) is_group ∙ (sym made.group ∙ sym settled);
      count = sym count ∙ (sym (maximal_count (covered runs) (units_of table first_id) runs are)
          ∙ (units_same (covered runs) (held o p.metaslab.notes (settled_of p.metaslab)) (units_of table first_id) same
          ∙ ap (units_in (held o p.metaslab.notes (settled_of p.metaslab))) (units_is ∙ sym made.units)));
    }

-- and the opened group finds what the pool's metaslab held
pub base_found : (group : Group) (units : ℕ) (runs : List Seg) (p : Pool) (layout : Layout) (table : Table) (at : At) (image : List ℕ) → IsAssembled group units runs p → IsSingle layout units → table.vdevs ≡ layout.vdevs
    → table.group ≡ group → Opens image at layout table → AreHeldRuns (words_in image table first_id) (units_of table first_id) runs → Finds image p.metaslab.opened (opened_contents layout (origin_of p.metaslab))
base_found group units runs p layout table at image made single vdevs is_group opens are = record {
  uber = opens.uber;
  head = head_of layout;
  table = table;
  named = ap (λ (x : Group). x.0) (group_of_table image opens.uber (head_of layout) table opens.opened.has.rows.has_table ∙ is_group) ∙ sym made.group;
  has = opens.opened.has;
  layout = ap (λ (v : List VdevRow). let l : Layout = record { flush = layout.flush; log = layout.log; vdevs = v } in l) (sym vdevs);
  found = λ id u inside lt.
      let is : id ≡ first_id = single_id layout units id single (subst (λ (v : List VdevRow). IsIn v id) vdevs inside) in
      let within : u < units_of table first_id = subst (λ (i : MsId). u < units_of table i) is lt in
      rw is (record { found = are.found; decodes = are.decodes; says = sym (are.maximal.whole u within) ∙ ap (λ (l : List Seg). covered l u) (sym made.base) });
}

-- words that hold as many units as they should show no damage
pub sound_no_damage : (words : List ℕ) (units count : ℕ) (damage : Damage) → HoldUnits words units count → ShowsDamage words units count damage → ⊥
sound_no_damage words units count (Word fault) sound shows = runs_show_no_fault (Side units) words sound.found fault sound.decodes shows
sound_no_damage words units count (Counts kept found) sound shows =
    let other = shows.1.0 in
    let runs = runs_certain (Side units) words other.found sound.found other.decodes sound.decodes in
    shows.1.1 (sym other.held ∙ (ap (λ (f : List Found). units_in (is_held f) units) runs ∙ sound.held))
sound_no_damage words units count (UnitDiffers u) sound shows = absurd shows

-- a fault that what was read shows, of a store that opens
pub found_unfit : (disk : DiskState) (layout : Layout) (table : Table) (units low high : ℕ) (fault : FoundFault) → IsSingle layout units → table.vdevs ≡ layout.vdevs
    → (Tells disk → IsFoundFault (bytes_of disk) table first_id fault) → ((fault ≡ FoundFailed → ⊥) → high ≡ low) → (fault ≡ FoundFailed → high ≡ one_more low)
    → IsUnfit disk layout table low high (status_of_found fault)
found_unfit disk layout table units low high FoundFailed single vdevs shows steady failed = failed refl
found_unfit disk layout table units low high FoundMemory single vdevs shows steady failed = steady (λ e. cc)
found_unfit disk layout table units low high (FoundDamaged id damage) single vdevs shows steady failed = (
  (λ at tells opens.
      let inside : IsIn table.vdevs first_id = subst (λ (v : List VdevRow). IsIn v first_id) (sym vdevs) (first_in layout units single) in
      sound_no_damage (words_in (bytes_of disk) table first_id) (units_of table first_id) (row_of table first_id).held damage (opens.opened.has.sound first_id inside) (shows tells).1),
  steady (λ e. cc),
)

-- why a pool was not opened

open_end : (at : At) (start : DiskState) (low high : ℕ) (fault : OpenFault) → (Tells start → IsOpenFault (bytes_of start) at fault) → IsFaultOf fault low high → IsOpenEnd at start low high (status_of_open fault)
open_end at start low high (Cause cause) shows count = (shows, count)
open_end at start low high OpenFailed shows count = count
open_end at start low high OpenMemory shows count = count

pub open_no_text : (fault : OpenFault) → IsOfText (status_of_open fault) → ⊥
open_no_text (Cause cause) text = text
open_no_text OpenFailed text = text
open_no_text OpenMemory text = text

pub refused_end : (at : At) (start : DiskState) (low high : ℕ) (fault : OpenFault) (status : Status) → status ≡ status_of_open fault → (Tells start → IsOpenFault (bytes_of start) at fault) → IsFaultOf fault low high
    → IsOpenEnd at start low high status
refused_end at start low high fault status is shows count = rw is (open_end at start low high fault shows count)

pub unfit_end : (at : At) (start mid : DiskState) (layout : Layout) (table : Table) (low between high : ℕ) (status : Status) → (Tells start → Untouched start mid) → between ≡ low
    → (Tells start → Opens (bytes_of start) at layout table) → IsUnfit mid layout table between high status → IsOpenEnd at start low high status
unfit_end at start mid layout table low between high DeviceFault quiet steady opens is = is ∙ ap one_more steady
unfit_end at start mid layout table low between high (NotAPool (Open cause)) quiet steady opens is =
    ((λ tells. absurd (is.0 at (quiet tells).tells (subst (λ (b : List ℕ). Opens b at layout table) (sym (quiet tells).contents) (opens tells)))), is.1 ∙ steady)
unfit_end at start mid layout table low between high (NotAPool OtherLayout) quiet steady opens is =
    ((λ tells. record { layout = layout; table = table; vdevs = is.0.0; opens = opens tells; other = is.0.1 }), is.1 ∙ steady)
unfit_end at start mid layout table low between high (NotAPool (AlreadyPool newest)) quiet steady opens is = absurd is
unfit_end at start mid layout table low between high Memory quiet steady opens is = is ∙ steady
unfit_end at start mid layout table low between high Done quiet steady opens is = absurd is
unfit_end at start mid layout table low between high Usage quiet steady opens is = absurd is
unfit_end at start mid layout table low between high (BadText line) quiet steady opens is = absurd is
unfit_end at start mid layout table low between high ReadFault quiet steady opens is = absurd is
unfit_end at start mid layout table low between high WriteFault quiet steady opens is = absurd is
unfit_end at start mid layout table low between high (StatusFound n) quiet steady opens is = absurd is

pub unfit_no_text : (disk : DiskState) (layout : Layout) (table : Table) (low high : ℕ) (status : Status) → IsUnfit disk layout table low high status → IsOfText status → ⊥
unfit_no_text disk layout table low high ReadFault is text = absurd is
unfit_no_text disk layout table low high (BadText line) is text = absurd is
unfit_no_text disk layout table low high _ is text = text

-- the origin of a pool that was opened
pub origin_from : (at : At) (start : DiskState) (p : Pool) (layout : Layout) (table : Table) → IsOpened at start p layout table → IsOrigin at start layout (origin_of p.metaslab)
origin_from at start p layout table is =
    let settled : settled_of p.metaslab ≡ p.metaslab.opened = ap (settled_group (origin_of p.metaslab)) is.fresh.notes in
    record {
      shift = is.fresh.pool.shift;
      single = is.store.single;
      early = is.fresh.small;
      opens = λ tells. record { table = table; vdevs = is.store.vdevs; named = is.store.group ∙ settled; opens = is.opens tells };
      base = is.base;
    }

-- what is whole when a pool is opened is whole and opened behind the reading
pub opened_whole : (at : At) (start mid : DiskState) (p : Pool) (layout : Layout) (table : Table) → (Tells start → Untouched start mid) → IsOpened at start p layout table → IsWhole start at → IsOpenedWhole at p layout table mid
opened_whole at start mid p layout table quiet is whole =
    let same = quiet whole.tells in
    record {
      whole = whole_from at start mid same whole;
      opens = subst (λ (b : List ℕ). Opens b at layout table) (sym same.contents) (is.opens whole.tells);
      base = subst (λ (b : List ℕ). Finds b p.metaslab.opened (opened_contents layout (origin_of p.metaslab))) (sym same.contents) (is.base whole.tells);
    }
