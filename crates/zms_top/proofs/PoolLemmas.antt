-- A pool whose journals grew, and what is left as it was.
use Rattle.std.proofs.Common.{◌≡◌, ℕ, ◌≤◌, List, sym, ◌∙◌, ap, subst}
use Rattle.zms_units.specs.Segments.{AreSegs}
use Rattle.zms_units.specs.declared.segments.Seg.{Seg}
use Rattle.ms_model.specs.Origin.{Origin}
use Rattle.ms_core.specs.State.{MsState, origin_of, settled_of, StaysButNotes}
use Rattle.zms_top.specs.Sound.{IsSound}
use Rattle.ms_model.specs.Units.{held, settled_group}
use Rattle.ms_model.proofs.Overlaps.{settled_le_collected}
use Rattle.zms_units.specs.Runs.{units_in}
use Rattle.zms_units.proofs.Counting.{units_same}
use Rattle.vdev_map.specs.declared.layout.Layout.{Layout}
use Rattle.vdev_map.specs.declared.table.Table.{Table}
use Rattle.zms_top.specs.Stored.{IsSingle}
use Rattle.zms_top.specs.Pools.{IsPool, IsStoreOf, LeavesSettled}
use Rattle.zms_top.specs.declared.pool.Pool.{Pool}

pub pool_grows : (p q : Pool) → IsPool p → StaysButNotes p.metaslab q.metaslab → q.gate.opened ≡ p.gate.opened → q.base ≡ p.base
    → IsSound (origin_of p.metaslab) q.metaslab.notes q.gate.notes q.first → IsPool q
pool_grows p q was stays gate base sound =
    let same_units = ap (λ (m : MsState). m.units) stays in
    let same_base = ap (λ (m : MsState). m.base) stays in
    let same_opened = ap (λ (m : MsState). m.opened) stays in
    record {
      least_units = subst (λ n. 64 ≤ n) (sym same_units) was.least_units;
      most_units = subst (λ n. n ≤ 131072) (sym same_units) was.most_units;
      shift = ap (λ (m : MsState). m.ashift) stays ∙ was.shift;
      opened = gate ∙ (was.opened ∙ sym same_opened);
      base_is = ap (λ b. b.items) base ∙ (was.base_is ∙ sym same_base);
      segs = subst (λ n. AreSegs n q.metaslab.base) (sym same_units) (subst (λ (l : List Seg). AreSegs p.metaslab.units l) (sym same_base) was.segs);
      sound = subst (λ (o : Origin). IsSound o q.metaslab.notes q.gate.notes q.first) (sym (ap origin_of stays)) sound;
    }

-- a pool whose settled group stays leaves its store as it was
pub store_leaves : (p q : Pool) (layout : Layout) (table : Table) → IsPool p → IsStoreOf p layout table → StaysButNotes p.metaslab q.metaslab → LeavesSettled p q → IsStoreOf q layout table
store_leaves p q layout table was store stays leaves =
    let o : Origin = origin_of p.metaslab in
    let origin : origin_of q.metaslab ≡ o = ap origin_of stays in
    let units : q.metaslab.units ≡ p.metaslab.units = ap (λ (m : MsState). m.units) stays in
    let group : settled_of q.metaslab ≡ settled_of p.metaslab = ap (λ (x : Origin). settled_group x q.metaslab.notes) origin ∙ leaves.group in
    let same : (u : ℕ) → held o p.metaslab.notes (settled_of p.metaslab) u ≡ held (origin_of q.metaslab) q.metaslab.notes (settled_of q.metaslab) u =
    λ u.
    sym (leaves.grows.holds (settled_of p.metaslab) u (settled_le_collected o p.metaslab.notes was.sound.legal))
    ∙ (ap (λ (t : ℕ). held o q.metaslab.notes t u) (sym group) ∙ ap (λ (x : Origin). held x q.metaslab.notes (settled_of q.metaslab) u) (sym origin)) in
    record {
      single = subst (IsSingle layout) (sym units) store.single;
      vdevs = store.vdevs;
      group = store.group ∙ sym group;
      count = store.count ∙ (units_same (held o p.metaslab.notes (settled_of p.metaslab)) (held (origin_of q.metaslab) q.metaslab.notes (settled_of q.metaslab)) p.metaslab.units same
          ∙ ap (units_in (held (origin_of q.metaslab) q.metaslab.notes (settled_of q.metaslab))) (sym units));
    }
