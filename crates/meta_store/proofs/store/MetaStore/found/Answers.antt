use Rattle.std.proofs.Common.{List, sym, subst}
use Rattle.zms_units.specs.declared.places.VdevRow.{VdevRow}
use Rattle.vdev_map.specs.Numbers.{IsIn}
use Rattle.zms_dev.specs.Disk.{bytes_of}
use Rattle.meta_store.specs.Heads.{head_of}
use Rattle.meta_store.proofs.FoundOnce.{runs_are_found}
use Rattle.meta_store.proofs.Handing.{if_ok}
use Rattle.meta_store.proofs.store.MetaStore.found.Goals as goal

pub returns-clause-finds : goal.returns-clause-finds
returns-clause-finds g c =
    rw (← c.self.view_is)
    (λ uber contents tells has finds.
    let s = c.self.inside in
    let b = bytes_of (g.D.Disk.state s.disk) in
    let listed : IsIn s.layout.vdevs c.args.id = rw (← c.self.view_is) at c.requires in
    let inside : IsIn s.table.vdevs c.args.id = subst (λ (v : List VdevRow). IsIn v c.args.id) (sym c.self.invariant.vdevs) listed in
    if_ok c.find.result _ _ (λ runs are. runs_are_found b uber (head_of s.layout) s.table c.args.id runs.items contents has finds inside are) (c.find.ensures.runs tells))
