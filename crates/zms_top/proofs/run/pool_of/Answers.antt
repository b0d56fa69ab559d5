use Rattle.std.proofs.Common.{sym, ap}
use Rattle.zms_top.specs.Stored.{IsSingle}
use Rattle.zms_top.proofs.OpenLemmas.{store_of, base_found, found_unfit}
use Rattle.std.specs.Prelude.{Err}
use Rattle.meta_store.specs.declared.causes.FoundFault.TheVariants.{Failed}
use Rattle.zms_top.proofs.Results.{same_err}
use Rattle.zms_top.proofs.run.pool_of.Goals as goal

pub returns-in-Ok-assemble-clause-store : goal.returns-in-Ok-assemble-clause-store
returns-in-Ok-assemble-clause-store g c =
    let single : IsSingle c.args.store.now.layout c.in-Some.units = rw c.layout.ensures.layout at c.in-Some.ensures.some in
    rw (c.found.ensures.layout, c.found.ensures.table)
    (store_of c.group-group.result c.in-Some.units c.in-Ok.runs.items c.in-Ok-assemble.pool c.args.store.now.layout c.args.store.now.table c.in-Ok-assemble.ensures.pool single c.requires.limits.vdevs
    (sym c.group-group.ensures.group) c.in-Ok.ensures.maximal c.in-Ok.ensures.count)

pub returns-in-Ok-assemble-clause-base : goal.returns-in-Ok-assemble-clause-base
returns-in-Ok-assemble-clause-base g c at tells opens =
    let single : IsSingle c.args.store.now.layout c.in-Some.units = rw c.layout.ensures.layout at c.in-Some.ensures.some in
    base_found c.group-group.result c.in-Some.units c.in-Ok.runs.items c.in-Ok-assemble.pool c.args.store.now.layout c.args.store.now.table at _ c.in-Ok-assemble.ensures.pool single c.requires.limits.vdevs
    (sym c.group-group.ensures.group) opens (c.in-Ok.ensures.runs tells)

pub returns-in-Err-clause-err : goal.returns-in-Err-clause-err
returns-in-Err-clause-err g c =
    let single : IsSingle c.args.store.now.layout c.in-Some.units = rw c.layout.ensures.layout at c.in-Some.ensures.some in
    let did = c.in-Err.ensures in
    rw c.found_status.ensures
    (found_unfit (g.D.Disk.state c.args.store.now.disk) c.args.store.now.layout c.args.store.now.table c.in-Some.units _ _ c.in-Err.fault single c.requires.limits.vdevs did.fault
    (λ apart. did.steady (λ e. apart (same_err c.in-Err.fault Failed e))) (λ e. did.failed (ap Err e)))
