use Rattle.std.proofs.Common.{◌≡◌, Some, None, refl, sym, ◌∙◌, subst}
use Rattle.zms_units.specs.declared.faults.Damage.{Damage}
use Rattle.zms_units.specs.declared.places.MsId.{MsId}
use Rattle.ms_core.specs.State.{origin_of, settled_of}
use Rattle.zms_dev.proofs.Sparing.{spares_less}
use Rattle.meta_store.specs.Stores.{IsAtRest}
use Rattle.meta_store.specs.declared.commit_faults.CommitFault.TheVariants.{Failed, Memory, Damaged}
use Rattle.zms_units.specs.declared.faults.First.{First}
use Rattle.zms_top.specs.Stored.{contents_of}
use Rattle.zms_top.specs.Pools.{IsCommitted}
use Rattle.zms_top.proofs.Committing.{batches_fit, finds_now, backed_now, unsettled_stays, settled_stays, settled_store, beside_next}
use Rattle.zms_top.proofs.Results.{err_of, not_err_of}
use Rattle.zms_top.proofs.syncs.commit.Goals as goal

pub commit-requires-clause-batches : goal.commit-requires-clause-batches
commit-requires-clause-batches g c = batches_fit c.args.pool.now c.args.store.now.layout c.args.store.now.table c.args.closing.group c.args.closing.batch c.requires.due

pub returns-in-Ok-clause-store : goal.returns-in-Ok-clause-store
returns-in-Ok-clause-store g c =
    rw c.in-Ok.ensures.layout
    (settled_store c.args.pool.now c.args.store.now.layout c.args.store.now.table c.args.closing.group c.args.closing.batch c.requires.due _ c.args.lane c.settle.ensures.note c.settle.ensures.stays c.commit.new.self.table c.in-Ok.ensures.table)

pub returns-in-Ok-clause-remembered : goal.returns-in-Ok-clause-remembered
returns-in-Ok-clause-remembered g c was =
    let p = c.args.pool.now in
    let layout = c.args.store.now.layout in
    let table = c.args.store.now.table in
    let group = c.args.closing.group in
    let batch = c.args.closing.batch in
    let old = g.D.Disk.state c.args.store.now.disk in
    let new = g.D.Disk.state c.commit.new.self.disk in
    let rests = was.rests c.requires.due.idle in
    let did = c.in-Ok.ensures in
    let found = finds_now p layout table group batch c.requires.due old was (g.met.D.Disk.reads_as c.args.store.now.disk was.tells) in
    let at_rest : IsAtRest new layout c.commit.new.self.table =
    subst (λ l. IsAtRest new l c.commit.new.self.table) did.layout (did.at_rest rests (contents_of layout (origin_of p.metaslab) p.metaslab.notes (settled_of p.metaslab)) found (backed_now p layout table group batch c.requires.due)) in
    rw did.layout
    (settled_stays p layout table group batch c.requires.due _ c.args.lane c.settle.ensures.note c.settle.ensures.stays old new c.commit.new.self.table (did.tells was.tells) (λ _. at_rest) was (did.any_moment rests) (did.done rests))

some_none : (x : First) → Some x ≡ None → ⊥
some_none x e = cc

pub returns-in-Err-Failed-clause-remembered : goal.returns-in-Err-Failed-clause-remembered
returns-in-Err-Failed-clause-remembered g c was =
    let old = g.D.Disk.state c.args.store.now.disk in
    let new = g.D.Disk.state c.commit.new.self.disk in
    let did = c.in-Err-Failed.ensures in
    let run = did.any_moment (was.rests c.requires.due.idle) in
    rw (did.layout, did.same)
    (unsettled_stays c.args.pool.now c.args.store.now.layout c.args.store.now.table c.args.closing.group c.args.closing.batch c.requires.due _ old new refl (did.tells was.tells) (λ none. absurd (some_none _ none))
    (λ image may. g.met.D.Disk.counts_now c.commit.new.self.disk old.moment image run.later may) was run)

not_failed : (id : MsId) (damage : Damage) → Damaged id damage ≡ Failed → ⊥
not_failed id damage e = cc

pub returns-in-Err-Damaged-clause-committed : goal.returns-in-Err-Damaged-clause-committed
returns-in-Err-Damaged-clause-committed g c =
    IsCommitted.damaged _ _ refl
    (c.commit.ensures.steady (not_err_of c.commit.result c.in-Err-Damaged.field-0 Failed c.in-Err-Damaged.is (λ e. not_failed c.in-Err-Damaged.id c.in-Err-Damaged.damage (sym c.in-Err-Damaged.field-0-is ∙ e)))) refl refl refl refl

pub returns-clause-remembered : goal.returns-clause-remembered
returns-clause-remembered g c was =
    let old = g.D.Disk.state c.args.store.now.disk in
    let new = g.D.Disk.state c.commit.new.self.disk in
    let did = c.in-Err-Memory.ensures in
    let rests = was.rests c.requires.due.idle in
    let run = did.any_moment rests in
    let still : IsAtRest new c.args.store.now.layout c.args.store.now.table = rw (did.layout, did.same) at (c.commit.ensures.memory rests (err_of c.commit.result c.in-Err-Memory.field-0 Memory c.in-Err-Memory.is c.in-Err-Memory.field-0-is)) in
    rw (did.layout, did.same)
    (unsettled_stays c.args.pool.now c.args.store.now.layout c.args.store.now.table c.args.closing.group c.args.closing.batch c.requires.due c.args.pool.now old new refl (did.tells was.tells) (λ _. still)
    (λ image may. g.met.D.Disk.counts_now c.commit.new.self.disk old.moment image run.later may) was run)

pub returns-in-Ok-clause-spares : goal.returns-in-Ok-clause-spares
returns-in-Ok-clause-spares g c tells =
    spares_less _ _ _ _ (beside_next c.args.store.now.layout c.args.store.now.table c.requires.due.store.vdevs) (c.in-Ok.ensures.spares tells)

pub returns-in-Err-Failed-clause-spares : goal.returns-in-Err-Failed-clause-spares
returns-in-Err-Failed-clause-spares g c tells =
    spares_less _ _ _ _ (beside_next c.args.store.now.layout c.args.store.now.table c.requires.due.store.vdevs) (c.in-Err-Failed.ensures.spares tells)

pub returns-in-Err-Damaged-clause-spares : goal.returns-in-Err-Damaged-clause-spares
returns-in-Err-Damaged-clause-spares g c tells =
    spares_less _ _ _ _ (beside_next c.args.store.now.layout c.args.store.now.table c.requires.due.store.vdevs) (c.in-Err-Damaged.ensures.spares tells)

pub returns-clause-spares : goal.returns-clause-spares
returns-clause-spares g c tells =
    spares_less _ _ _ _ (beside_next c.args.store.now.layout c.args.store.now.table c.requires.due.store.vdevs) (c.in-Err-Memory.ensures.spares tells)
