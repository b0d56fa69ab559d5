use Rattle.std.proofs.Common.{◌≡◌, true, false, ◌∙◌}
use Rattle.zms_top.proofs.Results.{if_ok, on_err}
use Rattle.zms_top.proofs.RunLemmas.{leaves_remembered, stays_then}
use Rattle.zms_top.proofs.SyncSteps.{suspended_did, sync_did, collected_leaves, due_of, stays_both, committed_grows, unsettled_leaves}
use Rattle.zms_top.proofs.syncs.sync.Goals as goal

no_fault : false ≡ true → ⊥
no_fault e = cc

pub commit-requires-clause-due : goal.commit-requires-clause-due
commit-requires-clause-due g c =
    due_of c.args.pool.now c.close.new.pool c.args.lane c.in_ok-closing.closing.group c.in_ok-closing.closing.batch c.args.store.now.layout c.args.store.now.table c.requires.pool c.in_default.is c.in_ok-closing.ensures.closed c.requires.store

pub returns-in_err-closing-clause-remembered : goal.returns-in_err-closing-clause-remembered
returns-in_err-closing-clause-remembered g c was =
    let err = c.in_err-closing.ensures in
    (leaves_remembered c.args.pool.now c.close.new.pool c.args.store.now.layout c.args.store.now.table (g.D.Disk.state c.args.store.now.disk) (g.met.D.Disk.only_now c.args.store.now.disk) c.requires.pool err.stays err.err.1 err.err.0 was)

pub returns : goal.returns
returns g c =
    let p = c.args.pool.now in
    let mid = c.close.new.pool in
    let q = c.commit.new.pool in
    let group = c.in_ok-closing.closing.group in
    let batch = c.in_ok-closing.closing.batch in
    let layout = c.args.store.now.layout in
    let table = c.args.store.now.table in
    let old = g.D.Disk.state c.args.store.now.disk in
    let new = g.D.Disk.state c.commit.new.store.disk in
    let low = g.D.Disk.faults c.args.store.now.disk in
    let high = g.D.Disk.faults c.commit.new.store.disk in
    let closed = c.in_ok-closing.ensures.closed in
    let did = c.commit.ensures in
    let due = due_of p mid c.args.lane group batch layout table c.requires.pool c.in_default.is closed c.requires.store in
    let leaves = collected_leaves p mid c.args.lane group c.requires.pool closed.is_open closed.notes in
    record {
      acted = if_ok c.commit.result (λ answer committed. (sync_did p mid q c.args.lane group batch low high answer c.requires.pool c.in_default.is c.requires.lane.0 closed committed).acted) did.committed;
      first = if_ok c.commit.result (λ answer committed. (sync_did p mid q c.args.lane group batch low high answer c.requires.pool c.in_default.is c.requires.lane.0 closed committed).first) did.committed;
      intervals = if_ok c.commit.result (λ answer committed. (sync_did p mid q c.args.lane group batch low high answer c.requires.pool c.in_default.is c.requires.lane.0 closed committed).intervals) did.committed;
      synced = if_ok c.commit.result (λ answer committed. (sync_did p mid q c.args.lane group batch low high answer c.requires.pool c.in_default.is c.requires.lane.0 closed committed).synced) did.committed;
      undamaged = λ was. did.undamaged (leaves_remembered p mid layout table old (g.met.D.Disk.only_now c.args.store.now.disk) c.requires.pool closed.stays leaves closed.first was).now;
      err = on_err c.commit.result (λ err. (err.0, unsettled_leaves p mid q closed.first leaves err.1)) did.err;
      store = did.store;
      layout = did.layout;
      remembered = λ was.
          let first = leaves_remembered p mid layout table old (g.met.D.Disk.only_now c.args.store.now.disk) c.requires.pool closed.stays leaves closed.first was in
          stays_then p mid q layout c.commit.new.store.layout table c.commit.new.store.table old old new did.layout closed.stays
          (committed_grows mid q layout table c.args.lane group batch low high c.commit.result due did.committed did.err) first (did.remembered first.now);
      spares = did.spares;
      flushes = did.flushes;
      suspended = λ some. absurd (no_fault (rw c.in_default.is at some));
      stays = stays_both p.metaslab mid.metaslab q.metaslab closed.stays did.stays;
      gate = did.gate ∙ c.in_ok-closing.ensures.gate;
    }

pub returns-in-Some-clause-acted : goal.returns-in-Some-clause-acted
returns-in-Some-clause-acted g c = suspended_did c.args.pool.now c.args.lane c.in-Some.first c.requires.pool c.in-Some.is
