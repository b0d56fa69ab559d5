use Rattle.zms_top.proofs.PoolLemmas.{store_leaves}
use Rattle.zms_top.proofs.RunLemmas.{leaves_remembered}
use Rattle.zms_top.proofs.lane.run_command.Goals as goal

pub returns-in-Alloc-clause-store : goal.returns-in-Alloc-clause-store
returns-in-Alloc-clause-store g c =
    store_leaves c.args.pool.now c.alloc.new.pool c.args.store.now.layout c.args.store.now.table c.requires.pool c.requires.store c.alloc.ensures.stays c.alloc.ensures.leaves

pub returns-in-Alloc-clause-remembered : goal.returns-in-Alloc-clause-remembered
returns-in-Alloc-clause-remembered g c was =
    leaves_remembered c.args.pool.now c.alloc.new.pool c.args.store.now.layout c.args.store.now.table (g.D.Disk.state c.args.store.now.disk) (g.met.D.Disk.only_now c.args.store.now.disk) c.requires.pool c.alloc.ensures.stays c.alloc.ensures.leaves c.alloc.ensures.first was

pub returns-in-Free-clause-store : goal.returns-in-Free-clause-store
returns-in-Free-clause-store g c =
    store_leaves c.args.pool.now c.free.new.pool c.args.store.now.layout c.args.store.now.table c.requires.pool c.requires.store c.free.ensures.stays c.free.ensures.leaves

pub returns-in-Free-clause-remembered : goal.returns-in-Free-clause-remembered
returns-in-Free-clause-remembered g c was =
    leaves_remembered c.args.pool.now c.free.new.pool c.args.store.now.layout c.args.store.now.table (g.D.Disk.state c.args.store.now.disk) (g.met.D.Disk.only_now c.args.store.now.disk) c.requires.pool c.free.ensures.stays c.free.ensures.leaves c.free.ensures.first was
