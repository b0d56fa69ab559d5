use Rattle.zms_dev.proofs.Resting.{rests_none}
use Rattle.meta_store.proofs.MakingPools.{making_untouched}
use Rattle.meta_store.proofs.creating.make.Goals as goal

pub returns-in_err-table-clause-making : goal.returns-in_err-table-clause-making
returns-in_err-table-clause-making g c tells =
    let old = g.D.Disk.state c.args.disk.now in
    making_untouched c.args.layout.now old old (rests_none old tells (g.met.D.Disk.only_now c.args.disk.now))

pub returns-in_err-zeros-clause-making : goal.returns-in_err-zeros-clause-making
returns-in_err-zeros-clause-making g c tells =
    let old = g.D.Disk.state c.args.disk.now in
    making_untouched c.args.layout.now old old (rests_none old tells (g.met.D.Disk.only_now c.args.disk.now))
