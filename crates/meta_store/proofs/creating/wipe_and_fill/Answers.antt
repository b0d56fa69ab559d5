use Rattle.meta_store.specs.Rewinds.{HasFlush}
use Rattle.meta_store.proofs.LastGroup.{has_flush}
use Rattle.meta_store.proofs.MakingPools.{adds_flushes, on_any, wipe_failed, wiped_filled, unmade_wiped}
use Rattle.meta_store.proofs.creating.wipe_and_fill.Goals as goal

pub returns-in_err-wipe-clause-making : goal.returns-in_err-wipe-clause-making
returns-in_err-wipe-clause-making g c tells =
    wipe_failed c.args.layout.now (g.D.Disk.state c.args.disk.now) (g.D.Disk.state c.wipe.new.disk) (c.wipe.ensures.spares tells) (c.in_err-wipe.ensures.unnoted tells)

pub returns-clause-making : goal.returns-clause-making
returns-clause-making g c tells =
    let run = c.wipe.ensures.spares tells in
    wiped_filled c.args.layout.now (g.D.Disk.state c.args.disk.now) (g.D.Disk.state c.wipe.new.disk) (g.D.Disk.state c.fill.new.disk) run (c.in_ok-wipe.ensures.wiped tells) (c.in_ok-wipe.ensures.noted tells)
    (c.fill.ensures.filling run.tells)

pub returns-clause-flushed : goal.returns-clause-flushed
returns-clause-flushed g c tells =
    let old = g.D.Disk.state c.args.disk.now in
    let mid = g.D.Disk.state c.wipe.new.disk in
    let new = g.D.Disk.state c.fill.new.disk in
    let run = c.wipe.ensures.spares tells in
    let filling = c.fill.ensures.filling run.tells in
    on_any c.fill.result (HasFlush old new) (has_flush old mid new (c.in_ok-wipe.ensures.noted tells) (adds_flushes 4 mid new filling.flushes))

pub returns-clause-memory : goal.returns-clause-memory
returns-clause-memory g c tells is =
    let run = c.wipe.ensures.spares tells in
    unmade_wiped (g.D.Disk.state c.args.disk.now) (g.D.Disk.state c.wipe.new.disk) (g.D.Disk.state c.fill.new.disk) run (c.in_ok-wipe.ensures.wiped tells) (c.fill.ensures.memory run.tells is)
