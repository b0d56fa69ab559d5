use Rattle.meta_store.proofs.MakingPools.{making_untouched, making_then}
use Rattle.meta_store.proofs.creating.make_if_none.Goals as goal

pub returns-in_err-uber-clause-making : goal.returns-in_err-uber-clause-making
returns-in_err-uber-clause-making g c tells =
    making_untouched c.args.layout.now (g.D.Disk.state c.args.disk.now) (g.D.Disk.state c.newest.new.disk) (c.newest.ensures.rests tells)

pub returns-in-Some-clause-making : goal.returns-in-Some-clause-making
returns-in-Some-clause-making g c tells =
    making_untouched c.args.layout.now (g.D.Disk.state c.args.disk.now) (g.D.Disk.state c.newest.new.disk) (c.newest.ensures.rests tells)

pub returns-in-None-clause-making : goal.returns-in-None-clause-making
returns-in-None-clause-making g c tells =
    let rests = c.newest.ensures.rests tells in
    making_then c.args.layout.now (g.D.Disk.state c.args.disk.now) (g.D.Disk.state c.newest.new.disk) (g.D.Disk.state c.make.new.disk) rests (c.make.ensures.making rests.tells)
