use Rattle.pool_alloc.proofs.Turning.{posted}
use Rattle.pool_alloc.proofs.turns.post_weight.Goals as goal

pub returns-in-Granted : goal.returns-in-Granted
returns-in-Granted g c =
    let p = c.args.passes.now in
    posted c.args.cells.now c.args.classes.now p c.requires.seated c.args.id c.args.post _ _ _ _ c.granted.result _ _ c.in-Granted.is (c.look_at-weight.ensures p.lane c.requires.seated.cells) c.granted.ensures

pub returns-in-Missed : goal.returns-in-Missed
returns-in-Missed g c =
    let p = c.args.passes.now in
    posted c.args.cells.now c.args.classes.now p c.requires.seated c.args.id c.args.post _ _ _ _ c.missed.result _ _ c.in-Missed.is (c.look_at-weight.ensures p.lane c.requires.seated.cells) c.missed.ensures

pub returns-in-Weigh : goal.returns-in-Weigh
returns-in-Weigh g c =
    let p = c.args.passes.now in
    posted c.args.cells.now c.args.classes.now p c.requires.seated c.args.id c.args.post _ _ _ _ c.weigh.result _ _ c.in-Weigh.is (c.look_at-weight.ensures p.lane c.requires.seated.cells) c.weigh.ensures
