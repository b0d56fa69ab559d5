use Rattle.pool_keeper.proofs.Weighing.{seen_alone, seen_posted}
use Rattle.pool_keeper.proofs.syncs.weigh_one.Goals as goal

pub returns-then-not-loaded : goal.returns-then-not-loaded
returns-then-not-loaded g c =
    let p = c.args.passes.now in
    let s = c.requires.seated in
    seen_alone c.args.cells.now c.args.classes.now p s c.args.id _ _ _ _ (c.look_at-weight.ensures p.lane s.cells) c.if-not-loaded.true

pub returns : goal.returns
returns g c =
    let p = c.args.passes.now in
    let s = c.requires.seated in
    seen_posted c.args.cells.now c.args.classes.now p s c.args.id _ _ _ _ (c.look_at-weight.ensures p.lane s.cells) c.weigh.result _ c.if-not-loaded.false c.weigh.ensures
