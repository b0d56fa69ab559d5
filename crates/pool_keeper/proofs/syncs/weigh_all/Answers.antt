use Rattle.std.proofs.Common.{◌≡◌, arith}
use Rattle.std.specs.declared.alloc.AllocError.{AllocError}
use Rattle.vdev_map.specs.Numbers.{metaslabs_in}
use Rattle.lane_passes.proofs.Acting.{acted_seated}
use Rattle.pool_keeper.proofs.Weighing.{weighed_none, weighed_more, weighed_whole, weighed_in_part}
use Rattle.pool_keeper.proofs.syncs.weigh_all.Goals as goal

pub loop-number-init : goal.loop-number-init
loop-number-init g c = weighed_none c.args.cells.now c.args.passes.now c.args.classes.now c.requires.seated

pub weigh_one-requires-clause-seated : goal.weigh_one-requires-clause-seated
weigh_one-requires-clause-seated g c = acted_seated c.args.cells.now c.args.classes.now _ c.args.passes.now c.loop-number.passes c.requires.seated c.loop-number.invariant

pub loop-number-preserved : goal.loop-number-preserved
loop-number-preserved g c =
    weighed_more c.args.cells.now c.args.passes.now AllocError c.loop-number.number c.id_at-id.result c.id_at-id.ensures.id c.id_at-id.ensures.number c.loop-number.passes c.weigh_one.new.passes c.loop-number.invariant c.in-Ok.ensures

pub returns-in-Err : goal.returns-in-Err
returns-in-Err g c =
    weighed_in_part c.args.cells.now c.args.passes.now AllocError c.loop-number.number c.id_at-id.result c.id_at-id.ensures.id c.id_at-id.ensures.number c.loop-number.passes c.weigh_one.new.passes c.loop-number.invariant c.in-Err.error c.in-Err.ensures

pub returns : goal.returns
returns g c =
    let all : c.loop-number.number ≡ metaslabs_in c.args.cells.now.vdevs = omega (arith, c.loop-number-test.false, c.loop-number.auto.number-end, c.count_of-number-end.ensures.vdevs) in
    weighed_whole c.args.cells.now c.args.passes.now AllocError c.loop-number.number c.loop-number.passes all c.loop-number.invariant
