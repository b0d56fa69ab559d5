use Rattle.class_model.specs.Replay.{IsVdevOf}
use Rattle.class_group.proofs.Turning.{turned_by, told_of}
use Rattle.class_group.proofs.turns.pick.Goals as goal

pub pick-answer-requires-clause-vdev : goal.pick-answer-requires-clause-vdev
pick-answer-requires-clause-vdev g c =
    told_of (λ o. IsVdevOf o c.args.vdev) c.args.pass.now.fixed c.take-held.result c.value_mut.result.now c.value_mut.ensures.value c.take-held.ensures.stands c.requires.vdev

pub returns : goal.returns
returns g c =
    let took = c.take-held in
    let act = c.pick-answer in
    turned_by c.args.lane c.args.cell.now _ c.args.pass.now took.new.pass c.give.new.pass took.result c.value_mut.result.now act.new.cell act.result.1 c.value_mut.ensures.value
    c.requires.ready took.ensures.pass took.ensures.seen took.ensures.whole took.ensures.stands c.give.ensures.pass act.ensures.notes act.ensures.own act.ensures.answer
