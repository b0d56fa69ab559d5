use Rattle.std.proofs.Common.{◌≡◌, ◌<◌, ℕ, length, subst, arith}
use Rattle.pool_keeper.specs.Answers.{AreSettled}
use Rattle.pool_keeper.proofs.Settles.{settled_none, settled_seated, due_still, settled_more}
use Rattle.pool_keeper.proofs.settling.settle_each.Goals as goal

pub loop-number-init : goal.loop-number-init
loop-number-init g c = settled_none c.args.cells.now c.args.lane c.args.group c.args.passes.now c.requires.seated

pub settle_one-requires-clause-number : goal.settle_one-requires-clause-number
settle_one-requires-clause-number g c = omega (arith, c.loop-number-test.true, c.count_of-number-end.ensures.count)

pub settle_one-requires-clause-seated : goal.settle_one-requires-clause-seated
settle_one-requires-clause-seated g c = settled_seated c.args.cells.now c.loop-number.number c.args.lane c.args.group c.args.passes.now c.loop-number.passes c.requires.seated c.loop-number.invariant

pub settle_one-requires-clause-due : goal.settle_one-requires-clause-due
settle_one-requires-clause-due g c =
    let lt : c.loop-number.number < length c.args.cells.now.metaslabs = omega (arith, c.loop-number-test.true, c.count_of-number-end.ensures.count) in
    due_still c.args.cells.now c.loop-number.number c.args.lane c.args.group c.args.passes.now c.loop-number.passes c.loop-number.number c.requires.seated c.loop-number.invariant (omega arith) lt (c.requires.due c.loop-number.number lt)

pub loop-number-preserved : goal.loop-number-preserved
loop-number-preserved g c = settled_more c.loop-number.number c.args.lane c.args.group c.args.passes.now c.loop-number.passes c.settle_one.new.passes c.loop-number.invariant c.settle_one.ensures

pub returns : goal.returns
returns g c =
    let all : c.loop-number.number ≡ length c.args.cells.now.metaslabs = omega (arith, c.loop-number-test.false, c.loop-number.auto.number-end, c.count_of-number-end.ensures.count) in
    subst (λ (n : ℕ). AreSettled n c.args.lane c.args.group c.args.passes.now c.loop-number.passes) all c.loop-number.invariant
