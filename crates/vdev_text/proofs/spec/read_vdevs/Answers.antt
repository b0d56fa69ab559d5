use Rattle.std.proofs.Common.{ap}
use Rattle.std.specs.Prelude.{Some}
use Rattle.vdev_text.proofs.SpecLemmas.{nothing_yet, so_far_more, refused_more, read_last, only_last, refused_last}
use Rattle.vdev_text.proofs.spec.read_vdevs.Goals as goal

pub loop-one-init : goal.loop-one-init
loop-one-init c = let none = c.new-vdevs.ensures in rw none (nothing_yet c.args.text.now)

pub loop-one-preserved : goal.loop-one-preserved
loop-one-preserved c =
    so_far_more c.args.text.now c.loop-one.rest.now c.loop-one.vdevs c.loop-one.invariant c.in-Some.one.now c.in-Some.behind.now c.add.new.vdevs
    c.in-Some.ensures.some.0 c.in-Some.ensures.some.1 (c.if-not-add.ensures.added)

pub returns-then-not-add-clause-only : goal.returns-then-not-add-clause-only
returns-then-not-add-clause-only c = λ rows read.
    absurd (refused_more c.args.text.now c.loop-one.rest.now c.loop-one.vdevs c.loop-one.invariant c.in-Some.one.now c.in-Some.behind.now
    c.in-Some.ensures.some.0 c.in-Some.ensures.some.1 (c.if-not-add.ensures.refused) rows read)

pub returns-then-add-clause-read : goal.returns-then-add-clause-read
returns-then-add-clause-read c =
    read_last c.args.text.now c.loop-one.rest.now c.loop-one.vdevs c.loop-one.invariant c.add-2.new.vdevs (c.in_default.ensures.none) (c.if-add.ensures.added)

pub returns-then-add-clause-only : goal.returns-then-add-clause-only
returns-then-add-clause-only c = λ rows read.
    ap Some (only_last c.args.text.now c.loop-one.rest.now c.loop-one.vdevs c.loop-one.invariant c.add-2.new.vdevs (c.in_default.ensures.none) (c.if-add.ensures.added) rows read)

pub returns-else-add-clause-only : goal.returns-else-add-clause-only
returns-else-add-clause-only c = λ rows read.
    absurd (refused_last c.args.text.now c.loop-one.rest.now c.loop-one.vdevs c.loop-one.invariant (c.in_default.ensures.none) (c.if-add.ensures.refused) rows read)
