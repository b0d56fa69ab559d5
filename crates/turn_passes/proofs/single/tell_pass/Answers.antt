use Rattle.turn_passes.proofs.Parts.{left_is, told_is, told_went}
use Rattle.turn_passes.proofs.single.tell_pass.Goals as goal

pub returns-clause-from : goal.returns-clause-from
returns-clause-from g c = left_is c.args.from.now c.split-part.new.pass c.split-part.ensures.kept

pub returns-clause-went : goal.returns-clause-went
returns-clause-went g c = λ right ready.
    told_went g.T.Kept.right right c.args.turn.now c.args.to.now c.join.new.first ready
    (told_is c.args.from.now c.split-part.result c.join.new.first c.split-part.ensures.given c.args.to.now c.join.ensures.first)
    c.join.ensures.seen.0 c.join.ensures.whole
