use Rattle.turn_passes.proofs.Parts.{rest_has, rest_left, rest_part}
use Rattle.turn_passes.proofs.single.next_pass.Goals as goal

pub split-requires-clause-right : goal.split-requires-clause-right
split-requires-clause-right g c κs within = rest_has c.args.right c.args.turn.now c.args.rest.now c.requires.low c.requires.rest

pub returns-clause-rest : goal.returns-clause-rest
returns-clause-rest g c = rest_left c.args.right c.args.turn.now c.args.rest.now _ c.requires.low c.requires.rest c.split.ensures.kept

pub returns-clause-fresh : goal.returns-clause-fresh
returns-clause-fresh g c = rest_part c.args.right c.args.turn.now c.args.rest.now _ c.requires.low c.requires.rest c.split.ensures.given
