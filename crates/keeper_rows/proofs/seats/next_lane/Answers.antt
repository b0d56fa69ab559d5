use Rattle.std.proofs.Common.{◌∙◌}
use Rattle.keeper_rows.proofs.Seating.{serves_fresh}
use Rattle.keeper_rows.proofs.seats.next_lane.Goals as goal

pub new-lane-requires-clause-serves : goal.new-lane-requires-clause-serves
new-lane-requires-clause-serves c =
    serves_fresh c.args.shared.now.cells c.args.turn.now c.args.lane c.in_ok-seats.passes.lane c.args.rest.now c.next_pass-pass.result c.new-keeper.result c.requires.keeper c.next_pass-pass.ensures.fresh
    c.next_pass-pass.ensures.fixed.1 c.new-keeper.ensures.turn c.new-keeper.ensures.pass c.new-keeper.ensures.lane c.in_ok-seats.ensures.lane

pub returns-clause-keeper : goal.returns-clause-keeper
returns-clause-keeper c = record { rest = c.next_pass-pass.ensures.rest; start = c.requires.keeper.start; is = c.next_pass-pass.ensures.fixed.0 ∙ c.requires.keeper.is; of = c.requires.keeper.of }
