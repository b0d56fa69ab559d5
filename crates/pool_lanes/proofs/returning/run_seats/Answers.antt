use Rattle.pool_lanes.proofs.Replying.{are_back, are_lists, are_replied}
use Rattle.pool_lanes.proofs.returning.run_seats.Goals as goal

pub join_lanes-requires-clause-back : goal.join_lanes-requires-clause-back
join_lanes-requires-clause-back g c κs within = are_back c.args.pool.now c.args.turn.now c.args.commands.now c.args.seats.items c.in_ok-rans.rans.items c.in_ok-rans.ensures.count c.in_ok-rans.ensures.each c.requires.can

pub merge-requires-clause-lists : goal.merge-requires-clause-lists
merge-requires-clause-lists g c =
    are_lists c.args.pool.now c.args.turn.now c.args.commands.now c.args.seats.items c.in_ok-rans.rans.items c.in_ok-rans.ensures.count c.in_ok-rans.ensures.each c.in_ok-lists.lists.items c.requires.numbered c.in_ok-lists.ensures.lists c.requires.commands

pub returns-clause-replied : goal.returns-clause-replied
returns-clause-replied g c =
    are_replied c.args.pool.now c.args.turn.now c.args.commands.now c.args.seats.items c.in_ok-rans.rans.items c.in_ok-rans.ensures.count c.in_ok-rans.ensures.each c.in_ok-lists.lists.items c.requires.numbered c.in_ok-lists.ensures.lists c.join_lanes.new.rest c.join_lanes.new.keeper c.merge.result.items c.in_ok-lists.ensures.back c.merge.ensures
