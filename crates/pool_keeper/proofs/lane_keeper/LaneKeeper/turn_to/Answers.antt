use Rattle.std.proofs.Common.{◌≡◌, ◌++◌, refl, subst}
use Rattle.std.specs.Option.{option_to_list}
use Rattle.turn_cell.proofs.Lanes.{turned}
use Rattle.pool_keeper.specs.Lines.{SyncNoted}
use Rattle.pool_keeper.specs.Notes.{keeper_right}
use Rattle.pool_keeper.proofs.SyncActs.{serves_turn}
use Rattle.pool_keeper.proofs.lane_keeper.LaneKeeper.turn_to.Goals as goal

pub returns-clause-turn : goal.returns-clause-turn
returns-clause-turn g c =
    let k = c.args.self.now in
    let took = c.take-held in
    let did = c.sync_to-answer in
    let notes = subst (λ x. did.new.self.notes.items ≡ x.notes.items ++ option_to_list did.result.1) c.value_mut-keeper.ensures.value did.ensures.notes in
    record {
      before = took.result.notes.items;
      note = did.result.1;
      went = turned keeper_right c.args.lane k.turn.now k.pass took.new.pass c.give.new.pass took.result.notes.items did.new.self.notes.items took.new.pass.tries did.result.1 c.requires.serves.ready took.ensures.pass took.ensures.seen
          took.ensures.whole c.give.ensures.pass notes did.ensures.own;
      answer = subst (λ x. SyncNoted c.args.lane did.result.0 x.notes.items did.result.1) c.value_mut-keeper.ensures.value did.ensures.noted;
      turn = refl;
      lane_is = refl;
      count = refl;
      last = refl;
    }

pub returns-clause-serves : goal.returns-clause-serves
returns-clause-serves g c = serves_turn c.args.cells.now c.args.lane (SyncNoted c.args.lane c.sync_to-answer.result.0) c.args.self.now _ c.requires.serves (returns-clause-turn g c)
