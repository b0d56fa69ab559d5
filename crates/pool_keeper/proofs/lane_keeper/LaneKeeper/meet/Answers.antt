use Rattle.std.proofs.Common.{◌≡◌, None, [], ◌++◌, refl, sym, ◌∙◌, subst}
use Rattle.std.proofs.lemmas.List.{append-nil}
use Rattle.turn_cell.proofs.Lanes.{turned}
use Rattle.pool_keeper.specs.Notes.{keeper_right}
use Rattle.pool_keeper.specs.SyncParts.{MeetNoted}
use Rattle.pool_keeper.proofs.SyncActs.{serves_turn}
use Rattle.pool_keeper.proofs.lane_keeper.LaneKeeper.meet.Goals as goal

pub returns-clause-turn : goal.returns-clause-turn
returns-clause-turn g c =
    let k = c.args.self.now in
    let took = c.take-held in
    let did = c.greet-first in
    let notes : did.new.self.notes.items ≡ took.result.notes.items ++ [] = subst (λ x. did.new.self.notes.items ≡ x.notes.items) c.value_mut.ensures.value did.ensures.notes ∙ sym (append-nil took.result.notes.items) in
    record {
      before = took.result.notes.items;
      note = None;
      went = turned keeper_right c.args.lane k.turn.now k.pass took.new.pass c.give.new.pass took.result.notes.items did.new.self.notes.items took.new.pass.tries None c.requires.serves.ready took.ensures.pass took.ensures.seen
          took.ensures.whole c.give.ensures.pass notes tt;
      answer = subst (λ x. MeetNoted c.args.lane did.result x.notes.items None) c.value_mut.ensures.value did.ensures.noted;
      turn = refl;
      lane_is = refl;
      count = refl;
      last = refl;
    }

pub returns-clause-serves : goal.returns-clause-serves
returns-clause-serves g c = serves_turn c.args.cells.now c.args.lane (MeetNoted c.args.lane c.greet-first.result) c.args.self.now _ c.requires.serves (returns-clause-turn g c)
