use Rattle.std.proofs.Common.{◌≡◌, ◌++◌, refl, subst}
use Rattle.std.specs.Option.{option_to_list}
use Rattle.turn_cell.proofs.Lanes.{turned}
use Rattle.pool_keeper.specs.Lines.{LoadNoted}
use Rattle.pool_keeper.specs.Notes.{keeper_right}
use Rattle.pool_keeper.proofs.Following.{follows_load}
use Rattle.pool_keeper.proofs.lane_keeper.LaneKeeperLoader.load.Goals as goal

pub returns-clause-follows : goal.returns-clause-follows
returns-clause-follows g c =
    let k = c.args.self.now in
    let took = c.take-held in
    let did = c.load_for-answer in
    let notes = subst (λ x. did.new.self.notes.items ≡ x.notes.items ++ option_to_list did.result.1) c.value_mut-keeper.ensures.value did.ensures.notes in
    let noted = subst (λ x. LoadNoted c.args.lane did.result.0 x.notes.items did.result.1) c.value_mut-keeper.ensures.value did.ensures.noted in
    follows_load k (record k { pass = c.give.new.pass; refusals = c.counted-refusals.result.0; last = c.counted-refusals.result.1 }) c.args.lane did.result.0 took.result.notes.items did.result.1 refl refl c.requires.serves.lane_is
    (turned keeper_right c.args.lane k.turn.now k.pass took.new.pass c.give.new.pass took.result.notes.items did.new.self.notes.items took.new.pass.tries did.result.1 c.requires.serves.ready took.ensures.pass took.ensures.seen took.ensures.whole
    c.give.ensures.pass notes did.ensures.own) noted c.counted-refusals.ensures
