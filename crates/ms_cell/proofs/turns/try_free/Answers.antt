use Rattle.std.proofs.Common.{◌≤◌, ◌+◌, sym, subst, arith}
use Rattle.turn_cell.specs.Notes.{IsPrefix, StandsFor}
use Rattle.ms_model.specs.Origin.{Origin}
use Rattle.ms_model.specs.Units.{settled_group}
use Rattle.ms_core.specs.State.{MsState, origin_of}
use Rattle.ms_cell.proofs.Turning.{Stands, origin_is, tried_one, free_not_busy}
use Rattle.ms_cell.proofs.Groups.{near_still}
use Rattle.ms_cell.proofs.turns.try_free.Goals as goal

pub prove-unreachable-requires : goal.prove-unreachable-requires
prove-unreachable-requires g c =
    let p = c.args.pass.now in
    let v = c.value.result.now in
    let begins = subst (λ (x : MsState). IsPrefix p.seen x.notes) (sym c.value.ensures) c.in-Some.ensures.seen in
    let stands = subst (λ (x : MsState). StandsFor Stands p.fixed x) (sym c.value.ensures) c.in-Some.ensures.stands in
    let near = subst (λ (o : Origin). c.args.group.0 ≤ settled_group o p.seen + 3) (sym (origin_is p.fixed v stands)) c.requires.near in
    omega (arith, near_still (origin_of v) p.seen v.notes c.args.group.0 begins c.settled.ensures.legal near, c.settled.ensures.group, c.if-prove.true, c.saturating_sub.ensures)

pub returns : goal.returns
returns g c =
    let act = c.free-answer in
    let told = c.in-Some.ensures in
    tried_one c.args.lane c.args.cell.now _ _ c.args.pass.now c.try_take.new.pass c.give.new.pass c.in-Some.held c.value_mut.result.now act.new.metaslab act.result.1
    (free_not_busy c.args.lane c.args.group c.args.seg _ _ _ _ act.ensures.answer) c.value_mut.ensures.value c.requires.ready told.some told.seen told.whole told.stands c.give.ensures.pass act.ensures.notes act.ensures.own act.ensures.answer
