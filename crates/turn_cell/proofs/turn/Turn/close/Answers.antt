use Rattle.std.proofs.Common.{rules, ap, sym, ◌∙◌, subst}
use Rattle.turn_cell.specs.Notes.{IsPrefix, Owns, StandsFor}
use Rattle.turn_cell.proofs.Keeps.{closes, ended, ended_some, closed_gives}
use Rattle.turn_cell.proofs.turn.Turn.close.Goals as goal

pub compare_exchange-found-requires : goal.compare_exchange-found-requires
compare_exchange-found-requires g c =
    (ap (λ k. k.turn) c.pass.view_is ∙ (c.requires.turn ∙ sym c.self.view_is), search rules, closes _ _ _ _ _ _ _ c.pass.invariant.live)

pub unwrap-value-requires : goal.unwrap-value-requires
unwrap-value-requires g c =
    let shut = ap (λ m. m.0) (c.compare_exchange-found.ensures.2.0 c.if-not-shut.false) in
    ended_some g.T.Kept.journal g.T.Kept.right g.T.Kept.stands (g.T.Kept.fixed c.self.inside.table.shared.key.value) _ _
    (ended _ _ _ _ _ c.pass.inside.seat.me.0 _ _ _ _ shut c.pass.invariant.live c.close_with-closed.ensures.values.2 c.take.ensures.value)

pub returns-clause-seen : goal.returns-clause-seen
returns-clause-seen g c =
    let shut = ap (λ m. m.0) (c.compare_exchange-found.ensures.2.0 c.if-not-shut.false) in
    let e = closed_gives g.T.Kept.journal g.T.Kept.right g.T.Kept.stands (g.T.Kept.fixed c.self.inside.table.shared.key.value)
    _ c.pass.inside.seat.me.0 _ _ _ _ _ shut c.pass.invariant.live c.close_with-closed.ensures.values.2 c.take.ensures.value c.unwrap-value.ensures in
    subst (λ k. IsPrefix k.seen (g.T.Kept.journal c.unwrap-value.result) × Owns g.T.Kept.right k.own (g.T.Kept.journal c.unwrap-value.result)) c.pass.view_is (e.0, e.1.0)

pub returns-clause-stands : goal.returns-clause-stands
returns-clause-stands g c =
    let shut = ap (λ m. m.0) (c.compare_exchange-found.ensures.2.0 c.if-not-shut.false) in
    let e = closed_gives g.T.Kept.journal g.T.Kept.right g.T.Kept.stands (g.T.Kept.fixed c.self.inside.table.shared.key.value)
    _ c.pass.inside.seat.me.0 _ _ _ _ _ shut c.pass.invariant.live c.close_with-closed.ensures.values.2 c.take.ensures.value c.unwrap-value.ensures in
    subst (λ k. StandsFor g.T.Kept.stands k.fixed c.unwrap-value.result) c.pass.view_is e.1.1.0

pub returns-clause-rights : goal.returns-clause-rights
returns-clause-rights g c =
    let shut = ap (λ m. m.0) (c.compare_exchange-found.ensures.2.0 c.if-not-shut.false) in
    let e = closed_gives g.T.Kept.journal g.T.Kept.right g.T.Kept.stands (g.T.Kept.fixed c.self.inside.table.shared.key.value)
    _ c.pass.inside.seat.me.0 _ _ _ _ _ shut c.pass.invariant.live c.close_with-closed.ensures.values.2 c.take.ensures.value c.unwrap-value.ensures in
    e.1.1.1
