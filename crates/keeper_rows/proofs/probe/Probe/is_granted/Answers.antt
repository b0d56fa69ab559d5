use Rattle.std.proofs.Common.{ap, arith}
use Rattle.ms_cell.specs.Turns.{Turns}
use Rattle.keeper_rows.proofs.Near.{fresh_near}
use Rattle.keeper_rows.proofs.probe.Probe.is_granted.Goals as goal

pub try_grant_at-look-requires-clause-near : goal.try_grant_at-look-requires-clause-near
try_grant_at-look-requires-clause-near c =
    fresh_near c.self.inside.lane c.self.inside.cells.now c.self.inside.passes 0 _ _ c.id_at-id.ensures.number c.self.invariant.1 (omega (arith, c.count_of.ensures, c.if-count_of-eq0.false))
    (omega (arith, ap (λ (t : Turns). t.opened) c.cells.view_is))
