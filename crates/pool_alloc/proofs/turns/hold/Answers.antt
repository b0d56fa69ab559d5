use Rattle.lane_passes.proofs.Acting.{acted_as, at_gate_acted}
use Rattle.pool_alloc.proofs.turns.hold.Goals as goal

pub returns : goal.returns
returns g c =
    let t = c.args.cells.now in
    let p = c.args.passes.now in
    acted_as t _ _ p _ (λ es x. x) (at_gate_acted t c.requires.0 p c.requires.1 _ _ (c.hold_at.ensures p.lane c.requires.1.cells))
