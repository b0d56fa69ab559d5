use Rattle.std.proofs.Common.{rules, ap, sym, ◌∙◌}
use Rattle.turn_cell.proofs.Keeps.{sees}
use Rattle.turn_cell.proofs.turn.Turn.glance.Goals as goal

pub load-requires : goal.load-requires
load-requires g c = (ap (λ k. k.turn) c.pass.view_is ∙ (c.requires.turn ∙ sym c.self.view_is), search rules, sees _ _ _ _ _ _ _ c.pass.invariant.live)
