use Rattle.std.proofs.Common.{rules, ap, sym, ◌∙◌}
use Rattle.turn_cell.proofs.Keeps.{learns}
use Rattle.turn_cell.proofs.turn.Turn.learn.Goals as goal

pub load-requires : goal.load-requires
load-requires g c = (ap (λ k. k.turn) c.pass.view_is ∙ (c.requires.turn ∙ sym c.self.view_is), search rules, learns _ _ _ _ _ _ _ c.pass.invariant.live)
