use Rattle.std.proofs.Common.{rules, ap, sym, ◌∙◌}
use Rattle.turn_cell.proofs.Keeps.{splits}
use Rattle.turn_cell.proofs.Passes.{pass_left, pass_part}
use Rattle.turn_cell.proofs.turn.Turn.cut.Goals as goal

pub split_seat-seat-requires : goal.split_seat-seat-requires
split_seat-seat-requires g c = (ap (λ k. k.turn) c.pass.view_is ∙ (c.requires.turn ∙ sym c.self.view_is), search rules, splits _ _ _ _ _ _ _ c.pass.invariant.live)

pub invariant_of-pass : goal.invariant_of-pass
invariant_of-pass g c = rw c.split_seat-seat.ensures.2 (pass_left g.T.Kept.right _ c.pass.invariant g.W.Parts.rights)

pub invariant_of-result : goal.invariant_of-result
invariant_of-result g c = rw c.split_seat-seat.ensures.4 (pass_part g.T.Kept.right _ c.pass.invariant g.W.Parts.rights)
