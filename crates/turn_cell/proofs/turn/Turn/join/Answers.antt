use Rattle.std.proofs.Common.{rules, ap, sym, ◌∙◌}
use Rattle.turn_cell.proofs.Keeps.{joins, sees}
use Rattle.turn_cell.proofs.Passes.{holds_none}
use Rattle.turn_cell.proofs.turn.Turn.join.Goals as goal

pub join_seat-requires : goal.join_seat-requires
join_seat-requires g c = (
  ap (λ k. k.turn) c.first.view_is ∙ (c.requires.first.0 ∙ sym c.self.view_is),
  ap (λ k. k.turn) c.second.view_is ∙ (c.requires.second.0 ∙ sym c.self.view_is),
  holds_none _ _ (ap (λ k. k.out) c.second.view_is ∙ c.requires.second.1) c.second.invariant.carries,
  search rules,
  joins _ _ _ _ _ _ _ _ c.first.invariant.live c.second.invariant.live,
)

pub load-requires : goal.load-requires
load-requires g c = (
  c.join_seat.ensures.0 ∙ (ap (λ k. k.turn) c.first.view_is ∙ (c.requires.first.0 ∙ sym c.self.view_is)),
  search rules,
  sees _ _ _ _ _ _ _ (rw c.join_seat.ensures.2 c.first.invariant.live),
)
