use Rattle.std.proofs.Common.{rules, ap, sym, ◌∙◌, Some, ◌∷◌}
use Rattle.atomic_table.specs.Table.{rest}
use Rattle.turn_cell.proofs.Keeps.{grabs}
use Rattle.turn_cell.proofs.turn.Turn.try_take.Goals as goal

pub compare_exchange-found-requires : goal.compare_exchange-found-requires
compare_exchange-found-requires g c =
    (ap (λ k. k.turn) c.pass.view_is ∙ (c.requires.turn ∙ sym c.self.view_is), search rules, grabs _ _ _ _ _ _ _ c.pass.invariant.live)

pub exchange-requires : goal.exchange-requires
exchange-requires g c = let taken = c.compare_exchange-found.ensures.2.0 c.if-not-taken.false in let slots = ap (λ m. m.1) taken.1.1.1.1 in (
  c.compare_exchange-found.ensures.0 ∙ (ap (λ k. k.turn) c.pass.view_is ∙ (c.requires.turn ∙ sym c.self.view_is)),
  (Some taken.0, slots ∙ ap (λ l. (0, Some taken.0) ∷ rest l) (sym slots)),
)
