use Rattle.std.proofs.Common.{rules, ap, sym, ◌∙◌, Some, ◌∷◌}
use Rattle.turn_cell.proofs.Keeps.{releases_as}
use Rattle.turn_cell.proofs.Passes.{holding, holds_slot}
use Rattle.atomic_table.specs.Table.{rest}
use Rattle.turn_cell.proofs.turn.Turn.put_home.Goals as goal

pub swap-requires : goal.swap-requires
swap-requires g c = let me = c.pass.inside.seat.me in let out = ap (λ k. k.out) c.pass.view_is ∙ c.requires.out in (
  c.exchange-empty.ensures.0 ∙ (ap (λ k. k.turn) c.pass.view_is ∙ (c.requires.turn ∙ sym c.self.view_is)),
  search rules,
  releases_as _ _ _ _ _ _ _ me.0 c.args.value (c.exchange-empty.ensures.3 ∙ ap (λ l. (me.0, (0, Some c.args.value) ∷ rest l)) (holds_slot me.0.stage me.1 out c.pass.invariant.carries))
      c.pass.invariant.live (holding _ out) (c.requires.journal ∙ sym (ap (λ k. k.seen) c.pass.view_is)) (search rules),
)
