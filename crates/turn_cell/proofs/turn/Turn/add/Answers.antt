use Rattle.std.proofs.Common.{rules, ap, sym, ◌∙◌}
use Rattle.turn_cell.proofs.Keeps.{notes_as}
use Rattle.turn_cell.proofs.Passes.{holding, pass_added}
use Rattle.turn_cell.proofs.turn.Turn.add.Goals as goal

pub fetch_add-requires : goal.fetch_add-requires
fetch_add-requires g c = (
  ap (λ k. k.turn) c.pass.view_is ∙ (c.requires.turn ∙ sym c.self.view_is),
  search rules,
  notes_as _ _ _ _ _ _ _ c.args.note _ c.requires.says c.pass.invariant.live (holding _ (ap (λ k. k.out) c.pass.view_is ∙ c.requires.out)) (search rules),
)

pub invariant_of-pass : goal.invariant_of-pass
invariant_of-pass g c = rw c.fetch_add.ensures.2 (pass_added g.T.Kept.right _ c.pass.invariant g.W.Says.notes)
