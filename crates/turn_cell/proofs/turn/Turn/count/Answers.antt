use Rattle.std.proofs.Common.{ap, ◌∙◌}
use Rattle.std.proofs.lemmas.List.{append-nil}
use Rattle.turn_cell.proofs.Notes.{with_notes-none}
use Rattle.turn_cell.proofs.turn.Turn.count.Goals as goal

pub returns-in-None : goal.returns-in-None
returns-in-None g c = let seen = c.glance.ensures.same c.requires.out in rw (c.in-None.is, append-nil, with_notes-none g.T.Kept.right c.args.pass.now.own) (c.glance.ensures.pass ∙ ap (λ s. record c.args.pass.now { seen = s }) seen)
