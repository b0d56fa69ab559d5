use Rattle.std.proofs.Common.{[], ◌∷◌}
use Rattle.turn_cell.proofs.turn.Turn.count.Given as goal

abbrev pub ghosts-add : goal.ghosts-add
ghosts-add g a = record { notes = a.note ∷ [] }
