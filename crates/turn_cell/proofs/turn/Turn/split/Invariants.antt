use Rattle.std.specs.Option.{option_to_list}
use Rattle.turn_cell.proofs.turn.Turn.split.Given as goal

abbrev pub ghosts-cut : goal.ghosts-cut
ghosts-cut g a = record { rights = option_to_list a.right }
