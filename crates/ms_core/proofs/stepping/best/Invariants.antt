use Rattle.ms_core.proofs.stepping.best.Given as goal

abbrev pub ghosts-best_counted : goal.ghosts-best_counted
ghosts-best_counted g a = record { name = a.blank.name; parts = a.blank.parts }
