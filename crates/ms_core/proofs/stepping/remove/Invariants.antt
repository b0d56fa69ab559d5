use Rattle.ms_core.proofs.stepping.remove.Given as goal

abbrev pub ghosts-remove_counted : goal.ghosts-remove_counted
ghosts-remove_counted g a = record { name = a.blank.name; parts = a.blank.parts }
