use Rattle.ms_core.proofs.stepping.first_from.Given as goal

abbrev pub ghosts-first_counted : goal.ghosts-first_counted
ghosts-first_counted g a = record { name = a.blank.name; parts = a.blank.parts }
