use Rattle.ms_core.proofs.stepping.add.Given as goal

abbrev pub ghosts-add_counted : goal.ghosts-add_counted
ghosts-add_counted g a = record { name = a.blank.name; parts = a.blank.parts }
