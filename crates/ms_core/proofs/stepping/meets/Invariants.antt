use Rattle.ms_core.proofs.stepping.meets.Given as goal

abbrev pub ghosts-meets_counted : goal.ghosts-meets_counted
ghosts-meets_counted g a = record { name = a.blank.name; parts = a.blank.parts }
