use Rattle.metaslab_rows.proofs.main.Given as goal

abbrev pub ghosts-call_forms : goal.ghosts-call_forms
ghosts-call_forms a = record { name = a.blank.name; parts = a.blank.parts }
