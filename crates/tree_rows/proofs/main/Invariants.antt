use Rattle.tree_rows.proofs.main.Given as goal

abbrev pub ghosts-call_trees : goal.ghosts-call_trees
ghosts-call_trees a = record { name = a.blank.name; parts = a.blank.parts }
