use Rattle.flow_table.proofs.entries.place_of.Given as goal

abbrev pub ghosts-place_from : goal.ghosts-place_from
ghosts-place_from a = record { name = a.blank.name; parts = a.blank.parts }
