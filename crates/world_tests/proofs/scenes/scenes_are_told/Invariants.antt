use Rattle.world_tests.proofs.scenes.scenes_are_told.Given as goal

abbrev pub ghosts-play : goal.ghosts-play
ghosts-play g a = record { name = a.blank.name; parts = a.blank.parts }
