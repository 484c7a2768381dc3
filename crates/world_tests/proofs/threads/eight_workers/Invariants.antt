use Rattle.world_tests.proofs.threads.eight_workers.Given as goal

abbrev pub ghosts-eight : goal.ghosts-eight
ghosts-eight g a = record { name = a.blank.name; parts = a.blank.parts }
