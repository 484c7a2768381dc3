use Rattle.world_tests.proofs.pools.no_count_is_lost.Given as goal

abbrev pub ghosts-count_together : goal.ghosts-count_together
ghosts-count_together g a = record { name = a.blank.name; parts = a.blank.parts }
