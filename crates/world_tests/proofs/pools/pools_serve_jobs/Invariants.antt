use Rattle.world_tests.proofs.pools.pools_serve_jobs.Given as goal

abbrev pub ghosts-run_pool : goal.ghosts-run_pool
ghosts-run_pool g a = record { name = a.blank.name; parts = a.blank.parts }
