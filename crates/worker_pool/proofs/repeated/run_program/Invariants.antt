use Rattle.worker_pool.proofs.repeated.run_program.Given as goal

abbrev pub ghosts-run_shared : goal.ghosts-run_shared
ghosts-run_shared g a = record { name = a.blank.name; parts = a.blank.parts }
