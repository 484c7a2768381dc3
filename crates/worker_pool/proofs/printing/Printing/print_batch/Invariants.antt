use Rattle.worker_pool.proofs.printing.Printing.print_batch.Given as goal

abbrev pub ghosts-print_apart : goal.ghosts-print_apart
ghosts-print_apart g a = record { name = a.blank.name; parts = a.blank.parts }
