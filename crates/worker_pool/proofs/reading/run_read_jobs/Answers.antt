use Rattle.worker_pool.proofs.reading.run_read_jobs.Goals as goal

pub returns-clause-each : goal.returns-clause-each
returns-clause-each g c = rw (← c.seats.view_is) c.run_table_jobs.ensures.each

pub returns-clause-shared_out : goal.returns-clause-shared_out
returns-clause-shared_out g c = rw (← c.seats.view_is) c.run_table_jobs.ensures.shared_out
