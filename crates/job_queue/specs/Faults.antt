-- The numbers of a pool's faults.
use Rattle.std.specs.Prelude.{ℕ}
use Rattle.job_queue.specs.declared.fault.PoolFault.{PoolFault}
use Rattle.job_queue.specs.declared.fault.PoolFault.TheVariants.{BadWorkers, TooManyJobs, Memory}
use Rattle.job_queue.specs.declared.fault.PoolFault.TheVariants.{Lost}

abbrev pub pool_fault_number : PoolFault → ℕ
pool_fault_number BadWorkers = 90
pool_fault_number TooManyJobs = 91
pool_fault_number Memory = 13
pool_fault_number Lost = 92
