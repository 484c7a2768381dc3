-- What `pool` writes, of which files, and how it refuses the others.
use Rattle.std.specs.Prelude.{◌≡◌, ◌≢◌, ◌⊎◌, ℕ, List, ◌++◌, length, codes}
use Rattle.std.specs.Prelude.{Option}
use Rattle.std.specs.Fmt.{decimal}
use Rattle.std.specs.Io.KnownBytes.{Appends}
use Rattle.bpf_model.specs.declared.event.EventRefusal.TheVariants.{BadContext}
use Rattle.bpf_model.specs.declared.insn.Insn.{Insn}
use Rattle.bpf_model.specs.declared.limits.MapShape.{MapShape}
use Rattle.bpf_model.specs.View.{shapes_of_maps}
use Rattle.job_queue.specs.declared.fault.PoolFault.{PoolFault}
use Rattle.job_queue.specs.declared.fault.PoolFault.TheVariants.{BadWorkers, Lost, TooManyJobs}
use Rattle.job_queue.specs.Faults.{pool_fault_number}
use Rattle.worker_pool.specs.declared.job.Outcome.{Outcome}
use Rattle.worker_pool.specs.Lines.{job_lines}
use Rattle.worker_pool.specs.Outcomes.{AreOutcomesOn, IsFaultOf}
use Rattle.commands.specs.declared.refusal.CommandRefusal.{CommandRefusal}
use Rattle.commands.specs.declared.refusal.CommandRefusal.TheVariants.{Event, Pool}
use Rattle.commands.specs.Contexts.{AreContexts}
use Rattle.commands.specs.Refusals.{IsFileRefusal, command_number}
use Rattle.command_words.specs.declared.request.ContextsFile.{ContextsFile}
use Rattle.program_files.specs.Verdicts.{memory_number}
use Rattle.program_files.specs.Checks.{IsVerifiedFile}

-- how many entries the journal has
abbrev pub entries_line : ℕ → List ℕ
entries_line entries = codes "entries " ++ (decimal entries ++ codes "\n")

-- a line for each job, and how many entries the journal has
abbrev pub pool_text : List Outcome → ℕ → List ℕ
pool_text outcomes entries = job_lines 0 outcomes ++ entries_line entries

-- The file says this program, which is verified with its maps, of these shapes, and its context, of
-- this length.
pub record IsProgramOf (bytes : List ℕ) (program : List Insn) (shapes : List MapShape)
    (context_len : ℕ) : Type 0 where
  pub file : IsVerifiedFile bytes program
  pub maps : shapes ≡ shapes_of_maps file.content.registry.maps
  pub context : context_len ≡ file.content.ctx_len

-- The file says a program that is verified with its maps and context, and jobs take these contexts
-- in turn. There is one outcome for each of so many jobs, and those that have exited have exited as
-- the program may on their contexts, over the file's maps; of the others nothing is known.
pub record ArePooled (named : Option ContextsFile) (given bytes : List ℕ) (count : ℕ)
    (outcomes : List Outcome) : Type 0 where
  pub program : List Insn
  pub file : IsVerifiedFile bytes program
  pub contexts : List (List ℕ)
  pub are : AreContexts named file.content.ctx_len given contexts
  pub number : length outcomes ≡ count
  pub each : AreOutcomesOn program (shapes_of_maps file.content.registry.maps) contexts 0 outcomes

-- A pool may have so many workers and jobs: it has no fault of these numbers.
abbrev pub IsPoolSize : ℕ → ℕ → Type 0
IsPoolSize workers count = (IsFaultOf workers count BadWorkers → ⊥) × (IsFaultOf workers count TooManyJobs → ⊥)

-- what `pool` adds to the output, where the file of contexts that is named has the given bytes
abbrev pub WritesPool : Option ContextsFile → List ℕ → ℕ → ℕ → Option (List ℕ) → Option (List ℕ) → List ℕ → Type 0
WritesPool named given workers count old new bytes =
    IsPoolSize workers count × (outcomes : List Outcome) × (entries : ℕ) × ArePooled named given bytes count outcomes
    × Appends old new (pool_text outcomes entries)

-- The file says a program that is verified with its maps and context, and the file of contexts says
-- none of that program.
pub record IsContextsRefusal (named : Option ContextsFile) (given bytes : List ℕ)
    (v : CommandRefusal) : Type 0 where
  pub program : List Insn
  pub file : IsVerifiedFile bytes program
  pub none : (contexts : List (List ℕ)) → AreContexts named file.content.ctx_len given contexts → ⊥
  pub told : v ≡ Event BadContext

-- The file says a program that is verified with its maps and context, and the pool of so many
-- workers and jobs has a fault.
pub record IsPoolVerdict (workers count : ℕ) (bytes : List ℕ) (v : CommandRefusal) : Type 0 where
  pub program : List Insn
  pub file : IsVerifiedFile bytes program
  pub fault : PoolFault
  pub is : IsFaultOf workers count fault
  pub told : v ≡ Pool fault

-- The refusal is what `check` says of the file, or else the contexts' or the pool's.
abbrev pub IsPoolRefusal : Option ContextsFile → List ℕ → ℕ → ℕ → List ℕ → CommandRefusal → Type 0
IsPoolRefusal named given workers count bytes v =
    IsFileRefusal bytes v ⊎ (IsContextsRefusal named given bytes v ⊎ IsPoolVerdict workers count bytes v)

-- `pool` refuses the file, its contexts or its numbers, for what is neither want of memory nor a lost
-- result.
abbrev pub IsRefusedByPool : Option ContextsFile → List ℕ → ℕ → ℕ → List ℕ → Type 0
IsRefusedByPool named given workers count bytes =
    (v : CommandRefusal) × (command_number v ≢ memory_number) × (command_number v ≢ pool_fault_number Lost)
    × IsPoolRefusal named given workers count bytes v
