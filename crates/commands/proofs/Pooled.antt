-- What a pool gives of a file's program.
use Rattle.bpf_model.proofs.Prelude.{◌≡◌, ◌<◌, ◌≤◌, ℕ, List, refl, sym, subst, inl, inr}
use Rattle.bpf_model.proofs.Prelude.{arith, Option, Result, Ok, Err, MatchResult, OnOk, Appends, Appends-trans}
use Rattle.bpf_model.proofs.Prelude.{shapes_of_maps}
use Rattle.plan_laws.proofs.Prelude.{IsVerified}
use Rattle.verifier.proofs.Prelude.{HasGoodGraph}
use Rattle.bpf_model.specs.declared.insn.Insn.{Insn}
use Rattle.bpf_model.specs.declared.limits.MapShape.{MapShape}
use Rattle.job_queue.specs.declared.fault.PoolFault.{PoolFault}
use Rattle.job_queue.specs.declared.fault.PoolFault.TheVariants.{BadWorkers, TooManyJobs}
use Rattle.std.proofs.lemmas.Bool.Decides.{leb_tells}
use Rattle.worker_pool.specs.Lines.{job_lines}
use Rattle.worker_pool.specs.Outcomes.{AreOutcomesOn, IsFaultOf}
use Rattle.worker_pool.specs.Runs.{WritesJobs}
use Rattle.program_files.specs.declared.program_file.Source.{Source}
use Rattle.program_files.specs.Checks.{content_with, IsSourceOf, IsVerifiedFile}
use Rattle.bpf_model.specs.declared.event.EventRefusal.TheVariants.{BadContext}
use Rattle.command_words.specs.declared.request.ContextsFile.{ContextsFile}
use Rattle.commands.specs.declared.refusal.CommandRefusal.TheVariants.{Event, Pool}
use Rattle.commands.specs.Contexts.{AreContexts}
use Rattle.commands.specs.Pools.{entries_line, IsPoolRefusal, IsPoolSize, IsProgramOf, WritesPool}

abbrev pub file_of : (bytes : List ℕ) (s : Source) → IsSourceOf bytes s → HasGoodGraph s.program →
    IsVerified s.program (shapes_of_maps s.registry.maps) s.ctx_len → IsVerifiedFile bytes s.program
file_of bytes s is graph verified = record { content = content_with s; says = is.says; is = is.is; text_is = refl; graph = graph; verified = verified }

pub program_found : (bytes : List ℕ) (s : Source) (program : List Insn) (shapes : List MapShape) (context_len : ℕ) → IsSourceOf bytes s →
    HasGoodGraph s.program → IsVerified s.program (shapes_of_maps s.registry.maps) s.ctx_len → program ≡ s.program →
    shapes ≡ shapes_of_maps s.registry.maps → context_len ≡ s.ctx_len → IsProgramOf bytes program shapes context_len
program_found bytes s program shapes context_len is graph verified same_program same_maps same_len =
    let here : IsProgramOf bytes s.program shapes context_len =
    record { file = file_of bytes s is graph verified; maps = same_maps; context = same_len } in
    subst (λ (p : List Insn). IsProgramOf bytes p shapes context_len) (sym same_program) here

-- a pool that is not refused for its numbers
pub sized : {T E : Type 0} (r : Result T E) (x : T) (bad many : E) (workers count : ℕ) → r ≡ Ok x →
    (IsFaultOf workers count BadWorkers → r ≡ Err bad) →
    (0 < workers → workers ≤ 8 → IsFaultOf workers count TooManyJobs → r ≡ Err many) → IsPoolSize workers count
sized r x bad many workers count ok none more = (
  (λ wrong. let e = none wrong in cc),
  (λ over. elim (leb_tells 1 workers) [
    | inr short ↦ (let e = none (inl (omega (arith, short.1))) in cc)
    | inl some ↦ (elim (leb_tells workers 8) [
      | inr large ↦ (let e = none (inr (omega (arith, large.1))) in cc)
      | inl few ↦ (let e = more (omega (arith, some.1)) few.1 over in cc)
    ])
  ]),
)

-- the lines of the jobs, and that of the entries
pub pool_written : (named : Option ContextsFile) (given bytes : List ℕ) (program : List Insn) (shapes : List MapShape) (context_len workers count entries : ℕ)
    (contexts : List (List ℕ)) (old mid new : Option (List ℕ)) → IsPoolSize workers count → IsProgramOf bytes program shapes context_len →
    AreContexts named context_len given contexts → WritesJobs program shapes contexts count old mid → Appends mid new (entries_line entries) →
    WritesPool named given workers count old new bytes
pool_written named given bytes program shapes context_len workers count entries contexts old mid new size found are wrote last = (
  size,
  wrote.outcomes,
  entries,
  record {
    program = program;
    file = found.file;
    contexts = contexts;
    are = subst (λ (n : ℕ). AreContexts named n given contexts) found.context are;
    number = wrote.number;
    each = subst (λ (s : List MapShape). AreOutcomesOn program s contexts 0 wrote.outcomes) found.maps wrote.each;
  },
  Appends-trans old mid new (job_lines 0 wrote.outcomes) (entries_line entries) wrote.written last,
)

pub pool_told : (named : Option ContextsFile) (given : List ℕ) (workers count : ℕ) (bytes : List ℕ) (program : List Insn) (shapes : List MapShape)
    (context_len : ℕ) (f : PoolFault) → IsProgramOf bytes program shapes context_len → IsFaultOf workers count f →
    IsPoolRefusal named given workers count bytes (Pool f)
pool_told named given workers count bytes program shapes context_len f found fault =
    inr (inr (record { program = program; file = found.file; fault = f; is = fault; told = refl }))

-- the file of contexts says none of the program
pub contexts_told : (named : Option ContextsFile) (given : List ℕ) (workers count : ℕ) (bytes : List ℕ) (program : List Insn)
    (shapes : List MapShape) (context_len : ℕ) → IsProgramOf bytes program shapes context_len →
    ((contexts : List (List ℕ)) → AreContexts named context_len given contexts → ⊥) →
    IsPoolRefusal named given workers count bytes (Event BadContext)
contexts_told named given workers count bytes program shapes context_len found none =
    inr (inl (record {
      program = program;
      file = found.file;
      none = subst (λ (n : ℕ). (contexts : List (List ℕ)) → AreContexts named n given contexts → ⊥) found.context none;
      told = refl;
    }))

-- what has the status 3 is not so where the status is 1
pub not_so : (P : Type 0) (status : ℕ) → (P → status ≡ 3) → status ≡ 1 → P → ⊥
not_so P status three one p = omega (arith, three p, one)

-- what is so where the writing succeeds is so where the status is 0
pub so_written : {T E P : Type 0} (r : Result T E) (status : ℕ) → MatchResult r (λ _. status ≡ 0) (λ _. status ≡ 3) → status ≡ 0 → OnOk r P → P
so_written (Ok x) status told zero p = p
so_written (Err e) status told zero p = absurd (omega (arith, told, zero))
