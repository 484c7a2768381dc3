-- What is so of a shared run's words at each step.
use Rattle.std.specs.Prelude.{◌≡◌, ℕ, ◌+◌, ◌<◌, ◌≤◌, Some, ◌==◌, List, Bool, true, if◌then◌else◌}
use Rattle.bpf_model.specs.declared.insn.Insn.{Insn}
use Rattle.bpf_model.specs.Machine.{Run, fresh_run, section_of}
use Rattle.bpf_model.specs.Step.{insn_at}
use Rattle.bpf_model.specs.View.{RunView}
use Rattle.plan_laws.specs.Describes.{scene_of}
use Rattle.plan_laws.specs.Verified.{IsClosed, IsPlanned, Plan}
use Rattle.world_laws.specs.Around.{regions, store_of}
use Rattle.world_laws.specs.Described.{IsShownBy}
use Rattle.verifier.specs.Checked.{Checked}
use Rattle.verifier.specs.Verdict.{IsJustified}
use Rattle.machine.specs.RunWords.{IsAt, RunWords}
use Rattle.shared_runs.specs.Tables.{Table}
use Rattle.shared_runs.specs.Learnt.{learnt_elements}
use Rattle.shared_runs.specs.SharedRuns.{Comes, IsSharedRun}
use Rattle.shared_runs.specs.Words.{FitsTable, StoresSubWords, loaded_of}

-- 1 inside a section, and 0 outside
abbrev pub flag_of : ℕ → ℕ
flag_of depth = if depth == 0 then 0 else 1

-- The words stand for a run of the program on the context that has come so far over the table; each plan describes it,
-- and one among those elements alone that its seat holds.
pub record IsSharing (k : Table) (c : Checked) (context : List ℕ) (ms : List k.Move)
    (v : RunView) : Type 0 where
  pub justified : IsJustified c
  pub fits : FitsTable k c.shapes
  pub few : k.elements ≤ regions
  pub words : StoresSubWords c → ⊥
  pub run : Run
  pub program : run.program ≡ loaded_of c
  pub shown : (plan : Plan) → IsClosed c.program c.shapes c.ctx_len plan →
      IsShownBy c.program c.shapes c.ctx_len plan c.shapes run v
  pub learnt : ℕ → Bool
  pub known : (element : ℕ) → learnt element ≡ true → (element < k.elements) × k.Holds element ms
  pub index : ℕ
  pub planned : IsPlanned c.program justified.plan index
      (scene_of (store_of c.shapes (learnt_elements c.shapes (section_of run) learnt)) run)
      run.state
  pub came : Comes k c.shapes (fresh_run 0 (loaded_of c) context) ms v.moved run
  pub section : k.inside ms ≡ flag_of v.depth

-- So do the second words, after these moves of the seat, with one move of the run more.
pub record GoesFurther (k : Table) (c : Checked) (context : List ℕ) (ms : List k.Move)
    (v next : RunView) : Type 0 where
  pub sharing : IsSharing k c context ms next
  pub counts : next.moved ≡ v.moved + 1

-- The run has exited, outside every section: its words have these moves, and stand where its exit is.
pub record ExitsShared (k : Table) (c : Checked) (context : List ℕ) (ms : List k.Move)
    (after : RunView) (n : ℕ) : Type 0 where
  pub exit : IsSharedRun k c.shapes (loaded_of c) context ms (after.moved + 1) n
  pub outside : k.inside ms ≡ 0
  pub insn : Insn
  pub here : insn_at c.program after.place ≡ Some insn

-- A run stands here that has come so far over the table.
pub record HasCome (k : Table) (c : Checked) (context : List ℕ) (ms : List k.Move) (r : RunWords)
    : Type 0 where
  pub at : IsAt c.program r
  pub sharing : IsSharing k c context ms r.view
