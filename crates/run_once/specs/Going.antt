-- A program that can be started, and a run that goes on.
use Rattle.std.specs.Prelude.{◌≡◌, ℕ, ◌<◌, Some, None, length, slice_get}
use Rattle.bpf_model.specs.declared.insn.Insn.{Insn}
use Rattle.bpf_model.specs.Machine.{Loaded, Machine, Run, lowest_free, run_at}
use Rattle.bpf_model.specs.Step.{insn_at}

-- Run slot 0 is free. Program 0 is there, with so many instructions and a context of this length.
pub record IsReady (m : Machine) (count len : ℕ) : Type 0 where
  pub program : Loaded
  pub loaded : slice_get m.programs 0 ≡ Some program
  pub free : lowest_free m.runs ≡ Some 0
  pub of : length program.code ≡ count
  pub fits : program.context_len ≡ len

-- The run in run slot 0 is of a program of so many instructions, and has made so many moves. It has not exited, and an
-- instruction begins at its place.
pub record IsGoing (m : Machine) (count moved : ℕ) : Type 0 where
  pub run : Run
  pub there : run_at m.runs 0 ≡ Some run
  pub of : length run.program.code ≡ count
  pub has_moved : run.moved ≡ moved
  pub in_time : moved < count
  pub going : run.exit ≡ None
  pub insn : Insn
  pub here : insn_at run.program.code run.state.place ≡ Some insn
