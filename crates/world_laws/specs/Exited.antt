-- What is asked of a run that has ended.
use Rattle.std.specs.Prelude.{◌≡◌, ℕ, List, Some, slice_get}
use Rattle.bpf_model.specs.declared.insn.Insn.{Insn}
use Rattle.bpf_model.specs.declared.limits.MapShape.{MapShape}
use Rattle.bpf_model.specs.Machine.{Loaded}
use Rattle.bpf_model.specs.View.{RunView, WorldView, shapes_of}
use Rattle.world_laws.specs.Binding.{IsBoundTo}

-- The run in this run slot has ended with this value, and was started with this program on this
-- context. A program is asked for by its instructions, the shapes of its maps, and the length of
-- its contexts.
pub record HasExited (w : WorldView) (r : ℕ) (code : List Insn) (shapes : List MapShape)
    (context_len : ℕ) (context : List ℕ) (n : ℕ) : Type 0 where
  pub run : RunView
  pub there : slice_get w.runs r ≡ Some (Some run)
  pub program : Loaded
  pub loaded : slice_get w.programs run.program ≡ Some program
  pub code_is : program.code ≡ code
  pub bound : IsBoundTo (shapes_of w) shapes program.maps
  pub context_len_is : program.context_len ≡ context_len
  pub context_is : run.context ≡ context
  pub ended : run.exit ≡ Some n
